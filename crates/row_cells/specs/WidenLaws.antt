-- A widened row fits the wider schema.
use Rattle.std.specs.Prelude.{◌≡◌, ℕ, ◌⊎◌, Bool, true, false, List, [], ◌∷◌, if◌then◌else◌}
use Rattle.std.specs.Str.{bytes_eq}
use Rattle.std.proofs.Common.{refl, ap, ◌∙◌, sym, subst, inl, inr}
use Rattle.std.proofs.lemmas.Slice.Eq.{bytes_eq-Decides}
use Rattle.row_cells.specs.declared.schemas.FieldType.{FieldType}
use Rattle.row_cells.specs.declared.schemas.Role.{Role}
use Rattle.row_cells.specs.declared.schemas.Role.TheVariants.{Time, Dimension as DimensionRole, Gauge as GaugeRole, Counter, Label}
use Rattle.row_cells.specs.declared.schemas.Field.{Field}
use Rattle.row_cells.specs.declared.schemas.Schema.{Schema}
use Rattle.row_cells.specs.declared.rows.Cell.{Cell}
use Rattle.row_cells.specs.declared.rows.Cell.TheVariants.{Absent}
use Rattle.row_cells.specs.declared.rows.Row.{Row}
use Rattle.row_cells.specs.Dimensions.{Dimension, IsBefore, key_bytes}
use Rattle.row_cells.specs.Fitting.{CellFits, CellsFit, with_dimension, dimensions_of, Fits, FieldsAscendAfter, FieldsAscend}
use Rattle.row_cells.specs.Joining.{AllIn}
use Rattle.row_cells.specs.JoinLaws.{before_chain, not_before_itself, ascend_lower, in_after}
use Rattle.row_cells.specs.Widening.{cell_at, widen_cells, widen_of_row, in_form_of, take_if, walk_cells}

pub same_bytes : (p q : List ℕ) → p ≡ q → bytes_eq p q ≡ true
same_bytes p q same = (bytes_eq-Decides p q).1 same

pub other_bytes : (p q : List ℕ) → (p ≡ q → ⊥) → bytes_eq p q ≡ false
other_bytes p q other = by_test (bytes_eq p q) refl
  where
    by_test : (b : Bool) → bytes_eq p q ≡ b → b ≡ false
    by_test true is = absurd (other ((bytes_eq-Decides p q).0 is))
    by_test false is = refl

pub apart : (p q : List ℕ) → IsBefore p q → p ≡ q → ⊥
apart p q before same = not_before_itself q (subst (λ r. IsBefore r q) same before)

-- fs are some of ts, in their order
abbrev pub IsPartOf : List Field → List Field → Type 0
IsPartOf [] ts = Unit {0}
IsPartOf (f ∷ fs) [] = ⊥
IsPartOf (f ∷ fs) (t ∷ ts) = ((f ≡ t) × IsPartOf fs ts) ⊎ IsPartOf (f ∷ fs) ts

pub part_of : (p : List ℕ) (fs ts : List Field) → FieldsAscendAfter p fs → FieldsAscendAfter p ts → AllIn fs ts → IsPartOf fs ts
part_of p [] ts ascend_f ascend_t all = tt
part_of p (f ∷ fs) [] ascend_f ascend_t all = all f (inl refl)
part_of p (f ∷ fs) (t ∷ ts) ascend_f ascend_t all =
    elim (all f (inl refl)) [
      | inl same ↦ inl (
        same,
        part_of t.path fs ts (subst (λ q. FieldsAscendAfter q fs) (ap (λ x. x.path) same) ascend_f.1) ascend_t.1 (λ g in_g. elim (all g (inr in_g)) [
          | inl here ↦ absurd (apart f.path g.path (in_after f.path g fs ascend_f.1 in_g) (ap (λ x. x.path) (same ∙ sym here)))
          | inr there ↦ there
        ]),
      )
      | inr later ↦
          (let before : IsBefore t.path f.path = in_after t.path f ts ascend_t.1 later in
          inr (part_of t.path (f ∷ fs) ts (before, ascend_f.1) ascend_t.1 (λ g in_g. elim (all g in_g) [
            | inl here ↦ absurd (apart t.path g.path (in_after t.path g (f ∷ fs) (before, ascend_f.1) in_g) (ap (λ x. x.path) (sym here)))
            | inr there ↦ there
          ])))
    ]

part_after : (p : List ℕ) (f : Field) (fs ts : List Field) → FieldsAscendAfter p ts → IsPartOf (f ∷ fs) ts → IsBefore p f.path
part_after p f fs [] ascend part = absurd part
part_after p f fs (t ∷ ts) ascend part =
    elim part [
      | inl here ↦ subst (λ x. IsBefore p x.path) (sym here.0) ascend.0
      | inr there ↦ before_chain p t.path f.path ascend.0 (part_after t.path f fs ts ascend.1 there)
    ]

pub part_ascends : (p : List ℕ) (fs ts : List Field) → FieldsAscendAfter p ts → IsPartOf fs ts → FieldsAscendAfter p fs
part_ascends p [] ts ascend part = tt
part_ascends p (f ∷ fs) [] ascend part = absurd part
part_ascends p (f ∷ fs) (t ∷ ts) ascend part =
    elim part [
      | inl here ↦ (subst (λ x. IsBefore p x.path) (sym here.0) ascend.0, subst (λ x. FieldsAscendAfter x.path fs) (sym here.0) (part_ascends t.path fs ts ascend.1 here.1))
      | inr there ↦ ascend_lower p t.path (f ∷ fs) ascend.0 (part_ascends t.path (f ∷ fs) ts ascend.1 there)
    ]

-- no field after a path has it
absent_at : (p : List ℕ) (fs : List Field) (cs : List Cell) → FieldsAscendAfter p fs → cell_at p fs cs ≡ Absent
absent_at p [] cs ascend = refl
absent_at p (f ∷ fs) [] ascend = refl
absent_at p (f ∷ fs) (c ∷ cs) ascend =
    ap (λ b. if b then c else cell_at p fs cs) (other_bytes p f.path (apart p f.path ascend.0)) ∙ absent_at p fs cs (ascend_lower p f.path fs ascend.0 ascend.1)

-- a field before all others of the wider schema has no part in them
widen_later : (f : Field) (c : Cell) (fs : List Field) (cs : List Cell) (ts : List Field) → FieldsAscendAfter f.path ts → widen_cells (f ∷ fs) (c ∷ cs) ts ≡ widen_cells fs cs ts
widen_later f c fs cs [] ascend = refl
widen_later f c fs cs (t ∷ ts) ascend =
    cons_eq (ap (λ b. if b then c else cell_at t.path fs cs) (other_bytes t.path f.path (λ same. apart f.path t.path ascend.0 (sym same)))) (widen_later f c fs cs ts (ascend_lower f.path t.path ts ascend.0 ascend.1))
  where
    cons_eq : {x y : Cell} {xs ys : List Cell} → x ≡ y → xs ≡ ys → x ∷ xs ≡ y ∷ ys
    cons_eq a b = cc

pub widen_here : (f : Field) (c : Cell) (fs : List Field) (cs : List Cell) (ts : List Field) → FieldsAscendAfter f.path ts → widen_cells (f ∷ fs) (c ∷ cs) (f ∷ ts) ≡ c ∷ widen_cells fs cs ts
widen_here f c fs cs ts ascend =
    ap (λ b. (if b then c else cell_at f.path fs cs) ∷ widen_cells (f ∷ fs) (c ∷ cs) ts) (same_bytes f.path f.path refl) ∙ ap (λ xs. c ∷ xs) (widen_later f c fs cs ts ascend)

pub widen_absent : (t : Field) (fs : List Field) (cs : List Cell) (ts : List Field) → FieldsAscendAfter t.path fs → widen_cells fs cs (t ∷ ts) ≡ Absent ∷ widen_cells fs cs ts
widen_absent t fs cs ts ascend = ap (λ x. x ∷ widen_cells fs cs ts) (absent_at t.path fs cs ascend)

pub absent_fits : (folded rises : Bool) (kind : FieldType) (role : Role) (n : ℕ) → CellFits folded rises kind role n Absent
absent_fits folded rises kind Time n = tt
absent_fits folded rises kind DimensionRole n = tt
absent_fits false rises kind GaugeRole n = tt
absent_fits true rises kind GaugeRole n = tt
absent_fits false rises kind Counter n = tt
absent_fits true false kind Counter n = tt
absent_fits true true kind Counter n = tt
absent_fits folded rises kind Label n = tt

pub absent_dimension : (role : Role) (path : List ℕ) (ds : List Dimension) → with_dimension role path Absent ds ≡ ds
absent_dimension Time path ds = refl
absent_dimension DimensionRole path ds = refl
absent_dimension GaugeRole path ds = refl
absent_dimension Counter path ds = refl
absent_dimension Label path ds = refl

widened_fit : (folded rises : Bool) (n : ℕ) (p : List ℕ) (fs : List Field) (cs : List Cell) (ts : List Field) → FieldsAscendAfter p ts → IsPartOf fs ts → CellsFit folded rises n fs cs → CellsFit folded rises n ts (widen_cells fs cs ts)
widened_fit folded rises n p [] [] [] ascend part fit = tt
widened_fit folded rises n p [] [] (t ∷ ts) ascend part fit = (absent_fits folded rises t.kind t.role n, widened_fit folded rises n t.path [] [] ts ascend.1 tt tt)
widened_fit folded rises n p [] (c ∷ cs) ts ascend part fit = absurd fit
widened_fit folded rises n p (f ∷ fs) [] ts ascend part fit = absurd fit
widened_fit folded rises n p (f ∷ fs) (c ∷ cs) [] ascend part fit = absurd part
widened_fit folded rises n p (f ∷ fs) (c ∷ cs) (t ∷ ts) ascend part fit =
    elim part [
      | inl here ↦
          (let after : FieldsAscendAfter f.path ts = subst (λ x. FieldsAscendAfter x.path ts) (sym here.0) ascend.1 in
          subst (λ x. CellsFit folded rises n (x ∷ ts) (widen_cells (f ∷ fs) (c ∷ cs) (x ∷ ts))) here.0
          (subst (λ xs. CellsFit folded rises n (f ∷ ts) xs) (sym (widen_here f c fs cs ts after)) (fit.0, widened_fit folded rises n f.path fs cs ts after here.1 fit.1)))
      | inr there ↦
          subst (λ xs. CellsFit folded rises n (t ∷ ts) xs) (sym (widen_absent t (f ∷ fs) (c ∷ cs) ts (part_ascends t.path (f ∷ fs) ts ascend.1 there)))
          (absent_fits folded rises t.kind t.role n, widened_fit folded rises n t.path (f ∷ fs) (c ∷ cs) ts ascend.1 there fit)
    ]

pub widened_dimensions : (folded rises : Bool) (n : ℕ) (p : List ℕ) (fs : List Field) (cs : List Cell) (ts : List Field) → FieldsAscendAfter p ts → IsPartOf fs ts → CellsFit folded rises n fs cs → dimensions_of ts (widen_cells fs cs ts) ≡ dimensions_of fs cs
widened_dimensions folded rises n p [] [] [] ascend part fit = refl
widened_dimensions folded rises n p [] [] (t ∷ ts) ascend part fit = absent_dimension t.role t.path (dimensions_of ts (widen_cells [] [] ts)) ∙ widened_dimensions folded rises n t.path [] [] ts ascend.1 tt tt
widened_dimensions folded rises n p [] (c ∷ cs) ts ascend part fit = absurd fit
widened_dimensions folded rises n p (f ∷ fs) [] ts ascend part fit = absurd fit
widened_dimensions folded rises n p (f ∷ fs) (c ∷ cs) [] ascend part fit = absurd part
widened_dimensions folded rises n p (f ∷ fs) (c ∷ cs) (t ∷ ts) ascend part fit =
    elim part [
      | inl here ↦
          (let after : FieldsAscendAfter f.path ts = subst (λ x. FieldsAscendAfter x.path ts) (sym here.0) ascend.1 in
          ap (λ x. dimensions_of (x ∷ ts) (widen_cells (f ∷ fs) (c ∷ cs) (x ∷ ts))) (sym here.0)
          ∙ (ap (dimensions_of (f ∷ ts)) (widen_here f c fs cs ts after) ∙ ap (with_dimension f.role f.path c) (widened_dimensions folded rises n f.path fs cs ts after here.1 fit.1)))
      | inr there ↦
          ap (dimensions_of (t ∷ ts)) (widen_absent t (f ∷ fs) (c ∷ cs) ts (part_ascends t.path (f ∷ fs) ts ascend.1 there))
          ∙ (absent_dimension t.role t.path (dimensions_of ts (widen_cells (f ∷ fs) (c ∷ cs) ts)) ∙ widened_dimensions folded rises n t.path (f ∷ fs) (c ∷ cs) ts ascend.1 there fit)
    ]

walk_taken : (f t : Field) (c : Cell) (fs : List Field) (cs : List Cell) (ts : List Field) → bytes_eq f.path t.path ≡ true → walk_cells (f ∷ fs) (c ∷ cs) (t ∷ ts) ≡ c ∷ walk_cells fs cs ts
walk_taken f t c fs cs ts is = ap (λ b. (take_if b f c fs cs).cell ∷ walk_cells (take_if b f c fs cs).fields (take_if b f c fs cs).cells ts) is

walk_passed : (f t : Field) (c : Cell) (fs : List Field) (cs : List Cell) (ts : List Field) → bytes_eq f.path t.path ≡ false → walk_cells (f ∷ fs) (c ∷ cs) (t ∷ ts) ≡ Absent ∷ walk_cells (f ∷ fs) (c ∷ cs) ts
walk_passed f t c fs cs ts is = ap (λ b. (take_if b f c fs cs).cell ∷ walk_cells (take_if b f c fs cs).fields (take_if b f c fs cs).cells ts) is

walk_is : (folded rises : Bool) (n : ℕ) (p : List ℕ) (fs : List Field) (cs : List Cell) (ts : List Field) → FieldsAscendAfter p ts → IsPartOf fs ts → CellsFit folded rises n fs cs → walk_cells fs cs ts ≡ widen_cells fs cs ts
walk_is folded rises n p fs cs [] ascend part fit = refl
walk_is folded rises n p [] [] (t ∷ ts) ascend part fit = ap (λ xs. Absent ∷ xs) (walk_is folded rises n t.path [] [] ts ascend.1 tt tt)
walk_is folded rises n p [] (c ∷ cs) (t ∷ ts) ascend part fit = absurd fit
walk_is folded rises n p (f ∷ fs) [] (t ∷ ts) ascend part fit = absurd fit
walk_is folded rises n p (f ∷ fs) (c ∷ cs) (t ∷ ts) ascend part fit =
    elim part [
      | inl here ↦
          (let after : FieldsAscendAfter f.path ts = subst (λ x. FieldsAscendAfter x.path ts) (sym here.0) ascend.1 in
          walk_taken f t c fs cs ts (same_bytes f.path t.path (ap (λ x. x.path) here.0))
          ∙ (ap (λ xs. c ∷ xs) (walk_is folded rises n f.path fs cs ts after here.1 fit.1)
          ∙ (sym (widen_here f c fs cs ts after) ∙ ap (λ x. widen_cells (f ∷ fs) (c ∷ cs) (x ∷ ts)) here.0)))
      | inr there ↦
          (let beyond : FieldsAscendAfter t.path (f ∷ fs) = part_ascends t.path (f ∷ fs) ts ascend.1 there in
          walk_passed f t c fs cs ts (other_bytes f.path t.path (λ same. apart t.path f.path beyond.0 (sym same)))
          ∙ (ap (λ xs. Absent ∷ xs) (walk_is folded rises n t.path (f ∷ fs) (c ∷ cs) ts ascend.1 there fit) ∙ sym (widen_absent t (f ∷ fs) (c ∷ cs) ts beyond)))
    ]

-- a walk over both lists of fields finds each cell
pub walk_cells_is : (narrow wide : Schema) (row : Row) → Fits narrow row → FieldsAscend narrow.fields → FieldsAscend wide.fields → AllIn narrow.fields wide.fields → walk_cells narrow.fields row.cells wide.fields ≡ widen_cells narrow.fields row.cells wide.fields
walk_cells_is narrow wide row fits narrow_ascends wide_ascends within =
    walk_is narrow.folded narrow.rises row.count [] narrow.fields row.cells wide.fields wide_ascends (part_of [] narrow.fields wide.fields narrow_ascends wide_ascends within) fits.cells_fit

-- the widened row fits
pub widen_of_row_fits : (narrow wide : Schema) (row : Row) → Fits narrow row → FieldsAscend narrow.fields → FieldsAscend wide.fields → AllIn narrow.fields wide.fields → Fits (in_form_of narrow wide) (widen_of_row row narrow wide)
widen_of_row_fits narrow wide row fits narrow_ascends wide_ascends within =
    let part = part_of [] narrow.fields wide.fields narrow_ascends wide_ascends within in
    record {
      cells_fit = widened_fit narrow.folded narrow.rises row.count [] narrow.fields row.cells wide.fields wide_ascends part fits.cells_fit;
      key_is = fits.key_is ∙ ap key_bytes (sym (widened_dimensions narrow.folded narrow.rises row.count [] narrow.fields row.cells wide.fields wide_ascends part fits.cells_fit));
      instant = fits.instant;
      counted = fits.counted;
      count_within = fits.count_within;
      alone = fits.alone;
    }
