-- Widening and folding rows in either order is the same.
use Rattle.std.specs.Prelude.{◌≡◌, ℕ, List, [], ◌∷◌, length, Bool, true, false}
use Rattle.std.proofs.Common.{refl, ap, ◌∙◌, sym, subst, arith, inl, inr}
use Rattle.row_cells.specs.declared.schemas.Role.{Role}
use Rattle.row_cells.specs.declared.schemas.Role.TheVariants.{Time, Dimension, Gauge as GaugeRole, Counter, Label}
use Rattle.row_cells.specs.declared.schemas.Field.{Field}
use Rattle.row_cells.specs.declared.schemas.Schema.{Schema}
use Rattle.row_cells.specs.declared.rows.Cell.{Cell}
use Rattle.row_cells.specs.declared.rows.Cell.TheVariants.{Absent}
use Rattle.row_cells.specs.declared.rows.Row.{Row}
use Rattle.row_cells.specs.Fitting.{Fits, FieldsAscend, FieldsAscendAfter, dimensions_of}
use Rattle.row_cells.specs.Joining.{AllIn}
use Rattle.row_cells.specs.Merging.{merge_cell, fold_cell, merge_cells, fold_cells, merge_of_rows, fold_of_row}
use Rattle.row_cells.specs.Widening.{widen_cells, widen_of_row, in_form_of}
use Rattle.row_cells.specs.WidenLaws.{IsPartOf, part_of, part_ascends, widen_here, widen_absent, widened_dimensions}

fold_absent : (rises : Bool) (role : Role) → fold_cell rises role Absent ≡ Absent
fold_absent rises Time = refl
fold_absent rises Dimension = refl
fold_absent rises GaugeRole = refl
fold_absent true Counter = refl
fold_absent false Counter = refl
fold_absent rises Label = refl

merge_absent : (rises : Bool) (role : Role) → merge_cell rises role Absent Absent ≡ Absent
merge_absent rises Time = refl
merge_absent rises Dimension = refl
merge_absent rises GaugeRole = refl
merge_absent true Counter = refl
merge_absent false Counter = refl
merge_absent rises Label = refl

cons_eq : {x y : Cell} {xs ys : List Cell} → x ≡ y → xs ≡ ys → x ∷ xs ≡ y ∷ ys
cons_eq p q = cc

widened_fold : (rises : Bool) (p : List ℕ) (fs : List Field) (cs : List Cell) (ts : List Field) → FieldsAscendAfter p ts → IsPartOf fs ts → length cs ≡ length fs →
    widen_cells fs (fold_cells rises fs cs) ts ≡ fold_cells rises ts (widen_cells fs cs ts)
widened_fold rises p [] cs [] ascend part long = refl
widened_fold rises p [] cs (t ∷ ts) ascend part long = cons_eq (sym (fold_absent rises t.role)) (widened_fold rises t.path [] cs ts ascend.1 tt long)
widened_fold rises p (f ∷ fs) [] ts ascend part long = absurd (omega (arith, long))
widened_fold rises p (f ∷ fs) (c ∷ cs) [] ascend part long = absurd part
widened_fold rises p (f ∷ fs) (c ∷ cs) (t ∷ ts) ascend part long =
    elim part [
      | inl here ↦
          (let after : FieldsAscendAfter f.path ts = subst (λ x. FieldsAscendAfter x.path ts) (sym here.0) ascend.1 in
          subst (λ x. widen_cells (f ∷ fs) (fold_cell rises f.role c ∷ fold_cells rises fs cs) (x ∷ ts) ≡ fold_cells rises (x ∷ ts) (widen_cells (f ∷ fs) (c ∷ cs) (x ∷ ts))) here.0
          (widen_here f (fold_cell rises f.role c) fs (fold_cells rises fs cs) ts after
          ∙ (ap (λ xs. fold_cell rises f.role c ∷ xs) (widened_fold rises f.path fs cs ts after here.1 (omega (arith, long)))
          ∙ sym (ap (fold_cells rises (f ∷ ts)) (widen_here f c fs cs ts after)))))
      | inr there ↦
          (let beyond = part_ascends t.path (f ∷ fs) ts ascend.1 there in
          widen_absent t (f ∷ fs) (fold_cell rises f.role c ∷ fold_cells rises fs cs) ts beyond
          ∙ (cons_eq (sym (fold_absent rises t.role)) (widened_fold rises t.path (f ∷ fs) (c ∷ cs) ts ascend.1 there long)
          ∙ sym (ap (fold_cells rises (t ∷ ts)) (widen_absent t (f ∷ fs) (c ∷ cs) ts beyond))))
    ]

widened_merge : (rises : Bool) (p : List ℕ) (fs : List Field) (xs ys : List Cell) (ts : List Field) → FieldsAscendAfter p ts → IsPartOf fs ts → length xs ≡ length fs → length ys ≡ length fs →
    widen_cells fs (merge_cells rises fs xs ys) ts ≡ merge_cells rises ts (widen_cells fs xs ts) (widen_cells fs ys ts)
widened_merge rises p [] xs ys [] ascend part long_x long_y = refl
widened_merge rises p [] xs ys (t ∷ ts) ascend part long_x long_y = cons_eq (sym (merge_absent rises t.role)) (widened_merge rises t.path [] xs ys ts ascend.1 tt long_x long_y)
widened_merge rises p (f ∷ fs) [] ys ts ascend part long_x long_y = absurd (omega (arith, long_x))
widened_merge rises p (f ∷ fs) (x ∷ xs) [] ts ascend part long_x long_y = absurd (omega (arith, long_y))
widened_merge rises p (f ∷ fs) (x ∷ xs) (y ∷ ys) [] ascend part long_x long_y = absurd part
widened_merge rises p (f ∷ fs) (x ∷ xs) (y ∷ ys) (t ∷ ts) ascend part long_x long_y =
    elim part [
      | inl here ↦
          (let after : FieldsAscendAfter f.path ts = subst (λ u. FieldsAscendAfter u.path ts) (sym here.0) ascend.1 in
          subst (λ u. widen_cells (f ∷ fs) (merge_cell rises f.role x y ∷ merge_cells rises fs xs ys) (u ∷ ts) ≡ merge_cells rises (u ∷ ts) (widen_cells (f ∷ fs) (x ∷ xs) (u ∷ ts)) (widen_cells (f ∷ fs) (y ∷ ys) (u ∷ ts))) here.0
          (widen_here f (merge_cell rises f.role x y) fs (merge_cells rises fs xs ys) ts after
          ∙ (ap (λ zs. merge_cell rises f.role x y ∷ zs) (widened_merge rises f.path fs xs ys ts after here.1 (omega (arith, long_x)) (omega (arith, long_y)))
          ∙ sym (both (widen_here f x fs xs ts after) (widen_here f y fs ys ts after)))))
      | inr there ↦
          (let beyond = part_ascends t.path (f ∷ fs) ts ascend.1 there in
          widen_absent t (f ∷ fs) (merge_cell rises f.role x y ∷ merge_cells rises fs xs ys) ts beyond
          ∙ (cons_eq (sym (merge_absent rises t.role)) (widened_merge rises t.path (f ∷ fs) (x ∷ xs) (y ∷ ys) ts ascend.1 there long_x long_y)
          ∙ sym (apart_both (widen_absent t (f ∷ fs) (x ∷ xs) ts beyond) (widen_absent t (f ∷ fs) (y ∷ ys) ts beyond))))
    ]
  where
    both : {us vs ws zs : List Cell} → us ≡ vs → ws ≡ zs → merge_cells rises (f ∷ ts) us ws ≡ merge_cells rises (f ∷ ts) vs zs
    both {us} {vs} {ws} {zs} p q = ap (λ l. merge_cells rises (f ∷ ts) l ws) p ∙ ap (merge_cells rises (f ∷ ts) vs) q

    apart_both : {us vs ws zs : List Cell} → us ≡ vs → ws ≡ zs → merge_cells rises (t ∷ ts) us ws ≡ merge_cells rises (t ∷ ts) vs zs
    apart_both {us} {vs} {ws} {zs} p q = ap (λ l. merge_cells rises (t ∷ ts) l ws) p ∙ ap (merge_cells rises (t ∷ ts) vs) q

-- the wider row of a row's fold is the fold of the wider row
pub widen-fold : (narrow wide : Schema) (row : Row) → length row.cells ≡ length narrow.fields → FieldsAscend narrow.fields → FieldsAscend wide.fields → AllIn narrow.fields wide.fields →
    widen_of_row (fold_of_row narrow row) narrow wide ≡ fold_of_row (in_form_of narrow wide) (widen_of_row row narrow wide)
widen-fold narrow wide row long narrow_ascends wide_ascends within =
    ap (λ cells. with_cells row cells) (widened_fold narrow.rises [] narrow.fields row.cells wide.fields wide_ascends (part_of [] narrow.fields wide.fields narrow_ascends wide_ascends within) long)
  where
    with_cells : Row → List Cell → Row
    with_cells r cells = record r { cells = cells }

-- and the wider row of a merge is the merge of the wider rows
pub widen-merge : (narrow wide : Schema) (a b : Row) → length a.cells ≡ length narrow.fields → length b.cells ≡ length narrow.fields → FieldsAscend narrow.fields → FieldsAscend wide.fields → AllIn narrow.fields wide.fields →
    widen_of_row (merge_of_rows narrow a b) narrow wide ≡ merge_of_rows (in_form_of narrow wide) (widen_of_row a narrow wide) (widen_of_row b narrow wide)
widen-merge narrow wide a b long_a long_b narrow_ascends wide_ascends within =
    ap (λ cells. with_cells (merge_of_rows narrow a b) cells) (widened_merge narrow.rises [] narrow.fields a.cells b.cells wide.fields wide_ascends (part_of [] narrow.fields wide.fields narrow_ascends wide_ascends within) long_a long_b)
  where
    with_cells : Row → List Cell → Row
    with_cells r cells = record r { cells = cells }

-- a wider row has the dimensions of the row
pub widen-dimensions : (narrow wide : Schema) (row : Row) → Fits narrow row → FieldsAscend narrow.fields → FieldsAscend wide.fields → AllIn narrow.fields wide.fields →
    dimensions_of wide.fields (widen_of_row row narrow wide).cells ≡ dimensions_of narrow.fields row.cells
widen-dimensions narrow wide row fits narrow_ascends wide_ascends within =
    widened_dimensions narrow.folded narrow.rises row.count [] narrow.fields row.cells wide.fields wide_ascends (part_of [] narrow.fields wide.fields narrow_ascends wide_ascends within) fits.cells_fit
