-- What was read of leaves as cells.
use Rattle.std.proofs.Common.{◌≡◌, ℕ, suc, ◌+◌, ◌<◌, ◌&&◌, ◌||◌, List, [], ◌∷◌, ◌++◌, Bool, true, false, cond, not, nat_lt, length, Some, None, refl, sym, ap, ◌∙◌, subst, arith, append_assoc, append-nil, get_or, drop, ◌≤◌}
use Rattle.std.proofs.Math.Seq.{drop-cons}
use Rattle.std.proofs.lemmas.List.{drop_all}
use Rattle.row_cells.specs.declared.scalars.Scalar.{Scalar}
use Rattle.row_cells.specs.declared.scalars.Scalar.TheVariants.{Whole, Flag, Word}
use Rattle.row_cells.specs.declared.schemas.FieldType.{FieldType}
use Rattle.row_cells.specs.declared.schemas.FieldType.TheVariants.{Date, Keyword, Long, Integer, Short, Byte, Boolean, Aggregate}
use Rattle.row_cells.specs.declared.schemas.Role.{Role}
use Rattle.row_cells.specs.declared.schemas.Role.TheVariants.{Time, Dimension, Gauge as GaugeRole, Counter, Label}
use Rattle.row_cells.specs.declared.schemas.Field.{Field}
use Rattle.row_cells.specs.declared.rows.Cell.{Cell}
use Rattle.row_cells.specs.declared.rows.Cell.TheVariants.{Absent, One, Many, Gauge, Rise}
use Rattle.row_cells.specs.Fitting.{IsValueOf, CellFits}
use Rattle.serde_json.specs.Data.{Data}
use Rattle.ts_mapping.specs.Roles.{is_aggregate, may_have}
use Rattle.ts_mapping.specs.Schemas.{AreTemplateFields}
use Rattle.ts_mapping.specs.RoleLaws.{aggregate_is}
use Rattle.synthetic_source.specs.Faults.{is_read, mapped_fault, takes_one}
use Rattle.synthetic_source.specs.Gathered.{AreTimed, IsReadAs, IsTimed, AreRead, IsFaultyAt}
use Rattle.synthetic_source.specs.Readings.{IsOneRead, FitsOne, wrong_kind}
use Rattle.synthetic_source.specs.Rows.{cell_of, single_cell}
use Rattle.synthetic_source.specs.declared.errors.DocKind.{DocKind}
use Rattle.synthetic_source.specs.declared.errors.DocKind.TheVariants.{ManyValues}
use Rattle.synthetic_source.specs.declared.reading.Read.{Read}
use Rattle.synthetic_source.specs.declared.reading.Read.TheVariants.{Fault, Good}

taken_cell : (kind : FieldType) (role : Role) (leaves : List Data) → takes_one role ≡ true → cell_of kind role leaves ≡ single_cell kind leaves
taken_cell kind Time leaves taken = cc
taken_cell kind Dimension leaves taken = refl
taken_cell kind GaugeRole leaves taken = refl
taken_cell kind Counter leaves taken = refl
taken_cell kind Label leaves taken = cc

whole_gauge : (kind : FieldType) (v : Scalar) → may_have kind GaugeRole ≡ true → is_aggregate kind ≡ false → IsValueOf kind v → CellFits false true kind GaugeRole 1 (One v)
whole_gauge Date v may plain is = cc
whole_gauge Keyword v may plain is = cc
whole_gauge Long (Whole v) may plain is = is
whole_gauge Long (Flag b) may plain is = absurd is
whole_gauge Long (Word t) may plain is = absurd is
whole_gauge Integer (Whole v) may plain is = is
whole_gauge Integer (Flag b) may plain is = absurd is
whole_gauge Integer (Word t) may plain is = absurd is
whole_gauge Short (Whole v) may plain is = is
whole_gauge Short (Flag b) may plain is = absurd is
whole_gauge Short (Word t) may plain is = absurd is
whole_gauge Byte (Whole v) may plain is = is
whole_gauge Byte (Flag b) may plain is = absurd is
whole_gauge Byte (Word t) may plain is = absurd is
whole_gauge Boolean v may plain is = cc
whole_gauge Aggregate v may plain is = cc

whole_counter : (kind : FieldType) (v : Scalar) → may_have kind Counter ≡ true → IsValueOf kind v → CellFits false true kind Counter 1 (One v)
whole_counter Date v may is = cc
whole_counter Keyword v may is = cc
whole_counter Long (Whole v) may is = is
whole_counter Long (Flag b) may is = absurd is
whole_counter Long (Word t) may is = absurd is
whole_counter Integer (Whole v) may is = is
whole_counter Integer (Flag b) may is = absurd is
whole_counter Integer (Word t) may is = absurd is
whole_counter Short (Whole v) may is = is
whole_counter Short (Flag b) may is = absurd is
whole_counter Short (Word t) may is = absurd is
whole_counter Byte (Whole v) may is = is
whole_counter Byte (Flag b) may is = absurd is
whole_counter Byte (Word t) may is = absurd is
whole_counter Boolean v may is = cc
whole_counter Aggregate v may is = cc

pub one_fits : (kind : FieldType) (role : Role) (cell : Cell) → takes_one role ≡ true → may_have kind role ≡ true → FitsOne kind cell → CellFits false true kind role 1 cell
one_fits kind role Absent taken may fits = absurd fits
one_fits kind role (Many vs) taken may fits = absurd fits
one_fits kind role (Rise r) taken may fits = absurd fits
one_fits kind Time (One v) taken may fits = cc
one_fits kind Label (One v) taken may fits = cc
one_fits kind Dimension (One v) taken may fits = fits.1
one_fits kind GaugeRole (One v) taken may fits = whole_gauge kind v may fits.0 fits.1
one_fits kind Counter (One v) taken may fits = whole_counter kind v may fits.1
one_fits kind Time (Gauge p) taken may fits = cc
one_fits kind Label (Gauge p) taken may fits = cc
one_fits kind Dimension (Gauge p) taken may fits = let bad : may_have Aggregate Dimension ≡ true = subst (λ k. may_have k Dimension ≡ true) (aggregate_is kind fits.0) may in cc
one_fits kind GaugeRole (Gauge p) taken may fits = (aggregate_is kind fits.0, fits.1)
one_fits kind Counter (Gauge p) taken may fits = let bad : may_have Aggregate Counter ≡ true = subst (λ k. may_have k Counter ≡ true) (aggregate_is kind fits.0) may in cc

unread_one : (kind : FieldType) (role : Role) (leaf : Data) → is_read kind leaf ≡ false → mapped_fault kind role (leaf ∷ []) ≡ Some (wrong_kind kind)
unread_one kind role leaf unread = ap (λ b. cond (not b || false) (Some (wrong_kind kind)) (cond (takes_one role && nat_lt 1 1) (Some ManyValues) None)) unread

no_many : (b : Bool) → cond (b && nat_lt 1 1) (Some ManyValues) None ≡ None
no_many true = refl
no_many false = refl

pub read_alone : (kind : FieldType) (role : Role) (leaf : Data) → is_read kind leaf ≡ true → mapped_fault kind role (leaf ∷ []) ≡ None
read_alone kind role leaf read = ap (λ b. cond (not b || false) (Some (wrong_kind kind)) (cond (takes_one role && nat_lt 1 1) (Some ManyValues) None)) read ∙ no_many (takes_one role)

-- what one leaf is, where one is taken
pub one_as : (kind : FieldType) (role : Role) (leaf : Data) (read : Read) → takes_one role ≡ true → may_have kind role ≡ true → IsOneRead kind leaf read → IsReadAs kind role (leaf ∷ []) read
one_as kind role leaf (Fault k) taken may is = unread_one kind role leaf is.0 ∙ ap (λ d. Some d) (sym is.1)
one_as kind role leaf (Good cell) taken may is = (read_alone kind role leaf is.0, is.1 ∙ sym (taken_cell kind role (leaf ∷ []) taken), one_fits kind role cell taken may is.2)

-- what all fields from one on are, in front of which the others stand
abbrev pub GoodOn : List Field → List (List Data) → List Cell → List Field → List (List Data) → Type 0
GoodOn fs lss done all_fs all_lss = (rest : List Cell) → AreRead fs lss rest → AreRead all_fs all_lss (done ++ rest)

abbrev pub FaultyOn : List Field → List (List Data) → ℕ → List Field → List (List Data) → Type 0
FaultyOn fs lss i all_fs all_lss = (n : ℕ) (k : DocKind) → IsFaultyAt n k fs lss → IsFaultyAt (i + n) k all_fs all_lss

pub good_step : (fs : List Field) (lss : List (List Data)) (i : ℕ) (f : Field) (ls : List Data) (done : List Cell) (c : Cell) → i < length fs → i < length lss → f ≡ get_or fs i f → ls ≡ get_or lss i []
    → IsReadAs f.kind f.role ls (Good c) → GoodOn (drop i fs) (drop i lss) done fs lss → GoodOn (drop (i + 1) fs) (drop (i + 1) lss) (done ++ c ∷ []) fs lss
good_step fs lss i f ls done c below_f below_l is_f is_ls read good rest are =
    let e_f : drop i fs ≡ f ∷ drop (i + 1) fs = drop-cons fs i f below_f ∙ (λ j. (sym is_f) j ∷ drop (suc_is i j) fs) in
    let e_l : drop i lss ≡ ls ∷ drop (i + 1) lss = drop-cons lss i [] below_l ∙ (λ j. (sym is_ls) j ∷ drop (suc_is i j) lss) in
    let here : AreRead (f ∷ drop (i + 1) fs) (ls ∷ drop (i + 1) lss) (c ∷ rest) = (read, are) in
    let there = good (c ∷ rest) (subst (λ xs. AreRead xs (drop i lss) (c ∷ rest)) (sym e_f) (subst (λ xs. AreRead (f ∷ drop (i + 1) fs) xs (c ∷ rest)) (sym e_l) here)) in
    subst (λ cs. AreRead fs lss cs) (sym (append_assoc done (c ∷ []) rest)) there
  where
    suc_is : (i : ℕ) → suc i ≡ i + 1
    suc_is i = omega arith

pub faulty_step : (fs : List Field) (lss : List (List Data)) (i : ℕ) (f : Field) (ls : List Data) → i < length fs → i < length lss → f ≡ get_or fs i f → ls ≡ get_or lss i []
    → mapped_fault f.kind f.role ls ≡ None → FaultyOn (drop i fs) (drop i lss) i fs lss → FaultyOn (drop (i + 1) fs) (drop (i + 1) lss) (i + 1) fs lss
faulty_step fs lss i f ls below_f below_l is_f is_ls none faulty n k is =
    let e_f : drop i fs ≡ f ∷ drop (i + 1) fs = drop-cons fs i f below_f ∙ (λ j. (sym is_f) j ∷ drop (suc_is i j) fs) in
    let e_l : drop i lss ≡ ls ∷ drop (i + 1) lss = drop-cons lss i [] below_l ∙ (λ j. (sym is_ls) j ∷ drop (suc_is i j) lss) in
    let here : IsFaultyAt (suc n) k (f ∷ drop (i + 1) fs) (ls ∷ drop (i + 1) lss) = (none, is) in
    let there = faulty (suc n) k (subst (λ xs. IsFaultyAt (suc n) k xs (drop i lss)) (sym e_f) (subst (λ xs. IsFaultyAt (suc n) k (f ∷ drop (i + 1) fs) xs) (sym e_l) here)) in
    let sums : i + suc n ≡ i + 1 + n = omega arith in
    subst (λ m. IsFaultyAt m k fs lss) sums there
  where
    suc_is : (i : ℕ) → suc i ≡ i + 1
    suc_is i = omega arith

pub faulty_here : (fs : List Field) (lss : List (List Data)) (i : ℕ) (f : Field) (ls : List Data) (k : DocKind) → i < length fs → i < length lss → f ≡ get_or fs i f → ls ≡ get_or lss i []
    → mapped_fault f.kind f.role ls ≡ Some k → FaultyOn (drop i fs) (drop i lss) i fs lss → IsFaultyAt i k fs lss
faulty_here fs lss i f ls k below_f below_l is_f is_ls some faulty =
    let e_f : drop i fs ≡ f ∷ drop (i + 1) fs = drop-cons fs i f below_f ∙ (λ j. (sym is_f) j ∷ drop (suc_is i j) fs) in
    let e_l : drop i lss ≡ ls ∷ drop (i + 1) lss = drop-cons lss i [] below_l ∙ (λ j. (sym is_ls) j ∷ drop (suc_is i j) lss) in
    let here : IsFaultyAt 0 k (f ∷ drop (i + 1) fs) (ls ∷ drop (i + 1) lss) = some in
    let there = faulty 0 k (subst (λ xs. IsFaultyAt 0 k xs (drop i lss)) (sym e_f) (subst (λ xs. IsFaultyAt 0 k (f ∷ drop (i + 1) fs) xs) (sym e_l) here)) in
    let sums : i + 0 ≡ i = omega arith in
    subst (λ m. IsFaultyAt m k fs lss) sums there
  where
    suc_is : (i : ℕ) → suc i ≡ i + 1
    suc_is i = omega arith

-- with no field left, these are all
pub good_end : (fs : List Field) (lss : List (List Data)) (i : ℕ) (done : List Cell) → length fs ≤ i → length lss ≡ length fs → GoodOn (drop i fs) (drop i lss) done fs lss → AreRead fs lss done
good_end fs lss i done past long good =
    let no_f = drop_all i fs past in
    let no_l = drop_all i lss (omega arith) in
    subst (λ cs. AreRead fs lss cs) (append-nil done) (good [] (subst (λ xs. AreRead xs (drop i lss) []) (sym no_f) (subst (λ xs. AreRead [] xs []) (sym no_l) tt)))

pub fields_step : (fs : List Field) (i : ℕ) (f : Field) → i < length fs → f ≡ get_or fs i f → AreTemplateFields (drop i fs) → (may_have f.kind f.role ≡ true) × AreTemplateFields (drop (i + 1) fs)
fields_step fs i f below is_f left =
    let e_f : drop i fs ≡ f ∷ drop (i + 1) fs = drop-cons fs i f below ∙ (λ j. (sym is_f) j ∷ drop (suc_is i j) fs) in
    let both : AreTemplateFields (f ∷ drop (i + 1) fs) = subst AreTemplateFields e_f left in
    (both.0.role, both.1)
  where
    suc_is : (i : ℕ) → suc i ≡ i + 1
    suc_is i = omega arith

-- the time shows nothing by itself
pub absent_time : (kind : FieldType) (role : Role) (leaves : List Data) → role ≡ Time → IsTimed kind role leaves → IsReadAs kind role leaves (Good Absent)
absent_time kind Time leaves is timed = (timed, refl, tt)
absent_time kind Dimension leaves is timed = cc
absent_time kind GaugeRole leaves is timed = cc
absent_time kind Counter leaves is timed = cc
absent_time kind Label leaves is timed = cc

pub timed_step : (fs : List Field) (lss : List (List Data)) (i : ℕ) (f : Field) (ls : List Data) → i < length fs → i < length lss → f ≡ get_or fs i f → ls ≡ get_or lss i []
    → AreTimed (drop i fs) (drop i lss) → IsTimed f.kind f.role ls × AreTimed (drop (i + 1) fs) (drop (i + 1) lss)
timed_step fs lss i f ls below_f below_l is_f is_ls timed =
    let e_f : drop i fs ≡ f ∷ drop (i + 1) fs = drop-cons fs i f below_f ∙ (λ j. (sym is_f) j ∷ drop (suc_is i j) fs) in
    let e_l : drop i lss ≡ ls ∷ drop (i + 1) lss = drop-cons lss i [] below_l ∙ (λ j. (sym is_ls) j ∷ drop (suc_is i j) lss) in
    let both : AreTimed (f ∷ drop (i + 1) fs) (ls ∷ drop (i + 1) lss) = subst (λ xs. AreTimed xs (ls ∷ drop (i + 1) lss)) e_f (subst (AreTimed (drop i fs)) e_l timed) in
    (both.0, both.1)
  where
    suc_is : (i : ℕ) → suc i ≡ i + 1
    suc_is i = omega arith
