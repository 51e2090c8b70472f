-- The fold of rows that fit a schema fits its folded form.
use Rattle.std.specs.Prelude.{◌≡◌, ℕ, suc, ℤ, pos, negsuc, ◌≤ℤ◌, ◌-ℤ◌, ◌+◌, ◌-◌, ◌*◌, ◌≤◌, ◌^◌, List, [], ◌∷◌, length, Bool, true, false, Option, Some, None, if◌then◌else◌, FitsSigned, unsigned_abs, int_lt}
use Rattle.std.specs.Int.{int_max, w8, w16, w32, w64}
use Rattle.std.proofs.Common.{refl, ap, ◌∙◌, sym, arith, subst, inl, inr, cond}
use Rattle.std.proofs.lemmas.Int.{ints, clamps}
use Rattle.row_cells.specs.declared.scalars.Scalar.TheVariants.{Whole, Flag, Word}
use Rattle.row_cells.specs.declared.schemas.FieldType.{FieldType}
use Rattle.row_cells.specs.declared.schemas.FieldType.TheVariants.{Date, Keyword, Long, Integer, Short, Byte, Boolean, Aggregate}
use Rattle.row_cells.specs.declared.schemas.Role.{Role}
use Rattle.row_cells.specs.declared.schemas.Role.TheVariants.{Time, Dimension as DimensionRole, Gauge as GaugeRole, Counter, Label}
use Rattle.row_cells.specs.declared.schemas.Field.{Field}
use Rattle.row_cells.specs.declared.schemas.Schema.{Schema}
use Rattle.row_cells.specs.declared.rows.Cell.{Cell}
use Rattle.row_cells.specs.declared.rows.Cell.TheVariants.{Absent, One, Many, Gauge, Rise as RiseCell}
use Rattle.row_cells.specs.declared.rows.Row.{Row}
use Rattle.fold_law.specs.declared.measures.Parts.{Parts}
use Rattle.fold_law.specs.declared.counters.Rise.{Rise}
use Rattle.fold_law.specs.Gauges.{join_parts, join_present_parts, reach_of_parts}
use Rattle.fold_law.specs.GaugeLaws.{unsigned_abs-add, within_abs, abs_above}
use Rattle.fold_law.specs.Rises.{climb_of, join_rises, join_present_rises, reach_of_rise, rise_of_value}
use Rattle.fold_law.specs.RiseLaws.{unsigned_abs-climb_of}
use Rattle.row_cells.specs.Dimensions.{Dimension, key_bytes}
use Rattle.row_cells.specs.Fitting.{IsNumberOf, IsValueOf, PartsFit, IsAggregate, RiseFits, LabelFits, RawGaugeFits, FoldedGaugeFits, GaugeFits, PlainCounterFits, RisenCounterFits, CounterFits, CellFits, CellsFit, with_dimension, dimensions_of, Fits, folded_form, FitsEither}
use Rattle.row_cells.specs.Limits.{most_documents}
use Rattle.time_text.specs.Instant.{IsInstant}
use Rattle.row_cells.specs.Merging.{parts_of_value, parts_of, cell_of_parts, rise_of, cell_of_rise, last_cell, merge_cell, fold_cell, merge_cells, fold_cells, merge_of_rows, fold_of_row, HaveRoom, AllHaveRoom}

-- ---- numbers

number_of_value : (kind : FieldType) (v : ℤ) → IsValueOf kind (Whole v) → IsNumberOf kind v
number_of_value Date v fits = fits
number_of_value Long v fits = fits
number_of_value Integer v fits = fits
number_of_value Short v fits = fits
number_of_value Byte v fits = fits
number_of_value Keyword v fits = absurd fits
number_of_value Boolean v fits = absurd fits
number_of_value Aggregate v fits = absurd fits

near_of_64 : (v : ℤ) → FitsSigned w64 v → unsigned_abs v ≤ 2 ^ 63
near_of_64 (pos n) fits = omega (arith, ints, fits)
near_of_64 (negsuc n) fits = omega (arith, ints, fits)

near_of_32 : (v : ℤ) → FitsSigned w32 v → unsigned_abs v ≤ 2 ^ 63
near_of_32 (pos n) fits = omega (arith, ints, fits)
near_of_32 (negsuc n) fits = omega (arith, ints, fits)

near_of_16 : (v : ℤ) → FitsSigned w16 v → unsigned_abs v ≤ 2 ^ 63
near_of_16 (pos n) fits = omega (arith, ints, fits)
near_of_16 (negsuc n) fits = omega (arith, ints, fits)

near_of_8 : (v : ℤ) → FitsSigned w8 v → unsigned_abs v ≤ 2 ^ 63
near_of_8 (pos n) fits = omega (arith, ints, fits)
near_of_8 (negsuc n) fits = omega (arith, ints, fits)

near_of_instant : (v : ℤ) → IsInstant v → unsigned_abs v ≤ 2 ^ 63
near_of_instant (pos n) fits = omega (arith, ints, fits.0, fits.1)
near_of_instant (negsuc n) fits = omega (arith, ints, fits.0, fits.1)

-- a number of any type has at most 64 bits
near_of_number : (kind : FieldType) (v : ℤ) → IsNumberOf kind v → unsigned_abs v ≤ 2 ^ 63
near_of_number Date v fits = near_of_instant v fits
near_of_number Long v fits = near_of_64 v fits
near_of_number Integer v fits = near_of_32 v fits
near_of_number Short v fits = near_of_16 v fits
near_of_number Byte v fits = near_of_8 v fits
near_of_number Aggregate v fits = near_of_64 v fits
near_of_number Keyword v fits = absurd fits
near_of_number Boolean v fits = absurd fits

one_of_two : (P : ℤ → Type 0) (b : Bool) (x y : ℤ) → P x → P y → P (cond b x y)
one_of_two P true x y p q = p
one_of_two P false x y p q = q

-- ---- gauges

abbrev pub PresentPartsFit : FieldType → ℕ → Option Parts → Type 0
PresentPartsFit kind n None = Unit {0}
PresentPartsFit kind n (Some p) = PartsFit kind n p

parts_of_value_fit : (kind : FieldType) (v : ℤ) (n : ℕ) → 1 ≤ n → IsNumberOf kind v → PartsFit kind n (parts_of_value v)
parts_of_value_fit kind v n some fits = record {
  least = fits;
  greatest = fits;
  sum_within = omega (arith, near_of_number kind v fits);
  counted = omega (arith, ints);
  count_within = omega (arith, ints);
}

aggregate_fits : (p : Parts) (n : ℕ) → 1 ≤ n → IsAggregate p → PartsFit Aggregate n p
aggregate_fits p n some fits = record {
  least = fits.least;
  greatest = fits.greatest;
  sum_within = omega (arith, near_of_64 p.sum fits.sum_fits);
  counted = fits.counted;
  count_within = omega (arith, ints, fits.count_fits);
}

raw_parts_fit : (kind : FieldType) (n : ℕ) (cell : Cell) → 1 ≤ n → RawGaugeFits kind cell → PresentPartsFit kind n (parts_of cell)
raw_parts_fit kind n Absent some fits = tt
raw_parts_fit kind n (One (Whole v)) some fits = parts_of_value_fit kind v n some (number_of_value kind v fits)
raw_parts_fit kind n (One (Flag b)) some fits = absurd fits
raw_parts_fit kind n (One (Word t)) some fits = absurd fits
raw_parts_fit kind n (Many vs) some fits = absurd fits
raw_parts_fit kind n (Gauge p) some fits = subst (λ k. PartsFit k n p) (sym fits.0) (aggregate_fits p n some fits.1)
raw_parts_fit kind n (RiseCell r) some fits = absurd fits

folded_parts_fit : (kind : FieldType) (n : ℕ) (cell : Cell) → FoldedGaugeFits kind n cell → PresentPartsFit kind n (parts_of cell)
folded_parts_fit kind n Absent fits = tt
folded_parts_fit kind n (One v) fits = absurd fits
folded_parts_fit kind n (Many vs) fits = absurd fits
folded_parts_fit kind n (Gauge p) fits = fits
folded_parts_fit kind n (RiseCell r) fits = absurd fits

pub gauge_parts_fit : (folded : Bool) (kind : FieldType) (n : ℕ) (cell : Cell) → 1 ≤ n → GaugeFits folded kind n cell → PresentPartsFit kind n (parts_of cell)
gauge_parts_fit false kind n cell some fits = raw_parts_fit kind n cell some fits
gauge_parts_fit true kind n cell some fits = folded_parts_fit kind n cell fits

joined_parts_fit : (kind : FieldType) (m n : ℕ) (p q : Parts) → 1 ≤ m → 1 ≤ n → PartsFit kind m p → PartsFit kind n q → PartsFit kind (m + n) (join_parts p q)
joined_parts_fit kind m n p q some_p some_q f g = record {
  least = one_of_two (IsNumberOf kind) (int_lt q.min p.min) q.min p.min g.least f.least;
  greatest = one_of_two (IsNumberOf kind) (int_lt q.max p.max) p.max q.max f.greatest g.greatest;
  sum_within = omega (arith, unsigned_abs-add p.sum q.sum, f.sum_within, g.sum_within);
  counted = omega (arith, ints, f.counted, g.counted);
  count_within = omega (arith, ints, f.count_within, g.count_within);
}

more_parts_fit : (kind : FieldType) (m n : ℕ) (p : Parts) → m ≤ n → PartsFit kind m p → PartsFit kind n p
more_parts_fit kind m n p more f = record {
  least = f.least;
  greatest = f.greatest;
  sum_within = omega (arith, f.sum_within);
  counted = f.counted;
  count_within = omega (arith, ints, f.count_within);
}

present_parts_fit : (kind : FieldType) (m n : ℕ) (p q : Option Parts) → 1 ≤ m → 1 ≤ n → PresentPartsFit kind m p → PresentPartsFit kind n q → PresentPartsFit kind (m + n) (join_present_parts p q)
present_parts_fit kind m n None None some_p some_q f g = tt
present_parts_fit kind m n None (Some q) some_p some_q f g = more_parts_fit kind n (m + n) q (omega arith) g
present_parts_fit kind m n (Some p) None some_p some_q f g = more_parts_fit kind m (m + n) p (omega arith) f
present_parts_fit kind m n (Some p) (Some q) some_p some_q f g = joined_parts_fit kind m n p q some_p some_q f g

gauge_cell_fits : (kind : FieldType) (n : ℕ) (p : Option Parts) → PresentPartsFit kind n p → FoldedGaugeFits kind n (cell_of_parts p)
gauge_cell_fits kind n None fits = tt
gauge_cell_fits kind n (Some p) fits = fits

pub parts_reach : (kind : FieldType) (n : ℕ) (p : Option Parts) → PresentPartsFit kind n p → reach_of_parts p ≤ n * 2 ^ 63
parts_reach kind n None fits = omega arith
parts_reach kind n (Some p) fits =
    let count_within : unsigned_abs p.count ≤ n * (2 ^ 63 - 1) = within_abs p.count (n * (2 ^ 63 - 1)) fits.count_within (omega (arith, ints, fits.counted)) in
    omega (arith, fits.sum_within, count_within)

-- ---- counters

abbrev pub PresentRiseFits : FieldType → ℕ → Option Rise → Type 0
PresentRiseFits kind n None = Unit {0}
PresentRiseFits kind n (Some r) = RiseFits kind n r

rise_of_value_fits : (kind : FieldType) (v : ℤ) (n : ℕ) → IsNumberOf kind v → RiseFits kind n (rise_of_value v)
rise_of_value_fits kind v n fits = record {
  first_fits = fits;
  last_fits = fits;
  rose = omega (arith, ints);
  within = omega (arith, ints);
  alone = λ one. refl;
}

plain_rise_fits : (kind : FieldType) (n : ℕ) (cell : Cell) → PlainCounterFits kind cell → PresentRiseFits kind n (rise_of cell)
plain_rise_fits kind n Absent fits = tt
plain_rise_fits kind n (One (Whole v)) fits = rise_of_value_fits kind v n (number_of_value kind v fits)
plain_rise_fits kind n (One (Flag b)) fits = absurd fits
plain_rise_fits kind n (One (Word t)) fits = absurd fits
plain_rise_fits kind n (Many vs) fits = absurd fits
plain_rise_fits kind n (Gauge p) fits = absurd fits
plain_rise_fits kind n (RiseCell r) fits = absurd fits

risen_rise_fits : (kind : FieldType) (n : ℕ) (cell : Cell) → RisenCounterFits kind n cell → PresentRiseFits kind n (rise_of cell)
risen_rise_fits kind n Absent fits = tt
risen_rise_fits kind n (One v) fits = absurd fits
risen_rise_fits kind n (Many vs) fits = absurd fits
risen_rise_fits kind n (Gauge p) fits = absurd fits
risen_rise_fits kind n (RiseCell r) fits = fits

pub counter_rise_fits : (folded rises : Bool) (kind : FieldType) (n : ℕ) (cell : Cell) → CounterFits folded rises kind n cell → PresentRiseFits kind n (rise_of cell)
counter_rise_fits false rises kind n cell fits = plain_rise_fits kind n cell fits
counter_rise_fits true false kind n cell fits = plain_rise_fits kind n cell fits
counter_rise_fits true true kind n cell fits = risen_rise_fits kind n cell fits

climb_rises : (a b : ℤ) → pos 0 ≤ℤ climb_of a b
climb_rises a b = by_fall (int_lt b a) refl
  where
    by_fall : (fell : Bool) → int_lt b a ≡ fell → pos 0 ≤ℤ (if fell then int_max b (pos 0) else b -ℤ a)
    by_fall true is = omega (arith, ints, clamps)
    by_fall false is = omega (arith, ints, is)

climb_within : (a b : ℤ) → unsigned_abs a ≤ 2 ^ 63 → unsigned_abs b ≤ 2 ^ 63 → climb_of a b ≤ℤ pos (2 ^ 64)
climb_within a b near_a near_b = omega (arith, ints, abs_above (climb_of a b), unsigned_abs-climb_of a b)

joined_rise_fits : (kind : FieldType) (m n : ℕ) (p q : Rise) → 1 ≤ m → 1 ≤ n → RiseFits kind m p → RiseFits kind n q → RiseFits kind (m + n) (join_rises p q)
joined_rise_fits kind m n p q some_p some_q f g =
    let climbs = climb_rises p.last q.first in
    let short = climb_within p.last q.first (near_of_number kind p.last f.last_fits) (near_of_number kind q.first g.first_fits) in
    record {
      first_fits = f.first_fits;
      last_fits = g.last_fits;
      rose = omega (arith, ints, f.rose, g.rose, climbs);
      within = omega (arith, ints, f.within, g.within, short);
      alone = λ one. absurd (omega (arith, one));
    }

more_rise_fits : (kind : FieldType) (m n : ℕ) (p : Rise) → m ≤ n → 1 ≤ m → RiseFits kind m p → RiseFits kind n p
more_rise_fits kind m n p more some f = record {
  first_fits = f.first_fits;
  last_fits = f.last_fits;
  rose = f.rose;
  within = omega (arith, ints, f.within);
  alone = λ one. f.alone (omega (arith, one));
}

present_rise_fits : (kind : FieldType) (m n : ℕ) (p q : Option Rise) → 1 ≤ m → 1 ≤ n → PresentRiseFits kind m p → PresentRiseFits kind n q → PresentRiseFits kind (m + n) (join_present_rises p q)
present_rise_fits kind m n None None some_p some_q f g = tt
present_rise_fits kind m n None (Some q) some_p some_q f g = more_rise_fits kind n (m + n) q (omega arith) some_q g
present_rise_fits kind m n (Some p) None some_p some_q f g = more_rise_fits kind m (m + n) p (omega arith) some_p f
present_rise_fits kind m n (Some p) (Some q) some_p some_q f g = joined_rise_fits kind m n p q some_p some_q f g

rise_cell_fits : (kind : FieldType) (n : ℕ) (p : Option Rise) → PresentRiseFits kind n p → RisenCounterFits kind n (cell_of_rise p)
rise_cell_fits kind n None fits = tt
rise_cell_fits kind n (Some p) fits = fits

pub rise_reach : (kind : FieldType) (n : ℕ) (p : Option Rise) → 1 ≤ n → PresentRiseFits kind n p → reach_of_rise p ≤ n * 2 ^ 64
rise_reach kind n None some fits = omega arith
rise_reach kind n (Some p) some fits =
    let increase_within : unsigned_abs p.increase ≤ (n - 1) * 2 ^ 64 = within_abs p.increase ((n - 1) * 2 ^ 64) fits.within (omega (arith, ints, fits.rose)) in
    omega (arith, increase_within, near_of_number kind p.first fits.first_fits, near_of_number kind p.last fits.last_fits)

-- ---- cells

last_of : (P : Cell → Type 0) (a b : Cell) → P a → P b → P (last_cell a b)
last_of P a Absent p q = p
last_of P a (One v) p q = q
last_of P a (Many vs) p q = q
last_of P a (Gauge r) p q = q
last_of P a (RiseCell r) p q = q

plain_of_counter : (folded : Bool) (kind : FieldType) (n : ℕ) (cell : Cell) → CounterFits folded false kind n cell → PlainCounterFits kind cell
plain_of_counter false kind n cell fits = fits
plain_of_counter true kind n cell fits = fits

merged_cell_fits : (folded_a folded_b rises : Bool) (kind : FieldType) (role : Role) (m n : ℕ) (a b : Cell) → 1 ≤ m → 1 ≤ n → CellFits folded_a rises kind role m a → CellFits folded_b rises kind role n b → CellFits true rises kind role (m + n) (merge_cell rises role a b)
merged_cell_fits folded_a folded_b rises kind Time m n a b some_a some_b f g = f
merged_cell_fits folded_a folded_b rises kind DimensionRole m n a b some_a some_b f g = f
merged_cell_fits folded_a folded_b rises kind GaugeRole m n a b some_a some_b f g =
    gauge_cell_fits kind (m + n) (join_present_parts (parts_of a) (parts_of b)) (present_parts_fit kind m n (parts_of a) (parts_of b) some_a some_b (gauge_parts_fit folded_a kind m a some_a f) (gauge_parts_fit folded_b kind n b some_b g))
merged_cell_fits folded_a folded_b true kind Counter m n a b some_a some_b f g =
    rise_cell_fits kind (m + n) (join_present_rises (rise_of a) (rise_of b)) (present_rise_fits kind m n (rise_of a) (rise_of b) some_a some_b (counter_rise_fits folded_a true kind m a f) (counter_rise_fits folded_b true kind n b g))
merged_cell_fits folded_a folded_b false kind Counter m n a b some_a some_b f g =
    last_of (PlainCounterFits kind) a b (plain_of_counter folded_a kind m a f) (plain_of_counter folded_b kind n b g)
merged_cell_fits folded_a folded_b rises kind Label m n a b some_a some_b f g = last_of (LabelFits kind) a b f g

fold_cell_fits : (folded rises : Bool) (kind : FieldType) (role : Role) (n : ℕ) (c : Cell) → 1 ≤ n → CellFits folded rises kind role n c → CellFits true rises kind role n (fold_cell rises role c)
fold_cell_fits folded rises kind Time n c some f = f
fold_cell_fits folded rises kind DimensionRole n c some f = f
fold_cell_fits folded rises kind GaugeRole n c some f = gauge_cell_fits kind n (parts_of c) (gauge_parts_fit folded kind n c some f)
fold_cell_fits folded true kind Counter n c some f = rise_cell_fits kind n (rise_of c) (counter_rise_fits folded true kind n c f)
fold_cell_fits folded false kind Counter n c some f = plain_of_counter folded kind n c f
fold_cell_fits folded rises kind Label n c some f = f

cell_has_room : (folded_a folded_b rises : Bool) (kind : FieldType) (role : Role) (m n : ℕ) (a b : Cell) → 1 ≤ m → 1 ≤ n → m + n ≤ most_documents → CellFits folded_a rises kind role m a → CellFits folded_b rises kind role n b → HaveRoom role a b
cell_has_room folded_a folded_b rises kind Time m n a b some_a some_b few f g = tt
cell_has_room folded_a folded_b rises kind DimensionRole m n a b some_a some_b few f g = tt
cell_has_room folded_a folded_b rises kind GaugeRole m n a b some_a some_b few f g =
    omega (arith, parts_reach kind m (parts_of a) (gauge_parts_fit folded_a kind m a some_a f), parts_reach kind n (parts_of b) (gauge_parts_fit folded_b kind n b some_b g))
cell_has_room folded_a folded_b rises kind Counter m n a b some_a some_b few f g =
    omega (arith, rise_reach kind m (rise_of a) some_a (counter_rise_fits folded_a rises kind m a f), rise_reach kind n (rise_of b) some_b (counter_rise_fits folded_b rises kind n b g))
cell_has_room folded_a folded_b rises kind Label m n a b some_a some_b few f g = tt

merged_cells_fit : (folded_a folded_b rises : Bool) (m n : ℕ) (fs : List Field) (xs ys : List Cell) → 1 ≤ m → 1 ≤ n → CellsFit folded_a rises m fs xs → CellsFit folded_b rises n fs ys → CellsFit true rises (m + n) fs (merge_cells rises fs xs ys)
merged_cells_fit folded_a folded_b rises m n [] [] [] some_a some_b f g = tt
merged_cells_fit folded_a folded_b rises m n [] [] (y ∷ ys) some_a some_b f g = absurd g
merged_cells_fit folded_a folded_b rises m n [] (x ∷ xs) ys some_a some_b f g = absurd f
merged_cells_fit folded_a folded_b rises m n (h ∷ fs) [] ys some_a some_b f g = absurd f
merged_cells_fit folded_a folded_b rises m n (h ∷ fs) (x ∷ xs) [] some_a some_b f g = absurd g
merged_cells_fit folded_a folded_b rises m n (h ∷ fs) (x ∷ xs) (y ∷ ys) some_a some_b f g =
    (merged_cell_fits folded_a folded_b rises h.kind h.role m n x y some_a some_b f.0 g.0, merged_cells_fit folded_a folded_b rises m n fs xs ys some_a some_b f.1 g.1)

fold_cells_fit : (folded rises : Bool) (n : ℕ) (fs : List Field) (xs : List Cell) → 1 ≤ n → CellsFit folded rises n fs xs → CellsFit true rises n fs (fold_cells rises fs xs)
fold_cells_fit folded rises n [] [] some f = tt
fold_cells_fit folded rises n [] (x ∷ xs) some f = absurd f
fold_cells_fit folded rises n (h ∷ fs) [] some f = absurd f
fold_cells_fit folded rises n (h ∷ fs) (x ∷ xs) some f = (fold_cell_fits folded rises h.kind h.role n x some f.0, fold_cells_fit folded rises n fs xs some f.1)

cells_have_room : (folded_a folded_b rises : Bool) (m n : ℕ) (fs : List Field) (xs ys : List Cell) → 1 ≤ m → 1 ≤ n → m + n ≤ most_documents → CellsFit folded_a rises m fs xs → CellsFit folded_b rises n fs ys → AllHaveRoom fs xs ys
cells_have_room folded_a folded_b rises m n [] [] [] some_a some_b few f g = tt
cells_have_room folded_a folded_b rises m n [] [] (y ∷ ys) some_a some_b few f g = absurd g
cells_have_room folded_a folded_b rises m n [] (x ∷ xs) ys some_a some_b few f g = absurd f
cells_have_room folded_a folded_b rises m n (h ∷ fs) [] ys some_a some_b few f g = absurd f
cells_have_room folded_a folded_b rises m n (h ∷ fs) (x ∷ xs) [] some_a some_b few f g = absurd g
cells_have_room folded_a folded_b rises m n (h ∷ fs) (x ∷ xs) (y ∷ ys) some_a some_b few f g =
    (cell_has_room folded_a folded_b rises h.kind h.role m n x y some_a some_b few f.0 g.0, cells_have_room folded_a folded_b rises m n fs xs ys some_a some_b few f.1 g.1)

-- cells that fit stand beside the fields
pub CellsFit-length : (folded rises : Bool) (n : ℕ) (fs : List Field) (xs : List Cell) → CellsFit folded rises n fs xs → length xs ≡ length fs
CellsFit-length folded rises n [] [] f = refl
CellsFit-length folded rises n [] (x ∷ xs) f = absurd f
CellsFit-length folded rises n (h ∷ fs) [] f = absurd f
CellsFit-length folded rises n (h ∷ fs) (x ∷ xs) f = ap suc (CellsFit-length folded rises n fs xs f.1)

-- ---- dimensions

plain_field : (role : Role) (path : List ℕ) (a b : Cell) (ds : List Dimension) (rises : Bool) → with_dimension role path (merge_cell rises role a b) ds ≡ with_dimension role path a ds
plain_field Time path a b ds rises = refl
plain_field DimensionRole path a b ds rises = refl
plain_field GaugeRole path a b ds rises = refl
plain_field Counter path a b ds rises = refl
plain_field Label path a b ds rises = refl

folded_field : (role : Role) (path : List ℕ) (a : Cell) (ds : List Dimension) (rises : Bool) → with_dimension role path (fold_cell rises role a) ds ≡ with_dimension role path a ds
folded_field Time path a ds rises = refl
folded_field DimensionRole path a ds rises = refl
folded_field GaugeRole path a ds rises = refl
folded_field Counter path a ds rises = refl
folded_field Label path a ds rises = refl

pub dimensions_of-merge_cells : (rises : Bool) (fs : List Field) (xs ys : List Cell) → length xs ≡ length ys → dimensions_of fs (merge_cells rises fs xs ys) ≡ dimensions_of fs xs
dimensions_of-merge_cells rises [] xs ys same = refl
dimensions_of-merge_cells rises (f ∷ fs) [] ys same = refl
dimensions_of-merge_cells rises (f ∷ fs) (x ∷ xs) [] same = absurd (omega (arith, same))
dimensions_of-merge_cells rises (f ∷ fs) (x ∷ xs) (y ∷ ys) same =
    plain_field f.role f.path x y (dimensions_of fs (merge_cells rises fs xs ys)) rises ∙ ap (with_dimension f.role f.path x) (dimensions_of-merge_cells rises fs xs ys (omega (arith, same)))

pub dimensions_of-fold_cells : (rises : Bool) (fs : List Field) (xs : List Cell) → dimensions_of fs (fold_cells rises fs xs) ≡ dimensions_of fs xs
dimensions_of-fold_cells rises [] xs = refl
dimensions_of-fold_cells rises (f ∷ fs) [] = refl
dimensions_of-fold_cells rises (f ∷ fs) (x ∷ xs) =
    folded_field f.role f.path x (dimensions_of fs (fold_cells rises fs xs)) rises ∙ ap (with_dimension f.role f.path x) (dimensions_of-fold_cells rises fs xs)

-- ---- rows

-- what a row keeps in either form
pub record EitherForm (schema : Schema) (row : Row) : Type 0 where
  pub folded : Bool
  pub cells_fit : CellsFit folded schema.rises row.count schema.fields row.cells
  pub key_is : row.key ≡ key_bytes (dimensions_of schema.fields row.cells)
  pub instant : IsInstant row.time
  pub counted : 1 ≤ row.count
  pub count_within : row.count ≤ most_documents

pub either_form : (schema : Schema) (row : Row) → FitsEither schema row → EitherForm schema row
either_form schema row fits =
    elim fits [
      | inl f ↦ record { folded = schema.folded; cells_fit = f.cells_fit; key_is = f.key_is; instant = f.instant; counted = f.counted; count_within = f.count_within }
      | inr f ↦ record { folded = true; cells_fit = f.cells_fit; key_is = f.key_is; instant = f.instant; counted = f.counted; count_within = f.count_within }
    ]

-- the fold of two rows fits the folded form
pub merge_of_rows_fits : (schema : Schema) (a b : Row) → FitsEither schema a → FitsEither schema b → a.count + b.count ≤ most_documents → Fits (folded_form schema) (merge_of_rows schema a b)
merge_of_rows_fits schema a b fits_a fits_b few =
    let f = either_form schema a fits_a in
    let g = either_form schema b fits_b in
    let beside_a = CellsFit-length f.folded schema.rises a.count schema.fields a.cells f.cells_fit in
    let beside_b = CellsFit-length g.folded schema.rises b.count schema.fields b.cells g.cells_fit in
    record {
      cells_fit = merged_cells_fit f.folded g.folded schema.rises a.count b.count schema.fields a.cells b.cells f.counted g.counted f.cells_fit g.cells_fit;
      key_is = f.key_is ∙ ap key_bytes (sym (dimensions_of-merge_cells schema.rises schema.fields a.cells b.cells (beside_a ∙ sym beside_b)));
      instant = f.instant;
      counted = omega (arith, f.counted);
      count_within = few;
      alone = λ raw. cc;
    }

-- the fold of a row alone fits the folded form
pub fold_of_row_fits : (schema : Schema) (a : Row) → FitsEither schema a → Fits (folded_form schema) (fold_of_row schema a)
fold_of_row_fits schema a fits =
    let f = either_form schema a fits in
    record {
      cells_fit = fold_cells_fit f.folded schema.rises a.count schema.fields a.cells f.counted f.cells_fit;
      key_is = f.key_is ∙ ap key_bytes (sym (dimensions_of-fold_cells schema.rises schema.fields a.cells));
      instant = f.instant;
      counted = f.counted;
      count_within = f.count_within;
      alone = λ raw. cc;
    }

-- the numbers of two rows leave room for their sums
pub rows_have_room : (schema : Schema) (a b : Row) → FitsEither schema a → FitsEither schema b → a.count + b.count ≤ most_documents → AllHaveRoom schema.fields a.cells b.cells
rows_have_room schema a b fits_a fits_b few =
    let f = either_form schema a fits_a in
    let g = either_form schema b fits_b in
    cells_have_room f.folded g.folded schema.rises a.count b.count schema.fields a.cells b.cells f.counted g.counted few f.cells_fit g.cells_fit

-- the cells of a row in either form stand beside the fields
pub FitsEither-length : (schema : Schema) (a : Row) → FitsEither schema a → length a.cells ≡ length schema.fields
FitsEither-length schema a fits = let f = either_form schema a fits in CellsFit-length f.folded schema.rises a.count schema.fields a.cells f.cells_fit
