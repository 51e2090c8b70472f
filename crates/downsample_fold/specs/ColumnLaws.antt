-- A folded column is its cells merged one after the other, the later onto the earlier ones.
use Rattle.std.specs.Prelude.{◌≡◌, ℤ, ◌+ℤ◌, Bool, true, false, List, [], ◌∷◌, map, filter_map, Option, Some, None}
use Rattle.std.specs.List.{cons_option}
use Rattle.std.proofs.Common.{refl, ap, ◌∙◌, arith}
use Rattle.std.proofs.lemmas.Int.{ints, clamps}
use Rattle.row_cells.specs.declared.schemas.Role.{Role}
use Rattle.row_cells.specs.declared.schemas.Role.TheVariants.{Time, Dimension, Gauge as GaugeRole, Counter, Label}
use Rattle.row_cells.specs.declared.rows.Cell.{Cell}
use Rattle.row_cells.specs.declared.rows.Cell.TheVariants.{Absent, One, Many, Gauge, Rise as RiseCell}
use Rattle.fold_law.specs.declared.measures.Parts.{Parts}
use Rattle.fold_law.specs.declared.counters.Rise.{Rise}
use Rattle.fold_law.specs.Gauges.{join_present_parts}
use Rattle.fold_law.specs.Rises.{join_present_rises, climb_of}
use Rattle.row_cells.specs.Merging.{parts_of, cell_of_parts, rise_of, cell_of_rise, last_cell, merge_cell, fold_cell}
use Rattle.downsample_fold.specs.Columns.{total_of, gauge_over, earliest_rise, climbs_between, rise_over, latest_present, earliest_cell, fold_column}

-- the cells of a column merged, of which the first is the latest
abbrev pub merge_column : Bool → Role → List Cell → Cell
merge_column rises role [] = Absent
merge_column rises role (cell ∷ []) = fold_cell rises role cell
merge_column rises role (cell ∷ next ∷ cells) = merge_cell rises role (merge_column rises role (next ∷ cells)) cell

-- ---- gauges

parts_eq : {a b c d a' b' c' d' : ℤ} → a ≡ a' → b ≡ b' → c ≡ c' → d ≡ d' → Gauge (record { min = a; max = b; sum = c; count = d }) ≡ Gauge (record { min = a'; max = b'; sum = c'; count = d' })
parts_eq p q r s = cc

gauge_over-cons : (p : Parts) (ps : List Parts) → gauge_over (p ∷ ps) ≡ cell_of_parts (join_present_parts (parts_of (gauge_over ps)) (Some p))
gauge_over-cons p [] = parts_eq refl refl (omega (arith, ints)) (omega (arith, ints))
gauge_over-cons p (q ∷ qs) =
    parts_eq (omega (arith, ints, clamps)) (omega (arith, ints, clamps)) (omega (arith, ints)) (omega (arith, ints))

gauge_over-none : (ps : List Parts) → gauge_over ps ≡ cell_of_parts (join_present_parts (parts_of (gauge_over ps)) None)
gauge_over-none [] = refl
gauge_over-none (p ∷ ps) = refl

gauge_step : (o : Option Parts) (ps : List Parts) → gauge_over (cons_option o ps) ≡ cell_of_parts (join_present_parts (parts_of (gauge_over ps)) o)
gauge_step None ps = gauge_over-none ps
gauge_step (Some p) ps = gauge_over-cons p ps

gauge_column : (rises : Bool) (cell : Cell) (cells : List Cell) → gauge_over (filter_map parts_of (cell ∷ cells)) ≡ merge_column rises GaugeRole (cell ∷ cells)
gauge_column rises cell [] = gauge_step (parts_of cell) []
gauge_column rises cell (next ∷ cells) =
    gauge_step (parts_of cell) (filter_map parts_of (next ∷ cells))
    ∙ ap (λ c. cell_of_parts (join_present_parts (parts_of c) (parts_of cell))) (gauge_column rises next cells)

-- ---- counters

rise_eq : {a b c a' b' c' : ℤ} → a ≡ a' → b ≡ b' → c ≡ c' → RiseCell (record { first = a; last = b; increase = c }) ≡ RiseCell (record { first = a'; last = b'; increase = c' })
rise_eq p q r = cc

rise_over-cons : (p : Rise) (ps : List Rise) → rise_over (p ∷ ps) ≡ cell_of_rise (join_present_rises (rise_of (rise_over ps)) (Some p))
rise_over-cons p [] = rise_eq refl refl (omega (arith, ints))
rise_over-cons p (q ∷ qs) =
    sums p.increase q.increase (total_of (map (λ r. r.increase) qs)) (climb_of q.last p.first) (climbs_between (q ∷ qs))
  where
    sums : (i j t c b : ℤ) → RiseCell (record { first = (earliest_rise q qs).first; last = p.last; increase = (i +ℤ (j +ℤ t)) +ℤ (c +ℤ b) }) ≡ RiseCell (record { first = (earliest_rise q qs).first; last = p.last; increase = (((j +ℤ t) +ℤ b) +ℤ c) +ℤ i })
    sums i j t c b = rise_eq refl refl (omega (arith, ints))

rise_over-none : (ps : List Rise) → rise_over ps ≡ cell_of_rise (join_present_rises (rise_of (rise_over ps)) None)
rise_over-none [] = refl
rise_over-none (p ∷ ps) = refl

rise_step : (o : Option Rise) (ps : List Rise) → rise_over (cons_option o ps) ≡ cell_of_rise (join_present_rises (rise_of (rise_over ps)) o)
rise_step None ps = rise_over-none ps
rise_step (Some p) ps = rise_over-cons p ps

rise_column : (cell : Cell) (cells : List Cell) → rise_over (filter_map rise_of (cell ∷ cells)) ≡ merge_column true Counter (cell ∷ cells)
rise_column cell [] = rise_step (rise_of cell) []
rise_column cell (next ∷ cells) =
    rise_step (rise_of cell) (filter_map rise_of (next ∷ cells))
    ∙ ap (λ c. cell_of_rise (join_present_rises (rise_of c) (rise_of cell))) (rise_column next cells)

-- ---- last values

latest_step : (cell : Cell) (cells : List Cell) → latest_present (cell ∷ cells) ≡ last_cell (latest_present cells) cell
latest_step Absent cells = refl
latest_step (One v) cells = refl
latest_step (Many vs) cells = refl
latest_step (Gauge p) cells = refl
latest_step (RiseCell r) cells = refl

latest_one : (cell : Cell) → latest_present (cell ∷ []) ≡ cell
latest_one Absent = refl
latest_one (One v) = refl
latest_one (Many vs) = refl
latest_one (Gauge p) = refl
latest_one (RiseCell r) = refl

label_column : (rises : Bool) (cell : Cell) (cells : List Cell) → latest_present (cell ∷ cells) ≡ merge_column rises Label (cell ∷ cells)
label_column rises cell [] = latest_one cell
label_column rises cell (next ∷ cells) = latest_step cell (next ∷ cells) ∙ ap (λ c. last_cell c cell) (label_column rises next cells)

plain_column : (cell : Cell) (cells : List Cell) → latest_present (cell ∷ cells) ≡ merge_column false Counter (cell ∷ cells)
plain_column cell [] = latest_one cell
plain_column cell (next ∷ cells) = latest_step cell (next ∷ cells) ∙ ap (λ c. last_cell c cell) (plain_column next cells)

-- ---- dimensions

time_column : (rises : Bool) (cell : Cell) (cells : List Cell) → earliest_cell (cell ∷ cells) ≡ merge_column rises Time (cell ∷ cells)
time_column rises cell [] = refl
time_column rises cell (next ∷ cells) = time_column rises next cells

dimension_column : (rises : Bool) (cell : Cell) (cells : List Cell) → earliest_cell (cell ∷ cells) ≡ merge_column rises Dimension (cell ∷ cells)
dimension_column rises cell [] = refl
dimension_column rises cell (next ∷ cells) = dimension_column rises next cells

pub fold_column-merges : (rises : Bool) (role : Role) (cell : Cell) (cells : List Cell) → fold_column rises role (cell ∷ cells) ≡ merge_column rises role (cell ∷ cells)
fold_column-merges rises Time cell cells = time_column rises cell cells
fold_column-merges rises Dimension cell cells = dimension_column rises cell cells
fold_column-merges rises GaugeRole cell cells = gauge_column rises cell cells
fold_column-merges true Counter cell cells = rise_column cell cells
fold_column-merges false Counter cell cells = plain_column cell cells
fold_column-merges rises Label cell cells = label_column rises cell cells
