-- One row more in the folds of a column.
use Rattle.std.proofs.Common.{◌≡◌, ℕ, zero, suc, ◌+◌, ◌<◌, ◌≤◌, ◌^◌, List, [], ◌∷◌, length, get_or, drop, Bool, true, Option, Some, None, refl, sym, ap, subst, ◌∙◌, arith, add-one, drop-cons}
use Rattle.std.proofs.lemmas.List.{drop_all}
use Rattle.row_cells.specs.declared.schemas.Role.{Role}
use Rattle.row_cells.specs.declared.schemas.Role.TheVariants.{Gauge as GaugeRole, Counter}
use Rattle.row_cells.specs.declared.rows.Cell.{Cell}
use Rattle.row_cells.specs.declared.rows.Row.{Row}
use Rattle.row_cells.specs.Each.{Each}
use Rattle.row_cells.specs.Merging.{HaveRoom, cell_of_parts, cell_of_rise, parts_of, rise_of, merge_cell}
use Rattle.fold_law.specs.declared.measures.Parts.{Parts}
use Rattle.fold_law.specs.declared.counters.Rise.{Rise}
use Rattle.fold_law.specs.Gauges.{join_present_parts, reach_of_parts}
use Rattle.fold_law.specs.Rises.{join_present_rises, reach_of_rise}
use Rattle.downsample_fold.specs.Columns.{cell_of, column_of, earliest_cell, fold_column}
use Rattle.downsample_fold.specs.ColumnLaws.{fold_column-merges, merge_column}
use Rattle.downsample_fold.specs.Room.{ColumnHasRoom}

pub each_at : {X : Type 0} (P : X → Type 0) (xs : List X) (i : ℕ) (x : X) → Each P xs → i < length xs → x ≡ get_or xs i x → P x
each_at P [] i x each within read = absurd (omega (arith, within))
each_at P (y ∷ ys) zero x each within read = subst P (sym read) each.0
each_at P (y ∷ ys) (suc i) x each within read = each_at P ys i x each.1 (omega (arith, within)) read

-- the rest of a list from a place on begins with what is read there
pub drop_read : {X : Type 0} (xs : List X) (i : ℕ) (x : X) → i < length xs → x ≡ get_or xs i x → drop i xs ≡ x ∷ drop (i + 1) xs
drop_read xs i x within read = drop-cons xs i x within ∙ (ap (λ y. y ∷ drop (suc i) xs) (sym read) ∙ ap (λ k. x ∷ drop k xs) (sym (add-one i)))

parts_of-cell_of_parts : (p : Option Parts) → parts_of (cell_of_parts p) ≡ p
parts_of-cell_of_parts None = refl
parts_of-cell_of_parts (Some p) = refl

rise_of-cell_of_rise : (p : Option Rise) → rise_of (cell_of_rise p) ≡ p
rise_of-cell_of_rise None = refl
rise_of-cell_of_rise (Some p) = refl

-- a column's cell and those of the earlier rows
column_more : (rises : Bool) (role : Role) (cell next : Cell) (cells : List Cell) → fold_column rises role (cell ∷ next ∷ cells) ≡ merge_cell rises role (fold_column rises role (next ∷ cells)) cell
column_more rises role cell next cells =
    fold_column-merges rises role cell (next ∷ cells) ∙ ap (λ c. merge_cell rises role c cell) (sym (fold_column-merges rises role next cells))

-- the last row is the earliest
pub earliest_is : (place : ℕ) (rows : List Row) (i : ℕ) (row : Row) → row ≡ get_or rows i row → i + 1 ≡ length rows → cell_of place row ≡ earliest_cell (column_of place rows)
earliest_is place [] i row read last = absurd (omega (arith, last))
earliest_is place (x ∷ []) zero row read last = ap (cell_of place) read
earliest_is place (x ∷ []) (suc i) row read last = absurd (omega (arith, last))
earliest_is place (x ∷ y ∷ ys) zero row read last = absurd (omega (arith, last))
earliest_is place (x ∷ y ∷ ys) (suc i) row read last = earliest_is place (y ∷ ys) i row read (omega (arith, last))

-- room for a row's cell and the fold of the earlier ones
room_at : (rises : Bool) (role : Role) (place : ℕ) (rows : List Row) (i : ℕ) (row : Row) → row ≡ get_or rows i row → i + 1 < length rows → ColumnHasRoom rises role (column_of place rows) → HaveRoom role (fold_column rises role (column_of place (drop (suc i) rows))) (cell_of place row)
room_at rises role place [] i row read within room = absurd (omega (arith, within))
room_at rises role place (x ∷ []) i row read within room = absurd (omega (arith, within))
room_at rises role place (x ∷ y ∷ ys) zero row read within room = subst (λ r. HaveRoom role (fold_column rises role (column_of place (y ∷ ys))) (cell_of place r)) (sym read) room.0
room_at rises role place (x ∷ y ∷ ys) (suc i) row read within room = room_at rises role place (y ∷ ys) i row read (omega (arith, within)) room.1

-- the fold from a row on
column_at : (rises : Bool) (role : Role) (place : ℕ) (rows : List Row) (i : ℕ) (row : Row) → row ≡ get_or rows i row → i + 1 < length rows → fold_column rises role (column_of place (drop i rows)) ≡ merge_cell rises role (fold_column rises role (column_of place (drop (suc i) rows))) (cell_of place row)
column_at rises role place [] i row read within = absurd (omega (arith, within))
column_at rises role place (x ∷ []) i row read within = absurd (omega (arith, within))
column_at rises role place (x ∷ y ∷ ys) zero row read within =
    column_more rises role (cell_of place x) (cell_of place y) (column_of place ys) ∙ ap (λ r. merge_cell rises role (fold_column rises role (column_of place (y ∷ ys))) (cell_of place r)) (sym read)
column_at rises role place (x ∷ y ∷ ys) (suc i) row read within = column_at rises role place (y ∷ ys) i row read (omega (arith, within))

-- `at` is the place behind that of the row
module _ (place : ℕ) (rows : List Row) (i at : ℕ) (row : Row) (next : at ≡ suc i) (read : row ≡ get_or rows i row) (within : at < length rows) where
  gauge_is : (g : Option Parts) → cell_of_parts g ≡ fold_column true GaugeRole (column_of place (drop at rows)) → parts_of (fold_column true GaugeRole (column_of place (drop (suc i) rows))) ≡ g
  gauge_is g is = sym (ap parts_of (is ∙ ap (λ k. fold_column true GaugeRole (column_of place (drop k rows))) next)) ∙ parts_of-cell_of_parts g

  pub gauge_room : (g : Option Parts) → cell_of_parts g ≡ fold_column true GaugeRole (column_of place (drop at rows)) → ColumnHasRoom true GaugeRole (column_of place rows) → reach_of_parts g + reach_of_parts (parts_of (cell_of place row)) ≤ 2 ^ 120
  gauge_room g is room =
      subst (λ p. reach_of_parts p + reach_of_parts (parts_of (cell_of place row)) ≤ 2 ^ 120) (gauge_is g is) (room_at true GaugeRole place rows i row read (omega (arith, within, next)) room)

  pub gauge_more : (g : Option Parts) → cell_of_parts g ≡ fold_column true GaugeRole (column_of place (drop at rows)) → cell_of_parts (join_present_parts g (parts_of (cell_of place row))) ≡ fold_column true GaugeRole (column_of place (drop i rows))
  gauge_more g is =
      sym (column_at true GaugeRole place rows i row read (omega (arith, within, next)) ∙ ap (λ p. cell_of_parts (join_present_parts p (parts_of (cell_of place row)))) (gauge_is g is))

  rise_is : (r : Option Rise) → cell_of_rise r ≡ fold_column true Counter (column_of place (drop at rows)) → rise_of (fold_column true Counter (column_of place (drop (suc i) rows))) ≡ r
  rise_is r is = sym (ap rise_of (is ∙ ap (λ k. fold_column true Counter (column_of place (drop k rows))) next)) ∙ rise_of-cell_of_rise r

  pub rise_room : (r : Option Rise) → cell_of_rise r ≡ fold_column true Counter (column_of place (drop at rows)) → ColumnHasRoom true Counter (column_of place rows) → reach_of_rise r + reach_of_rise (rise_of (cell_of place row)) ≤ 2 ^ 120
  rise_room r is room =
      subst (λ p. reach_of_rise p + reach_of_rise (rise_of (cell_of place row)) ≤ 2 ^ 120) (rise_is r is) (room_at true Counter place rows i row read (omega (arith, within, next)) room)

  pub rise_more : (r : Option Rise) → cell_of_rise r ≡ fold_column true Counter (column_of place (drop at rows)) → cell_of_rise (join_present_rises r (rise_of (cell_of place row))) ≡ fold_column true Counter (column_of place (drop i rows))
  rise_more r is =
      sym (column_at true Counter place rows i row read (omega (arith, within, next)) ∙ ap (λ p. cell_of_rise (join_present_rises p (rise_of (cell_of place row)))) (rise_is r is))

-- a gauge is folded alike in schemas of either mark
pub gauge_room_any : (rises : Bool) (cells : List Cell) → ColumnHasRoom rises GaugeRole cells → ColumnHasRoom true GaugeRole cells
gauge_room_any rises [] room = tt
gauge_room_any rises (cell ∷ []) room = tt
gauge_room_any rises (cell ∷ next ∷ cells) room = (room.0, gauge_room_any rises (next ∷ cells) room.1)

-- the fold of the earliest row alone
pub one_left : (rises : Bool) (role : Role) (place : ℕ) (rows : List Row) (i : ℕ) (row : Row) → row ≡ get_or rows i row → i + 1 ≡ length rows → fold_column rises role (column_of place (drop i rows)) ≡ merge_column rises role (cell_of place row ∷ [])
one_left rises role place rows i row read last =
    ap (λ rs. fold_column rises role (column_of place rs)) (drop_read rows i row (omega (arith, last)) read ∙ ap (λ rs. row ∷ rs) (drop_all (i + 1) rows (omega (arith, last)))) ∙ fold_column-merges rises role (cell_of place row) []
