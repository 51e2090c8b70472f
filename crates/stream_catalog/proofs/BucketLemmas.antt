-- Buckets of instants, and the buckets of folds.
use Rattle.std.specs.Prelude.{ℕ, ℤ, pos, negsuc, ◌+ℤ◌, ◌≤ℤ◌, ◌<ℤ◌, ◌<◌, List, [], ◌∷◌, map, not}
use Rattle.std.proofs.Common.{arith}
use Rattle.std.proofs.lemmas.Int.{ints}
use Rattle.row_cells.specs.declared.schemas.Schema.{Schema}
use Rattle.row_cells.specs.declared.rows.Row.{Row}
use Rattle.row_cells.specs.Each.{Each}
use Rattle.row_cells.specs.EachLaws.{Each-filter}
use Rattle.row_cells.specs.RowLists.{in_row_order}
use Rattle.time_text.specs.Bucket.{bucket_start}
use Rattle.time_text.specs.Instant.{IsInstant}
use Rattle.time_text.specs.BucketLaws.{bucket_start-pos}
use Rattle.downsample_fold.specs.Direct.{down, fold_at}
use Rattle.row_cells.specs.OrderLaws.{in_row_order-each}
use Rattle.downsample_fold.specs.Places.{Place, place_of, same_place, places, rows_at}
use Rattle.stream_catalog.specs.Sound.{Meets, IsWithin}

-- a bucket begins at the latest at its instants
starts_before : (n : ℕ) (t : ℤ) → 0 < n → IsInstant t → bucket_start n t ≤ℤ t
starts_before n (pos a) some instant = rw (bucket_start-pos n a) (omega (arith, ints))
starts_before n (negsuc a) some instant = absurd (omega (arith, ints, instant.0))

-- and ends behind them
ends_behind : (n : ℕ) (t : ℤ) → 0 < n → IsInstant t → t <ℤ (bucket_start n t +ℤ pos n)
ends_behind n (pos a) some instant = rw (bucket_start-pos n a) (omega (arith, ints))
ends_behind n (negsuc a) some instant = absurd (omega (arith, ints, instant.0))

-- the bucket of an instant in a window meets it
pub meets_of : (n : ℕ) (start end t : ℤ) → 0 < n → IsInstant t → IsWithin start end t → Meets n start end (bucket_start n t)
meets_of n start end t some instant within =
    let before = starts_before n t some instant in
    let behind = ends_behind n t some instant in
    (omega (arith, ints, before, within.1), omega (arith, ints, behind, within.0))

module _ (Q : Place → Type 0) (n : ℕ) where
  places_each : (rows : List Row) → Each (λ row. Q (place_of n row)) rows → Each Q (places n rows)
  places_each [] each = tt
  places_each (row ∷ rows) each = (each.0, Each-filter Q (λ place. not (same_place (place_of n row) place)) (places n rows) (places_each rows each.1))

-- what holds of the starts of rows' buckets holds of the times of their fold
pub down_times : (P : ℤ → Type 0) (schema : Schema) (rows : List Row) (n : ℕ) → Each (λ row. P (bucket_start n row.time)) rows → Each (λ row. P row.time) (down schema rows n)
unfolding down
down_times P schema rows n each =
    let sorted = in_row_order rows in
    go sorted (places n sorted) (places_each (λ place. P place.start) n sorted (in_row_order-each (λ row. P (bucket_start n row.time)) rows each))
  where
    go : (all : List Row) (ps : List Place) → Each (λ place. P place.start) ps → Each (λ row. P row.time) (map (λ place. fold_at schema place (rows_at n place all)) ps)
    go all [] each = tt
    go all (p ∷ ps) each = (each.0, go all ps each.1)
