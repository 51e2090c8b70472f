-- The key of a document's cells, or why they have none.
use Rattle.std.specs.Prelude.{◌≡◌, ℕ, ◌<◌, nat_le, if◌then◌else◌, true, false, List, length}
use Rattle.std.specs.declared.result.Result.{Result}
use Rattle.std.specs.declared.result.Result.TheVariants.{Ok, Err}
use Rattle.row_cells.specs.declared.schemas.Schema.{Schema}
use Rattle.row_cells.specs.declared.rows.Cell.{Cell}
use Rattle.row_cells.specs.Limits.{longest_key}
use Rattle.row_cells.specs.Mapped.{is_routed, series_bytes}
use Rattle.series_id.specs.declared.keys.KeyError.{KeyError}
use Rattle.series_id.specs.declared.keys.KeyError.TheVariants.{NoRouting, KeyTooLong, NoMemory}

-- what a call that makes the key answers in its place
abbrev pub IsKeyFault : Schema → List Cell → KeyError → Type 0
IsKeyFault schema cells NoRouting = is_routed schema cells ≡ false
IsKeyFault schema cells (KeyTooLong bytes) = (is_routed schema cells ≡ true) × (length (series_bytes schema cells) ≡ bytes) × (longest_key < bytes)
IsKeyFault schema cells NoMemory = Unit {0}

-- the key of cells, or why they have none: first that no routing field is present, then that the key would be too long
abbrev pub keyed : Schema → List Cell → Result (List ℕ) KeyError
keyed schema cells =
    if is_routed schema cells then
    (if nat_le (length (series_bytes schema cells)) longest_key then Ok (series_bytes schema cells) else Err (KeyTooLong (length (series_bytes schema cells))))
    else Err NoRouting

-- why a call answers no key: it is what keeps the cells from having one, or want of memory, which is free
abbrev pub IsKeyCause : Result (List ℕ) KeyError → KeyError → Type 0
IsKeyCause outcome NoMemory = Unit {0}
IsKeyCause outcome error = outcome ≡ Err error
