-- Items that a body lends, and what lies behind them.
use Rattle.std.specs.Prelude.{◌≡◌, ℕ, ◌+◌, ◌<◌, ◌≤◌, ◌^◌, List, [], ◌∷◌, length, Option, Some, None, Result, Ok, Err}
use Rattle.std.specs.Option.{option_map}
use Rattle.bulk_json.specs.Items.{ahead_of}
use Rattle.bulk_json.specs.declared.errors.BulkError.{BulkError}
use Rattle.bulk_json.specs.declared.items.Item.{Item}
use Rattle.bulk_json.specs.declared.items.LentItem.{LentItem}
use Rattle.bulk_json.specs.declared.items.BulkLines.{BulkLines}

abbrev pub path_in : BulkLines → Option (List ℕ)
path_in lines = option_map (λ s. s.now) lines.path

-- the items that are ahead, or the first fault
abbrev pub ahead_in : BulkLines → Result (List Item) BulkError
ahead_in lines = ahead_of (path_in lines) lines.number lines.rest.now

-- the fault of some items, if they have one
abbrev pub fault_in : Result (List Item) BulkError → Option BulkError
fault_in (Ok items) = None
fault_in (Err e) = Some e

-- an item with its source as a list of bytes
abbrev pub seen_item : LentItem → Item
seen_item i = record { action = i.action; stream = i.stream; source = option_map (λ s. s.now) i.source }

abbrev pub lent : Option LentItem → List Item
lent None = []
lent (Some i) = seen_item i ∷ []

-- lines can be counted to the end
abbrev pub HasRoom : BulkLines → Type 0
HasRoom lines = lines.number + length lines.rest.now < 2 ^ 64

-- the same body further on
pub record IsBehind (ahead lines : BulkLines) : Type 0 where
  pub path : path_in ahead ≡ path_in lines
  pub shorter : length ahead.rest.now < length lines.rest.now
  pub few : ahead.number + length ahead.rest.now ≤ lines.number + length lines.rest.now
