-- The items of a bulk body, or its first fault.
use Rattle.std.specs.Prelude.{ℕ, ◌+◌, List, [], ◌∷◌, ◌++◌, if◌then◌else◌, Option, Some, None, Result, Ok, Err}
use Rattle.bulk_json.specs.Lines.{is_blank, lines_of}
use Rattle.bulk_json.specs.Actions.{takes_source, asked_of}
use Rattle.bulk_json.specs.declared.action.Asked.{Asked}
use Rattle.bulk_json.specs.declared.items.Item.{Item}
use Rattle.bulk_json.specs.declared.errors.BulkError.{BulkError}
use Rattle.bulk_json.specs.declared.errors.BulkError.TheVariants.{BadAction, MissingSource, Empty}

-- these items, and then the others
abbrev pub onto : List Item → Result (List Item) BulkError → Result (List Item) BulkError
onto items (Ok others) = Ok (items ++ others)
onto items (Err e) = Err e

abbrev pub item : Asked → Option (List ℕ) → Item
item asked source = record { action = asked.action; stream = asked.stream; source = source }

-- what an action gives; a line that is none is the fault
abbrev pub items_by : ℕ → Option Asked → (Asked → Result (List Item) BulkError) → Result (List Item) BulkError
items_by n None given = Err (BadAction n)
items_by n (Some asked) given = given asked

-- The items of lines, of which the first has the number n. A blank line in an action's place is passed. The line after an
-- action is its source, whatever it is, unless the action takes none.
abbrev mutual
  pub items_from : Option (List ℕ) → ℕ → List (List ℕ) → Result (List Item) BulkError
  items_from path n [] = Ok []
  items_from path n (line ∷ lines) =
      if is_blank line then items_from path (n + 1) lines
      else items_by n (asked_of path line) (λ asked.
      if takes_source asked.action then with_source path n asked lines
      else onto (item asked None ∷ []) (items_from path (n + 1) lines))

  pub with_source : Option (List ℕ) → ℕ → Asked → List (List ℕ) → Result (List Item) BulkError
  with_source path n asked [] = Err (MissingSource n)
  with_source path n asked (source ∷ lines) = onto (item asked (Some source) ∷ []) (items_from path (n + 1 + 1) lines)

-- what bytes give whose first line has the number n; for private clauses
abbrev pub ahead_of : Option (List ℕ) → ℕ → List ℕ → Result (List Item) BulkError
ahead_of path n bytes = items_from path n (lines_of bytes)

abbrev pub some_items : Result (List Item) BulkError → Result (List Item) BulkError
some_items (Ok []) = Err Empty
some_items (Ok (first ∷ others)) = Ok (first ∷ others)
some_items (Err e) = Err e

-- the items of a body, at least one
unfoldable pub bulk_of : Option (List ℕ) → List ℕ → Result (List Item) BulkError
bulk_of path body = some_items (ahead_of path 1 body)
