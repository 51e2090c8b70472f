-- The action lines that are told by their bytes; for private clauses.
use Rattle.std.specs.Prelude.{ℕ, List, [], ◌∷◌, ◌++◌, codes, Option}
use Rattle.std.specs.Option.{option_map}
use Rattle.bulk_json.specs.declared.action.Action.TheVariants.{Create}
use Rattle.bulk_json.specs.declared.action.Asked.{Asked}

-- {"create":{}}
abbrev pub usual_line : List ℕ
usual_line = 123 ∷ 34 ∷ (codes "create" ++ (34 ∷ 58 ∷ 123 ∷ 125 ∷ 125 ∷ []))

-- a new document of the path's stream
abbrev pub usual_asked : Option (List ℕ) → Option Asked
usual_asked path = option_map (λ stream. record { action = Create; stream = stream }) path

-- {"create":{"_index":"
abbrev pub named_front : List ℕ
named_front = 123 ∷ 34 ∷ (codes "create" ++ (34 ∷ 58 ∷ 123 ∷ 34 ∷ (codes "_index" ++ (34 ∷ 58 ∷ 34 ∷ []))))

-- "}}
abbrev pub named_end : List ℕ
named_end = 34 ∷ 125 ∷ 125 ∷ []

-- {"create":{"_index":"<name>"}}
abbrev pub named_line : List ℕ → List ℕ
named_line name = named_front ++ (name ++ named_end)

-- a new document of the stream that it names
abbrev pub named_asked : List ℕ → Asked
named_asked name = record { action = Create; stream = name }
