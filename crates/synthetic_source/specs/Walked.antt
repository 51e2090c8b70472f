-- What a walk of a document holds; for private clauses.
use Rattle.std.specs.Prelude.{ℕ, Bool, true, List, [], ◌∷◌, map, Option, Some, None, option_map, if◌then◌else◌}
use Rattle.std.specs.Cmp.Lexicographic.{slice_cmp}
use Rattle.std.specs.Ordering.{nat_cmp, is_lt}
use Rattle.row_cells.specs.declared.schemas.Field.{Field}
use Rattle.serde_json.specs.Data.{Data}
use Rattle.synthetic_source.specs.Faults.{stray_fault}
use Rattle.synthetic_source.specs.Gathered.{by_field, place_of, slot_leaves, with_leaf}
use Rattle.synthetic_source.specs.declared.errors.DocKind.{DocKind}
use Rattle.synthetic_source.specs.declared.strays.LeastFault.{LeastFault}
use Rattle.synthetic_source.specs.declared.walking.Walk.{Walk}

-- the place of a list of levels, a dot and a name each; the document itself has none
abbrev pub here_of : List ℕ → Option (List ℕ)
here_of [] = None
here_of (dot ∷ path) = Some path

-- the leaves of each field, and the least path with a fault where no field is
pub record Held : Type 0 where
  pub slots : List (List Data)
  pub least : Option (DocKind × List ℕ)

abbrev pub nothing_held : List Field → Held
nothing_held fields = record { slots = by_field fields []; least = None }

-- a path stands before that of the fault that is held
abbrev pub comes_first : List ℕ → Option (DocKind × List ℕ) → Bool
comes_first p None = true
comes_first p (Some f) = is_lt (slice_cmp nat_cmp p f.1)

abbrev pub or_held : Option DocKind → List ℕ → Option (DocKind × List ℕ) → Option (DocKind × List ℕ)
or_held None p held = held
or_held (Some kind) p held = Some (kind, p)

-- the fault at a path, where it is the least so far
abbrev pub least_step : Bool → List Field → List ℕ → Option (DocKind × List ℕ) → Option (DocKind × List ℕ)
least_step strict fields p held = if comes_first p held then or_held (stray_fault strict fields p) p held else held

abbrev pub at_place : Option ℕ → Bool → List Field → Held → List ℕ → Data → Held
at_place None strict fields h p d = record { slots = h.slots; least = least_step strict fields p h.least }
at_place (Some at) strict fields h p d = record { slots = with_leaf fields p d h.slots; least = h.least }

-- one leaf more
abbrev pub with_entry : Bool → List Field → Held → List ℕ → Data → Held
with_entry strict fields h p d = at_place (place_of p fields) strict fields h p d

abbrev pub after : Bool → List Field → Held → List (List ℕ × Data) → Held
after strict fields h [] = h
after strict fields h (e ∷ es) = after strict fields (with_entry strict fields h e.0 e.1) es

abbrev pub seen_fault : Option LeastFault → Option (DocKind × List ℕ)
seen_fault f = option_map (λ g. (g.kind, g.path.items)) f

abbrev pub seen_walk : Walk → Held
seen_walk w = record { slots = map slot_leaves w.slots.items; least = seen_fault w.strays.least }
