-- Which names are taken, and which template a name takes.
use Rattle.std.specs.Prelude.{ℕ, Bool, ◌||◌, ◌&&◌, nat_lt, nat_eq, List, [], ◌∷◌, ◌++◌, map, bytes_eq, Option, Some, None, if◌then◌else◌}
use Rattle.std.specs.List.{list_any}
use Rattle.std.specs.Ordering.{is_le, nat_cmp}
use Rattle.std.specs.Cmp.Lexicographic.{slice_cmp}
use Rattle.index_names.specs.Patterns.{pattern_takes}
use Rattle.ts_mapping.specs.declared.templates.Template.{Template}
use Rattle.stream_catalog.specs.Plain.{PlainFacts}

-- ---- names that are taken

-- the names of streams and indices, and those that running tasks are going to give
abbrev pub names_of : PlainFacts → List (List ℕ)
names_of f = map (λ s. s.facts.name) f.streams ++ map (λ i. i.name) f.indices ++ map (λ t. t.target) f.tasks

abbrev pub is_taken : List ℕ → PlainFacts → Bool
is_taken n f = list_any (bytes_eq n) (names_of f)

-- ---- the template of a new stream

abbrev pub matches : List ℕ → Template → Bool
matches name t = list_any (λ pattern. pattern_takes pattern name) t.patterns

-- the greater priority goes first, and else the lesser name
abbrev pub outranks : Template → Template → Bool
outranks t u = nat_lt u.priority t.priority || (nat_eq u.priority t.priority && is_le (slice_cmp nat_cmp t.name u.name))

abbrev pub better_of : Template → Option Template → Template
better_of t None = t
better_of t (Some u) = if outranks t u then t else u

-- the template that a stream of this name takes
abbrev pub template_for : List ℕ → List Template → Option Template
template_for name [] = None
template_for name (t ∷ ts) = if matches name t then Some (better_of t (template_for name ts)) else template_for name ts
