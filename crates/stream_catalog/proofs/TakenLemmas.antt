-- Which names are taken, part by part.
use Rattle.std.specs.Prelude.{◌≡◌, ℕ, ◌||◌, Bool, true, false, List, [], ◌∷◌, ◌++◌, map, Option, Some, None, if◌then◌else◌, bytes_eq}
use Rattle.std.specs.List.{list_any}
use Rattle.std.specs.Option.{is_some}
use Rattle.std.proofs.Common.{refl, ap, ◌∙◌}
use Rattle.std.proofs.lemmas.Bool.{both_ways, false_from_ne_true}
use Rattle.std.proofs.lemmas.List.Folds.{list_any-append}
use Rattle.stream_catalog.specs.declared.facts.TaskFacts.{TaskFacts}
use Rattle.stream_catalog.specs.Plain.{PlainFacts}
use Rattle.stream_catalog.specs.Lists.{found_by, facts_name, stream_name, facts_named, stream_named}
use Rattle.stream_catalog.specs.Names.{is_taken}
use Rattle.stream_catalog.proofs.CountLemmas.{bytes_eq-sym}

any_named : {A : Type 0} (name : A → List ℕ) (n : List ℕ) (xs : List A) → list_any (bytes_eq n) (map name xs) ≡ is_some (found_by name n xs)
any_named name n [] = refl
any_named name n (x ∷ xs) = ap (λ b. b || list_any (bytes_eq n) (map name xs)) (bytes_eq-sym n (name x)) ∙ by_test (bytes_eq (name x) n) (any_named name n xs)
  where
    by_test : (b : Bool) → list_any (bytes_eq n) (map name xs) ≡ is_some (found_by name n xs) → (b || list_any (bytes_eq n) (map name xs)) ≡ is_some (if b then Some x else found_by name n xs)
    by_test true later = refl
    by_test false later = later

abbrev pub is_target_of : List ℕ → List TaskFacts → Bool
is_target_of n ts = list_any (bytes_eq n) (map (λ (t : TaskFacts). t.target) ts)

abbrev targets : PlainFacts → List (List ℕ)
targets f = map (λ t. t.target) f.tasks

taken_told : (n : List ℕ) (f : PlainFacts) → is_taken n f ≡ ((is_some (stream_named n f.streams) || is_some (facts_named n f.indices)) || list_any (bytes_eq n) (targets f))
taken_told n f =
    list_any-append (bytes_eq n) (map stream_name f.streams ++ map facts_name f.indices) (targets f)
    ∙ ap (λ b. b || list_any (bytes_eq n) (targets f))
    (list_any-append (bytes_eq n) (map stream_name f.streams) (map facts_name f.indices)
    ∙ (ap (λ b. b || list_any (bytes_eq n) (map facts_name f.indices)) (any_named stream_name n f.streams)
    ∙ ap (λ b. is_some (stream_named n f.streams) || b) (any_named facts_name n f.indices)))

pub taken_stream : (n : List ℕ) (f : PlainFacts) → is_some (stream_named n f.streams) ≡ true → is_taken n f ≡ true
taken_stream n f is = taken_told n f ∙ rw is refl

either : (a b : Bool) → b ≡ true → (a || b) ≡ true
either true b is = refl
either false b is = is

pub taken_index : (n : List ℕ) (f : PlainFacts) → is_some (facts_named n f.indices) ≡ true → is_taken n f ≡ true
taken_index n f is = taken_told n f ∙ ap (λ b. b || list_any (bytes_eq n) (targets f)) (either (is_some (stream_named n f.streams)) (is_some (facts_named n f.indices)) is)

pub taken_target : (n : List ℕ) (f : PlainFacts) → is_some (stream_named n f.streams) ≡ false → is_some (facts_named n f.indices) ≡ false → is_taken n f ≡ is_target_of n f.tasks
taken_target n f no_stream no_index = taken_told n f ∙ rw (no_stream, no_index) refl

-- ---- what isn't taken

none_of : {A : Type 0} (o : Option A) → is_some o ≡ false → o ≡ None
none_of None is = refl
none_of (Some a) is = cc

pub free_stream : (n : List ℕ) (f : PlainFacts) → is_taken n f ≡ false → stream_named n f.streams ≡ None
free_stream n f free = none_of (stream_named n f.streams) (false_from_ne_true (is_some (stream_named n f.streams)) (λ is. both_ways (is_taken n f) free (taken_stream n f is)))

pub free_index : (n : List ℕ) (f : PlainFacts) → is_taken n f ≡ false → facts_named n f.indices ≡ None
free_index n f free = none_of (facts_named n f.indices) (false_from_ne_true (is_some (facts_named n f.indices)) (λ is. both_ways (is_taken n f) free (taken_index n f is)))
