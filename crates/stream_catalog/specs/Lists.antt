-- Lists of things that have names, and tests one after another.
use Rattle.std.specs.Prelude.{ℕ, Bool, true, false, not, List, [], ◌∷◌, filter, Option, Some, None, if◌then◌else◌, bytes_eq}
use Rattle.std.specs.List.{filter_map}
use Rattle.std.specs.Ordering.{is_le, nat_cmp}
use Rattle.std.specs.Cmp.Lexicographic.{slice_cmp}
use Rattle.stream_catalog.specs.Plain.{PlainIndex, PlainStream, PlainCatalog}
use Rattle.stream_catalog.specs.declared.answers.Refusal.{Refusal}
use Rattle.stream_catalog.specs.declared.facts.HeldIndex.{HeldIndex}
use Rattle.ts_mapping.specs.declared.templates.Template.{Template}

-- ---- tests

abbrev pub when : {A : Type 0} → Bool → A → Option A
when true a = Some a
when false a = None

-- b where there is nothing, else what f says of it
abbrev pub on_found : {A B : Type 0} → Option A → B → (A → Option B) → Option B
on_found None b f = Some b
on_found (Some a) b f = f a

-- b where there is nothing, else what f makes of it
abbrev pub with_found : {A B : Type 0} → Option A → B → (A → B) → B
with_found None b f = b
with_found (Some a) b f = f a

-- of tests in their order the first that refuses
abbrev pub first_refusal : List (Option Refusal) → Option Refusal
first_refusal [] = None
first_refusal (Some refusal ∷ rest) = Some refusal
first_refusal (None ∷ rest) = first_refusal rest

-- ---- by name

-- the first of a name
abbrev pub found_by : {A : Type 0} → (A → List ℕ) → List ℕ → List A → Option A
found_by name n [] = None
found_by name n (x ∷ xs) = if bytes_eq (name x) n then Some x else found_by name n xs

-- the first of a name changed
abbrev pub updated : {A : Type 0} → (A → List ℕ) → List ℕ → (A → A) → List A → List A
updated name n g [] = []
updated name n g (x ∷ xs) = if bytes_eq (name x) n then g x ∷ xs else x ∷ updated name n g xs

-- one put among others by name
abbrev pub inserted : {A : Type 0} → (A → List ℕ) → A → List A → List A
inserted name x [] = x ∷ []
inserted name x (y ∷ ys) = if is_le (slice_cmp nat_cmp (name x) (name y)) then x ∷ y ∷ ys else y ∷ inserted name x ys

-- all but those of a name
abbrev pub without : {A : Type 0} → (A → List ℕ) → List ℕ → List A → List A
without name n xs = filter (λ x. not (bytes_eq (name x) n)) xs

-- ---- templates, streams, indices

abbrev pub template_name : Template → List ℕ
template_name t = t.name

abbrev pub stream_name : PlainStream → List ℕ
stream_name s = s.facts.name

abbrev pub facts_name : HeldIndex → List ℕ
facts_name f = f.name

abbrev pub index_name : PlainIndex → List ℕ
index_name i = i.facts.name

abbrev pub template_named : List ℕ → List Template → Option Template
template_named = found_by template_name

abbrev pub stream_named : List ℕ → List PlainStream → Option PlainStream
stream_named = found_by stream_name

abbrev pub facts_named : List ℕ → List HeldIndex → Option HeldIndex
facts_named = found_by facts_name

abbrev pub index_named : List ℕ → List PlainIndex → Option PlainIndex
index_named = found_by index_name

-- the members of a stream
abbrev pub members_of : PlainCatalog → PlainStream → List PlainIndex
members_of c s = filter_map (λ n. index_named n c.indices) s.facts.members
