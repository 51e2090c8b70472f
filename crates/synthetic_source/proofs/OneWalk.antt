-- What a walk of a document holds.
use Rattle.std.proofs.Common.{◌≡◌, ◌<◌, ◌+◌, ℕ, suc, List, [], ◌∷◌, ◌++◌, add-one, drop, drop-cons, get_or, length, Bool, true, false, cond, ◌||◌, bytes_eq, Option, Some, None, refl, sym, ap, ◌∙◌, subst}
use Rattle.std.specs.List.{list_any}
use Rattle.std.specs.Cmp.Lexicographic.{slice_cmp}
use Rattle.std.specs.Ordering.{nat_cmp, match_ordering}
use Rattle.std.specs.declared.cmp.Ordering.{Ordering}
use Rattle.std.specs.declared.cmp.Ordering.TheVariants.{Less, Equal, Greater}
use Rattle.std.proofs.lemmas.Map.Lookups.{exact_bytes}
use Rattle.std.proofs.lemmas.Slice.Eq.{bytes_eq-Decides}
use Rattle.row_cells.specs.Dimensions.{IsBefore}
use Rattle.row_cells.specs.JoinLaws.{before_chain, before_of_after}
use Rattle.row_cells.specs.declared.schemas.Field.{Field}
use Rattle.serde_json.specs.Data.{Data, Members, member}
use Rattle.serde_json.specs.View.{view, items_view}
use Rattle.serde_json.specs.declared.value.Value.{Value}
use Rattle.json_walk.specs.Listed.{listed, listed_items, listed_members}
use Rattle.json_walk.specs.Path.{below}
use Rattle.ts_mapping.specs.Roles.{is_aggregate}
use Rattle.ts_mapping.specs.Schemas.{time_field}
use Rattle.synthetic_source.specs.Faults.{field_at, stops_of}
use Rattle.synthetic_source.specs.Gathered.{AreReadAs, by_field, leaves_after, paths_of, place_of, strays_of, with_leaf}
use Rattle.synthetic_source.specs.Places.{Place, Rise, RiseAfter, found_if, later_place, place_among}
use Rattle.synthetic_source.specs.Outcomes.{IsDecided, IsOutcome, IsSettled}
use Rattle.synthetic_source.specs.Strays.{seen_stray}
use Rattle.synthetic_source.specs.Walked.{Held, after, at_place, here_of, least_step, nothing_held, with_entry}
use Rattle.synthetic_source.specs.declared.errors.DocKind.{DocKind}
use Rattle.synthetic_source.specs.declared.reading.Cells.{Cells}
use Rattle.synthetic_source.specs.declared.typing.Outcome.{Outcome}
use Rattle.synthetic_source.specs.declared.typing.Stray.{Stray}
use Rattle.synthetic_source.proofs.Documents.{no_field, outcome_from, tail_rise}
use Rattle.synthetic_source.proofs.LeastPath.{IsLeast, least_after, lent_least}
use Rattle.synthetic_source.proofs.Search.{fields_rise}
use Rattle.json_walk.specs.WalkLaws.{listed_are_leaves}
use Rattle.row_cells.specs.declared.schemas.Schema.{Schema}
use Rattle.row_cells.specs.Fitting.{FieldsAscend}
use Rattle.row_cells.specs.WidenLaws.{apart, other_bytes, same_bytes}
use Rattle.synthetic_source.proofs.Leaves.{fields_have_all, leaf_nowhere}

pub after-append : (strict : Bool) (fields : List Field) (h : Held) (es gs : List (List ℕ × Data)) → after strict fields h (es ++ gs) ≡ after strict fields (after strict fields h es) gs
after-append strict fields h [] gs = refl
after-append strict fields h (e ∷ es) gs = after-append strict fields (with_entry strict fields h e.0 e.1) es gs

-- the place of a member
pub here-below : (b s : List ℕ) → here_of (b ++ 46 ∷ s) ≡ Some (below (here_of b) s)
here-below [] s = refl
here-below (c ∷ q) s = refl

-- each leaf goes to its field
slots-after : (strict : Bool) (fields : List Field) (es : List (List ℕ × Data)) (h : Held) → Rise (paths_of fields) → (after strict fields h es).slots ≡ leaves_after fields h.slots es
slots-after strict fields [] h rise = refl
slots-after strict fields (e ∷ es) h rise =
    slots-after strict fields es (with_entry strict fields h e.0 e.1) rise ∙ ap (λ lss. leaves_after fields lss es) (go (place_of e.0 fields) refl)
  where
    go : (o : Option ℕ) → place_of e.0 fields ≡ o → (at_place o strict fields h e.0 e.1).slots ≡ with_leaf fields e.0 e.1 h.slots
    go None none = sym (leaf_nowhere e.0 e.1 fields h.slots rise none)
    go (Some at) some = refl

pub slots-all : (strict : Bool) (fields : List Field) (es : List (List ℕ × Data)) (least : Option (DocKind × List ℕ)) → Rise (paths_of fields) → (after strict fields (record { slots = by_field fields []; least = least }) es).slots ≡ by_field fields es
slots-all strict fields es least rise = slots-after strict fields es (record { slots = by_field fields []; least = least }) rise ∙ fields_have_all fields es

-- ---- objects that are taken whole

stop_later : (p q : List ℕ) (fs : List Field) → IsBefore p q → RiseAfter q (paths_of fs) → list_any (λ s. bytes_eq s p) (stops_of fs) ≡ false
stop_later p q [] before rise = refl
stop_later p q (f ∷ fs) before rise =
    let on = before_chain p q f.path before rise.0 in go (is_aggregate f.kind) (other_bytes f.path p (λ same. apart p f.path on (sym same))) (stop_later p f.path fs on rise.1)
  where
    go : (v : Bool) → bytes_eq f.path p ≡ false → list_any (λ s. bytes_eq s p) (stops_of fs) ≡ false → list_any (λ s. bytes_eq s p) (cond v (f.path ∷ stops_of fs) (stops_of fs)) ≡ false
    go true differ none = ap (λ b. b || list_any (λ s. bytes_eq s p) (stops_of fs)) differ ∙ none
    go false differ none = none

abbrev pub stop_by : Option Field → Bool
stop_by None = false
stop_by (Some f) = is_aggregate f.kind

-- the stops are the places of the aggregates
stops_at : (p : List ℕ) (fs : List Field) → Rise (paths_of fs) → list_any (λ s. bytes_eq s p) (stops_of fs) ≡ stop_by (field_at p fs)
stops_at p [] rise = refl
stops_at p (f ∷ fs) rise = go (bytes_eq p f.path) refl (stops_at p fs (tail_rise f.path fs rise))
  where
    here : (v : Bool) → list_any (λ s. bytes_eq s p) (stops_of fs) ≡ false → bytes_eq f.path p ≡ true → list_any (λ s. bytes_eq s p) (cond v (f.path ∷ stops_of fs) (stops_of fs)) ≡ v
    here true none same = ap (λ b. b || list_any (λ s. bytes_eq s p) (stops_of fs)) same
    here false none same = none

    other : (v : Bool) → bytes_eq f.path p ≡ false → list_any (λ s. bytes_eq s p) (cond v (f.path ∷ stops_of fs) (stops_of fs)) ≡ list_any (λ s. bytes_eq s p) (stops_of fs)
    other true differ = ap (λ b. b || list_any (λ s. bytes_eq s p) (stops_of fs)) differ
    other false differ = refl

    go : (v : Bool) → bytes_eq p f.path ≡ v → list_any (λ s. bytes_eq s p) (stops_of fs) ≡ stop_by (field_at p fs)
        → list_any (λ s. bytes_eq s p) (stops_of (f ∷ fs)) ≡ stop_by (cond v (Some f) (field_at p fs))
    go true is later =
        let same = (bytes_eq-Decides p f.path).0 is in
        here (is_aggregate f.kind) (subst (λ q. list_any (λ s. bytes_eq s q) (stops_of fs) ≡ false) (sym same) (later_than f.path fs rise)) (same_bytes f.path p (sym same))
      where
        later_than : (q : List ℕ) (gs : List Field) → RiseAfter q (paths_of gs) → list_any (λ s. bytes_eq s q) (stops_of gs) ≡ false
        later_than q [] after = refl
        later_than q (g ∷ gs) after = by (is_aggregate g.kind) (other_bytes g.path q (λ e. apart q g.path after.0 (sym e))) (stop_later q g.path gs after.0 after.1)
          where
            by : (v : Bool) → bytes_eq g.path q ≡ false → list_any (λ s. bytes_eq s q) (stops_of gs) ≡ false → list_any (λ s. bytes_eq s q) (cond v (g.path ∷ stops_of gs) (stops_of gs)) ≡ false
            by true differ none = ap (λ b. b || list_any (λ s. bytes_eq s q) (stops_of gs)) differ ∙ none
            by false differ none = none
    go false is later = other (is_aggregate f.kind) (other_bytes f.path p (λ same. absurd (true_false (sym (same_bytes p f.path (sym same)) ∙ is)))) ∙ later
      where
        true_false : true ≡ false → ⊥
        true_false e = cc

pub stop_none : (p : List ℕ) (fs : List Field) → Rise (paths_of fs) → place_of p fs ≡ None → list_any (λ s. bytes_eq s p) (stops_of fs) ≡ false
stop_none p fs rise none = stops_at p fs rise ∙ ap stop_by (no_field p fs rise none)

-- the field of a place
field_of_place : (p : List ℕ) (fs : List Field) (at : ℕ) (d : Field) → Rise (paths_of fs) → place_of p fs ≡ Some at → field_at p fs ≡ Some (get_or fs at d)
field_of_place p [] at d rise some = cc
field_of_place p (f ∷ fs) at d rise some = go (slice_cmp nat_cmp p f.path) refl some (λ n. field_of_place p fs n d (tail_rise f.path fs rise))
  where
    later : (q : Place) (at : ℕ) → found_if q.found (suc q.at) ≡ Some at → ((n : ℕ) → found_if q.found q.at ≡ Some n → field_at p fs ≡ Some (get_or fs n d)) → field_at p fs ≡ Some (get_or (f ∷ fs) at d)
    later q at some rest = by q.found some rest
      where
        by : (b : Bool) → found_if b (suc q.at) ≡ Some at → ((n : ℕ) → found_if b q.at ≡ Some n → field_at p fs ≡ Some (get_or fs n d)) → field_at p fs ≡ Some (get_or (f ∷ fs) at d)
        by true some rest = let same : suc q.at ≡ at = cc in rest q.at refl ∙ ap (λ n. Some (get_or (f ∷ fs) n d)) same
        by false some rest = cc

    go : (o : Ordering) → slice_cmp nat_cmp p f.path ≡ o
        → found_if (match_ordering o (record { at = 0; found = false }) (record { at = 0; found = true }) (later_place (place_among p (paths_of fs)))).found (match_ordering o (record { at = 0; found = false }) (record { at = 0; found = true }) (later_place (place_among p (paths_of fs)))).at ≡ Some at
        → ((n : ℕ) → place_of p fs ≡ Some n → field_at p fs ≡ Some (get_or fs n d)) → field_at p (f ∷ fs) ≡ Some (get_or (f ∷ fs) at d)
    go Less is some rest = cc
    go Equal is some rest =
        let first : 0 ≡ at = cc in
        ap (λ b. cond b (Some f) (field_at p fs)) (same_bytes p f.path (exact_bytes p f.path is)) ∙ ap (λ n. Some (get_or (f ∷ fs) n d)) first
    go Greater is some rest =
        ap (λ b. cond b (Some f) (field_at p fs)) (other_bytes p f.path (λ same. apart f.path p (before_of_after p f.path is) (sym same))) ∙ later (place_among p (paths_of fs)) at some rest

pub stop_some : (p : List ℕ) (fs : List Field) (at : ℕ) (d : Field) → Rise (paths_of fs) → place_of p fs ≡ Some at → list_any (λ s. bytes_eq s p) (stops_of fs) ≡ is_aggregate (get_or fs at d).kind
stop_some p fs at d rise some = stops_at p fs rise ∙ ap stop_by (field_of_place p fs at d rise some)

-- ---- steps

pub held_put : (strict : Bool) (fields : List Field) (h : Held) (p : List ℕ) (d : Data) (at : ℕ) (slots : List (List Data)) → place_of p fields ≡ Some at → slots ≡ with_leaf fields p d h.slots
    → record { slots = slots; least = h.least } ≡ with_entry strict fields h p d
held_put strict fields h p d at slots some is = ap (λ xs. record { slots = xs; least = h.least }) is ∙ sym (ap (λ o. at_place o strict fields h p d) some)

-- a path that was told already changes nothing
pub held_told : (strict : Bool) (fields : List Field) (h : Held) (p : List ℕ) (d : Data) → place_of p fields ≡ None → least_step strict fields p h.least ≡ h.least → h ≡ with_entry strict fields h p d
held_told strict fields h p d nowhere settled = sym (ap (λ o. at_place o strict fields h p d) nowhere ∙ ap (λ l. record { slots = h.slots; least = l }) settled)

go_on : (strict : Bool) (fields : List Field) (h g : Held) (es gs : List (List ℕ × Data)) → g ≡ after strict fields h es → after strict fields g gs ≡ after strict fields h (es ++ gs)
go_on strict fields h g es gs is = ap (λ x. after strict fields x gs) is ∙ sym (after-append strict fields h es gs)

pub items_step : (strict : Bool) (fields : List Field) (stops : List (List ℕ)) (here now : List ℕ) (h g all : Held) (x : Value) (left rest : List Value) → now ≡ here → left ≡ x ∷ rest
    → g ≡ after strict fields h (listed stops (here_of now) (view x)) → after strict fields h (listed_items stops (here_of here) (items_view left)) ≡ all
    → after strict fields g (listed_items stops (here_of here) (items_view rest)) ≡ all
items_step strict fields stops here now h g all x left rest same opens is held =
    go_on strict fields h g (listed stops (here_of here) (view x)) (listed_items stops (here_of here) (items_view rest)) (subst (λ b. g ≡ after strict fields h (listed stops (here_of b) (view x))) same is)
    ∙ (ap (λ xs. after strict fields h (listed_items stops (here_of here) (items_view xs))) (sym opens) ∙ held)

pub members_step : (strict : Bool) (fields : List Field) (stops : List (List ℕ)) (here now inner s : List ℕ) (h g all : Held) (d : Data) (left rest : Members) → now ≡ here → inner ≡ now ++ 46 ∷ s → left ≡ member s d rest
    → g ≡ after strict fields h (listed stops (here_of inner) d) → after strict fields h (listed_members stops (here_of here) left) ≡ all
    → after strict fields g (listed_members stops (here_of here) rest) ≡ all
members_step strict fields stops here now inner s h g all d left rest same goes opens is held =
    let place : here_of inner ≡ Some (below (here_of here) s) = ap here_of goes ∙ (here-below now s ∙ ap (λ b. Some (below (here_of b) s)) same) in
    go_on strict fields h g (listed stops (Some (below (here_of here) s)) d) (listed_members stops (here_of here) rest) (subst (λ o. g ≡ after strict fields h (listed stops o d)) place is)
    ∙ (ap (λ ms. after strict fields h (listed_members stops (here_of here) ms)) (sym opens) ∙ held)

-- ---- all of a document

walked_outcome : (schema : Schema) (strict : Bool) (d : Data) (fields : List Field) (walked : Held) (lss : List (List Data)) (stray : Option Stray) (cells : Cells) (o : Outcome) (any : Field)
    → FieldsAscend schema.fields → fields ≡ schema.fields → walked ≡ after strict fields (nothing_held fields) (listed (stops_of fields) None d)
    → lss ≡ walked.slots → seen_stray stray ≡ walked.least → AreReadAs fields lss cells → IsDecided fields cells stray o → IsOutcome schema strict d o
walked_outcome schema strict d fields walked lss stray cells o any ascend same is is_lss is_stray read decided =
    let rise = subst (λ fs. Rise (paths_of fs)) (sym same) (fields_rise schema.fields ascend) in
    let es = listed (stops_of fields) None d in
    outcome_from schema strict d fields (stops_of fields) es lss (strays_of fields es) stray cells o any ascend same refl (listed_are_leaves (stops_of fields) d)
    (is_lss ∙ (ap (λ h. h.slots) is ∙ slots-all strict fields es None rise)) refl
    (lent_least strict fields (strays_of fields es) stray (subst (IsLeast strict fields (strays_of fields es)) (sym (is_stray ∙ ap (λ h. h.least) is)) (least_after strict fields es (nothing_held fields) [] tt)))
    read decided

pub walked_slots : (strict : Bool) (d : Data) (fields : List Field) (walked : Held) → FieldsAscend fields → walked ≡ after strict fields (nothing_held fields) (listed (stops_of fields) None d) → walked.slots ≡ by_field fields (listed (stops_of fields) None d)
walked_slots strict d fields walked ascend is = ap (λ h. h.slots) is ∙ slots-all strict fields (listed (stops_of fields) None d) None (fields_rise fields ascend)

pub settled_outcome : (schema : Schema) (strict : Bool) (d : Data) (fields : List Field) (walked : Held) (o : Outcome) → FieldsAscend schema.fields → fields ≡ schema.fields
    → walked ≡ after strict fields (nothing_held fields) (listed (stops_of fields) None d) → IsSettled fields walked o → IsOutcome schema strict d o
settled_outcome schema strict d fields walked o ascend same is settled =
    walked_outcome schema strict d fields walked walked.slots settled.stray settled.cells o time_field ascend same is refl settled.least settled.read settled.decided

-- what is left of a list begins with the element at hand
pub drop_here : {S : Type 0} (xs : List S) (i : ℕ) (x : S) → i < length xs → x ≡ get_or xs i x → drop i xs ≡ x ∷ drop (i + 1) xs
drop_here xs i x lt is = rw (add-one, drop-cons xs i x, ← is) refl
