-- A document's row, or its one fault.
use Rattle.std.proofs.Common.{◌≡◌, ℤ, pos, ℕ, List, [], ◌∷◌, map, filter, Bool, true, false, cond, bytes_eq, Some, None, refl, sym, ap, ◌∙◌, subst, inl, inr}
use Rattle.std.specs.Prelude.{unwrap_or}
use Rattle.std.specs.declared.result.Result.TheVariants.{Ok, Err}
use Rattle.std.specs.BTreeSet.{insert_key}
use Rattle.std.specs.Cmp.Lexicographic.{slice_cmp}
use Rattle.std.specs.Ordering.{nat_cmp, match_ordering}
use Rattle.std.specs.declared.cmp.Ordering.{Ordering}
use Rattle.std.specs.declared.cmp.Ordering.TheVariants.{Less, Equal, Greater}
use Rattle.std.proofs.lemmas.Map.Lookups.{exact_bytes}
use Rattle.std.proofs.lemmas.Slice.Eq.{bytes_eq-Decides}
use Rattle.row_cells.specs.Dimensions.{IsBefore}
use Rattle.row_cells.specs.JoinLaws.{before_chain, before_of_after}
use Rattle.row_cells.specs.declared.rows.Cell.{Cell}
use Rattle.row_cells.specs.declared.schemas.Schema.{Schema}
use Rattle.serde_json.specs.Data.{Data}
use Rattle.json_walk.specs.Leaves.{AreLeaves, leaves_of, placed_at}
use Rattle.json_walk.specs.Listed.{listed}
use Rattle.json_walk.specs.Paths.{with_paths}
use Rattle.json_walk.specs.WalkLaws.{listed_are_leaves}
use Rattle.ts_mapping.specs.Paths.{timestamp}
use Rattle.synthetic_source.specs.Document.{IsFaultOf, cells_unless, document_cells, document_of, first_fault, leaf_paths, or_next, row_with, timed_document}
use Rattle.synthetic_source.specs.Faults.{HasNoFault, IsCellFault, IsFault, IsFirstFault, fault_at, fault_of, leaves_in, stops_of, time_fault, time_of}
use Rattle.synthetic_source.specs.Gathered.{IsAmong}
use Rattle.synthetic_source.specs.Places.{Rise, RiseAfter}
use Rattle.synthetic_source.specs.Rows.{IsTyped, cells_of}
use Rattle.synthetic_source.specs.declared.errors.DocKind.{DocKind}
use Rattle.synthetic_source.specs.declared.errors.DocError.{DocError}
use Rattle.synthetic_source.specs.declared.errors.DocError.TheVariants.{Refused, NoMemory}
use Rattle.synthetic_source.specs.declared.typing.Typed.{Typed}
use Rattle.synthetic_source.proofs.Documents.{no_time_fault}

-- ---- the paths with leaves ascend, and all are there

rises_put : (p k : List ℕ) (xs : List (List ℕ)) → IsBefore p k → RiseAfter p xs → RiseAfter p (insert_key (slice_cmp nat_cmp) xs k)
rises_put p k [] before rise = (before, tt)
rises_put p k (x ∷ xs) before rise = go (slice_cmp nat_cmp k x) refl (λ b. rises_put x k xs b rise.1)
  where
    go : (o : Ordering) → slice_cmp nat_cmp k x ≡ o → (IsBefore x k → RiseAfter x (insert_key (slice_cmp nat_cmp) xs k)) → RiseAfter p (match_ordering o (k ∷ x ∷ xs) (x ∷ xs) (x ∷ insert_key (slice_cmp nat_cmp) xs k))
    go Less is later = (before, (is, rise.1))
    go Equal is later = rise
    go Greater is later = (rise.0, later (before_of_after k x is))

rise_put : (k : List ℕ) (xs : List (List ℕ)) → Rise xs → Rise (insert_key (slice_cmp nat_cmp) xs k)
rise_put k [] rise = tt
rise_put k (x ∷ xs) rise = go (slice_cmp nat_cmp k x) refl
  where
    go : (o : Ordering) → slice_cmp nat_cmp k x ≡ o → Rise (match_ordering o (k ∷ x ∷ xs) (x ∷ xs) (x ∷ insert_key (slice_cmp nat_cmp) xs k))
    go Less is = (is, rise)
    go Equal is = rise
    go Greater is = rises_put x k xs (before_of_after k x is) rise

pub rise_paths : (es : List (List ℕ × Data)) (ps : List (List ℕ)) → Rise ps → Rise (with_paths ps es)
rise_paths [] ps rise = rise
rise_paths (e ∷ es) ps rise = rise_paths es (insert_key (slice_cmp nat_cmp) ps e.0) (rise_put e.0 ps rise)

among_put : (q k : List ℕ) (xs : List (List ℕ)) → IsAmong q xs → IsAmong q (insert_key (slice_cmp nat_cmp) xs k)
among_put q k [] is = absurd is
among_put q k (x ∷ xs) is = go (slice_cmp nat_cmp k x) (among_put q k xs)
  where
    go : (o : Ordering) → (IsAmong q xs → IsAmong q (insert_key (slice_cmp nat_cmp) xs k)) → IsAmong q (match_ordering o (k ∷ x ∷ xs) (x ∷ xs) (x ∷ insert_key (slice_cmp nat_cmp) xs k))
    go Less later = inr is
    go Equal later = is
    go Greater later = elim is [ inl here ↦ inl here | inr there ↦ inr (later there) ]

put_among : (k : List ℕ) (xs : List (List ℕ)) → IsAmong k (insert_key (slice_cmp nat_cmp) xs k)
put_among k [] = inl refl
put_among k (x ∷ xs) = go (slice_cmp nat_cmp k x) refl (put_among k xs)
  where
    go : (o : Ordering) → slice_cmp nat_cmp k x ≡ o → IsAmong k (insert_key (slice_cmp nat_cmp) xs k) → IsAmong k (match_ordering o (k ∷ x ∷ xs) (x ∷ xs) (x ∷ insert_key (slice_cmp nat_cmp) xs k))
    go Less is later = inl refl
    go Equal is later = inl (sym (exact_bytes k x is))
    go Greater is later = inr later

among_kept : (q : List ℕ) (es : List (List ℕ × Data)) (ps : List (List ℕ)) → IsAmong q ps → IsAmong q (with_paths ps es)
among_kept q [] ps is = is
among_kept q (e ∷ es) ps is = among_kept q es (insert_key (slice_cmp nat_cmp) ps e.0) (among_put q e.0 ps is)

leaves_among : (q : List ℕ) (es : List (List ℕ × Data)) (ps : List (List ℕ)) (d : Data) (ds : List Data) → placed_at q es ≡ d ∷ ds → IsAmong q (with_paths ps es)
leaves_among q [] ps d ds some = cc
leaves_among q (e ∷ es) ps d ds some = go (bytes_eq e.0 q) refl some (leaves_among q es (insert_key (slice_cmp nat_cmp) ps e.0) d ds)
  where
    go : (v : Bool) → bytes_eq e.0 q ≡ v → map (λ (x : List ℕ × Data). x.1) (cond v (e ∷ filter (λ x. bytes_eq x.0 q) es) (filter (λ x. bytes_eq x.0 q) es)) ≡ d ∷ ds
        → (placed_at q es ≡ d ∷ ds → IsAmong q (with_paths (insert_key (slice_cmp nat_cmp) ps e.0) es)) → IsAmong q (with_paths (insert_key (slice_cmp nat_cmp) ps e.0) es)
    go true is some later = subst (λ k. IsAmong k (with_paths (insert_key (slice_cmp nat_cmp) ps e.0) es)) ((bytes_eq-Decides e.0 q).0 is) (among_kept e.0 es (insert_key (slice_cmp nat_cmp) ps e.0) (put_among e.0 ps))
    go false is some later = later some

-- ---- the first fault

none_in : (schema : Schema) (strict : Bool) (d : Data) (ps : List (List ℕ)) → HasNoFault schema strict d → first_fault schema strict d ps ≡ None
none_in schema strict d [] none = refl
none_in schema strict d (p ∷ ps) none = ap (λ o. or_next o p (first_fault schema strict d ps)) (none p) ∙ none_in schema strict d ps none

later_than : (p q : List ℕ) (ps : List (List ℕ)) → RiseAfter p ps → IsAmong q ps → IsBefore p q
later_than p q [] rise is = absurd is
later_than p q (r ∷ rs) rise is = elim is [ inl here ↦ subst (IsBefore p) here rise.0 | inr there ↦ before_chain p r q rise.0 (later_than r q rs rise.1 there) ]

tail_rises : (p : List ℕ) (ps : List (List ℕ)) → RiseAfter p ps → Rise ps
tail_rises p [] rise = tt
tail_rises p (q ∷ qs) rise = rise.1

first_in : (schema : Schema) (strict : Bool) (d : Data) (kind : DocKind) (path : List ℕ) (ps : List (List ℕ)) → IsFirstFault schema strict d kind path → Rise ps → IsAmong path ps → first_fault schema strict d ps ≡ Some (kind, path)
first_in schema strict d kind path [] first rise is = absurd is
first_in schema strict d kind path (p ∷ ps) first rise is =
    elim is [
      | inl here ↦ ap (λ o. or_next o p (first_fault schema strict d ps)) (ap (fault_at schema strict d) here ∙ first.here) ∙ ap (λ q. Some (kind, q)) here
      | inr there ↦
          ap (λ o. or_next o p (first_fault schema strict d ps)) (first.before p (later_than p path ps rise there))
          ∙ first_in schema strict d kind path ps first (tail_rises p ps rise) there
    ]

-- a path with a fault has leaves
pub fault_among : (schema : Schema) (strict : Bool) (d : Data) (kind : DocKind) (path : List ℕ) → fault_at schema strict d path ≡ Some kind → IsAmong path (leaf_paths (stops_of schema.fields) d)
unfolding fault_at AreLeaves
fault_among schema strict d kind path fault = by (leaves_in schema d path) refl fault
  where
    by : (ls : List Data) → leaves_in schema d path ≡ ls → fault_of strict schema.fields path ls ≡ Some kind → IsAmong path (leaf_paths (stops_of schema.fields) d)
    by [] is fault = cc
    by (l ∷ ls) is fault = leaves_among path (listed (stops_of schema.fields) None d) [] l ls (listed_are_leaves (stops_of schema.fields) d path ∙ is)

first_is : (schema : Schema) (strict : Bool) (d : Data) (kind : DocKind) (path : List ℕ) → IsFirstFault schema strict d kind path → first_fault schema strict d (leaf_paths (stops_of schema.fields) d) ≡ Some (kind, path)
first_is schema strict d kind path first =
    first_in schema strict d kind path (leaf_paths (stops_of schema.fields) d) first (rise_paths (listed (stops_of schema.fields) None d) [] tt) (fault_among schema strict d kind path first.here)

no_fault_of_time : (d : Data) (t : ℤ) → time_of d ≡ Some t → time_fault d ≡ None
unfolding time_of time_fault
no_fault_of_time d t timed = no_time_fault (leaves_of [] d timestamp) t timed

pub cells_are : (schema : Schema) (strict : Bool) (d : Data) (cells : List Cell) → HasNoFault schema strict d → cells ≡ cells_of schema d → document_cells schema strict d ≡ Ok cells
unfolding document_cells
cells_are schema strict d cells none is =
    ap (λ o. cells_unless o (cells_of schema d)) (none_in schema strict d (leaf_paths (stops_of schema.fields) d) none) ∙ ap (λ cs. Ok cs) (sym is)

cells_fault : (schema : Schema) (strict : Bool) (d : Data) (kind : DocKind) (path : List ℕ) → IsFirstFault schema strict d kind path → document_cells schema strict d ≡ Err (kind, path)
unfolding document_cells
cells_fault schema strict d kind path first = ap (λ o. cells_unless o (cells_of schema d)) (first_is schema strict d kind path first)

pub cell_fault_is : (schema : Schema) (strict : Bool) (d : Data) (e : DocError) → IsCellFault schema strict d e → IsFaultOf (document_cells schema strict d) e
cell_fault_is schema strict d NoMemory is = tt
cell_fault_is schema strict d (Refused kind path) is = cells_fault schema strict d kind path is

pub typed_is : (schema : Schema) (strict : Bool) (d : Data) (typed : Typed) → IsTyped schema strict d typed → document_of schema strict d ≡ Ok typed
unfolding document_of
typed_is schema strict d typed is =
    ap (λ o. timed_document o (time_of d) (document_cells schema strict d)) (no_fault_of_time d typed.time is.time)
    ∙ (ap (λ o. timed_document None o (document_cells schema strict d)) is.time
    ∙ ap (row_with typed.time) (cells_are schema strict d typed.cells is.sound is.cells))

pub fault_is : (schema : Schema) (strict : Bool) (d : Data) (e : DocError) → IsFault schema strict d e → IsFaultOf (document_of schema strict d) e
unfolding document_of
fault_is schema strict d NoMemory is = tt
fault_is schema strict d (Refused kind path) is =
    elim is [
      | inl time ↦ ap (λ o. timed_document o (time_of d) (document_cells schema strict d)) time.0 ∙ ap (λ q. Err (kind, q)) (sym time.1)
      | inr first ↦
          ap (λ o. timed_document o (time_of d) (document_cells schema strict d)) first.0
          ∙ ap (row_with (unwrap_or (time_of d) (pos 0))) (cells_fault schema strict d kind path first.1)
    ]
