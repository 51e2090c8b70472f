-- The source of an item is no longer than the body that has it.
use Rattle.std.specs.Prelude.{ℕ, suc, ◌+◌, ◌-◌, ◌≤◌, ◌==◌, Bool, true, false, List, [], ◌∷◌, map, length, take, Option, Some, None, Result, Ok, Err, if◌then◌else◌}
use Rattle.std.specs.Io.BufRead.{ends_with_byte, strip_last}
use Rattle.std.proofs.Common.{arith}
use Rattle.std.proofs.lemmas.List.{length-take}
use Rattle.bulk_json.specs.Actions.{takes_source, asked_of}
use Rattle.bulk_json.specs.Items.{onto, item, items_by, items_from, with_source, ahead_of, some_items, bulk_of}
use Rattle.bulk_json.specs.Lines.{is_blank, line_in, lines_of}
use Rattle.bulk_json.specs.declared.action.Asked.{Asked}
use Rattle.bulk_json.specs.declared.errors.BulkError.{BulkError}
use Rattle.bulk_json.specs.declared.items.Item.{Item}
use Rattle.edge_face.specs.Lines.{with_first, pieces_of}
use Rattle.row_cells.specs.Each.{Each}
use Rattle.tsds_service.specs.Bulk.{items_of}
use Rattle.tsds_service.specs.Caused.{IsCaused, with_cause}
use Rattle.tsds_service.specs.CausedLaws.{bulks_caused}
use Rattle.tsds_service.specs.Causes.{bulk_cause}

-- ---- lines

abbrev AreWithin : ℕ → List (List ℕ) → Type 0
AreWithin n lines = Each (λ line. length line ≤ n) lines

within_more : (n m : ℕ) (lines : List (List ℕ)) → n ≤ m → AreWithin n lines → AreWithin m lines
within_more n m [] le are = tt
within_more n m (line ∷ lines) le are = (omega (arith, le, are.0), within_more n m lines le are.1)

first_within : (b n : ℕ) (pieces : List (List ℕ)) → AreWithin n pieces → AreWithin (suc n) (with_first b pieces)
first_within b n [] are = (omega arith, tt)
first_within b n (piece ∷ pieces) are = (omega (arith, are.0), within_more n (suc n) pieces (omega arith) are.1)

pieces_within : (bytes : List ℕ) → AreWithin (length bytes) (pieces_of bytes)
pieces_within [] = tt
pieces_within (b ∷ bytes) = by_test (b == 10) (pieces_within bytes)
  where
    by_test : (v : Bool) → AreWithin (length bytes) (pieces_of bytes) → AreWithin (suc (length bytes)) (if v then (b ∷ []) ∷ pieces_of bytes else with_first b (pieces_of bytes))
    by_test true later = (omega arith, within_more (length bytes) (suc (length bytes)) (pieces_of bytes) (omega arith) later)
    by_test false later = first_within b (length bytes) (pieces_of bytes) later

stripped : (byte : ℕ) (xs : List ℕ) → length (strip_last byte xs) ≤ length xs
stripped byte xs = by_test (ends_with_byte byte xs)
  where
    by_test : (v : Bool) → length (if v then take (length xs - 1) xs else xs) ≤ length xs
    by_test true = omega (arith, length-take (length xs - 1) xs)
    by_test false = omega arith

line_within : (piece : List ℕ) → length (line_in piece) ≤ length piece
unfolding line_in
line_within piece = by_test (ends_with_byte 10 piece)
  where
    by_test : (v : Bool) → length (if v then strip_last 13 (take (length piece - 1) piece) else piece) ≤ length piece
    by_test true = omega (arith, stripped 13 (take (length piece - 1) piece), length-take (length piece - 1) piece)
    by_test false = omega arith

lines_within : (n : ℕ) (pieces : List (List ℕ)) → AreWithin n pieces → AreWithin n (map line_in pieces)
lines_within n [] are = tt
lines_within n (piece ∷ pieces) are = (omega (arith, line_within piece, are.0), lines_within n pieces are.1)

-- ---- items

-- a source has so many bytes at most
abbrev pub IsSourceWithin : ℕ → Option (List ℕ) → Type 0
IsSourceWithin n None = Unit {0}
IsSourceWithin n (Some source) = length source ≤ n

abbrev pub AreSourcesWithin : ℕ → List Item → Type 0
AreSourcesWithin n items = Each (λ i. IsSourceWithin n i.source) items

abbrev pub GivesWithin : {E : Type 0} → ℕ → Result (List Item) E → Type 0
GivesWithin n (Ok items) = AreSourcesWithin n items
GivesWithin n (Err e) = Unit {0}

onto_within : (n : ℕ) (i : Item) (rest : Result (List Item) BulkError) → IsSourceWithin n i.source → GivesWithin n rest → GivesWithin n (onto (i ∷ []) rest)
onto_within n i (Ok items) here later = (here, later)
onto_within n i (Err e) here later = tt

module _ (n : ℕ) (path : Option (List ℕ)) where
  mutual
    from_within : (k : ℕ) (lines : List (List ℕ)) → AreWithin n lines → GivesWithin n (items_from path k lines)
    from_within k [] are = tt
    from_within k (line ∷ lines) are = by_blank (is_blank line) (from_within (k + 1) lines are.1) (λ asked. source_within k asked lines are.1)
      where
        by_action : (asked : Asked) (v : Bool) → GivesWithin n (items_from path (k + 1) lines) → GivesWithin n (with_source path k asked lines)
            → GivesWithin n (if v then with_source path k asked lines else onto (item asked None ∷ []) (items_from path (k + 1) lines))
        by_action asked true later sourced = sourced
        by_action asked false later sourced = onto_within n (item asked None) (items_from path (k + 1) lines) tt later

        by_asked : (o : Option Asked) → GivesWithin n (items_from path (k + 1) lines) → ((asked : Asked) → GivesWithin n (with_source path k asked lines))
            → GivesWithin n (items_by k o (λ asked. if takes_source asked.action then with_source path k asked lines else onto (item asked None ∷ []) (items_from path (k + 1) lines)))
        by_asked None later sourced = tt
        by_asked (Some asked) later sourced = by_action asked (takes_source asked.action) later (sourced asked)

        by_blank : (v : Bool) → GivesWithin n (items_from path (k + 1) lines) → ((asked : Asked) → GivesWithin n (with_source path k asked lines))
            → GivesWithin n (if v then items_from path (k + 1) lines
            else items_by k (asked_of path line) (λ asked. if takes_source asked.action then with_source path k asked lines else onto (item asked None ∷ []) (items_from path (k + 1) lines)))
        by_blank true later sourced = later
        by_blank false later sourced = by_asked (asked_of path line) later sourced

    source_within : (k : ℕ) (asked : Asked) (lines : List (List ℕ)) → AreWithin n lines → GivesWithin n (with_source path k asked lines)
    source_within k asked [] are = tt
    source_within k asked (source ∷ lines) are = onto_within n (item asked (Some source)) (items_from path (k + 1 + 1) lines) are.0 (from_within (k + 1 + 1) lines are.1)

some_within : (n : ℕ) (r : Result (List Item) BulkError) → GivesWithin n r → GivesWithin n (some_items r)
some_within n (Ok []) is = tt
some_within n (Ok (first ∷ others)) is = is
some_within n (Err e) is = tt

-- the sources of a body's items
pub sources_within : (path : Option (List ℕ)) (body : List ℕ) (n : ℕ) → length body ≤ n → GivesWithin n (bulk_of path body)
unfolding bulk_of
sources_within path body n le =
    some_within n (ahead_of path 1 body)
    (from_within n path 1 (lines_of body) (lines_within n (pieces_of body) (within_more (length body) n (pieces_of body) le (pieces_within body))))

caused_within : (n : ℕ) (r : Result (List Item) BulkError) (is : IsCaused bulk_cause r) → GivesWithin n r → GivesWithin n (with_cause bulk_cause r is)
caused_within n (Ok items) is within = within
caused_within n (Err e) is within = tt

-- and of what a request is told of them
pub items_within : (path : Option (List ℕ)) (body : List ℕ) (n : ℕ) → length body ≤ n → GivesWithin n (items_of path body)
items_within path body n le = caused_within n (bulk_of path body) (bulks_caused path body) (sources_within path body n le)
