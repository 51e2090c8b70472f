-- No reading, no bulk body and no key is refused without a cause; in particular none for want of memory.
use Rattle.std.specs.Prelude.{◌≡◌, ℕ, ◌+◌, nat_le, Bool, true, false, List, [], ◌∷◌, length, Option, Some, None, Result, Ok, Err, if◌then◌else◌}
use Rattle.std.proofs.Common.{ap, ◌∙◌, subst}
use Rattle.bulk_json.specs.Actions.{takes_source, asked_of}
use Rattle.bulk_json.specs.Items.{onto, item, items_by, items_from, with_source, ahead_of, some_items, bulk_of}
use Rattle.bulk_json.specs.Lines.{is_blank, lines_of}
use Rattle.bulk_json.specs.declared.action.Asked.{Asked}
use Rattle.bulk_json.specs.declared.errors.BulkError.{BulkError}
use Rattle.bulk_json.specs.declared.items.Item.{Item}
use Rattle.rest_request.specs.Message.{Message}
use Rattle.rest_request.specs.Query.{are_known}
use Rattle.rest_request.specs.Table.{Row as TableRow, table, names_in, message_in, some_has_path, row_for, on_message, on_row, on_segments, on_pieces, request_of}
use Rattle.rest_request.specs.Target.{cut, split_target, split}
use Rattle.rest_request.specs.declared.request.RequestError.TheVariants as of_request
use Rattle.row_cells.specs.Limits.{longest_key}
use Rattle.row_cells.specs.Mapped.{is_routed, series_bytes}
use Rattle.row_cells.specs.declared.rows.Cell.{Cell}
use Rattle.row_cells.specs.declared.schemas.Schema.{Schema}
use Rattle.series_id.specs.Keys.{keyed}
use Rattle.series_id.specs.declared.keys.KeyError.TheVariants as of_key
use Rattle.tsds_service.specs.Caused.{IsCaused, what_is, with_cause}
use Rattle.tsds_service.specs.Causes.{request_cause, bulk_cause, key_cause}
use Rattle.stream_catalog.specs.Sound.{IsThere}

-- ---- a result and what has causes in the place of its errors

-- the same values, and for each error its cause
pub record IsSameWithCauses {A E C : Type 0} (cause : E → Option C) (r : Result A E) (s : Result A C) : Type 0 where
  pub value : (a : A) → r ≡ Ok a → s ≡ Ok a
  pub value_back : (a : A) → s ≡ Ok a → r ≡ Ok a
  pub error : (e : E) (c : C) → r ≡ Err e → cause e ≡ Some c → s ≡ Err c
  pub caused : (e : E) → r ≡ Err e → IsThere (cause e)

module _ {A E C : Type 0} (cause : E → Option C) where
  abbrev ok_of : A → Result A E
  ok_of a = Ok a

  abbrev ok_for : A → Result A C
  ok_for a = Ok a

  ok_same : {a b : A} → ok_of a ≡ ok_of b → ok_for a ≡ ok_for b
  ok_same e = cc

  ok_back : {a b : A} → ok_for a ≡ ok_for b → ok_of a ≡ ok_of b
  ok_back e = cc

  not_ok : {a : A} {e : E} → Err e ≡ ok_of a → ⊥
  not_ok e = cc

  not_ok_for : {a : A} {c : C} → Err c ≡ ok_for a → ⊥
  not_ok_for e = cc

  abbrev err_of : E → Result A E
  err_of e = Err e

  abbrev err_for : C → Result A C
  err_for c = Err c

  not_err : {a : A} {e : E} → Ok a ≡ err_of e → ⊥
  not_err e = cc

  err_same : {e f : E} → err_of e ≡ err_of f → e ≡ f
  err_same e = cc

  pub same_with_causes : (r : Result A E) (is : IsCaused cause r) → IsSameWithCauses cause r (with_cause cause r is)
  same_with_causes (Ok a) is = record {
    value = λ b same. ok_same same;
    value_back = λ b same. ok_back same;
    error = λ e c same told. absurd (not_err same);
    caused = λ e same. absurd (not_err same);
  }
  same_with_causes (Err e) is = record {
    value = λ b same. absurd (not_ok same);
    value_back = λ b same. absurd (not_ok_for same);
    error = λ f c same told. ap err_for (its_cause (cause e) is c (ap cause (err_same same) ∙ told));
    caused = λ f same. subst (λ g. IsThere (cause g)) (err_same same) is;
  }
    where
      its_cause : (o : Option C) (there : IsThere o) (c : C) → o ≡ Some c → what_is o there ≡ c
      its_cause None there c told = absurd there
      its_cause (Some d) there c told = cc

-- ---- requests

message_caused : (o : Option Message) → IsCaused request_cause (on_message o)
message_caused None = tt
message_caused (Some message) = tt

row_caused : (query body : List ℕ) (segments : List (List ℕ)) (o : Option TableRow) → IsCaused request_cause (on_row query body segments o)
row_caused query body segments None = tt
row_caused query body segments (Some r) = by_test (are_known query)
  where
    by_test : (b : Bool) → IsCaused request_cause (if b then on_message (message_in r.body (names_in r.path segments) body) else Err of_request.BadParameter)
    by_test true = message_caused (message_in r.body (names_in r.path segments) body)
    by_test false = tt

segments_caused : (method query body : List ℕ) (segments : List (List ℕ)) → IsCaused request_cause (on_segments method query body segments)
segments_caused method query body segments = by_test (some_has_path segments table)
  where
    by_test : (b : Bool) → IsCaused request_cause (if b then on_row query body segments (row_for method segments table) else Err of_request.NoSuchPath)
    by_test true = row_caused query body segments (row_for method segments table)
    by_test false = tt

pieces_caused : (method query body : List ℕ) (pieces : List (List ℕ)) → IsCaused request_cause (on_pieces method query body pieces)
pieces_caused method query body [] = tt
pieces_caused method query body ([] ∷ segments) = segments_caused method query body segments
pieces_caused method query body ((b ∷ bs) ∷ segments) = tt

pub requests_caused : (method target body : List ℕ) → IsCaused request_cause (request_of method target body)
unfolding request_of
requests_caused method target body = pieces_caused method (split_target (cut 63 target) target).1 body (split 47 (split_target (cut 63 target) target).0)

-- ---- bulk bodies

onto_caused : (items : List Item) (r : Result (List Item) BulkError) → IsCaused bulk_cause r → IsCaused bulk_cause (onto items r)
onto_caused items (Ok others) is = tt
onto_caused items (Err e) is = is

module _ (path : Option (List ℕ)) where
  mutual
    from_caused : (n : ℕ) (lines : List (List ℕ)) → IsCaused bulk_cause (items_from path n lines)
    from_caused n [] = tt
    from_caused n (line ∷ lines) = by_blank (is_blank line) (from_caused (n + 1) lines) (λ asked. source_caused n asked lines)
      where
        by_action : (asked : Asked) (b : Bool) → IsCaused bulk_cause (items_from path (n + 1) lines) → IsCaused bulk_cause (with_source path n asked lines)
            → IsCaused bulk_cause (if b then with_source path n asked lines else onto (item asked None ∷ []) (items_from path (n + 1) lines))
        by_action asked true later sourced = sourced
        by_action asked false later sourced = onto_caused (item asked None ∷ []) (items_from path (n + 1) lines) later

        by_asked : (o : Option Asked) → IsCaused bulk_cause (items_from path (n + 1) lines) → ((asked : Asked) → IsCaused bulk_cause (with_source path n asked lines))
            → IsCaused bulk_cause (items_by n o (λ asked. if takes_source asked.action then with_source path n asked lines else onto (item asked None ∷ []) (items_from path (n + 1) lines)))
        by_asked None later sourced = tt
        by_asked (Some asked) later sourced = by_action asked (takes_source asked.action) later (sourced asked)

        by_blank : (b : Bool) → IsCaused bulk_cause (items_from path (n + 1) lines) → ((asked : Asked) → IsCaused bulk_cause (with_source path n asked lines))
            → IsCaused bulk_cause (if b then items_from path (n + 1) lines
            else items_by n (asked_of path line) (λ asked. if takes_source asked.action then with_source path n asked lines else onto (item asked None ∷ []) (items_from path (n + 1) lines)))
        by_blank true later sourced = later
        by_blank false later sourced = by_asked (asked_of path line) later sourced

    source_caused : (n : ℕ) (asked : Asked) (lines : List (List ℕ)) → IsCaused bulk_cause (with_source path n asked lines)
    source_caused n asked [] = tt
    source_caused n asked (source ∷ lines) = onto_caused (item asked (Some source) ∷ []) (items_from path (n + 1 + 1) lines) (from_caused (n + 1 + 1) lines)

some_caused : (r : Result (List Item) BulkError) → IsCaused bulk_cause r → IsCaused bulk_cause (some_items r)
some_caused (Ok []) is = tt
some_caused (Ok (first ∷ others)) is = tt
some_caused (Err e) is = is

pub bulks_caused : (path : Option (List ℕ)) (body : List ℕ) → IsCaused bulk_cause (bulk_of path body)
unfolding bulk_of
bulks_caused path body = some_caused (ahead_of path 1 body) (from_caused path 1 (lines_of body))

-- ---- keys

pub keys_caused : (schema : Schema) (cells : List Cell) → IsCaused key_cause (keyed schema cells)
keys_caused schema cells = by_tests (is_routed schema cells) (nat_le (length (series_bytes schema cells)) longest_key)
  where
    by_tests : (a b : Bool) → IsCaused key_cause (if a then (if b then Ok (series_bytes schema cells) else Err (of_key.KeyTooLong (length (series_bytes schema cells)))) else Err of_key.NoRouting)
    by_tests true true = tt
    by_tests true false = tt
    by_tests false b = tt
