-- Lists of entries and keys.
use Rattle.std.specs.Prelude.{◌≡◌, List, [], ◌∷◌, ◌++◌, length}
use Rattle.std.specs.declared.result.Result.{Result}
use Rattle.std.specs.declared.result.Result.TheVariants.{Ok, Err}
use Rattle.std.proofs.Common.{refl, ap, sym}
use Rattle.std.proofs.lemmas.List.{append_assoc}
use Rattle.serde_json.specs.View.{items_view}
use Rattle.serde_json.specs.declared.value.Value.{Value}
use Rattle.search_filter.specs.Reading.{count_items}
use Rattle.hits_page.specs.Sorts.{with_key}
use Rattle.hits_page.specs.declared.pager.PageError.{PageError}
use Rattle.hits_page.specs.declared.sort_keys.SortKey.{SortKey}

-- a list in memory has as many elements as are seen
pub items_counted : (values : List Value) → count_items (items_view values) ≡ length values
items_counted [] = refl
items_counted (v ∷ vs) = rw (items_counted vs) refl

-- keys that were made, before those of the rest
abbrev pub behind_keys : List SortKey → Result (List SortKey) PageError → Result (List SortKey) PageError
behind_keys made (Err e) = Err e
behind_keys made (Ok ks) = Ok (made ++ ks)

pub keys_step : (made : List SortKey) (k : SortKey) (rest : Result (List SortKey) PageError) → behind_keys made (with_key (Ok k) rest) ≡ behind_keys (made ++ k ∷ []) rest
keys_step made k (Err e) = refl
keys_step made k (Ok ks) = ap Ok (sym (append_assoc made (k ∷ []) ks))
