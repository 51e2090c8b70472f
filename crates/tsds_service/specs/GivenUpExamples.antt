-- What is left of requests that are given up, worked out: of a bulk request of two items, of one that isn't read, of another request.
use Rattle.std.specs.Prelude.{◌≡◌, ℕ, ℤ, List, [], ◌∷◌, Option, Ok, Err}
use Rattle.std.proofs.Common.{refl}
use Rattle.bulk_json.specs.declared.items.Item.{Item}
use Rattle.rest_request.specs.Message.{bulk, rollover}
use Rattle.stream_catalog.specs.Ways.{Way}
use Rattle.tsds_service.specs.Bulk.{items_of, after_item, after_items}
use Rattle.tsds_service.specs.declared.causes.Cause.{Cause}
use Rattle.tsds_service.specs.GivenUp.{given_up}
use Rattle.tsds_service.specs.Machine.{Machine}
use Rattle.tsds_service.specs.Questions.{Searching}
use Rattle.tsds_service.specs.Requests.{step}

module _ (way : Way) (m : Machine) (now : ℤ) (path : Option (List ℕ)) (body : List ℕ) where
  module _ (first second : Item) (read : items_of path body ≡ Ok (first ∷ second ∷ [])) where
    pub none_done : given_up way m (bulk path body) now 0 ≡ record m { now = now }
    none_done = rw read refl

    pub one_done : given_up way m (bulk path body) now 1 ≡ record m { now = now; catalog = after_item way m.catalog first }
    one_done = rw read refl

    pub both_done : given_up way m (bulk path body) now 2 ≡ record m { now = now; catalog = after_items way m.catalog (first ∷ second ∷ []) }
    both_done = rw read refl

    -- there are no more: it is left as by its step
    pub all_done : (searching : Searching) → given_up way m (bulk path body) now 7 ≡ (step searching way m (bulk path body) now).machine
    unfolding step
    all_done searching = rw read refl

  pub unread : (cause : Cause) (k : ℕ) → items_of path body ≡ Err cause → given_up way m (bulk path body) now k ≡ record m { now = now }
  unread cause k read = rw read refl

pub other : (way : Way) (m : Machine) (name : List ℕ) (now : ℤ) (k : ℕ) → given_up way m (rollover name) now k ≡ record m { now = now }
other way m name now k = refl
