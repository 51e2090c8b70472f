-- A request that is given up.
use Rattle.std.specs.Prelude.{◌≡◌, ℕ, zero, suc, List, [], ◌∷◌, take, Result, Ok, Err}
use Rattle.std.proofs.Common.{refl, ap, ◌∙◌, sym, subst}
use Rattle.bulk_json.specs.declared.items.Item.{Item}
use Rattle.rest_request.specs.Asked.{IsAsked}
use Rattle.rest_request.specs.Message as asked
use Rattle.rest_request.specs.Message.{Message}
use Rattle.row_cells.specs.Limits.{longest_list}
use Rattle.stream_catalog.specs.Plain.{PlainCatalog}
use Rattle.stream_catalog.specs.Sound.{IsSoundCatalog}
use Rattle.stream_catalog.specs.Ways.{plain_way, seen_way}
use Rattle.tsds_service.specs.Bulk.{items_of}
use Rattle.tsds_service.specs.declared.causes.Cause.{Cause}
use Rattle.tsds_service.specs.GivenUp.{with_first, done_up_to, given_up}
use Rattle.tsds_service.specs.GivenUpLaws.{GivenUpRefine, GivenUpStand, GivenUpKeepSound, GivenUpKeepSeen}
use Rattle.tsds_service.specs.Laws.{MachinesSeenAgain}
use Rattle.tsds_service.specs.Machine.{Machine, see, IsSound, IsSeen}
use Rattle.tsds_service.proofs.CatalogLaws.{CatalogLaws, SoundLaws}
use Rattle.tsds_service.proofs.ItemLemmas.{after_items-see}
use Rattle.tsds_service.proofs.SourceLemmas.{AreSourcesWithin, GivesWithin, items_within}
use Rattle.tsds_service.proofs.TakesLemmas.{items_sound, items_named}

first_within : (n k : ℕ) (items : List Item) → AreSourcesWithin n items → AreSourcesWithin n (take k items)
first_within n zero items are = tt
first_within n (suc k) [] are = tt
first_within n (suc k) (item ∷ items) are = (are.0, first_within n k items are.1)

-- ---- what is seen

module _ (laws : CatalogLaws) (m : Machine) (sound : IsSoundCatalog m.catalog) (k : ℕ) where
  items-see : (r : Result (List Item) Cause) → with_first seen_way (see m) k r ≡ see (with_first plain_way m k r)
  items-see (Ok items) = ap (λ (c : PlainCatalog). record m { catalog = c }) (sym (after_items-see laws m.catalog (laws.shows m.catalog sound) (take k items)))
  items-see (Err cause) = refl

  done-see : (message : Message) → done_up_to seen_way k (see m) message ≡ see (done_up_to plain_way k m message)
  done-see (asked.put_template name body) = refl
  done-see (asked.put_stream name) = refl
  done-see (asked.get_stream name) = refl
  done-see (asked.delete_stream name) = refl
  done-see (asked.bulk path body) = items-see (items_of path body)
  done-see (asked.rollover name) = refl
  done-see (asked.block n) = refl
  done-see (asked.downsample source target body) = refl
  done-see (asked.modify body) = refl
  done-see (asked.delete_index n) = refl
  done-see (asked.put_lifecycle name body) = refl
  done-see asked.run_lifecycle = refl
  done-see asked.tasks = refl
  done-see (asked.search_rows name body) = refl
  done-see (asked.count_rows name body) = refl
  done-see (asked.get_doc n id) = refl
  done-see asked.flush = refl

-- ---- what stays sound

module _ (laws : SoundLaws) (m : Machine) (sound : IsSound m) (k : ℕ) where
  items-sound : (r : Result (List Item) Cause) → GivesWithin longest_list r → IsSound (with_first plain_way m k r)
  items-sound (Ok items) within = record {
    catalog = items_sound laws.held laws.cells laws.puts m.catalog (take k items) sound.catalog (first_within longest_list k items within);
    now = sound.now;
    names = items_named laws.names m.catalog (take k items) sound.names;
  }
  items-sound (Err cause) within = sound

  done-sound : (message : Message) → IsAsked message → IsSound (done_up_to plain_way k m message)
  done-sound (asked.put_template name body) is = sound
  done-sound (asked.put_stream name) is = sound
  done-sound (asked.get_stream name) is = sound
  done-sound (asked.delete_stream name) is = sound
  done-sound (asked.bulk path body) is = items-sound (items_of path body) (items_within path body longest_list is.1)
  done-sound (asked.rollover name) is = sound
  done-sound (asked.block n) is = sound
  done-sound (asked.downsample source target body) is = sound
  done-sound (asked.modify body) is = sound
  done-sound (asked.delete_index n) is = sound
  done-sound (asked.put_lifecycle name body) is = sound
  done-sound asked.run_lifecycle is = sound
  done-sound asked.tasks is = sound
  done-sound (asked.search_rows name body) is = sound
  done-sound (asked.count_rows name body) is = sound
  done-sound (asked.get_doc n id) is = sound
  done-sound asked.flush is = sound

-- ---- at the new moment

pub given_up_refine : CatalogLaws → GivenUpRefine
given_up_refine laws m message now k sound = done-see laws (record m { now = now }) sound.catalog k message

pub given_up_stand : CatalogLaws → GivenUpStand
given_up_stand laws m message now k seen = ap (λ (n : Machine). given_up seen_way n message now k) (sym seen.again) ∙ given_up_refine laws m message now k seen.sound

pub given_up_keep_sound : SoundLaws → GivenUpKeepSound
given_up_keep_sound laws m message now k sound is_asked instant =
    done-sound laws (record m { now = now }) (record { catalog = sound.catalog; now = instant; names = sound.names }) k message is_asked

pub given_up_keep_seen : CatalogLaws → SoundLaws → MachinesSeenAgain → GivenUpKeepSeen
given_up_keep_seen laws kept again m message now k seen is_asked instant =
    subst IsSeen (sym (given_up_stand laws m message now k seen)) (again (given_up plain_way m message now k) (given_up_keep_sound kept m message now k seen.sound is_asked instant))
