-- What is offered of what is seen is what is offered of all rows.
use Rattle.std.specs.Prelude.{◌≡◌, List, [], ◌∷◌, ◌++◌, map}
use Rattle.std.specs.List.{flat_map}
use Rattle.std.proofs.Common.{refl, ap, ◌∙◌}
use Rattle.row_cells.specs.declared.schemas.Field.{Field}
use Rattle.stream_catalog.specs.Plain.{PlainIndex}
use Rattle.stream_catalog.specs.Ways.{plain_way, seen_way, see_index}
use Rattle.stream_catalog.specs.declared.facts.HeldIndex.{HeldIndex}
use Rattle.tsds_service.specs.Laws.{SamplesStay}
use Rattle.tsds_service.specs.Questions.{facts_in, joined_fields, offered_of}

pub facts_in-see : (is : List PlainIndex) → facts_in (map see_index is) ≡ facts_in is
facts_in-see [] = refl
facts_in-see (i ∷ is) = ap (λ fs. i.facts ∷ fs) (facts_in-see is)

offered-see : (fields : List Field) (is : List PlainIndex) → flat_map (offered_of seen_way fields) (map see_index is) ≡ flat_map (offered_of plain_way fields) is
offered-see fields [] = refl
offered-see fields (i ∷ is) = ap (λ os. offered_of plain_way fields i ++ os) (offered-see fields is)

pub samples_stay : SamplesStay
samples_stay is =
    ap (λ (fs : List HeldIndex). flat_map (offered_of seen_way (joined_fields fs)) (map see_index is)) (facts_in-see is) ∙ offered-see (joined_fields (facts_in is)) is
