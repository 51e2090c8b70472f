use Rattle.series_id.specs.IdLaws.{id_injective}
use Rattle.series_id.proofs.ids.ids_tell_documents.Goals as goal

pub returns : goal.returns
returns c = λ k l t u is_k is_l is_t is_u same. id_injective k l t u is_k is_l is_t is_u same
