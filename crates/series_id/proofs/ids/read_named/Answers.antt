use Rattle.std.proofs.Common.{◌∙◌, rules}
use Rattle.series_id.specs.Ids.{id_bytes}
use Rattle.series_id.specs.IdLaws.{id_is_bytes}
use Rattle.series_id.proofs.Cut.{not_absent, at_some}
use Rattle.series_id.proofs.ids.read_named.Goals as goal

pub returns-in_default-clause-none : goal.returns-in_default-clause-none
returns-in_default-clause-none c =
    λ none key time is_key instant same.
    not_absent _ c.in_ok-bytes.field-0 (search rules) (c.in_ok-bytes.ensures.back (id_bytes key time) (id_is_bytes key time is_key) same)

pub returns-clause-none : goal.returns-clause-none
returns-clause-none c =
    λ none key time is_key instant same.
    c.in_ok-named.ensures.none none key time is_key instant (c.as_slice.ensures.value ∙ at_some _ c.in_ok-bytes.field-0 c.in-Some.bytes c.in-Some.is (c.in_ok-bytes.ensures.back (id_bytes key time) (id_is_bytes key time is_key) same))
