use Rattle.std.proofs.Common.{◌∙◌, ap}
use Rattle.stream_catalog.specs.Plain.{PlainStream}
use Rattle.stream_catalog.proofs.CreationLemmas.{write_told}
use Rattle.stream_catalog.proofs.refusals.write_name.Goals as goal

pub returns-in-Some : goal.returns-in-Some
returns-in-Some c =
    write_told c.args.stream.now c.as_slice.result.now c.in-Some.field-0-1.now c.in-Some.last.now c.as_str.result.now c.as_str.ensures c.in-Some.ensures.cases.0
    (c.as_slice.ensures ∙ ap (λ (s : PlainStream). s.facts.members) c.stream.view_is)
