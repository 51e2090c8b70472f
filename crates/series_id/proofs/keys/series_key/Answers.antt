use Rattle.std.proofs.Common.{ap, sym, ◌∙◌}
use Rattle.std.specs.declared.result.Result.TheVariants.{Ok}
use Rattle.series_id.specs.KeyFaultLaws.{keyed_ok, keyed_fault}
use Rattle.series_id.proofs.keys.series_key.Goals as goal

pub returns-in-Ok-clause-keyed : goal.returns-in-Ok-clause-keyed
returns-in-Ok-clause-keyed c = keyed_ok c.args.schema.now c.args.cells.now c.in-Ok.ensures.have ∙ ap (λ key. Ok key) (sym c.in-Ok.ensures.key.0)

pub returns-in-Err-clause-refused : goal.returns-in-Err-clause-refused
returns-in-Err-clause-refused c = keyed_fault c.args.schema.now c.args.cells.now c.in-Err.error c.in-Err.ensures.fault
