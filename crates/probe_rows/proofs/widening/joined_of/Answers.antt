use Rattle.std.proofs.Common.{inl, subst, sym}
use Rattle.row_cells.specs.declared.schemas.Schema.{Schema}
use Rattle.row_cells.specs.Joining.{IsIn}
use Rattle.probe_rows.proofs.widening.joined_of.Goals as goal

pub returns-in-Ok-clause-within : goal.returns-in-Ok-clause-within
returns-in-Ok-clause-within c = λ f is. subst (λ (schema : Schema). IsIn f schema.fields) (sym c.in-Ok.ensures.joined) ((c.join_schemas.ensures.all f).1 (inl is))
