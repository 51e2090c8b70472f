use Rattle.std.proofs.Common.{◌≡◌, ◌<◌, rules, length, subst}
use Rattle.row_cells.specs.declared.schemas.Field.{Field}
use Rattle.row_cells.specs.declared.schemas.Role.TheVariants.{Gauge}
use Rattle.sample_rows.proofs.Places.{gauge_at}
use Rattle.sample_rows.proofs.fields.is_gauge_at.Goals as goal

pub returns-in-Some : goal.returns-in-Some
returns-in-Some c = λ is.
    let role : c.in-Some.field.now.role ≡ Gauge = search rules in
    let inside : c.args.place < length c.args.fields.now = search (rules, c.in-Some.ensures.lookup.0) in
    gauge_at c.args.fields.now c.args.place c.in-Some.field.now inside (subst (λ (field : Field). field.role ≡ Gauge) c.in-Some.ensures.lookup.1 role)
