use Rattle.std.specs.Prelude.{Some, None}
use Rattle.stream_catalog.proofs.HeldLemmas.{rows_told}
use Rattle.stream_catalog.proofs.catalog.Catalog.index.Goals as goal

pub returns-in-Some : goal.returns-in-Some
returns-in-Some c =
    rows_told c.self.inside.facts c.self.inside.rows c.args.self.now c.as_bytes.result.now c.args.name.now (Some c.in-Some.rows.now) c.self.invariant c.self.view_is c.as_bytes.ensures c.in-Some.ensures

pub returns-in-None : goal.returns-in-None
returns-in-None c =
    rows_told c.self.inside.facts c.self.inside.rows c.args.self.now c.as_bytes.result.now c.args.name.now None c.self.invariant c.self.view_is c.as_bytes.ensures c.in-None.ensures
