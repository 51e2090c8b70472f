use Rattle.std.proofs.Common.{sym, ◌∙◌}
use Rattle.tsds_index.specs.Shards.{parts_of}
use Rattle.tsds_index.specs.Spread.{all_rows}
use Rattle.tsds_index.proofs.Alike.{alike_length}
use Rattle.tsds_index.proofs.Exchanged.{parts_sealed}
use Rattle.tsds_index.proofs.Lodged.{rows_same}
use Rattle.tsds_index.proofs.index.TsdsIndex.seal.Goals as goal

pub invariant_of-self : goal.invariant_of-self
invariant_of-self c = record {
  are = c.seal_all.ensures.shards;
  counted = c.self.invariant.counted ∙ sym (alike_length (all_rows (parts_of c.seal_all.new.shards.items)) (all_rows (parts_of c.self.inside.shards.items)) c.seal_all.ensures.rows);
}

pub invariant_of-self-2 : goal.invariant_of-self-2
invariant_of-self-2 c = record {
  are = c.seal_all.ensures.shards;
  counted = c.self.invariant.counted ∙ sym (alike_length (all_rows (parts_of c.seal_all.new.shards.items)) (all_rows (parts_of c.self.inside.shards.items)) c.seal_all.ensures.rows);
}

pub returns-in_err-seal_all-clause-rows : goal.returns-in_err-seal_all-clause-rows
returns-in_err-seal_all-clause-rows c = rows_same c.self.inside.schema c.self.inside.shards.items c.seal_all.new.shards.items c.args.self.now c.self.view_is c.seal_all.ensures.rows

pub returns-clause-rows : goal.returns-clause-rows
returns-clause-rows c = rows_same c.self.inside.schema c.self.inside.shards.items c.seal_all.new.shards.items c.args.self.now c.self.view_is c.seal_all.ensures.rows

pub returns-clause-sealed : goal.returns-clause-sealed
returns-clause-sealed c = parts_sealed c.seal_all.new.shards.items c.in_ok-seal_all.ensures.sealed
