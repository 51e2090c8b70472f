use Rattle.std.proofs.Common.{refl}
use Rattle.tsds_index.proofs.Sealed.{free_in_buffer, put_is_by_rule, put_rows, put_shard}
use Rattle.tsds_index.proofs.shard.Shard.put.Goals as goal

pub put-requires-clause-free : goal.put-requires-clause-free
put-requires-clause-free c = free_in_buffer c.args.schema.now c.args.row c.args.self.now c.make_room.new.self c.args.self.now c.make_room.ensures.shard c.make_room.ensures.rows c.requires.row c.requires.free

pub returns-clause-ok : goal.returns-clause-ok
returns-clause-ok c =
    put_rows c.args.schema.now c.args.row c.args.self.now c.make_room.new.self (record { sealed = c.make_room.new.self.sealed; buffer = c.put.new.self }) c.make_room.ensures.shard c.make_room.ensures.rows c.requires.row c.requires.free c.requires.few c.in_ok-make_room.ensures.room refl c.in_ok-put.ensures.ok

pub returns-clause-shard : goal.returns-clause-shard
returns-clause-shard c =
    put_shard c.args.schema.now c.args.row c.args.self.now c.make_room.new.self (record { sealed = c.make_room.new.self.sealed; buffer = c.put.new.self }) c.make_room.ensures.shard c.make_room.ensures.rows c.requires.row c.requires.free c.requires.few c.in_ok-make_room.ensures.room refl c.in_ok-put.ensures.ok

pub returns-clause-part : goal.returns-clause-part
returns-clause-part c =
    put_is_by_rule c.args.row c.args.self.now c.make_room.new.self (record { sealed = c.make_room.new.self.sealed; buffer = c.put.new.self }) c.in_ok-make_room.ensures.part refl c.in_ok-put.ensures.ok
