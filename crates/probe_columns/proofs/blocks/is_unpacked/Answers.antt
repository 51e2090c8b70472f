use Rattle.std.specs.Prelude.{take, []}
use Rattle.std.proofs.Common.{sym}
use Rattle.std.proofs.lemmas.List.{append-nil}
use Rattle.probe_columns.proofs.blocks.is_unpacked.Goals as goal

pub is_known-requires : goal.is_known-requires
is_known-requires c = let vs = take c.in-Ok.n c.unpack_block.new.into in (vs, (c.args.block.now, [], c.in-Ok.ensures.ok.1, sym (append-nil c.args.block.now)))
