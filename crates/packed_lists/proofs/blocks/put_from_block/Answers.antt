use Rattle.std.proofs.Common.{◌∙◌, ap, ◌++◌}
use Rattle.std.specs.Prelude.{slice_range}
use Rattle.std.proofs.lemmas.Result.{on_ok_weaker}
use Rattle.packed_lists.specs.Laws.Fronts.{take-front}
use Rattle.packed_lists.proofs.blocks.put_from_block.Goals as goal

pub returns : goal.returns
returns c = on_ok_weaker c.put_part.result (λ e vs h.
    let r = c.read_at-count.ensures vs h in
    e ∙ ap (λ z. c.args.into.now.items ++ slice_range z c.args.from c.args.to) (take-front c.read_at-count.new.into vs _ c.read_at-count.result r.1 r.0)) c.put_part.ensures
