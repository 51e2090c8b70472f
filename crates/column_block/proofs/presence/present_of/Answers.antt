use Rattle.std.proofs.Common.{◌∙◌, ap, ◌++◌, ◌∷◌, []}
use Rattle.column_block.specs.Presence.{present}
use Rattle.column_block.proofs.Presences.{present-more}
use Rattle.column_block.proofs.presence.present_of.Goals as goal

pub loop-row-preserved : goal.loop-row-preserved
loop-row-preserved g c =
    c.in_ok-push_present.ensures ∙ ap (λ z. z ++ present (c.row-item.result ∷ [])) c.loop-row.invariant
    ∙ present-more c.args.rows.now c.loop-row.row-index c.row-item.result c.loop-row-test.true c.row-item.is
