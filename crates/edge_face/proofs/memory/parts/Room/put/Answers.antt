use Rattle.std.proofs.Common.{◌∙◌, ap}
use Rattle.edge_face.proofs.WindowLemmas.{take-then}
use Rattle.edge_face.proofs.memory.parts.Room.put.Goals as goal

pub returns-clause-put : goal.returns-clause-put
returns-clause-put c =
    let r = c.self.inside in
    take-then c.copy_after-n.new.buffer.items c.args.self.now.given r.used c.copy_after-n.result _
    (c.copy_after-n.ensures.kept ∙ ap (λ v. v.given) c.self.view_is) c.copy_after-n.ensures.placed
