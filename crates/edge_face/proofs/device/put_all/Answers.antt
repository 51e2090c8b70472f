use Rattle.std.proofs.Common.{◌∙◌, ap, arith, length-drop, take, drop}
use Rattle.edge_face.specs.Contents.{appended}
use Rattle.edge_face.proofs.ContentsLemmas.{appended-take, to_end}
use Rattle.edge_face.proofs.device.put_all.Goals as goal

-- the piece that was put follows those before it
pub loop-gone-preserved : goal.loop-gone-preserved
loop-gone-preserved g c =
    let bytes = c.args.bytes.now in
    record {
      within = omega (arith, c.in-Ok.ensures.within, length-drop c.loop-gone.gone bytes);
      put = c.in-Ok.ensures.put ∙ ap (λ rest. appended (g.K.Sink.given c.loop-gone.sink) (take c.in-Ok.n rest)) (to_end bytes c.loop-gone.gone) ∙ ap (λ held. appended held (take c.in-Ok.n (drop c.loop-gone.gone bytes))) c.loop-gone.invariant.put ∙ appended-take (g.K.Sink.given c.args.sink.now) bytes c.loop-gone.gone c.in-Ok.n;
      counted = omega arith;
      beside = c.in-Ok.ensures.beside ∙ c.loop-gone.invariant.beside;
    }
