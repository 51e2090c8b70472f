use Rattle.std.proofs.Common.{◌∙◌, ◌≤◌, ◌≡◌, ◌-◌, ◌+◌, length, ap, arith, drop}
use Rattle.std.specs.List.{slice_range}
use Rattle.edge_face.proofs.WindowLemmas.{drop-slice_range, length-slice_range}
use Rattle.edge_face.specs.Waiting.{Waiting}
use Rattle.edge_face.proofs.window.Window.pass.Goals as goal

pub returns : goal.returns
returns c =
    let w = c.self.inside in
    let inv = c.self.invariant in
    let spans : length (slice_range w.buffer.items w.start w.end) ≡ w.end - w.start = length-slice_range w.buffer.items w.start w.end inv.0 inv.1 in
    let within : w.start + c.args.n ≤ w.end = omega (arith, c.requires, ap (λ v. length v.bytes) c.self.view_is, spans, inv.0) in
    let same : slice_range w.buffer.items w.start w.end ≡ c.args.self.now.bytes = ap (λ v. v.bytes) c.self.view_is in
    let bytes = drop-slice_range w.buffer.items w.start w.end c.args.n within ∙ ap (drop c.args.n) same in
    ap (λ l. record { bytes = l; ended = w.ended; capacity = length w.buffer.items }) bytes ∙ ap (λ (v : Waiting). record { bytes = drop c.args.n c.args.self.now.bytes; ended = v.ended; capacity = v.capacity }) c.self.view_is
