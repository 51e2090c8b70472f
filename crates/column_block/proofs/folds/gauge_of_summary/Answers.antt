use Rattle.std.proofs.Common.{◌≡◌, rules}
use Rattle.std.specs.Prelude.{FitsSigned, pos}
use Rattle.std.specs.Int.{w64, w128}
use Rattle.column_block.proofs.Folding.{gauge-told}
use Rattle.column_block.proofs.folds.gauge_of_summary.Goals as goal

pub returns : goal.returns
returns c = λ vs some h.
    let s = c.args.summary in
    let min : FitsSigned w64 s.min = search rules in
    let max : FitsSigned w64 s.max = search rules in
    let total : FitsSigned w128 s.sum = search rules in
    let n : c.from.result ≡ pos s.n = search rules in
    let fit : FitsSigned w128 c.from.result = search rules in
    gauge-told vs s c.from.result min max total n fit some h
