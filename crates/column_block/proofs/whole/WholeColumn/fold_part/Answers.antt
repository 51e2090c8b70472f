use Rattle.std.proofs.Common.{◌∙◌, ap, arith}
use Rattle.std.proofs.Common.{map}
use Rattle.row_cells.specs.Merging.{parts_of_value}
use Rattle.fold_law.specs.Laws.{fold_of}
use Rattle.column_block.specs.Presence.{present}
use Rattle.column_block.proofs.SixLists.{part-read}
use Rattle.column_block.proofs.whole.WholeColumn.fold_part.Goals as goal

pub fold_some-requires-clause-reach : goal.fold_some-requires-clause-reach
fold_some-requires-clause-reach g c =
    rw (part-read (map parts_of_value (present c.args.self.now)) _ c.args.block c.args.from c.args.to (omega (arith, c.requires.order)) c.requires.inside c.read_parts-count.ensures.parts) c.requires.reach

pub returns : goal.returns
returns g c =
    let f = g.F.Fold in
    c.fold_some.ensures ∙ ap (λ z. f.merge c.args.folded (fold_of f.none f.merge f.one z)) (part-read (map parts_of_value (present c.args.self.now)) _ c.args.block c.args.from c.args.to (omega (arith, c.requires.order)) c.requires.inside c.read_parts-count.ensures.parts)
