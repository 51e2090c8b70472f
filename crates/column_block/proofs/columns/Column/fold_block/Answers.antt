use Rattle.std.proofs.Common.{◌∙◌, ap, sym, subst, ◌≤◌, ◌^◌}
use Rattle.fold_law.specs.Laws.{fold_of, reach_of_items}
use Rattle.column_block.specs.Columned.{values_in}
use Rattle.column_block.specs.Ranges.{parts_of}
use Rattle.column_block.proofs.Clamped.{same-between}
use Rattle.column_block.proofs.columns.Column.fold_block.Goals as goal

pub fold_of_rows-requires-clause-reach : goal.fold_of_rows-requires-clause-reach
fold_of_rows-requires-clause-reach g c =
    let same = same-between (values_in c.self.inside.packed) c.args.self.now c.args.from c.args.to c.clamp-range.result.from c.clamp-range.result.to c.len_of.result c.self.view_is c.len_of.ensures c.clamp-range.ensures.from c.clamp-range.ensures.to in
    subst (λ z. reach_of_items g.F.Fold.reach g.F.Fold.one (parts_of z) ≤ 2 ^ 120) (sym same) c.requires

pub returns : goal.returns
returns g c =
    let same = same-between (values_in c.self.inside.packed) c.args.self.now c.args.from c.args.to c.clamp-range.result.from c.clamp-range.result.to c.len_of.result c.self.view_is c.len_of.ensures c.clamp-range.ensures.from c.clamp-range.ensures.to in
    c.fold_of_rows.ensures ∙ ap (λ z. fold_of g.F.Fold.none g.F.Fold.merge g.F.Fold.one (parts_of z)) same
