use Rattle.std.proofs.Common.{◌∙◌, rules, map}
use Rattle.column_block.specs.Presence.{present}
use Rattle.row_cells.specs.Merging.{parts_of_value}
use Rattle.column_block.proofs.SixLists.{parts-more, all-read}
use Rattle.column_block.proofs.Folding.{mapped-count, number-read}
use Rattle.column_block.proofs.whole.WholeColumn.read_parts.Goals as goal

pub loop-place-preserved : goal.loop-place-preserved
loop-place-preserved c = record {
  long = search rules;
  parts =
      let vs = present c.args.self.now in
      parts-more (map parts_of_value vs) c.args.block c.loop-place.place c.read_block-count.result c.loop-place.into c.parts_of_number.result c.loop-place-test.true (mapped-count vs c.args.block c.read_block-count.result c.read_block-count.ensures.count) c.loop-place.invariant.long c.loop-place.invariant.parts
      (c.parts_of_number.ensures ∙ number-read vs c.args.block c.loop-place.place c.read_block-count.result c.read_block-count.new.into _ c.loop-place-test.true c.read_block-count.ensures.count c.read_block-count.ensures.numbers c.read_block-count.ensures.fit);
}

pub returns-clause-parts : goal.returns-clause-parts
returns-clause-parts c = all-read c.loop-place.into _ c.read_block-count.result c.loop-place.place c.loop-place-test.false c.loop-place.auto.place-end (mapped-count (present c.args.self.now) c.args.block c.read_block-count.result c.read_block-count.ensures.count) c.loop-place.invariant.parts
