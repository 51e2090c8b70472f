use Rattle.std.proofs.Common.{◌≡◌, ◌++◌, drop}
use Rattle.synthetic_source.specs.Contents.{AreShowable}
use Rattle.synthetic_source.specs.Normal.{shown_of}
use Rattle.synthetic_source.specs.Seen.{seen_all}
use Rattle.synthetic_source.proofs.rebuilding.entries_of.Given as goal

abbrev pub invariant-loop-i : goal.invariant-loop-i
invariant-loop-i l = record {
  so_far : seen_all l.entries.items ++ shown_of l.time (drop l.i l.fields) (drop l.i l.cells) ≡ shown_of l.time l.fields l.cells;
  left : AreShowable (drop l.i l.fields) (drop l.i l.cells);
}
