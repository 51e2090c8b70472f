use Rattle.std.proofs.Common.{drop}
use Rattle.serde_json.specs.View.{members_view}
use Rattle.synthetic_source.specs.Flat.{members_ahead}
use Rattle.synthetic_source.proofs.FlatSteps.{FlatOn}
use Rattle.synthetic_source.proofs.flat.read_flat.Given as goal

-- what the fields and members that are left are, in front of which the cells so far stand, is what all are
abbrev pub invariant-loop-field : goal.invariant-loop-field
invariant-loop-field l = FlatOn (drop l.field-index l.fields) (members_ahead l.next l.behind) l.time l.cells.items l.fields (members_view l.members.entries)
