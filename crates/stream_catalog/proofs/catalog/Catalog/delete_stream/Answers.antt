use Rattle.std.proofs.Common.{◌∙◌, sym}
use Rattle.stream_catalog.proofs.HeldGoneLemmas.{held_gone, told_gone}
use Rattle.stream_catalog.proofs.catalog.Catalog.delete_stream.Goals as goal
use Rattle.stream_catalog.proofs.catalog.Catalog.delete_stream.Goals.{in-Some-1, in-None-1}

pub invariant_of-self : goal.invariant_of-self
invariant_of-self c =
    held_gone c.self.inside.facts c.self.inside.rows c.args.name.now c.self.invariant c.take_stream.new.self c.keep.new.self c.in-Ok-Some.stream (sym c.in-Ok-Some.ensures.stream ∙ c.in-Ok-Some.field-0-is) c.in-Ok-Some.ensures.ok c.keep.ensures

pub invariant_of-self-in-Ok-Some-2 : goal.invariant_of-self-in-Ok-Some-2
invariant_of-self-in-Ok-Some-2 c =
    held_gone c.self.inside.facts c.self.inside.rows c.args.name.now c.self.invariant c.take_stream.new.self c.keep.new.self c.in-Ok-Some.stream (sym c.in-Ok-Some.ensures.stream ∙ c.in-Ok-Some.field-0-is) c.in-Ok-Some.ensures.ok c.keep.ensures

pub returns-in-Ok-Some-clause-ok : goal.returns-in-Ok-Some-clause-ok
returns-in-Ok-Some-clause-ok c =
    let told = told_gone c.self.inside.facts c.self.inside.rows c.args.name.now c.self.invariant c.take_stream.new.self c.keep.new.self c.args.self.now c.in-Ok-Some.stream c.self.view_is (sym c.in-Ok-Some.ensures.stream ∙ c.in-Ok-Some.field-0-is) c.in-Ok-Some.ensures.ok c.keep.ensures in
    elim c.match-stream-3.branch [ in-Some-1 w ↦ w.self-is ∙ told | in-None-1 w ↦ w.self-is ∙ told ]
