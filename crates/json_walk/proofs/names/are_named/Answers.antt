use Rattle.std.proofs.Common.{◌<◌, length, drop, sym, ap, ◌∙◌, arith}
use Rattle.serde_json.specs.View.{members_view}
use Rattle.serde_json.proofs.Views.{Entry}
use Rattle.json_walk.specs.Names.{are_names}
use Rattle.json_walk.proofs.Named.{texts, none_left, other_name, at_end}
use Rattle.json_walk.proofs.names.are_named.Goals as goal
use Rattle.json_walk.proofs.names.are_named.Goals.{then-at-names-via-then-at-names, then-at-names-via-else-at-names+then-ne}

pub returns-then-at-names : goal.returns-then-at-names
returns-then-at-names c =
    let ns = c.args.names.now in
    let e : Entry = (c.in-Some.name.now, c.in-Some.field-0-1.now) in
    let same = ap (λ es. are_names (texts (drop c.loop-name.at ns)) (members_view es)) (sym c.in-Some.ensures.steps) ∙ c.loop-name.invariant.same in
    elim c.then-at-names.branch [
      | then-at-names-via-then-at-names w ↦ sym (none_left ns c.loop-name.at e c.next.new.self w.if-at-names.true) ∙ same
      | then-at-names-via-else-at-names+then-ne w ↦
          let other = sym w.ne.ensures ∙ w.if-ne.true in
          let within : c.loop-name.at < length ns = omega arith in
          sym (other_name ns c.loop-name.at e c.next.new.self _ within (rw w.as_str.ensures.value at other)) ∙ same
    ]

pub returns : goal.returns
returns c =
    at_end c.args.names.now c.loop-name.at c.loop-name.invariant.within
    ∙ ap (λ es. are_names (texts (drop c.loop-name.at c.args.names.now)) (members_view es)) (sym c.in-None.ensures.steps.0)
    ∙ c.loop-name.invariant.same
