use Rattle.std.proofs.Common.{◌∙◌, sym}
use Rattle.bulk_json.specs.Lent.{path_in}
use Rattle.bulk_json.proofs.Streams.{asked_stream}
use Rattle.bulk_json.proofs.BulkLemmas.{passed, no-action, taken-alone, lacks-source, taken-with-source, empty-at, some-at}
use Rattle.bulk_json.proofs.items.read_step.Goals as goal

pub returns-then-is_blank-clause-items : goal.returns-then-is_blank-clause-items
returns-then-is_blank-clause-items c =
    let first = c.first_line-first in
    passed (path_in c.args.lines) c.args.lines.number c.args.lines.rest.now first.result.line.now first.result.rest.now
    c.requires.some first.ensures.line first.ensures.rest (sym c.is_blank.ensures ∙ c.if-is_blank.true)

pub returns-in_default-clause-refused : goal.returns-in_default-clause-refused
returns-in_default-clause-refused c = λ _.
    let first = c.first_line-first in
    no-action (path_in c.args.lines) c.args.lines.number c.args.lines.rest.now first.result.line.now first.result.rest.now c.in_ok-asked.field-0
    c.requires.some first.ensures.line first.ensures.rest (sym c.is_blank.ensures ∙ c.if-is_blank.false) c.in_ok-asked.ensures c.in_default.is

pub returns-then-not-takes_source-clause-items : goal.returns-then-not-takes_source-clause-items
returns-then-not-takes_source-clause-items c =
    let first = c.first_line-first in
    taken-alone (path_in c.args.lines) c.args.lines.number c.args.lines.rest.now first.result.line.now first.result.rest.now c.in_ok-asked.field-0 c.in-Some.asked
    c.requires.some first.ensures.line first.ensures.rest (sym c.is_blank.ensures ∙ c.if-is_blank.false) c.in_ok-asked.ensures c.in-Some.is
    (sym c.takes_source.ensures ∙ c.if-not-takes_source.true)

pub returns-then-not-takes_source-clause-sound : goal.returns-then-not-takes_source-clause-sound
returns-then-not-takes_source-clause-sound c = λ path. (
  record {
    stream = asked_stream (path_in c.args.lines) c.first_line-first.result.line.now c.in_ok-asked.field-0 c.in-Some.asked path c.in_ok-asked.ensures c.in-Some.is;
    source = sym (sym c.takes_source.ensures ∙ c.if-not-takes_source.true);
  },
  tt,
)

pub returns-then-is_empty-clause-refused : goal.returns-then-is_empty-clause-refused
returns-then-is_empty-clause-refused c = λ _.
    let first = c.first_line-first in
    lacks-source (path_in c.args.lines) c.args.lines.number c.args.lines.rest.now first.result.line.now first.result.rest.now c.in_ok-asked.field-0 c.in-Some.asked
    c.requires.some first.ensures.line first.ensures.rest (sym c.is_blank.ensures ∙ c.if-is_blank.false) c.in_ok-asked.ensures c.in-Some.is
    (sym c.takes_source.ensures ∙ c.if-not-takes_source.false) (empty-at _ c.is_empty.result c.is_empty.ensures c.if-is_empty.true)

pub returns-clause-items : goal.returns-clause-items
returns-clause-items c =
    let first = c.first_line-first in
    let second = c.first_line-second in
    taken-with-source (path_in c.args.lines) c.args.lines.number c.args.lines.rest.now first.result.line.now first.result.rest.now second.result.line.now second.result.rest.now
    c.in_ok-asked.field-0 c.in-Some.asked c.requires.some first.ensures.line first.ensures.rest
    (sym c.is_blank.ensures ∙ c.if-is_blank.false) c.in_ok-asked.ensures c.in-Some.is (sym c.takes_source.ensures ∙ c.if-not-takes_source.false)
    (some-at _ c.is_empty.result c.is_empty.ensures c.if-is_empty.false) second.ensures.line second.ensures.rest

pub returns-clause-sound : goal.returns-clause-sound
returns-clause-sound c = λ path. (
  record {
    stream = asked_stream (path_in c.args.lines) c.first_line-first.result.line.now c.in_ok-asked.field-0 c.in-Some.asked path c.in_ok-asked.ensures c.in-Some.is;
    source = sym (sym c.takes_source.ensures ∙ c.if-not-takes_source.false);
  },
  tt,
)
