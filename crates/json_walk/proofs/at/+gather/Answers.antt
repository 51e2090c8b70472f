use Rattle.std.proofs.Common.{◌≡◌, [], ◌++◌, Some, map, length, true≢false, sym, ap, ◌∙◌, append-nil}
use Rattle.std.proofs.lemmas.Result.{on_ok_weaker}
use Rattle.serde_json.specs.Data.{Data}
use Rattle.serde_json.specs.View.{members_view}
use Rattle.json_walk.specs.Leaves.{at_members}
use Rattle.json_walk.specs.Lent.{bytes_of, lent, rest_path}
use Rattle.json_walk.specs.WalkLaws.{whole_at, members_at_end}
use Rattle.json_walk.proofs.at.+gather.Goals as goal

pub gather-returns-then-is_stop : goal.gather-returns-then-is_stop
gather-returns-then-is_stop t c =
    let stop = sym c.is_stop.ensures ∙ c.if-is_stop.true in
    let some = λ (none : c.in-Object.members.entries ≡ []). true≢false (sym (c.is_empty.ensures.1 (ap length none)) ∙ c.if-is_empty.false) in
    let whole = whole_at c.args.stops.now (bytes_of c.args.here) c.in-Object.members c.args.value.now (rest_path c.args.rest) stop c.in-Object.is some in
    on_ok_weaker c.lend.result (λ e. e ∙ ap (λ es. lent c.args.found.now.items ++ map (λ (d : Data). Some d) es) whole) c.lend.ensures

pub gather_members-returns-in-None : goal.gather_members-returns-in-None
gather_members-returns-in-None t c =
    let ms = members_view c.args.members.now.entries in
    let stops = c.args.stops.now in
    let here = bytes_of c.args.here in
    let none = ap (λ r. at_members stops here ms (rest_path r)) c.in-None.is ∙ members_at_end stops here ms in
    sym (ap (λ es. lent c.args.found.now.items ++ map (λ (d : Data). Some d) es) none ∙ append-nil _)
