use Rattle.std.proofs.Common.{◌≡◌, ◌∙◌, [], ◌∷◌, Ok, sym, subst, arith}
use Rattle.std.specs.Prelude.{IfSome, MatchOption}
use Rattle.bulk_json.specs.Items.{onto}
use Rattle.bulk_json.specs.Lent.{ahead_in, seen_item, IsBehind}
use Rattle.bulk_json.specs.Sound.{IsItem, IsPath}
use Rattle.bulk_json.proofs.BulkLemmas.{one-more, one-sound}
use Rattle.bulk_json.proofs.items.read_items.Goals as goal

pub loop-items-preserved : goal.loop-items-preserved
loop-items-preserved c =
    let found = c.in_ok-item.ensures in
    let item = seen_item c.in-Some.field-0.item in
    let lines = c.loop-items.lines in
    let behind = subst (λ o. IfSome o (λ n. IsBehind n.ahead lines)) c.in-Some.is found.onward in
    record {
      all =
          one-more c.loop-items.items.items c.push.new.self.items item c.in_ok-kept.field-0 (ahead_in lines) (ahead_in c.in-Some.field-0.ahead) (ahead_in c.args.start) c.in_ok-kept.ensures c.in_ok-push.ensures.items
          (subst (λ o. MatchOption o (ahead_in lines ≡ Ok []) (λ n. ahead_in lines ≡ onto (seen_item n.item ∷ []) (ahead_in n.ahead))) c.in-Some.is found.item) c.loop-items.invariant.all;
      sound = λ path.
          let here = subst IsPath (sym c.loop-items.invariant.path) path in
          one-sound c.loop-items.items.items c.push.new.self.items item c.in_ok-kept.field-0 c.in_ok-kept.ensures c.in_ok-push.ensures.items (c.loop-items.invariant.sound path)
          (subst (λ o. IfSome o (λ n. IsItem (seen_item n.item))) c.in-Some.is (found.sound here));
      path = behind.path ∙ c.loop-items.invariant.path;
      few = omega (arith, behind.few, c.loop-items.invariant.few);
    }
