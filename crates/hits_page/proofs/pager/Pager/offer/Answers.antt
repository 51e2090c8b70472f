use Rattle.std.proofs.Common.{◌++◌, ◌∷◌, [], ap, suc, subst, sym, w64, ◌∙◌}
use Rattle.std.proofs.lemmas.Int.{to_z-of_z}
use Rattle.hits_page.specs.Hits.{hit_of}
use Rattle.hits_page.specs.Pages.{Holds}
use Rattle.hits_page.proofs.Keeping.{one_longer}
use Rattle.hits_page.proofs.pager.Pager.offer.Goals as goal

pub returns-clause-taken : goal.returns-clause-taken
returns-clause-taken c =
    let p = c.args.self.now in
    let q = c.keep.new.self in
    let fields = c.args.schema.now.fields in
    let row = c.args.row.now in
    let kept = c.in_ok-keep.ensures in
    let start_is = to_z-of_z w64 c.args.start c.ranges.start in
    λ offered stands. record {
      total = c.in_ok-total.ensures ∙ (ap suc stands.total ∙ sym (one_longer (hit_of p.keys fields c.args.index c.args.start row) offered));
      limit = rw (kept.same.0, kept.asked.1, kept.asked.2) stands.limit;
      few = kept.few stands.few;
      holds = subst (λ start. Holds q.keys q.limit q.has_mark q.held.items (offered ++ hit_of p.keys fields c.args.index start row ∷ [])) start_is (kept.taken offered stands);
    }
