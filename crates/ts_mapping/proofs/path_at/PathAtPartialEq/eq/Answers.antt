use Rattle.std.proofs.Common.{◌≡◌, ap, ◌∙◌}
use Rattle.std.proofs.lemmas.Map.Text.{is_eq-slice_cmp}
use Rattle.std.specs.Ordering.{is_eq, nat_cmp}
use Rattle.std.specs.Cmp.Lexicographic.{slice_cmp}
use Rattle.ts_mapping.proofs.path_at.PathAtPartialEq.eq.Goals as goal

pub returns : goal.returns
returns c =
    let order : c.bytes_order.result ≡ slice_cmp nat_cmp c.args.self.now c.args.other.now = cc in
    c.is_eq.ensures ∙ (ap is_eq order ∙ is_eq-slice_cmp c.args.self.now c.args.other.now)
