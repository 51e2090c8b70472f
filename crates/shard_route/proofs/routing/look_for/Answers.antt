use Rattle.std.proofs.Common.{◌≡◌, ◌∷◌, ap, ◌∙◌, sym, subst}
use Rattle.std.specs.List.{slice_get}
use Rattle.std.specs.Cmp.Lexicographic.{slice_cmp}
use Rattle.std.specs.Ordering.{nat_cmp}
use Rattle.shard_route.specs.Routing.{Ascend, Looked, is_among, path_of, routing_paths}
use Rattle.shard_route.specs.RoutingLaws.{look_less, among_less, look_equal, among_greater}
use Rattle.shard_route.proofs.routing.look_for.Goals as goal

pub loop-place-preserved : goal.loop-place-preserved
loop-place-preserved c =
    let path = c.args.path.now in
    let all = routing_paths c.args.fields.now c.args.places.now in
    let first = path_of (slice_get c.args.fields.now c.in-Some.place.now) in
    let others = routing_paths c.args.fields.now c.in-Some.rest.now in
    let seen : routing_paths c.args.fields.now c.loop-place.left.now ≡ first ∷ others = ap (routing_paths c.args.fields.now) c.in-Some.ensures.cases.0 in
    let less = ap (λ p. slice_cmp nat_cmp p path) (sym c.path_of.ensures) ∙ (sym c.bytes_order.ensures ∙ c.in-Less.is) in
    record {
      looked = look_less path first others all less (subst (λ ps. Looked path ps all) seen c.loop-place.invariant.looked);
      among = sym (among_less path first others less) ∙ (ap (is_among path) (sym seen) ∙ c.loop-place.invariant.among);
    }

pub returns-in-Equal-clause-looked : goal.returns-in-Equal-clause-looked
returns-in-Equal-clause-looked c =
    let path = c.args.path.now in
    let all = routing_paths c.args.fields.now c.args.places.now in
    let first = path_of (slice_get c.args.fields.now c.in-Some.place.now) in
    let others = routing_paths c.args.fields.now c.in-Some.rest.now in
    let seen : routing_paths c.args.fields.now c.loop-place.left.now ≡ first ∷ others = ap (routing_paths c.args.fields.now) c.in-Some.ensures.cases.0 in
    let equal = ap (λ p. slice_cmp nat_cmp p path) (sym c.path_of.ensures) ∙ (sym c.bytes_order.ensures ∙ c.in-Equal.is) in
    look_equal path first others all equal (subst (λ ps. Looked path ps all) seen c.loop-place.invariant.looked)

pub returns-in-Greater-clause-routes : goal.returns-in-Greater-clause-routes
returns-in-Greater-clause-routes c =
    let path = c.args.path.now in
    let first = path_of (slice_get c.args.fields.now c.in-Some.place.now) in
    let others = routing_paths c.args.fields.now c.in-Some.rest.now in
    let seen : routing_paths c.args.fields.now c.loop-place.left.now ≡ first ∷ others = ap (routing_paths c.args.fields.now) c.in-Some.ensures.cases.0 in
    let greater = ap (λ p. slice_cmp nat_cmp p path) (sym c.path_of.ensures) ∙ (sym c.bytes_order.ensures ∙ c.in-Greater.is) in
    sym (among_greater path first others greater (subst Ascend seen c.loop-place.invariant.looked.ascend)) ∙ (ap (is_among path) (sym seen) ∙ c.loop-place.invariant.among)
