use Rattle.std.proofs.Common.{◌≡◌, ◌∙◌, length, set, ap, sym, arith}
use Rattle.synthetic_source.specs.Groups.{joined, empty_group, put_in, split}
use Rattle.synthetic_source.specs.Places.{place_among}
use Rattle.synthetic_source.specs.Seen.{content_data, group_names, seen_group, seen_groups}
use Rattle.synthetic_source.proofs.Added.{added_found, added_new, found_within, length_names, place_within, rises_put}
use Rattle.synthetic_source.proofs.groups.add.Goals as goal
use Rattle.synthetic_source.proofs.groups.add.Goals.{In_ok-join-in-Ok, In_ok-insert-in-Err}

pub index_mut-requires : goal.index_mut-requires
index_mut-requires c =
    let place = sym c.in-Ok.ensures in
    let within = found_within c.cut_first-path.result.name.now (group_names c.as_slice.result.now) (ap (λ q. q.found) place) in
    omega (arith, within, ap (λ q. q.at) place, length_names c.as_slice.result.now, ap length c.as_slice.ensures.value)

pub insert-requires : goal.insert-requires
insert-requires c =
    let place = sym c.in-Err.ensures in
    let within = place_within c.cut_first-path.result.name.now (group_names c.as_slice.result.now) in
    omega (arith, within, ap (λ q. q.at) place, length_names c.as_slice.result.now, ap length c.as_slice.ensures.value)

seen_ok : (c : In_ok-join-in-Ok) → seen_groups (set c.args.groups.now.items c.in-Ok.at c.join.new.group) ≡ put_in (split c.args.entry.path.now) (content_data c.args.entry.content) (seen_groups c.args.groups.now.items)
seen_ok c =
    let here = ap (λ p. place_among p.name (group_names c.args.groups.now.items)) (sym c.cut_first-path.ensures) ∙ (ap (λ gs. place_among c.cut_first-path.result.name.now (group_names gs)) (sym c.as_slice.ensures.value) ∙ sym c.in-Ok.ensures) in
    added_found c.args.groups.now.items c.in-Ok.at c.index_mut.result.now c.join.new.group (split c.args.entry.path.now) (content_data c.args.entry.content) here c.index_mut.ensures.value
    (c.in_ok-join-in-Ok.ensures ∙ ap (λ p. joined p.rest (content_data c.args.entry.content) (seen_group c.index_mut.result.now)) c.cut_first-path.ensures)

pub returns-in_ok-join-in-Ok-clause-seen : goal.returns-in_ok-join-in-Ok-clause-seen
returns-in_ok-join-in-Ok-clause-seen c = seen_ok c

pub returns-in_ok-join-in-Ok-clause-rise : goal.returns-in_ok-join-in-Ok-clause-rise
returns-in_ok-join-in-Ok-clause-rise c = rises_put c.args.groups.now.items _ (split c.args.entry.path.now) (content_data c.args.entry.content) (seen_ok c) c.requires

seen_err : (c : In_ok-insert-in-Err) → seen_groups c.insert.new.self.items ≡ put_in (split c.args.entry.path.now) (content_data c.args.entry.content) (seen_groups c.args.groups.now.items)
seen_err c =
    let here = ap (λ p. place_among p.name (group_names c.args.groups.now.items)) (sym c.cut_first-path.ensures) ∙ (ap (λ gs. place_among c.cut_first-path.result.name.now (group_names gs)) (sym c.as_slice.ensures.value) ∙ sym c.in-Err.ensures) in
    ap seen_groups c.in_ok-insert-in-Err.ensures.items
    ∙ added_new c.args.groups.now.items c.in-Err.at c.in_ok-new_group-in-Err.field-0 (split c.args.entry.path.now) (content_data c.args.entry.content) here
    (c.in_ok-new_group-in-Err.ensures ∙ ap (λ p. joined p.rest (content_data c.args.entry.content) (empty_group p.name)) c.cut_first-path.ensures)

pub returns-in_ok-insert-in-Err-clause-seen : goal.returns-in_ok-insert-in-Err-clause-seen
returns-in_ok-insert-in-Err-clause-seen c = seen_err c

pub returns-in_ok-insert-in-Err-clause-rise : goal.returns-in_ok-insert-in-Err-clause-rise
returns-in_ok-insert-in-Err-clause-rise c = rises_put c.args.groups.now.items _ (split c.args.entry.path.now) (content_data c.args.entry.content) (seen_err c) c.requires
