use Rattle.std.proofs.Common.{◌∙◌, ap, sym, bytes_eq, filter, get_or, not, []}
use Rattle.stream_catalog.proofs.MemberLemmas.{filter-removed, kept-next}
use Rattle.stream_catalog.proofs.members.take_name_at.Goals as goal

pub returns-then-stands_at-clause-same : goal.returns-then-stands_at-clause-same
returns-then-stands_at-clause-same c =
    let out = ap (λ names. not (bytes_eq (get_or names c.args.at []) c.args.name.now)) (sym c.as_slice.ensures) ∙ ap not (sym (c.stands_at.ensures []) ∙ c.if-stands_at.true) in
    ap (filter (λ n. not (bytes_eq n c.args.name.now))) c.remove.ensures.rest ∙ filter-removed (λ n. not (bytes_eq n c.args.name.now)) c.args.names.now c.args.at [] c.requires out

pub returns-else-stands_at-clause-kept : goal.returns-else-stands_at-clause-kept
returns-else-stands_at-clause-kept c =
    let keeps = ap (λ names. not (bytes_eq (get_or names c.args.at []) c.args.name.now)) (sym c.as_slice.ensures) ∙ ap not (sym (c.stands_at.ensures []) ∙ c.if-stands_at.false) in
    λ kept. kept-next (λ n. not (bytes_eq n c.args.name.now)) c.args.names.now c.args.at [] c.requires keeps kept
