use Rattle.std.proofs.Common.{◌∙◌, get_or, rules}
use Rattle.stream_catalog.proofs.PlaceLemmas.{absent_at, absent_end, here_at, named_at}
use Rattle.stream_catalog.proofs.by_name.search.Goals as goal

pub returns-then-at-items-clause-absent : goal.returns-then-at-items-clause-absent
returns-then-at-items-clause-absent g c = absent_end g.T.Named.name_of c.args.name.now c.args.items.now c.find_place-at.result c.find_place-at.ensures.place c.if-at-items.true

pub returns-then-eq : goal.returns-then-eq
returns-then-eq g c =
    let name = g.T.Named.name_of in
    let x = c.index-items-at.result in
    let same = named_at name c.args.name.now c.as_bytes.result.now c.name.result.now c.eq.result x (get_or c.args.items.now c.find_place-at.result x) c.eq.ensures c.as_bytes.ensures c.name.ensures c.index-items-at.is in
    record { here = here_at name c.args.name.now c.args.items.now c.find_place-at.result x c.requires c.find_place-at.ensures.place (search rules) (same ∙ c.if-eq.true); absent = tt }

pub returns-else-eq : goal.returns-else-eq
returns-else-eq g c =
    let name = g.T.Named.name_of in
    let x = c.index-items-at.result in
    let same = named_at name c.args.name.now c.as_bytes.result.now c.name.result.now c.eq.result x (get_or c.args.items.now c.find_place-at.result x) c.eq.ensures c.as_bytes.ensures c.name.ensures c.index-items-at.is in
    record { here = tt; absent = absent_at name c.args.name.now c.args.items.now c.find_place-at.result x c.requires c.find_place-at.ensures.place (same ∙ c.if-eq.false) }
