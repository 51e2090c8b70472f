use Rattle.std.proofs.Common.{◌∙◌, get_or}
use Rattle.stream_catalog.proofs.PlaceLemmas.{place-past, place-upto, test_at}
use Rattle.stream_catalog.proofs.by_name.stands_before.Goals as goal

pub returns-clause-past : goal.returns-clause-past
returns-clause-past g c =
    let name = g.T.Named.name_of in
    let x = c.index-items-at.result in
    let there = get_or c.args.items.now c.args.at x in
    λ less. place-past name c.args.name.now c.args.items.now c.args.at x c.requires.ordered c.requires.within
    (test_at name c.args.name.now c.as_bytes.result.now c.name.result.now c.is_lt.result c.bytes_order.result x there c.is_lt.ensures c.bytes_order.ensures c.as_bytes.ensures c.name.ensures c.index-items-at.is ∙ less)

pub returns-clause-upto : goal.returns-clause-upto
returns-clause-upto g c =
    let name = g.T.Named.name_of in
    let x = c.index-items-at.result in
    let there = get_or c.args.items.now c.args.at x in
    λ least. place-upto name c.args.name.now c.args.items.now c.args.at x c.requires.within
    (test_at name c.args.name.now c.as_bytes.result.now c.name.result.now c.is_lt.result c.bytes_order.result x there c.is_lt.ensures c.bytes_order.ensures c.as_bytes.ensures c.name.ensures c.index-items-at.is ∙ least)
