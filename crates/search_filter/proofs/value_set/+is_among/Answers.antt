use Rattle.std.proofs.Common.{sym, ◌∙◌}
use Rattle.search_filter.proofs.Halves.{looked_behind, looked_in_front}
use Rattle.search_filter.proofs.value_set.+is_among.Goals as goal

pub returns-in-Less : goal.returns-in-Less
returns-in-Less t c =
    looked_in_front c.args.value.now _ c.args.values.now _ _ _ c.in-Some.middle.now c.is_among.result c.split_at.ensures.front c.split_at.ensures.back c.in-Some.ensures.cases.0 (sym c.value_order.ensures ∙ c.in-Less.is) c.is_among.ensures

pub returns-in-Greater : goal.returns-in-Greater
returns-in-Greater t c =
    looked_behind c.args.value.now _ c.args.values.now _ _ _ c.in-Some.middle.now c.is_among-in-Greater.result c.split_at.ensures.front c.split_at.ensures.back c.in-Some.ensures.cases.0 (sym c.value_order.ensures ∙ c.in-Greater.is) c.is_among-in-Greater.ensures
