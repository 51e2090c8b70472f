use Rattle.std.proofs.Common.{sym, subst}
use Rattle.column_block.specs.Cutting.{IsShort}
use Rattle.row_cells.specs.Each.{Each}
use Rattle.column_block.specs.Rules.{IsText}
use Rattle.column_block.specs.Spelling.{IsIn}
use Rattle.column_block.proofs.Wording.{words-are, built-words, table-texts, short-places}
use Rattle.column_block.proofs.words.TextRows.build.Goals as goal

pub spell_table-requires : goal.spell_table-requires
spell_table-requires c =
    subst (λ z. Each IsText z) (sym c.as_slice.ensures.value) (table-texts c.in_ok-texts.texts.items c.args.lists.now c.in_ok-texts.ensures.ascend c.in_ok-texts.ensures.occur c.requires.rules).each

pub all_places-requires-clause-held : goal.all_places-requires-clause-held
all_places-requires-clause-held c = λ t g. subst (λ z. IsIn t z) (sym c.as_slice-2.ensures.value) ((c.in_ok-texts.ensures.occur t).1 g)

pub build-requires-clause-short : goal.build-requires-clause-short
build-requires-clause-short c =
    subst (λ z. Each IsShort z) (sym c.as_slice-3.ensures.value) (short-places c.as_slice-2.result.now c.args.lists.now c.in_ok-places.places.items c.in_ok-places.ensures c.requires.rules)

pub invariant_of-result : goal.invariant_of-result
invariant_of-result c =
    let us = c.in_ok-texts.texts.items in
    let h = built-words us c.as_slice.result.now c.as_slice-2.result.now c.args.lists.now c.in_ok-rows.rows c.in_ok-front.front.items c.in_ok-places.places.items c.as_slice-3.result.now c.in_ok-texts.ensures.ascend c.in_ok-texts.ensures.occur c.requires.rules
    c.as_slice.ensures.value c.in_ok-front.ensures c.as_slice-2.ensures.value c.in_ok-places.ensures c.as_slice-3.ensures.value c.in_ok-rows.ensures.front c.in_ok-rows.ensures.lists in
    rw (words-are us c.in_ok-rows.rows c.args.lists.now h) h

pub returns : goal.returns
returns c =
    let us = c.in_ok-texts.texts.items in
    let h = built-words us c.as_slice.result.now c.as_slice-2.result.now c.args.lists.now c.in_ok-rows.rows c.in_ok-front.front.items c.in_ok-places.places.items c.as_slice-3.result.now c.in_ok-texts.ensures.ascend c.in_ok-texts.ensures.occur c.requires.rules
    c.as_slice.ensures.value c.in_ok-front.ensures c.as_slice-2.ensures.value c.in_ok-places.ensures c.as_slice-3.ensures.value c.in_ok-rows.ensures.front c.in_ok-rows.ensures.lists in
    words-are us c.in_ok-rows.rows c.args.lists.now h
