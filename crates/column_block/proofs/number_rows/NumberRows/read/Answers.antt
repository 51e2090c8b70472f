use Rattle.std.proofs.Common.{◌∙◌, sym, subst, refl}
use Rattle.std.proofs.lemmas.Bool.{false≢true}
use Rattle.row_cells.specs.Each.{Each}
use Rattle.column_block.specs.Rules.{Ascend}
use Rattle.column_block.proofs.NumberRowed.{all-rows, rows-keep, rows-ascend, read-same}
use Rattle.column_block.proofs.number_rows.NumberRows.read.Goals as goal

pub returns-then-not-all_ascend-clause-bad : goal.returns-then-not-all_ascend-clause-bad
returns-then-not-all_ascend-clause-bad c = λ _ lists spelling rest n rules h e.
    let own = c.in-Ok.read.rows.lists in
    let same = read-same own lists c.args.bytes.now spelling rest c.in-Ok.read.used c.args.rows c.in-Ok.ensures.rows n c.in-Ok.ensures.spelled h e in
    let shown = c.as_slice.ensures ∙ c.in-Ok-values.ensures ∙ all-rows own c.args.rows c.in-Ok.ensures.rows ∙ same in
    absurd (false≢true (c.if-not-all_ascend.ensures.1 (subst (λ z. Each Ascend z) (sym shown) (rows-ascend lists rules))))

pub invariant_of-column : goal.invariant_of-column
invariant_of-column c =
    let own = c.in-Ok.read.rows.lists in
    let shown = c.as_slice.ensures ∙ c.in-Ok-values.ensures ∙ all-rows own c.args.rows c.in-Ok.ensures.rows in
    (c.in-Ok.ensures.front, rows-keep own c.in-Ok.ensures.short (subst (λ z. Each Ascend z) shown (c.if-not-all_ascend.ensures.0 refl)))

pub returns-clause-rules : goal.returns-clause-rules
returns-clause-rules c =
    let own = c.in-Ok.read.rows.lists in
    let shown = c.as_slice.ensures ∙ c.in-Ok-values.ensures ∙ all-rows own c.args.rows c.in-Ok.ensures.rows in
    rows-keep own c.in-Ok.ensures.short (subst (λ z. Each Ascend z) shown (c.if-not-all_ascend.ensures.0 refl))
