use Rattle.std.proofs.Common.{◌≡◌, ◌∙◌, ap, sym, rules, length, take, ◌++◌, Err, ◌<◌, ◌^◌}
use Rattle.std.proofs.lemmas.Bool.{false≢true}
use Rattle.column_block.specs.Worded.{worded}
use Rattle.packed_lists.specs.Laws.Fronts.{err-same}
use Rattle.column_block.proofs.Wording.{begins-table, begun, rows-one, read-words, words-bytes, table-inside, read-ordinals, shown-ordinals}
use Rattle.column_block.proofs.words.TextRows.read.Goals as goal

pub returns-in-Err-clause-bad : goal.returns-in-Err-clause-bad
returns-in-Err-clause-bad c = λ same lists spelling rest n h s e.
    let (us, more, a, b) = begins-table c.args.bytes.now spelling rest lists h s e in
    c.in-Err.ensures.bad (ap Err (err-same c.in-Err.error _ same)) us more a b

pub returns-in-Err-read-clause-bad : goal.returns-in-Err-read-clause-bad
returns-in-Err-read-clause-bad c = λ same lists spelling rest n h s e.
    let t = c.in-Ok.table in
    let (tail, whole) = c.in-Ok.ensures.spelled in
    let few : length c.args.bytes.now < 2 ^ 64 = search rules in
    let b = begun t.texts.items c.args.bytes.now tail spelling rest t.used c.args.rows lists c.in-Ok.ensures.texts c.in-Ok.ensures.used whole few n h s e in
    c.in-Err-read.ensures.bad (ap Err (err-same c.in-Err-read.error _ same)) b.lists b.nums b.rest b.long b.short b.spelled b.behind

pub returns-then-not-are-clause-bad : goal.returns-then-not-are-clause-bad
returns-then-not-are-clause-bad c = λ _ lists spelling rest n h s e.
    let t = c.in-Ok.table in
    let r = c.in-Ok-read.read in
    let (tail, whole) = c.in-Ok.ensures.spelled in
    let few : length c.args.bytes.now < 2 ^ 64 = search rules in
    let b = begun t.texts.items c.args.bytes.now tail spelling rest t.used c.args.rows lists c.in-Ok.ensures.texts c.in-Ok.ensures.used whole few n h s e in
    let (nums, g, f) = c.in-Ok-read.ensures.spelled in
    let one = rows-one c.args.bytes.now nums b.nums b.rest t.used r.used r.rows.lists b.lists (table-inside t.texts.items c.args.bytes.now tail t.used c.in-Ok.ensures.used whole) (c.in-Ok-read.ensures.rows ∙ sym b.long) g f b.spelled b.behind in
    let count : c.len.result ≡ length t.texts.items = search rules in
    let valid = shown-ordinals c.len.result (length t.texts.items) c.args.rows c.as_slice.result.now c.in-Ok-values.places r.rows.lists b.lists b.valid count c.as_slice.ensures c.in-Ok-values.ensures c.in-Ok-read.ensures.rows one in
    absurd (false≢true (sym c.if-not-are.true ∙ c.in-Ok-are_ordinals.ensures.1 valid))

pub invariant_of-column : goal.invariant_of-column
invariant_of-column c =
    let t = c.in-Ok.table in
    let r = c.in-Ok-read.read in
    let (tail, whole) = c.in-Ok.ensures.spelled in
    let count : c.len.result ≡ length t.texts.items = search rules in
    let o = read-ordinals c.len.result (length t.texts.items) c.args.rows c.as_slice.result.now c.in-Ok-values.places r.rows.lists (c.in-Ok-are_ordinals.ensures.0 c.if-not-are.false) count c.as_slice.ensures c.in-Ok-values.ensures c.in-Ok-read.ensures.rows in
    read-words t.texts.items c.args.bytes.now tail t.used r.rows c.in-Ok.ensures.texts c.in-Ok.ensures.used whole c.in-Ok-read.ensures.front c.in-Ok-read.ensures.short o

pub returns-clause-rules : goal.returns-clause-rules
returns-clause-rules c =
    let t = c.in-Ok.table in
    let r = c.in-Ok-read.read in
    let (tail, whole) = c.in-Ok.ensures.spelled in
    let count : c.len.result ≡ length t.texts.items = search rules in
    let o = read-ordinals c.len.result (length t.texts.items) c.args.rows c.as_slice.result.now c.in-Ok-values.places r.rows.lists (c.in-Ok-are_ordinals.ensures.0 c.if-not-are.false) count c.as_slice.ensures c.in-Ok-values.ensures c.in-Ok-read.ensures.rows in
    (read-words t.texts.items c.args.bytes.now tail t.used r.rows c.in-Ok.ensures.texts c.in-Ok.ensures.used whole c.in-Ok-read.ensures.front c.in-Ok-read.ensures.short o).rules

pub returns-clause-spelled : goal.returns-clause-spelled
returns-clause-spelled c =
    let t = c.in-Ok.table in
    let r = c.in-Ok-read.read in
    let (tail, whole) = c.in-Ok.ensures.spelled in
    let count : c.len.result ≡ length t.texts.items = search rules in
    let o = read-ordinals c.len.result (length t.texts.items) c.args.rows c.as_slice.result.now c.in-Ok-values.places r.rows.lists (c.in-Ok-are_ordinals.ensures.0 c.if-not-are.false) count c.as_slice.ensures c.in-Ok-values.ensures c.in-Ok-read.ensures.rows in
    let h = read-words t.texts.items c.args.bytes.now tail t.used r.rows c.in-Ok.ensures.texts c.in-Ok.ensures.used whole c.in-Ok-read.ensures.front c.in-Ok-read.ensures.short o in
    let (nums, g, f) = c.in-Ok-read.ensures.spelled in
    words-bytes t.texts.items r.rows (worded t.texts.items r.rows.lists) (take r.used c.args.bytes.now) h (nums, g, f ∙ ap (λ z. z ++ nums) (sym c.in-Ok-read.ensures.front))
