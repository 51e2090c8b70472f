use Rattle.std.proofs.Common.{◌≡◌, ◌++◌, IsSomeAnd, ap, sym, subst, ◌∙◌, length}
use Rattle.std.specs.List.{flat_map}
use Rattle.row_cells.specs.Dimensions.{text_bytes}
use Rattle.index_segment.specs.Columns.{columns_of}
use Rattle.index_segment.specs.Directory.{keys_of, sizes_of}
use Rattle.index_segment.specs.Forms.{forms_of}
use Rattle.index_segment.specs.Parts as kept
use Rattle.index_segment.specs.Parts.{AreColumnsOf}
use Rattle.index_segment.specs.Spelling.{AreColumns, counted, counts_of, times_of}
use Rattle.index_segment.proofs.Laid.{layout}
use Rattle.index_segment.proofs.parse.read_parts.Goals as goal

pub returns-in_default : goal.returns-in_default
returns-in_default c rows is =
    let l = layout c.args.schema.now rows c.args.bytes.now c.requires.mapped is in
    let keys = keys_of rows in
    let after_counts = l.back in
    let after_times = l.count_bytes ++ l.back in
    let after_sizes = l.time_bytes ++ after_times in
    let after_keys = l.size_bytes ++ after_sizes in
    let after_head = flat_map text_bytes keys ++ after_keys in
    c.in_default.ensures (length rows) (length keys) after_head l.rows_few l.series_few l.joined

pub returns-in_default-2 : goal.returns-in_default-2
returns-in_default-2 c rows is =
    let l = layout c.args.schema.now rows c.args.bytes.now c.requires.mapped is in
    let keys = keys_of rows in
    let after_counts = l.back in
    let after_times = l.count_bytes ++ l.back in
    let after_sizes = l.time_bytes ++ after_times in
    let after_keys = l.size_bytes ++ after_sizes in
    let after_head = flat_map text_bytes keys ++ after_keys in
    let h = c.in-Some.ensures (length rows) (length keys) after_head l.rows_few l.series_few l.joined in
    let k = c.in_ok-keys.ensures keys after_keys l.keys (sym h.1) h.2 in
    subst (λ o. IsSomeAnd o (λ read. (read.keys ≡ keys) × (read.rest.now ≡ after_keys))) c.in_default-2.is k

pub returns-in_default-3 : goal.returns-in_default-3
returns-in_default-3 c rows is =
    let l = layout c.args.schema.now rows c.args.bytes.now c.requires.mapped is in
    let keys = keys_of rows in
    let after_counts = l.back in
    let after_times = l.count_bytes ++ l.back in
    let after_sizes = l.time_bytes ++ after_times in
    let after_keys = l.size_bytes ++ after_sizes in
    let after_head = flat_map text_bytes keys ++ after_keys in
    let h = c.in-Some.ensures (length rows) (length keys) after_head l.rows_few l.series_few l.joined in
    let k = c.in_ok-keys.ensures keys after_keys l.keys (sym h.1) h.2 in
    let k' = subst (λ o. IsSomeAnd o (λ read. (read.keys ≡ keys) × (read.rest.now ≡ after_keys))) c.in-Some-2.is k in
    let s = c.in_ok-sizes.ensures (counted (sizes_of rows)) l.size_bytes after_sizes (l.sizes_length ∙ sym h.1) l.sizes_are k'.1 in
    subst (λ o. IsSomeAnd o (λ read. (read.numbers ≡ counted (sizes_of rows)) × (read.rest.now ≡ after_sizes))) c.in_default-3.is s

pub returns-in_default-4 : goal.returns-in_default-4
returns-in_default-4 c rows is =
    let l = layout c.args.schema.now rows c.args.bytes.now c.requires.mapped is in
    let keys = keys_of rows in
    let after_counts = l.back in
    let after_times = l.count_bytes ++ l.back in
    let after_sizes = l.time_bytes ++ after_times in
    let after_keys = l.size_bytes ++ after_sizes in
    let after_head = flat_map text_bytes keys ++ after_keys in
    let h = c.in-Some.ensures (length rows) (length keys) after_head l.rows_few l.series_few l.joined in
    let k = c.in_ok-keys.ensures keys after_keys l.keys (sym h.1) h.2 in
    let k' = subst (λ o. IsSomeAnd o (λ read. (read.keys ≡ keys) × (read.rest.now ≡ after_keys))) c.in-Some-2.is k in
    let s = c.in_ok-sizes.ensures (counted (sizes_of rows)) l.size_bytes after_sizes (l.sizes_length ∙ sym h.1) l.sizes_are k'.1 in
    let s' = subst (λ o. IsSomeAnd o (λ read. (read.numbers ≡ counted (sizes_of rows)) × (read.rest.now ≡ after_sizes))) c.in-Some-3.is s in
    let t = c.in_ok-times.ensures (times_of rows) l.time_bytes after_times (l.times_length ∙ sym h.0) l.times_are s'.1 in
    subst (λ o. IsSomeAnd o (λ read. (read.numbers ≡ times_of rows) × (read.rest.now ≡ after_times))) c.in_default-4.is t

pub returns-in_default-5 : goal.returns-in_default-5
returns-in_default-5 c rows is =
    let l = layout c.args.schema.now rows c.args.bytes.now c.requires.mapped is in
    let keys = keys_of rows in
    let after_counts = l.back in
    let after_times = l.count_bytes ++ l.back in
    let after_sizes = l.time_bytes ++ after_times in
    let after_keys = l.size_bytes ++ after_sizes in
    let after_head = flat_map text_bytes keys ++ after_keys in
    let h = c.in-Some.ensures (length rows) (length keys) after_head l.rows_few l.series_few l.joined in
    let k = c.in_ok-keys.ensures keys after_keys l.keys (sym h.1) h.2 in
    let k' = subst (λ o. IsSomeAnd o (λ read. (read.keys ≡ keys) × (read.rest.now ≡ after_keys))) c.in-Some-2.is k in
    let s = c.in_ok-sizes.ensures (counted (sizes_of rows)) l.size_bytes after_sizes (l.sizes_length ∙ sym h.1) l.sizes_are k'.1 in
    let s' = subst (λ o. IsSomeAnd o (λ read. (read.numbers ≡ counted (sizes_of rows)) × (read.rest.now ≡ after_sizes))) c.in-Some-3.is s in
    let t = c.in_ok-times.ensures (times_of rows) l.time_bytes after_times (l.times_length ∙ sym h.0) l.times_are s'.1 in
    let t' = subst (λ o. IsSomeAnd o (λ read. (read.numbers ≡ times_of rows) × (read.rest.now ≡ after_times))) c.in-Some-4.is t in
    let n = c.in_ok-counts.ensures (counts_of rows) l.count_bytes after_counts (l.counts_length ∙ sym h.0) l.counts_are t'.1 in
    subst (λ o. IsSomeAnd o (λ read. (read.numbers ≡ counts_of rows) × (read.rest.now ≡ after_counts))) c.in_default-5.is n

pub returns-in_default-6 : goal.returns-in_default-6
returns-in_default-6 c rows is =
    let l = layout c.args.schema.now rows c.args.bytes.now c.requires.mapped is in
    let keys = keys_of rows in
    let after_counts = l.back in
    let after_times = l.count_bytes ++ l.back in
    let after_sizes = l.time_bytes ++ after_times in
    let after_keys = l.size_bytes ++ after_sizes in
    let after_head = flat_map text_bytes keys ++ after_keys in
    let h = c.in-Some.ensures (length rows) (length keys) after_head l.rows_few l.series_few l.joined in
    let k = c.in_ok-keys.ensures keys after_keys l.keys (sym h.1) h.2 in
    let k' = subst (λ o. IsSomeAnd o (λ read. (read.keys ≡ keys) × (read.rest.now ≡ after_keys))) c.in-Some-2.is k in
    let s = c.in_ok-sizes.ensures (counted (sizes_of rows)) l.size_bytes after_sizes (l.sizes_length ∙ sym h.1) l.sizes_are k'.1 in
    let s' = subst (λ o. IsSomeAnd o (λ read. (read.numbers ≡ counted (sizes_of rows)) × (read.rest.now ≡ after_sizes))) c.in-Some-3.is s in
    let t = c.in_ok-times.ensures (times_of rows) l.time_bytes after_times (l.times_length ∙ sym h.0) l.times_are s'.1 in
    let t' = subst (λ o. IsSomeAnd o (λ read. (read.numbers ≡ times_of rows) × (read.rest.now ≡ after_times))) c.in-Some-4.is t in
    let n = c.in_ok-counts.ensures (counts_of rows) l.count_bytes after_counts (l.counts_length ∙ sym h.0) l.counts_are t'.1 in
    let n' = subst (λ o. IsSomeAnd o (λ read. (read.numbers ≡ counts_of rows) × (read.rest.now ≡ after_counts))) c.in-Some-5.is n in
    let kinds : c.as_slice.result.now ≡ kept.kinds_of (forms_of c.args.schema.now) = c.as_slice.ensures ∙ (c.in_ok-kinds.ensures ∙ ap kept.kinds_of c.requires.forms) in
    let x = c.in_ok-columns.ensures (columns_of c.args.schema.now rows) (subst (λ ks. AreColumnsOf ks c.in-Some.head.rows (columns_of c.args.schema.now rows)) (sym kinds) (subst (λ r. AreColumnsOf (kept.kinds_of (forms_of c.args.schema.now)) r (columns_of c.args.schema.now rows)) (sym h.0) l.columns_of_kinds)) (subst (AreColumns (columns_of c.args.schema.now rows)) (sym n'.1) l.columns_are) in
    subst (λ o. IsSomeAnd o (λ read. read ≡ columns_of c.args.schema.now rows)) c.in_default-6.is x

pub returns : goal.returns
returns c rows is =
    let l = layout c.args.schema.now rows c.args.bytes.now c.requires.mapped is in
    let keys = keys_of rows in
    let after_counts = l.back in
    let after_times = l.count_bytes ++ l.back in
    let after_sizes = l.time_bytes ++ after_times in
    let after_keys = l.size_bytes ++ after_sizes in
    let after_head = flat_map text_bytes keys ++ after_keys in
    let h = c.in-Some.ensures (length rows) (length keys) after_head l.rows_few l.series_few l.joined in
    let k = c.in_ok-keys.ensures keys after_keys l.keys (sym h.1) h.2 in
    let k' = subst (λ o. IsSomeAnd o (λ read. (read.keys ≡ keys) × (read.rest.now ≡ after_keys))) c.in-Some-2.is k in
    let s = c.in_ok-sizes.ensures (counted (sizes_of rows)) l.size_bytes after_sizes (l.sizes_length ∙ sym h.1) l.sizes_are k'.1 in
    let s' = subst (λ o. IsSomeAnd o (λ read. (read.numbers ≡ counted (sizes_of rows)) × (read.rest.now ≡ after_sizes))) c.in-Some-3.is s in
    let t = c.in_ok-times.ensures (times_of rows) l.time_bytes after_times (l.times_length ∙ sym h.0) l.times_are s'.1 in
    let t' = subst (λ o. IsSomeAnd o (λ read. (read.numbers ≡ times_of rows) × (read.rest.now ≡ after_times))) c.in-Some-4.is t in
    let n = c.in_ok-counts.ensures (counts_of rows) l.count_bytes after_counts (l.counts_length ∙ sym h.0) l.counts_are t'.1 in
    let n' = subst (λ o. IsSomeAnd o (λ read. (read.numbers ≡ counts_of rows) × (read.rest.now ≡ after_counts))) c.in-Some-5.is n in
    let kinds : c.as_slice.result.now ≡ kept.kinds_of (forms_of c.args.schema.now) = c.as_slice.ensures ∙ (c.in_ok-kinds.ensures ∙ ap kept.kinds_of c.requires.forms) in
    let x = c.in_ok-columns.ensures (columns_of c.args.schema.now rows) (subst (λ ks. AreColumnsOf ks c.in-Some.head.rows (columns_of c.args.schema.now rows)) (sym kinds) (subst (λ r. AreColumnsOf (kept.kinds_of (forms_of c.args.schema.now)) r (columns_of c.args.schema.now rows)) (sym h.0) l.columns_of_kinds)) (subst (AreColumns (columns_of c.args.schema.now rows)) (sym n'.1) l.columns_are) in
    let x' = subst (λ o. IsSomeAnd o (λ read. read ≡ columns_of c.args.schema.now rows)) c.in-Some-6.is x in
    record { keys_are = k'.0; sizes_are = s'.0; times_are = t'.0; counts_are = n'.0; columns_are = x' }
