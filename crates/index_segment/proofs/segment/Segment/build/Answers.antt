use Rattle.std.proofs.Common.{sym, subst, ◌∙◌}
use Rattle.index_segment.specs.Columns.{ArePackable, columns_from}
use Rattle.index_segment.proofs.Built.{columns_are, held_is, packs, segment_eq}
use Rattle.index_segment.proofs.Packable.{rows_packable, rows_short}
use Rattle.index_segment.proofs.segment.Segment.build.Goals as goal

pub directory_of-requires : goal.directory_of-requires
directory_of-requires c = rows_short c.args.schema.now c.args.rows.now c.requires.rows

pub pack_columns-requires : goal.pack_columns-requires
pack_columns-requires c = subst (λ forms. ArePackable (columns_from 0 forms c.args.rows.now)) (sym (c.as_slice-2.ensures ∙ c.in_ok-forms.ensures)) (rows_packable c.args.schema.now c.args.rows.now c.requires.rows)

pub invariant_of-result : goal.invariant_of-result
invariant_of-result c =
    let directory = c.in_ok-directory.ensures in
    packs c.args.schema.now _ c.args.rows.now _ _ _ _ _ _ c.requires.mapped c.requires.rows c.in_ok-schema.ensures directory.keys directory.starts (c.in_ok-sizes.ensures ∙ (c.as_slice.ensures ∙ directory.sizes)) c.in_ok-times.ensures c.in_ok-counts.ensures (columns_are c.args.schema.now c.args.rows.now c.as_slice-2.result.now _ (c.as_slice-2.ensures ∙ c.in_ok-forms.ensures) c.in_ok-columns.ensures)

pub returns : goal.returns
returns c =
    let directory = c.in_ok-directory.ensures in
    segment_eq _ _ _ _ c.in_ok-schema.ensures (held_is c.args.schema.now c.in_ok-schema.schema c.args.rows.now c.in_ok-directory.directory.keys c.in_ok-directory.directory.starts c.in_ok-sizes.sizes c.in_ok-times.times c.in_ok-counts.counts c.in_ok-columns.columns c.requires.mapped c.requires.rows c.in_ok-schema.ensures directory.keys directory.starts (c.in_ok-sizes.ensures ∙ (c.as_slice.ensures ∙ directory.sizes)) c.in_ok-times.ensures c.in_ok-counts.ensures (columns_are c.args.schema.now c.args.rows.now c.as_slice-2.result.now c.in_ok-columns.columns (c.as_slice-2.ensures ∙ c.in_ok-forms.ensures) c.in_ok-columns.ensures))
