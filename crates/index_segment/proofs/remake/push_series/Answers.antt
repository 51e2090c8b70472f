use Rattle.std.proofs.Common.{◌≡◌, ◌++◌, ◌+◌, [], ap, arith, sym, w64, ◌∙◌, get_or, map}
use Rattle.std.specs.List.{slice_get}
use Rattle.std.proofs.lemmas.Option.{slice_get-get_or}
use Rattle.std.proofs.Math.Facts.{to_z-of_z}
use Rattle.column_block.specs.Ranges.{rows_between}
use Rattle.index_segment.specs.Directory.{sizes_of}
use Rattle.row_cells.specs.Heads.{heads_in}
use Rattle.index_segment.proofs.Places.{heads_same}
use Rattle.index_segment.proofs.Lists.{none_is_some, some_is}
use Rattle.index_segment.proofs.Remade.{end_within, ends, remade, size_at, sizes_within}
use Rattle.index_segment.proofs.remake.push_series.Goals as goal

pub returns-then-series-len-clause-rows : goal.returns-then-series-len-clause-rows
returns-then-series-len-clause-rows c rows mapped are parts start_is =
    omega (arith, c.if-series-len.true, c.len.ensures, sizes_within _ _ _ _ _ _ _ mapped are parts, c.requires.there)

pub returns-in_default-clause-rows : goal.returns-in_default-clause-rows
returns-in_default-clause-rows c rows mapped are parts start_is =
    let n = get_or (sizes_of rows) c.args.series 0 in
    let there = slice_get-get_or c.args.parsed.now.keys c.args.series [] c.requires.there in
    let size = to_z-of_z {w = w64} {z = c.at.result} (record { sfits = c.at.type_inv }) ∙ (c.at.ensures ∙ size_at _ _ _ _ _ _ _ mapped are parts _ _ _ there start_is) in
    let within = end_within _ _ _ _ _ _ _ mapped are parts _ _ _ there start_is in
    c.in_default.not-Some (c.args.start + n) (c.end_of.ensures.all n size (omega (arith, within, c.len-2.ensures)))

pub returns-in_default-at-clause-rows : goal.returns-in_default-at-clause-rows
returns-in_default-at-clause-rows c rows mapped are parts start_is =
    none_is_some (get_or c.args.parsed.now.keys c.args.series []) (c.in_default-at.ensures ∙ (ap (λ ks. slice_get ks c.args.series) c.as_slice.ensures ∙ slice_get-get_or c.args.parsed.now.keys c.args.series [] c.requires.there))

pub push_rows-requires-clause-same : goal.push_rows-requires-clause-same
push_rows-requires-clause-same c = heads_same c.args.schema.now c.in-Some-at.key.now c.as_slice-6.result.now c.args.forms.now
    (c.as_slice-6.ensures ∙ (c.in_ok-heads.ensures ∙ (ap (λ fields. heads_in fields c.bytes.result.now) c.as_slice-2.ensures ∙ ap (heads_in c.args.schema.now.fields) c.bytes.ensures.is)))
    c.requires.forms

pub returns-clause-rows : goal.returns-clause-rows
returns-clause-rows c rows mapped are parts start_is =
    let n = get_or (sizes_of rows) c.args.series 0 in
    let there = slice_get-get_or c.args.parsed.now.keys c.args.series [] c.requires.there in
    let key_is : c.in-Some-at.key.now ≡ get_or c.args.parsed.now.keys c.args.series [] = some_is (c.in-Some-at.ensures ∙ (ap (λ ks. slice_get ks c.args.series) c.as_slice.ensures ∙ there)) in
    let size = to_z-of_z {w = w64} {z = c.at.result} (record { sfits = c.at.type_inv }) ∙ (c.at.ensures ∙ size_at _ _ _ _ _ _ _ mapped are parts _ _ _ there start_is) in
    let within = end_within _ _ _ _ _ _ _ mapped are parts _ _ _ there start_is in
    let end_is = ends _ _ _ _ _ _ _ mapped are parts _ _ _ there start_is c.in-Some.end (some_is (sym c.in-Some.is ∙ c.end_of.ensures.all n size (omega (arith, within, c.len-2.ensures)))) in
    let heads = c.as_slice-6.ensures ∙ (c.in_ok-heads.ensures ∙ (ap (λ fields. heads_in fields c.bytes.result.now) c.as_slice-2.ensures ∙ ap (heads_in c.args.schema.now.fields) c.bytes.ensures.is)) in
    let columns = c.as_slice-9.ensures ∙ (c.in_ok-columns.ensures ∙ ap (map (rows_between c.args.start c.in-Some.end)) c.as_slice-5.ensures) in
    let made = remade _ _ _ _ _ _ _ mapped are parts _ _ _ (ap (λ ks. slice_get ks c.args.series) (sym c.as_slice.ensures) ∙ sym c.in-Some-at.ensures) start_is c.in-Some.end _ _ _ _ _ end_is c.requires.forms heads columns (c.as_slice-7.ensures.value ∙ c.in_ok-times.ensures) (c.as_slice-8.ensures.value ∙ c.in_ok-counts.ensures) in
    (end_is, c.in_ok-push_rows.ensures ∙ ap (λ made. c.args.into.now.items ++ made) made)
