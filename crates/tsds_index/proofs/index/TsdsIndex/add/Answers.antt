use Rattle.std.proofs.Common.{◌≡◌, ◌+◌, ◌≤◌, ◌∷◌, ap, refl, false, length, sym, subst, ◌∙◌, arith}
use Rattle.row_cells.specs.declared.rows.Row.{Row}
use Rattle.row_cells.specs.Limits.{most_documents}
use Rattle.row_cells.specs.RowLists.{documents, has_place, in_row_order, insert_row}
use Rattle.tsds_index.specs.Kept.{spread_of}
use Rattle.tsds_index.specs.Sealing.{put_at}
use Rattle.tsds_index.specs.Shards.{parts_of}
use Rattle.tsds_index.specs.Sound.{shard_for}
use Rattle.tsds_index.specs.Spread.{Spread, all_rows, rows_of}
use Rattle.tsds_index.proofs.Alike.{alike_length}
use Rattle.tsds_index.proofs.Answered.{rows_length}
use Rattle.tsds_index.proofs.Lodged.{documents_told, places_told, rows_same, rows_told}
use Rattle.tsds_index.proofs.Outcomes.{on_err}
use Rattle.tsds_index.proofs.index.TsdsIndex.add.Goals as goal

pub put_in-requires-clause-free : goal.put_in-requires-clause-free
put_in-requires-clause-free c =
    subst (λ (row : Row). has_place row.key row.time (all_rows (parts_of c.self.inside.shards.items)) ≡ false) (sym c.in_ok-row.ensures)
    (places_told c.args.row.now.key c.args.row.now.time c.self.inside.schema c.self.inside.shards.items c.args.self.now false c.self.view_is c.requires.free)

pub put_in-requires-clause-few : goal.put_in-requires-clause-few
put_in-requires-clause-few c =
    subst (λ (row : Row). documents (all_rows (parts_of c.self.inside.shards.items)) + row.count ≤ most_documents) (sym c.in_ok-row.ensures)
    (omega (arith, documents_told c.self.inside.schema c.self.inside.shards.items c.args.self.now c.self.view_is, c.requires.few))

pub invariant_of-self : goal.invariant_of-self
invariant_of-self c = record {
  are = c.put_in.ensures.shards;
  counted = c.self.invariant.counted ∙ sym (alike_length (all_rows (parts_of c.put_in.new.shards.items)) (all_rows (parts_of c.self.inside.shards.items)) c.in_err-put_in.ensures.err);
}

pub returns-in_err-put_in-clause-refused : goal.returns-in_err-put_in-clause-refused
returns-in_err-put_in-clause-refused c = on_err c.from_residual-in_err-put_in.result (rows_same c.self.inside.schema c.self.inside.shards.items c.put_in.new.shards.items c.args.self.now c.self.view_is c.in_err-put_in.ensures.err)

pub overflow_add-self : goal.overflow_add-self
overflow_add-self c =
    let count : length (rows_of c.args.self.now) ≡ length (all_rows (parts_of c.self.inside.shards.items)) = ap (λ h. length (rows_of h)) (sym c.self.view_is) ∙ rows_length (spread_of c.self.inside.schema c.self.inside.shards.items) in
    omega (arith, count, c.self.invariant.counted, c.requires.room)

pub invariant_of-self-2 : goal.invariant_of-self-2
invariant_of-self-2 c =
    let long = alike_length (all_rows (parts_of c.put_in.new.shards.items)) (c.in_ok-row.row ∷ all_rows (parts_of c.self.inside.shards.items)) c.in_ok-put_in.ensures.ok in
    record {
      are = c.put_in.ensures.shards;
      counted = omega (arith, long, c.self.invariant.counted);
    }

pub returns-clause-put : goal.returns-clause-put
returns-clause-put c =
    rows_told c.self.inside.schema c.put_in.new.shards.items (spread_of c.self.inside.schema c.put_in.new.shards.items) refl
    ∙ (c.in_ok-put_in.ensures.ok
    ∙ (ap (λ (row : Row). insert_row row (in_row_order (all_rows (parts_of c.self.inside.shards.items)))) c.in_ok-row.ensures
    ∙ ap (insert_row c.args.row.now) (sym (rows_told c.self.inside.schema c.self.inside.shards.items c.args.self.now c.self.view_is))))

pub returns-clause-parts : goal.returns-clause-parts
returns-clause-parts c =
    let number = shard_for c.args.self.now.schema (length c.args.self.now.parts) c.args.row.now.key in
    c.in_ok-put_in.ensures.part
    ∙ (ap (λ i. put_at i c.in_ok-row.row (parts_of c.self.inside.shards.items)) c.shard_at-shard.ensures.is
    ∙ (ap (λ (row : Row). put_at number row (parts_of c.self.inside.shards.items)) c.in_ok-row.ensures
    ∙ ap (λ (h : Spread). put_at number c.args.row.now h.parts) c.self.view_is))
