use Rattle.std.proofs.Common.{◌≡◌, ◌++◌, drop}
use Rattle.row_cells.specs.Heads.{dimension_at, dimension_seen, heads_in}
use Rattle.row_cells.specs.Texts.{Reads}
use Rattle.row_cells.proofs.heads.heads_of.Given as goal

abbrev pub invariant-loop-field : goal.invariant-loop-field
invariant-loop-field l =
    (l.heads.items ++ heads_in (drop l.field-index l.fields) l.left.bytes.now ≡ heads_in l.fields l.key)
    × Reads (λ entry. (dimension_seen entry, entry.rest.now)) l.left.first (dimension_at l.left.bytes.now)
