use Rattle.std.proofs.Common.{◌≡◌, ◌≤◌, ◌∙◌, sym, ap, subst, rules, length, true}
use Rattle.row_cells.specs.Dimensions.{IsKey, key_bytes}
use Rattle.row_cells.specs.Fitting.{dimensions_of}
use Rattle.row_cells.specs.Limits.{longest_key}
use Rattle.row_cells.specs.Mapped.{is_routed, series_bytes}
use Rattle.row_cells.specs.KeyedLaws.{cells_spellable, series_is_key}
use Rattle.series_id.proofs.keys.key_of.Goals as goal

pub spell-requires : goal.spell-requires
spell-requires c =
    rw c.as_slice-2.ensures (cells_spellable c.args.schema.now.folded c.args.schema.now.rises c.requires.cells.documents c.args.schema.now.fields c.args.cells.now c.requires.schema.paths c.requires.cells.fit)

pub from_bytes-requires : goal.from_bytes-requires
from_bytes-requires c =
    let made : c.from_vec.result ≡ series_bytes c.args.schema.now c.args.cells.now = c.from_vec.ensures ∙ (c.in-Ok.ensures ∙ ap (λ fs. key_bytes (dimensions_of fs c.args.cells.now)) c.as_slice-2.ensures) in
    let routed : is_routed c.args.schema.now c.args.cells.now ≡ true = search rules in
    let short : length (series_bytes c.args.schema.now c.args.cells.now) ≤ longest_key = search rules in
    subst IsKey (sym made) (series_is_key c.args.schema.now c.args.cells.now c.requires.schema c.requires.cells routed short)
