use Rattle.std.proofs.Common.{◌≡◌, ◌∙◌, ◌<◌, length, get_or, sym, ap, arith}
use Rattle.std.proofs.lemmas.Slice.Eq.{bytes_eq-Decides}
use Rattle.row_cells.specs.declared.schemas.Field.{Field}
use Rattle.synthetic_source.specs.Places.{found_if}
use Rattle.synthetic_source.proofs.Search.{fields_rise, place_ok}
use Rattle.synthetic_source.proofs.gathering.find_field.Goals as goal

pub returns-then-eq : goal.returns-then-eq
returns-then-eq c =
    let same : (get_or c.args.fields.now c.args.guess c.index-fields-guess.result).path ≡ c.args.path.now = sym c.as_bytes.ensures ∙ (bytes_eq-Decides c.as_bytes.result.now c.args.path.now).0 (sym c.eq.ensures ∙ c.if-eq.true) in
    let below : c.args.guess < length c.args.fields.now = omega arith in
    sym (ap (λ p. found_if p.found p.at) (place_ok (λ (f : Field). f.path) c.args.path.now c.args.fields.now c.args.guess c.index-fields-guess.result (fields_rise c.args.fields.now c.requires) below same))
