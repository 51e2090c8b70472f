use Rattle.std.proofs.Common.{ap, sym, ◌∙◌, arith}
use Rattle.row_cells.specs.Dimensions.{dimension_bytes}
use Rattle.row_cells.specs.HeadLaws.{dimension_read}
use Rattle.row_cells.specs.Heads.{dimension_at, scalar_of}
use Rattle.row_cells.proofs.ReadBack.{entry_cut}
use Rattle.row_cells.proofs.Reading.{dimension_from, entry_is, some_is}
use Rattle.row_cells.proofs.Told.{dimension_told, no_entry}
use Rattle.row_cells.proofs.entries.read_entry.Goals as goal

pub returns-clause-told : goal.returns-clause-told
returns-clause-told c =
    let path = c.in_ok-path.path in
    let found = c.in_ok-found.found in
    let is = entry_is c.args.bytes.now path.text.now path.rest.now found.rest.now (scalar_of found.value) c.in_ok-path.ensures.is c.in_ok-found.ensures.is in
    let told = dimension_told c.args.bytes.now (dimension_from path.text.now (scalar_of found.value), found.rest.now) (λ i. omega (arith, c.type_inv.bytes i)) is in
    (told.fits, told.begins)

pub returns-clause-reads : goal.returns-clause-reads
returns-clause-reads c =
    λ d rest is_d same.
    let path = c.in_ok-path.path in
    let found = c.in_ok-found.found in
    let is = entry_is c.args.bytes.now path.text.now path.rest.now found.rest.now (scalar_of found.value) c.in_ok-path.ensures.is c.in_ok-found.ensures.is in
    let both = some_is (sym is ∙ (ap dimension_at same ∙ dimension_read d rest is_d)) in
    let left = ap (λ p. p.1) both in
    let cut = entry_cut c.args.bytes.now (dimension_bytes d) rest found.rest.now same left in
    (ap (λ p. p.0.path) both, c.split_at.ensures.front ∙ cut.0, left, ap (λ p. p.0.value) both)

pub returns-in_err-found-clause-reads : goal.returns-in_err-found-clause-reads
returns-in_err-found-clause-reads c =
    λ d rest is_d same. absurd (no_entry c.args.bytes.now c.in_ok-path.path.text.now c.in_ok-path.path.rest.now rest d is_d same c.in_ok-path.ensures.is c.in_err-found.ensures.is)
