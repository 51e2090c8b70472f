-- A fault where no field is, in memory; for private clauses.
use Rattle.std.specs.Prelude.{ℕ, List, Option, option_map}
use Rattle.synthetic_source.specs.declared.errors.DocKind.{DocKind}
use Rattle.synthetic_source.specs.declared.typing.Stray.{Stray}

abbrev pub seen_stray : Option Stray → Option (DocKind × List ℕ)
seen_stray s = option_map (λ g. (g.kind, g.path.now)) s
