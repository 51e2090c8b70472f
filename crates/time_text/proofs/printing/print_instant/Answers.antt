use Rattle.std.proofs.Common.{ℕ, List, subst, sym, w64, FitsSigned}
use Rattle.std.proofs.lemmas.Int.{to_z-of_z}
use Rattle.std.specs.Str.{IsAscii}
use Rattle.time_text.specs.PrintedLaws.{instant_text-bytes, instant_text_ascii}
use Rattle.time_text.proofs.printing.print_instant.Goals as goal

pub returns-clause-text : goal.returns-clause-text
returns-clause-text c =
    let fits : FitsSigned w64 c.args.t = c.ranges.t in
    instant_text-bytes c.date_text.result c.clock_text.result c.args.t (simp to_z-of_z at c.date_text.ensures) (simp to_z-of_z at c.clock_text.ensures)

pub returns-clause-ascii : goal.returns-clause-ascii
returns-clause-ascii c =
    let fits : FitsSigned w64 c.args.t = c.ranges.t in
    let bytes = instant_text-bytes c.date_text.result c.clock_text.result c.args.t (simp to_z-of_z at c.date_text.ensures) (simp to_z-of_z at c.clock_text.ensures) in
    subst (λ (text : List ℕ). IsAscii text) (sym bytes) (instant_text_ascii c.args.t c.requires)
