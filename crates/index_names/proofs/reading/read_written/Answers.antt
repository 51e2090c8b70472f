use Rattle.std.proofs.Common.{◌≡◌, Some, subst, sym, ap, ◌∙◌, refl, to_z-of_z, FitsSigned, w64, rules}
use Rattle.std.proofs.lemmas.Str.{IsUtf8-from_ascii}
use Rattle.std.specs.Str.{IsUtf8}
use Rattle.time_text.specs.Instant.{instant_of}
use Rattle.time_text.specs.Printed.{instant_text}
use Rattle.time_text.specs.PrintedLaws.{print_reads, instant_text_ascii}
use Rattle.index_names.proofs.reading.read_written.Goals as goal

pub returns-in_default-clause-reads : goal.returns-in_default-clause-reads
returns-in_default-clause-reads c = λ t is same.
    absurd (c.in_default.ensures.cases.0 (subst IsUtf8 (sym same) (IsUtf8-from_ascii (instant_text t) (instant_text_ascii t is))))

pub returns-in-Err-clause-reads : goal.returns-in-Err-clause-reads
returns-in-Err-clause-reads c = λ t is same.
    let read : instant_of c.in-Ok.text.now ≡ Some t = ap instant_of (c.in-Ok.ensures.cases.0 ∙ same) ∙ print_reads t is in
    sym (c.in-Err.ensures.refused.0 refl) ∙ read

pub returns-in-Ok-read_instant-clause-reads : goal.returns-in-Ok-read_instant-clause-reads
returns-in-Ok-read_instant-clause-reads c = λ t is same.
    let read : instant_of c.in-Ok.text.now ≡ Some t = ap instant_of (c.in-Ok.ensures.cases.0 ∙ same) ∙ print_reads t is in
    let both = sym c.in-Ok-read_instant.ensures.value ∙ read in
    let fits : FitsSigned w64 c.in-Ok-read_instant.instant = search rules in
    simp to_z-of_z both
