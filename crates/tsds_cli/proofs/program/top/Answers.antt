use Rattle.std.proofs.Common.{◌≡◌, ◌∙◌, Err, [], ◌∷◌, refl, lit<, ap, sym, subst}
use Rattle.std.specs.Prelude.{Contains}
use Rattle.tsds_cli.specs.declared.errors.RunError.{RunError}
use Rattle.tsds_cli.specs.declared.errors.RunError.TheVariants.{NoMemory, Store, Read, Write, TooLong}
use Rattle.tsds_cli.specs.declared.status.TheConstants.{DONE, USAGE, NO_MEMORY, READ_FAULT, WRITE_FAULT, TOO_LONG}
use Rattle.tsds_cli.specs.Errors.{status_of}
use Rattle.tsds_cli.proofs.program.top.Goals as goal

-- each error has a status of its own, and this machine has no keeper that fails
known_status : (error : RunError) → (error ≡ Store → ⊥) → Contains (DONE ∷ USAGE ∷ NO_MEMORY ∷ READ_FAULT ∷ WRITE_FAULT ∷ TOO_LONG ∷ []) (status_of error)
known_status NoMemory kept = (2, lit< tt, refl)
known_status Read kept = (3, lit< tt, refl)
known_status Write kept = (4, lit< tt, refl)
known_status TooLong kept = (5, lit< tt, refl)
known_status Store kept = absurd (kept refl)

pub returns-in-Err-clause-known : goal.returns-in-Err-clause-known
returns-in-Err-clause-known g c = subst (λ s. Contains (DONE ∷ USAGE ∷ NO_MEMORY ∷ READ_FAULT ∷ WRITE_FAULT ∷ TOO_LONG ∷ []) s) (sym c.status.ensures) (known_status c.in-Err.error (λ e. c.run_empty.ensures.kept (c.in-Err.is ∙ ap Err e)))
