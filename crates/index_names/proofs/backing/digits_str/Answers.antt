use Rattle.std.proofs.Common.{Result, Ok, Err, refl}
use Rattle.std.specs.Prelude.{MatchResult, IsOk}
use Rattle.std.proofs.lemmas.Str.{IsUtf8-from_ascii}
use Rattle.index_names.proofs.backing.digits_str.Goals as goal

-- what has no error is fine
is_fine : {T E : Type 0} (r : Result T E) (P : T → Type 0) (Q : E → Type 0) → MatchResult r P Q → ((e : E) → Q e → ⊥) → IsOk r
is_fine (Ok x) P Q h never = refl
is_fine (Err e) P Q h never = absurd (never e h)

pub unwrap-requires : goal.unwrap-requires
unwrap-requires c = is_fine c.from_utf8.result _ _ c.from_utf8.ensures.cases (λ e q. q.0 (IsUtf8-from_ascii c.args.printed.now c.requires))
