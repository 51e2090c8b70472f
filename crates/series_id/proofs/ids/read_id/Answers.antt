use Rattle.std.proofs.Common.{◌≡◌, ℕ, ℤ, List, Option, Some, None, refl, sym, ◌∙◌}
use Rattle.std.specs.Prelude.{IfSome, IsNone, IsSomeAnd}
use Rattle.row_cells.specs.Dimensions.{IsKey}
use Rattle.series_id.specs.declared.ids.Named.{Named}
use Rattle.series_id.specs.Ids.{id_of}
use Rattle.series_id.specs.IdLaws.{id_injective}
use Rattle.time_text.specs.Instant.{IsInstant}
use Rattle.series_id.proofs.ids.read_id.Goals as goal

read_back : (text : List ℕ) (found : Option Named) (key : List ℕ) (time : ℤ) → IfSome found (λ named. (text ≡ id_of named.key named.time) × IsKey named.key × IsInstant named.time) → (IsNone found → (k : List ℕ) (t : ℤ) → IsKey k → IsInstant t → text ≡ id_of k t → ⊥) →
    IsKey key → IsInstant time → text ≡ id_of key time → IsSomeAnd found (λ named. (named.key ≡ key) × (named.time ≡ time))
read_back text None key time some none is_key instant same = absurd (none refl key time is_key instant same)
read_back text (Some named) key time some none is_key instant same =
    let told = id_injective named.key key named.time time some.1 is_key some.2 instant (sym some.0 ∙ same) in
    (told.key, told.time)

pub returns-clause-back : goal.returns-clause-back
returns-clause-back c = λ key time is_key instant same. read_back c.args.text.now c.in_ok-found.found key time c.in_ok-found.ensures.some c.in_ok-found.ensures.none is_key instant same
