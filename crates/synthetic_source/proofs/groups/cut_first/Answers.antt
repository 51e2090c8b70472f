use Rattle.std.proofs.Common.{◌≡◌, ◌≢◌, ◌∙◌, ℕ, suc, ◌<◌, cond, nat_eq, List, [], ◌∷◌, ◌++◌, length, get_or, None, Some, false, refl, ap, sym, arith}
use Rattle.std.proofs.lemmas.Bool.{ne_eqb}
use Rattle.std.proofs.lemmas.Str.Pattern.{split_parts}
use Rattle.synthetic_source.specs.Groups.{split, with_first}
use Rattle.synthetic_source.proofs.groups.cut_first.Goals as goal

Lacks : ℕ → List ℕ → Type 0
Lacks b bytes = (i : ℕ) → i < length bytes → get_or bytes i 0 ≢ b

first_lacks : (x : ℕ) (xs : List ℕ) → ((i : ℕ) → i < length (x ∷ xs) → get_or (x ∷ xs) i 0 ≢ 46) → nat_eq 46 x ≡ false
first_lacks x xs lacks = ne_eqb 46 x (λ e. lacks 0 (omega arith) (sym e))

split_at : (front rest : List ℕ) → ((i : ℕ) → i < length front → get_or front i 0 ≢ 46) → split (front ++ (46 ∷ rest)) ≡ record { name = front; rest = Some rest }
split_at [] rest lacks = refl
split_at (x ∷ front) rest lacks =
    ap (λ h. cond h (record { name = []; rest = Some (front ++ (46 ∷ rest)) }) (with_first x (split (front ++ (46 ∷ rest))))) (first_lacks x front lacks)
    ∙ ap (with_first x) (split_at front rest (λ i below. lacks (suc i) (omega arith)))

split_without : (bytes : List ℕ) → ((i : ℕ) → i < length bytes → get_or bytes i 0 ≢ 46) → split bytes ≡ record { name = bytes; rest = None }
split_without [] lacks = refl
split_without (x ∷ bytes) lacks =
    ap (λ h. cond h (record { name = []; rest = Some bytes }) (with_first x (split bytes))) (first_lacks x bytes lacks)
    ∙ ap (with_first x) (split_without bytes (λ i below. lacks (suc i) (omega arith)))

pub returns-in-None : goal.returns-in-None
returns-in-None c = sym (split_without c.args.path.now (split_parts 46 c.args.path.now None c.in-None.ensures.cases (omega arith)))

pub returns-in-Some : goal.returns-in-Some
returns-in-Some c =
    let parts = split_parts 46 c.args.path.now (Some (c.in-Some.name, c.in-Some.rest)) c.in-Some.ensures.cases (omega arith) in
    sym (ap split parts.0 ∙ split_at c.in-Some.name.now c.in-Some.rest.now parts.1)
