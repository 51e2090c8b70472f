-- Texts cut at a byte.
use Rattle.std.proofs.Common.{◌≡◌, ◌≢◌, ◌∙◌, ℕ, suc, ◌<◌, cond, List, [], ◌∷◌, ◌++◌, length, get_or, Option, None, Some, Bor, refl, ap, sym, arith, eq-eqb}
use Rattle.std.specs.Prelude.{MatchOption}
use Rattle.std.specs.Option.{option_map}
use Rattle.std.proofs.lemmas.Bool.{ne_eqb}
use Rattle.rest_request.specs.Target.{cut, before}
use Rattle.rest_request.specs.Seen.{seen_cut}

-- no byte of the text is this one
abbrev pub Lacks : ℕ → List ℕ → Type 0
Lacks b bytes = (i : ℕ) → i < length bytes → get_or bytes i 0 ≢ b

cut-at : (b : ℕ) (front rest : List ℕ) → Lacks b front → cut b (front ++ (b ∷ rest)) ≡ Some (front, rest)
cut-at b [] rest lacks = ap (λ h. cond h (Some ([], rest)) (option_map (before b) (cut b rest))) (eq-eqb b b refl)
cut-at b (x ∷ front) rest lacks =
    ap (λ h. cond h (Some ([], front ++ (b ∷ rest))) (option_map (before x) (cut b (front ++ (b ∷ rest))))) (ne_eqb x b (lacks 0 (omega arith)))
    ∙ ap (option_map (before x)) (cut-at b front rest (λ i below. lacks (suc i) (omega arith)))

cut-without : (b : ℕ) (bytes : List ℕ) → Lacks b bytes → cut b bytes ≡ None
cut-without b [] lacks = refl
cut-without b (x ∷ bytes) lacks =
    ap (λ h. cond h (Some ([], bytes)) (option_map (before x) (cut b bytes))) (ne_eqb x b (lacks 0 (omega arith)))
    ∙ ap (option_map (before x)) (cut-without b bytes (λ i below. lacks (suc i) (omega arith)))

-- what `split_once` gives is the cut
pub cut-parts : (b : ℕ) (bytes : List ℕ) (found : Option (Bor (List ℕ) × Bor (List ℕ)))
    → MatchOption found (Lacks b bytes) (λ x. (bytes ≡ x.0.now ++ (b ∷ x.1.now)) × Lacks b x.0.now) → option_map seen_cut found ≡ cut b bytes
cut-parts b bytes None lacks = sym (cut-without b bytes lacks)
cut-parts b bytes (Some x) parts = sym (ap (cut b) parts.0 ∙ cut-at b x.0.now x.1.now parts.1)
