-- The sources of a bulk body, pair by pair.
use Rattle.std.proofs.Common.{◌≡◌, ◌∙◌, ℕ, suc, ◌+◌, ◌<◌, List, [], ◌∷◌, ◌++◌, Bor, true, false, cond, length, get_or, drop, map, ap, sym, refl, arith, append_assoc, Option, None, Some, codes}
use Rattle.std.specs.Option.{option_map}
use Rattle.std.specs.Prelude.{bytes_eq}
use Rattle.std.proofs.Math.Seq.{drop-cons}
use Rattle.tsds_cli.specs.Documents.{sources_of}

abbrev pub texts : List (Bor (List ℕ)) → List (List ℕ)
texts parts = map (λ s. s.now) parts

-- the next two parts
pub two_parts : (parts : List (Bor (List ℕ))) (at : ℕ) (d : Bor (List ℕ)) → at + 1 < length parts → texts (drop at parts) ≡ (get_or parts at d).now ∷ (get_or parts (at + 1) d).now ∷ texts (drop (at + 2) parts)
two_parts parts at d inside =
    let one : suc at ≡ at + 1 = omega arith in
    let both : suc (at + 1) ≡ at + 2 = omega arith in
    let first : drop at parts ≡ get_or parts at d ∷ drop (at + 1) parts = drop-cons parts at d (omega arith) ∙ ap (λ k. get_or parts at d ∷ drop k parts) one in
    let second : drop (at + 1) parts ≡ get_or parts (at + 1) d ∷ drop (at + 2) parts = drop-cons parts (at + 1) d inside ∙ ap (λ k. get_or parts (at + 1) d ∷ drop k parts) both in
    ap texts first ∙ ap (λ l. (get_or parts at d).now ∷ texts l) second

-- another line in an action's place
pub no_sources : (so_far : List (List ℕ)) (parts : List (Bor (List ℕ))) (at : ℕ) (d : Bor (List ℕ)) → at + 1 < length parts → bytes_eq (get_or parts at d).now (codes "{\"create\":{}}") ≡ false
    → option_map (λ later. so_far ++ later) (sources_of (texts (drop at parts))) ≡ None
no_sources so_far parts at d inside other =
    ap (λ l. option_map (λ later. so_far ++ later) (sources_of l)) (two_parts parts at d inside)
    ∙ ap (λ v. option_map (λ later. so_far ++ later) (cond v (option_map (λ sources. (get_or parts (at + 1) d).now ∷ sources) (sources_of (texts (drop (at + 2) parts)))) None)) other

moved : (so_far : List (List ℕ)) (source : List ℕ) (rest : Option (List (List ℕ))) → option_map (λ later. so_far ++ later) (option_map (λ sources. source ∷ sources) rest) ≡ option_map (λ later. (so_far ++ source ∷ []) ++ later) rest
moved so_far source None = refl
moved so_far source (Some later) = ap Some (sym (append_assoc so_far (source ∷ []) later))

-- one source more
pub one_source : (so_far now : List (List ℕ)) (parts : List (Bor (List ℕ))) (at : ℕ) (d : Bor (List ℕ)) → at + 1 < length parts → bytes_eq (get_or parts at d).now (codes "{\"create\":{}}") ≡ true → now ≡ so_far ++ (get_or parts (at + 1) d).now ∷ []
    → option_map (λ later. now ++ later) (sources_of (texts (drop (at + 2) parts))) ≡ option_map (λ later. so_far ++ later) (sources_of (texts (drop at parts)))
one_source so_far now parts at d inside create is =
    ap (λ l. option_map (λ later. l ++ later) (sources_of (texts (drop (at + 2) parts)))) is
    ∙ sym (moved so_far (get_or parts (at + 1) d).now (sources_of (texts (drop (at + 2) parts))))
    ∙ sym (ap (λ l. option_map (λ later. so_far ++ later) (sources_of l)) (two_parts parts at d inside)
    ∙ ap (λ v. option_map (λ later. so_far ++ later) (cond v (option_map (λ sources. (get_or parts (at + 1) d).now ∷ sources) (sources_of (texts (drop (at + 2) parts)))) None)) create)
