-- An object's names beside the names that are looked for.
use Rattle.std.proofs.Common.{◌≡◌, ℕ, zero, suc, not, ◌+◌, ◌<◌, ◌≤◌, length, List, [], ◌∷◌, true, false, ◌&&◌, nat_eq, bytes_eq, drop, map, get_or, Bor, string_bytes, refl, ◌∙◌, arith}
use Rattle.std.proofs.lemmas.List.{drop_more, drop_all}
use Rattle.std.proofs.lemmas.Bool.Decides.{nat_tests}
use Rattle.serde_json.specs.View.{members_view}
use Rattle.serde_json.proofs.Views.{Entry}
use Rattle.json_walk.specs.Names.{are_names}

abbrev pub texts : List (Bor (List ℕ)) → List (List ℕ)
texts = map (λ n. n.now)

pub none_left : (ns : List (Bor (List ℕ))) (at : ℕ) (e : Entry) (left : List Entry) → at ≡ length ns → are_names (texts (drop at ns)) (members_view (e ∷ left)) ≡ false
none_left ns at e left all = rw (drop_all at ns (omega arith)) refl

pub one_more : (ns : List (Bor (List ℕ))) (at : ℕ) (e : Entry) (left : List Entry) (d : Bor (List ℕ)) → at < length ns
    → are_names (texts (drop at ns)) (members_view (e ∷ left)) ≡ (bytes_eq (get_or ns at d).now (string_bytes e.0) && are_names (texts (drop (at + 1) ns)) (members_view left))
one_more ns at e left d within = rw (drop_more ns at d within) refl

zero_or_more : (n : ℕ) → nat_eq 0 (suc n) ≡ false
zero_or_more n = grind (arith, nat_tests)

both_more : (m n : ℕ) → nat_eq (suc m) (suc n) ≡ nat_eq m n
both_more m n = grind (arith, nat_tests)

pub at_end : (ns : List (Bor (List ℕ))) (at : ℕ) → at ≤ length ns → nat_eq at (length ns) ≡ are_names (texts (drop at ns)) (members_view [])
at_end [] zero within = refl
at_end [] (suc at) within = absurd (omega arith)
at_end (n ∷ ns) zero within = zero_or_more (length ns)
at_end (n ∷ ns) (suc at) within = both_more at (length ns) ∙ at_end ns at (omega arith)

pub other_name : (ns : List (Bor (List ℕ))) (at : ℕ) (e : Entry) (left : List Entry) (d : Bor (List ℕ)) → at < length ns
    → not (bytes_eq (get_or ns at d).now (string_bytes e.0)) ≡ true → are_names (texts (drop at ns)) (members_view (e ∷ left)) ≡ false
other_name ns at e left d within other = one_more ns at e left d within ∙ grind arith
