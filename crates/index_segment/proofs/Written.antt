-- Bytes appended one behind the other.
use Rattle.std.specs.Prelude.{◌≡◌, ℕ, List, [], ◌∷◌, ◌++◌}
use Rattle.std.proofs.Common.{refl, ap, sym, ◌∙◌, append_assoc}
use Rattle.std.proofs.lemmas.List.{append-nil}
use Rattle.column_block.specs.declared.kinds.Values.{Values}
use Rattle.column_block.specs.Spelling.{Spells}
use Rattle.index_segment.specs.Spelling.{AreColumns}

pub joined_four : {A : Type 0} (start a b c d p q r s : List A) → a ≡ start ++ p → b ≡ a ++ q → c ≡ b ++ r → d ≡ c ++ s → d ≡ start ++ (p ++ (q ++ (r ++ s)))
joined_four start a b c d p q r s a_is b_is c_is d_is =
    d_is ∙ (ap (λ x. x ++ s) c_is ∙ (ap (λ x. (x ++ r) ++ s) b_is ∙ (ap (λ x. ((x ++ q) ++ r) ++ s) a_is
    ∙ (append_assoc ((start ++ p) ++ q) r s ∙ (append_assoc (start ++ p) q (r ++ s) ∙ append_assoc start p (q ++ (r ++ s)))))))

pub columns_pushed : (cs : List Values) (c : Values) (back x : List ℕ) → AreColumns cs back → Spells c x → AreColumns (cs ++ c ∷ []) (back ++ x)
columns_pushed [] c back x are spells = (x, [], spells, refl, ap (λ b. b ++ x) are ∙ sym (append-nil x))
columns_pushed (d ∷ cs) c back x are spells = (are.0, are.1 ++ x, are.2, columns_pushed cs c are.1 x are.3 spells, ap (λ b. b ++ x) are.4 ∙ append_assoc are.0 are.1 x)

pub joined_two : {A : Type 0} (start a p q : List A) {b : List A} → start ≡ [] → a ≡ start ++ p → b ≡ a ++ q → b ≡ p ++ q
joined_two start a p q none a_is b_is = b_is ∙ (ap (λ x. x ++ q) a_is ∙ ap (λ x. (x ++ p) ++ q) none)
