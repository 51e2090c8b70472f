-- First names of paths.
use Rattle.std.proofs.Common.{◌≡◌, ℕ, List, [], ◌∷◌, ◌++◌, Bool, true, false, cond, nat_eq, Option, Some, None, refl, sym, ap, ◌∙◌, eq-eqb, eqb-true}
use Rattle.json_walk.specs.Path.{Path, end, text, behind_name}
use Rattle.synthetic_source.specs.Levels.{first_name}
use Rattle.synthetic_source.specs.Groups.{split, with_first}

pub same_nat : (n : ℕ) → nat_eq n n ≡ true
same_nat n = eq-eqb n n refl

pub nats_same : (m n : ℕ) → nat_eq m n ≡ true → m ≡ n
nats_same m n e = eqb-true m n e

-- a path is its first name, or that and a dot and what follows
pub data Parted (p : List ℕ) : Type 0 where
  whole : behind_name (first_name p) p ≡ Some end → first_name p ≡ p → split p ≡ record { name = first_name p; rest = None } → Parted p
  parted : (r : List ℕ) → behind_name (first_name p) p ≡ Some (text r) → p ≡ first_name p ++ 46 ∷ r → split p ≡ record { name = first_name p; rest = Some r } → Parted p

after_char : (c : ℕ) (o : Option Path) → cond (nat_eq c c) o None ≡ o
after_char c o = ap (λ b. cond b o None) (same_nat c)

pub parted_path : (p : List ℕ) → Parted p
parted_path [] = whole refl refl refl
parted_path (c ∷ t) = go (nat_eq 46 c) refl (parted_path t)
  where
    go : (v : Bool) → nat_eq 46 c ≡ v → Parted t → Parted (c ∷ t)
    go true is later =
        let none = ap (λ b. cond b [] (c ∷ first_name t)) is in
        parted t
        (ap (λ s. behind_name s (c ∷ t)) none ∙ ap (λ b. cond b (Some (text t)) None) is)
        (ap (λ x. x ∷ t) (sym (nats_same 46 c is)) ∙ ap (λ s. s ++ 46 ∷ t) (sym none))
        (ap (λ b. cond b (record { name = []; rest = Some t }) (with_first c (split t))) is ∙ ap (λ s. record { name = s; rest = Some t }) (sym none))
    go false is (whole behind same parts) =
        let more = ap (λ b. cond b [] (c ∷ first_name t)) is in
        whole
        (ap (λ s. behind_name s (c ∷ t)) more ∙ (after_char c _ ∙ behind))
        (more ∙ ap (λ s. c ∷ s) same)
        (ap (λ b. cond b (record { name = []; rest = Some t }) (with_first c (split t))) is ∙ (ap (with_first c) parts ∙ ap (λ s. record { name = s; rest = None }) (sym more)))
    go false is (parted r behind same parts) =
        let more = ap (λ b. cond b [] (c ∷ first_name t)) is in
        parted r
        (ap (λ s. behind_name s (c ∷ t)) more ∙ (after_char c _ ∙ behind))
        (ap (λ s. c ∷ s) same ∙ ap (λ s. s ++ 46 ∷ r) (sym more))
        (ap (λ b. cond b (record { name = []; rest = Some t }) (with_first c (split t))) is ∙ (ap (with_first c) parts ∙ ap (λ s. record { name = s; rest = Some r }) (sym more)))

-- a first name has no dot
pub first_of_first : (p : List ℕ) → first_name (first_name p) ≡ first_name p
first_of_first [] = refl
first_of_first (c ∷ t) = go (nat_eq 46 c) refl (first_of_first t)
  where
    go : (v : Bool) → nat_eq 46 c ≡ v → first_name (first_name t) ≡ first_name t → first_name (cond v [] (c ∷ first_name t)) ≡ cond v [] (c ∷ first_name t)
    go true is later = refl
    go false is later = ap (λ b. cond b [] (c ∷ first_name (first_name t))) is ∙ ap (λ s. c ∷ s) later

-- a path behind a name without dots has it as its first name
pub first_behind : (s p : List ℕ) (r : Path) → first_name s ≡ s → behind_name s p ≡ Some r → first_name p ≡ s
first_behind [] [] r plain e = refl
first_behind [] (c ∷ t) r plain e = go (nat_eq 46 c) refl e
  where
    go : (v : Bool) → nat_eq 46 c ≡ v → cond v (Some (text t)) None ≡ Some r → first_name (c ∷ t) ≡ []
    go true is e = ap (λ b. cond b [] (c ∷ first_name t)) is
    go false is e = cc
first_behind (x ∷ s) [] r plain e = cc
first_behind (x ∷ s) (c ∷ t) r plain e = go (nat_eq x c) refl e (nat_eq 46 x) refl (first_behind s t r)
  where
    go : (v : Bool) → nat_eq x c ≡ v → cond v (behind_name s t) None ≡ Some r → (w : Bool) → nat_eq 46 x ≡ w → (first_name s ≡ s → behind_name s t ≡ Some r → first_name t ≡ s) → first_name (c ∷ t) ≡ x ∷ s
    go false is e w dot later = cc
    go true is e true dot later = let none : [] ≡ x ∷ s = sym (ap (λ b. cond b [] (x ∷ first_name s)) dot) ∙ plain in cc
    go true is e false dot later =
        let more : x ∷ first_name s ≡ x ∷ s = sym (ap (λ b. cond b [] (x ∷ first_name s)) dot) ∙ plain in
        let rest : first_name s ≡ s = cc in
        let same : x ≡ c = nats_same x c is in
        ap (λ y. first_name (y ∷ t)) (sym same) ∙ (ap (λ b. cond b [] (x ∷ first_name t)) dot ∙ ap (λ u. x ∷ u) (later rest e))
