-- The leaves at the time's path, in memory.
use Rattle.std.proofs.Common.{◌≡◌, ◌≤◌, List, [], ◌∷◌, map, length, Some, refl, sym, ap, ap₂, subst, arith}
use Rattle.serde_json.specs.Data.{Data}
use Rattle.json_walk.specs.Lent.{value_of, lent}
use Rattle.json_walk.specs.declared.at.Leaf.{Leaf}
use Rattle.ts_mapping.specs.Paths.{timestamp}
use Rattle.synthetic_source.specs.Times.{AllLent, IsLentIf, IsRefusal, IsTimeFaultIn, lent_leaves, lent_or}
use Rattle.synthetic_source.specs.declared.errors.DocError.{DocError}
use Rattle.synthetic_source.specs.declared.errors.DocError.TheVariants.{Refused, NoMemory}
use Rattle.synthetic_source.specs.declared.errors.DocKind.TheVariants.{BadTime}

pub two_bad : (ls : List Leaf) (e : DocError) → 2 ≤ length ls → IsRefusal BadTime timestamp e → IsTimeFaultIn (lent_leaves ls) e
two_bad [] e long is = absurd (omega arith)
two_bad (l ∷ []) e long is = absurd (omega arith)
two_bad (l ∷ m ∷ ls) (Refused kind path) long is = (ap (λ k. Some k) (sym is.0), is.1)
two_bad (l ∷ m ∷ ls) NoMemory long is = tt

pub lent_all : (ls : List Leaf) (ds : List Data) → lent ls ≡ map (λ d. Some d) ds → AllLent ls
lent_all [] ds same = tt
lent_all (l ∷ ls) [] same = cc
lent_all (l ∷ ls) (d ∷ ds) same =
    let first : value_of l ≡ Some d = cc in
    let rest : lent ls ≡ map (λ (x : Data). Some x) ds = cc in
    (subst IsLentIf (sym first) tt, lent_all ls ds rest)

pub lent_same : (ls : List Leaf) (ds : List Data) → lent ls ≡ map (λ d. Some d) ds → lent_leaves ls ≡ ds
lent_same [] [] same = refl
lent_same [] (d ∷ ds) same = cc
lent_same (l ∷ ls) [] same = cc
lent_same (l ∷ ls) (d ∷ ds) same =
    let first : value_of l ≡ Some d = cc in
    let rest : lent ls ≡ map (λ (x : Data). Some x) ds = cc in
    ap₂ (λ x xs. x ∷ xs) (ap lent_or first) (lent_same ls ds rest)
