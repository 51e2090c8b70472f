-- The runs of equal keys, from the front on.
use Rattle.std.specs.Prelude.{◌≡◌, ℕ, zero, suc, ◌+◌, ◌++◌, Bool, true, false, cond, List, [], ◌∷◌, drop}
use Rattle.std.specs.Ordering.{nat_cmp, is_eq}
use Rattle.std.specs.Cmp.Lexicographic.{slice_cmp}
use Rattle.std.specs.Str.{bytes_eq}
use Rattle.std.specs.declared.cmp.Ordering.TheVariants.{Equal}
use Rattle.std.proofs.Common.{refl, ap, sym, ◌∙◌, arith, append_assoc}
use Rattle.std.proofs.lemmas.Map.Text.{is_eq-slice_cmp}
use Rattle.std.proofs.lemmas.Slice.Eq.{bytes_eq-Decides}
use Rattle.row_cells.specs.declared.rows.Row.{Row}
use Rattle.index_segment.specs.Directory.{Run, run_of, with_key, runs_of, same_in_front, row_keys}
use Rattle.row_cells.specs.WidenLaws.{other_bytes}

pub bytes_eq_same : (a b : List ℕ) → bytes_eq a b ≡ true → a ≡ b
bytes_eq_same a b is = (bytes_eq-Decides a b).0 is

pub bytes_eq_itself : (a : List ℕ) → bytes_eq a a ≡ true
bytes_eq_itself a = (bytes_eq-Decides a a).1 refl

pub bytes_eq_differ : (a b : List ℕ) → bytes_eq a b ≡ false → a ≡ b → ⊥
bytes_eq_differ a b is same = cc ((bytes_eq-Decides a b).1 same)

-- keys that compare as equal are one
pub same_key : (a b : List ℕ) → slice_cmp nat_cmp a b ≡ Equal → a ≡ b
same_key a b is = bytes_eq_same a b (sym (is_eq-slice_cmp a b) ∙ ap is_eq is)

joins : (key k : List ℕ) (size : ℕ) (all runs : List Run) → key ≡ k → all ≡ run_of k size ∷ runs → with_key key all ≡ run_of key (size + 1) ∷ runs
joins key k size all runs same is =
    ap (with_key key) is
    ∙ (ap (λ b. cond {A = List Run} b (run_of k (size + 1) ∷ runs) (run_of key 1 ∷ run_of k size ∷ runs)) (ap (bytes_eq key) (sym same) ∙ bytes_eq_itself key)
    ∙ ap (λ t. run_of t (size + 1) ∷ runs) (sym same))

begins : (key k : List ℕ) (size : ℕ) (all runs : List Run) → (key ≡ k → ⊥) → all ≡ run_of k size ∷ runs → with_key key all ≡ run_of key 1 ∷ all
begins key k size all runs other is =
    ap (with_key key) is
    ∙ (ap (λ b. cond {A = List Run} b (run_of k (size + 1) ∷ runs) (run_of key 1 ∷ run_of k size ∷ runs)) (other_bytes key k other)
    ∙ ap (λ rest. run_of key 1 ∷ rest) (sym is))

-- the first run, and the runs behind it
pub first_run : (key : List ℕ) (keys : List (List ℕ)) → runs_of (key ∷ keys) ≡ run_of key (suc (same_in_front key keys)) ∷ runs_of (drop (same_in_front key keys) keys)
first_run key [] = refl
first_run key (k ∷ keys) = go (bytes_eq k key) refl (first_run k keys)
  where
    go : (b : Bool) → bytes_eq k key ≡ b → runs_of (k ∷ keys) ≡ run_of k (suc (same_in_front k keys)) ∷ runs_of (drop (same_in_front k keys) keys) → with_key key (runs_of (k ∷ keys)) ≡ run_of key (suc (cond b (suc (same_in_front key keys)) 0)) ∷ runs_of (drop (cond b (suc (same_in_front key keys)) 0) (k ∷ keys))
    go true is here =
        let same : k ≡ key = bytes_eq_same k key is in
        joins key k (suc (same_in_front k keys)) (runs_of (k ∷ keys)) (runs_of (drop (same_in_front k keys) keys)) (sym same) here
        ∙ (ap (λ t. run_of key (suc (same_in_front t keys) + 1) ∷ runs_of (drop (same_in_front t keys) keys)) same
        ∙ ap (λ n. run_of key n ∷ runs_of (drop (same_in_front key keys) keys)) (omega arith))
    go false is here = begins key k (suc (same_in_front k keys)) (runs_of (k ∷ keys)) (runs_of (drop (same_in_front k keys) keys)) (λ same. bytes_eq_differ k key is (sym same)) here

pub keys_dropped : (n : ℕ) (rows : List Row) → drop n (row_keys rows) ≡ row_keys (drop n rows)
keys_dropped zero rows = refl
keys_dropped (suc n) [] = refl
keys_dropped (suc n) (row ∷ rows) = keys_dropped n rows

pub taken_run : (left behind rest : List Row) (row : Row) (more : ℕ) → left ≡ row ∷ behind → more ≡ same_in_front row.key (row_keys behind) → rest ≡ drop more behind → runs_of (row_keys left) ≡ run_of row.key (suc more) ∷ runs_of (row_keys rest)
taken_run left behind rest row more left_is more_is rest_is =
    ap (λ rows. runs_of (row_keys rows)) left_is
    ∙ (first_run row.key (row_keys behind)
    ∙ (ap (λ n. run_of row.key (suc n) ∷ runs_of (drop n (row_keys behind))) (sym more_is)
    ∙ ap (λ keys. run_of row.key (suc more) ∷ runs_of keys) (keys_dropped more behind ∙ ap row_keys (sym rest_is))))

-- one item goes from what is left to what was found
pub moved : {A : Type 0} (new old front back all : List A) (x : A) → new ≡ old ++ x ∷ [] → front ≡ x ∷ back → old ++ front ≡ all → new ++ back ≡ all
moved new old front back all x new_is front_is whole = ap (λ xs. xs ++ back) new_is ∙ (append_assoc old (x ∷ []) back ∙ (ap (λ xs. old ++ xs) (sym front_is) ∙ whole))
