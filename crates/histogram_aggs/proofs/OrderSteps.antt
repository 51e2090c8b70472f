-- Buckets of values in the order that is asked for.
use Rattle.std.proofs.Common.{◌≡◌, ℕ, ◌<◌, ◌≤◌, Bool, true, false, List, [], ◌∷◌, ◌++◌, map, reverse, Option, Some, None, refl, ap, ◌∙◌, sym, subst, inl, inr, arith}
use Rattle.std.specs.Prelude.{nat_le, if◌then◌else◌}
use Rattle.std.specs.BTreeMap.{insert_entry}
use Rattle.std.specs.List.Sorted.{IsStrictlySortedBy}
use Rattle.std.specs.Map.{keys_of}
use Rattle.std.specs.Cmp.{ranks}
use Rattle.std.specs.Ordering.{nat_cmp, ordering_then, match_ordering, MatchOrdering}
use Rattle.std.specs.declared.cmp.Ordering.{Ordering}
use Rattle.std.specs.declared.cmp.Ordering.TheVariants.{Less, Equal, Greater}
use Rattle.std.specs.declared.cmp.Reverse.{Reverse}
use Rattle.std.proofs.lemmas.Bool.Decides.{leb_tells}
use Rattle.std.proofs.lemmas.List.{reverse-append, reverse-reverse}
use Rattle.std.proofs.lemmas.Map.Keys.{sorted_head, sorted_tail}
use Rattle.row_cells.specs.declared.scalars.Scalar.{Scalar}
use Rattle.row_cells.specs.Each.{Each}
use Rattle.search_filter.specs.Values.{value_cmp}
use Rattle.histogram_aggs.specs.declared.state.Bucket.{Bucket, out-Bucket}
use Rattle.histogram_aggs.specs.Buckets.{by_weight, in_asked_order, insert_by}
use Rattle.histogram_aggs.specs.JoinLaws.{each-append}
use Rattle.histogram_aggs.specs.Told.{by_documents, entries_asked, entry_of, put_entry}
use Rattle.histogram_aggs.proofs.KeySteps.{each_from_all}

-- a bucket's documents are the weight of its value
abbrev pub Weighs : (Scalar → ℕ) → Scalar × Bucket → Type 0
Weighs weight e = weight e.0 ≡ (out-Bucket e.1).documents

each_put : (P : Scalar × Bucket → Type 0) (e : Scalar × Bucket) (es : List (Scalar × Bucket)) → P e → Each P es → Each P (put_entry e es)
each_put P e [] here each = (here, tt)
each_put P e (f ∷ fs) here each = by_test (nat_le (out-Bucket f.1).documents (out-Bucket e.1).documents) (each_put P e fs here each.1)
  where
    by_test : (b : Bool) → Each P (put_entry e fs) → Each P (if b then e ∷ f ∷ fs else f ∷ put_entry e fs)
    by_test true later = (here, each)
    by_test false later = (each.0, later)

each_by_documents : (P : Scalar × Bucket → Type 0) (es : List (Scalar × Bucket)) → Each P es → Each P (by_documents es)
each_by_documents P [] each = tt
each_by_documents P (e ∷ es) each = each_put P e (by_documents es) each.0 (each_by_documents P es each.1)

pub each_reverse : {A : Type 0} (P : A → Type 0) (es : List A) → Each P es → Each P (reverse es)
each_reverse P [] each = tt
each_reverse P (e ∷ es) each = subst (Each P) (sym (reverse-append (e ∷ []) es)) (each-append P (reverse es) (e ∷ []) (each_reverse P es each.1) (each.0, tt))

pub each_asked : (P : Scalar × Bucket → Type 0) (by_key : Option Bool) (es : List (Scalar × Bucket)) → Each P es → Each P (entries_asked by_key es)
each_asked P None es each = each_by_documents P es each
each_asked P (Some true) es each = each
each_asked P (Some false) es each = each_reverse P es each

put_keys : (weight : Scalar → ℕ) (e : Scalar × Bucket) (es : List (Scalar × Bucket)) → Weighs weight e → Each (Weighs weight) es → map (λ f. f.0) (put_entry e es) ≡ insert_by weight e.0 (map (λ f. f.0) es)
put_keys weight e [] here each = refl
put_keys weight e (f ∷ fs) here each = rw (here, each.0) (by_test (nat_le (out-Bucket f.1).documents (out-Bucket e.1).documents) (put_keys weight e fs here each.1))
  where
    by_test : (b : Bool) → map (λ g. g.0) (put_entry e fs) ≡ insert_by weight e.0 (map (λ g. g.0) fs) →
        map (λ g. g.0) (if b then e ∷ f ∷ fs else f ∷ put_entry e fs) ≡ (if b then e.0 ∷ f.0 ∷ map (λ g. g.0) fs else f.0 ∷ insert_by weight e.0 (map (λ g. g.0) fs))
    by_test true later = refl
    by_test false later = ap (λ vs. f.0 ∷ vs) later

documents_keys : (weight : Scalar → ℕ) (es : List (Scalar × Bucket)) → Each (Weighs weight) es → map (λ f. f.0) (by_documents es) ≡ by_weight weight (map (λ f. f.0) es)
documents_keys weight [] each = refl
documents_keys weight (e ∷ es) each =
    put_keys weight e (by_documents es) each.0 (each_by_documents (Weighs weight) es each.1) ∙ ap (insert_by weight e.0) (documents_keys weight es each.1)

reverse_keys : (es : List (Scalar × Bucket)) → map (λ f. f.0) (reverse es) ≡ reverse (map (λ f. f.0) es)
reverse_keys [] = refl
reverse_keys (e ∷ es) =
    ap (map (λ f. f.0)) (reverse-append (e ∷ []) es) ∙ (map_last (reverse es) ∙ (ap (λ vs. vs ++ e.0 ∷ []) (reverse_keys es) ∙ sym (reverse-append (e.0 ∷ []) (map (λ f. f.0) es))))
  where
    map_last : (fs : List (Scalar × Bucket)) → map (λ f. f.0) (fs ++ e ∷ []) ≡ map (λ f. f.0) fs ++ e.0 ∷ []
    map_last [] = refl
    map_last (f ∷ fs) = ap (λ vs. f.0 ∷ vs) (map_last fs)

pub asked_keys : (by_key : Option Bool) (weight : Scalar → ℕ) (es : List (Scalar × Bucket)) → Each (Weighs weight) es → map (λ f. f.0) (entries_asked by_key es) ≡ in_asked_order by_key weight (map (λ f. f.0) es)
asked_keys None weight es each = documents_keys weight es each
asked_keys (Some true) weight es each = refl
asked_keys (Some false) weight es each = reverse_keys es

-- ---- ranks

abbrev pub Rank : Type 0
Rank = Reverse ℕ × Scalar

abbrev pub rank_cmp : Rank → Rank → Ordering
rank_cmp x y = ordering_then (nat_cmp y.0.0 x.0.0) (value_cmp x.1 y.1)

-- a rank has its bucket's documents
abbrev pub IsRanked : Rank × Bucket → Type 0
IsRanked r = r.0.0.0 ≡ (out-Bucket r.1).documents

abbrev pub rank_of : Scalar × Bucket → Rank
rank_of e = (record { 0 = (out-Bucket e.1).documents }, e.0)

pub le_test : (a b : ℕ) → a ≤ b → nat_le a b ≡ true
le_test a b le = elim (leb_tells a b) [ inl is ↦ is.0 | inr other ↦ absurd (omega (arith, le, other.1)) ]

pub gt_test : (a b : ℕ) → b < a → nat_le a b ≡ false
gt_test a b lt = elim (leb_tells a b) [ inl is ↦ absurd (omega (arith, lt, is.1)) | inr other ↦ other.0 ]

ranked_put : (e : Scalar × Bucket) (ranks : List (Rank × Bucket)) → Each IsRanked ranks → Each (λ f. value_cmp e.0 f.0 ≡ Less) (map entry_of ranks) →
    (map entry_of (insert_entry rank_cmp ranks (rank_of e) e.1) ≡ put_entry e (map entry_of ranks)) × Each IsRanked (insert_entry rank_cmp ranks (rank_of e) e.1)
ranked_put e [] ranked above = (refl, (refl, tt))
ranked_put e (r ∷ rs) ranked above = by_case (nat_cmp r.0.0.0 (out-Bucket e.1).documents) refl (ranked_put e rs ranked.1 above.1)
  where
    d : ℕ
    d = (out-Bucket e.1).documents

    told : (o : Ordering) → nat_cmp r.0.0.0 d ≡ o → MatchOrdering o (r.0.0.0 < d) (r.0.0.0 ≡ d) (d < r.0.0.0)
    told o is = subst (λ p. MatchOrdering p (r.0.0.0 < d) (r.0.0.0 ≡ d) (d < r.0.0.0)) is (ranks r.0.0.0 d)

    Put : Ordering → List (Rank × Bucket) → Type 0
    Put o later =
        (map entry_of (match_ordering (ordering_then o (value_cmp e.0 r.0.1)) ((rank_of e, e.1) ∷ r ∷ rs) ((r.0, e.1) ∷ rs) (r ∷ later)) ≡ put_entry e (map entry_of (r ∷ rs)))
        × Each IsRanked (match_ordering (ordering_then o (value_cmp e.0 r.0.1)) ((rank_of e, e.1) ∷ r ∷ rs) ((r.0, e.1) ∷ rs) (r ∷ later))

    in_front : (r.0.0.0 ≤ d) → (map entry_of ((rank_of e, e.1) ∷ r ∷ rs) ≡ put_entry e (map entry_of (r ∷ rs))) × Each IsRanked ((rank_of e, e.1) ∷ r ∷ rs)
    in_front le = (sym (rw (le_test (out-Bucket r.1).documents d (subst (λ n. n ≤ d) ranked.0 le)) refl), (refl, ranked))

    by_case : (o : Ordering) → nat_cmp r.0.0.0 d ≡ o → (map entry_of (insert_entry rank_cmp rs (rank_of e) e.1) ≡ put_entry e (map entry_of rs)) × Each IsRanked (insert_entry rank_cmp rs (rank_of e) e.1) →
        Put o (insert_entry rank_cmp rs (rank_of e) e.1)
    by_case Less is later = let lt = told Less is in in_front (omega (arith, lt))
    by_case Equal is later = rw above.0 (let eq = told Equal is in in_front (omega (arith, eq)))
    by_case Greater is later =
        let gt = told Greater is in
        (sym (rw (gt_test (out-Bucket r.1).documents d (subst (λ n. d < n) ranked.0 gt)) (ap (λ es. entry_of r ∷ es) (sym later.0))), (ranked.0, later.1))

-- one bucket more is ranked, the value of which is below the others
pub ranked_more : (e : Scalar × Bucket) (es : List (Scalar × Bucket)) (ranks : List (Rank × Bucket)) → map entry_of ranks ≡ by_documents es → Each IsRanked ranks → Each (λ f. value_cmp e.0 f.0 ≡ Less) es →
    (map entry_of (insert_entry rank_cmp ranks (rank_of e) e.1) ≡ by_documents (e ∷ es)) × Each IsRanked (insert_entry rank_cmp ranks (rank_of e) e.1)
ranked_more e es ranks same ranked above =
    let put = ranked_put e ranks ranked (subst (Each (λ f. value_cmp e.0 f.0 ≡ Less)) (sym same) (each_by_documents (λ f. value_cmp e.0 f.0 ≡ Less) es above)) in
    (put.0 ∙ ap (put_entry e) same, put.1)

-- in order the values behind one are above it
pub above_in_order : (before : List (Scalar × Bucket)) (e : Scalar × Bucket) (es : List (Scalar × Bucket)) → IsStrictlySortedBy value_cmp (keys_of (before ++ e ∷ es)) → Each (λ f. value_cmp e.0 f.0 ≡ Less) es
above_in_order [] e es sorted = behind es (each_from_all (λ v. value_cmp e.0 v ≡ Less) (keys_of es) (sorted_head value_cmp e.0 (keys_of es) sorted))
  where
    behind : (fs : List (Scalar × Bucket)) → Each (λ v. value_cmp e.0 v ≡ Less) (keys_of fs) → Each (λ f. value_cmp e.0 f.0 ≡ Less) fs
    behind [] each = tt
    behind (f ∷ fs) each = (each.0, behind fs each.1)
above_in_order (f ∷ before) e es sorted = above_in_order before e es (sorted_tail value_cmp f.0 (keys_of (before ++ e ∷ es)) sorted)

pub twice_reversed : (es : List (Scalar × Bucket)) → reverse (reverse es) ≡ es
twice_reversed es = reverse-reverse es
