-- A fold of rows in row order is in row order, with each place once.
use Rattle.std.specs.Prelude.{◌≡◌, ℕ, ℤ, ◌*ℤ◌, ◌≤ℤ◌, pos, ◌<◌, ◌⊎◌, List, [], ◌∷◌, Bool, true, false, if◌then◌else◌}
use Rattle.std.specs.Cmp.Lexicographic.{slice_cmp}
use Rattle.std.specs.Ordering.{is_gt, nat_cmp}
use Rattle.std.specs.declared.cmp.Ordering.{Ordering}
use Rattle.std.specs.declared.cmp.Ordering.TheVariants.{Less, Equal, Greater}
use Rattle.std.proofs.Common.{refl, sym, subst, inl, inr, arith}
use Rattle.std.proofs.lemmas.Bool.{both_ways}
use Rattle.std.proofs.lemmas.Int.{ints}
use Rattle.time_text.specs.Bucket.{bucket_start}
use Rattle.time_text.specs.BucketLaws.{greatest, bucket_start-bucket_start}
use Rattle.row_cells.specs.declared.schemas.Schema.{Schema}
use Rattle.row_cells.specs.declared.rows.Row.{Row}
use Rattle.row_cells.specs.Merging.{merge_of_rows}
use Rattle.row_cells.specs.Order.{row_cmp}
use Rattle.row_cells.specs.RowLists.{AreInRowOrder}
use Rattle.downsample_fold.specs.Conditions.{AllAtStarts}
use Rattle.row_cells.specs.Each.{Each}
use Rattle.row_cells.specs.EachLaws.{Each-weaker, Each-all}
use Rattle.row_cells.specs.OrderLaws.{IsUpTo, Ascend, row_cmp_total, tied_rows, upto_cases, upto_from}
use Rattle.downsample_fold.specs.Joined.{placed, put, joined, are_at_one}
use Rattle.downsample_fold.specs.JoinedLaws.{at_one_from, AtPlace, joined-places}

-- buckets come in the order of their moments
pub bucket_start-mono : (n : ℕ) (s t : ℤ) → 0 < n → s ≤ℤ t → bucket_start n s ≤ℤ bucket_start n t
bucket_start-mono n s t some le =
    let of_s = greatest n s some in
    let of_t = greatest n t some in
    let whole = of_s.0 in
    let within : (pos n *ℤ whole.0) ≤ℤ t = omega (arith, ints, subst (λ b. b ≤ℤ s) whole.1 of_s.1) in
    subst (λ b. b ≤ℤ bucket_start n t) (sym whole.1) (of_t.2 whole.0 within)

-- a row isn't before this place
abbrev UpToPlace : Row → List ℕ → ℤ → Type 0
UpToPlace row key time = (slice_cmp nat_cmp row.key key ≡ Less) ⊎ ((row.key ≡ key) × (time ≤ℤ row.time))

placed-upto : (schema : Schema) (n : ℕ) (a b : Row) → 0 < n → IsUpTo a b → UpToPlace (placed schema n a) b.key (bucket_start n b.time)
placed-upto schema n a b some up =
    elim (upto_cases a b up) [
      | inl before ↦ inl before
      | inr tied ↦ inr (tied.0, bucket_start-mono n b.time a.time some tied.1)
    ]

less_of : (a b : Row) → IsUpTo a b → are_at_one a b ≡ false → row_cmp a b ≡ Less
less_of a b up apart = by_order (row_cmp a b) refl up
  where
    by_order : (o : Ordering) → row_cmp a b ≡ o → is_gt o ≡ false → row_cmp a b ≡ Less
    by_order Less is up = is
    by_order Equal is up = let tied = tied_rows a b is in absurd (both_ways (are_at_one a b) apart (at_one_from a b tied.0 tied.1))
    by_order Greater is up = cc

less_chain : (a b c : Row) → row_cmp a b ≡ Less → row_cmp b c ≡ Less → row_cmp a c ≡ Less
less_chain = row_cmp_total.trans

put-in_order : (schema : Schema) (row : Row) (rows : List Row) → Each (IsUpTo row) rows → AreInRowOrder rows → AreInRowOrder (put schema row rows)
put-in_order schema row [] up order = (tt, tt)
put-in_order schema row (next ∷ rest) up order = by_test (are_at_one row next) refl
  where
    by_test : (at : Bool) → are_at_one row next ≡ at → AreInRowOrder (if at then merge_of_rows schema next row ∷ rest else row ∷ next ∷ rest)
    by_test true is = order
    by_test false is =
        let here = less_of row next up.0 is in
        ((here, Each-weaker (λ r. row_cmp next r ≡ Less) (λ r. row_cmp row r ≡ Less) (λ r later. less_chain row next r here later) rest order.0), order)

pub joined-in_order : (schema : Schema) (n : ℕ) (rows : List Row) → 0 < n → Ascend rows → AreInRowOrder (joined schema n rows)
joined-in_order schema n [] some ascend = tt
joined-in_order schema n (row ∷ rows) some ascend =
    let first = placed schema n row in
    let behind = joined-places (UpToPlace first) schema n rows (Each-weaker (IsUpTo row) (λ r. UpToPlace first r.key (bucket_start n r.time)) (λ r up. placed-upto schema n row r some up) rows ascend.0) in
    put-in_order schema first (joined schema n rows)
    (Each-weaker (AtPlace (UpToPlace first)) (IsUpTo first) (λ r up. upto_from first r up) (joined schema n rows) behind)
    (joined-in_order schema n rows some ascend.1)

-- each row of a fold stands at the start of a bucket
pub joined-at_starts : (schema : Schema) (n : ℕ) (rows : List Row) → 0 < n → AllAtStarts n (joined schema n rows)
joined-at_starts schema n rows some =
    joined-places (λ key time. bucket_start n time ≡ time) schema n rows (Each-all (λ r. bucket_start n (bucket_start n r.time) ≡ bucket_start n r.time) (λ r. bucket_start-bucket_start n r.time some) rows)
