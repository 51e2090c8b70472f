-- Folding neighbours: in rounds, and what it keeps.
use Rattle.std.specs.Prelude.{◌≡◌, ℕ, ℤ, ◌+◌, ◌%◌, ◌<◌, List, [], ◌∷◌, Bool, true, false, if◌then◌else◌}
use Rattle.std.specs.Str.{bytes_eq}
use Rattle.std.specs.Ordering.{int_eq}
use Rattle.std.proofs.Common.{refl, ap, ◌∙◌, sym, arith}
use Rattle.std.proofs.lemmas.Bool.{and_parts, and_from}
use Rattle.std.proofs.lemmas.Bool.Decides.{Decides-int_eq}
use Rattle.std.proofs.lemmas.Slice.Eq.{bytes_eq-Decides}
use Rattle.time_text.specs.Bucket.{bucket_start}
use Rattle.time_text.specs.BucketLaws.{nest}
use Rattle.row_cells.specs.declared.schemas.Schema.{Schema}
use Rattle.row_cells.specs.declared.rows.Row.{Row}
use Rattle.row_cells.specs.Merging.{merge_of_rows, fold_of_row}
use Rattle.row_cells.specs.MergeLaws.{merge_of_rows_assoc, merge_of_rows-fold_of_row_left, merge_of_rows-fold_of_row_right, fold_of_row-merge_of_rows, fold_of_row-fold_of_row}
use Rattle.row_cells.specs.RowLists.{documents}
use Rattle.row_cells.specs.Each.{Each}
use Rattle.downsample_fold.specs.Joined.{placed, are_at_one, put, joined}

pub at_one_parts : (a b : Row) → are_at_one a b ≡ true → (a.key ≡ b.key) × (a.time ≡ b.time)
at_one_parts a b is =
    let parts = and_parts (bytes_eq a.key b.key) (int_eq a.time b.time) is in
    ((bytes_eq-Decides a.key b.key).0 parts.0, (Decides-int_eq a.time b.time).0 parts.1)

pub at_one_from : (a b : Row) → a.key ≡ b.key → a.time ≡ b.time → are_at_one a b ≡ true
at_one_from a b same_key same_time =
    and_from (bytes_eq a.key b.key) (int_eq a.time b.time) ((bytes_eq-Decides a.key b.key).1 same_key) ((Decides-int_eq a.time b.time).1 same_time)

pub put_joins : (schema : Schema) (row next : Row) (rest : List Row) → are_at_one row next ≡ true → put schema row (next ∷ rest) ≡ merge_of_rows schema next row ∷ rest
put_joins schema row next rest is = ap (λ b. if b then merge_of_rows schema next row ∷ rest else row ∷ next ∷ rest) is

pub put_passes : (schema : Schema) (row next : Row) (rest : List Row) → are_at_one row next ≡ false → put schema row (next ∷ rest) ≡ row ∷ next ∷ rest
put_passes schema row next rest is = ap (λ b. if b then merge_of_rows schema next row ∷ rest else row ∷ next ∷ rest) is

-- ---- folding in rounds

-- joining two rows of one place and putting the result is putting one after the other
put_both : (schema : Schema) (a b : Row) (rows : List Row) → a.key ≡ b.key → a.time ≡ b.time → put schema a (put schema b rows) ≡ put schema (merge_of_rows schema b a) rows
put_both schema a b [] same_key same_time = put_joins schema a b [] (at_one_from a b same_key same_time)
put_both schema a b (c ∷ rest) same_key same_time = by_test (are_at_one b c) refl
  where
    by_test : (at : Bool) → are_at_one b c ≡ at → put schema a (if at then merge_of_rows schema c b ∷ rest else b ∷ c ∷ rest) ≡ (if at then merge_of_rows schema c (merge_of_rows schema b a) ∷ rest else merge_of_rows schema b a ∷ c ∷ rest)
    by_test true is =
        let parts = at_one_parts b c is in
        put_joins schema a (merge_of_rows schema c b) rest (at_one_from a c (same_key ∙ parts.0) (same_time ∙ parts.1)) ∙ ap (λ row. row ∷ rest) (merge_of_rows_assoc schema c b a)
    by_test false is = put_joins schema a b (c ∷ rest) (at_one_from a b same_key same_time)

-- the row of a bucket, put into a wider bucket, is the join of its rows put there
placed-merge : (schema : Schema) (n : ℕ) (a b : Row) → placed schema n (merge_of_rows schema b a) ≡ merge_of_rows schema (placed schema n b) (placed schema n a)
placed-merge schema n a b =
    let moved : Row = record b { time = bucket_start n b.time } in
    fold_of_row-merge_of_rows schema moved a
    ∙ (sym (merge_of_rows-fold_of_row_left schema moved a) ∙ sym (merge_of_rows-fold_of_row_right schema (fold_of_row schema moved) a))

joined-put : (schema : Schema) (n : ℕ) (a : Row) (rows : List Row) → joined schema n (put schema a rows) ≡ put schema (placed schema n a) (joined schema n rows)
joined-put schema n a [] = refl
joined-put schema n a (next ∷ rest) = by_test (are_at_one a next) refl
  where
    by_test : (at : Bool) → are_at_one a next ≡ at → joined schema n (if at then merge_of_rows schema next a ∷ rest else a ∷ next ∷ rest) ≡ put schema (placed schema n a) (joined schema n (next ∷ rest))
    by_test true is =
        let parts = at_one_parts a next is in
        ap (λ row. put schema row (joined schema n rest)) (placed-merge schema n a next)
        ∙ sym (put_both schema (placed schema n a) (placed schema n next) (joined schema n rest) parts.0 (ap (bucket_start n) parts.1))
    by_test false is = refl

placed-placed : (schema : Schema) (m n : ℕ) (a : Row) → 0 < m → 0 < n → n % m ≡ 0 → placed schema n (placed schema m a) ≡ placed schema n a
placed-placed schema m n a narrow wide multiple =
    fold_of_row-fold_of_row schema (record a { time = bucket_start n (bucket_start m a.time) })
    ∙ ap (λ t. fold_of_row schema (record a { time = t })) (nest m n a.time wide narrow multiple)

-- where m divides n, folding by n what was folded by m is folding by n
pub joined-joined : (schema : Schema) (m n : ℕ) (rows : List Row) → 0 < m → 0 < n → n % m ≡ 0 → joined schema n (joined schema m rows) ≡ joined schema n rows
joined-joined schema m n [] narrow wide multiple = refl
joined-joined schema m n (row ∷ rows) narrow wide multiple =
    joined-put schema n (placed schema m row) (joined schema m rows)
    ∙ (ap (λ r. put schema r (joined schema n (joined schema m rows))) (placed-placed schema m n row narrow wide multiple)
    ∙ ap (put schema (placed schema n row)) (joined-joined schema m n rows narrow wide multiple))

-- ---- what a fold keeps

documents-put : (schema : Schema) (row : Row) (rows : List Row) → documents (put schema row rows) ≡ row.count + documents rows
documents-put schema row [] = refl
documents-put schema row (next ∷ rest) = by_test (are_at_one row next)
  where
    by_test : (at : Bool) → documents (if at then merge_of_rows schema next row ∷ rest else row ∷ next ∷ rest) ≡ row.count + (next.count + documents rest)
    by_test true = omega arith
    by_test false = refl

pub documents-joined : (schema : Schema) (n : ℕ) (rows : List Row) → documents (joined schema n rows) ≡ documents rows
documents-joined schema n [] = refl
documents-joined schema n (row ∷ rows) = documents-put schema (placed schema n row) (joined schema n rows) ∙ ap (λ k. row.count + k) (documents-joined schema n rows)

-- what holds of a row by its key and its time alone
abbrev pub AtPlace : (List ℕ → ℤ → Type 0) → Row → Type 0
AtPlace P row = P row.key row.time

put-places : (P : List ℕ → ℤ → Type 0) (schema : Schema) (row : Row) (rows : List Row) → AtPlace P row → Each (AtPlace P) rows → Each (AtPlace P) (put schema row rows)
put-places P schema row [] here each = (here, tt)
put-places P schema row (next ∷ rest) here each = by_test (are_at_one row next)
  where
    by_test : (at : Bool) → Each (AtPlace P) (if at then merge_of_rows schema next row ∷ rest else row ∷ next ∷ rest)
    by_test true = each
    by_test false = (here, each)

-- each row of a fold stands at the place of a row
pub joined-places : (P : List ℕ → ℤ → Type 0) (schema : Schema) (n : ℕ) (rows : List Row) → Each (λ row. P row.key (bucket_start n row.time)) rows → Each (AtPlace P) (joined schema n rows)
joined-places P schema n [] each = tt
joined-places P schema n (row ∷ rows) each = put-places P schema (placed schema n row) (joined schema n rows) each.0 (joined-places P schema n rows each.1)
