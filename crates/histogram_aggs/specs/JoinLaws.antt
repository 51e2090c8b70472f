-- Lists that are alike, joined, and seen by wider buckets.
use Rattle.std.specs.Prelude.{◌≡◌, ℕ, ℤ, ◌<◌, ◌%◌, ◌+◌, ◌⊎◌, ◌&&◌, List, [], ◌∷◌, ◌++◌}
use Rattle.std.specs.Str.{bytes_eq}
use Rattle.std.specs.Ordering.{int_eq}
use Rattle.std.proofs.Common.{ap, ◌∙◌, sym, inl, inr, append-nil}
use Rattle.std.proofs.lemmas.List.{map-append}
use Rattle.std.proofs.lemmas.List.Elements.{filter-append}
use Rattle.time_text.specs.Bucket.{bucket_start}
use Rattle.time_text.specs.BucketLaws.{nest}
use Rattle.fold_law.specs.declared.measures.Gauge.{Gauge as GaugeFold}
use Rattle.fold_law.specs.Laws.{FoldLaws}
use Rattle.fold_law.specs.Gauges.{no_gauge, merge_gauges}
use Rattle.fold_law.specs.GaugeLaws.{gauge_laws}
use Rattle.row_cells.specs.declared.rows.Row.{Row}
use Rattle.row_cells.specs.Each.{Each}
use Rattle.row_cells.specs.EachLaws.{Each-all}
use Rattle.row_cells.specs.PlaceLaws.{documents-append}
use Rattle.row_cells.specs.RowLists.{documents}
use Rattle.downsample_fold.specs.Totals.{total_over}
use Rattle.downsample_fold.specs.Measures.{gauge_in}
use Rattle.histogram_aggs.specs.Samples.{Sample, rows_in, documents_in}
use Rattle.histogram_aggs.specs.Metrics.{gauge_all, of_window, rise_in_order}
use Rattle.histogram_aggs.specs.Alike.{Choice, IsOfHead, pick}
use Rattle.histogram_aggs.specs.Laws.{IsWithout, AlikeAppend, AlikeWider}
use Rattle.histogram_aggs.specs.PickLaws.{filter-same}

pub each-append : {A : Type 0} (P : A → Type 0) (xs ys : List A) → Each P xs → Each P ys → Each P (xs ++ ys)
each-append P [] ys first second = second
each-append P (x ∷ xs) ys first second = (first.0, each-append P xs ys first.1 second)

pub total-append : {F : Type 0} {none : F} {merge : F → F → F} {reach : F → ℕ} (laws : FoldLaws none merge reach) (value : Row → F) (xs ys : List Row) → total_over none merge value (xs ++ ys) ≡ merge (total_over none merge value ys) (total_over none merge value xs)
total-append {none = none} {merge = merge} laws value [] ys = sym (laws.none_right (total_over none merge value ys))
total-append {none = none} {merge = merge} laws value (x ∷ xs) ys =
    ap (λ t. merge t (value x)) (total-append laws value xs ys) ∙ laws.assoc (total_over none merge value ys) (total_over none merge value xs) (value x)

pub documents_in-append : (xs ys : List Sample) → documents_in (xs ++ ys) ≡ documents_in xs + documents_in ys
documents_in-append xs ys = ap documents (map-append (λ s. s.row) xs ys) ∙ documents-append (rows_in xs) (rows_in ys)

pub gauge_all-append : (place : ℕ) (xs ys : List Sample) → gauge_all place (xs ++ ys) ≡ merge_gauges (gauge_all place ys) (gauge_all place xs)
gauge_all-append place xs ys = ap (total_over no_gauge merge_gauges (gauge_in place)) (map-append (λ s. s.row) xs ys) ∙ total-append gauge_laws (gauge_in place) (rows_in xs) (rows_in ys)

pick-append : (n : ℕ) (c : Choice) (xs ys : List Sample) → pick n c (xs ++ ys) ≡ pick n c xs ++ pick n c ys
pick-append n c xs ys = filter-append (λ s. c s.row.key s.start (bucket_start n s.row.time)) xs ys

rise-append : (n place : ℕ) (key : List ℕ) (start : ℤ) (c : Choice) (xs us : List Sample) → rise_in_order place (of_window key start (pick n c (xs ++ us))) ≡ rise_in_order place (of_window key start (pick n c xs) ++ of_window key start (pick n c us))
rise-append n place key start c xs us =
    ap (λ zs. rise_in_order place (of_window key start zs)) (pick-append n c xs us)
    ∙ ap (rise_in_order place) (filter-append (λ s. bytes_eq s.row.key key && int_eq s.start start) (pick n c xs) (pick n c us))

pub alike_append : AlikeAppend
alike_append n fields head keeps xs ys us vs apart one two = record {
  first = each-append (IsOfHead fields head) xs us one.first two.first;
  second = each-append (IsOfHead fields head) ys vs one.second two.second;
  counts = λ c.
      ap documents_in (pick-append n c xs us) ∙ (documents_in-append (pick n c xs) (pick n c us)
      ∙ (both_eq (one.counts c) (two.counts c)
      ∙ sym (ap documents_in (pick-append n c ys vs) ∙ documents_in-append (pick n c ys) (pick n c vs))));
  gauges = λ place c at kept.
      ap (gauge_all place) (pick-append n c xs us) ∙ (gauge_all-append place (pick n c xs) (pick n c us)
      ∙ (merged_eq (two.gauges place c at kept) (one.gauges place c at kept)
      ∙ sym (ap (gauge_all place) (pick-append n c ys vs) ∙ gauge_all-append place (pick n c ys) (pick n c vs))));
  rises = λ place key start c at kept.
      rise-append n place key start c xs us
      ∙ (by_side place key start c (apart place kept key start) (one.rises place key start c at kept) (two.rises place key start c at kept)
      ∙ sym (rise-append n place key start c ys vs));
}
  where
    both_eq : {a b d e : ℕ} → a ≡ b → d ≡ e → a + d ≡ b + e
    both_eq p q = cc

    merged_eq : {a b d e : GaugeFold} → a ≡ b → d ≡ e → merge_gauges a d ≡ merge_gauges b e
    merged_eq p q = cc

    by_side : (place : ℕ) (key : List ℕ) (start : ℤ) (c : Choice) → (IsWithout n key start xs × IsWithout n key start ys) ⊎ (IsWithout n key start us × IsWithout n key start vs)
        → rise_in_order place (of_window key start (pick n c xs)) ≡ rise_in_order place (of_window key start (pick n c ys))
        → rise_in_order place (of_window key start (pick n c us)) ≡ rise_in_order place (of_window key start (pick n c vs))
        → rise_in_order place (of_window key start (pick n c xs) ++ of_window key start (pick n c us)) ≡ rise_in_order place (of_window key start (pick n c ys) ++ of_window key start (pick n c vs))
    by_side place key start c (inl without) left right =
        ap (λ zs. rise_in_order place (zs ++ of_window key start (pick n c us))) (without.0 c) ∙ (right ∙ sym (ap (λ zs. rise_in_order place (zs ++ of_window key start (pick n c vs))) (without.1 c)))
    by_side place key start c (inr without) left right =
        ap (λ zs. rise_in_order place (of_window key start (pick n c xs) ++ zs)) (without.0 c) ∙ (ap (rise_in_order place) (append-nil (of_window key start (pick n c xs)))
        ∙ (left ∙ sym (ap (λ zs. rise_in_order place (of_window key start (pick n c ys) ++ zs)) (without.1 c) ∙ ap (rise_in_order place) (append-nil (of_window key start (pick n c ys))))))

-- ---- wider buckets

-- a test of the wider bucket that a narrow one is in
abbrev inside : ℕ → Choice → Choice
inside n c = λ key start bucket. c key start (bucket_start n bucket)

by_narrow : (m n : ℕ) (c : Choice) (zs : List Sample) → 0 < m → 0 < n → n % m ≡ 0 → pick n c zs ≡ pick m (inside n c) zs
by_narrow m n c zs narrow wide multiple =
    filter-same (λ s. c s.row.key s.start (bucket_start n s.row.time)) (λ s. inside n c s.row.key s.start (bucket_start m s.row.time)) zs
    (Each-all (λ s. c s.row.key s.start (bucket_start n s.row.time) ≡ inside n c s.row.key s.start (bucket_start m s.row.time)) (λ s. ap (c s.row.key s.start) (sym (nest m n s.row.time wide narrow multiple))) zs)

pub alike_wider : AlikeWider
alike_wider m n fields head keeps xs ys narrow wide multiple alike = record {
  first = alike.first;
  second = alike.second;
  counts = λ c. ap documents_in (by_narrow m n c xs narrow wide multiple) ∙ (alike.counts (inside n c) ∙ sym (ap documents_in (by_narrow m n c ys narrow wide multiple)));
  gauges = λ place c at kept. ap (gauge_all place) (by_narrow m n c xs narrow wide multiple) ∙ (alike.gauges place (inside n c) at kept ∙ sym (ap (gauge_all place) (by_narrow m n c ys narrow wide multiple)));
  rises = λ place key start c at kept.
      ap (λ zs. rise_in_order place (of_window key start zs)) (by_narrow m n c xs narrow wide multiple)
      ∙ (alike.rises place key start (inside n c) at kept ∙ sym (ap (λ zs. rise_in_order place (of_window key start zs)) (by_narrow m n c ys narrow wide multiple)));
}
