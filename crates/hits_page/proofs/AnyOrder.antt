-- Rows offered in any order.
use Rattle.std.specs.Prelude.{◌≡◌, suc, List, [], ◌∷◌, ◌++◌, length, map, take, drop}
use Rattle.std.specs.Ordering.{int_cmp, ordering_then}
use Rattle.std.specs.declared.cmp.Ordering.{Ordering}
use Rattle.std.specs.declared.cmp.Ordering.TheVariants.{Less, Equal, Greater}
use Rattle.std.proofs.Common.{refl, ap, ◌∙◌, sym, subst}
use Rattle.std.proofs.lemmas.Cmp.{int_ranked}
use Rattle.row_cells.specs.Each.{Each}
use Rattle.row_cells.specs.EachLaws.{Each-weaker}
use Rattle.row_cells.specs.Order.{row_cmp}
use Rattle.row_cells.specs.OrderLaws.{tied_rows}
use Rattle.hits_page.specs.Hits.{hit_cmp, sort_cmp}
use Rattle.hits_page.specs.OrderOfOffers.{AllApart, AreApart, PagesInAnyOrder, Rearranged}
use Rattle.hits_page.specs.PageLaws.{hit_total}
use Rattle.row_cells.specs.Sorted.{put, sorted}
use Rattle.row_cells.specs.SortedLaws.{Told, sorted_front}
use Rattle.hits_page.specs.declared.hits.Hit.{Hit}
use Rattle.hits_page.specs.declared.sort_keys.SortKey.{SortKey}
use Rattle.hits_page.proofs.Cutting.{page_eq}

-- ---- rows apart are told apart

first_tied : (a b : Ordering) → ordering_then a b ≡ Equal → a ≡ Equal
first_tied Less b is = is
first_tied Equal b is = refl
first_tied Greater b is = is

second_tied : (a b : Ordering) → ordering_then a b ≡ Equal → b ≡ Equal
second_tied Less b is = cc
second_tied Equal b is = is
second_tied Greater b is = cc

told : (keys : List SortKey) (a b : Hit) → AreApart a b → Told (hit_cmp keys) (hit_total keys) a b
told keys a b apart tied =
    let values = sort_cmp keys a.picked.sort b.picked.sort in
    let rows = row_cmp a.picked.row b.picked.row in
    let starts = int_cmp b.start a.start in
    let rest = second_tied values (ordering_then rows starts) tied in
    let same = tied_rows a.picked.row b.picked.row (first_tied rows starts rest) in
    apart same.0 same.1 (sym (int_ranked b.start a.start Equal (sym (second_tied rows starts rest))))

apart_turned : (a b : Hit) → AreApart a b → AreApart b a
apart_turned a b apart = λ key time start. apart (sym key) (sym time) (sym start)

-- ---- what holds of each element holds of each in another order

each_front : {A : Type 0} (P : A → Type 0) (xs ys : List A) → Each P (xs ++ ys) → Each P xs
each_front P [] ys each = tt
each_front P (x ∷ xs) ys each = (each.0, each_front P xs ys each.1)

each_among : {A : Type 0} (P : A → Type 0) (x : A) (before after : List A) → P x → Each P (before ++ after) → Each P (before ++ x ∷ after)
each_among P x [] after here each = (here, each)
each_among P x (y ∷ before) after here each = (each.0, each_among P x before after here each.1)

each_rearranged : {A : Type 0} (P : A → Type 0) (xs ys : List A) → Rearranged xs ys → Each P xs → Each P ys
each_rearranged P [] ys same each = subst (Each P) (sym same) tt
each_rearranged P (x ∷ xs) ys same each =
    subst (Each P) (sym same.1.1.0) (each_among P x same.0 same.1.0 each.0 (each_rearranged P xs (same.0 ++ same.1.0) same.1.1.1 each.1))

length_among : {A : Type 0} (x : A) (before after : List A) → length (before ++ x ∷ after) ≡ suc (length (before ++ after))
length_among x [] after = refl
length_among x (y ∷ before) after = ap suc (length_among x before after)

length_same : {A : Type 0} (xs ys : List A) → Rearranged xs ys → length xs ≡ length ys
length_same [] ys same = ap length (sym same)
length_same (x ∷ xs) ys same =
    ap suc (length_same xs (same.0 ++ same.1.0) same.1.1.1) ∙ (sym (length_among x same.0 same.1.0) ∙ ap length (sym same.1.1.0))

sorted_same : (keys : List SortKey) (xs ys : List Hit) → AllApart xs → Rearranged xs ys → sorted (hit_cmp keys) xs ≡ sorted (hit_cmp keys) ys
sorted_same keys [] ys apart same = ap (sorted (hit_cmp keys)) (sym same)
sorted_same keys (x ∷ xs) ys apart same =
    let before = same.0 in
    let after = same.1.0 in
    let others : Each (AreApart x) (before ++ after) = each_rearranged (AreApart x) xs (before ++ after) same.1.1.1 apart.0 in
    let front : Each (λ y. Told (hit_cmp keys) (hit_total keys) y x) before =
    Each-weaker (AreApart x) (λ y. Told (hit_cmp keys) (hit_total keys) y x) (λ y is. told keys y x (apart_turned x y is)) before (each_front (AreApart x) before after others) in
    ap (put (hit_cmp keys) x) (sorted_same keys xs (before ++ after) apart.1 same.1.1.1)
    ∙ (sym (sorted_front (hit_cmp keys) (hit_total keys) x before after front) ∙ ap (sorted (hit_cmp keys)) (sym same.1.1.0))

pub one_page : PagesInAnyOrder
one_page keys from size xs ys apart same =
    page_eq (length_same xs ys same) (ap (λ hits. map (λ h. h.picked) (take size (drop from hits))) (sorted_same keys xs ys apart same))
