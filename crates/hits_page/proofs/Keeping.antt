-- The hits that a pager holds, with one more.
use Rattle.std.specs.Prelude.{◌≡◌, ℕ, zero, suc, ◌-◌, ◌≤◌, ◌&&◌, ◌||◌, nat_eq, not, Bool, true, false, List, [], ◌∷◌, ◌++◌, length, take, Option, Some, None}
use Rattle.std.specs.List.{slice_get}
use Rattle.std.specs.Ordering.{is_le, is_lt, ordering_reverse}
use Rattle.std.specs.declared.cmp.Ordering.{Ordering}
use Rattle.std.specs.declared.cmp.Ordering.TheVariants.{Less, Equal, Greater}
use Rattle.std.proofs.Common.{refl, ap, ◌∙◌, sym, subst, arith}
use Rattle.std.proofs.lemmas.Bool.{eqb-true}
use Rattle.std.proofs.lemmas.List.{length-take}
use Rattle.row_cells.specs.Each.{Each}
use Rattle.row_cells.specs.Sorted.{sorted}
use Rattle.row_cells.specs.SortedLaws.{UpTo, sorted_ascends, take_ascends}
use Rattle.hits_page.specs.Hits.{hit_cmp, is_past, is_past_hit, place_of}
use Rattle.hits_page.specs.PageLaws.{hit_total}
use Rattle.hits_page.specs.Pages.{HasMark, Holds}
use Rattle.hits_page.specs.declared.hits.Hit.{Hit}
use Rattle.hits_page.specs.declared.sort_keys.SortKey.{SortKey}
use Rattle.hits_page.proofs.Behind.{first_of_first, get_front, last_marks, length_take, same_past, same_with, sorted_length, take_front}

pub one_longer : (x : Hit) (hits : List Hit) → length (hits ++ x ∷ []) ≡ suc (length hits)
one_longer x [] = refl
one_longer x (h ∷ hs) = ap suc (one_longer x hs)

-- the first ones in order are no more than the limit
pub within_limit : (keys : List SortKey) (limit : ℕ) (held new : List Hit) → new ≡ take limit (sorted (hit_cmp keys) held) → length new ≤ limit
within_limit keys limit held new is = omega (arith, ap length is, length-take limit (sorted (hit_cmp keys) held))

module _ (keys : List SortKey) (limit : ℕ) where
  -- a hit that isn't before another one
  not_before : (x y : Hit) → not (is_lt (hit_cmp keys x y)) ≡ true → UpTo (hit_cmp keys) (hit_total keys) y x
  not_before x y is = by_order (hit_cmp keys x y) refl is
    where
      turned : (o : Ordering) → hit_cmp keys x y ≡ o → hit_cmp keys y x ≡ ordering_reverse o
      turned o o_is = (hit_total keys).antisymm y x ∙ ap ordering_reverse o_is

      by_order : (o : Ordering) → hit_cmp keys x y ≡ o → not (is_lt o) ≡ true → UpTo (hit_cmp keys) (hit_total keys) y x
      by_order Less o_is test = cc
      by_order Equal o_is test = ap is_le (turned Equal o_is)
      by_order Greater o_is test = ap is_le (turned Greater o_is)

  -- one that is past the mark
  pub passed : (has_mark : Bool) (x : Hit) (held offered : List Hit) → is_past keys (place_of x) limit has_mark held ≡ true →
      Holds keys limit has_mark held offered → Holds keys limit has_mark held (offered ++ x ∷ [])
  passed has_mark x held offered past holds = record { first = first; mark = holds.mark }
    where
      by_mark : (o : Option Hit) (m : Bool) → slice_get held (limit - 1) ≡ o → has_mark ≡ m → (m && is_past_hit keys (place_of x) o) ≡ true →
          take limit (sorted (hit_cmp keys) (held ++ x ∷ [])) ≡ take limit (sorted (hit_cmp keys) held)
      by_mark o false is m_is test = cc
      by_mark None true is m_is test = cc
      by_mark (Some mark) true is m_is test =
          let has = holds.mark m_is in
          same_past (hit_cmp keys) (hit_total keys) limit x mark held has.0 (has.1 mark is) (not_before x mark test)

      by_limit : (b : Bool) → nat_eq limit 0 ≡ b → (b || (has_mark && is_past_hit keys (place_of x) (slice_get held (limit - 1)))) ≡ true →
          take limit (sorted (hit_cmp keys) (held ++ x ∷ [])) ≡ take limit (sorted (hit_cmp keys) held)
      by_limit true is test =
          let none : limit ≡ 0 = eqb-true limit 0 is in
          ap (λ n. take n (sorted (hit_cmp keys) (held ++ x ∷ []))) none ∙ sym (ap (λ n. take n (sorted (hit_cmp keys) held)) none)
      by_limit false is test = by_mark (slice_get held (limit - 1)) has_mark refl refl test

      first : take limit (sorted (hit_cmp keys) held) ≡ take limit (sorted (hit_cmp keys) (offered ++ x ∷ []))
      first = sym (by_limit (nat_eq limit 0) refl past) ∙ same_with (hit_cmp keys) (hit_total keys) limit x held offered holds.first

  mark_stays : (n : ℕ) (x : Hit) (held : List Hit) → HasMark keys n held → HasMark keys n (held ++ x ∷ [])
  mark_stays zero x held has = (omega arith, λ mark is. tt)
  mark_stays (suc n) x held has = (
    subst (λ k. suc n ≤ k) (sym (one_longer x held)) (omega (arith, has.0)),
    λ mark is.
        subst (Each (λ h. is_le (hit_cmp keys h mark) ≡ true)) (sym (take_front (suc n) held (x ∷ []) has.0)) (has.1 mark (sym (get_front held (x ∷ []) (suc n - 1) (omega (arith, has.0))) ∙ is)),
  )

  -- one that is put behind the others
  pub pushed : (has_mark : Bool) (x : Hit) (held new offered : List Hit) → new ≡ held ++ x ∷ [] → Holds keys limit has_mark held offered → Holds keys limit has_mark new (offered ++ x ∷ [])
  pushed has_mark x held new offered is holds = record {
    first = ap (λ hits. take limit (sorted (hit_cmp keys) hits)) is ∙ same_with (hit_cmp keys) (hit_total keys) limit x held offered holds.first;
    mark = λ has. subst (HasMark keys limit) (sym is) (mark_stays limit x held (holds.mark has));
  }

  mark_of : (n : ℕ) (xs : List Hit) → n ≤ length xs → HasMark keys n (take n (sorted (hit_cmp keys) xs))
  mark_of zero xs le = (omega arith, λ mark is. tt)
  mark_of (suc n) xs le =
      let all = sorted (hit_cmp keys) xs in
      let less : suc n - 1 ≡ n = omega arith in (
        length_take (suc n) all (subst (λ k. suc n ≤ k) (sym (sorted_length (hit_cmp keys) (hit_total keys) xs)) le),
        λ mark is.
            last_marks (hit_cmp keys) (hit_total keys) n mark (take (suc n) all)
            (take_ascends (hit_cmp keys) (hit_total keys) (suc n) all (sorted_ascends (hit_cmp keys) (hit_total keys) xs)) (ap (slice_get (take (suc n) all)) (sym less) ∙ is),
      )

  -- the first ones alone, in order
  pub settled : (has_mark : Bool) (held new offered : List Hit) → new ≡ take limit (sorted (hit_cmp keys) held) → limit ≤ length held →
      Holds keys limit has_mark held offered → Holds keys limit true new offered
  settled has_mark held new offered is le holds = record {
    first = ap (λ hits. take limit (sorted (hit_cmp keys) hits)) is ∙ (first_of_first (hit_cmp keys) (hit_total keys) limit held ∙ holds.first);
    mark = λ has. subst (HasMark keys limit) (sym is) (mark_of limit held le);
  }

  -- the same ones in some order that nothing is known of
  pub unsettled : (has_mark : Bool) (held new offered : List Hit) → sorted (hit_cmp keys) new ≡ sorted (hit_cmp keys) held →
      Holds keys limit has_mark held offered → Holds keys limit false new offered
  unsettled has_mark held new offered same holds = record { first = ap (take limit) same ∙ holds.first; mark = λ has. absurd (apart has) }
    where
      apart : false ≡ true → ⊥
      apart e = cc
