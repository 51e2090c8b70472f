-- The hits behind the first ones.
use Rattle.std.specs.Prelude.{◌≡◌, ℕ, zero, suc, ◌-◌, nat_eq, false, List, ◌∷◌, map, drop, take}
use Rattle.std.proofs.Common.{ap, sym, ◌∙◌, arith}
use Rattle.std.proofs.lemmas.List.{drop-take}
use Rattle.hits_page.specs.Hits.{hit_cmp}
use Rattle.hits_page.specs.Pages.{Stands, page_of}
use Rattle.row_cells.specs.Sorted.{sorted}
use Rattle.hits_page.specs.declared.hits.Hit.{Hit}
use Rattle.hits_page.specs.declared.hits.Page.{Page}
use Rattle.hits_page.specs.declared.hits.Picked.{Picked}
use Rattle.hits_page.specs.declared.pager.Pager.{Pager}

pub drop_one : {X : Type 0} (n : ℕ) (x : X) (xs : List X) → nat_eq n 0 ≡ false → drop n (x ∷ xs) ≡ drop (n - 1) xs
drop_one zero x xs some = cc
drop_one (suc n) x xs some = let less : suc n - 1 ≡ n = omega arith in ap (λ k. drop k xs) (sym less)

pub page_eq : {n m : ℕ} {xs ys : List Picked} → n ≡ m → xs ≡ ys → ◌≡◌ {A = Page} (record { total = n; rows = xs }) (record { total = m; rows = ys })
page_eq p q = cc

pub finished : (p : Pager) (held : List Hit) (rows : List Picked) (offered : List Hit) → held ≡ take p.limit (sorted (hit_cmp p.keys) p.held.items) →
    rows ≡ map (λ h. h.picked) (drop p.from held) → Stands p offered → ◌≡◌ {A = Page} (record { total = p.total; rows = rows }) (page_of p.keys p.from p.size offered)
finished p held rows offered settled cut stands =
    let all = sorted (hit_cmp p.keys) offered in
    page_eq stands.total
    (cut
    ∙ (ap (λ hs. map (λ h. h.picked) (drop p.from hs)) (settled ∙ stands.holds.first)
    ∙ (ap (λ n. map (λ h. h.picked) (drop p.from (take n all))) stands.limit
    ∙ ap (map (λ h. h.picked)) (drop-take p.from p.size all))))
