-- Pages of rows.
use Rattle.std.specs.Prelude.{◌≡◌, ℕ, ◌+◌, ◌-◌, ◌*◌, ◌^◌, ◌<◌, ◌≤◌, nat_lt, min, Bool, true, List, length, map, take, drop, Some}
use Rattle.std.specs.List.{slice_get}
use Rattle.std.specs.Ordering.{is_le}
use Rattle.row_cells.specs.Each.{Each}
use Rattle.hits_page.specs.Hits.{hit_cmp, hit_of}
use Rattle.hits_page.specs.Limits.{deepest}
use Rattle.row_cells.specs.Sorted.{sorted}
use Rattle.hits_page.specs.declared.hits.Hit.{Hit}
use Rattle.hits_page.specs.declared.hits.Page.{Page}
use Rattle.hits_page.specs.declared.hits.Offer.{Offer}
use Rattle.hits_page.specs.declared.pager.PageError.{PageError}
use Rattle.hits_page.specs.declared.pager.PageError.TheVariants.{WindowTooLarge, BadSort, Shape, NoMemory}
use Rattle.hits_page.specs.declared.pager.Pager.{Pager}
use Rattle.hits_page.specs.declared.sort_keys.SortKey.{SortKey}

-- how many rows were offered, and so many of them in order from one on
abbrev pub page_of : List SortKey → ℕ → ℕ → List Hit → Page
page_of keys from size offered =
    record { total = length offered; rows = map (λ h. h.picked) (take size (drop from (sorted (hit_cmp keys) offered))) }

-- so many hits stand in front, none behind the last of these
abbrev pub HasMark : List SortKey → ℕ → List Hit → Type 0
HasMark keys limit held =
    (limit ≤ length held) × ((mark : Hit) → slice_get held (limit - 1) ≡ Some mark → Each (λ h. is_le (hit_cmp keys h mark) ≡ true) (take limit held))

-- hits that are held have the first ones of those that were offered, and where they have a mark, it tells of the first ones
pub record Holds (keys : List SortKey) (limit : ℕ) (has_mark : Bool) (held offered : List Hit) : Type 0 where
  pub first : take limit (sorted (hit_cmp keys) held) ≡ take limit (sorted (hit_cmp keys) offered)
  pub mark : has_mark ≡ true → HasMark keys limit held

-- a pager stands for the rows that were offered to it, in their order: it has their number and the first of them, and holds at most
-- twice as many as the page ends behind
pub record Stands (p : Pager) (offered : List Hit) : Type 0 where
  pub total : p.total ≡ length offered
  pub limit : p.limit ≡ p.from + p.size
  pub few : length p.held.items ≤ 2 * p.limit
  pub holds : Holds p.keys p.limit p.has_mark p.held.items offered

-- a page of so many hits from one on ends behind the deepest one
abbrev pub is_too_deep : ℕ → ℕ → Bool
is_too_deep from size = nat_lt deepest (from + size)

-- why a pager isn't made: a page that ends too deep, told by its last hit as far as one is counted, or want of memory, which is free
abbrev pub IsPageCause : ℕ → PageError → Type 0
IsPageCause asked (WindowTooLarge n) = (n ≡ min asked (2 ^ 64 - 1)) × (deepest < asked)
IsPageCause asked (BadSort path) = ⊥
IsPageCause asked Shape = ⊥
IsPageCause asked NoMemory = Unit {0}

-- ---- for private clauses

-- a row as it is offered, with its values
abbrev pub hit_offered : List SortKey → Offer → Hit
hit_offered keys o = hit_of keys o.schema.now.fields o.index o.start o.row.now
