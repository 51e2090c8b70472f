-- In which order rows are offered.
use Rattle.std.specs.Prelude.{◌≡◌, ℕ, List, [], ◌∷◌, ◌++◌}
use Rattle.row_cells.specs.Each.{Each}
use Rattle.hits_page.specs.Pages.{page_of}
use Rattle.hits_page.specs.declared.hits.Hit.{Hit}
use Rattle.hits_page.specs.declared.sort_keys.SortKey.{SortKey}

-- the elements of one list are those of another, in some order
abbrev pub Rearranged : {A : Type 0} → List A → List A → Type 0
Rearranged [] ys = ys ≡ []
Rearranged {A = A} (x ∷ xs) ys = (before : List A) × ((after : List A) × ((ys ≡ before ++ x ∷ after) × Rearranged xs (before ++ after)))

-- two rows that aren't of one series, time and window
abbrev pub AreApart : Hit → Hit → Type 0
AreApart a b = a.picked.row.key ≡ b.picked.row.key → a.picked.row.time ≡ b.picked.row.time → a.start ≡ b.start → ⊥

abbrev pub AllApart : List Hit → Type 0
AllApart [] = Unit {0}
AllApart (x ∷ xs) = Each (AreApart x) xs × AllApart xs

-- however rows are offered, there is one page
abbrev pub PagesInAnyOrder : Type 0
PagesInAnyOrder = (keys : List SortKey) (from size : ℕ) (xs ys : List Hit) → AllApart xs → Rearranged xs ys → page_of keys from size xs ≡ page_of keys from size ys
