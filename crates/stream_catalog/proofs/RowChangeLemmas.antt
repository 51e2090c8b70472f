-- Rows of an index that are changed in a list that stands by names.
use Rattle.std.specs.Prelude.{◌≡◌, ℕ, List, map}
use Rattle.std.proofs.Common.{refl, ap, ◌∙◌, sym, subst, get_or, set}
use Rattle.row_cells.specs.declared.rows.Row.{Row}
use Rattle.downsample_fold.specs.Laws.{KeysAscend}
use Rattle.stream_catalog.specs.declared.held_rows.HeldRows.{HeldRows}
use Rattle.stream_catalog.specs.Beside.{rows_name}
use Rattle.stream_catalog.specs.Places.{IsHereAt}
use Rattle.stream_catalog.specs.RowChanges.{AreChanged, IsChange}
use Rattle.stream_catalog.proofs.NamedLemmas.{some_is}
use Rattle.stream_catalog.proofs.PlaceLemmas.{changed_ascends}

module _ (n : List ℕ) (searched xs : List HeldRows) (at : ℕ) (same : searched ≡ xs) (h : List Row → List Row) (old new : HeldRows) (here : IsHereAt rows_name n searched at) (change : IsChange h old new)
    (there : old ≡ get_or xs at old) where
  pub changed_in_order : KeysAscend (map rows_name xs) → KeysAscend (map rows_name (set xs at new))
  changed_in_order ascend =
      let index = new.index in
      changed_ascends rows_name n searched xs at same (λ x. record x { index = index }) old new (λ x. refl) here (ap (λ m. record { name = m; index = index }) change.name) there ascend

  pub changed_there : AreChanged n h xs (set xs at new)
  changed_there =
      let at_place = subst (λ ys. IsHereAt rows_name n ys at) same here in
      record {
        rows = new;
        place = sym (at_place.changed (λ x. new) old);
        change = λ x found. subst (λ y. IsChange h y new) (there ∙ some_is (sym (at_place.found old) ∙ found)) change;
      }
