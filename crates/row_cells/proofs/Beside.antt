-- Walks over fields and the cells beside them.
use Rattle.std.proofs.Common.{◌≡◌, ℕ, suc, ◌+◌, ◌<◌, List, [], ◌∷◌, ◌++◌, length, get_or, drop, refl, sym, ap, ◌∙◌, arith, Bool, append_assoc, drop-cons, add-one}
use Rattle.row_cells.specs.declared.schemas.Field.{Field}
use Rattle.row_cells.specs.declared.rows.Cell.{Cell}
use Rattle.row_cells.specs.Merging.{HaveRoom, AllHaveRoom, merge_cell, merge_cells, fold_cell, fold_cells}

-- the rest of a list from a place on begins with what is read there
pub drop_read : {X : Type 0} (xs : List X) (i : ℕ) (x : X) → i < length xs → x ≡ get_or xs i x → drop i xs ≡ x ∷ drop (i + 1) xs
drop_read xs i x within read = drop-cons xs i x within ∙ (ap (λ y. y ∷ drop (suc i) xs) (sym read) ∙ ap (λ k. x ∷ drop k xs) (sym (add-one i)))

pub AllHaveRoom-length : (fs : List Field) (xs ys : List Cell) → AllHaveRoom fs xs ys → (length xs ≡ length fs) × (length ys ≡ length fs)
AllHaveRoom-length [] [] [] room = (refl, refl)
AllHaveRoom-length [] [] (y ∷ ys) room = absurd room
AllHaveRoom-length [] (x ∷ xs) ys room = absurd room
AllHaveRoom-length (f ∷ fs) [] ys room = absurd room
AllHaveRoom-length (f ∷ fs) (x ∷ xs) [] room = absurd room
AllHaveRoom-length (f ∷ fs) (x ∷ xs) (y ∷ ys) room = let rest = AllHaveRoom-length fs xs ys room.1 in (ap suc rest.0, ap suc rest.1)

module _ (fs : List Field) (xs ys : List Cell) (i : ℕ) (f : Field) (x y : Cell) (in_fs : i < length fs) (f_is : f ≡ get_or fs i f) (x_is : x ≡ get_or xs i x) (y_is : y ≡ get_or ys i y) where
  pub room_here : AllHaveRoom fs xs ys → AllHaveRoom (drop i fs) (drop i xs) (drop i ys) → HaveRoom f.role x y × AllHaveRoom (drop (i + 1) fs) (drop (i + 1) xs) (drop (i + 1) ys)
  room_here whole room =
      let same = AllHaveRoom-length fs xs ys whole in
      rw (drop_read fs i f in_fs f_is, drop_read xs i x (omega (arith, same.0)) x_is, drop_read ys i y (omega (arith, same.1)) y_is) at room

  pub merged_here : (rises : Bool) (done : List Cell) → AllHaveRoom fs xs ys → done ++ merge_cells rises (drop i fs) (drop i xs) (drop i ys) ≡ merge_cells rises fs xs ys → (done ++ merge_cell rises f.role x y ∷ []) ++ merge_cells rises (drop (i + 1) fs) (drop (i + 1) xs) (drop (i + 1) ys) ≡ merge_cells rises fs xs ys
  merged_here rises done whole so_far =
      let same = AllHaveRoom-length fs xs ys whole in
      let at_head = rw (drop_read fs i f in_fs f_is, drop_read xs i x (omega (arith, same.0)) x_is, drop_read ys i y (omega (arith, same.1)) y_is) at so_far in
      rw append_assoc at_head

module _ (fs : List Field) (xs : List Cell) (i : ℕ) (f : Field) (x : Cell) (in_fs : i < length fs) (f_is : f ≡ get_or fs i f) (x_is : x ≡ get_or xs i x) where
  pub folded_here : (rises : Bool) (done : List Cell) → length xs ≡ length fs → done ++ fold_cells rises (drop i fs) (drop i xs) ≡ fold_cells rises fs xs → (done ++ fold_cell rises f.role x ∷ []) ++ fold_cells rises (drop (i + 1) fs) (drop (i + 1) xs) ≡ fold_cells rises fs xs
  folded_here rises done same so_far =
      let at_head = rw (drop_read fs i f in_fs f_is, drop_read xs i x (omega (arith, same)) x_is) at so_far in
      rw append_assoc at_head
