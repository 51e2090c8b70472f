-- A walk over fields and members together.
use Rattle.std.proofs.Common.{◌≡◌, ◌+◌, ◌<◌, ◌≤◌, inl, inr, ℕ, ℤ, List, [], ◌∷◌, ◌++◌, drop, get_or, length, Option, Some, None, refl, sym, ap, ap₂, ◌∙◌, subst, append_assoc, append-nil, String}
use Rattle.std.specs.Borrow.{Bor}
use Rattle.std.specs.declared.alloc.Global.{Global}
use Rattle.std.proofs.lemmas.List.{drop_all}
use Rattle.row_cells.specs.Fitting.{IsValueOf}
use Rattle.row_cells.specs.declared.scalars.Scalar.{Scalar}
use Rattle.row_cells.specs.declared.schemas.Field.{Field}
use Rattle.row_cells.specs.declared.rows.Cell.{Cell}
use Rattle.row_cells.specs.declared.rows.Cell.TheVariants.{Absent}
use Rattle.serde_json.specs.Data.{Data, Members, no_members, member}
use Rattle.serde_json.specs.View.{view, members_view}
use Rattle.serde_json.specs.declared.value.Value.{Value}
use Rattle.ts_mapping.specs.Readings.{reading_of}
use Rattle.synthetic_source.specs.Flat.{AreFlat, IsAhead, members_ahead, time_after, value_cell}
use Rattle.synthetic_source.proofs.OneWalk.{drop_here}

-- what the fields and members that are left are, in front of which the others stand
abbrev pub FlatOn : List Field → Members → Option ℤ → List Cell → List Field → Members → Type 0
FlatOn fs ms now done all_fs all_ms = (after : Option ℤ) (rest : List Cell) → AreFlat fs ms now after rest → AreFlat all_fs all_ms None after (done ++ rest)

pub all_ahead : (fs : List Field) (ms : Members) → FlatOn fs ms None [] fs ms
all_ahead fs ms after rest are = are

without_leaf : (f : Field) (fs : List Field) (ms : Members) (now after : Option ℤ) (rest : List Cell) → AreFlat fs ms now after rest → AreFlat (f ∷ fs) ms now after (Absent ∷ rest)
without_leaf f fs no_members now after rest are = (refl, are)
without_leaf f fs (member k d ms) now after rest are = inl (refl, are)

ahead_opens : (p : List ℕ) (d : Data) (next : Option (Bor (String Global) × Bor Value)) (behind : List (String Global × Value)) → IsAhead p d next → members_ahead next behind ≡ member p d (members_view behind)
ahead_opens p d None behind is = absurd is
ahead_opens p d (Some m) behind is = ap (λ q. member q (view m.1.now) (members_view behind)) is.0 ∙ ap (λ e. member p e (members_view behind)) is.1

module _ (fs : List Field) (i : ℕ) (f : Field) (below : i < length fs) (is_f : f ≡ get_or fs i f) (now : Option ℤ) (done : List Cell) (all_ms : Members) where
  -- the field has no leaf
  pub pass_step : (next then_next : Option (Bor (String Global) × Bor Value)) (behind rest_behind : List (String Global × Value)) (later : Option ℤ) (cs : List Cell)
      → then_next ≡ next → rest_behind ≡ behind → later ≡ now → cs ≡ done ++ Absent ∷ []
      → FlatOn (drop i fs) (members_ahead next behind) now done fs all_ms → FlatOn (drop (i + 1) fs) (members_ahead then_next rest_behind) later cs fs all_ms
  pass_step next then_next behind rest_behind later cs same_next same_behind same_time pushed on after rest are =
      let ms = members_ahead next behind in
      let tail : AreFlat (drop (i + 1) fs) ms now after rest =
      subst (λ xs. AreFlat (drop (i + 1) fs) xs now after rest) (ap₂ members_ahead same_next same_behind) (subst (λ o. AreFlat (drop (i + 1) fs) (members_ahead then_next rest_behind) o after rest) same_time are) in
      let whole = on after (Absent ∷ rest) (subst (λ xs. AreFlat xs ms now after (Absent ∷ rest)) (sym (drop_here fs i f below is_f)) (without_leaf f (drop (i + 1) fs) ms now after rest tail)) in
      subst (AreFlat fs all_ms None after) (sym (append_assoc done (Absent ∷ []) rest) ∙ ap (λ xs. xs ++ rest) (sym pushed)) whole

  -- the next member is its leaf
  pub take_step : (d : Data) (v : Scalar) (next then_next : Option (Bor (String Global) × Bor Value)) (behind rest_behind : List (String Global × Value)) (later : Option ℤ) (cs : List Cell)
      → IsAhead f.path d next → reading_of f.kind d ≡ Some v → IsValueOf f.kind v → later ≡ time_after f.role v now → cs ≡ done ++ value_cell f.role v ∷ [] → members_ahead then_next rest_behind ≡ members_view behind
      → FlatOn (drop i fs) (members_ahead next behind) now done fs all_ms → FlatOn (drop (i + 1) fs) (members_ahead then_next rest_behind) later cs fs all_ms
  take_step d v next then_next behind rest_behind later cs ahead some is is_later pushed goes on after rest are =
      let tail : AreFlat (drop (i + 1) fs) (members_view behind) (time_after f.role v now) after rest =
      subst (λ ms. AreFlat (drop (i + 1) fs) ms (time_after f.role v now) after rest) goes (subst (λ o. AreFlat (drop (i + 1) fs) (members_ahead then_next rest_behind) o after rest) is_later are) in
      let here : AreFlat (f ∷ drop (i + 1) fs) (member f.path d (members_view behind)) now after (value_cell f.role v ∷ rest) = inr (v, refl, some, is, refl, tail) in
      let there = subst (λ xs. AreFlat xs (members_ahead next behind) now after (value_cell f.role v ∷ rest)) (sym (drop_here fs i f below is_f))
      (subst (λ ms. AreFlat (f ∷ drop (i + 1) fs) ms now after (value_cell f.role v ∷ rest)) (sym (ahead_opens f.path d next behind ahead)) here) in
      subst (AreFlat fs all_ms None after) (sym (append_assoc done (value_cell f.role v ∷ []) rest) ∙ ap (λ xs. xs ++ rest) (sym pushed)) (on after (value_cell f.role v ∷ rest) there)

-- no field and no member is left
pub flat_end : (fs : List Field) (i : ℕ) (ms all_ms : Members) (now : Option ℤ) (done : List Cell) → length fs ≤ i → ms ≡ no_members → FlatOn (drop i fs) ms now done fs all_ms → AreFlat fs all_ms None now done
flat_end fs i ms all_ms now done past none on =
    subst (AreFlat fs all_ms None now) (append-nil done) (on now [] (subst (λ xs. AreFlat xs ms now now []) (sym (drop_all i fs past)) (subst (λ xs. AreFlat [] xs now now []) (sym none) refl)))
