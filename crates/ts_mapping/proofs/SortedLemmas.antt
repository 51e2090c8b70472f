-- Fields that a map holds by their paths.
use Rattle.std.proofs.Common.{◌≡◌, ℕ, List, [], ◌∷◌, Ordering, Less, Equal, Greater, refl, sym, ap}
use Rattle.std.specs.BTreeMap.{insert_entry}
use Rattle.std.specs.Cmp.Lexicographic.{slice_cmp}
use Rattle.std.specs.Ordering.{nat_cmp, match_ordering}
use Rattle.std.proofs.lemmas.Map.Lookups.{exact_bytes}
use Rattle.ts_mapping.specs.declared.fields.Typed.{Typed}
use Rattle.ts_mapping.specs.Fields.{put_field}
use Rattle.ts_mapping.specs.Sorted.{field_in, fields_in}

placed : (path : List ℕ) (typed : Typed) (e : List ℕ × Typed) (es : List (List ℕ × Typed)) (o : Ordering) → slice_cmp nat_cmp path e.0 ≡ o
    → fields_in (insert_entry (slice_cmp nat_cmp) es path typed) ≡ put_field (field_in (path, typed)) (fields_in es)
    → fields_in (match_ordering o ((path, typed) ∷ e ∷ es) ((e.0, typed) ∷ es) (e ∷ insert_entry (slice_cmp nat_cmp) es path typed))
    ≡ match_ordering o (field_in (path, typed) ∷ fields_in (e ∷ es)) (field_in (path, typed) ∷ fields_in es) (field_in e ∷ put_field (field_in (path, typed)) (fields_in es))
placed path typed e es Less is later = refl
placed path typed e es Equal is later = ap (λ p. field_in (p, typed) ∷ fields_in es) (sym (exact_bytes path e.0 is))
placed path typed e es Greater is later = ap (λ fs. field_in e ∷ fs) later

-- putting an entry into the map is putting its field in its place
pub put_in : (path : List ℕ) (typed : Typed) (es : List (List ℕ × Typed)) → fields_in (insert_entry (slice_cmp nat_cmp) es path typed) ≡ put_field (field_in (path, typed)) (fields_in es)
put_in path typed [] = refl
put_in path typed (e ∷ es) = placed path typed e es _ refl (put_in path typed es)
