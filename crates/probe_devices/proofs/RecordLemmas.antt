-- The record that was written is there.
use Rattle.std.proofs.Common.{◌≡◌, ◌∙◌, ℕ, cond, List, [], ◌∷◌, Option, None, Some, refl, ap, sym, subst, codes}
use Rattle.std.specs.Prelude.{IsSomeAnd}
use Rattle.std.specs.declared.cmp.Ordering.{Ordering}
use Rattle.std.specs.declared.cmp.Ordering.TheVariants.{Less, Equal, Greater}
use Rattle.std.specs.Ordering.{nat_cmp, is_eq, match_ordering}
use Rattle.std.specs.Cmp.Lexicographic.{slice_cmp}
use Rattle.std.specs.Option.{option_map}
use Rattle.std.specs.BTreeMap.{insert_entry}
use Rattle.edge_face.specs.Table.{Table, bytes_at, changed_by}
use Rattle.edge_face.specs.declared.keeper.Change.TheVariants.{Put}
use Rattle.tsds_cli.specs.Examples.{HasRecord}
use Rattle.tsds_cli.specs.Play.{IsToldAs}

abbrev key : List ℕ
key = codes "last"

there : (bytes : List ℕ) (table : Table) → bytes_at key (insert_entry (slice_cmp nat_cmp) table key bytes) ≡ Some bytes
there bytes [] = refl
there bytes (e ∷ es) = by (slice_cmp nat_cmp key e.0) refl (there bytes es)
  where
    by : (r : Ordering) → slice_cmp nat_cmp key e.0 ≡ r → bytes_at key (insert_entry (slice_cmp nat_cmp) es key bytes) ≡ Some bytes
        → bytes_at key (match_ordering r ((key, bytes) ∷ e ∷ es) ((e.0, bytes) ∷ es) (e ∷ insert_entry (slice_cmp nat_cmp) es key bytes)) ≡ Some bytes
    by Less is later = refl
    by Equal is later = ap (λ r. cond (is_eq r) (Some bytes) (bytes_at key es)) is
    by Greater is later = ap (λ r. cond (is_eq r) (Some e.1) (bytes_at key (insert_entry (slice_cmp nat_cmp) es key bytes))) is ∙ later

pub told_record : (bytes : List ℕ) (before now : Option Table) → now ≡ option_map (λ told. changed_by told (Put key bytes ∷ [])) before → IsToldAs before now (HasRecord bytes)
told_record bytes None now is = is
told_record bytes (Some table) now is = subst (λ t. IsSomeAnd t (HasRecord bytes)) (sym is) (there bytes table)
