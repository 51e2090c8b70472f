-- The least path of several that has a fault.
use Rattle.std.proofs.Common.{◌≡◌, ℕ, List, [], ◌∷◌, ◌++◌, Bool, true, false, cond, Option, Some, None, refl, sym, subst, inl, inr, append_assoc, append-nil}
use Rattle.std.specs.Cmp.Lexicographic.{slice_cmp}
use Rattle.std.specs.Ordering.{nat_cmp, is_lt}
use Rattle.std.specs.declared.cmp.Ordering.{Ordering}
use Rattle.std.specs.declared.cmp.Ordering.TheVariants.{Less, Equal, Greater}
use Rattle.row_cells.specs.Dimensions.{IsBefore}
use Rattle.row_cells.specs.JoinLaws.{before_chain, not_before_itself}
use Rattle.row_cells.specs.declared.schemas.Field.{Field}
use Rattle.serde_json.specs.Data.{Data}
use Rattle.synthetic_source.specs.Faults.{stray_fault}
use Rattle.synthetic_source.specs.Gathered.{AllSound, IsAmong, IsLeastStray, NoneBefore, place_of, strays_of, with_stray}
use Rattle.synthetic_source.specs.Strays.{seen_stray}
use Rattle.synthetic_source.specs.Walked.{Held, after, at_place, least_step, or_held}
use Rattle.synthetic_source.specs.declared.errors.DocKind.{DocKind}
use Rattle.synthetic_source.specs.declared.typing.Stray.{Stray}

-- the least of the paths that have a fault
abbrev pub IsLeast : Bool → List Field → List (List ℕ) → Option (DocKind × List ℕ) → Type 0
IsLeast strict fields paths None = AllSound strict fields paths
IsLeast strict fields paths (Some f) = (stray_fault strict fields f.1 ≡ Some f.0) × IsAmong f.1 paths × NoneBefore strict fields f.1 paths

sound_push : (strict : Bool) (fields : List Field) (ps : List (List ℕ)) (q : List ℕ) → AllSound strict fields ps → stray_fault strict fields q ≡ None → AllSound strict fields (ps ++ q ∷ [])
sound_push strict fields [] q all none = (none, tt)
sound_push strict fields (p ∷ ps) q all none = (all.0, sound_push strict fields ps q all.1 none)

among_push : (s : List ℕ) (ps : List (List ℕ)) (q : List ℕ) → IsAmong s ps → IsAmong s (ps ++ q ∷ [])
among_push s [] q is = absurd is
among_push s (p ∷ ps) q is = elim is [ inl here ↦ inl here | inr there ↦ inr (among_push s ps q there) ]

among_last : (q : List ℕ) (ps : List (List ℕ)) → IsAmong q (ps ++ q ∷ [])
among_last q [] = inl refl
among_last q (p ∷ ps) = inr (among_last q ps)

before_push : (strict : Bool) (fields : List Field) (s : List ℕ) (ps : List (List ℕ)) (q : List ℕ) → NoneBefore strict fields s ps → (IsBefore q s → stray_fault strict fields q ≡ None) → NoneBefore strict fields s (ps ++ q ∷ [])
before_push strict fields s [] q none last = (last, tt)
before_push strict fields s (p ∷ ps) q none last = (none.0, before_push strict fields s ps q none.1 last)

sound_before : (strict : Bool) (fields : List Field) (s : List ℕ) (ps : List (List ℕ)) → AllSound strict fields ps → NoneBefore strict fields s ps
sound_before strict fields s [] all = tt
sound_before strict fields s (p ∷ ps) all = ((λ before. all.0), sound_before strict fields s ps all.1)

lower_before : (strict : Bool) (fields : List Field) (q s : List ℕ) (ps : List (List ℕ)) → IsBefore q s → NoneBefore strict fields s ps → NoneBefore strict fields q ps
lower_before strict fields q s [] less none = tt
lower_before strict fields q s (p ∷ ps) less none = ((λ before. none.0 (before_chain p q s before less)), lower_before strict fields q s ps less none.1)

pub is_less : (o : Ordering) → is_lt o ≡ true → o ≡ Less
is_less Less is = refl
is_less Equal is = cc
is_less Greater is = cc

pub not_less : (o : Ordering) → is_lt o ≡ false → o ≡ Less → ⊥
not_less Less is less = cc
not_less Equal is less = cc
not_less Greater is less = cc

module _ (strict : Bool) (fields : List Field) where
  -- one path more
  least_push : (ps : List (List ℕ)) (q : List ℕ) (held : Option (DocKind × List ℕ)) → IsLeast strict fields ps held → IsLeast strict fields (ps ++ q ∷ []) (least_step strict fields q held)
  least_push ps q None all = go (stray_fault strict fields q) refl
    where
      go : (o : Option DocKind) → stray_fault strict fields q ≡ o → IsLeast strict fields (ps ++ q ∷ []) (or_held o q None)
      go None none = sound_push strict fields ps q all none
      go (Some k) some = (some, among_last q ps, before_push strict fields q ps q (sound_before strict fields q ps all) (λ before. absurd (not_before_itself q before)))
  least_push ps q (Some f) is = by (is_lt (slice_cmp nat_cmp q f.1)) refl
    where
      go : IsBefore q f.1 → (o : Option DocKind) → stray_fault strict fields q ≡ o → IsLeast strict fields (ps ++ q ∷ []) (or_held o q (Some f))
      go before None none = (is.0, among_push f.1 ps q is.1, before_push strict fields f.1 ps q is.2 (λ less. none))
      go before (Some k) some = (some, among_last q ps, before_push strict fields q ps q (lower_before strict fields q f.1 ps before is.2) (λ less. absurd (not_before_itself q less)))

      by : (v : Bool) → is_lt (slice_cmp nat_cmp q f.1) ≡ v → IsLeast strict fields (ps ++ q ∷ []) (cond v (or_held (stray_fault strict fields q) q (Some f)) (Some f))
      by true less = go (is_less _ less) (stray_fault strict fields q) refl
      by false after = (is.0, among_push f.1 ps q is.1, before_push strict fields f.1 ps q is.2 (λ before. absurd (not_less _ after before)))

  -- what a walk holds is the least of the paths where no field is
  pub least_after : (es : List (List ℕ × Data)) (h : Held) (ps : List (List ℕ)) → IsLeast strict fields ps h.least → IsLeast strict fields (ps ++ strays_of fields es) (after strict fields h es).least
  least_after [] h ps is = subst (λ qs. IsLeast strict fields qs h.least) (sym (append-nil ps)) is
  least_after (e ∷ es) h ps is = go (place_of e.0 fields) (least_after es) where
    go : (o : Option ℕ) → ((h : Held) (ps : List (List ℕ)) → IsLeast strict fields ps h.least → IsLeast strict fields (ps ++ strays_of fields es) (after strict fields h es).least)
        → IsLeast strict fields (ps ++ with_stray o e.0 (strays_of fields es)) (after strict fields (at_place o strict fields h e.0 e.1) es).least
    go None later =
        subst (λ qs. IsLeast strict fields qs (after strict fields (at_place None strict fields h e.0 e.1) es).least) (append_assoc ps (e.0 ∷ []) (strays_of fields es))
        (later (at_place None strict fields h e.0 e.1) (ps ++ e.0 ∷ []) (least_push ps e.0 h.least is))
    go (Some at) later = later (at_place (Some at) strict fields h e.0 e.1) ps is

  pub lent_least : (ps : List (List ℕ)) (s : Option Stray) → IsLeast strict fields ps (seen_stray s) → IsLeastStray strict fields ps s
  lent_least ps None is = is
  lent_least ps (Some s) is = is
