-- The time of a document, in memory; for private clauses.
use Rattle.std.specs.Prelude.{◌≡◌, ℕ, List, [], ◌∷◌, Option, Some, None, Bool, true, false}
use Rattle.std.specs.Cmp.Lexicographic.{slice_cmp}
use Rattle.std.specs.Ordering.{nat_cmp, is_lt}
use Rattle.serde_json.specs.Data.{Data, null}
use Rattle.json_walk.specs.Lent.{value_of}
use Rattle.json_walk.specs.declared.at.Leaf.{Leaf}
use Rattle.ts_mapping.specs.Paths.{timestamp}
use Rattle.synthetic_source.specs.Faults.{time_fault_in}
use Rattle.synthetic_source.specs.declared.typing.Stray.{Stray}
use Rattle.synthetic_source.specs.declared.errors.DocKind.{DocKind}
use Rattle.synthetic_source.specs.declared.errors.DocError.{DocError}
use Rattle.synthetic_source.specs.declared.errors.DocError.TheVariants.{Refused, NoMemory}

abbrev pub lent_or : Option Data → Data
lent_or None = null
lent_or (Some d) = d

abbrev pub lent_leaves : List Leaf → List Data
lent_leaves [] = []
lent_leaves (l ∷ ls) = lent_or (value_of l) ∷ lent_leaves ls

abbrev pub IsLentIf : Option Data → Type 0
IsLentIf None = ⊥
IsLentIf (Some d) = Unit {0}

abbrev pub AllLent : List Leaf → Type 0
AllLent [] = Unit {0}
AllLent (l ∷ ls) = IsLentIf (value_of l) × AllLent ls

abbrev pub IsRefusal : DocKind → List ℕ → DocError → Type 0
IsRefusal kind path (Refused k p) = (k ≡ kind) × (p ≡ path)
IsRefusal kind path NoMemory = Unit {0}

abbrev pub IsTimeFaultIn : List Data → DocError → Type 0
IsTimeFaultIn leaves (Refused kind path) = (time_fault_in leaves ≡ Some kind) × (path ≡ timestamp)
IsTimeFaultIn leaves NoMemory = Unit {0}

-- the refusal at the lesser path
abbrev pub IsRefusalBy : Bool → Stray → DocKind → List ℕ → DocError → Type 0
IsRefusalBy true s kind path e = IsRefusal s.kind s.path.now e
IsRefusalBy false s kind path e = IsRefusal kind path e

abbrev pub IsFirstOf : DocKind → List ℕ → Option Stray → DocError → Type 0
IsFirstOf kind path None e = IsRefusal kind path e
IsFirstOf kind path (Some s) e = IsRefusalBy (is_lt (slice_cmp nat_cmp s.path.now path)) s kind path e
