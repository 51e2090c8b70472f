-- Which index maps a field of a template in another way, index by index, for private clauses.
use Rattle.std.specs.Prelude.{ℕ, List, [], ◌∷◌, Option, Some, None, bytes_eq, if◌then◌else◌}
use Rattle.std.specs.Ordering.{is_lt, nat_cmp}
use Rattle.std.specs.Cmp.Lexicographic.{slice_cmp}
use Rattle.row_cells.specs.declared.schemas.Field.{Field}
use Rattle.ts_mapping.specs.Agreeing.{other_path}
use Rattle.stream_catalog.specs.declared.facts.HeldIndex.{HeldIndex}
use Rattle.stream_catalog.specs.declared.mapped.OtherField.{OtherField}

-- the path of a field, and an index that maps it in another way
pub record OtherAt : Type 0 where
  pub path : List ℕ
  pub index : List ℕ

abbrev pub seen_other : OtherField → OtherAt
seen_other o = record { path = o.path.now; index = o.index.now }

-- the least path that an index of this template's name maps in another way
abbrev pub other_in : List ℕ → List Field → HeldIndex → Option (List ℕ)
other_in template fs i = if bytes_eq i.template template then other_path fs i.mapping.schema.fields else None

-- of an index's path and what later indices have the lesser path, and where they are the same that of the index
abbrev pub earlier_of : Option (List ℕ) → List ℕ → Option OtherAt → Option OtherAt
earlier_of None index later = later
earlier_of (Some path) index None = Some (record { path = path; index = index })
earlier_of (Some path) index (Some o) = if is_lt (slice_cmp nat_cmp o.path path) then Some o else Some (record { path = path; index = index })

abbrev pub first_other_of : List ℕ → List Field → List HeldIndex → Option OtherAt
first_other_of template fs [] = None
first_other_of template fs (i ∷ is) = earlier_of (other_in template fs i) i.name (first_other_of template fs is)
