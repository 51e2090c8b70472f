-- The rows that the parts of a segment stand for are the rows that they were made of.
use Rattle.std.specs.Prelude.{◌≡◌, ℕ, pos, suc, ◌+◌, Bool, true, false, cond, List, [], ◌∷◌, ◌++◌, map, length, replicate, Some}
use Rattle.std.specs.List.{slice_get}
use Rattle.std.specs.Str.{bytes_eq}
use Rattle.std.proofs.Common.{refl, ap, sym, subst, ◌∙◌, arith, append_assoc, length-append}
use Rattle.row_cells.specs.Each.{Each}
use Rattle.row_cells.specs.declared.schemas.Role.{Role}
use Rattle.row_cells.specs.declared.schemas.Role.TheVariants.{Time, Dimension, Gauge as GaugeRole, Counter, Label}
use Rattle.row_cells.specs.declared.schemas.FieldType.{FieldType}
use Rattle.row_cells.specs.declared.schemas.Field.{Field}
use Rattle.row_cells.specs.declared.schemas.Schema.{Schema}
use Rattle.row_cells.specs.declared.rows.Cell.{Cell}
use Rattle.row_cells.specs.declared.rows.Cell.TheVariants.{Absent, One, Many, Gauge, Rise}
use Rattle.row_cells.specs.declared.rows.Row.{Row}
use Rattle.row_cells.specs.Dimensions as dimension
use Rattle.row_cells.specs.Dimensions.{key_bytes, AreDimensionsAfter}
use Rattle.row_cells.specs.Fitting.{CellFits, CellsFit, FieldsAscendAfter, dimensions_of, with_dimension}
use Rattle.row_cells.specs.Mapped.{IsMapped}
use Rattle.row_cells.specs.KeyedLaws.{cells_spellable, dimensions_ascend}
use Rattle.row_cells.specs.Spellable.{AreSpellable, IsSpellable}
use Rattle.index_segment.specs.Columns.{columns_of}
use Rattle.index_segment.specs.Directory.{Run, run_of, with_key, runs_of, row_keys, keys_of, sizes_of, spread}
use Rattle.index_segment.specs.declared.forms.Form.{Form}
use Rattle.index_segment.specs.Forms.{form_of, forms_of}
use Rattle.row_cells.specs.Heads.{entry_at, head_of, rest_of, heads_in}
use Rattle.index_segment.specs.Held.{plain, row_from, rows_from, rows_held}
use Rattle.row_cells.specs.KeyedRows.{AreRowsOf, IsRowOf}
use Rattle.index_segment.specs.Spelling.{counted, counts_of, times_of}
use Rattle.row_cells.specs.HeadLaws.{entry_none, entry_read}
use Rattle.index_segment.proofs.Kept.{kept}
use Rattle.index_segment.proofs.Runs.{bytes_eq_same}
use Rattle.index_segment.proofs.Restored.{AllKept, behind, cells_back}
use Rattle.index_segment.proofs.Lists.{both}

-- ---- the cells of a key

-- what is read of a key at the path of a field, whose cell is c
record ReadAt (role : Role) (path : List ℕ) (c : Cell) (bytes rest : List ℕ) : Type 0 where
  pub left : rest_of bytes (entry_at path bytes) ≡ rest
  pub time : role ≡ Time → head_of (entry_at path bytes) ≡ c
  pub dimension : role ≡ Dimension → head_of (entry_at path bytes) ≡ c

read_none : (role : Role) (path : List ℕ) (c : Cell) (ds : List dimension.Dimension) → AreDimensionsAfter path ds → (role ≡ Time → Absent ≡ c) → (role ≡ Dimension → Absent ≡ c) → ReadAt role path c (key_bytes ds) (key_bytes ds)
read_none role path c ds after time is = record {
  left = ap (rest_of (key_bytes ds)) (entry_none path ds after);
  time = λ e. ap head_of (entry_none path ds after) ∙ time e;
  dimension = λ e. ap head_of (entry_none path ds after) ∙ is e;
}

read_at : (folded rises : Bool) (kind : FieldType) (role : Role) (path : List ℕ) (n : ℕ) (c : Cell) (ds : List dimension.Dimension) → CellFits folded rises kind role n c → IsSpellable role path c → AreDimensionsAfter path ds → ReadAt role path c (key_bytes (with_dimension role path c ds)) (key_bytes ds)
read_at folded rises kind Dimension path n (One v) ds fit spells after =
    let got = entry_read path (key_bytes ds) v (omega (arith, spells.0.short)) spells.1 in
    record {
      left = ap (rest_of (key_bytes (with_dimension Dimension path (One v) ds))) got;
      time = λ e. ap head_of got;
      dimension = λ e. ap head_of got;
    }
read_at folded rises kind Dimension path n Absent ds fit spells after = read_none Dimension path Absent ds after (λ e. refl) (λ e. refl)
read_at folded rises kind Dimension path n (Many vs) ds fit spells after = absurd fit
read_at folded rises kind Dimension path n (Gauge p) ds fit spells after = absurd fit
read_at folded rises kind Dimension path n (Rise r) ds fit spells after = absurd fit
read_at folded rises kind Time path n Absent ds fit spells after = read_none Time path Absent ds after (λ e. refl) (λ e. cc)
read_at folded rises kind Time path n (One v) ds fit spells after = absurd fit
read_at folded rises kind Time path n (Many vs) ds fit spells after = absurd fit
read_at folded rises kind Time path n (Gauge p) ds fit spells after = absurd fit
read_at folded rises kind Time path n (Rise r) ds fit spells after = absurd fit
read_at folded rises kind GaugeRole path n c ds fit spells after = read_none GaugeRole path c ds after (λ e. cc) (λ e. cc)
read_at folded rises kind Counter path n c ds fit spells after = read_none Counter path c ds after (λ e. cc) (λ e. cc)
read_at folded rises kind Label path n c ds fit spells after = read_none Label path c ds after (λ e. cc) (λ e. cc)

abbrev pub forms_in : Bool → Bool → List Field → List Form
forms_in folded rises fs = map (λ f. form_of folded rises f.kind f.role) fs

-- each cell is that of the key, or kept by its columns
pub all_kept : (folded rises : Bool) (n : ℕ) (below : List ℕ) (fs : List Field) (cs : List Cell) → FieldsAscendAfter below fs → AreSpellable fs cs → CellsFit folded rises n fs cs → AllKept (forms_in folded rises fs) (heads_in fs (key_bytes (dimensions_of fs cs))) cs
all_kept folded rises n below [] [] ascend spells fit = tt
all_kept folded rises n below [] (c ∷ cs) ascend spells fit = absurd fit
all_kept folded rises n below (f ∷ fs) [] ascend spells fit = absurd fit
all_kept folded rises n below (f ∷ fs) (c ∷ cs) ascend spells fit =
    let ds = dimensions_of fs cs in
    let bytes = key_bytes (with_dimension f.role f.path c ds) in
    let read = read_at folded rises f.kind f.role f.path n c ds fit.0 spells.0 (dimensions_ascend f.path fs cs ascend.1 spells.1) in
    let rest : AllKept (forms_in folded rises fs) (heads_in fs (key_bytes ds)) cs = all_kept folded rises n f.path fs cs ascend.1 spells.1 fit.1 in (
      kept folded rises f.kind f.role n (head_of (entry_at f.path bytes)) c fit.0 read.time read.dimension,
      subst (λ left. AllKept (forms_in folded rises fs) (heads_in fs left) cs) (sym read.left) rest,
    )

pub row_kept : (schema : Schema) (row : Row) → IsMapped schema → IsRowOf schema row → AllKept (forms_of schema) (heads_in schema.fields row.key) row.cells
row_kept schema row mapped is =
    let spells = cells_spellable schema.folded schema.rises row.count schema.fields row.cells mapped.paths is.fits.cells_fit in
    subst (λ key. AllKept (forms_of schema) (heads_in schema.fields key) row.cells) (sym is.fits.key_is)
    (all_kept schema.folded schema.rises row.count [] schema.fields row.cells mapped.ascending spells is.fits.cells_fit)

-- ---- the directory

spread_with : (key : List ℕ) (keys : List (List ℕ)) (rs : List Run) → spread (map (λ run. run.key) rs) (map (λ run. run.size) rs) ≡ keys → spread (map (λ run. run.key) (with_key key rs)) (map (λ run. run.size) (with_key key rs)) ≡ key ∷ keys
spread_with key keys [] is = ap (λ rest. key ∷ rest) is
spread_with key keys (run ∷ rs) is = go (bytes_eq key run.key) refl
  where
    next : run.size + 1 ≡ suc run.size
    next = omega arith

    go : (b : Bool) → bytes_eq key run.key ≡ b → spread (map (λ r. r.key) (cond {A = List Run} b (run_of run.key (run.size + 1) ∷ rs) (run_of key 1 ∷ run ∷ rs))) (map (λ r. r.size) (cond {A = List Run} b (run_of run.key (run.size + 1) ∷ rs) (run_of key 1 ∷ run ∷ rs))) ≡ key ∷ keys
    go true same =
        ap (λ n. replicate n run.key ++ spread (map (λ r. r.key) rs) (map (λ r. r.size) rs)) next
        ∙ both (sym (bytes_eq_same key run.key same)) is
    go false other = ap (λ rest. key ∷ rest) is

spread_runs : (keys : List (List ℕ)) → spread (map (λ run. run.key) (runs_of keys)) (map (λ run. run.size) (runs_of keys)) ≡ keys
spread_runs [] = refl
spread_runs (key ∷ keys) = spread_with key keys (runs_of keys) (spread_runs keys)

pub spread_rows : (rows : List Row) → spread (keys_of rows) (sizes_of rows) ≡ row_keys rows
unfolding keys_of sizes_of
spread_rows rows = spread_runs (row_keys rows)

pub plain_counted : (ns : List ℕ) → plain (counted ns) ≡ ns
plain_counted [] = refl
plain_counted (n ∷ ns) = ap (λ rest. n ∷ rest) (plain_counted ns)

-- ---- rows

abbrev row_with : Row → List Cell → Row
row_with row cells = record { key = row.key; time = row.time; count = row.count; cells = cells }

pub row_back : (schema : Schema) (rows : List Row) (row : Row) (k : ℕ) → IsMapped schema → IsRowOf schema row → slice_get rows k ≡ Some row → row_from schema (columns_of schema rows) k row.key row.time (pos row.count) ≡ row
unfolding columns_of
row_back schema rows row k mapped is there =
    ap (row_with row) (cells_back (forms_of schema) (heads_in schema.fields row.key) row.cells 0 0 k [] (columns_of schema rows) rows row refl refl there refl (row_kept schema row mapped is))

pub rows_back : (schema : Schema) (all done rest : List Row) (k : ℕ) → IsMapped schema → Each (IsRowOf schema) rest → all ≡ done ++ rest → length done ≡ k → rows_from schema (columns_of schema all) k (row_keys rest) (times_of rest) (counts_of rest) ≡ rest
rows_back schema all done [] k mapped each whole long = refl
rows_back schema all done (row ∷ rest) k mapped each whole long =
    let there : slice_get all k ≡ Some row = ap (λ rows. slice_get rows k) whole ∙ (ap (slice_get (done ++ row ∷ rest)) at ∙ behind done (row ∷ rest) 0) in
    let moved : all ≡ (done ++ row ∷ []) ++ rest = whole ∙ sym (append_assoc done (row ∷ []) rest) in
    let longer : length (done ++ row ∷ []) ≡ k + 1 = omega (arith, long, length-append done (row ∷ [])) in
    both (row_back schema all row k mapped each.0 there) (rows_back schema all (done ++ row ∷ []) rest (k + 1) mapped each.1 moved longer)
  where
    at : k ≡ length done + 0
    at = omega (arith, long)

-- the rows that the parts of rows stand for
pub held_rows : (schema : Schema) (rows : List Row) → IsMapped schema → AreRowsOf schema rows → rows_held schema (keys_of rows) (counted (sizes_of rows)) (times_of rows) (counts_of rows) (columns_of schema rows) ≡ rows
unfolding rows_held
held_rows schema rows mapped are =
    ap (λ sizes. rows_from schema (columns_of schema rows) 0 (spread (keys_of rows) sizes) (times_of rows) (counts_of rows)) (plain_counted (sizes_of rows))
    ∙ (ap (λ keys. rows_from schema (columns_of schema rows) 0 keys (times_of rows) (counts_of rows)) (spread_rows rows)
    ∙ rows_back schema rows [] rows 0 mapped are.each refl refl)
