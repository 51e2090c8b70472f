-- What is read of a key: its dimensions, and the head of its series.
use Rattle.std.specs.Prelude.{◌≡◌, ℕ, zero, suc, ℤ, pos, ◌-ℤ◌, ◌^◌, ◌<◌, ◌≤◌, false, true, Bool, cond, nat_lt, Option, Some, None, List, [], ◌∷◌, ◌++◌, length, take, drop, FitsSigned, IsUtf8}
use Rattle.std.specs.Int.{w16, w64, to_be_bytes, from_be_bytes}
use Rattle.std.proofs.Common.{refl, ap, sym, ◌∙◌, subst, arith, append_assoc, length-append}
use Rattle.std.proofs.Math.Seq.{take-append_seam, drop-append_seam}
use Rattle.std.proofs.lemmas.Bool.{le-ltb}
use Rattle.std.proofs.lemmas.Int.{ints}
use Rattle.std.proofs.lemmas.Nat.{from_be_bytes-to_be_bytes_2, from_be_bytes-to_be_bytes_8}
use Rattle.std.proofs.lemmas.Str.{is_utf8-from_IsUtf8}
use Rattle.time_text.specs.Shape.{◌>>=◌}
use Rattle.row_cells.specs.declared.scalars.Scalar.{Scalar}
use Rattle.row_cells.specs.declared.scalars.Scalar.TheVariants.{Whole, Flag, Word}
use Rattle.row_cells.specs.declared.schemas.FieldType.{FieldType}
use Rattle.row_cells.specs.declared.schemas.Role.{Role}
use Rattle.row_cells.specs.declared.schemas.Role.TheVariants.{Time, Dimension as DimensionRole, Gauge as GaugeRole, Counter, Label}
use Rattle.row_cells.specs.declared.schemas.Field.{Field}
use Rattle.row_cells.specs.declared.schemas.Schema.{Schema}
use Rattle.row_cells.specs.declared.rows.Cell.{Cell}
use Rattle.row_cells.specs.declared.rows.Cell.TheVariants.{Absent, One, Many, Gauge, Rise as RiseCell}
use Rattle.row_cells.specs.declared.rows.Row.{Row}
use Rattle.row_cells.specs.Dimensions.{Dimension, IsDimension, IsKeyValue, IsKey, AreDimensions, AreDimensionsAfter, text_bytes, above_least, value_bytes, dimension_bytes, key_bytes}
use Rattle.row_cells.specs.Fitting.{CellFits, CellsFit, Fits, FieldsAscendAfter, raw_form, with_dimension, dimensions_of}
use Rattle.row_cells.specs.Heads.{utf8_word, word_at, whole_at, value_at, value_if, entry_at, head_of, rest_of, heads_in, head_row_of, IsHeadOf, dimension_at, dimension_with, in_front_of, first_dimensions, dimensions_in}
use Rattle.row_cells.specs.KeyedLaws.{cells_spellable, dimensions_ascend}
use Rattle.row_cells.specs.KeyLaws.{above_least_is, above_least_short}
use Rattle.row_cells.specs.Mapped.{IsMapped}
use Rattle.row_cells.specs.Spellable.{AreSpellable, IsSpellable}
use Rattle.row_cells.specs.Texts.{cut, text_at}
use Rattle.row_cells.specs.WidenLaws.{same_bytes, other_bytes, apart, absent_fits}

-- ---- texts

pub cut_front : (a b : List ℕ) (n : ℕ) → n ≡ length a → cut n (a ++ b) ≡ Some (a, b)
cut_front a b n is =
    let long : nat_lt (length (a ++ b)) n ≡ false = le-ltb (length (a ++ b)) n (omega (arith, is, length-append a b)) in
    ap (λ t. cond {A = Option (List ℕ × List ℕ)} t None (Some (take n (a ++ b), drop n (a ++ b)))) long
    ∙ (ap (λ m. Some (take m (a ++ b), drop m (a ++ b))) is
    ∙ (ap (λ t. Some (t, drop (length a) (a ++ b))) (take-append_seam a b) ∙ ap (λ t. Some (a, t)) (drop-append_seam a b)))

pub text_read : (t rest : List ℕ) → length t < 2 ^ 16 → text_at (text_bytes t ++ rest) ≡ Some (t, rest)
unfolding text_at
text_read t rest short =
    let split : text_bytes t ++ rest ≡ to_be_bytes w16 (length t) ++ (t ++ rest) = append_assoc (to_be_bytes w16 (length t)) t rest in
    ap (λ bytes. cut 2 bytes >>= (λ head. cut (from_be_bytes w16 head.0) head.1)) split
    ∙ (ap (λ read. read >>= (λ head. cut (from_be_bytes w16 head.0) head.1)) (cut_front (to_be_bytes w16 (length t)) (t ++ rest) 2 refl)
    ∙ cut_front t rest (from_be_bytes w16 (to_be_bytes w16 (length t))) (from_be_bytes-to_be_bytes_2 (length t) short))

pub no_text : text_at [] ≡ None
unfolding text_at
no_text = refl

some_is : {A : Type 0} {x y : A} → Some x ≡ Some y → x ≡ y
some_is e = cc

none_is_some : {A : Type 0} (x : A) → None ≡ Some x → ⊥
none_is_some x e = cc

-- what is read where bytes begin with a text
pub text_told : (bytes text rest t r : List ℕ) → length text < 2 ^ 16 → bytes ≡ text_bytes text ++ rest → text_at bytes ≡ Some (t, r) → (t ≡ text) × (r ≡ rest)
text_told bytes text rest t r short spelled read =
    let same = some_is (sym read ∙ (ap text_at spelled ∙ text_read text rest short)) in
    (ap (λ p. p.0) same, ap (λ p. p.1) same)

pub text_there : (bytes text rest : List ℕ) → length text < 2 ^ 16 → bytes ≡ text_bytes text ++ rest → text_at bytes ≡ None → ⊥
text_there bytes text rest short spelled none = none_is_some (text, rest) (sym none ∙ (ap text_at spelled ∙ text_read text rest short))

-- ---- values

word_back : (t rest : List ℕ) → length t < 2 ^ 16 → IsUtf8 t → word_at (text_bytes t ++ rest) ≡ Some (Word t, rest)
unfolding word_at
word_back t rest short utf8 = ap (λ read. read >>= utf8_word) (text_read t rest short) ∙ ap (λ b. cond {A = Option (Scalar × List ℕ)} b (Some (Word t, rest)) None) (is_utf8-from_IsUtf8 t utf8)

above : (v : ℤ) → FitsSigned w64 v → pos (above_least v) -ℤ pos (2 ^ 63) ≡ v
above v fits = omega (arith, ints, above_least_is v fits)

whole_back : (v : ℤ) (rest : List ℕ) → FitsSigned w64 v → whole_at (to_be_bytes w64 (above_least v) ++ rest) ≡ Some (Whole v, rest)
unfolding whole_at
whole_back v rest fits =
    ap (λ read. read >>= (λ head. Some (Whole (pos (from_be_bytes w64 head.0) -ℤ pos (2 ^ 63)), head.1))) (cut_front (to_be_bytes w64 (above_least v)) rest 8 refl)
    ∙ (ap (λ n. Some (Whole (pos n -ℤ pos (2 ^ 63)), rest)) (from_be_bytes-to_be_bytes_8 (above_least v) (above_least_short v fits)) ∙ ap (λ n. Some (Whole n, rest)) (above v fits))

pub value_read : (v : Scalar) (rest : List ℕ) → IsKeyValue v → value_at (value_bytes v ++ rest) ≡ Some (v, rest)
unfolding value_at
value_read (Word t) rest fits = word_back t rest fits.1 fits.0
value_read (Whole v) rest fits = whole_back v rest fits
value_read (Flag true) rest fits = refl
value_read (Flag false) rest fits = refl

-- ---- dimensions

abbrev dimension_from : List ℕ → Scalar → Dimension
dimension_from path value = record { path = path; value = value }

-- bytes that begin with a path and a value are read as a dimension
dimension_back : (path rest : List ℕ) (v : Scalar) → length path < 2 ^ 16 → IsKeyValue v → dimension_at (dimension_bytes (dimension_from path v) ++ rest) ≡ Some (dimension_from path v, rest)
unfolding dimension_at
dimension_back path rest v short fits =
    ap (λ bytes. text_at bytes >>= dimension_with) (append_assoc (text_bytes path) (value_bytes v) rest)
    ∙ (ap (λ read. read >>= dimension_with) (text_read path (value_bytes v ++ rest) short)
    ∙ ap (λ read. read >>= (λ value. Some (dimension_from path value.0, value.1))) (value_read v rest fits))

pub dimension_read : (d : Dimension) (rest : List ℕ) → IsDimension d → dimension_at (dimension_bytes d ++ rest) ≡ Some (d, rest)
dimension_read d rest is = dimension_back d.path rest d.value (omega (arith, is.path_short)) is.value_fits

no_dimension : dimension_at [] ≡ None
unfolding dimension_at
no_dimension = ap (λ read. read >>= dimension_with) no_text

-- where bytes begin with the dimension of a path, they have its value there
pub entry_read : (path rest : List ℕ) (v : Scalar) → length path < 2 ^ 16 → IsKeyValue v → entry_at path (dimension_bytes (record { path = path; value = v }) ++ rest) ≡ Some (v, rest)
unfolding entry_at
entry_read path rest v short fits =
    ap (λ read. read >>= value_if path) (dimension_back path rest v short fits)
    ∙ ap (λ b. cond {A = Option (Scalar × List ℕ)} b (Some (v, rest)) None) (same_bytes path path refl)

-- and nothing where all dimensions stand behind the path
pub entry_none : (path : List ℕ) (ds : List Dimension) → AreDimensionsAfter path ds → entry_at path (key_bytes ds) ≡ None
unfolding entry_at
entry_none path [] are = ap (λ read. read >>= value_if path) no_dimension
entry_none path (d ∷ ds) are =
    ap (λ read. read >>= value_if path) (dimension_read d (key_bytes ds) are.1)
    ∙ ap (λ b. cond {A = Option (Scalar × List ℕ)} b (Some (d.value, key_bytes ds)) None) (other_bytes d.path path (λ same. apart path d.path are.0 (sym same)))

first_read : (n : ℕ) (below : List ℕ) (ds : List Dimension) → length ds ≤ n → AreDimensionsAfter below ds → first_dimensions n (key_bytes ds) ≡ ds
first_read zero below [] few are = refl
first_read zero below (d ∷ ds) few are = absurd (omega (arith, few))
first_read (suc n) below [] few are = ap (λ read. in_front_of read (first_dimensions n)) no_dimension
first_read (suc n) below (d ∷ ds) few are =
    ap (λ read. in_front_of read (first_dimensions n)) (dimension_read d (key_bytes ds) are.1)
    ∙ ap (λ rest. d ∷ rest) (first_read n d.path ds (omega (arith, few)) are.2)

longer_key : (ds : List Dimension) → length ds ≤ length (key_bytes ds)
longer_key [] = omega arith
longer_key (d ∷ ds) = omega (arith, longer_key ds, length-append (dimension_bytes d) (key_bytes ds), some d.path (value_bytes d.value))
  where
    some : (t v : List ℕ) → 0 < length (text_bytes t ++ v)
    some t v = omega arith

-- the dimensions of a key are read as they are
pub dimensions_read : (ds : List Dimension) → AreDimensions ds → dimensions_in (key_bytes ds) ≡ ds
unfolding dimensions_in
dimensions_read ds are = first_read (length (key_bytes ds)) [] ds (longer_key ds) are

pub dimensions_of_key : (key : List ℕ) (is : IsKey key) → dimensions_in key ≡ is.spells.dimensions
dimensions_of_key key is = ap dimensions_in (sym is.spells.spelled) ∙ dimensions_read is.spells.dimensions is.spells.ascending

-- ---- heads

-- the cell of a dimension alone
abbrev pub head_cell : Role → Cell → Cell
head_cell DimensionRole cell = cell
head_cell role cell = Absent

abbrev pub head_cells : List Field → List Cell → List Cell
head_cells (f ∷ fs) (c ∷ cs) = head_cell f.role c ∷ head_cells fs cs
head_cells fs cs = []

-- what a look for a path finds of the dimensions at a field and behind it
record Found (path : List ℕ) (role : Role) (c : Cell) (ds : List Dimension) : Type 0 where
  cell : head_of (entry_at path (key_bytes (with_dimension role path c ds))) ≡ head_cell role c
  left : rest_of (key_bytes (with_dimension role path c ds)) (entry_at path (key_bytes (with_dimension role path c ds))) ≡ key_bytes ds

found_none : (path : List ℕ) (role : Role) (c : Cell) (ds : List Dimension) → AreDimensionsAfter path ds → with_dimension role path c ds ≡ ds → head_cell role c ≡ Absent → Found path role c ds
found_none path role c ds after same none =
    let bytes : key_bytes (with_dimension role path c ds) ≡ key_bytes ds = ap key_bytes same in
    let nothing : entry_at path (key_bytes (with_dimension role path c ds)) ≡ None = ap (entry_at path) bytes ∙ entry_none path ds after in
    record {
      cell = ap head_of nothing ∙ sym none;
      left = ap (rest_of (key_bytes (with_dimension role path c ds))) nothing ∙ bytes;
    }

found_one : (path : List ℕ) (v : Scalar) (ds : List Dimension) → length path < 2 ^ 16 → IsKeyValue v → Found path DimensionRole (One v) ds
found_one path v ds short fits =
    let there = entry_read path (key_bytes ds) v short fits in
    record { cell = ap head_of there; left = ap (rest_of (dimension_bytes (record { path = path; value = v }) ++ key_bytes ds)) there }

found : (folded rises : Bool) (kind : FieldType) (role : Role) (n : ℕ) (path : List ℕ) (c : Cell) (ds : List Dimension) → CellFits folded rises kind role n c → IsSpellable role path c → AreDimensionsAfter path ds → Found path role c ds
found folded rises kind DimensionRole n path Absent ds fits spells after = found_none path DimensionRole Absent ds after refl refl
found folded rises kind DimensionRole n path (One v) ds fits spells after = found_one path v ds (omega (arith, spells.0.short)) spells.1
found folded rises kind DimensionRole n path (Many vs) ds fits spells after = absurd fits
found folded rises kind DimensionRole n path (Gauge p) ds fits spells after = absurd fits
found folded rises kind DimensionRole n path (RiseCell r) ds fits spells after = absurd fits
found folded rises kind Time n path c ds fits spells after = found_none path Time c ds after refl refl
found folded rises kind GaugeRole n path c ds fits spells after = found_none path GaugeRole c ds after refl refl
found folded rises kind Counter n path c ds fits spells after = found_none path Counter c ds after refl refl
found folded rises kind Label n path c ds fits spells after = found_none path Label c ds after refl refl

cons_eq : {x y : Cell} {xs ys : List Cell} → x ≡ y → xs ≡ ys → x ∷ xs ≡ y ∷ ys
cons_eq p q = cc

heads_read : (folded rises : Bool) (n : ℕ) (below : List ℕ) (fs : List Field) (cs : List Cell) → FieldsAscendAfter below fs → AreSpellable fs cs → CellsFit folded rises n fs cs → heads_in fs (key_bytes (dimensions_of fs cs)) ≡ head_cells fs cs
heads_read folded rises n below [] [] ascend spells fit = refl
heads_read folded rises n below [] (c ∷ cs) ascend spells fit = absurd fit
heads_read folded rises n below (f ∷ fs) [] ascend spells fit = absurd fit
heads_read folded rises n below (f ∷ fs) (c ∷ cs) ascend spells fit =
    let ds = dimensions_of fs cs in
    let here = found folded rises f.kind f.role n f.path c ds fit.0 spells.0 (dimensions_ascend f.path fs cs ascend.1 spells.1) in
    cons_eq here.cell (ap (heads_in fs) here.left ∙ heads_read folded rises n f.path fs cs ascend.1 spells.1 fit.1)

-- the head of a row's key has the row's dimensions, and nothing else
pub heads_are : (schema : Schema) (row : Row) → IsMapped schema → Fits schema row → heads_in schema.fields row.key ≡ head_cells schema.fields row.cells
heads_are schema row mapped fits =
    ap (heads_in schema.fields) fits.key_is
    ∙ heads_read schema.folded schema.rises row.count [] schema.fields row.cells mapped.ascending (cells_spellable schema.folded schema.rises row.count schema.fields row.cells mapped.paths fits.cells_fit) fits.cells_fit

head_cell_fits : (folded rises raw : Bool) (kind : FieldType) (role : Role) (n : ℕ) (c : Cell) → CellFits folded rises kind role n c → CellFits false raw kind role 1 (head_cell role c)
head_cell_fits folded rises raw kind DimensionRole n c fits = fits
head_cell_fits folded rises raw kind Time n c fits = absent_fits false raw kind Time 1
head_cell_fits folded rises raw kind GaugeRole n c fits = absent_fits false raw kind GaugeRole 1
head_cell_fits folded rises raw kind Counter n c fits = absent_fits false raw kind Counter 1
head_cell_fits folded rises raw kind Label n c fits = absent_fits false raw kind Label 1

head_cells_fit : (folded rises raw : Bool) (n : ℕ) (fs : List Field) (cs : List Cell) → CellsFit folded rises n fs cs → CellsFit false raw 1 fs (head_cells fs cs)
head_cells_fit folded rises raw n [] [] fit = tt
head_cells_fit folded rises raw n [] (c ∷ cs) fit = absurd fit
head_cells_fit folded rises raw n (f ∷ fs) [] fit = absurd fit
head_cells_fit folded rises raw n (f ∷ fs) (c ∷ cs) fit = (head_cell_fits folded rises raw f.kind f.role n c fit.0, head_cells_fit folded rises raw n fs cs fit.1)

head_dimension : (role : Role) (path : List ℕ) (c : Cell) (ds : List Dimension) → with_dimension role path (head_cell role c) ds ≡ with_dimension role path c ds
head_dimension DimensionRole path c ds = refl
head_dimension Time path c ds = refl
head_dimension GaugeRole path c ds = refl
head_dimension Counter path c ds = refl
head_dimension Label path c ds = refl

pub head_dimensions : (fs : List Field) (cs : List Cell) → dimensions_of fs (head_cells fs cs) ≡ dimensions_of fs cs
head_dimensions [] cs = refl
head_dimensions (f ∷ fs) [] = refl
head_dimensions (f ∷ fs) (c ∷ cs) = head_dimension f.role f.path c (dimensions_of fs (head_cells fs cs)) ∙ ap (with_dimension f.role f.path c) (head_dimensions fs cs)

-- the row with the head of a row's key fits as a document, whatever the row's form
pub head_row_fits : (schema : Schema) (row : Row) → IsMapped schema → Fits schema row → Fits (raw_form schema) (head_row_of schema row.key)
head_row_fits schema row mapped fits =
    let cells = heads_are schema row mapped fits in
    record {
      cells_fit = subst (CellsFit false schema.rises 1 schema.fields) (sym cells) (head_cells_fit schema.folded schema.rises schema.rises row.count schema.fields row.cells fits.cells_fit);
      key_is = fits.key_is ∙ ap key_bytes (sym (ap (dimensions_of schema.fields) cells ∙ head_dimensions schema.fields row.cells));
      instant = (omega (arith, ints), omega (arith, ints));
      counted = omega arith;
      count_within = omega arith;
      alone = λ raw. refl;
    }

pub head_row_is : (schema : Schema) (row : Row) → IsMapped schema → Fits schema row → IsHeadOf schema row (head_row_of schema row.key)
head_row_is schema row mapped fits = record {
  fits = head_row_fits schema row mapped fits;
  dimensions = ap (dimensions_of schema.fields) (heads_are schema row mapped fits) ∙ head_dimensions schema.fields row.cells;
}

pub head_row_from : (schema : Schema) (row head : Row) (key : List ℕ) → IsMapped schema → Fits schema row → row.key ≡ key → head ≡ head_row_of schema key → IsHeadOf schema row head
head_row_from schema row head key mapped fits same is = subst (λ h. IsHeadOf schema row h) (ap (head_row_of schema) same ∙ sym is) (head_row_is schema row mapped fits)
