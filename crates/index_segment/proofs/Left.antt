-- What is left to read of keys and columns.
use Rattle.std.specs.Prelude.{◌≡◌, ℕ, zero, suc, ◌+◌, ◌^◌, ◌<◌, List, [], ◌∷◌, ◌++◌, length, drop}
use Rattle.std.specs.List.{flat_map}
use Rattle.std.proofs.Common.{refl, ap, sym, subst, ◌∙◌, arith, append_assoc, get_or}
use Rattle.row_cells.specs.Each.{Each}
use Rattle.row_cells.specs.Dimensions.{IsKey, text_bytes}
use Rattle.column_block.specs.declared.kinds.ColumnKind.{ColumnKind}
use Rattle.column_block.specs.declared.kinds.Values.{Values}
use Rattle.column_block.specs.Rules.{IsColumnOf}
use Rattle.column_block.specs.Spelling.{Spells}
use Rattle.index_segment.specs.Parts.{AreColumnsOf}
use Rattle.index_segment.specs.Spelling.{AreColumns}

-- ---- keys

-- n of so many keys are read, and the others are in front of what is left
pub record KeysLeft (count n : ℕ) (items keys : List (List ℕ)) (rest now : List ℕ) : Type 0 where
  pub left : List (List ℕ)
  pub keyed : Each IsKey left
  pub long : length left + n ≡ count
  pub spelled : now ≡ flat_map text_bytes left ++ rest
  pub whole : items ++ left ≡ keys

pub record NextKey (count n : ℕ) (items keys : List (List ℕ)) (rest now : List ℕ) : Type 0 where
  pub key : List ℕ
  pub more : List (List ℕ)
  pub is : IsKey key
  pub short : length key < 2 ^ 16
  pub keyed : Each IsKey more
  pub long : length more + (n + 1) ≡ count
  pub spelled : now ≡ text_bytes key ++ (flat_map text_bytes more ++ rest)
  pub whole : items ++ (key ∷ more) ≡ keys

pub next_key : (count n : ℕ) (items keys : List (List ℕ)) (rest now : List ℕ) → n < count → KeysLeft count n items keys rest now → NextKey count n items keys rest now
next_key count n items keys rest now below k = go k.left k.keyed k.long k.spelled k.whole
  where
    go : (left : List (List ℕ)) → Each IsKey left → length left + n ≡ count → now ≡ flat_map text_bytes left ++ rest → items ++ left ≡ keys → NextKey count n items keys rest now
    go [] keyed long spelled whole = absurd (omega (arith, long, below))
    go (key ∷ more) keyed long spelled whole = record {
      key = key;
      more = more;
      is = keyed.0;
      short = omega (arith, keyed.0.short);
      keyed = keyed.1;
      long = omega (arith, long);
      spelled = spelled ∙ append_assoc (text_bytes key) (flat_map text_bytes more) rest;
      whole = whole;
    }

pub keys_on : (count n : ℕ) (items new keys : List (List ℕ)) (key text : List ℕ) (rest now left : List ℕ) (k : NextKey count n items keys rest now) → new ≡ items ++ key ∷ [] → key ≡ text → text ≡ k.key → left ≡ flat_map text_bytes k.more ++ rest → KeysLeft count (n + 1) new keys rest left
keys_on count n items new keys key text rest now left k new_is key_is text_is left_is = record {
  left = k.more;
  keyed = k.keyed;
  long = k.long;
  spelled = left_is;
  whole = ap (λ xs. xs ++ k.more) new_is ∙ (append_assoc items (key ∷ []) k.more ∙ (ap (λ x. items ++ (x ∷ k.more)) (key_is ∙ text_is) ∙ k.whole));
}

-- ---- columns

pub record ColumnsLeft (kinds : List ColumnKind) (n rows : ℕ) (items columns : List Values) (now : List ℕ) : Type 0 where
  pub left : List Values
  pub of : AreColumnsOf (drop n kinds) rows left
  pub spelled : AreColumns left now
  pub whole : items ++ left ≡ columns

pub record NextColumn (kinds : List ColumnKind) (n rows : ℕ) (kind : ColumnKind) (items columns : List Values) (now : List ℕ) : Type 0 where
  pub column : Values
  pub more : List Values
  pub front : List ℕ
  pub back : List ℕ
  pub is : IsColumnOf kind rows column
  pub spells : Spells column front
  pub of : AreColumnsOf (drop (n + 1) kinds) rows more
  pub spelled : AreColumns more back
  pub now_is : now ≡ front ++ back
  pub whole : items ++ (column ∷ more) ≡ columns

dropped : (kinds : List ColumnKind) (n : ℕ) (d : ColumnKind) → n < length kinds → drop n kinds ≡ get_or kinds n d ∷ drop (n + 1) kinds
dropped [] n d below = absurd (omega (arith, below))
dropped (k ∷ kinds) zero d below = refl
dropped (k ∷ kinds) (suc n) d below = dropped kinds n d (omega (arith, below)) ∙ ap (λ m. get_or kinds n d ∷ drop m (k ∷ kinds)) next
  where
    next : suc (n + 1) ≡ suc n + 1
    next = omega arith

pub next_column : (kinds : List ColumnKind) (n rows : ℕ) (d : ColumnKind) (items columns : List Values) (now : List ℕ) → n < length kinds → ColumnsLeft kinds n rows items columns now → NextColumn kinds n rows (get_or kinds n d) items columns now
next_column kinds n rows d items columns now below c = go c.left (subst (λ ks. AreColumnsOf ks rows c.left) (dropped kinds n d below) c.of) c.spelled c.whole
  where
    go : (left : List Values) → AreColumnsOf (get_or kinds n d ∷ drop (n + 1) kinds) rows left → AreColumns left now → items ++ left ≡ columns → NextColumn kinds n rows (get_or kinds n d) items columns now
    go [] of spelled whole = absurd of
    go (column ∷ more) of spelled whole = record {
      column = column;
      more = more;
      front = spelled.0;
      back = spelled.1;
      is = of.0;
      spells = spelled.2;
      of = of.1;
      spelled = spelled.3;
      now_is = spelled.4;
      whole = whole;
    }

pub columns_on : (kinds : List ColumnKind) (n rows : ℕ) (kind : ColumnKind) (items new columns : List Values) (column : Values) (now left : List ℕ) (c : NextColumn kinds n rows kind items columns now) → new ≡ items ++ column ∷ [] → column ≡ c.column → left ≡ c.back → ColumnsLeft kinds (n + 1) rows new columns left
columns_on kinds n rows kind items new columns column now left c new_is column_is left_is = record {
  left = c.more;
  of = c.of;
  spelled = subst (AreColumns c.more) (sym left_is) c.spelled;
  whole = ap (λ xs. xs ++ c.more) new_is ∙ (append_assoc items (column ∷ []) c.more ∙ (ap (λ x. items ++ (x ∷ c.more)) column_is ∙ c.whole));
}
