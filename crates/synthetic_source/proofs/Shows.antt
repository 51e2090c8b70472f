-- What a row shows, path by path.
use Rattle.std.proofs.Common.{◌≡◌, inl, inr, ℤ, ℕ, List, [], ◌∷◌, ◌++◌, map, Bool, true, false, cond, ◌&&◌, ◌||◌, bytes_eq, nat_eq, Option, Some, None, refl, sym, ap, ap₂, ◌∙◌, subst}
use Rattle.std.specs.List.{list_any}
use Rattle.std.proofs.lemmas.Slice.Eq.{bytes_eq-Decides}
use Rattle.fold_law.specs.declared.measures.Parts.{Parts}
use Rattle.serde_json.specs.Data.{Data, string}
use Rattle.serde_json.specs.View.{items_of}
use Rattle.json_walk.specs.Path.{Path, end, text, behind_name, is_stop}
use Rattle.json_walk.specs.Leaves.{at_items}
use Rattle.time_text.specs.Printed.{instant_text}
use Rattle.row_cells.specs.declared.scalars.Scalar.{Scalar}
use Rattle.row_cells.specs.declared.scalars.Scalar.TheVariants.{Whole, Flag, Word}
use Rattle.row_cells.specs.declared.schemas.FieldType.{FieldType}
use Rattle.row_cells.specs.declared.schemas.FieldType.TheVariants.{Date, Keyword, Long, Integer, Short, Byte, Boolean, Aggregate}
use Rattle.row_cells.specs.declared.schemas.Role.{Role}
use Rattle.row_cells.specs.declared.schemas.Role.TheVariants.{Time, Dimension, Gauge as GaugeRole, Counter, Label}
use Rattle.row_cells.specs.declared.schemas.Field.{Field}
use Rattle.row_cells.specs.declared.rows.Cell.{Cell}
use Rattle.row_cells.specs.declared.rows.Cell.TheVariants.{Absent, One, Many, Gauge, Rise}
use Rattle.row_cells.specs.Dimensions.{IsBefore}
use Rattle.row_cells.specs.Fitting.{CellFits, CellsFit, FieldsAscendAfter}
use Rattle.row_cells.specs.JoinLaws.{before_chain}
use Rattle.row_cells.specs.Joining.{IsIn}
use Rattle.row_cells.specs.WidenLaws.{apart as not_same, other_bytes, same_bytes}
use Rattle.ts_mapping.specs.Paths.{is_below}
use Rattle.ts_mapping.specs.Roles.{is_aggregate}
use Rattle.synthetic_source.specs.Faults.{field_at, stops_of}
use Rattle.synthetic_source.specs.Levels.{Shown, value_at, with_rest, under}
use Rattle.synthetic_source.specs.Normal.{cell_data, list_data, parts_data, scalar_data, shown_as, shown_of, whole_data, shown_cell}
use Rattle.synthetic_source.proofs.Names.{same_nat, nats_same}
use Rattle.synthetic_source.proofs.Reaching.{IsClosed, ends, items_list}

abbrev pub cell_content : FieldType → Cell → Option Data
cell_content kind Absent = None
cell_content kind (One v) = Some (cell_data kind (One v))
cell_content kind (Many vs) = Some (cell_data kind (Many vs))
cell_content kind (Gauge p) = Some (cell_data kind (Gauge p))
cell_content kind (Rise r) = Some (cell_data kind (Rise r))

-- what a field shows
abbrev pub content : ℤ → Role → FieldType → Cell → Option Data
content t Time kind c = Some (string (instant_text t))
content t Dimension kind c = cell_content kind c
content t GaugeRole kind c = cell_content kind c
content t Counter kind c = cell_content kind c
content t Label kind c = cell_content kind c

abbrev with_shown : List ℕ → Option Data → List Shown → List Shown
with_shown p None es = es
with_shown p (Some d) es = record { path = p; value = d } ∷ es

cell_shown : (p : List ℕ) (kind : FieldType) (c : Cell) (es : List Shown) → shown_cell p kind c es ≡ with_shown p (cell_content kind c) es
cell_shown p kind Absent es = refl
cell_shown p kind (One v) es = refl
cell_shown p kind (Many vs) es = refl
cell_shown p kind (Gauge ps) es = refl
cell_shown p kind (Rise r) es = refl

shown_by : (role : Role) (t : ℤ) (f : Field) (c : Cell) (es : List Shown) → shown_as role t f c es ≡ with_shown f.path (content t role f.kind c) es
shown_by Time t f c es = refl
shown_by Dimension t f c es = cell_shown f.path f.kind c es
shown_by GaugeRole t f c es = cell_shown f.path f.kind c es
shown_by Counter t f c es = cell_shown f.path f.kind c es
shown_by Label t f c es = cell_shown f.path f.kind c es

-- what the field at a path shows
abbrev pub shown_at : ℤ → List ℕ → List Field → List Cell → Option Data
shown_at t p (f ∷ fs) (c ∷ cs) = cond (bytes_eq p f.path) (content t f.role f.kind c) (shown_at t p fs cs)
shown_at t p fs cs = None

ascend_on : (p : List ℕ) (f : Field) (fs : List Field) → IsBefore p f.path → FieldsAscendAfter f.path fs → FieldsAscendAfter p fs
ascend_on p f [] before ascend = tt
ascend_on p f (g ∷ gs) before ascend = (before_chain p f.path g.path before ascend.0, ascend.1)

off_with : (p q : List ℕ) (o : Option Data) (es : List Shown) → bytes_eq p q ≡ false → value_at p (with_shown q o es) ≡ value_at p es
off_with p q None es off = refl
off_with p q (Some d) es off = ap (λ b. cond b (Some d) (value_at p es)) off

none_before : (t : ℤ) (p : List ℕ) (fs : List Field) (cs : List Cell) → FieldsAscendAfter p fs → value_at p (shown_of t fs cs) ≡ None
none_before t p [] cs ascend = refl
none_before t p (f ∷ fs) [] ascend = refl
none_before t p (f ∷ fs) (c ∷ cs) ascend =
    ap (value_at p) (shown_by f.role t f c (shown_of t fs cs))
    ∙ (off_with p f.path (content t f.role f.kind c) (shown_of t fs cs) (other_bytes p f.path (not_same p f.path ascend.0))
    ∙ none_before t p fs cs (ascend_on p f fs ascend.0 ascend.1))

-- the value at a path is what the field there shows
pub value_shown : (t : ℤ) (lo p : List ℕ) (fs : List Field) (cs : List Cell) → FieldsAscendAfter lo fs → value_at p (shown_of t fs cs) ≡ shown_at t p fs cs
value_shown t lo p [] cs ascend = refl
value_shown t lo p (f ∷ fs) [] ascend = refl
value_shown t lo p (f ∷ fs) (c ∷ cs) ascend = ap (value_at p) (shown_by f.role t f c (shown_of t fs cs)) ∙ go (bytes_eq p f.path) refl (value_shown t f.path p fs cs ascend.1)
  where
    here : (o : Option Data) → p ≡ f.path → value_at p (with_shown f.path o (shown_of t fs cs)) ≡ o
    here None same = none_before t p fs cs (subst (λ q. FieldsAscendAfter q fs) (sym same) ascend.1)
    here (Some d) same = ap (λ b. cond b (Some d) (value_at p (shown_of t fs cs))) (same_bytes p f.path same)

    go : (b : Bool) → bytes_eq p f.path ≡ b → value_at p (shown_of t fs cs) ≡ shown_at t p fs cs → value_at p (with_shown f.path (content t f.role f.kind c) (shown_of t fs cs)) ≡ cond b (content t f.role f.kind c) (shown_at t p fs cs)
    go true is later = here (content t f.role f.kind c) ((bytes_eq-Decides p f.path).0 is)
    go false is later = off_with p f.path (content t f.role f.kind c) (shown_of t fs cs) is ∙ later

-- no field is at the path and nothing is shown there, or a field is and its cell is shown
pub data Found (t : ℤ) (rises : Bool) (p : List ℕ) (fs : List Field) (cs : List Cell) : Type 0 where
  nothing : field_at p fs ≡ None → shown_at t p fs cs ≡ None → Found t rises p fs cs
  there : (f : Field) (c : Cell) → IsIn f fs → p ≡ f.path → field_at p fs ≡ Some f → CellFits false rises f.kind f.role 1 c → shown_at t p fs cs ≡ content t f.role f.kind c → Found t rises p fs cs

pub found : (t : ℤ) (rises : Bool) (p : List ℕ) (fs : List Field) (cs : List Cell) → CellsFit false rises 1 fs cs → Found t rises p fs cs
found t rises p [] [] fit = nothing refl refl
found t rises p [] (c ∷ cs) fit = absurd fit
found t rises p (f ∷ fs) [] fit = absurd fit
found t rises p (f ∷ fs) (c ∷ cs) fit = go (bytes_eq p f.path) refl (found t rises p fs cs fit.1)
  where
    go : (b : Bool) → bytes_eq p f.path ≡ b → Found t rises p fs cs → Found t rises p (f ∷ fs) (c ∷ cs)
    go true is later =
        there f c (inl refl) ((bytes_eq-Decides p f.path).0 is)
        (ap (λ b. cond b (Some f) (field_at p fs)) is) fit.0
        (ap (λ b. cond b (content t f.role f.kind c) (shown_at t p fs cs)) is)
    go false is (nothing no_field none) =
        nothing
        (ap (λ b. cond b (Some f) (field_at p fs)) is ∙ no_field)
        (ap (λ b. cond b (content t f.role f.kind c) (shown_at t p fs cs)) is ∙ none)
    go false is (there g d in_fs same at_p fits shows) =
        there g d (inr in_fs) same
        (ap (λ b. cond b (Some f) (field_at p fs)) is ∙ at_p) fits
        (ap (λ b. cond b (content t f.role f.kind c) (shown_at t p fs cs)) is ∙ shows)

-- ---- nothing shows below a path below which no field is

below_text : (s p r : List ℕ) → behind_name s p ≡ Some (text r) → is_below p s ≡ true
below_text [] [] r e = cc
below_text [] (b ∷ p) r e = go (nat_eq 46 b) refl e
  where
    go : (v : Bool) → nat_eq 46 b ≡ v → cond v (Some (text p)) None ≡ Some (text r) → nat_eq b 46 ≡ true
    go true is e = ap (λ n. nat_eq n 46) (sym (nats_same 46 b is))
    go false is e = cc
below_text (x ∷ s) [] r e = cc
below_text (x ∷ s) (b ∷ p) r e = go (nat_eq x b) refl e (below_text s p r)
  where
    go : (v : Bool) → nat_eq x b ≡ v → cond v (behind_name s p) None ≡ Some (text r) → (behind_name s p ≡ Some (text r) → is_below p s ≡ true) → (nat_eq b x && is_below p s) ≡ true
    go true is e later = ap₂ (λ u v. u && v) (ap (λ n. nat_eq n x) (sym (nats_same x b is)) ∙ same_nat x) (later e)
    go false is e later = cc

pub none_under : (t : ℤ) (s : List ℕ) (fs : List Field) (cs : List Cell) → ((g : Field) → IsIn g fs → is_below g.path s ≡ false) → under s (shown_of t fs cs) ≡ []
none_under t s [] cs apart = refl
none_under t s (f ∷ fs) [] apart = refl
none_under t s (f ∷ fs) (c ∷ cs) apart =
    ap (under s) (shown_by f.role t f c (shown_of t fs cs)) ∙ by (content t f.role f.kind c) (none_under t s fs cs (λ g is. apart g (inr is)))
  where
    skip : (o : Option Path) (d : Data) (es : List Shown) → behind_name s f.path ≡ o → with_rest o d es ≡ es
    skip None d es is = refl
    skip (Some end) d es is = refl
    skip (Some (text r)) d es is = let bad : true ≡ false = sym (below_text s f.path r is) ∙ apart f (inl refl) in cc

    by : (o : Option Data) → under s (shown_of t fs cs) ≡ [] → under s (with_shown f.path o (shown_of t fs cs)) ≡ []
    by None later = later
    by (Some d) later = skip (behind_name s f.path) d (under s (shown_of t fs cs)) refl ∙ later

-- ---- what a field shows is closed

closed_whole : (stops : List (List ℕ)) (here : List ℕ) (kind : FieldType) (v : ℤ) → IsClosed stops here (whole_data kind v)
closed_whole stops here Date v = record { ends_are = refl; nothing = λ r. refl }
closed_whole stops here Keyword v = record { ends_are = refl; nothing = λ r. refl }
closed_whole stops here Long v = record { ends_are = refl; nothing = λ r. refl }
closed_whole stops here Integer v = record { ends_are = refl; nothing = λ r. refl }
closed_whole stops here Short v = record { ends_are = refl; nothing = λ r. refl }
closed_whole stops here Byte v = record { ends_are = refl; nothing = λ r. refl }
closed_whole stops here Boolean v = record { ends_are = refl; nothing = λ r. refl }
closed_whole stops here Aggregate v = record { ends_are = refl; nothing = λ r. refl }

closed_scalar : (stops : List (List ℕ)) (here : List ℕ) (kind : FieldType) (v : Scalar) → IsClosed stops here (scalar_data kind v)
closed_scalar stops here kind (Whole v) = closed_whole stops here kind v
closed_scalar stops here kind (Flag b) = record { ends_are = refl; nothing = λ r. refl }
closed_scalar stops here kind (Word w) = record { ends_are = refl; nothing = λ r. refl }

-- a single value is one leaf
pub one_end : (kind : FieldType) (v : Scalar) → ends (scalar_data kind v) ≡ scalar_data kind v ∷ []
one_end Date (Whole v) = refl
one_end Keyword (Whole v) = refl
one_end Long (Whole v) = refl
one_end Integer (Whole v) = refl
one_end Short (Whole v) = refl
one_end Byte (Whole v) = refl
one_end Boolean (Whole v) = refl
one_end Aggregate (Whole v) = refl
one_end kind (Flag b) = refl
one_end kind (Word w) = refl

items_end : (stops : List (List ℕ)) (here : List ℕ) (kind : FieldType) (vs : List Scalar) → at_items stops (Some here) (items_of (map (scalar_data kind) vs)) end ≡ items_list (items_of (map (scalar_data kind) vs))
items_end stops here kind [] = refl
items_end stops here kind (v ∷ vs) = ap₂ (λ xs ys. xs ++ ys) ((closed_scalar stops here kind v).ends_are ∙ one_end kind v) (items_end stops here kind vs)

items_below : (stops : List (List ℕ)) (here : List ℕ) (kind : FieldType) (vs : List Scalar) (r : List ℕ) → at_items stops (Some here) (items_of (map (scalar_data kind) vs)) (text r) ≡ []
items_below stops here kind [] r = refl
items_below stops here kind (v ∷ vs) r = ap₂ (λ xs ys. xs ++ ys) ((closed_scalar stops here kind v).nothing r) (items_below stops here kind vs r)

closed_list : (stops : List (List ℕ)) (here : List ℕ) (kind : FieldType) (vs : List Scalar) → IsClosed stops here (list_data kind vs)
closed_list stops here kind [] = record { ends_are = refl; nothing = λ r. refl }
closed_list stops here kind (v ∷ []) = closed_scalar stops here kind v
closed_list stops here kind (v ∷ w ∷ vs) = record { ends_are = items_end stops here kind (v ∷ w ∷ vs); nothing = items_below stops here kind (v ∷ w ∷ vs) }

closed_parts : (stops : List (List ℕ)) (here : List ℕ) (p : Parts) → is_stop stops (Some here) ≡ true → IsClosed stops here (parts_data p)
closed_parts stops here p stop = record { ends_are = rw stop refl; nothing = λ r. rw stop refl }

-- the values of a list are its leaves
pub list_ends : (kind : FieldType) (vs : List Scalar) → ends (list_data kind vs) ≡ map (scalar_data kind) vs
list_ends kind [] = refl
list_ends kind (v ∷ []) = one_end kind v
list_ends kind (v ∷ w ∷ vs) = back (map (scalar_data kind) (v ∷ w ∷ vs))
  where
    back : (ds : List Data) → items_list (items_of ds) ≡ ds
    back [] = refl
    back (d ∷ ds) = ap (λ xs. d ∷ xs) (back ds)

closed_cell : (stops : List (List ℕ)) (here : List ℕ) (kind : FieldType) (c : Cell) (d : Data) → ((p : Parts) → c ≡ Gauge p → is_stop stops (Some here) ≡ true) → cell_content kind c ≡ Some d → IsClosed stops here d
closed_cell stops here kind Absent d stop is = cc
closed_cell stops here kind (One v) d stop is = let same : scalar_data kind v ≡ d = cc in subst (IsClosed stops here) same (closed_scalar stops here kind v)
closed_cell stops here kind (Many vs) d stop is = let same : list_data kind vs ≡ d = cc in subst (IsClosed stops here) same (closed_list stops here kind vs)
closed_cell stops here kind (Gauge p) d stop is = let same : parts_data p ≡ d = cc in subst (IsClosed stops here) same (closed_parts stops here p (stop p refl))
closed_cell stops here kind (Rise r) d stop is = let same : whole_data kind r.last ≡ d = cc in subst (IsClosed stops here) same (closed_whole stops here kind r.last)

-- parts stand at aggregates alone
gauge_kind : (rises : Bool) (kind : FieldType) (role : Role) (c : Cell) (p : Parts) → CellFits false rises kind role 1 c → c ≡ Gauge p → kind ≡ Aggregate
gauge_kind rises kind Time c p fits same = absurd (subst (λ x. CellFits false rises kind Time 1 x) same fits)
gauge_kind rises kind Dimension c p fits same = absurd (subst (λ x. CellFits false rises kind Dimension 1 x) same fits)
gauge_kind rises kind GaugeRole c p fits same = (subst (λ x. CellFits false rises kind GaugeRole 1 x) same fits).0
gauge_kind rises kind Counter c p fits same = absurd (subst (λ x. CellFits false rises kind Counter 1 x) same fits)
gauge_kind rises kind Label c p fits same = absurd (subst (λ x. CellFits false rises kind Label 1 x) same fits)

pub closed_content : (stops : List (List ℕ)) (here : List ℕ) (t : ℤ) (rises : Bool) (kind : FieldType) (role : Role) (c : Cell) (d : Data)
    → CellFits false rises kind role 1 c → (kind ≡ Aggregate → is_stop stops (Some here) ≡ true) → content t role kind c ≡ Some d → IsClosed stops here d
closed_content stops here t rises kind Time c d fits stop is = let same : string (instant_text t) ≡ d = cc in subst (IsClosed stops here) same (record { ends_are = refl; nothing = λ r. refl })
closed_content stops here t rises kind Dimension c d fits stop is = closed_cell stops here kind c d (λ p same. stop (gauge_kind rises kind Dimension c p fits same)) is
closed_content stops here t rises kind GaugeRole c d fits stop is = closed_cell stops here kind c d (λ p same. stop (gauge_kind rises kind GaugeRole c p fits same)) is
closed_content stops here t rises kind Counter c d fits stop is = closed_cell stops here kind c d (λ p same. stop (gauge_kind rises kind Counter c p fits same)) is
closed_content stops here t rises kind Label c d fits stop is = closed_cell stops here kind c d (λ p same. stop (gauge_kind rises kind Label c p fits same)) is

-- ---- stops

-- an aggregate's path is a stop
pub stop_there : (f : Field) (fs : List Field) → IsIn f fs → is_aggregate f.kind ≡ true → is_stop (stops_of fs) (Some f.path) ≡ true
stop_there f [] is agg = absurd is
stop_there f (g ∷ gs) (inl same) agg = ap (λ b. list_any (λ s. bytes_eq s f.path) (cond b (g.path ∷ stops_of gs) (stops_of gs))) (ap (λ (x : Field). is_aggregate x.kind) (sym same) ∙ agg)
    ∙ ap (λ b. b || list_any (λ s. bytes_eq s f.path) (stops_of gs)) (same_bytes g.path f.path (ap (λ (x : Field). x.path) (sym same)))
stop_there f (g ∷ gs) (inr is) agg = go (is_aggregate g.kind) (stop_there f gs is agg)
  where
    go : (b : Bool) → list_any (λ s. bytes_eq s f.path) (stops_of gs) ≡ true → list_any (λ s. bytes_eq s f.path) (cond b (g.path ∷ stops_of gs) (stops_of gs)) ≡ true
    go true later = by (bytes_eq g.path f.path)
      where
        by : (v : Bool) → (v || list_any (λ s. bytes_eq s f.path) (stops_of gs)) ≡ true
        by true = refl
        by false = later
    go false later = later

-- a stop is a field's path
pub stop_field : (q : List ℕ) (fs : List Field) → is_stop (stops_of fs) (Some q) ≡ true → (f : Field) × IsIn f fs × (f.path ≡ q)
stop_field q [] stop = cc
stop_field q (g ∷ gs) stop = go (is_aggregate g.kind) stop (stop_field q gs)
  where
    go : (b : Bool) → list_any (λ s. bytes_eq s q) (cond b (g.path ∷ stops_of gs) (stops_of gs)) ≡ true → (list_any (λ s. bytes_eq s q) (stops_of gs) ≡ true → (f : Field) × IsIn f gs × (f.path ≡ q)) → (f : Field) × IsIn f (g ∷ gs) × (f.path ≡ q)
    go true stop later = by (bytes_eq g.path q) refl stop
      where
        by : (v : Bool) → bytes_eq g.path q ≡ v → (v || list_any (λ s. bytes_eq s q) (stops_of gs)) ≡ true → (f : Field) × IsIn f (g ∷ gs) × (f.path ≡ q)
        by true is stop = (g, inl refl, (bytes_eq-Decides g.path q).0 is)
        by false is stop = let rest = later stop in (rest.0, inr rest.1, rest.2)
    go false stop later = let rest = later stop in (rest.0, inr rest.1, rest.2)
