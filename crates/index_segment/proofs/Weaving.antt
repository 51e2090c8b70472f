-- Two lists of rows in row order as one, series by series.
use Rattle.std.specs.Prelude.{◌≡◌, ℕ, zero, suc, int_lt, ◌+◌, ◌≤◌, Bool, true, false, cond, List, [], ◌∷◌, ◌++◌, length, map, take, drop}
use Rattle.std.specs.Ordering.{int_cmp, ordering_then, ordering_reverse}
use Rattle.std.specs.Str.{bytes_eq}
use Rattle.std.specs.declared.cmp.Ordering.{Ordering}
use Rattle.std.specs.declared.cmp.Ordering.TheVariants.{Less, Equal, Greater}
use Rattle.std.proofs.Common.{refl, ap, sym, subst, ◌∙◌, arith, length-drop}
use Rattle.std.proofs.lemmas.Cmp.{nat_list_cmp_total, tied_itself}
use Rattle.std.proofs.lemmas.List.{take-append-drop, take-map, drop-map, length-take}
use Rattle.row_cells.specs.declared.rows.Row.{Row}
use Rattle.row_cells.specs.Each.{Each}
use Rattle.row_cells.specs.EachLaws.{Each-weaker}
use Rattle.row_cells.specs.Order.{row_cmp}
use Rattle.row_cells.specs.RowLists.{AllAfter, AreInRowOrder}
use Rattle.index_segment.specs.Directory.{Run, run_of, runs_of, row_keys, same_in_front, with_key}
use Rattle.index_segment.specs.Joining.{rows_of_joints}
use Rattle.index_segment.specs.Merging.{Joint, Side, First, Second, by_order, firsts, joint, joined_series, picked, seconds, sides_by_time, sides_of_series}
use Rattle.index_segment.specs.Spelling.{times_of}
use Rattle.index_segment.proofs.Merged.{first_of, key_cmp, merged, merged_each, merged_length, merged_nothing, second_first, second_of}
use Rattle.index_segment.proofs.Runs.{bytes_eq_differ, bytes_eq_itself, bytes_eq_same, first_run, keys_dropped, same_key}
use Rattle.row_cells.specs.WidenLaws.{other_bytes, apart}
use Rattle.index_segment.specs.SeriesLaws.{key_before}
use Rattle.column_block.specs.EachLaws.{each-append}
use Rattle.std.proofs.Math.Seq.{drop-append_seam}

-- rows of a series, and rows of series behind it
abbrev pub AllOf : List ℕ → List Row → Type 0
AllOf key rows = Each (λ row. row.key ≡ key) rows

abbrev pub AllPast : List ℕ → List Row → Type 0
AllPast key rows = Each (λ row. key_cmp key row.key ≡ Less) rows

-- ---- orders of rows by keys

row_less : (key : List ℕ) (x y : Row) → x.key ≡ key → key_cmp key y.key ≡ Less → row_cmp x y ≡ Less
row_less key x y is less = ap (λ o. ordering_then o (int_cmp y.time x.time)) (ap (λ k. key_cmp k y.key) is ∙ less)

past_after : (key : List ℕ) (x : Row) (rows : List Row) → x.key ≡ key → AllPast key rows → AllAfter x rows
past_after key x rows is past = Each-weaker (λ row. key_cmp key row.key ≡ Less) (λ next. row_cmp x next ≡ Less) (λ y less. row_less key x y is less) rows past

alike_keys : (key : List ℕ) (x y : Row) → x.key ≡ key → y.key ≡ key → key_cmp x.key y.key ≡ Equal
alike_keys key x y is is_too = ap (λ k. key_cmp k y.key) is ∙ (ap (key_cmp key) is_too ∙ tied_itself nat_list_cmp_total key)

-- rows of one series, by their times
later : (key : List ℕ) (x y : Row) → x.key ≡ key → y.key ≡ key → int_lt y.time x.time ≡ true → row_cmp x y ≡ Less
later key x y is is_too less = ap (λ o. ordering_then o (int_cmp y.time x.time)) (alike_keys key x y is is_too) ∙ ap (λ b. cond b Less (cond (int_lt x.time y.time) Greater Equal)) less

not_later : (key : List ℕ) (x y : Row) → x.key ≡ key → y.key ≡ key → int_lt y.time x.time ≡ false → row_cmp x y ≡ Less → ⊥
not_later key x y is is_too not less = go (int_lt x.time y.time) (sym (ap (λ o. ordering_then o (int_cmp y.time x.time)) (alike_keys key x y is is_too) ∙ ap (λ b. cond b Less (cond (int_lt x.time y.time) Greater Equal)) not) ∙ less)
  where
    go : (b : Bool) → cond b Greater Equal ≡ Less → ⊥
    go true e = cc
    go false e = cc

-- ---- rows by series

each_joined : (P : Row → Type 0) (n : ℕ) (rows : List Row) → Each P (take n rows) → Each P (drop n rows) → Each P rows
each_joined P n rows front back = subst (Each P) (take-append-drop n rows) (each-append P (take n rows) (drop n rows) front back)

-- the first series of rows
pub record IsGroup (run : Run) (rows : List Row) : Type 0 where
  pub some : 1 ≤ run.size
  pub within : run.size ≤ length rows
  pub all : AllOf run.key (take run.size rows)
  pub past : AllPast run.key (drop run.size rows)

-- the series of rows
abbrev pub Grouped : List Run → List Row → Type 0
Grouped [] rows = rows ≡ []
Grouped (run ∷ runs) rows = IsGroup run rows × Grouped runs (drop run.size rows)

group_past : (key : List ℕ) (run : Run) (rows : List Row) → key_cmp key run.key ≡ Less → IsGroup run rows → AllPast key rows
group_past key run rows less group =
    each_joined (λ row. key_cmp key row.key ≡ Less) run.size rows
    (Each-weaker (λ row. row.key ≡ run.key) (λ row. key_cmp key row.key ≡ Less) (λ row is. ap (key_cmp key) is ∙ less) (take run.size rows) group.all)
    (Each-weaker (λ row. key_cmp run.key row.key ≡ Less) (λ row. key_cmp key row.key ≡ Less) (λ row more. nat_list_cmp_total.trans key run.key row.key less more) (drop run.size rows) group.past)

first_key : (n : ℕ) (key : List ℕ) (row : Row) (rows : List Row) → 1 ≤ n → AllOf key (take n (row ∷ rows)) → row.key ≡ key
first_key zero key row rows some all = absurd (omega (arith, some))
first_key (suc n) key row rows some all = all.0

begins_past : (row : Row) (rows : List Row) (run : Run) → (row.key ≡ run.key → ⊥) → AllAfter row rows → IsGroup run rows → AllPast row.key rows
begins_past row [] run other after group = tt
begins_past row (next ∷ rows) run other after group =
    let is : next.key ≡ run.key = first_key run.size run.key next rows group.some group.all in
    group_past row.key run (next ∷ rows) (ap (key_cmp row.key) (sym is) ∙ key_before row next (λ same. other (same ∙ is)) after.0) group

with_row : (row : Row) (rows : List Row) (runs : List Run) → AllAfter row rows → Grouped runs rows → Grouped (with_key row.key runs) (row ∷ rows)
with_row row rows [] after none = (record { some = omega arith; within = omega arith; all = (refl, tt); past = subst (AllPast row.key) (sym none) tt }, none)
with_row row rows (run ∷ runs) after groups = go (bytes_eq row.key run.key) refl
  where
    next : run.size + 1 ≡ suc run.size
    next = omega arith

    go : (b : Bool) → bytes_eq row.key run.key ≡ b → Grouped (cond {A = List Run} b (run_of run.key (run.size + 1) ∷ runs) (run_of row.key 1 ∷ run ∷ runs)) (row ∷ rows)
    go true is = subst (λ n. Grouped (run_of run.key n ∷ runs) (row ∷ rows)) (sym next) (record { some = omega arith; within = omega (arith, groups.0.within); all = (bytes_eq_same row.key run.key is, groups.0.all); past = groups.0.past }, groups.1)
    go false is = (record { some = omega arith; within = omega arith; all = (refl, tt); past = begins_past row rows run (bytes_eq_differ row.key run.key is) after groups.0 }, groups)

pub grouped : (rows : List Row) → AreInRowOrder rows → Grouped (runs_of (row_keys rows)) rows
grouped [] ordered = refl
grouped (row ∷ rows) ordered = with_row row rows (runs_of (row_keys rows)) ordered.0 (grouped rows ordered.1)

-- ---- the series of both

-- the first series of two lists
pub record IsJoint (j : Joint) (xs ys : List Row) : Type 0 where
  pub some : 1 ≤ j.rows.first + j.rows.second
  pub first_within : j.rows.first ≤ length xs
  pub second_within : j.rows.second ≤ length ys
  pub first_all : AllOf j.key (take j.rows.first xs)
  pub second_all : AllOf j.key (take j.rows.second ys)
  pub first_past : AllPast j.key (drop j.rows.first xs)
  pub second_past : AllPast j.key (drop j.rows.second ys)

abbrev pub Jointly : List Joint → List Row → List Row → Type 0
Jointly [] xs ys = (xs ≡ []) × (ys ≡ [])
Jointly (j ∷ js) xs ys = IsJoint j xs ys × Jointly js (drop j.rows.first xs) (drop j.rows.second ys)

pub jointly : (rs ts : List Run) (xs ys : List Row) → Grouped rs xs → Grouped ts ys → Jointly (joined_series rs ts) xs ys
jointly [] [] xs ys first second = (first, second)
jointly [] (t ∷ ts) xs ys first second = (
  record {
    some = omega (arith, second.0.some);
    first_within = omega arith;
    second_within = second.0.within;
    first_all = tt;
    second_all = second.0.all;
    first_past = subst (AllPast t.key) (sym first) tt;
    second_past = second.0.past;
  },
  jointly [] ts xs (drop t.size ys) first second.1,
)
jointly (r ∷ rs) [] xs ys first second = (
  record {
    some = omega (arith, first.0.some);
    first_within = first.0.within;
    second_within = omega arith;
    first_all = first.0.all;
    second_all = tt;
    first_past = first.0.past;
    second_past = subst (AllPast r.key) (sym second) tt;
  },
  jointly rs [] (drop r.size xs) ys first.1 second,
)
jointly (r ∷ rs) (t ∷ ts) xs ys first second = go (key_cmp r.key t.key) refl (jointly rs (t ∷ ts) (drop r.size xs) ys first.1 second) (jointly rs ts (drop r.size xs) (drop t.size ys) first.1 second.1) (jointly (r ∷ rs) ts xs (drop t.size ys) first second.1)
  where
    go : (o : Ordering) → key_cmp r.key t.key ≡ o → Jointly (joined_series rs (t ∷ ts)) (drop r.size xs) ys → Jointly (joined_series rs ts) (drop r.size xs) (drop t.size ys) → Jointly (joined_series (r ∷ rs) ts) xs (drop t.size ys) → Jointly (by_order o (joint r.key r.size 0 ∷ joined_series rs (t ∷ ts)) (joint r.key r.size t.size ∷ joined_series rs ts) (joint t.key 0 t.size ∷ joined_series (r ∷ rs) ts)) xs ys
    go Less is left both right = (
      record {
        some = omega (arith, first.0.some);
        first_within = first.0.within;
        second_within = omega arith;
        first_all = first.0.all;
        second_all = tt;
        first_past = first.0.past;
        second_past = group_past r.key t ys is second.0;
      },
      left,
    )
    go Equal is left both right =
        let same : t.key ≡ r.key = sym (same_key r.key t.key is) in (
          record {
            some = omega (arith, first.0.some);
            first_within = first.0.within;
            second_within = second.0.within;
            first_all = first.0.all;
            second_all = subst (λ k. AllOf k (take t.size ys)) same second.0.all;
            first_past = first.0.past;
            second_past = subst (λ k. AllPast k (drop t.size ys)) same second.0.past;
          },
          both,
        )
    go Greater is left both right = (
      record {
        some = omega (arith, second.0.some);
        first_within = omega arith;
        second_within = second.0.within;
        first_all = tt;
        second_all = second.0.all;
        first_past = group_past t.key r xs (nat_list_cmp_total.antisymm t.key r.key ∙ ap ordering_reverse is) first.0;
        second_past = second.0.past;
      },
      right,
    )

-- how many rows there are
pub firsts_all : (js : List Joint) (xs ys : List Row) → Jointly js xs ys → firsts (rows_of_joints js) ≡ length xs
firsts_all [] xs ys none = sym (ap length none.0)
firsts_all (j ∷ js) xs ys all = omega (arith, firsts_all js (drop j.rows.first xs) (drop j.rows.second ys) all.1, length-drop j.rows.first xs, all.0.first_within)

pub seconds_all : (js : List Joint) (xs ys : List Row) → Jointly js xs ys → seconds (rows_of_joints js) ≡ length ys
seconds_all [] xs ys none = sym (ap length none.1)
seconds_all (j ∷ js) xs ys all = omega (arith, seconds_all js (drop j.rows.first xs) (drop j.rows.second ys) all.1, length-drop j.rows.second ys, all.0.second_within)

-- ---- rows of the first series, and those behind it

first_first : (x : Row) (xs ys : List Row) → AllAfter x ys → merged (x ∷ xs) ys ≡ x ∷ merged xs ys
first_first x xs [] after = ap (λ rows. x ∷ rows) (sym (merged_nothing xs))
first_first x xs (y ∷ ys) after = first_of (row_cmp x y) (x ∷ merged xs (y ∷ ys)) (y ∷ merged (x ∷ xs) ys) after.0

split : (key : List ℕ) (fs gs xs ys : List Row) → AllOf key fs → AllOf key gs → AllPast key xs → AllPast key ys → merged (fs ++ xs) (gs ++ ys) ≡ merged fs gs ++ merged xs ys
split key [] [] xs ys fs_all gs_all xs_past ys_past = refl
split key [] (g ∷ gs) xs ys fs_all gs_all xs_past ys_past = second_first xs g (gs ++ ys) (past_after key g xs gs_all.0 xs_past) ∙ ap (λ rows. g ∷ rows) (split key [] gs xs ys fs_all gs_all.1 xs_past ys_past)
split key (f ∷ fs) [] xs ys fs_all gs_all xs_past ys_past = first_first f (fs ++ xs) ys (past_after key f ys fs_all.0 ys_past) ∙ ap (λ rows. f ∷ rows) (split key fs [] xs ys fs_all.1 gs_all xs_past ys_past ∙ ap (λ rows. rows ++ merged xs ys) (merged_nothing fs))
split key (f ∷ fs) (g ∷ gs) xs ys fs_all gs_all xs_past ys_past = go (row_cmp f g) (split key fs (g ∷ gs) xs ys fs_all.1 gs_all xs_past ys_past) (split key (f ∷ fs) gs xs ys fs_all gs_all.1 xs_past ys_past)
  where
    go : (o : Ordering) → merged (fs ++ xs) (g ∷ gs ++ ys) ≡ merged fs (g ∷ gs) ++ merged xs ys → merged (f ∷ fs ++ xs) (gs ++ ys) ≡ merged (f ∷ fs) gs ++ merged xs ys → by_order o (f ∷ merged (fs ++ xs) (g ∷ gs ++ ys)) (g ∷ merged (f ∷ fs ++ xs) (gs ++ ys)) (g ∷ merged (f ∷ fs ++ xs) (gs ++ ys)) ≡ by_order o (f ∷ merged fs (g ∷ gs)) (g ∷ merged (f ∷ fs) gs) (g ∷ merged (f ∷ fs) gs) ++ merged xs ys
    go Less left right = ap (λ rows. f ∷ rows) left
    go Equal left right = ap (λ rows. g ∷ rows) right
    go Greater left right = ap (λ rows. g ∷ rows) right

-- the sides of one series pick its rows
picked_series : (key : List ℕ) (fs gs xs ys : List Row) (rest : List Side) → AllOf key fs → AllOf key gs → picked (sides_by_time (times_of fs) (times_of gs) ++ rest) (fs ++ xs) (gs ++ ys) ≡ merged fs gs ++ picked rest xs ys
picked_series key [] [] xs ys rest fs_all gs_all = refl
picked_series key [] (g ∷ gs) xs ys rest fs_all gs_all = ap (λ rows. g ∷ rows) (picked_series key [] gs xs ys rest fs_all gs_all.1)
picked_series key (f ∷ fs) [] xs ys rest fs_all gs_all = ap (λ rows. f ∷ rows) (picked_series key fs [] xs ys rest fs_all.1 gs_all ∙ ap (λ rows. rows ++ picked rest xs ys) (merged_nothing fs))
picked_series key (f ∷ fs) (g ∷ gs) xs ys rest fs_all gs_all = go (int_lt g.time f.time) refl (picked_series key fs (g ∷ gs) xs ys rest fs_all.1 gs_all) (picked_series key (f ∷ fs) gs xs ys rest fs_all gs_all.1)
  where
    left_side : List Row
    left_side = f ∷ merged fs (g ∷ gs)

    right_side : List Row
    right_side = g ∷ merged (f ∷ fs) gs

    go : (b : Bool) → int_lt g.time f.time ≡ b → picked (sides_by_time (times_of fs) (times_of (g ∷ gs)) ++ rest) (fs ++ xs) (g ∷ gs ++ ys) ≡ merged fs (g ∷ gs) ++ picked rest xs ys → picked (sides_by_time (times_of (f ∷ fs)) (times_of gs) ++ rest) (f ∷ fs ++ xs) (gs ++ ys) ≡ merged (f ∷ fs) gs ++ picked rest xs ys → picked (cond b (First ∷ sides_by_time (times_of fs) (times_of (g ∷ gs))) (Second ∷ sides_by_time (times_of (f ∷ fs)) (times_of gs)) ++ rest) (f ∷ fs ++ xs) (g ∷ gs ++ ys) ≡ by_order (row_cmp f g) left_side right_side right_side ++ picked rest xs ys
    go true is left right = ap (λ rows. f ∷ rows) left ∙ ap (λ rows. rows ++ picked rest xs ys) (sym (first_of (row_cmp f g) left_side right_side (later key f g fs_all.0 gs_all.0 is)))
    go false is left right = ap (λ rows. g ∷ rows) right ∙ ap (λ rows. rows ++ picked rest xs ys) (sym (second_of (row_cmp f g) left_side right_side (not_later key f g fs_all.0 gs_all.0 is)))

-- the rows of both: those of the first series, and those behind it
series_split : (j : Joint) (xs ys : List Row) → IsJoint j xs ys → merged xs ys ≡ merged (take j.rows.first xs) (take j.rows.second ys) ++ merged (drop j.rows.first xs) (drop j.rows.second ys)
series_split j xs ys is =
    sym (ap (λ rows. merged rows ys) (take-append-drop j.rows.first xs))
    ∙ (sym (ap (λ rows. merged (take j.rows.first xs ++ drop j.rows.first xs) rows) (take-append-drop j.rows.second ys))
    ∙ split j.key (take j.rows.first xs) (take j.rows.second ys) (drop j.rows.first xs) (drop j.rows.second ys) is.first_all is.second_all is.first_past is.second_past)

-- the sides of all series pick the rows of both in row order
pub woven : (js : List Joint) (xs ys : List Row) → Jointly js xs ys → picked (sides_of_series (rows_of_joints js) (times_of xs) (times_of ys)) xs ys ≡ merged xs ys
woven [] xs ys none = rw (none.0, none.1) refl
woven (j ∷ js) xs ys all =
    let n = j.rows.first in
    let m = j.rows.second in
    let rest = rows_of_joints js in
    let time = λ (row : Row). row.time in
    let behind = sides_of_series rest (times_of (drop n xs)) (times_of (drop m ys)) in
    ap (λ ts. picked (sides_by_time ts (take m (times_of ys)) ++ sides_of_series rest (drop n (times_of xs)) (drop m (times_of ys))) xs ys) (take-map time n xs)
    ∙ (ap (λ ts. picked (sides_by_time (times_of (take n xs)) ts ++ sides_of_series rest (drop n (times_of xs)) (drop m (times_of ys))) xs ys) (take-map time m ys)
    ∙ (ap (λ ts. picked (sides_by_time (times_of (take n xs)) (times_of (take m ys)) ++ sides_of_series rest ts (drop m (times_of ys))) xs ys) (drop-map time n xs)
    ∙ (ap (λ ts. picked (sides_by_time (times_of (take n xs)) (times_of (take m ys)) ++ sides_of_series rest (times_of (drop n xs)) ts) xs ys) (drop-map time m ys)
    ∙ (sym (ap (λ rows. picked (sides_by_time (times_of (take n xs)) (times_of (take m ys)) ++ behind) rows ys) (take-append-drop n xs))
    ∙ (sym (ap (λ rows. picked (sides_by_time (times_of (take n xs)) (times_of (take m ys)) ++ behind) (take n xs ++ drop n xs) rows) (take-append-drop m ys))
    ∙ (picked_series j.key (take n xs) (take m ys) (drop n xs) (drop m ys) behind all.0.first_all all.0.second_all
    ∙ (ap (λ rows. merged (take n xs) (take m ys) ++ rows) (woven js (drop n xs) (drop m ys) all.1)
    ∙ sym (series_split j xs ys all.0))))))))

-- ---- the series of the rows of both

front_count : (key : List ℕ) (zs rest : List Row) → AllOf key zs → AllPast key rest → same_in_front key (row_keys (zs ++ rest)) ≡ length zs
front_count key [] [] all past = refl
front_count key [] (r ∷ rest) all past = ap (λ b. cond b (suc (same_in_front key (row_keys rest))) 0) (other_bytes r.key key (λ same. apart key r.key past.0 (sym same)))
front_count key (z ∷ zs) rest all past =
    ap (λ b. cond b (suc (same_in_front key (row_keys (zs ++ rest)))) 0) (ap (λ k. bytes_eq k key) all.0 ∙ bytes_eq_itself key)
    ∙ ap suc (front_count key zs rest all.1 past)

runs_front : (key : List ℕ) (zs rest : List Row) → 1 ≤ length zs → AllOf key zs → AllPast key rest → runs_of (row_keys (zs ++ rest)) ≡ run_of key (length zs) ∷ runs_of (row_keys rest)
runs_front key [] rest some all past = absurd (omega (arith, some))
runs_front key (z ∷ zs) rest some all past =
    first_run z.key (row_keys (zs ++ rest))
    ∙ (ap (λ k. run_of k (suc (same_in_front k (row_keys (zs ++ rest)))) ∷ runs_of (drop (same_in_front k (row_keys (zs ++ rest))) (row_keys (zs ++ rest)))) all.0
    ∙ (ap (λ n. run_of key (suc n) ∷ runs_of (drop n (row_keys (zs ++ rest)))) (front_count key zs rest all.1 past)
    ∙ ap (λ keys. run_of key (suc (length zs)) ∷ runs_of keys) (keys_dropped (length zs) (zs ++ rest) ∙ ap row_keys (drop-append_seam zs rest))))

abbrev pub run_of_joint : Joint → Run
run_of_joint j = run_of j.key (j.rows.first + j.rows.second)

pub joint_runs : (js : List Joint) (xs ys : List Row) → Jointly js xs ys → runs_of (row_keys (merged xs ys)) ≡ map run_of_joint js
joint_runs [] xs ys none = rw (none.0, none.1) refl
joint_runs (j ∷ js) xs ys all =
    let n = j.rows.first in
    let m = j.rows.second in
    let zs = merged (take n xs) (take m ys) in
    let rest = merged (drop n xs) (drop m ys) in
    let long : length zs ≡ n + m = omega (arith, merged_length (take n xs) (take m ys), length-take n xs, length-take m ys, all.0.first_within, all.0.second_within) in
    ap (λ rows. runs_of (row_keys rows)) (series_split j xs ys all.0)
    ∙ (runs_front j.key zs rest (omega (arith, long, all.0.some)) (merged_each (λ row. row.key ≡ j.key) (take n xs) (take m ys) all.0.first_all all.0.second_all) (merged_each (λ row. key_cmp j.key row.key ≡ Less) (drop n xs) (drop m ys) all.0.first_past all.0.second_past)
    ∙ (ap (λ k. run_of j.key k ∷ runs_of (row_keys rest)) long
    ∙ ap (λ runs. run_of j.key (n + m) ∷ runs) (joint_runs js (drop n xs) (drop m ys) all.1)))
