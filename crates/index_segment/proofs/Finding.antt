-- The place of the row of a series and a time.
use Rattle.std.specs.Prelude.{◌≡◌, ℕ, ℤ, pos, zero, suc, ◌≤ℤ◌, ◌<ℤ◌, ◌+◌, ◌-◌, ◌*◌, ◌<◌, ◌≤◌, ◌&&◌, max, nat_lt, not, Bool, true, false, cond, Option, Some, None, List, [], ◌∷◌, length, position, slice_index_or}
use Rattle.std.specs.Int.{div_ceil}
use Rattle.std.specs.List.{slice_get, position_or_len}
use Rattle.std.specs.Ordering.{int_eq}
use Rattle.std.specs.Str.{bytes_eq}
use Rattle.std.specs.Cmp.{signed_Decides}
use Rattle.std.proofs.Common.{refl, ap, sym, subst, ◌∙◌, arith, get_or, lt-ltb}
use Rattle.std.proofs.lemmas.Bool.{le-ltb}
use Rattle.std.proofs.lemmas.Int.{ints}
use Rattle.std.proofs.lemmas.List.{length-map}
use Rattle.std.proofs.lemmas.Option.{slice_get_within}
use Rattle.row_cells.specs.RowLists.{AreInRowOrder}
use Rattle.row_cells.specs.declared.schemas.Schema.{Schema}
use Rattle.column_block.specs.declared.kinds.Values.{Values}
use Rattle.index_segment.specs.Held.{Packs}
use Rattle.index_segment.proofs.Writing.{times_long}
use Rattle.row_cells.specs.declared.rows.Row.{Row}
use Rattle.index_segment.specs.Directory.{row_keys}
use Rattle.index_segment.specs.Looks.{is_at}
use Rattle.index_segment.specs.Order.{NoneIs, Stands}
use Rattle.index_segment.specs.Spelling.{times_of}
use Rattle.index_segment.proofs.Runs.{bytes_eq_itself}
use Rattle.index_segment.proofs.Scanned.{falling, key_at, row_at, time_at}
use Rattle.row_cells.specs.WidenLaws.{other_bytes}
use Rattle.index_segment.proofs.Lists.{by_nat}

-- ---- the first that passes

first_len : {A : Type 0} (p : A → Bool) (xs : List A) (c : ℕ) (x : A) → slice_get xs c ≡ Some x → p x ≡ true → ((k : ℕ) (y : A) → slice_get xs k ≡ Some y → k < c → p y ≡ false) → position_or_len p xs ≡ c
first_len p [] c x there is before = cc
first_len {A} p (y ∷ xs) zero x there is before = ap (λ b. cond {A = ℕ} b (1 + position_or_len p xs) 0) (ap not (ap p same ∙ is))
  where
    same : y ≡ x
    same = cc
first_len p (y ∷ xs) (suc c) x there is before =
    ap (λ b. cond {A = ℕ} b (1 + position_or_len p xs) 0) (ap not (before 0 y refl (omega arith)))
    ∙ (ap (λ n. 1 + n) (first_len p xs c x there is (λ k z at less. before (suc k) z at (omega (arith, less)))) ∙ omega arith)

none_len : {A : Type 0} (p : A → Bool) (xs : List A) → ((k : ℕ) (y : A) → slice_get xs k ≡ Some y → p y ≡ false) → position_or_len p xs ≡ length xs
none_len p [] none = refl
none_len p (y ∷ xs) none =
    ap (λ b. cond {A = ℕ} b (1 + position_or_len p xs) 0) (ap not (none 0 y refl))
    ∙ (ap (λ n. 1 + n) (none_len p xs (λ k z at. none (suc k) z at)) ∙ omega arith)

by_place : {A : Type 0} (p : A → Bool) (xs : List A) (n : ℕ) → position_or_len p xs ≡ n → position p xs ≡ cond (nat_lt n (length xs)) (Some n) None
by_place p xs n is = ap (λ m. cond {A = Option ℕ} (nat_lt m (length xs)) (Some m) None) is

pub position_is : {A : Type 0} (p : A → Bool) (xs : List A) (c : ℕ) (x : A) → slice_get xs c ≡ Some x → p x ≡ true → ((k : ℕ) (y : A) → slice_get xs k ≡ Some y → k < c → p y ≡ false) → position p xs ≡ Some c
position_is p xs c x there is before = by_place p xs c (first_len p xs c x there is before) ∙ ap (λ b. cond {A = Option ℕ} b (Some c) None) (lt-ltb c (length xs) (slice_get_within xs c x there))

pub position_none : {A : Type 0} (p : A → Bool) (xs : List A) → ((k : ℕ) (y : A) → slice_get xs k ≡ Some y → p y ≡ false) → position p xs ≡ None
position_none p xs none = by_place p xs (length xs) (none_len p xs none) ∙ ap (λ b. cond {A = Option ℕ} b (Some (length xs)) None) (le-ltb (length xs) (length xs) (omega arith))

-- ---- the test

module _ (key : List ℕ) (time : ℤ) (r : Row) where
  other_key : (r.key ≡ key → ⊥) → is_at key time r ≡ false
  other_key other = ap (λ b. b && int_eq r.time time) (other_bytes r.key key other)

  other_time : (r.time ≡ time → ⊥) → is_at key time r ≡ false
  other_time other = go (bytes_eq r.key key) (int_eq r.time time) refl
    where
      go : (a b : Bool) → int_eq r.time time ≡ b → a && b ≡ false
      go true true is = absurd (other ((signed_Decides r.time time).0 is))
      go true false is = refl
      go false b is = refl

  the_one : r.key ≡ key → r.time ≡ time → is_at key time r ≡ true
  the_one same at = ap (λ b. b && int_eq r.time time) (ap (λ k. bytes_eq k key) same ∙ bytes_eq_itself key) ∙ (signed_Decides r.time time).1 at

pub none_at : (rows : List Row) (key : List ℕ) (time : ℤ) → NoneIs (row_keys rows) key → position (is_at key time) rows ≡ None
none_at rows key time none = position_none (is_at key time) rows (λ k r there. other_key key time r (λ same. none k (omega (arith, slice_get_within rows k r there, length-map rows (λ row. row.key))) (key_at rows k r there ∙ same)))

module _ (rows : List Row) (key : List ℕ) (time : ℤ) (a b c : ℕ) (in_order : AreInRowOrder rows) (s : Stands (row_keys rows) key a b) where
  abbrev time_of : ℕ → ℤ
  time_of k = get_or (times_of rows) k (pos 0)

  -- the row before the cut has the time
  pub found_at : a < c → c ≤ b → time_of (c - 1) ≡ time → position (is_at key time) rows ≡ Some (c - 1)
  found_at some within is =
      let r = row_at rows (c - 1) (omega (arith, some, within, s.within, length-map rows (λ row. row.key))) in
      position_is (is_at key time) rows (c - 1) r.0 r.1
      (the_one key time r.0 (sym (key_at rows (c - 1) r.0 r.1) ∙ s.inside (c - 1) (omega (arith, some)) (omega (arith, some, within))) (sym (time_at rows (c - 1) r.0 r.1) ∙ is))
      (λ k t there less. by_nat k a
      (λ below. other_key key time t (λ same. s.before k below (key_at rows k t there ∙ same)))
      (λ start. other_time key time t (λ same. later k start less (time_at rows k t there ∙ same))))
    where
      later : (k : ℕ) → a ≤ k → k < c - 1 → time_of k ≡ time → ⊥
      later k start less same = omega (arith, ints, falling rows key a b in_order s k (c - 1) start less (omega (arith, some, within)), is, same)

  -- no row has the time
  pub nothing_at : a ≤ c → c ≤ b → ((k : ℕ) → a ≤ k → k < c → time ≤ℤ time_of k) → ((k : ℕ) → c ≤ k → k < b → time_of k <ℤ time) → (a < c → time_of (c - 1) ≡ time → ⊥) → position (is_at key time) rows ≡ None
  nothing_at low high above below other =
      position_none (is_at key time) rows (λ k t there. by_nat k a
      (λ less. other_key key time t (λ same. s.before k less (key_at rows k t there ∙ same)))
      (λ start. by_nat k b
      (λ end. other_time key time t (λ same. not_here k start end (time_at rows k t there ∙ same)))
      (λ end. other_key key time t (λ same. s.behind k end (omega (arith, slice_get_within rows k t there, length-map rows (λ row. row.key))) (key_at rows k t there ∙ same)))))
    where
      not_here : (k : ℕ) → a ≤ k → k < b → time_of k ≡ time → ⊥
      not_here k start end same = by_nat k c
          (λ less. by_nat k (c - 1)
          (λ earlier. omega (arith, ints, falling rows key a b in_order s k (c - 1) start earlier (omega (arith, less, high)), above (c - 1) (omega (arith, start, earlier)) (omega (arith, less)), same))
          (λ last. other (omega (arith, start, less)) (ap time_of (last_is k less last) ∙ same)))
          (λ from. omega (arith, ints, below k from end, same))
        where
          last_is : (k : ℕ) → k < c → c - 1 ≤ k → c - 1 ≡ k
          last_is k less last = omega (arith, less, last)

-- ---- steps

pub within_four : (q n : ℕ) → q ≤ 4 * max 1 n → 1 ≤ n → q ≤ 4 * n
within_four q n cost some = omega (arith, cost, some)

-- ---- in the times of a segment

module _ (schema : Schema) (rows : List Row) (keys : List (List ℕ)) (starts : List ℕ) (sizes times counts : List ℤ) (columns : List Values) (p : Packs schema rows keys starts sizes times counts columns) (key : List ℕ) (time : ℤ) (a b c : ℕ) (s : Stands (row_keys rows) key a b) where
  pub find_found : a ≤ c → (c ≡ a → ⊥) → c ≤ b → slice_index_or times (c - 1) (pos 0) ≡ time → Some (c - 1) ≡ position (is_at key time) rows
  find_found low other high is = sym (found_at rows key time a b c p.rows_are.in_order s (omega (arith, low, other)) high (ap (λ ts. get_or ts (c - 1) (pos 0)) (sym p.times_are) ∙ is))

  pub find_none : a ≤ c → c ≤ b → ((k : ℕ) → a ≤ k → k < c → time ≤ℤ slice_index_or times k (pos 0)) → ((k : ℕ) → c ≤ k → k < b → slice_index_or times k (pos 0) <ℤ time) → (a < c → slice_index_or times (c - 1) (pos 0) ≡ time → ⊥) → None ≡ position (is_at key time) rows
  find_none low high above below other =
      let t = p.times_are in
      sym (nothing_at rows key time a b c p.rows_are.in_order s low high
      (λ k x y. subst (λ ts. time ≤ℤ get_or ts k (pos 0)) t (above k x y))
      (λ k x y. subst (λ ts. get_or ts k (pos 0) <ℤ time) t (below k x y))
      (λ some same. other some (ap (λ ts. get_or ts (c - 1) (pos 0)) t ∙ same)))

  pub find_cost : (q : ℕ) → q ≤ 4 * max 1 (div_ceil (length times) 128) → 1 ≤ div_ceil (length rows) 128 → q ≤ 4 * div_ceil (length rows) 128
  find_cost q cost some = within_four q (div_ceil (length rows) 128) (subst (λ n. q ≤ 4 * max 1 (div_ceil n 128)) (times_long schema rows keys starts sizes times counts columns p) cost) some
