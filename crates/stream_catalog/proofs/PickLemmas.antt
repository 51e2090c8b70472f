-- Which member's window has a time: the last one that has begun, if any.
use Rattle.std.specs.Prelude.{◌≡◌, ℕ, zero, suc, cond, ℤ, ◌≤ℤ◌, ◌<ℤ◌, ◌≤◌, ◌<◌, int_le, int_lt, T, Bool, true, false, ◌&&◌, List, [], ◌∷◌, map, length, Option, Some, None, Result, Ok, Err, if◌then◌else◌}
use Rattle.std.specs.List.{cons_option, filter_map, find}
use Rattle.std.specs.Option.{option_map}
use Rattle.std.proofs.Common.{refl, ap, ◌∙◌, sym, arith, get_or}
use Rattle.std.proofs.Math.Bool.{and-false}
use Rattle.std.proofs.lemmas.Bool.{both_ways}
use Rattle.std.proofs.lemmas.Int.{ints}
use Rattle.stream_catalog.specs.declared.answers.PickError.{PickError}
use Rattle.stream_catalog.specs.declared.answers.PickError.TheVariants.{Blocked}
use Rattle.stream_catalog.specs.declared.facts.HeldIndex.{HeldIndex}
use Rattle.stream_catalog.specs.declared.held_rows.HeldRows.{HeldRows}
use Rattle.stream_catalog.specs.Beside.{IsHeldCatalog, catalog_of}
use Rattle.stream_catalog.specs.Calls.{HasFacts}
use Rattle.stream_catalog.specs.Lists.{facts_named, index_named, stream_name, stream_named}
use Rattle.stream_catalog.specs.Picks.{AreWindows, begun_of, has_begun, having, open_at, taken_by, window_at}
use Rattle.stream_catalog.specs.Plain.{PlainCatalog, PlainFacts, PlainIndex, PlainStream, facts_of}
use Rattle.stream_catalog.specs.Puts.{has_time, member_at, picked_by, picked_from}
use Rattle.stream_catalog.specs.Sound.{EndsBefore, IsStreamSound, WindowsFollow}
use Rattle.stream_catalog.proofs.ChangeLemmas.{facts_named-facts}
use Rattle.stream_catalog.proofs.HeldChangeLemmas.{facts_same}
use Rattle.stream_catalog.proofs.HeldLemmas.{facts_sound}
use Rattle.stream_catalog.proofs.KeptLemmas.{follows_tail, have_time}
use Rattle.stream_catalog.proofs.NamedLemmas.{each_found}
use Rattle.stream_catalog.proofs.PutLemmas.{from_le, from_lt}

-- ---- tests of signed numbers

test_true : (b : Bool) → T b → b ≡ true
test_true true holds = refl
test_true false holds = absurd holds

le_true : (a b : ℤ) → a ≤ℤ b → int_le a b ≡ true
le_true a b le = test_true (int_le a b) le.le

meets_not : (a b : ℤ) → b ≤ℤ a → a <ℤ b → ⊥
meets_not a b le less = omega (arith, ints, le, less)

lt_false : (a b : ℤ) → b ≤ℤ a → int_lt a b ≡ false
lt_false a b le = by_test (int_lt a b) refl
  where
    by_test : (c : Bool) → int_lt a b ≡ c → int_lt a b ≡ false
    by_test true is = absurd (meets_not a b le (from_lt a b is))
    by_test false is = is

begins_sooner : (a b c t : ℤ) → a <ℤ b → b ≤ℤ c → c ≤ℤ t → a ≤ℤ t
begins_sooner a b c t some ends begun = omega (arith, ints, some, ends, begun)

ends_sooner : (b c t : ℤ) → b ≤ℤ c → c ≤ℤ t → b ≤ℤ t
ends_sooner b c t ends begun = omega (arith, ints, ends, begun)

-- ---- windows before one that has begun

module _ (t : ℤ) where
  begun_before : (a b : Option HeldIndex) → ((i : HeldIndex) → a ≡ Some i → i.start <ℤ i.end) → EndsBefore a b → has_begun t b ≡ true → has_begun t a ≡ true
  begun_before None b some ends begun = absurd ends
  begun_before (Some a) None some ends begun = absurd ends
  begun_before (Some a) (Some b) some ends begun = le_true a.start t (begins_sooner a.start a.end b.start t (some a refl) ends (from_le b.start t begun))

  -- one that ends there doesn't have the time
  ended : (a b later : Option HeldIndex) → EndsBefore a b → has_begun t b ≡ true → having t a later ≡ later
  ended None b later ends begun = refl
  ended (Some a) None later ends begun = absurd ends
  ended (Some a) (Some b) later ends begun =
      let past : int_lt t a.end ≡ false = lt_false t a.end (ends_sooner a.end b.start t ends (from_le b.start t begun)) in
      ap (λ c. if int_le a.start t && c then Some a else later) past ∙ ap (λ c. if c then Some a else later) (and-false (int_le a.start t))

  -- nor does one that hasn't begun
  to_begin : (a later : Option HeldIndex) → has_begun t a ≡ false → having t a later ≡ later
  to_begin None later other = refl
  to_begin (Some a) later other = ap (λ c. if c && int_lt t a.end then Some a else later) other

  last_one : (a later : Option HeldIndex) → has_begun t a ≡ true → later ≡ None → having t a later ≡ open_at t a
  last_one None later begun none = absurd (both_ways false refl begun)
  last_one (Some a) later begun none = ap (λ c. if c && int_lt t a.end then Some a else later) begun ∙ ap (λ o. if int_lt t a.end then Some a else o) none

module _ (is : List HeldIndex) (t : ℤ) (some : (m : List ℕ) (i : HeldIndex) → facts_named m is ≡ Some i → i.start <ℤ i.end) where
  abbrev look : List ℕ → Option HeldIndex
  look m = facts_named m is

  pub begun_within : (ms : List (List ℕ)) → begun_of is t ms ≤ length ms
  begun_within [] = omega arith
  begun_within (m ∷ ms) = by_test (has_begun t (look m)) (begun_within ms)
    where
      by_test : (b : Bool) → begun_of is t ms ≤ length ms → (if b then suc (begun_of is t ms) else 0) ≤ suc (length ms)
      by_test true later = omega (arith, later)
      by_test false later = omega arith

  -- their number is no greater than the place of one that hasn't begun
  pub begun_upto : (ms : List (List ℕ)) (k : ℕ) (d : List ℕ) → k < length ms → has_begun t (look (get_or ms k d)) ≡ false → begun_of is t ms ≤ k
  begun_upto [] k d within other = absurd (omega (arith, within))
  begun_upto (m ∷ ms) zero d within other = rw other (omega arith)
  begun_upto (m ∷ ms) (suc k) d within other = by_test (has_begun t (look m)) (begun_upto ms k d (omega (arith, within)) other)
    where
      by_test : (b : Bool) → begun_of is t ms ≤ k → (if b then suc (begun_of is t ms) else 0) ≤ suc k
      by_test true later = omega (arith, later)
      by_test false later = omega arith

  head_begun : (m : List ℕ) (ms : List (List ℕ)) → 0 < begun_of is t (m ∷ ms) → has_begun t (look m) ≡ true
  head_begun m ms more = by_test (has_begun t (look m)) more
    where
      by_test : (b : Bool) → 0 < (if b then suc (begun_of is t ms) else 0) → b ≡ true
      by_test true more = refl
      by_test false more = absurd (omega (arith, more))

  tail_begun : (m : List ℕ) (ms : List (List ℕ)) (k : ℕ) → begun_of is t (m ∷ ms) ≡ suc k → begun_of is t ms ≡ k
  tail_begun m ms k count = by_test (has_begun t (look m)) count
    where
      by_test : (b : Bool) → (if b then suc (begun_of is t ms) else 0) ≡ suc k → begun_of is t ms ≡ k
      by_test true count = omega (arith, count)
      by_test false count = absurd (omega (arith, count))

  -- and greater than that of one that has
  pub begun_past : (ms : List (List ℕ)) (k : ℕ) (d : List ℕ) → WindowsFollow (map look ms) → k < length ms → has_begun t (look (get_or ms k d)) ≡ true → k < begun_of is t ms
  begun_past [] k d follow within begun = absurd (omega (arith, within))
  begun_past (m ∷ ms) zero d follow within begun = rw begun (omega arith)
  begun_past (m ∷ []) (suc k) d follow within begun = absurd (omega (arith, within))
  begun_past (m ∷ n ∷ ns) (suc k) d follow within begun =
      let later : k < begun_of is t (n ∷ ns) = begun_past (n ∷ ns) k d follow.1 (omega (arith, within)) begun in
      let first : has_begun t (look m) ≡ true = begun_before t (look m) (look n) (some m) follow.0 (head_begun n ns (omega (arith, later))) in
      one_more (begun_of is t (n ∷ ns)) first later
    where
      one_more : (count : ℕ) → has_begun t (look m) ≡ true → k < count → suc k < (if has_begun t (look m) then suc count else 0)
      one_more count first later = rw first (omega (arith, later))

  -- ---- the last window that has begun is the one that may have the time

  none_later : (m : List ℕ) (ms : List (List ℕ)) → WindowsFollow (map look (m ∷ ms)) → has_begun t (look m) ≡ false → begun_of is t ms ≡ 0
  none_later m [] follow other = refl
  none_later m (n ∷ ns) follow other = by_test (has_begun t (look n)) refl
    where
      by_test : (b : Bool) → has_begun t (look n) ≡ b → (if b then suc (begun_of is t ns) else 0) ≡ 0
      by_test true begun = absurd (both_ways (has_begun t (look m)) other (begun_before t (look m) (look n) (some m) follow.0 begun))
      by_test false begun = refl

  not_begun : (m : List ℕ) (ms : List (List ℕ)) → begun_of is t (m ∷ ms) ≡ 0 → has_begun t (look m) ≡ false
  not_begun m ms none = by_test (has_begun t (look m)) none
    where
      by_test : (b : Bool) → (if b then suc (begun_of is t ms) else 0) ≡ 0 → b ≡ false
      by_test true none = absurd (omega (arith, none))
      by_test false none = refl

  pub picks_none : (ms : List (List ℕ)) → WindowsFollow (map look ms) → begun_of is t ms ≡ 0 → window_at is t ms ≡ None
  picks_none [] follow none = refl
  picks_none (m ∷ ms) follow none =
      let other = not_begun m ms none in
      to_begin t (look m) (window_at is t ms) other ∙ picks_none ms (follows_tail is some m ms follow) (none_later m ms follow other)

  passes : (m : List ℕ) (ms : List (List ℕ)) (k : ℕ) → WindowsFollow (map look (m ∷ ms)) → begun_of is t ms ≡ suc k → having t (look m) (window_at is t ms) ≡ window_at is t ms
  passes m [] k follow count = absurd (omega (arith, count))
  passes m (n ∷ ns) k follow count = ended t (look m) (look n) (window_at is t (n ∷ ns)) follow.0 (head_begun n ns (omega (arith, count)))

  pub picks_last : (ms : List (List ℕ)) (k : ℕ) (d : List ℕ) → WindowsFollow (map look ms) → begun_of is t ms ≡ suc k →
      window_at is t ms ≡ open_at t (look (get_or ms k d))
  picks_last [] k d follow count = absurd (omega (arith, count))
  picks_last (m ∷ ms) zero d follow count =
      last_one t (look m) (window_at is t ms) (head_begun m ms (omega (arith, count))) (picks_none ms (follows_tail is some m ms follow) (tail_begun m ms 0 count))
  picks_last (m ∷ ms) (suc k) d follow count =
      let rest = tail_begun m ms (suc k) count in
      passes m ms k follow rest ∙ picks_last ms k d (follows_tail is some m ms follow) rest

-- ---- what is picked of a catalogue

window_plain : (c : PlainCatalog) (t : ℤ) (ms : List (List ℕ)) →
    window_at (facts_of c).indices t ms ≡ option_map (λ (p : PlainIndex). p.facts) (find (λ p. has_time p.facts t) (filter_map (λ n. index_named n c.indices) ms))
window_plain c t [] = refl
window_plain c t (m ∷ ms) =
    ap (λ o. having t o (window_at (facts_of c).indices t ms)) (facts_named-facts m c.indices) ∙ by_found (index_named m c.indices) (window_plain c t ms)
  where
    by_found : (o : Option PlainIndex) → window_at (facts_of c).indices t ms ≡ option_map (λ (p : PlainIndex). p.facts) (find (λ p. has_time p.facts t) (filter_map (λ n. index_named n c.indices) ms)) →
        having t (option_map (λ (p : PlainIndex). p.facts) o) (window_at (facts_of c).indices t ms)
        ≡ option_map (λ (p : PlainIndex). p.facts) (find (λ p. has_time p.facts t) (cons_option o (filter_map (λ n. index_named n c.indices) ms)))
    by_found None later = later
    by_found (Some p) later = by_test (has_time p.facts t) later
      where
        by_test : (b : Bool) → window_at (facts_of c).indices t ms ≡ option_map (λ (q : PlainIndex). q.facts) (find (λ q. has_time q.facts t) (filter_map (λ n. index_named n c.indices) ms)) →
            (if b then Some p.facts else window_at (facts_of c).indices t ms)
            ≡ option_map (λ (q : PlainIndex). q.facts) (cond b (Some p) (find (λ q. has_time q.facts t) (filter_map (λ n. index_named n c.indices) ms)))
        by_test true later = refl
        by_test false later = later

picked_facts : (o : Option PlainIndex) (i : HeldIndex) → taken_by (option_map (λ (p : PlainIndex). p.facts) o) ≡ Ok i → HasFacts (picked_from o) i
picked_facts None i is = cc
picked_facts (Some p) i is = by_test p.facts.blocked is
  where
    by_test : (b : Bool) → ◌≡◌ {A = Result HeldIndex PickError} (if b then Err Blocked else Ok p.facts) (Ok i) → HasFacts (if b then Err Blocked else Ok p) i
    by_test true is = cc
    by_test false is = cc

picked_error : (o : Option PlainIndex) (e : PickError) → taken_by (option_map (λ (p : PlainIndex). p.facts) o) ≡ Err e → picked_from o ≡ Err e
picked_error None e is = ap (λ (d : PickError). Err d) (cc)
picked_error (Some p) e is = by_test p.facts.blocked is
  where
    by_test : (b : Bool) → ◌≡◌ {A = Result HeldIndex PickError} (if b then Err Blocked else Ok p.facts) (Err e) → ◌≡◌ {A = Result PlainIndex PickError} (if b then Err Blocked else Ok p) (Err e)
    by_test true is = cc
    by_test false is = cc

module _ (c : PlainCatalog) (s : PlainStream) (t : ℤ) where
  pub picked_index : (i : HeldIndex) → taken_by (window_at (facts_of c).indices t s.facts.members) ≡ Ok i → HasFacts (picked_by c s t) i
  picked_index i is = picked_facts (member_at c t s) i (ap taken_by (sym (window_plain c t s.facts.members)) ∙ is)

  pub picked_refused : (e : PickError) → taken_by (window_at (facts_of c).indices t s.facts.members) ≡ Err e → picked_by c s t ≡ Err e
  picked_refused e is = picked_error (member_at c t s) e (ap taken_by (sym (window_plain c t s.facts.members)) ∙ is)

-- ---- what a search reads

-- the test of a member at a place
pub begun_told : (is : List HeldIndex) (t u : ℤ) (ms : List (List ℕ)) (at : ℕ) (m : List ℕ) (b : Bool) → u ≡ t → b ≡ has_begun u (facts_named m is) → m ≡ get_or ms at m → has_begun t (facts_named (get_or ms at m) is) ≡ b
begun_told is t u ms at m b same tested there = sym (tested ∙ (ap (λ v. has_begun v (facts_named m is)) same ∙ ap (λ n. has_begun t (facts_named n is)) there))

-- the last window that has begun
pub opened : (is : List HeldIndex) (t u : ℤ) (ms : List (List ℕ)) (begun place : ℕ) (m : List ℕ) (o : Option HeldIndex) → AreWindows is ms → u ≡ t → begun ≡ begun_of is u ms → begun ≡ suc place → m ≡ get_or ms place m →
    o ≡ open_at u (facts_named m is) → o ≡ window_at is t ms
opened is t u ms begun place m o windows same count more there told =
    told ∙ (ap (λ v. open_at v (facts_named m is)) same
    ∙ (ap (λ n. open_at t (facts_named n is)) there ∙ sym (picks_last is t windows.some ms place m windows.follow (ap (λ v. begun_of is v ms) (sym same) ∙ (sym count ∙ more)))))

-- the windows of a stream
pub windows_held : (f : PlainFacts) (xs : List HeldRows) (c : PlainCatalog) (s : PlainStream) → IsHeldCatalog f xs → catalog_of f xs ≡ c → stream_named (stream_name s) c.streams ≡ Some s → AreWindows f.indices s.facts.members
windows_held f xs c s held view found =
    let sound = facts_sound f xs held in
    record {
      some = have_time f sound.indices;
      follow = (each_found stream_name (IsStreamSound f) (stream_name s) f.streams s (ap (λ (d : PlainCatalog). stream_named (stream_name s) d.streams) view ∙ found) sound.streams).windows;
    }

pub told_pick : (f : PlainFacts) (xs : List HeldRows) (c : PlainCatalog) (s : PlainStream) (t u : ℤ) → IsHeldCatalog f xs → catalog_of f xs ≡ c → u ≡ t →
    taken_by (window_at (facts_of c).indices t s.facts.members) ≡ taken_by (window_at f.indices u s.facts.members)
told_pick f xs c s t u held view same =
    ap (λ (g : PlainFacts). taken_by (window_at g.indices t s.facts.members)) (sym (facts_same f xs c held view)) ∙ ap (λ v. taken_by (window_at f.indices v s.facts.members)) (sym same)
