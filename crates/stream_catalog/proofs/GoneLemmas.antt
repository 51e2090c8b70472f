-- Catalogues stay sound without a stream, and without an index.
use Rattle.std.specs.Prelude.{◌≡◌, ℕ, suc, ◌+◌, ◌≤◌, ◌||◌, Bool, not, true, false, cond, List, [], ◌∷◌, ◌++◌, map, filter, Option, Some, None, if◌then◌else◌, bytes_eq}
use Rattle.std.specs.List.{flat_map, find, list_any}
use Rattle.std.proofs.Common.{refl, ap, ◌∙◌, sym, subst, arith}
use Rattle.std.proofs.lemmas.List.{length-map}
use Rattle.row_cells.specs.Each.{Each}
use Rattle.row_cells.specs.EachLaws.{Each-weaker, Each-both, Each-filter}
use Rattle.downsample_fold.specs.Laws.{KeysAscend}
use Rattle.stream_catalog.specs.declared.answers.Refusal.TheVariants.{NoSuchName}
use Rattle.stream_catalog.specs.declared.facts.HeldIndex.{HeldIndex}
use Rattle.stream_catalog.specs.declared.facts.TaskFacts.{TaskFacts}
use Rattle.stream_catalog.specs.Plain.{PlainStream, PlainCatalog, PlainFacts, facts_of}
use Rattle.stream_catalog.specs.Lists.{on_found, with_found, without, stream_name, index_name, stream_named, facts_named, index_named}
use Rattle.stream_catalog.specs.Streams.{has_member, is_write}
use Rattle.stream_catalog.specs.Indices.{index_deleted, task_index, without_member, write_fault}
use Rattle.stream_catalog.specs.Laws.{StreamDeletionsKeepSound, DeletionsKeepSound}
use Rattle.stream_catalog.specs.Sound.{times, IsStreamSound, IsIndexSound, IsUnderWay, AreFactsSound, IsSoundCatalog}
use Rattle.stream_catalog.proofs.NamedLemmas.{none_not_some, none_found, some_is, filter-map_alike}
use Rattle.stream_catalog.proofs.CountLemmas.{bytes_eq-sym, bytes_eq-itself, times-append, times-filter, length-filter, ascend_filter, other_head}
use Rattle.stream_catalog.proofs.AddedLemmas.{each_map}
use Rattle.stream_catalog.proofs.FoldedLemmas.{none_map}
use Rattle.stream_catalog.proofs.KeptLemmas.{each_passes, named_kept, times-kept, have_time, shorter_stream, kept_stream, fewer, AreFewer, fewer_sound}

-- ---- a catalogue with fewer indices and tasks

pub fewer_catalog : (c : PlainCatalog) (stays : List ℕ → Bool) (ss : List PlainStream) (kept : TaskFacts → Bool) →
    Each (IsStreamSound (fewer (facts_of c) stays ss kept)) ss → AreFewer c.streams ss → Each (λ t. stays t.index ≡ true) (filter kept c.tasks) → IsSoundCatalog c →
    IsSoundCatalog (record c { streams = ss; indices = filter (λ i. stays i.facts.name) c.indices; tasks = filter kept c.tasks })
fewer_catalog c stays ss kept streams less left sound = record {
  facts = subst (λ fs. AreFactsSound (record (facts_of c) { streams = ss; indices = fs; tasks = filter kept c.tasks }))
      (sym (filter-map_alike (λ i. i.facts) (λ i. stays i.facts.name) (λ (i : HeldIndex). stays i.name) (λ i. refl) c.indices))
      (fewer_sound (facts_of c) stays ss kept streams less left sound.facts);
  indices = Each-filter IsIndexSound (λ i. stays i.facts.name) c.indices sound.indices;
  tasks = Each-both (λ t. IsUnderWay t.done (index_named t.index c.indices)) (λ t. stays t.index ≡ true) (λ t. IsUnderWay t.done (index_named t.index (filter (λ i. stays i.facts.name) c.indices)))
      (λ t way stay. subst (IsUnderWay t.done) (sym (named_kept index_name stays t.index c.indices stay)) way) (filter kept c.tasks)
      (Each-filter (λ t. IsUnderWay t.done (index_named t.index c.indices)) kept c.tasks sound.tasks) left;
}

-- ---- members of streams

abbrev pub all_members : List PlainStream → List (List ℕ)
all_members ss = flat_map (λ s. s.facts.members) ss

-- fewer streams have fewer members
members-filter : (test : PlainStream → Bool) (n : List ℕ) (ss : List PlainStream) → times n (all_members (filter test ss)) ≤ times n (all_members ss)
members-filter test n [] = omega arith
members-filter test n (s ∷ ss) = by_test (test s) (members-filter test n ss)
  where
    by_test : (b : Bool) → times n (all_members (filter test ss)) ≤ times n (all_members ss) → times n (all_members (cond b (s ∷ filter test ss) (filter test ss))) ≤ times n (s.facts.members ++ all_members ss)
    by_test true later =
        let some = times-append n s.facts.members (all_members (filter test ss)) in
        let all = times-append n s.facts.members (all_members ss) in
        omega (arith, some, all, later)
    by_test false later = let all = times-append n s.facts.members (all_members ss) in omega (arith, all, later)

-- the members of a stream, and of those that are left without it
pub members_apart : (n name : List ℕ) (ss : List PlainStream) (s : PlainStream) → stream_named name ss ≡ Some s → times n s.facts.members + times n (all_members (without stream_name name ss)) ≤ times n (all_members ss)
members_apart n name [] s found = absurd (none_not_some found)
members_apart n name (x ∷ xs) s found = by_test (bytes_eq x.facts.name name) found (members_apart n name xs s)
  where
    by_test : (b : Bool) → (if b then Some x else stream_named name xs) ≡ Some s
        → (stream_named name xs ≡ Some s → times n s.facts.members + times n (all_members (without stream_name name xs)) ≤ times n (all_members xs))
        → times n s.facts.members + times n (all_members (cond (not b) (x ∷ without stream_name name xs) (without stream_name name xs))) ≤ times n (x.facts.members ++ all_members xs)
    by_test true found later =
        let mine : times n x.facts.members ≡ times n s.facts.members = ap (λ (y : PlainStream). times n y.facts.members) (some_is found) in
        let rest = members-filter (λ y. not (bytes_eq (stream_name y) name)) n xs in
        let all = times-append n x.facts.members (all_members xs) in
        omega (arith, mine, rest, all)
    by_test false found later =
        let less = later found in
        let some = times-append n x.facts.members (all_members (without stream_name name xs)) in
        let all = times-append n x.facts.members (all_members xs) in
        omega (arith, less, some, all)

-- each element is counted
pub counted_all : (ms : List (List ℕ)) → Each (λ m. 1 ≤ times m ms) ms
counted_all [] = tt
counted_all (x ∷ xs) = (here (bytes_eq x x) (bytes_eq-itself x), Each-weaker (λ m. 1 ≤ times m xs) (λ m. 1 ≤ times m (x ∷ xs)) (λ m some. more (bytes_eq x m) (times m xs) some) xs (counted_all xs))
  where
    here : (b : Bool) → b ≡ true → 1 ≤ (if b then suc (times x xs) else times x xs)
    here true is = omega arith
    here false is = cc

    more : (b : Bool) (k : ℕ) → 1 ≤ k → 1 ≤ (if b then suc k else k)
    more true k some = omega arith
    more false k some = some

pub none_any : (n : List ℕ) (xs : List (List ℕ)) → times n xs ≡ 0 → list_any (bytes_eq n) xs ≡ false
none_any n [] none = refl
none_any n (x ∷ xs) none =
    let other = other_head n x xs none in
    ap (λ b. b || list_any (bytes_eq n) xs) (bytes_eq-sym n x ∙ other.0) ∙ none_any n xs other.1

-- streams that share no member with a list
others_stay : (gone : List (List ℕ)) (zs : List PlainStream) → ((n : List ℕ) → times n gone + times n (all_members zs) ≤ 1) → Each (λ z. Each (λ m. not (list_any (bytes_eq m) gone) ≡ true) z.facts.members) zs
others_stay gone [] once = tt
others_stay gone (z ∷ zs) once = (
  Each-weaker (λ m. 1 ≤ times m z.facts.members) (λ m. not (list_any (bytes_eq m) gone) ≡ true)
      (λ m some. ap not (none_any m gone (absent m some))) z.facts.members (counted_all z.facts.members),
  others_stay gone zs (λ n. let all = once n in let both = times-append n z.facts.members (all_members zs) in omega (arith, all, both)),
)
  where
    absent : (m : List ℕ) → 1 ≤ times m z.facts.members → times m gone ≡ 0
    absent m some = let all = once m in let both = times-append m z.facts.members (all_members zs) in omega (arith, some, all, both)

-- ---- without a stream

pub stream_deletions_keep_sound : StreamDeletionsKeepSound
stream_deletions_keep_sound c name sound = by_found (stream_named name c.streams) refl
  where
    by_found : (o : Option PlainStream) → stream_named name c.streams ≡ o → IsSoundCatalog (with_found o c (λ s. record c {
      streams = without stream_name name c.streams;
      indices = filter (λ i. not (has_member s i.facts.name)) c.indices;
      tasks = filter (λ t. not (has_member s t.index)) c.tasks;
    }))
    by_found None found = sound
    by_found (Some s) found =
        let f = facts_of c in
        let ss = without stream_name name c.streams in
        let test : PlainStream → Bool = λ z. not (bytes_eq (stream_name z) name) in
        let stays : List ℕ → Bool = λ n. not (has_member s n) in
        let kept : TaskFacts → Bool = λ t. not (has_member s t.index) in
        fewer_catalog c stays ss kept
        (Each-both (IsStreamSound f) (λ z. Each (λ m. stays m ≡ true) z.facts.members) (IsStreamSound (fewer f stays ss kept)) (λ z is each. kept_stream f stays ss kept z each is) ss
        (Each-filter (IsStreamSound f) test c.streams sound.facts.streams)
        (others_stay s.facts.members ss (λ n. let apart = members_apart n name c.streams s found in let once = sound.facts.members_once n in omega (arith, apart, once))))
        (record {
          ascend = ascend_filter stream_name test c.streams sound.facts.stream_order;
          names = λ n. times-filter stream_name test n c.streams;
          members = λ n. members-filter test n c.streams;
          few = length-filter stream_name test c.streams;
        })
        (each_passes kept c.tasks) sound

-- ---- without an index

names-shorter : (n : List ℕ) (ss : List PlainStream) → map stream_name (map (without_member n) ss) ≡ map stream_name ss
names-shorter n [] = refl
names-shorter n (s ∷ ss) = ap (λ ns. s.facts.name ∷ ns) (names-shorter n ss)

members-shorter : (n m : List ℕ) (ss : List PlainStream) → times m (all_members (map (without_member n) ss)) ≤ times m (all_members ss)
members-shorter n m [] = omega arith
members-shorter n m (s ∷ ss) =
    let here = times-kept (λ k. not (bytes_eq k n)) m s.facts.members in
    let later = members-shorter n m ss in
    let some = times-append m (filter (λ k. not (bytes_eq k n)) s.facts.members) (all_members (map (without_member n) ss)) in
    let all = times-append m s.facts.members (all_members ss) in
    omega (arith, here, later, some, all)

-- an index that is no stream's write index
pub index_deleted-sound : (c : PlainCatalog) (n : List ℕ) → Each (λ s. is_write s n ≡ false) c.streams → IsSoundCatalog c → IsSoundCatalog (index_deleted c n)
index_deleted-sound c n others sound =
    let f = facts_of c in
    let ss = map (without_member n) c.streams in
    let stays : List ℕ → Bool = λ m. not (bytes_eq m n) in
    let kept : TaskFacts → Bool = λ t. not (bytes_eq (task_index t) n) in
    let names = names-shorter n c.streams in
    fewer_catalog c stays ss kept
    (each_map (without_member n) (IsStreamSound (fewer f stays ss kept)) c.streams
    (Each-both (IsStreamSound f) (λ s. is_write s n ≡ false) (λ s. IsStreamSound (fewer f stays ss kept) (without_member n s))
    (λ s is other. kept_stream f stays ss kept (without_member n s) (each_passes stays s.facts.members) (shorter_stream f n s (have_time f sound.facts.indices) other is))
    c.streams sound.facts.streams others))
    (record {
      ascend = subst KeysAscend (sym names) sound.facts.stream_order;
      names = λ m. let same : times m (map stream_name ss) ≡ times m (map stream_name c.streams) = ap (times m) names in omega (arith, same);
      members = λ m. members-shorter n m c.streams;
      few = let same = length-map c.streams (without_member n) in omega (arith, same);
    })
    (each_passes kept c.tasks) sound

pub not_written : (f : PlainFacts) (n : List ℕ) → write_fault f n ≡ None → Each (λ s. is_write s n ≡ false) f.streams
not_written f n none = none_found (λ s. is_write s n) f.streams (none_map _ (find (λ s. is_write s n) f.streams) none)

pub deletions_keep_sound : DeletionsKeepSound
deletions_keep_sound c n sound none = index_deleted-sound c n (not_written (facts_of c) n (by_found (facts_named n (facts_of c).indices) none)) sound
  where
    by_found : (o : Option HeldIndex) → on_found o (NoSuchName n) (λ i. write_fault (facts_of c) n) ≡ None → write_fault (facts_of c) n ≡ None
    by_found None none = absurd (none_not_some (sym none))
    by_found (Some i) none = none
