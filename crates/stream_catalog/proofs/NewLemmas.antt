-- Catalogues stay sound with a new stream, and with a new write index.
use Rattle.std.specs.Prelude.{◌≡◌, ℕ, suc, ℤ, ◌+ℤ◌, ◌≤◌, ◌<◌, ◌<ℤ◌, Bool, not, true, false, nat_le, codes, List, [], ◌∷◌, ◌++◌, map, length, Option, Some, None, if◌then◌else◌, bytes_eq}
use Rattle.std.specs.Option.{is_some}
use Rattle.std.specs.Ordering.{is_le, nat_cmp}
use Rattle.std.specs.Cmp.Lexicographic.{slice_cmp}
use Rattle.std.proofs.Common.{refl, ap, ◌∙◌, sym, subst, arith, inl, inr, length-append}
use Rattle.std.proofs.lemmas.Bool.{leb-false, false_from_ne_true}
use Rattle.std.proofs.lemmas.Slice.Eq.{bytes_eq-Decides}
use Rattle.row_cells.specs.declared.schemas.Field.{Field}
use Rattle.row_cells.specs.Dimensions.{IsBefore}
use Rattle.row_cells.specs.Each.{Each}
use Rattle.row_cells.specs.EachLaws.{Each-weaker, Each-both}
use Rattle.row_cells.specs.Fitting.{FieldsAscendAfter}
use Rattle.row_cells.specs.Joining.{FieldsAgree}
use Rattle.row_cells.specs.JoinLaws.{in_after}
use Rattle.row_cells.specs.WidenLaws.{apart}
use Rattle.time_text.specs.Instant.{IsInstant}
use Rattle.downsample_fold.specs.Laws.{KeysAscend}
use Rattle.index_names.specs.Backing.{backing_name, behind_stream, is_reserved}
use Rattle.lifecycle_swap.specs.Ends.{end_after}
use Rattle.ts_mapping.specs.declared.templates.Template.{Template}
use Rattle.ts_mapping.specs.FactLaws.{mapping_is}
use Rattle.ts_mapping.specs.Facts.{IsTemplate}
use Rattle.stream_catalog.specs.declared.answers.Refusal.{Refusal}
use Rattle.stream_catalog.specs.declared.answers.Refusal.TheVariants.{NameTaken, NoTemplate, Reserved, Limit}
use Rattle.stream_catalog.specs.declared.answers.What.TheVariants.{Streams, Indices}
use Rattle.stream_catalog.specs.Plain.{PlainIndex, PlainStream, PlainCatalog, PlainFacts, facts_of}
use Rattle.stream_catalog.specs.Lists.{when, with_found, found_by, inserted, template_name, stream_name, index_name, facts_name, template_named, facts_named, index_named}
use Rattle.stream_catalog.specs.Limits.{most_streams, most_indices}
use Rattle.stream_catalog.specs.Names.{names_of, is_taken, matches, better_of, outranks, template_for}
use Rattle.stream_catalog.specs.Streams.{new_index, new_stream, first_start, first_name, create_refusal}
use Rattle.stream_catalog.specs.Laws.{CreationsKeepSound}
use Rattle.stream_catalog.specs.Sound.{times, AreOnce, IsThere, IsHeld, IsMemberOf, IsStreamSound, Form, form_of, template_form, Agrees, IsIndexSound, IsUnderWay, AreFactsSound, IsSoundCatalog}
use Rattle.stream_catalog.proofs.NamedLemmas.{none_not_some, some_is, each_found, each_inserted, inserted-map}
use Rattle.stream_catalog.proofs.CountLemmas.{bytes_eq-itself, times-append, times-none, times-inserted, named_new, length-inserted, ascend_inserted}
use Rattle.stream_catalog.proofs.AddedLemmas.{Suits, each_of_map, in_three, alone_of, added_sound}
use Rattle.stream_catalog.proofs.DownsampleLemmas.{names_same, goes_on}
use Rattle.stream_catalog.proofs.FoldedLemmas.{none_first, none_when}
use Rattle.stream_catalog.proofs.GoneLemmas.{all_members}
use Rattle.stream_catalog.proofs.StreamLemmas.{other_streams}
use Rattle.stream_catalog.proofs.UnitLemmas.{no_members}
use Rattle.stream_catalog.proofs.WindowLemmas.{first_begins, first_opens, ends_is}

-- ---- a template that is there is found by its name

pub before_apart : (a b : List ℕ) → IsBefore a b → bytes_eq a b ≡ false
before_apart a b before = false_from_ne_true (bytes_eq a b) (λ is. apart a b before ((bytes_eq-Decides a b).0 is))

pub all_found : {A : Type 0} (name : A → List ℕ) (xs : List A) → KeysAscend (map name xs) → Each (λ x. found_by name (name x) xs ≡ Some x) xs
all_found name [] ascend = tt
all_found name (x ∷ xs) ascend = (
  ap (λ b. if b then Some x else found_by name (name x) xs) (bytes_eq-itself (name x)),
  Each-both (λ y. IsBefore (name x) (name y)) (λ y. found_by name (name y) xs ≡ Some y) (λ y. found_by name (name y) (x ∷ xs) ≡ Some y)
      (λ y before found. ap (λ b. if b then Some x else found_by name (name y) xs) (before_apart (name x) (name y) before) ∙ found)
      xs (each_of_map name (IsBefore (name x)) xs ascend.0) (all_found name xs ascend.1),
)

-- what holds of each template holds of the one that a stream takes
pub taken_is : (P : Template → Type 0) (name : List ℕ) (ts : List Template) (t : Template) → template_for name ts ≡ Some t → Each P ts → P t
taken_is P name [] t found each = absurd (none_not_some found)
taken_is P name (x ∷ xs) t found each = by_test (matches name x) found (λ u is. taken_is P name xs u is each.1)
  where
    better : (o : Option Template) → ((u : Template) → o ≡ Some u → P u) → P (better_of x o)
    better None later = each.0
    better (Some u) later = by_rank (outranks x u)
      where
        by_rank : (b : Bool) → P (if b then x else u)
        by_rank true = each.0
        by_rank false = later u refl

    by_test : (b : Bool) → (if b then Some (better_of x (template_for name xs)) else template_for name xs) ≡ Some t → ((u : Template) → template_for name xs ≡ Some u → P u) → P t
    by_test true found later = subst P (some_is found) (better (template_for name xs) later)
    by_test false found later = later t found

-- ---- the form of a new index goes with what is there

fields_one : (p : List ℕ) (fs : List Field) → FieldsAscendAfter p fs → FieldsAgree fs fs
fields_one p [] ascend f g in_f in_g same = absurd in_f
fields_one p (x ∷ xs) ascend f g in_f in_g same = elim in_f [
  | inl f_is ↦ elim in_g [
    | inl g_is ↦ f_is ∙ sym g_is
    | inr later ↦ absurd (apart x.path g.path (in_after x.path g xs ascend.1 later) (sym (ap (λ (y : Field). y.path) f_is) ∙ same))
  ]
  | inr f_later ↦ elim in_g [
    | inl g_is ↦ absurd (apart x.path f.path (in_after x.path f xs ascend.1 f_later) (sym (ap (λ (y : Field). y.path) g_is) ∙ sym same))
    | inr g_later ↦ fields_one x.path xs ascend.1 f g f_later g_later same
  ]
]

turned : (a b : Form) → Agrees a b → Agrees b a
turned a b agree same f g in_f in_g path = sym (agree (sym same) g f in_g in_f (sym path))

pub suits_new : (f : PlainFacts) (t : Template) → template_named t.name f.templates ≡ Some t → AreFactsSound f → Suits f (template_form t)
suits_new f t found sound =
    let is = each_found template_name IsTemplate t.name f.templates t found sound.templates in
    let with_all = Each-weaker (λ a. Each (Agrees a) (map template_form f.templates)) (λ a. Agrees a (template_form t))
    (λ a all. each_found template_name (λ u. Agrees a (template_form u)) t.name f.templates t found (each_of_map template_form (Agrees a) f.templates all)) (map form_of f.indices) sound.templates_agree in
    let one : FieldsAgree t.schema.fields t.schema.fields = fields_one [] t.schema.fields is.schema.mapped.ascending in
    record {
      itself = λ same. one;
      others = Each-weaker (λ a. Agrees a (template_form t)) (Agrees (template_form t)) (λ a agree. turned a (template_form t) agree) (map form_of f.indices) with_all;
      by_others = with_all;
      templates = to_map f.templates (Each-weaker (λ u. found_by template_name u.name f.templates ≡ Some u) (λ u. Agrees (template_form t) (template_form u))
          (λ u here same. subst (λ (v : Template). FieldsAgree t.schema.fields v.schema.fields) (some_is (sym found ∙ (ap (λ n. template_named n f.templates) same ∙ here))) one)
          f.templates (all_found template_name f.templates sound.template_order));
    }
  where
    to_map : (us : List Template) → Each (λ u. Agrees (template_form t) (template_form u)) us → Each (Agrees (template_form t)) (map template_form us)
    to_map [] each = tt
    to_map (u ∷ us) each = (each.0, to_map us each.1)

-- ---- a new index by itself

pub new_held : (f : PlainFacts) (name : List ℕ) (t : Template) (start end : ℤ) → template_named t.name f.templates ≡ Some t → IsTemplate t → IsInstant start → IsInstant end → start <ℤ end → IsHeld f (new_index name t start end).facts
new_held f name t start end found is begins ends some = record {
  begins = begins;
  ends = ends;
  some = some;
  mapping = mapping_is t is;
  kind = (is.raw, is.rising);
  template = subst IsThere (sym found) tt;
}

pub new_sound : (name : List ℕ) (t : Template) (start end : ℤ) → IsIndexSound (new_index name t start end)
new_sound name t start end = record { rows = record { each = tt; within = tt }; distinct = tt; few = omega arith }

-- ---- names

-- a name more, which wasn't there
pub once_grown : (x : List ℕ) (old new : List (List ℕ)) → ((n : List ℕ) → times n new ≡ times n (x ∷ old)) → times x old ≡ 0 → AreOnce old → AreOnce new
once_grown x old new grown none once n = by_test (bytes_eq x n) refl
  where
    by_test : (b : Bool) → bytes_eq x n ≡ b → times n new ≤ 1
    by_test true here =
        let zero_before : times n old ≡ 0 = subst (λ m. times m old ≡ 0) ((bytes_eq-Decides x n).0 here) none in
        let one : times n new ≡ suc (times n old) = grown n ∙ ap (λ b. if b then suc (times n old) else times n old) here in
        omega (arith, zero_before, one)
    by_test false other =
        let same : times n new ≡ times n old = grown n ∙ ap (λ b. if b then suc (times n old) else times n old) other in
        let was = once n in
        omega (arith, same, was)

-- a name more among the first of three lists
three_grown : (x n : List ℕ) (more xs ys zs : List (List ℕ)) → times n more ≡ times n (x ∷ xs) → times n (more ++ ys ++ zs) ≡ times n (x ∷ (xs ++ ys ++ zs))
three_grown x n more xs ys zs grown = by_test (bytes_eq x n) grown
  where
    by_test : (b : Bool) → times n more ≡ (if b then suc (times n xs) else times n xs) → times n (more ++ ys ++ zs) ≡ (if b then suc (times n (xs ++ ys ++ zs)) else times n (xs ++ ys ++ zs))
    by_test true grown = let before = in_three n xs ys zs in let after = in_three n more ys zs in omega (arith, grown, before, after)
    by_test false grown = let before = in_three n xs ys zs in let after = in_three n more ys zs in omega (arith, grown, before, after)

-- a backing index's name is longer than that of its stream
longer_name : (stream : List ℕ) (now : ℤ) (generation : ℕ) → bytes_eq (backing_name stream now generation) stream ≡ false
unfolding backing_name
longer_name stream now generation = false_from_ne_true (bytes_eq (backing_name stream now generation) stream) (λ is. too_long ((bytes_eq-Decides (backing_name stream now generation) stream).0 is))
  where
    too_long : codes ".ds-" ++ (stream ++ behind_stream now generation) ≡ stream → ⊥
    too_long same = let long = ap length same in let parts = length-append stream (behind_stream now generation) in omega (arith, long, parts)

members-inserted : (s : PlainStream) (n : List ℕ) (ss : List PlainStream) → times n (all_members (inserted stream_name s ss)) ≡ times n (s.facts.members ++ all_members ss)
members-inserted s n [] = refl
members-inserted s n (x ∷ xs) = by_test (is_le (slice_cmp nat_cmp (stream_name s) (stream_name x))) (members-inserted s n xs)
  where
    by_test : (b : Bool) → times n (all_members (inserted stream_name s xs)) ≡ times n (s.facts.members ++ all_members xs)
        → times n (all_members (if b then s ∷ x ∷ xs else x ∷ inserted stream_name s xs)) ≡ times n (s.facts.members ++ (x.facts.members ++ all_members xs))
    by_test true later = refl
    by_test false later =
        let left = times-append n x.facts.members (all_members (inserted stream_name s xs)) in
        let mine = times-append n s.facts.members (all_members xs) in
        let right = times-append n s.facts.members (x.facts.members ++ all_members xs) in
        let inner = times-append n x.facts.members (all_members xs) in
        omega (arith, later, left, mine, right, inner)

-- ---- a new stream

-- what is known where nothing refuses a new stream
pub record MayCreate (f : PlainFacts) (name : List ℕ) (now : ℤ) : Type 0 where
  pub free : is_taken name f ≡ false
  pub streams : length f.streams < 1000
  pub indices : length f.indices < 10000
  pub index_free : is_taken (first_name name now) f ≡ false

pub may_create : (f : PlainFacts) (name : List ℕ) (now : ℤ) → create_refusal f name now ≡ None → MayCreate f name now
may_create f name now none =
    let sixth : List (Option Refusal) = when (is_taken (first_name name now) f) (NameTaken (first_name name now)) ∷ [] in
    let fifth : List (Option Refusal) = when (nat_le most_indices (length f.indices)) (Limit Indices) ∷ sixth in
    let fourth : List (Option Refusal) = when (nat_le most_streams (length f.streams)) (Limit Streams) ∷ fifth in
    let third : List (Option Refusal) = when (not (is_some (template_for name f.templates))) NoTemplate ∷ fourth in
    let second : List (Option Refusal) = when (is_reserved name) Reserved ∷ third in
    let one = none_first (when (is_taken name f) (NameTaken name)) second none in
    let two = none_first (when (is_reserved name) Reserved) third one.1 in
    let three = none_first (when (not (is_some (template_for name f.templates))) NoTemplate) fourth two.1 in
    let four = none_first (when (nat_le most_streams (length f.streams)) (Limit Streams)) fifth three.1 in
    let five = none_first (when (nat_le most_indices (length f.indices)) (Limit Indices)) sixth four.1 in
    let six = none_first (when (is_taken (first_name name now) f) (NameTaken (first_name name now))) [] five.1 in
    record {
      free = none_when (is_taken name f) (NameTaken name) one.0;
      streams = leb-false 1000 (length f.streams) (none_when (nat_le most_streams (length f.streams)) (Limit Streams) four.0);
      indices = leb-false 10000 (length f.indices) (none_when (nat_le most_indices (length f.indices)) (Limit Indices) five.0);
      index_free = none_when (is_taken (first_name name now) f) (NameTaken (first_name name now)) six.0;
    }

created_facts : (f : PlainFacts) (name : List ℕ) (now : ℤ) (t : Template) → IsInstant now → template_named t.name f.templates ≡ Some t → IsTemplate t → MayCreate f name now → AreFactsSound f →
    AreFactsSound (record f { streams = inserted stream_name (new_stream name t now) f.streams; indices = inserted facts_name (new_index (first_name name now) t (first_start now t) (end_after now t.look_ahead)).facts f.indices })
created_facts f name now t is_now found is may sound =
    let j = new_index (first_name name now) t (first_start now t) (end_after now t.look_ahead) in
    let s = new_stream name t now in
    let js = inserted facts_name j.facts f.indices in
    let with_index = record f { indices = js } in
    let ss = inserted stream_name s f.streams in
    let held = new_held f (first_name name now) t (first_start now t) (end_after now t.look_ahead) found is
    (first_begins now t.look_back is_now is.ranges.look_back) (ends_is (now +ℤ t.look_ahead)) (first_opens now t.look_back t.look_ahead is_now is.ranges.look_back is.ranges.look_ahead) in
    let grown = added_sound f j.facts may.index_free held (suits_new f t found sound) may.indices sound in
    let names = map stream_name f.streams in
    let indices = map facts_name f.indices in
    let targets = map (λ t. t.target) f.tasks in
    let free : times name (names ++ indices ++ targets) ≡ 0 = times-none name (names_of f) may.free in
    let parts = in_three name names indices targets in
    let now_parts = in_three name names (map facts_name js) targets in
    let no_more : times name (map facts_name js) ≡ times name indices = times-inserted facts_name name j.facts f.indices ∙ ap (λ b. if b then suc (times name indices) else times name indices) (longer_name name now 1) in
    let fresh : times j.facts.name indices ≡ 0 = alone_of f j.facts.name may.index_free in
    let look : facts_named j.facts.name js ≡ Some j.facts = named_new facts_name j.facts f.indices fresh in
    other_streams with_index ss
    (each_inserted stream_name (IsStreamSound with_index) s f.streams (record {
      generation = omega arith;
      life = tt;
      template = subst IsThere (sym found) tt;
      some = omega arith;
      members = (subst (IsMemberOf t.name) (sym look) refl, tt);
      windows = tt;
    }) grown.streams)
    (ascend_inserted stream_name s f.streams sound.stream_order (omega (arith, free, parts)))
    (once_grown name (names ++ map facts_name js ++ targets) (map stream_name ss ++ map facts_name js ++ targets)
    (λ n. three_grown name n (map stream_name ss) names (map facts_name js) targets (times-inserted stream_name n s f.streams))
    (omega (arith, free, parts, now_parts, no_more)) grown.names_once)
    (once_grown (first_name name now) (all_members f.streams) (all_members ss) (λ n. members-inserted s n f.streams) (no_members f (first_name name now) fresh f.streams sound.streams) sound.members_once)
    (let more = length-inserted stream_name s f.streams in let room = may.streams in omega (arith, more, room))
    grown

pub creations_keep_sound : CreationsKeepSound
creations_keep_sound c name now is_now sound none = by_found (template_for name c.templates) refl
  where
    with_new : Template → PlainCatalog
    with_new t = record c {
      streams = inserted stream_name (new_stream name t now) c.streams;
      indices = inserted index_name (new_index (first_name name now) t (first_start now t) (end_after now t.look_ahead)) c.indices;
    }

    by_found : (o : Option Template) → template_for name c.templates ≡ o → IsSoundCatalog (with_found o c with_new)
    by_found None taken = sound
    by_found (Some t) taken =
        let f = facts_of c in
        let may = may_create f name now none in
        let found = taken_is (λ u. template_named u.name c.templates ≡ Some u) name c.templates t taken (all_found template_name c.templates sound.facts.template_order) in
        let is = taken_is IsTemplate name c.templates t taken sound.facts.templates in
        let j = new_index (first_name name now) t (first_start now t) (end_after now t.look_ahead) in
        let alone : times j.facts.name (map facts_name f.indices) ≡ 0 = alone_of f j.facts.name may.index_free in
        record {
          facts = subst (λ fs. AreFactsSound (record f { streams = inserted stream_name (new_stream name t now) f.streams; indices = fs }))
              (sym (inserted-map (λ (k : PlainIndex). k.facts) index_name facts_name (λ k. refl) j c.indices))
              (created_facts f name now t is_now found is may sound.facts);
          indices = each_inserted index_name IsIndexSound j c.indices (new_sound (first_name name now) t (first_start now t) (end_after now t.look_ahead)) sound.indices;
          tasks = Each-weaker (λ u. IsUnderWay u.done (index_named u.index c.indices)) (λ u. IsUnderWay u.done (index_named u.index (inserted index_name j c.indices)))
              (λ u way. goes_on j c.indices u.index u.done (subst (λ ns. times j.facts.name ns ≡ 0) (names_same c.indices) alone) way) c.tasks sound.tasks;
        }
