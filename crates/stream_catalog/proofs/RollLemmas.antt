-- A catalogue with a new write index stays sound.
use Rattle.std.specs.Prelude.{◌≡◌, ℕ, ℤ, ◌+ℤ◌, ◌≤◌, ◌<◌, ◌≤ℤ◌, Bool, true, false, nat_le, List, [], ◌∷◌, ◌++◌, map, length, Option, Some, None, if◌then◌else◌, bytes_eq}
use Rattle.std.specs.Int.{int_max}
use Rattle.std.specs.Option.{option_map}
use Rattle.std.specs.Ordering.{int_eq}
use Rattle.std.proofs.Common.{refl, ap, ◌∙◌, sym, subst, arith, length-append}
use Rattle.std.proofs.lemmas.Bool.{leb-false}
use Rattle.std.proofs.lemmas.Int.{ints}
use Rattle.std.proofs.lemmas.Slice.Eq.{bytes_eq-Decides}
use Rattle.row_cells.specs.Each.{Each}
use Rattle.row_cells.specs.EachLaws.{Each-weaker}
use Rattle.edge_face.specs.Limits.{last_instant}
use Rattle.time_text.specs.Instant.{IsInstant}
use Rattle.downsample_fold.specs.Laws.{KeysAscend}
use Rattle.index_names.specs.Backing.{greatest_generation}
use Rattle.lifecycle_swap.specs.Ends.{end_after}
use Rattle.ts_mapping.specs.declared.templates.Template.{Template}
use Rattle.ts_mapping.specs.Facts.{IsTemplate}
use Rattle.stream_catalog.specs.declared.answers.Refusal.{Refusal}
use Rattle.stream_catalog.specs.declared.answers.Refusal.TheVariants.{NameTaken, NoSuchName, Limit, TimeOver}
use Rattle.stream_catalog.specs.declared.answers.What.TheVariants.{Indices, Generations}
use Rattle.stream_catalog.specs.declared.facts.HeldIndex.{HeldIndex}
use Rattle.stream_catalog.specs.Plain.{PlainIndex, PlainStream, PlainCatalog, PlainFacts, facts_of}
use Rattle.stream_catalog.specs.Lists.{when, on_found, with_found, first_refusal, updated, inserted, template_name, stream_name, index_name, facts_name, template_named, stream_named, facts_named, index_named}
use Rattle.stream_catalog.specs.Limits.{most_indices}
use Rattle.stream_catalog.specs.Names.{is_taken}
use Rattle.stream_catalog.specs.Streams.{last_of, write_name, next_name, next_index, with_next, rollover_refusal}
use Rattle.stream_catalog.specs.Laws.{RolloversKeepSound}
use Rattle.stream_catalog.specs.Sound.{times, AreOnce, IsHeld, IsMemberOf, EndsBefore, WindowsFollow, IsStreamSound, IsIndexSound, IsUnderWay, AreFactsSound, IsSoundCatalog}
use Rattle.stream_catalog.proofs.NamedLemmas.{none_not_some, some_is, each_found, each_inserted, each_updated, found_name, names_updated, inserted-map}
use Rattle.stream_catalog.proofs.CountLemmas.{times-append, named_new, length-updated}
use Rattle.stream_catalog.proofs.AddedLemmas.{alone_of, added_sound, still_there}
use Rattle.stream_catalog.proofs.ChangeLemmas.{facts_named-facts}
use Rattle.stream_catalog.proofs.DownsampleLemmas.{names_same, goes_on}
use Rattle.stream_catalog.proofs.FoldedLemmas.{none_first, none_when}
use Rattle.stream_catalog.proofs.GoneLemmas.{all_members}
use Rattle.stream_catalog.proofs.NewLemmas.{suits_new, new_held, new_sound, once_grown}
use Rattle.stream_catalog.proofs.StreamLemmas.{other_streams}
use Rattle.stream_catalog.proofs.UnitLemmas.{no_members}
use Rattle.stream_catalog.proofs.WindowLemmas.{ends_is, next_opens}

-- ---- a member more behind the last one

pub each_end : {A : Type 0} (P : A → Type 0) (xs : List A) (x : A) → Each P xs → P x → Each P (xs ++ x ∷ [])
each_end P [] x each here = (here, tt)
each_end P (y ∷ ys) x each here = (each.0, each_end P ys x each.1 here)

follow_end : (is : List HeldIndex) (ms : List (List ℕ)) (x : List ℕ) → WindowsFollow (map (λ m. facts_named m is) ms) → EndsBefore (facts_named (with_found (last_of ms) [] (λ k. k)) is) (facts_named x is) →
    WindowsFollow (map (λ m. facts_named m is) (ms ++ x ∷ []))
follow_end is [] x follow ends = tt
follow_end is (m ∷ []) x follow ends = (ends, tt)
follow_end is (m ∷ k ∷ ms) x follow ends = (follow.0, follow_end is (k ∷ ms) x follow.1 ends)

-- a stream with a member more has it, and those that it had
members-updated : (name : List ℕ) (now : ℤ) (s : PlainStream) (n : List ℕ) (ss : List PlainStream) → stream_named name ss ≡ Some s →
    times n (all_members (updated stream_name name (with_next now) ss)) ≡ times n (next_name s now ∷ all_members ss)
members-updated name now s n [] found = absurd (none_not_some found)
members-updated name now s n (x ∷ xs) found = by_test (bytes_eq x.facts.name name) found (members-updated name now s n xs)
  where
    here : times n ((x.facts.members ++ next_name x now ∷ []) ++ all_members xs) ≡ times n (next_name x now ∷ (x.facts.members ++ all_members xs))
    here =
        let k = next_name x now in
        let a = times-append n (x.facts.members ++ k ∷ []) (all_members xs) in
        let b = times-append n x.facts.members (k ∷ []) in
        let c = times-append n x.facts.members (all_members xs) in
        let d = times-append n (k ∷ []) (x.facts.members ++ all_members xs) in
        omega (arith, a, b, c, d)

    by_test : (b : Bool) → (if b then Some x else stream_named name xs) ≡ Some s
        → (stream_named name xs ≡ Some s → times n (all_members (updated stream_name name (with_next now) xs)) ≡ times n (next_name s now ∷ all_members xs))
        → times n (all_members (if b then with_next now x ∷ xs else x ∷ updated stream_name name (with_next now) xs)) ≡ times n (next_name s now ∷ (x.facts.members ++ all_members xs))
    by_test true found later = subst (λ y. times n ((x.facts.members ++ next_name x now ∷ []) ++ all_members xs) ≡ times n (next_name y now ∷ (x.facts.members ++ all_members xs))) (some_is found) here
    by_test false found later =
        let k = next_name s now in
        let less = later found in
        let a = times-append n x.facts.members (all_members (updated stream_name name (with_next now) xs)) in
        let b = times-append n (k ∷ []) (x.facts.members ++ all_members xs) in
        let c = times-append n (k ∷ []) (all_members xs) in
        let d = times-append n x.facts.members (all_members xs) in
        omega (arith, less, a, b, c, d)

-- ---- what is known where nothing refuses

abbrev roll_tests : PlainFacts → ℤ → PlainStream → HeldIndex → List (Option Refusal)
roll_tests f now s w =
    when (int_eq w.end last_instant) TimeOver
    ∷ when (nat_le greatest_generation s.facts.generation) (Limit Generations)
    ∷ when (nat_le most_indices (length f.indices)) (Limit Indices)
    ∷ when (is_taken (next_name s now) f) (NameTaken (next_name s now)) ∷ []

pub record MayRoll (f : PlainFacts) (s : PlainStream) (w : HeldIndex) (now : ℤ) : Type 0 where
  pub time : int_eq w.end last_instant ≡ false
  pub generation : s.facts.generation < 999999
  pub indices : length f.indices < 10000
  pub free : is_taken (next_name s now) f ≡ false

pub may_roll : (f : PlainFacts) (name : List ℕ) (now : ℤ) (s : PlainStream) (w : HeldIndex) → stream_named name f.streams ≡ Some s → facts_named (write_name s) f.indices ≡ Some w → rollover_refusal f name now ≡ None → MayRoll f s w now
may_roll f name now s w found there none =
    let of_stream : on_found (facts_named (write_name s) f.indices) (NoSuchName (write_name s)) (λ v. first_refusal (roll_tests f now s v)) ≡ None =
    sym (ap (λ o. on_found o (NoSuchName name) (λ (z : PlainStream). on_found (facts_named (write_name z) f.indices) (NoSuchName (write_name z)) (λ v. first_refusal (roll_tests f now z v)))) found) ∙ none in
    let of_index : first_refusal (roll_tests f now s w) ≡ None = sym (ap (λ o. on_found o (NoSuchName (write_name s)) (λ (v : HeldIndex). first_refusal (roll_tests f now s v))) there) ∙ of_stream in
    let fourth : List (Option Refusal) = when (is_taken (next_name s now) f) (NameTaken (next_name s now)) ∷ [] in
    let third : List (Option Refusal) = when (nat_le most_indices (length f.indices)) (Limit Indices) ∷ fourth in
    let second : List (Option Refusal) = when (nat_le greatest_generation s.facts.generation) (Limit Generations) ∷ third in
    let one = none_first (when (int_eq w.end last_instant) TimeOver) second of_index in
    let two = none_first (when (nat_le greatest_generation s.facts.generation) (Limit Generations)) third one.1 in
    let three = none_first (when (nat_le most_indices (length f.indices)) (Limit Indices)) fourth two.1 in
    let four = none_first (when (is_taken (next_name s now) f) (NameTaken (next_name s now))) [] three.1 in
    record {
      time = none_when (int_eq w.end last_instant) TimeOver one.0;
      generation = leb-false 999999 s.facts.generation (none_when (nat_le greatest_generation s.facts.generation) (Limit Generations) two.0);
      indices = leb-false 10000 (length f.indices) (none_when (nat_le most_indices (length f.indices)) (Limit Indices) three.0);
      free = none_when (is_taken (next_name s now) f) (NameTaken (next_name s now)) four.0;
    }

-- ---- the facts

same_end : (t : ℤ) → t ≤ℤ t
same_end t = omega (arith, ints)

rolled_facts : (f : PlainFacts) (name : List ℕ) (now : ℤ) (s : PlainStream) (t : Template) (w : HeldIndex) → IsInstant now → stream_named name f.streams ≡ Some s → template_named s.facts.template f.templates ≡ Some t →
    facts_named (write_name s) f.indices ≡ Some w → MayRoll f s w now → AreFactsSound f →
    AreFactsSound (record f { streams = updated stream_name name (with_next now) f.streams; indices = inserted facts_name (next_index s t w now).facts f.indices })
rolled_facts f name now s t w is_now found by_name there may sound =
    let j = next_index s t w now in
    let x = next_name s now in
    let js = inserted facts_name j.facts f.indices in
    let with_index = record f { indices = js } in
    let ss = updated stream_name name (with_next now) f.streams in
    let name_is : t.name ≡ s.facts.template = (bytes_eq-Decides t.name s.facts.template).0 (found_name template_name s.facts.template f.templates t by_name) in
    let by_own : template_named t.name f.templates ≡ Some t = ap (λ n. template_named n f.templates) name_is ∙ by_name in
    let is = each_found template_name IsTemplate t.name f.templates t by_own sound.templates in
    let write = each_found facts_name (IsHeld f) (write_name s) f.indices w there sound.indices in
    let held = new_held f x t w.end (end_after (int_max w.end now) t.look_ahead) by_own is write.ends (ends_is (int_max w.end now +ℤ t.look_ahead)) (next_opens w.end now t.look_ahead write.ends is_now may.time is.ranges.look_ahead) in
    let grown = added_sound f j.facts may.free held (suits_new f t by_own sound) may.indices sound in
    let fresh : times x (map facts_name f.indices) ≡ 0 = alone_of f x may.free in
    let look : facts_named x js ≡ Some j.facts = named_new facts_name j.facts f.indices fresh in
    let look_write : facts_named (write_name s) js ≡ Some w = still_there j.facts f.indices fresh (write_name s) w there in
    let was = each_found stream_name (IsStreamSound with_index) name f.streams s found grown.streams in
    let next : IsStreamSound with_index (with_next now s) = record {
      generation = let room = may.generation in omega (arith, room);
      life = was.life;
      template = was.template;
      some = let long = length-append s.facts.members (x ∷ []) in omega (arith, long);
      members = each_end (λ m. IsMemberOf s.facts.template (facts_named m js)) s.facts.members x was.members (subst (IsMemberOf s.facts.template) (sym look) name_is);
      windows = follow_end js s.facts.members x was.windows (subst (λ o. EndsBefore o (facts_named x js)) (sym look_write) (subst (λ o. EndsBefore (Some w) o) (sym look) (same_end w.end)));
    } in
    let names : map stream_name ss ≡ map stream_name f.streams = names_updated stream_name name (with_next now) f.streams (λ z. refl) in
    other_streams with_index ss
    (each_updated stream_name (IsStreamSound with_index) name (with_next now) f.streams (λ z z_found. subst (λ y. IsStreamSound with_index (with_next now y)) (some_is (sym found ∙ z_found)) next) grown.streams)
    (subst KeysAscend (sym names) sound.stream_order)
    (subst (λ ns. AreOnce (ns ++ map facts_name js ++ map (λ u. u.target) f.tasks)) (sym names) grown.names_once)
    (once_grown x (all_members f.streams) (all_members ss) (λ n. members-updated name now s n f.streams found) (no_members f x fresh f.streams sound.streams) sound.members_once)
    (subst (λ k. k ≤ 1000) (sym (length-updated stream_name name (with_next now) f.streams)) sound.few_streams)
    grown

pub rollovers_keep_sound : RolloversKeepSound
rollovers_keep_sound c name now is_now sound none = by_stream (stream_named name c.streams) refl
  where
    next : PlainStream → Template → PlainIndex → PlainCatalog
    next s t w = record c {
      streams = updated stream_name name (with_next now) c.streams;
      indices = inserted index_name (next_index s t w.facts now) c.indices;
    }

    by_index : (s : PlainStream) → stream_named name c.streams ≡ Some s → (t : Template) → template_named s.facts.template c.templates ≡ Some t → (o : Option PlainIndex) → index_named (write_name s) c.indices ≡ o →
        IsSoundCatalog (with_found o c (next s t))
    by_index s found t by_name None there = sound
    by_index s found t by_name (Some w) there =
        let f = facts_of c in
        let named : facts_named (write_name s) f.indices ≡ Some w.facts = facts_named-facts (write_name s) c.indices ∙ ap (option_map (λ (k : PlainIndex). k.facts)) there in
        let may = may_roll f name now s w.facts found named none in
        let j = next_index s t w.facts now in
        let alone : times j.facts.name (map facts_name f.indices) ≡ 0 = alone_of f j.facts.name may.free in
        record {
          facts = subst (λ fs. AreFactsSound (record f { streams = updated stream_name name (with_next now) c.streams; indices = fs }))
              (sym (inserted-map (λ (k : PlainIndex). k.facts) index_name facts_name (λ k. refl) j c.indices))
              (rolled_facts f name now s t w.facts is_now found by_name named may sound.facts);
          indices = each_inserted index_name IsIndexSound j c.indices (new_sound (next_name s now) t w.facts.end (end_after (int_max w.facts.end now) t.look_ahead)) sound.indices;
          tasks = Each-weaker (λ u. IsUnderWay u.done (index_named u.index c.indices)) (λ u. IsUnderWay u.done (index_named u.index (inserted index_name j c.indices)))
              (λ u way. goes_on j c.indices u.index u.done (subst (λ ns. times j.facts.name ns ≡ 0) (names_same c.indices) alone) way) c.tasks sound.tasks;
        }

    by_template : (s : PlainStream) → stream_named name c.streams ≡ Some s → (o : Option Template) → template_named s.facts.template c.templates ≡ o →
        IsSoundCatalog (with_found o c (λ t. with_found (index_named (write_name s) c.indices) c (next s t)))
    by_template s found None by_name = sound
    by_template s found (Some t) by_name = by_index s found t by_name (index_named (write_name s) c.indices) refl

    by_stream : (o : Option PlainStream) → stream_named name c.streams ≡ o →
        IsSoundCatalog (with_found o c (λ s. with_found (template_named s.facts.template c.templates) c (λ t. with_found (index_named (write_name s) c.indices) c (next s t))))
    by_stream None found = sound
    by_stream (Some s) found = by_template s found (template_named s.facts.template c.templates) refl
