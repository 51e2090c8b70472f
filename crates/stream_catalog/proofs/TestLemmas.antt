-- Tests of facts and names tell which are sound.
use Rattle.std.specs.Prelude.{◌≡◌, ℕ, suc, ℤ, pos, ◌<◌, ◌≤◌, ◌≤ℤ◌, ◌<ℤ◌, int_le, int_lt, nat_le, nat_lt, ◌==◌, T, Bool, true, false, not, ◌&&◌, ◌||◌, List, [], ◌∷◌, map, length, bytes_eq, Option, Some, None, if◌then◌else◌}
use Rattle.std.specs.Bool.{Decides}
use Rattle.std.specs.Int.Signed.{le_z_yes, lt_z_yes}
use Rattle.std.specs.List.{list_all, flat_map}
use Rattle.std.specs.Option.{is_some, is_none}
use Rattle.std.specs.Ordering.{is_lt, nat_cmp}
use Rattle.std.specs.Cmp.Lexicographic.{slice_cmp}
use Rattle.std.specs.declared.cmp.Ordering.{Ordering}
use Rattle.std.specs.declared.cmp.Ordering.TheVariants.{Less, Equal, Greater}
use Rattle.std.proofs.Common.{refl, ap, ◌∙◌, sym, subst, arith, inl, inr}
use Rattle.std.proofs.lemmas.Bool.{and_parts, both_ways, leb-true, le-leb, ltb-true, lt-ltb, eqb-true, eq-eqb, not-true}
use Rattle.std.proofs.lemmas.Slice.Eq.{bytes_eq-Decides}
use Rattle.row_cells.specs.Dimensions.{IsBefore}
use Rattle.row_cells.specs.Each.{Each}
use Rattle.row_cells.specs.EachLaws.{Each-weaker}
use Rattle.row_cells.specs.Joining.{IsIn, FieldsAgree}
use Rattle.row_cells.specs.declared.schemas.Field.{Field}
use Rattle.row_cells.specs.declared.schemas.Schema.{Schema}
use Rattle.time_text.specs.Instant.{IsInstant}
use Rattle.time_text.specs.declared.intervals.Interval.{Interval}
use Rattle.downsample_fold.specs.Intervals.{interval_fault}
use Rattle.downsample_fold.specs.Laws.{KeysAscend}
use Rattle.edge_face.specs.Limits.{last_instant}
use Rattle.index_names.specs.Backing.{greatest_generation}
use Rattle.index_names.specs.Names.{is_stream_name, is_target_name, is_index_name}
use Rattle.index_names.specs.Reading.{IsBackingName}
use Rattle.lifecycle_swap.specs.Lifecycles.{is_lifecycle}
use Rattle.lifecycle_swap.specs.declared.lifecycles.Lifecycle.{Lifecycle}
use Rattle.ts_mapping.specs.Agreeing.{kind_number, role_number, is_alike, is_other_field}
use Rattle.ts_mapping.specs.Facts.{IsMapping, IsTemplate}
use Rattle.stream_catalog.specs.declared.facts.HeldIndex.{HeldIndex}
use Rattle.stream_catalog.specs.Plain.{PlainIndex, PlainStream, PlainCatalog, PlainFacts}
use Rattle.stream_catalog.specs.Lists.{template_name, stream_name, facts_name, template_named, facts_named}
use Rattle.stream_catalog.specs.Limits.{most_templates, most_streams, most_indices}
use Rattle.stream_catalog.specs.Names.{names_of}
use Rattle.stream_catalog.specs.WellNamed.{IsTemplateNamed, IsStreamNamed, IsIndexNamed, IsTaskNamed, IsWellNamed}
use Rattle.stream_catalog.specs.Sound.{IsKind, IsThere, IsHeld, IsMemberOf, EndsBefore, WindowsFollow, IsLife, IsStreamSound, KeepsMark, IsTaskOf, times, AreOnce, Form, form_of, template_form, Agrees, AllAgree, AreFactsSound}
use Rattle.stream_catalog.specs.FactTests.{is_instant, is_kind, is_held, is_member_of, ends_before, windows_follow, is_life, is_stream_sound, is_same, keeps_mark, is_task_of, fields_agree, agrees, all_agree, keys_ascend, are_once, are_each_sound, do_forms_agree, do_lists_ascend, are_names_once, are_facts_sound, are_well_named}
use Rattle.stream_catalog.specs.Laws.{FactsAreTested, NamesAreTested}
use Rattle.stream_catalog.proofs.CountLemmas.{bytes_eq-itself}
use Rattle.stream_catalog.proofs.TemplateLemmas.{same_field}

-- ---- tests joined

no : false ≡ true → ⊥
no e = cc

both : (a b : Bool) → a ≡ true → b ≡ true → (a && b) ≡ true
both a b p q = rw (p, q) refl

and_tells : {P Q : Type 0} (a b : Bool) → Decides a P → Decides b Q → Decides (a && b) (P × Q)
and_tells a b p q = (λ is. (p.0 (and_parts a b is).0, q.0 (and_parts a b is).1), λ is. both a b (p.1 is.0) (q.1 is.1))

each_tells : {A : Type 0} (test : A → Bool) (P : A → Type 0) → ((a : A) → Decides (test a) (P a)) → (xs : List A) → Decides (list_all test xs) (Each P xs)
each_tells test P tells [] = (λ is. tt, λ is. refl)
each_tells test P tells (x ∷ xs) = and_tells (test x) (list_all test xs) (tells x) (each_tells test P tells xs)

own_tells : (b : Bool) → Decides b (b ≡ true)
own_tells b = (λ is. is, λ is. is)

none_tells : (b : Bool) → Decides (not b) (b ≡ false)
none_tells true = (λ is. absurd (no is), λ is. absurd (no (sym is)))
none_tells false = (λ is. refl, λ is. refl)

from_t : (b : Bool) → T b → b ≡ true
from_t true is = refl
from_t false is = absurd is

le_tells : (a b : ℤ) → Decides (int_le a b) (a ≤ℤ b)
le_tells a b = (λ is. le_z_yes {a = a} {b = b} (subst T (sym is) tt), λ is. from_t (int_le a b) is.le)

lt_tells : (a b : ℤ) → Decides (int_lt a b) (a <ℤ b)
lt_tells a b = (λ is. lt_z_yes {a = a} {b = b} (subst T (sym is) tt), λ is. from_t (int_lt a b) is.lt)

nat_le_tells : (a b : ℕ) → Decides (nat_le a b) (a ≤ b)
nat_le_tells a b = (leb-true a b, le-leb a b)

nat_lt_tells : (a b : ℕ) → Decides (nat_lt a b) (a < b)
nat_lt_tells a b = (ltb-true a b, lt-ltb a b)

there_tells : {A : Type 0} (o : Option A) → Decides (is_some o) (IsThere o)
there_tells None = (λ is. absurd (no is), λ is. absurd is)
there_tells (Some a) = (λ is. tt, λ is. refl)

-- ---- indices, streams, tasks

instant_tells : (t : ℤ) → Decides (is_instant t) (IsInstant t)
instant_tells t = and_tells (int_le (pos 0) t) (int_le t last_instant) (le_tells (pos 0) t) (le_tells t last_instant)

kind_tells : (interval : Option Interval) (blocked : Bool) (schema : Schema) → Decides (is_kind interval blocked schema) (IsKind interval blocked schema)
kind_tells None blocked schema = and_tells (not schema.folded) schema.rises (none_tells schema.folded) (own_tells schema.rises)
kind_tells (Some by) blocked schema = and_tells schema.folded blocked (own_tells schema.folded) (own_tells blocked)

held_tells : (f : PlainFacts) (i : HeldIndex) → IsMapping i.mapping → Decides (is_held f i) (IsHeld f i)
held_tells f i mapping =
    let tells = and_tells (is_instant i.start) _ (instant_tells i.start) (and_tells (is_instant i.end) _ (instant_tells i.end) (and_tells (int_lt i.start i.end) _ (lt_tells i.start i.end)
    (and_tells (is_kind i.interval i.blocked i.mapping.schema) _ (kind_tells i.interval i.blocked i.mapping.schema) (there_tells (template_named i.template f.templates))))) in (
      λ is. let p = tells.0 is in record { begins = p.0; ends = p.1.0; some = p.1.1.0; mapping = mapping; kind = p.1.1.1.0; template = p.1.1.1.1 },
      λ is. tells.1 (is.begins, (is.ends, (is.some, (is.kind, is.template)))),
    )

each_held : (f : PlainFacts) (is : List HeldIndex) → Each (λ i. IsMapping i.mapping) is → Decides (list_all (is_held f) is) (Each (IsHeld f) is)
each_held f [] mapped = (λ is. tt, λ is. refl)
each_held f (i ∷ is) mapped = and_tells (is_held f i) (list_all (is_held f) is) (held_tells f i mapped.0) (each_held f is mapped.1)

member_tells : (template : List ℕ) (o : Option HeldIndex) → Decides (is_member_of template o) (IsMemberOf template o)
member_tells template None = (λ is. absurd (no is), λ is. absurd is)
member_tells template (Some i) = bytes_eq-Decides i.template template

ends_tells : (a b : Option HeldIndex) → Decides (ends_before a b) (EndsBefore a b)
ends_tells None b = (λ is. absurd (no is), λ is. absurd is)
ends_tells (Some a) None = (λ is. absurd (no is), λ is. absurd is)
ends_tells (Some a) (Some b) = le_tells a.end b.start

windows_tell : (os : List (Option HeldIndex)) → Decides (windows_follow os) (WindowsFollow os)
windows_tell [] = (λ is. tt, λ is. refl)
windows_tell (a ∷ []) = (λ is. tt, λ is. refl)
windows_tell (a ∷ b ∷ rest) = and_tells (ends_before a b) (windows_follow (b ∷ rest)) (ends_tells a b) (windows_tell (b ∷ rest))

life_tells : (o : Option Lifecycle) → Decides (is_life o) (IsLife o)
life_tells None = (λ is. tt, λ is. refl)
life_tells (Some life) = own_tells (is_lifecycle life)

stream_tells : (f : PlainFacts) (s : PlainStream) → Decides (is_stream_sound f s) (IsStreamSound f s)
stream_tells f s =
    let members = each_tells (λ m. is_member_of s.facts.template (facts_named m f.indices)) (λ m. IsMemberOf s.facts.template (facts_named m f.indices))
    (λ m. member_tells s.facts.template (facts_named m f.indices)) s.facts.members in
    let tells = and_tells (nat_le s.facts.generation greatest_generation) _ (nat_le_tells s.facts.generation greatest_generation) (and_tells (is_life s.life) _ (life_tells s.life)
    (and_tells (is_some (template_named s.facts.template f.templates)) _ (there_tells (template_named s.facts.template f.templates))
    (and_tells (nat_lt 0 (length s.facts.members)) _ (nat_lt_tells 0 (length s.facts.members))
    (and_tells (list_all (λ m. is_member_of s.facts.template (facts_named m f.indices)) s.facts.members) _ members (windows_tell (map (λ m. facts_named m f.indices) s.facts.members)))))) in (
      λ is. let p = tells.0 is in record { generation = p.0; life = p.1.0; template = p.1.1.0; some = p.1.1.1.0; members = p.1.1.1.1.0; windows = p.1.1.1.1.1 },
      λ is. tells.1 (is.generation, (is.life, (is.template, (is.some, (is.members, is.windows))))),
    )

same_tells : (a b : Bool) → Decides (is_same a b) (a ≡ b)
same_tells true b = (λ is. sym is, λ is. sym is)
same_tells false true = (λ is. absurd (no is), λ is. absurd (no is))
same_tells false false = (λ is. refl, λ is. refl)

mark_tells : (interval : Option Interval) (had rises : Bool) → Decides (keeps_mark interval had rises) (KeepsMark interval had rises)
mark_tells None had rises = (λ is. tt, λ is. refl)
mark_tells (Some by) had rises = same_tells rises had

nothing_tells : {A : Type 0} (o : Option A) → Decides (is_none o) (o ≡ None)
nothing_tells None = (λ is. refl, λ is. refl)
nothing_tells (Some a) = (λ is. absurd (no is), λ is. cc)

task_tells : (by : Interval) (rises : Bool) (o : Option HeldIndex) → Decides (is_task_of by rises o) (IsTaskOf by rises o)
task_tells by rises None = (λ is. absurd (no is), λ is. absurd is)
task_tells by rises (Some i) =
    let tells = and_tells (i.blocked && is_none (interval_fault i.interval by)) (keeps_mark i.interval i.mapping.schema.rises rises)
    (and_tells i.blocked (is_none (interval_fault i.interval by)) (own_tells i.blocked) (nothing_tells (interval_fault i.interval by))) (mark_tells i.interval i.mapping.schema.rises rises) in
    (λ is. let p = tells.0 is in (p.0.0, p.0.1, p.1), λ is. tells.1 ((is.0, is.1), is.2))

-- ---- fields

all_in : (test : Field → Bool) (fs : List Field) → list_all test fs ≡ true → (f : Field) → IsIn f fs → test f ≡ true
all_in test [] all f is_in = absurd is_in
all_in test (g ∷ gs) all f is_in = let parts = and_parts (test g) (list_all test gs) all in elim is_in [ inl same ↦ ap test same ∙ parts.0 | inr among ↦ all_in test gs parts.1 f among ]

in_all : (test : Field → Bool) (fs : List Field) → ((f : Field) → IsIn f fs → test f ≡ true) → list_all test fs ≡ true
in_all test [] all = refl
in_all test (g ∷ gs) all = both (test g) (list_all test gs) (all g (inl refl)) (in_all test gs (λ f is_in. all f (inr is_in)))

-- no field differs from itself
not_other : (f g : Field) → (f.path ≡ g.path → f ≡ g) → not (is_other_field f g) ≡ true
not_other f g agree = by_path (bytes_eq f.path g.path) refl
  where
    alike : f ≡ g → is_alike f g ≡ true
    alike same = both (kind_number f.kind == kind_number g.kind) (role_number f.role == role_number g.role)
        (eq-eqb (kind_number f.kind) (kind_number g.kind) (ap (λ (h : Field). kind_number h.kind) same)) (eq-eqb (role_number f.role) (role_number g.role) (ap (λ (h : Field). role_number h.role) same))

    by_path : (b : Bool) → bytes_eq f.path g.path ≡ b → not (b && not (is_alike f g)) ≡ true
    by_path true is = ap (λ b. not (not b)) (alike (agree ((bytes_eq-Decides f.path g.path).0 is)))
    by_path false is = refl

fields_tell : (fs gs : List Field) → Decides (fields_agree fs gs) (FieldsAgree fs gs)
fields_tell fs gs = (
  (λ is f g f_in g_in path. sym (same_field f g (sym path) (not-true (is_other_field f g)
      (all_in (λ h. not (is_other_field f h)) gs (all_in (λ h. list_all (λ k. not (is_other_field h k)) gs) fs is f f_in) g g_in)))),
  (λ agree. in_all (λ f. list_all (λ g. not (is_other_field f g)) gs) fs (λ f f_in. in_all (λ g. not (is_other_field f g)) gs (λ g g_in. not_other f g (agree f g f_in g_in)))),
)

agrees_tells : (a b : Form) → Decides (agrees a b) (Agrees a b)
agrees_tells a b = by_name (bytes_eq a.template b.template) refl
  where
    by_name : (v : Bool) → bytes_eq a.template b.template ≡ v → Decides (not v || fields_agree a.fields b.fields) (Agrees a b)
    by_name true is = (λ holds same. (fields_tell a.fields b.fields).0 holds, λ agree. (fields_tell a.fields b.fields).1 (agree ((bytes_eq-Decides a.template b.template).0 is)))
    by_name false is = (λ holds same. absurd (both_ways (bytes_eq a.template b.template) is ((bytes_eq-Decides a.template b.template).1 same)), λ agree. refl)

forms_tell : (xs ys : List Form) → Decides (all_agree xs ys) (AllAgree xs ys)
forms_tell xs ys = each_tells (λ x. list_all (agrees x) ys) (λ x. Each (Agrees x) ys) (λ x. each_tells (agrees x) (Agrees x) (agrees_tells x) ys) xs

-- ---- names in order, and once

less_tells : (o : Ordering) → Decides (is_lt o) (o ≡ Less)
less_tells Less = (λ is. refl, λ is. refl)
less_tells Equal = (λ is. cc, λ is. cc)
less_tells Greater = (λ is. cc, λ is. cc)

ascend_tells : (ns : List (List ℕ)) → Decides (keys_ascend ns) (KeysAscend ns)
ascend_tells [] = (λ is. tt, λ is. refl)
ascend_tells (n ∷ ns) =
    and_tells (list_all (λ m. is_lt (slice_cmp nat_cmp n m)) ns) (keys_ascend ns)
    (each_tells (λ m. is_lt (slice_cmp nat_cmp n m)) (IsBefore n) (λ m. less_tells (slice_cmp nat_cmp n m)) ns) (ascend_tells ns)

once_tells : (ns : List (List ℕ)) → Decides (are_once ns) (AreOnce ns)
once_tells [] = (λ is n. omega arith, λ is. refl)
once_tells (m ∷ ms) = (λ is n. by_test n (bytes_eq m n) refl (and_parts (times m ms == 0) (are_once ms) is) (once_tells ms).0, λ once. both (times m ms == 0) (are_once ms) (eq-eqb (times m ms) 0 (none_behind once)) ((once_tells ms).1 (fewer once)))
  where
    by_test : (n : List ℕ) (b : Bool) → bytes_eq m n ≡ b → ((times m ms == 0) ≡ true) × (are_once ms ≡ true) → (are_once ms ≡ true → AreOnce ms) → (if b then suc (times n ms) else times n ms) ≤ 1
    by_test n true same parts later =
        let none : times n ms ≡ 0 = subst (λ k. times k ms ≡ 0) ((bytes_eq-Decides m n).0 same) (eqb-true (times m ms) 0 parts.0) in
        omega (arith, none)
    by_test n false other parts later = later parts.1 n

    own : times m (m ∷ ms) ≡ suc (times m ms)
    own = ap (λ b. if b then suc (times m ms) else times m ms) (bytes_eq-itself m)

    none_behind : AreOnce (m ∷ ms) → times m ms ≡ 0
    none_behind once = let one = once m in omega (arith, own, one)

    more : (n : List ℕ) (b : Bool) → (if b then suc (times n ms) else times n ms) ≤ 1 → times n ms ≤ 1
    more n true one = omega (arith, one)
    more n false one = one

    fewer : AreOnce (m ∷ ms) → AreOnce ms
    fewer once n = more n (bytes_eq m n) (once n)

-- ---- all facts

facts_tell : (f : PlainFacts) → Each IsTemplate f.templates → Each (λ i. IsMapping i.mapping) f.indices → Decides (are_facts_sound f) (AreFactsSound f)
facts_tell f templates mapped =
    let indices = map form_of f.indices in
    let each = and_tells (list_all (is_held f) f.indices) _ (each_held f f.indices mapped) (and_tells (list_all (is_stream_sound f) f.streams) _ (each_tells (is_stream_sound f) (IsStreamSound f) (stream_tells f) f.streams)
    (each_tells (λ t. is_task_of t.by t.rises (facts_named t.index f.indices)) (λ t. IsTaskOf t.by t.rises (facts_named t.index f.indices)) (λ t. task_tells t.by t.rises (facts_named t.index f.indices)) f.tasks)) in
    let forms = and_tells (all_agree indices indices) _ (forms_tell indices indices) (forms_tell indices (map template_form f.templates)) in
    let order = and_tells (keys_ascend (map template_name f.templates)) _ (ascend_tells (map template_name f.templates))
    (and_tells (keys_ascend (map stream_name f.streams)) _ (ascend_tells (map stream_name f.streams)) (ascend_tells (map facts_name f.indices))) in
    let once = and_tells (are_once (names_of f)) _ (once_tells (names_of f)) (and_tells (are_once (flat_map (λ s. s.facts.members) f.streams)) _ (once_tells (flat_map (λ s. s.facts.members) f.streams)) (once_tells (map (λ t. t.index) f.tasks))) in
    let few = and_tells (nat_le (length f.templates) most_templates) _ (nat_le_tells (length f.templates) most_templates)
    (and_tells (nat_le (length f.streams) most_streams) _ (nat_le_tells (length f.streams) most_streams) (nat_le_tells (length f.indices) most_indices)) in
    let tells = and_tells (are_each_sound f) _ each (and_tells (do_forms_agree f) _ forms (and_tells (do_lists_ascend f) _ order (and_tells (are_names_once f) _ once few))) in (
      λ is. let p = tells.0 is in record {
        templates = templates;
        indices = p.0.0;
        streams = p.0.1.0;
        tasks = p.0.1.1;
        indices_agree = p.1.0.0;
        templates_agree = p.1.0.1;
        template_order = p.1.1.0.0;
        stream_order = p.1.1.0.1.0;
        index_order = p.1.1.0.1.1;
        names_once = p.1.1.1.0.0;
        members_once = p.1.1.1.0.1.0;
        tasks_once = p.1.1.1.0.1.1;
        few_templates = p.1.1.1.1.0;
        few_streams = p.1.1.1.1.1.0;
        few_indices = p.1.1.1.1.1.1;
      },
      λ is. tells.1 (
        (is.indices, (is.streams, is.tasks)),
        (
          (is.indices_agree, is.templates_agree),
          (
            (is.template_order, (is.stream_order, is.index_order)),
            ((is.names_once, (is.members_once, is.tasks_once)), (is.few_templates, (is.few_streams, is.few_indices))),
          ),
        ),
      ),
    )

pub facts_are_tested : FactsAreTested
facts_are_tested f = (
  (λ is. (facts_tell f is.0 is.1).0 is.2),
  (λ sound.
      let mapped = Each-weaker (IsHeld f) (λ i. IsMapping i.mapping) (λ i held. held.mapping) f.indices sound.indices in
      (sound.templates, mapped, (facts_tell f sound.templates mapped).1 sound)),
)

-- ---- names

index_names_tell : (is : List PlainIndex) → Each (λ i. IsBackingName i.facts.origin) is → Decides (list_all (λ i. is_index_name i.facts.name) is) (Each IsIndexNamed is)
index_names_tell [] origins = (λ is. tt, λ is. refl)
index_names_tell (i ∷ is) origins =
    and_tells (is_index_name i.facts.name) (list_all (λ k. is_index_name k.facts.name) is) (λ named. (named, origins.0), λ named. named.0) (index_names_tell is origins.1)

names_tell : (c : PlainCatalog) → Each (λ i. IsBackingName i.facts.origin) c.indices → Decides (are_well_named c) (IsWellNamed c)
names_tell c origins =
    let tells = and_tells (list_all (λ t. is_stream_name (template_name t)) c.templates) _ (each_tells (λ t. is_stream_name (template_name t)) IsTemplateNamed (λ t. own_tells (is_stream_name t.name)) c.templates)
    (and_tells (list_all (λ s. is_stream_name (stream_name s)) c.streams) _ (each_tells (λ s. is_stream_name (stream_name s)) IsStreamNamed (λ s. own_tells (is_stream_name s.facts.name)) c.streams)
    (and_tells (list_all (λ i. is_index_name i.facts.name) c.indices) _ (index_names_tell c.indices origins)
    (each_tells (λ t. is_target_name t.target) IsTaskNamed (λ t. own_tells (is_target_name t.target)) c.tasks))) in
    (λ is. let p = tells.0 is in record { templates = p.0; streams = p.1.0; indices = p.1.1.0; tasks = p.1.1.1 }, λ is. tells.1 (is.templates, (is.streams, (is.indices, is.tasks))))

pub names_are_tested : NamesAreTested
names_are_tested c = (
  (λ is. (names_tell c is.0).0 is.1),
  (λ named.
      let origins = Each-weaker IsIndexNamed (λ i. IsBackingName i.facts.origin) (λ i one. one.1) c.indices named.indices in
      (origins, (names_tell c origins).1 named)),
)
