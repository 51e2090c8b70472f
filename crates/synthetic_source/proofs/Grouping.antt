-- Groups that are made one field after another are those of all fields.
use Rattle.std.proofs.Common.{◌≡◌, ℕ, zero, suc, List, [], ◌∷◌, ◌++◌, map, length, get_or, set, Bool, true, false, cond, bytes_eq, Option, Some, None, refl, sym, ap, ap₂, ◌∙◌, subst, arith, append_assoc, append-nil, length-append}
use Rattle.std.specs.List.{insert}
use Rattle.std.specs.BTreeSet.{insert_key}
use Rattle.std.specs.Cmp.Lexicographic.{slice_cmp}
use Rattle.std.specs.Ordering.{nat_cmp, match_ordering}
use Rattle.std.specs.declared.cmp.Ordering.{Ordering}
use Rattle.std.specs.declared.cmp.Ordering.TheVariants.{Less, Equal, Greater}
use Rattle.std.proofs.lemmas.Map.Lookups.{exact_bytes}
use Rattle.row_cells.specs.Dimensions.{IsBefore}
use Rattle.row_cells.specs.JoinLaws.{before_chain, before_of_after}
use Rattle.row_cells.specs.WidenLaws.{apart as not_same, other_bytes, same_bytes}
use Rattle.serde_json.specs.Data.{Data}
use Rattle.json_walk.specs.Path.{Path, end, text, behind_name}
use Rattle.synthetic_source.specs.Levels.{Shown, first_name, names_after, names_of, value_at, with_rest, under}
use Rattle.synthetic_source.specs.Groups.{Named, Split, split, first_of, joined, empty_group, put_in, groups_after, group_at, groups_in}
use Rattle.synthetic_source.specs.Places.{RiseAfter, Rise, later_place, place_among}
use Rattle.synthetic_source.proofs.Names.{Parted, whole, parted, parted_path, first_of_first, first_behind}

abbrev first_or : Option Data → Data → Data
first_or None d = d
first_or (Some e) d = e

-- ---- one field put in, by its place

pub put_found : (p : Split) (d : Data) (gs : List Named) (i : ℕ) (e : Named) → place_among p.name (map (λ g. g.name) gs) ≡ record { at = i; found = true } → put_in p d gs ≡ set gs i (joined p.rest d (get_or gs i e))
put_found p d [] i e here = absurd (let bad : false ≡ true = ap (λ q. q.found) here in cc)
put_found p d (g ∷ gs) i e here = go (slice_cmp nat_cmp p.name g.name) i (put_found p d gs) here
  where
    go : (o : Ordering) (i : ℕ) → ((i : ℕ) (e : Named) → place_among p.name (map (λ g. g.name) gs) ≡ record { at = i; found = true } → put_in p d gs ≡ set gs i (joined p.rest d (get_or gs i e)))
        → match_ordering o (record { at = 0; found = false }) (record { at = 0; found = true }) (later_place (place_among p.name (map (λ g. g.name) gs))) ≡ record { at = i; found = true }
        → match_ordering o (joined p.rest d (empty_group p.name) ∷ g ∷ gs) (joined p.rest d g ∷ gs) (g ∷ put_in p d gs) ≡ set (g ∷ gs) i (joined p.rest d (get_or (g ∷ gs) i e))
    go Less i later h = absurd (let bad : false ≡ true = ap (λ q. q.found) h in cc)
    go Equal zero later h = refl
    go Equal (suc i) later h = absurd (let bad : zero ≡ suc i = ap (λ q. q.at) h in cc)
    go Greater zero later h = absurd (let bad : suc (place_among p.name (map (λ g. g.name) gs)).at ≡ zero = ap (λ q. q.at) h in cc)
    go Greater (suc i) later h =
        let at : suc (place_among p.name (map (λ g. g.name) gs)).at ≡ suc i = ap (λ q. q.at) h in
        let same : (place_among p.name (map (λ g. g.name) gs)).at ≡ i = cc in
        let found : (place_among p.name (map (λ g. g.name) gs)).found ≡ true = ap (λ q. q.found) h in
        ap (λ xs. g ∷ xs) (later i e (λ k. record { at = same k; found = found k }))

pub put_new : (p : Split) (d : Data) (gs : List Named) (i : ℕ) → place_among p.name (map (λ g. g.name) gs) ≡ record { at = i; found = false } → put_in p d gs ≡ insert gs i (joined p.rest d (empty_group p.name))
put_new p d [] zero here = refl
put_new p d [] (suc i) here = absurd (let bad : zero ≡ suc i = ap (λ q. q.at) here in cc)
put_new p d (g ∷ gs) i here = go (slice_cmp nat_cmp p.name g.name) i (put_new p d gs) here
  where
    go : (o : Ordering) (i : ℕ) → ((i : ℕ) → place_among p.name (map (λ g. g.name) gs) ≡ record { at = i; found = false } → put_in p d gs ≡ insert gs i (joined p.rest d (empty_group p.name)))
        → match_ordering o (record { at = 0; found = false }) (record { at = 0; found = true }) (later_place (place_among p.name (map (λ g. g.name) gs))) ≡ record { at = i; found = false }
        → match_ordering o (joined p.rest d (empty_group p.name) ∷ g ∷ gs) (joined p.rest d g ∷ gs) (g ∷ put_in p d gs) ≡ insert (g ∷ gs) i (joined p.rest d (empty_group p.name))
    go Less zero later h = refl
    go Less (suc i) later h = absurd (let bad : zero ≡ suc i = ap (λ q. q.at) h in cc)
    go Equal i later h = absurd (let bad : true ≡ false = ap (λ q. q.found) h in cc)
    go Greater zero later h = absurd (let bad : suc (place_among p.name (map (λ g. g.name) gs)).at ≡ zero = ap (λ q. q.at) h in cc)
    go Greater (suc i) later h =
        let at : suc (place_among p.name (map (λ g. g.name) gs)).at ≡ suc i = ap (λ q. q.at) h in
        let same : (place_among p.name (map (λ g. g.name) gs)).at ≡ i = cc in
        let found : (place_among p.name (map (λ g. g.name) gs)).found ≡ false = ap (λ q. q.found) h in
        ap (λ xs. g ∷ xs) (later i (λ k. record { at = same k; found = found k }))

-- ---- names

pub joined_name : (r : Option (List ℕ)) (d : Data) (g : Named) → (joined r d g).name ≡ g.name
joined_name None d g = refl
joined_name (Some r) d g = refl

pub names_put : (p : Split) (d : Data) (gs : List Named) → map (λ g. g.name) (put_in p d gs) ≡ insert_key (slice_cmp nat_cmp) (map (λ g. g.name) gs) p.name
names_put p d [] = ap (λ s. s ∷ []) (joined_name p.rest d (empty_group p.name))
names_put p d (g ∷ gs) = go (slice_cmp nat_cmp p.name g.name) (names_put p d gs)
  where
    go : (o : Ordering) → map (λ g. g.name) (put_in p d gs) ≡ insert_key (slice_cmp nat_cmp) (map (λ g. g.name) gs) p.name
        → map (λ g. g.name) (match_ordering o (joined p.rest d (empty_group p.name) ∷ g ∷ gs) (joined p.rest d g ∷ gs) (g ∷ put_in p d gs)) ≡ match_ordering o (p.name ∷ g.name ∷ map (λ g. g.name) gs) (g.name ∷ map (λ g. g.name) gs) (g.name ∷ insert_key (slice_cmp nat_cmp) (map (λ g. g.name) gs) p.name)
    go Less later = ap (λ s. s ∷ g.name ∷ map (λ g. g.name) gs) (joined_name p.rest d (empty_group p.name))
    go Equal later = ap (λ s. s ∷ map (λ g. g.name) gs) (joined_name p.rest d g)
    go Greater later = ap (λ ss. g.name ∷ ss) later

insert_rises_after : (q s : List ℕ) (ns : List (List ℕ)) → IsBefore q s → RiseAfter q ns → RiseAfter q (insert_key (slice_cmp nat_cmp) ns s)
insert_rises_after q s [] before rise = (before, tt)
insert_rises_after q s (t ∷ ts) before rise = go (slice_cmp nat_cmp s t) refl (insert_rises_after t s ts)
  where
    go : (o : Ordering) → slice_cmp nat_cmp s t ≡ o → (IsBefore t s → RiseAfter t ts → RiseAfter t (insert_key (slice_cmp nat_cmp) ts s)) → RiseAfter q (match_ordering o (s ∷ t ∷ ts) (t ∷ ts) (t ∷ insert_key (slice_cmp nat_cmp) ts s))
    go Less is later = (before, (is, rise.1))
    go Equal is later = rise
    go Greater is later = (rise.0, later (before_of_after s t is) rise.1)

pub insert_rises : (s : List ℕ) (ns : List (List ℕ)) → Rise ns → Rise (insert_key (slice_cmp nat_cmp) ns s)
insert_rises s [] rise = tt
insert_rises s (t ∷ ts) rise = go (slice_cmp nat_cmp s t) refl
  where
    go : (o : Ordering) → slice_cmp nat_cmp s t ≡ o → Rise (match_ordering o (s ∷ t ∷ ts) (t ∷ ts) (t ∷ insert_key (slice_cmp nat_cmp) ts s))
    go Less is = (is, rise)
    go Equal is = rise
    go Greater is = insert_rises_after t s ts (before_of_after s t is) rise

pub names_rise : (ns : List (List ℕ)) (es : List Shown) → Rise ns → Rise (names_after ns es)
names_rise ns [] rise = rise
names_rise ns (e ∷ es) rise = names_rise (insert_key (slice_cmp nat_cmp) ns (first_name e.path)) es (insert_rises (first_name e.path) ns rise)

-- names without dots
abbrev pub ArePlain : List (List ℕ) → Type 0
ArePlain [] = Unit {0}
ArePlain (s ∷ ss) = (first_name s ≡ s) × ArePlain ss

insert_plain : (s : List ℕ) (ns : List (List ℕ)) → first_name s ≡ s → ArePlain ns → ArePlain (insert_key (slice_cmp nat_cmp) ns s)
insert_plain s [] plain all = (plain, tt)
insert_plain s (t ∷ ts) plain all = go (slice_cmp nat_cmp s t) (insert_plain s ts plain all.1)
  where
    go : (o : Ordering) → ArePlain (insert_key (slice_cmp nat_cmp) ts s) → ArePlain (match_ordering o (s ∷ t ∷ ts) (t ∷ ts) (t ∷ insert_key (slice_cmp nat_cmp) ts s))
    go Less later = (plain, all)
    go Equal later = all
    go Greater later = (all.0, later)

pub names_plain : (ns : List (List ℕ)) (es : List Shown) → ArePlain ns → ArePlain (names_after ns es)
names_plain ns [] all = all
names_plain ns (e ∷ es) all = names_plain (insert_key (slice_cmp nat_cmp) ns (first_name e.path)) es (insert_plain (first_name e.path) ns (first_of_first e.path) all)

-- no name is this one
abbrev pub Lacks : List ℕ → List (List ℕ) → Type 0
Lacks s [] = Unit {0}
Lacks s (t ∷ ts) = (s ≡ t → ⊥) × Lacks s ts

pub lacks_after : (s t : List ℕ) (ts : List (List ℕ)) → IsBefore s t → RiseAfter t ts → Lacks s ts
lacks_after s t [] before rise = tt
lacks_after s t (u ∷ us) before rise =
    let on = before_chain s t u before rise.0 in
    (not_same s u on, lacks_after s u us on rise.1)

pub lacks_later : (t : List ℕ) (ts : List (List ℕ)) → RiseAfter t ts → Lacks t ts
lacks_later t [] rise = tt
lacks_later t (u ∷ us) rise = (not_same t u rise.0, lacks_after t u us rise.0 rise.1)

pub lacks_inserted : (s t : List ℕ) (ns : List (List ℕ)) → Lacks s (insert_key (slice_cmp nat_cmp) ns t) → (s ≡ t → ⊥) × Lacks s ns
lacks_inserted s t [] lacks = lacks
lacks_inserted s t (u ∷ us) lacks = go (slice_cmp nat_cmp t u) refl (lacks_inserted s t us) lacks
  where
    go : (o : Ordering) → slice_cmp nat_cmp t u ≡ o → (Lacks s (insert_key (slice_cmp nat_cmp) us t) → (s ≡ t → ⊥) × Lacks s us) → Lacks s (match_ordering o (t ∷ u ∷ us) (u ∷ us) (u ∷ insert_key (slice_cmp nat_cmp) us t)) → (s ≡ t → ⊥) × Lacks s (u ∷ us)
    go Less is later l = l
    go Equal is later l = ((λ same. l.0 (same ∙ exact_bytes t u is)), l)
    go Greater is later l = let rest = later l.1 in (rest.0, (l.0, rest.1))

-- ---- what a field adds to a group

value_at-append : (s : List ℕ) (xs : List Shown) (e : Shown) → value_at s (xs ++ e ∷ []) ≡ cond (bytes_eq s e.path) (Some (first_or (value_at s xs) e.value)) (value_at s xs)
value_at-append s [] e = refl
value_at-append s (x ∷ xs) e = go (bytes_eq s x.path) (value_at-append s xs e)
  where
    go : (v : Bool) → value_at s (xs ++ e ∷ []) ≡ cond (bytes_eq s e.path) (Some (first_or (value_at s xs) e.value)) (value_at s xs)
        → cond v (Some x.value) (value_at s (xs ++ e ∷ [])) ≡ cond (bytes_eq s e.path) (Some (first_or (cond v (Some x.value) (value_at s xs)) e.value)) (cond v (Some x.value) (value_at s xs))
    go true later = by (bytes_eq s e.path)
      where
        by : (w : Bool) → Some x.value ≡ cond w (Some x.value) (Some x.value)
        by true = refl
        by false = refl
    go false later = later

under-append : (s : List ℕ) (xs : List Shown) (e : Shown) → under s (xs ++ e ∷ []) ≡ under s xs ++ with_rest (behind_name s e.path) e.value []
under-append s [] e = refl
under-append s (x ∷ xs) e = go (behind_name s x.path) (under-append s xs e)
  where
    go : (o : Option Path) → under s (xs ++ e ∷ []) ≡ under s xs ++ with_rest (behind_name s e.path) e.value [] → with_rest o x.value (under s (xs ++ e ∷ [])) ≡ with_rest o x.value (under s xs) ++ with_rest (behind_name s e.path) e.value []
    go None later = later
    go (Some end) later = later
    go (Some (text r)) later = ap (λ ys. record { path = r; value = x.value } ∷ ys) later

longer : (s r : List ℕ) → s ≡ s ++ 46 ∷ r → ⊥
longer s r same = omega (arith, ap length same, length-append s (46 ∷ r))

-- the group of a name with the field that it is the name of
joined_here : (done : List Shown) (e : Shown) → Parted e.path → joined (split e.path).rest e.value (group_at done (first_name e.path)) ≡ group_at (done ++ e ∷ []) (first_name e.path)
joined_here done e (whole behind same parts) =
    let s = first_name e.path in
    let value : value_at s (done ++ e ∷ []) ≡ first_of (value_at s done) e.value = value_at-append s done e ∙ (ap (λ b. cond b (Some (first_or (value_at s done) e.value)) (value_at s done)) (same_bytes s e.path same) ∙ first_some (value_at s done) e.value) in
    let below : under s (done ++ e ∷ []) ≡ under s done = under-append s done e ∙ (ap (λ o. under s done ++ with_rest o e.value []) behind ∙ append-nil (under s done)) in
    ap (λ p. joined p.rest e.value (group_at done s)) parts ∙ (λ i. record { name = s; value = (sym value) i; below = (sym below) i })
  where
    first_some : (o : Option Data) (d : Data) → Some (first_or o d) ≡ first_of o d
    first_some None d = refl
    first_some (Some x) d = refl
joined_here done e (parted r behind same parts) =
    let s = first_name e.path in
    let value : value_at s (done ++ e ∷ []) ≡ value_at s done = value_at-append s done e ∙ ap (λ b. cond b (Some (first_or (value_at s done) e.value)) (value_at s done)) (other_bytes s e.path (λ h. longer s r (h ∙ same))) in
    let below : under s (done ++ e ∷ []) ≡ under s done ++ record { path = r; value = e.value } ∷ [] = under-append s done e ∙ ap (λ o. under s done ++ with_rest o e.value []) behind in
    ap (λ p. joined p.rest e.value (group_at done s)) parts ∙ (λ i. record { name = s; value = (sym value) i; below = (sym below) i })

-- the group of another name
same_there : (done : List Shown) (e : Shown) (t : List ℕ) → first_name t ≡ t → (first_name e.path ≡ t → ⊥) → group_at (done ++ e ∷ []) t ≡ group_at done t
same_there done e t plain other =
    let value : value_at t (done ++ e ∷ []) ≡ value_at t done = value_at-append t done e ∙ ap (λ b. cond b (Some (first_or (value_at t done) e.value)) (value_at t done)) (other_bytes t e.path (λ h. other (sym (ap first_name h) ∙ plain))) in
    let below : under t (done ++ e ∷ []) ≡ under t done = under-append t done e ∙ (nothing (behind_name t e.path) refl ∙ append-nil (under t done)) in
    λ i. record { name = t; value = value i; below = below i }
  where
    nothing : (o : Option Path) → behind_name t e.path ≡ o → under t done ++ with_rest (behind_name t e.path) e.value [] ≡ under t done ++ []
    nothing None is = ap (λ o. under t done ++ with_rest o e.value []) is
    nothing (Some r) is = absurd (other (first_behind t e.path r plain is))

-- a name that no field has
none_named : (s : List ℕ) (ns : List (List ℕ)) (es : List Shown) → first_name s ≡ s → Lacks s (names_after ns es) → Lacks s ns × (value_at s es ≡ None) × (under s es ≡ [])
none_named s ns [] plain lacks = (lacks, refl, refl)
none_named s ns (e ∷ es) plain lacks =
    let rest = none_named s (insert_key (slice_cmp nat_cmp) ns (first_name e.path)) es plain lacks in
    let split_off = lacks_inserted s (first_name e.path) ns rest.0 in
    (split_off.1, ap (λ b. cond b (Some e.value) (value_at s es)) (other_bytes s e.path (λ h. split_off.0 (sym plain ∙ ap first_name h))) ∙ rest.1, nothing (behind_name s e.path) refl split_off.0 ∙ rest.2)
  where
    nothing : (o : Option Path) → behind_name s e.path ≡ o → (s ≡ first_name e.path → ⊥) → with_rest (behind_name s e.path) e.value (under s es) ≡ under s es
    nothing None is other = ap (λ o. with_rest o e.value (under s es)) is
    nothing (Some r) is other = absurd (other (sym (first_behind s e.path r plain is)))

empty_named : (s : List ℕ) (es : List Shown) → first_name s ≡ s → Lacks s (names_of es) → group_at es s ≡ empty_group s
empty_named s es plain lacks =
    let none = none_named s [] es plain lacks in
    λ i. record { name = s; value = none.1 i; below = none.2 i }

-- groups of other names stay
groups_stay : (done : List Shown) (e : Shown) (ts : List (List ℕ)) → ArePlain ts → Lacks (first_name e.path) ts → map (group_at done) ts ≡ map (group_at (done ++ e ∷ [])) ts
groups_stay done e [] plain lacks = refl
groups_stay done e (t ∷ ts) plain lacks = ap₂ (λ g gs. g ∷ gs) (sym (same_there done e t plain.0 lacks.0)) (groups_stay done e ts plain.1 lacks.1)

split_name : (p : List ℕ) → Parted p → (split p).name ≡ first_name p
split_name p (whole behind same parts) = ap (λ q. q.name) parts
split_name p (parted r behind same parts) = ap (λ q. q.name) parts

-- a field put into the groups of those before
put_step : (done : List Shown) (e : Shown) (p : Split) (ns : List (List ℕ)) → p.name ≡ first_name e.path → ((g : Named) → g ≡ group_at done p.name → joined p.rest e.value g ≡ group_at (done ++ e ∷ []) p.name)
    → ArePlain ns → Rise ns → (Lacks p.name ns → group_at done p.name ≡ empty_group p.name)
    → put_in p e.value (map (group_at done) ns) ≡ map (group_at (done ++ e ∷ [])) (insert_key (slice_cmp nat_cmp) ns p.name)
put_step done e p [] named join plain rise absent = ap (λ g. g ∷ []) (join (empty_group p.name) (sym (absent tt)))
put_step done e p (t ∷ ts) named join plain rise absent = go (slice_cmp nat_cmp p.name t) refl (put_step done e p ts named join plain.1 (tail_rise t ts rise))
  where
    tail_rise : (t : List ℕ) (ts : List (List ℕ)) → RiseAfter t ts → Rise ts
    tail_rise t [] rise = tt
    tail_rise t (u ∷ us) rise = rise.1

    other : (ss : List (List ℕ)) → Lacks p.name ss → Lacks (first_name e.path) ss
    other ss lacks = subst (λ s. Lacks s ss) named lacks

    go : (o : Ordering) → slice_cmp nat_cmp p.name t ≡ o
        → ((Lacks p.name ts → group_at done p.name ≡ empty_group p.name) → put_in p e.value (map (group_at done) ts) ≡ map (group_at (done ++ e ∷ [])) (insert_key (slice_cmp nat_cmp) ts p.name))
        → match_ordering o (joined p.rest e.value (empty_group p.name) ∷ group_at done t ∷ map (group_at done) ts) (joined p.rest e.value (group_at done t) ∷ map (group_at done) ts) (group_at done t ∷ put_in p e.value (map (group_at done) ts))
        ≡ map (group_at (done ++ e ∷ [])) (match_ordering o (p.name ∷ t ∷ ts) (t ∷ ts) (t ∷ insert_key (slice_cmp nat_cmp) ts p.name))
    go Less is later =
        let lacks : Lacks p.name (t ∷ ts) = (not_same p.name t is, lacks_after p.name t ts is rise) in
        ap₂ (λ g gs. g ∷ gs) (join (empty_group p.name) (sym (absent lacks))) (groups_stay done e (t ∷ ts) plain (other (t ∷ ts) lacks))
    go Equal is later =
        let same : p.name ≡ t = exact_bytes p.name t is in
        let lacks : Lacks p.name ts = subst (λ s. Lacks s ts) (sym same) (lacks_later t ts rise) in
        ap₂ (λ g gs. g ∷ gs) (join (group_at done t) (ap (group_at done) (sym same)) ∙ ap (group_at (done ++ e ∷ [])) same) (groups_stay done e ts plain.1 (other ts lacks))
    go Greater is later =
        let after : IsBefore t p.name = before_of_after p.name t is in
        let apart : p.name ≡ t → ⊥ = λ same. not_same t p.name after (sym same) in
        ap₂ (λ g gs. g ∷ gs) (sym (same_there done e t plain.0 (λ same. apart (named ∙ same)))) (later (λ lacks. absent (apart, lacks)))

put_last : (done : List Shown) (e : Shown) → put_in (split e.path) e.value (groups_in done) ≡ groups_in (done ++ e ∷ [])
put_last done e =
    let parts = parted_path e.path in
    let named = split_name e.path parts in
    put_step done e (split e.path) (names_of done) named
    (λ g is. ap (joined (split e.path).rest e.value) (is ∙ ap (group_at done) named) ∙ (joined_here done e parts ∙ ap (group_at (done ++ e ∷ [])) (sym named)))
    (names_plain [] done tt) (names_rise [] done tt)
    (λ lacks. empty_named (split e.path).name done (ap first_name named ∙ (first_of_first e.path ∙ sym named)) lacks)
    ∙ ap (λ ns. map (group_at (done ++ e ∷ [])) ns) (ap (insert_key (slice_cmp nat_cmp) (names_of done)) named ∙ sym (names_last [] done e))
  where
    names_last : (ns : List (List ℕ)) (es : List Shown) (e : Shown) → names_after ns (es ++ e ∷ []) ≡ insert_key (slice_cmp nat_cmp) (names_after ns es) (first_name e.path)
    names_last ns [] e = refl
    names_last ns (x ∷ xs) e = names_last (insert_key (slice_cmp nat_cmp) ns (first_name x.path)) xs e

groups_on : (done rest : List Shown) → groups_after (groups_in done) rest ≡ groups_in (done ++ rest)
groups_on done [] = ap groups_in (sym (append-nil done))
groups_on done (e ∷ es) = ap (λ gs. groups_after gs es) (put_last done e) ∙ (groups_on (done ++ e ∷ []) es ∙ ap groups_in (append_assoc done (e ∷ []) es))

-- groups that are made one field after another are those of all fields
pub groups_of_all : (es : List Shown) → groups_after [] es ≡ groups_in es
groups_of_all es = groups_on [] es
