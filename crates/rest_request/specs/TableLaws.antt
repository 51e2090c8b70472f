-- Going by shape and then by method, as the code does, comes to the row of the table.
use Rattle.std.proofs.Common.{◌≡◌, ◌==◌, ℕ, List, [], ◌∷◌, Bool, true, false, ◌&&◌, ◌||◌, cond, suc, length, nat_eq, bytes_eq, Option, None, Some, option_map, refl, sym, ap, subst, ◌∙◌, arith}
use Rattle.std.specs.Prelude.{codes}
use Rattle.std.specs.List.{list_all}
use Rattle.std.proofs.lemmas.Bool.Decides.{nat_tests}
use Rattle.std.proofs.lemmas.Slice.Eq.{bytes_eq-Decides}
use Rattle.index_names.specs.Names.{is_name_byte, are_name_bytes, is_stream_name, is_target_name, is_index_name}
use Rattle.rest_request.specs.Path as path
use Rattle.rest_request.specs.Path.{place_of}
use Rattle.rest_request.specs.Steps.{on_form, on_place, on_target, request_by}
use Rattle.rest_request.specs.Table.{Row, on_row, on_segments, on_pieces, on_parts, request_of}
use Rattle.rest_request.specs.Target.{before, cut, split_target, onto_first, split, is_id_byte, is_id}
use Rattle.rest_request.specs.declared.form.Form.{Form}

-- ---- segments

split_none : (b : ℕ) (s : List ℕ) → cut b s ≡ None → split b s ≡ s ∷ []
split_none b [] none = refl
split_none b (x ∷ s) none = go (split_none b s) (x == b) none
  where
    inner : (o : Option (List ℕ × List ℕ)) → option_map (before x) o ≡ None → o ≡ None
    inner None e = refl
    inner (Some p) e = absurd cc

    go : (cut b s ≡ None → split b s ≡ s ∷ []) → (v : Bool) → cond v (Some ([], s)) (option_map (before x) (cut b s)) ≡ None → cond v ([] ∷ split b s) (onto_first x (split b s)) ≡ (x ∷ s) ∷ []
    go later true e = absurd cc
    go later false e = ap (onto_first x) (later (inner (cut b s) e))

abbrev Later : ℕ → List ℕ → Type 0
Later b s = (front rest : List ℕ) → cut b s ≡ Some (front, rest) → split b s ≡ front ∷ split b rest

split_some : (b : ℕ) (s front rest : List ℕ) → cut b s ≡ Some (front, rest) → split b s ≡ front ∷ split b rest
split_some b [] front rest some = absurd cc
split_some b (x ∷ s) front rest some = go (split_some b s) (x == b) some
  where
    parts : {p q : List ℕ × List ℕ} → Some p ≡ Some q → p ≡ q
    parts e = cc

    behind : Later b s → (o : Option (List ℕ × List ℕ)) → cut b s ≡ o → option_map (before x) o ≡ Some (front, rest) → onto_first x (split b s) ≡ front ∷ split b rest
    behind later None is e = absurd cc
    behind later (Some p) is e =
        let same : before x p ≡ (front, rest) = parts e in
        ap (onto_first x) (later p.0 p.1 is) ∙ ap (λ q. q.0 ∷ split b q.1) same

    go : Later b s → (v : Bool) → cond v (Some ([], s)) (option_map (before x) (cut b s)) ≡ Some (front, rest) → cond v ([] ∷ split b s) (onto_first x (split b s)) ≡ front ∷ split b rest
    go later true e = ap (λ q. q.0 ∷ split b q.1) (parts e)
    go later false e = behind later (cut b s) refl e

-- ---- tests

by_word : (w : List ℕ) (P : List ℕ → Type 0) → P w → (a : List ℕ) → (bytes_eq a w ≡ false → P a) → P a
by_word w P at a other = go (bytes_eq a w) refl
  where
    go : (v : Bool) → bytes_eq a w ≡ v → P a
    go true e = subst P (sym ((bytes_eq-Decides a w).0 e)) at
    go false e = other e

same_code : (x y : ℕ) → (x == y) ≡ true → x ≡ y
same_code x y e = grind (arith, nat_tests)

not_zero : (n : ℕ) → nat_eq (suc n) 0 ≡ false
not_zero n = grind (arith, nat_tests)

and_false : (v : Bool) → (v && false) ≡ false
and_false true = refl
and_false false = refl

-- a word is no name
abbrev IsNoName : List ℕ → Type 0
IsNoName w = (is_stream_name w ≡ false) × (is_index_name w ≡ false)

index_template_no_name : IsNoName (codes "_index_template")
unfolding is_stream_name is_index_name are_name_bytes
index_template_no_name = (refl, refl)

data_stream_no_name : IsNoName (codes "_data_stream")
unfolding is_stream_name is_index_name are_name_bytes
data_stream_no_name = (refl, refl)

lifecycle_no_name : IsNoName (codes "_lifecycle")
unfolding is_stream_name is_index_name are_name_bytes
lifecycle_no_name = (refl, refl)

modify_no_name : IsNoName (codes "_modify")
unfolding is_stream_name is_index_name are_name_bytes
modify_no_name = (refl, refl)

bulk_no_name : IsNoName (codes "_bulk")
unfolding is_stream_name is_index_name are_name_bytes
bulk_no_name = (refl, refl)

tasks_no_name : IsNoName (codes "_tasks")
unfolding is_stream_name is_index_name are_name_bytes
tasks_no_name = (refl, refl)

flush_no_name : IsNoName (codes "_flush")
unfolding is_stream_name is_index_name are_name_bytes
flush_no_name = (refl, refl)

-- ---- forms

one_form : (q body : List ℕ) (segments : List (List ℕ)) (names : List ℕ × List ℕ) (t : Bool) (r : Row) (f : Form) → on_row q body segments (Some r) ≡ on_form q body names (Some f)
    → on_row q body segments (cond t (Some r) None) ≡ on_form q body names (cond t (Some f) None)
one_form q body segments names true r f same = same
one_form q body segments names false r f same = refl

either_form : (q body : List ℕ) (segments : List (List ℕ)) (names : List ℕ × List ℕ) (t u : Bool) (r s : Row) (f : Form)
    → on_row q body segments (Some r) ≡ on_form q body names (Some f) → on_row q body segments (Some s) ≡ on_form q body names (Some f)
    → on_row q body segments (cond t (Some r) (cond u (Some s) None)) ≡ on_form q body names (cond (t || u) (Some f) None)
either_form q body segments names true u r s f same also = same
either_form q body segments names false true r s f same also = also
either_form q body segments names false false r s f same also = refl

three_forms : (q body : List ℕ) (segments : List (List ℕ)) (names : List ℕ × List ℕ) (t u v : Bool) (r s k : Row) (f g h : Form)
    → on_row q body segments (Some r) ≡ on_form q body names (Some f) → on_row q body segments (Some s) ≡ on_form q body names (Some g) → on_row q body segments (Some k) ≡ on_form q body names (Some h)
    → on_row q body segments (cond t (Some r) (cond u (Some s) (cond v (Some k) None))) ≡ on_form q body names (cond t (Some f) (cond u (Some g) (cond v (Some h) None)))
three_forms q body segments names true u v r s k f g h one two three = one
three_forms q body segments names false true v r s k f g h one two three = two
three_forms q body segments names false false true r s k f g h one two three = three
three_forms q body segments names false false false r s k f g h one two three = refl

-- ---- one segment

abbrev One : List ℕ → List ℕ → List ℕ → List ℕ → Type 0
One m q body a = on_segments m q body (a ∷ []) ≡ on_place m q body (path.one_segment a)

one_bulk : (m q body : List ℕ) → One m q body (codes "_bulk")
one_bulk m q body = rw (bulk_no_name.1) (one_form q body _ _ (bytes_eq m (codes "POST")) _ _ refl)

one_tasks : (m q body : List ℕ) → One m q body (codes "_tasks")
one_tasks m q body = rw (tasks_no_name.1) (one_form q body _ _ (bytes_eq m (codes "GET")) _ _ refl)

one_flush : (m q body : List ℕ) → One m q body (codes "_flush")
one_flush m q body = rw (flush_no_name.1) (one_form q body _ _ (bytes_eq m (codes "POST")) _ _ refl)

one_index : (m q body a : List ℕ) → bytes_eq a (codes "_bulk") ≡ false → bytes_eq a (codes "_tasks") ≡ false → bytes_eq a (codes "_flush") ≡ false → One m q body a
one_index m q body a n1 n2 n3 = go (is_index_name a) refl
  where
    go : (v : Bool) → is_index_name a ≡ v → One m q body a
    go true e = rw (n1, n2, n3, e) (one_form q body _ _ (bytes_eq m (codes "DELETE")) _ _ refl)
    go false e = rw (n1, n2, n3, e) refl

one_so : (m q body a : List ℕ) → One m q body a
one_so m q body a =
    by_word (codes "_bulk") (One m q body) (one_bulk m q body) a (λ n1.
    by_word (codes "_tasks") (One m q body) (one_tasks m q body) a (λ n2.
    by_word (codes "_flush") (One m q body) (one_flush m q body) a (λ n3. one_index m q body a n1 n2 n3)))

-- ---- two segments

abbrev Two : List ℕ → List ℕ → List ℕ → List ℕ → List ℕ → Type 0
Two m q body a b = on_segments m q body (a ∷ b ∷ []) ≡ on_place m q body (path.two_segments a b)

two_template : (m q body b : List ℕ) → Two m q body (codes "_index_template") b
two_template m q body b = go (is_stream_name b) refl
  where
    go : (v : Bool) → is_stream_name b ≡ v → Two m q body (codes "_index_template") b
    go true e = rw (e, index_template_no_name.0, index_template_no_name.1) (one_form q body _ _ (bytes_eq m (codes "PUT")) _ _ refl)
    go false e = rw (e, index_template_no_name.0, index_template_no_name.1) refl

two_modify : (m q body : List ℕ) → Two m q body (codes "_data_stream") (codes "_modify")
two_modify m q body = rw (modify_no_name.0, data_stream_no_name.0, data_stream_no_name.1) (one_form q body _ _ (bytes_eq m (codes "POST")) _ _ refl)

two_stream : (m q body b : List ℕ) → bytes_eq b (codes "_modify") ≡ false → Two m q body (codes "_data_stream") b
two_stream m q body b n = go (is_stream_name b) refl
  where
    go : (v : Bool) → is_stream_name b ≡ v → Two m q body (codes "_data_stream") b
    go true e = rw (n, e, data_stream_no_name.0, data_stream_no_name.1) (three_forms q body _ _ (bytes_eq m (codes "PUT")) (bytes_eq m (codes "GET")) (bytes_eq m (codes "DELETE")) _ _ _ _ _ _ refl refl refl)
    go false e = rw (n, e, data_stream_no_name.0, data_stream_no_name.1) refl

two_run : (m q body : List ℕ) → Two m q body (codes "_lifecycle") (codes "_run")
two_run m q body = rw (lifecycle_no_name.0, lifecycle_no_name.1) (one_form q body _ _ (bytes_eq m (codes "POST")) _ _ refl)

two_no_run : (m q body b : List ℕ) → bytes_eq b (codes "_run") ≡ false → Two m q body (codes "_lifecycle") b
two_no_run m q body b n = rw (n, lifecycle_no_name.0, lifecycle_no_name.1) refl

-- the first segment is no word of these
abbrev IsOther : List ℕ → Type 0
IsOther a = (bytes_eq a (codes "_index_template") ≡ false) × (bytes_eq a (codes "_data_stream") ≡ false) × (bytes_eq a (codes "_lifecycle") ≡ false)

two_bulk : (m q body a : List ℕ) → IsOther a → Two m q body a (codes "_bulk")
two_bulk m q body a n = go (is_stream_name a) (is_index_name a) refl refl
  where
    go : (v w : Bool) → is_stream_name a ≡ v → is_index_name a ≡ w → Two m q body a (codes "_bulk")
    go true true e f = rw (n.0, n.1, n.2, e, f) (one_form q body _ _ (bytes_eq m (codes "POST")) _ _ refl)
    go true false e f = rw (n.0, n.1, n.2, e, f) (one_form q body _ _ (bytes_eq m (codes "POST")) _ _ refl)
    go false true e f = rw (n.0, n.1, n.2, e, f) refl
    go false false e f = rw (n.0, n.1, n.2, e, f) refl

two_rollover : (m q body a : List ℕ) → IsOther a → Two m q body a (codes "_rollover")
two_rollover m q body a n = go (is_stream_name a) (is_index_name a) refl refl
  where
    go : (v w : Bool) → is_stream_name a ≡ v → is_index_name a ≡ w → Two m q body a (codes "_rollover")
    go true true e f = rw (n.0, n.1, n.2, e, f) (one_form q body _ _ (bytes_eq m (codes "POST")) _ _ refl)
    go true false e f = rw (n.0, n.1, n.2, e, f) (one_form q body _ _ (bytes_eq m (codes "POST")) _ _ refl)
    go false true e f = rw (n.0, n.1, n.2, e, f) refl
    go false false e f = rw (n.0, n.1, n.2, e, f) refl

two_search : (m q body a : List ℕ) → IsOther a → Two m q body a (codes "_search")
two_search m q body a n = go (is_stream_name a) (is_index_name a) refl refl
  where
    go : (v w : Bool) → is_stream_name a ≡ v → is_index_name a ≡ w → Two m q body a (codes "_search")
    go true true e f = rw (n.0, n.1, n.2, e, f) (either_form q body _ _ (bytes_eq m (codes "GET")) (bytes_eq m (codes "POST")) _ _ _ refl refl)
    go false true e f = rw (n.0, n.1, n.2, e, f) (either_form q body _ _ (bytes_eq m (codes "GET")) (bytes_eq m (codes "POST")) _ _ _ refl refl)
    go true false e f = rw (n.0, n.1, n.2, e, f) refl
    go false false e f = rw (n.0, n.1, n.2, e, f) refl

two_count : (m q body a : List ℕ) → IsOther a → Two m q body a (codes "_count")
two_count m q body a n = go (is_stream_name a) (is_index_name a) refl refl
  where
    go : (v w : Bool) → is_stream_name a ≡ v → is_index_name a ≡ w → Two m q body a (codes "_count")
    go true true e f = rw (n.0, n.1, n.2, e, f) (either_form q body _ _ (bytes_eq m (codes "GET")) (bytes_eq m (codes "POST")) _ _ _ refl refl)
    go false true e f = rw (n.0, n.1, n.2, e, f) (either_form q body _ _ (bytes_eq m (codes "GET")) (bytes_eq m (codes "POST")) _ _ _ refl refl)
    go true false e f = rw (n.0, n.1, n.2, e, f) refl
    go false false e f = rw (n.0, n.1, n.2, e, f) refl

two_none : (m q body a b : List ℕ) → IsOther a → bytes_eq b (codes "_bulk") ≡ false → bytes_eq b (codes "_rollover") ≡ false → bytes_eq b (codes "_search") ≡ false → bytes_eq b (codes "_count") ≡ false → Two m q body a b
two_none m q body a b n b1 b2 b3 b4 = go (is_stream_name a) (is_index_name a) refl refl
  where
    go : (v w : Bool) → is_stream_name a ≡ v → is_index_name a ≡ w → Two m q body a b
    go true true e f = rw (n.0, n.1, n.2, b1, b2, b3, b4, e, f) refl
    go true false e f = rw (n.0, n.1, n.2, b1, b2, b3, b4, e, f) refl
    go false true e f = rw (n.0, n.1, n.2, b1, b2, b3, b4, e, f) refl
    go false false e f = rw (n.0, n.1, n.2, b1, b2, b3, b4, e, f) refl

two_other : (m q body a : List ℕ) → IsOther a → (b : List ℕ) → Two m q body a b
two_other m q body a n b =
    by_word (codes "_bulk") (Two m q body a) (two_bulk m q body a n) b (λ b1.
    by_word (codes "_rollover") (Two m q body a) (two_rollover m q body a n) b (λ b2.
    by_word (codes "_search") (Two m q body a) (two_search m q body a n) b (λ b3.
    by_word (codes "_count") (Two m q body a) (two_count m q body a n) b (λ b4. two_none m q body a b n b1 b2 b3 b4))))

two_so : (m q body a b : List ℕ) → Two m q body a b
two_so m q body a b =
    by_word (codes "_index_template") (λ a. Two m q body a b) (two_template m q body b) a (λ n1.
    by_word (codes "_data_stream") (λ a. Two m q body a b) (by_word (codes "_modify") (Two m q body (codes "_data_stream")) (two_modify m q body) b (two_stream m q body b)) a (λ n2.
    by_word (codes "_lifecycle") (λ a. Two m q body a b) (by_word (codes "_run") (Two m q body (codes "_lifecycle")) (two_run m q body) b (two_no_run m q body b)) a (λ n3.
    two_other m q body a (n1, n2, n3) b)))

-- ---- three segments

abbrev Three : List ℕ → List ℕ → List ℕ → List ℕ → List ℕ → List ℕ → Type 0
Three m q body a b c = on_segments m q body (a ∷ b ∷ c ∷ []) ≡ on_place m q body (path.three_segments a b c)

three_lifecycle : (m q body b : List ℕ) → Three m q body (codes "_data_stream") b (codes "_lifecycle")
three_lifecycle m q body b = go (is_stream_name b) refl
  where
    go : (v : Bool) → is_stream_name b ≡ v → Three m q body (codes "_data_stream") b (codes "_lifecycle")
    go true e = rw (e, data_stream_no_name.1) (one_form q body _ _ (bytes_eq m (codes "PUT")) _ _ refl)
    go false e = rw (e, data_stream_no_name.1) refl

three_stream : (m q body b c : List ℕ) → bytes_eq c (codes "_lifecycle") ≡ false → Three m q body (codes "_data_stream") b c
three_stream m q body b c n = go (is_stream_name b) refl
  where
    go : (v : Bool) → is_stream_name b ≡ v → Three m q body (codes "_data_stream") b c
    go true e = rw (n, e, data_stream_no_name.1) refl
    go false e = rw (n, e, data_stream_no_name.1) refl

three_block : (m q body a c : List ℕ) → bytes_eq a (codes "_data_stream") ≡ false → Three m q body a (codes "_block") c
three_block m q body a c n = go (bytes_eq c (codes "write")) (is_index_name a) refl refl
  where
    go : (v w : Bool) → bytes_eq c (codes "write") ≡ v → is_index_name a ≡ w → Three m q body a (codes "_block") c
    go true true e f = rw (n, e, f) (one_form q body _ _ (bytes_eq m (codes "PUT")) _ _ refl)
    go true false e f = rw (n, e, f) refl
    go false true e f = rw (n, e, f) refl
    go false false e f = rw (n, e, f) refl

three_downsample : (m q body a c : List ℕ) → bytes_eq a (codes "_data_stream") ≡ false → Three m q body a (codes "_downsample") c
three_downsample m q body a c n = go (is_target_name c) (is_index_name a) refl refl
  where
    go : (v w : Bool) → is_target_name c ≡ v → is_index_name a ≡ w → Three m q body a (codes "_downsample") c
    go true true e f = rw (n, e, f) (one_form q body _ _ (bytes_eq m (codes "POST")) _ _ refl)
    go true false e f = rw (n, e, f) refl
    go false true e f = rw (n, e, f) refl
    go false false e f = rw (n, e, f) refl

three_document : (m q body a c : List ℕ) → bytes_eq a (codes "_data_stream") ≡ false → Three m q body a (codes "_doc") c
three_document m q body a c n = go (is_id c) (is_index_name a) refl refl
  where
    go : (v w : Bool) → is_id c ≡ v → is_index_name a ≡ w → Three m q body a (codes "_doc") c
    go true true e f = rw (n, e, f) (one_form q body _ _ (bytes_eq m (codes "GET")) _ _ refl)
    go true false e f = rw (n, e, f) refl
    go false true e f = rw (n, e, f) refl
    go false false e f = rw (n, e, f) refl

three_none : (m q body a b c : List ℕ) → bytes_eq a (codes "_data_stream") ≡ false → bytes_eq b (codes "_block") ≡ false → bytes_eq b (codes "_downsample") ≡ false → bytes_eq b (codes "_doc") ≡ false → Three m q body a b c
three_none m q body a b c n b1 b2 b3 = go (is_index_name a) refl
  where
    go : (v : Bool) → is_index_name a ≡ v → Three m q body a b c
    go true e = rw (n, b1, b2, b3, e) refl
    go false e = rw (n, b1, b2, b3, e) refl

three_so : (m q body a b c : List ℕ) → Three m q body a b c
three_so m q body a b c =
    by_word (codes "_data_stream") (λ a. Three m q body a b c) (by_word (codes "_lifecycle") (Three m q body (codes "_data_stream") b) (three_lifecycle m q body b) c (three_stream m q body b c)) a (λ n.
    by_word (codes "_block") (λ b. Three m q body a b c) (three_block m q body a c n) b (λ b1.
    by_word (codes "_downsample") (λ b. Three m q body a b c) (three_downsample m q body a c n) b (λ b2.
    by_word (codes "_doc") (λ b. Three m q body a b c) (three_document m q body a c n) b (λ b3. three_none m q body a b c n b1 b2 b3))))

-- ---- more segments

abbrev HasSlash : List ℕ → Type 0
HasSlash s = cut 47 s ≡ None → ⊥

slash_in : (x : ℕ) (s : List ℕ) → HasSlash (x ∷ s) → (x == 47) ≡ false → HasSlash s
slash_in x s has e none = has (ap (λ v. cond v (Some ([], s)) (option_map (before x) (cut 47 s))) e ∙ ap (option_map (before x)) none)

not_all : (P : ℕ → Bool) → P 47 ≡ false → (s : List ℕ) → HasSlash s → list_all P s ≡ false
not_all P never [] has = absurd (has refl)
not_all P never (x ∷ s) has = go (not_all P never s) (x == 47) refl
  where
    go : (HasSlash s → list_all P s ≡ false) → (v : Bool) → (x == 47) ≡ v → list_all P (x ∷ s) ≡ false
    go later true e = ap (λ v. v && list_all P s) (ap P (same_code x 47 e) ∙ never)
    go later false e = ap (λ v. P x && v) (later (slash_in x s has e)) ∙ and_false (P x)

no_target : (s : List ℕ) → HasSlash s → is_target_name s ≡ false
unfolding is_target_name are_name_bytes
no_target [] has = absurd (has refl)
no_target (x ∷ s) has = go (x == 47) refl
  where
    go : (v : Bool) → (x == 47) ≡ v → is_target_name (x ∷ s) ≡ false
    go true e = rw (same_code x 47 e) (and_false _)
    go false e = rw (not_all is_name_byte refl s (slash_in x s has e), and_false, and_false) refl

no_id : (s : List ℕ) → HasSlash s → is_id s ≡ false
unfolding is_id
no_id s has = rw (not_all is_id_byte refl s has, and_false, and_false) refl

no_word : (w s : List ℕ) → cut 47 w ≡ None → HasSlash s → bytes_eq s w ≡ false
no_word w s none has = by_word w (λ a. HasSlash a → bytes_eq a w ≡ false) (λ has. absurd (has none)) s (λ e has. e) has

cond_same : {A : Type 0} (v : Bool) (x : A) → cond v x x ≡ x
cond_same true x = refl
cond_same false x = refl

-- a third segment that has a slash is none of those that are asked
no_place : (a b c : List ℕ) → HasSlash c → path.three_segments a b c ≡ None
no_place a b c has = rw (no_word (codes "_lifecycle") c refl has, no_word (codes "write") c refl has, no_target c has, no_id c has) (rw (and_false, cond_same, cond_same, cond_same, cond_same) refl)

abbrev HasPiece : List (List ℕ) → Type 0
HasPiece [] = ⊥
HasPiece (p ∷ pieces) = Unit {0}

has_piece : (s : List ℕ) → HasPiece (split 47 s)
has_piece [] = tt
has_piece (x ∷ s) = go (x == 47) (split 47 s) (has_piece s)
  where
    go : (v : Bool) (pieces : List (List ℕ)) → HasPiece pieces → HasPiece (cond v ([] ∷ pieces) (onto_first x pieces))
    go true pieces has = tt
    go false [] has = has
    go false (p ∷ pieces) has = tt

-- no row has four segments or more
none_longer : (m q body a b c : List ℕ) (pieces : List (List ℕ)) → HasPiece pieces → on_segments m q body (a ∷ b ∷ c ∷ pieces) ≡ on_place m q body None
none_longer m q body a b c [] has = absurd has
none_longer m q body a b c (p ∷ pieces) has = refl

some_not : (s : List ℕ) (p : List ℕ × List ℕ) → cut 47 s ≡ Some p → HasSlash s
some_not s p some none = absurd cc

-- ---- the whole

third_so : (m q body a b rest : List ℕ) (o : Option (List ℕ × List ℕ)) → cut 47 rest ≡ o → on_segments m q body (a ∷ b ∷ split 47 rest) ≡ on_place m q body (path.three_segments a b rest)
third_so m q body a b rest None is = ap (λ s. on_segments m q body (a ∷ b ∷ s)) (split_none 47 rest is) ∙ three_so m q body a b rest
third_so m q body a b rest (Some p) is =
    ap (λ s. on_segments m q body (a ∷ b ∷ s)) (split_some 47 rest p.0 p.1 is) ∙ none_longer m q body a b p.0 (split 47 p.1) (has_piece p.1)
    ∙ sym (ap (on_place m q body) (no_place a b rest (some_not rest p is)))

second_so : (m q body a rest : List ℕ) (o : Option (List ℕ × List ℕ)) → cut 47 rest ≡ o → on_segments m q body (a ∷ split 47 rest) ≡ on_place m q body (path.more_segments a o rest)
second_so m q body a rest None is = ap (λ s. on_segments m q body (a ∷ s)) (split_none 47 rest is) ∙ two_so m q body a rest
second_so m q body a rest (Some p) is = ap (λ s. on_segments m q body (a ∷ s)) (split_some 47 rest p.0 p.1 is) ∙ third_so m q body a p.0 p.1 (cut 47 p.1) refl

first_so : (m q body rest : List ℕ) (o : Option (List ℕ × List ℕ)) → cut 47 rest ≡ o → on_segments m q body (split 47 rest) ≡ on_place m q body (path.segments o rest)
first_so m q body rest None is = ap (on_segments m q body) (split_none 47 rest is) ∙ one_so m q body rest
first_so m q body rest (Some p) is = ap (on_segments m q body) (split_some 47 rest p.0 p.1 is) ∙ second_so m q body p.0 p.1 (cut 47 p.1) refl

path_so : (m q body s : List ℕ) (o : Option (List ℕ × List ℕ)) → cut 47 s ≡ o → on_pieces m q body (split 47 s) ≡ on_place m q body (path.behind_root o)
path_so m q body s None is = ap (on_pieces m q body) (split_none 47 s is) ∙ go s
  where
    go : (s : List ℕ) → on_pieces m q body (s ∷ []) ≡ on_place m q body None
    go [] = refl
    go (x ∷ s) = refl
path_so m q body s (Some p) is = ap (on_pieces m q body) (split_some 47 s p.0 p.1 is) ∙ go p.0
  where
    go : (front : List ℕ) → on_pieces m q body (front ∷ split 47 p.1) ≡ on_place m q body (path.behind_root (Some (front, p.1)))
    go [] = first_so m q body p.1 (cut 47 p.1) refl
    go (x ∷ front) = ap (λ v. on_place m q body (cond v (path.segments (cut 47 p.1) p.1) None)) (sym (not_zero (length front)))

-- the request by the table is the one by shape and method
pub by_table : (method target body : List ℕ) → request_of method target body ≡ request_by method target body
unfolding request_of request_by place_of
by_table method target body = go (split_target (cut 63 target) target)
  where
    go : (parts : List ℕ × List ℕ) → on_parts method body parts ≡ on_target method body parts
    go parts = path_so method parts.1 body parts.0 (cut 47 parts.0) refl
