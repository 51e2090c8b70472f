-- Lists of as many numbers each, and parts by six of them.
use Rattle.std.proofs.Common.{◌≡◌, ℕ, ℤ, pos, ◌+◌, ◌-◌, ◌*◌, ◌<◌, ◌≤◌, List, [], ◌∷◌, ◌++◌, length, get_or, take, drop, map, to_z, of_z, set, refl, sym, ◌∙◌, ap, subst, arith}
use Rattle.std.specs.Prelude.{FitsSigned, slice_range}
use Rattle.std.specs.Int.{w64, w128}
use Rattle.std.proofs.lemmas.Int.{to_z-of_z}
use Rattle.std.specs.List.{All}
use Rattle.std.proofs.lemmas.List.{append_assoc, length-append, length-map, length-take, length-drop, ext_get_or, map-append, get_or-map, get_or_append_left, get_or_default, get_or-take, get_or-drop, take_more, take_more_set, take_all, take-append-drop}
use Rattle.std.proofs.lemmas.List.Elements.{All-get_or, All-nil, All-append}
use Rattle.std.proofs.lemmas.List.FromFn.{get_or-map-range_with_len, length-map-range_with_len}
use Rattle.std.proofs.Math.Seq.{take-add}
use Rattle.fold_law.specs.declared.measures.Parts.{Parts}
use Rattle.packed_lists.specs.Nums.{IsNums, AreNums}
use Rattle.packed_lists.specs.Decoded.{IsBlockAt, AreBlocksAt, ArePlaced}
use Rattle.packed_lists.specs.Found.{IsFound}
use Rattle.packed_lists.specs.Lists.{AreAlike}
use Rattle.packed_lists.specs.Laws.Listed.{places-lists, placed-at, lists-are}
use Rattle.column_block.specs.EachLaws.{each-append, each-at}
use Rattle.column_block.specs.HeldParts.{BeginsLists, AreListsAhead, number_at, parts_at, first_parts}
use Rattle.row_cells.specs.Each.{Each}
use Rattle.column_block.specs.Spelling.{six_lists, high, low, whole_of}
use Rattle.packed_lists.specs.Laws.Spelled.{nums-push, placed-before, placed-push}
use Rattle.packed_lists.specs.Laws.Fronts.{same-nums, nums-fit}
use Rattle.column_block.specs.HalfLaws.{joined, high-again, low-again}
use Rattle.packed_lists.specs.Laws.Placing.{places-count, block-range, part-of-block}

-- what a place has that no parts were put in
abbrev pub none : Parts
none = record { min = pos 0; max = pos 0; sum = pos 0; count = pos 0 }

-- ---- finding them

pub none-lists : (bytes : List ℕ) (from count all : ℕ) (places : List (List ℕ)) → from ≤ length bytes → places ≡ [] → AreListsAhead bytes from from places count 0 all
none-lists bytes from count all places within empty = (
  [],
  record {
    nums = [];
    spelled = refl;
    each = tt;
    order = omega arith;
    within = within;
    behind = refl;
    placed = subst (λ z. ArePlaced (take from bytes) z []) (sym empty) tt;
  },
  refl,
  λ b. (let e : all ≡ all - 0 = omega arith in subst (λ z. BeginsLists z count (drop from bytes)) e b),
)

-- the first list that the bytes begin with
pub begins-first : (n count : ℕ) (bytes : List ℕ) → BeginsLists n count bytes → 0 < n → (vs : List ℤ) × (nums rest : List ℕ) × (length vs ≡ count) × IsNums vs nums × (bytes ≡ nums ++ rest)
begins-first n count bytes ([], nums, rest, m, each, h, e) some = absurd (omega (arith, m))
begins-first n count bytes (vs ∷ lists, nums, rest, m, each, (front, behind, g, h, d), e) some =
    (vs, front, behind ++ rest, each.0, g, e ∙ ap (λ z. z ++ rest) d ∙ append_assoc front behind rest)

pub begins-behind : (n count : ℕ) (bytes : List ℕ) (ws : List ℤ) (mine after : List ℕ) → BeginsLists n count bytes → 0 < n → length ws ≡ count → IsNums ws mine → bytes ≡ mine ++ after → BeginsLists (n - 1) count after
begins-behind n count bytes ws mine after ([], nums, rest, m, each, h, e) some k w f = absurd (omega (arith, m))
begins-behind n count bytes ws mine after (vs ∷ lists, nums, rest, m, each, (front, behind, g, h, d), e) some k w f =
    let s = same-nums vs ws front mine (behind ++ rest) after (each.0 ∙ sym k) g w (sym (append_assoc front behind rest) ∙ ap (λ z. z ++ rest) (sym d) ∙ sym e ∙ f) in
    (lists, behind, rest, omega (arith, m), each.1, h, sym s.2)

pub lists-more : (bytes : List ℕ) (from end to : ℕ) (places : List (List ℕ)) (count done all : ℕ) (p : List ℕ) (vs : List ℤ) → AreListsAhead bytes from end places count done all → done < all
    → IsFound bytes end to p vs → length vs ≡ count → AreListsAhead bytes from to (places ++ p ∷ []) count (done + 1) all
lists-more bytes from end to places count done all p vs (lists, h, n, ahead) more f m =
    let e : end + (to - end) ≡ to = omega (arith, f.order) in
    let longer : take end bytes ++ take (to - end) (drop end bytes) ≡ take to bytes = sym (take-add end (to - end) bytes) ∙ ap (λ z. take z bytes) e in (
      lists ++ vs ∷ [],
      record {
        nums = h.nums ++ f.nums;
        spelled = nums-push lists vs h.nums f.nums h.spelled f.spelled;
        each = each-append (λ v. length v ≡ count) lists (vs ∷ []) h.each (m, tt);
        order = omega (arith, h.order, f.order);
        within = f.within;
        behind = h.behind ∙ ap (λ z. h.nums ++ z) f.behind ∙ sym (append_assoc h.nums f.nums (drop to bytes));
        placed = placed-push (take to bytes) places lists p vs
            (subst (λ z. ArePlaced z places lists) longer (placed-before (take end bytes) (take (to - end) (drop end bytes)) places lists h.placed)) f.placed;
      },
      omega (arith, length-append lists (vs ∷ []), n),
      λ b. (let z : all - done - 1 ≡ all - (done + 1) = omega arith in
          subst (λ z. BeginsLists z count (drop to bytes)) z (begins-behind (all - done) count (drop end bytes) vs f.nums (drop to bytes) (ahead b) (omega arith) m f.spelled f.behind)),
    )

-- ---- parts by six lists

pub six-long : (ps : List Parts) → Each (λ (vs : List ℤ). length vs ≡ length ps) (six_lists ps)
six-long ps =
    (length-map ps (λ p. p.min), (length-map ps (λ p. p.max), (length-map ps (λ p. high p.sum), (length-map ps (λ p. low p.sum), (length-map ps (λ p. high p.count), (length-map ps (λ p. low p.count), tt))))))

-- a number of each list, by the parts at its place
pub pick-at : (g : Parts → ℤ) (ps : List Parts) (k : ℕ) (d : Parts) → k < length ps → get_or (map g ps) k (pos 0) ≡ g (get_or ps k d)
pick-at g ps k d h = get_or-map g ps k d (pos 0) h

made : ℤ → ℤ → ℤ → ℤ → Parts
made a b c d = record { min = a; max = b; sum = c; count = d }

-- parts by their numbers
pub parts-made : (ps : List Parts) (k : ℕ) (d : Parts) (a b sh sl ch cl : ℤ) → k < length ps → a ≡ number_at (six_lists ps) 0 k → b ≡ number_at (six_lists ps) 1 k
    → sh ≡ number_at (six_lists ps) 2 k → sl ≡ number_at (six_lists ps) 3 k → ch ≡ number_at (six_lists ps) 4 k → cl ≡ number_at (six_lists ps) 5 k
    → record { min = a; max = b; sum = whole_of sh sl; count = whole_of ch cl } ≡ get_or ps k d
unfolding made
parts-made ps k d a b sh sl ch cl h ea eb esh esl ech ecl =
    let p = get_or ps k d in
    let s : whole_of sh sl ≡ p.sum = ap (λ z. whole_of z sl) (esh ∙ pick-at (λ q. high q.sum) ps k d h) ∙ ap (whole_of (high p.sum)) (esl ∙ pick-at (λ q. low q.sum) ps k d h) ∙ joined p.sum in
    let n : whole_of ch cl ≡ p.count = ap (λ z. whole_of z cl) (ech ∙ pick-at (λ q. high q.count) ps k d h) ∙ ap (whole_of (high p.count)) (ecl ∙ pick-at (λ q. low q.count) ps k d h) ∙ joined p.count in
    ap (λ z. made z b (whole_of sh sl) (whole_of ch cl)) (ea ∙ pick-at (λ q. q.min) ps k d h)
    ∙ ap (λ z. made p.min z (whole_of sh sl) (whole_of ch cl)) (eb ∙ pick-at (λ q. q.max) ps k d h)
    ∙ ap (λ z. made p.min p.max z (whole_of ch cl)) s
    ∙ ap (made p.min p.max p.sum) n

-- the parts of the lists of parts
pub first-again : (ps : List Parts) → first_parts (length ps) (six_lists ps) ≡ ps
unfolding first_parts
first-again ps = ext_get_or none (first_parts (length ps) (six_lists ps)) ps (length-map-range_with_len (parts_at (six_lists ps)) 0 (length ps))
    (λ k h. (let l : k < length ps = subst (λ z. k < z) (length-map-range_with_len (parts_at (six_lists ps)) 0 (length ps)) h in
    get_or-map-range_with_len (parts_at (six_lists ps)) 0 (length ps) k k none l (omega arith) ∙ parts-made ps k none _ _ _ _ _ _ l refl refl refl refl refl refl))

-- six lists tell their parts
pub six-tell : (ps qs : List Parts) → six_lists ps ≡ six_lists qs → ps ≡ qs
six-tell ps qs same =
    let n : length ps ≡ length qs = sym (length-map ps (λ p. p.min)) ∙ ap (λ (z : List (List ℤ)). length (get_or z 0 [])) same ∙ length-map qs (λ p. p.min) in
    sym (first-again ps) ∙ ap (λ z. first_parts z (six_lists ps)) n ∙ ap (first_parts (length qs)) same ∙ first-again qs

pub six-alike : (ps qs : List Parts) → length ps ≡ length qs → AreAlike (six_lists ps) (six_lists qs)
six-alike ps qs n = (each (λ p. p.min), (each (λ p. p.max), (each (λ p. high p.sum), (each (λ p. low p.sum), (each (λ p. high p.count), (each (λ p. low p.count), tt))))))
  where
    each : (f : Parts → ℤ) → length (map f ps) ≡ length (map f qs)
    each f = length-map ps f ∙ n ∙ sym (length-map qs f)

-- one list of the parts of some lists
pub list-again : (g : Parts → ℤ) (lists : List (List ℤ)) (count : ℕ) (vs : List ℤ) → length vs ≡ count → ((k : ℕ) → k < count → g (parts_at lists k) ≡ get_or vs k (pos 0)) → map g (first_parts count lists) ≡ vs
unfolding first_parts
list-again g lists count vs n each =
    let m : length (map g (first_parts count lists)) ≡ count = length-map (first_parts count lists) g ∙ length-map-range_with_len (parts_at lists) 0 count in
    ext_get_or (pos 0) (map g (first_parts count lists)) vs (m ∙ sym n)
    (λ k h. (let l : k < count = subst (λ z. k < z) m h in
    get_or-map g (first_parts count lists) k (parts_at lists k) (pos 0) (subst (λ z. k < z) (sym (length-map-range_with_len (parts_at lists) 0 count)) l)
    ∙ ap g (get_or-map-range_with_len (parts_at lists) 0 count k k (parts_at lists k) l (omega arith)) ∙ each k l))

fits-at : (vs : List ℤ) (nums : List ℕ) (k count : ℕ) → length vs ≡ count → k < count → IsNums vs nums → FitsSigned w64 (get_or vs k (pos 0))
fits-at vs nums k count n l h = All-get_or (FitsSigned w64) vs k (pos 0) (subst (λ z. k < z) (sym n) l) (nums-fit vs nums h)

-- six lists of numbers are those of some parts
pub six-again : (lists : List (List ℤ)) (nums : List ℕ) (count : ℕ) → length lists ≡ 6 → Each (λ vs. length vs ≡ count) lists → AreNums lists nums → (ps : List Parts) × (six_lists ps ≡ lists) × (length ps ≡ count)
unfolding first_parts
six-again (a ∷ b ∷ c ∷ d ∷ e ∷ f ∷ []) nums count n (ka, (kb, (kc, (kd, (ke, (kf, u)))))) (na, ra, ga, (nb, rb, gb, (nc, rc, gc, (nd, rd, gd, (ne, re, ge, (nf, rf, gf, rest, qf), qe), qd), qc), qb), qa) =
    let lists = a ∷ b ∷ c ∷ d ∷ e ∷ f ∷ [] in
    let ps = first_parts count lists in (
      ps,
      ap (λ z. z ∷ map (λ p. p.max) ps ∷ map (λ p. high p.sum) ps ∷ map (λ p. low p.sum) ps ∷ map (λ p. high p.count) ps ∷ map (λ p. low p.count) ps ∷ []) (list-again (λ p. p.min) lists count a ka (λ k l. refl))
          ∙ ap (λ z. a ∷ z ∷ map (λ p. high p.sum) ps ∷ map (λ p. low p.sum) ps ∷ map (λ p. high p.count) ps ∷ map (λ p. low p.count) ps ∷ []) (list-again (λ p. p.max) lists count b kb (λ k l. refl))
          ∙ ap (λ z. a ∷ b ∷ z ∷ map (λ p. low p.sum) ps ∷ map (λ p. high p.count) ps ∷ map (λ p. low p.count) ps ∷ []) (list-again (λ p. high p.sum) lists count c kc (λ k l. high-again (get_or c k (pos 0)) (get_or d k (pos 0)) (fits-at d nd k count kd l gd)))
          ∙ ap (λ z. a ∷ b ∷ c ∷ z ∷ map (λ p. high p.count) ps ∷ map (λ p. low p.count) ps ∷ []) (list-again (λ p. low p.sum) lists count d kd (λ k l. low-again (get_or c k (pos 0)) (get_or d k (pos 0)) (fits-at d nd k count kd l gd)))
          ∙ ap (λ z. a ∷ b ∷ c ∷ d ∷ z ∷ map (λ p. low p.count) ps ∷ []) (list-again (λ p. high p.count) lists count e ke (λ k l. high-again (get_or e k (pos 0)) (get_or f k (pos 0)) (fits-at f nf k count kf l gf)))
          ∙ ap (λ z. a ∷ b ∷ c ∷ d ∷ e ∷ z ∷ []) (list-again (λ p. low p.count) lists count f kf (λ k l. low-again (get_or e k (pos 0)) (get_or f k (pos 0)) (fits-at f nf k count kf l gf))),
      length-map-range_with_len (parts_at lists) 0 count,
    )
six-again [] nums count n each h = absurd (omega (arith, n))
six-again (a ∷ []) nums count n each h = absurd (omega (arith, n))
six-again (a ∷ b ∷ []) nums count n each h = absurd (omega (arith, n))
six-again (a ∷ b ∷ c ∷ []) nums count n each h = absurd (omega (arith, n))
six-again (a ∷ b ∷ c ∷ d ∷ []) nums count n each h = absurd (omega (arith, n))
six-again (a ∷ b ∷ c ∷ d ∷ e ∷ []) nums count n each h = absurd (omega (arith, n))
six-again (a ∷ b ∷ c ∷ d ∷ e ∷ f ∷ g ∷ more) nums count n each h = absurd (omega (arith, n))

-- ---- reading a block of one of the lists

-- the blocks of a list, by what is read on the way
pub list-blocks : (bytes : List ℕ) (places : List (List ℕ)) (ps : List Parts) (k : ℕ) (lent p : List ℕ) → ArePlaced bytes places (six_lists ps) → k < 6 → p ≡ get_or places k p → lent ≡ p → AreBlocksAt bytes lent (get_or (six_lists ps) k [])
list-blocks bytes places ps k lent p h l e f =
    let n : length places ≡ 6 = places-lists bytes places (six_lists ps) h in
    subst (λ z. AreBlocksAt bytes z (get_or (six_lists ps) k [])) (sym (f ∙ e ∙ get_or_default places k p [] (omega (arith, n)))) (placed-at bytes places (six_lists ps) k h l)

-- its length
pub list-long : (ps : List Parts) (k : ℕ) → k < 6 → length (get_or (six_lists ps) k []) ≡ length ps
list-long ps k l = each-at (λ (vs : List ℤ). length vs ≡ length ps) (six_lists ps) k [] l (six-long ps)

pub list-block-within : (bytes : List ℕ) (places : List (List ℕ)) (ps : List Parts) (k block : ℕ) (lent p : List ℕ) → ArePlaced bytes places (six_lists ps) → k < 6 → 128 * block < length ps → p ≡ get_or places k p → lent ≡ p → block < length lent
list-block-within bytes places ps k block lent p h l within e f =
    omega (arith, (places-count bytes lent (get_or (six_lists ps) k []) (list-blocks bytes places ps k lent p h l e f)).0, list-long ps k l)

same-length : {A B : Type 0} (xs : List A) (ys : List B) (from to : ℕ) → length xs ≡ length ys → length (slice_range xs from to) ≡ length (slice_range ys from to)
same-length xs ys from to n = omega (arith, length-take (to - from) (drop from xs), length-take (to - from) (drop from ys), length-drop from xs, length-drop from ys)

pub list-count : (ps : List Parts) (k block n : ℕ) → k < 6 → n ≡ length (slice_range (get_or (six_lists ps) k []) (128 * block) (128 * block + 128)) → n ≡ length (slice_range ps (128 * block) (128 * block + 128))
list-count ps k block n l e = e ∙ same-length (get_or (six_lists ps) k []) ps (128 * block) (128 * block + 128) (list-long ps k l)

-- no block has more than 128
pub block-few : {A : Type 0} (us : List A) (b c : ℕ) → c ≡ length (slice_range us (128 * b) (128 * b + 128)) → c ≤ 128
block-few us b c d = omega (arith, length-take (128 * b + 128 - 128 * b) (drop (128 * b) us))

-- its numbers, by what a buffer holds
pub list-number : (ps : List Parts) (list block n k : ℕ) (buffer old : List ℤ) → list < 6 → n ≡ length (slice_range (get_or (six_lists ps) list []) (128 * block) (128 * block + 128)) → k < n
    → buffer ≡ slice_range (get_or (six_lists ps) list []) (128 * block) (128 * block + 128) ++ old → get_or buffer k (pos 0) ≡ number_at (six_lists ps) list (128 * block + k)
list-number ps list block n k buffer old l m h e =
    let vs = get_or (six_lists ps) list [] in
    let span : n ≤ 128 = block-few vs block n m in
    ap (λ z. get_or z k (pos 0)) e ∙ get_or_append_left (slice_range vs (128 * block) (128 * block + 128)) old (pos 0) k (subst (λ z. k < z) m h)
    ∙ get_or-take (128 * block + 128 - 128 * block) (drop (128 * block) vs) k (pos 0) (omega arith) ∙ get_or-drop (128 * block) vs k (pos 0)

-- ---- one item more of each list

pub map-more : {A : Type 0} (f : A → ℤ) (xs : List A) (k : ℕ) (d : A) (r : ℤ) (ys : List ℤ) → k < length xs → ys ≡ map f (take k xs) → FitsSigned w64 r → r ≡ f (get_or xs k d) → ys ++ to_z w64 (of_z w64 r) ∷ [] ≡ map f (take (k + 1) xs)
map-more f xs k d r ys h e fits g =
    ap (λ z. z ++ to_z w64 (of_z w64 r) ∷ []) e ∙ ap (λ z. map f (take k xs) ++ z ∷ []) (to_z-of_z w64 r fits ∙ g) ∙ sym (map-append f (take k xs) (get_or xs k d ∷ [])) ∙ ap (map f) (sym (take_more xs k d h))

pub map-all : {A B : Type 0} (f : A → B) (xs : List A) (k : ℕ) (ys : List B) → length xs ≤ k → ys ≡ map f (take k xs) → ys ≡ map f xs
map-all f xs k ys h e = e ∙ ap (map f) (take_all k xs h)

pub each-as-long : (ps : List Parts) (count : ℕ) → length ps ≡ count → Each (λ (vs : List ℤ). length vs ≡ count) (six_lists ps)
each-as-long ps count n = subst (λ z. Each (λ (vs : List ℤ). length vs ≡ z) (six_lists ps)) n (six-long ps)

-- ---- reading the parts of a block

pub parts-more : (ps : List Parts) (block place n : ℕ) (into : List Parts) (x : Parts) → place < n → n ≡ length (slice_range ps (128 * block) (128 * block + 128)) → length into ≡ 128
    → take place into ≡ take place (slice_range ps (128 * block) (128 * block + 128)) → x ≡ get_or ps (128 * block + place) none
    → take (place + 1) (set into place x) ≡ take (place + 1) (slice_range ps (128 * block) (128 * block + 128))
parts-more ps block place n into x l m long h e =
    let few = block-few ps block n m in
    let all = slice_range ps (128 * block) (128 * block + 128) in
    take_more_set into place x (omega arith) ∙ ap (λ z. z ++ x ∷ []) h
    ∙ ap (λ z. take place all ++ z ∷ []) (e ∙ sym (get_or-take (128 * block + 128 - 128 * block) (drop (128 * block) ps) place none (omega arith) ∙ get_or-drop (128 * block) ps place none))
    ∙ sym (take_more all place none (omega arith))

pub inside-block : (ps : List Parts) (block place n : ℕ) → place < n → n ≡ length (slice_range ps (128 * block) (128 * block + 128)) → 128 * block + place < length ps
inside-block ps block place n l m = omega (arith, length-take (128 * block + 128 - 128 * block) (drop (128 * block) ps), length-drop (128 * block) ps)

pub all-read : (xs ys : List Parts) (n place : ℕ) → n ≤ place → place ≤ n → n ≡ length ys → take place xs ≡ take place ys → take n xs ≡ ys
all-read xs ys n place a b m e = let same : n ≡ place = omega arith in ap (λ z. take z xs) same ∙ e ∙ take_all place ys (omega arith)

-- numbers of placed blocks have 64 bits
pub blocks-fit : (bytes places : List ℕ) (vs : List ℤ) → AreBlocksAt bytes places vs → All (FitsSigned w64) vs
blocks-fit bytes [] vs h = subst (All (FitsSigned w64)) (sym h) (All-nil (FitsSigned w64))
blocks-fit bytes (at ∷ places) vs h = subst (All (FitsSigned w64)) (take-append-drop 128 vs) (All-append (FitsSigned w64) (take 128 vs) (drop 128 vs) (signed h.0) (blocks-fit bytes places (drop 128 vs) h.1))
  where
    signed : IsBlockAt bytes at (take 128 vs) → All (FitsSigned w64) (take 128 vs)
    signed (ahead, block, rest, (b, g, f), e, n) = g.signed

pub number-fits : (bytes : List ℕ) (places : List (List ℕ)) (ps : List Parts) (list k : ℕ) → ArePlaced bytes places (six_lists ps) → list < 6 → k < length ps → FitsSigned w64 (number_at (six_lists ps) list k)
number-fits bytes places ps list k h l m =
    All-get_or (FitsSigned w64) (get_or (six_lists ps) list []) k (pos 0) (subst (λ z. k < z) (sym (list-long ps list l)) m) (blocks-fit bytes (get_or places list []) (get_or (six_lists ps) list []) (placed-at bytes places (six_lists ps) list h l))

-- a number that was read is the one that is there
read-again : (bytes : List ℕ) (places : List (List ℕ)) (ps : List Parts) (list k : ℕ) (v : ℤ) → ArePlaced bytes places (six_lists ps) → list < 6 → k < length ps → v ≡ number_at (six_lists ps) list k → to_z w64 (of_z w64 v) ≡ number_at (six_lists ps) list k
read-again bytes places ps list k v h l m e = to_z-of_z w64 v (subst (FitsSigned w64) (sym e) (number-fits bytes places ps list k h l m)) ∙ e

pub parts-read : (bytes : List ℕ) (places : List (List ℕ)) (ps : List Parts) (k : ℕ) (a b sh sl ch cl s c : ℤ) → ArePlaced bytes places (six_lists ps) → k < length ps
    → a ≡ number_at (six_lists ps) 0 k → b ≡ number_at (six_lists ps) 1 k → sh ≡ number_at (six_lists ps) 2 k → sl ≡ number_at (six_lists ps) 3 k → ch ≡ number_at (six_lists ps) 4 k → cl ≡ number_at (six_lists ps) 5 k
    → s ≡ whole_of (to_z w64 (of_z w64 sh)) (to_z w64 (of_z w64 sl)) → FitsSigned w128 s → c ≡ whole_of (to_z w64 (of_z w64 ch)) (to_z w64 (of_z w64 cl)) → FitsSigned w128 c
    → record { min = to_z w64 (of_z w64 a); max = to_z w64 (of_z w64 b); sum = to_z w128 (of_z w128 s); count = to_z w128 (of_z w128 c) } ≡ get_or ps k none
unfolding made
parts-read bytes places ps k a b sh sl ch cl s c h m ea eb esh esl ech ecl es fs ec fc =
    ap (λ z. made (to_z w64 (of_z w64 a)) (to_z w64 (of_z w64 b)) z (to_z w128 (of_z w128 c))) (to_z-of_z w128 s fs ∙ es)
    ∙ ap (made (to_z w64 (of_z w64 a)) (to_z w64 (of_z w64 b)) (whole_of (to_z w64 (of_z w64 sh)) (to_z w64 (of_z w64 sl)))) (to_z-of_z w128 c fc ∙ ec)
    ∙ parts-made ps k none _ _ _ _ _ _ m (read-again bytes places ps 0 k a h (omega arith) m ea) (read-again bytes places ps 1 k b h (omega arith) m eb)
    (read-again bytes places ps 2 k sh h (omega arith) m esh) (read-again bytes places ps 3 k sl h (omega arith) m esl) (read-again bytes places ps 4 k ch h (omega arith) m ech) (read-again bytes places ps 5 k cl h (omega arith) m ecl)

-- every list is read as far
pub as-far : (ps : List Parts) (block n m k : ℕ) → n ≡ length (slice_range ps (128 * block) (128 * block + 128)) → m ≡ length (slice_range ps (128 * block) (128 * block + 128)) → k < n → k < m
as-far ps block n m k e f l = omega (arith, e, f)

-- a part of what was read of a block
pub part-read : {A : Type 0} (ps xs : List A) (block from to : ℕ) → from ≤ to → to ≤ 128 → xs ≡ slice_range ps (128 * block) (128 * block + 128) → slice_range xs from to ≡ slice_range ps (128 * block + from) (128 * block + to)
part-read ps xs block from to order inside e =
    let first = 128 * block in
    let a : from ≡ first + from - first = omega arith in
    let b : to ≡ first + to - first = omega arith in
    ap (λ z. slice_range z from to) (e ∙ sym (block-range ps block))
    ∙ ap (λ z. slice_range (take 128 (drop first ps)) z to) a
    ∙ ap (slice_range (take 128 (drop first ps)) (first + from - first)) b
    ∙ part-of-block ps first (first + from) (first + to) (omega arith) (omega arith) (omega arith)

-- ---- properties of all parts

-- the parts of a block more
pub each-block : {A : Type 0} (P : A → Type 0) (ps xs : List A) (block : ℕ) → Each P (take (128 * block) ps) → Each P xs → xs ≡ slice_range ps (128 * block) (128 * block + 128) → Each P (take (128 * (block + 1)) ps)
each-block P ps xs block h k e =
    let n : 128 * block + 128 ≡ 128 * (block + 1) = omega arith in
    subst (Each P) (sym (take-add (128 * block) 128 ps) ∙ ap (λ z. take z ps) n) (each-append P (take (128 * block) ps) (take 128 (drop (128 * block) ps)) h (subst (Each P) (e ∙ sym (block-range ps block)) k))

-- ---- places tell their parts

pub one-parts : (bytes : List ℕ) (places : List (List ℕ)) (ps qs : List Parts) → ArePlaced bytes places (six_lists ps) → ArePlaced bytes places (six_lists qs) → ps ≡ qs
one-parts bytes places ps qs h k = six-tell ps qs (sym (lists-are bytes places (six_lists ps) h) ∙ lists-are bytes places (six_lists qs) k)

pub one-long : (bytes : List ℕ) (places : List (List ℕ)) (ps qs : List Parts) → ArePlaced bytes places (six_lists ps) → ArePlaced bytes places (six_lists qs) → length ps ≡ length qs
one-long bytes places ps qs h k = ap (λ (z : List Parts). length z) (one-parts bytes places ps qs h k)
