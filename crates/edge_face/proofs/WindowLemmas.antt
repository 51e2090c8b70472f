-- Ranges of a buffer.
use Rattle.std.proofs.Common.{◌++◌, ◌≡◌, ◌∙◌, ℕ, ◌+◌, ◌-◌, ◌≤◌, length, take, drop, List, sym, ap, arith, length-drop, length-take, append_assoc, append-nil, []}
use Rattle.std.specs.List.{slice_range, slice_index}
use Rattle.std.proofs.Math.ListN.{get_or-append}
use Rattle.std.specs.Prelude.{Option}
use Rattle.edge_face.specs.Contents.{preceded}
use Rattle.edge_face.specs.Lines.{NoNewlineBelow}
use Rattle.edge_face.specs.Waiting.{Grew}
use Rattle.edge_face.proofs.ContentsLemmas.{preceded-preceded, preceded-nothing}
use Rattle.std.proofs.lemmas.List.{drop-take, drop-drop}
use Rattle.std.proofs.Math.Seq.{take-add}

-- what is left of a range after its first n
pub drop-slice_range : {A : Type 0} (xs : List A) (i j n : ℕ) → i + n ≤ j → slice_range xs (i + n) j ≡ drop n (slice_range xs i j)
drop-slice_range xs i j n within =
    let count : n + (j - (i + n)) ≡ j - i = omega arith in
    ap (take (j - (i + n))) (sym (drop-drop n i xs)) ∙ sym (drop-take n (j - (i + n)) (drop i xs)) ∙ ap (λ k. drop n (take k (drop i xs))) count

-- a range that lies inside has as many as it spans
pub length-slice_range : {A : Type 0} (xs : List A) (i j : ℕ) → i ≤ j → j ≤ length xs → length (slice_range xs i j) ≡ j - i
length-slice_range xs i j order inside = omega (arith, length-take (j - i) (drop i xs), length-drop i xs)

-- two buffers that agree below j have one range up to j
pub slice_range-same : {A : Type 0} (xs ys : List A) (i j : ℕ) → i ≤ j → take j xs ≡ take j ys → slice_range xs i j ≡ slice_range ys i j
slice_range-same xs ys i j order same =
    let spans : i + (j - i) ≡ j = omega arith in
    sym (drop-take i (j - i) xs) ∙ ap (λ n. drop i (take n xs)) spans ∙ ap (drop i) same ∙ sym (ap (λ n. drop i (take n ys)) spans) ∙ drop-take i (j - i) ys

-- bytes that wait, then bytes just taken: together with what is left they are what waited and was left
pub grown-kept : (waiting more : List ℕ) (old new : Option (List ℕ)) (now : List ℕ) → now ≡ waiting ++ more → old ≡ preceded more new → preceded now new ≡ preceded waiting old
grown-kept waiting more old new now is taken = ap (λ l. preceded l new) is ∙ sym (preceded-preceded waiting more new) ∙ ap (preceded waiting) (sym taken)

-- what was taken waits
pub grew : (before more now : List ℕ) (old new : Option (List ℕ)) → now ≡ before ++ more → old ≡ preceded more new → Grew before now old new
grew before more now old new is taken = record { more = more; waits = is; taken = taken }

-- nothing was taken
pub grew-nothing : (before now : List ℕ) (old new : Option (List ℕ)) → now ≡ before → new ≡ old → Grew before now old new
grew-nothing before now old new same left = record { more = []; waits = same ∙ sym (append-nil before); taken = sym left ∙ sym (preceded-nothing new) }

-- first some, then more
pub grew-grew : (before middle now : List ℕ) (first second third : Option (List ℕ)) → Grew before middle first second → Grew middle now second third → Grew before now first third
grew-grew before middle now first second third one two = record {
  more = one.more ++ two.more;
  waits = two.waits ∙ ap (λ l. l ++ two.more) one.waits ∙ append_assoc before one.more two.more;
  taken = one.taken ∙ ap (preceded one.more) two.taken ∙ preceded-preceded one.more two.more third;
}

-- together they are what they were
pub grew-kept-all : (before now : List ℕ) (old new : Option (List ℕ)) → Grew before now old new → preceded now new ≡ preceded before old
grew-kept-all before now old new g = grown-kept before g.more old new now g.waits g.taken

-- what holds below n in the front holds there in the whole
pub NoNewlineBelow-append : (n : ℕ) (front more whole : List ℕ) → n ≤ length front → whole ≡ front ++ more → NoNewlineBelow n front → NoNewlineBelow n whole
NoNewlineBelow-append n front more whole within is none =
    λ k below. λ newline. none k below (sym (get_or-append front more 0 k (omega arith)) ∙ ap (λ l. slice_index l k) (sym is) ∙ newline)

-- the first j and then n more
pub take-then : {A : Type 0} (xs front : List A) (j n : ℕ) (more : List A) → take j xs ≡ front → slice_range xs j (j + n) ≡ more → take (j + n) xs ≡ front ++ more
take-then xs front j n more first second =
    let rest : (j + n) - j ≡ n = omega arith in
    take-add j n xs ∙ ap (λ l. l ++ take n (drop j xs)) first ∙ ap (λ k. front ++ take k (drop j xs)) (sym rest) ∙ ap (λ l. front ++ l) second
