-- What a reader's answers say, from what its window shows.
use Rattle.std.proofs.Common.{◌≡◌, ◌∙◌, ℕ, ◌+◌, ◌-◌, ◌<◌, ◌≤◌, Bool, true, false, cond, Option, None, Some, IfSome, List, [], ◌∷◌, ◌++◌, length, take, drop, refl, ap, sym, subst, arith, ◌⊎◌, inl, inr, length-take, length-append, append-nil}
use Rattle.std.specs.Io.BufRead.{strip_last, ends_with_byte}
use Rattle.std.proofs.lemmas.List.{take-append-drop}
use Rattle.edge_face.specs.Contents.{preceded}
use Rattle.edge_face.specs.Limits.{line_limit, input_limit}
use Rattle.edge_face.specs.Lines.{piece_of, after_piece, line_of, HasNoNewline, ShowsPiece, EndsInNewline, EndsInput}
use Rattle.edge_face.specs.Waiting.{Grew}
use Rattle.edge_face.specs.Reading.{Reading, IsTooLong, WaitTooLong, ShowsLine, TakesLine, left_of}
use Rattle.edge_face.proofs.ContentsLemmas.{preceded-preceded}
use Rattle.edge_face.specs.LinesLaws.{piece-none}
use Rattle.edge_face.proofs.LinesLemmas.{strip-none}

-- at most one byte is cut
strip-least : (byte : ℕ) (bytes : List ℕ) → length bytes - 1 ≤ length (strip_last byte bytes)
strip-least byte bytes = go (ends_with_byte byte bytes)
  where
    go : (b : Bool) → length bytes - 1 ≤ length (cond b (take (length bytes - 1) bytes) bytes)
    go true = omega (arith, length-take (length bytes - 1) bytes)
    go false = omega arith

-- a full window without a newline begins a line that is too long
long_piece : (waiting rest : List ℕ) → HasNoNewline waiting → length waiting ≡ line_limit + 1 → line_limit < length (strip_last 10 (piece_of (waiting ++ rest)))
long_piece waiting rest none full = subst (λ l. line_limit < length (strip_last 10 l)) (sym (piece-none waiting rest none)) (by_rest (piece_of rest))
  where
    by_rest : (more : List ℕ) → line_limit < length (strip_last 10 (waiting ++ more))
    by_rest [] = subst (λ l. line_limit < length (strip_last 10 l)) (sym (append-nil waiting)) (omega (arith, full, ap length (strip-none waiting none)))
    by_rest (x ∷ xs) = omega (arith, full, strip-least 10 (waiting ++ x ∷ xs), length-append waiting (x ∷ xs))

pub too_long_full : (answered : ℕ) (waiting : List ℕ) (left : Option (List ℕ)) → HasNoNewline waiting → length waiting ≡ line_limit + 1 → IfSome (preceded waiting left) (λ all. IsTooLong answered all (line_limit + 1))
too_long_full answered waiting None none full = tt
too_long_full answered waiting (Some rest) none full = inl (long_piece waiting rest none full, refl)

-- both of a full window
pub full_cause : (before reader : Reading) (left : Option (List ℕ)) → HasNoNewline reader.pending → length reader.pending ≡ line_limit + 1 → IfSome (left_of reader left) (λ all. IsTooLong reader.answered all (line_limit + 1)) × WaitTooLong reader left (line_limit + 1)
full_cause before reader left none full = (too_long_full reader.answered reader.pending left none full, inl (none, full, refl))

past_told : (answered n : ℕ) (waiting : List ℕ) (ended : Bool) (left : Option (List ℕ)) → ShowsPiece n waiting ended left → length (strip_last 10 (take n waiting)) ≤ line_limit → input_limit < answered + n → IfSome (preceded waiting left) (λ all. IsTooLong answered all (input_limit + 1))
past_told answered n waiting ended None shows short past = tt
past_told answered n waiting ended (Some rest) shows short past =
    let inside : n ≤ length waiting = shows.inside in
    inr (subst (λ p. length (strip_last 10 p) ≤ line_limit) (sym shows.piece) short, omega (arith, past, ap length shows.piece, length-take n waiting), refl)

pub past_cause : (n : ℕ) (reader : Reading) (left : Option (List ℕ)) → ShowsPiece n reader.pending reader.ended left → length (strip_last 10 (take n reader.pending)) ≤ line_limit → input_limit < reader.answered + n → IfSome (left_of reader left) (λ all. IsTooLong reader.answered all (input_limit + 1)) × WaitTooLong reader left (input_limit + 1)
past_cause n reader left shows short past = (past_told reader.answered n reader.pending reader.ended left shows short past, inr (record { piece = n; shown = shows; short = short; past = past; bytes_is = refl }))

-- where no line is left the source has ended
pub at_end : (n : ℕ) (reader : Reading) (left : Option (List ℕ)) → ShowsLine n reader left → n ≡ 0 → (reader.ended ≡ true) × (reader.pending ≡ [])
at_end n reader left shows zero = (by_how shows.shown.how, (shows.shown.none zero).0)
  where
    by_how : EndsInNewline n reader.pending ⊎ EndsInput n reader.pending reader.ended → reader.ended ≡ true
    by_how (inl e) = absurd (omega (arith, e.some, zero))
    by_how (inr e) = e.source

-- a line that is shown is taken
pub takes_line : (line : List ℕ) (n : ℕ) (before shown after : Reading) (old new : Option (List ℕ)) → left_of shown new ≡ left_of before old → Grew before.pending shown.pending old new → shown.answered ≡ before.answered
    → (before.ended ≡ true → shown.pending ≡ before.pending) → ShowsLine n shown new → 0 < n → line ≡ line_of (take n shown.pending) → after ≡ record { pending = drop n shown.pending; answered = shown.answered + n; refused = shown.refused; ended = shown.ended } → TakesLine line before after old new
takes_line line n before shown after old new kept grown counted still shows some is passed =
    let inside = shows.shown.inside in
    let long : length (take n shown.pending) ≡ n = omega (arith, length-take n shown.pending, inside) in
    let whole : take n shown.pending ++ after.pending ≡ shown.pending = ap (λ r. take n shown.pending ++ r.pending) passed ∙ take-append-drop n shown.pending in
    record {
      piece = take n shown.pending;
      line_is = is;
      moved = sym kept ∙ ap (λ l. preceded l new) (sym (take-append-drop n shown.pending)) ∙ sym (preceded-preceded (take n shown.pending) (drop n shown.pending) new) ∙ ap (λ r. preceded (take n shown.pending) (left_of r new)) (sym passed);
      first = subst (λ o. IfSome o (λ all. take n shown.pending ≡ piece_of all)) kept (first new shows.shown.piece);
      rest = subst (λ o. IfSome o (λ all. left_of after new ≡ Some (after_piece all))) kept (subst (λ r. IfSome (left_of shown new) (λ all. left_of r new ≡ Some (after_piece all))) (sym passed) (rest new shows.shown.after));
      grew = subst (λ l. Grew before.pending l old new) (sym whole) grown;
      how = subst (λ l. EndsInNewline (length (take n shown.pending)) l ⊎ EndsInput (length (take n shown.pending)) l after.ended) (sym whole)
          (subst (λ k. EndsInNewline k shown.pending ⊎ EndsInput k shown.pending after.ended) (sym long)
          (subst (λ r. EndsInNewline n shown.pending ⊎ EndsInput n shown.pending r.ended) (sym passed) shows.shown.how));
      stays = λ ended. sym (still ended) ∙ sym whole;
      some = omega arith;
      short = shows.short;
      counted = ap (λ r. r.answered) passed ∙ ap (λ k. k + n) counted ∙ ap (λ k. before.answered + k) (sym long);
      within = subst (λ r. r.answered ≤ input_limit) (sym passed) shows.within;
      fine = ap (λ r. r.refused) passed ∙ shows.fine;
    }
  where
    first : (left : Option (List ℕ)) → IfSome left (λ rest. piece_of (shown.pending ++ rest) ≡ take n shown.pending) → IfSome (preceded shown.pending left) (λ all. take n shown.pending ≡ piece_of all)
    first None h = tt
    first (Some rest) h = sym h

    rest : (left : Option (List ℕ)) → IfSome left (λ rest. after_piece (shown.pending ++ rest) ≡ drop n shown.pending ++ rest) → IfSome (preceded shown.pending left) (λ all. preceded (drop n shown.pending) left ≡ Some (after_piece all))
    rest None h = tt
    rest (Some more) h = ap Some (sym h)
