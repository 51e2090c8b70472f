-- What calls of a reader take of a script: nothing, a line, or its end.
use Rattle.std.proofs.Common.{◌≡◌, ◌&&◌, ◌∙◌, ℕ, ◌+◌, ◌<◌, ◌≤◌, ◌==◌, ◌⊎◌, inl, inr, Bool, true, false, ◌||◌, nat_lt, cond, List, [], ◌∷◌, ◌++◌, length, take, drop, map, Option, None, Some, IfSome, refl, ap, sym, subst, arith, length-append, length-take, append_assoc, append-nil}
use Rattle.std.specs.List.{filter}
use Rattle.std.specs.Io.BufRead.{strip_last, ends_with_byte}
use Rattle.std.proofs.lemmas.Bool.{lt-ltb, ne_eqb, eqb-true}
use Rattle.std.proofs.lemmas.Bool.Decides.{nat_tests}
use Rattle.std.proofs.lemmas.List.{take-append-drop, nil_from_length}
use Rattle.std.proofs.Math.Seq.{take-length, drop-length}
use Rattle.std.specs.Prelude.{IfErr, IsErrAnd, Result}
use Rattle.std.proofs.lemmas.Result.{err_from_is_err_and}
use Rattle.edge_face.specs.Contents.{preceded}
use Rattle.edge_face.specs.Limits.{line_limit, input_limit, body_limit}
use Rattle.edge_face.specs.Lines.{piece_of, after_piece, pieces_of, line_of, EndsInNewline, EndsInput}
use Rattle.edge_face.specs.LinesLaws.{piece-none, after-none}
use Rattle.edge_face.specs.Reading.{Reading, ShowsLine, IsTooLong, WaitTooLong, CauseOf, left_of}
use Rattle.edge_face.specs.declared.reader.LineError.{LineError}
use Rattle.edge_face.specs.declared.reader.LineError.TheVariants as line
use Rattle.tsds_cli.specs.Script.{Event, Moment, Request}
use Rattle.tsds_cli.specs.declared.script.Opening.{Opening}
use Rattle.tsds_cli.specs.declared.script.Opening.TheVariants as opening
use Rattle.tsds_cli.specs.declared.errors.RunError.{RunError}
use Rattle.tsds_cli.specs.declared.errors.RunError.TheVariants.{Read, Write, Store, TooLong, NoMemory}
use Rattle.tsds_cli.specs.Errors.{run_error_of}
use Rattle.tsds_cli.specs.Script.{Place, between, within, closes, next_place, at_end, closed_from, events_from, whole_lines, is_empty, is_skipped, is_moment}
use Rattle.tsds_cli.specs.Limits.{is_long_piece, is_long_place, is_over, long_from, fine_from, passed_from}
use Rattle.tsds_cli.specs.Ahead.{Ahead, ahead_in, behind, Leads, MayBeLeft, Passed, PassesHere, IsAtEnd, Stopped, opened, opens}
use Rattle.tsds_cli.proofs.PiecesLemmas.{pieces-split, strip-front}

-- two pieces in front of what is left
pub preceded-preceded : (a b : List ℕ) (left : Option (List ℕ)) → preceded a (preceded b left) ≡ preceded (a ++ b) left
preceded-preceded a b None = refl
preceded-preceded a b (Some rest) = ap Some (sym (append_assoc a b rest))

pub preceded-nothing : (left : Option (List ℕ)) → preceded [] left ≡ left
preceded-nothing None = refl
preceded-nothing (Some rest) = refl

behind-both : (one two : List Event) (a : Ahead) → behind one (behind two a) ≡ behind (one ++ two) a
behind-both one two a =
    let both : List Event → List Event → Ahead = λ e f. record { events = e; fine = f; long = a.long } in
    ap (λ e. both e (one ++ (two ++ a.fine))) (sym (append_assoc one two a.events)) ∙ ap (both ((one ++ two) ++ a.events)) (sym (append_assoc one two a.fine))

-- a look at what comes takes nothing; once the source has ended, what waits stays
pub looked : (place : Place) (before after : Reading) (old new : Option (List ℕ)) → left_of after new ≡ left_of before old → after.answered ≡ before.answered → (after.ended ≡ false → before.ended ≡ false) → (before.ended ≡ true → after.pending ≡ before.pending)
    → Passed place [] place before after old new
looked place before after old new kept counted still stays = record {
  gone = [];
  moved = sym kept ∙ sym (preceded-nothing (left_of after new));
  closed = λ going more. refl;
  short = λ going more. ap (λ n. passed_from place n (pieces_of more)) (sym counted);
  leads = λ more may. ap (λ n. ahead_in place n (pieces_of more)) (sym counted);
  waited = λ ended. sym (stays ended);
  still = still;
  counted = omega (arith, counted);
}

-- a source that has ended stays so
ended-on : (before after : Reading) → (after.ended ≡ false → before.ended ≡ false) → before.ended ≡ true → after.ended ≡ true
ended-on before after still ended = by after.ended still
  where
    no : ◌≡◌ {A = Bool} true false → ⊥
    no h = cc

    by : (b : Bool) → (b ≡ false → before.ended ≡ false) → b ≡ true
    by true still = refl
    by false still = absurd (no (sym ended ∙ still refl))

-- first one way, and then another
pub passed-passed : (one two : List Event) (from middle to : Place) (first second third : Reading) (a b c : Option (List ℕ)) → Passed from one middle first second a b → Passed middle two to second third b c → Passed from (one ++ two) to first third a c
passed-passed one two from middle to first second third a b c p q = record {
  gone = p.gone ++ q.gone;
  moved = p.moved ∙ ap (preceded p.gone) q.moved ∙ preceded-preceded p.gone q.gone (left_of third c);
  closed = λ going more.
      ap (λ l. closed_from from (whole_lines l)) (append_assoc p.gone q.gone more) ∙ p.closed (q.still going) (q.gone ++ more)
      ∙ ap (λ l. one ++ l) (q.closed going more) ∙ sym (append_assoc one two (closed_from to (whole_lines more)));
  short = λ going more. ap (λ l. passed_from from first.answered (pieces_of l)) (append_assoc p.gone q.gone more) ∙ p.short (q.still going) (q.gone ++ more) ∙ q.short going more;
  leads = λ more may. ap (λ l. ahead_in from first.answered (pieces_of l)) (append_assoc p.gone q.gone more) ∙ p.leads (q.gone ++ more) (λ ended. ap (λ l. q.gone ++ l) (may (ended-on second third q.still ended)) ∙ sym (q.waited ended))
      ∙ ap (behind one) (q.leads more may) ∙ behind-both one two (ahead_in to third.answered (pieces_of more));
  waited = λ ended. p.waited ended ∙ ap (λ l. p.gone ++ l) (q.waited (ended-on first second p.still ended)) ∙ sym (append_assoc p.gone q.gone third.pending);
  still = λ going. p.still (q.still going);
  counted = omega (arith, p.counted, q.counted);
}

-- a whole line, whatever follows it
whole-front : (n : ℕ) (waiting more : List ℕ) → EndsInNewline n waiting → n ≤ length waiting → whole_lines (take n waiting ++ more) ≡ line_of (take n waiting) ∷ whole_lines more
whole-front n waiting more e inside =
    let piece : List ℕ = take n waiting in
    let some : 0 < length piece = omega (arith, e.some, length-take n waiting) in
    ap (λ ps. map line_of (filter (ends_with_byte 10) ps)) (pieces-split (piece ++ more) piece more (e.piece more) (e.after more) some)
    ∙ ap (λ v. map line_of (cond v (piece ∷ filter (ends_with_byte 10) (pieces_of more)) (filter (ends_with_byte 10) (pieces_of more)))) e.ends

pub short_piece : (piece : List ℕ) → length (strip_last 10 piece) ≤ line_limit → is_long_piece piece ≡ false
unfolding is_long_piece
short_piece piece short = grind (arith, nat_tests)

long_piece : (piece : List ℕ) → line_limit < length (strip_last 10 piece) → is_long_piece piece ≡ true
unfolding is_long_piece
long_piece piece long = lt-ltb line_limit (length (strip_last 10 piece)) long

not_below : (a b : ℕ) → b ≤ a → nat_lt a b ≡ false
not_below a b below = grind (arith, nat_tests)

-- a piece that passes no length
not-over : (place : Place) (before : ℕ) (piece : List ℕ) → length (strip_last 10 piece) ≤ line_limit → before + length piece ≤ input_limit → is_long_place (next_place place (line_of piece)) ≡ false → is_over place before piece ≡ false
not-over place before piece short limit fits =
    ap (λ v. v || (nat_lt input_limit (before + length piece) || is_long_place (next_place place (line_of piece)))) (short_piece piece short)
    ∙ ap (λ v. v || is_long_place (next_place place (line_of piece))) (not_below input_limit (before + length piece) limit) ∙ fits

ahead-step : (place : Place) (before : ℕ) (piece : List ℕ) (pieces : List (List ℕ)) → is_over place before piece ≡ false → ahead_in place before (piece ∷ pieces) ≡ behind (closes place (line_of piece)) (ahead_in (next_place place (line_of piece)) (before + length piece) pieces)
ahead-step place before piece pieces fine =
    let next : Place = next_place place (line_of piece) in
    let at : Bool → Ahead = λ v. record {
      events = closes place (line_of piece) ++ events_from next (map line_of pieces);
      fine = cond v [] (closes place (line_of piece) ++ fine_from next (before + length piece) pieces);
      long = v || long_from next (before + length piece) pieces;
    } in
    ap at fine

-- bytes that may be left begin with the piece that is shown
first-shown : (n : ℕ) (shown : Reading) → EndsInNewline n shown.pending ⊎ EndsInput n shown.pending shown.ended → (more : List ℕ) → (shown.ended ≡ true → more ≡ drop n shown.pending)
    → (piece_of (take n shown.pending ++ more) ≡ take n shown.pending) × (after_piece (take n shown.pending ++ more) ≡ more)
first-shown n shown (inl e) more may = (e.piece more, e.after more)
first-shown n shown (inr e) more may =
    let waits : List ℕ = shown.pending in
    let all : take n waits ≡ waits = ap (λ k. take k waits) e.all ∙ take-length waits in
    let none : more ≡ [] = may e.source ∙ ap (λ k. drop k waits) e.all ∙ drop-length waits in
    let same : take n waits ++ more ≡ waits ++ [] = ap (λ l. l ++ more) all ∙ ap (λ l. waits ++ l) none in
    (ap piece_of same ∙ piece-none waits [] e.none ∙ append-nil waits ∙ sym all, ap after_piece same ∙ after-none waits [] e.none ∙ sym none)

-- the same behind what waits
first-left : (n : ℕ) (shown : Reading) → EndsInNewline n shown.pending ⊎ EndsInput n shown.pending shown.ended → (more : List ℕ) → MayBeLeft shown (shown.pending ++ more) → piece_of (shown.pending ++ more) ≡ take n shown.pending
first-left n shown how more may =
    let first : List ℕ = take n shown.pending in
    let later : List ℕ = drop n shown.pending in
    ap (λ l. piece_of (l ++ more)) (sym (take-append-drop n shown.pending)) ∙ ap piece_of (append_assoc first later more)
    ∙ (first-shown n shown how (later ++ more) (λ ended. ap (λ l. later ++ l) (nothing (may ended)) ∙ append-nil later)).0
  where
    nothing : shown.pending ++ more ≡ shown.pending → more ≡ []
    nothing same = nil_from_length more (omega (arith, ap length same, length-append shown.pending more))

-- a line that is let go
pub line-passed : (place : Place) (n : ℕ) (line : List ℕ) (shown after : Reading) (left : Option (List ℕ)) → ShowsLine n shown left → 0 < n → line ≡ line_of (take n shown.pending) → is_long_place (next_place place line) ≡ false
    → after ≡ record { pending = drop n shown.pending; answered = shown.answered + n; refused = shown.refused; ended = shown.ended } → Passed place (closes place line) (next_place place line) shown after left left
line-passed place n line shown after left shows some is fits passed =
    subst (λ l. Passed place (closes place l) (next_place place l) shown after left left) (sym is)
    (subst (λ r. Passed place (closes place (line_of (take n shown.pending))) (next_place place (line_of (take n shown.pending))) shown r left left) (sym passed)
    (record {
      gone = (take n shown.pending);
      moved = ap (λ l. preceded l left) (sym (take-append-drop n shown.pending)) ∙ sym (preceded-preceded (take n shown.pending) (drop n shown.pending) left);
      closed = λ going more. by_how going shows.shown.how more;
      short = λ going more. held going shows.shown.how more;
      leads = leads_by shows.shown.how;
      waited = λ ended. sym (take-append-drop n shown.pending);
      still = λ going. going;
      counted = omega arith;
    }))
  where
    ends-not : ◌≡◌ {A = Bool} true false → ⊥
    ends-not h = cc

    held : shown.ended ≡ false → EndsInNewline n shown.pending ⊎ EndsInput n shown.pending shown.ended → (more : List ℕ)
        → passed_from place shown.answered (pieces_of (take n shown.pending ++ more)) ≡ passed_from (next_place place (line_of (take n shown.pending))) (shown.answered + n) (pieces_of more)
    held going (inr e) more = absurd (ends-not (sym e.source ∙ going))
    held going (inl e) more =
        let piece : List ℕ = take n shown.pending in
        let next : Place = next_place place (line_of piece) in
        let inside : n ≤ length shown.pending = shows.shown.inside in
        let count : length piece ≡ n = omega (arith, length-take n shown.pending) in
        let later : Bool = passed_from next (shown.answered + length piece) (pieces_of more) in
        ap (passed_from place shown.answered) (pieces-split (piece ++ more) piece more (e.piece more) (e.after more) (omega (arith, count, some)))
        ∙ ap (λ v. cond v (is_over place shown.answered piece) (is_long_piece piece) || later) e.ends
        ∙ ap (λ v. v || later) (not-over place shown.answered piece shows.short (omega (arith, count, shows.within)) (sym (ap (λ l. is_long_place (next_place place l)) is) ∙ fits))
        ∙ ap (λ k. passed_from next (shown.answered + k) (pieces_of more)) count

    by_how : shown.ended ≡ false → EndsInNewline n shown.pending ⊎ EndsInput n shown.pending shown.ended → (more : List ℕ) → closed_from place (whole_lines ((take n shown.pending) ++ more)) ≡ closes place (line_of (take n shown.pending)) ++ closed_from (next_place place (line_of (take n shown.pending))) (whole_lines more)
    by_how going (inl e) more = ap (closed_from place) (whole-front n shown.pending more e shows.shown.inside)
    by_how going (inr e) more = absurd (ends-not (sym e.source ∙ going))

    leads_by : EndsInNewline n shown.pending ⊎ EndsInput n shown.pending shown.ended → (more : List ℕ) → (shown.ended ≡ true → more ≡ drop n shown.pending)
        → Leads place (closes place (line_of (take n shown.pending))) shown.answered (next_place place (line_of (take n shown.pending))) (shown.answered + n) (take n shown.pending) more
    leads_by how more may =
        let piece : List ℕ = take n shown.pending in
        let next : Place = next_place place (line_of piece) in
        let inside : n ≤ length shown.pending = shows.shown.inside in
        let count : length piece ≡ n = omega (arith, length-take n shown.pending) in
        let first = first-shown n shown how more may in
        ap (ahead_in place shown.answered) (pieces-split (piece ++ more) piece more first.0 first.1 (omega (arith, count, some)))
        ∙ ahead-step place shown.answered piece (pieces_of more) (not-over place shown.answered piece shows.short (omega (arith, count, shows.within)) (sym (ap (λ l. is_long_place (next_place place l)) is) ∙ fits))
        ∙ ap (λ k. behind (closes place (line_of piece)) (ahead_in next (shown.answered + k) (pieces_of more))) count

-- the end closes what is open
pub end-passed : (place : Place) (n : ℕ) (shown : Reading) (left : Option (List ℕ)) → ShowsLine n shown left → n ≡ 0 → Passed place (at_end place) between shown shown left left
end-passed place n shown left shows zero = record {
  gone = [];
  moved = sym (preceded-nothing (left_of shown left));
  closed = λ going more. absurd (no (sym (ended shows.shown.how) ∙ going));
  short = λ going more. absurd (no (sym (ended shows.shown.how) ∙ going));
  leads = λ more may. nothing more (may (ended shows.shown.how) ∙ (shows.shown.none zero).0);
  waited = λ is. refl;
  still = λ going. going;
  counted = omega arith;
}
  where
    no : ◌≡◌ {A = Bool} true false → ⊥
    no h = cc

    ended : EndsInNewline n shown.pending ⊎ EndsInput n shown.pending shown.ended → shown.ended ≡ true
    ended (inl e) = absurd (omega (arith, e.some, zero))
    ended (inr e) = e.source

    nothing : (more : List ℕ) → more ≡ [] → Leads place (at_end place) shown.answered between shown.answered [] more
    nothing more empty =
        let at : List Event → List ℕ → Ahead = λ e bytes. record { events = e ++ events_from between (map line_of (pieces_of bytes)); fine = e ++ fine_from between shown.answered (pieces_of bytes); long = long_from between shown.answered (pieces_of bytes) } in
        ap (λ bytes. ahead_in place shown.answered (pieces_of bytes)) empty
        ∙ ap (λ e. record { events = e; fine = e; long = false }) (sym (append-nil (at_end place)))
        ∙ ap (at (at_end place)) (sym empty)

-- nothing is left
pub ends-here : (from place : Place) (n : ℕ) (before shown : Reading) (old left : Option (List ℕ)) → Passed from [] place before shown old left → ShowsLine n shown left → n ≡ 0 → IsAtEnd from place before shown old left
ends-here from place n before shown old left passed shows zero = record { passed = passed; ended = ended shows.shown.how; nothing = (shows.shown.none zero).0 }
  where
    ended : EndsInNewline n shown.pending ⊎ EndsInput n shown.pending shown.ended → shown.ended ≡ true
    ended (inl e) = absurd (omega (arith, e.some, zero))
    ended (inr e) = e.source

-- a piece that passes a length, first of all that is left
over-here : (place : Place) (before : ℕ) (bytes piece rest : List ℕ) → piece_of bytes ≡ piece → after_piece bytes ≡ rest → 0 < length piece → is_over place before piece ≡ true
    → (fine_from place before (pieces_of bytes) ≡ []) × (long_from place before (pieces_of bytes) ≡ true)
over-here place before bytes piece rest first after some over =
    let next : Place = next_place place (line_of piece) in
    let split = pieces-split bytes piece rest first after some in (
      ap (fine_from place before) split ∙ ap (λ v. cond v [] (closes place (line_of piece) ++ fine_from next (before + length piece) (pieces_of rest))) over,
      ap (long_from place before) split ∙ ap (λ v. v || long_from next (before + length piece) (pieces_of rest)) over,
    )

or-true : (v w : Bool) → (v || (true || w)) ≡ true
or-true true w = refl
or-true false w = refl

or-last : (v w : Bool) → (v || (w || true)) ≡ true
or-last true w = refl
or-last false true = refl
or-last false false = refl

-- a first piece isn't empty
some-first : (b : ℕ) (bytes : List ℕ) → 0 < length (piece_of (b ∷ bytes))
some-first b bytes = go (b == 10)
  where
    go : (v : Bool) → 0 < length (cond v (b ∷ []) (b ∷ piece_of bytes))
    go true = omega arith
    go false = omega arith

-- a line or the input that is too long
too_long : (place : Place) (before : ℕ) (all : List ℕ) (bytes : ℕ) → before ≤ input_limit → IsTooLong before all bytes → (fine_from place before (pieces_of all) ≡ []) × (long_from place before (pieces_of all) ≡ true)
too_long place before [] bytes limit (inl long) = absurd (omega (arith, long.0))
too_long place before [] bytes limit (inr past) = absurd (omega (arith, past.1, limit))
too_long place before (b ∷ all) bytes limit (inl long) =
    let piece : List ℕ = piece_of (b ∷ all) in
    over-here place before (b ∷ all) piece (after_piece (b ∷ all)) refl refl (some-first b all)
    (ap (λ v. v || (nat_lt input_limit (before + length piece) || is_long_place (next_place place (line_of piece)))) (long_piece piece long.0))
too_long place before (b ∷ all) bytes limit (inr past) =
    let piece : List ℕ = piece_of (b ∷ all) in
    over-here place before (b ∷ all) piece (after_piece (b ∷ all)) refl refl (some-first b all)
    (ap (λ v. is_long_piece piece || (v || is_long_place (next_place place (line_of piece)))) (lt-ltb input_limit (before + length piece) past.1)
    ∙ or-true (is_long_piece piece) (is_long_place (next_place place (line_of piece))))

-- the same of the bytes that wait, whatever may follow them
waits-long : (shown : Reading) (left : Option (List ℕ)) (bytes : ℕ) → WaitTooLong shown left bytes → (more : List ℕ) → MayBeLeft shown (shown.pending ++ more) → IsTooLong shown.answered (shown.pending ++ more) bytes
waits-long shown left bytes (inl w) more may =
    inl (omega (arith, strip-front shown.pending (piece_of more) w.0, w.1, ap (λ l. length (strip_last 10 l)) (piece-none shown.pending more w.0)), w.2)
waits-long shown left bytes (inr p) more may =
    let piece : piece_of (shown.pending ++ more) ≡ take p.piece shown.pending = first-left p.piece shown p.shown.how more may in
    let inside : p.piece ≤ length shown.pending = p.shown.inside in
    let same = ap (λ l. length (strip_last 10 l)) piece in
    let count = ap length piece in
    inr (omega (arith, p.short, same), omega (arith, p.past, count, length-take p.piece shown.pending, inside), p.bytes_is)

-- why a refused line stops the script
pub stopped-line : (from place : Place) (error : LineError) (before shown : Reading) (old left : Option (List ℕ)) (count now : ℕ) → Passed from [] place before shown old left → shown.answered ≤ input_limit → CauseOf error shown left count now
    → Stopped from (run_error_of error) before shown old left
stopped-line from place line.Read before shown old left count now passed limit cause = record { place = place; passed = passed; why = (cause.0, cause.1, cause.3) }
stopped-line from place (line.TooLong bytes) before shown old left count now passed limit cause = record {
  place = place;
  passed = passed;
  why = λ more may. too_long place shown.answered (shown.pending ++ more) bytes limit (waits-long shown left bytes cause.1 more may);
}
stopped-line from place line.NoMemory before shown old left count now passed limit cause = record { place = place; passed = passed; why = tt }

-- a body that is too long with its next line
pub stopped-body : (from : Place) (n : ℕ) (request body line : List ℕ) (before shown : Reading) (old left : Option (List ℕ)) → Passed from [] (within request body) before shown old left → ShowsLine n shown left → 0 < n → is_empty line ≡ false
    → line ≡ line_of (take n shown.pending) → body_limit < length (body ++ (line ++ 10 ∷ [])) → Stopped from TooLong before shown old left
stopped-body from n request body line before shown old left passed shows some full is over = record {
  place = within request body;
  passed = passed;
  why = λ more may. first (shown.pending ++ more) (first-left n shown shows.shown.how more may);
}
  where
    first : (bytes : List ℕ) → piece_of bytes ≡ take n shown.pending → PassesHere (ahead_in (within request body) shown.answered (pieces_of bytes))
    first bytes starts =
        let piece : List ℕ = take n shown.pending in
        let inside : n ≤ length shown.pending = shows.shown.inside in
        let count : length piece ≡ n = omega (arith, length-take n shown.pending) in
        let long : is_long_place (next_place (within request body) (line_of piece)) ≡ true =
        ap (λ l. is_long_place (next_place (within request body) l)) (sym is)
        ∙ ap (λ v. is_long_place (cond v between (within request (body ++ (line ++ 10 ∷ []))))) full
        ∙ lt-ltb body_limit (length (body ++ (line ++ 10 ∷ []))) over in
        over-here (within request body) shown.answered bytes piece (after_piece bytes) starts refl (omega (arith, count, some))
        (ap (λ v. is_long_piece piece || (nat_lt input_limit (shown.answered + length piece) || v)) long ∙ or-last (is_long_piece piece) (nat_lt input_limit (shown.answered + length piece)))

pub stopped-memory : (from place : Place) (before shown : Reading) (old left : Option (List ℕ)) → Passed from [] place before shown old left → Stopped from NoMemory before shown old left
stopped-memory from place before shown old left passed = record { place = place; passed = passed; why = tt }

-- behind a way on which nothing was closed
pub stopped-behind : (from middle : Place) (error : RunError) (first second third : Reading) (a b c : Option (List ℕ)) → Passed from [] middle first second a b → Stopped middle error second third b c → Stopped from error first third a c
stopped-behind from middle error first second third a b c passed stopped = record {
  place = stopped.place;
  passed = passed-passed [] [] from middle stopped.place first second third a b c passed stopped.passed;
  why = stopped.why;
}

-- a skipped line says no moment
skipped-says-none : (line : List ℕ) → is_skipped line ≡ true → is_moment line ≡ false
skipped-says-none [] skips = refl
skipped-says-none (a ∷ []) skips = refl
skipped-says-none (a ∷ b ∷ text) skips = ap (λ v. v && (b == 32)) (ne_eqb a 64 (λ is. absurd (omega (arith, is, eqb-true a 35 skips))))

-- a skipped line closes nothing
pub skip-passed : (n : ℕ) (shown after : Reading) (left : Option (List ℕ)) → ShowsLine n shown left → 0 < n → is_skipped (line_of (take n shown.pending)) ≡ true
    → after ≡ record { pending = drop n shown.pending; answered = shown.answered + n; refused = shown.refused; ended = shown.ended } → Passed between [] between shown after left left
skip-passed n shown after left shows some skips is =
    let line : List ℕ = line_of (take n shown.pending) in
    let none : closes between line ≡ [] = ap (λ v. cond v (Moment (drop 2 line) ∷ []) []) (skipped-says-none line skips) in
    let stays : next_place between line ≡ between = ap (λ v. cond (v || is_moment line) between (within line [])) skips in
    subst (λ e. Passed between e between shown after left left) none
    (subst (λ p. Passed between (closes between line) p shown after left left) stays
    (line-passed between n line shown after left shows some refl (ap is_long_place stays) is))

-- a line that opens something
pub open-passed : (n : ℕ) (o : Opening) (text line : List ℕ) (shown after : Reading) (left : Option (List ℕ)) → ShowsLine n shown left → 0 < n → line ≡ line_of (take n shown.pending) → opened o text ≡ closes between line → opens o text ≡ next_place between line
    → after ≡ record { pending = drop n shown.pending; answered = shown.answered + n; refused = shown.refused; ended = shown.ended } → Passed between (opened o text) (opens o text) shown after left left
open-passed n o text line shown after left shows some line_is events place is =
    subst (λ e. Passed between e (opens o text) shown after left left) (sym events)
    (subst (λ p. Passed between (closes between line) p shown after left left) (sym place)
    (line-passed between n line shown after left shows some line_is (sym (ap is_long_place place) ∙ short o) is))
  where
    short : (o : Opening) → is_long_place (opens o text) ≡ false
    short opening.Moment = refl
    short opening.Request = refl

-- one line more of a body
pub body-passed : (n : ℕ) (request body line : List ℕ) (shown after : Reading) (left : Option (List ℕ)) → ShowsLine n shown left → 0 < n → line ≡ line_of (take n shown.pending) → is_empty line ≡ false → length (body ++ (line ++ 10 ∷ [])) ≤ body_limit
    → after ≡ record { pending = drop n shown.pending; answered = shown.answered + n; refused = shown.refused; ended = shown.ended } → Passed (within request body) [] (within request (body ++ (line ++ 10 ∷ []))) shown after left left
body-passed n request body line shown after left shows some line_is full short is =
    let from : Place = within request body in
    let to : Place = within request (body ++ (line ++ 10 ∷ [])) in
    let none : closes from line ≡ [] = ap (λ v. cond v (Request request body ∷ []) []) full in
    let leads : next_place from line ≡ to = ap (λ v. cond v between to) full in
    subst (λ e. Passed from e to shown after left left) none
    (subst (λ p. Passed from (closes from line) p shown after left left) leads
    (line-passed from n line shown after left shows some line_is (ap is_long_place leads ∙ not_below body_limit (length (body ++ (line ++ 10 ∷ []))) short) is))

-- an empty line ends a body
pub close-passed : (n : ℕ) (request body line : List ℕ) (shown after : Reading) (left : Option (List ℕ)) → ShowsLine n shown left → 0 < n → line ≡ line_of (take n shown.pending) → is_empty line ≡ true
    → after ≡ record { pending = drop n shown.pending; answered = shown.answered + n; refused = shown.refused; ended = shown.ended } → Passed (within request body) (Request request body ∷ []) between shown after left left
close-passed n request body line shown after left shows some line_is empty is =
    let from : Place = within request body in
    let to : Place = within request (body ++ (line ++ 10 ∷ [])) in
    let one : closes from line ≡ Request request body ∷ [] = ap (λ v. cond v (Request request body ∷ []) []) empty in
    let leads : next_place from line ≡ between = ap (λ v. cond v between to) empty in
    subst (λ e. Passed from e between shown after left left) one
    (subst (λ p. Passed from (closes from line) p shown after left left) leads
    (line-passed from n line shown after left shows some line_is (ap is_long_place leads) is))

-- why a line isn't added to a body
pub stopped-add : (from : Place) (error : RunError) (n : ℕ) (request body line : List ℕ) (before shown : Reading) (old left : Option (List ℕ)) → Passed from [] (within request body) before shown old left → ShowsLine n shown left → 0 < n → is_empty line ≡ false
    → line ≡ line_of (take n shown.pending) → (error ≡ TooLong → body_limit < length (body ++ (line ++ 10 ∷ []))) → (error ≡ Read → ⊥) → (error ≡ Write → ⊥) → (error ≡ Store → ⊥) → Stopped from error before shown old left
stopped-add from Read n request body line before shown old left passed shows some full is over no_fault no_write no_store = absurd (no_fault refl)
stopped-add from TooLong n request body line before shown old left passed shows some full is over no_fault no_write no_store = stopped-body from n request body line before shown old left passed shows some full is (over refl)
stopped-add from NoMemory n request body line before shown old left passed shows some full is over no_fault no_write no_store = stopped-memory from (within request body) before shown old left passed
stopped-add from Write n request body line before shown old left passed shows some full is over no_fault no_write no_store = absurd (no_write refl)
stopped-add from Store n request body line before shown old left passed shows some full is over no_fault no_write no_store = absurd (no_store refl)

-- the exit of a `?`
pub err-stops : {T : Type 0} (from : Place) (r : Result T RunError) (e : RunError) (before after : Reading) (old new : Option (List ℕ)) → IsErrAnd r (λ y. y ≡ e) → Stopped from e before after old new → IfErr r (λ y. Stopped from y before after old new)
err-stops from r e before after old new exit stopped =
    let answer = err_from_is_err_and r exit in
    subst (λ r. IfErr r (λ y. Stopped from y before after old new)) (sym answer.1) (subst (λ y. Stopped from y before after old new) (sym answer.2) stopped)

-- what was opened
pub opened-at : (found : Option Opening) (o : Opening) (text : List ℕ) (before after : Reading) (old new : Option (List ℕ)) → IfSome found (λ x. Passed between (opened x text) (opens x text) before after old new) → found ≡ Some o
    → Passed between (opened o text) (opens o text) before after old new
opened-at found o text before after old new h is = subst (λ f. IfSome f (λ x. Passed between (opened x text) (opens x text) before after old new)) is h
