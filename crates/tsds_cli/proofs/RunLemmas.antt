-- A run of a script, event by event.
use Rattle.std.proofs.Common.{◌≡◌, ◌∙◌, ℕ, suc, ◌-◌, ◌||◌, ◌≤◌, ◌⊎◌, inl, inr, Bool, true, false, cond, List, [], ◌∷◌, ◌++◌, length, take, map, Option, None, Some, IfSome, refl, ap, sym, subst, arith, append_assoc, append-nil}
use Rattle.std.specs.List.{filter, concat}
use Rattle.std.specs.Prelude.{All}
use Rattle.std.proofs.lemmas.List.Elements.{All-append, All-cons, All-nil}
use Rattle.std.specs.Prelude.{IfErr, IsErrAnd, Result}
use Rattle.std.proofs.lemmas.Result.{err_from_is_err_and}
use Rattle.std.specs.Io.BufRead.{ends_with_byte, strip_last}
use Rattle.std.proofs.lemmas.Bool.{ne_eqb}
use Rattle.edge_face.specs.Contents.{appended, preceded}
use Rattle.edge_face.specs.Waiting.{KnowsEnd}
use Rattle.edge_face.specs.Limits.{line_limit}
use Rattle.edge_face.specs.Lines.{pieces_of, line_of, with_first, HasNoNewline}
use Rattle.edge_face.specs.Reading.{Reading, left_of}
use Rattle.tsds_cli.specs.Script.{Event}
use Rattle.tsds_cli.specs.declared.errors.RunError.{RunError}
use Rattle.tsds_cli.specs.declared.errors.RunError.TheVariants.{Read, Write, Store, TooLong, NoMemory}
use Rattle.tsds_cli.specs.Script.{Place, between, closed_of, events_of, closed_from, events_from, whole_lines, lines_of}
use Rattle.tsds_cli.specs.Limits.{is_over, is_long_piece, fine_from, passed_from, IsShort}
use Rattle.tsds_cli.specs.Ahead.{Ahead, ahead_in, behind, Passed, IsAtEnd, Stopped}
use Rattle.edge_face.specs.Table.{Table}
use Rattle.edge_face.specs.declared.keeper.KeepError.TheVariants as keep_error
use Rattle.edge_face.specs.declared.keeper.KeepError.{KeepError}
use Rattle.tsds_cli.specs.Play.{Play, Act, Standing, text_of, with_reply, replies, after_events, written_by, last_written, IsToldAs, IsTable, IsWrittenBy, IsBehind, IsPast, IsRefused}
use Rattle.tsds_cli.specs.Ends.{EndsBy, Broke, IsPut, Reached, IsFront, AreFine, IsFine, IsNear, IsStepped, IsUnmade, IsCutBehind, PutFront, PutUnkept, PutPart, PutWhole}
use Rattle.tsds_cli.proofs.PassLemmas.{passed-passed, preceded-preceded, preceded-nothing, short_piece}
use Rattle.tsds_cli.proofs.PiecesLemmas.{not-ended}

-- a reader that has read nothing
abbrev pub fresh : Reading
fresh = record { pending = []; answered = 0; refused = None; ended = false }

given_twice : (contents : Option (List ℕ)) (a b : List ℕ) → appended (appended contents a) b ≡ appended contents (a ++ b)
given_twice None a b = refl
given_twice (Some held) a b = ap Some (append_assoc held a b)

pub given-nothing : (contents : Option (List ℕ)) → contents ≡ appended contents []
given-nothing None = refl
given-nothing (Some held) = ap Some (sym (append-nil held))

text-with : (r : Option (List ℕ)) (lines : List (List ℕ)) → concat (with_reply r lines) ≡ text_of r ++ concat lines
text-with None lines = refl
text-with (Some line) lines = refl

-- bytes without a newline hold no whole line
pieces-none : (b : ℕ) (bytes : List ℕ) → HasNoNewline (b ∷ bytes) → pieces_of (b ∷ bytes) ≡ (b ∷ bytes) ∷ []
pieces-none b [] none = ap (λ v. cond v ((b ∷ []) ∷ []) ((b ∷ []) ∷ [])) (ne_eqb b 10 (none 0 (omega arith)))
pieces-none b (c ∷ bytes) none =
    ap (λ v. cond v ((b ∷ []) ∷ pieces_of (c ∷ bytes)) (with_first b (pieces_of (c ∷ bytes)))) (ne_eqb b 10 (none 0 (omega arith)))
    ∙ ap (with_first b) (pieces-none c bytes (λ k below. none (suc k) (omega arith)))

pub none-whole : (bytes : List ℕ) → HasNoNewline bytes → whole_lines bytes ≡ []
none-whole [] none = refl
none-whole (b ∷ bytes) none =
    ap (λ ps. map line_of (filter (ends_with_byte 10) ps)) (pieces-none b bytes none) ∙ ap (λ v. map line_of (cond v ((b ∷ bytes) ∷ []) [])) (not-ended b bytes none)

-- and they pass no length where they may be a line
none-passed : (place : Place) (before : ℕ) (bytes : List ℕ) → HasNoNewline bytes → length bytes ≤ line_limit → passed_from place before (pieces_of bytes) ≡ false
none-passed place before [] none short = refl
none-passed place before (b ∷ bytes) none short =
    let all : List ℕ = b ∷ bytes in
    let ends = not-ended b bytes none in
    let same : length (strip_last 10 all) ≡ length all = ap (λ v. length (cond v (take (length all - 1) all) all)) ends in
    ap (passed_from place before) (pieces-none b bytes none)
    ∙ ap (λ v. cond v (is_over place before all) (is_long_piece all) || false) ends
    ∙ ap (λ v. v || false) (short_piece all (omega (arith, same, short)))

-- what was taken from the source: what a fresh reader went over, and what waits
taken-is : (es : List Event) (to : Place) (reader : Reading) (script left : Option (List ℕ)) (p : Passed between es to fresh reader script left) → script ≡ preceded (p.gone ++ reader.pending) left
taken-is es to reader script left p = sym (preceded-nothing script) ∙ p.moved ∙ preceded-preceded p.gone reader.pending left

-- what holds of the bytes taken with whatever may follow them holds of these, and of a told script
of-script : (P : List ℕ → Type 0) (taken : List ℕ) (ended : Bool) (script left : Option (List ℕ)) → script ≡ preceded taken left → KnowsEnd ended left → ((more : List ℕ) → (ended ≡ true → more ≡ []) → P (taken ++ more)) → P taken × IfSome script P
of-script P taken ended script left is knows holds = (subst P (append-nil taken) (holds [] (λ e. refl)), told script left is knows)
  where
    none : {x : List ℕ} → ◌≡◌ {A = Option (List ℕ)} (Some x) None → ⊥
    none e = cc

    some : {x y : List ℕ} → ◌≡◌ {A = Option (List ℕ)} (Some x) (Some y) → x ≡ y
    some e = cc

    told : (script left : Option (List ℕ)) → script ≡ preceded taken left → KnowsEnd ended left → IfSome script P
    told None left is knows = tt
    told (Some all) None is knows = absurd (none is)
    told (Some all) (Some rest) is knows = subst P (sym (some is)) (holds rest knows)

-- what lies ahead at first is what was passed, and what lies ahead then, whatever may follow the bytes taken
leads-on : (es : List Event) (to : Place) (reader : Reading) (script left : Option (List ℕ)) (p : Passed between es to fresh reader script left) (more : List ℕ) → (reader.ended ≡ true → more ≡ [])
    → ahead_in between 0 (pieces_of ((p.gone ++ reader.pending) ++ more)) ≡ behind es (ahead_in to reader.answered (pieces_of (reader.pending ++ more)))
leads-on es to reader script left p more may =
    ap (λ l. ahead_in between 0 (pieces_of l)) (append_assoc p.gone reader.pending more) ∙ p.leads (reader.pending ++ more) (λ ended. ap (λ l. reader.pending ++ l) (may ended) ∙ append-nil reader.pending)

leads-here : (es : List Event) (to : Place) (reader : Reading) (script left : Option (List ℕ)) (p : Passed between es to fresh reader script left) → ahead_in between 0 (pieces_of (p.gone ++ reader.pending)) ≡ behind es (ahead_in to reader.answered (pieces_of reader.pending))
leads-here es to reader script left p = p.leads reader.pending (λ ended. refl)

-- the events passed come before the first length
fine-front : (es : List Event) (to : Place) (reader : Reading) (script left : Option (List ℕ)) → KnowsEnd reader.ended left → (p : Passed between es to fresh reader script left) → IsFine es (p.gone ++ reader.pending) script
fine-front es to reader script left knows p =
    of-script (AreFine es) (p.gone ++ reader.pending) reader.ended script left (taken-is es to reader script left p) knows
    (λ more may. (fine_from to reader.answered (pieces_of (reader.pending ++ more)), ap (λ (a : Ahead). a.fine) (leads-on es to reader script left p more may)))

-- the same of a front of them
fine-less : (es later : List Event) (taken : List ℕ) (script : Option (List ℕ)) → IsFine (es ++ later) taken script → IsFine es taken script
fine-less es later taken script fine = (less taken fine.0, told script fine.1)
  where
    less : (bytes : List ℕ) → AreFine (es ++ later) bytes → AreFine es bytes
    less bytes h = (later ++ h.0, h.1 ∙ append_assoc es later h.0)

    told : (script : Option (List ℕ)) → IfSome script (AreFine (es ++ later)) → IfSome script (AreFine es)
    told None h = tt
    told (Some all) h = less all h

-- the events that were done are a front of those that are closed, or of all
pub fronts : (es : List Event) (to : Place) (reader : Reading) (script left : Option (List ℕ)) → KnowsEnd reader.ended left → (p : Passed between es to fresh reader script left) → (more : List Event) × IsFront es more (p.gone ++ reader.pending) left
fronts es to reader script left knows p = by_end reader.ended refl
  where
    by_end : (b : Bool) → reader.ended ≡ b → (more : List Event) × IsFront es more (p.gone ++ reader.pending) left
    by_end true is = (events_from to (lines_of reader.pending), inr (knows is, ap (λ (a : Ahead). a.events) (leads-here es to reader script left p)))
    by_end false is = (closed_from to (whole_lines reader.pending), inl (p.closed is reader.pending))

-- one more of them is one less behind them
pub front-next : (es : List Event) (e : Event) (more : List Event) (taken : List ℕ) (left : Option (List ℕ)) → IsFront (es ++ e ∷ []) more taken left → IsFront es (e ∷ more) taken left
front-next es e more taken left (inl h) = inl (h ∙ append_assoc es (e ∷ []) more)
front-next es e more taken left (inr h) = inr (h.0, h.1 ∙ append_assoc es (e ∷ []) more)

-- the exit of a `?`
pub err-ends : {S T : Type 0} (play : Play S) (start now : Standing S) (r : Result T RunError) (e : RunError) (script left given0 given : Option (List ℕ)) → IsErrAnd r (λ y. y ≡ e) → EndsBy play start now e script left given0 given → IfErr r (λ y. EndsBy play start now y script left given0 given)
err-ends play start now r e script left given0 given exit ends =
    let answer = err_from_is_err_and r exit in
    subst (λ r. IfErr r (λ y. EndsBy play start now y script left given0 given)) (sym answer.1) (subst (λ y. EndsBy play start now y script left given0 given) (sym answer.2) ends)

-- a table that was written, and then written or left
table-more : {S : Type 0} (image : S → Table → Type 0) (wrote : Bool) (s : S) (was : Option S) (before middle now : Option Table) → IsTable image was before middle → IsTable image (cond wrote (Some s) None) middle now → IsTable image (cond wrote (Some s) was) before now
table-more image false s was before middle now h moved = subst (λ t. IsTable image was before t) (sym moved) h
table-more image true s None before middle now h told = subst (λ t. IsToldAs t now (image s)) h told
table-more image true s (Some x) None middle now h told = subst (λ t. IsToldAs t now (image s)) h told
table-more image true s (Some x) (Some b) None now h told = absurd h
table-more image true s (Some x) (Some b) (Some m) now h told = told

module _ {S : Type 0} (play : Play S) where
  pub replies-more : (s : S) (es : List Event) (e : Event) → concat (replies play s (es ++ e ∷ [])) ≡ concat (replies play s es) ++ text_of (play.act (after_events play s es) e).reply
  replies-more s [] e = text-with (play.act s e).reply [] ∙ append-nil (text_of (play.act s e).reply)
  replies-more s (x ∷ es) e =
      text-with (play.act s x).reply (replies play (play.act s x).after (es ++ e ∷ []))
      ∙ ap (λ l. text_of (play.act s x).reply ++ l) (replies-more (play.act s x).after es e)
      ∙ sym (append_assoc (text_of (play.act s x).reply) (concat (replies play (play.act s x).after es)) (text_of (play.act (after_events play (play.act s x).after es) e).reply))
      ∙ ap (λ l. l ++ text_of (play.act (after_events play (play.act s x).after es) e).reply) (sym (text-with (play.act s x).reply (replies play (play.act s x).after es)))

  pub after-more : (s : S) (es : List Event) (e : Event) → after_events play s (es ++ e ∷ []) ≡ (play.act (after_events play s es) e).after
  after-more s [] e = refl
  after-more s (x ∷ es) e = after-more (play.act s x).after es e

  last-more : (s : S) (es : List Event) (e : Event) (was : Option S) → last_written play s (es ++ e ∷ []) was ≡ written_by (play.act (after_events play s es) e) (last_written play s es was)
  last-more s [] e was = refl
  last-more s (x ∷ es) e was = last-more (play.act s x).after es e (written_by (play.act s x) was)

  -- the table behind one event more
  written-more : (start now : Standing S) (table : Option Table) (es : List Event) (e : Event) → IsBehind play start now es → IsTable play.image (written_by (play.act now.state e) None) now.table table → IsWrittenBy play start table (es ++ e ∷ [])
  written-more start now table es e b moved =
      let act : Act S = play.act (after_events play start.state es) e in
      let here : IsTable play.image (written_by act None) now.table table = subst (λ s. IsTable play.image (written_by (play.act s e) None) now.table table) b.state moved in
      subst (λ w. IsTable play.image w start.table table) (sym (last-more start.state es e None))
      (table-more play.image act.wrote act.stepped (last_written play start.state es None) start.table now.table table b.table here)

  -- an event that was stepped, and one that was not
  is-stepped : (start now next : Standing S) (es : List Event) (e : Event) → IsBehind play start now es → IsPast play now next e → IsStepped play start next es e
  is-stepped start now next es e b past = record { stepped = past.0 ∙ ap (λ s. (play.act s e).stepped) b.state; table = written-more start now next.table es e b past.1 }

  is-unmade : (start now next : Standing S) (es : List Event) (e : Event) (error : KeepError) → IsBehind play start now es → IsRefused play now next e error → IsUnmade play start next es e error
  is-unmade start now next es e error b refused = record {
    left = subst (λ s. play.left s e error next.state) b.state refused.0;
    table = subst (λ t. IsWrittenBy play start t es) (sym refused.1) b.table;
  }

  -- before the first event
  pub reached-none : (start : Standing S) (reader : Reading) (script given0 : Option (List ℕ)) → reader ≡ fresh → Reached play start start fresh reader script script given0 given0
  reached-none start reader script given0 is = record {
    done = [];
    bodies = All-nil IsShort;
    state = record { state = refl; table = refl };
    put = given-nothing given0;
    passed = subst (λ r. Passed between [] between fresh r script script) (sym is) (record {
      gone = [];
      moved = sym (preceded-nothing (left_of fresh script));
      closed = λ going more. refl;
      short = λ going more. refl;
      leads = λ more may. refl;
      waited = λ ended. refl;
      still = λ going. going;
      counted = omega arith;
    });
  }

  -- their bodies, with one more
  bodies-more : (es : List Event) (e : Event) → All IsShort es → IsShort e → All IsShort (es ++ e ∷ [])
  bodies-more es e all one = All-append IsShort es (e ∷ []) all (All-cons IsShort e [] one (All-nil IsShort))

  -- one event more
  pub one-more : (start now next : Standing S) (reader reader' : Reading) (script left left' given0 given given' : Option (List ℕ)) (e : Event)
      → Reached play start now fresh reader script left given0 given → Passed between (e ∷ []) between reader reader' left left' → IsShort e → next.state ≡ (play.act now.state e).after → IsTable play.image (written_by (play.act now.state e) None) now.table next.table
      → given' ≡ appended given (text_of (play.act now.state e).reply) → Reached play start next fresh reader' script left' given0 given'
  one-more start now next reader reader' script left left' given0 given given' e r p body next_is moved put_is = record {
    done = r.done ++ e ∷ [];
    bodies = bodies-more r.done e r.bodies body;
    state = record { state = next_is ∙ ap (λ s. (play.act s e).after) r.state.state ∙ sym (after-more start.state r.done e); table = written-more start now next.table r.done e r.state moved };
    put = put_is ∙ ap (λ g. appended g (text_of (play.act now.state e).reply)) r.put ∙ ap (λ s. appended (appended given0 (concat (replies play start.state r.done))) (text_of (play.act s e).reply)) r.state.state
        ∙ given_twice given0 (concat (replies play start.state r.done)) (text_of (play.act (after_events play start.state r.done) e).reply) ∙ ap (appended given0) (sym (replies-more start.state r.done e));
    passed = passed-passed r.done (e ∷ []) between between between fresh reader reader' script left left' r.passed p;
  }

  -- no memory before an event was read
  pub front-of : (start now : Standing S) (reader : Reading) (script left given0 given : Option (List ℕ)) → Reached play start now fresh reader script left given0 given → KnowsEnd reader.ended left → PutFront play start now script left given0 given
  front-of start now reader script left given0 given r knows =
      let f = fronts r.done between reader script left knows r.passed in
      record {
        done = r.done;
        more = f.0;
        taken = r.passed.gone ++ reader.pending;
        taken_is = taken-is r.done between reader script left r.passed;
        front = f.1;
        fine = fine-front r.done between reader script left knows r.passed;
        bodies = r.bodies;
        put = r.put;
        state = inl r.state;
      }

  -- no memory for an event that was read: nothing of it was put
  front-before : (start now next : Standing S) (reader reader' : Reading) (script left left' given0 given : Option (List ℕ)) (e : Event) → Reached play start now fresh reader script left given0 given → Passed between (e ∷ []) between reader reader' left left' → KnowsEnd reader'.ended left'
      → IsShort e → IsRefused play now next e keep_error.NoMemory ⊎ IsPast play now next e → PutFront play start next script left' given0 given
  front-before start now next reader reader' script left left' given0 given e r p knows body near =
      let all = passed-passed r.done (e ∷ []) between between between fresh reader reader' script left left' r.passed p in
      let f = fronts (r.done ++ e ∷ []) between reader' script left' knows all in
      let fine = fine-front (r.done ++ e ∷ []) between reader' script left' knows all in
      record {
        done = r.done;
        more = e ∷ f.0;
        taken = all.gone ++ reader'.pending;
        taken_is = taken-is (r.done ++ e ∷ []) between reader' script left' all;
        front = front-next r.done e f.0 (all.gone ++ reader'.pending) left' f.1;
        fine = fine-less r.done (e ∷ []) (all.gone ++ reader'.pending) script fine;
        bodies = r.bodies;
        put = r.put;
        state = by f.0 (all.gone ++ reader'.pending) fine near;
      }
    where
      by : (more : List Event) (taken : List ℕ) → IsFine (r.done ++ e ∷ []) taken script → IsRefused play now next e keep_error.NoMemory ⊎ IsPast play now next e → IsNear play start next r.done (e ∷ more) taken script
      by more taken fine (inl refused) = inr (inl (record { next = e; later = more; first = refl; body = body; fine = fine; is = inl (is-unmade start now next r.done e keep_error.NoMemory r.state refused) }))
      by more taken fine (inr past) = inr (inl (record { next = e; later = more; first = refl; body = body; fine = fine; is = inr (is-stepped start now next r.done e r.state past) }))

  -- no memory for the unit of an event: all of its reply was put
  front-behind : (start now next : Standing S) (reader reader' : Reading) (script left left' given0 given given' : Option (List ℕ)) (e : Event) → Reached play start now fresh reader script left given0 given → Passed between (e ∷ []) between reader reader' left left' → KnowsEnd reader'.ended left'
      → IsShort e → IsPast play now next e → given' ≡ appended given (text_of (play.act now.state e).reply) → PutFront play start next script left' given0 given'
  unfolding one-more
  front-behind start now next reader reader' script left left' given0 given given' e r p knows body past put_is =
      let all = one-more start now (record { state = (play.act now.state e).after; table = next.table }) reader reader' script left left' given0 given given' e r p body refl past.1 put_is in
      let f = fronts all.done between reader' script left' knows all.passed in
      record {
        done = all.done;
        more = f.0;
        taken = all.passed.gone ++ reader'.pending;
        taken_is = taken-is all.done between reader' script left' all.passed;
        front = f.1;
        fine = fine-front all.done between reader' script left' knows all.passed;
        bodies = all.bodies;
        put = all.put;
        state = inr (inr (record { earlier = r.done; last = e; end = refl; is = is-stepped start now next r.done e r.state past }));
      }

  -- the keeper of an event that was to write failed
  unkept-of : (start now next : Standing S) (reader reader' : Reading) (script left left' given0 given : Option (List ℕ)) (e : Event) → Reached play start now fresh reader script left given0 given → Passed between (e ∷ []) between reader reader' left left' → KnowsEnd reader'.ended left'
      → IsShort e → IsRefused play now next e keep_error.Failed → (play.act now.state e).wrote ≡ true → PutUnkept play start next script left' given0 given
  unkept-of start now next reader reader' script left left' given0 given e r p knows body refused wrote =
      let all = passed-passed r.done (e ∷ []) between between between fresh reader reader' script left left' r.passed p in
      let f = fronts (r.done ++ e ∷ []) between reader' script left' knows all in
      record {
        done = r.done;
        next = e;
        more = f.0;
        taken = all.gone ++ reader'.pending;
        taken_is = taken-is (r.done ++ e ∷ []) between reader' script left' all;
        front = front-next r.done e f.0 (all.gone ++ reader'.pending) left' f.1;
        fine = fine-front (r.done ++ e ∷ []) between reader' script left' knows all;
        bodies = bodies-more r.done e r.bodies body;
        wrote = sym (ap (λ s. (play.act s e).wrote) r.state.state) ∙ wrote;
        put = r.put;
        state = is-unmade start now next r.done e keep_error.Failed r.state refused;
      }

  -- a first part of an event's reply was put
  part-of : (start now next : Standing S) (reader reader' : Reading) (script left left' given0 given given' : Option (List ℕ)) (e : Event) → Reached play start now fresh reader script left given0 given → Passed between (e ∷ []) between reader reader' left left' → KnowsEnd reader'.ended left'
      → IsShort e → IsPast play now next e → IsPut (text_of (play.act now.state e).reply) given given' → PutPart play start next script left' given0 given'
  part-of start now next reader reader' script left left' given0 given given' e r p knows body past cut =
      let all = passed-passed r.done (e ∷ []) between between between fresh reader reader' script left left' r.passed p in
      let f = fronts (r.done ++ e ∷ []) between reader' script left' knows all in
      record {
        done = r.done;
        next = e;
        more = f.0;
        taken = all.gone ++ reader'.pending;
        taken_is = taken-is (r.done ++ e ∷ []) between reader' script left' all;
        front = front-next r.done e f.0 (all.gone ++ reader'.pending) left' f.1;
        fine = fine-front (r.done ++ e ∷ []) between reader' script left' knows all;
        bodies = bodies-more r.done e r.bodies body;
        part = cut.part;
        cut = cut.more;
        some = cut.cut;
        whole = cut.whole ∙ ap (λ s. text_of (play.act s e).reply) r.state.state;
        put = cut.given_is ∙ ap (λ g. appended g cut.part) r.put ∙ given_twice given0 (concat (replies play start.state r.done)) cut.part;
        state = is-stepped start now next r.done e r.state past;
      }

  -- an event that broke off
  pub ends-broken : (start now next : Standing S) (error : RunError) (reader reader' : Reading) (script left left' given0 given given' : Option (List ℕ)) (e : Event) → Reached play start now fresh reader script left given0 given → Passed between (e ∷ []) between reader reader' left left' → KnowsEnd reader'.ended left'
      → IsShort e → Broke play now next e error given given' → EndsBy play start next error script left' given0 given'
  ends-broken start now next NoMemory reader reader' script left left' given0 given given' e r p knows body (inl none) =
      subst (λ g. PutFront play start next script left' given0 g) (sym none.1) (front-before start now next reader reader' script left left' given0 given e r p knows body (inl none.0))
  ends-broken start now next NoMemory reader reader' script left left' given0 given given' e r p knows body (inr (past, inl none)) =
      subst (λ g. PutFront play start next script left' given0 g) (sym none) (front-before start now next reader reader' script left left' given0 given e r p knows body (inr past))
  ends-broken start now next NoMemory reader reader' script left left' given0 given given' e r p knows body (inr (past, inr all)) =
      front-behind start now next reader reader' script left left' given0 given given' e r p knows body past all
  ends-broken start now next Store reader reader' script left left' given0 given given' e r p knows body broke =
      subst (λ g. PutUnkept play start next script left' given0 g) (sym broke.2) (unkept-of start now next reader reader' script left left' given0 given e r p knows body broke.0 broke.1)
  ends-broken start now next Write reader reader' script left left' given0 given given' e r p knows body broke = part-of start now next reader reader' script left left' given0 given given' e r p knows body broke.0 broke.1
  ends-broken start now next Read reader reader' script left left' given0 given given' e r p knows body broke = absurd broke
  ends-broken start now next TooLong reader reader' script left left' given0 given given' e r p knows body broke = absurd broke

  -- no memory before the first event
  pub ends-unread : (start : Standing S) (script given0 : Option (List ℕ)) → EndsBy play start start NoMemory script script given0 given0
  ends-unread start script given0 = front-of start start fresh script script given0 given0 (reached-none start fresh script given0 refl) (λ e. absurd (no e))
    where
      no : ◌≡◌ {A = Bool} false true → ⊥
      no h = cc

  -- why the next event doesn't come
  pub ends-by : (start now : Standing S) (error : RunError) (reader reader' : Reading) (script left left' given0 given : Option (List ℕ)) → Reached play start now fresh reader script left given0 given → Stopped between error reader reader' left left' → KnowsEnd reader'.ended left'
      → EndsBy play start now error script left' given0 given
  ends-by start now Read reader reader' script left left' given0 given r s knows =
      let p = passed-passed r.done [] between between s.place fresh reader reader' script left left' r.passed s.passed in
      let all : closed_of (p.gone ++ reader'.pending) ≡ r.done = p.closed s.why.1 reader'.pending ∙ ap (λ ls. (r.done ++ []) ++ closed_from s.place ls) (none-whole reader'.pending s.why.0) ∙ append-nil (r.done ++ []) ∙ append-nil r.done in
      record {
        taken = p.gone ++ reader'.pending;
        taken_is = taken-is (r.done ++ []) s.place reader' script left' p;
        short = p.short s.why.1 reader'.pending ∙ none-passed s.place reader'.answered reader'.pending s.why.0 s.why.2;
        fine = subst (λ es. IsFine es (p.gone ++ reader'.pending) script) (append-nil r.done ∙ sym all) (fine-front (r.done ++ []) s.place reader' script left' knows p);
        bodies = subst (All IsShort) (sym all) r.bodies;
        put = r.put ∙ ap (λ es. appended given0 (concat (replies play start.state es))) (sym all);
        state = subst (IsBehind play start now) (sym all) r.state;
      }
  ends-by start now NoMemory reader reader' script left left' given0 given r s knows =
      let p = passed-passed r.done [] between between s.place fresh reader reader' script left left' r.passed s.passed in
      let f = fronts (r.done ++ []) s.place reader' script left' knows p in
      record {
        done = r.done;
        more = f.0;
        taken = p.gone ++ reader'.pending;
        taken_is = taken-is (r.done ++ []) s.place reader' script left' p;
        front = subst (λ es. IsFront es f.0 (p.gone ++ reader'.pending) left') (append-nil r.done) f.1;
        fine = fine-less r.done [] (p.gone ++ reader'.pending) script (fine-front (r.done ++ []) s.place reader' script left' knows p);
        bodies = r.bodies;
        put = r.put;
        state = inl r.state;
      }
  ends-by start now Write reader reader' script left left' given0 given r s knows = absurd s.why
  ends-by start now Store reader reader' script left left' given0 given r s knows = absurd s.why
  ends-by start now TooLong reader reader' script left left' given0 given r s knows =
      let p = passed-passed r.done [] between between s.place fresh reader reader' script left left' r.passed s.passed in
      let both = of-script (IsCutBehind r.done) (p.gone ++ reader'.pending) reader'.ended script left' (taken-is (r.done ++ []) s.place reader' script left' p) knows (cut p) in
      record {
        done = r.done;
        cut = both.1;
        taken = p.gone ++ reader'.pending;
        taken_is = taken-is (r.done ++ []) s.place reader' script left' p;
        here = both.0;
        shown = by_end p reader'.ended refl;
        bodies = r.bodies;
        put = r.put;
        state = r.state;
      }
    where
      cut : (p : Passed between (r.done ++ []) s.place fresh reader' script left') (more : List ℕ) → (reader'.ended ≡ true → more ≡ []) → IsCutBehind r.done ((p.gone ++ reader'.pending) ++ more)
      cut p more may =
          let is = leads-on (r.done ++ []) s.place reader' script left' p more may in
          let passes = s.why more (λ ended. ap (λ l. reader'.pending ++ l) (may ended) ∙ append-nil reader'.pending) in
          (ap (λ (a : Ahead). a.long) is ∙ passes.1, ap (λ (a : Ahead). a.fine) is ∙ ap (λ l. (r.done ++ []) ++ l) passes.0 ∙ append-nil (r.done ++ []) ∙ append-nil r.done)

      by_end : (p : Passed between (r.done ++ []) s.place fresh reader' script left') (b : Bool) → reader'.ended ≡ b → IfSome left' (λ rest. rest ≡ []) ⊎ ((more : List ℕ) → IsCutBehind r.done ((p.gone ++ reader'.pending) ++ more))
      by_end p true is = inl (knows is)
      by_end p false is = inr (λ more. cut p more (λ ended. absurd (never (sym ended ∙ is))))
        where
          never : ◌≡◌ {A = Bool} true false → ⊥
          never h = cc

  -- all is done
  pub all-done : (start now : Standing S) (reader reader' : Reading) (script left left' given0 given : Option (List ℕ)) → Reached play start now fresh reader script left given0 given → IsAtEnd between between reader reader' left left' → KnowsEnd reader'.ended left'
      → PutWhole play start now script left' given0 given
  all-done start now reader reader' script left left' given0 given r e knows =
      let p = passed-passed r.done [] between between between fresh reader reader' script left left' r.passed e.passed in
      let ahead = leads-here (r.done ++ []) between reader' script left' p in
      let nothing = ap (λ l. ahead_in between reader'.answered (pieces_of l)) e.nothing in
      let all : events_of (p.gone ++ reader'.pending) ≡ r.done = ap (λ (a : Ahead). a.events) (ahead ∙ ap (behind (r.done ++ [])) nothing) ∙ append-nil (r.done ++ []) ∙ append-nil r.done in
      record {
        taken = p.gone ++ reader'.pending;
        taken_is = taken-is (r.done ++ []) between reader' script left' p;
        drained = knows e.ended;
        short = ap (λ (a : Ahead). a.long) (ahead ∙ ap (behind (r.done ++ [])) nothing);
        bodies = subst (All IsShort) (sym all) r.bodies;
        put = r.put ∙ ap (λ es. appended given0 (concat (replies play start.state es))) (sym all);
        state = subst (IsBehind play start now) (sym all) r.state;
      }
