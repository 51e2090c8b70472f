-- Laws: how a run ends over one play it ends over every play that goes with it. Cited by who has a machine in memory that stands for a
-- plain one: a run over what is held says the same of each plain machine that this stands for.
use Rattle.std.proofs.Common.{◌≡◌, ◌∙◌, ◌⊎◌, inl, inr, ℕ, Bool, true, false, cond, List, [], ◌∷◌, ◌++◌, Option, None, Some, refl, ap, sym, subst}
use Rattle.std.specs.List.{concat}
use Rattle.std.specs.Prelude.{All}
use Rattle.std.proofs.lemmas.List.Elements.{All-head, All-tail, All-nil, All-cons, All-append}
use Rattle.edge_face.specs.Contents.{appended}
use Rattle.edge_face.specs.Table.{Table}
use Rattle.edge_face.specs.declared.keeper.KeepError.{KeepError}
use Rattle.edge_face.specs.declared.keeper.KeepError.TheVariants as keep_error
use Rattle.tsds_cli.specs.declared.errors.RunError.{RunError}
use Rattle.tsds_cli.specs.declared.errors.RunError.TheVariants.{NoMemory, Store, Read, Write, TooLong}
use Rattle.tsds_cli.specs.Script.{Event, closed_of, events_of}
use Rattle.tsds_cli.specs.Limits.{IsShort}
use Rattle.tsds_cli.specs.Play.{Act, Play, Standing, stands, text_of, with_reply, replies, after_events, written_by, last_written, IsTable, IsWrittenBy, PutAll, IsBehind}
use Rattle.tsds_cli.specs.Ends.{Ends, EndsBy, EndsWhole, IsNear, IsStepped, IsUnmade, PutWhole}

-- the same reply, the same decision to write, and states that go together
pub record ActAlike {S T : Type 0} (Goes : S → T → Type 0) (a : Act S) (b : Act T) : Type 0 where
  pub reply : a.reply ≡ b.reply
  pub stepped : Goes a.stepped b.stepped
  pub after : Goes a.after b.after
  pub wrote : a.wrote ≡ b.wrote

-- a play goes with another: from states that go together each event, with a body within its length, is done alike; what an error may
-- leave of the one goes with what it may leave of the other; and a table that is the image of the one state is that of the other
pub record GoesWith {S T : Type 0} (p : Play S) (q : Play T) (Goes : S → T → Type 0) : Type 0 where
  pub acts : (s : S) (t : T) (e : Event) → Goes s t → IsShort e → ActAlike Goes (p.act s e) (q.act t e)
  pub leaves : (s s' : S) (t : T) (e : Event) (error : KeepError) → Goes s t → IsShort e → p.left s e error s' → (t' : T) × Goes s' t' × q.left t e error t'
  pub images : (s : S) (t : T) (table : Table) → Goes s t → p.image s table → q.image t table

-- states go together where both are there, or neither is
abbrev pub BothGo : {S T : Type 0} → (S → T → Type 0) → Option S → Option T → Type 0
BothGo Goes None None = Unit {0}
BothGo Goes (Some s) (Some t) = Goes s t
BothGo Goes None (Some t) = ⊥
BothGo Goes (Some s) None = ⊥

both-written : {S T : Type 0} (Goes : S → T → Type 0) (wrote wrote' : Bool) (s : S) (t : T) (was : Option S) (was' : Option T) → wrote ≡ wrote' → Goes s t → BothGo Goes was was'
    → BothGo Goes (cond wrote (Some s) was) (cond wrote' (Some t) was')
both-written Goes true true s t was was' same goes both = goes
both-written Goes false false s t was was' same goes both = both
both-written Goes true false s t was was' same goes both = absurd (no same)
  where
    no : ◌≡◌ {A = Bool} true false → ⊥
    no h = cc
both-written Goes false true s t was was' same goes both = absurd (no same)
  where
    no : ◌≡◌ {A = Bool} false true → ⊥
    no h = cc

-- this holds of the same table beside a state that goes with the one here
abbrev pub GoesOn : {S T : Type 0} → (S → T → Type 0) → Standing S → (Standing T → Type 0) → Type 0
GoesOn {S} {T} Goes now Holds = (t : T) × Goes now.state t × Holds (stands t now.table)

-- the bodies of a list with one more at its end
short-front : (es : List Event) (e : Event) → All IsShort (es ++ e ∷ []) → All IsShort es × IsShort e
short-front [] e short = (All-nil IsShort, All-head IsShort e [] short)
short-front (x ∷ es) e short =
    let rest = short-front es e (All-tail IsShort x (es ++ e ∷ []) short) in
    (All-cons IsShort x es (All-head IsShort x (es ++ e ∷ []) short) rest.0, rest.1)

short-more : (es : List Event) (e : Event) → All IsShort es → IsShort e → All IsShort (es ++ e ∷ [])
short-more es e all one = All-append IsShort es (e ∷ []) all (All-cons IsShort e [] one (All-nil IsShort))

module _ {S T : Type 0} (p : Play S) (q : Play T) (Goes : S → T → Type 0) (w : GoesWith p q Goes) where
  -- the replies, the states and the records behind events
  pub replies-go : (s : S) (t : T) (es : List Event) → Goes s t → All IsShort es → replies p s es ≡ replies q t es
  replies-go s t [] goes short = refl
  replies-go s t (e ∷ es) goes short =
      let a = w.acts s t e goes (All-head IsShort e es short) in
      ap (λ r. with_reply r (replies p (p.act s e).after es)) a.reply ∙ ap (with_reply (q.act t e).reply) (replies-go (p.act s e).after (q.act t e).after es a.after (All-tail IsShort e es short))

  pub after-go : (s : S) (t : T) (es : List Event) → Goes s t → All IsShort es → Goes (after_events p s es) (after_events q t es)
  after-go s t [] goes short = goes
  after-go s t (e ∷ es) goes short = after-go (p.act s e).after (q.act t e).after es (w.acts s t e goes (All-head IsShort e es short)).after (All-tail IsShort e es short)

  pub last-go : (s : S) (t : T) (es : List Event) (was : Option S) (was' : Option T) → Goes s t → All IsShort es → BothGo Goes was was'
      → BothGo Goes (last_written p s es was) (last_written q t es was')
  last-go s t [] was was' goes short both = both
  last-go s t (e ∷ es) was was' goes short both =
      let a = w.acts s t e goes (All-head IsShort e es short) in
      last-go (p.act s e).after (q.act t e).after es (written_by (p.act s e) was) (written_by (q.act t e) was') a.after (All-tail IsShort e es short)
      (both-written Goes (p.act s e).wrote (q.act t e).wrote (p.act s e).stepped (q.act t e).stepped was was' a.wrote a.stepped both)

  table-go : (was : Option S) (was' : Option T) (before now : Option Table) → BothGo Goes was was' → IsTable p.image was before now → IsTable q.image was' before now
  table-go None None before now both h = h
  table-go None (Some t) before now both h = absurd both
  table-go (Some s) None before now both h = absurd both
  table-go (Some s) (Some t) None now both h = h
  table-go (Some s) (Some t) (Some b) None both h = absurd h
  table-go (Some s) (Some t) (Some b) (Some n) both h = w.images s t n both h

  module _ (start now : Standing S) (t : T) (goes : Goes start.state t) where
    written-go : (es : List Event) → All IsShort es → IsWrittenBy p start now.table es → IsWrittenBy q (stands t start.table) now.table es
    written-go es short h = table-go (last_written p start.state es None) (last_written q t es None) start.table now.table (last-go start.state t es None None goes short tt) h

    put-go : (given0 given : Option (List ℕ)) (es : List Event) → All IsShort es → PutAll p start.state given0 given es → PutAll q t given0 given es
    put-go given0 given es short h = h ∙ ap (λ lines. appended given0 (concat lines)) (replies-go start.state t es goes short)

    -- behind events the other state is the one behind them
    behind-go : (es : List Event) → All IsShort es → IsBehind p start now es → GoesOn Goes now (λ n. IsBehind q (stands t start.table) n es)
    behind-go es short b = (
      after_events q t es,
      subst (λ s. Goes s (after_events q t es)) (sym b.state) (after-go start.state t es goes short),
      record { state = refl; table = written-go es short b.table },
    )

    -- and so where an event broke off
    stepped-go : (done : List Event) (next : Event) → All IsShort done → IsShort next → IsStepped p start now done next
        → GoesOn Goes now (λ n. IsStepped q (stands t start.table) n done next)
    stepped-go done next short body h =
        let a = w.acts (after_events p start.state done) (after_events q t done) next (after-go start.state t done goes short) body in (
          (q.act (after_events q t done) next).stepped,
          subst (λ s. Goes s (q.act (after_events q t done) next).stepped) (sym h.stepped) a.stepped,
          record { stepped = refl; table = written-go (done ++ next ∷ []) (short-more done next short body) h.table },
        )

    unmade-go : (done : List Event) (next : Event) (error : KeepError) → All IsShort done → IsShort next → IsUnmade p start now done next error
        → GoesOn Goes now (λ n. IsUnmade q (stands t start.table) n done next error)
    unmade-go done next error short body h =
        let l = w.leaves (after_events p start.state done) now.state (after_events q t done) next error (after-go start.state t done goes short) body h.left in
        (l.0, l.1, record { left = l.2; table = written-go done short h.table })

    near-go : (done more : List Event) (taken : List ℕ) (script : Option (List ℕ)) → All IsShort done → IsNear p start now done more taken script
        → GoesOn Goes now (λ n. IsNear q (stands t start.table) n done more taken script)
    near-go done more taken script short (inl b) =
        let x = behind-go done short b in
        (x.0, x.1, inl x.2)
    near-go done more taken script short (inr (inl n)) = next_is n.is
      where
        next_is : IsUnmade p start now done n.next keep_error.NoMemory ⊎ IsStepped p start now done n.next → GoesOn Goes now (λ n. IsNear q (stands t start.table) n done more taken script)
        next_is (inl h) =
            let x = unmade-go done n.next keep_error.NoMemory short n.body h in
            (x.0, x.1, inr (inl (record { next = n.next; later = n.later; first = n.first; body = n.body; fine = n.fine; is = inl x.2 })))
        next_is (inr h) =
            let x = stepped-go done n.next short n.body h in
            (x.0, x.1, inr (inl (record { next = n.next; later = n.later; first = n.first; body = n.body; fine = n.fine; is = inr x.2 })))
    near-go done more taken script short (inr (inr l)) =
        let bodies = short-front l.earlier l.last (subst (All IsShort) l.end short) in
        let x = stepped-go l.earlier l.last bodies.0 bodies.1 l.is in
        (x.0, x.1, inr (inr (record { earlier = l.earlier; last = l.last; end = l.end; is = x.2 })))

    -- a run that is done
    pub whole-goes : (script left given0 given : Option (List ℕ)) → PutWhole p start now script left given0 given
        → GoesOn Goes now (λ n. PutWhole q (stands t start.table) n script left given0 given)
    whole-goes script left given0 given h =
        let x = behind-go (events_of h.taken) h.bodies h.state in
        (x.0, x.1, record { taken = h.taken; taken_is = h.taken_is; drained = h.drained; short = h.short; bodies = h.bodies; put = put-go given0 given (events_of h.taken) h.bodies h.put; state = x.2 })

    -- and one that ended by an error
    pub end-goes : (error : RunError) (script left given0 given : Option (List ℕ)) → EndsBy p start now error script left given0 given
        → GoesOn Goes now (λ n. EndsBy q (stands t start.table) n error script left given0 given)
    end-goes NoMemory script left given0 given h =
        let x = near-go h.done h.more h.taken script h.bodies h.state in
        (x.0, x.1, record { done = h.done; more = h.more; taken = h.taken; taken_is = h.taken_is; front = h.front; fine = h.fine; bodies = h.bodies; put = put-go given0 given h.done h.bodies h.put; state = x.2 })
    end-goes Read script left given0 given h =
        let x = behind-go (closed_of h.taken) h.bodies h.state in
        (x.0, x.1, record { taken = h.taken; taken_is = h.taken_is; short = h.short; fine = h.fine; bodies = h.bodies; put = put-go given0 given (closed_of h.taken) h.bodies h.put; state = x.2 })
    end-goes Store script left given0 given h =
        let bodies = short-front h.done h.next h.bodies in
        let x = unmade-go h.done h.next keep_error.Failed bodies.0 bodies.1 h.state in
        let a = w.acts (after_events p start.state h.done) (after_events q t h.done) h.next (after-go start.state t h.done goes bodies.0) bodies.1 in (
          x.0,
          x.1,
          record {
            done = h.done;
            next = h.next;
            more = h.more;
            taken = h.taken;
            taken_is = h.taken_is;
            front = h.front;
            fine = h.fine;
            bodies = h.bodies;
            wrote = sym a.wrote ∙ h.wrote;
            put = put-go given0 given h.done bodies.0 h.put;
            state = x.2;
          },
        )
    end-goes Write script left given0 given h =
        let bodies = short-front h.done h.next h.bodies in
        let x = stepped-go h.done h.next bodies.0 bodies.1 h.state in
        let a = w.acts (after_events p start.state h.done) (after_events q t h.done) h.next (after-go start.state t h.done goes bodies.0) bodies.1 in (
          x.0,
          x.1,
          record {
            done = h.done;
            next = h.next;
            more = h.more;
            taken = h.taken;
            taken_is = h.taken_is;
            front = h.front;
            fine = h.fine;
            bodies = h.bodies;
            part = h.part;
            cut = h.cut;
            whole = h.whole ∙ ap text_of a.reply;
            some = h.some;
            put = h.put ∙ ap (λ lines. appended given0 (concat lines ++ h.part)) (replies-go start.state t h.done goes bodies.0);
            state = x.2;
          },
        )
    end-goes TooLong script left given0 given h =
        let x = behind-go h.done h.bodies h.state in
        (x.0, x.1, record { done = h.done; cut = h.cut; taken = h.taken; taken_is = h.taken_is; here = h.here; shown = h.shown; bodies = h.bodies; put = put-go given0 given h.done h.bodies h.put; state = x.2 })

  -- the same where only something is seen of the last state: a state that goes with one of which this was seen
  pub ends-go : (start : Standing S) (t : T) (Seen : Standing S → Type 0) (error : RunError) (script left given0 given : Option (List ℕ)) → Goes start.state t
      → Ends p start Seen error script left given0 given
      → Ends q (stands t start.table) (λ other. (s : S) × Goes s other.state × Seen (stands s other.table)) error script left given0 given
  ends-go start t Seen error script left given0 given goes e =
      let x = end-goes start e.now t goes error script left given0 given e.by in
      record { now = stands x.0 e.now.table; seen = (e.now.state, x.1, e.seen); by = x.2 }

  pub whole-ends-go : (start : Standing S) (t : T) (Seen : Standing S → Type 0) (script left given0 given : Option (List ℕ)) → Goes start.state t → EndsWhole p start Seen script left given0 given
      → EndsWhole q (stands t start.table) (λ other. (s : S) × Goes s other.state × Seen (stands s other.table)) script left given0 given
  whole-ends-go start t Seen script left given0 given goes e =
      let x = whole-goes start e.now t goes script left given0 given e.by in
      record { now = stands x.0 e.now.table; seen = (e.now.state, x.1, e.seen); by = x.2 }
