-- An example of plays that go together: a machine that keeps the last body sent, with a record of it, and a plainer one that keeps all of
-- them and has no need of the record.
use Rattle.std.proofs.Common.{◌≡◌, ◌∙◌, ℕ, Bool, true, false, cond, List, [], ◌∷◌, length, Option, None, Some, refl, ap, codes, pos}
use Rattle.std.specs.Prelude.{if◌then◌else◌}
use Rattle.std.specs.Option.{option_map}
use Rattle.edge_face.specs.Table.{Table, bytes_at}
use Rattle.reply_json.specs.declared.out.Out.{Num}
use Rattle.tsds_cli.specs.declared.reply.Reply.{Reply}
use Rattle.tsds_cli.specs.Script.{Event, Moment, Request}
use Rattle.tsds_cli.specs.Script.{is_empty}
use Rattle.tsds_cli.specs.Play.{Act, Play}
use Rattle.tsds_cli.specs.PlaysLaws.{GoesWith}
use Rattle.tsds_cli.specs.Replies.{reply_line}

-- a request with a body sends it
abbrev pub sends : Event → Bool
sends (Moment text) = false
sends (Request line body) = if is_empty body then false else true

-- the body that is kept behind an event
abbrev pub kept_body : List ℕ → Event → List ℕ
kept_body last (Moment text) = last
kept_body last (Request line body) = if is_empty body then last else body

-- a request is answered by the length of the body that is kept
abbrev pub length_reply : Event → List ℕ → Option Reply
length_reply (Moment text) last = None
length_reply (Request line body) last = Some (record { status = 200; tree = Num (pos (length last)) })

unfoldable pub last_act : List ℕ → Event → Act (List ℕ)
last_act last event = record {
  reply = option_map reply_line (length_reply event (kept_body last event));
  stepped = kept_body last event;
  after = kept_body last event;
  wrote = sends event;
}

-- the record has the body that is kept
abbrev pub HasRecord : List ℕ → Table → Type 0
HasRecord last table = bytes_at (codes "last") table ≡ Some last

-- it has no units, and an event that isn't done leaves what there was
abbrev pub last_play : Play (List ℕ)
last_play = record { act = last_act; left = λ last event error now. now ≡ last; image = HasRecord }

-- all bodies that were sent, the last one first
abbrev pub all_bodies : List (List ℕ) → Event → List (List ℕ)
all_bodies bodies (Moment text) = bodies
all_bodies bodies (Request line body) = if is_empty body then bodies else body ∷ bodies

abbrev pub last_of : List (List ℕ) → List ℕ
last_of [] = []
last_of (body ∷ bodies) = body

abbrev pub all_act : List (List ℕ) → Event → Act (List (List ℕ))
all_act bodies event = record {
  reply = option_map reply_line (length_reply event (last_of (all_bodies bodies event)));
  stepped = all_bodies bodies event;
  after = all_bodies bodies event;
  wrote = sends event;
}

abbrev pub all_play : Play (List (List ℕ))
all_play = record { act = all_act; left = λ bodies event error now. now ≡ bodies; image = λ bodies table. HasRecord (last_of bodies) table }

abbrev pub IsLast : List ℕ → List (List ℕ) → Type 0
IsLast last bodies = last ≡ last_of bodies

kept-last : (last : List ℕ) (bodies : List (List ℕ)) (event : Event) → IsLast last bodies → kept_body last event ≡ last_of (all_bodies bodies event)
kept-last last bodies (Moment text) is = is
kept-last last bodies (Request line body) is = by (is_empty body)
  where
    by : (v : Bool) → cond v last body ≡ last_of (cond v bodies (body ∷ bodies))
    by true = is
    by false = refl

-- the one goes with the other
pub last-goes-with-all : GoesWith last_play all_play IsLast
unfolding last_act
last-goes-with-all = record {
  acts = λ last bodies event is short.
      let kept = kept-last last bodies event is in
      record { reply = ap (λ body. option_map reply_line (length_reply event body)) kept; stepped = kept; after = kept; wrote = refl };
  leaves = λ last now bodies event error is short stays. (bodies, stays ∙ is, refl);
  images = λ last bodies table is has. has ∙ ap Some is;
}
