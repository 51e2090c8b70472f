-- Which index keeps no increase, worked out on three members of a stream, by the starts of their windows.
use Rattle.std.specs.Prelude.{◌≡◌, pos, ◌+◌, true, false, Bool, ℕ, List, [], ◌∷◌, codes, Option, Some, None}
use Rattle.std.proofs.Common.{refl, arith}
use Rattle.row_cells.specs.declared.schemas.FieldType.TheVariants.{Date, Keyword, Long}
use Rattle.row_cells.specs.declared.schemas.Role.{Role}
use Rattle.row_cells.specs.declared.schemas.Role.TheVariants.{Time, Dimension, Gauge, Counter}
use Rattle.stream_catalog.specs.declared.facts.HeldIndex.{HeldIndex}
use Rattle.time_text.specs.declared.intervals.Interval.{Interval}
use Rattle.time_text.specs.declared.units.Unit.TheVariants.{S}
use Rattle.tsds_service.specs.Causes.{refused, wrong, reply_of}
use Rattle.tsds_service.specs.declared.causes.Cause.TheVariants.{NoIncrease}
use Rattle.tsds_service.specs.NoIncrease.{keeps_no_increase, increase_refusal}

abbrev second : Interval
second = record { number = 1; unit = S; in_range = (omega arith, omega arith) }

-- an index that maps `req` in a role, folded or raw, with the mark of rises or without
abbrev member : List ℕ → ℕ → Option Interval → Bool → Role → HeldIndex
member name start interval rises role = record {
  name = name;
  origin = name;
  template = codes "t";
  start = pos start;
  end = pos (start + 10000);
  blocked = true;
  interval = interval;
  mapping = record {
    strict = true;
    shards = 1;
    schema = record {
      fields = record { path = codes "@timestamp"; kind = Date; role = Time }
          ∷ record { path = codes "host"; kind = Keyword; role = Dimension }
          ∷ record { path = codes "req"; kind = Long; role = role } ∷ [];
      routing = 1 ∷ [];
      folded = true;
      rises = rises;
    };
  };
}

-- the first of them isn't the least by name
abbrev members : List HeldIndex
members = member (codes "z") 0 (Some second) false Counter ∷ member (codes "a") 10000 (Some second) true Counter
    ∷ member (codes "m") 20000 (Some second) false Counter ∷ member (codes "b") 30000 None true Counter ∷ []

pub least : keeps_no_increase (codes "req") members ≡ Some (codes "m")
least = refl

-- neither of a path that nobody maps, nor of one that is no counter
pub no_path : keeps_no_increase (codes "mem") members ≡ None
no_path = refl

pub no_counter : keeps_no_increase (codes "req") (member (codes "g") 0 (Some second) false Gauge ∷ []) ≡ None
no_counter = refl

pub told : increase_refusal (codes "mem" ∷ codes "req" ∷ []) members ≡ Some (NoIncrease (codes "m"))
told = refl

pub text : refused (NoIncrease (codes "m")) ≡ reply_of (wrong 400 (codes "illegal_argument_exception") (codes "index [m] keeps no increase"))
text = refl
