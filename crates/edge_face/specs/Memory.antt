-- Devices in memory: what contracts see of them.
use Rattle.std.specs.Prelude.{◌≡◌, ℕ, ℤ, ◌+◌, ◌-◌, ◌^◌, List, [], map, min, Option, Some}
use Rattle.edge_face.specs.Links.{Ended}
use Rattle.edge_face.specs.Table.{Table}

-- bytes that were put, and how many there is room for in all
pub record Held : Type 0 where
  pub given : List ℕ
  pub room : ℕ

-- a source: what is left, the numbers of the calls that fail, how many calls were made, and how many failed
pub record SourceState : Type 0 where
  pub left : List ℕ
  pub fails : List ℕ
  pub calls : ℕ
  pub faults : ℕ

-- a sink: what it was given, how many bytes it has room for in all, and as above
pub record SinkState : Type 0 where
  pub given : List ℕ
  pub room : ℕ
  pub fails : List ℕ
  pub calls : ℕ
  pub faults : ℕ

-- a link: both sides, whose calls are counted together
pub record LinkState : Type 0 where
  pub left : List ℕ
  pub given : List ℕ
  pub room : ℕ
  pub fails : List ℕ
  pub calls : ℕ
  pub take_faults : ℕ
  pub put_faults : ℕ

-- a table and the path at which it was opened last
pub record ShelfState : Type 0 where
  pub table : Table
  pub path : Option (List ℕ)

pub record KeeperState : Type 0 where
  pub table : Table
  pub path : Option (List ℕ)
  pub fails : List ℕ
  pub calls : ℕ
  pub faults : ℕ

-- links that come and that ended, and the port
pub record QueueState : Type 0 where
  pub coming : List LinkState
  pub ended : List Ended
  pub port : Option ℕ
  pub calls : ℕ

pub record AcceptorState : Type 0 where
  pub coming : List LinkState
  pub ended : List Ended
  pub port : Option ℕ
  pub fails : List ℕ
  pub calls : ℕ
  pub failing : ℕ
  pub faults : ℕ

pub record ClockState : Type 0 where
  pub left : List ℤ
  pub calls : ℕ

-- one more, in 64 bits that stop at their last value
abbrev pub one_more : ℕ → ℕ
one_more n = min (n + 1) (2 ^ 64 - 1)

-- no call was made yet on a link
pub record IsFresh (link : LinkState) : Type 0 where
  pub given : link.given ≡ []
  pub calls : link.calls ≡ 0
  pub take_faults : link.take_faults ≡ 0
  pub put_faults : link.put_faults ≡ 0

-- how a link in memory ended
abbrev pub ended_of : LinkState → Ended
ended_of link = record { given = Some link.given; left = Some link.left; take_faults = link.take_faults; put_faults = link.put_faults }

-- the bytes of the links to come
abbrev pub bytes_of : List LinkState → List (List ℕ)
bytes_of links = map (λ link. link.left) links
