-- The machine: a catalogue, the present moment, and whether records are kept.
use Rattle.std.specs.Prelude.{◌≡◌, ℕ, zero, suc, ℤ, pos, Bool, []}
use Rattle.time_text.specs.Instant.{IsInstant}
use Rattle.stream_catalog.specs.Plain.{PlainCatalog}
use Rattle.stream_catalog.specs.Sound.{IsSoundCatalog}
use Rattle.stream_catalog.specs.Units.{unit_of}
use Rattle.stream_catalog.specs.WellNamed.{IsWellNamed}
use Rattle.stream_catalog.specs.Ways.{Way, see_catalog}

pub record Machine : Type 0 where
  pub catalog : PlainCatalog
  pub now : ℤ
  pub kept : Bool

-- what is seen of a machine
abbrev pub see : Machine → Machine
see m = record m { catalog = see_catalog m.catalog }

-- a machine begins without templates, streams, indices and tasks, at the first instant
abbrev pub empty_machine : Bool → Machine
empty_machine kept = record { catalog = record { templates = []; streams = []; indices = []; tasks = [] }; now = pos 0; kept = kept }

-- one unit: the oldest task goes on by a series
abbrev pub unit : Way → Machine → Machine
unit way m = record m { catalog = unit_of way m.catalog }

-- so many units, one after another
abbrev pub units : Way → ℕ → Machine → Machine
units way zero m = m
units way (suc n) m = units way n (unit way m)

pub record IsSound (m : Machine) : Type 0 where
  pub catalog : IsSoundCatalog m.catalog
  pub now : IsInstant m.now
  pub names : IsWellNamed m.catalog

-- what the code holds: a sound machine that is seen again itself
pub record IsSeen (m : Machine) : Type 0 where
  pub sound : IsSound m
  pub again : see m ≡ m
