-- Units, and what a machine begins as.
use Rattle.std.specs.Prelude.{zero, suc, Bool}
use Rattle.std.proofs.Common.{refl, ap, ◌∙◌, sym, subst, arith}
use Rattle.stream_catalog.specs.Laws.{NamesKeep, UnitsKeepSound}
use Rattle.stream_catalog.specs.Plain.{facts_of}
use Rattle.stream_catalog.specs.Sound.{AreFactsSound}
use Rattle.stream_catalog.specs.Ways.{plain_way, seen_way}
use Rattle.tsds_service.specs.Laws.{MachinesSeenAgain, EmptyIsSeen, UnitsRefine, UnitsStand, OneUnitKeepsSound, OneUnitKeepsSeen, ManyUnitsKeepSound, ManyUnitsKeepSeen, ManyUnitsRefine, ManyUnitsStand}
use Rattle.tsds_service.specs.Machine.{empty_machine, unit, units, IsSeen}

-- ---- the empty machine

empty_facts : (kept : Bool) → AreFactsSound (facts_of (empty_machine kept).catalog)
empty_facts kept = record {
  templates = tt;
  indices = tt;
  streams = tt;
  tasks = tt;
  indices_agree = tt;
  templates_agree = tt;
  template_order = tt;
  stream_order = tt;
  index_order = tt;
  names_once = λ n. omega arith;
  members_once = λ n. omega arith;
  tasks_once = λ n. omega arith;
  few_templates = omega arith;
  few_streams = omega arith;
  few_indices = omega arith;
}

pub empty_is_seen : EmptyIsSeen
empty_is_seen kept = record {
  sound = record {
    catalog = record { facts = empty_facts kept; indices = tt; tasks = tt };
    now = (omega arith, omega arith);
    names = record { templates = tt; streams = tt; indices = tt; tasks = tt };
  };
  again = refl;
}

-- ---- a unit

pub units_keep_sound : UnitsKeepSound → NamesKeep → OneUnitKeepsSound
units_keep_sound keep names m sound = record { catalog = keep m.catalog sound.catalog; now = sound.now; names = names.units plain_way m.catalog sound.names }

pub units_keep_seen : UnitsKeepSound → NamesKeep → MachinesSeenAgain → UnitsStand → OneUnitKeepsSeen
units_keep_seen keep names again stand m seen = subst IsSeen (sym (stand m seen)) (again (unit plain_way m) (units_keep_sound keep names m seen.sound))

-- ---- any number of units

pub many_units_keep_sound : OneUnitKeepsSound → ManyUnitsKeepSound
many_units_keep_sound keep zero m sound = sound
many_units_keep_sound keep (suc n) m sound = many_units_keep_sound keep n (unit plain_way m) (keep m sound)

pub many_units_keep_seen : OneUnitKeepsSeen → ManyUnitsKeepSeen
many_units_keep_seen keep zero m seen = seen
many_units_keep_seen keep (suc n) m seen = many_units_keep_seen keep n (unit seen_way m) (keep m seen)

pub many_units_refine : OneUnitKeepsSound → UnitsRefine → ManyUnitsRefine
many_units_refine keep refine zero m sound = refl
many_units_refine keep refine (suc n) m sound = ap (units seen_way n) (refine m sound) ∙ many_units_refine keep refine n (unit plain_way m) (keep m sound)

pub many_units_stand : OneUnitKeepsSound → UnitsRefine → ManyUnitsStand
many_units_stand keep refine n m seen = ap (units seen_way n) (sym seen.again) ∙ many_units_refine keep refine n m seen.sound
