-- Messages for what code holds, and where a run begins.
use Rattle.std.specs.Prelude.{◌≡◌}
use Rattle.std.proofs.Common.{ap, ◌∙◌, sym, subst}
use Rattle.stream_catalog.specs.Ways.{plain_way, seen_way}
use Rattle.tsds_service.specs.Laws.{MachinesSeenAgain, MessagesRefine}
use Rattle.tsds_service.specs.Machine.{Machine, IsSeen}
use Rattle.tsds_service.specs.MessageLaws.{MessagesStand, RunsBegin}
use Rattle.tsds_service.specs.Messages.{Told, see_told, message_told}

pub messages_stand : MachinesSeenAgain → MessagesRefine → MessagesStand
messages_stand again refine searching m now method target body seen is_now short =
    let alike = refine searching m now method target body seen.sound is_now short in
    let plain = message_told searching plain_way m now method target body in
    let told : message_told searching seen_way m now method target body ≡ see_told plain =
    ap (λ (n : Machine). message_told searching seen_way n now method target body) (sym seen.again) ∙ alike.told in
    record {
      told = told;
      stepped = subst (λ (t : Told). IsSeen t.stepped) (sym told) (again plain.stepped alike.stepped);
      after = subst (λ (t : Told). IsSeen t.after) (sym told) (again plain.after alike.after);
    }

pub runs_begin : RunsBegin
runs_begin = record {
  sound = λ m sound. record { machine = sound; present = sound.now };
  seen = λ m seen. record { machine = seen; present = seen.sound.now };
}
