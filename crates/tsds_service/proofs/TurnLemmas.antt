-- Turns, one after another.
use Rattle.std.specs.Prelude.{◌≡◌, ◌≤◌, ℕ, ℤ, pos, int_le, T, ◌&&◌, ◌≤ℤ◌, Bool, true, false, List, [], ◌∷◌, length, Option, Some, None, Result, Ok, Err, option_and_then, if◌then◌else◌}
use Rattle.std.specs.Int.Signed.{le_z_yes}
use Rattle.std.specs.Option.{option_map, option_or}
use Rattle.std.proofs.Common.{refl, ap, ◌∙◌, sym, subst}
use Rattle.std.proofs.lemmas.Bool.{and_parts}
use Rattle.edge_face.specs.Limits.{body_limit, last_instant}
use Rattle.rest_request.specs.AskedLaws.{asked_so}
use Rattle.rest_request.specs.Message.{Message}
use Rattle.rest_request.specs.Table.{request_of}
use Rattle.row_cells.specs.Each.{Each}
use Rattle.stream_catalog.specs.Ways.{plain_way, seen_way}
use Rattle.time_text.specs.Instant.{IsInstant, in_range, instant_of, written_of}
use Rattle.tsds_service.specs.CausedLaws.{requests_caused, same_with_causes}
use Rattle.tsds_service.specs.Causes.{refused, request_cause}
use Rattle.tsds_service.specs.declared.causes.Cause.{Cause}
use Rattle.tsds_service.specs.Laws.{MachinesSeenAgain, StepsRefine, UnitsRefine, StepsKeepSound, OneUnitKeepsSound, IsSoundDated, IsSeenDated, IsSoundWritten, IsSeenWritten, MessagesRefine, MomentsAreInstants, TurnAlike, TurnsRefine, TurnStands, TurnsStand}
use Rattle.tsds_service.specs.Machine.{Machine, see, IsSound}
use Rattle.tsds_service.specs.Messages.{Told, reading_of, see_told, with_unit, by_reading, message_told, moment_by}
use Rattle.tsds_service.specs.Questions.{Searching}
use Rattle.tsds_service.specs.Requests.{Stepped, see_stepped, step}
use Rattle.tsds_service.specs.Turns.{Turn, asks, scripted, linked, says, works, Dated, see_dated, Turned, see_turned, written_if, by_step, by_message, turned, reply_then, all_replies, left_behind, last_recorded, IsTurn}

none_not_some : {A : Type 0} {a : A} → None ≡ Some a → ⊥
none_not_some e = cc

some_is : {A : Type 0} {a b : A} → Some a ≡ Some b → a ≡ b
some_is e = cc

-- ---- moments that are read are instants

from_le : (a b : ℤ) → int_le a b ≡ true → a ≤ℤ b
from_le a b is = le_z_yes {a = a} {b = b} (subst T (sym is) tt)

in_range_instant : (z t : ℤ) → in_range z ≡ Some t → IsInstant t
in_range_instant z t is = by_test (int_le (pos 0) z && int_le z last_instant) refl is
  where
    by_test : (b : Bool) → (int_le (pos 0) z && int_le z last_instant) ≡ b → (if b then Some z else None) ≡ Some t → IsInstant t
    by_test true within is = let both = and_parts (int_le (pos 0) z) (int_le z last_instant) within in subst IsInstant (some_is is) (from_le (pos 0) z both.0, from_le z last_instant both.1)
    by_test false within is = absurd (none_not_some is)

instant_read : (text : List ℕ) (t : ℤ) → instant_of text ≡ Some t → IsInstant t
unfolding instant_of
instant_read text t is = by_written (written_of text) is
  where
    by_written : (o : Option ℤ) → option_and_then in_range o ≡ Some t → IsInstant t
    by_written None is = absurd (none_not_some is)
    by_written (Some z) is = in_range_instant z t is

pub moment_instant : MomentsAreInstants
moment_instant now text is_now = by_read (instant_of text) refl
  where
    by_test : (next : ℤ) (b : Bool) → IsInstant next → IsInstant (if b then record { reply = None; now = next } else moment_by now None).now
    by_test next true is_next = is_next
    by_test next false is_next = is_now

    by_read : (o : Option ℤ) → instant_of text ≡ o → IsInstant (moment_by now o).now
    by_read None read = is_now
    by_read (Some next) read = by_test next (int_le now next) (instant_read text next read)

-- ---- one turn

written-see : (b : Bool) (m : Machine) → written_if b (see m) ≡ option_map see (written_if b m)
written-see true m = refl
written-see false m = refl

by_step-see : (now : ℤ) (s : Stepped) → by_step now (see_stepped s) ≡ see_turned (by_step now s)
by_step-see now s = ap (λ w. record { reply = Some s.reply; written = w; after = record { machine = see s.machine; present = now } }) (written-see s.wrote s.machine)

by_message-see : (now : ℤ) (t : Told) → by_message now (record t { stepped = see t.stepped; after = see t.after }) ≡ see_turned (by_message now t)
by_message-see now t = ap (λ w. record { reply = Some t.reply; written = w; after = record { machine = see t.after; present = now } }) (written-see t.wrote t.stepped)

read_so : (method target body : List ℕ) (message : Message) → reading_of method target body ≡ Ok message → request_of method target body ≡ Ok message
read_so method target body message = (same_with_causes request_cause (request_of method target body) (requests_caused method target body)).value_back message

module _ (again : MachinesSeenAgain) (steps : StepsRefine) (units : UnitsRefine) (steps_keep : StepsKeepSound) (units_keep : OneUnitKeepsSound) (searching : Searching) where
  -- ---- a request as it is sent

  with_unit-see : (s : Stepped) → IsSound s.machine → with_unit seen_way (see_stepped s) ≡ see_told (with_unit plain_way s)
  with_unit-see s sound = ap (λ (n : Machine). record { reply = s.reply; stepped = see s.machine; after = n; wrote = s.wrote }) (units s.machine sound)

  told-see : (m : Machine) (now : ℤ) (method target body : List ℕ) (r : Result Message Cause) → IsSound m → IsInstant now → length body ≤ body_limit → reading_of method target body ≡ r →
      by_reading searching seen_way (see m) now r ≡ see_told (by_reading searching plain_way m now r)
  told-see m now method target body (Ok message) sound is_now short read =
      ap (with_unit seen_way) (steps searching m message now sound) ∙ with_unit-see (step searching plain_way m message now)
      (steps_keep searching m message now sound (asked_so method target body message (read_so method target body message read) short) is_now)
  told-see m now method target body (Err cause) sound is_now short read =
      ap (λ (n : Machine). record { reply = refused cause; stepped = see m; after = n; wrote = false }) (units m sound)

  message-see : (m : Machine) (now : ℤ) (method target body : List ℕ) → IsSound m → IsInstant now → length body ≤ body_limit →
      message_told searching seen_way (see m) now method target body ≡ see_told (message_told searching plain_way m now method target body)
  unfolding message_told
  message-see m now method target body sound is_now short = told-see m now method target body (reading_of method target body) sound is_now short refl

  told-sound : (m : Machine) (now : ℤ) (method target body : List ℕ) (r : Result Message Cause) → IsSound m → IsInstant now → length body ≤ body_limit →
      reading_of method target body ≡ r → IsSound (by_reading searching plain_way m now r).after
  told-sound m now method target body (Ok message) sound is_now short read =
      units_keep (step searching plain_way m message now).machine (steps_keep searching m message now sound (asked_so method target body message (read_so method target body message read) short) is_now)
  told-sound m now method target body (Err cause) sound is_now short read = units_keep m sound

  message-sound : (m : Machine) (now : ℤ) (method target body : List ℕ) → IsSound m → IsInstant now → length body ≤ body_limit → IsSound (message_told searching plain_way m now method target body).after
  unfolding message_told
  message-sound m now method target body sound is_now short = told-sound m now method target body (reading_of method target body) sound is_now short refl

  told-stepped : (m : Machine) (now : ℤ) (method target body : List ℕ) (r : Result Message Cause) → IsSound m → IsInstant now → length body ≤ body_limit →
      reading_of method target body ≡ r → IsSound (by_reading searching plain_way m now r).stepped
  told-stepped m now method target body (Ok message) sound is_now short read = steps_keep searching m message now sound (asked_so method target body message (read_so method target body message read) short) is_now
  told-stepped m now method target body (Err cause) sound is_now short read = sound

  message-stepped : (m : Machine) (now : ℤ) (method target body : List ℕ) → IsSound m → IsInstant now → length body ≤ body_limit → IsSound (message_told searching plain_way m now method target body).stepped
  unfolding message_told
  message-stepped m now method target body sound is_now short = told-stepped m now method target body (reading_of method target body) sound is_now short refl

  -- ---- a turn

  turn-see : (s : Dated) (t : Turn) → IsSoundDated s → IsTurn t → turned searching seen_way (see_dated s) t ≡ see_turned (turned searching plain_way s t)
  turn-see s (asks message now) sound is = ap (by_step now) (steps searching s.machine message now sound.machine) ∙ by_step-see now (step searching plain_way s.machine message now)
  turn-see s (scripted method target body) sound short =
      ap (by_message s.present) (message-see s.machine s.present method target body sound.machine sound.present short)
      ∙ by_message-see s.present (message_told searching plain_way s.machine s.present method target body)
  turn-see s (linked method target body now) sound is =
      ap (by_message now) (message-see s.machine now method target body sound.machine is.1 is.0) ∙ by_message-see now (message_told searching plain_way s.machine now method target body)
  turn-see s (says text) sound is = refl
  turn-see s works sound is = ap (λ (n : Machine). record { reply = None; written = None; after = record s { machine = n } }) (units s.machine sound.machine)

  turn-sound : (s : Dated) (t : Turn) → IsSoundDated s → IsTurn t → IsSoundDated (turned searching plain_way s t).after
  turn-sound s (asks message now) sound is = record { machine = steps_keep searching s.machine message now sound.machine is.0 is.1; present = is.1 }
  turn-sound s (scripted method target body) sound short = record { machine = message-sound s.machine s.present method target body sound.machine sound.present short; present = sound.present }
  turn-sound s (linked method target body now) sound is = record { machine = message-sound s.machine now method target body sound.machine is.1 is.0; present = is.1 }
  turn-sound s (says text) sound is = record { machine = sound.machine; present = moment_instant s.present text sound.present }
  turn-sound s works sound is = record { machine = units_keep s.machine sound.machine; present = sound.present }

  -- ---- what is written

  if-sound : (b : Bool) (m : Machine) → IsSound m → IsSoundWritten (written_if b m)
  if-sound true m sound = sound
  if-sound false m sound = tt

  turn-written : (s : Dated) (t : Turn) → IsSoundDated s → IsTurn t → IsSoundWritten (turned searching plain_way s t).written
  turn-written s (asks message now) sound is =
      let stepped = step searching plain_way s.machine message now in
      if-sound stepped.wrote stepped.machine (steps_keep searching s.machine message now sound.machine is.0 is.1)
  turn-written s (scripted method target body) sound short =
      let told = message_told searching plain_way s.machine s.present method target body in
      if-sound told.wrote told.stepped (message-stepped s.machine s.present method target body sound.machine sound.present short)
  turn-written s (linked method target body now) sound is =
      let told = message_told searching plain_way s.machine now method target body in
      if-sound told.wrote told.stepped (message-stepped s.machine now method target body sound.machine is.1 is.0)
  turn-written s (says text) sound is = tt
  turn-written s works sound is = tt

  or-sound : (o before : Option Machine) → IsSoundWritten o → IsSoundWritten before → IsSoundWritten (option_or o before)
  or-sound None before is was = was
  or-sound (Some m) before is was = is

  seen-written : (o : Option Machine) → IsSoundWritten o → IsSeenWritten (option_map see o)
  seen-written None is = tt
  seen-written (Some m) is = again m is

  written-sound : (o : Option Machine) → IsSeenWritten o → IsSoundWritten o
  written-sound None is = tt
  written-sound (Some m) is = is.sound

  written-again : (o : Option Machine) → IsSeenWritten o → option_map see o ≡ o
  written-again None is = refl
  written-again (Some m) is = ap (λ (n : Machine). Some n) is.again

  -- ---- many

  or-see : (o before : Option Machine) → option_or (option_map see o) (option_map see before) ≡ option_map see (option_or o before)
  or-see None before = refl
  or-see (Some m) before = refl

  turns-alike : (s : Dated) (ts : List Turn) (before : Option Machine) → IsSoundDated s → Each IsTurn ts → TurnAlike searching s ts before
  turns-alike s [] before sound are = record { replies = refl; left = refl; written = refl; sound = sound; records = λ is. is }
  turns-alike s (t ∷ ts) before sound are =
      let one = turn-see s t sound are.0 in
      let next = (turned searching plain_way s t).after in
      let rest = turns-alike next ts (option_or (turned searching plain_way s t).written before) (turn-sound s t sound are.0) are.1 in
      record {
        replies = ap (λ (x : Turned). reply_then x.reply (all_replies searching seen_way x.after ts)) one ∙ ap (reply_then (turned searching plain_way s t).reply) rest.replies;
        left = ap (λ (x : Turned). left_behind searching seen_way x.after ts) one ∙ rest.left;
        written = ap (λ (x : Turned). last_recorded searching seen_way (option_or x.written (option_map see before)) x.after ts) one
            ∙ (ap (λ w. last_recorded searching seen_way w (see_dated next) ts) (or-see (turned searching plain_way s t).written before) ∙ rest.written);
        sound = rest.sound;
        records = λ was. rest.records (or-sound (turned searching plain_way s t).written before (turn-written s t sound are.0) was);
      }

  turns-stand : (s : Dated) (ts : List Turn) (before : Option Machine) → IsSeenDated s → IsSeenWritten before → Each IsTurn ts → TurnStands searching s ts before
  turns-stand s ts before seen was are =
      let alike = turns-alike s ts before (record { machine = seen.machine.sound; present = seen.present }) are in
      let same : s ≡ see_dated s = ap (λ (m : Machine). record s { machine = m }) (sym seen.machine.again) in
      let ends = ap (λ (x : Dated). left_behind searching seen_way x ts) same ∙ alike.left in
      let writes = ap (λ (x : Dated). last_recorded searching seen_way before x ts) same
      ∙ (ap (λ o. last_recorded searching seen_way o (see_dated s) ts) (sym (written-again before was)) ∙ alike.written) in
      record {
        replies = ap (λ (x : Dated). all_replies searching seen_way x ts) same ∙ alike.replies;
        left = ends;
        written = writes;
        seen = subst IsSeenDated (sym ends) (record { machine = again (left_behind searching plain_way s ts).machine alike.sound.machine; present = alike.sound.present });
        records = subst IsSeenWritten (sym writes) (seen-written (last_recorded searching plain_way before s ts) (alike.records (written-sound before was)));
      }

pub turns_refine : MachinesSeenAgain → StepsRefine → UnitsRefine → StepsKeepSound → OneUnitKeepsSound → TurnsRefine
turns_refine again steps units steps_keep units_keep searching s ts before sound are = turns-alike again steps units steps_keep units_keep searching s ts before sound are

pub turns_stand : MachinesSeenAgain → StepsRefine → UnitsRefine → StepsKeepSound → OneUnitKeepsSound → TurnsStand
turns_stand again steps units steps_keep units_keep searching s ts before seen was are = turns-stand again steps units steps_keep units_keep searching s ts before seen was are

pub messages_refine : MachinesSeenAgain → StepsRefine → UnitsRefine → StepsKeepSound → OneUnitKeepsSound → MessagesRefine
messages_refine again steps units steps_keep units_keep searching m now method target body sound is_now short = record {
  told = message-see again steps units steps_keep units_keep searching m now method target body sound is_now short;
  stepped = message-stepped again steps units steps_keep units_keep searching m now method target body sound is_now short;
  after = message-sound again steps units steps_keep units_keep searching m now method target body sound is_now short;
}
