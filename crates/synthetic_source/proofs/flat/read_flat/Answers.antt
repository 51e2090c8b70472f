use Rattle.std.proofs.Common.{◌≡◌, ◌∙◌, ap, ap₂, sym, subst}
use Rattle.std.specs.Prelude.{IfSome, None, Some}
use Rattle.row_cells.specs.Fitting.{IsValueOf}
use Rattle.serde_json.specs.View.{view, members_view}
use Rattle.ts_mapping.specs.Readings.{reading_of}
use Rattle.synthetic_source.specs.Flat.{AreFlat, IsAhead, members_ahead}
use Rattle.synthetic_source.proofs.FlatSteps.{flat_end, pass_step, take_step}
use Rattle.synthetic_source.proofs.flat.read_flat.Goals as goal
use Rattle.synthetic_source.proofs.flat.read_flat.Goals.{in-None+in_ok-push-in-None, in-Some+in_ok-read_single-in-Some+in-Some-2+in_ok-push_value-in-Some-2}

pub loop-field-preserved : goal.loop-field-preserved
loop-field-preserved c =
    let fs = c.args.fields.now in
    let f = c.field-item.result in
    let all = members_view c.args.members.now.entries in
    elim c.match-leaf_at.branch [
      | in-None+in_ok-push-in-None w ↦
          pass_step fs c.loop-field.field-index f c.loop-field-test.true c.field-item.is c.loop-field.time c.loop-field.cells.items all c.loop-field.next c.match-leaf_at.next c.loop-field.behind c.match-leaf_at.behind c.match-leaf_at.time c.match-leaf_at.cells.items
          w.next-is w.behind-is w.time-is (ap (λ v. v.items) w.cells-is ∙ w.in_ok-push-in-None.ensures.items) c.loop-field.invariant
      | in-Some+in_ok-read_single-in-Some+in-Some-2+in_ok-push_value-in-Some-2 w ↦
          let ahead : IsAhead f.path (view w.in-Some.leaf.now) c.loop-field.next =
          subst (λ p. IsAhead p (view w.in-Some.leaf.now) c.loop-field.next) c.as_bytes.ensures (subst (λ o. IfSome o (λ leaf. IsAhead c.as_bytes.result.now (view leaf.now) c.loop-field.next)) w.in-Some.is c.leaf_at.ensures) in
          let read : (reading_of f.kind (view w.in-Some.leaf.now) ≡ Some w.in-Some-2.value) × IsValueOf f.kind w.in-Some-2.value =
          subst (λ o. IfSome o (λ v. (reading_of f.kind (view w.in-Some.leaf.now) ≡ Some v) × IsValueOf f.kind v)) w.in-Some-2.is w.in_ok-read_single-in-Some.ensures in
          take_step fs c.loop-field.field-index f c.loop-field-test.true c.field-item.is c.loop-field.time c.loop-field.cells.items all (view w.in-Some.leaf.now) w.in-Some-2.value c.loop-field.next c.match-leaf_at.next c.loop-field.behind c.match-leaf_at.behind c.match-leaf_at.time c.match-leaf_at.cells.items
          ahead read.0 read.1 (w.time-is ∙ w.time_after-time.ensures) (ap (λ v. v.items) w.cells-is ∙ w.in_ok-push_value-in-Some-2.ensures) (ap₂ members_ahead w.next-is w.behind-is ∙ w.next_member-next-in-Some-2.ensures) c.loop-field.invariant
    ]

pub returns-in-None-next : goal.returns-in-None-next
returns-in-None-next c =
    let none = ap (λ o. members_ahead o c.loop-field.behind) c.in-None-next.is in
    subst (AreFlat c.args.fields.now (members_view c.args.members.now.entries) None c.loop-field.time) (sym c.from_vec.ensures)
    (flat_end c.args.fields.now c.loop-field.field-index (members_ahead c.loop-field.next c.loop-field.behind) (members_view c.args.members.now.entries) c.loop-field.time c.loop-field.cells.items c.loop-field-test.false none c.loop-field.invariant)
