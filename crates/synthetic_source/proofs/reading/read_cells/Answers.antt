use Rattle.std.proofs.Common.{◌≡◌, ◌∙◌, ◌<◌, ap, sym, subst, arith, ◌+◌, map, length, get_or, drop, []}
use Rattle.std.proofs.lemmas.List.{get_or-map, length-map}
use Rattle.synthetic_source.specs.Gathered.{AreRead, IsReadAs, slot_leaves}
use Rattle.synthetic_source.proofs.Cells.{GoodOn, faulty_here, faulty_step, fields_step, good_end, good_step, timed_step}
use Rattle.synthetic_source.proofs.reading.read_cells.Goals as goal

pub read_cell-requires : goal.read_cell-requires
read_cell-requires c =
    let fs = c.args.fields.now in
    let lss = map slot_leaves c.args.slots.now in
    let f = c.index-fields-i.result in
    let ls = slot_leaves c.index-slots-i.result in
    let below_f : c.loop-i.i < length fs = c.loop-i-test.true in
    let below_s : c.loop-i.i < length c.args.slots.now = omega (arith, c.requires.long, below_f) in
    let below_l : c.loop-i.i < length lss = omega (arith, c.requires.long, length-map c.args.slots.now slot_leaves, below_f) in
    let is_ls : ls ≡ get_or lss c.loop-i.i [] = ap slot_leaves c.index-slots-i.is ∙ sym (get_or-map slot_leaves c.args.slots.now c.loop-i.i c.index-slots-i.result [] below_s) in
    record {
      role = (fields_step fs c.loop-i.i f below_f c.index-fields-i.is c.loop-i.invariant.left).0;
      timed = (timed_step fs lss c.loop-i.i f ls below_f below_l c.index-fields-i.is is_ls c.loop-i.invariant.timed).0;
    }

pub loop-i-preserved : goal.loop-i-preserved
loop-i-preserved c =
    let fs = c.args.fields.now in
    let lss = map slot_leaves c.args.slots.now in
    let f = c.index-fields-i.result in
    let ls = slot_leaves c.index-slots-i.result in
    let below_f : c.loop-i.i < length fs = c.loop-i-test.true in
    let below_s : c.loop-i.i < length c.args.slots.now = omega (arith, c.requires.long, below_f) in
    let below_l : c.loop-i.i < length lss = omega (arith, c.requires.long, length-map c.args.slots.now slot_leaves, below_f) in
    let is_ls : ls ≡ get_or lss c.loop-i.i [] = ap slot_leaves c.index-slots-i.is ∙ sym (get_or-map slot_leaves c.args.slots.now c.loop-i.i c.index-slots-i.result [] below_s) in
    let read : IsReadAs f.kind f.role ls c.in_ok-read.read = c.in_ok-read.ensures in
    let here = subst (IsReadAs f.kind f.role ls) c.in-Good.is read in
    record {
      good = subst (λ cs. GoodOn (drop (c.loop-i.i + 1) fs) (drop (c.loop-i.i + 1) lss) cs fs lss) (sym c.in_ok-push-in-Good.ensures.items) (good_step fs lss c.loop-i.i f ls c.loop-i.cells.items c.in-Good.cell below_f below_l c.index-fields-i.is is_ls here c.loop-i.invariant.good);
      faulty = faulty_step fs lss c.loop-i.i f ls below_f below_l c.index-fields-i.is is_ls here.0 c.loop-i.invariant.faulty;
      timed = (timed_step fs lss c.loop-i.i f ls below_f below_l c.index-fields-i.is is_ls c.loop-i.invariant.timed).1;
      left = (fields_step fs c.loop-i.i f below_f c.index-fields-i.is c.loop-i.invariant.left).1;
    }

pub returns-in-Fault : goal.returns-in-Fault
returns-in-Fault c =
    let fs = c.args.fields.now in
    let lss = map slot_leaves c.args.slots.now in
    let f = c.index-fields-i.result in
    let ls = slot_leaves c.index-slots-i.result in
    let below_f : c.loop-i.i < length fs = c.loop-i-test.true in
    let below_s : c.loop-i.i < length c.args.slots.now = omega (arith, c.requires.long, below_f) in
    let below_l : c.loop-i.i < length lss = omega (arith, c.requires.long, length-map c.args.slots.now slot_leaves, below_f) in
    let is_ls : ls ≡ get_or lss c.loop-i.i [] = ap slot_leaves c.index-slots-i.is ∙ sym (get_or-map slot_leaves c.args.slots.now c.loop-i.i c.index-slots-i.result [] below_s) in
    let read : IsReadAs f.kind f.role ls c.in_ok-read.read = c.in_ok-read.ensures in
    let here = subst (IsReadAs f.kind f.role ls) c.in-Fault.is read in
    faulty_here fs lss c.loop-i.i f ls c.in-Fault.kind below_f below_l c.index-fields-i.is is_ls here c.loop-i.invariant.faulty

pub returns : goal.returns
returns c =
    subst (AreRead c.args.fields.now (map slot_leaves c.args.slots.now)) (sym c.from_vec.ensures)
    (good_end c.args.fields.now (map slot_leaves c.args.slots.now) c.loop-i.i c.loop-i.cells.items c.loop-i-test.false (length-map c.args.slots.now slot_leaves ∙ c.requires.long) c.loop-i.invariant.good)
