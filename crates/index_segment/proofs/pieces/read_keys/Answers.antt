use Rattle.std.proofs.Common.{◌≡◌, ◌++◌, IfSome, is_some, ap, subst, sym}
use Rattle.std.specs.List.{flat_map}
use Rattle.row_cells.specs.Dimensions.{IsKey, text_bytes}
use Rattle.index_segment.proofs.Left.{keys_on, next_key}
use Rattle.row_cells.specs.HeadLaws.{text_there, text_told}
use Rattle.index_segment.proofs.pieces.read_keys.Goals as goal

pub returns-in_default : goal.returns-in_default
returns-in_default c keys rest keyed long spelled =
    let k = next_key c.args.count c.loop-number.number c.loop-number.keys.items keys rest c.loop-number.rest.now c.loop-number-test.true (c.loop-number.invariant keys rest keyed long spelled) in
    text_there c.loop-number.rest.now k.key (flat_map text_bytes k.more ++ rest) k.short k.spelled c.in_default.ensures.is

pub returns-in_default-2 : goal.returns-in_default-2
returns-in_default-2 c keys rest keyed long spelled =
    let k = next_key c.args.count c.loop-number.number c.loop-number.keys.items keys rest c.loop-number.rest.now c.loop-number-test.true (c.loop-number.invariant keys rest keyed long spelled) in
    let read = text_told c.loop-number.rest.now k.key (flat_map text_bytes k.more ++ rest) c.in-Some.read.text.now c.in-Some.read.rest.now k.short k.spelled c.in-Some.ensures.is in
    c.in_ok-key.ensures.none (ap is_some c.in_default-2.is) (subst IsKey (sym read.0) k.is)

pub loop-number-preserved : goal.loop-number-preserved
loop-number-preserved c keys rest keyed long spelled =
    let k = next_key c.args.count c.loop-number.number c.loop-number.keys.items keys rest c.loop-number.rest.now c.loop-number-test.true (c.loop-number.invariant keys rest keyed long spelled) in
    let read = text_told c.loop-number.rest.now k.key (flat_map text_bytes k.more ++ rest) c.in-Some.read.text.now c.in-Some.read.rest.now k.short k.spelled c.in-Some.ensures.is in
    let some = subst (λ o. IfSome o (λ key. (key ≡ c.in-Some.read.text.now) × IsKey c.in-Some.read.text.now)) c.in-Some-2.is c.in_ok-key.ensures.some in
    keys_on c.args.count c.loop-number.number c.loop-number.keys.items c.push.new.self.items keys c.in-Some-2.key c.in-Some.read.text.now rest c.loop-number.rest.now c.in-Some.read.rest.now k c.in_ok-push.ensures.items some.0 read.0 read.1
