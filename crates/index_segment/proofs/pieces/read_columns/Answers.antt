use Rattle.std.proofs.Common.{◌≡◌, IsSomeAnd, subst}
use Rattle.column_block.specs.declared.kinds.ColumnKind.TheVariants as kinds
use Rattle.index_segment.proofs.Left.{columns_on, next_column}
use Rattle.index_segment.proofs.pieces.read_columns.Goals as goal

pub returns-in_default : goal.returns-in_default
returns-in_default c columns of spelled =
    let k = next_column c.args.kinds.now c.loop-kind.kind-index c.args.rows kinds.Whole c.loop-kind.columns.items columns c.loop-kind.rest.now c.loop-kind-test.true (c.loop-kind.invariant columns of spelled) in
    subst (λ o. IsSomeAnd o (λ read. (read.column ≡ k.column) × (read.rest.now ≡ k.back))) c.in_default.is (c.in_ok-read.ensures k.column k.front k.back k.is k.spells k.now_is)

pub loop-kind-preserved : goal.loop-kind-preserved
loop-kind-preserved c columns of spelled =
    let k = next_column c.args.kinds.now c.loop-kind.kind-index c.args.rows kinds.Whole c.loop-kind.columns.items columns c.loop-kind.rest.now c.loop-kind-test.true (c.loop-kind.invariant columns of spelled) in
    let read = subst (λ o. IsSomeAnd o (λ read. (read.column ≡ k.column) × (read.rest.now ≡ k.back))) c.in-Some.is (c.in_ok-read.ensures k.column k.front k.back k.is k.spells k.now_is) in
    columns_on c.args.kinds.now c.loop-kind.kind-index c.args.rows _ c.loop-kind.columns.items c.push.new.self.items columns _ c.loop-kind.rest.now c.in-Some.read.rest.now k c.in_ok-push.ensures.items read.0 read.1
