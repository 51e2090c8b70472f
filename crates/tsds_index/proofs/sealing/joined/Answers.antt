use Rattle.std.proofs.Common.{◌++◌}
use Rattle.tsds_index.specs.Segments.{lists_in}
use Rattle.tsds_index.specs.Spread.{newest_first}
use Rattle.tsds_index.proofs.Many.{begun, fits_beside, one_more}
use Rattle.tsds_index.proofs.sealing.joined.Goals as goal

pub loop-older-init : goal.loop-older-init
loop-older-init c = begun c.args.schema.now c.args.rows.now c.in_ok-one.one c.args.segments.now c.requires.rows c.requires.schemas c.in_ok-one.ensures

pub merge-requires-clause-schema : goal.merge-requires-clause-schema
merge-requires-clause-schema c = (fits_beside c.args.schema.now (c.args.rows.now ++ newest_first (lists_in c.args.segments.now)) c.loop-older.one c.in-Some.older.now c.loop-older.left.now c.in-Some.rest.now c.in-Some.ensures.cases.0 c.loop-older.invariant c.requires.distinct c.requires.few).schema

pub merge-requires-clause-apart : goal.merge-requires-clause-apart
merge-requires-clause-apart c = (fits_beside c.args.schema.now (c.args.rows.now ++ newest_first (lists_in c.args.segments.now)) c.loop-older.one c.in-Some.older.now c.loop-older.left.now c.in-Some.rest.now c.in-Some.ensures.cases.0 c.loop-older.invariant c.requires.distinct c.requires.few).apart

pub merge-requires-clause-few : goal.merge-requires-clause-few
merge-requires-clause-few c = (fits_beside c.args.schema.now (c.args.rows.now ++ newest_first (lists_in c.args.segments.now)) c.loop-older.one c.in-Some.older.now c.loop-older.left.now c.in-Some.rest.now c.in-Some.ensures.cases.0 c.loop-older.invariant c.requires.distinct c.requires.few).few

pub loop-older-preserved : goal.loop-older-preserved
loop-older-preserved c = one_more c.args.schema.now (c.args.rows.now ++ newest_first (lists_in c.args.segments.now)) c.loop-older.one c.in-Some.older.now c.loop-older.left.now c.in-Some.rest.now c.in-Some.ensures.cases.0 c.loop-older.invariant c.in_ok-one-2.one c.in_ok-one-2.ensures
