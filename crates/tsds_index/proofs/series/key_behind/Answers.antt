use Rattle.std.specs.Option.{option_copied}
use Rattle.tsds_index.proofs.Keys.{key_got, no_key_got}
use Rattle.tsds_index.proofs.series.key_behind.Goals as goal

pub returns-in-Some : goal.returns-in-Some
returns-in-Some c = key_got (option_copied c.args.before) c.args.rows.now c.place_behind.result c.place_behind.ensures c.in-Some.row.now c.in-Some.ensures

pub returns-in-None : goal.returns-in-None
returns-in-None c = no_key_got (option_copied c.args.before) c.args.rows.now c.place_behind.result c.place_behind.ensures c.in-None.ensures
