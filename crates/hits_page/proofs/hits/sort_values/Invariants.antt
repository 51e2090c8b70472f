use Rattle.std.proofs.Common.{◌≡◌, ◌++◌, drop}
use Rattle.hits_page.specs.Hits.{sort_values}
use Rattle.hits_page.proofs.hits.sort_values.Given as goal

abbrev pub invariant-loop-key : goal.invariant-loop-key
invariant-loop-key l = l.values ++ sort_values (drop l.key-index l.keys) l.schema.fields l.row ≡ sort_values l.keys l.schema.fields l.row
