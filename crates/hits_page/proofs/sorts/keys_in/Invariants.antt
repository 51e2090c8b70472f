use Rattle.std.proofs.Common.{◌≡◌, drop}
use Rattle.hits_page.specs.Sorts.{keys_of}
use Rattle.hits_page.proofs.Counted.{behind_keys}
use Rattle.hits_page.proofs.sorts.keys_in.Given as goal

-- what was made, before what the rest gives, is what all give
abbrev pub invariant-loop-entry : goal.invariant-loop-entry
invariant-loop-entry l = behind_keys l.keys (keys_of l.fields (drop l.entry-index l.entries)) ≡ keys_of l.fields l.entries
