use Rattle.std.proofs.Common.{◌≡◌, drop}
use Rattle.hits_page.specs.Sorts.{place_from}
use Rattle.hits_page.proofs.sorts.sort_place.Given as goal

abbrev pub invariant-loop-field : goal.invariant-loop-field
invariant-loop-field l = place_from l.at l.path (drop l.field-index l.fields) ≡ place_from 0 l.path l.fields
