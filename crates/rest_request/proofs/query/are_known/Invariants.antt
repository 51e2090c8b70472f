use Rattle.std.proofs.Common.{◌≡◌}
use Rattle.form_urlencoded.specs.Form.{raw_pairs}
use Rattle.form_urlencoded.specs.Parse.{raw_pairs_left}
use Rattle.rest_request.specs.Query.{all_known}
use Rattle.rest_request.proofs.query.are_known.Given as goal

-- the pairs that are left answer for all of them
abbrev pub invariant-loop-name : goal.invariant-loop-name
invariant-loop-name l = all_known (raw_pairs_left l.name-iterator) ≡ all_known (raw_pairs l.query)
