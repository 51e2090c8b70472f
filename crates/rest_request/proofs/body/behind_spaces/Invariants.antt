use Rattle.std.proofs.Common.{◌≡◌, drop}
use Rattle.rest_request.specs.Bytes.{behind_spaces}
use Rattle.rest_request.proofs.body.behind_spaces.Given as goal

abbrev pub invariant-loop-place : goal.invariant-loop-place
invariant-loop-place l = behind_spaces l.bytes ≡ behind_spaces (drop l.place l.bytes)
