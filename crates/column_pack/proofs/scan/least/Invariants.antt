use Rattle.std.proofs.Common.{◌≤◌, take}
use Rattle.std.specs.List.{All, Contains}
use Rattle.column_pack.proofs.scan.least.Given as goal

abbrev pub invariant-loop-number : goal.invariant-loop-number
invariant-loop-number l = record { below : All (λ x. l.least ≤ x) (take l.number-index l.numbers); among : Contains l.numbers l.least }
