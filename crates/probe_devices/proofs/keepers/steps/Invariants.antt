use Rattle.std.proofs.Common.{IsSome}
use Rattle.probe_devices.proofs.keepers.steps.Given as goal

abbrev pub invariant-loop-one : goal.invariant-loop-one
invariant-loop-one g l = IsSome (g.K.Keeper.path l.keeper)
