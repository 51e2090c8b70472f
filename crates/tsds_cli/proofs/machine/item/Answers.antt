use Rattle.tsds_cli.proofs.machine.item.Goals as goal

pub returns-in-NotBuilt : goal.returns-in-NotBuilt
returns-in-NotBuilt c = rw c.in-NotBuilt.is c.refused_item-in-NotBuilt.ensures
