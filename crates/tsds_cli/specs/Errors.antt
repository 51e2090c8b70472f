-- Which refusal of a line, an event or a keeper ends a run how, and the statuses that the program ends with.
use Rattle.std.specs.Prelude.{ℕ}
use Rattle.edge_face.specs.declared.keeper.KeepError.{KeepError}
use Rattle.edge_face.specs.declared.keeper.KeepError.TheVariants as keep
use Rattle.edge_face.specs.declared.reader.LineError.{LineError}
use Rattle.edge_face.specs.declared.reader.LineError.TheVariants as line
use Rattle.tsds_cli.specs.declared.errors.RunError.{RunError}
use Rattle.tsds_cli.specs.declared.errors.RunError.TheVariants.{NoMemory, Store, Read, Write, TooLong}
use Rattle.tsds_cli.specs.declared.status.TheConstants.{NO_MEMORY, READ_FAULT, KEEPER_FAULT, WRITE_FAULT, TOO_LONG}

abbrev pub run_error_of : LineError → RunError
run_error_of line.Read = Read
run_error_of (line.TooLong bytes) = TooLong
run_error_of line.NoMemory = NoMemory

abbrev pub broken_by : KeepError → RunError
broken_by keep.NoMemory = NoMemory
broken_by keep.Failed = Store

abbrev pub status_of : RunError → ℕ
status_of NoMemory = NO_MEMORY
status_of Read = READ_FAULT
status_of Store = KEEPER_FAULT
status_of Write = WRITE_FAULT
status_of TooLong = TOO_LONG
