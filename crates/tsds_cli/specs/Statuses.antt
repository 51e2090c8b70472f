-- What the program prints on standard error for a status that it ends with.
use Rattle.std.specs.Prelude.{ℕ, List, [], codes, ◌==◌, if◌then◌else◌}
use Rattle.tsds_cli.specs.declared.status.TheConstants.{USAGE, NO_MEMORY, READ_FAULT, KEEPER_FAULT, WRITE_FAULT, TOO_LONG}

-- nothing where all is done, and nothing for a number that is no status of the program
abbrev pub printed_for : ℕ → List ℕ
printed_for status =
    if status == USAGE then codes "tsds: usage"
    else (if status == NO_MEMORY then codes "tsds: out of memory"
    else (if status == READ_FAULT then codes "tsds: read fault"
    else (if status == KEEPER_FAULT then codes "tsds: keeper fault"
    else (if status == WRITE_FAULT then codes "tsds: write fault"
    else (if status == TOO_LONG then codes "tsds: input too long" else [])))))
