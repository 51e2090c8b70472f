-- The times that causes of items name.
use Rattle.time_text.specs.Instant.{IsInstant}
use Rattle.tsds_service.specs.declared.causes.ItemCause.{ItemCause}
use Rattle.tsds_service.specs.declared.causes.ItemCause.TheVariants.{OnlyCreate, NoStream, NoObject, WrongTime, Outside, Blocked, BadDocument, NoRouting, LongKey, Conflict, Full}

-- a time that a cause names is an instant
abbrev pub NamesInstant : ItemCause → Type 0
NamesInstant OnlyCreate = Unit {0}
NamesInstant (NoStream name) = Unit {0}
NamesInstant NoObject = Unit {0}
NamesInstant (WrongTime kind) = Unit {0}
NamesInstant (Outside time) = IsInstant time
NamesInstant (Blocked index) = Unit {0}
NamesInstant (BadDocument kind path) = Unit {0}
NamesInstant NoRouting = Unit {0}
NamesInstant (LongKey bytes) = Unit {0}
NamesInstant (Conflict id) = Unit {0}
NamesInstant (Full index) = Unit {0}
