use Rattle.tsds_service.proofs.refusals.reason.Goals as goal

pub returns-in-NotBlocked : goal.returns-in-NotBlocked
returns-in-NotBlocked c = rw (c.in-NotBlocked.is) c.named-in-NotBlocked.ensures

pub returns-in-NotMultiple : goal.returns-in-NotMultiple
returns-in-NotMultiple c = rw (c.in-NotMultiple.is) c.compared-in-NotMultiple.ensures

pub returns-in-ChangedField : goal.returns-in-ChangedField
returns-in-ChangedField c = rw (c.in-ChangedField.is) c.compared-in-ChangedField.ensures

pub returns-in-WrongField : goal.returns-in-WrongField
returns-in-WrongField c = rw (c.in-WrongField.is) c.compared-in-WrongField.ensures

pub returns-in-TooManyBuckets : goal.returns-in-TooManyBuckets
returns-in-TooManyBuckets c = rw (c.in-TooManyBuckets.is) c.limited.ensures
