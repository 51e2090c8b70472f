-- Fields that a kind may not ask, in memory.
use Rattle.histogram_aggs.specs.declared.wrongs.Wrong.{Wrong as LentWrong}
use Rattle.histogram_aggs.specs.Reading.{Wrong}

abbrev pub seen_wrong : LentWrong → Wrong
seen_wrong w = record { path = w.path.now; kind = w.kind.now }
