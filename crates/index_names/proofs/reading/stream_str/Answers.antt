use Rattle.std.proofs.lemmas.Str.{IsUtf8-from_ascii}
use Rattle.index_names.proofs.ReadingLemmas.{stream_ascii}
use Rattle.index_names.proofs.reading.stream_str.Goals as goal

pub returns-in-Err : goal.returns-in-Err
returns-in-Err c = λ is. c.in-Err.ensures.cases.0 (IsUtf8-from_ascii c.args.stream.now (stream_ascii c.args.stream.now is))
