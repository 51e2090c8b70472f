use Rattle.column_pack.specs.Laws.StreamBits.{stream-bits, stream-spare}
use Rattle.column_pack.proofs.laws.stream_bits.Goals as goal

pub returns-clause-residuals : goal.returns-clause-residuals
returns-clause-residuals c = stream-bits

pub returns-clause-spare : goal.returns-clause-spare
returns-clause-spare c = stream-spare
