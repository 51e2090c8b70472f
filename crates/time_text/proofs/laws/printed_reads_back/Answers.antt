use Rattle.time_text.specs.PrintedLaws.{print_reads}
use Rattle.time_text.proofs.laws.printed_reads_back.Goals as goal

pub returns : goal.returns
returns c = print_reads
