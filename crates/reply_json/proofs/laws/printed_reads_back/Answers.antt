use Rattle.reply_json.proofs.Reading.{printed_read}
use Rattle.reply_json.proofs.laws.printed_reads_back.Goals as goal

pub returns : goal.returns
returns c = printed_read
