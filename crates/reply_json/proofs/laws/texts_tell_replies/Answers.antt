use Rattle.reply_json.proofs.Reading.{one_reply}
use Rattle.reply_json.proofs.laws.texts_tell_replies.Goals as goal

pub returns : goal.returns
returns c = one_reply
