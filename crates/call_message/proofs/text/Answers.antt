use Rattle.call_message.proofs.Laws.{text_is}
use Rattle.call_message.proofs.text.Goals as goal

pub returns : goal.returns
returns c = text_is c.args.names.now c.args.i _ c.text.ensures
