use Rattle.table_waiting.proofs.Reading.{put_made}
use Rattle.table_waiting.proofs.CopyRow.put.Goals as goal

pub returns : goal.returns
returns c = let a = c.args in put_made a.ws.now a.b a.self _ c.requires c.put.ensures
