use native.Mathlib.Omega.{arith}
use Rattle.call_open_writes.proofs.Cells.{key_stored}
use Rattle.call_open_writes.proofs.links.put_key.Goals as goal

pub returns : goal.returns
returns c = key_stored c.args.keys.now c.args.key _ c.args.b _ c.copy_from_slice.ensures.after (omega arith)
