use Rattle.fault_blocks.proofs.Laws.{add_full, add_done}
use Rattle.fault_blocks.proofs.add.Goals as goal

pub returns-then-n-ge-SLOTS : goal.returns-then-n-ge-SLOTS
returns-then-n-ge-SLOTS c = add_full c.args.ws.now c.args.n c.args.e c.if-n-ge-SLOTS.true

pub returns : goal.returns
returns c = add_done c.args.ws.now _ c.args.n c.args.e c.if-n-ge-SLOTS.false c.put.ensures
