use lib.Seq.{set_out}
use mathlib.Core.Path.{sym}
use Rattle.ask_tables.proofs.put.Goals as goal

pub returns-else-i-s : goal.returns-else-i-s
returns-else-i-s c = sym (set_out _ _ _ c.if-i-s.false)
