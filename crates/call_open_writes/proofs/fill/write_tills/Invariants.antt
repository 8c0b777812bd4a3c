use Prim.Native.Nat.{◌*◌}
use mathlib.Core.Path.{◌≡◌}
use mathlib.Core.List.{◌++◌}
use lib.ListN.{length, drop}
use Rattle.table_rows.specs.Rows.{flat}
use Rattle.spec_network.specs.Live.{open_tills}
use Rattle.spec_network.specs.Tables.{till_form}
use Rattle.call_open_writes.proofs.fill.write_tills.Given as goal

abbrev pub invariant-loop-t : goal.invariant-loop-t
invariant-loop-t l = (length l.tills ≡ length l.initial.tills) × (l.tills ≡ flat till_form.words (open_tills l.masks l.t) ++ drop (l.t * till_form.width) l.initial.tills)
