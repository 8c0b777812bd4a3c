use Prim.Native.Nat.{◌*◌, ◌/◌, ◌%◌}
use mathlib.Core.Path.{◌≡◌}
use mathlib.Core.List.{◌++◌}
use lib.ListN.{length, drop}
use Rattle.table_rows.specs.Rows.{flat}
use Rattle.table_rows.specs.Lists.{up_to}
use Rattle.rand_streams.specs.Link.{link_key}
use Rattle.spec_network.specs.Real.{key_width}
use Rattle.call_open_writes.proofs.links.write_keys.Given as goal

abbrev pub invariant-loop-i : goal.invariant-loop-i
invariant-loop-i l = (length l.keys ≡ length l.initial.keys) × (l.keys ≡ flat (λ i. link_key l.seed (i / l.n) (i % l.n)) (up_to l.i (λ i. i)) ++ drop (l.i * key_width) l.initial.keys)
