use Prim.Native.Nat.{◌+◌, ◌*◌}
use mathlib.Core.Path.{◌≡◌}
use lib.ListN.{drop}
use Rattle.spec_network.specs.Lists.{same, some_of}
use Rattle.spec_network.specs.Tables.{text_at}
use Rattle.ask_opening_parts.specs.Texts.{texts_from}
use Rattle.ask_opening_parts.proofs.texts.repeated.Given as goal

abbrev pub invariant-loop-j : goal.invariant-loop-j
invariant-loop-j l = some_of (same (text_at l.names (l.start + l.k * l.stride))) (drop (l.k + 1) (texts_from l.names l.start l.stride l.n)) ≡ some_of
    (same (text_at l.names (l.start + l.k * l.stride))) (drop l.j (texts_from l.names l.start l.stride l.n))
