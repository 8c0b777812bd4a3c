use mathlib.Core.Path.{◌≡◌}
use lib.ListN.{drop}
use Rattle.spec_network.specs.Lists.{unlike}
use Rattle.ask_opening_parts.specs.Texts.{texts_from}
use Rattle.ask_opening_parts.proofs.texts.all_unlike.Given as goal

abbrev pub invariant-loop-k : goal.invariant-loop-k
invariant-loop-k l = unlike (texts_from l.names l.start l.stride l.n) ≡ unlike (drop l.k (texts_from l.names l.start l.stride l.n))
