use Rattle.std.proofs.Common.{◌≡◌, drop}
use Rattle.sim_printer.specs.Printer.{gathered}
use Rattle.sim_printer.proofs.Printer.text.Given as goal

abbrev pub invariant-loop-b : goal.invariant-loop-b
invariant-loop-b l = gathered l.self (drop l.b-index l.what) ≡ gathered l.initial.self l.what
