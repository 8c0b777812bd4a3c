use Rattle.std.proofs.Common.{◌≡◌, ◌-◌}
use Rattle.sim_printer.specs.Printer.{gathered, blanks}
use Rattle.sim_printer.proofs.Printer.spaces.Given as goal

abbrev pub invariant-loop : goal.invariant-loop
invariant-loop l = gathered l.self (blanks (l.n - l.counter)) ≡ gathered l.initial.self (blanks l.n)
