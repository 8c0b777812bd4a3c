use Rattle.call_recipients.proofs.Turns.{Done}
use Rattle.call_recipients.specs.Turning.{AdmittedFrom}
use Rattle.call_schedule.specs.Writing.{counts_of}
use Rattle.spec_network.specs.Accept.{total}
use lib.ListN.{length}
use mathlib.Core.Path.{◌≡◌}
use Prim.Native.Nat.{◌≤◌}
use Rattle.call_recipients.proofs.serve.Given as goal

abbrev pub invariant-loop-to : goal.invariant-loop-to
invariant-loop-to l =
    (total (counts_of l.c) ≤ l.to) × (length l.net ≡ length l.initial.net) × (length l.words ≡ length l.initial.words) × (length l.seen ≡ length l.initial.seen)
    × (length l.waiting ≡ length l.initial.waiting) × (length l.rings ≡ length l.initial.rings) × (length l.rules ≡ length l.initial.rules)
    × AdmittedFrom l.fixed.setup.now l.net l.fixed.tills.now l.words l.seen l.waiting l.rings l.rules l.m l.to
    × Done l.fixed.setup.now l.fixed.tills.now l.fixed.keys.now l.fixed.prices.now l.fixed.blocks.now
    l.initial.net l.initial.words l.initial.seen l.initial.waiting l.initial.rings l.initial.rules l.m l.net l.words l.seen l.waiting l.rings l.rules l.c l.to
