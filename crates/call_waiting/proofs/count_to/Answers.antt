use Rattle.std.proofs.Common.{ℕ, ◌≡◌, ◌+◌, arith, ap, sym, ◌∙◌}
use Rattle.spec_network.specs.Lists.{bit}
use Rattle.call_waiting.specs.Call.{transit_of}
use Rattle.call_waiting.proofs.Work.{left, transit_first, transit_more, transit_end}
use Rattle.call_waiting.proofs.count_to.Goals as goal
use Rattle.call_waiting.proofs.count_to.Goals.{then-moves, else-moves}

pub loop-i-init : goal.loop-i-init
loop-i-init c = (omega arith, transit_first c.args.t c.args.waiting.now c.args.n)

pub loop-i-preserved : goal.loop-i-preserved
loop-i-preserved c = let a = c.args in
    let l = c.loop-i in
    let next : (b : ℕ) → b ≡ bit c.moves.result → transit_of a.t a.waiting.now a.n ≡ l.k + b + left a.t a.waiting.now a.n (l.i + 1) =
    λ b e. transit_more a.t a.waiting.now a.n l.i l.k b c.get-c.result c.loop-i-test.true l.invariant.1 c.get-c.ensures (e ∙ ap bit c.moves.ensures) in
    elim c.if-moves.branch [
      | then-moves w ↦ rw w.k-is (omega (arith, l.invariant.0), next 1 (ap bit (sym w.if-moves.true)))
      | else-moves w ↦ rw w.k-is (omega (arith, l.invariant.0), omega (arith, next 0 (ap bit (sym w.if-moves.false))))
    ]

pub returns : goal.returns
returns c = transit_end c.args.t c.args.waiting.now c.args.n c.loop-i.i c.loop-i.k c.loop-i-test.false c.loop-i.invariant.1
