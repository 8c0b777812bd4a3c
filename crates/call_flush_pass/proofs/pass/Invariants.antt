use Rattle.call_flush_pass.specs.Pass.{flush_view}
use Rattle.call_flush_pass.proofs.Passing.{Mid}
use Rattle.call_flush_pass.proofs.pass.Given as goal

abbrev pub invariant-loop-i : goal.invariant-loop-i
invariant-loop-i l =
    let F = l.fixed in
    Mid F.extents (flush_view F.extents F.tills.now F.blocks.now) l.waiting l.k l.initial.seen l.initial.log l.initial.out l.i l.seen l.log l.out l.m
