use native.Mathlib.Omega.{arith}
use Rattle.hash_lanes.proofs.Laws.{step_turn, times}
use Rattle.hash_chunk.specs.Chunk.{words_of}
use Rattle.hash_compress.specs.Compress.{compressed}
use lib.ListN.{length, drop, length-set, length-drop}
use mathlib.Core.Path.{refl, ap, ap₂, ◌∙◌}
use Prim.Native.Nat.{◌+◌, ◌*◌}
use Rattle.hash_lanes.proofs.step.Goals as goal

pub loop-l-init : goal.loop-l-init
loop-l-init c = (omega arith, refl, λ j k. absurd (omega arith))

pub overflow_mul-n : goal.overflow_mul-n
overflow_mul-n c = let b = times c.args.n c.loop-l.l (omega arith) in omega arith

pub words_whole-m-requires : goal.words_whole-m-requires
words_whole-m-requires c = let l = c.loop-l in
    let a = c.args in
    let n = ap length c.back.ensures ∙ length-drop (a.n * l.l) a.s.now in
    let b = times a.n l.l (omega arith) in
    omega arith

pub overflow_mul-u : goal.overflow_mul-u
overflow_mul-u c = let b = times c.args.u c.loop-l.l (omega arith) in omega arith

pub overflow_add-t : goal.overflow_add-t
overflow_add-t c = let b = times c.args.u c.loop-l.l (omega arith) in omega arith

pub loop-l-preserved : goal.loop-l-preserved
loop-l-preserved c = let l = c.loop-l in
    let a = c.args in
    let m = c.words_whole-m.ensures ∙ ap words_of c.back.ensures in (
      omega arith,
      simp length-set l.invariant.1,
      step_turn a.h (λ j. words_of (drop (a.n * j) a.s.now)) (λ j. a.t + a.u * j) l.out c.compress_block-r.result a.d l.l l.invariant.1 (omega arith) l.invariant.2
          (c.compress_block-r.ensures ∙ ap₂ (λ x y. compressed x y (a.t + a.u * l.l) 64 a.d) c.lane.ensures m),
    )

pub returns : goal.returns
returns c = let l = c.loop-l in λ j k. l.invariant.2 j (omega arith)
