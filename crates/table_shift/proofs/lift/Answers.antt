use Rattle.table_shift.proofs.Laws.{up_none, up_more}
use Rattle.table_shift.specs.Shift.{opened}
use native.Mathlib.Omega.{arith}
use lib.ListN.{length-set, set, get_or}
use mathlib.Core.List.{List}
use mathlib.Core.Path.{◌≡◌, refl, ap, ◌∙◌}
use Prim.Native.Nat.{◌-◌, ◌+◌, suc, ℕ}
use Rattle.table_shift.proofs.lift.Goals as goal

pub loop-k-init : goal.loop-k-init
loop-k-init g c = (omega arith, refl, up_none _ _ _)

pub loop-k-preserved : goal.loop-k-preserved
loop-k-preserved g c = let w = c.args.ws.now in
    let k' = c.loop-k.k - 1 in
    let e : c.loop-k.k ≡ suc k' = omega arith in (
      omega arith,
      simp length-set c.loop-k.invariant.1,
      ap (λ (l : List ℕ). set l (k' + g.row.BY) (get_or l k' 0)) (c.loop-k.invariant.2 ∙ ap (λ (j : ℕ). opened w j c.args.n g.row.BY) e)
          ∙ up_more w k' c.args.n g.row.BY (omega arith) c.requires,
    )

pub returns : goal.returns
returns g c = let e : c.loop-k.k ≡ 0 = omega arith in
    c.loop-k.invariant.2 ∙ ap (λ (j : ℕ). opened c.args.ws.now j c.args.n g.row.BY) e
