use Prim.Native.Nat.{ℕ, ◌+◌, ◌-◌, ◌/◌}
use mathlib.Core.Path.{◌≡◌, refl, ap₂, ◌∙◌}
use mathlib.Core.Bool.{cond}
use native.Mathlib.Omega.{arith}
use lib.Dec.{ltb}
use lib.ListN.{get_or}
use Rattle.table_marks.proofs.Search.{two_lead, two_in}
use Rattle.table_marks.proofs.halve_two.Goals as goal

pub returns : goal.returns
returns c = let t = c.args in
    let w = t.ids.now in
    let lo = t.s.lo in
    let n = t.s.n in
    let mid = lo + (n - 1) / 2 in
    let low = lo + (n / 2 - 1) / 2 in
    let high = mid + 1 + (n / 2 - 1) / 2 in
    let x = ltb (get_or w (mid) 0) t.id in
    let y = ltb (get_or w (high) 0) t.id in
    let z = ltb (get_or w (low) 0) t.id in
    let some = c.if-half-eq0.false in
    let is : c.select_unpredictable-next.result ≡ cond x (cond y (high + 1) (mid + 1)) (cond z (low + 1) lo)
    = c.select_unpredictable-next.ensures ∙ ap₂ (λ (r l : ℕ). cond x r l) c.select_unpredictable-right.ensures c.select_unpredictable-left.ensures in record {
      is = two_lead w t.id t.s mid low high (get_or w (mid) 0) (get_or w (low) 0) (get_or w (high) 0) some
          refl refl refl refl refl refl c.select_unpredictable-next.result is;
      within = let q = two_in x y z lo n some in omega (arith, q, is);
    }
