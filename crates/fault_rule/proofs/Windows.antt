-- A window is forward exactly where it holds some time, half-open or closed; a closed one is the half-open one of its ends and the end itself.
use mathlib.Core.Path.{◌≡◌, refl, sym}
use mathlib.Core.Bool.{Bool, true, false, ◌&&◌, ◌||◌}
use Prim.Native.Nat.{ℕ, ◌≤◌}
use native.Mathlib.Omega.{arith}
use lib.Dec.{leb, ltb, eqb}
use borrow.Author.Tests.{le-leb, lt-leb, le-ltb, ltb-true, ltb-false, leb-true, leb-false, eqb-true, eqb-false, ne_eqb}
use Rattle.fault_rule.specs.declared.TimeWindow.{TimeWindow}
use Rattle.fault_rule.specs.declared.TimeWindow.TheVariants.{Always, During, Closed}
use Rattle.fault_rule.specs.Rule.{holds, forward, HoldsSome}

both : (a b : Bool) → a ≡ true → b ≡ true → a && b ≡ true
both a b p q = rw (p, q)

-- a forward window holds its start
pub forward_holds : (w : TimeWindow) → forward w ≡ true → HoldsSome w
unfolding forward holds
forward_holds Always h = record { time = 0; held = refl }
forward_holds (During start end) h = record { time = start; held = both (leb start start) (ltb start end) (le-leb start start (omega arith)) h }
forward_holds (Closed start end) h = record { time = start; held = both (leb start start) (leb start end) (le-leb start start (omega arith)) h }

-- any other holds no time
pub backward_empty : (w : TimeWindow) → forward w ≡ false → (t : ℕ) → holds w t ≡ false
unfolding forward holds
backward_empty Always h t = h
backward_empty (During start end) h t = go (leb start t) refl
  where
    go : (b : Bool) → leb start t ≡ b → b && ltb t end ≡ false
    go true e = le-ltb t end (omega (arith, ltb-false start end h, leb-true start t e))
    go false e = refl
backward_empty (Closed start end) h t = go (leb start t) refl
  where
    go : (b : Bool) → leb start t ≡ b → b && leb t end ≡ false
    go true e = lt-leb t end (omega (arith, leb-false start end h, leb-true start t e))
    go false e = refl

-- one law for both kinds
pub closed_is : (start end t : ℕ) → start ≤ end → holds (Closed start end) t ≡ (holds (During start end) t || eqb t end)
unfolding holds
closed_is start end t h = go (leb start t) refl (ltb t end) refl
  where
    go : (a : Bool) → leb start t ≡ a → (b : Bool) → ltb t end ≡ b → (a && leb t end) ≡ ((a && b) || eqb t end)
    go false p b q = sym (ne_eqb t end (λ e. omega (arith, leb-false start t p, h, e)))
    go true p true q = le-leb t end (omega (arith, ltb-true t end q))
    go true p false q = go_end (eqb t end) refl
      where
        go_end : (c : Bool) → eqb t end ≡ c → leb t end ≡ c
        go_end true e = le-leb t end (omega (arith, eqb-true t end e))
        go_end false e = lt-leb t end (omega (arith, ltb-false t end q, eqb-false t end e))
