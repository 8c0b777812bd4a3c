-- In transit over all tills is the originals that wait (document 02, M-101). Assumes nothing.
use mathlib.Core.Path.{◌≡◌, refl, ap, ap₂, ◌∙◌}
use mathlib.Core.Bool.{Bool, true, false, ◌&&◌, false≢true}
use mathlib.Core.List.{List, [], ◌∷◌}
use Prim.Native.Nat.{ℕ, zero, suc, ◌+◌, ◌≤◌, ◌<◌}
use native.Mathlib.Omega.{arith}
use lib.Dec.{eqb, ltb}
use borrow.Author.Tests.{ne_eqb, eqb-true, eqb-false, ltb-true}
use Rattle.table_rows.specs.Lists.{Each}
use Rattle.table_waiting.specs.declared.Copy.{Copy}
use Rattle.spec_network.specs.Lists.{bit, count}
use Rattle.spec_network.specs.Opening.{Sizes}
use Rattle.spec_network.specs.Layout.{plain}
use Rattle.spec_network.specs.Live.{LiveBy, is_original, moves_to}
use Rattle.spec_network.specs.Lent.{near_copy}
use Rattle.spec_book.specs.Demand3.{in_transit_to}

-- ---- one copy: it is in transit to its own till alone
abbrev to_these : ℕ → Copy → ℕ
to_these zero c = 0
to_these (suc n) c = to_these n c + bit (moves_to n c)

other : (b : Bool) → bit (b && false) ≡ 0
other true = refl
other false = refl

own : (b : Bool) → bit (b && true) ≡ bit b
own true = refl
own false = refl

none : (n : ℕ) (c : Copy) → n ≤ c.delivery.to → to_these n c ≡ 0
none zero c h = refl
none (suc n) c h =
    let e : eqb c.delivery.to n ≡ false = ne_eqb c.delivery.to n (λ (q : c.delivery.to ≡ n). omega arith) in
    ap₂ ◌+◌ (none n c (omega arith)) (ap (λ (b : Bool). bit (is_original c && b)) e ∙ other (is_original c))

one : (n : ℕ) (c : Copy) → c.delivery.to < n → to_these n c ≡ bit (is_original c)
one zero c h = absurd (omega arith)
one (suc n) c h = go (eqb c.delivery.to n) refl (one n c)
  where
    below : (n t : ℕ) → t < suc n → (t ≡ n → ⊥) → t < n
    below n t h q = omega arith

    first : (k : ℕ) → 0 + k ≡ k
    first k = omega arith

    last : (k : ℕ) → k + 0 ≡ k
    last k = omega arith

    go : (b : Bool) → eqb c.delivery.to n ≡ b → (c.delivery.to < n → to_these n c ≡ bit (is_original c)) → to_these n c + bit (is_original c && eqb c.delivery.to n) ≡ bit (is_original c)
    go true e before =
        let q : c.delivery.to ≡ n = eqb-true c.delivery.to n e in
        ap₂ ◌+◌ (none n c (omega arith)) (ap (λ (b : Bool). bit (is_original c && b)) e ∙ own (is_original c)) ∙ first (bit (is_original c))
    go false e before =
        let q : c.delivery.to ≡ n → ⊥ = eqb-false c.delivery.to n e in
        ap₂ ◌+◌ (before (below n c.delivery.to h q)) (ap (λ (b : Bool). bit (is_original c && b)) e ∙ other (is_original c)) ∙ last (bit (is_original c))

-- ---- all of them
abbrev over : ℕ → List Copy → ℕ
over zero w = 0
over (suc n) w = over n w + count (moves_to n) w

over_none : (n : ℕ) → over n [] ≡ 0
over_none zero = refl
over_none (suc n) = ap (λ (k : ℕ). k + 0) (over_none n)

over_more : (n : ℕ) (c : Copy) (w : List Copy) → over n (c ∷ w) ≡ to_these n c + over n w
over_more zero c w = refl
over_more (suc n) c w = ap (λ (k : ℕ). k + (bit (moves_to n c) + count (moves_to n) w)) (over_more n c w) ∙ turn (to_these n c) (over n w) (bit (moves_to n c)) (count (moves_to n) w)
  where
    turn : (a b c d : ℕ) → a + b + (c + d) ≡ a + c + (b + d)
    turn a b c d = omega arith

second : (a b c d : Bool) → a && b && c && d ≡ true → b ≡ true
second true true c d h = refl
second true false c d h = absurd (false≢true h)
second false b c d h = absurd (false≢true h)

near_to : (z : Sizes) (c : Copy) → near_copy z c ≡ true → c.delivery.to < z.tills
near_to z c h =
    let d = c.delivery in
    ltb-true d.to z.tills (second (ltb d.from z.tills) (ltb d.to z.tills) (ltb d.kind z.types) (ltb d.class z.classes) h)

over_all : (z : Sizes) (w : List Copy) → Each (λ (c : Copy). near_copy z c ≡ true) w → over z.tills w ≡ count is_original w
over_all z [] e = over_none z.tills
over_all z (c ∷ w) e = over_more z.tills c w ∙ ap₂ ◌+◌ (one z.tills c (near_to z c e.0)) (over_all z w e.1)

same : (n : ℕ) (s : LiveBy plain) → in_transit_to n s ≡ over n s.queue.waiting
same zero s = refl
same (suc n) s = ap (λ (k : ℕ). k + count (moves_to n) s.queue.waiting) (same n s)

pub originals_in_transit_lem : (z : Sizes) (s : LiveBy plain) → Each (λ (c : Copy). near_copy z c ≡ true) s.queue.waiting → in_transit_to z.tills s ≡ count is_original s.queue.waiting
originals_in_transit_lem z s e = same z.tills s ∙ over_all z s.queue.waiting e
