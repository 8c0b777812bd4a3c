-- The loops: originals counted by their till, words copied, and the first copy's time. Assumes nothing.
use mathlib.Core.Path.{◌≡◌, refl, sym, ap, ◌∙◌}
use mathlib.Core.List.{List}
use Prim.Native.Nat.{ℕ, zero, suc, ◌+◌, ◌*◌, ◌-◌, ◌≤◌, ◌<◌}
use native.Mathlib.Nat.{zero-add, add-zero, add_assoc}
use native.Mathlib.Omega.{arith}
use lib.ListN.{drop}
use Rattle.table_rows.proofs.Rows.{rows_first, rows_next, rows_end_lem}
use Rattle.table_delivery.specs.Delivery as delivery
use Rattle.table_waiting.specs.declared.Copy.{Copy}
use Rattle.table_waiting.specs.Waiting as waiting
use Rattle.spec_network.specs.Lists.{bit, count}
use Rattle.spec_network.specs.Live.{moves_to}
use Rattle.spec_network.specs.Calls.{number, first_time}
use Rattle.call_waiting.specs.Call.{transit_of}

-- ---- Originals to a till: k of the first i copies, and those that are left

module _ (t : ℕ) (w : List ℕ) (n : ℕ) where
  -- how many of those from copy i on
  unfoldable pub left : ℕ → ℕ
  left i = count (moves_to t) (waiting.copies (drop (i * waiting.width) w) (n - i))

  pub transit_first : transit_of t w n ≡ 0 + left 0
  unfolding transit_of left
  transit_first = sym (zero-add (left 0) ∙ ap (count (moves_to t)) (rows_first waiting.width waiting.read w n))

  pub transit_more : (i k b : ℕ) (c : Copy) → i < n → transit_of t w n ≡ k + left i → c ≡ waiting.read (drop (i * waiting.width) w) → b ≡ bit (moves_to t c) → transit_of t w n ≡ (k + b) + left (i + 1)
  unfolding left
  transit_more i k b c h e ec eb =
      let next : left i ≡ bit (moves_to t (waiting.read (drop (i * waiting.width) w))) + left (i + 1) = ap (count (moves_to t)) (rows_next waiting.width waiting.read w n i h) in
      let hit : b ≡ bit (moves_to t (waiting.read (drop (i * waiting.width) w))) = eb ∙ ap (λ (x : Copy). bit (moves_to t x)) ec in
      e ∙ ap (λ (x : ℕ). k + x) (next ∙ ap (λ (x : ℕ). x + left (i + 1)) (sym hit)) ∙ sym (add_assoc k b (left (i + 1)))

  pub transit_end : (i k : ℕ) → n ≤ i → transit_of t w n ≡ k + left i → k ≡ transit_of t w n
  unfolding left
  transit_end i k h e = sym (e ∙ ap (λ (l : List Copy). k + count (moves_to t) l) (rows_end_lem waiting.width waiting.read w n i h) ∙ add-zero k)

-- ---- The first copy

pub first_none : (w : List ℕ) (n : ℕ) → n ≡ 0 → first_time (waiting.copies w n) ≡ number 0 0
first_none w zero e = refl
first_none w (suc n) e = absurd (omega arith)

pub first_some : (w : List ℕ) (n : ℕ) → (n ≡ 0 → ⊥) → first_time (waiting.copies w n) ≡ number 1 (delivery.read (drop 0 w)).time
first_some w zero e = absurd (e refl)
first_some w (suc n) e = refl
