-- What the functions of the latency owe, each as a law over plain variables.
use mathlib.Core.Path.{◌≡◌, refl, sym, ap, ap₂, ◌∙◌, subst}
use mathlib.Core.Bool.{Bool, true, false, cond, ◌&&◌, true≢false}
use Prim.Native.Nat.{ℕ, ◌+◌, ◌*◌, ◌^◌, ◌≤◌, ◌<◌}
use native.Mathlib.Omega.{arith}
use lib.Ieee.{Float, binary64, add, mul, neg, lt, of_int, of_bits}
use Rattle.math_float.specs.Float.{zero64}
use Rattle.rand_streams.specs.declared.Cursor.{Cursor}
use Rattle.rand_streams.specs.Streams.{Moved, word_pair}
use Rattle.rand_draw.proofs.Words.{pair_small}
use Rattle.math_time.specs.Seconds.{second, millisecond, whole, seconds, nanos, times, milli, InRange}
use Rattle.rand_draw.specs.Real.{real_of, real_at}
use Rattle.rand_draw.specs.Fraction.{fraction_at, hits_at, hit_words}
use Rattle.rand_draw.proofs.Laws.{moved_as, moved_on}
use Rattle.rand_draw.proofs.Real.{moved_none}
use Rattle.math_bounds.proofs.Spike.{spike_in_range, spike_most}
use Rattle.link_latency.specs.Latency.{jitter_range, jitters, jitter_of, jitter_words, floored, delay_of, unspiked, spike_at, spike_count, latency_at, latency_words, shortest, longest_delay, longest}
use Rattle.link_latency.specs.Admitted.{Admitted, longest_transmission}
use Rattle.link_latency.proofs.Admit.{in_range, delay_most}

-- ---- jitter
module _ (c d : Cursor) (s f : Float) where
  pub jitter_drawn : {x : Float} → lt zero64 (mul binary64 s f) ≡ true → x ≡ real_at c.key c.count (neg (mul binary64 s f)) (mul binary64 s f) → Moved c 2 d
      → (x ≡ jitter_of s f (word_pair c.key c.count)) × Moved c (jitter_words s f) d
  unfolding jitter_of jitter_words jitters jitter_range real_at
  jitter_drawn h e m = (rw h e, moved_as c d 2 _ (rw h) m)

  pub jitter_none : lt zero64 (mul binary64 s f) ≡ false
      → (zero64 ≡ jitter_of s f (word_pair c.key c.count)) × Moved c (jitter_words s f) c
  unfolding jitter_of jitter_words jitters jitter_range
  jitter_none h = (rw h, moved_as c c 0 _ (rw h) (moved_none c))

pub at_least_floor : (x : Float) → lt x milli ≡ true → milli ≡ floored x
unfolding floored
at_least_floor x h = rw h

pub at_least_own : (x : Float) → lt x milli ≡ false → x ≡ floored x
unfolding floored
at_least_own x h = rw h

-- ---- the delay
module _ (c d : Cursor) (n : ℕ) (f : Float) (A : Admitted n f) {s j x : Float} (p : s ≡ seconds n) (q : j ≡ jitter_of s f (word_pair c.key c.count)) (r : x ≡ floored (add binary64 s j)) where
  sum_is : x ≡ floored (add binary64 (seconds n) (jitter_of (seconds n) f (word_pair c.key c.count)))
  sum_is = cc

  pub delay_in_range : InRange x
  delay_in_range = subst InRange (sym sum_is) (in_range n f (word_pair c.key c.count) A.base A.fraction (pair_small c.key c.count))

  pub delay_is : {v : ℕ} → v ≡ nanos x → millisecond ≤ v → Moved c (jitter_words s f) d
      → (v ≡ delay_of n f (word_pair c.key c.count)) × Moved c (jitter_words (seconds n) f) d × (shortest ≤ v) × (v ≤ longest_delay)
  unfolding delay_of
  delay_is {v} e l m =
      let is : v ≡ delay_of n f (word_pair c.key c.count) = e ∙ ap nanos sum_is in
      (is, moved_as c d _ _ (ap (λ y. jitter_words y f) p) m, l, subst (λ z. z ≤ longest_delay) (sym is) (delay_most n f (word_pair c.key c.count) A.base A.fraction (pair_small c.key c.count)))

-- ---- the latency
words_most : (b : Bool) → cond b 2 0 ≤ 2
words_most true = omega arith
words_most false = omega arith

pub jitter_most : (s f : Float) → jitter_words s f ≤ 2
unfolding jitter_words
jitter_most s f = words_most (jitters s f)

pub hit_most : (rate : Float) → hit_words rate ≤ 2
unfolding hit_words
hit_most rate = words_most (lt zero64 rate)

-- where the cursor stands before the spike's draw, and before the spike's factor
pub room_hit : (c d : Cursor) (s f : Float) → c.count + 5 < 2 ^ 63 → Moved c (jitter_words s f) d → d.count + 3 < 2 ^ 63
room_hit c d s f h m = omega (arith, m.count, jitter_most s f)

pub room_factor : (d e : Cursor) (rate : Float) → d.count + 3 < 2 ^ 63 → Moved d (hit_words rate) e → e.count + 1 < 2 ^ 63
room_factor d e rate h m = omega (arith, m.count, hit_most rate)

pub weaken : (x a b : ℕ) → x + b < 2 ^ 63 → a ≤ b → x + a < 2 ^ 63
weaken x a b h k = omega arith

-- 10.0 and 50.0 as the code has them
pub ten : of_bits binary64 0x4024_0000_0000_0000 ≡ whole 10
unfolding of_bits of_int
ten = refl

pub fifty : of_bits binary64 0x4049_0000_0000_0000 ≡ whole 50
unfolding of_bits of_int
fifty = refl

sum_limits : (v t p : ℕ) → p ≡ v + t → shortest ≤ v → v ≤ longest_delay → t ≤ longest_transmission → (shortest ≤ p) × (p ≤ 180 * second)
sum_limits v t p e a b h = (omega arith, omega arith)

unspiked_most : (p : ℕ) → p ≤ 180 * second → p ≤ longest
unspiked_most p h = omega arith

-- v is the delay, p that with transmission; d stands past the jitter, e past the spike's draw
module _ (c d e : Cursor) (n : ℕ) (f rate : Float) (t : ℕ) {v p : ℕ} {hit : Bool} (is : v ≡ delay_of n f (word_pair c.key c.count)) (first : Moved c (jitter_words (seconds n) f) d)
    (low : shortest ≤ v) (high : v ≤ longest_delay) (far : t ≤ longest_transmission) (sum : p ≡ v + t) (h : hit ≡ hits_at d.key d.count rate) (next : Moved d (hit_words rate) e) where
  at_spike : hit ≡ hits_at c.key (spike_count c.count n f) rate
  unfolding spike_count
  at_spike = h ∙ ap₂ (λ k x. hits_at k x rate) first.key first.count

  plain : p ≡ unspiked n f t (word_pair c.key c.count)
  unfolding unspiked
  plain = sum ∙ ap (λ z. z + t) is

  past : Moved c (jitter_words (seconds n) f + hit_words rate) e
  past = moved_on c d e (jitter_words (seconds n) f) (hit_words rate) first next

  pub unhit : hit ≡ false
      → (p ≡ latency_at c.key c.count n f rate t) × Moved c (latency_words c.key c.count n f rate) e × (shortest ≤ p) × (p ≤ longest)
  unfolding latency_at latency_words
  unhit b =
      let no : hits_at c.key (spike_count c.count n f) rate ≡ false = sym at_spike ∙ b in
      let l = sum_limits v t p sum low high far in
      (rw no plain, moved_as c e (jitter_words (seconds n) f + hit_words rate) _ (rw no (omega arith)) past, l.0, unspiked_most p l.1)

  -- the draw of the spike
  module _ (b : hit ≡ true) {y : Float} (drawn : y ≡ real_at e.key e.count (of_bits binary64 0x4024_0000_0000_0000) (of_bits binary64 0x4049_0000_0000_0000)) where
    two : hit_words rate ≡ 2
    unfolding hits_at hit_words
    two = go (lt zero64 rate) (sym (sym h ∙ b))
      where
        go : (z : Bool) → true ≡ (z && lt (fraction_at d.key d.count) rate) → ◌≡◌ {A = ℕ} (cond z 2 0) 2
        go true k = refl
        go false k = absurd (true≢false k)

    factor : y ≡ real_of (whole 10) (whole 50) (word_pair e.key e.count)
    unfolding real_at
    factor = drawn ∙ ap₂ (λ l u. real_of l u (word_pair e.key e.count)) ten fifty

    pub spike_range : InRange (mul binary64 y (seconds p))
    spike_range =
        let l = sum_limits v t p sum low high far in
        subst (λ z. InRange (mul binary64 z (seconds p))) (sym factor) (spike_in_range p (word_pair e.key e.count) l.0 l.1 (pair_small e.key e.count))

    spike_is : y ≡ spike_at c.key (spike_count c.count n f + 2)
    unfolding spike_at spike_count real_at
    spike_is = factor ∙ ap (real_of (whole 10) (whole 50)) (ap₂ word_pair past.key (past.count ∙ place c.count (jitter_words (seconds n) f) (hit_words rate) two))
      where
        place : (x j w : ℕ) → w ≡ 2 → x + (j + w) ≡ x + j + 2
        place x j w q = omega arith

    pub hit_is : (g : Cursor) {r : ℕ} → r ≡ times p y → shortest ≤ r → Moved e 2 g
        → (r ≡ latency_at c.key c.count n f rate t) × Moved c (latency_words c.key c.count n f rate) g × (shortest ≤ r) × (r ≤ longest)
    unfolding latency_at latency_words times
    hit_is g {r} q low' m =
        let yes : hits_at c.key (spike_count c.count n f) rate ≡ true = sym at_spike ∙ b in
        let l = sum_limits v t p sum low high far in
        let most : nanos (mul binary64 y (seconds p)) ≤ longest =
        subst (λ z. nanos (mul binary64 z (seconds p)) ≤ longest) (sym factor) (spike_most p (word_pair e.key e.count) l.0 l.1 (pair_small e.key e.count)) in (
          rw yes (q ∙ ap₂ times plain spike_is),
          moved_as c g (jitter_words (seconds n) f + hit_words rate + 2) _ (rw yes) (moved_on c e g (jitter_words (seconds n) f + hit_words rate) 2 past m),
          low',
          subst (λ z. z ≤ longest) (sym q) most,
        )
