-- What holds of every latency that an opening admits: at least 1 ms, at most 10,000 s, at most six words.
use mathlib.Core.Bool.{Bool, true, false, cond}
use mathlib.Core.List.{List}
use Prim.Native.Nat.{ℕ, ◌+◌, ◌*◌, ◌^◌, ◌≤◌, ◌<◌}
use native.Mathlib.Omega.{arith}
use lib.Ieee.{Float, binary64, mul}
use Rattle.rand_streams.specs.Streams.{word_pair}
use Rattle.math_time.specs.Seconds.{second, whole, seconds, times}
use Rattle.math_time.proofs.Limits.{in_limits}
use Rattle.rand_draw.specs.Real.{real_of, real_at}
use Rattle.rand_draw.specs.Fraction.{hits_at, hit_words}
use Rattle.rand_draw.proofs.Words.{pair_small}
use Rattle.math_bounds.proofs.Spike.{spike_in_range, spike_most}
use Rattle.link_latency.specs.Latency.{jitter_words, delay_of, unspiked, spike_at, spike_count, latency_at, latency_words, shortest, longest_delay, longest}
use Rattle.link_latency.specs.Admitted.{Admitted, longest_transmission}
use Rattle.link_latency.proofs.Admit.{in_range, delay_most, sum_of}
use Rattle.link_latency.proofs.Laws.{jitter_most, hit_most}

pub delay_least : (n : ℕ) (f : Float) (d : ℕ) → Admitted n f → d < 2 ^ 64 → shortest ≤ delay_of n f d
unfolding delay_of
delay_least n f d A W = (in_limits (sum_of n f d) (in_range n f d A.base A.fraction W)).0

module _ (key : List ℕ) (count n : ℕ) (f rate : Float) (t : ℕ) (A : Admitted n f) (far : t ≤ longest_transmission) where
  -- before a spike
  plain : (shortest ≤ unspiked n f t (word_pair key count)) × (unspiked n f t (word_pair key count) ≤ 180 * second)
  unfolding unspiked
  plain =
      let W = pair_small key count in
      go (delay_of n f (word_pair key count)) (delay_least n f (word_pair key count) A W) (delay_most n f (word_pair key count) A.base A.fraction W)
    where
      go : (v : ℕ) → shortest ≤ v → v ≤ longest_delay → (shortest ≤ v + t) × (v + t ≤ 180 * second)
      go v a b = (omega arith, omega arith)

  -- with one
  spiked : (p at : ℕ) → shortest ≤ p → p ≤ 180 * second → (shortest ≤ times p (spike_at key at)) × (times p (spike_at key at) ≤ longest)
  unfolding times spike_at real_at
  spiked p at a b =
      let W = pair_small key at in
      ((in_limits (mul binary64 (real_of (whole 10) (whole 50) (word_pair key at)) (seconds p)) (spike_in_range p (word_pair key at) a b W)).0, spike_most p (word_pair key at) a b W)

  pub latency_limits : (shortest ≤ latency_at key count n f rate t) × (latency_at key count n f rate t ≤ longest)
  unfolding latency_at
  latency_limits = go (hits_at key (spike_count count n f) rate)
    where
      go : (b : Bool) → (shortest ≤ cond b (times (unspiked n f t (word_pair key count)) (spike_at key (spike_count count n f + 2))) (unspiked n f t (word_pair key count)))
          × (cond b (times (unspiked n f t (word_pair key count)) (spike_at key (spike_count count n f + 2))) (unspiked n f t (word_pair key count)) ≤ longest)
      go true = spiked (unspiked n f t (word_pair key count)) (spike_count count n f + 2) plain.0 plain.1
      go false = (plain.0, most (unspiked n f t (word_pair key count)) plain.1)
        where
          most : (p : ℕ) → p ≤ 180 * second → p ≤ longest
          most p h = omega arith

  -- so a delivery time fits 64 bits
  pub delivery_fits : (at : ℕ) → at ≤ 2 ^ 60 → at + latency_at key count n f rate t < 2 ^ 64
  delivery_fits at h = omega (arith, latency_limits.1)

pub latency_words_most : (key : List ℕ) (count n : ℕ) (f rate : Float) → latency_words key count n f rate ≤ 6
unfolding latency_words
latency_words_most key count n f rate = go (jitter_words (seconds n) f) (hit_words rate) (hits_at key (spike_count count n f) rate) (jitter_most (seconds n) f) (hit_most rate)
  where
    go : (j h : ℕ) (b : Bool) → j ≤ 2 → h ≤ 2 → j + h + cond b 2 0 ≤ 6
    go j h true p q = omega arith
    go j h false p q = omega arith
