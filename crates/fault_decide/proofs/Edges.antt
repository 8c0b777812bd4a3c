-- The edges of the fault engine: the probabilities 0, 1 and NaN.
use mathlib.Core.Path.{◌≡◌, refl, ap, ◌∙◌}
use mathlib.Core.Bool.{Bool, true, false, not}
use mathlib.Core.List.{List}
use Prim.Native.Nat.{ℕ, ◌+◌, ◌^◌, ◌<◌}
use lib.Ieee.{Float, nan, lt, eq, le, of_bits}
use Rattle.rand_streams.specs.Streams.{word_pair}
use Rattle.math_float.specs.Float.{clamped, zero64, one64}
use Rattle.fault_rule.specs.declared.FaultAction.{FaultAction}
use Rattle.fault_rule.specs.declared.FaultAction.TheVariants.{DropWithProbability}
use Rattle.fault_rule.specs.Rule.{has, action_of, probability_bit}
use Rattle.fault_decide.specs.Decide.{hits, try_action}
use Rattle.fault_decide.specs.Edges.{Probabilities}
use Rattle.fault_decide.proofs.Fraction.{pair_lt, fraction_least, fraction_below}

-- ---- a probability against a draw
zero_passes : (d : ℕ) → d < 2 ^ 64 → hits zero64 d ≡ false
unfolding hits
zero_passes d h = ap not (fraction_least d h)

one_drops : (d : ℕ) → d < 2 ^ 64 → hits one64 d ≡ true
unfolding hits
one_drops d h = ap not (fraction_below d h)

nan_drops : (d : ℕ) → hits nan d ≡ true
unfolding hits le lt eq
nan_drops d = refl

-- ---- the probability that a card's bits are
abbrev likely : ℕ → FaultAction
likely bits = action_of (2 ^ probability_bit) bits

card_zero : likely 0 ≡ DropWithProbability zero64
unfolding action_of has clamped lt of_bits
card_zero = refl

card_one : likely 0x3ff0_0000_0000_0000 ≡ DropWithProbability one64
unfolding action_of has clamped lt of_bits
card_one = refl

-- 2 is clamped to 1, and -1 to 0
card_two : likely 0x4000_0000_0000_0000 ≡ DropWithProbability one64
unfolding action_of has clamped lt of_bits
card_two = refl

card_below : likely 0xbff0_0000_0000_0000 ≡ DropWithProbability zero64
unfolding action_of has clamped lt of_bits
card_below = refl

-- a NaN stays one
card_nan : likely 0x7ff8_0000_0000_0000 ≡ DropWithProbability nan
unfolding action_of has clamped lt of_bits
card_nan = refl

card_negative_nan : likely 0xfff8_0000_0000_0000 ≡ DropWithProbability nan
unfolding action_of has clamped lt of_bits
card_negative_nan = refl

at : (key : List ℕ) (w : ℕ) (a : FaultAction) (p : Float) (b : Bool) → a ≡ DropWithProbability p → hits p (word_pair key w) ≡ b → try_action key a w ≡ record { drops = b; words = w + 2 }
unfolding try_action
at key w a p b e h = ap (λ (x : FaultAction). try_action key x w) e ∙ ap (λ (x : Bool). record { drops = x; words = w + 2 }) h

pub probabilities : Probabilities
probabilities = record {
  zero = λ key w. at key w _ zero64 false card_zero (zero_passes (word_pair key w) (pair_lt key w));
  one = λ key w. at key w _ one64 true card_one (one_drops (word_pair key w) (pair_lt key w));
  two = λ key w. at key w _ one64 true card_two (one_drops (word_pair key w) (pair_lt key w));
  below = λ key w. at key w _ zero64 false card_below (zero_passes (word_pair key w) (pair_lt key w));
  nan = λ key w. at key w _ nan true card_nan (nan_drops (word_pair key w));
  negative_nan = λ key w. at key w _ nan true card_negative_nan (nan_drops (word_pair key w));
}
