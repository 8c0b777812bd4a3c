-- Document 01, 'Edges': the probabilities of the fault engine.
use Rattle.std.specs.Prelude.{◌≡◌, true, false, List, ℕ, ◌+◌, ◌^◌}
use Rattle.fault_rule.specs.Rule.{action_of, probability_bit}
use Rattle.fault_decide.specs.Decide.{Tried, try_action}

abbrev drops : ℕ → Tried
drops w = record { drops = true; words = w }

abbrev passes : ℕ → Tried
passes w = record { drops = false; words = w }

-- what a card with this probability does, for every key and word count; the map has bit 4 alone
abbrev likely : ℕ → List ℕ → ℕ → Tried
likely bits key w = try_action key (action_of (2 ^ probability_bit) bits) w

-- probability 0 takes a draw and passes; 1, or what is clamped to it, takes a draw and drops; a NaN of either sign drops after a draw
pub record Probabilities : Type 0 where
  pub zero : (key : List ℕ) (w : ℕ) → likely 0 key w ≡ passes (w + 2)
  pub one : (key : List ℕ) (w : ℕ) → likely 0x3ff0_0000_0000_0000 key w ≡ drops (w + 2)
  pub two : (key : List ℕ) (w : ℕ) → likely 0x4000_0000_0000_0000 key w ≡ drops (w + 2)
  pub below : (key : List ℕ) (w : ℕ) → likely 0xbff0_0000_0000_0000 key w ≡ passes (w + 2)
  pub nan : (key : List ℕ) (w : ℕ) → likely 0x7ff8_0000_0000_0000 key w ≡ drops (w + 2)
  pub negative_nan : (key : List ℕ) (w : ℕ) → likely 0xfff8_0000_0000_0000 key w ≡ drops (w + 2)
