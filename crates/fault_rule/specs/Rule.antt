-- Document 01, fault engine: a drop rule, its window, its filters and its action. Document 02, M-110: a window the wrong way round; M-111: a closed window.
use Rattle.std.specs.Prelude.{◌≡◌, Bool, true, cond, ◌&&◌, Option, Some, None, ℕ, ◌/◌, ◌%◌, ◌^◌, leb, ltb, eqb}
use Rattle.std.specs.Float.{binary64}
use Rattle.std.specs.Float.Ieee.{of_bits}
use Rattle.math_float.specs.Float.{clamped}
use Rattle.fault_rule.specs.declared.Field.{Field}
use Rattle.fault_rule.specs.declared.Field.TheVariants.{Kind, From, To, Tier, Probability, Window, Closed as ClosedEnd}
use Rattle.fault_rule.specs.declared.TimeWindow.{TimeWindow}
use Rattle.fault_rule.specs.declared.TimeWindow.TheVariants.{Always, During, Closed}
use Rattle.fault_rule.specs.declared.FaultAction.{FaultAction}
use Rattle.fault_rule.specs.declared.FaultAction.TheVariants.{Drop, DropWithProbability}
use Rattle.fault_rule.specs.declared.DropSpec.{DropSpec}
use Rattle.fault_rule.specs.declared.Rule.{Rule}
use Rattle.fault_rule.specs.declared.MessageContext.{MessageContext}

-- the bits of a drop card's map
abbrev pub kind_bit : ℕ
kind_bit = 0

abbrev pub from_bit : ℕ
from_bit = 1

abbrev pub to_bit : ℕ
to_bit = 2

abbrev pub tier_bit : ℕ
tier_bit = 3

abbrev pub probability_bit : ℕ
probability_bit = 4

abbrev pub window_bit : ℕ
window_bit = 5

-- the window's end belongs to it; no bytes of its own
abbrev pub closed_bit : ℕ
closed_bit = 6

abbrev pub bit_of : Field → ℕ
bit_of Kind = kind_bit
bit_of From = from_bit
bit_of To = to_bit
bit_of Tier = tier_bit
bit_of Probability = probability_bit
bit_of Window = window_bit
bit_of ClosedEnd = closed_bit

-- bit k of a map stands
unfoldable pub has : ℕ → ℕ → Bool
has map k = eqb (map / 2 ^ k % 2) 1

-- a field that does not stand asks for nothing
unfoldable pub filter_of : ℕ → ℕ → ℕ → Option ℕ
filter_of map k x = cond (has map k) (Some x) None

unfoldable pub window_of : ℕ → ℕ → ℕ → TimeWindow
window_of map start end = cond (has map window_bit) (cond (has map closed_bit) (Closed start end) (During start end)) Always

-- the window that a card's fields give
abbrev pub window_in : DropSpec → TimeWindow
window_in s = window_of s.map s.start s.end

-- a plain drop, or a drop with a probability: the bits as a float, clamped to 0..1, where a NaN stays one
unfoldable pub action_of : ℕ → ℕ → FaultAction
action_of map bits = cond (has map probability_bit) (DropWithProbability (clamped (of_bits binary64 bits))) Drop

unfoldable pub rule_of : DropSpec → Rule
rule_of s = record {
  kind = filter_of s.map kind_bit s.kind;
  from = filter_of s.map from_bit s.from;
  to = filter_of s.map to_bit s.to;
  tier = filter_of s.map tier_bit s.tier;
  action = action_of s.map s.probability;
  window = window_in s;
}

-- a window holds its start and not its end; a closed one holds both
unfoldable pub holds : TimeWindow → ℕ → Bool
holds Always now = true
holds (During start end) now = leb start now && ltb now end
holds (Closed start end) now = leb start now && leb now end

-- the end is after the start, of a closed window not before it; a window that always holds has neither
unfoldable pub forward : TimeWindow → Bool
forward Always = true
forward (During start end) = ltb start end
forward (Closed start end) = leb start end

-- a window that is not empty: it holds some time
pub record HoldsSome (w : TimeWindow) : Type 0 where
  pub time : ℕ
  pub held : holds w time ≡ true

unfoldable pub passes : Option ℕ → ℕ → Bool
passes None x = true
passes (Some y) x = eqb y x

unfoldable pub applies : Rule → MessageContext → Bool
applies r m =
    holds r.window m.now && passes r.kind m.kind && passes r.from m.from && passes r.to m.to && passes r.tier m.tier
