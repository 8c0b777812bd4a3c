-- Document 01, fault engine, and question 13: a drop card and the fields that it carries. Document 02, M-111: bit 6, a closed window.
use Rattle.std.specs.Prelude.{Bool, Option, Some, None, cond, not, ◌&&◌, ◌||◌, List, ℕ, zero, suc, ◌+◌, ◌*◌, ◌≤◌, length, get_or, ltb, leb, eqb}
use Rattle.fault_rule.specs.declared.DropSpec.{DropSpec}
use Rattle.fault_rule.specs.Rule.{has, kind_bit, from_bit, to_bit, tier_bit, probability_bit, window_bit, closed_bit}
use Rattle.fault_card.specs.declared.Places.{Places}

-- the bytes of a card with every field
abbrev pub longest : ℕ
longest = 35

-- places within a card of that length
pub record Within (at : Places) : Type 0 where
  pub kind : at.kind ≤ longest
  pub from : at.from ≤ longest
  pub to : at.to ≤ longest
  pub tier : at.tier ≤ longest
  pub probability : at.probability ≤ longest
  pub window : at.window + 8 ≤ longest

-- n bytes from i, little-endian
unfoldable pub le_at : List ℕ → ℕ → ℕ → ℕ
le_at s i zero = 0
le_at s i (suc n) = get_or s i 0 + 256 * le_at s (i + 1) n

-- how many bytes the field of bit k takes, which is w bytes where it stands
unfoldable pub size_of : ℕ → ℕ → ℕ → ℕ
size_of map k w = cond (has map k) w 0

-- where each field starts: after the map and the fields of lower bits
abbrev pub kind_at : ℕ → ℕ
kind_at map = 1

abbrev pub from_at : ℕ → ℕ
from_at map = kind_at map + size_of map kind_bit 1

abbrev pub to_at : ℕ → ℕ
to_at map = from_at map + size_of map from_bit 4

abbrev pub tier_at : ℕ → ℕ
tier_at map = to_at map + size_of map to_bit 4

abbrev pub probability_at : ℕ → ℕ
probability_at map = tier_at map + size_of map tier_bit 1

abbrev pub window_at : ℕ → ℕ
window_at map = probability_at map + size_of map probability_bit 8

abbrev pub end_at : ℕ → ℕ
end_at map = window_at map + size_of map window_bit 16

unfoldable pub places_of : ℕ → Places
places_of map = record {
  kind = kind_at map;
  from = from_at map;
  to = to_at map;
  tier = tier_at map;
  probability = probability_at map;
  window = window_at map;
  end = end_at map;
}

-- the field of bit k, w bytes at i
unfoldable pub field_of : List ℕ → ℕ → ℕ → ℕ → ℕ → ℕ
field_of s map k i w = cond (has map k) (le_at s i w) 0

-- a window is its start, then its end
unfoldable pub spec_of : List ℕ → ℕ → Places → DropSpec
spec_of s map at = record {
  map = map;
  kind = field_of s map kind_bit at.kind 1;
  from = field_of s map from_bit at.from 4;
  to = field_of s map to_bit at.to 4;
  tier = field_of s map tier_bit at.tier 1;
  probability = field_of s map probability_bit at.probability 8;
  start = field_of s map window_bit at.window 8;
  end = field_of s map window_bit (at.window + 8) 8;
}

-- a card's map is its first byte
abbrev pub map_of : List ℕ → ℕ
map_of s = get_or s 0 0

abbrev pub fields_of : List ℕ → DropSpec
fields_of s = spec_of s (map_of s) (places_of (map_of s))

-- bit 7 clear, and bit 6 only beside bit 5
unfoldable pub map_exact : ℕ → Bool
map_exact map = ltb map 128 && (has map window_bit || not (has map closed_bit))

-- question 13: such a map, length as the map says, tier at most 3
unfoldable pub exact : List ℕ → Bool
exact s = map_exact (map_of s) && eqb (length s) (places_of (map_of s)).end && leb (fields_of s).tier 3

-- what an exact card says; another is refused
unfoldable pub card_of : List ℕ → Option DropSpec
card_of s = cond (exact s) (Some (fields_of s)) None
