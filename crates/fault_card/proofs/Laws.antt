-- Bytes read one by one, little-endian; a card's places and fields; when a card is exact.
use mathlib.Core.Path.{◌≡◌, refl, sym, ap, ◌∙◌}
use mathlib.Core.Bool.{Bool, true, false, cond, not, ◌&&◌, ◌||◌}
use mathlib.Core.List.{List}
use Prim.Native.Nat.{ℕ, suc, ◌+◌, ◌-◌, ◌*◌, ◌^◌, ◌<◌, ◌≤◌}
use native.Mathlib.Nat.{pow-suc, pow-le-pow_right}
use native.Mathlib.Omega.{arith}
use lib.Dec.{lit<, ltb, eqb}
use lib.ListN.{length, get_or}
use borrow.Author.Tests.{eq-eqb, ne_eqb, le-leb, lt-leb, lt-ltb, le-ltb}
use Rattle.fault_rule.specs.declared.DropSpec.{DropSpec}
use Rattle.fault_rule.specs.Rule.{has, kind_bit, from_bit, to_bit, tier_bit, probability_bit, window_bit, closed_bit}
use Rattle.fault_rule.proofs.Laws.{yes, no}
use Rattle.std.specs.Prelude.{Option, Some, None}
use Rattle.fault_card.specs.declared.Places.{Places}
use Rattle.fault_card.specs.Card.{le_at, size_of, places_of, field_of, spec_of, map_of, fields_of, map_exact, exact, card_of}

-- ---- the bytes from i + k to i + w are read: their number is below 256 ^ (w - k)
pub room : (v n : ℕ) → v < 256 ^ n → n < 8 → v * 256 + 255 < 2 ^ 64
room v n h l = let m : n ≤ 7 = omega arith in let q : 256 ^ n ≤ 256 ^ 7 = pow-le-pow_right (lit< tt) m in omega arith

module _ (s : List ℕ) (i w k v : ℕ) (some : 0 < k) (within : k ≤ w) where
  left : w - (k - 1) ≡ suc (w - k)
  left = omega arith

  pub grown : (b : ℕ) → v < 256 ^ (w - k) → b < 256 → v * 256 + b < 256 ^ (w - (k - 1))
  grown b h l = rw left (rw pow-suc (omega arith))

  pub more : (b : ℕ) → v ≡ le_at s (i + k) (w - k) → b ≡ get_or s (i + (k - 1)) 0 → v * 256 + b ≡ le_at s (i + (k - 1)) (w - (k - 1))
  unfolding le_at
  more b h e =
      let j : i + (k - 1) + 1 ≡ i + k = omega arith in
      let q : le_at s (i + (k - 1) + 1) (w - k) ≡ v = ap (λ (x : ℕ). le_at s x (w - k)) j ∙ sym h in
      rw left (omega (arith, q, e))

pub none : (s : List ℕ) (i w : ℕ) → 0 ≡ le_at s (i + w) (w - w)
unfolding le_at
none s i w = let z : w - w ≡ 0 = omega arith in rw z

pub single : (w : ℕ) → 0 < 256 ^ (w - w)
single w = let z : w - w ≡ 0 = omega arith in rw z (lit< tt)

pub laid : (map a b c d e f : ℕ)
    → a ≡ size_of map kind_bit 1 → b ≡ size_of map from_bit 4 → c ≡ size_of map to_bit 4 → d ≡ size_of map tier_bit 1 → e ≡ size_of map probability_bit 8 → f ≡ size_of map window_bit 16
    → ◌≡◌ {A = Places}
    (record { kind = 1; from = 1 + a; to = 1 + a + b; tier = 1 + a + b + c; probability = 1 + a + b + c + d; window = 1 + a + b + c + d + e; end = 1 + a + b + c + d + e + f })
    (places_of map)
unfolding places_of
laid map a b c d e f p q r s t u = rw (p, q, r, s, t, u)

pub read_fields : (s : List ℕ) (map : ℕ) (at : Places) (k f t i p b e : ℕ)
    → k ≡ field_of s map kind_bit at.kind 1 → f ≡ field_of s map from_bit at.from 4 → t ≡ field_of s map to_bit at.to 4 → i ≡ field_of s map tier_bit at.tier 1
    → p ≡ field_of s map probability_bit at.probability 8 → b ≡ field_of s map window_bit at.window 8 → e ≡ field_of s map window_bit (at.window + 8) 8
    → ◌≡◌ {A = DropSpec} (record { map = map; kind = k; from = f; to = t; tier = i; probability = p; start = b; end = e }) (spec_of s map at)
unfolding spec_of
read_fields s map at k f t i p b e hk hf ht hi hp hb he = cc

-- ---- the ways through `map_exact`
pub not_below : (map k : ℕ) → k ≤ map → ltb map k ≡ false
not_below map k h = le-ltb map k h

pub bit_7 : (map : ℕ) → 128 ≤ map → false ≡ map_exact map
unfolding map_exact
bit_7 map h = ap (λ (b : Bool). b && (has map window_bit || not (has map closed_bit))) (sym (le-ltb map 128 h))

module _ (map : ℕ) (low : map < 128) where
  pub beside_5 : has map window_bit ≡ true → true ≡ map_exact map
  unfolding map_exact
  beside_5 h = rw (lt-ltb map 128 low, h)

  pub without_5 : has map window_bit ≡ false → (b : Bool) → b ≡ has map closed_bit → not b ≡ map_exact map
  unfolding map_exact
  without_5 h b e = rw (lt-ltb map 128 low, h, e)

-- ---- the ways through `read`, whose first byte is m
all_three : (a b c : Bool) → a ≡ true → b ≡ true → c ≡ true → a && b && c ≡ true
all_three a b c p q r = rw (p, q, r)

not_first : (a b c : Bool) → a ≡ false → a && b && c ≡ false
not_first a b c p = rw p

not_second : (a b c : Bool) → a ≡ true → b ≡ false → a && b && c ≡ false
not_second a b c p q = rw (p, q)

not_third : (a b c : Bool) → a ≡ true → b ≡ true → c ≡ false → a && b && c ≡ false
not_third a b c p q r = rw (p, q, r)

module _ (s : List ℕ) (m : ℕ) (first : m ≡ map_of s) where
  pub bad_map : map_exact m ≡ false → ◌≡◌ {A = Option DropSpec} None (card_of s)
  unfolding card_of exact
  bad_map h = no _ _ _ _ (not_first _ _ _ (ap map_exact (sym first) ∙ h)) refl

  module _ (good : map_exact m ≡ true) (at : Places) (are : at ≡ places_of m) where
    ends : at.end ≡ (places_of (map_of s)).end
    ends = ap (λ (x : Places). x.end) (are ∙ ap places_of first)

    clear : map_exact (map_of s) ≡ true
    clear = ap map_exact (sym first) ∙ good

    pub other_length : (length s ≡ at.end → ⊥) → ◌≡◌ {A = Option DropSpec} None (card_of s)
    unfolding card_of exact
    other_length h = no _ _ _ _ (not_second _ _ _ clear (ne_eqb _ _ (λ e. h (e ∙ sym ends)))) refl

    module _ (long : length s ≡ at.end) (d : DropSpec) (holds : d ≡ spec_of s m at) where
      fits : eqb (length s) (places_of (map_of s)).end ≡ true
      fits = eq-eqb _ _ (long ∙ ends)

      on : d ≡ fields_of s
      on = holds ∙ ap (spec_of s m) (are ∙ ap places_of first) ∙ ap (λ (x : ℕ). spec_of s x (places_of (map_of s))) first

      tier_is : d.tier ≡ (fields_of s).tier
      tier_is = ap (λ (x : DropSpec). x.tier) on

      pub high_tier : 3 < d.tier → ◌≡◌ {A = Option DropSpec} None (card_of s)
      unfolding card_of exact
      high_tier h = no _ _ _ _ (not_third _ _ _ clear fits (lt-leb (fields_of s).tier 3 (omega (arith, tier_is)))) refl

      pub exactly : d.tier ≤ 3 → Some d ≡ card_of s
      unfolding card_of exact
      exactly h = yes _ _ _ _ (all_three _ _ _ clear fits (le-leb (fields_of s).tier 3 (omega (arith, tier_is)))) (ap Some on)

-- ---- a card's answer says whether it is exact, and what it carries
answered : (s : List ℕ) (b : Bool) (d : DropSpec) → exact s ≡ b → cond b (Some (fields_of s)) None ≡ Some d → (exact s ≡ true) × (d ≡ fields_of s)
answered s true d e h = (e, cc)
answered s false d e h = let z : ◌≡◌ {A = ℕ} 0 1 = cc in absurd (omega arith)

pub exact_card : (s : List ℕ) (d : DropSpec) → card_of s ≡ Some d → (exact s ≡ true) × (d ≡ fields_of s)
unfolding card_of
exact_card s d h = answered s (exact s) d refl h

refused : (s : List ℕ) (b : Bool) → exact s ≡ b → cond b (Some (fields_of s)) None ≡ None → exact s ≡ false
refused s true e h = let z : ◌≡◌ {A = ℕ} 0 1 = cc in absurd (omega arith)
refused s false e h = e

pub inexact_card : (s : List ℕ) → card_of s ≡ None → exact s ≡ false
unfolding card_of
inexact_card s h = refused s (exact s) refl h
