-- THE THEOREM of M-106: every delay lies less than 1 ns from the exact one.
use mathlib.Core.Path.{◌≡◌, sym, ap, ◌∙◌, subst}
use mathlib.Core.Logic.{◌⊎◌, inl, inr}
use mathlib.Core.Bool.{false}
use mathlib.Core.List.{List}
use Prim.Native.Nat.{ℕ, ◌+◌, ◌-◌, ◌*◌, ◌/◌, ◌^◌, ◌≤◌, ◌<◌, zero-le, max}
use native.Mathlib.Nat.{le_of_eq, le_trans, mul-le-mul_left, zero-mul}
use native.Mathlib.Omega.{arith}
use lib.Dec.{T, leb}
use lib.Pow.{pow_pos}
use lib.Ieee.{Float, binary64, of_bits}
use lib.Ieee.Positive.{num, den, den_pos}
use Rattle.rand_streams.specs.Streams.{word_pair}
use Rattle.rand_draw.specs.Fraction.{hits_at}
use Rattle.rand_draw.proofs.Words.{pair_small}
use Rattle.link_latency.specs.Latency.{delay_of, unspiked, latency_at, spike_count}
use Rattle.link_latency.specs.Admitted.{longest_base}
use Rattle.link_latency.proofs.Admit.{truth, CloseTo, true_delay}
use Rattle.link_delay.specs.Delay.{digits, places, InOpening, parts, raised, lowered, least, exact, bound, Close, TrueDelay}
use Rattle.link_delay.proofs.Bits.{value, cross, in_opening_field, opening_admits, admitted_in_opening}
use Rattle.link_delay.proofs.Scale as Scale

-- ---- nothing is cut off
no_cut : (base bits k : ℕ) → InOpening bits → lowered base bits ≤ raised base bits k
unfolding lowered raised parts
no_cut base bits k (inl z) = subst (λ (m : ℕ). base * m * 2 ^ 52 ≤ base * (2 ^ 52 * 2 ^ places bits) + base * m * (2 * k)) (sym z) (le_trans (le_of_eq (none base (2 ^ 52))) zero-le)
  where
    none : (n q : ℕ) → n * 0 * q ≡ 0
    none n q = omega arith
no_cut base bits k (inr h) = go base (digits bits) (2 ^ places bits) (2 ^ 52) k h.2
  where
    go : (n m p q k : ℕ) → m ≤ p → n * m * q ≤ n * (q * p) + n * m * (2 * k)
    go n m p q k h = let x : n * q * m ≤ n * q * p = mul-le-mul_left (n * q) h in omega arith

-- ---- one delay
module _ (base bits d : ℕ) (B : base ≤ longest_base) (I : InOpening bits) (W : d < 2 ^ 64) where
  abbrev f : Float
  f = of_bits binary64 bits

  abbrev k : ℕ
  k = d / 2 ^ 12

  same : num f * 2 ^ places bits ≡ digits bits * den f
  same = cross f (leb (2 ^ 63) bits) (digits bits) (2 ^ places bits) (value bits (in_opening_field bits I))

  near : CloseTo base f k (delay_of base f d)
  near = true_delay base f d B (subst T (sym (opening_admits bits I)) tt) W

  pub close : Close base bits k (delay_of base f d)
  unfolding CloseTo truth exact raised lowered parts bound
  close = record {
    not_over = Scale.not_over (num f) (den f) (digits bits) (2 ^ places bits) (2 ^ 52) base k least (den_pos f) (pow_pos (places bits)) same (delay_of base f d) near.0;
    not_under = Scale.not_under (num f) (den f) (digits bits) (2 ^ places bits) (2 ^ 52) base k least (den_pos f) (pow_pos (places bits)) same (delay_of base f d) near.1;
    no_cut = no_cut base bits k I;
  }

  -- with no jitter
  plain : (base ≡ 0) ⊎ (digits bits ≡ 0) → base * digits bits ≡ 0
  plain (inl z) = ap (λ (n : ℕ). n * digits bits) z ∙ zero-mul (digits bits)
  plain (inr z) = ap (λ (m : ℕ). base * m) z ∙ none base
    where
      none : (n : ℕ) → n * 0 ≡ 0
      none n = omega arith

  exact_plain : (base ≡ 0) ⊎ (digits bits ≡ 0) → exact base bits k ≡ max least base * parts bits
  unfolding exact raised lowered
  exact_plain z = go (base * digits bits) (parts bits) k (2 ^ 52) (plain z) ∙ sym (Scale.max_mul least base (parts bits))
    where
      go : (j u k q : ℕ) → j ≡ 0 → max (least * u) (base * u + j * (2 * k) - j * q) ≡ max (least * u) (base * u)
      go j u k q e = subst (λ (z : ℕ). max (least * u) (base * u + z * (2 * k) - z * q) ≡ max (least * u) (base * u)) (sym e) (tidy (least * u) (base * u) k q)
        where
          tidy : (a b k q : ℕ) → max a (b + 0 * (2 * k) - 0 * q) ≡ max a b
          tidy a b k q = omega arith

  pub without_jitter : (base ≡ 0) ⊎ (digits bits ≡ 0) → delay_of base f d ≡ max least base
  unfolding bound
  without_jitter z =
      Scale.equal_within (delay_of base f d) (max least base) (parts bits)
      (subst (λ (e : ℕ). delay_of base f d * parts bits < e + parts bits) (exact_plain z) close.not_over)
      (subst (λ (e : ℕ). e < delay_of base f d * parts bits + parts bits) (exact_plain z) close.not_under)

-- ---- on a stream
module _ (key : List ℕ) (count base bits : ℕ) (rate : Float) (transmission : ℕ) (B : base ≤ longest_base) (I : InOpening bits) where
  abbrev g : Float
  g = of_bits binary64 bits

  streamed : hits_at key (spike_count count base g) rate ≡ false
      → (r : ℕ) × (latency_at key count base g rate transmission ≡ r + transmission) × Close base bits (word_pair key count / 2 ^ 12) r
  unfolding latency_at unspiked
  streamed h = (delay_of base g (word_pair key count), rw h, close base bits (word_pair key count) B I (pair_small key count))

pub theorem : TrueDelay
theorem = record {
  admitted = opening_admits;
  all_admitted = admitted_in_opening;
  every_draw = close;
  on_stream = streamed;
  no_jitter = without_jitter;
}
