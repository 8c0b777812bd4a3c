-- The operations of a latency before transmission in order, each within its error, and what the whole says of the exact delay (document 02's M-106).
use mathlib.Core.Path.{◌≡◌, refl, sym, ap, ◌∙◌, subst}
use mathlib.Core.Logic.{◌⊎◌, inl, inr}
use mathlib.Core.Bool.{Bool, true, false, cond}
use Prim.Native.Nat.{ℕ, ◌+◌, ◌-◌, ◌*◌, ◌/◌, ◌^◌, ◌≤◌, ◌<◌, zero-le, max}
use native.Mathlib.Nat.{le_trans, le_of_eq, le_of_lt, lt_of_lt_of_le, lt_of_le_of_lt, mul_comm, mul_assoc, mul-one, mul-le-mul_right, mul-le-mul_left, mul-le-mul, le_of_mul-le-mul_right, mul-pos}
use native.Mathlib.Omega.{arith}
use lib.Dec.{lit≤, lit<}
use lib.Pow.{pow-add, pow_pos, shl_lt}
use lib.Ieee.{Float, binary64, round, add, sub, mul, neg, lt}
use lib.Ieee.Exact.{HasValue, round_exact}
use lib.Ieee.Nearest.{closest_mono}
use Rattle.math_float.specs.Float.{zero64}
use Rattle.math_time.specs.Seconds.{whole, second, seconds, nanos, nearest_even, milli, InRange}
use Rattle.rand_draw.specs.Real.{real_of, tiny52}
use Rattle.math_bounds.proofs.Near.{Near, Q, E, closest_near, mul_is, neg_value}
use Rattle.math_bounds.proofs.Chain.{Val, of_value, value_add, value_minus, value_minus_neg, value_mul, value_mul', secs_value}
use Rattle.math_bounds.proofs.Order.{le_or_lt, neg_neg, Ordered, lt_value, lt_negative, Mi, milli_value, milli_in, nanos_of, in_range_of}
use Rattle.math_bounds.proofs.Compose as C

-- ---- the draw's part, k / 2 ^ 52, is exact
pub part_value : (k : ℕ) → k < 2 ^ 52 → HasValue (mul binary64 (whole k) tiny52) false k (2 ^ 52)
part_value k h =
    subst (λ (z : Float). HasValue z false k (2 ^ 52)) (sym (mul_is (whole k) tiny52 k 1 1 (2 ^ 52) (pow_pos 0) (pow_pos 52) (of_value k (small k h)) (refl, refl)))
    (subst (λ (z : ℕ). HasValue (round binary64 false (k * 1) (1 * 2 ^ 52)) false z (2 ^ 52)) (mul-one k)
    (round_exact binary64 false (k * 1) (1 * 2 ^ 52) k 1022 (pow_pos 52) (lt_of_lt_of_le h (lit≤ tt)) (lt_of_lt_of_le (shl_lt 52 1022 h) (lit≤ tt))
    (go k (2 ^ 1022) (2 ^ 52) (2 ^ 1074) (pow-add 2 1022 52))))
  where
    small : (k : ℕ) → k < 2 ^ 52 → k ≤ 2 ^ 53
    small k h = omega arith

    go : (k a b c : ℕ) → c ≡ a * b → k * 1 * c ≡ k * a * b
    go k a b c e = ap (λ (z : ℕ). z * c) (mul-one k) ∙ ap (λ (z : ℕ). k * z) e ∙ sym (mul_assoc k a b)

-- ---- the sum s + (p - j)
abbrev pub Outcome : Float → ℕ → Type 0
Outcome x t = Val x t ⊎ ((g : ℕ) × HasValue x true g Q × (t ≡ 0))

module _ (S J P : Float) (s j p : ℕ) (vs : Val S s) (vj : Val J j) (vp : Val P p) (bs : s ≤ 61 * Q) (bj : j ≤ s + E) (bp : p ≤ 126 * Q) where
  sum_outcome : (t : ℕ) × Outcome (add binary64 S (add binary64 P (neg J))) t × Near (2 * E) (t + j) (s + p)
  sum_outcome = elim (le_or_lt j p) [
    | inl a ↦
        let r = value_minus P (neg J) p j vp (neg_value J j vj) a (b1 p j Q (pow_pos 1074) bp) in
        let t = value_add S (add binary64 P (neg J)) s r.0 vs r.1 (b2 s p j r.0 Q E (pow_pos 1074) (lit≤ tt) bs bp r.2.0) in
        (t.0, inl t.1, near1 s j p r.0 t.0 E a r.2 t.2)
    | inr a ↦
        let r = value_minus_neg P (neg J) p j vp (neg_value J j vj) a (b3 s j p Q E (pow_pos 1074) (lit≤ tt) bs bj) in
        negative r a (le_or_lt r.0 s)
  ]
    where
      b1 : (p j q : ℕ) → 0 < q → p ≤ 126 * q → p - j < 256 * q
      b1 p j q K h = omega arith

      b2 : (s p j r q e : ℕ) → 0 < q → e ≤ q → s ≤ 61 * q → p ≤ 126 * q → r ≤ p - j + e → s + r < 256 * q
      b2 s p j r q e K m a b c = omega arith

      b3 : (s j p q e : ℕ) → 0 < q → e ≤ q → s ≤ 61 * q → j ≤ s + e → j - p < 256 * q
      b3 s j p q e K m a b = omega arith

      b4 : (s r q : ℕ) → 0 < q → s ≤ 61 * q → s - r < 256 * q
      b4 s r q K h = omega arith

      b5 : (s j p r q e : ℕ) → 0 < q → e ≤ q → s ≤ 61 * q → j ≤ s + e → r ≤ j - p + e → r - s < 256 * q
      b5 s j p r q e K m a b c = omega arith

      near1 : (s j p r t e : ℕ) → j ≤ p → Near e r (p - j) → Near e t (s + r) → Near (2 * e) (t + j) (s + p)
      near1 s j p r t e a b c = (omega arith, omega arith)

      near2 : (s j p r t e : ℕ) → p < j → r ≤ s → Near e r (j - p) → Near e t (s - r) → Near (2 * e) (t + j) (s + p)
      near2 s j p r t e a o b c = (omega arith, omega arith)

      near3 : (s j p r e : ℕ) → p < j → s < r → j ≤ s + e → Near e r (j - p) → Near (2 * e) (0 + j) (s + p)
      near3 s j p r e a o h b = (omega arith, omega arith)

      negative : (r : (g : ℕ) × HasValue (add binary64 P (neg J)) true g Q × Near E g (j - p)) → p < j → (r.0 ≤ s) ⊎ (s < r.0)
          → (t : ℕ) × Outcome (add binary64 S (add binary64 P (neg J))) t × Near (2 * E) (t + j) (s + p)
      negative r a (inl o) =
          let t = value_minus S (add binary64 P (neg J)) s r.0 vs r.1 o (b4 s r.0 Q (pow_pos 1074) bs) in
          (t.0, inl t.1, near2 s j p r.0 t.0 E a o r.2 t.2)
      negative r a (inr o) =
          let t = value_minus_neg S (add binary64 P (neg J)) s r.0 vs r.1 o (b5 s j p r.0 Q E (pow_pos 1074) (lit≤ tt) bs bj r.2.0) in
          (0, inr (t.0, t.1, refl), near3 s j p r.0 E a o bj r.2)

twice : (w j e : ℕ) → Near e w (j + j) → Near e w (2 * j)
twice w j e h = (omega arith, omega arith)

-- ---- the whole chain, for a fraction F / D that is at most 1
module _ (n : ℕ) (f : Float) (F D d : ℕ) (B : n ≤ 60 * second) (P : 0 < D) (L : F ≤ D) (v : HasValue f false F D) (W : d < 2 ^ 64) where
  abbrev pub S : Float
  S = seconds n

  abbrev pub J : Float
  J = mul binary64 S f

  abbrev pub k : ℕ
  k = d / 2 ^ 12

  k_lt : k < 2 ^ 52
  k_lt = omega arith

  pub sv : (s : ℕ) × Val S s × Near (2 * E * second) (s * second) (n * Q)
  sv = secs_value n B

  abbrev pub s : ℕ
  s = sv.0

  s_le : s ≤ 61 * Q
  s_le = go s n Q E B (lit≤ tt) sv.2.0
    where
      go : (s n q e : ℕ) → n ≤ 60 * second → 2 * e ≤ q → s * second ≤ n * q + 2 * e * second → s ≤ 61 * q
      go s n q e h m t = let a : n * q ≤ 60 * second * q = mul-le-mul_right q h in omega arith

  pub jv : (j : ℕ) × Val J j × Near (E * D) (j * D) (s * F)
  jv = value_mul S f s F D P sv.1 v (go s F D Q (pow_pos 1074) P s_le L)
    where
      go : (s F D q : ℕ) → 0 < q → 0 < D → s ≤ 61 * q → F ≤ D → s * F < 256 * (q * D)
      go s F D q K P a b = lt_of_le_of_lt (mul-le-mul a b) (fin (q * D) (mul-pos K P))
        where
          fin : (x : ℕ) → 0 < x → 61 * q * D < 256 * (q * D)
          fin x h = let y : 0 < q * D = mul-pos K P in omega arith

  abbrev pub j : ℕ
  j = jv.0

  j_le : j ≤ s + E
  j_le = le_of_mul-le-mul_right (go j s F D E L jv.2.0) P
    where
      go : (j s F D e : ℕ) → F ≤ D → j * D ≤ s * F + e * D → j * D ≤ (s + e) * D
      go j s F D e h t = let a : s * F ≤ s * D = mul-le-mul_left s h in omega arith

  abbrev pub Total : ℕ → Type 0
  Total t = (w : ℕ) × (p : ℕ) × Near E w (2 * j) × Near (E * 2 ^ 52) (p * 2 ^ 52) (k * w) × Near (2 * E) (t + j) (s + p) × (p ≤ 126 * Q)

  -- with a draw
  pub drawn : (t : ℕ) × Outcome (add binary64 S (real_of (neg J) J d)) t × Total t
  unfolding real_of sub
  drawn =
      let w = value_add J J j j jv.1 jv.1 (b1 j s Q E (pow_pos 1074) (lit≤ tt) s_le j_le) in
      let two : Val (add binary64 J (neg (neg J))) w.0 = subst (λ (z : Float). Val (add binary64 J z) w.0) (sym (neg_neg J)) w.1 in
      let p = value_mul' (mul binary64 (whole k) tiny52) (add binary64 J (neg (neg J))) k (2 ^ 52) w.0 (pow_pos 52) (part_value k k_lt) two
      (b2 k w.0 j s (2 ^ 52) Q E (pow_pos 52) (pow_pos 1074) (lit≤ tt) k_lt s_le j_le w.2.0) in
      let p-le : p.0 ≤ 126 * Q = b3 k w.0 j s p.0 (2 ^ 52) Q E (pow_pos 52) (lit≤ tt) k_lt s_le j_le w.2.0 p.2.0 in
      let t = sum_outcome S J (mul binary64 (mul binary64 (whole k) tiny52) (add binary64 J (neg (neg J)))) s j p.0 sv.1 jv.1 p.1 s_le j_le p-le in
      (t.0, t.1, (w.0, p.0, twice w.0 j E w.2, p.2, t.2, p-le))
    where
      b1 : (j s q e : ℕ) → 0 < q → e ≤ q → s ≤ 61 * q → j ≤ s + e → j + j < 256 * q
      b1 j s q e K m a b = omega arith

      wide : (w j s q e : ℕ) → e ≤ q → s ≤ 61 * q → j ≤ s + e → w ≤ j + j + e → w ≤ 125 * q
      wide w j s q e m a b c = omega arith

      b2 : (k w j s m q e : ℕ) → 0 < m → 0 < q → e ≤ q → k < m → s ≤ 61 * q → j ≤ s + e → w ≤ j + j + e → k * w < 256 * (m * q)
      b2 k w j s m q e M K g h a b c =
          let x : k * w ≤ m * (125 * q) = mul-le-mul (le_of_lt h) (wide w j s q e g a b c) in
          let y : 0 < m * q = mul-pos M K in
          omega arith

      b3 : (k w j s p m q e : ℕ) → 0 < m → e ≤ q → k < m → s ≤ 61 * q → j ≤ s + e → w ≤ j + j + e → p * m ≤ k * w + e * m → p ≤ 126 * q
      b3 k w j s p m q e M g h a b c t =
          let x : k * w ≤ m * (125 * q) = mul-le-mul (le_of_lt h) (wide w j s q e g a b c) in
          let y : e * m ≤ q * m = mul-le-mul_right m g in
          le_of_mul-le-mul_right {m = p} {n = 126 * q} {k = m} (omega arith) M

  -- with none, where the range is 0
  pub none : j ≤ 0 → (t : ℕ) × Outcome (add binary64 S zero64) t × Total t
  none z =
      let t = value_add S zero64 s 0 sv.1 (refl, refl) (b1 s Q (pow_pos 1074) s_le) in
      (t.0, inl t.1, (0, 0, n1 j E z, n2 k E (2 ^ 52), n3 t.0 j s E z t.2, zero-le))
    where
      b1 : (s q : ℕ) → 0 < q → s ≤ 61 * q → s + 0 < 256 * q
      b1 s q K h = omega arith

      n1 : (j e : ℕ) → j ≤ 0 → Near e 0 (2 * j)
      n1 j e h = (omega arith, omega arith)

      n2 : (k e m : ℕ) → Near (e * m) (0 * m) (k * 0)
      n2 k e m = (omega arith, omega arith)

      n3 : (t j s e : ℕ) → j ≤ 0 → Near e t (s + 0) → Near (2 * e) (t + j) (s + 0)
      n3 t j s e h a = (omega arith, omega arith)

  -- the exact delay is n / 1 + n * (F / D) * (2 * k - M) / M nanoseconds: over the denominator M * D
  abbrev pub M : ℕ
  M = 2 ^ 52

  abbrev pub u : ℕ
  u = M * D

  abbrev pub truth : ℕ
  truth = max (1000000 * u) (n * u + n * (2 * k * F) - n * (F * M))

  k_le : k ≤ M
  k_le = le_of_lt k_lt

  sums : (t : ℕ) → Total t → (t * second * u + n * Q * (F * M) ≤ n * Q * u + n * Q * (2 * k * F) + 15 * (E * second * u)) ×
      (n * Q * u + n * Q * (2 * k * F) ≤ t * second * u + n * Q * (F * M) + 15 * (E * second * u))
  sums t x =
      let w = x.0 in
      let p = x.1 in (
        C.total_up (E * second) M D F k (s * second) (t * second) (n * Q) L k_le
            (scale1 t s E second u (F * M) (2 * k * F) (C.seconds_up E M D F k s j w p t k_le jv.2.0 jv.2.1 x.2.0 x.3.0 x.4.0)) sv.2.0 sv.2.1,
        C.total_down (E * second) M D F k (s * second) (t * second) (n * Q) L k_le
            (scale2 t s E second u (F * M) (2 * k * F) (C.seconds_down E M D F k s j w p t k_le jv.2.1 jv.2.0 x.2.1 x.3.1 x.4.1)) sv.2.0 sv.2.1,
      )
    where
      scale1 : (t s e g u a b : ℕ) → t * u + s * a ≤ s * u + s * b + 7 * (e * u) → t * g * u + s * g * a ≤ s * g * u + s * g * b + 7 * (e * g * u)
      scale1 t s e g u a b h = let x : (t * u + s * a) * g ≤ (s * u + s * b + 7 * (e * u)) * g = mul-le-mul_right g h in omega arith

      scale2 : (t s e g u a b : ℕ) → s * u + s * b ≤ t * u + s * a + 7 * (e * u) → s * g * u + s * g * b ≤ t * g * u + s * g * a + 7 * (e * g * u)
      scale2 t s e g u a b h = let x : (s * u + s * b) * g ≤ (t * u + s * a + 7 * (e * u)) * g = mul-le-mul_right g h in omega arith

  U : 0 < u
  U = mul-pos (pow_pos 52) P

  a_le : F * M ≤ u
  a_le = le_trans (mul-le-mul_right M L) (le_of_eq (mul_comm D M))

  -- below the floor
  low : (t : ℕ) → Total t → t < Mi → C.Within1 1000000 u truth
  low t x h =
      C.below 1000000 n u (F * M) (2 * k * F) 1000000 U a_le
      (C.nanos_down 1000000 n Q u (F * M) (2 * k * F) (t * second) (E * second) U (lit< tt) (sums t x).1 (go t Mi Q (lit≤ tt) h))
      refl
    where
      go : (t m q : ℕ) → m * second * 2 ≤ 1000000 * q * 2 + q → t < m → t * second * 2 ≤ 1000000 * q * 2 + q
      go t m q a b = omega arith

  -- not below it
  high : (t : ℕ) → Total t → Mi ≤ t → C.Within1 (nearest_even (t * second) Q) u truth
  high t x h =
      let N = nearest_even (t * second) Q in
      let c = closest_near (t * second) Q (pow_pos 1074) in
      C.above N n u (F * M) (2 * k * F) 1000000 U a_le
      (C.nanos_up N n Q u (F * M) (2 * k * F) (t * second) (E * second) U (lit< tt) (sums t x).0 c.0)
      (C.nanos_down N n Q u (F * M) (2 * k * F) (t * second) (E * second) U (lit< tt) (sums t x).1 c.1)
      (closest_mono (Mi * second) Q (t * second) Q (pow_pos 1074) (pow_pos 1074) (mul-le-mul_right Q (mul-le-mul_right second h)))

  -- with the floor: less than 1 ns from the truth
  pub near_truth : (x : Float) (t : ℕ) → Outcome x t → Total t → C.Within1 (nanos (cond (lt x milli) milli x)) u truth
  near_truth x t (inl v) y = at (lt x milli) (lt_value x milli t Mi v milli_value)
    where
      at : (b : Bool) → Ordered b t Mi → C.Within1 (nanos (cond b milli x)) u truth
      at true h = low t y h
      at false h = subst (λ (z : ℕ). C.Within1 z u truth) (sym (nanos_of x t v)) (high t y h)
  near_truth x t (inr v) y =
      subst (λ (b : Bool). C.Within1 (nanos (cond b milli x)) u truth) (sym (lt_negative x v.0 v.1)) (low t y (subst (λ (z : ℕ). z < Mi) (sym v.2) (lit< tt)))

  t_lt : (t : ℕ) → Total t → t < 2 ^ 26 * Q
  t_lt t x = go t j s x.1 Q E (pow_pos 1074) (lit≤ tt) s_le x.5 x.4.0
    where
      go : (t j s p q e : ℕ) → 0 < q → e ≤ q → s ≤ 61 * q → p ≤ 126 * q → t + j ≤ s + p + 2 * e → t < 2 ^ 26 * q
      go t j s p q e K m a b c = omega arith

  -- and in the range that `nanos` asks for
  pub floor_in_range : (x : Float) (t : ℕ) → Outcome x t → Total t → InRange (cond (lt x milli) milli x)
  floor_in_range x t (inl v) y = at (lt x milli) (lt_value x milli t Mi v milli_value)
    where
      at : (b : Bool) → Ordered b t Mi → InRange (cond b milli x)
      at true h = milli_in
      at false h = in_range_of x t v h (t_lt t y)
  floor_in_range x t (inr v) y = subst (λ (b : Bool). InRange (cond b milli x)) (sym (lt_negative x v.0 v.1)) milli_in
