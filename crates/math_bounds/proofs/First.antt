-- The first draw of a real range is below its high end: of −j..j, for every j in the normal range, and of 10..50.
use mathlib.Core.Path.{◌≡◌, refl, sym, ap, ◌∙◌, subst}
use mathlib.Core.Logic.{inl, inr}
use mathlib.Core.Bool.{true, false}
use Prim.Native.Nat.{ℕ, ◌+◌, ◌-◌, ◌*◌, ◌/◌, ◌^◌, ◌≤◌, ◌<◌}
use native.Mathlib.Nat.{
  le_trans,
  le_of_eq,
  le_of_lt,
  lt_of_lt_of_le,
  lt_of_le_of_lt,
  mul_comm,
  mul_assoc,
  mul_left_comm,
  mul-one,
  one-mul,
  mul-le-mul_right,
  mul-le-mul,
  mul-lt-mul_of_pos_right,
  mul-pos,
  add-mul,
  not-le_of_lt,
  div-le_of_le-mul,
  le_antisymm,
  div-mul-le_self,
  le-div_iff_mul-le,
  lt-div-mul-add,
  suc-mul,
}
use native.Mathlib.Omega.{arith}
use lib.Dec.{T, lit≤}
use lib.Pow.{pow-add, pow_pos, pow_mono, shl_lt}
use lib.Ieee.{Float, binary64, size, round, add, sub, mul, neg, lt}
use lib.Ieee.Digits.{size-lt, size_reaches}
use lib.Ieee.Exact.{HasValue}
use lib.Ieee.Nearest.{closest, closest_mono}
use lib.Ieee.Order.{drop, kept}
use lib.Ieee.Scale.{grid, round_val}
use Rattle.math_time.specs.Seconds.{whole, second, seconds}
use Rattle.rand_draw.specs.Real.{real_of, tiny52}
use Rattle.math_bounds.proofs.Near.{Q, E, closest_near, round_value, add_is, minus_is, minus_neg, mul_is, neg_value}
use Rattle.math_bounds.proofs.Chain.{Val, of_units, secs_value}
use Rattle.math_bounds.proofs.Order.{le_or_lt, neg_neg, lt_signs, lt_of_less}
use Rattle.math_bounds.proofs.Delay.{part_value}

-- ---- a value at or below one that the format holds, q * 2 ^ j units with q below 2 ^ 53, is rounded to at most that one
own : (n : ℕ) → closest n 1 ≤ n
own n = go (closest n 1) (closest_near n 1 (lit≤ tt)).0
  where
    go : (x : ℕ) → x * 1 * 2 ≤ n * 2 + 1 → x ≤ n
    go x h = omega arith

pub grid_below : (a c q j : ℕ) → 0 < c → q < 2 ^ 53 → a * Q ≤ q * 2 ^ j * c → grid binary64 a c ≤ q * 2 ^ j
grid_below a c q j C s h = elim (le_or_lt (drop 53 (a * Q) c) j) [
  | inl le ↦ fine (drop 53 (a * Q) c) (j - drop 53 (a * Q) c) (back (drop 53 (a * Q) c) le)
  | inr gt ↦ absurd (not-le_of_lt (low (drop 53 (a * Q) c) gt)
      (le_trans (size_reaches (a * Q / c) (52 + drop 53 (a * Q) c) (digits (size (a * Q / c)) gt)) (div-le_of_le-mul c {m = a * Q} {n = q * 2 ^ j} (le_trans h (le_of_eq (mul_comm (q * 2 ^ j) c))))))
]
  where
    back : (k : ℕ) → k ≤ j → j ≡ j - k + k
    back k le = omega arith

    digits : (z : ℕ) → j < z - 53 → 52 + (z - 53) < z
    digits z l = omega arith

    low : (k : ℕ) → j < k → q * 2 ^ j < 2 ^ (52 + k)
    low k l = lt_of_lt_of_le (shl_lt 53 j s) (pow_mono (room k l))
      where
        room : (k : ℕ) → j < k → 53 + j ≤ 52 + k
        room k l = omega arith

    step : (n x y z : ℕ) → x ≡ y * z → n ≤ q * x * c → n * 1 ≤ q * y * (c * z)
    step n x y z p h = le_trans (le_of_eq (mul-one n)) (le_trans h (le_of_eq (ap (λ (w : ℕ). q * w * c) p ∙ simp (mul_assoc, mul_comm, mul_left_comm))))

    fine : (k r : ℕ) → j ≡ r + k → closest (a * Q) (c * 2 ^ k) * 2 ^ k ≤ q * 2 ^ j
    fine k r e =
        let p : 2 ^ j ≡ 2 ^ r * 2 ^ k = ap (λ (z : ℕ). 2 ^ z) e ∙ pow-add 2 r k in
        let m : closest (a * Q) (c * 2 ^ k) ≤ closest (q * 2 ^ r) 1 = closest_mono (a * Q) (c * 2 ^ k) (q * 2 ^ r) 1 (mul-pos C (pow_pos k)) (lit≤ tt) (step (a * Q) (2 ^ j) (2 ^ r) (2 ^ k) p h) in
        le_trans (mul-le-mul_right (2 ^ k) (le_trans m (own (q * 2 ^ r)))) (le_of_eq (mul_assoc q (2 ^ r) (2 ^ k) ∙ ap (λ (z : ℕ). q * z) (sym p)))

pub round_below : (a c q j : ℕ) → 0 < c → q < 2 ^ 53 → j ≤ 2000 → a * Q ≤ q * 2 ^ j * c → (g : ℕ) × Val (round binary64 false a c) g × (g ≤ q * 2 ^ j)
round_below a c q j C s J h =
    let b = grid_below a c q j C s h in
    (grid binary64 a c, round_val binary64 a c (lt_of_le_of_lt b (lt_of_lt_of_le (shl_lt 53 j s) (pow_mono {i = 53 + j} {j = 2098} (room j J)))), b)
  where
    room : (j : ℕ) → j ≤ 2000 → 53 + j ≤ 2098
    room j l = omega arith

-- ---- jitter: j is m * 2 ^ i units, with a full mantissa m
module _ (J : Float) (m i d : ℕ) (full : 2 ^ 52 ≤ m) (fits : m < 2 ^ 53) (I : i ≤ 1900) (small : m * 2 ^ i < 2 ^ 8 * Q) (v : Val J (m * 2 ^ i)) (D : d < 2 ^ 64) where
  abbrev k : ℕ
  k = d / 2 ^ 12

  k_lt : k < 2 ^ 52
  k_lt = omega arith

  abbrev u : ℕ
  u = 2 ^ i

  -- high − low is at most 2 j
  width : (w : ℕ) × Val (sub binary64 J (neg J)) w × (w ≤ m * 2 ^ (i + 1))
  unfolding sub
  width =
      let e : add binary64 J (neg (neg J)) ≡ round binary64 false (m * u + m * u) Q = ap (add binary64 J) (neg_neg J) ∙ add_is J J (m * u) (m * u) v v in
      let g = round_below (m * u + m * u) Q m (i + 1) (pow_pos 1074) fits (room i I) (mul-le-mul_right Q (le_of_eq (double m u (2 ^ (i + 1)) (pow-add 2 i 1)))) in
      (g.0, subst (λ (z : Float). Val z g.0) (sym e) g.1, g.2)
    where
      room : (i : ℕ) → i ≤ 1900 → i + 1 ≤ 2000
      room i l = omega arith

      double : (m u x : ℕ) → x ≡ u * 2 → m * u + m * u ≡ m * x
      double m u x p = sym (ap (λ (z : ℕ). m * z) p ∙ go m u)
        where
          go : (m u : ℕ) → m * (u * 2) ≡ m * u + m * u
          go m u = omega arith

  -- the part of it that is drawn is at most 2 j less one unit in its last place
  part : (p : ℕ) × Val (mul binary64 (mul binary64 (whole k) tiny52) (sub binary64 J (neg J))) p × (p ≤ (m - 1) * 2 ^ (i + 1))
  part =
      let w = width in
      let e = mul_is (mul binary64 (whole k) tiny52) (sub binary64 J (neg J)) k (2 ^ 52) w.0 Q (pow_pos 52) (pow_pos 1074) (part_value k k_lt) w.1 in
      let g = round_below (k * w.0) (2 ^ 52 * Q) (m - 1) (i + 1) (mul-pos (pow_pos 52) (pow_pos 1074)) (less m fits) (room i I)
      (scaled (k * w.0) ((m - 1) * 2 ^ (i + 1)) (2 ^ 52) Q (drawn m k w.0 (2 ^ (i + 1)) full k_lt w.2)) in
      (g.0, subst (λ (z : Float). Val z g.0) (sym e) g.1, g.2)
    where
      room : (i : ℕ) → i ≤ 1900 → i + 1 ≤ 2000
      room i l = omega arith

      less : (m : ℕ) → m < 2 ^ 53 → m - 1 < 2 ^ 53
      less m l = omega arith

      scaled : (x y c q : ℕ) → x ≤ y * c → x * q ≤ y * (c * q)
      scaled x y c q h = le_trans (mul-le-mul_right q h) (le_of_eq (mul_assoc y c q))

      drawn : (m k w x : ℕ) → 2 ^ 52 ≤ m → k < 2 ^ 52 → w ≤ m * x → k * w ≤ (m - 1) * x * 2 ^ 52
      drawn m k w x f l h =
          let a : k * w ≤ (2 ^ 52 - 1) * (m * x) = mul-le-mul (top k l) h in
          let b : (2 ^ 52 - 1) * m ≤ (m - 1) * 2 ^ 52 = cut m f in
          le_trans a (le_trans (le_of_eq (sym (mul_assoc (2 ^ 52 - 1) m x))) (le_trans (mul-le-mul_right x b) (le_of_eq (simp (mul_assoc, mul_comm, mul_left_comm)))))
        where
          top : (k : ℕ) → k < 2 ^ 52 → k ≤ 2 ^ 52 - 1
          top k l = omega arith

          cut : (m : ℕ) → 2 ^ 52 ≤ m → (2 ^ 52 - 1) * m ≤ (m - 1) * 2 ^ 52
          cut m f = omega arith

  -- document 01's claim, for −j..j
  pub jitter_below : T (lt (real_of (neg J) J d) J)
  unfolding real_of
  jitter_below =
      let p = part in
      elim (le_or_lt (m * u) p.0) [
        | inl a ↦
            let e = minus_is (mul binary64 (mul binary64 (whole k) tiny52) (sub binary64 J (neg J))) (neg J) p.0 (m * u) p.1 (neg_value J (m * u) v) a in
            let g = round_below (p.0 - m * u) Q (m - 2) i (pow_pos 1074) (less m fits) (room i I) (mul-le-mul_right Q (rest m u (2 ^ (i + 1)) p.0 (pow-add 2 i 1) full p.2)) in
            lt_of_less (add binary64 (mul binary64 (mul binary64 (whole k) tiny52) (sub binary64 J (neg J))) (neg J)) J g.0 (m * u)
            (subst (λ (z : Float). Val z g.0) (sym e) g.1) v (lt_of_le_of_lt g.2 (mul-lt-mul_of_pos_right (down_two m full) (pow_pos i)))
        | inr a ↦
            let e = minus_neg (mul binary64 (mul binary64 (whole k) tiny52) (sub binary64 J (neg J))) (neg J) p.0 (m * u) p.1 (neg_value J (m * u) v) a in
            let g = round_value true (m * u - p.0) Q (pow_pos 1074) (lt_of_le_of_lt (sub_le (m * u) p.0) small) in
            lt_signs (add binary64 (mul binary64 (mul binary64 (whole k) tiny52) (sub binary64 J (neg J))) (neg J)) J g.0 (m * u)
            (subst (λ (z : Float). HasValue z true g.0 Q) (sym e) g.1) v (mul-pos (lt_of_lt_of_le (pow_pos 52) full) (pow_pos i))
      ]
    where
      room : (i : ℕ) → i ≤ 1900 → i ≤ 2000
      room i l = omega arith

      less : (m : ℕ) → m < 2 ^ 53 → m - 2 < 2 ^ 53
      less m l = omega arith

      down_two : (m : ℕ) → 2 ^ 52 ≤ m → m - 2 < m
      down_two m l = omega arith

      sub_le : (x y : ℕ) → x - y ≤ x
      sub_le x y = omega arith

      rest : (m u x p : ℕ) → x ≡ u * 2 → 2 ^ 52 ≤ m → p ≤ (m - 1) * x → p - m * u ≤ (m - 2) * u
      rest m u x p e f h = go (m - 2) u x p m (back m f) e h
        where
          back : (m : ℕ) → 2 ^ 52 ≤ m → m ≡ m - 2 + 2
          back m f = omega arith

          go : (n u x p m : ℕ) → m ≡ n + 2 → x ≡ u * 2 → p ≤ (m - 1) * x → p - m * u ≤ n * u
          go n u x p m a e h =
              let one : m - 1 ≡ n + 1 = omega arith in
              let h' : p ≤ (n + 1) * (u * 2) = subst (λ (z : ℕ). p ≤ z) (ap (λ (z : ℕ). z * x) one ∙ ap (λ (z : ℕ). (n + 1) * z) e) h in
              let b : m * u ≡ n * u + 2 * u = ap (λ (z : ℕ). z * u) a ∙ add-mul n 2 u in
              let c : (n + 1) * (u * 2) ≡ n * u * 2 + u * 2 = add-mul n 1 (u * 2) ∙ simp (mul_assoc, one-mul) in
              omega arith

-- ---- a spike: 10..50, where one unit in the last place of 40 and of 50 is 2 ^ 1027 units
module _ (d : ℕ) (D : d < 2 ^ 64) where
  abbrev n : ℕ
  n = d / 2 ^ 12

  n_lt : n < 2 ^ 52
  n_lt = omega arith

  -- high − low is at most 40
  span : (w : ℕ) × Val (sub binary64 (whole 50) (whole 10)) w × (w ≤ 40 * Q)
  unfolding sub
  span =
      let e = minus_is (whole 50) (neg (whole 10)) (50 * Q) (10 * Q) (of_units 50 (lit≤ tt)) (neg_value (whole 10) (10 * Q) (of_units 10 (lit≤ tt))) (lit≤ tt) in
      let g = round_below (50 * Q - 10 * Q) Q 40 1074 (pow_pos 1074) (lit≤ tt) (lit≤ tt) (lit≤ tt) in
      (g.0, subst (λ (z : Float). Val z g.0) (sym e) g.1, g.2)

  part_of : (p : ℕ) × Val (mul binary64 (mul binary64 (whole n) tiny52) (sub binary64 (whole 50) (whole 10))) p × (p ≤ (40 * 2 ^ 47 - 1) * 2 ^ 1027)
  part_of =
      let w = span in
      let e = mul_is (mul binary64 (whole n) tiny52) (sub binary64 (whole 50) (whole 10)) n (2 ^ 52) w.0 Q (pow_pos 52) (pow_pos 1074) (part_value n n_lt) w.1 in
      let g = round_below (n * w.0) (2 ^ 52 * Q) (40 * 2 ^ 47 - 1) 1027 (mul-pos (pow_pos 52) (pow_pos 1074)) (lit≤ tt) (lit≤ tt)
      (scaled (n * w.0) ((40 * 2 ^ 47 - 1) * 2 ^ 1027) (2 ^ 52) Q (le_trans (mul-le-mul (top n n_lt) w.2) (lit≤ tt))) in
      (g.0, subst (λ (z : Float). Val z g.0) (sym e) g.1, g.2)
    where
      top : (k : ℕ) → k < 2 ^ 52 → k ≤ 2 ^ 52 - 1
      top k l = omega arith

      scaled : (x y c q : ℕ) → x ≤ y * c → x * q ≤ y * (c * q)
      scaled x y c q h = le_trans (mul-le-mul_right q h) (le_of_eq (mul_assoc y c q))

  -- document 01's claim, for 10..50
  pub spike_below : T (lt (real_of (whole 10) (whole 50) d) (whole 50))
  unfolding real_of
  spike_below =
      let p = part_of in
      let e = add_is (mul binary64 (mul binary64 (whole n) tiny52) (sub binary64 (whole 50) (whole 10))) (whole 10) p.0 (10 * Q) p.1 (of_units 10 (lit≤ tt)) in
      let g = round_below (p.0 + 10 * Q) Q (50 * 2 ^ 47 - 1) 1027 (pow_pos 1074) (lit≤ tt) (lit≤ tt)
      (mul-le-mul_right Q (sum p.0 ((40 * 2 ^ 47 - 1) * 2 ^ 1027) (10 * Q) ((50 * 2 ^ 47 - 1) * 2 ^ 1027) p.2 (lit≤ tt))) in
      lt_of_less (add binary64 (mul binary64 (mul binary64 (whole n) tiny52) (sub binary64 (whole 50) (whole 10))) (whole 10)) (whole 50) g.0 (50 * Q)
      (subst (λ (z : Float). Val z g.0) (sym e) g.1) (of_units 50 (lit≤ tt)) (lt_of_le_of_lt g.2 (lit≤ tt))
    where
      sum : (x y q z : ℕ) → x ≤ y → y + q ≤ z → x + q ≤ z
      sum x y q z h k = omega arith

-- ---- inside the limits j has a full mantissa
at_least : (n : ℕ) → n ≤ closest n 1
at_least n = go (closest n 1) (closest_near n 1 (lit≤ tt)).1
  where
    go : (x : ℕ) → n * 2 ≤ x * 1 * 2 + 1 → n ≤ x
    go x h = omega arith

turn : (x c y z : ℕ) → z ≡ x * y → x * (c * y) ≡ z * c
turn x c y z e = go ∙ ap (λ (u : ℕ). u * c) (sym e)
  where
    go : x * (c * y) ≡ x * y * c
    go = simp (mul_assoc, mul_comm)

digits_of_lem : (z : ℕ) → 53 ≤ z → (52 + (z - 53) < z) × (z ≡ 53 + (z - 53))
digits_of_lem z l = (omega arith, omega arith)

size_from : (w : ℕ) → 2 ^ 52 ≤ w → 53 ≤ size w
size_from w big = elim (le_or_lt 53 (size w)) [
  | inl l ↦ l
  | inr l ↦ absurd (not-le_of_lt (lt_of_lt_of_le (size-lt w) (pow_mono (down_one (size w) l))) big)
]
  where
    down_one : (z : ℕ) → z < 53 → z ≤ 52
    down_one z l = omega arith

module _ (a c : ℕ) (C : 0 < c) (h : 2 ^ 52 * c ≤ a * Q) where
  abbrev whole_part : ℕ
  whole_part = a * Q / c

  abbrev shift : ℕ
  shift = drop 53 (a * Q) c

  many : 53 ≤ size whole_part
  many = size_from whole_part ((le-div_iff_mul-le {k = c} {x = 2 ^ 52} {y = a * Q} C).1 h)

  kept_low : 2 ^ 52 ≤ kept 53 (a * Q) c
  kept_low = le_trans (at_least (2 ^ 52)) (closest_mono (2 ^ 52) 1 (a * Q) (c * 2 ^ shift) (lit≤ tt) (mul-pos C (pow_pos shift))
      (le_trans (le_of_eq (turn (2 ^ 52) c (2 ^ shift) (2 ^ (52 + shift)) (pow-add 2 52 shift)))
      (le_trans (mul-le-mul_right c (size_reaches whole_part (52 + shift) (digits_of_lem (size whole_part) many).0)) (le_trans (div-mul-le_self (a * Q) c) (le_of_eq (sym (mul-one (a * Q))))))))

  kept_high : kept 53 (a * Q) c ≤ 2 ^ 53
  kept_high = le_trans (closest_mono (a * Q) (c * 2 ^ shift) (2 ^ 53) 1 (mul-pos C (pow_pos shift)) (lit≤ tt)
      (le_trans (le_of_eq (mul-one (a * Q)))
      (le_trans (le_of_lt (lt_of_lt_of_le (lt-div-mul-add {a = a * Q} {b = c} C)
      (le_trans (le_of_eq (sym (suc-mul whole_part c)))
      (mul-le-mul_right c (subst (λ (z : ℕ). whole_part < 2 ^ z) (digits_of_lem (size whole_part) many).1 (size-lt whole_part))))))
      (le_of_eq (sym (turn (2 ^ 53) c (2 ^ shift) (2 ^ (53 + shift)) (pow-add 2 53 shift)))))))
      (own (2 ^ 53))

  pub full_grid : (m : ℕ) × (i : ℕ) × (grid binary64 a c ≡ m * 2 ^ i) × (2 ^ 52 ≤ m) × (m < 2 ^ 53)
  full_grid = elim (le_or_lt (2 ^ 53) (kept 53 (a * Q) c)) [
    | inl top ↦ (2 ^ 52, shift + 1, ap (λ (z : ℕ). z * 2 ^ shift) (le_antisymm kept_high top) ∙ carry (2 ^ shift) (2 ^ (shift + 1)) (pow-add 2 shift 1), lit≤ tt, lit≤ tt)
    | inr less ↦ (kept 53 (a * Q) c, shift, refl, kept_low, less)
  ]
    where
      carry : (x y : ℕ) → y ≡ x * 2 → 2 ^ 53 * x ≡ 2 ^ 52 * y
      carry x y e = omega arith

exponent : (m i : ℕ) → 2 ^ 52 ≤ m → m * 2 ^ i < 2 ^ 8 * Q → i ≤ 1900
exponent m i f s =
    let z : 2 ^ 8 * Q ≤ 2 ^ 52 * 2 ^ 1900 = lit≤ tt in
    elim (le_or_lt i 1900) [
      | inl l ↦ l
      | inr l ↦ absurd (not-le_of_lt s (le_trans z (mul-le-mul f (pow_mono (le_of_lt l)))))
    ]

-- document 01's claim inside the limits: latency 1 ns to 60 s, fraction 2 ^ -20 to 1
pub jitter_first : (n : ℕ) (f : Float) (F D d : ℕ) → 1 ≤ n → n ≤ 60 * second → 0 < D → F ≤ D → D ≤ F * 2 ^ 20 → HasValue f false F D → d < 2 ^ 64
    → T (lt (real_of (neg (mul binary64 (seconds n) f)) (mul binary64 (seconds n) f) d) (mul binary64 (seconds n) f))
jitter_first n f F D d one B P L U v W =
    let s = secs_value n B in
    let s_le : s.0 ≤ 61 * Q = most s.0 n Q E B (lit≤ tt) s.2.0 in
    let s-ge : 2 ^ 72 ≤ s.0 = least s.0 n Q E (2 ^ 72) one (lit≤ tt) (lit≤ tt) s.2.1 in
    let C : 0 < Q * D = mul-pos (pow_pos 1074) P in
    let e = mul_is (seconds n) f s.0 Q F D (pow_pos 1074) P s.1 v in
    let b : grid binary64 (s.0 * F) (Q * D) ≤ 61 * Q = grid_below (s.0 * F) (Q * D) 61 1074 C (lit≤ tt) (upper s.0 F D Q s_le L) in
    let g = full_grid (s.0 * F) (Q * D) C (lower s.0 F D Q s-ge U) in
    let small : g.0 * 2 ^ g.1 < 2 ^ 8 * Q = subst (λ (z : ℕ). z < 2 ^ 8 * Q) g.2 (lt_of_le_of_lt b (lit≤ tt)) in
    jitter_below (mul binary64 (seconds n) f) g.0 g.1 d g.3 g.4 (exponent g.0 g.1 g.3 small) small
    (subst (λ (z : ℕ). Val (mul binary64 (seconds n) f) z) g.2
    (subst (λ (z : Float). Val z (grid binary64 (s.0 * F) (Q * D))) (sym e) (round_val binary64 (s.0 * F) (Q * D) (lt_of_le_of_lt b (lit≤ tt))))) W
  where
    most : (s n q e : ℕ) → n ≤ 60 * second → 2 * e ≤ q → s * second ≤ n * q + 2 * e * second → s ≤ 61 * q
    most s n q e h m t = let a : n * q ≤ 60 * second * q = mul-le-mul_right q h in omega arith

    least : (s n q e t : ℕ) → 1 ≤ n → e * 4000000000 ≤ q → t * 2000000000 ≤ q → n * q ≤ s * second + 2 * e * second → t ≤ s
    least s n q e t h m k l = let a : 1 * q ≤ n * q = mul-le-mul_right q h in omega arith

    upper : (s F D q : ℕ) → s ≤ 61 * q → F ≤ D → s * F * q ≤ 61 * q * (q * D)
    upper s F D q h l = le_trans (mul-le-mul_right q (mul-le-mul h l)) (le_of_eq (go (61 * q) D q))
      where
        go : (x y z : ℕ) → x * y * z ≡ x * (z * y)
        go x y z = simp (mul_assoc, mul_comm)

    lower : (s F D q : ℕ) → 2 ^ 72 ≤ s → D ≤ F * 2 ^ 20 → 2 ^ 52 * (q * D) ≤ s * F * q
    lower s F D q h l =
        let x : 2 ^ 72 * F ≤ s * F = mul-le-mul_right F h in
        let y : 2 ^ 52 * D ≤ s * F = omega arith in
        le_trans (le_of_eq (go (2 ^ 52) q D)) (mul-le-mul_right q y)
      where
        go : (x y z : ℕ) → x * (y * z) ≡ x * z * y
        go x y z = simp (mul_assoc, mul_comm)
