-- What the bits of a fraction stand for, and that question 3 admits those of `InOpening` and no others.
use mathlib.Core.Path.{◌≡◌, refl, sym, ap, ◌∙◌, subst}
use mathlib.Core.Logic.{inl, inr}
use mathlib.Core.Bool.{Bool, true, false, not, cond, ◌&&◌, ◌||◌}
use Prim.Native.Nat.{ℕ, zero, suc, ◌+◌, ◌-◌, ◌*◌, ◌%◌, ◌^◌, ◌≤◌, ◌<◌, zero-le}
use native.Mathlib.Nat.{le_of_eq, le_trans, mul-le-mul_right, le_of_mul-le-mul_right, eq_of_mul-eq-mul_right, one-mul}
use native.Mathlib.Omega.{arith}
use lib.IntN.{ℤ, pos, negsuc}
use lib.Arith.{lt→nleb}
use lib.Dec.{T, leb, eqb, eqb→eq, nleb→lt, not_T}
use lib.Pow.{pow-add, pow_pos, pow-lt}
use lib.Ieee.{Float, nan, inf, fin, binary64, up, down, odd, of_fields, of_bits, eq, le}
use lib.Ieee.Bits.{is_false, cond_no}
use lib.Ieee.Exact.{HasValue, odd_sign}
use lib.Ieee.Fits.{down_pos}
use lib.Ieee.Order.{le_of_values}
use lib.Ieee.Positive.{num, den, den_pos}
use Rattle.math_float.specs.Float.{zero64, one64}
use Rattle.math_bounds.proofs.Order.{le_or_lt}
use Rattle.link_latency.specs.Admitted.{fraction_admitted}
use Rattle.link_latency.proofs.Admit.{admits}
use Rattle.link_delay.specs.Delay.{field, front, behind, digits, places, InOpening}

-- ---- values of a float
-- one float as two fractions
same_value : (x : Float) (s t : Bool) (a c b d : ℕ) → HasValue x s a c → HasValue x t b d → (s ≡ t) × (a * d ≡ b * c)
same_value nan s t a c b d h k = absurd h
same_value (inf r) s t a c b d h k = absurd h
same_value (fin r m e) s t a c b d h k = (sym h.0 ∙ k.0, eq_of_mul-eq-mul_right (down e) (down_pos e) (a * d) (b * c) (go (m * up e) (down e) h.1 k.1))
  where
    go : (n o : ℕ) → n * c ≡ a * o → n * d ≡ b * o → a * d * o ≡ b * c * o
    go n o p q = let x : n * c * d ≡ a * o * d = ap (λ (z : ℕ). z * d) p in let y : n * d * c ≡ b * o * c = ap (λ (z : ℕ). z * c) q in omega arith

pub cross : (x : Float) (s : Bool) (a c : ℕ) → HasValue x s a c → num x * c ≡ a * den x
cross nan s a c h = absurd h
cross (inf t) s a c h = absurd h
cross (fin t m e) s a c h = h.1

-- q × 2^j / 2^(j + k) is q / 2^k
reduce : (x : Float) (s : Bool) (q j k : ℕ) → HasValue x s (q * 2 ^ j) (2 ^ (j + k)) → HasValue x s q (2 ^ k)
reduce nan s q j k h = h
reduce (inf t) s q j k h = h
reduce (fin t m e) s q j k h = (h.0, eq_of_mul-eq-mul_right (2 ^ j) (pow_pos j) (m * up e * 2 ^ k) (q * down e) (go (m * up e) (down e) (2 ^ j) (2 ^ k) (2 ^ (j + k)) (pow-add 2 j k) h.1))
  where
    go : (n d a b c : ℕ) → c ≡ a * b → n * c ≡ q * a * d → n * b * a ≡ q * d * a
    go n d a b c e h = let x : n * (a * b) ≡ q * a * d = ap (λ (z : ℕ). n * z) (sym e) ∙ h in omega arith

-- ---- the fields
of_bits_is : (b : ℕ) → of_bits binary64 b ≡ of_fields binary64 (leb (2 ^ 63) b) (field b) (b % 2 ^ 52)
unfolding of_bits
of_bits_is b = refl

-- a field is at most 1,075, or the value is over 1
value_of : (s : Bool) (x t : ℕ) → x ≤ 1075 → HasValue (of_fields binary64 s x t) s (front x + t) (2 ^ behind x)
unfolding of_fields
value_of s zero t h = subst (λ (z : ℕ). HasValue (odd 53 s t 0 1074) s z (2 ^ 1074)) (tidy t) (odd_sign 53 s t 0 1074)
  where
    tidy : (t : ℕ) → t * 1 ≡ 0 + t
    tidy t = omega arith
value_of s (suc j) t h =
    let q = 2 ^ 52 + t in
    let v = odd 53 s q j 1074 in
    let finite : T (not (eqb (suc j) 2047)) = not_T (eqb (suc j) 2047) (λ e. far (suc j) (eqb→eq (suc j) 2047 e) h) in
    let split : HasValue v s (q * 2 ^ j) (2 ^ (j + (1074 - j))) = subst (λ (z : ℕ). HasValue v s (q * 2 ^ j) (2 ^ z)) (sum j h) (odd_sign 53 s q j 1074) in
    subst (λ (z : Float). HasValue z s q (2 ^ (1074 - j))) (sym (cond_no (eqb (suc j) 2047) (cond (eqb t 0) (inf s) nan) v finite)) (reduce v s q j (1074 - j) split)
  where
    far : (x : ℕ) → x ≡ 2047 → x ≤ 1075 → ⊥
    far x e h = omega arith

    sum : (j : ℕ) → suc j ≤ 1075 → 1074 ≡ j + (1074 - j)
    sum j h = omega arith

-- a value that is at most 1 has such a field
abbrev Small : Float → Type 0
Small f = (s : Bool) × (n : ℕ) × (d : ℕ) × (0 < d) × HasValue f s n d × (n ≤ d)

in_field : (s : Bool) (x t : ℕ) → Small (of_fields binary64 s x t) → x ≤ 1075
unfolding of_fields
in_field s zero t v = zero-le
in_field s (suc j) t v = elim (le_or_lt (suc j) 1075) [ inl h ↦ h | inr h ↦ absurd (go (eqb (suc j) 2047) (eqb t 0) v h) ]
  where
    over : (n d q a l : ℕ) → 0 < d → n ≤ d → l < a → q * a * d ≡ n * l → 0 < q → ⊥
    over n d q a l D h k e Q =
        let w : l + 1 ≤ a = omega arith in
        let x : n * l ≤ d * l = mul-le-mul_right l h in
        let y : (l + 1) * d ≤ a * d = mul-le-mul_right d w in
        let z : 1 * (a * d) ≤ q * (a * d) = mul-le-mul_right (a * d) Q in
        omega arith

    go : (a b : Bool) → Small (cond a (cond b (inf s) nan) (odd 53 s (2 ^ 52 + t) j 1074)) → 1075 < suc j → ⊥
    go true true v h = v.4
    go true false v h = v.4
    go false b v h =
        over v.1 v.2 (2 ^ 52 + t) (2 ^ j) (2 ^ 1074) v.3 v.5 (pow-lt (past j h))
        (same_value (odd 53 s (2 ^ 52 + t) j 1074) s v.0 ((2 ^ 52 + t) * 2 ^ j) (2 ^ 1074) v.1 v.2 (odd_sign 53 s (2 ^ 52 + t) j 1074) v.4).1 (front_pos t)
      where
        past : (j : ℕ) → 1075 < suc j → 1074 < j
        past j h = omega arith

        front_pos : (t : ℕ) → 0 < 2 ^ 52 + t
        front_pos t = omega arith

-- ---- what `InOpening` gives
module _ (b : ℕ) where
  abbrev S : Bool
  S = leb (2 ^ 63) b

  abbrev t : ℕ
  t = b % 2 ^ 52

  pub value : field b ≤ 1075 → HasValue (of_bits binary64 b) S (digits b) (2 ^ places b)
  unfolding digits places
  value h = subst (λ (x : Float). HasValue x S (front (field b) + t) (2 ^ behind (field b))) (sym (of_bits_is b)) (value_of S (field b) t h)

  -- 0 has the field 0
  none_field : digits b ≡ 0 → field b ≤ 1075
  unfolding digits
  none_field e = go (field b) t e
    where
      go : (x t : ℕ) → front x + t ≡ 0 → x ≤ 1075
      go zero t e = zero-le
      go (suc x) t e = absurd (no t e)
        where
          no : (t : ℕ) → 2 ^ 52 + t ≡ 0 → ⊥
          no t e = omega arith

  some_field : digits b ≤ 2 ^ places b → field b ≤ 1075
  unfolding digits places
  some_field h = go (field b) t h
    where
      go : (x t : ℕ) → front x + t ≤ 2 ^ behind x → x ≤ 1075
      go zero t h = zero-le
      go (suc j) t h = elim (le_or_lt (suc j) 1075) [ inl k ↦ k | inr k ↦ absurd (no t (subst (λ (z : ℕ). 2 ^ 52 + t ≤ 2 ^ z) (none j k) h)) ]
        where
          none : (j : ℕ) → 1075 < suc j → 1074 - j ≡ 0
          none j k = omega arith

          no : (t : ℕ) → 2 ^ 52 + t ≤ 1 → ⊥
          no t h = omega arith

  pub in_opening_field : InOpening b → field b ≤ 1075
  in_opening_field (inl z) = none_field z
  in_opening_field (inr h) = some_field h.2

  -- a NaN's and an infinity's are neither
  small : {f : Float} → f ≡ of_bits binary64 b → Small f → field b ≤ 1075
  small e v = in_field S (field b) t (subst Small (e ∙ of_bits_is b) v)

-- ---- question 3
zero_is : (s : Bool) (x t : ℕ) → front x + t ≡ 0 → of_fields binary64 s x t ≡ fin s 0 (pos 0)
unfolding of_fields odd
zero_is s zero zero e = refl
zero_is s zero (suc t) e = absurd (no t e)
  where
    no : (t : ℕ) → 0 + suc t ≡ 0 → ⊥
    no t e = omega arith
zero_is s (suc x) t e = absurd (no t e)
  where
    no : (t : ℕ) → 2 ^ 52 + t ≡ 0 → ⊥
    no t e = omega arith

zero_admitted : (s : Bool) → fraction_admitted (fin s 0 (pos 0)) ≡ true
unfolding fraction_admitted eq
zero_admitted true = refl
zero_admitted false = refl

either : (a b c : Bool) → T b → T c → a || (b && c) ≡ true
either true b c h k = refl
either false true true h k = refl
either false true false h k = absurd k
either false false c h k = absurd h

some_admitted : (x : Float) (m p : ℕ) → 0 < p → HasValue x false m p → p ≤ m * 2 ^ 20 → m ≤ p → fraction_admitted x ≡ true
unfolding fraction_admitted
some_admitted x m p P v lo hi =
    either (eq x zero64) (le (fin false 1 (negsuc 19)) x) (le x one64)
    (le_of_values (fin false 1 (negsuc 19)) x 1 (2 ^ 20) m p (pow_pos 20) P (refl, refl) v (le_trans (le_of_eq (one-mul p)) lo))
    (le_of_values x one64 m p 1 1 P (pow_pos 0) v (refl, refl) (tidy m p hi))
  where
    tidy : (m p : ℕ) → m ≤ p → m * 1 ≤ 1 * p
    tidy m p h = omega arith

pub opening_admits : (b : ℕ) → InOpening b → fraction_admitted (of_bits binary64 b) ≡ true
unfolding digits
opening_admits b (inl z) = ap fraction_admitted (of_bits_is b ∙ zero_is (leb (2 ^ 63) b) (field b) (b % 2 ^ 52) z) ∙ zero_admitted (leb (2 ^ 63) b)
opening_admits b (inr h) =
    some_admitted (of_bits binary64 b) (digits b) (2 ^ places b) (pow_pos (places b))
    (subst (λ (s : Bool). HasValue (of_bits binary64 b) s (digits b) (2 ^ places b)) (is_false (leb (2 ^ 63) b) (lt→nleb (2 ^ 63) b h.0)) (value b (in_opening_field b (inr h)))) h.1 h.2

-- the other way
module _ (b : ℕ) (h : fraction_admitted (of_bits binary64 b) ≡ true) where
  abbrev f : Float
  f = of_bits binary64 b

  zero_digits : (s : Bool) (e : ℤ) → f ≡ fin s 0 e → digits b ≡ 0
  zero_digits s e p =
      let v : HasValue f s 0 1 = subst (λ (x : Float). HasValue x s 0 1) (sym p) (refl, ends (up e) (down e)) in
      let k = small b {f = f} refl (s, 0, 1, pow_pos 0, v, zero-le) in
      last (digits b) (2 ^ places b) (same_value f (leb (2 ^ 63) b) s (digits b) (2 ^ places b) 0 1 (value b k) v).1
    where
      ends : (u d : ℕ) → 0 * u * 1 ≡ 0 * d
      ends u d = omega arith

      last : (m p : ℕ) → m * 1 ≡ 0 * p → m ≡ 0
      last m p e = omega arith

  between : HasValue f false (num f) (den f) → num f ≤ den f → den f ≤ num f * 2 ^ 20 → InOpening b
  between v hi lo =
      let k = small b {f = f} refl (false, num f, den f, den_pos f, v, hi) in
      let w = same_value f (leb (2 ^ 63) b) false (digits b) (2 ^ places b) (num f) (den f) (value b k) v in
      inr (
        nleb→lt (2 ^ 63) b (subst (λ (s : Bool). T (not s)) (sym w.0) tt),
        le_of_mul-le-mul_right (low (digits b) (2 ^ places b) (num f) (den f) w.1 lo) (den_pos f),
        le_of_mul-le-mul_right (high (digits b) (2 ^ places b) (num f) (den f) w.1 hi) (den_pos f),
      )
    where
      low : (m p n d : ℕ) → m * d ≡ n * p → d ≤ n * 2 ^ 20 → p * d ≤ m * 2 ^ 20 * d
      low m p n d e h = let x : d * p ≤ n * 2 ^ 20 * p = mul-le-mul_right p h in omega arith

      high : (m p n d : ℕ) → m * d ≡ n * p → n ≤ d → m * d ≤ p * d
      high m p n d e h = let x : n * p ≤ d * p = mul-le-mul_right p h in omega arith

  pub admitted_in_opening : InOpening b
  admitted_in_opening = elim (admits f (subst T (sym h) tt)) [ inl z ↦ inl (zero_digits z.0 z.1 z.2) | inr v ↦ between v.0 v.1 v.2 ]
