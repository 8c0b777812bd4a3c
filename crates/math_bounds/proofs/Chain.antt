-- The operations of the latency, each with its value in units of 2 ^ -1074 and how far that is off.
use mathlib.Core.Path.{◌≡◌, refl, sym, ap, ◌∙◌, subst}
use mathlib.Core.Bool.{Bool, true, false}
use Prim.Native.Nat.{ℕ, ◌+◌, ◌-◌, ◌*◌, ◌/◌, ◌%◌, ◌^◌, ◌≤◌, ◌<◌}
use native.Mathlib.Nat.{le_trans, le_of_eq, le_of_lt, mul_assoc, mul_right_comm, mul-le-mul_right, le_of_mul-le-mul_right, mul-pos, mod-lt, add-mul, zero-lt-suc, div-add-mod'}
use native.Mathlib.Omega.{arith}
use lib.Dec.{lit≤}
use lib.Pow.{pow_pos}
use lib.Ieee.{Float, nan, inf, fin, binary64, up, down, round, add, mul, div, of_int}
use lib.Ieee.Exact.{HasValue}
use lib.Ieee.Back.{round_whole}
use Rattle.math_time.specs.Seconds.{second, seconds, whole}
use Rattle.math_bounds.proofs.Near.{Near, Q, E, round_value, add_is, mul_is, div_is, minus_is, minus_neg}

abbrev pub Val : Float → ℕ → Type 0
Val x a = HasValue x false a Q

-- ---- factors taken out
divide : (q e g x : ℕ) → 0 < q → Near (e * q) (g * q) (x * q) → Near e g x
divide q e g x K h =
    (le_of_mul-le-mul_right (le_trans h.0 (le_of_eq (sym (add-mul x e q)))) K, le_of_mul-le-mul_right (le_trans h.1 (le_of_eq (sym (add-mul g e q)))) K)

retype : {e e' a a' b b' : ℕ} → e ≡ e' → a ≡ a' → b ≡ b' → Near e a b → Near e' a' b'
retype {e} {e'} {a} {a'} {b} {b'} p q r h = subst (λ (z : ℕ). Near z a' b') p (subst (λ (z : ℕ). Near e z b') q (subst (λ (z : ℕ). Near e a z) r h))

-- ---- whole numbers
of_int_is : (n : ℕ) → whole n ≡ round binary64 false n 1
unfolding of_int
of_int_is n = refl

pub of_value : (n : ℕ) → n ≤ 2 ^ 53 → HasValue (whole n) false n 1
of_value n h = subst (λ (z : Float). HasValue z false n 1) (sym (of_int_is n)) (round_whole binary64 false n h)

scale_up : (x : Float) (s : Bool) (n c q : ℕ) → HasValue x s n c → HasValue x s (n * q) (c * q)
scale_up nan s n c q h = h
scale_up (inf t) s n c q h = h
scale_up (fin t m e) s n c q h = (h.0, sym (mul_assoc (m * up e) c q) ∙ ap (λ (z : ℕ). z * q) h.1 ∙ mul_right_comm n (down e) q)

one_times : (q : ℕ) → 1 * q ≡ q
one_times q = omega arith

units : (x : Float) (n : ℕ) → HasValue x false n 1 → Val x (n * Q)
units x n h = subst (λ (z : ℕ). HasValue x false (n * Q) z) (one_times Q) (scale_up x false n 1 Q h)

pub of_units : (n : ℕ) → n ≤ 2 ^ 53 → Val (whole n) (n * Q)
of_units n h = units (whole n) n (of_value n h)

-- ---- sums
pub value_add : (x y : Float) (a b : ℕ) → Val x a → Val y b → a + b < 2 ^ 8 * Q → (g : ℕ) × Val (add binary64 x y) g × Near E g (a + b)
value_add x y a b h k l =
    let r = round_value false (a + b) Q (pow_pos 1074) l in
    (r.0, subst (λ (z : Float). Val z r.0) (sym (add_is x y a b h k)) r.1, divide Q E r.0 (a + b) (pow_pos 1074) r.2)

pub value_minus : (x y : Float) (a b : ℕ) → Val x a → HasValue y true b Q → b ≤ a → a - b < 2 ^ 8 * Q → (g : ℕ) × Val (add binary64 x y) g × Near E g (a - b)
value_minus x y a b h k o l =
    let r = round_value false (a - b) Q (pow_pos 1074) l in
    (r.0, subst (λ (z : Float). Val z r.0) (sym (minus_is x y a b h k o)) r.1, divide Q E r.0 (a - b) (pow_pos 1074) r.2)

pub value_minus_neg : (x y : Float) (a b : ℕ) → Val x a → HasValue y true b Q → a < b → b - a < 2 ^ 8 * Q → (g : ℕ) × HasValue (add binary64 x y) true g Q × Near E g (b - a)
value_minus_neg x y a b h k o l =
    let r = round_value true (b - a) Q (pow_pos 1074) l in
    (r.0, subst (λ (z : Float). HasValue z true r.0 Q) (sym (minus_neg x y a b h k o)) r.1, divide Q E r.0 (b - a) (pow_pos 1074) r.2)

-- ---- a product with one factor in units, and the other a fraction b / c
pub value_mul : (x y : Float) (a b c : ℕ) → 0 < c → Val x a → HasValue y false b c → a * b < 2 ^ 8 * (Q * c) → (g : ℕ) × Val (mul binary64 x y) g × Near (E * c) (g * c) (a * b)
value_mul x y a b c C h k l =
    let r = round_value false (a * b) (Q * c) (mul-pos (pow_pos 1074) C) l in
    (r.0, subst (λ (z : Float). Val z r.0) (sym (mul_is x y a Q b c (pow_pos 1074) C h k)) r.1, divide Q (E * c) (r.0 * c) (a * b) (pow_pos 1074) (retype (turn E Q c) (turn r.0 Q c) refl r.2))
  where
    turn : (e q c : ℕ) → e * (q * c) ≡ e * c * q
    turn e q c = omega arith

pub value_mul' : (x y : Float) (a c b : ℕ) → 0 < c → HasValue x false a c → Val y b → a * b < 2 ^ 8 * (c * Q) → (g : ℕ) × Val (mul binary64 x y) g × Near (E * c) (g * c) (a * b)
value_mul' x y a c b C h k l =
    let r = round_value false (a * b) (c * Q) (mul-pos C (pow_pos 1074)) l in
    (r.0, subst (λ (z : Float). Val z r.0) (sym (mul_is x y a c b Q C (pow_pos 1074) h k)) r.1, divide Q (E * c) (r.0 * c) (a * b) (pow_pos 1074) (retype (turn E c Q) (turn r.0 c Q) refl r.2))
  where
    turn : (e c q : ℕ) → e * (c * q) ≡ e * c * q
    turn e c q = omega arith

-- ---- the seconds of n nanoseconds
pub secs_upto : (n : ℕ) → n ≤ 200 * second → (s : ℕ) × Val (seconds n) s × Near (2 * E * second) (s * second) (n * Q)
unfolding seconds
secs_upto n h =
    let w = n / second in
    let r = n % second in
    let R : r < second = mod-lt n (zero-lt-suc 999999999) in
    let q = round_value false r second (zero-lt-suc 999999999) (small r R) in
    let part : Val (div binary64 (whole r) (whole second)) q.0 =
    subst (λ (z : Float). Val z q.0) (sym (div_is (whole r) (whole second) r second (zero-lt-suc 999999999) (of_value r (fits r R)) (of_value second (lit≤ tt)))) q.1 in
    let t = value_add (whole w) (div binary64 (whole r) (whole second)) (w * Q) q.0 (units (whole w) w (of_value w (room n h))) part (bound w r q.0 Q E (wide n h) R (pow_pos 1074) (lit≤ tt) q.2.0) in
    (t.0, t.1, join w r q.0 t.0 Q E n (div-add-mod' n second) q.2 t.2)
  where
    small : (r : ℕ) → r < second → r < 2 ^ 8 * second
    small r h = omega arith

    fits : (r : ℕ) → r < second → r ≤ 2 ^ 53
    fits r h = omega arith

    room : (n : ℕ) → n ≤ 200 * second → n / second ≤ 2 ^ 53
    room n h = omega arith

    wide : (n : ℕ) → n ≤ 200 * second → n / second ≤ 200
    wide n h = omega arith

    bound : (w r g q e : ℕ) → w ≤ 200 → r < second → 0 < q → e ≤ q → g * second ≤ r * q + e * second → w * q + g < 2 ^ 8 * q
    bound w r g q e W R K m t =
        let a : w * q ≤ 200 * q = mul-le-mul_right q W in
        let b : r * q ≤ second * q = mul-le-mul_right q (le_of_lt R) in
        omega arith

    join : (w r g s q e n : ℕ) → w * second + r ≡ n → Near (e * second) (g * second) (r * q) → Near e s (w * q + g) → Near (2 * e * second) (s * second) (n * q)
    join w r g s q e n d a b =
        let x : w * second * q + r * q ≡ n * q = sym (add-mul (w * second) r q) ∙ ap (λ (z : ℕ). z * q) d in
        (omega (arith, a.0, b.0), omega (arith, a.1, b.1))

pub secs_value : (n : ℕ) → n ≤ 60 * second → (s : ℕ) × Val (seconds n) s × Near (2 * E * second) (s * second) (n * Q)
secs_value n h = secs_upto n (le_trans h (lit≤ tt))
