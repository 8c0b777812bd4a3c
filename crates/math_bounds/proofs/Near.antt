-- Error bounds of the binary64 operations on values that are not negative, in units of 2 ^ -1074: an operation whose exact result is below 2 ^ 8 is off by at most 2 ^ -46.
use mathlib.Core.Path.{◌≡◌, refl, sym, ap, ◌∙◌, subst}
use mathlib.Core.Bool.{Bool, true, false, not, cond, true≢false, false≢true}
use Prim.Native.Nat.{ℕ, zero, suc, ◌+◌, ◌-◌, ◌*◌, ◌/◌, ◌%◌, ◌^◌, ◌≤◌, ◌<◌, compare, Ordering}
use native.Mathlib.Nat.{
  le_trans,
  le_of_lt,
  le_of_eq,
  lt_of_lt_of_le,
  lt_of_le_of_lt,
  mul_comm,
  mul_assoc,
  mul_right_comm,
  mul-le-mul_right,
  mul-lt-mul_of_pos_right,
  le_of_mul-le-mul_right,
  mul-pos,
  mod-lt,
  div-add-mod',
  div-lt_iff_lt-mul,
  sub-add_cancel,
  mul-mul-mul_comm,
  lt_of_not-le,
  add-mul,
  not-le_of_lt,
  lt_irrefl,
  zero-mul,
  zero-lt-suc,
}
use native.Mathlib.Omega.{arith}
use lib.Ieee.Bits.{cond_no}
use lib.Dec.{T, eqb, eqb→eq, ltb, ltb→lt, lit≤, nltb→le}
use lib.Pow.{pow-add, pow_pos, pow_mono, pow-lt}
use lib.Ieee.{Float, nan, inf, fin, binary64, up, down, size, nearest, round, sum, add, mul, div, neg}
use lib.Ieee.Digits.{size-le}
use lib.Ieee.Fits.{up_pos, down_pos, round_is}
use lib.Ieee.Exact.{HasValue, units_val}
use lib.Ieee.Nearest.{closest}
use lib.Ieee.Order.{drop, kept, transfer}
use lib.Ieee.Scale.{grid, overflow, round_same}
use Rattle.math_time.proofs.Rounding.{Cmp, cmp}

-- a and b differ by at most e
abbrev pub Near : ℕ → ℕ → ℕ → Type 0
Near e a b = (a ≤ b + e) × (b ≤ a + e)

-- ---- 1. the nearest whole number is within a half
pub closest_near : (a b : ℕ) → 0 < b → Near b (closest a b * b * 2) (a * 2)
closest_near a b B = go (a / b) (a % b) (compare (a % b * 2) b) (cmp (a % b * 2) b) (div-add-mod' a b) (mod-lt a B)
  where
    go : (q r : ℕ) (o : Ordering) → Cmp o (r * 2) b → q * b + r ≡ a → r < b → Near b (nearest q o * b * 2) (a * 2)
    go q r Ordering.lt c e l = (omega arith, omega arith)
    go q r Ordering.gt c e l = (omega arith, omega arith)
    go q r Ordering.eq c e l = tie (q % 2) refl
      where
        tie : (p : ℕ) → q % 2 ≡ p → Near b ((q + p) * b * 2) (a * 2)
        tie zero f = (omega arith, omega arith)
        tie (suc zero) f = (omega arith, omega arith)
        tie (suc (suc p)) f = absurd (omega arith)

-- ---- 2. a rounded fraction below 2 ^ 8 is off by at most 2 ^ -46
abbrev pub Q : ℕ
Q = 2 ^ 1074

abbrev pub E : ℕ
E = 2 ^ 1028

-- below 2 ^ h: off by at most 2 ^ (h - 54), which is 2 ^ (1020 + h) units
drop_le : (h a c : ℕ) → 0 < c → a < 2 ^ h * c → drop 53 (a * Q) c ≤ 1020 + h + 1
drop_le h a c C l = go (size (a * Q / c))
    (size-le (a * Q / c) (h + 1074)
    ((div-lt_iff_lt-mul C).1 (lt_of_lt_of_le (mul-lt-mul_of_pos_right l (pow_pos 1074)) (le_of_eq (mul_right_comm (2 ^ h) c Q ∙ ap (λ (z : ℕ). z * c) (sym (pow-add 2 h 1074)))))))
  where
    go : (z : ℕ) → z ≤ h + 1074 → z - 53 ≤ 1020 + h + 1
    go z l = omega arith

grid_near : (h a c : ℕ) → 0 < c → a < 2 ^ h * c → Near (2 ^ (1020 + h) * c) (grid binary64 a c * c) (a * Q)
grid_near h a c C l =
    let k = drop 53 (a * Q) c in
    let u = c * 2 ^ k in
    let small : 2 ^ k ≤ 2 ^ (1020 + h + 1) = pow_mono (drop_le h a c C l) in
    go (closest (a * Q) u) (2 ^ k) (a * Q) (2 ^ (1020 + h)) (subst (λ (z : ℕ). 2 ^ k ≤ z) (pow-add 2 (1020 + h) 1) small) (closest_near (a * Q) u (mul-pos C (pow_pos k)))
  where
    go : (q p n e : ℕ) → p ≤ e * 2 → Near (c * p) (q * (c * p) * 2) (n * 2) → Near (e * c) (q * p * c) n
    go q p n e s t = let m : p * c ≤ e * 2 * c = mul-le-mul_right c s in (omega (arith, t.0), omega (arith, t.1))

-- finite, where h is at most 900
grid_lt : (h a c : ℕ) → h ≤ 900 → 0 < c → a < 2 ^ h * c → grid binary64 a c < overflow binary64
grid_lt h a c H C l =
    lt_of_le_of_lt (go (grid binary64 a c) (2 ^ h) Q (2 ^ (1020 + h)) (le_trans (pow_mono (small h)) (le_of_eq (pow-add 2 h 1074))) (le_of_lt l) (grid_near h a c C l).0)
    (subst (λ (z : ℕ). z < overflow binary64) (pow-add 2 (1 + h) 1074 ∙ ap (λ (z : ℕ). z * Q) (pow-add 2 1 h) ∙ mul_assoc 2 (2 ^ h) Q) (pow-lt (room h H)))
  where
    small : (h : ℕ) → 1020 + h ≤ h + 1074
    small h = omega arith

    room : (h : ℕ) → h ≤ 900 → 1 + h + 1074 < 2098
    room h l = omega arith

    go : (g p q e : ℕ) → e ≤ p * q → a ≤ p * c → g * c ≤ a * q + e * c → g ≤ 2 * (p * q)
    go g p q e m y t =
        let x : a * q ≤ p * c * q = mul-le-mul_right q y in
        let z : e * c ≤ p * q * c = mul-le-mul_right c m in
        le_of_mul-le-mul_right {m = g} {n = 2 * (p * q)} {k = c} (omega arith) C

-- the value of a rounded fraction, of either sign
pub round_at : (h : ℕ) (s : Bool) (a c : ℕ) → h ≤ 900 → 0 < c → a < 2 ^ h * c → (g : ℕ) × HasValue (round binary64 s a c) s g Q × Near (2 ^ (1020 + h) * c) (g * c) (a * Q)
round_at h s a c H C l = (
  grid binary64 a c,
  subst (λ (z : Float). HasValue z s (grid binary64 a c) Q) (sym (round_is binary64 s a c)) (units_val binary64 s (kept 53 (a * Q) c) (drop 53 (a * Q) c) (grid_lt h a c H C l)),
  grid_near h a c C l,
)

pub round_value : (s : Bool) (a c : ℕ) → 0 < c → a < 2 ^ 8 * c → (g : ℕ) × HasValue (round binary64 s a c) s g Q × Near (E * c) (g * c) (a * Q)
round_value s a c C l = round_at 8 s a c (lit≤ tt) C l

-- ---- 3. what an operation rounds, from the units of its operands
module _ (X a dx Y b dy q : ℕ) (p : X * q ≡ a * dx) (r : Y * q ≡ b * dy) where
  cross_sum : (X * dy + Y * dx) * q ≡ (a + b) * (dx * dy)
  cross_sum = let u : X * q * dy ≡ a * dx * dy = ap (λ (z : ℕ). z * dy) p in let v : Y * q * dx ≡ b * dy * dx = ap (λ (z : ℕ). z * dx) r in omega arith

  cross_less : b ≤ a → Y * dx ≤ X * dy → (X * dy - Y * dx) * q ≡ (a - b) * (dx * dy)
  cross_less h k =
      let i : (X * dy - Y * dx) * q + Y * dx * q ≡ X * dy * q = sym (add-mul (X * dy - Y * dx) (Y * dx) q) ∙ ap (λ (z : ℕ). z * q) (sub-add_cancel k) in
      let j : (a - b) * (dx * dy) + b * (dx * dy) ≡ a * (dx * dy) = sym (add-mul (a - b) b (dx * dy)) ∙ ap (λ (z : ℕ). z * (dx * dy)) (sub-add_cancel h) in
      let u : X * q * dy ≡ a * dx * dy = ap (λ (z : ℕ). z * dy) p in
      let v : Y * q * dx ≡ b * dy * dx = ap (λ (z : ℕ). z * dx) r in
      go ((X * dy - Y * dx) * q) ((a - b) * (dx * dy)) i j u v
    where
      go : (g h : ℕ) → g + Y * dx * q ≡ X * dy * q → h + b * (dx * dy) ≡ a * (dx * dy) → X * q * dy ≡ a * dx * dy → Y * q * dx ≡ b * dy * dx → g ≡ h
      go g h i j u v = omega arith

cross_mul : (X a dx Y b dy q u : ℕ) → X * q ≡ a * dx → Y * u ≡ b * dy → X * Y * (q * u) ≡ a * b * (dx * dy)
cross_mul X a dx Y b dy q u p r = mul-mul-mul_comm X Y q u ∙ ap (λ (z : ℕ). z * (Y * u)) p ∙ ap (λ (z : ℕ). a * dx * z) r ∙ mul-mul-mul_comm a dx b dy

pub add_is : (x y : Float) (a b : ℕ) → HasValue x false a Q → HasValue y false b Q → add binary64 x y ≡ round binary64 false (a + b) Q
unfolding add sum
add_is nan y a b h k = absurd h
add_is (inf s) y a b h k = absurd h
add_is (fin s m e) nan a b h k = absurd k
add_is (fin s m e) (inf t) a b h k = absurd k
add_is (fin true m e) (fin t n d) a b h k = absurd (true≢false h.0)
add_is (fin false m e) (fin true n d) a b h k = absurd (true≢false k.0)
add_is (fin false m e) (fin false n d) a b h k =
    round_same binary64 false (m * up e * down d + n * up d * down e) (down e * down d) (a + b) Q (mul-pos (down_pos e) (down_pos d)) (pow_pos 1074)
    (cross_sum (m * up e) a (down e) (n * up d) b (down d) Q h.1 k.1)

pub mul_is : (x y : Float) (a c b c' : ℕ) → 0 < c → 0 < c' → HasValue x false a c → HasValue y false b c' → mul binary64 x y ≡ round binary64 false (a * b) (c * c')
unfolding mul
mul_is nan y a c b c' C C' h k = absurd h
mul_is (inf s) y a c b c' C C' h k = absurd h
mul_is (fin s m e) nan a c b c' C C' h k = absurd k
mul_is (fin s m e) (inf t) a c b c' C C' h k = absurd k
mul_is (fin true m e) (fin t n d) a c b c' C C' h k = absurd (true≢false h.0)
mul_is (fin false m e) (fin true n d) a c b c' C C' h k = absurd (true≢false k.0)
mul_is (fin false m e) (fin false n d) a c b c' C C' h k =
    round_same binary64 false (m * up e * (n * up d)) (down e * down d) (a * b) (c * c') (mul-pos (down_pos e) (down_pos d)) (mul-pos C C')
    (cross_mul (m * up e) a (down e) (n * up d) b (down d) c c' h.1 k.1)

positive : (n : ℕ) → T (not (eqb (suc n) 0))
positive n = go (eqb (suc n) 0) (eqb→eq (suc n) 0)
  where
    go : (b : Bool) → (T b → suc n ≡ 0) → T (not b)
    go true h = absurd (lt_irrefl 0 (subst (λ (z : ℕ). 0 < z) (h tt) (zero-lt-suc n)))
    go false h = tt

pub div_is : (x y : Float) (a b : ℕ) → 0 < b → HasValue x false a 1 → HasValue y false b 1 → div binary64 x y ≡ round binary64 false a b
unfolding div
div_is nan y a b B h k = absurd h
div_is (inf s) y a b B h k = absurd h
div_is (fin s m e) nan a b B h k = absurd k
div_is (fin s m e) (inf t) a b B h k = absurd k
div_is (fin true m e) (fin t n d) a b B h k = absurd (true≢false h.0)
div_is (fin false m e) (fin true n d) a b B h k = absurd (true≢false k.0)
div_is (fin false m e) (fin false zero d) a b B h k = absurd (lt_irrefl 0 (subst (λ (z : ℕ). 0 < z) (sym k.1 ∙ ap (λ (z : ℕ). z * 1) (zero-mul (up d))) (mul-pos B (down_pos d))))
div_is (fin false m e) (fin false (suc n) d) a b B h k =
    cond_no (eqb (suc n) 0) (cond (eqb m 0) nan (inf false)) (round binary64 false (m * up e * down d) (suc n * up d * down e)) (positive n)
    ∙ round_same binary64 false (m * up e * down d) (suc n * up d * down e) a b (mul-pos (mul-pos (zero-lt-suc n) (up_pos d)) (down_pos e)) B
    (cross (m * up e) (down e) (suc n * up d) (down d) h.1 k.1)
  where
    cross : (X dx Y dy : ℕ) → X * 1 ≡ a * dx → Y * 1 ≡ b * dy → X * dy * b ≡ a * (Y * dx)
    cross X dx Y dy p r = let u : X * 1 * (dy * b) ≡ a * dx * (dy * b) = ap (λ (z : ℕ). z * (dy * b)) p in let v : Y * 1 * (dx * a) ≡ b * dy * (dx * a) = ap (λ (z : ℕ). z * (dx * a)) r in omega arith

-- x + y with y negative
pick : (a b c : ℕ) → b ≤ a → sum binary64 false a true b c ≡ round binary64 false (a - b) c
unfolding sum
pick a b c h = go (ltb a b) (ltb→lt a b)
  where
    go : (t : Bool) → (T t → a < b) → cond t (round binary64 true (b - a) c) (round binary64 false (a - b) c) ≡ round binary64 false (a - b) c
    go true k = absurd (not-le_of_lt (k tt) h)
    go false k = refl

pick_neg : (a b c : ℕ) → a < b → sum binary64 false a true b c ≡ round binary64 true (b - a) c
unfolding sum
pick_neg a b c h = go (ltb a b) (nltb→le a b)
  where
    go : (t : Bool) → (T (not t) → b ≤ a) → cond t (round binary64 true (b - a) c) (round binary64 false (a - b) c) ≡ round binary64 true (b - a) c
    go true k = refl
    go false k = absurd (not-le_of_lt h (k tt))

-- the order of the fractions is that of the units
pub order : (X a dx Y b dy q : ℕ) → 0 < q → X * q ≡ a * dx → Y * q ≡ b * dy → b ≤ a → Y * dx ≤ X * dy
order X a dx Y b dy q K p r h = transfer Y X dy dx b a q q K K r p (mul-le-mul_right q h)

order_lt : (X a dx Y b dy q : ℕ) → 0 < dx → 0 < dy → 0 < q → X * q ≡ a * dx → Y * q ≡ b * dy → a < b → X * dy < Y * dx
order_lt X a dx Y b dy q DX DY K p r h = lt_of_not-le (λ (g : Y * dx ≤ X * dy). not-le_of_lt h (le_of_mul-le-mul_right (transfer b a q q Y X dy dx DY DX (sym r) (sym p) g) K))

pub minus_is : (x y : Float) (a b : ℕ) → HasValue x false a Q → HasValue y true b Q → b ≤ a → add binary64 x y ≡ round binary64 false (a - b) Q
unfolding add
minus_is nan y a b h k l = absurd h
minus_is (inf s) y a b h k l = absurd h
minus_is (fin s m e) nan a b h k l = absurd k
minus_is (fin s m e) (inf t) a b h k l = absurd k
minus_is (fin true m e) (fin t n d) a b h k l = absurd (true≢false h.0)
minus_is (fin false m e) (fin false n d) a b h k l = absurd (false≢true k.0)
minus_is (fin false m e) (fin true n d) a b h k l =
    let o : n * up d * down e ≤ m * up e * down d = order (m * up e) a (down e) (n * up d) b (down d) Q (pow_pos 1074) h.1 k.1 l in
    pick (m * up e * down d) (n * up d * down e) (down e * down d) o
    ∙ round_same binary64 false (m * up e * down d - n * up d * down e) (down e * down d) (a - b) Q (mul-pos (down_pos e) (down_pos d)) (pow_pos 1074)
    (cross_less (m * up e) a (down e) (n * up d) b (down d) Q h.1 k.1 l o)

pub minus_neg : (x y : Float) (a b : ℕ) → HasValue x false a Q → HasValue y true b Q → a < b → add binary64 x y ≡ round binary64 true (b - a) Q
unfolding add
minus_neg nan y a b h k l = absurd h
minus_neg (inf s) y a b h k l = absurd h
minus_neg (fin s m e) nan a b h k l = absurd k
minus_neg (fin s m e) (inf t) a b h k l = absurd k
minus_neg (fin true m e) (fin t n d) a b h k l = absurd (true≢false h.0)
minus_neg (fin false m e) (fin false n d) a b h k l = absurd (false≢true k.0)
minus_neg (fin false m e) (fin true n d) a b h k l =
    let o : m * up e * down d < n * up d * down e = order_lt (m * up e) a (down e) (n * up d) b (down d) Q (down_pos e) (down_pos d) (pow_pos 1074) h.1 k.1 l in
    pick_neg (m * up e * down d) (n * up d * down e) (down e * down d) o
    ∙ round_same binary64 true (n * up d * down e - m * up e * down d) (down e * down d) (b - a) Q (mul-pos (down_pos e) (down_pos d)) (pow_pos 1074)
    (cross_less (n * up d) b (down d) (m * up e) a (down e) Q k.1 h.1 (le_of_lt l) (le_of_lt o) ∙ ap (λ (z : ℕ). (b - a) * z) (mul_comm (down d) (down e)))

pub neg_value : (x : Float) (a : ℕ) → HasValue x false a Q → HasValue (neg x) true a Q
unfolding neg
neg_value nan a h = absurd h
neg_value (inf s) a h = absurd h
neg_value (fin s m e) a h = (ap not h.0, h.1)
