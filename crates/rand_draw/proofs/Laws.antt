-- laws of the whole range, over the width W, and of how a draw moves a cursor
use Prim.Native.Nat.{ℕ, suc, ◌+◌, ◌-◌, ◌*◌, ◌/◌, ◌%◌, ◌^◌, ◌<◌, ◌≤◌}
use mathlib.Core.Path.{◌≡◌, ap, ap₂, sym, ◌∙◌, subst}
use mathlib.Core.Bool.{Bool, true, false}
use mathlib.Core.List.{List}
use native.Mathlib.Omega.{arith}
use native.Mathlib.Nat.{mul_comm, suc-mul, mul-le-mul_right, mul-lt-mul_of_pos_right, div-lt_iff_lt-mul, div-add-mod', lt_of_mul-lt-mul_right}
use borrow.Author.Tests.{le-ltb, lt-ltb, le-leb, lt-leb}
use Rattle.rand_chacha8.specs.Chacha.{word_at}
use Rattle.rand_streams.specs.declared.Cursor.{Cursor}
use Rattle.rand_streams.specs.Streams.{Moved, word_pair}
use Rattle.rand_draw.specs.Draw.{choose, again, carries, whole_of, draws_of, whole64_at, words64_at, whole32_at, words32_at}

-- the high half is below n
pub high_below : (N n a : ℕ) → 0 < n → a < N → a * n / N < n
high_below N n a p q =
    let pos : 0 < N = omega arith in
    let b : a * n < N * n = mul-lt-mul_of_pos_right q p in
    let m : N * n ≡ n * N = mul_comm N n in
    (div-lt_iff_lt-mul {k = N} {x = a * n} {y = n} pos).1 (omega arith)

-- and by more than 1 where a second draw is made
pub high_room : (N n a : ℕ) → n ≤ N → a < N → N - n < a * n % N → a * n / N + 1 < n
high_room N n a k q h =
    let e : a * n / N * N + a * n % N ≡ a * n = div-add-mod' (a * n) N in
    let b : suc a * n ≤ N * n = mul-le-mul_right n q in
    let s : suc a * n ≡ a * n + n = suc-mul a n in
    let t : suc (a * n / N) * N ≡ a * n / N * N + N = suc-mul (a * n / N) N in
    let m : N * n ≡ n * N = mul_comm N n in
    let x : suc (a * n / N) * N < n * N = omega arith in
    let y : suc (a * n / N) < n = lt_of_mul-lt-mul_right N x in
    omega arith

-- the first draw settles it
pub settled : (W n a b : ℕ) {high low : ℕ} → 0 < n → a < 2 ^ W → high ≡ a * n / 2 ^ W → low ≡ a * n % 2 ^ W → low ≤ 2 ^ W - n
    → (high ≡ whole_of W n a b) × (draws_of W n a ≡ 1) × (high < n)
unfolding whole_of draws_of again
settled W n a b {high} {low} p q h l e =
    let k : a * n % 2 ^ W ≤ 2 ^ W - n = subst (λ x. x ≤ 2 ^ W - n) l e in
    (simp (le-ltb (2 ^ W - n) (a * n % 2 ^ W) k) h, simp (le-ltb (2 ^ W - n) (a * n % 2 ^ W) k), subst (λ x. x < n) (sym h) (high_below (2 ^ W) n a p q))

-- a second draw that adds nothing
pub kept : (W n a b : ℕ) {high low more : ℕ} → 0 < n → a < 2 ^ W → high ≡ a * n / 2 ^ W → low ≡ a * n % 2 ^ W → more ≡ b * n / 2 ^ W → 2 ^ W - n < low → low + more < 2 ^ W
    → (high ≡ whole_of W n a b) × (draws_of W n a ≡ 2) × (high < n)
unfolding whole_of draws_of again carries
kept W n a b {high} {low} {more} p q h l m e f =
    let k : 2 ^ W - n < a * n % 2 ^ W = subst (λ x. 2 ^ W - n < x) l e in
    let g : a * n % 2 ^ W + b * n / 2 ^ W < 2 ^ W = subst (λ x. x < 2 ^ W) (ap₂ ◌+◌ l m) f in (
      simp (lt-ltb (2 ^ W - n) (a * n % 2 ^ W) k, lt-leb (2 ^ W) (a * n % 2 ^ W + b * n / 2 ^ W) g) h,
      simp (lt-ltb (2 ^ W - n) (a * n % 2 ^ W) k),
      subst (λ x. x < n) (sym h) (high_below (2 ^ W) n a p q),
    )

-- a second draw that adds 1
pub carried : (W n a b : ℕ) {high low more : ℕ} → n ≤ 2 ^ W → a < 2 ^ W → high ≡ a * n / 2 ^ W → low ≡ a * n % 2 ^ W → more ≡ b * n / 2 ^ W → 2 ^ W - n < low → 2 ^ W ≤ low + more
    → (high + 1 ≡ whole_of W n a b) × (draws_of W n a ≡ 2) × (high + 1 < n)
unfolding whole_of draws_of again carries
carried W n a b {high} {low} {more} p q h l m e f =
    let k : 2 ^ W - n < a * n % 2 ^ W = subst (λ x. 2 ^ W - n < x) l e in
    let g : 2 ^ W ≤ a * n % 2 ^ W + b * n / 2 ^ W = subst (λ x. 2 ^ W ≤ x) (ap₂ ◌+◌ l m) f in (
      simp (lt-ltb (2 ^ W - n) (a * n % 2 ^ W) k, le-leb (2 ^ W) (a * n % 2 ^ W + b * n / 2 ^ W) g) (ap (λ x. x + 1) h),
      simp (lt-ltb (2 ^ W - n) (a * n % 2 ^ W) k),
      subst (λ x. x + 1 < n) (sym h) (high_room (2 ^ W) n a p q k),
    )

-- cursors: a move by as many words, and two moves
pub moved_as : (c d : Cursor) (m n : ℕ) → m ≡ n → Moved c m d → Moved c n d
moved_as c d m n e = subst (λ k. Moved c k d) e

pub moved_on : (c d e : Cursor) (m n : ℕ) → Moved c m d → Moved d n e → Moved c (m + n) e
moved_on c d e m n p q = record { key = q.key ∙ p.key; count = omega (arith, p.count, q.count) }

-- the second draw, at the cursor that the first left
pub pair_on : (c d : Cursor) {v : ℕ} → Moved c 2 d → v ≡ word_pair d.key d.count → v ≡ word_pair c.key (c.count + 2)
pair_on c d m p = p ∙ ap₂ word_pair m.key m.count

pub word_on : (c d : Cursor) {v : ℕ} → Moved c 1 d → v ≡ word_at d.key d.count → v ≡ word_at c.key (c.count + 1)
word_on c d m p = p ∙ ap₂ word_at m.key m.count

-- what each width's contract says
module _ (c d : Cursor) (n a b : ℕ) {v : ℕ} where
  pub answer64 : (t : ℕ) → a ≡ word_pair c.key c.count → b ≡ word_pair c.key (c.count + 2) → (v ≡ whole_of 64 n a b) × (draws_of 64 n a ≡ t) × (v < n) → Moved c (2 * t) d
      → (v ≡ whole64_at c.key c.count n) × Moved c (words64_at c.key c.count n) d × (v < n)
  unfolding whole64_at words64_at
  answer64 t p q r m = (r.0 ∙ ap₂ (whole_of 64 n) p q, moved_as c d (2 * t) _ (sym (ap (λ k. 2 * k) (sym (ap (draws_of 64 n) p) ∙ r.1))) m, r.2)

  pub answer32 : (t : ℕ) → a ≡ word_at c.key c.count → b ≡ word_at c.key (c.count + 1) → (v ≡ whole_of 32 n a b) × (draws_of 32 n a ≡ t) × (v < n) → Moved c t d
      → (v ≡ whole32_at c.key c.count n) × Moved c (words32_at c.key c.count n) d × (v < n)
  unfolding whole32_at words32_at
  answer32 t p q r m = (r.0 ∙ ap₂ (whole_of 32 n) p q, moved_as c d t _ (sym (sym (ap (draws_of 32 n) p) ∙ r.1)) m, r.2)

-- the code's tests, of 64 bits
pub test_settled : (n low : ℕ) → 0 < n → n < 2 ^ 64 → low ≤ 18446744073709551615 - (n - 1) → low ≤ 2 ^ 64 - n
test_settled n low p q h = omega arith

pub test_again : (n low : ℕ) → 0 < n → n < 2 ^ 64 → 18446744073709551615 - (n - 1) < low → 2 ^ 64 - n < low
test_again n low p q h = omega arith

pub test_kept : (low more : ℕ) → low < 2 ^ 64 → more ≤ 18446744073709551615 - low → low + more < 2 ^ 64
test_kept low more p h = omega arith

pub test_carried : (low more : ℕ) → 18446744073709551615 - low < more → 2 ^ 64 ≤ low + more
test_carried low more h = omega arith

pub below_le : (a n : ℕ) → a < n → a ≤ n
below_le a n h = omega arith

-- at most two draws of two words
at_most : (b : Bool) → 2 * choose b 2 1 ≤ 4
at_most true = omega arith
at_most false = omega arith

pub words_most : (key : List ℕ) (count n : ℕ) → words64_at key count n ≤ 4
unfolding words64_at draws_of
words_most key count n = at_most (again 64 n (word_pair key count))

pub moved_most : (c d : Cursor) (n : ℕ) → Moved c (words64_at c.key c.count n) d → d.count ≤ c.count + 4
moved_most c d n m = omega (arith, m.count, words_most c.key c.count n)

pub sum_below_lem : (low v n : ℕ) → v < n → low + v < low + n
sum_below_lem low v n h = omega arith
