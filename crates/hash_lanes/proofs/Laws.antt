-- Laws of the words of a lane, and of the loop over the lanes.
use Prim.Native.Nat.{ℕ, zero, suc, ◌+◌, ◌-◌, ◌*◌, ◌%◌, ◌^◌, ◌<◌, ◌≤◌}
use mathlib.Core.Path.{◌≡◌, refl, ap, ap₂, sym, ◌∙◌}
use mathlib.Core.List.{List, [], ◌∷◌}
use lib.ListN.{get_or, set, length, length-set}
use lib.Seq.{get_or-set_same, get_or-set_other}
use native.Mathlib.Omega.{arith}
use native.Mathlib.Nat.{one-mul, pow-succ'}
use lib.Pow.{pow_mono}
use borrow.Author.Count.{below_more}
use Rattle.math_word.proofs.Lists.{eight}
use Rattle.hash_compress.specs.Compress.{compressed}
use Rattle.hash_compress.proofs.Laws.{length_compressed}
use Rattle.hash_lanes.specs.Lanes.{lane8}

-- words vs stored in lane l, from word k on
abbrev pub stored : List ℕ → ℕ → ℕ → List ℕ → List ℕ
stored xs l k [] = xs
stored xs l k (v ∷ vs) = stored (set xs (k + l) v) l (k + 4) vs

-- a place below the stored ones keeps what it had
stored_below : (xs : List ℕ) (l k : ℕ) (vs : List ℕ) (p : ℕ) → p < k + l → get_or (stored xs l k vs) p 0 ≡ get_or xs p 0
stored_below xs l k [] p h = refl
stored_below xs l k (v ∷ vs) p h =
    stored_below (set xs (k + l) v) l (k + 4) vs p (omega arith) ∙ get_or-set_other xs (k + l) p v 0 (λ e. omega arith)

-- so does another lane
stored_other : (xs : List ℕ) (l k : ℕ) (vs : List ℕ) (i j : ℕ) → (l ≡ j → ⊥) → l < 4 → j < 4 → get_or (stored xs l (4 * k) vs) (4 * i + j) 0 ≡ get_or xs (4 * i + j) 0
stored_other xs l k [] i j n h g = refl
stored_other xs l k (v ∷ vs) i j n h g =
    let e : 4 * k + 4 ≡ 4 * (k + 1) = omega arith in
    ap (λ z. get_or (stored (set xs (4 * k + l) v) l z vs) (4 * i + j) 0) e
    ∙ stored_other (set xs (4 * k + l) v) l (k + 1) vs i j n h g
    ∙ get_or-set_other xs (4 * k + l) (4 * i + j) v 0 (λ e. n (omega arith))

-- the lane itself has the words
stored_same : (xs : List ℕ) (l k : ℕ) (vs : List ℕ) (i : ℕ) → 4 * (k + length vs) ≤ length xs → l < 4 → i < length vs
    → get_or (stored xs l (4 * k) vs) (4 * (k + i) + l) 0 ≡ get_or vs i 0
stored_same xs l k [] i h g m = absurd (omega arith)
stored_same xs l k (v ∷ vs) zero h g m =
    let e : 4 * (k + 0) + l ≡ 4 * k + l = omega arith in
    ap (λ z. get_or (stored (set xs (4 * k + l) v) l (4 * k + 4) vs) z 0) e
    ∙ stored_below (set xs (4 * k + l) v) l (4 * k + 4) vs (4 * k + l) (omega arith)
    ∙ get_or-set_same xs (4 * k + l) v 0 (omega arith)
stored_same xs l k (v ∷ vs) (suc i) h g m =
    let e : 4 * k + 4 ≡ 4 * (k + 1) = omega arith in
    let f : 4 * (k + suc i) + l ≡ 4 * (k + 1 + i) + l = omega arith in
    let n : length (set xs (4 * k + l) v) ≡ length xs = length-set xs (4 * k + l) v in
    ap₂ (λ z y. get_or (stored (set xs (4 * k + l) v) l z vs) y 0) e f
    ∙ stored_same (set xs (4 * k + l) v) l (k + 1) vs i (omega arith) g (omega arith)

module _ (xs : List ℕ) (l : ℕ) (v0 v1 v2 v3 v4 v5 v6 v7 : ℕ) where
  pub lane8_same : length xs ≡ 32 → l < 4 → lane8 (stored xs l 0 (v0 ∷ v1 ∷ v2 ∷ v3 ∷ v4 ∷ v5 ∷ v6 ∷ v7 ∷ [])) l ≡ v0 ∷ v1 ∷ v2 ∷ v3 ∷ v4 ∷ v5 ∷ v6 ∷ v7 ∷ []
  unfolding lane8
  lane8_same h g =
      let vs : List ℕ = v0 ∷ v1 ∷ v2 ∷ v3 ∷ v4 ∷ v5 ∷ v6 ∷ v7 ∷ [] in
      cc (
        stored_same xs l 0 (v0 ∷ v1 ∷ v2 ∷ v3 ∷ v4 ∷ v5 ∷ v6 ∷ v7 ∷ []) 0 (omega arith) g (omega arith),
        stored_same xs l 0 (v0 ∷ v1 ∷ v2 ∷ v3 ∷ v4 ∷ v5 ∷ v6 ∷ v7 ∷ []) 1 (omega arith) g (omega arith),
        stored_same xs l 0 (v0 ∷ v1 ∷ v2 ∷ v3 ∷ v4 ∷ v5 ∷ v6 ∷ v7 ∷ []) 2 (omega arith) g (omega arith),
        stored_same xs l 0 (v0 ∷ v1 ∷ v2 ∷ v3 ∷ v4 ∷ v5 ∷ v6 ∷ v7 ∷ []) 3 (omega arith) g (omega arith),
        stored_same xs l 0 (v0 ∷ v1 ∷ v2 ∷ v3 ∷ v4 ∷ v5 ∷ v6 ∷ v7 ∷ []) 4 (omega arith) g (omega arith),
        stored_same xs l 0 (v0 ∷ v1 ∷ v2 ∷ v3 ∷ v4 ∷ v5 ∷ v6 ∷ v7 ∷ []) 5 (omega arith) g (omega arith),
        stored_same xs l 0 (v0 ∷ v1 ∷ v2 ∷ v3 ∷ v4 ∷ v5 ∷ v6 ∷ v7 ∷ []) 6 (omega arith) g (omega arith),
        stored_same xs l 0 (v0 ∷ v1 ∷ v2 ∷ v3 ∷ v4 ∷ v5 ∷ v6 ∷ v7 ∷ []) 7 (omega arith) g (omega arith),
      )

  pub lane8_other : (j : ℕ) → (l ≡ j → ⊥) → l < 4 → j < 4 → lane8 (stored xs l 0 (v0 ∷ v1 ∷ v2 ∷ v3 ∷ v4 ∷ v5 ∷ v6 ∷ v7 ∷ [])) j ≡ lane8 xs j
  unfolding lane8
  lane8_other j n g h =
      cc (
        stored_other xs l 0 (v0 ∷ v1 ∷ v2 ∷ v3 ∷ v4 ∷ v5 ∷ v6 ∷ v7 ∷ []) 0 j n g h,
        stored_other xs l 0 (v0 ∷ v1 ∷ v2 ∷ v3 ∷ v4 ∷ v5 ∷ v6 ∷ v7 ∷ []) 1 j n g h,
        stored_other xs l 0 (v0 ∷ v1 ∷ v2 ∷ v3 ∷ v4 ∷ v5 ∷ v6 ∷ v7 ∷ []) 2 j n g h,
        stored_other xs l 0 (v0 ∷ v1 ∷ v2 ∷ v3 ∷ v4 ∷ v5 ∷ v6 ∷ v7 ∷ []) 3 j n g h,
        stored_other xs l 0 (v0 ∷ v1 ∷ v2 ∷ v3 ∷ v4 ∷ v5 ∷ v6 ∷ v7 ∷ []) 4 j n g h,
        stored_other xs l 0 (v0 ∷ v1 ∷ v2 ∷ v3 ∷ v4 ∷ v5 ∷ v6 ∷ v7 ∷ []) 5 j n g h,
        stored_other xs l 0 (v0 ∷ v1 ∷ v2 ∷ v3 ∷ v4 ∷ v5 ∷ v6 ∷ v7 ∷ []) 6 j n g h,
        stored_other xs l 0 (v0 ∷ v1 ∷ v2 ∷ v3 ∷ v4 ∷ v5 ∷ v6 ∷ v7 ∷ []) 7 j n g h,
      )

-- a turn of the loop over the lanes; lane l has the message words m l and the counter c l
module _ (h : List ℕ) (m : ℕ → List ℕ) (c : ℕ → ℕ) (out r : List ℕ) (d l : ℕ) where
  here : length out ≡ 32 → l < 4 → r ≡ compressed (lane8 h l) (m l) (c l) 64 d →
      lane8 (stored out l 0 (get_or r 0 0 ∷ get_or r 1 0 ∷ get_or r 2 0 ∷ get_or r 3 0 ∷ get_or r 4 0 ∷ get_or r 5 0 ∷ get_or r 6 0 ∷ get_or r 7 0 ∷ [])) l ≡ compressed (lane8 h l) (m l) (c l) 64 d
  here n g p =
      lane8_same out l (get_or r 0 0) (get_or r 1 0) (get_or r 2 0) (get_or r 3 0) (get_or r 4 0) (get_or r 5 0) (get_or r 6 0) (get_or r 7 0) n g
      ∙ sym (eight r (ap length p ∙ length_compressed (lane8 h l) (m l) (c l) 64 d)) ∙ p

  pub step_turn : length out ≡ 32 → l < 4 → ((j : ℕ) → j < l → lane8 out j ≡ compressed (lane8 h j) (m j) (c j) 64 d) → r ≡ compressed (lane8 h l) (m l) (c l) 64 d
      → (j : ℕ) → j < l + 1 → lane8 (stored out l 0 (get_or r 0 0 ∷ get_or r 1 0 ∷ get_or r 2 0 ∷ get_or r 3 0 ∷ get_or r 4 0 ∷ get_or r 5 0 ∷ get_or r 6 0 ∷
      get_or r 7 0 ∷ [])) j ≡ compressed (lane8 h j) (m j) (c j) 64 d
  step_turn n g inv p =
      below_more _ _ (λ j k. lane8_other out l (get_or r 0 0) (get_or r 1 0) (get_or r 2 0) (get_or r 3 0) (get_or r 4 0) (get_or r 5 0) (get_or r 6 0)
      (get_or r 7 0) j (λ e. omega arith) g (omega arith) ∙ inv j k) (here n g p)

-- what holds at 0, 1, 2 and 3 holds below 4
pub below_four : (P : ℕ → Type 0) → P 0 → P 1 → P 2 → P 3 → (l : ℕ) → l < 4 → P l
below_four P a b c d zero h = a
below_four P a b c d (suc zero) h = b
below_four P a b c d (suc (suc zero)) h = c
below_four P a b c d (suc (suc (suc zero))) h = d
below_four P a b c d (suc (suc (suc (suc l)))) h = absurd (omega arith)

-- so a product with a lane's number is three times the other factor at the most
pub times : (n l : ℕ) → l < 4 → n * l ≤ 3 * n
times n = below_four (λ l. n * l ≤ 3 * n) (omega arith) (omega arith) (omega arith) (omega arith)

pub shl_one : (j : ℕ) → j ≤ 6 → ((1 * 2 ^ j) % 2 ^ 64 ≡ 2 ^ j) × ((1 * 2 ^ j) % 2 ^ 64 ≤ 64)
shl_one j h =
    let p : 2 ^ j ≤ 64 = pow_mono {i = j} {j = 6} h in
    let q : 1 * 2 ^ j ≡ 2 ^ j = one-mul (2 ^ j) in
    (omega arith, omega arith)

pub double : (k : ℕ) → (k ≡ 0 → ⊥) → 2 ^ k ≡ 2 * 2 ^ (k - 1)
double k f =
    let e : k ≡ suc (k - 1) = omega arith in
    ap (λ n. 2 ^ n) e ∙ pow-succ' 2 (k - 1)
