-- Laws of a double round, and of the loop over the rounds.
use Prim.Native.Nat.{ℕ, ◌+◌, ◌/◌, ◌%◌, ◌<◌, ◌≤◌}
use Rattle.std.specs.Prelude.{◌^◌, bit_xor}
use Rattle.math_word.specs.Word.{add32, xor32, rotl32}
use mathlib.Core.Path.{◌≡◌, refl, ap, ap₂, sym, ◌∙◌}
use mathlib.Core.List.{List, [], ◌∷◌}
use lib.ListN.{get_or}
use native.Mathlib.Omega.{arith}
use native.Mathlib.Numerals.{add-one}
use Rattle.math_word.specs.declared.Quad.{Quad}
use Rattle.rand_chacha8.specs.Chacha.{half_of, quarter_of, put_quad, quarter_at, columns, diagonals, double_rounds, initial, sums, block_of, word_at}

-- half of a quarter-round
half_made : (q : Quad) (s t : ℕ) {d b : ℕ}
    → d ≡ rotl32 (bit_xor q.d ((q.a + q.b) % 2 ^ 32)) s → b ≡ rotl32 (bit_xor q.b ((q.c + d) % 2 ^ 32)) t
    → ◌≡◌ {A = Quad} (record { a = (q.a + q.b) % 2 ^ 32; b = b; c = (q.c + d) % 2 ^ 32; d = d }) (half_of q s t)
unfolding half_of add32 xor32
half_made q s t p r = cc (p, r)

-- a quarter-round
pub quarter_made : (a b c d : ℕ) {d1 b1 d2 b2 : ℕ}
    → d1 ≡ rotl32 (bit_xor d ((a + b) % 2 ^ 32)) 16 → b1 ≡ rotl32 (bit_xor b ((c + d1) % 2 ^ 32)) 12
    → d2 ≡ rotl32 (bit_xor d1 (((a + b) % 2 ^ 32 + b1) % 2 ^ 32)) 8 → b2 ≡ rotl32 (bit_xor b1 (((c + d1) % 2 ^ 32 + d2) % 2 ^ 32)) 7
    → ◌≡◌ {A = Quad} (record { a = ((a + b) % 2 ^ 32 + b1) % 2 ^ 32; b = b2; c = ((c + d1) % 2 ^ 32 + d2) % 2 ^ 32; d = d2 }) (quarter_of (record { a = a; b = b; c = c; d = d }))
unfolding quarter_of
quarter_made a b c d p0 p1 p2 p3 =
    let first = half_made (record { a = a; b = b; c = c; d = d }) 16 12 p0 p1 in
    half_made _ 8 7 p2 p3 ∙ ap (λ q. half_of q 8 7) first

-- the matrix after the four diagonals, in its order
unfoldable pub laid : Quad → Quad → Quad → Quad → List ℕ
laid d0 d1 d2 d3 = d0.a ∷ d1.a ∷ d2.a ∷ d3.a ∷ d3.b ∷ d0.b ∷ d1.b ∷ d2.b ∷ d2.c ∷ d3.c ∷ d0.c ∷ d1.c ∷ d1.d ∷ d2.d ∷ d3.d ∷ d0.d ∷ []

module _ (v0 v1 v2 v3 v4 v5 v6 v7 v8 v9 v10 v11 v12 v13 v14 v15 : ℕ) where
  plain : laid
      (quarter_of (record {
        a = (quarter_of (record { a = v0; b = v4; c = v8; d = v12 })).a;
        b = (quarter_of (record { a = v1; b = v5; c = v9; d = v13 })).b;
        c =
            (quarter_of (record { a = v2; b = v6; c = v10; d = v14 })).c;
        d = (quarter_of (record { a = v3; b = v7; c = v11; d = v15 })).d;
      }))
      (quarter_of (record {
        a = (quarter_of (record { a = v1; b = v5; c = v9; d = v13 })).a;
        b = (quarter_of (record { a = v2; b = v6; c = v10; d = v14 })).b;
        c =
            (quarter_of (record { a = v3; b = v7; c = v11; d = v15 })).c;
        d = (quarter_of (record { a = v0; b = v4; c = v8; d = v12 })).d;
      }))
      (quarter_of (record {
        a = (quarter_of (record { a = v2; b = v6; c = v10; d = v14 })).a;
        b = (quarter_of (record { a = v3; b = v7; c = v11; d = v15 })).b;
        c =
            (quarter_of (record { a = v0; b = v4; c = v8; d = v12 })).c;
        d = (quarter_of (record { a = v1; b = v5; c = v9; d = v13 })).d;
      }))
      (quarter_of (record {
        a = (quarter_of (record { a = v3; b = v7; c = v11; d = v15 })).a;
        b = (quarter_of (record { a = v0; b = v4; c = v8; d = v12 })).b;
        c =
            (quarter_of (record { a = v1; b = v5; c = v9; d = v13 })).c;
        d = (quarter_of (record { a = v2; b = v6; c = v10; d = v14 })).d;
      }))
      ≡ diagonals (columns (v0 ∷ v1 ∷ v2 ∷ v3 ∷ v4 ∷ v5 ∷ v6 ∷ v7 ∷ v8 ∷ v9 ∷ v10 ∷ v11 ∷ v12 ∷ v13 ∷ v14 ∷ v15 ∷ []))
  unfolding laid columns diagonals quarter_at put_quad
  plain = refl

  pub double_made : (c0 c1 c2 c3 d0 d1 d2 d3 : Quad)
      → c0 ≡ quarter_of (record { a = v0; b = v4; c = v8; d = v12 })
      → c1 ≡ quarter_of (record { a = v1; b = v5; c = v9; d = v13 })
      → c2 ≡ quarter_of (record { a = v2; b = v6; c = v10; d = v14 })
      → c3 ≡ quarter_of (record { a = v3; b = v7; c = v11; d = v15 })
      → d0 ≡ quarter_of (record { a = c0.a; b = c1.b; c = c2.c; d = c3.d })
      → d1 ≡ quarter_of (record { a = c1.a; b = c2.b; c = c3.c; d = c0.d })
      → d2 ≡ quarter_of (record { a = c2.a; b = c3.b; c = c0.c; d = c1.d })
      → d3 ≡ quarter_of (record { a = c3.a; b = c0.b; c = c1.c; d = c2.d })
      → laid d0 d1 d2 d3 ≡ diagonals (columns (v0 ∷ v1 ∷ v2 ∷ v3 ∷ v4 ∷ v5 ∷ v6 ∷ v7 ∷ v8 ∷ v9 ∷ v10 ∷ v11 ∷ v12 ∷ v13 ∷ v14 ∷ v15 ∷ []))
  double_made c0 c1 c2 c3 d0 d1 d2 d3 p0 p1 p2 p3 q0 q1 q2 q3 = cc plain

-- a turn of the loop over the rounds
pub rounds_turn : (i : ℕ) (v s : List ℕ) {s' : List ℕ} → s ≡ double_rounds i v → s' ≡ diagonals (columns s) → s' ≡ double_rounds (i + 1) v
unfolding double_rounds
rounds_turn i v s p q = q ∙ ap (λ l. diagonals (columns l)) p ∙ sym (ap (λ n. double_rounds n v) (add-one i))

pub rounds_done : (i : ℕ) (v : List ℕ) {s : List ℕ} → i ≤ 4 → 4 ≤ i → s ≡ double_rounds i v → s ≡ double_rounds 4 v
rounds_done i v h k p =
    let e : i ≡ 4 = omega arith in
    p ∙ ap (λ n. double_rounds n v) e

-- the block, from its parts
pub block_made : (key : List ℕ) (n : ℕ) (x y : List ℕ) {z : List ℕ} → x ≡ initial key n → y ≡ double_rounds 4 x → z ≡ sums y x → z ≡ block_of key n
unfolding block_of
block_made key n x y p q r = r ∙ ap₂ sums (q ∙ ap (double_rounds 4) p) p

-- the word at a count, out of its block n at its place i
pub word_of : (key : List ℕ) (count n i : ℕ) {b : List ℕ} → n ≡ count / 16 → i ≡ count % 16 → b ≡ block_of key n → get_or b i 0 ≡ word_at key count
unfolding word_at
word_of key count n i q r p = ap₂ (λ b j. get_or b j 0) (p ∙ ap (block_of key) q) r
