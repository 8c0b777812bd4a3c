-- Laws of a round, and of the loop over the rounds.
use Prim.Native.Nat.{ℕ, suc, ◌+◌, ◌-◌, ◌<◌, ◌≤◌}
use native.Mathlib.Omega.{arith}
use Rattle.std.specs.Prelude.{◌%◌, ◌^◌, bit_xor}
use Rattle.math_word.specs.Word.{add32, xor32, rotr32}
use mathlib.Core.Path.{◌≡◌, refl, ap, ap₂, sym, ◌∙◌}
use mathlib.Core.List.{List, [], ◌∷◌}
use lib.ListN.{length}
use Rattle.math_word.specs.declared.Quad.{Quad}
use Rattle.hash_compress.specs.Compress.{half_of, mix_of, put_quad, mix_at, columns, diagonals, permuted, round_of, rounds, folded, compressed}

-- half of G
half_made : (q : Quad) (m s t : ℕ) {d b : ℕ}
    → d ≡ rotr32 (bit_xor q.d (((q.a + q.b) % 2 ^ 32 + m) % 2 ^ 32)) s → b ≡ rotr32 (bit_xor q.b ((q.c + d) % 2 ^ 32)) t
    → ◌≡◌ {A = Quad} (record { a = ((q.a + q.b) % 2 ^ 32 + m) % 2 ^ 32; b = b; c = (q.c + d) % 2 ^ 32; d = d }) (half_of q m s t)
unfolding half_of add32 xor32
half_made q m s t p r = cc (p, r)

-- G
pub mix_made : (a b c d x y : ℕ) {d1 b1 d2 b2 : ℕ}
    → d1 ≡ rotr32 (bit_xor d (((a + b) % 2 ^ 32 + x) % 2 ^ 32)) 16 → b1 ≡ rotr32 (bit_xor b ((c + d1) % 2 ^ 32)) 12
    → d2 ≡ rotr32 (bit_xor d1 (((((a + b) % 2 ^ 32 + x) % 2 ^ 32 + b1) % 2 ^ 32 + y) % 2 ^ 32)) 8
    → b2 ≡ rotr32 (bit_xor b1 (((c + d1) % 2 ^ 32 + d2) % 2 ^ 32)) 7
    → ◌≡◌ {A = Quad} (record { a = ((((a + b) % 2 ^ 32 + x) % 2 ^ 32 + b1) % 2 ^ 32 + y) % 2 ^ 32; b = b2; c = ((c + d1) % 2 ^ 32 + d2) % 2 ^ 32; d = d2 })
    (mix_of (record { a = a; b = b; c = c; d = d }) x y)
unfolding mix_of
mix_made a b c d x y p0 p1 p2 p3 =
    let first = half_made (record { a = a; b = b; c = c; d = d }) x 16 12 p0 p1 in
    half_made _ y 8 7 p2 p3 ∙ ap (λ q. half_of q y 8 7) first

-- the state after the four diagonals, in its order
unfoldable pub laid : Quad → Quad → Quad → Quad → List ℕ
laid d0 d1 d2 d3 = d0.a ∷ d1.a ∷ d2.a ∷ d3.a ∷ d3.b ∷ d0.b ∷ d1.b ∷ d2.b ∷ d2.c ∷ d3.c ∷ d0.c ∷ d1.c ∷ d1.d ∷ d2.d ∷ d3.d ∷ d0.d ∷ []

module _ (v0 v1 v2 v3 v4 v5 v6 v7 v8 v9 v10 v11 v12 v13 v14 v15 x0 x1 x2 x3 x4 x5 x6 x7 x8 x9 x10 x11 x12 x13 x14 x15 : ℕ) where
  plain : laid
      (mix_of (record {
        a = (mix_of (record { a = v0; b = v4; c = v8; d = v12 }) x0 x1).a;
        b = (mix_of (record { a = v1; b = v5; c = v9; d = v13 }) x2 x3).b;
        c =
            (mix_of (record { a = v2; b = v6; c = v10; d = v14 }) x4 x5).c;
        d = (mix_of (record { a = v3; b = v7; c = v11; d = v15 }) x6 x7).d;
      }) x8 x9)
      (mix_of (record {
        a = (mix_of (record { a = v1; b = v5; c = v9; d = v13 }) x2 x3).a;
        b = (mix_of (record { a = v2; b = v6; c = v10; d = v14 }) x4 x5).b;
        c =
            (mix_of (record { a = v3; b = v7; c = v11; d = v15 }) x6 x7).c;
        d = (mix_of (record { a = v0; b = v4; c = v8; d = v12 }) x0 x1).d;
      }) x10 x11)
      (mix_of (record {
        a = (mix_of (record { a = v2; b = v6; c = v10; d = v14 }) x4 x5).a;
        b = (mix_of (record { a = v3; b = v7; c = v11; d = v15 }) x6 x7).b;
        c =
            (mix_of (record { a = v0; b = v4; c = v8; d = v12 }) x0 x1).c;
        d = (mix_of (record { a = v1; b = v5; c = v9; d = v13 }) x2 x3).d;
      }) x12 x13)
      (mix_of (record {
        a = (mix_of (record { a = v3; b = v7; c = v11; d = v15 }) x6 x7).a;
        b = (mix_of (record { a = v0; b = v4; c = v8; d = v12 }) x0 x1).b;
        c =
            (mix_of (record { a = v1; b = v5; c = v9; d = v13 }) x2 x3).c;
        d = (mix_of (record { a = v2; b = v6; c = v10; d = v14 }) x4 x5).d;
      }) x14 x15)
      ≡ round_of (v0 ∷ v1 ∷ v2 ∷ v3 ∷ v4 ∷ v5 ∷ v6 ∷ v7 ∷ v8 ∷ v9 ∷ v10 ∷ v11 ∷ v12 ∷ v13 ∷ v14 ∷ v15 ∷ []) (x0 ∷ x1 ∷ x2 ∷ x3 ∷ x4 ∷ x5 ∷ x6 ∷ x7 ∷ x8 ∷ x9 ∷ x10 ∷ x11 ∷ x12 ∷ x13 ∷ x14 ∷ x15 ∷ [])
  unfolding laid round_of columns diagonals mix_at put_quad
  plain = refl

  pub round_made : (c0 c1 c2 c3 d0 d1 d2 d3 : Quad)
      → c0 ≡ mix_of (record { a = v0; b = v4; c = v8; d = v12 }) x0 x1
      → c1 ≡ mix_of (record { a = v1; b = v5; c = v9; d = v13 }) x2 x3
      → c2 ≡ mix_of (record { a = v2; b = v6; c = v10; d = v14 }) x4 x5
      → c3 ≡ mix_of (record { a = v3; b = v7; c = v11; d = v15 }) x6 x7
      → d0 ≡ mix_of (record { a = c0.a; b = c1.b; c = c2.c; d = c3.d }) x8 x9
      → d1 ≡ mix_of (record { a = c1.a; b = c2.b; c = c3.c; d = c0.d }) x10 x11
      → d2 ≡ mix_of (record { a = c2.a; b = c3.b; c = c0.c; d = c1.d }) x12 x13
      → d3 ≡ mix_of (record { a = c3.a; b = c0.b; c = c1.c; d = c2.d }) x14 x15
      → laid d0 d1 d2 d3 ≡ round_of (v0 ∷ v1 ∷ v2 ∷ v3 ∷ v4 ∷ v5 ∷ v6 ∷ v7 ∷ v8 ∷ v9 ∷ v10 ∷ v11 ∷ v12 ∷ v13 ∷ v14 ∷ v15 ∷ []) (x0 ∷ x1 ∷ x2 ∷ x3 ∷ x4 ∷ x5 ∷ x6 ∷
      x7 ∷ x8 ∷ x9 ∷ x10 ∷ x11 ∷ x12 ∷ x13 ∷ x14 ∷ x15 ∷ [])
  round_made c0 c1 c2 c3 d0 d1 d2 d3 p0 p1 p2 p3 q0 q1 q2 q3 = cc plain

-- a turn of the loop over the rounds
pub rounds_turn : (i : ℕ) (v m : List ℕ) {v' m' : List ℕ} → i < 7 → v' ≡ round_of v m → m' ≡ permuted m → rounds (7 - (i + 1)) v' m' ≡ rounds (7 - i) v m
unfolding rounds
rounds_turn i v m h p q =
    let e : 7 - i ≡ suc (7 - (i + 1)) = omega arith in
    ap₂ (rounds (7 - (i + 1))) p q ∙ sym (ap (λ k. rounds k v m) e)

pub rounds_done : (i : ℕ) (v m : List ℕ) {r : List ℕ} → i ≤ 7 → 7 ≤ i → rounds (7 - i) v m ≡ r → v ≡ r
unfolding rounds
rounds_done i v m h k p =
    let e : 7 - i ≡ 0 = omega arith in
    sym (ap (λ n. rounds n v m) e) ∙ p

-- a chaining value has 8 words
pub length_compressed : (h m : List ℕ) (t b d : ℕ) → length (compressed h m t b d) ≡ 8
unfolding compressed folded
length_compressed h m t b d = refl
