-- BLAKE3, specification section 2.2: the compression function.
use Rattle.std.specs.Prelude.{ℕ, zero, suc, ◌/◌, ◌%◌, ◌^◌, List, [], ◌∷◌, get_or, set}
use Rattle.math_word.specs.Word.{add32, xor32, rotr32}
use Rattle.math_word.specs.declared.Quad.{Quad}

-- 2.2, table 1
unfoldable pub iv : List ℕ
iv = 0x6a09e667 ∷ 0xbb67ae85 ∷ 0x3c6ef372 ∷ 0xa54ff53a ∷ 0x510e527f ∷ 0x9b05688c ∷ 0x1f83d9ab ∷ 0x5be0cd19 ∷ []

-- half of G: a += b + m; d = (d ^ a) >>> s; c += d; b = (b ^ c) >>> t
unfoldable pub half_of : Quad → ℕ → ℕ → ℕ → Quad
half_of q m s t =
    let a = add32 (add32 q.a q.b) m in
    let d = rotr32 (xor32 q.d a) s in
    let c = add32 q.c d in
    let b = rotr32 (xor32 q.b c) t in
    record { a = a; b = b; c = c; d = d }

unfoldable pub mix_of : Quad → ℕ → ℕ → Quad
mix_of q x y = half_of (half_of q x 16 12) y 8 7

unfoldable pub put_quad : List ℕ → ℕ → ℕ → ℕ → ℕ → Quad → List ℕ
put_quad v a b c d q = set (set (set (set v a q.a) b q.b) c q.c) d q.d

unfoldable pub mix_at : List ℕ → ℕ → ℕ → ℕ → ℕ → ℕ → ℕ → List ℕ
mix_at v a b c d x y = put_quad v a b c d (mix_of (record { a = get_or v a 0; b = get_or v b 0; c = get_or v c 0; d = get_or v d 0 }) x y)

unfoldable pub columns : List ℕ → List ℕ → List ℕ
columns v m =
    mix_at (mix_at (mix_at (mix_at v 0 4 8 12 (get_or m 0 0) (get_or m 1 0)) 1 5 9 13 (get_or m 2 0) (get_or m 3 0))
    2 6 10 14 (get_or m 4 0) (get_or m 5 0)) 3 7 11 15 (get_or m 6 0) (get_or m 7 0)

unfoldable pub diagonals : List ℕ → List ℕ → List ℕ
diagonals v m =
    mix_at (mix_at (mix_at (mix_at v 0 5 10 15 (get_or m 8 0) (get_or m 9 0)) 1 6 11 12 (get_or m 10 0) (get_or m 11 0))
    2 7 8 13 (get_or m 12 0) (get_or m 13 0)) 3 4 9 14 (get_or m 14 0) (get_or m 15 0)

-- 2.2, table 2
unfoldable pub permuted : List ℕ → List ℕ
permuted m =
    get_or m 2 0 ∷ get_or m 6 0 ∷ get_or m 3 0 ∷ get_or m 10 0 ∷ get_or m 7 0 ∷ get_or m 0 0 ∷ get_or m 4 0 ∷ get_or m 13 0
    ∷ get_or m 1 0 ∷ get_or m 11 0 ∷ get_or m 12 0 ∷ get_or m 5 0 ∷ get_or m 9 0 ∷ get_or m 14 0 ∷ get_or m 15 0 ∷ get_or m 8 0 ∷ []

-- a round: a mixing step over the columns, then one over the diagonals
unfoldable pub round_of : List ℕ → List ℕ → List ℕ
round_of v m = diagonals (columns v m) m

-- n rounds; the message words are permuted after each
unfoldable pub rounds : ℕ → List ℕ → List ℕ → List ℕ
rounds zero v m = v
rounds (suc n) v m = rounds n (round_of v m) (permuted m)

-- the initial state: chaining value, four words of the IV, counter t (low, high), block length b, flags d
unfoldable pub initial : List ℕ → ℕ → ℕ → ℕ → List ℕ
initial h t b d =
    get_or h 0 0 ∷ get_or h 1 0 ∷ get_or h 2 0 ∷ get_or h 3 0 ∷ get_or h 4 0 ∷ get_or h 5 0 ∷ get_or h 6 0 ∷ get_or h 7 0
    ∷ get_or iv 0 0 ∷ get_or iv 1 0 ∷ get_or iv 2 0 ∷ get_or iv 3 0 ∷ t % 2 ^ 32 ∷ t / 2 ^ 32 ∷ b ∷ d ∷ []

-- the first 8 words of the output: the chaining value, or the hash
unfoldable pub folded : List ℕ → List ℕ
folded v =
    xor32 (get_or v 0 0) (get_or v 8 0) ∷ xor32 (get_or v 1 0) (get_or v 9 0) ∷ xor32 (get_or v 2 0) (get_or v 10 0) ∷ xor32 (get_or v 3 0) (get_or v 11 0)
    ∷ xor32 (get_or v 4 0) (get_or v 12 0) ∷ xor32 (get_or v 5 0) (get_or v 13 0) ∷ xor32 (get_or v 6 0) (get_or v 14 0) ∷ xor32 (get_or v 7 0) (get_or v 15 0) ∷ []

-- the compression function: the chaining value h, the block's words m, the counter t, the block's length b, the flags d
unfoldable pub compressed : List ℕ → List ℕ → ℕ → ℕ → ℕ → List ℕ
compressed h m t b d = folded (rounds 7 (initial h t b d) m)
