-- The words of a digest fit 32 bits.
use Prim.Native.Nat.{ℕ, zero, suc, ◌+◌, ◌-◌, ◌*◌, ◌/◌, ◌%◌, ◌^◌, ◌≤◌, ◌<◌}
use native.Mathlib.Omega.{arith}
use native.Mathlib.Nat.{lt_of_le_of_lt, div-le_self, mod-lt, pow-suc}
use mathlib.Core.Bool.{Bool, true, false}
use mathlib.Core.List.{List, [], ◌∷◌}
use lib.Dec.{leb, lit<}
use lib.Bits.{xor_lt, or_lt}
use lib.Pow.{pow_pos}
use lib.ListN.{length, get_or, set, take, drop, length-drop}
use Rattle.math_word.specs.Word.{add32, xor32, rotr32}
use Rattle.table_rows.specs.Lists.{Each}
use Rattle.hash_compress.specs.Compress.{iv, compressed, folded, rounds, round_of, columns, diagonals, mix_at, mix_of, half_of, put_quad, initial, permuted}
use Rattle.math_word.specs.declared.Quad.{Quad}
use Rattle.hash_chunk.specs.Chunk.{chunk, blocks, parent, words_of}
use Rattle.hash_digest.specs.Blake3.{hash, tree, pick}

-- each cell fits, and so does what is read behind the end
pub record Small (l : List ℕ) : Type 0 where
  pub at : (i : ℕ) → get_or l i 0 < 2 ^ 32

cell_set : (l : List ℕ) (i v : ℕ) → ((j : ℕ) → get_or l j 0 < 2 ^ 32) → v < 2 ^ 32 → (j : ℕ) → get_or (set l i v) j 0 < 2 ^ 32
cell_set [] i v h q j = h j
cell_set (x ∷ l) zero v h q zero = q
cell_set (x ∷ l) zero v h q (suc j) = h (suc j)
cell_set (x ∷ l) (suc i) v h q zero = h 0
cell_set (x ∷ l) (suc i) v h q (suc j) = cell_set l i v (λ k. h (suc k)) q j

small_set : {l : List ℕ} (i v : ℕ) → Small l → v < 2 ^ 32 → Small (set l i v)
small_set {l} i v h q = record { at = cell_set l i v h.at q }

-- cells that fit
fit_at : (l : List ℕ) → Each (λ (v : ℕ). v < 2 ^ 32) l → (i : ℕ) → get_or l i 0 < 2 ^ 32
fit_at [] e i = pow_pos 32
fit_at (a ∷ l) e zero = e.0
fit_at (a ∷ l) e (suc i) = fit_at l e.1 i

fit_small : (l : List ℕ) → Each (λ (v : ℕ). v < 2 ^ 32) l → Small l
fit_small l e = record { at = fit_at l e }

pub record SmallQuad (q : Quad) : Type 0 where
  pub a : q.a < 2 ^ 32
  pub b : q.b < 2 ^ 32
  pub c : q.c < 2 ^ 32
  pub d : q.d < 2 ^ 32

add_small : (a b : ℕ) → add32 a b < 2 ^ 32
unfolding add32
add_small a b = mod-lt (a + b) (pow_pos 32)

xor_small : (a b : ℕ) → a < 2 ^ 32 → b < 2 ^ 32 → xor32 a b < 2 ^ 32
unfolding xor32
xor_small a b p q = xor_lt 32 a b p q

rot_small : (x n : ℕ) → x < 2 ^ 32 → rotr32 x n < 2 ^ 32
unfolding rotr32
rot_small x n h = or_lt 32 (x / 2 ^ n) ((x * 2 ^ (32 - n)) % 2 ^ 32) (lt_of_le_of_lt (div-le_self x (2 ^ n)) h) (mod-lt (x * 2 ^ (32 - n)) (pow_pos 32))

half_small : (q : Quad) (m s t : ℕ) → SmallQuad q → SmallQuad (half_of q m s t)
unfolding half_of
half_small q m s t h =
    let a = add_small (add32 q.a q.b) m in
    let d = rot_small (xor32 q.d (add32 (add32 q.a q.b) m)) s (xor_small q.d (add32 (add32 q.a q.b) m) h.d a) in
    let c = add_small q.c (rotr32 (xor32 q.d (add32 (add32 q.a q.b) m)) s) in
    record { a = a; b = rot_small _ t (xor_small q.b _ h.b c); c = c; d = d }

mix_small : (v : List ℕ) (a b c d x y : ℕ) → Small v → Small (mix_at v a b c d x y)
unfolding mix_at mix_of put_quad
mix_small v a b c d x y h =
    let q : Quad = record { a = get_or v a 0; b = get_or v b 0; c = get_or v c 0; d = get_or v d 0 } in
    let r : Quad = half_of (half_of q x 16 12) y 8 7 in
    let k : SmallQuad (half_of (half_of q x 16 12) y 8 7) = half_small (half_of q x 16 12) y 8 7 (half_small q x 16 12 (record { a = h.at a; b = h.at b; c = h.at c; d = h.at d })) in
    small_set d r.d (small_set c r.c (small_set b r.b (small_set a r.a h k.a) k.b) k.c) k.d

round_small : (v m : List ℕ) → Small v → Small (round_of v m)
unfolding round_of columns diagonals
round_small v m h =
    mix_small _ 3 4 9 14 _ _ (mix_small _ 2 7 8 13 _ _ (mix_small _ 1 6 11 12 _ _ (mix_small _ 0 5 10 15 _ _
    (mix_small _ 3 7 11 15 _ _ (mix_small _ 2 6 10 14 _ _ (mix_small _ 1 5 9 13 _ _ (mix_small v 0 4 8 12 _ _ h)))))))

rounds_small : (n : ℕ) (v m : List ℕ) → Small v → Small (rounds n v m)
unfolding rounds
rounds_small zero v m h = h
rounds_small (suc n) v m h = rounds_small n (round_of v m) (permuted m) (round_small v m h)

iv_small : Small iv
unfolding iv
iv_small = fit_small iv (lit< tt, (lit< tt, (lit< tt, (lit< tt, (lit< tt, (lit< tt, (lit< tt, (lit< tt, tt))))))))

initial_small : (h : List ℕ) (t b d : ℕ) → Small h → t < 2 ^ 32 → b < 2 ^ 32 → d < 2 ^ 32 → Small (initial h t b d)
unfolding initial
initial_small h t b d k p q r =
    let g = iv_small in
    fit_small (initial h t b d) (
      k.at 0,
      (k.at 1, (k.at 2, (k.at 3, (k.at 4, (k.at 5, (k.at 6, (k.at 7, (g.at 0, (g.at 1, (g.at 2, (g.at 3, (mod-lt t (pow_pos 32), (lt_of_le_of_lt (div-le_self t (2 ^ 32)) p, (q, (r, tt))))))))))))))),
    )

folded_fit : (v : List ℕ) → Small v → Each (λ (w : ℕ). w < 2 ^ 32) (folded v)
unfolding folded
folded_fit v h = (
  xor_small _ _ (h.at 0) (h.at 8),
  (
    xor_small _ _ (h.at 1) (h.at 9),
    (
      xor_small _ _ (h.at 2) (h.at 10),
      (
        xor_small _ _ (h.at 3) (h.at 11),
        (xor_small _ _ (h.at 4) (h.at 12), (xor_small _ _ (h.at 5) (h.at 13), (xor_small _ _ (h.at 6) (h.at 14), (xor_small _ _ (h.at 7) (h.at 15), tt)))),
      ),
    ),
  ),
)

compressed_fit : (h m : List ℕ) (t b d : ℕ) → Small h → t < 2 ^ 32 → b < 2 ^ 32 → d < 2 ^ 32 → Each (λ (w : ℕ). w < 2 ^ 32) (compressed h m t b d)
unfolding compressed
compressed_fit h m t b d k p q r = folded_fit (rounds 7 (initial h t b d) m) (rounds_small 7 (initial h t b d) m (initial_small h t b d k p q r))

blocks_fit : (k : ℕ) (h s : List ℕ) (t d e : ℕ) → Small h → t < 2 ^ 32 → length s < 2 ^ 32 → d ≤ 1 → e ≤ 8 → Each (λ (w : ℕ). w < 2 ^ 32) (blocks k h s t d e)
unfolding blocks
blocks_fit zero h s t d e k p q r u = compressed_fit h (words_of s) t (length s) (d + 2 + e) k p q (omega arith)
blocks_fit (suc n) h s t d e k p q r u =
    blocks_fit n (compressed h (words_of (take 64 s)) t 64 d) (drop 64 s) t 0 e
    (fit_small _ (compressed_fit h (words_of (take 64 s)) t 64 d k p (lit< tt) (omega arith))) p (omega (arith, length-drop 64 s)) (omega arith) u

tree_fit : (k : ℕ) (s : List ℕ) (t e : ℕ) → t + 2 ^ k ≤ 2 ^ 8 → length s < 2 ^ 32 → e ≤ 8 → Each (λ (w : ℕ). w < 2 ^ 32) (tree k s t e)
unfolding tree chunk parent
tree_fit zero s t e p q u = blocks_fit ((length s - 1) / 64) iv s t 1 e iv_small (omega arith) q (omega arith) u
tree_fit (suc k) s t e p q u = go (leb (length s) (1024 * 2 ^ k)) (tree_fit k s t e (omega (arith, pow-suc 2 k)) q u)
  where
    go : (b : Bool) → Each (λ (w : ℕ). w < 2 ^ 32) (tree k s t e)
        → Each (λ (w : ℕ). w < 2 ^ 32) (pick b (tree k s t e) (parent (tree k (take (1024 * 2 ^ k) s) t 0) (tree k (drop (1024 * 2 ^ k) s) (t + 2 ^ k) 0) e))
    go true h = h
    go false h = compressed_fit iv _ 0 64 (4 + e) iv_small (lit< tt) (lit< tt) (omega arith)

-- of an input shorter than 2^32
pub hash_fit : (s : List ℕ) → length s < 2 ^ 32 → Each (λ (w : ℕ). w < 2 ^ 32) (hash s)
unfolding hash
hash_fit s q = tree_fit 7 s 0 8 (omega arith) q (omega arith)
