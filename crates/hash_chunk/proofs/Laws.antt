-- Laws of a block's words, and of the loop over a chunk's blocks.
use Prim.Native.Nat.{ℕ, suc, ◌+◌, ◌-◌, ◌/◌, ◌<◌, ◌≤◌}
use mathlib.Core.Path.{◌≡◌, refl, ap, ap₂, sym, ◌∙◌, subst}
use mathlib.Core.List.{List, ◌++◌}
use lib.ListN.{length, take, drop, length-drop, length-append}
use lib.Seq.{get_or-take}
use native.Mathlib.Omega.{arith}
use Rattle.hash_compress.specs.Compress.{compressed}
use Rattle.math_parts.proofs.Parts.{drop_both}
use Rattle.hash_chunk.specs.Chunk.{blocks, words_of}
use Rattle.math_word.specs.Word.{le_word}

-- a block's words stand in its first 64 bytes
word_take : (s : List ℕ) (i : ℕ) → i + 3 < 64 → le_word (take 64 s) i ≡ le_word s i
unfolding le_word
word_take s i h =
    let h0 : i < 64 = omega arith in
    let h1 : i + 1 < 64 = omega arith in
    let h2 : i + 2 < 64 = omega arith in
    cc (get_or-take 64 s i 0 h0, get_or-take 64 s (i + 1) 0 h1, get_or-take 64 s (i + 2) 0 h2, get_or-take 64 s (i + 3) 0 h)

pub words_take : (s : List ℕ) → words_of s ≡ words_of (take 64 s)
unfolding words_of
words_take s =
    cc (
      word_take s 0 (omega arith),
      word_take s 4 (omega arith),
      word_take s 8 (omega arith),
      word_take s 12 (omega arith),
      word_take s 16 (omega arith),
      word_take s 20 (omega arith),
      word_take s 24 (omega arith),
      word_take s 28 (omega arith),
      word_take s 32 (omega arith),
      word_take s 36 (omega arith),
      word_take s 40 (omega arith),
      word_take s 44 (omega arith),
      word_take s 48 (omega arith),
      word_take s 52 (omega arith),
      word_take s 56 (omega arith),
      word_take s 60 (omega arith),
    )

-- a turn of the loop over a chunk's blocks
pub blocks_turn : (h s : List ℕ) (t d e : ℕ) → 64 < length s
    → blocks ((length (drop 64 s) - 1) / 64) (compressed h (words_of (take 64 s)) t 64 d) (drop 64 s) t 0 e ≡ blocks ((length s - 1) / 64) h s t d e
unfolding blocks
blocks_turn h s t d e g =
    let k : (length s - 1) / 64 ≡ suc ((length (drop 64 s) - 1) / 64) = simp length-drop (omega arith) in
    sym (ap (λ n. blocks n h s t d e) k)

pub blocks_next : (h s : List ℕ) (t d e : ℕ) {h' s' b m : List ℕ} → 64 < length s → s' ≡ drop 64 s → b ≡ take 64 s → m ≡ words_of b → h' ≡ compressed h m t 64 d
    → blocks ((length s' - 1) / 64) h' s' t 0 e ≡ blocks ((length s - 1) / 64) h s t d e
blocks_next h s t d e g p q u v =
    ap₂ (λ x y. blocks ((length x - 1) / 64) y x t 0 e) p (v ∙ ap (λ x. compressed h x t 64 d) (u ∙ ap words_of q))
    ∙ blocks_turn h s t d e g

pub blocks_last : (h s : List ℕ) (t d e : ℕ) {r m : List ℕ} → length s ≤ 64 → m ≡ words_of s → r ≡ compressed h m t (length s) (d + 2 + e)
    → r ≡ blocks ((length s - 1) / 64) h s t d e
unfolding blocks
blocks_last h s t d e g u v =
    let k : (length s - 1) / 64 ≡ 0 = omega arith in
    v ∙ ap (λ x. compressed h x t (length s) (d + 2 + e)) u ∙ sym (ap (λ n. blocks n h s t d e) k)

-- the loop over a chunk's blocks
pub blocks_two : (h f r : List ℕ) (t d e n : ℕ) {h' f' r' m : List ℕ} → 64 < length f + length r → n ≡ 64 - length f → r' ≡ drop n r → f' ≡ drop 64 f →
    m ≡ words_of (f ++ r) → h' ≡ compressed h m t 64 d
    → blocks ((length (f' ++ r') - 1) / 64) h' (f' ++ r') t 0 e ≡ blocks ((length (f ++ r) - 1) / 64) h (f ++ r) t d e
blocks_two h f r t d e n g p q s u v =
    blocks_next h (f ++ r) t d e (subst (λ z. 64 < z) (sym (length-append f r)) g) (ap₂ ◌++◌ s (q ∙ ap (λ k. drop k r) p) ∙ sym (drop_both 64 f r)) refl (u ∙ words_take (f ++ r)) v

pub blocks_end : (h f r : List ℕ) (t d e : ℕ) {x m : List ℕ} → length f + length r ≤ 64 → m ≡ words_of (f ++ r) → x ≡ compressed h m t (length f + length r) (d + 2 + e)
    → x ≡ blocks ((length (f ++ r) - 1) / 64) h (f ++ r) t d e
blocks_end h f r t d e {x} {m} g u v =
    blocks_last h (f ++ r) t d e (subst (λ z. z ≤ 64) (sym (length-append f r)) g) u (v ∙ ap (λ z. compressed h m t z (d + 2 + e)) (sym (length-append f r)))

pub shorter : (f r : List ℕ) (n : ℕ) {f' r' : List ℕ} → n ≡ 64 - length f → r' ≡ drop n r → f' ≡ drop 64 f → length f' + length r' ≡ length f + length r - 64
shorter f r n {f'} {r'} p q s =
    let a : length f' ≡ length f - 64 = ap length s ∙ length-drop 64 f in
    let b : length r' ≡ length r - n = ap length q ∙ length-drop n r in
    omega arith
