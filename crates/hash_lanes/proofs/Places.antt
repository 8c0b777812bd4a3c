-- Laws of words written into bytes, and of the blocks of four parent nodes.
use Prim.Native.Nat.{ℕ, ◌+◌, ◌*◌, ◌/◌, ◌%◌, ◌^◌, ◌<◌, ◌≤◌}
use mathlib.Core.Path.{◌≡◌, refl, ap, ◌∙◌}
use mathlib.Core.List.{List, [], ◌∷◌, ◌++◌}
use native.Mathlib.Nat.{add-zero}
use lib.Seq.{paste}
use Rattle.std.proofs.lemmas.List.Edits.{paste_none, paste_more}
use Rattle.std.proofs.lemmas.Slice.{put_mid-paste}
use borrow.Rule.Slice.PartMut.{put_mid}
use lib.ListN.{get_or, set, length, drop, length-set}
use lib.Seq.{get_or-drop, get_or-set_same, get_or-set_other}
use native.Mathlib.Omega.{arith}
use borrow.Author.Count.{below_more}
use Rattle.math_word.specs.Word.{le_word}
use Rattle.hash_chunk.specs.Chunk.{words_of}
use Rattle.hash_lanes.specs.Lanes.{lane8}

-- b with the word w from byte p on
abbrev pub written : List ℕ → ℕ → ℕ → List ℕ
written b p w = set (set (set (set b p (w % 256)) (p + 1) (w / 256 % 256)) (p + 2) (w / 65536 % 256)) (p + 3) (w / 16777216 % 256)

-- a word is its bytes
digits : (w : ℕ) → w < 2 ^ 32 → w % 256 + 256 * (w / 256 % 256) + 65536 * (w / 65536 % 256) + 16777216 * (w / 16777216 % 256) ≡ w
digits w h = omega arith

module _ (b : List ℕ) (p w : ℕ) where
  pub length_written : length (written b p w) ≡ length b
  length_written = simp length-set

  -- a byte apart from the word keeps what it had
  apart : (x : ℕ) → (x ≡ p → ⊥) → (x ≡ p + 1 → ⊥) → (x ≡ p + 2 → ⊥) → (x ≡ p + 3 → ⊥) → get_or (written b p w) x 0 ≡ get_or b x 0
  apart x n0 n1 n2 n3 =
      let b1 = set b p (w % 256) in
      let b2 = set b1 (p + 1) (w / 256 % 256) in
      let b3 = set b2 (p + 2) (w / 65536 % 256) in
      get_or-set_other b3 (p + 3) x (w / 16777216 % 256) 0 n3
      ∙ get_or-set_other b2 (p + 2) x (w / 65536 % 256) 0 n2
      ∙ get_or-set_other b1 (p + 1) x (w / 256 % 256) 0 n1
      ∙ get_or-set_other b p x (w % 256) 0 n0

  pub word_kept : p % 4 ≡ 0 → (q : ℕ) → q % 4 ≡ 0 → (q ≡ p → ⊥) → le_word (written b p w) q ≡ le_word b q
  unfolding le_word
  word_kept h q g n =
      let e0 = apart q (λ e. n (omega arith)) (λ e. n (omega arith)) (λ e. n (omega arith)) (λ e. n (omega arith)) in
      let e1 = apart (q + 1) (λ e. n (omega arith)) (λ e. n (omega arith)) (λ e. n (omega arith)) (λ e. n (omega arith)) in
      let e2 = apart (q + 2) (λ e. n (omega arith)) (λ e. n (omega arith)) (λ e. n (omega arith)) (λ e. n (omega arith)) in
      let e3 = apart (q + 3) (λ e. n (omega arith)) (λ e. n (omega arith)) (λ e. n (omega arith)) (λ e. n (omega arith)) in
      cc

  pub word_written : p + 4 ≤ length b → w < 2 ^ 32 → le_word (written b p w) p ≡ w
  unfolding le_word
  word_written h g =
      let b1 = set b p (w % 256) in
      let b2 = set b1 (p + 1) (w / 256 % 256) in
      let b3 = set b2 (p + 2) (w / 65536 % 256) in
      let l1 : length b1 ≡ length b = length-set b p (w % 256) in
      let l2 : length b2 ≡ length b1 = length-set b1 (p + 1) (w / 256 % 256) in
      let l3 : length b3 ≡ length b2 = length-set b2 (p + 2) (w / 65536 % 256) in
      let e0 : get_or (written b p w) p 0 ≡ w % 256 =
      get_or-set_other b3 (p + 3) p (w / 16777216 % 256) 0 (λ e. omega arith) ∙ get_or-set_other b2 (p + 2) p (w / 65536 % 256) 0 (λ e. omega arith)
      ∙ get_or-set_other b1 (p + 1) p (w / 256 % 256) 0 (λ e. omega arith) ∙ get_or-set_same b p (w % 256) 0 (omega arith) in
      let e1 : get_or (written b p w) (p + 1) 0 ≡ w / 256 % 256 =
      get_or-set_other b3 (p + 3) (p + 1) (w / 16777216 % 256) 0 (λ e. omega arith) ∙ get_or-set_other b2 (p + 2) (p + 1) (w / 65536 % 256) 0 (λ e. omega arith)
      ∙ get_or-set_same b1 (p + 1) (w / 256 % 256) 0 (omega arith) in
      let e2 : get_or (written b p w) (p + 2) 0 ≡ w / 65536 % 256 =
      get_or-set_other b3 (p + 3) (p + 2) (w / 16777216 % 256) 0 (λ e. omega arith) ∙ get_or-set_same b2 (p + 2) (w / 65536 % 256) 0 (omega arith) in
      let e3 : get_or (written b p w) (p + 3) 0 ≡ w / 16777216 % 256 = get_or-set_same b3 (p + 3) (w / 16777216 % 256) 0 (omega arith) in
      cc (digits w g)

  abbrev bytes : List ℕ
  bytes = w % 256 ∷ w / 256 % 256 ∷ w / 65536 % 256 ∷ w / 16777216 % 256 ∷ []

  -- its bytes, copied there
  pub copied : p + 4 ≤ length b → paste b p bytes 4 ≡ written b p w
  copied h =
      cc (
        paste_none b p bytes,
        add-zero p,
        paste_more b p bytes 0 0 (omega arith) (omega arith),
        paste_more b p bytes 1 0 (omega arith) (omega arith),
        paste_more b p bytes 2 0 (omega arith) (omega arith),
        paste_more b p bytes 3 0 (omega arith) (omega arith),
      )

  pub put_made : (x v : List ℕ) (k : ℕ) → v ≡ bytes → 4 ≡ k → x ≡ put_mid p k b v → p % 4 ≡ 0 → p + 4 ≤ 256 → length b ≡ 256 → w < 2 ^ 32
      → (length x ≡ 256) × (le_word x p ≡ w) × ((q : ℕ) → q % 4 ≡ 0 → (q ≡ p → ⊥) → le_word x q ≡ le_word b q)
  put_made x v k e f d h room long g =
      let is : x ≡ written b p w = d ∙ put_mid-paste p k b v bytes 4 e f refl ∙ copied (omega arith) in (
        ap length is ∙ length_written ∙ long,
        ap (λ y. le_word y p) is ∙ word_written (omega arith) g,
        λ q i n. ap (λ y. le_word y q) is ∙ word_kept h q i n,
      )

-- the byte at which word j of four lanes stands
abbrev pub place : ℕ → ℕ
place j = 64 * (j % 4) + 4 * (j / 4)

-- the first i words of a and b are in place
abbrev pub Filled : List ℕ → List ℕ → ℕ → List ℕ → Type 0
Filled a b i out = (j : ℕ) → j < i → (le_word out (place j) ≡ get_or a j 0) × (le_word out (place j + 32) ≡ get_or b j 0)

-- x differs from out in the word at p
abbrev pub Kept : List ℕ → ℕ → List ℕ → Type 0
Kept out p x = (q : ℕ) → q % 4 ≡ 0 → (q ≡ p → ⊥) → le_word x q ≡ le_word out q

module _ (a b : List ℕ) where
  pub filled_turn : (out x y : List ℕ) (i : ℕ) → i < 32 → Filled a b i out → le_word x (place i) ≡ get_or a i 0 → Kept out (place i) x
      → le_word y (place i + 32) ≡ get_or b i 0 → Kept x (place i + 32) y → Filled a b (i + 1) y
  filled_turn out x y i h inv ex kx ey ky =
      below_more _ i (λ j k. (
        ky (place j) (omega arith) (λ e. omega arith) ∙ kx (place j) (omega arith) (λ e. omega arith) ∙ (inv j k).0,
        ky (place j + 32) (omega arith) (λ e. omega arith) ∙ kx (place j + 32) (omega arith) (λ e. omega arith) ∙ (inv j k).1,
      )) (ky (place i) (omega arith) (λ e. omega arith) ∙ ex, ey)

  module _ (r : List ℕ) (f : Filled a b 32 r) (l : ℕ) (h : l < 4) where
    word_drop : (m q : ℕ) → le_word (drop m r) q ≡ le_word r (m + q)
    unfolding le_word
    word_drop m q =
        let e1 : m + (q + 1) ≡ m + q + 1 = omega arith in
        let e2 : m + (q + 2) ≡ m + q + 2 = omega arith in
        let e3 : m + (q + 3) ≡ m + q + 3 = omega arith in
        cc (get_or-drop m r q 0, get_or-drop m r (q + 1) 0, get_or-drop m r (q + 2) 0, get_or-drop m r (q + 3) 0)

    word_left : (w : ℕ) → w < 8 → le_word (drop (64 * l) r) (4 * w) ≡ get_or a (4 * w + l) 0
    word_left w g =
        let e : 64 * l + 4 * w ≡ place (4 * w + l) = omega arith in
        word_drop (64 * l) (4 * w) ∙ ap (le_word r) e ∙ (f (4 * w + l) (omega arith)).0

    word_right : (w : ℕ) → w < 8 → le_word (drop (64 * l) r) (4 * w + 32) ≡ get_or b (4 * w + l) 0
    word_right w g =
        let e : 64 * l + (4 * w + 32) ≡ place (4 * w + l) + 32 = omega arith in
        word_drop (64 * l) (4 * w + 32) ∙ ap (le_word r) e ∙ (f (4 * w + l) (omega arith)).1

    pub filled_blocks : words_of (drop (64 * l) r) ≡ lane8 a l ++ lane8 b l
    unfolding words_of lane8
    filled_blocks =
        cc (
          word_left 0 (omega arith),
          word_left 1 (omega arith),
          word_left 2 (omega arith),
          word_left 3 (omega arith),
          word_left 4 (omega arith),
          word_left 5 (omega arith),
          word_left 6 (omega arith),
          word_left 7 (omega arith),
          word_right 0 (omega arith),
          word_right 1 (omega arith),
          word_right 2 (omega arith),
          word_right 3 (omega arith),
          word_right 4 (omega arith),
          word_right 5 (omega arith),
          word_right 6 (omega arith),
          word_right 7 (omega arith),
        )
