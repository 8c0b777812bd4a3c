-- The words of a block: they stand in its first 64 bytes, also where two parts are joined in it.
use Rattle.std.proofs.Common.{◌≡◌, ℕ, ◌+◌, ◌-◌, ◌<◌, ◌≤◌, List, ◌++◌, Bool, true, false, length, get_or, take, replicate, refl, sym, ap, ◌∙◌, arith, length-take}
use Rattle.std.proofs.Math.Seq.{get_or-take, get_or-append_right}
use Rattle.std.proofs.Math.ListN.{get_or-append}
use Rattle.std.proofs.lemmas.List.{get_or_past, get_or-replicate, length-replicate}
use lib.Dec.{ltb}
use borrow.Author.Tests.{ltb-true, ltb-false}
use Rattle.math_word.specs.Word.{le_word}
use Rattle.hash_chunk.specs.Chunk.{words_of}

zeros : (n i : ℕ) → ◌≡◌ {A = ℕ} (get_or (replicate n 0) i 0) 0
zeros n i = go (ltb i n) refl
  where
    go : (b : Bool) → ltb i n ≡ b → ◌≡◌ {A = ℕ} (get_or (replicate n 0) i 0) 0
    go true e = get_or-replicate n i 0 0 (ltb-true _ _ e)
    go false e =
        let h : n ≤ i = ltb-false _ _ e in
        let q : length (replicate {A = ℕ} n 0) ≤ i = omega (arith, length-replicate {A = ℕ} n 0) in
        get_or_past (replicate n 0) i 0 q

-- the first n bytes of s with zeros behind them
filled : (n k i : ℕ) (s : List ℕ) → i < n → get_or (take n s ++ replicate k 0) i 0 ≡ get_or s i 0
filled n k i s h = go (ltb i (length s)) refl
  where
    go : (b : Bool) → ltb i (length s) ≡ b → get_or (take n s ++ replicate k 0) i 0 ≡ get_or s i 0
    go true e = let q : i < length s = ltb-true _ _ e in get_or-append (take n s) (replicate k 0) 0 i (omega (arith, length-take n s)) ∙ get_or-take n s i 0 h
    go false e =
        let q : length s ≤ i = ltb-false _ _ e in
        get_or-append_right (take n s) (replicate k 0) i 0 (omega (arith, length-take n s)) ∙ zeros k (i - length (take n s)) ∙ sym (get_or_past s i 0 q)

-- two parts joined in a block
padded_at : (h t : List ℕ) (k i : ℕ) → i < 64 → get_or (h ++ (take (64 - length h) t ++ replicate k 0)) i 0 ≡ get_or (h ++ t) i 0
padded_at h t k i l = go (ltb i (length h)) refl
  where
    go : (b : Bool) → ltb i (length h) ≡ b → get_or (h ++ (take (64 - length h) t ++ replicate k 0)) i 0 ≡ get_or (h ++ t) i 0
    go true e = let q : i < length h = ltb-true _ _ e in get_or-append h _ 0 i q ∙ sym (get_or-append h t 0 i q)
    go false e =
        let q : length h ≤ i = ltb-false _ _ e in
        get_or-append_right h _ i 0 q ∙ filled (64 - length h) k (i - length h) t (omega arith) ∙ sym (get_or-append_right h t i 0 q)

word_same : (a b : List ℕ) (i : ℕ) → i + 3 < 64 → ((k : ℕ) → k < 64 → get_or a k 0 ≡ get_or b k 0) → le_word a i ≡ le_word b i
unfolding le_word
word_same a b i h e =
    let h0 : i < 64 = omega arith in
    let h1 : i + 1 < 64 = omega arith in
    let h2 : i + 2 < 64 = omega arith in
    cc (e i h0, e (i + 1) h1, e (i + 2) h2, e (i + 3) h)

-- a block's words stand in its first 64 bytes
pub words_same : (a b : List ℕ) → ((k : ℕ) → k < 64 → get_or a k 0 ≡ get_or b k 0) → words_of a ≡ words_of b
unfolding words_of
words_same a b e =
    cc (
      word_same a b 0 (omega arith) e,
      word_same a b 4 (omega arith) e,
      word_same a b 8 (omega arith) e,
      word_same a b 12 (omega arith) e,
      word_same a b 16 (omega arith) e,
      word_same a b 20 (omega arith) e,
      word_same a b 24 (omega arith) e,
      word_same a b 28 (omega arith) e,
      word_same a b 32 (omega arith) e,
      word_same a b 36 (omega arith) e,
      word_same a b 40 (omega arith) e,
      word_same a b 44 (omega arith) e,
      word_same a b 48 (omega arith) e,
      word_same a b 52 (omega arith) e,
      word_same a b 56 (omega arith) e,
      word_same a b 60 (omega arith) e,
    )

pub words_head : (head tail : List ℕ) → 64 ≤ length head → words_of head ≡ words_of (head ++ tail)
words_head head tail h = words_same head (head ++ tail) (λ k l. sym (get_or-append head tail 0 k (omega arith)))

pub words_joined : (h t b : List ℕ) (k : ℕ) → b ≡ h ++ (take (64 - length h) t ++ replicate k 0) → words_of b ≡ words_of (h ++ t)
words_joined h t b k e = ap words_of e ∙ words_same _ _ (padded_at h t k)
