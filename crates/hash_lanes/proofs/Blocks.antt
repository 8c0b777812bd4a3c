-- Laws of the loop over the blocks of a lane's chunk, which stands at byte p and has the counter c.
use Prim.Native.Nat.{ℕ, zero, suc, ◌+◌, ◌-◌, ◌*◌, ◌/◌, ◌<◌, ◌≤◌}
use mathlib.Core.Path.{◌≡◌, refl, ap, ap₂, sym, ◌∙◌, subst}
use mathlib.Core.List.{List, [], ◌∷◌}
use lib.ListN.{length, take, drop, length-drop}
use lib.Seq.{drop-drop, take-take, length-take-le}
use native.Mathlib.Omega.{arith}
use Rattle.hash_compress.specs.Compress.{iv, compressed}
use Rattle.hash_chunk.specs.Chunk.{words_of, blocks, chunk}
use Rattle.math_parts.proofs.Parts.{take_none, take_past}
use Rattle.hash_chunk.proofs.Laws.{words_take, blocks_next, blocks_last}

pub drop_take : (m n : ℕ) (s : List ℕ) → drop m (take n s) ≡ take (n - m) (drop m s)
drop_take zero n s = let e : n ≡ n - 0 = omega arith in ap (λ k. take k s) e
drop_take (suc m) zero s = let e : 0 ≡ 0 - suc m = omega arith in ap (λ k. take k (drop (suc m) s)) e
drop_take (suc m) (suc n) [] = sym (take_none (suc n - suc m))
drop_take (suc m) (suc n) (x ∷ s) = let e : n - m ≡ suc n - suc m = omega arith in drop_take m n s ∙ ap (λ k. take k (drop m s)) e

pub drop_swap : (m n : ℕ) (s : List ℕ) → drop m (drop n s) ≡ drop n (drop m s)
drop_swap m n s =
    let f : n + m ≡ m + n = omega arith in
    drop-drop m n s ∙ ap (λ k. drop k s) f ∙ sym (drop-drop n m s)

module _ (s : List ℕ) (p c : ℕ) where
  -- the blocks so far gave h, and with the w bytes left they give the chunk
  unfoldable pub Under : ℕ → List ℕ → List ℕ → ℕ → Type 0
  Under d h rest w = blocks ((length (take w (drop p rest)) - 1) / 64) h (take w (drop p rest)) c d 0 ≡ chunk (take 1024 (drop p s)) c 0

  pub under_start : {h : List ℕ} → h ≡ iv → Under 1 h s 1024
  unfolding Under chunk
  under_start q = ap (λ i. blocks ((length (take 1024 (drop p s)) - 1) / 64) i (take 1024 (drop p s)) c 1 0) q

  module _ (d : ℕ) (h rest : List ℕ) (w : ℕ) (fits : p + w ≤ length rest) where
    length_left : length (take w (drop p rest)) ≡ w
    length_left = length-take-le w (drop p rest) (let e = length-drop p rest in omega arith)

    words_left : 64 ≤ w → words_of (drop p rest) ≡ words_of (take 64 (take w (drop p rest)))
    words_left n = words_take (drop p rest) ∙ ap words_of (sym (take-take 64 w (drop p rest) n))

    pub under_turn : (h' next : List ℕ) → 64 < w → Under d h rest w → h' ≡ compressed h (words_of (drop p rest)) c 64 d → next ≡ drop 64 rest → Under 0 h' next (w - 64)
    unfolding Under
    under_turn h' next n u q r =
        let a = length_left in
        blocks_next h (take w (drop p rest)) c d 0 (omega arith)
        (ap (λ x. take (w - 64) (drop p x)) r ∙ ap (take (w - 64)) (drop_swap p 64 rest) ∙ sym (drop_take 64 w (drop p rest)))
        refl (words_left (omega arith)) q ∙ u

    pub under_end : (r : List ℕ) → w ≡ 64 → Under d h rest w → r ≡ compressed h (words_of (drop p rest)) c 64 (d + 2) → r ≡ chunk (take 1024 (drop p s)) c 0
    unfolding Under
    under_end r n u q =
        let a : length (take w (drop p rest)) ≡ 64 = length_left ∙ n in
        let e : d + 2 ≡ d + 2 + 0 = omega arith in
        blocks_last h (take w (drop p rest)) c d 0 (omega arith) (words_left (omega arith) ∙ ap words_of (sym (take_past 64 (take w (drop p rest)) (omega arith))))
        (q ∙ ap₂ (λ b f. compressed h (words_of (drop p rest)) c b f) (sym a) e) ∙ u

  -- the loop over the blocks of s: block i stands at byte 64 i
  pub under_next : (i d : ℕ) (h h' rest : List ℕ) → i < 15 → p + 1024 ≤ length s → rest ≡ drop (64 * i) s → Under d h (drop (64 * i) s) (1024 - 64 * i)
      → h' ≡ compressed h (words_of (drop p rest)) c 64 d → Under 0 h' (drop (64 * (i + 1)) s) (1024 - 64 * (i + 1))
  under_next i d h h' rest l room e u q =
      let w : 1024 - 64 * i - 64 ≡ 1024 - 64 * (i + 1) = omega arith in
      let f : 64 * i + 64 ≡ 64 * (i + 1) = omega arith in
      let n : length rest ≡ length s - 64 * i = ap length e ∙ length-drop (64 * i) s in
      subst (λ x. Under 0 h' (drop (64 * (i + 1)) s) x) w
      (under_turn d h rest (1024 - 64 * i) (omega arith) h' (drop (64 * (i + 1)) s) (omega arith) (subst (λ x. Under d h x (1024 - 64 * i)) (sym e) u) q
      (sym (ap (drop 64) e ∙ drop-drop 64 (64 * i) s ∙ ap (λ k. drop k s) f)))

  pub under_done : (i d : ℕ) (h r rest : List ℕ) → i ≡ 15 → p + 1024 ≤ length s → rest ≡ drop 960 s → Under d h (drop (64 * i) s) (1024 - 64 * i)
      → r ≡ compressed h (words_of (drop p rest)) c 64 (d + 2) → r ≡ chunk (take 1024 (drop p s)) c 0
  under_done i d h r rest l room e u q =
      let n : length rest ≡ length s - 960 = ap length e ∙ length-drop 960 s in
      under_end d h rest 64 (omega arith) r refl (subst (λ x. Under d h x 64) (sym e) (subst (λ k. Under d h (drop (64 * k) s) (1024 - 64 * k)) l u)) q
