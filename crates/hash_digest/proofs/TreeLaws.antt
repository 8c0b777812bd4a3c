-- Laws of the tree, for its recursion over two parts in a row.
use Prim.Native.Nat.{ℕ, zero, suc, ◌+◌, ◌-◌, ◌*◌, ◌^◌, ◌<◌, ◌≤◌}
use mathlib.Core.Path.{◌≡◌, refl, ap, ap₂, sym, ◌∙◌, subst}
use mathlib.Core.List.{List, ◌++◌}
use native.Mathlib.Omega.{arith}
use native.Mathlib.Nat.{pow-succ'}
use lib.Pow.{pow_mono}
use lib.ListN.{length, take, drop, length-append, length-drop}
use lib.Seq.{length-take-le, take-take, take_all, drop-drop}
use borrow.Author.Tests.{le-leb, lt-leb}
use Rattle.hash_chunk.specs.Chunk.{chunk, parent}
use Rattle.hash_lanes.specs.Lanes.{full, full_at, whole_of}
use Rattle.hash_lanes.proofs.Blocks.{drop_take}
use Rattle.hash_lanes.proofs.Laws.{double}
use Rattle.math_parts.proofs.Parts.{take_both, drop_both}
use Rattle.hash_digest.specs.Blake3.{tree, hash, pick}

-- the level is a successor
up : (k : ℕ) (s : List ℕ) (t e : ℕ) → (k ≡ 0 → ⊥) → tree (suc (k - 1)) s t e ≡ tree k s t e
up k s t e f =
    let p : suc (k - 1) ≡ k = omega arith in
    ap (λ n. tree n s t e) p

pub tree_leaf : (k : ℕ) (s : List ℕ) (t e : ℕ) → k ≡ 0 → chunk s t e ≡ tree k s t e
unfolding tree
tree_leaf k s t e p = sym (ap (λ n. tree n s t e) p)

pub tree_same : (k : ℕ) (s : List ℕ) (t e : ℕ) → (k ≡ 0 → ⊥) → length s ≤ 1024 * 2 ^ (k - 1) → tree (k - 1) s t e ≡ tree k s t e
unfolding tree
tree_same k s t e f h =
    sym (ap (λ b. pick b (tree (k - 1) s t e)
    (parent (tree (k - 1) (take (1024 * 2 ^ (k - 1)) s) t 0) (tree (k - 1) (drop (1024 * 2 ^ (k - 1)) s) (t + 2 ^ (k - 1)) 0) e)) (le-leb _ _ h)) ∙ up k s t e f

pub tree_both : (k : ℕ) (s : List ℕ) (t e : ℕ) → (k ≡ 0 → ⊥) → 1024 * 2 ^ (k - 1) < length s
    → parent (tree (k - 1) (take (1024 * 2 ^ (k - 1)) s) t 0) (tree (k - 1) (drop (1024 * 2 ^ (k - 1)) s) (t + 2 ^ (k - 1)) 0) e ≡ tree k s t e
unfolding tree
tree_both k s t e f h =
    sym (ap (λ b. pick b (tree (k - 1) s t e)
    (parent (tree (k - 1) (take (1024 * 2 ^ (k - 1)) s) t 0) (tree (k - 1) (drop (1024 * 2 ^ (k - 1)) s) (t + 2 ^ (k - 1)) 0) e)) (lt-leb _ _ h)) ∙ up k s t e f

pub tree_made : (k : ℕ) (s : List ℕ) (t e n : ℕ) (f b : List ℕ) {v l r : List ℕ} → (k ≡ 0 → ⊥) → n ≡ 2 ^ (k - 1) → 1024 * n < length s
    → f ≡ take (1024 * n) s → b ≡ drop (1024 * n) s → l ≡ tree (k - 1) f t 0 → r ≡ tree (k - 1) b (t + n) 0 → v ≡ parent l r e → v ≡ tree k s t e
tree_made k s t e n f b x p h q₁ q₂ q₃ q₄ q₅ =
    let g : 1024 * 2 ^ (k - 1) < length s = omega arith in
    cc (tree_both k s t e x g)

pub tree_two_same : (k : ℕ) (h t : List ℕ) (at e : ℕ) → (k ≡ 0 → ⊥) → length h + length t ≤ 1024 * 2 ^ (k - 1) → tree (k - 1) (h ++ t) at e ≡ tree k (h ++ t) at e
tree_two_same k h t at e f l = tree_same k (h ++ t) at e f (subst (λ z. z ≤ 1024 * 2 ^ (k - 1)) (sym (length-append h t)) l)

pub tree_two_made : (k : ℕ) (h t : List ℕ) (at e n m : ℕ) (fh ft bh bt : List ℕ) {v l r : List ℕ} → (k ≡ 0 → ⊥) → n ≡ 2 ^ (k - 1) → 1024 * n < length h + length t → m ≡ 1024 * n - length h
    → fh ≡ take (1024 * n) h → ft ≡ take m t → bh ≡ drop (1024 * n) h → bt ≡ drop m t
    → l ≡ tree (k - 1) (fh ++ ft) at 0 → r ≡ tree (k - 1) (bh ++ bt) (at + n) 0 → v ≡ parent l r e → v ≡ tree k (h ++ t) at e
tree_two_made k h t at e n m fh ft bh bt x p g q a b c d =
    tree_made k (h ++ t) at e n (fh ++ ft) (bh ++ bt) x p (subst (λ z. 1024 * n < z) (sym (length-append h t)) g)
    (ap₂ ◌++◌ a (b ∙ ap (λ z. take z t) q) ∙ sym (take_both (1024 * n) h t))
    (ap₂ ◌++◌ c (d ∙ ap (λ z. drop z t) q) ∙ sym (drop_both (1024 * n) h t))

-- one chunk at the most, at any level
pub tree_one : (k : ℕ) (s : List ℕ) (t e : ℕ) → length s ≤ 1024 → chunk s t e ≡ tree k s t e
unfolding tree
tree_one zero s t e h = refl
tree_one (suc k) s t e h =
    let p : 1 ≤ 2 ^ k = pow_mono {i = 0} {j = k} (omega arith) in
    let q : length s ≤ 1024 * 2 ^ k = omega arith in
    tree_one k s t e h ∙ sym (ap (λ b. pick b (tree k s t e) (parent (tree k (take (1024 * 2 ^ k) s) t 0) (tree k (drop (1024 * 2 ^ k) s) (t + 2 ^ k) 0) e)) (le-leb _ _ q))

pub hash_one : (f r : List ℕ) {v : List ℕ} → length f + length r ≤ 1024 → v ≡ chunk (f ++ r) 0 8 → v ≡ hash (f ++ r)
unfolding hash
hash_one f r h p = let n = length-append f r in p ∙ tree_one 7 (f ++ r) 0 8 (omega arith)

-- a whole tree reads no more than its chunks
full_take : (k : ℕ) (s : List ℕ) (t : ℕ) → full k (take (1024 * 2 ^ k) s) t ≡ full k s t
unfolding full
full_take zero s t = ap (λ x. chunk x t 0) (take-take 1024 1024 s (omega arith))
full_take (suc k) s t =
    let p = pow-succ' 2 k in
    let e : 1024 * 2 ^ suc k - 1024 * 2 ^ k ≡ 1024 * 2 ^ k = omega arith in
    ap₂ (λ x y. parent x y 0)
    (sym (full_take k (take (1024 * 2 ^ suc k) s) t) ∙ ap (λ x. full k x t) (take-take (1024 * 2 ^ k) (1024 * 2 ^ suc k) s (omega arith)) ∙ full_take k s t)
    (ap (λ x. full k x (t + 2 ^ k)) (drop_take (1024 * 2 ^ k) (1024 * 2 ^ suc k) s ∙ ap (λ n. take n (drop (1024 * 2 ^ k) s)) e) ∙ full_take k (drop (1024 * 2 ^ k) s) (t + 2 ^ k))

-- two whole trees of a level
pair : (k : ℕ) (s : List ℕ) (t e : ℕ) → length s ≡ 1024 * 2 ^ suc k → ((x : List ℕ) (c : ℕ) → length x ≡ 1024 * 2 ^ k → full k x c ≡ tree k x c 0)
    → parent (full k s t) (full k (drop (1024 * 2 ^ k) s) (t + 2 ^ k)) e ≡ tree (suc k) s t e
unfolding tree
pair k s t e n f =
    let p = pow-succ' 2 k in
    let q : 1 ≤ 2 ^ k = pow_mono {i = 0} {j = k} (omega arith) in
    let l : length (take (1024 * 2 ^ k) s) ≡ 1024 * 2 ^ k = length-take-le (1024 * 2 ^ k) s (omega arith) in
    let r : length (drop (1024 * 2 ^ k) s) ≡ 1024 * 2 ^ k = length-drop (1024 * 2 ^ k) s ∙ omega arith in
    let g : 1024 * 2 ^ k < length s = omega arith in
    ap₂ (λ x y. parent x y e) (sym (full_take k s t) ∙ f (take (1024 * 2 ^ k) s) t l) (f (drop (1024 * 2 ^ k) s) (t + 2 ^ k) r)
    ∙ sym (ap (λ b. pick b (tree k s t e) (parent (tree k (take (1024 * 2 ^ k) s) t 0) (tree k (drop (1024 * 2 ^ k) s) (t + 2 ^ k) 0) e)) (lt-leb _ _ g))

full_tree : (k : ℕ) (s : List ℕ) (t : ℕ) → length s ≡ 1024 * 2 ^ k → full k s t ≡ tree k s t 0
unfolding full tree
full_tree zero s t n = ap (λ x. chunk x t 0) (take_all 1024 s (omega arith))
full_tree (suc k) s t n = pair k s t 0 n (full_tree k)

-- four whole trees of a level
four : (k : ℕ) (s : List ℕ) (t e : ℕ) → length s ≡ 1024 * 2 ^ suc (suc k) → whole_of k s t e ≡ tree (suc (suc k)) s t e
unfolding whole_of full_at full
four k s t e n =
    let p = pow-succ' 2 k in
    let d0 : 1024 * 2 ^ k * 0 ≡ 0 = omega arith in
    let d1 : 1024 * 2 ^ k * 1 ≡ 1024 * 2 ^ k = omega arith in
    let d2 : 1024 * 2 ^ k * 2 ≡ 1024 * 2 ^ suc k = omega arith in
    let d3 : 1024 * 2 ^ k * 3 ≡ 1024 * 2 ^ suc k + 1024 * 2 ^ k = omega arith in
    let c0 : t + 2 ^ k * 0 ≡ t = omega arith in
    let c1 : t + 2 ^ k * 1 ≡ t + 2 ^ k = omega arith in
    let c2 : t + 2 ^ k * 2 ≡ t + 2 ^ suc k = omega arith in
    let c3 : t + 2 ^ k * 3 ≡ t + 2 ^ suc k + 2 ^ k = omega arith in
    let at : ℕ → ℕ → List ℕ = λ x c. full k (drop x s) c in
    ap₂ (λ l r. parent l r e)
    (ap₂ (λ x y. parent x y 0) (ap₂ at d0 c0) (ap₂ at d1 c1))
    (ap₂ (λ x y. parent x y 0) (ap₂ at d2 c2) (ap₂ at d3 c3 ∙ ap (λ x. full k x (t + 2 ^ suc k + 2 ^ k)) (sym (drop-drop (1024 * 2 ^ k) (1024 * 2 ^ suc k) s))))
    ∙ pair (suc k) s t e n (full_tree (suc k))

pub tree_whole : (k : ℕ) (h s : List ℕ) (t e : ℕ) {v : List ℕ} → 2 ≤ k → length h + length s ≡ 1024 * 2 ^ k → v ≡ whole_of (k - 2) (h ++ s) t e → v ≡ tree k (h ++ s) t e
tree_whole k h s t e p n q =
    let j : suc (suc (k - 2)) ≡ k = omega arith in
    q ∙ four (k - 2) (h ++ s) t e (length-append h s ∙ n ∙ ap (λ i. 1024 * 2 ^ i) (sym j)) ∙ ap (λ i. tree i (h ++ s) t e) j

-- a level's chunks are four times those two levels below
pub fourth : (k : ℕ) → 2 ≤ k → 2 ^ k ≡ 4 * 2 ^ (k - 2)
fourth k h =
    let a = double k (λ z. omega arith) in
    let b = double (k - 1) (λ z. omega arith) in
    let e : k - 1 - 1 ≡ k - 2 = omega arith in
    let f : 2 ^ (k - 1 - 1) ≡ 2 ^ (k - 2) = ap (λ i. 2 ^ i) e in
    omega arith
