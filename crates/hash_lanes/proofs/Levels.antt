-- Laws of the levels: parents over the lanes, and the tree over four subtrees.
use Prim.Native.Nat.{ℕ, suc, ◌+◌, ◌-◌, ◌*◌, ◌^◌, ◌<◌}
use mathlib.Core.Path.{◌≡◌, ap, ap₂, sym, ◌∙◌}
use mathlib.Core.List.{List, ◌++◌}
use lib.ListN.{take, drop}
use native.Mathlib.Omega.{arith}
use Rattle.hash_compress.specs.Compress.{iv, compressed}
use Rattle.hash_chunk.specs.Chunk.{chunk, parent}
use Rattle.hash_lanes.specs.Lanes.{lane8, full, full_at, whole_of}
use Rattle.hash_lanes.proofs.Blocks.{drop_swap}

pub parent_made : (l : ℕ) (h m x y : List ℕ) {v : List ℕ} → v ≡ compressed h m (0 + 0 * l) 64 4 → h ≡ iv → m ≡ x ++ y → v ≡ parent x y 0
unfolding parent
parent_made l h m x y p q r =
    let e : 0 + 0 * l ≡ 0 = omega arith in
    p ∙ ap (λ t. compressed h m t 64 4) e ∙ ap₂ (λ i w. compressed i w 0 64 4) q r

pub level_leaf : (k : ℕ) (s : List ℕ) (c : ℕ) {v : List ℕ} → k ≡ 0 → v ≡ chunk (take 1024 s) c 0 → v ≡ full k s c
unfolding full
level_leaf k s c z p = p ∙ sym (ap (λ n. full n s c) z)

up : (k : ℕ) (s : List ℕ) (c : ℕ) → (k ≡ 0 → ⊥) → parent (full (k - 1) s c) (full (k - 1) (drop (1024 * 2 ^ (k - 1)) s) (c + 2 ^ (k - 1))) 0 ≡ full k s c
unfolding full
up k s c f =
    let e : suc (k - 1) ≡ k = omega arith in
    ap (λ n. full n s c) e

pub level_made : (k : ℕ) (s b : List ℕ) (p c d m : ℕ) {v x y : List ℕ} → (k ≡ 0 → ⊥) → m ≡ 2 ^ (k - 1) → b ≡ drop (1024 * m) s → d ≡ c + m
    → x ≡ full (k - 1) (drop p s) c → y ≡ full (k - 1) (drop p b) d → v ≡ parent x y 0 → v ≡ full k (drop p s) c
level_made k s b p c d m f q r g ex ey ev = cc (up k (drop p s) c f, drop_swap p (1024 * m) s)

pub whole_made : (k : ℕ) (s : List ℕ) (t e m : ℕ) (h c0 c1 c2 c3 a b : List ℕ) {v : List ℕ} → m ≡ 2 ^ k → ((l : ℕ) → l < 4 → lane8 h l ≡ full k (drop (1024 * m * l) s) (t + m * l))
    → c0 ≡ lane8 h 0 → c1 ≡ lane8 h 1 → c2 ≡ lane8 h 2 → c3 ≡ lane8 h 3 → a ≡ parent c0 c1 0 → b ≡ parent c2 c3 0 → v ≡ parent a b e → v ≡ whole_of k s t e
unfolding whole_of full_at
whole_made k s t e m h c0 c1 c2 c3 a b z u p0 p1 p2 p3 q r w =
    let at : (l : ℕ) → l < 4 → lane8 h l ≡ full k (drop (1024 * 2 ^ k * l) s) (t + 2 ^ k * l) = λ l g. u l g ∙ ap (λ x. full k (drop (1024 * x * l) s) (t + x * l)) z in
    let k0 : 0 < 4 = omega arith in
    let k1 : 1 < 4 = omega arith in
    let k2 : 2 < 4 = omega arith in
    let k3 : 3 < 4 = omega arith in
    w ∙ ap₂ (λ x y. parent x y e) (q ∙ ap₂ (λ x y. parent x y 0) (p0 ∙ at 0 k0) (p1 ∙ at 1 k1)) (r ∙ ap₂ (λ x y. parent x y 0) (p2 ∙ at 2 k2) (p3 ∙ at 3 k3))
