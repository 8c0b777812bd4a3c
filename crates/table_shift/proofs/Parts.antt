-- A part of a table from s on: an insertion and a removal in it, as words put there. Assumes nothing.
use mathlib.Core.Path.{◌≡◌, refl, sym, ap, ◌∙◌}
use mathlib.Core.List.{List, ◌++◌, append_assoc}
use Prim.Native.Nat.{ℕ, ◌+◌, ◌-◌, ◌≤◌}
use native.Mathlib.Omega.{arith}
use lib.ListN.{length, take, drop, length-take, length-append, length-drop, take-append-drop}
use lib.Seq.{take-take, drop-drop, length-take-le, drop-append-le, take-append-le, drop_at, take_at, take-add}
use Rattle.table_shift.specs.Shift.{closed, put_words, inserted_words}
use Rattle.table_shift.proofs.Laws.{region_inserted, region_closed, inserted_before, inserted_behind, closed_before, closed_behind}

-- a table that has v from s on, and all else as another
pub is_put : (ws ws' : List ℕ) (s k : ℕ) (v : List ℕ) → length v ≡ k → take s ws' ≡ take s ws → take k (drop s ws') ≡ v → drop (s + k) ws' ≡ drop (s + k) ws → ws' ≡ put_words ws s v
unfolding put_words
is_put ws ws' s k v lv a b c =
    let e : s + k ≡ s + length v = omega arith in
    sym (take-append-drop s ws')
    ∙ ap (λ (x : List ℕ). x ++ drop s ws') a
    ∙ ap (λ (x : List ℕ). take s ws ++ x) (sym (take-append-drop k (drop s ws')))
    ∙ ap (λ (x : List ℕ). take s ws ++ (x ++ drop k (drop s ws'))) b
    ∙ ap (λ (x : List ℕ). take s ws ++ (v ++ x)) (drop-drop k s ws' ∙ c ∙ ap (λ (j : ℕ). drop j ws) e)

-- what lies before a place lies before an earlier one
shorter : (ws ws' : List ℕ) (s b : ℕ) → s ≤ b → take b ws' ≡ take b ws → take s ws' ≡ take s ws
shorter ws ws' s b h e = sym (take-take s b ws' h) ∙ ap (take s) e ∙ take-take s b ws h

module _ (ws : List ℕ) (s m b : ℕ) where
  length_part : s + m ≤ length ws → length (take m (drop s ws)) ≡ m
  length_part h = length-take-le m (drop s ws) (rw length-drop (omega arith))

  pub part_inserted : (v : List ℕ) → b ≤ m → s + m + length v ≤ length ws
      → inserted_words ws (s + b) (s + m) v ≡ put_words ws s (take b (take m (drop s ws)) ++ (v ++ drop b (take m (drop s ws))))
  part_inserted v h room =
      let r : List ℕ = take m (drop s ws) in
      let lr : length r ≡ m = length_part (omega arith) in
      let lv : length (take b r ++ (v ++ drop b r)) ≡ m + length v = simp (length-append, length-take, length-drop) (omega arith) in
      let e : s + (m + length v) ≡ s + m + length v = omega arith in
      is_put ws (inserted_words ws (s + b) (s + m) v) s (m + length v) (take b r ++ (v ++ drop b r)) lv
      (shorter ws (inserted_words ws (s + b) (s + m) v) s (s + b) (omega arith) (inserted_before ws (s + b) (s + m) v (omega arith)))
      (region_inserted ws s m b v h room)
      (ap (λ (j : ℕ). drop j (inserted_words ws (s + b) (s + m) v)) e ∙ inserted_behind ws (s + b) (s + m) v (omega arith) room ∙ ap (λ (j : ℕ). drop j ws) (sym e))

  pub part_closed : (by : ℕ) → b + by ≤ m → s + m ≤ length ws
      → closed ws (s + b + by) (s + m) by ≡ put_words ws s (take b (take m (drop s ws)) ++ drop (b + by) (take m (drop s ws)))
  part_closed by h room =
      let r : List ℕ = take m (drop s ws) in
      let lr : length r ≡ m = length_part room in
      let lv : length (take b r ++ drop (b + by) r) ≡ m - by = simp (length-append, length-take, length-drop) (omega arith) in
      let e : s + (m - by) ≡ s + m - by = omega arith in
      let f : s + b + by - by ≡ s + b = omega arith in
      is_put ws (closed ws (s + b + by) (s + m) by) s (m - by) (take b r ++ drop (b + by) r) lv
      (shorter ws (closed ws (s + b + by) (s + m) by) s (s + b + by - by) (omega arith) (closed_before ws (s + b + by) (s + m) by (omega arith)))
      (region_closed ws s m b by h room)
      (ap (λ (j : ℕ). drop j (closed ws (s + b + by) (s + m) by)) e ∙ closed_behind ws (s + b + by) (s + m) by (omega arith) (omega arith) room ∙ ap (λ (j : ℕ). drop j ws) (sym e))

-- the words of another part stay: one that ends before s, or starts behind the words put
module _ (ws : List ℕ) (s : ℕ) (v : List ℕ) where
  pub put_before : (t n : ℕ) → t + n ≤ s → s ≤ length ws → take n (drop t (put_words ws s v)) ≡ take n (drop t ws)
  unfolding put_words
  put_before t n h room =
      let front : List ℕ = take s ws in
      let lf : length front ≡ s = length-take-le s ws room in
      let rest : List ℕ = v ++ drop (s + length v) ws in
      let own : (tail : List ℕ) → take n (drop t (front ++ tail)) ≡ take n (drop t front) = λ tail.
      (let ld = length-drop t front in ap (take n) (drop-append-le t front tail (omega arith)) ∙ take-append-le n (drop t front) tail (omega arith)) in
      own rest ∙ sym (own (drop s ws)) ∙ ap (λ (x : List ℕ). take n (drop t x)) (take-append-drop s ws)

  pub put_here : s + length v ≤ length ws → take (length v) (drop s (put_words ws s v)) ≡ v
  unfolding put_words
  put_here room = ap (take (length v)) (drop_at (take s ws) (v ++ drop (s + length v) ws) s (length-take-le s ws (omega arith))) ∙ take_at v (drop (s + length v) ws) (length v) refl

  pub put_behind : (c : ℕ) → s + length v ≤ c → s + length v ≤ length ws → drop c (put_words ws s v) ≡ drop c ws
  unfolding put_words
  put_behind c h room =
      let n : ℕ = length v in
      let x : List ℕ = v ++ drop (s + n) ws in
      let k : ℕ = c - (s + n) in
      let e1 : c ≡ s + (n + k) = omega arith in
      let e2 : s + n + k ≡ c = omega arith in
      ap (λ (j : ℕ). drop j (take s ws ++ x)) e1
      ∙ sym (drop-drop (n + k) s (take s ws ++ x))
      ∙ ap (drop (n + k)) (drop_at (take s ws) x s (length-take-le s ws (omega arith)))
      ∙ sym (drop-drop k n x)
      ∙ ap (drop k) (drop_at v (drop (s + n) ws) n refl)
      ∙ drop-drop k (s + n) ws
      ∙ ap (λ (j : ℕ). drop j ws) e2

  -- what is put behind t, of the words from t on
  pub drop_put : (t : ℕ) → t + s ≤ length ws → drop t (put_words ws (t + s) v) ≡ put_words (drop t ws) s v
  unfolding put_words
  drop_put t room =
      let e : t + s + length v ≡ t + (s + length v) = omega arith in
      let lt : length (take t ws) ≡ t = length-take-le t ws (omega arith) in
      ap (λ (x : List ℕ). drop t (x ++ (v ++ drop (t + s + length v) ws))) (take-add t s ws)
      ∙ ap (drop t) (append_assoc (take t ws) (take s (drop t ws)) (v ++ drop (t + s + length v) ws))
      ∙ drop_at (take t ws) (take s (drop t ws) ++ (v ++ drop (t + s + length v) ws)) t lt
      ∙ ap (λ (j : ℕ). take s (drop t ws) ++ (v ++ drop j ws)) e
      ∙ ap (λ (x : List ℕ). take s (drop t ws) ++ (v ++ x)) (sym (drop-drop (s + length v) t ws))
