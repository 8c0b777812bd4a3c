-- Moves of words, one word at a time, and what they make of a table. Assumes nothing.
use mathlib.Core.Path.{◌≡◌, refl, sym, ap, ◌∙◌}
use mathlib.Core.List.{List, [], ◌∷◌, ◌++◌, append_assoc}
use Prim.Native.Nat.{ℕ, suc, ◌+◌, ◌-◌, ◌≤◌, ◌<◌}
use native.Mathlib.Nat.{add-zero}
use native.Mathlib.Omega.{arith}
use lib.ListN.{length, get_or, take, drop, set, length-take, length-append, length-drop, take-append-drop, get_or-append, length-set}
use lib.Seq.{append_snoc, drop-cons, take-suc, set_at, get_or-take, length-take-le, take-append-le, take-take, drop_at, take_at, take-add, drop-drop, set_split, take-suc-set, drop-set-lt}
use Rattle.table_shift.specs.Shift.{opened, closed, put_words, inserted_words}

-- nothing is moved yet
pub up_none : (l : List ℕ) (z by : ℕ) → l ≡ opened l z z by
unfolding opened
up_none l z by =
    let e : z - z ≡ 0 = omega arith in
    sym (ap (λ (m : ℕ). take (z + by) l ++ (take m (drop z l) ++ drop (z + by) l)) e ∙ take-append-drop (z + by) l)

pub length_opened : (l : List ℕ) (a z by : ℕ) → a ≤ z → z + by ≤ length l → length (opened l a z by) ≡ length l
unfolding opened
length_opened l a z by h k = simp (length-append, length-take, length-drop) (omega arith)

-- one word more is moved up
pub up_more : (l : List ℕ) (k z by : ℕ) → k < z → z + by ≤ length l
    → set (opened l (suc k) z by) (k + by) (get_or (opened l (suc k) z by) k 0) ≡ opened l k z by
unfolding opened
up_more l k z by h room =
    let t : List ℕ = take (z - suc k) (drop (suc k) l) ++ drop (z + by) l in
    let s : suc k + by ≡ suc (k + by) = omega arith in
    let lt : length (take (suc k + by) l) ≡ suc k + by = length-take-le (suc k + by) l (omega arith) in
    let v : get_or (take (suc k + by) l ++ t) k 0 ≡ get_or l k 0
    = get_or-append (take (suc k + by) l) t 0 k (omega arith) ∙ get_or-take (suc k + by) l k 0 (omega arith) in
    let sp : take (suc k + by) l ++ t ≡ take (k + by) l ++ (get_or l (k + by) 0 ∷ t)
    = ap (λ (m : ℕ). take m l ++ t) s ∙ ap (λ (x : List ℕ). x ++ t) (take-suc l (k + by) 0 (omega arith)) ∙ append_snoc (take (k + by) l) (get_or l (k + by) 0) t in
    let m : z - k ≡ suc (z - suc k) = omega arith in
    let d : take (z - k) (drop k l) ≡ get_or l k 0 ∷ take (z - suc k) (drop (suc k) l)
    = ap (λ (j : ℕ). take j (drop k l)) m ∙ ap (take (suc (z - suc k))) (drop-cons l k 0 (omega arith)) in
    ap (λ (x : ℕ). set (take (suc k + by) l ++ t) (k + by) x) v
    ∙ ap (λ (x : List ℕ). set x (k + by) (get_or l k 0)) sp
    ∙ set_at (take (k + by) l) (get_or l (k + by) 0) t (get_or l k 0) (k + by) (length-take-le (k + by) l (omega arith))
    ∙ ap (λ (x : List ℕ). take (k + by) l ++ (x ++ drop (z + by) l)) (sym d)

sum_closed : (a z by n : ℕ) → by ≤ a → a ≤ z → z ≤ n → a - by + (z - a + (n - (z - by))) ≡ n
sum_closed a z by n h k q = omega arith

pub length_closed : (l : List ℕ) (a z by : ℕ) → by ≤ a → a ≤ z → z ≤ length l → length (closed l a z by) ≡ length l
unfolding closed
length_closed l a z by h k q =
    let la : length (take (a - by) l) ≡ a - by = length-take-le (a - by) l (omega arith) in
    let lm : length (take (z - a) (drop a l)) ≡ z - a = length-take-le (z - a) (drop a l) (rw length-drop (omega arith)) in
    rw (length-append, length-append, la, lm, length-drop) (sum_closed a z by (length l) h k q)

-- what a move up and a store leave: the words between the others
pub opened_put : (ws : List ℕ) (b z by : ℕ) (v : List ℕ) → length v ≡ by → b ≤ z → z + by ≤ length ws → put_words (opened ws b z by) b v ≡ inserted_words ws b z v
unfolding put_words opened inserted_words
opened_put ws b z by v lv h room =
    let tail : List ℕ = take (z - b) (drop b ws) ++ drop (z + by) ws in
    let lt : length (take (b + by) ws) ≡ b + by = length-take-le (b + by) ws (omega arith) in
    let n1 : b + length v ≡ b + by = omega arith in
    let n2 : z + by ≡ z + length v = omega arith in
    ap (λ (x : List ℕ). x ++ (v ++ drop (b + length v) (take (b + by) ws ++ tail))) (take-append-le b (take (b + by) ws) tail (omega arith) ∙ take-take b (b + by) ws (omega arith))
    ∙ ap (λ (j : ℕ). take b ws ++ (v ++ drop j (take (b + by) ws ++ tail))) n1
    ∙ ap (λ (x : List ℕ). take b ws ++ (v ++ x)) (drop_at (take (b + by) ws) tail (b + by) lt)
    ∙ ap (λ (j : ℕ). take b ws ++ (v ++ (take (z - b) (drop b ws) ++ drop j ws))) n2

pub length_put : (ws : List ℕ) (b : ℕ) (v : List ℕ) → b + length v ≤ length ws → length (put_words ws b v) ≡ length ws
unfolding put_words
length_put ws b v h = simp (length-append, length-take, length-drop) (omega arith)

put_one : (m : List ℕ) (b v : ℕ) → take b m ++ (v ∷ drop (suc b) m) ≡ put_words m b (v ∷ [])
unfolding put_words
put_one m b v = let e : suc b ≡ b + 1 = omega arith in ap (λ (j : ℕ). take b m ++ (v ∷ drop j m)) e

sum_inserted : (b m n : ℕ) → b ≤ m → b + (n + (m - b)) ≡ m + n
sum_inserted b m n h = omega arith

sum_region : (b m by : ℕ) → b + by ≤ m → b + (m - (b + by)) ≡ m - by
sum_region b m by h = omega arith

-- the same of one word
pub opened_set : (ws : List ℕ) (b z v : ℕ) → b ≤ z → z + 1 ≤ length ws → set (opened ws b z 1) b v ≡ inserted_words ws b z (v ∷ [])
opened_set ws b z v h room =
    let l = length_opened ws b z 1 h room in
    set_split (opened ws b z 1) b v (omega arith) ∙ one (opened ws b z 1) ∙ opened_put ws b z 1 (v ∷ []) refl h room
  where
    one : (m : List ℕ) → take b m ++ (v ∷ drop (suc b) m) ≡ put_words m b (v ∷ [])
    one m = put_one m b v

pub drop_take : (b m : ℕ) (l : List ℕ) → b ≤ m → m ≤ length l → drop b (take m l) ≡ take (m - b) (drop b l)
drop_take b m l h k =
    let e : m ≡ b + (m - b) = omega arith in
    ap (λ (j : ℕ). drop b (take j l)) e ∙ ap (drop b) (take-add b (m - b) l) ∙ drop_at (take b l) (take (m - b) (drop b l)) b (length-take-le b l (omega arith))

-- A REGION of m words from s, b words in: after an insertion, and after a removal
module _ (ws : List ℕ) (s m b : ℕ) where
  pub region_inserted : (v : List ℕ) → b ≤ m → s + m + length v ≤ length ws
      → take (m + length v) (drop s (inserted_words ws (s + b) (s + m) v)) ≡ take b (take m (drop s ws)) ++ (v ++ drop b (take m (drop s ws)))
  unfolding inserted_words
  region_inserted v h room =
      let w : List ℕ = drop s ws in
      let lw : length w ≡ length ws - s = length-drop s ws in
      let moved : List ℕ = take (m - b) (drop b w) in
      let rest : List ℕ = drop (s + m + length v) ws in
      let lb : length (take b w) ≡ b = length-take-le b w (omega arith) in
      let lm : length moved ≡ m - b = length-take-le (m - b) (drop b w) (rw length-drop (omega arith)) in
      let n1 : s + m - (s + b) ≡ m - b = omega arith in
      let d1 : take (s + m - (s + b)) (drop (s + b) ws) ≡ moved = ap (λ (j : ℕ). take j (drop (s + b) ws)) n1 ∙ ap (take (m - b)) (sym (drop-drop b s ws)) in
      let d2 : take (s + b) ws ++ (v ++ (moved ++ rest)) ≡ take s ws ++ ((take b w ++ (v ++ moved)) ++ rest)
      = ap (λ (x : List ℕ). x ++ (v ++ (moved ++ rest))) (take-add s b ws) ∙ simp append_assoc in
      let ln : length (take b w ++ (v ++ moved)) ≡ m + length v = rw (length-append, length-append, lb, lm) (sum_inserted b m (length v) h) in
      ap (λ (x : List ℕ). take (m + length v) (drop s (take (s + b) ws ++ (v ++ (x ++ rest))))) d1
      ∙ ap (λ (x : List ℕ). take (m + length v) (drop s x)) d2
      ∙ ap (take (m + length v)) (drop_at (take s ws) ((take b w ++ (v ++ moved)) ++ rest) s (length-take-le s ws (omega arith)))
      ∙ take_at (take b w ++ (v ++ moved)) rest (m + length v) ln
      ∙ ap (λ (x : List ℕ). x ++ (v ++ moved)) (sym (take-take b m w h))
      ∙ ap (λ (x : List ℕ). take b (take m w) ++ (v ++ x)) (sym (drop_take b m w h (omega arith)))

  pub region_closed : (by : ℕ) → b + by ≤ m → s + m ≤ length ws
      → take (m - by) (drop s (closed ws (s + b + by) (s + m) by)) ≡ take b (take m (drop s ws)) ++ drop (b + by) (take m (drop s ws))
  unfolding closed
  region_closed by h room =
      let w : List ℕ = drop s ws in
      let lw : length w ≡ length ws - s = length-drop s ws in
      let moved : List ℕ = take (m - (b + by)) (drop (b + by) w) in
      let rest : List ℕ = drop (s + m - by) ws in
      let lb : length (take b w) ≡ b = length-take-le b w (omega arith) in
      let lm : length moved ≡ m - (b + by) = length-take-le (m - (b + by)) (drop (b + by) w) (rw length-drop (omega arith)) in
      let n0 : s + b + by - by ≡ s + b = omega arith in
      let n1 : s + m - (s + b + by) ≡ m - (b + by) = omega arith in
      let n2 : s + b + by ≡ s + (b + by) = omega arith in
      let d1 : take (s + m - (s + b + by)) (drop (s + b + by) ws) ≡ moved
      = ap (λ (j : ℕ). take j (drop (s + b + by) ws)) n1 ∙ ap (λ (j : ℕ). take (m - (b + by)) (drop j ws)) n2 ∙ ap (take (m - (b + by))) (sym (drop-drop (b + by) s ws)) in
      let d2 : take (s + b + by - by) ws ++ (moved ++ rest) ≡ take s ws ++ ((take b w ++ moved) ++ rest)
      = ap (λ (j : ℕ). take j ws ++ (moved ++ rest)) n0 ∙ ap (λ (x : List ℕ). x ++ (moved ++ rest)) (take-add s b ws) ∙ simp append_assoc in
      let ln : length (take b w ++ moved) ≡ m - by = rw (length-append, lb, lm) (sum_region b m by h) in
      ap (λ (x : List ℕ). take (m - by) (drop s (take (s + b + by - by) ws ++ (x ++ rest)))) d1
      ∙ ap (λ (x : List ℕ). take (m - by) (drop s x)) d2
      ∙ ap (take (m - by)) (drop_at (take s ws) ((take b w ++ moved) ++ rest) s (length-take-le s ws (omega arith)))
      ∙ take_at (take b w ++ moved) rest (m - by) ln
      ∙ ap (λ (x : List ℕ). x ++ moved) (sym (take-take b m w (omega arith)))
      ∙ ap (λ (x : List ℕ). take b (take m w) ++ x) (sym (drop_take (b + by) m w h (omega arith)))

-- A RUN OF STORES: the words vs at b + k and after
abbrev pub stores : List ℕ → ℕ → ℕ → List ℕ → List ℕ
stores l b k [] = l
stores l b k (a ∷ vs) = stores (set l (b + k) a) b (k + 1) vs

pub stores_eq : (vs l : List ℕ) (b k : ℕ) → b + k + length vs ≤ length l → stores l b k vs ≡ take (b + k) l ++ (vs ++ drop (b + k + length vs) l)
stores_eq [] l b k h = rw add-zero (sym (take-append-drop (b + k) l))
stores_eq (a ∷ vs) l b k h =
    let inl : b + k < length l = omega arith in
    let s : b + (k + 1) ≡ suc (b + k) = omega arith in
    let e1 : take (b + (k + 1)) (set l (b + k) a) ≡ take (b + k) l ++ (a ∷ []) = ap (λ (m : ℕ). take m (set l (b + k) a)) s ∙ take-suc-set l (b + k) a inl in
    let q : b + (k + 1) + length vs ≡ b + k + suc (length vs) = omega arith in
    let e2 : drop (b + (k + 1) + length vs) (set l (b + k) a) ≡ drop (b + k + suc (length vs)) l
    = drop-set-lt (b + (k + 1) + length vs) l (b + k) a (omega arith) ∙ ap (λ (m : ℕ). drop m l) q in
    stores_eq vs (set l (b + k) a) b (k + 1) (rw length-set (omega arith))
    ∙ ap (λ (x : List ℕ). x ++ (vs ++ drop (b + (k + 1) + length vs) (set l (b + k) a))) e1
    ∙ ap (λ (x : List ℕ). (take (b + k) l ++ (a ∷ [])) ++ (vs ++ x)) e2
    ∙ append_snoc (take (b + k) l) a (vs ++ drop (b + k + suc (length vs)) l)

-- a store at b, and a run after it: a row is put
pub stored : (l : List ℕ) (b a : ℕ) (vs : List ℕ) → b + suc (length vs) ≤ length l → stores (set l b a) b 1 vs ≡ put_words l b (a ∷ vs)
unfolding put_words
stored l b a vs h =
    ap (λ (m : ℕ). stores (set l m a) b 1 vs) (sym (add-zero b))
    ∙ stores_eq (a ∷ vs) l b 0 (omega arith)
    ∙ ap (λ (m : ℕ). take m l ++ ((a ∷ vs) ++ drop (m + suc (length vs)) l)) (add-zero b)

sum_kept : (b z by : ℕ) → by ≤ b → b ≤ z → b - by + (z - b) ≡ z - by
sum_kept b z by g h = omega arith

-- OUTSIDE a change all stays: the words before it, and those from its end on
module _ (ws : List ℕ) (b z : ℕ) where
  pub inserted_before : (v : List ℕ) → b ≤ length ws → take b (inserted_words ws b z v) ≡ take b ws
  unfolding inserted_words
  inserted_before v h = take_at (take b ws) (v ++ (take (z - b) (drop b ws) ++ drop (z + length v) ws)) b (length-take-le b ws h)

  pub inserted_behind : (v : List ℕ) → b ≤ z → z + length v ≤ length ws → drop (z + length v) (inserted_words ws b z v) ≡ drop (z + length v) ws
  unfolding inserted_words
  inserted_behind v h room =
      let moved : List ℕ = take (z - b) (drop b ws) in
      let rest : List ℕ = drop (z + length v) ws in
      let ld = length-drop b ws in
      let lb : length (take b ws) ≡ b = length-take-le b ws (omega arith) in
      let lm : length moved ≡ z - b = length-take-le (z - b) (drop b ws) (omega arith) in
      let ln : length (take b ws ++ (v ++ moved)) ≡ z + length v = rw (length-append, length-append, lb, lm) (sum_inserted b z (length v) h) in
      let e : take b ws ++ (v ++ (moved ++ rest)) ≡ (take b ws ++ (v ++ moved)) ++ rest = simp append_assoc in
      ap (drop (z + length v)) e ∙ drop_at (take b ws ++ (v ++ moved)) rest (z + length v) ln

  pub closed_before : (by : ℕ) → b - by ≤ length ws → take (b - by) (closed ws b z by) ≡ take (b - by) ws
  unfolding closed
  closed_before by h = take_at (take (b - by) ws) (take (z - b) (drop b ws) ++ drop (z - by) ws) (b - by) (length-take-le (b - by) ws h)

  pub closed_behind : (by : ℕ) → by ≤ b → b ≤ z → z ≤ length ws → drop (z - by) (closed ws b z by) ≡ drop (z - by) ws
  unfolding closed
  closed_behind by g h room =
      let moved : List ℕ = take (z - b) (drop b ws) in
      let rest : List ℕ = drop (z - by) ws in
      let ld = length-drop b ws in
      let lb : length (take (b - by) ws) ≡ b - by = length-take-le (b - by) ws (omega arith) in
      let lm : length moved ≡ z - b = length-take-le (z - b) (drop b ws) (omega arith) in
      let ln : length (take (b - by) ws ++ moved) ≡ z - by = rw (length-append, lb, lm) (sum_kept b z by g h) in
      ap (drop (z - by)) (sym (append_assoc (take (b - by) ws) moved rest)) ∙ drop_at (take (b - by) ws ++ moved) rest (z - by) ln

-- a region that ends before b, or starts from c on, where only the words of b..c may differ
pub region_before : (ws ws' : List ℕ) (b s n : ℕ) → take b ws' ≡ take b ws → s + n ≤ b → b ≤ length ws → b ≤ length ws' → take n (drop s ws') ≡ take n (drop s ws)
region_before ws ws' b s n e h k k' =
    let f : (l : List ℕ) → b ≤ length l → take n (drop s l) ≡ take n (drop s (take b l)) = λ l q.
    (let m : n ≤ b - s = omega arith in
    sym (ap (take n) (drop_take s b l (omega arith) q) ∙ take-take n (b - s) (drop s l) m)) in
    f ws' k' ∙ ap (λ (l : List ℕ). take n (drop s l)) e ∙ sym (f ws k)

-- down by none nothing moves
pub closed_still : (ws : List ℕ) (a z by : ℕ) → a ≤ z → by ≡ 0 → ws ≡ closed ws a z by
unfolding closed
closed_still ws a z by h e =
    let p : a - by ≡ a = omega arith in
    let q : z - by ≡ a + (z - a) = omega arith in
    sym (ap (λ (i : ℕ). take i ws ++ (take (z - a) (drop a ws) ++ drop (z - by) ws)) p
    ∙ ap (λ (j : ℕ). take a ws ++ (take (z - a) (drop a ws) ++ drop j ws)) q
    ∙ ap (λ (x : List ℕ). take a ws ++ (take (z - a) (drop a ws) ++ x)) (sym (drop-drop (z - a) a ws))
    ∙ ap (λ (x : List ℕ). take a ws ++ x) (take-append-drop (z - a) (drop a ws))
    ∙ take-append-drop a ws)
