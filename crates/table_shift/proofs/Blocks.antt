-- Words read one by one, a move up in a part, and words that go on behind others. Assumes nothing.
use mathlib.Core.Path.{◌≡◌, refl, sym, ap, ◌∙◌}
use mathlib.Core.List.{List, [], ◌∷◌, ◌++◌, append_assoc, append-nil}
use Prim.Native.Nat.{ℕ, zero, suc, ◌+◌, ◌-◌, ◌≤◌}
use native.Mathlib.Nat.{add-zero}
use native.Mathlib.Omega.{arith}
use lib.ListN.{length, get_or, take, drop, length-append, length-drop}
use lib.Seq.{drop-cons, length-take-le, drop_at, take_at, take-add, drop-drop, take_all, drop-length}
use Rattle.table_shift.specs.Shift.{opened, put_words}
use Rattle.table_shift.proofs.Laws.{length_put, stores, stores_eq}

-- the words at b + k and after, n of them, read one by one
abbrev pub cells : List ℕ → ℕ → ℕ → ℕ → List ℕ
cells l b k zero = []
cells l b k (suc n) = get_or l (b + k) 0 ∷ cells l b (suc k) n

pub cells_eq : (l : List ℕ) (b k n : ℕ) → b + k + n ≤ length l → cells l b k n ≡ take n (drop (b + k) l)
cells_eq l b k zero h = refl
cells_eq l b k (suc n) h =
    let e : b + suc k ≡ suc (b + k) = omega arith in
    ap (λ (x : List ℕ). get_or l (b + k) 0 ∷ x) (cells_eq l b (suc k) n (omega arith) ∙ ap (λ (j : ℕ). take n (drop j l)) e)
    ∙ sym (ap (take (suc n)) (drop-cons l (b + k) 0 (omega arith)))

-- the word at b, and those after it
pub cells_at : (l : List ℕ) (b n : ℕ) → b + suc n ≤ length l → get_or l b 0 ∷ cells l b 1 n ≡ take (suc n) (drop b l)
cells_at l b n h =
    ap (λ (j : ℕ). get_or l j 0 ∷ cells l b 1 n) (sym (add-zero b)) ∙ cells_eq l b 0 (suc n) (omega arith) ∙ ap (λ (j : ℕ). take (suc n) (drop j l)) (add-zero b)

pub length_part : (l : List ℕ) (a m : ℕ) → a + m ≤ length l → length (take m (drop a l)) ≡ m
length_part l a m h = length-take-le m (drop a l) (rw length-drop (omega arith))

-- UP: a move in the part from a on
pub up_tail : (l ys : List ℕ) (a z by : ℕ) → a ≤ z → z + by ≤ length l → ys ≡ opened (take (length l - a) (drop a l)) 0 (z - a) by
    → take a l ++ (ys ++ drop (length l - a) (drop a l)) ≡ opened l a z by
unfolding opened
up_tail l ys a z by h room e =
    let t : List ℕ = drop a l in
    let m : ℕ = length l - a in
    let lt : length t ≡ m = length-drop a l in
    let whole : take m t ≡ t = take_all m t (omega arith) in
    let rest : drop m t ≡ [] = ap (λ (j : ℕ). drop j t) (sym lt) ∙ drop-length t in
    let n1 : 0 + by ≡ by = omega arith in
    let n2 : z - a - 0 ≡ z - a = omega arith in
    let n3 : a + (z - a + by) ≡ z + by = omega arith in
    let is : ys ≡ take by t ++ (take (z - a) t ++ drop (z - a + by) t)
    = e ∙ ap (λ (x : List ℕ). take (0 + by) x ++ (take (z - a - 0) x ++ drop (z - a + by) x)) whole
    ∙ ap (λ (j : ℕ). take j t ++ (take (z - a - 0) t ++ drop (z - a + by) t)) n1
    ∙ ap (λ (j : ℕ). take by t ++ (take j t ++ drop (z - a + by) t)) n2 in
    ap (λ (x : List ℕ). take a l ++ (ys ++ x)) rest
    ∙ ap (λ (x : List ℕ). take a l ++ x) (append-nil ys ∙ is)
    ∙ sym (append_assoc (take a l) (take by t) (take (z - a) t ++ drop (z - a + by) t))
    ∙ ap (λ (x : List ℕ). x ++ (take (z - a) t ++ drop (z - a + by) t)) (sym (take-add a by l))
    ∙ ap (λ (x : List ℕ). take (a + by) l ++ (take (z - a) t ++ x)) (drop-drop (z - a + by) a l ∙ ap (λ (j : ℕ). drop j l) n3)

-- words that go on behind others that were put
pub put_stores : (l : List ℕ) (b n : ℕ) (v vs : List ℕ) → length v ≡ n → b + n + length vs ≤ length l → stores (put_words l b v) b n vs ≡ put_words l b (v ++ vs)
unfolding put_words
put_stores l b n v vs lv room =
    let put : List ℕ = take b l ++ (v ++ drop (b + length v) l) in
    let lp : length put ≡ length l = length_put l b v (omega arith) in
    let lf : length (take b l ++ v) ≡ b + n = length-append (take b l) v ∙ (let t = length-take-le b l (omega arith) in omega arith) in
    let is : put ≡ (take b l ++ v) ++ drop (b + length v) l = sym (append_assoc (take b l) v (drop (b + length v) l)) in
    let front : take (b + n) put ≡ take b l ++ v = ap (take (b + n)) is ∙ take_at (take b l ++ v) (drop (b + length v) l) (b + n) lf in
    let e : b + length v + length vs ≡ b + length (v ++ vs) = rw length-append (omega arith) in
    let rest : drop (b + n + length vs) put ≡ drop (b + length (v ++ vs)) l
    = sym (drop-drop (length vs) (b + n) put) ∙ ap (drop (length vs)) (ap (drop (b + n)) is ∙ drop_at (take b l ++ v) (drop (b + length v) l) (b + n) lf)
    ∙ drop-drop (length vs) (b + length v) l ∙ ap (λ (j : ℕ). drop j l) e in
    stores_eq vs put b n (omega arith)
    ∙ ap (λ (w : List ℕ). w ++ (vs ++ drop (b + n + length vs) put)) front
    ∙ ap (λ (w : List ℕ). (take b l ++ v) ++ (vs ++ w)) rest
    ∙ append_assoc (take b l) v (vs ++ drop (b + length (v ++ vs)) l)
    ∙ ap (λ (w : List ℕ). take b l ++ w) (sym (append_assoc v vs (drop (b + length (v ++ vs)) l)))
