-- Laws of a form of rows: what is read of rows written, and what an insertion and a removal make of a table. Assumes nothing.
use mathlib.Core.Path.{◌≡◌, sym, ap, ◌∙◌}
use mathlib.Core.List.{List, [], ◌∷◌, ◌++◌, append_assoc, append-nil}
use mathlib.Core.Bool.{true}
use Prim.Native.Nat.{ℕ, zero, suc, ◌+◌, ◌*◌, ◌-◌, ◌≤◌, ◌<◌}
use native.Mathlib.Nat.{zero-mul, suc-mul, add-mul}
use native.Mathlib.Omega.{arith}
use lib.ListN.{length, get_or, take, drop, set, length-append, length-take, length-drop, take-append-drop}
use lib.Seq.{drop-drop, take-add, drop_at, take_at, set_split, get_or_at}
use Rattle.table_shift.specs.Shift.{inserted_words, closed, put_words}
use Rattle.table_shift.proofs.Laws.{region_before}
use Rattle.table_rows.specs.Rows.{flat}
use Rattle.table_rows.specs.Table.{Form, Exact, rows_of, over}
use Rattle.table_rows.proofs.Rows.{part, length_rows, rows_split, rows_next, take_rows, drop_rows, rows_take, rows_put, length_flat, flat_append, rows_flat}

-- only the words of a row count
pub alone : {R : Type 0} (f : Form R) → Exact f → (l m : List ℕ) → f.width ≤ length l → f.read (l ++ m) ≡ f.read l
alone f x l m h =
    let e : l ++ m ≡ f.words (f.read l) ++ (drop f.width l ++ m)
    = ap (λ (w : List ℕ). w ++ m) (sym (take-append-drop f.width l)) ∙ append_assoc (take f.width l) (drop f.width l) m
    ∙ ap (λ (w : List ℕ). w ++ (drop f.width l ++ m)) (sym (x.whole l h)) in
    ap f.read e ∙ x.back (f.read l) (drop f.width l ++ m)

-- a row that stands in a part which two tables share
pub read_within : {R : Type 0} (f : Form R) → Exact f → (l l' : List ℕ) (m b : ℕ) → take m l' ≡ take m l → b + f.width ≤ m → m ≤ length l → m ≤ length l' → f.read (drop b l') ≡ f.read (drop b l)
read_within f x l l' m b e h k k' =
    let own : (w : List ℕ) → b + f.width ≤ length w → f.read (drop b w) ≡ f.read (take f.width (drop b w)) = λ w q.
    (let ld = length-drop b w in
    let lt : f.width ≤ length (take f.width (drop b w)) = rw length-take (omega arith) in
    ap f.read (sym (take-append-drop f.width (drop b w))) ∙ alone f x (take f.width (drop b w)) (drop f.width (drop b w)) lt) in
    own l' (omega arith) ∙ ap f.read (region_before l l' m b f.width e h k k') ∙ sym (own l (omega arith))

module _ {R : Type 0} (f : Form R) (x : Exact f) where
  pub length_words : (rs : List R) → length (flat f.words rs) ≡ length rs * f.width
  length_words rs = length_flat f.width f.read f.words (λ r. true) x.long x.back rs

  -- the words of the rows of a table are its words
  pub flat_rows : (n : ℕ) (ws : List ℕ) → n * f.width ≤ length ws → flat f.words (rows_of f ws n) ≡ take (n * f.width) ws
  flat_rows zero ws h = ap (λ (k : ℕ). take k ws) (sym (zero-mul f.width))
  flat_rows (suc n) ws h =
      let q = suc-mul n f.width in
      let e : f.width + n * f.width ≡ suc n * f.width = omega (arith, q) in
      let k : n * f.width ≤ length (drop f.width ws) = rw length-drop (omega (arith, q)) in
      ap (λ (w : List ℕ). w ++ flat f.words (rows_of f (drop f.width ws) n)) (x.whole ws (omega (arith, q)))
      ∙ ap (λ (w : List ℕ). take f.width ws ++ w) (flat_rows n (drop f.width ws) k)
      ∙ sym (take-add f.width (n * f.width) ws)
      ∙ ap (λ (j : ℕ). take j ws) e

  -- what is written is read
  pub rows_over : (rs : List R) (ws : List ℕ) → rows_of f (over f rs ws) (length rs) ≡ rs
  unfolding over
  rows_over rs ws = rows_flat f.width f.read f.words (λ r. true) x.long x.back rs (drop (length rs * f.width) ws)

  pub length_over : (rs : List R) (ws : List ℕ) → length rs * f.width ≤ length ws → length (over f rs ws) ≡ length ws
  unfolding over
  length_over rs ws h = let a = length_words rs in let b = length-drop (length rs * f.width) ws in length-append (flat f.words rs) (drop (length rs * f.width) ws) ∙ omega (arith, a, b)

  length_inserted_rows : (rs : List R) (e : R) (p : ℕ) → p ≤ length rs → length (take p rs ++ (e ∷ drop p rs)) ≡ suc (length rs)
  length_inserted_rows rs e p h = simp (length-append, length-take, length-drop) (omega arith)

  -- AN INSERTION at row p of n
  pub over_inserted : (ws : List ℕ) (n p : ℕ) (e : R) → p ≤ n → (n + 1) * f.width ≤ length ws
      → inserted_words ws (p * f.width) (n * f.width) (f.words e) ≡ over f (take p (rows_of f ws n) ++ (e ∷ drop p (rows_of f ws n))) ws
  unfolding over inserted_words
  over_inserted ws n p e h room =
      let S = f.width in
      let rs = rows_of f ws n in
      let q : n * S ≡ p * S + (n - p) * S = part p n S h in
      let q1 : n * S + S ≡ (n + 1) * S = omega (arith, add-mul n 1 S) in
      let ln : length rs ≡ n = length_rows S f.read n ws in
      let lw : length (f.words e) ≡ S = x.long e in
      let ld : length (drop (p * S) ws) ≡ length ws - p * S = length-drop (p * S) ws in
      let a : flat f.words (take p rs) ≡ take (p * S) ws = ap (flat f.words) (take_rows S f.read ws n p h) ∙ flat_rows p ws (omega arith) in
      let b : flat f.words (drop p rs) ≡ take (n * S - p * S) (drop (p * S) ws)
      = ap (flat f.words) (drop_rows S f.read ws n p h) ∙ flat_rows (n - p) (drop (p * S) ws) (omega arith) ∙
      (let k : (n - p) * S ≡ n * S - p * S = omega arith in ap (λ (j : ℕ). take j (drop (p * S) ws)) k) in
      let ll : length (take p rs ++ (e ∷ drop p rs)) ≡ n + 1 = length_inserted_rows rs e p (omega arith) ∙ (let z : suc (length rs) ≡ n + 1 = omega arith in z) in
      let back : n * S + length (f.words e) ≡ length (take p rs ++ (e ∷ drop p rs)) * S = rw (lw, ll) q1 in
      ap (λ (j : ℕ). take (p * S) ws ++ (f.words e ++ (take (n * S - p * S) (drop (p * S) ws) ++ drop j ws))) back
      ∙ ap (λ (w : List ℕ). take (p * S) ws ++ (f.words e ++ (w ++ drop (length (take p rs ++ (e ∷ drop p rs)) * S) ws))) (sym b)
      ∙ ap (λ (w : List ℕ). w ++ (f.words e ++ (flat f.words (drop p rs) ++ drop (length (take p rs ++ (e ∷ drop p rs)) * S) ws))) (sym a)
      ∙ sym (ap (λ (w : List ℕ). w ++ drop (length (take p rs ++ (e ∷ drop p rs)) * S) ws) (flat_append S f.read f.words (λ r. true) x.long x.back (take p rs) (e ∷ drop p rs))
      ∙ simp append_assoc)

  -- THE FRONT of k rows of n goes
  pub over_closed : (ws : List ℕ) (n k : ℕ) → k ≤ n → n * f.width ≤ length ws
      → closed ws (k * f.width) (n * f.width) (k * f.width) ≡ over f (drop k (rows_of f ws n)) ws
  unfolding over closed
  over_closed ws n k h room =
      let S = f.width in
      let rs = rows_of f ws n in
      let q : n * S ≡ k * S + (n - k) * S = part k n S h in
      let ln : length rs ≡ n = length_rows S f.read n ws in
      let ld : length (drop (k * S) ws) ≡ length ws - k * S = length-drop (k * S) ws in
      let z : k * S - k * S ≡ 0 = omega arith in
      let m : n * S - k * S ≡ (n - k) * S = omega arith in
      let ll : length (drop k rs) ≡ n - k = length-drop k rs ∙ ap (λ (j : ℕ). j - k) ln in
      let a : flat f.words (drop k rs) ≡ take ((n - k) * S) (drop (k * S) ws) = ap (flat f.words) (drop_rows S f.read ws n k h) ∙ flat_rows (n - k) (drop (k * S) ws) (omega arith) in
      ap (λ (j : ℕ). take j ws ++ (take (n * S - k * S) (drop (k * S) ws) ++ drop (n * S - k * S) ws)) z
      ∙ ap (λ (j : ℕ). take j (drop (k * S) ws) ++ drop j ws) m
      ∙ ap (λ (w : List ℕ). w ++ drop ((n - k) * S) ws) (sym a)
      ∙ ap (λ (j : ℕ). flat f.words (drop k rs) ++ drop (j * S) ws) (sym ll)

  -- ROW p anew
  pub rows_set : (ws : List ℕ) (n p : ℕ) (e : R) → p < n → n * f.width ≤ length ws → rows_of f (put_words ws (p * f.width) (f.words e)) n ≡ set (rows_of f ws n) p e
  unfolding put_words
  rows_set ws n p e h room =
      let S = f.width in
      let rs = rows_of f ws n in
      let lw : p * S + length (f.words e) ≡ p * S + S = ap (λ (k : ℕ). p * S + k) (x.long e) in
      let l = length_rows S f.read n ws in
      let q : p + 1 ≡ suc p = omega arith in
      let own : f.read (f.words e) ≡ e = ap f.read (sym (append-nil (f.words e))) ∙ x.back e [] in
      ap (λ (k : ℕ). rows_of f (take (p * S) ws ++ (f.words e ++ drop k ws)) n) lw
      ∙ rows_put S f.read (alone f x) ws (f.words e) n p (x.long e) h room
      ∙ ap (λ (r : R). take p rs ++ (r ∷ drop (p + 1) rs)) own
      ∙ ap (λ (k : ℕ). take p rs ++ (e ∷ drop k rs)) q
      ∙ sym (set_split rs p e (omega arith))

  -- A ROW MORE behind those written
  pub over_more : (rs : List R) (ws : List ℕ) (n : ℕ) (e : R) → length rs ≡ n → (n + 1) * f.width ≤ length ws → put_words (over f rs ws) (n * f.width) (f.words e) ≡ over f (rs ++ (e ∷ [])) ws
  unfolding over put_words
  over_more rs ws n e ln room =
      let S = f.width in
      let a : List ℕ = flat f.words rs in
      let la : length a ≡ n * S = length_words rs ∙ ap (λ (k : ℕ). k * S) ln in
      let q : n * S + S ≡ (n + 1) * S = omega (arith, add-mul n 1 S) in
      let lw : length (f.words e) ≡ S = x.long e in
      let ll : length (rs ++ (e ∷ [])) ≡ n + 1 = length-append rs (e ∷ []) ∙ ap (λ (k : ℕ). k + 1) ln in
      let back : List ℕ = drop (length rs * S) ws in
      let r : drop (n * S + length (f.words e)) (a ++ back) ≡ drop ((n + 1) * S) ws
      = sym (drop-drop (length (f.words e)) (n * S) (a ++ back)) ∙ ap (drop (length (f.words e))) (drop_at a back (n * S) la)
      ∙ drop-drop (length (f.words e)) (length rs * S) ws ∙ (let z : length rs * S + length (f.words e) ≡ (n + 1) * S = rw (ln, lw) q in ap (λ (k : ℕ). drop k ws) z) in
      ap (λ (w : List ℕ). w ++ (f.words e ++ drop (n * S + length (f.words e)) (a ++ back))) (take_at a back (n * S) la)
      ∙ ap (λ (w : List ℕ). a ++ (f.words e ++ w)) r
      ∙ sym (append_assoc a (f.words e) (drop ((n + 1) * S) ws))
      ∙ ap (λ (w : List ℕ). (a ++ w) ++ drop ((n + 1) * S) ws) (sym (append-nil (f.words e)))
      ∙ ap (λ (w : List ℕ). w ++ drop ((n + 1) * S) ws) (sym (flat_append S f.read f.words (λ r. true) x.long x.back rs (e ∷ [])))
      ∙ ap (λ (k : ℕ). flat f.words (rs ++ (e ∷ [])) ++ drop (k * S) ws) (sym ll)

  -- n rows are read from their words alone
  pub rows_within : (ws ws' : List ℕ) (n : ℕ) → take (n * f.width) ws' ≡ take (n * f.width) ws → n * f.width ≤ length ws → n * f.width ≤ length ws' → rows_of f ws' n ≡ rows_of f ws n
  rows_within ws ws' n e h h' = sym (rows_take f.width f.read (alone f x) n ws' h') ∙ ap (λ (w : List ℕ). rows_of f w n) e ∙ rows_take f.width f.read (alone f x) n ws h

-- row p of n
pub row_at : {R : Type 0} (f : Form R) (ws : List ℕ) (n p : ℕ) (d : R) → p < n → get_or (rows_of f ws n) p d ≡ f.read (drop (p * f.width) ws)
row_at {R} f ws n p d h =
    let S = f.width in
    let l = length_rows S f.read p ws in
    ap (λ (r : List R). get_or r p d) (rows_split S f.read ws n p (omega arith) ∙ ap (λ (r : List R). rows_of f ws p ++ r) (rows_next S f.read ws n p h))
    ∙ get_or_at (rows_of f ws p) (f.read (drop (p * S) ws)) (rows_of f (drop ((p + 1) * S) ws) (n - (p + 1))) d p l
