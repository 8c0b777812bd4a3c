-- Laws of rows over any width S: parts, one row put, added or taken out, a scan, rows kept in place.
use mathlib.Core.Path.{◌≡◌, refl, sym, ap, ◌∙◌}
use mathlib.Core.List.{List, [], ◌∷◌, ◌++◌, append_assoc, append-nil}
use Prim.Native.Nat.{ℕ, zero, suc, ◌+◌, ◌*◌, ◌-◌, ◌≤◌, ◌<◌}
use native.Mathlib.Nat.{zero-add, suc-add, zero-mul, suc-mul, add-mul, mul-le-mul_right}
use native.Mathlib.Omega.{arith}
use lib.ListN.{length, take, drop, length-drop, length-append, take-append-drop}
use lib.Seq.{drop-drop, drop_at, take_at, drop-append-le, length-take-le, drop-append-add}
use mathlib.Core.Bool.{Bool, true, false}
use Rattle.table_rows.specs.Rows.{rows, pick, keep, flat, kept}

-- k rows of n: the words of the others
pub part : (k n S : ℕ) → k ≤ n → n * S ≡ k * S + (n - k) * S
part k n S h = let e : n ≡ k + (n - k) = omega arith in ap (λ (m : ℕ). m * S) e ∙ add-mul k (n - k) S

module _ {R : Type 0} (S : ℕ) (read : List ℕ → R) where
  pub rows_add : (a b : ℕ) (ws : List ℕ) → rows S read ws (a + b) ≡ rows S read ws a ++ rows S read (drop (a * S) ws) b
  rows_add zero b ws = ap (rows S read ws) (zero-add b) ∙ ap (λ (k : ℕ). rows S read (drop k ws) b) (sym (zero-mul S))
  rows_add (suc a) b ws =
      let e : S + a * S ≡ suc a * S = omega (arith, suc-mul a S) in
      ap (rows S read ws) (suc-add a b)
      ∙ ap (λ (l : List R). read ws ∷ l) (rows_add a b (drop S ws) ∙ ap (λ (l : List ℕ). rows S read (drop S ws) a ++ rows S read l b) (drop-drop (a * S) S ws ∙ ap (λ (m : ℕ). drop m ws) e))

  pub length_rows : (n : ℕ) (ws : List ℕ) → length (rows S read ws n) ≡ n
  length_rows zero ws = refl
  length_rows (suc n) ws = ap suc (length_rows n (drop S ws))

  pub rows_split : (ws : List ℕ) (n p : ℕ) → p ≤ n → rows S read ws n ≡ rows S read ws p ++ rows S read (drop (p * S) ws) (n - p)
  rows_split ws n p h = let e : n ≡ p + (n - p) = omega arith in ap (rows S read ws) e ∙ rows_add p (n - p) ws

  pub take_rows : (ws : List ℕ) (n p : ℕ) → p ≤ n → take p (rows S read ws n) ≡ rows S read ws p
  take_rows ws n p h = ap (take p) (rows_split ws n p h) ∙ take_at (rows S read ws p) (rows S read (drop (p * S) ws) (n - p)) p (length_rows p ws)

  pub drop_rows : (ws : List ℕ) (n p : ℕ) → p ≤ n → drop p (rows S read ws n) ≡ rows S read (drop (p * S) ws) (n - p)
  drop_rows ws n p h = ap (drop p) (rows_split ws n p h) ∙ drop_at (rows S read ws p) (rows S read (drop (p * S) ws) (n - p)) p (length_rows p ws)

  module _ (alone : (l m : List ℕ) → S ≤ length l → read (l ++ m) ≡ read l) where
    pub rows_front : (a : ℕ) (l m : List ℕ) → a * S ≤ length l → rows S read (l ++ m) a ≡ rows S read l a
    rows_front zero l m h = refl
    rows_front (suc a) l m h =
        let q = suc-mul a S in
        let s : S ≤ length l = omega (arith, q) in
        let k : a * S ≤ length (drop S l) = rw length-drop (omega (arith, q)) in
        ap (λ (x : R). x ∷ rows S read (drop S (l ++ m)) a) (alone l m s)
        ∙ ap (λ (x : List R). read l ∷ x) (ap (λ (x : List ℕ). rows S read x a) (drop-append-le S l m s) ∙ rows_front a (drop S l) m k)

    pub rows_append : (a b : ℕ) (l m : List ℕ) → length l ≡ a * S → rows S read (l ++ m) (a + b) ≡ rows S read l a ++ rows S read m b
    rows_append a b l m h =
        rows_add a b (l ++ m)
        ∙ ap (λ (x : List R). x ++ rows S read (drop (a * S) (l ++ m)) b) (rows_front a l m (omega arith))
        ∙ ap (λ (x : List ℕ). rows S read l a ++ rows S read x b) (drop_at l m (a * S) h)

    -- the first a rows of a table that goes on
    pub rows_take : (a : ℕ) (ws : List ℕ) → a * S ≤ length ws → rows S read (take (a * S) ws) a ≡ rows S read ws a
    rows_take a ws h =
        sym (rows_front a (take (a * S) ws) (drop (a * S) ws) (let k = length-take-le (a * S) ws h in omega arith)) ∙ ap (λ (l : List ℕ). rows S read l a) (take-append-drop (a * S) ws)

    -- words w for the rows from p to q: what is read before and after stays
    pub rows_put : (ws w : List ℕ) (n p : ℕ) → length w ≡ S → p < n → n * S ≤ length ws
        → rows S read (take (p * S) ws ++ (w ++ drop (p * S + S) ws)) n ≡ take p (rows S read ws n) ++ (read w ∷ drop (p + 1) (rows S read ws n))
    rows_put ws w n p lw h room =
        let m : n ≡ p + suc (n - (p + 1)) = omega arith in
        let c1 : p * S ≤ n * S = mul-le-mul_right S (omega arith) in
        let e : p * S + S ≡ (p + 1) * S = omega (arith, add-mul p 1 S) in
        let lf : length (take (p * S) ws) ≡ p * S = length-take-le (p * S) ws (omega arith) in
        ap (rows S read (take (p * S) ws ++ (w ++ drop (p * S + S) ws))) m
        ∙ rows_append p (suc (n - (p + 1))) (take (p * S) ws) (w ++ drop (p * S + S) ws) lf
        ∙ ap (λ (x : List R). x ++ rows S read (w ++ drop (p * S + S) ws) (suc (n - (p + 1)))) (rows_take p ws (omega arith) ∙ sym (take_rows ws n p (omega arith)))
        ∙ ap (λ (x : R). take p (rows S read ws n) ++ (x ∷ rows S read (drop S (w ++ drop (p * S + S) ws)) (n - (p + 1)))) (alone w (drop (p * S + S) ws) (omega arith))
        ∙ ap (λ (x : List ℕ). take p (rows S read ws n) ++ (read w ∷ rows S read x (n - (p + 1)))) (drop_at w (drop (p * S + S) ws) S lw ∙ ap (λ (k : ℕ). drop k ws) e)
        ∙ ap (λ (x : List R). take p (rows S read ws n) ++ (read w ∷ x)) (sym (drop_rows ws n (p + 1) (omega arith)))

    -- one row more, at the end
    pub rows_snoc : (ws w : List ℕ) (n : ℕ) → length w ≡ S → n * S + S ≤ length ws
        → rows S read (take (n * S) ws ++ (w ++ drop (n * S + S) ws)) (n + 1) ≡ rows S read ws n ++ (read w ∷ [])
    rows_snoc ws w n lw room =
        let lf : length (take (n * S) ws) ≡ n * S = length-take-le (n * S) ws (omega arith) in
        rows_append n 1 (take (n * S) ws) (w ++ drop (n * S + S) ws) lf
        ∙ ap (λ (x : List R). x ++ rows S read (w ++ drop (n * S + S) ws) 1) (rows_take n ws (omega arith))
        ∙ ap (λ (x : R). rows S read ws n ++ (x ∷ [])) (alone w (drop (n * S + S) ws) (omega arith))

    -- the row at p goes, those after it move down
    pub rows_close : (ws rest : List ℕ) (n p : ℕ) → p < n → n * S ≤ length ws
        → rows S read (take (p * S) ws ++ (take ((n - (p + 1)) * S) (drop ((p + 1) * S) ws) ++ rest)) (n - 1) ≡ take p (rows S read ws n) ++ drop (p + 1) (rows S read ws n)
    rows_close ws rest n p h room =
        let k : ℕ = n - (p + 1) in
        let m : n - 1 ≡ p + (n - (p + 1)) = omega arith in
        let c1 : p * S ≤ n * S = mul-le-mul_right S (omega arith) in
        let e : n ≡ (p + 1) + (n - (p + 1)) = omega arith in
        let f : n * S ≡ (p + 1) * S + (n - (p + 1)) * S = ap (λ (j : ℕ). j * S) e ∙ add-mul (p + 1) (n - (p + 1)) S in
        let lf : length (take (p * S) ws) ≡ p * S = length-take-le (p * S) ws (omega arith) in
        let back : List ℕ = take ((n - (p + 1)) * S) (drop ((p + 1) * S) ws) in
        let lb : length back ≡ (n - (p + 1)) * S = length-take-le ((n - (p + 1)) * S) (drop ((p + 1) * S) ws) (rw length-drop (omega arith)) in
        ap (rows S read (take (p * S) ws ++ (back ++ rest))) m
        ∙ rows_append p (n - (p + 1)) (take (p * S) ws) (back ++ rest) lf
        ∙ ap (λ (x : List R). x ++ rows S read (back ++ rest) (n - (p + 1))) (rows_take p ws (omega arith) ∙ sym (take_rows ws n p (omega arith)))
        ∙ ap (λ (x : List R). take p (rows S read ws n) ++ x)
        (rows_front (n - (p + 1)) back rest (omega arith)
        ∙ rows_take (n - (p + 1)) (drop ((p + 1) * S) ws) (rw length-drop (omega arith))
        ∙ sym (drop_rows ws n (p + 1) (omega arith)))

  -- a scan of the rows, at row i
  pub rows_next : (ws : List ℕ) (n i : ℕ) → i < n → rows S read (drop (i * S) ws) (n - i) ≡ read (drop (i * S) ws) ∷ rows S read (drop ((i + 1) * S) ws) (n - (i + 1))
  rows_next ws n i h =
      let m : n - i ≡ suc (n - (i + 1)) = omega arith in
      let k : i * S + S ≡ (i + 1) * S = omega (arith, add-mul i 1 S) in
      ap (rows S read (drop (i * S) ws)) m
      ∙ ap (λ (x : List ℕ). read (drop (i * S) ws) ∷ rows S read x (n - (i + 1))) (drop-drop S (i * S) ws ∙ ap (λ (j : ℕ). drop j ws) k)

  pub rows_end_lem : (ws : List ℕ) (n i : ℕ) → n ≤ i → rows S read (drop (i * S) ws) (n - i) ≡ []
  rows_end_lem ws n i h = let z : n - i ≡ 0 = omega arith in ap (rows S read (drop (i * S) ws)) z

  pub rows_first : (ws : List ℕ) (n : ℕ) → rows S read (drop (0 * S) ws) (n - 0) ≡ rows S read ws n
  rows_first ws n = let z : n - 0 ≡ n = omega arith in ap (λ (k : ℕ). rows S read (drop k ws) (n - 0)) (zero-mul S) ∙ ap (rows S read ws) z

  -- one row more of those passed
  pub rows_more : (ws : List ℕ) (i : ℕ) → rows S read ws (i + 1) ≡ rows S read ws i ++ (read (drop (i * S) ws) ∷ [])
  rows_more ws i = rows_add i 1 ws

-- kept rows move down in place: what the table holds at row i, k of them kept
module _ {R : Type 0} (S : ℕ) (read : List ℕ → R) (words : R → List ℕ) (q : R → Bool)
    (len : (r : R) → length (words r) ≡ S) (back : (r : R) (m : List ℕ) → read (words r ++ m) ≡ r) where
  keep_append : (l m : List R) → keep q (l ++ m) ≡ keep q l ++ keep q m
  keep_append [] m = refl
  keep_append (x ∷ l) m = go (q x) (keep_append l m)
    where
      go : (b : Bool) → keep q (l ++ m) ≡ keep q l ++ keep q m → pick b (x ∷ keep q (l ++ m)) (keep q (l ++ m)) ≡ pick b (x ∷ keep q l) (keep q l) ++ keep q m
      go true h = ap (λ (t : List R). x ∷ t) h
      go false h = h

  pub flat_append : (l m : List R) → flat words (l ++ m) ≡ flat words l ++ flat words m
  flat_append [] m = refl
  flat_append (x ∷ l) m = ap (λ (t : List ℕ). words x ++ t) (flat_append l m) ∙ sym (append_assoc (words x) (flat words l) (flat words m))

  pub length_flat : (l : List R) → length (flat words l) ≡ length l * S
  length_flat [] = sym (zero-mul S)
  length_flat (x ∷ l) = length-append (words x) (flat words l) ∙ (let a = len x in let b = length_flat l in omega (arith, a, b, suc-mul (length l) S))

  length_keep : (l : List R) → length (keep q l) ≤ length l
  length_keep [] = omega arith
  length_keep (x ∷ l) = go (q x) (length_keep l)
    where
      go : (b : Bool) → length (keep q l) ≤ length l → length (pick b (x ∷ keep q l) (keep q l)) ≤ suc (length l)
      go true h = omega arith
      go false h = omega arith

  module _ (ws : List ℕ) where
    pub kept_first : kept S read words q ws 0 ≡ ws
    unfolding kept
    kept_first = ap (λ (k : ℕ). drop k ws) (zero-mul S)

    pub count_le : (i : ℕ) → length (keep q (rows S read ws i)) ≤ i
    count_le i = let a = length_keep (rows S read ws i) in let b = length_rows S read i ws in omega (arith, a, b)

    more : (i : ℕ) → keep q (rows S read ws (i + 1)) ≡ keep q (rows S read ws i) ++ keep q (read (drop (i * S) ws) ∷ [])
    more i = ap (keep q) (rows_more S read ws i) ∙ keep_append (rows S read ws i) (read (drop (i * S) ws) ∷ [])

    one_true : (r : R) → q r ≡ true → keep q (r ∷ []) ≡ r ∷ []
    one_true r h = ap (λ (b : Bool). pick b (r ∷ []) []) h

    one_false : (r : R) → q r ≡ false → keep q (r ∷ []) ≡ []
    one_false r h = ap (λ (b : Bool). pick b (r ∷ []) []) h

    -- what is not yet read stands as it stood
    pub kept_read : (i : ℕ) → drop (i * S) (kept S read words q ws i) ≡ drop (i * S) ws
    unfolding kept
    kept_read i =
        let k : ℕ = length (keep q (rows S read ws i)) in
        let f : List ℕ = flat words (keep q (rows S read ws i)) in
        let lf : length f ≡ k * S = length_flat (keep q (rows S read ws i)) in
        let le : k * S ≤ i * S = mul-le-mul_right S (count_le i) in
        let e : i * S ≡ length f + (i * S - k * S) = omega arith in
        let g : k * S + (i * S - k * S) ≡ i * S = omega arith in
        ap (λ (m : ℕ). drop m (f ++ drop (k * S) ws)) e
        ∙ drop-append-add f (drop (k * S) ws) (i * S - k * S)
        ∙ drop-drop (i * S - k * S) (k * S) ws
        ∙ ap (λ (m : ℕ). drop m ws) g

    pub kept_skip : (i : ℕ) → q (read (drop (i * S) ws)) ≡ false → keep q (rows S read ws (i + 1)) ≡ keep q (rows S read ws i)
    kept_skip i h = more i ∙ ap (λ (l : List R). keep q (rows S read ws i) ++ l) (one_false _ h) ∙ append-nil (keep q (rows S read ws i))

    pub kept_take : (i : ℕ) → q (read (drop (i * S) ws)) ≡ true → keep q (rows S read ws (i + 1)) ≡ keep q (rows S read ws i) ++ (read (drop (i * S) ws) ∷ [])
    kept_take i h = more i ∙ ap (λ (l : List R). keep q (rows S read ws i) ++ l) (one_true _ h)

    pub kept_same : (i : ℕ) → q (read (drop (i * S) ws)) ≡ false → kept S read words q ws i ≡ kept S read words q ws (i + 1)
    unfolding kept
    kept_same i h = ap (λ (l : List R). flat words l ++ drop (length l * S) ws) (sym (kept_skip i h))

    pub kept_more : (i k : ℕ) (r : R) → k ≡ length (keep q (rows S read ws i)) → r ≡ read (drop (i * S) ws) → q r ≡ true
        → take (k * S) (kept S read words q ws i) ++ (words r ++ drop (k * S + S) (kept S read words q ws i)) ≡ kept S read words q ws (i + 1)
    unfolding kept
    kept_more i k r ek er h =
        let l : List R = keep q (rows S read ws i) in
        let f : List ℕ = flat words l in
        let lf : length f ≡ k * S = length_flat l ∙ ap (λ (m : ℕ). m * S) (sym ek) in
        let e : k * S + S ≡ (k + 1) * S = omega (arith, add-mul k 1 S) in
        let ln : length (l ++ (r ∷ [])) ≡ k + 1 = length-append l (r ∷ []) ∙ ap (λ (m : ℕ). m + 1) (sym ek) in
        let same : flat words l ++ drop (length l * S) ws ≡ f ++ drop (k * S) ws = ap (λ (m : ℕ). f ++ drop (m * S) ws) (sym ek) in
        let lg : k * S + S ≡ length f + S = omega arith in
        ap (λ (x : List ℕ). take (k * S) x ++ (words r ++ drop (k * S + S) x)) same
        ∙ ap (λ (x : List ℕ). x ++ (words r ++ drop (k * S + S) (f ++ drop (k * S) ws))) (take_at f (drop (k * S) ws) (k * S) lf)
        ∙ ap (λ (x : List ℕ). f ++ (words r ++ x)) (ap (λ (m : ℕ). drop m (f ++ drop (k * S) ws)) lg ∙ drop-append-add f (drop (k * S) ws) S ∙ drop-drop S (k * S) ws)
        ∙ sym (append_assoc f (words r) (drop (k * S + S) ws))
        ∙ ap (λ (x : List ℕ). (f ++ x) ++ drop (k * S + S) ws) (sym (append-nil (words r)))
        ∙ ap (λ (x : List ℕ). x ++ drop (k * S + S) ws) (sym (flat_append l (r ∷ [])))
        ∙ ap (λ (m : ℕ). flat words (l ++ (r ∷ [])) ++ drop m ws) (e ∙ ap (λ (m : ℕ). m * S) (sym ln))
        ∙ ap (λ (x : List R). flat words x ++ drop (length x * S) ws) (ap (λ (x : R). l ++ (x ∷ [])) er ∙ sym (kept_take i (ap q (sym er) ∙ h)))

  pub rows_flat : (l : List R) (rest : List ℕ) → rows S read (flat words l ++ rest) (length l) ≡ l
  rows_flat [] rest = refl
  rows_flat (r ∷ l) rest =
      ap (λ (x : List ℕ). rows S read x (suc (length l))) (append_assoc (words r) (flat words l) rest)
      ∙ ap (λ (x : R). x ∷ rows S read (drop S (words r ++ (flat words l ++ rest))) (length l)) (back r (flat words l ++ rest))
      ∙ ap (λ (x : List ℕ). r ∷ rows S read x (length l)) (drop_at (words r) (flat words l ++ rest) S (len r))
      ∙ ap (λ (x : List R). r ∷ x) (rows_flat l rest)

  -- the table that is left holds the kept rows
  pub rows_kept : (ws : List ℕ) (n : ℕ) → rows S read (kept S read words q ws n) (length (keep q (rows S read ws n))) ≡ keep q (rows S read ws n)
  unfolding kept
  rows_kept ws n = rows_flat (keep q (rows S read ws n)) (drop (length (keep q (rows S read ws n)) * S) ws)
