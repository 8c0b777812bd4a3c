-- The newer ids among the older ones, merged in place, one by one. Assumes nothing.
use mathlib.Core.Path.{◌≡◌, refl, sym, ap, ap₂, ◌∙◌}
use mathlib.Core.List.{List, [], ◌∷◌, ◌++◌}
use mathlib.Core.Bool.{Bool, true, false, cond, ◌&&◌, false≢true}
use Prim.Native.Nat.{ℕ, suc, ◌+◌, ◌-◌, ◌≤◌, ◌<◌}
use native.Mathlib.Omega.{arith}
use lib.Dec.{ltb}
use lib.ListN.{length, get_or, take, drop, set, length-append, length-drop, length-set, take-append-drop, drop_of_length-le, get_or-append}
use lib.Seq.{append_snoc, drop-cons, drop-append-le, drop_at, drop-drop, drop-set-lt, get_or-drop, get_or-take, length-take-le, take_at, take-suc-set}
use borrow.Author.Tests.{ltb-true, ltb-false}
use Rattle.table_rows.specs.Lists.{front, behind}
use Rattle.table_shift.specs.Shift.{opened}
use Rattle.table_marks.specs.Marks.{merged}

-- the two parts of a list make it up
pub both_parts : (q : ℕ → Bool) (l : List ℕ) → front q l ++ behind q l ≡ l
both_parts q [] = refl
both_parts q (i ∷ l) = go (q i) (both_parts q l)
  where
    go : (b : Bool) → front q l ++ behind q l ≡ l → cond b (i ∷ front q l) [] ++ cond b (behind q l) (i ∷ l) ≡ i ∷ l
    go true h = ap (λ (m : List ℕ). i ∷ m) h
    go false h = refl

pub length_merged : (old new : List ℕ) → length (merged old new) ≡ length old + length new
length_merged old [] = omega arith
length_merged old (i ∷ new) =
    let q : ℕ → Bool = λ (j : ℕ). ltb j i in
    let n = length-append (front q old) (i ∷ merged (behind q old) new) in
    let m = length_merged (behind q old) new in
    let p = sym (length-append (front q old) (behind q old)) ∙ ap length (both_parts q old) in
    omega (arith, n, m, p)

-- the next id of both parts
next_old : (x y : ℕ) (a b : List ℕ) → ltb x y ≡ true → merged (x ∷ a) (y ∷ b) ≡ x ∷ merged a (y ∷ b)
next_old x y a b e = rw e refl

next_new : (x y : ℕ) (a b : List ℕ) → ltb x y ≡ false → merged (x ∷ a) (y ∷ b) ≡ y ∷ merged (x ∷ a) b
next_new x y a b e = rw e refl

and_right : (x y : Bool) → (x && y) ≡ true → y ≡ true
and_right true y e = e
and_right false y e = absurd (false≢true e)

and_left : (x y : Bool) → (x && y) ≡ true → x ≡ true
and_left true y e = refl
and_left false y e = absurd (false≢true e)

-- the answer `true` of `below`
pub is_left : (i k : ℕ) (y : Bool) {b : Bool} → b ≡ (ltb i k && y) → b ≡ true → i < k
is_left i k y e h = ltb-true i k (and_left (ltb i k) y (sym e ∙ h))

module _ (a b : List ℕ) (i j : ℕ) (more : j < length b) where
  at_old : i < length a → ltb (get_or a i 0) (get_or b j 0) ≡ true → merged (drop i a) (drop j b) ≡ get_or a i 0 ∷ merged (drop (suc i) a) (drop j b)
  at_old h e =
      ap₂ merged (drop-cons a i 0 h) (drop-cons b j 0 more)
      ∙ next_old (get_or a i 0) (get_or b j 0) (drop (suc i) a) (drop (suc j) b) e
      ∙ ap (λ (l : List ℕ). get_or a i 0 ∷ merged (drop (suc i) a) l) (sym (drop-cons b j 0 more))

  at_new : i < length a → ltb (get_or a i 0) (get_or b j 0) ≡ false → merged (drop i a) (drop j b) ≡ get_or b j 0 ∷ merged (drop i a) (drop (suc j) b)
  at_new h e =
      ap₂ merged (drop-cons a i 0 h) (drop-cons b j 0 more)
      ∙ next_new (get_or a i 0) (get_or b j 0) (drop (suc i) a) (drop (suc j) b) e
      ∙ ap (λ (l : List ℕ). get_or b j 0 ∷ merged l (drop (suc j) b)) (sym (drop-cons a i 0 h))

  at_end : length a ≤ i → merged (drop i a) (drop j b) ≡ get_or b j 0 ∷ merged (drop i a) (drop (suc j) b)
  at_end h =
      let z : drop i a ≡ [] = drop_of_length-le a h in
      ap₂ merged z (drop-cons b j 0 more) ∙ ap (λ (l : List ℕ). get_or b j 0 ∷ merged l (drop (suc j) b)) (sym z)

-- THE LOOP: i older and j newer ids stand merged in front; the older ones that are left stand n places up
module _ (ws₀ : List ℕ) (k n : ℕ) (new : List ℕ) where
  abbrev old : List ℕ
  old = take k (drop n ws₀)

  abbrev some : List ℕ
  some = take n new

  abbrev rest : List ℕ
  rest = drop (k + n) ws₀

  abbrev pub Merging : List ℕ → ℕ → ℕ → Type 0
  Merging ws i j =
      (i ≤ k) × (j ≤ n) × (length ws ≡ length ws₀) × (take (i + j) ws ++ (merged (drop i old) (drop j some) ++ rest) ≡ merged old some ++ rest)
      × (drop (n + i) ws ≡ drop i old ++ rest)

  module _ (room : k + n ≤ length ws₀) (many : n ≤ length new) where
    length_old : length old ≡ k
    length_old = length-take-le k (drop n ws₀) (rw length-drop (omega arith))

    length_some : length some ≡ n
    length_some = length-take-le n new many

    pub begin : Merging ws₀ 0 0
    begin =
        let e : n + 0 ≡ n = omega arith in
        let f : n + k ≡ k + n = omega arith in (
          omega arith,
          omega arith,
          refl,
          refl,
          ap (λ (m : ℕ). drop m ws₀) e ∙ sym (take-append-drop k (drop n ws₀)) ∙ ap (λ (l : List ℕ). old ++ l) (drop-drop k n ws₀ ∙ ap (λ (m : ℕ). drop m ws₀) f),
        )

    module _ (ws : List ℕ) (i j : ℕ) (inv : Merging ws i j) (more : j < n) where
      -- one id more in front
      front_more : (x i' j' : ℕ) → i' + j' ≡ suc (i + j) → merged (drop i old) (drop j some) ≡ x ∷ merged (drop i' old) (drop j' some)
          → take (i' + j') (set ws (i + j) x) ++ (merged (drop i' old) (drop j' some) ++ rest) ≡ merged old some ++ rest
      front_more x i' j' e p =
          ap (λ (m : ℕ). take m (set ws (i + j) x) ++ (merged (drop i' old) (drop j' some) ++ rest)) e
          ∙ ap (λ (l : List ℕ). l ++ (merged (drop i' old) (drop j' some) ++ rest)) (take-suc-set ws (i + j) x (omega (arith, inv.0, inv.2, room)))
          ∙ append_snoc (take (i + j) ws) x (merged (drop i' old) (drop j' some) ++ rest)
          ∙ ap (λ (l : List ℕ). take (i + j) ws ++ (l ++ rest)) (sym p)
          ∙ inv.3

      reads_new : get_or new j 0 ≡ get_or some j 0
      reads_new = sym (get_or-take n new j 0 more)

      reads_old : i < k → get_or ws (n + i) 0 ≡ get_or old i 0
      reads_old h =
          let e : n + i ≡ n + i + 0 = omega arith in
          let f : i + 0 ≡ i = omega arith in
          ap (λ (m : ℕ). get_or ws m 0) e ∙ sym (get_or-drop (n + i) ws 0 0) ∙ ap (λ (l : List ℕ). get_or l 0 0) inv.4
          ∙ get_or-append (drop i old) rest 0 0 (rw length-drop (omega (arith, length_old, h)))
          ∙ get_or-drop i old 0 0 ∙ ap (λ (m : ℕ). get_or old m 0) f

      pub old_turn : (ltb i k && ltb (get_or ws (n + i) 0) (get_or new j 0)) ≡ true → Merging (set ws (i + j) (get_or ws (n + i) 0)) (i + 1) j
      old_turn c =
          let h : i < k = ltb-true i k (and_left (ltb i k) (ltb (get_or ws (n + i) 0) (get_or new j 0)) c) in
          let x = reads_old h in
          let below : ltb (get_or old i 0) (get_or some j 0) ≡ true = sym (ap₂ ltb x reads_new) ∙ and_right (ltb i k) (ltb (get_or ws (n + i) 0) (get_or new j 0)) c in
          let s : suc i ≡ i + 1 = omega arith in
          let u : n + (i + 1) ≡ n + i + 1 = omega arith in
          let p = at_old old some i j (omega (arith, length_some)) (omega (arith, length_old)) below ∙ ap₂ (λ (v m : ℕ). v ∷ merged (drop m old) (drop j some)) (sym x) s in (
            omega arith,
            inv.1,
            length-set ws (i + j) (get_or ws (n + i) 0) ∙ inv.2,
            front_more (get_or ws (n + i) 0) (i + 1) j (omega arith) p,
            drop-set-lt (n + (i + 1)) ws (i + j) (get_or ws (n + i) 0) (omega arith) ∙ ap (λ (m : ℕ). drop m ws) u ∙ sym (drop-drop 1 (n + i) ws)
                ∙ ap (drop 1) inv.4 ∙ drop-append-le 1 (drop i old) rest (rw length-drop (omega (arith, length_old, h)))
                ∙ ap (λ (l : List ℕ). l ++ rest) (drop-drop 1 i old),
          )

      pub new_turn : (ltb i k && ltb (get_or ws (n + i) 0) (get_or new j 0)) ≡ false → Merging (set ws (i + j) (get_or new j 0)) i (j + 1)
      new_turn c =
          let s : suc j ≡ j + 1 = omega arith in
          let p = next (ltb i k) refl c ∙ ap₂ (λ (v m : ℕ). v ∷ merged (drop i old) (drop m some)) (sym reads_new) s in (
            inv.0,
            omega arith,
            length-set ws (i + j) (get_or new j 0) ∙ inv.2,
            front_more (get_or new j 0) i (j + 1) (omega arith) p,
            drop-set-lt (n + i) ws (i + j) (get_or new j 0) (omega arith) ∙ inv.4,
          )
        where
          next : (x : Bool) → ltb i k ≡ x → (x && ltb (get_or ws (n + i) 0) (get_or new j 0)) ≡ false → merged (drop i old) (drop j some) ≡ get_or some j 0 ∷ merged (drop i old) (drop (suc j) some)
          next true e f = let h = ltb-true i k e in at_new old some i j (omega (arith, length_some)) (omega (arith, length_old, h)) (sym (ap₂ ltb (reads_old h) reads_new) ∙ f)
          next false e f = at_end old some i j (omega (arith, length_some)) (omega (arith, length_old, ltb-false i k e))

    pub finish : (ws : List ℕ) (i j : ℕ) → Merging ws i j → n ≤ j → ws ≡ merged old some ++ rest
    finish ws i j inv h =
        let l : length some ≤ j = omega (arith, length_some) in
        let z : drop j some ≡ [] = drop_of_length-le some l in
        let e : n + i ≡ i + j = omega (arith, inv.1) in
        sym (take-append-drop (i + j) ws) ∙ ap (λ (m : ℕ). take (i + j) ws ++ drop m ws) (sym e) ∙ ap (λ (l : List ℕ). take (i + j) ws ++ l) inv.4
        ∙ ap (λ (l : List ℕ). take (i + j) ws ++ (merged (drop i old) l ++ rest)) (sym z) ∙ inv.3

-- THE PARTS of a table whose first k words moved up by n
module _ (ws : List ℕ) (k n : ℕ) (room : k + n ≤ length ws) where
  up_behind : drop n (opened ws 0 k n) ≡ take k ws ++ drop (k + n) ws
  unfolding opened
  up_behind =
      let e : 0 + n ≡ n = omega arith in
      let f : k - 0 ≡ k = omega arith in
      ap₂ (λ (x y : ℕ). drop n (take x ws ++ (take y ws ++ drop (k + n) ws))) e f
      ∙ drop_at (take n ws) (take k ws ++ drop (k + n) ws) n (length-take-le n ws (omega arith))

  length_front : length (take k ws) ≡ k
  length_front = length-take-le k ws (omega arith)

  pub settled : (new ws₁ ws₂ : List ℕ) → take n new ≡ take n (drop k ws) → ws₁ ≡ opened ws 0 k n → ws₂ ≡ merged (take k (drop n ws₁)) (take n new) ++ drop (k + n) ws₁
      → ws₂ ≡ merged (take k ws) (take n (drop k ws)) ++ drop (k + n) ws
  settled new ws₁ ws₂ c l m =
      let f : k + n ≡ n + k = omega arith in
      let a : take k (drop n ws₁) ≡ take k ws = ap (λ (x : List ℕ). take k (drop n x)) l ∙ ap (take k) up_behind ∙ take_at (take k ws) (drop (k + n) ws) k length_front in
      let z : drop (k + n) ws₁ ≡ drop (k + n) ws
      = ap (drop (k + n)) l ∙ ap (λ (x : ℕ). drop x (opened ws 0 k n)) f ∙ sym (drop-drop k n (opened ws 0 k n)) ∙ ap (drop k) up_behind ∙ drop_at (take k ws) (drop (k + n) ws) k length_front in
      m ∙ ap₂ (λ (x y : List ℕ). x ++ y) (ap₂ merged a c) z
