-- Slots of a ring, and a ring after one entry more: it gives up its oldest where all slots are taken. Assumes nothing.
use mathlib.Core.Path.{◌≡◌, refl, sym, ap, ◌∙◌}
use mathlib.Core.List.{List, [], ◌∷◌, ◌++◌}
use mathlib.Core.Bool.{Bool, true, false, cond}
use mathlib.Core.Logic.{⊎_elim, ◌⊎◌, inl, inr}
use Prim.Native.Nat.{ℕ, zero, suc, ◌+◌, ◌-◌, ◌≤◌, ◌<◌}
use native.Mathlib.Nat.{add-zero}
use native.Mathlib.Omega.{arith}
use lib.Dec.{ltb}
use lib.ListN.{length, get_or, drop}
use borrow.Author.Tests.{lt-ltb, le-ltb, ltb-true, ltb-false}
use Rattle.table_ring.specs.declared.Push.{Push}
use Rattle.table_ring.specs.Ring.{push, slot_of, push_slot, ring_from, ring}

-- a slot is first + k, or that less the capacity
pub slot_is : (m first k : ℕ) → ((first + k < m) × (slot_of m first k ≡ first + k)) ⊎ ((m ≤ first + k) × (slot_of m first k ≡ first + k - m))
unfolding slot_of
slot_is m first k = go (ltb (first + k) m) refl
  where
    go : (b : Bool) → ltb (first + k) m ≡ b → ((first + k < m) × (cond b (first + k) (first + k - m) ≡ first + k)) ⊎ ((m ≤ first + k) × (cond b (first + k) (first + k - m) ≡ first + k - m))
    go true e = inl (ltb-true (first + k) m e, refl)
    go false e = inr (ltb-false (first + k) m e, refl)

pub slot_in : (m first k : ℕ) → first < m → k ≤ m → slot_of m first k < m
slot_in m first k h q = ⊎_elim (λ x. omega (arith, x.0, x.1)) (λ x. omega (arith, x.0, x.1)) (slot_is m first k)

-- two entries of a ring stand in two slots
pub slots_apart : (m first j k : ℕ) → first < m → j < k → k < m → slot_of m first j ≡ slot_of m first k → ⊥
slots_apart m first j k h q r e =
    ⊎_elim
    (λ x. ⊎_elim (λ y. omega (arith, x.0, x.1, y.0, y.1)) (λ y. omega (arith, x.0, x.1, y.0, y.1)) (slot_is m first k))
    (λ x. ⊎_elim (λ y. omega (arith, x.0, x.1, y.0, y.1)) (λ y. omega (arith, x.0, x.1, y.0, y.1)) (slot_is m first k))
    (slot_is m first j)

-- one slot on
pub slot_on : (m first j : ℕ) → first < m → j < m → slot_of m (slot_of m first 1) j ≡ slot_of m first (suc j)
slot_on m first j h q =
    ⊎_elim
    (λ x. ⊎_elim
    (λ y. ⊎_elim (λ z. omega (arith, x.0, x.1, y.0, y.1, z.0, z.1)) (λ z. omega (arith, x.0, x.1, y.0, y.1, z.0, z.1)) (slot_is m (slot_of m first 1) j))
    (λ y. ⊎_elim (λ z. omega (arith, x.0, x.1, y.0, y.1, z.0, z.1)) (λ z. omega (arith, x.0, x.1, y.0, y.1, z.0, z.1)) (slot_is m (slot_of m first 1) j))
    (slot_is m first (suc j)))
    (λ x. ⊎_elim
    (λ y. ⊎_elim (λ z. omega (arith, x.0, x.1, y.0, y.1, z.0, z.1)) (λ z. omega (arith, x.0, x.1, y.0, y.1, z.0, z.1)) (slot_is m (slot_of m first 1) j))
    (λ y. ⊎_elim (λ z. omega (arith, x.0, x.1, y.0, y.1, z.0, z.1)) (λ z. omega (arith, x.0, x.1, y.0, y.1, z.0, z.1)) (slot_is m (slot_of m first 1) j))
    (slot_is m first (suc j)))
    (slot_is m first 1)

slot_zero : (m first : ℕ) → first < m → slot_of m first 0 ≡ first
slot_zero m first h = ⊎_elim (λ x. omega (arith, x.0, x.1)) (λ x. omega (arith, x.0, x.1)) (slot_is m first 0)

slot_round : (m first : ℕ) → first < m → slot_of m first m ≡ first
slot_round m first h = ⊎_elim (λ x. omega (arith, x.0, x.1)) (λ x. omega (arith, x.0, x.1)) (slot_is m first m)

module _ {R : Type 0} where
  pub length_from : (at : ℕ → R) (m first k n : ℕ) → length (ring_from at m first k n) ≡ n
  length_from at m first k zero = refl
  length_from at m first k (suc n) = ap suc (length_from at m first (suc k) n)

  from_same : (at at' : ℕ → R) (m first first' k k' n : ℕ) → ((j : ℕ) → j < n → at' (slot_of m first' (k' + j)) ≡ at (slot_of m first (k + j)))
      → ring_from at' m first' k' n ≡ ring_from at m first k n
  from_same at at' m first first' k k' zero h = refl
  from_same at at' m first first' k k' (suc n) h =
      let a : at' (slot_of m first' k') ≡ at (slot_of m first k)
      = ap (λ (i : ℕ). at' (slot_of m first' i)) (sym (add-zero k')) ∙ h 0 (omega arith) ∙ ap (λ (i : ℕ). at (slot_of m first i)) (add-zero k) in
      ap (λ (x : R). x ∷ ring_from at' m first' (suc k') n) a
      ∙ ap (λ (l : List R). at (slot_of m first k) ∷ l) (from_same at at' m first first' (suc k) (suc k') n (λ j q.
      (let e : suc k' + j ≡ k' + suc j = omega arith in
      let f : k + suc j ≡ suc k + j = omega arith in
      ap (λ (i : ℕ). at' (slot_of m first' i)) e ∙ h (suc j) (omega arith) ∙ ap (λ (i : ℕ). at (slot_of m first i)) f)))

  pub from_snoc : (at : ℕ → R) (m first k n : ℕ) → ring_from at m first k (suc n) ≡ ring_from at m first k n ++ (at (slot_of m first (k + n)) ∷ [])
  from_snoc at m first k zero = ap (λ (i : ℕ). at (slot_of m first i) ∷ []) (sym (add-zero k))
  from_snoc at m first k (suc n) =
      let e : suc k + n ≡ k + suc n = omega arith in
      ap (λ (l : List R). at (slot_of m first k) ∷ l) (from_snoc at m first (suc k) n ∙ ap (λ (i : ℕ). ring_from at m first (suc k) n ++ (at (slot_of m first i) ∷ [])) e)

  -- the k-th oldest
  pub ring_at_lem : (at : ℕ → R) (m first k n i : ℕ) (d : R) → i < n → get_or (ring_from at m first k n) i d ≡ at (slot_of m first (k + i))
  ring_at_lem at m first k zero i d h = absurd (omega arith)
  ring_at_lem at m first k (suc n) zero d h = ap (λ (j : ℕ). at (slot_of m first j)) (sym (add-zero k))
  ring_at_lem at m first k (suc n) (suc i) d h =
      let e : suc k + i ≡ k + suc i = omega arith in
      ring_at_lem at m first (suc k) n i d (omega arith) ∙ ap (λ (j : ℕ). at (slot_of m first j)) e

  -- a ring with a free slot takes an entry behind the others; a full one gives up its oldest
  module _ (at at' : ℕ → R) (m first : ℕ) (e : R) (inside : first < m) where
    with_room : (n : ℕ) → n < m → at' (slot_of m first n) ≡ e → ((s : ℕ) → (s ≡ slot_of m first n → ⊥) → at' s ≡ at s)
        → ring at' m first (n + 1) ≡ ring at m first n ++ (e ∷ [])
    with_room n h a o =
        let q : n + 1 ≡ suc n = omega arith in
        let z : 0 + n ≡ n = omega arith in
        ap (ring at' m first) q
        ∙ from_snoc at' m first 0 n
        ∙ ap (λ (l : List R). l ++ (at' (slot_of m first (0 + n)) ∷ []))
        (from_same at at' m first first 0 0 n (λ j w. (let y : 0 + j < n = omega arith in o (slot_of m first (0 + j)) (slots_apart m first (0 + j) n inside y h))))
        ∙ ap (λ (x : R). ring at m first n ++ (x ∷ [])) (ap (λ (i : ℕ). at' (slot_of m first i)) z ∙ a)

    when_full : at' first ≡ e → ((s : ℕ) → (s ≡ first → ⊥) → at' s ≡ at s) → ring at' m (slot_of m first 1) m ≡ drop 1 (ring at m first m) ++ (e ∷ [])
    when_full a o = go m refl
      where
        go : (c : ℕ) → m ≡ c → ring_from at' m (slot_of m first 1) 0 c ≡ drop 1 (ring_from at m first 0 c) ++ (e ∷ [])
        go zero q = absurd (omega arith)
        go (suc c) q =
            let z : 0 + c ≡ c = omega arith in
            let last : slot_of m (slot_of m first 1) (0 + c) ≡ first
            = ap (slot_of m (slot_of m first 1)) z ∙ slot_on m first c inside (omega arith) ∙ ap (slot_of m first) (sym q) ∙ slot_round m first inside in
            from_snoc at' m (slot_of m first 1) 0 c
            ∙ ap (λ (l : List R). l ++ (at' (slot_of m (slot_of m first 1) (0 + c)) ∷ []))
            (from_same at at' m first (slot_of m first 1) 1 0 c (λ j w.
            (let y : 0 + j ≡ j = omega arith in
            let u : suc j ≡ 1 + j = omega arith in
            let t : slot_of m (slot_of m first 1) (0 + j) ≡ slot_of m first (1 + j) = ap (slot_of m (slot_of m first 1)) y ∙ slot_on m first j inside (omega arith) ∙ ap (slot_of m first) u in
            let n : slot_of m first (1 + j) ≡ first → ⊥ = λ p. slots_apart m first 0 (1 + j) inside (omega arith) (omega arith) (slot_zero m first inside ∙ sym p) in
            ap at' t ∙ o (slot_of m first (1 + j)) n)))
            ∙ ap (λ (x : R). ring_from at m first 1 c ++ (x ∷ [])) (ap at' last ∙ a)

    -- THE LAW: with `push_slot`'s slot written, and its count and first, the ring has one entry more
    pub push_ring : (n : ℕ) → n ≤ m → at' (push_slot m n first).slot ≡ e → ((s : ℕ) → (s ≡ (push_slot m n first).slot → ⊥) → at' s ≡ at s)
        → ring at' m (push_slot m n first).first (push_slot m n first).count ≡ push m (ring at m first n) e
    unfolding push_slot
    push_ring n h = go (ltb n m) refl
      where
        all : List R
        all = ring at m first n

        P : Bool → Push
        P b = cond b (record { slot = slot_of m first n; count = n + 1; first = first }) (record { slot = first; count = n; first = slot_of m first 1 })

        by_length : (b : Bool) → ltb n m ≡ b → cond b (all ++ (e ∷ [])) (drop 1 (all ++ (e ∷ []))) ≡ push m all e
        by_length b t = ap (λ (x : Bool). cond x (all ++ (e ∷ [])) (drop 1 (all ++ (e ∷ [])))) (sym (ap (λ (k : ℕ). ltb k m) (length_from at m first 0 n) ∙ t))

        drop_first : (k : ℕ) → 0 < k → drop 1 (ring at m first k) ++ (e ∷ []) ≡ drop 1 (ring at m first k ++ (e ∷ []))
        drop_first zero q = absurd (omega arith)
        drop_first (suc k) q = refl

        go : (b : Bool) → ltb n m ≡ b → at' (P b).slot ≡ e → ((s : ℕ) → (s ≡ (P b).slot → ⊥) → at' s ≡ at s)
            → ring at' m (P b).first (P b).count ≡ push m (ring at m first n) e
        go true t a o = with_room n (ltb-true n m t) a o ∙ by_length true t
        go false t a o =
            let ge = ltb-false n m t in
            let s : n ≡ m = omega arith in
            ap (ring at' m (slot_of m first 1)) s ∙ when_full a o ∙ ap (λ (k : ℕ). drop 1 (ring at m first k) ++ (e ∷ [])) (sym s) ∙ drop_first n (omega arith) ∙ by_length false t

-- the ways out of `slot` and `push_slot`
module _ (m first k : ℕ) where
  pub slot_low : first + k < m → first + k ≡ slot_of m first k
  unfolding slot_of
  slot_low h = sym (rw (lt-ltb (first + k) m h))

  pub slot_high : m ≤ first + k → first + k - m ≡ slot_of m first k
  unfolding slot_of
  slot_high h = sym (rw (le-ltb (first + k) m h))

pub push_room : (m n first s : ℕ) → n < m → s ≡ slot_of m first n → ◌≡◌ {A = Push} (record { slot = s; count = n + 1; first = first }) (push_slot m n first)
unfolding push_slot
push_room m n first s h e = rw (lt-ltb n m h, e)

pub push_full : (m n first s : ℕ) → m ≤ n → s ≡ slot_of m first 1 → ◌≡◌ {A = Push} (record { slot = first; count = n; first = s }) (push_slot m n first)
unfolding push_slot
push_full m n first s h e = rw (le-ltb n m h, e)

pub push_in : (m n first : ℕ) → n ≤ m → first < m → (push_slot m n first).slot < m
unfolding push_slot
push_in m n first h k = go (ltb n m) refl
  where
    P : Bool → Push
    P b = cond b (record { slot = slot_of m first n; count = n + 1; first = first }) (record { slot = first; count = n; first = slot_of m first 1 })

    go : (b : Bool) → ltb n m ≡ b → (P b).slot < m
    go true e = slot_in m first n k h
    go false e = k

pub push_counts : (m n first : ℕ) → n ≤ m → first < m → ((push_slot m n first).count ≤ m) × ((push_slot m n first).first < m)
unfolding push_slot
push_counts m n first h k = go (ltb n m) refl
  where
    P : Bool → Push
    P b = cond b (record { slot = slot_of m first n; count = n + 1; first = first }) (record { slot = first; count = n; first = slot_of m first 1 })

    go : (b : Bool) → ltb n m ≡ b → ((P b).count ≤ m) × ((P b).first < m)
    go true e = let l = ltb-true n m e in (omega arith, k)
    go false e = (h, slot_in m first 1 k (omega arith))

-- a ring whose slots hold the same
pub ring_same : {R : Type 0} (at at' : ℕ → R) (m first n : ℕ) → first < m → n ≤ m → ((s : ℕ) → s < m → at' s ≡ at s) → ring at' m first n ≡ ring at m first n
ring_same at at' m first n h k o =
    from_same at at' m first first 0 0 n (λ j w. o (slot_of m first (0 + j)) (slot_in m first (0 + j) h (omega arith)))
