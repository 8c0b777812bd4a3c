-- The records of a log as one run of rows, or two. Assumes nothing.
use mathlib.Core.Path.{◌≡◌, refl, sym, ap, ◌∙◌}
use mathlib.Core.List.{List, [], ◌∷◌, ◌++◌}
use mathlib.Core.Logic.{⊎_elim}
use mathlib.Core.Bool.{Bool, true, false, ◌&&◌}
use Prim.Native.Nat.{ℕ, zero, suc, ◌+◌, ◌*◌, ◌-◌, ◌≤◌, ◌<◌}
use native.Mathlib.Nat.{add-zero}
use native.Mathlib.Omega.{arith}
use lib.ListN.{drop}
use lib.Seq.{drop-drop}
use Rattle.table_rows.specs.Rows.{all_of}
use Rattle.table_rows.specs.Table.{rows_of}
use Rattle.table_ring.specs.Ring.{slot_of, ring_from, slot_at, count_at, first_at}
use Rattle.table_ring.proofs.Laws.{slot_is}
use Rattle.table_delivery.specs.declared.Delivery.{Delivery}
use Rattle.table_delivery.specs.Delivery as delivery
use Rattle.table_log.specs.Log.{records_at, records_of}

-- a test of one list and then of another
pub all_both : {R : Type 0} (q : R → Bool) (a b : List R) → all_of q (a ++ b) ≡ (all_of q a && all_of q b)
all_both q [] b = refl
all_both q (r ∷ a) b = ap (λ (x : Bool). q r && x) (all_both q a b) ∙ three (q r) (all_of q a) (all_of q b)
  where
    three : (x y z : Bool) → (x && (y && z)) ≡ ((x && y) && z)
    three true y z = refl
    three false y z = refl

module _ (m first : ℕ) (ws : List ℕ) where
  abbrev at : ℕ → Delivery
  at s = delivery.read (drop (records_at + s * delivery.width) ws)

  slot_before : (k : ℕ) → first + k < m → slot_of m first k ≡ first + k
  slot_before k h = ⊎_elim (λ x. x.1) (λ x. absurd (omega (arith, x.0))) (slot_is m first k)

  slot_behind : (k : ℕ) → m ≤ first + k → slot_of m first k ≡ first + k - m
  slot_behind k h = ⊎_elim (λ x. absurd (omega (arith, x.0))) (λ x. x.1) (slot_is m first k)

  -- a slot's row and those behind it
  rows_on : (s n : ℕ) → rows_of delivery.form (drop delivery.width (drop (records_at + s * delivery.width) ws)) n ≡ rows_of delivery.form (drop (records_at + (s + 1) * delivery.width) ws) n
  rows_on s n =
      let e : records_at + s * delivery.width + delivery.width ≡ records_at + (s + 1) * delivery.width = omega arith in
      ap (λ (w : List ℕ). rows_of delivery.form w n) (drop-drop delivery.width (records_at + s * delivery.width) ws ∙ ap (λ (j : ℕ). drop j ws) e)

  -- up to the last slot
  run_before : (k n : ℕ) → first + k + n ≤ m → ring_from (slot_at delivery.form m 0 records_at ws) m first k n ≡ rows_of delivery.form (drop (records_at + (first + k) * delivery.width) ws) n
  run_before k zero h = refl
  run_before k (suc n) h =
      let e : first + suc k ≡ first + k + 1 = omega arith in
      ap (λ (s : ℕ). at s ∷ ring_from (slot_at delivery.form m 0 records_at ws) m first (suc k) n) (slot_before k (omega arith))
      ∙ ap (λ (l : List Delivery). at (first + k) ∷ l)
      (run_before (suc k) n (omega arith)
      ∙ ap (λ (s : ℕ). rows_of delivery.form (drop (records_at + s * delivery.width) ws) n) e
      ∙ sym (rows_on (first + k) n))

  -- past it
  run_behind : (k n : ℕ) → m ≤ first + k → ring_from (slot_at delivery.form m 0 records_at ws) m first k n ≡ rows_of delivery.form (drop (records_at + (first + k - m) * delivery.width) ws) n
  run_behind k zero h = refl
  run_behind k (suc n) h =
      let e : first + suc k - m ≡ first + k - m + 1 = omega arith in
      ap (λ (s : ℕ). at s ∷ ring_from (slot_at delivery.form m 0 records_at ws) m first (suc k) n) (slot_behind k h)
      ∙ ap (λ (l : List Delivery). at (first + k - m) ∷ l)
      (run_behind (suc k) n (omega arith)
      ∙ ap (λ (s : ℕ). rows_of delivery.form (drop (records_at + s * delivery.width) ws) n) e
      ∙ sym (rows_on (first + k - m) n))

  run_both : (k a b : ℕ) → ring_from (slot_at delivery.form m 0 records_at ws) m first k (a + b) ≡ ring_from (slot_at delivery.form m 0 records_at ws) m first k a ++
      ring_from (slot_at delivery.form m 0 records_at ws) m first (k + a) b
  run_both k zero b =
      let e : zero + b ≡ b = omega arith in
      ap (ring_from (slot_at delivery.form m 0 records_at ws) m first k) e
      ∙ ap (λ (j : ℕ). ring_from (slot_at delivery.form m 0 records_at ws) m first j b) (sym (add-zero k))
  run_both k (suc a) b =
      let e : suc a + b ≡ suc (a + b) = omega arith in
      let f : suc k + a ≡ k + suc a = omega arith in
      ap (ring_from (slot_at delivery.form m 0 records_at ws) m first k) e
      ∙ ap (λ (l : List Delivery). at (slot_of m first k) ∷ l)
      (run_both (suc k) a b ∙ ap (λ (j : ℕ). ring_from (slot_at delivery.form m 0 records_at ws) m first (suc k) a ++ ring_from (slot_at delivery.form m 0 records_at ws) m first j b) f)

-- a log's records in one run
pub one_run : (m : ℕ) (ws : List ℕ) → first_at 0 ws + count_at 0 ws ≤ m
    → rows_of delivery.form (drop (records_at + first_at 0 ws * delivery.width) ws) (count_at 0 ws) ≡ records_of m ws
one_run m ws h =
    let f : ℕ = first_at 0 ws in
    ap (λ (s : ℕ). rows_of delivery.form (drop (records_at + s * delivery.width) ws) (count_at 0 ws)) (sym (add-zero f))
    ∙ sym (run_before m f ws 0 (count_at 0 ws) (omega arith))

-- in two
pub two_runs : (m : ℕ) (ws : List ℕ) (a : ℕ) → first_at 0 ws < m → a ≡ m - first_at 0 ws → a ≤ count_at 0 ws
    → rows_of delivery.form (drop (records_at + first_at 0 ws * delivery.width) ws) a ++ rows_of delivery.form (drop records_at ws) (count_at 0 ws - a) ≡ records_of m ws
two_runs m ws a h e q =
    let f : ℕ = first_at 0 ws in
    let n : ℕ = count_at 0 ws in
    let g : a + (n - a) ≡ n = omega arith in
    let z : records_at ≡ records_at + (f + (0 + a) - m) * delivery.width = omega arith in
    sym
    (ap (ring_from (slot_at delivery.form m 0 records_at ws) m f 0) (sym g)
    ∙ run_both m f ws 0 a (n - a)
    ∙ ap (λ (l : List Delivery). l ++ ring_from (slot_at delivery.form m 0 records_at ws) m f (0 + a) (n - a))
    (run_before m f ws 0 a (omega arith) ∙ ap (λ (s : ℕ). rows_of delivery.form (drop (records_at + s * delivery.width) ws) a) (add-zero f))
    ∙ ap (λ (l : List Delivery). rows_of delivery.form (drop (records_at + f * delivery.width) ws) a ++ l)
    (run_behind m f ws (0 + a) (n - a) (omega arith) ∙ ap (λ (j : ℕ). rows_of delivery.form (drop j ws) (n - a)) (sym z)))

-- the ways out of `records_near`
module _ (q : Delivery → Bool) (m : ℕ) (ws : List ℕ) where
  pub none_there : count_at 0 ws ≡ 0 → true ≡ all_of q (records_of m ws)
  none_there e = sym (ap (λ (n : ℕ). all_of q (ring_from (slot_at delivery.form m 0 records_at ws) m (first_at 0 ws) 0 n)) e)

  pub in_one : (b : Bool) → first_at 0 ws + count_at 0 ws ≤ m →
      b ≡ all_of q (rows_of delivery.form (drop (records_at + first_at 0 ws * delivery.width) ws) (count_at 0 ws)) → b ≡ all_of q (records_of m ws)
  in_one b h e = e ∙ ap (all_of q) (one_run m ws h)

  module _ (a : ℕ) (h : first_at 0 ws < m) (e : a ≡ m - first_at 0 ws) (more : a ≤ count_at 0 ws) where
    both : (all_of q (rows_of delivery.form (drop (records_at + first_at 0 ws * delivery.width) ws) a) &&
        all_of q (rows_of delivery.form (drop records_at ws) (count_at 0 ws - a))) ≡ all_of q (records_of m ws)
    both = sym (all_both q (rows_of delivery.form (drop (records_at + first_at 0 ws * delivery.width) ws) a)
        (rows_of delivery.form (drop records_at ws) (count_at 0 ws - a))) ∙ ap (all_of q) (two_runs m ws a h e more)

    pub not_ahead : (b : Bool) → b ≡ all_of q (rows_of delivery.form (drop (records_at + first_at 0 ws * delivery.width) ws) a) → b ≡ false → false ≡ all_of q (records_of m ws)
    not_ahead b is f = ap (λ (x : Bool). x && all_of q (rows_of delivery.form (drop records_at ws) (count_at 0 ws - a))) (sym f ∙ is) ∙ both

    pub ahead_then : (b r : Bool) → b ≡ all_of q (rows_of delivery.form (drop (records_at + first_at 0 ws * delivery.width) ws) a) → b ≡ true
        → r ≡ all_of q (rows_of delivery.form (drop records_at ws) (count_at 0 ws - a)) → r ≡ all_of q (records_of m ws)
    ahead_then b r is t e = e ∙ ap (λ (x : Bool). x && all_of q (rows_of delivery.form (drop records_at ws) (count_at 0 ws - a))) (sym t ∙ is) ∙ both
