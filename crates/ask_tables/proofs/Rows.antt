-- Tests of rows and columns that say the same, and numbers within limits. Assumes nothing.
use mathlib.Core.Path.{◌≡◌, refl, sym, ap, ◌∙◌}
use mathlib.Core.Bool.{Bool, true, ◌&&◌}
use mathlib.Core.List.{List}
use Prim.Native.Nat.{ℕ, zero, suc, ◌+◌, ◌*◌, ◌^◌, ◌%◌, ◌≤◌, ◌<◌}
use native.Mathlib.Nat.{one-mul, mul-le-mul}
use native.Mathlib.Omega.{arith}
use lib.Dec.{leb}
use lib.ListN.{get_or, drop}
use lib.Pow.{pow_mono}
use Rattle.table_rows.specs.Rows.{all_of}
use Rattle.table_rows.specs.Lists.{up_to}
use Rattle.table_rows.specs.Table.{rows_of}
use Rattle.table_rows.proofs.Lists.{length_up_to, get_d_up_to}
use Rattle.table_rows.proofs.Scans.{pass_at}
use Rattle.table_scan.specs.Scan.{column_within}
use Rattle.spec_network.specs.Lists.{below}
use Rattle.spec_network.specs.Tables.{cell, till_form}
use Rattle.ask_tables.specs.declared.Till.{Till}
use Rattle.ask_tables.specs.TillRow.{till_width, form, live_till}
use Rattle.ask_tables.specs.Held.{masks_below}

-- ---- Tests that say the same of each place

pub alike : {A B : Type 0} (n : ℕ) (p : A → Bool) (f : ℕ → A) (q : B → Bool) (g : ℕ → B) → ((i : ℕ) → i < n → p (f i) ≡ q (g i)) → all_of p (up_to n f) ≡ all_of q (up_to n g)
alike zero p f q g h = refl
alike (suc n) p f q g h =
    ap (λ (b : Bool). b && all_of p (up_to n (λ k. f (suc k)))) (h 0 (omega arith))
    ∙ ap (λ (b : Bool). q (g 0) && b) (alike n p (λ k. f (suc k)) q (λ k. g (suc k)) (λ i l. h (suc i) (omega arith)))

pub counts_column : (ws : List ℕ) (n limit : ℕ) → column_within ws 0 1 n limit ≡ all_of (λ (t : ℕ). leb (cell ws t) limit) (below n)
unfolding column_within
counts_column ws n limit =
    alike n (λ (c : ℕ). leb c limit) (λ i. get_or ws (0 + i * 1) 0) (λ (t : ℕ). leb (cell ws t) limit) (λ i. i)
    (λ i h. let e : 0 + i * 1 ≡ i = omega arith in ap (λ (k : ℕ). leb (get_or ws k 0) limit) e)

-- a test of every number below n, at one of them
pub below_at : (p : ℕ → Bool) (n k : ℕ) → all_of p (below n) ≡ true → k < n → p k ≡ true
below_at p n k e h =
    let long = length_up_to n (λ (i : ℕ). i) in
    let at : get_or (below n) k k ≡ k = get_d_up_to n (λ (i : ℕ). i) k k h in
    ap p (sym at) ∙ pass_at p k (below n) k (omega arith) e

-- ---- Numbers

pub power_is : (n : ℕ) → n ≤ 16 → (1 * 2 ^ n) % 2 ^ 64 ≡ 2 ^ n
power_is n h =
    let p : 2 ^ n ≤ 65536 = pow_mono {i = n} {j = 16} h in
    let q : 1 * 2 ^ n ≡ 2 ^ n = one-mul (2 ^ n) in
    omega arith

-- a product of numbers within limits
pub product : (a b A B : ℕ) → a ≤ A → b ≤ B → a * b ≤ A * B
product a b A B h k = mul-le-mul h k

-- the tills that the rows hold, with powers that a call worked out
live_tills : (types shards : ℕ) (ws : List ℕ) (n : ℕ) → all_of (λ (t : Till). masks_below types shards (live_till t)) (rows_of form ws n) ≡ all_of (masks_below types shards) (rows_of till_form ws n)
live_tills types shards ws zero = refl
live_tills types shards ws (suc n) = ap (λ (b : Bool). masks_below types shards (till_form.read ws) && b) (live_tills types shards (drop till_width ws) n)

pub powers : (types shards a b : ℕ) (ws : List ℕ) (n : ℕ) → a ≡ 2 ^ types → b ≡ 2 ^ shards
    → all_of (λ (t : Till). masks_below a b (live_till t)) (rows_of form ws n) ≡ all_of (masks_below (2 ^ types) (2 ^ shards)) (rows_of till_form ws n)
powers types shards a b ws n p q =
    live_tills a b ws n
    ∙ ap (λ (k : ℕ). all_of (masks_below k b) (rows_of till_form ws n)) p
    ∙ ap (λ (k : ℕ). all_of (masks_below (2 ^ types) k) (rows_of till_form ws n)) q
