-- The scans' tests are those of question 1. Assumes nothing.
use mathlib.Core.Path.{◌≡◌, refl, sym, ap, ◌∙◌}
use mathlib.Core.Bool.{Bool, true, false, cond, ◌&&◌}
use mathlib.Core.List.{List, [], ◌∷◌}
use Prim.Native.Nat.{ℕ, ◌+◌, ◌*◌, ◌-◌, ◌≤◌, ◌<◌}
use native.Mathlib.Nat.{mul-le-mul}
use native.Mathlib.Omega.{arith}
use lib.Dec.{eqb, ltb, leb}
use lib.ListN.{length, get_or, take}
use borrow.Author.Tests.{eq-eqb, ne_eqb, ltb-true, ltb-false, le-leb, lt-leb}
use Rattle.table_rows.specs.Rows.{all_of}
use Rattle.table_rows.specs.Table.{rows_of}
use Rattle.table_delivery.specs.declared.Delivery.{Delivery}
use Rattle.table_waiting.specs.Waiting as waiting
use Rattle.table_waiting.specs.declared.Copy.{Copy}
use Rattle.table_ring.specs.Ring.{sound_at}
use Rattle.table_rings.specs.Rings as rings
use Rattle.table_log.specs.Log as log
use Rattle.link_geography.specs.Geography.{at_least_one, link_in, link_admitted}
use Rattle.table_scan.specs.Scan.{near, near_entry, copies_near, log_near, ring_near, rings_near, column, column_within}
use Rattle.table_scan.proofs.Laws.{goes_on, stops, ends, number_row, numbers_long, column_long, column_row}
use Rattle.spec_network.specs.Lists.{below}
use Rattle.spec_network.specs.Opening.{Sizes, Plan, longest_name, longest_key}
use Rattle.spec_network.specs.Tables.{cell, sizes_at, settings_at, name_at, shard_at}
use Rattle.spec_network.specs.Real.{pair_cells, region_at}
use Rattle.spec_network.specs.Lent.{near_delivery, near_copy, near_carried}
use Rattle.ask_tables.specs.Held.{prices_held}
use Rattle.ask_tables.proofs.Rows.{alike}
use Rattle.ask_rows.specs.HeldRows.{limits_of, links_admitted, regions_below, plan_held}

-- ---- Two tests that say the same of every row

pub same_tests : {R : Type 0} (p q : R → Bool) (l : List R) → ((r : R) → p r ≡ q r) → all_of p l ≡ all_of q l
same_tests p q [] h = refl
same_tests p q (r ∷ rs) h = ap (λ (b : Bool). b && all_of p rs) (h r) ∙ ap (λ (b : Bool). q r && b) (same_tests p q rs h)

four : (a b c d : Bool) → (a && (b && (c && d))) ≡ (a && b && c && d)
four true b c d = three b c d
  where
    three : (b c d : Bool) → (b && (c && d)) ≡ (b && c && d)
    three true c d = refl
    three false c d = refl
four false b c d = refl

pub near_delivery_lem : (z : Sizes) (d : Delivery) → near (limits_of z) d ≡ near_delivery z d
unfolding near
near_delivery_lem z d = four (ltb d.from z.tills) (ltb d.to z.tills) (ltb d.kind z.types) (ltb d.class z.classes)

pub copies_near_lem : (z : Sizes) (ws : List ℕ) (n : ℕ) → copies_near (limits_of z) ws n ≡ all_of (near_copy z) (rows_of waiting.form ws n)
unfolding copies_near
copies_near_lem z ws n = same_tests (λ (c : Copy). near (limits_of z) c.delivery) (near_copy z) (waiting.copies ws n) (λ c. near_delivery_lem z c.delivery)

and_true : (b : Bool) → b ≡ (b && true)
and_true true = refl
and_true false = refl

pub log_near_lem : (z : Sizes) (m : ℕ) (ws : List ℕ) → log_near (limits_of z) m ws ≡ (log.sound_log m ws && (all_of (near_delivery z) (log.records_of m ws) && true))
unfolding log_near
log_near_lem z m ws =
    ap (λ (b : Bool). log.sound_log m ws && b) (same_tests (near (limits_of z)) (near_delivery z) (log.records_of m ws) (near_delivery_lem z) ∙
    and_true (all_of (near_delivery z) (log.records_of m ws)))

-- two tests of every row are two scans
both_scans : {R : Type 0} (p q : R → Bool) (l : List R) → all_of (λ (r : R). p r && q r) l ≡ (all_of p l && (all_of q l && true))
both_scans p q [] = refl
both_scans p q (r ∷ rs) = ap (λ (b : Bool). (p r && q r) && b) (both_scans p q rs) ∙ mix (p r) (q r) (all_of p rs) (all_of q rs)
  where
    mix : (a b c d : Bool) → ((a && b) && (c && (d && true))) ≡ ((a && c) && ((b && d) && true))
    mix true true c d = refl
    mix true false true d = refl
    mix true false false d = refl
    mix false b c d = refl

pub rings_near_lem : (z : Sizes) (n : ℕ) (ws : List ℕ)
    → rings_near (limits_of z) n ws ≡ (all_of (λ r. sound_at rings.slots (rings.head_of r) ws) (below n) && (all_of (all_of (near_carried z)) (rings.all_rings n ws) && true))
unfolding rings_near ring_near near_entry
rings_near_lem z n ws =
    both_scans (λ r. sound_at rings.slots (rings.head_of r) ws) (λ r. all_of (near_carried z) (rings.entries n ws r)) (below n)
    ∙ ap (λ (b : Bool). all_of (λ r. sound_at rings.slots (rings.head_of r) ws) (below n) && (b && true))
    (alike n (λ r. all_of (near_carried z) (rings.entries n ws r)) (λ i. i) (all_of (near_carried z)) (rings.entries n ws) (λ i h. refl))

-- ---- Names

-- a column, byte by byte
module _ (ws : List ℕ) (start stride n limit : ℕ) where
  abbrev fits : ℕ → Bool
  fits c = leb c limit

  abbrev pub Within : ℕ → Type 0
  Within i = all_of fits (take i (column ws start stride n)) ≡ true

  pub byte_on : (i at : ℕ) → i < n → at ≡ start + i * stride → get_or ws at 0 ≤ limit → Within i → Within (i + 1)
  byte_on i at h e t p = goes_on fits (column ws start stride n) n (column_long ws start stride n) i (get_or ws at 0) true h (column_row ws start stride n i at h e)
      (sym (le-leb (get_or ws at 0) limit t)) refl p

  pub byte_off : (i at : ℕ) → i < n → at ≡ start + i * stride → limit < get_or ws at 0 → false ≡ column_within ws start stride n limit
  unfolding column_within
  byte_off i at h e t = stops fits (column ws start stride n) n (column_long ws start stride n) i (get_or ws at 0) false h (column_row ws start stride n i at h e)
      (sym (lt-leb (get_or ws at 0) limit t)) refl

  pub bytes_done : (i : ℕ) → n ≤ i → Within i → true ≡ column_within ws start stride n limit
  unfolding column_within
  bytes_done i h p = ends fits (column ws start stride n) n (column_long ws start stride n) i 0 h p

pub names_column : (ws : List ℕ) (n : ℕ) → column_within ws 0 (1 + longest_name) n longest_name ≡ all_of (λ k. leb (cell ws (name_at k)) longest_name) (below n)
unfolding column_within
names_column ws n =
    alike n (λ (c : ℕ). leb c longest_name) (λ i. get_or ws (0 + i * (1 + longest_name)) 0) (λ k. leb (cell ws (name_at k)) longest_name) (λ i. i)
    (λ i h. let e : 0 + i * (1 + longest_name) ≡ i * (1 + longest_name) = omega arith in ap (λ (k : ℕ). leb (get_or ws k 0) longest_name) e)

pub keys_column : (ws : List ℕ) (n : ℕ) → column_within ws (shard_at 0) (1 + longest_key) n longest_key ≡ all_of (λ k. leb (cell ws (shard_at k)) longest_key) (below n)
unfolding column_within
keys_column ws n =
    alike n (λ (c : ℕ). leb c longest_key) (λ i. get_or ws (shard_at 0 + i * (1 + longest_key)) 0) (λ k. leb (cell ws (shard_at k)) longest_key) (λ i. i)
    (λ i h. let e : shard_at 0 + i * (1 + longest_key) ≡ shard_at i = omega arith in ap (λ (k : ℕ). leb (get_or ws k 0) longest_key) e)

-- ---- Prices

pub regions_column : (ws : List ℕ) (start n r : ℕ) → 1 ≤ r → column_within ws start 1 n (r - 1) ≡ regions_below ws start n r
unfolding column_within regions_below
regions_column ws start n r h =
    alike n (λ (c : ℕ). leb c (r - 1)) (λ i. get_or ws (start + i * 1) 0) (λ t. ltb (cell ws (start + t)) r) (λ i. i)
    (λ i l. let e : start + i * 1 ≡ start + i = omega arith in ap (λ (k : ℕ). leb (get_or ws k 0) (r - 1)) e ∙ up (get_or ws (start + i) 0))
  where
    up : (x : ℕ) → leb x (r - 1) ≡ ltb x r
    up x = go (ltb x r) refl
      where
        go : (b : Bool) → ltb x r ≡ b → leb x (r - 1) ≡ b
        go true e = let q = ltb-true x r e in le-leb x (r - 1) (omega arith)
        go false e = let q = ltb-false x r e in lt-leb x (r - 1) (omega arith)

module _ (prices : List ℕ) (n : ℕ) where
  abbrev link : ℕ → Bool
  link i = link_admitted (link_in prices i)

  abbrev pub Linked : ℕ → Type 0
  Linked i = all_of link (take i (below n)) ≡ true

  pub link_on : (i : ℕ) (b : Bool) → i < n → b ≡ link_admitted (link_in prices i) → b ≡ true → Linked i → Linked (i + 1)
  link_on i b h e t p = goes_on link (below n) n (numbers_long n) i i b h (number_row n i i h) e t p

  pub link_off : (i : ℕ) (b : Bool) → i < n → b ≡ link_admitted (link_in prices i) → b ≡ false → false ≡ links_admitted prices n
  unfolding links_admitted
  link_off i b h e t = stops link (below n) n (numbers_long n) i i b h (number_row n i i h) e t

  pub links_done : (i : ℕ) → n ≤ i → Linked i → true ≡ links_admitted prices n
  unfolding links_admitted
  links_done i h p = ends link (below n) n (numbers_long n) i 0 h p

-- a square of regions
pub square : (r : ℕ) → r ≤ 16 → r * r ≤ 256
square r h = mul-le-mul h h

-- question 1 of prices, by whether there is a plan
module _ (setup prices : List ℕ) where
  abbrev plan : Plan
  plan = (settings_at setup).plan

  abbrev tills : ℕ
  tills = (sizes_at setup).tills

  abbrev rest : Bool
  rest = all_of (λ i. link_admitted (link_in prices i)) (below (at_least_one plan.regions * at_least_one plan.regions)) &&
      all_of (λ t. ltb (region_at plan prices t) (at_least_one plan.regions)) (below tills)

  abbrev by : Bool → Bool
  by b = eqb (length prices) (cond b 0 (pair_cells plan + tills)) && (cond b true rest && true)

  pub no_plan : plan.planned ≡ 0 → eqb (length prices) 0 ≡ prices_held setup prices
  unfolding prices_held
  no_plan e = and_true (eqb (length prices) 0) ∙ sym (ap by (eq-eqb plan.planned 0 e))

  pub by_plan : (plan.planned ≡ 0 → ⊥) → plan_held prices (at_least_one plan.regions) tills ≡ prices_held setup prices
  unfolding prices_held plan_held links_admitted regions_below
  by_plan f = ap (λ (b : Bool). eqb (length prices) (pair_cells plan + tills) && b) (and_true rest) ∙ sym (ap by (ne_eqb plan.planned 0 f))
