-- The ladders of the block calls' questions, and what a passed ladder says.
use mathlib.Core.Path.{◌≡◌, refl, sym, ◌∙◌}
use mathlib.Core.Bool.{Bool, true, false, cond}
use mathlib.Core.List.{List}
use Prim.Native.Nat.{ℕ, max, ◌*◌, ◌≤◌, ◌<◌}
use native.Mathlib.Omega.{arith}
use lib.Dec.{ltb}
use lib.ListN.{length}
use borrow.Author.Tests.{lt-ltb, le-ltb, le-leb, lt-leb}
use Rattle.fault_rule.specs.declared.TimeWindow.TheVariants.{During}
use Rattle.fault_rule.specs.Rule.{forward}
use Rattle.fault_blocks.specs.Blocks.{block_width, block_slots, block_number}
use Rattle.spec_network.specs.Opening.{latest_now}
use Rattle.spec_network.specs.Tables.{cell, sizes_at, setup_width, net_width, blocks_at}
use Rattle.ask_tables.proofs.Ladder.{yes, no, both, only}
use Rattle.ask_tables.proofs.Passed.{PassedSetup, PassedNet, setup_says_lem, net_says_lem}
use Rattle.ask_tables.proofs.PassedRows.{PassedBlocks, blocks_say_lem}
use Rattle.ask_block.specs.Questions.{blocks_lent, pair_number, free_number, window_number, during_number, now_number}

-- ---- What question 1, answered "yes", says

pub record Passed (s n b : List ℕ) : Type 0 where
  pub setup : length s ≡ setup_width
  pub net : length n ≡ net_width
  pub count : cell n blocks_at ≤ block_slots
  pub blocks : length b ≡ block_slots * block_width

-- a ladder of two that ends in 0
both_passed : (x y : Bool) (rest : ℕ) → cond x (cond y rest 4) 1 ≡ 0 → (x ≡ true) × (y ≡ true) × (rest ≡ 0)
both_passed true true rest h = (refl, refl, h)
both_passed true false rest h = absurd (omega arith)
both_passed false y rest h = absurd (omega arith)

pub passed : (s n b : List ℕ) (from to rest : ℕ) → pair_number s n b from to rest ≡ 0 → Passed s n b × (rest ≡ 0)
unfolding pair_number blocks_lent
passed s n b from to rest h =
    let q = both_passed (blocks_lent s n b) (ltb (max from to) (sizes_at s).tills) rest h in
    let q1 = both _ _ q.0 in
    let q2 = both _ _ q1.1 in
    let z : PassedBlocks s n b = blocks_say_lem s n b (only _ q2.1) in
    let x : PassedSetup s = setup_says_lem s q1.0 in
    let y : PassedNet s n = net_says_lem s n q2.0 in
    (record { setup = x.size; net = y.size; count = y.blocks; blocks = z.size }, q.2)

-- ---- The ladders

module _ (s n b : List ℕ) (from to rest : ℕ) where
  pub not_lent : blocks_lent s n b ≡ false → 1 ≡ pair_number s n b from to rest
  unfolding pair_number
  not_lent h = no _ _ _ _ h refl

  pub not_near : blocks_lent s n b ≡ true → (tills : ℕ) → tills ≡ cell s 0 → tills ≤ max from to → 4 ≡ pair_number s n b from to rest
  unfolding pair_number
  not_near h tills e k = yes _ _ _ _ h (no _ _ _ _ (le-ltb (max from to) (cell s 0) (omega (arith, k, e))) refl)

  pub near : blocks_lent s n b ≡ true → (tills : ℕ) → tills ≡ cell s 0 → from < tills → to < tills → rest ≡ pair_number s n b from to rest
  unfolding pair_number
  near h tills e f t = yes _ _ _ _ h (yes _ _ _ _ (lt-ltb (max from to) (cell s 0) (omega (arith, f, t, e))) refl)

  -- what the first two questions refuse, whatever follows
  pub refused_first : (r : ℕ) → r ≡ pair_number s n b from to 0 → (r ≡ 0 → ⊥) → r ≡ pair_number s n b from to rest
  unfolding pair_number
  refused_first r e h = go (blocks_lent s n b) (ltb (max from to) (sizes_at s).tills) e
    where
      go : (x y : Bool) → r ≡ cond x (cond y 0 4) 1 → r ≡ cond x (cond y rest 4) 1
      go true true e = absurd (h e)
      go true false e = e
      go false y e = e

  pub passed_first : (r : ℕ) → r ≡ pair_number s n b from to 0 → r ≡ 0 → rest ≡ pair_number s n b from to rest
  unfolding pair_number
  passed_first r e h =
      let q = both_passed (blocks_lent s n b) (ltb (max from to) (sizes_at s).tills) 0 (sym e ∙ h) in
      yes _ _ _ _ q.0 (yes _ _ _ _ q.1 refl)

pub full : (n : List ℕ) (k : ℕ) → k ≡ cell n blocks_at → block_slots ≤ k → 12 ≡ free_number n
unfolding block_number
full n k e h = no _ _ _ _ (le-ltb (cell n blocks_at) block_slots (omega (arith, h, e))) refl

pub free : (n : List ℕ) (k : ℕ) → k ≡ cell n blocks_at → k < block_slots → 0 ≡ free_number n
unfolding block_number
free n k e h = yes _ _ _ _ (lt-ltb (cell n blocks_at) block_slots (omega (arith, h, e))) refl

pub is_forward : (start end : ℕ) (b : Bool) → b ≡ forward (During start end) → b ≡ true → 0 ≡ window_number start end
unfolding window_number
is_forward start end b e h = yes _ _ _ _ (sym e ∙ h) refl

pub is_turned : (start end : ℕ) (b : Bool) → b ≡ forward (During start end) → b ≡ false → 18 ≡ window_number start end
unfolding window_number
is_turned start end b e h = no _ _ _ _ (sym e ∙ h) refl

-- what the questions before 18 refuse, and what it answers where they do not
module _ (s n b : List ℕ) (from to start end r : ℕ) (e : r ≡ pair_number s n b from to (free_number n)) where
  pub refused_before : (r ≡ 0 → ⊥) → r ≡ pair_number s n b from to (during_number n start end)
  unfolding pair_number block_number during_number
  refused_before h = go (blocks_lent s n b) (ltb (max from to) (sizes_at s).tills) (ltb (cell n blocks_at) block_slots) e
    where
      go : (x y z : Bool) → r ≡ cond x (cond y (cond z 0 12) 4) 1 → r ≡ cond x (cond y (cond z (window_number start end) 12) 4) 1
      go true true true e = absurd (h e)
      go true true false e = e
      go true false z e = e
      go false y z e = e

  pub asked_window : r ≡ 0 → (w : ℕ) → w ≡ window_number start end → w ≡ pair_number s n b from to (during_number n start end)
  unfolding pair_number block_number during_number
  asked_window h w k = go (blocks_lent s n b) (ltb (max from to) (sizes_at s).tills) (ltb (cell n blocks_at) block_slots) (sym e ∙ h)
    where
      go : (x y z : Bool) → ◌≡◌ {A = ℕ} (cond x (cond y (cond z 0 12) 4) 1) 0 → w ≡ cond x (cond y (cond z (window_number start end) 12) 4) 1
      go true true true q = k
      go true true false q = absurd (omega arith)
      go true false z q = absurd (omega arith)
      go false y z q = absurd (omega arith)

pub too_late : (at : ℕ) → latest_now < at → 7 ≡ now_number at
unfolding now_number
too_late at h = no _ _ _ _ (lt-leb at latest_now h) refl

pub in_time : (at : ℕ) → at ≤ latest_now → 0 ≡ now_number at
unfolding now_number
in_time at h = yes _ _ _ _ (le-leb at latest_now h) refl
