-- The ways through the block calls: the numbers of their questions, and the two ways of each call.
use mathlib.Core.Path.{◌≡◌, refl, sym, ap, ◌∙◌}
use mathlib.Core.Bool.{Bool, cond}
use Rattle.std.specs.Prelude.{Result, Ok, Err, IsOk}
use native.Mathlib.Omega.{arith}
use mathlib.Core.List.{List}
use Prim.Native.Nat.{ℕ, suc, ◌+◌}
use native.Mathlib.Numerals.{add-one}
use lib.Dec.{ltb}
use lib.ListN.{length, set}
use Rattle.table_rows.proofs.Rows.{length_rows}
use Rattle.fault_blocks.specs.Blocks.{block_width, block_slots, first_block, blocks_of, blocked, always, during, number_in, block_number, block_table, open_count, unblock_table}
use Rattle.fault_blocks.specs.declared.BlockWindow.{BlockWindow}
use Rattle.fault_blocks.specs.declared.Full.{Full}
use Rattle.spec_network.specs.Lists.{bit}
use Rattle.spec_network.specs.Calls.{Call, block, block_during, unblock, reading, is_blocked, number}
use Rattle.spec_network.specs.Tables.{Tables, cell, blocks_at}
use Rattle.spec_network.specs.Real.{opening_at}
use Rattle.spec_network.specs.Lending.{lend_blocks}
use Rattle.spec_network.specs.Writes.{call_reply, step_t}
use Rattle.ask_tables.specs.Held.{setup_held, net_held, blocks_held}
use Rattle.ask_tables.proofs.Ladder.{yes, under}
use Rattle.call_reply.specs.declared.Value.{Value}
use Rattle.call_reply.specs.Reply.{refused_by, answered_by}
use Rattle.call_reply.proofs.Laws as reply
use Rattle.ask_block.specs.Questions.{blocks_lent, pair_number, free_number, window_number, during_number, now_number}
use Rattle.call_block.specs.Calls.{Changes, DoesIsBlocked}

-- ---- The numbers of the calls

module _ (T : Tables) (s n b : List ℕ) (from to : ℕ) where
  unblock_number : pair_number s n b from to 0 ≡ (call_reply (lend_blocks T s n b) (unblock from to)).number
  unfolding pair_number blocks_lent setup_held net_held blocks_held
  unblock_number = refl

  counted : free_number n ≡ cond (ltb (length (blocks_of b (cell n blocks_at))) block_slots) 0 12
  unfolding block_number
  counted = ap (λ (k : ℕ). cond (ltb k block_slots) 0 12) (sym (length_rows block_width first_block (cell n blocks_at) b))

  block_number_lem : pair_number s n b from to (free_number n) ≡ (call_reply (lend_blocks T s n b) (block from to)).number
  unfolding pair_number blocks_lent setup_held net_held blocks_held
  block_number_lem = ap (pair_number s n b from to) counted

  during_number_lem : (start end : ℕ) → pair_number s n b from to (during_number n start end) ≡ (call_reply (lend_blocks T s n b) (block_during from to start end)).number
  unfolding pair_number during_number window_number blocks_lent setup_held net_held blocks_held
  during_number_lem start end =
      ap (λ (k : ℕ). pair_number s n b from to (cond (ltb k block_slots) (window_number start end) 12)) (sym (length_rows block_width first_block (cell n blocks_at) b))

  ask_number : (at : ℕ) → pair_number s n b from to (now_number at) ≡ (call_reply (lend_blocks T s n b) (reading (is_blocked from to at))).number
  unfolding pair_number now_number blocks_lent setup_held net_held blocks_held
  ask_number at = refl

-- a window that the questions let through stands
pub stands : {T : Type 0} (r : Result T Full) → (n : List ℕ) → number_in r ≡ block_number (cell n blocks_at) → free_number n ≡ 0 → IsOk r
stands (Ok v) n e h = refl
stands (Err f) n e h = absurd (omega (arith, e, h))

pub during_free : (n : List ℕ) (start end : ℕ) → during_number n start end ≡ 0 → free_number n ≡ 0
unfolding during_number block_number
during_free n start end h = sym (yes _ _ _ _ (under (ltb (cell n blocks_at) block_slots) (window_number start end) 11 h).0 refl)

-- ---- The ways through a call that writes

module _ (c : Call) (s n b : List ℕ) (r N : ℕ) (e : r ≡ N) (same : (T : Tables) → N ≡ (call_reply (lend_blocks T s n b) c).number) where
  refused_by_lem : (r ≡ 0 → ⊥) → Changes s n b n b c (record { number = r })
  unfolding Changes
  refused_by_lem h = λ T. (reply.done_refused (lend_blocks T s n b) c r (e ∙ same T) h, reply.stays (lend_blocks T s n b) c r (e ∙ same T) h)

  changed_by : r ≡ 0 → (n' b' : List ℕ) → ((T : Tables) → step_t (opening_at (lend_blocks T s n b)) (lend_blocks T s n b) c ≡ lend_blocks T s n' b') → Changes s n b n' b' c (record { number = 0 })
  unfolding Changes
  changed_by h n' b' step = λ T. (reply.done (lend_blocks T s n b) c r (e ∙ same T) h, reply.steps (lend_blocks T s n b) c r (e ∙ same T) h ∙ step T)

module _ (s n b : List ℕ) (from to r : ℕ) where
  pub block_refused : r ≡ pair_number s n b from to (free_number n) → (r ≡ 0 → ⊥) → Changes s n b n b (block from to) (record { number = r })
  block_refused e h = refused_by_lem (block from to) s n b r _ e (λ T. block_number_lem T s n b from to) h

  pub during_refused : (start end : ℕ) → r ≡ pair_number s n b from to (during_number n start end) → (r ≡ 0 → ⊥) → Changes s n b n b (block_during from to start end) (record { number = r })
  during_refused start end e h = refused_by_lem (block_during from to start end) s n b r _ e (λ T. during_number_lem T s n b from to start end) h

  pub unblock_refused : r ≡ pair_number s n b from to 0 → (r ≡ 0 → ⊥) → Changes s n b n b (unblock from to) (record { number = r })
  unblock_refused e h = refused_by_lem (unblock from to) s n b r _ e (λ T. unblock_number T s n b from to) h

  module _ (k : ℕ) (k-is : k ≡ cell n blocks_at) (n' b' : List ℕ) where
    -- the tables with one window more
    added : (w : BlockWindow) (T : Tables) → n' ≡ set n blocks_at (k + 1) → b' ≡ block_table b k w
        → lend_blocks T s (set n blocks_at (suc (cell n blocks_at))) (block_table b (cell n blocks_at) w) ≡ lend_blocks T s n' b'
    added w T p q = rw (p, q, add-one k, k-is)

    pub block_done : r ≡ pair_number s n b from to (free_number n) → r ≡ 0 → n' ≡ set n blocks_at (k + 1) → b' ≡ block_table b k (always from to)
        → Changes s n b n' b' (block from to) (record { number = 0 })
    block_done e h p q = changed_by (block from to) s n b r _ e (λ T. block_number_lem T s n b from to) h n' b' (λ T. added (always from to) T p q)

    pub during_done : (start end : ℕ) → r ≡ pair_number s n b from to (during_number n start end) → r ≡ 0 → n' ≡ set n blocks_at (k + 1) → b' ≡ block_table b k (during from to start end)
        → Changes s n b n' b' (block_during from to start end) (record { number = 0 })
    during_done start end e h p q =
        changed_by (block_during from to start end) s n b r _ e (λ T. during_number_lem T s n b from to start end) h n' b' (λ T. added (during from to start end) T p q)

    gone : (T : Tables) → n' ≡ set n blocks_at (open_count from to b k) → b' ≡ unblock_table from to b k
        → lend_blocks T s (set n blocks_at (open_count from to b (cell n blocks_at))) (unblock_table from to b (cell n blocks_at)) ≡ lend_blocks T s n' b'
    gone T p q = rw (p, q, k-is)

    pub unblock_done : r ≡ pair_number s n b from to 0 → r ≡ 0 → n' ≡ set n blocks_at (open_count from to b k) → b' ≡ unblock_table from to b k
        → Changes s n b n' b' (unblock from to) (record { number = 0 })
    unblock_done e h p q = changed_by (unblock from to) s n b r _ e (λ T. unblock_number T s n b from to) h n' b' (λ T. gone T p q)

-- ---- The ways through `is_blocked`

module _ (s n b : List ℕ) (from to at r : ℕ) (e : r ≡ pair_number s n b from to (now_number at)) where
  pub ask_refused : (v : Value) → v ≡ refused_by r → (r ≡ 0 → ⊥) → DoesIsBlocked s n b from to at v
  unfolding DoesIsBlocked
  ask_refused v q h = λ T.
      let same = e ∙ ask_number T s n b from to at in
      (q ∙ reply.value_refused (lend_blocks T s n b) (reading (is_blocked from to at)) r same h, reply.stays (lend_blocks T s n b) (reading (is_blocked from to at)) r same h)

  pub ask_done : r ≡ 0 → (k : ℕ) → k ≡ cell n blocks_at → (a t : Bool) → a ≡ blocked from to at (blocks_of b k) → a ≡ t → (v : Value) → v ≡ answered_by (bit t) → DoesIsBlocked s n b from to at v
  unfolding DoesIsBlocked
  ask_done h k k-is a t p q v v-is = λ T.
      let same = e ∙ ask_number T s n b from to at in
      let here : blocked from to at (blocks_of b (cell n blocks_at)) ≡ t = ap (λ (j : ℕ). blocked from to at (blocks_of b j)) (sym k-is) ∙ sym p ∙ q in (
        v-is ∙ reply.value (lend_blocks T s n b) (reading (is_blocked from to at)) r same h 1 (bit t) (ap (λ (x : Bool). number 1 (bit x)) here),
        reply.steps (lend_blocks T s n b) (reading (is_blocked from to at)) r same h,
      )
