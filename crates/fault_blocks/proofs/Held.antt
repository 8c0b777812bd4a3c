-- From tables to lists: the windows that a table holds after each write, and its length.
use mathlib.Core.Path.{◌≡◌, refl, sym, ap, ◌∙◌}
use mathlib.Core.Bool.{Bool, true, false, cond, not, ◌&&◌, ◌||◌}
use mathlib.Core.List.{List, [], ◌∷◌, ◌++◌}
use Prim.Native.Nat.{ℕ, ◌+◌, ◌*◌, ◌≤◌, ◌<◌}
use native.Mathlib.Omega.{arith}
use lib.Dec.{ltb}
use lib.ListN.{length}
use borrow.Author.Tests.{lt-ltb, ltb-true}
use Rattle.fault_rule.specs.Rule.{holds}
use Rattle.fault_rule.proofs.Laws.{yes}
use Rattle.table_rows.specs.Rows.{pick}
use Rattle.table_rows.proofs.Rows.{rows_snoc, rows_kept}
use Rattle.table_shift.specs.Shift.{put_words}
use Rattle.fault_blocks.specs.declared.BlockWindow.{BlockWindow}
use Rattle.fault_blocks.specs.Blocks.{
  block_width,
  block_slots,
  words,
  put_at,
  first_block,
  blocks_of,
  window_of,
  joins,
  stops,
  blocked,
  other,
  unblocked,
  block_number,
  block_table,
  open_count,
  unblock_table,
}
use Rattle.fault_blocks.proofs.Laws.{alone, long, back}

-- a window that is accepted has a place
room : (n : ℕ) (b : Bool) → ltb n block_slots ≡ b → ◌≡◌ {A = ℕ} (cond b 0 12) 0 → n < block_slots
room n true e h = ltb-true n block_slots e
room n false e h = absurd (omega arith)

pub block_room : (n : ℕ) → block_number n ≡ 0 → n < block_slots
unfolding block_number
block_room n h = room n (ltb n block_slots) refl h

-- an accepted window stands last
pub blocks_added : (ws : List ℕ) (n : ℕ) (e : BlockWindow) → block_slots * block_width ≤ length ws → block_number n ≡ 0 → blocks_of (block_table ws n e) (n + 1) ≡ blocks_of ws n ++ (e ∷ [])
unfolding block_table put_at put_words
blocks_added ws n e r z =
    let h = block_room n z in
    ap (λ (l : List ℕ). blocks_of l (n + 1)) (sym (yes _ _ _ _ (lt-ltb n block_slots h) refl)) ∙ rows_snoc block_width first_block alone ws (words e) n refl (omega (arith, h))

-- a refusal leaves the table as found
full : (ws : List ℕ) (n : ℕ) (e : BlockWindow) (b : Bool) → ltb n block_slots ≡ b → (◌≡◌ {A = ℕ} (cond b 0 12) 0 → ⊥) → ws ≡ cond b (put_at ws (n * block_width) e) ws
full ws n e true q h = absurd (h refl)
full ws n e false q h = refl

pub block_refused : (ws : List ℕ) (n : ℕ) (e : BlockWindow) → (block_number n ≡ 0 → ⊥) → ws ≡ block_table ws n e
unfolding block_table block_number
block_refused ws n e h = full ws n e (ltb n block_slots) refl h

-- every window of the pair is gone, the others stay in order
pub blocks_unblocked : (from to : ℕ) (ws : List ℕ) (n : ℕ) → blocks_of (unblock_table from to ws n) (open_count from to ws n) ≡ unblocked from to (blocks_of ws n)
unfolding unblock_table open_count
blocks_unblocked from to ws n = rows_kept block_width first_block words (other from to) long back ws n

-- after an unblock the pair is blocked at no time, whatever windows it had
none_step : (from to at : ℕ) (e : BlockWindow) (l : List BlockWindow) (b : Bool) → joins from to e ≡ b → blocked from to at l ≡ false → blocked from to at (pick (not b) (e ∷ l) l) ≡ false
unfolding blocked stops
none_step from to at e l true h k = k
none_step from to at e l false h k = ap (λ (b : Bool). (b && holds (window_of e) at) || blocked from to at l) h ∙ k

pub unblock_opens : (from to at : ℕ) (es : List BlockWindow) → blocked from to at (unblocked from to es) ≡ false
unfolding blocked
unblock_opens from to at [] = refl
unblock_opens from to at (e ∷ es) = none_step from to at e (unblocked from to es) (joins from to e) refl (unblock_opens from to at es)
