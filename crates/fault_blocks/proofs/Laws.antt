-- The block table against the list of windows that it holds: rows, tests, the search, and the loop of `unblock`.
use mathlib.Core.Path.{◌≡◌, refl, sym, ap, ◌∙◌}
use mathlib.Core.Bool.{Bool, true, false, not, ◌||◌}
use mathlib.Core.List.{List, [], ◌∷◌, ◌++◌}
use Prim.Native.Nat.{ℕ, ◌+◌, ◌*◌, ◌-◌, ◌≤◌, ◌<◌}
use native.Mathlib.Omega.{arith}
use lib.Dec.{lit<}
use lib.ListN.{length, get_or, take, drop, length-append, get_or-append}
use borrow.Author.Tests.{lt-ltb, le-ltb}
use Rattle.fault_rule.proofs.Laws.{yes, no}
use Rattle.table_rows.specs.Rows.{keep}
use Rattle.table_rows.proofs.Rows.{rows_next, rows_end_lem, rows_first, kept_first, kept_read, kept_skip, kept_take, kept_same, kept_more}
use Rattle.table_shift.specs.Shift.{put_words}
use Rattle.fault_blocks.specs.declared.BlockWindow.{BlockWindow}
use Rattle.fault_blocks.specs.Blocks.{block_width, block_slots, words, put_at, first_block, blocks_of, joins, stops, blocked, other, block_number, block_table, open_count, unblock_table}

-- ---- a row is its words
block_of : (ℕ → ℕ) → BlockWindow
block_of f = record { from = f 0; to = f 1; bounded = f 2; start = f 3; end = f 4 }

ext : (f g : ℕ → ℕ) → ((k : ℕ) → k < block_width → f k ≡ g k) → block_of f ≡ block_of g
unfolding block_of
ext f g h = rw (h 0 (lit< tt), h 1 (lit< tt), h 2 (lit< tt), h 3 (lit< tt), h 4 (lit< tt))

-- only the first words count
pub alone : (l m : List ℕ) → block_width ≤ length l → first_block (l ++ m) ≡ first_block l
unfolding block_of
alone l m h = ext (λ k. get_or (l ++ m) k 0) (λ k. get_or l k 0) (λ k q. get_or-append l m 0 k (omega arith))

-- ---- the search for a block
module _ (from to at : ℕ) (ws : List ℕ) (n : ℕ) where
  pub blocked_first : blocked from to at (blocks_of ws n) ≡ blocked from to at (blocks_of (drop (0 * block_width) ws) (n - 0))
  blocked_first = sym (ap (blocked from to at) (rows_first block_width first_block ws n))

  module _ (i : ℕ) (h : i < n) (e : BlockWindow) (b : Bool) (there : e ≡ first_block (drop (i * block_width) ws)) (test : b ≡ stops from to at e) where
    next : blocked from to at (blocks_of (drop (i * block_width) ws) (n - i)) ≡ b || blocked from to at (blocks_of (drop ((i + 1) * block_width) ws) (n - (i + 1)))
    unfolding blocked
    next =
        ap (blocked from to at) (rows_next block_width first_block ws n i h)
        ∙ ap (λ (x : Bool). x || blocked from to at (blocks_of (drop ((i + 1) * block_width) ws) (n - (i + 1))))
        (ap (stops from to at) (sym there) ∙ sym test)

    pub blocked_here : b ≡ true → true ≡ blocked from to at (blocks_of (drop (i * block_width) ws) (n - i))
    blocked_here t = sym (next ∙ ap (λ (x : Bool). x || blocked from to at (blocks_of (drop ((i + 1) * block_width) ws) (n - (i + 1)))) t)

    pub blocked_more : b ≡ false → blocked from to at (blocks_of (drop (i * block_width) ws) (n - i)) ≡ blocked from to at (blocks_of (drop ((i + 1) * block_width) ws) (n - (i + 1)))
    blocked_more t = next ∙ ap (λ (x : Bool). x || blocked from to at (blocks_of (drop ((i + 1) * block_width) ws) (n - (i + 1)))) t

  pub blocked_end : (i : ℕ) → n ≤ i → false ≡ blocked from to at (blocks_of (drop (i * block_width) ws) (n - i))
  unfolding blocked
  blocked_end i h = ap (blocked from to at) (sym (rows_end_lem block_width first_block ws n i h))

-- ---- the ways through `add`
pub add_full : (ws : List ℕ) (n : ℕ) (e : BlockWindow) → block_slots ≤ n → (12 ≡ block_number n) × (ws ≡ block_table ws n e)
unfolding block_number block_table
add_full ws n e h = let q = le-ltb n block_slots h in (no _ _ _ _ q refl, no _ _ _ _ q refl)

pub add_done : (ws after : List ℕ) (n : ℕ) (e : BlockWindow) → n < block_slots → after ≡ put_words ws (n * block_width) (words e) → (0 ≡ block_number n) × (after ≡ block_table ws n e)
unfolding block_number block_table put_at
add_done ws after n e h p = let q = lt-ltb n block_slots h in (yes _ _ _ _ q refl, yes _ _ _ _ q p)

-- ---- `unblock` at block i, k of those before it left
pub long : (e : BlockWindow) → length (words e) ≡ block_width
long e = refl

pub back : (e : BlockWindow) (m : List ℕ) → first_block (words e ++ m) ≡ e
back e m = refl

pub record Moved (from to n : ℕ) (ws : List ℕ) (i k : ℕ) (now : List ℕ) : Type 0 where
  pub within : i ≤ n
  pub behind : k ≤ i
  pub same : length now ≡ length ws
  pub count : k ≡ open_count from to ws i
  pub cells : now ≡ unblock_table from to ws i

module _ (from to n : ℕ) (ws : List ℕ) where
  pub begin : Moved from to n ws 0 0 ws
  unfolding open_count unblock_table
  begin = record { within = omega arith; behind = omega arith; same = refl; count = refl; cells = sym (kept_first block_width first_block words (other from to) long back ws) }

  module _ (i k : ℕ) (now : List ℕ) (h : i < n) (m : Moved from to n ws i k now) (e : BlockWindow) (b : Bool) (there : e ≡ first_block (drop (i * block_width) now)) (test : b ≡ joins from to e) where
    reads : e ≡ first_block (drop (i * block_width) ws)
    unfolding unblock_table
    reads = there ∙ ap first_block (ap (drop (i * block_width)) m.cells ∙ kept_read block_width first_block words (other from to) long back ws i)

    keeps : (t : Bool) → b ≡ t → other from to (first_block (drop (i * block_width) ws)) ≡ not t
    keeps t x = ap (other from to) (sym reads) ∙ ap not (sym test ∙ x)

    pub skip : b ≡ true → Moved from to n ws (i + 1) k now
    unfolding open_count unblock_table
    skip t =
        let no-keep = keeps true t in
        record {
          within = omega arith;
          behind = omega (arith, m.behind);
          same = m.same;
          count = m.count ∙ ap length (sym (kept_skip block_width first_block words (other from to) long back ws i no-keep));
          cells = m.cells ∙ kept_same block_width first_block words (other from to) long back ws i no-keep;
        }

    pub move : (after : List ℕ) → b ≡ false → length after ≡ length now → after ≡ put_words now (k * block_width) (words e) → Moved from to n ws (i + 1) (k + 1) after
    unfolding open_count unblock_table put_words
    move after t l p =
        let keep-it = keeps false t in
        record {
          within = omega arith;
          behind = omega (arith, m.behind);
          same = l ∙ m.same;
          count = ap (λ (x : ℕ). x + 1) m.count
              ∙ sym (ap length (kept_take block_width first_block words (other from to) long back ws i keep-it) ∙
              length-append (keep (other from to) (blocks_of ws i)) (first_block (drop (i * block_width) ws) ∷ []));
          cells = p ∙ ap (λ (x : List ℕ). take (k * block_width) x ++ (words e ++ drop (k * block_width + block_width) x)) m.cells
              ∙ kept_more block_width first_block words (other from to) long back ws i k e m.count reads (ap (other from to) reads ∙ keep-it);
        }

  pub finish : (i k : ℕ) (now : List ℕ) → n ≤ i → Moved from to n ws i k now → (k ≡ open_count from to ws n) × (now ≡ unblock_table from to ws n)
  finish i k now h m = let e : i ≡ n = omega (arith, m.within) in (rw e at m.count, rw e at m.cells)
