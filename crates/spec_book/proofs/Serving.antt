-- Document 01, 'The book', Flush: what a flush serves and what waits on are the waiting copies in two parts. Every proof of a flush goes by these laws.
use mathlib.Core.Path.{◌≡◌, subst}
use Prim.Native.Nat.{ℕ, suc, ◌+◌, ◌≤◌}
use native.Mathlib.Omega.{arith}
use native.Mathlib.Nat.{le_refl}
use mathlib.Core.Bool.{Bool, true, false, cond}
use mathlib.Core.List.{List, [], ◌∷◌}
use lib.ListN.{length}
use Rattle.table_rows.specs.Lists.{Each, front, behind}
use Rattle.table_rows.proofs.Lists.{drop_front}
use Rattle.table_waiting.specs.declared.Copy.{Copy}
use Rattle.table_waiting.specs.Waiting.{on_time, Sorted}
use Rattle.table_waiting.proofs.Order.{sorted_drop}
use Rattle.spec_network.specs.Lists.{count}
use Rattle.spec_network.specs.Layout.{Layout}
use Rattle.spec_network.specs.Live.{LiveBy}
use Rattle.spec_network.specs.Flush.{served, later}
use Rattle.spec_book.proofs.Each.{each_front, each_behind}
use Rattle.spec_book.proofs.Counting.{count_split}

length_behind : (q : Copy → Bool) (l : List Copy) → length (behind q l) ≤ length l
length_behind q [] = le_refl _
length_behind q (c ∷ l) = go (q c) (length_behind q l)
  where
    go : (b : Bool) → length (behind q l) ≤ length l → length (cond b (behind q l) (c ∷ l)) ≤ suc (length l)
    go true h = omega arith
    go false h = omega arith

module _ {k : Layout} (now rows : ℕ) (s : LiveBy k) where
  pub served_each : (P : Copy → Type 0) → Each P s.queue.waiting → Each P (served now rows s)
  served_each P e = each_front P (on_time now) s.queue.waiting e

  pub later_each : (P : Copy → Type 0) → Each P s.queue.waiting → Each P (later now rows s)
  later_each P e = each_behind P (on_time now) s.queue.waiting e

  pub later_short : length (later now rows s) ≤ length s.queue.waiting
  later_short = length_behind (on_time now) s.queue.waiting

  pub later_sorted : Sorted s.queue.waiting → Sorted (later now rows s)
  later_sorted h = subst Sorted (drop_front (on_time now) s.queue.waiting) (sorted_drop (length (front (on_time now) s.queue.waiting)) s.queue.waiting h)

  -- each copy once: served, or waiting on
  pub served_count : (p : Copy → Bool) → count p (served now rows s) + count p (later now rows s) ≡ count p s.queue.waiting
  served_count p = count_split p (on_time now) s.queue.waiting
