-- A mark that goes: the cells of the table, its length, and counts that stay within the slots. Assumes nothing.
use mathlib.Core.Path.{◌≡◌, sym, ap}
use mathlib.Core.Bool.{Bool, true, false, cond, not}
use mathlib.Core.List.{List}
use Prim.Native.Nat.{ℕ, ◌+◌, ◌*◌, ◌≤◌, ◌<◌}
use native.Mathlib.Omega.{arith}
use lib.ListN.{length, set}
use borrow.Author.Tests.{eq-eqb, ne_eqb}
use Rattle.table_shift.specs.Shift.{put_words}
use Rattle.table_marks.specs.Marks.{ids_of, removed}
use Rattle.table_marks.proofs.Search.{length_ids}
use Rattle.table_marks.proofs.Ordered.{length_removed}
use Rattle.table_marks.proofs.Tills.{places_end, after_length, counts_within}
use Rattle.table_waiting.specs.declared.Copy.{Copy}
use Rattle.spec_network.specs.Live.{is_original}
use Rattle.spec_network.specs.Tables.{cell}
use Rattle.call_flush_pass.specs.Pass.{unmarked, cleared_one, SeenRoom}

module _ (tills slots : ℕ) (seen : List ℕ) (f : SeenRoom tills slots seen) (t id : ℕ) (h : t < tills) where
  abbrev ids : List ℕ
  ids = removed id (ids_of seen (tills + t * slots) (cell seen t))

  pub ids_room : tills + t * slots + cell seen t ≤ length seen
  ids_room = omega (arith, places_end tills slots t h, f.size, f.counts t h)

  few : length ids ≤ slots
  few = omega (arith, length_removed id (ids_of seen (tills + t * slots) (cell seen t)), length_ids seen (tills + t * slots) (cell seen t) id ids_room, f.counts t h)

  pub unmark_made : (l : List ℕ) (left : ℕ) → l ≡ put_words seen (tills + t * slots) ids → left ≡ length ids → set l t left ≡ unmarked tills slots t id seen
  unfolding unmarked
  unmark_made l left e n = λ j. set (e j) t (n j)

  unmark_room : SeenRoom tills slots (unmarked tills slots t id seen)
  unfolding unmarked
  unmark_room = record {
    size = omega (arith, f.size, after_length tills slots seen f.size t ids h few);
    counts = counts_within tills slots seen f.size t ids h few f.counts;
  }

-- an echo has no mark
module _ (tills slots : ℕ) (c : Copy) (seen : List ℕ) where
  pub echo_kept : c.original ≡ 0 → seen ≡ cleared_one tills slots c seen
  unfolding cleared_one
  echo_kept e = sym (ap (λ (b : Bool). cond (not b) (unmarked tills slots c.delivery.to c.id seen) seen) (eq-eqb c.original 0 e))

  pub original_cleared : (c.original ≡ 0 → ⊥) → unmarked tills slots c.delivery.to c.id seen ≡ cleared_one tills slots c seen
  unfolding cleared_one
  original_cleared e = sym (ap (λ (b : Bool). cond (not b) (unmarked tills slots c.delivery.to c.id seen) seen) (ne_eqb c.original 0 e))

  pub cleared_room : SeenRoom tills slots seen → c.delivery.to < tills → SeenRoom tills slots (cleared_one tills slots c seen)
  unfolding cleared_one
  cleared_room f h = go (is_original c)
    where
      go : (b : Bool) → SeenRoom tills slots (cond b (unmarked tills slots c.delivery.to c.id seen) seen)
      go true = unmark_room tills slots seen f c.delivery.to c.id h
      go false = f
