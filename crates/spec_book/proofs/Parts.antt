-- A cell of `net`, a row, the marks of a till anew: what is read afterwards.
use mathlib.Core.Path.{◌≡◌, refl, ap, ◌∙◌}
use Prim.Native.Nat.{ℕ, ◌+◌, ◌*◌, ◌≤◌, ◌<◌}
use native.Mathlib.Omega.{arith}
use native.Mathlib.Nat.{mul-le-mul_right, suc-mul}
use mathlib.Core.Bool.{Bool, true, false}
use mathlib.Core.List.{List, [], ◌∷◌}
use mathlib.Core.Logic.{◌⊎◌, inl, inr}
use lib.Dec.{ltb}
use lib.ListN.{length, set, take, length-set}
use lib.Seq.{get_or-set_same, get_or-set_other, drop-set-lt}
use borrow.Author.Tests.{ltb-true, ltb-false}
use Rattle.table_shift.specs.Shift.{put_words}
use Rattle.table_shift.proofs.Parts.{put_here}
use Rattle.table_rows.specs.Lists.{up_to}
use Rattle.table_rows.specs.Table.{Exact}
use Rattle.table_rows.proofs.Lists.{up_to_set}
use Rattle.table_marks.specs.Marks.{ids_of}
use Rattle.table_marks.proofs.Tills as tills
use Rattle.table_marks.proofs.Tills.{ids_room, after_length, counts_within}
use Rattle.table_marks.proofs.Laws.{others}
use Rattle.fault_rules.specs.Rules.{rule_slots}
use Rattle.fault_blocks.specs.Blocks.{block_slots}
use Rattle.spec_network.specs.Opening.{Sizes}
use Rattle.spec_network.specs.Tables.{cell, till_form, ids_start, net_width, waiting_at, rules_at, blocks_at}
use Rattle.spec_book.proofs.Formed.{NetFormed, SeenFormed}

-- ---- `net`

-- its cells one by one
pub six : (l : List ℕ) → length l ≡ net_width → l ≡ cell l 0 ∷ cell l 1 ∷ cell l 2 ∷ cell l 3 ∷ cell l 4 ∷ cell l 5 ∷ []
six [] h = absurd (omega arith)
six (a ∷ []) h = absurd (omega arith)
six (a ∷ b ∷ []) h = absurd (omega arith)
six (a ∷ b ∷ c ∷ []) h = absurd (omega arith)
six (a ∷ b ∷ c ∷ d ∷ []) h = absurd (omega arith)
six (a ∷ b ∷ c ∷ d ∷ e ∷ []) h = absurd (omega arith)
six (a ∷ b ∷ c ∷ d ∷ e ∷ f ∷ []) h = refl
six (a ∷ b ∷ c ∷ d ∷ e ∷ f ∷ g ∷ l) h = absurd (omega arith)

module _ (z : Sizes) (net : List ℕ) (f : NetFormed z net) where
  -- a cell anew, none of the three counts
  pub net_plain : (i v : ℕ) → (waiting_at ≡ i → ⊥) → (rules_at ≡ i → ⊥) → (blocks_at ≡ i → ⊥) → NetFormed z (set net i v)
  net_plain i v w r b = record {
    size = length-set net i v ∙ f.size;
    waiting = rw (get_or-set_other net i waiting_at v 0 w) f.waiting;
    rules = rw (get_or-set_other net i rules_at v 0 r) f.rules;
    blocks = rw (get_or-set_other net i blocks_at v 0 b) f.blocks;
  }

  pub net_waiting : (v : ℕ) → v ≤ z.wait_slots → NetFormed z (set net waiting_at v)
  net_waiting v h = record {
    size = length-set net waiting_at v ∙ f.size;
    waiting = rw (get_or-set_same net waiting_at v 0 (omega (arith, f.size))) h;
    rules = rw (get_or-set_other net waiting_at rules_at v 0 (λ e. omega arith)) f.rules;
    blocks = rw (get_or-set_other net waiting_at blocks_at v 0 (λ e. omega arith)) f.blocks;
  }

  pub net_rules : (v : ℕ) → v ≤ rule_slots → NetFormed z (set net rules_at v)
  net_rules v h = record {
    size = length-set net rules_at v ∙ f.size;
    waiting = rw (get_or-set_other net rules_at waiting_at v 0 (λ e. omega arith)) f.waiting;
    rules = rw (get_or-set_same net rules_at v 0 (omega (arith, f.size))) h;
    blocks = rw (get_or-set_other net rules_at blocks_at v 0 (λ e. omega arith)) f.blocks;
  }

  pub net_blocks : (v : ℕ) → v ≤ block_slots → NetFormed z (set net blocks_at v)
  net_blocks v h = record {
    size = length-set net blocks_at v ∙ f.size;
    waiting = rw (get_or-set_other net blocks_at waiting_at v 0 (λ e. omega arith)) f.waiting;
    rules = rw (get_or-set_other net blocks_at rules_at v 0 (λ e. omega arith)) f.rules;
    blocks = rw (get_or-set_same net blocks_at v 0 (omega (arith, f.size))) h;
  }

-- ---- Rows

pub till_exact : Exact till_form
till_exact = record { long = λ t. refl; back = λ t m. refl; whole = four }
  where
    four : (l : List ℕ) → 4 ≤ length l → cell l 0 ∷ cell l 1 ∷ cell l 2 ∷ cell l 3 ∷ [] ≡ take 4 l
    four [] h = absurd (omega arith)
    four (a ∷ []) h = absurd (omega arith)
    four (a ∷ b ∷ []) h = absurd (omega arith)
    four (a ∷ b ∷ c ∷ []) h = absurd (omega arith)
    four (a ∷ b ∷ c ∷ d ∷ l) h = refl

-- ---- Marks

module _ (z : Sizes) (seen : List ℕ) (f : SeenFormed z seen) (t : ℕ) (ids : List ℕ) (b : t < z.tills) (le : length ids ≤ z.seen_slots) where
  abbrev start : ℕ
  start = ids_start z t

  size : z.tills + z.tills * z.seen_slots ≤ length seen
  size = omega (arith, f.size)

  room : start + length ids ≤ length seen
  room = ids_room z.tills z.seen_slots seen size t ids b le

  abbrev put : List ℕ
  put = put_words seen start ids

  abbrev after : List ℕ
  after = set put t (length ids)

  count_here : cell after t ≡ length ids
  count_here = tills.count_here z.tills z.seen_slots seen size t ids b le

  count_there : (k : ℕ) → k < z.tills → (k ≡ t → ⊥) → cell after k ≡ cell seen k
  count_there k h n = tills.count_there z.tills z.seen_slots seen size t ids b le k h n

  -- the places lie behind the counts
  places : (s n : ℕ) → z.tills ≤ s → ids_of after s n ≡ ids_of put s n
  places s n h = ap (take n) (drop-set-lt s put t (length ids) (omega arith))

  apart : (k : ℕ) → k < z.tills → (k ≡ t → ⊥) → (ids_start z k + cell seen k ≤ start) ⊎ (start + length ids ≤ ids_start z k)
  apart k h n = go (ltb k t) refl
    where
      go : (x : Bool) → ltb k t ≡ x → (ids_start z k + cell seen k ≤ start) ⊎ (start + length ids ≤ ids_start z k)
      go true p =
          let m : (k + 1) * z.seen_slots ≤ t * z.seen_slots = mul-le-mul_right z.seen_slots (omega (arith, ltb-true k t p)) in
          inl (omega (arith, suc-mul k z.seen_slots, m, f.counts k h))
      go false p =
          let m : (t + 1) * z.seen_slots ≤ k * z.seen_slots = mul-le-mul_right z.seen_slots (omega (arith, ltb-false k t p, n)) in
          inr (omega (arith, suc-mul t z.seen_slots, m))

  ids_here : ids_of after start (cell after t) ≡ ids
  ids_here = ap (ids_of after start) count_here ∙ places start (length ids) (omega arith) ∙ put_here seen start ids room

  ids_there : (k : ℕ) → k < z.tills → (k ≡ t → ⊥) → ids_of after (ids_start z k) (cell after k) ≡ ids_of seen (ids_start z k) (cell seen k)
  ids_there k h n = ap (ids_of after (ids_start z k)) (count_there k h n) ∙ places (ids_start z k) (cell seen k) (omega arith) ∙ others seen start ids (ids_start z k) (cell seen k) room (apart k h n)

  pub seen_formed : SeenFormed z after
  seen_formed = record { size = after_length z.tills z.seen_slots seen size t ids b le ∙ f.size; counts = counts_within z.tills z.seen_slots seen size t ids b le f.counts }

  pub seen_holds : up_to z.tills (λ k. ids_of after (ids_start z k) (cell after k)) ≡ set (up_to z.tills (λ k. ids_of seen (ids_start z k) (cell seen k))) t ids
  seen_holds =
      up_to_set z.tills (λ k. ids_of seen (ids_start z k) (cell seen k)) (λ k. ids_of after (ids_start z k) (cell after k)) t b ids_there
      ∙ ap (set (up_to z.tills (λ k. ids_of seen (ids_start z k) (cell seen k))) t) ids_here
