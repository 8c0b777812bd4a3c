-- Marks, copies and the ring: what each write makes of its table. Assumes nothing.
use Prim.Native.Nat.{ℕ, suc, ◌+◌, ◌*◌, ◌≤◌}
use mathlib.Core.Path.{◌≡◌, refl, sym, ap, ◌∙◌}
use mathlib.Core.Bool.{Bool, true, false, cond}
use Rattle.std.specs.Prelude.{Option, Some, None}
use mathlib.Core.List.{List, [], ◌∷◌, ◌++◌}
use native.Mathlib.Omega.{arith}
use native.Mathlib.Nat.{mul-le-mul_right}
use native.Mathlib.Numerals.{add-one}
use lib.ListN.{length, set, length-set}
use lib.Seq.{get_or-set_same, get_or-set_other}
use Rattle.table_shift.specs.Shift.{put_words}
use Rattle.table_rows.specs.Table.{over}
use Rattle.table_rows.proofs.Rows.{length_rows}
use Rattle.table_marks.specs.Marks.{ids_of, placed}
use Rattle.table_marks.proofs.Search.{length_ids}
use Rattle.table_marks.proofs.Ordered.{length_placed}
use Rattle.table_waiting.specs.declared.Copy.{Copy}
use Rattle.table_waiting.specs.Waiting.{insert_copy, copies, form, width, read}
use Rattle.table_waiting.proofs.Order.{length_insert}
use Rattle.table_rings.specs.Rings.{number_of, pushed}
use Rattle.spec_network.specs.Opening.{Sizes, Settings}
use Rattle.spec_network.specs.Live.{rings_of}
use Rattle.spec_network.specs.Tables.{cell, Tables, ids_start, sequence_at, waiting_at, fault_words_at}
use Rattle.spec_network.specs.Accept.{Message, duplicate_of, replay_of, original, echo_copies, carried_of}
use Rattle.spec_network.specs.Writes.{set_net, set_waiting, push_t}
use Rattle.call_offer.specs.declared.Echo.{Echo}
use Rattle.call_offer.specs.Offering.{echoing_at, timed_as}
use Rattle.call_schedule.specs.Writing.{marked_seen, with_sequence, queue, pushed_net, pushed_waiting, echo_in, remembered, Room}

-- ---- Marks

pub mark_made : (z : Sizes) (seen : List ℕ) (t id n : ℕ) (l : List ℕ) → ids_start z t + cell seen t ≤ length seen → n ≡ cell seen t
    → l ≡ put_words seen (ids_start z t) (placed id (ids_of seen (ids_start z t) (cell seen t))) → set l t (n + 1) ≡ marked_seen z seen t id
mark_made z seen t id n l h e q =
    let ids : List ℕ = ids_of seen (ids_start z t) (cell seen t) in
    let k : n + 1 ≡ length (placed id ids) = omega (arith, length_placed id ids, length_ids seen (ids_start z t) (cell seen t) id h) in
    (λ j. set (q j) t (k j))

-- ---- Copies

long_queue : (net waiting : List ℕ) (c : Copy) → length (queue net waiting c) ≡ suc (cell net waiting_at)
long_queue net waiting c =
    length_insert (with_sequence c (suc (cell net sequence_at))) (copies waiting (cell net waiting_at)) ∙ ap suc (length_rows width read (cell net waiting_at) waiting)

module _ (net waiting : List ℕ) (c : Copy) where
  pub pushed_made : (o : Option Copy) → o ≡ Some c → (w : List ℕ) → w ≡ over form (insert_copy (with_sequence c (cell net sequence_at + 1)) (copies waiting (cell net waiting_at))) waiting
      → (set (set net sequence_at (cell net sequence_at + 1)) waiting_at (cell net waiting_at + 1) ≡ pushed_net o net waiting) × (w ≡ pushed_waiting o net waiting)
  unfolding pushed_net pushed_waiting
  pushed_made o h w q =
      let k : cell net waiting_at + 1 ≡ length (queue net waiting c) = omega (arith, long_queue net waiting c) in (
        (λ j. set (set net sequence_at (add-one (cell net sequence_at) j)) waiting_at (k j)) ∙ ap (λ (b : Option Copy). pushed_net b net waiting) (sym h),
        q ∙ (λ j. over form (insert_copy (with_sequence c (add-one (cell net sequence_at) j)) (copies waiting (cell net waiting_at))) waiting)
            ∙ ap (λ (b : Option Copy). pushed_waiting b net waiting) (sym h),
      )

  -- the two counts after it
  next : 2 ≤ length net → cell (pushed_net (Some c) net waiting) sequence_at ≡ suc (cell net sequence_at)
  unfolding pushed_net
  next h =
      get_or-set_other (set net sequence_at (suc (cell net sequence_at))) waiting_at sequence_at (length (queue net waiting c)) 0 (λ e. omega arith)
      ∙ get_or-set_same net sequence_at (suc (cell net sequence_at)) 0 (omega arith)

  counted : 2 ≤ length net → cell (pushed_net (Some c) net waiting) waiting_at ≡ suc (cell net waiting_at)
  unfolding pushed_net
  counted h =
      get_or-set_same (set net sequence_at (suc (cell net sequence_at))) waiting_at (length (queue net waiting c)) 0 (omega (arith, length-set net sequence_at (suc (cell net sequence_at))))
      ∙ long_queue net waiting c

pub unpushed : (net waiting : List ℕ) (o : Option Copy) → o ≡ None → (net ≡ pushed_net o net waiting) × (waiting ≡ pushed_waiting o net waiting)
unfolding pushed_net pushed_waiting
unpushed net waiting o h = (ap (λ (b : Option Copy). pushed_net b net waiting) (sym h), ap (λ (b : Option Copy). pushed_waiting b net waiting) (sym h))

pub counts_after : (net waiting : List ℕ) (o : Option Copy) → 2 ≤ length net
    → (cell (pushed_net o net waiting) sequence_at ≤ cell net sequence_at + 1) × (cell (pushed_net o net waiting) waiting_at ≤ cell net waiting_at + 1)
unfolding pushed_net
counts_after net waiting (Some c) h = (omega (arith, next net waiting c h), omega (arith, counted net waiting c h))
counts_after net waiting None h = (omega arith, omega arith)

pub long_net : (net waiting : List ℕ) (o : Option Copy) → length (pushed_net o net waiting) ≡ length net
unfolding pushed_net
long_net net waiting (Some c) = length-set (set net sequence_at (suc (cell net sequence_at))) waiting_at (length (queue net waiting c)) ∙ length-set net sequence_at (suc (cell net sequence_at))
long_net net waiting None = refl

-- ---- Room

pub room_less : (net waiting : List ℕ) (n k : ℕ) → n ≤ k → Room net waiting k → Room net waiting n
room_less net waiting n k h r =
    let a : (cell net waiting_at + n) * width ≤ (cell net waiting_at + k) * width = mul-le-mul_right width (omega arith) in
    record { size = r.size; numbers = omega (arith, r.numbers); slots = omega (arith, r.slots) }

pub room_set : (net waiting : List ℕ) (n v : ℕ) → Room net waiting n → Room (set net fault_words_at v) waiting n
room_set net waiting n v r =
    let a : cell (set net fault_words_at v) sequence_at ≡ cell net sequence_at = get_or-set_other net fault_words_at sequence_at v 0 (λ e. omega arith) in
    let b : cell (set net fault_words_at v) waiting_at ≡ cell net waiting_at = get_or-set_other net fault_words_at waiting_at v 0 (λ e. omega arith) in
    record { size = omega (arith, length-set net fault_words_at v, r.size); numbers = omega (arith, r.numbers); slots = rw b r.slots }

pub room_after : (o : Option Copy) (net waiting net' waiting' : List ℕ) (n : ℕ) → net' ≡ pushed_net o net waiting → length waiting' ≡ length waiting → Room net waiting (n + 1) → Room net' waiting' n
room_after o net waiting net' waiting' n e l r =
    let q = counts_after net waiting o r.size in
    let s = ap (λ (x : List ℕ). cell x sequence_at) e in
    let w = ap (λ (x : List ℕ). cell x waiting_at) e in
    let a : (cell net' waiting_at + n) * width ≤ (cell net waiting_at + (n + 1)) * width = mul-le-mul_right width (omega arith) in
    record { size = omega (arith, ap length e, long_net net waiting o, r.size); numbers = omega (arith, r.numbers); slots = omega (arith, r.slots) }

-- ---- Copies one after the other

abbrev pub after : Tables → Option Copy → Tables
after T o = set_waiting (set_net T (pushed_net o T.net T.waiting)) (pushed_waiting o T.net T.waiting)

-- each takes the next sequence; n is the last one given
abbrev numbered : ℕ → List Copy → List Copy
numbered n [] = []
numbered n (c ∷ cs) = with_sequence c (suc n) ∷ numbered (suc n) cs

abbrev listed : Option Copy → List Copy
listed (Some c) = c ∷ []
listed None = []

-- an original and at most two echoes, made with their sequences, and made without
copies_numbered : (m : Message) (t n latency : ℕ) (a b : Option Echo) → original m t (suc n) latency ∷ echo_copies m t (suc n) (timed_as duplicate_of a ++ timed_as replay_of b)
    ≡ numbered n (original m t 0 latency ∷ (listed (echo_in m t a) ++ listed (echo_in m t b)))
copies_numbered m t n latency (Some a) (Some b) = refl
copies_numbered m t n latency (Some a) None = refl
copies_numbered m t n latency None (Some b) = refl
copies_numbered m t n latency None None = refl

module _ (z : Sizes) where
  push_one : (T : Tables) (c : Copy) (cs : List Copy) → 2 ≤ length T.net
      → push_t z T (numbered (cell T.net sequence_at) (c ∷ cs)) ≡ push_t z (after T (Some c)) (numbered (cell (after T (Some c)).net sequence_at) cs)
  unfolding pushed_net pushed_waiting
  push_one T c cs h = ap (λ (k : ℕ). push_t z (after T (Some c)) (numbered k cs)) (sym (next T.net T.waiting c h))

  push_some : (T : Tables) (o : Option Copy) (cs : List Copy) → 2 ≤ length T.net
      → push_t z T (numbered (cell T.net sequence_at) (listed o ++ cs)) ≡ push_t z (after T o) (numbered (cell (after T o).net sequence_at) cs)
  unfolding pushed_net pushed_waiting
  push_some T (Some c) cs h = push_one T c cs h
  push_some T None cs h = refl

  push_last : (T : Tables) (o : Option Copy) → 2 ≤ length T.net → push_t z T (numbered (cell T.net sequence_at) (listed o)) ≡ after T o
  unfolding pushed_net pushed_waiting
  push_last T (Some c) h = push_one T c [] h
  push_last T None h = refl

  pub push_copies : (T : Tables) (m : Message) (t latency : ℕ) (a b : Option Echo) → 2 ≤ length T.net
      → let n = suc (cell T.net sequence_at) in push_t z T (original m t n latency ∷ echo_copies m t n (timed_as duplicate_of a ++ timed_as replay_of b))
      ≡ after (after (after T (Some (original m t 0 latency))) (echo_in m t a)) (echo_in m t b)
  push_copies T m t latency a b h =
      let c = original m t 0 latency in
      let T₁ = after T (Some c) in
      let T₂ = after T₁ (echo_in m t a) in
      let l₁ = long_net T.net T.waiting (Some c) in
      let l₂ = long_net T₁.net T₁.waiting (echo_in m t a) in
      ap (push_t z T) (copies_numbered m t (cell T.net sequence_at) latency a b)
      ∙ push_one T c (listed (echo_in m t a) ++ listed (echo_in m t b)) h
      ∙ push_some T₁ (echo_in m t a) (listed (echo_in m t b)) (omega (arith, l₁))
      ∙ push_last T₂ (echo_in m t b) (omega (arith, l₁, l₂))

-- ---- The ring

module _ (x : Settings) (rings : List ℕ) (m : Message) where
  pub unremembered : echoing_at x ≡ false → rings ≡ remembered x rings m
  unremembered h = ap (λ (b : Bool). cond b (pushed (rings_of x.sizes) rings (number_of m.kind m.scope) (carried_of m)) rings) (sym h)

  pub ring_took : echoing_at x ≡ true → (r : ℕ) (l : List ℕ) → r ≡ number_of m.kind m.scope → l ≡ pushed (rings_of x.sizes) rings r (carried_of m) → l ≡ remembered x rings m
  ring_took h r l e q =
      q ∙ ap (λ (k : ℕ). pushed (rings_of x.sizes) rings k (carried_of m)) e
      ∙ ap (λ (b : Bool). cond b (pushed (rings_of x.sizes) rings (number_of m.kind m.scope) (carried_of m)) rings) (sym h)
