-- The small functions of the pass: tills, stops, handlers, a row's words, the counts of one copy. Assumes nothing.
use mathlib.Core.Path.{◌≡◌, refl, sym, ap, ◌∙◌}
use mathlib.Core.Bool.{Bool, true, false, not, ◌&&◌, ◌||◌}
use mathlib.Core.List.{List, [], ◌∷◌}
use Prim.Native.Nat.{ℕ, ◌+◌, ◌*◌, ◌≤◌, ◌<◌}
use native.Mathlib.Nat.{add-zero}
use native.Mathlib.Omega.{arith}
use lib.Dec.{eqb}
use mir.Val.{bool_byte}
use lib.ListN.{length, get_or, set, drop}
use lib.Seq.{get_or-drop}
use borrow.Author.Tests.{eq-eqb, ne_eqb}
use Rattle.table_shift.specs.Shift.{put_words}
use Rattle.table_shift.proofs.Laws.{stores}
use Rattle.table_shift.proofs.Blocks.{put_stores}
use Rattle.table_rows.proofs.Table.{row_at}
use Rattle.fault_rule.specs.Rule.{has}
use Rattle.fault_blocks.specs.Blocks.{blocked, blocks_of}
use Rattle.table_waiting.specs.declared.Copy.{Copy}
use Rattle.table_waiting.specs.Waiting as waiting
use Rattle.spec_network.specs.Lists.{bit}
use Rattle.spec_network.specs.Opening.{global}
use Rattle.spec_network.specs.Live.{Till, down_till}
use Rattle.spec_network.specs.Flush.{stops}
use Rattle.spec_network.specs.Tables.{till_form}
use Rattle.spec_network.specs.Writes.{row_width, row_words}
use Rattle.ask_tables.specs.declared.Till as row
use Rattle.ask_tables.specs.TillRow.{form, live_till}
use Rattle.call_stopped.specs.Stopped.{up_at, stopped_by}
use Rattle.call_flush_pass.specs.declared.Extents.{Extents}
use Rattle.call_flush_pass.specs.declared.Taken.{Taken}
use Rattle.call_flush_pass.specs.declared.Moved.{Moved}
use Rattle.call_flush_pass.specs.Pass.{till_in, up_in, flush_view, taken_by, row_as, landed_more}

-- ---- A till's cells

module _ (n : ℕ) (tills : List ℕ) (t : ℕ) (h : t < n) where
  row_is : till_in n tills t ≡ till_form.read (drop (t * till_form.width) tills)
  row_is = row_at till_form tills n t down_till h

  pub up_at_lem : not (eqb (get_or tills (t * till_form.width) 0) 0) ≡ up_in n tills t
  unfolding up_in
  up_at_lem =
      ap (λ (i : ℕ). not (eqb (get_or tills i 0) 0)) (sym (add-zero (t * till_form.width)))
      ∙ ap (λ (x : ℕ). not (eqb x 0)) (sym (get_or-drop (t * till_form.width) tills 0 0))
      ∙ ap (λ (x : Till). not (eqb x.up 0)) (sym row_is)

  -- the row that the code reads holds the till
  till_lem : (x : row.Till) → x ≡ form.read (drop (t * till_form.width) tills) → live_till x ≡ till_in n tills t
  till_lem x e = ap live_till e ∙ sym row_is

-- ---- Stopped: by an end that is down, or by a block

module _ (z : Extents) (tills blocks : List ℕ) (c : Copy) where
  -- as the tables say it, and as the live part does
  pub stop_is : c.delivery.from < z.tills → c.delivery.to < z.tills
      → stopped_by tills blocks z.windows c.delivery.from c.delivery.to c.delivery.time ≡ stops (flush_view z tills blocks) c
  unfolding flush_view up_in
  stop_is f h =
      let p : up_at tills c.delivery.from ≡ up_in z.tills tills c.delivery.from = up_at_lem z.tills tills c.delivery.from f in
      let q : up_at tills c.delivery.to ≡ up_in z.tills tills c.delivery.to = up_at_lem z.tills tills c.delivery.to h in
      λ j. not (p j) || not (q j) || blocked c.delivery.from c.delivery.to c.delivery.time (blocks_of blocks z.windows)

-- ---- Handlers

module _ (n : ℕ) (tills : List ℕ) (c : Copy) (h : c.delivery.to < n)
    (x : row.Till) (e : x ≡ form.read (drop (c.delivery.to * till_form.width) tills))
    (g : Bool) (eg : g ≡ has x.gossip c.delivery.kind) where
  till : live_till x ≡ till_in n tills c.delivery.to
  till = till_lem n tills c.delivery.to h x e

  gossip : g ≡ (taken_by n tills c).gossip
  unfolding taken_by has
  gossip = eg ∙ ap (λ (y : Till). has y.gossip c.delivery.kind) till

  pub shard_taken : (c.delivery.scope ≡ global → ⊥) → record { gossip = g; host = false } ≡ taken_by n tills c
  unfolding taken_by has
  shard_taken p = λ j. record { gossip = gossip j; host = sym (ne_eqb c.delivery.scope global p) j && has (till_in n tills c.delivery.to).host c.delivery.kind }

  pub global_taken : (k : Bool) → c.delivery.scope ≡ global → k ≡ has x.host c.delivery.kind → record { gossip = g; host = k } ≡ taken_by n tills c
  unfolding taken_by has
  global_taken k p ek =
      let host : k ≡ has (till_in n tills c.delivery.to).host c.delivery.kind = ek ∙ ap (λ (y : Till). has y.host c.delivery.kind) till in
      (λ j. record { gossip = gossip j; host = host j })
      ∙ (λ j. record { gossip = (taken_by n tills c).gossip; host = sym (eq-eqb c.delivery.scope global p) j && has (till_in n tills c.delivery.to).host c.delivery.kind })

-- ---- A row's words

-- a test as a number
pub byte_bit : (b : Bool) → bool_byte b ≡ bit b
byte_bit true = refl
byte_bit false = refl

pub row_made : (out l : List ℕ) (b : ℕ) (c : Copy) (k : Taken) (g h : ℕ) → g ≡ bool_byte k.gossip → h ≡ bool_byte k.host → b + row_width ≤ length out
    → l ≡ put_words out b (waiting.words c) → set (set l (b + waiting.width) g) (b + (waiting.width + 1)) h ≡ put_words out b (row_words (row_as c k))
row_made out l b c k g h eg eh room e =
    let two : List ℕ = bit k.gossip ∷ bit k.host ∷ [] in
    (λ j. set (set l (b + waiting.width) ((eg ∙ byte_bit k.gossip) j)) (b + (waiting.width + 1)) ((eh ∙ byte_bit k.host) j))
    ∙ ap (λ (x : List ℕ). stores x b waiting.width two) e ∙ put_stores out b waiting.width (waiting.words c) two refl (omega arith)

-- ---- The counts

pub landed_made : (m : Moved) (h g : ℕ) → h ≡ g → record { rows = m.rows + 1; delivered = m.delivered + h; dropped = m.dropped } ≡ landed_more g m
unfolding landed_more
landed_made m h g e = ap (λ (x : ℕ). record { rows = m.rows + 1; delivered = m.delivered + x; dropped = m.dropped }) e
