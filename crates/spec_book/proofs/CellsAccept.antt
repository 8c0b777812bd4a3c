-- Cells fit after an accept: each recipient's draws, copies, marks and ring.
use mathlib.Core.Path.{◌≡◌, refl, sym, ap, ◌∙◌, subst}
use Prim.Native.Nat.{ℕ, zero, suc, ◌+◌, ◌*◌, ◌^◌, ◌≤◌, ◌<◌}
use native.Mathlib.Omega.{arith}
use native.Mathlib.Nat.{mod-lt}
use mathlib.Core.Bool.{Bool, true, false, cond}
use mathlib.Core.List.{List, [], ◌∷◌}
use lib.Dec.{leb, ltb}
use lib.Pow.{pow_pos}
use lib.ListN.{length, get_or, set, drop}
use lib.Seq.{get_or-set_other}
use borrow.Author.Tests.{ltb-true, leb-true}
use Rattle.table_shift.specs.Shift.{put_words}
use Rattle.table_rows.specs.Lists.{Each}
use Rattle.table_rows.proofs.Lists.{each_drop}
use Rattle.table_rows.proofs.Rows.{length_rows}
use Rattle.table_ring.specs.Ring.{ring_from, first_at, count_at}
use Rattle.table_waiting.specs.Waiting as waiting
use Rattle.table_waiting.specs.Waiting.{insert_copy}
use Rattle.table_waiting.specs.declared.Copy.{Copy}
use Rattle.table_waiting.proofs.Order.{length_insert, each_insert}
use Rattle.table_marks.proofs.Ordered.{each_placed, each_removed, length_placed}
use Rattle.table_marks.specs.Marks.{ids_of, placed, removed}
use Rattle.table_rings.specs.Rings as rings
use Rattle.fault_rules.specs.Rules.{rule_width, fired_word, fire_table}
use Rattle.fault_decide.specs.Decide.{Decision}
use Rattle.spec_network.specs.Opening.{Sizes, Opening, link, latest_now, longest_wire}
use Rattle.spec_network.specs.Live.{Carried, Live, ids_at, rings_of}
use Rattle.spec_network.specs.Accept.{Message, Echoed, Timed, drawn, context, carried_of, ring_for, original, echo, echo_copies, Fate, deduplicated, partition, loss, fault, sent, copies}
use Rattle.spec_network.specs.Tables.{cell, Tables, live, ids_start, sequence_at, waiting_at, fault_words_at}
use Rattle.spec_network.specs.Writes.{set_net, set_tills, set_words, set_seen, set_waiting, set_rings, set_rules, set_blocks, set_log, net_t, words_t, marks_t, waiting_t, ruled_t, push_t, remember_t, effect_t}
use Rattle.spec_book.specs.Cells.{Fit, CellsFit}
use Rattle.spec_book.proofs.Each.{both, each_set, each_at, each_up_to}
use Rattle.spec_book.proofs.Echoing.{drawn_each, drawn_few}
use Rattle.spec_book.proofs.Fitting.{Limited, Fits, NearMessage, NearRing, few_copies}
use Rattle.spec_book.proofs.Fit.{each_take, cell_fits, fit_put, rows_fit, fit_over, fit_pushed}
use Rattle.spec_book.proofs.Bounds.{DrawsFit}
use Rattle.spec_book.proofs.Words.{set_most, drawn_words}

abbrev In : ℕ → Type 0
In v = v < 2 ^ 64

-- ---- One table anew

module _ (T : Tables) (f : CellsFit T) where
  pub cells_net : (x : List ℕ) → Fit 64 x → CellsFit (set_net T x)
  cells_net x h = record { setup = f.setup; net = h; names = f.names; tills = f.tills; words = f.words; keys = f.keys; prices = f.prices; seen = f.seen; waiting = f.waiting; rings = f.rings; rules = f.rules; blocks = f.blocks; log = f.log }

  pub cells_tills : (x : List ℕ) → Fit 64 x → CellsFit (set_tills T x)
  cells_tills x h = record { setup = f.setup; net = f.net; names = f.names; tills = h; words = f.words; keys = f.keys; prices = f.prices; seen = f.seen; waiting = f.waiting; rings = f.rings; rules = f.rules; blocks = f.blocks; log = f.log }

  pub cells_words : (x : List ℕ) → Fit 64 x → CellsFit (set_words T x)
  cells_words x h = record { setup = f.setup; net = f.net; names = f.names; tills = f.tills; words = h; keys = f.keys; prices = f.prices; seen = f.seen; waiting = f.waiting; rings = f.rings; rules = f.rules; blocks = f.blocks; log = f.log }

  pub cells_seen : (x : List ℕ) → Fit 64 x → CellsFit (set_seen T x)
  cells_seen x h = record { setup = f.setup; net = f.net; names = f.names; tills = f.tills; words = f.words; keys = f.keys; prices = f.prices; seen = h; waiting = f.waiting; rings = f.rings; rules = f.rules; blocks = f.blocks; log = f.log }

  pub cells_waiting : (x : List ℕ) → Fit 64 x → CellsFit (set_waiting T x)
  cells_waiting x h = record { setup = f.setup; net = f.net; names = f.names; tills = f.tills; words = f.words; keys = f.keys; prices = f.prices; seen = f.seen; waiting = h; rings = f.rings; rules = f.rules; blocks = f.blocks; log = f.log }

  pub cells_rings : (x : List ℕ) → Fit 64 x → CellsFit (set_rings T x)
  cells_rings x h = record { setup = f.setup; net = f.net; names = f.names; tills = f.tills; words = f.words; keys = f.keys; prices = f.prices; seen = f.seen; waiting = f.waiting; rings = h; rules = f.rules; blocks = f.blocks; log = f.log }

  pub cells_rules : (x : List ℕ) → Fit 64 x → CellsFit (set_rules T x)
  cells_rules x h = record { setup = f.setup; net = f.net; names = f.names; tills = f.tills; words = f.words; keys = f.keys; prices = f.prices; seen = f.seen; waiting = f.waiting; rings = f.rings; rules = h; blocks = f.blocks; log = f.log }

  pub cells_blocks : (x : List ℕ) → Fit 64 x → CellsFit (set_blocks T x)
  cells_blocks x h = record { setup = f.setup; net = f.net; names = f.names; tills = f.tills; words = f.words; keys = f.keys; prices = f.prices; seen = f.seen; waiting = f.waiting; rings = f.rings; rules = f.rules; blocks = h; log = f.log }

  pub cells_log : (x : List ℕ) → Fit 64 x → CellsFit (set_log T x)
  cells_log x h = record { setup = f.setup; net = f.net; names = f.names; tills = f.tills; words = f.words; keys = f.keys; prices = f.prices; seen = f.seen; waiting = f.waiting; rings = f.rings; rules = f.rules; blocks = f.blocks; log = h }

  pub cell_net : (i v : ℕ) → v < 2 ^ 64 → CellsFit (net_t T i v)
  cell_net i v h = cells_net (set T.net i v) (each_set In T.net i v f.net h)

-- ---- Rows, marks, copies

abbrev pub CopyFit : Copy → Type 0
CopyFit c = Fit 64 (waiting.words c)

pub copy_reads : (l : List ℕ) → Fit 64 l → Fit 64 (waiting.words (waiting.read l))
copy_reads l e =
    let c : (i : ℕ) → get_or l i 0 < 2 ^ 64 = λ i. cell_fits 64 l i e in
    (c 0, (c 1, (c 2, (c 3, (c 4, (c 5, (c 6, (c 7, (c 8, (c 9, (c 10, (c 11, tt))))))))))))

pub waiting_fits : (z : Sizes) (T : Tables) → CellsFit T → Each CopyFit (live z T).queue.waiting
waiting_fits z T f = rows_fit 64 waiting.form copy_reads (cell T.net waiting_at) T.waiting f.waiting

-- a list anew for the marks of a till
pub marks_cells : (z : Sizes) (T : Tables) (t : ℕ) (ids : List ℕ) → CellsFit T → Fit 64 ids → length ids < 2 ^ 64 → CellsFit (marks_t z T t ids)
marks_cells z T t ids f h n = cells_seen T f _ (each_set In (put_words T.seen (ids_start z t) ids) t (length ids) (fit_put 64 T.seen (ids_start z t) ids f.seen h) n)

pub ids_fit : (z : Sizes) (T : Tables) (t : ℕ) → CellsFit T → Fit 64 (ids_at (live z T) t)
ids_fit z T t f =
    each_at (Fit 64) (live z T).seen t [] (each_up_to (Fit 64) z.tills (λ k. ids_of T.seen (ids_start z k) (cell T.seen k)) (λ k l. each_take In (cell T.seen k) (drop (ids_start z k) T.seen) (each_drop In (ids_start z k) T.seen f.seen))) tt

pub placed_fit : (i : ℕ) (ids : List ℕ) → i < 2 ^ 64 → Fit 64 ids → Fit 64 (placed i ids)
placed_fit i ids h e = each_placed (λ (v : ℕ). v < 2 ^ 64) i ids h e

pub removed_fit : (i : ℕ) (ids : List ℕ) → Fit 64 ids → Fit 64 (removed i ids)
removed_fit i ids e = each_removed (λ (v : ℕ). v < 2 ^ 64) i ids e

pub push_cells : (z : Sizes) (cs : List Copy) (T : Tables) (B : ℕ) → CellsFit T → Each CopyFit cs → cell T.net waiting_at ≤ B → cell T.net sequence_at ≤ B → B + length cs < 2 ^ 64 → CellsFit (push_t z T cs)
push_cells z [] T B f e w s h = f
push_cells z (c ∷ cs) T B f e w s h =
    let q = (live z T).queue.waiting in
    let n : ℕ = cell T.net sequence_at in
    let many : length (insert_copy c q) ≡ suc (cell T.net waiting_at) = length_insert c q ∙ ap suc (length_rows waiting.width waiting.read (cell T.net waiting_at) T.waiting) in
    let T₁ = net_t T sequence_at (suc n) in
    let f₁ = cell_net T f sequence_at (suc n) (omega arith) in
    let f₂ = cell_net T₁ f₁ waiting_at (length (insert_copy c q)) (omega (arith, many)) in
    let f₃ = cells_waiting (net_t T₁ waiting_at (length (insert_copy c q))) f₂ _ (fit_over 64 waiting.form copy_reads (insert_copy c q) T.waiting (each_insert CopyFit c q e.0 (waiting_fits z T f)) f.waiting) in
    push_cells z cs (waiting_t T₁ (insert_copy c q)) (suc B) f₃ e.1
    (set_most (set T.net sequence_at (suc n)) waiting_at (length (insert_copy c q)) waiting_at (suc B) (set_most T.net sequence_at (suc n) waiting_at (suc B) (omega arith) (omega arith)) (omega (arith, many)))
    (set_most (set T.net sequence_at (suc n)) waiting_at (length (insert_copy c q)) sequence_at (suc B) (set_most T.net sequence_at (suc n) sequence_at (suc B) (omega arith) (omega arith)) (omega (arith, many)))
    (omega arith)

-- what a decision changes
pub ruled_cells : (T : Tables) (v : Decision) → CellsFit T → v.words < 2 ^ 64 → CellsFit (ruled_t T v)
unfolding fire_table
ruled_cells T v f h = go v.drops
  where
    f₁ : CellsFit (net_t T fault_words_at v.words)
    f₁ = cell_net T f fault_words_at v.words h

    go : (b : Bool) → CellsFit (cond b (set_rules (net_t T fault_words_at v.words) (fire_table T.rules v.place)) (net_t T fault_words_at v.words))
    go true = cells_rules (net_t T fault_words_at v.words) f₁ _ (each_set (λ (x : ℕ). x < 2 ^ 64) T.rules (v.place * rule_width + fired_word) _ f.rules (mod-lt _ (pow_pos 64)))
    go false = f₁

-- ---- Rings

entry_reads : (l : List ℕ) → Fit 64 l → Fit 64 (rings.words (rings.read l))
entry_reads l e = (cell_fits 64 l 0 e, (cell_fits 64 l 1 e, (cell_fits 64 l 2 e, tt)))

from_each : {R : Type 0} (P : R → Type 0) (at : ℕ → R) (m first i n : ℕ) → ((s : ℕ) → P (at s)) → Each P (ring_from at m first i n)
from_each P at m first i zero h = tt
from_each P at m first i (suc n) h = (h _, from_each P at m first (suc i) n h)

pub ring_fits_lem : (z : Sizes) (T : Tables) (r : ℕ) → CellsFit T → Each (λ (e : Carried). Fit 64 (rings.words e)) (get_or (live z T).rings r [])
ring_fits_lem z T r f =
    each_at (λ (l : List Carried). Each (λ (e : Carried). Fit 64 (rings.words e)) l) (live z T).rings r []
    (each_up_to (λ (l : List Carried). Each (λ (e : Carried). Fit 64 (rings.words e)) l) (rings_of z) (rings.entries (rings_of z) T.rings)
    (λ q l. from_each (λ (e : Carried). Fit 64 (rings.words e)) (λ s. rings.read (drop (rings.base_of (rings_of z) q + s * rings.width) T.rings)) rings.slots (first_at (rings.head_of q) T.rings) 0 (count_at (rings.head_of q) T.rings) (λ s. entry_reads (drop (rings.base_of (rings_of z) q + s * rings.width) T.rings) (each_drop In (rings.base_of (rings_of z) q + s * rings.width) T.rings f.rings)))) tt

-- ---- One recipient

-- the numbers of a message
pub record MessageFits (m : Message) : Type 0 where
  pub now : m.now ≤ latest_now
  pub id : m.id < 2 ^ 64
  pub tag : m.tag < 2 ^ 64

module _ (o : Opening) (lim : Limited o.sizes) (g : DrawsFit o) (m : Message) (k : NearMessage o.sizes m) (q : MessageFits m) (t : ℕ) (b : t < o.sizes.tills) where
  from_small : m.from < o.sizes.tills
  from_small = ltb-true m.from o.sizes.tills k.from

  kind_small : m.kind < 2 ^ 64
  kind_small = omega (arith, ltb-true m.kind o.sizes.types k.kind, lim.types)

  class_small : m.class < 2 ^ 64
  class_small = omega (arith, ltb-true m.class o.sizes.classes k.class, lim.classes)

  scope_small : m.scope < 2 ^ 64
  scope_small = omega (arith, k.ring, lim.types)

  wire_small : m.wire ≤ longest_wire
  wire_small = leb-true m.wire longest_wire k.wire

  -- what a ring keeps, and what is echoed of it
  abbrev Good : Carried → Type 0
  Good c = (c.wire ≤ longest_wire) × Fit 64 (rings.words c)

  original_fit : (n w : ℕ) → n < 2 ^ 64 → CopyFit (original m t n (o.draws.latency m.from t m.wire w).value)
  original_fit n w f =
      let l = g.latency m.from t m.wire w from_small b wire_small in (
        omega (arith, from_small, lim.tills),
        (omega (arith, lim.tills), (kind_small, (class_small, (omega (arith, q.now), (omega (arith, q.now, l), (scope_small, (omega (arith, wire_small), (f, (omega arith, (q.id, (q.tag, tt))))))))))),
      )

  -- and lands in time
  abbrev Soon : Timed → Type 0
  Soon e = Good e.what.carried × (m.now + e.latency < 2 ^ 64)

  soon : (e : Echoed) (w : ℕ) → Good e.carried → Soon (record { what = e; latency = (o.draws.latency m.from t e.carried.wire w).value })
  soon e w h = (h, omega (arith, q.now, g.latency m.from t e.carried.wire w from_small b h.0))

  echo_fit : (n : ℕ) (e : Timed) → n < 2 ^ 64 → Soon e → CopyFit (echo m t n e)
  echo_fit n e f r =
      let h = r.0 in (
        omega (arith, from_small, lim.tills),
        (omega (arith, lim.tills), (kind_small, (h.1.0, (omega (arith, q.now), (r.1, (scope_small, (h.1.1.0, (f, (omega arith, (omega arith, (h.1.1.1.0, tt))))))))))),
      )

  echoes_fit : (n : ℕ) (es : List Timed) → n + length es < 2 ^ 64 → Each Soon es → Each CopyFit (echo_copies m t n es)
  echoes_fit n [] h r = tt
  echoes_fit n (e ∷ es) h r = (echo_fit (suc n) e (omega (arith, h)) r.0, echoes_fit (suc n) es (omega (arith, h)) r.1)

  own_good : Good (carried_of m)
  own_good = (wire_small, (class_small, (omega (arith, wire_small), (q.tag, tt))))

  ring_good : (z : Sizes) (T : Tables) → z ≡ o.sizes → CellsFit T → (s : Live) → live z T ≡ s → Fits o.sizes s → Each Good (ring_for s m)
  ring_good z T e f s h fits =
      let at : ℕ = rings.number_of m.kind m.scope in
      let near = each_at (NearRing o.sizes) s.rings at [] fits.rings.near tt in
      let fit = subst (λ (x : Live). Each (λ (c : Carried). Fit 64 (rings.words c)) (get_or x.rings at [])) h (ring_fits_lem z T at f) in
      two (get_or s.rings at []) near fit
    where
      two : (l : List Carried) → NearRing o.sizes l → Each (λ (c : Carried). Fit 64 (rings.words c)) l → Each Good l
      two [] n e = tt
      two (c ∷ l) n e = ((leb-true c.wire longest_wire (both (ltb c.class o.sizes.classes) (leb c.wire longest_wire) n.0).1, e.0), two l n.1 e.1)

  pub effect_cells : (c : Fate) (T : Tables) (s : Live) → live o.sizes T ≡ s → Fits o.sizes s → CellsFit T → cell T.net waiting_at ≤ 4096 → cell T.net sequence_at ≤ 2 ^ 32
      → get_or T.words (link m.from t) 0 ≤ 2 ^ 41 → (o.draws.decide (context o m t) (live o.sizes T).engine.rules (live o.sizes T).engine.words).words ≤ 2 ^ 41
      → length (ids_at (live o.sizes T) t) ≤ 4096 → CellsFit (effect_t o m c T (drawn o m t (live o.sizes T)) t)
  unfolding drawn
  effect_cells deduplicated T s h fits f w n l v i = f
  effect_cells partition T s h fits f w n l v i = f
  effect_cells loss T s h fits f w n l v i =
      let x = drawn_words o g m t (live o.sizes T) in
      let d = drawn o m t (live o.sizes T) in
      cells_words T f (set T.words (link m.from t) d.loss.words) (each_set In T.words (link m.from t) d.loss.words f.words (omega (arith, x.loss)))
  effect_cells fault T s h fits f w n l v i =
      let x = drawn_words o g m t (live o.sizes T) in
      let d = drawn o m t (live o.sizes T) in
      ruled_cells (words_t T (link m.from t) d.latency.words) d.verdict
      (cells_words T f (set T.words (link m.from t) d.latency.words) (each_set In T.words (link m.from t) d.latency.words f.words (omega (arith, x.latency)))) (omega arith)
  effect_cells sent T s h fits f w n l v i =
      let z = o.sizes in
      let q₀ = live z T in
      let d = drawn o m t q₀ in
      let x = drawn_words o g m t q₀ in
      let T₁ = ruled_t (words_t T (link m.from t) d.echoes.words) d.verdict in
      let f₁ = ruled_cells (words_t T (link m.from t) d.echoes.words) d.verdict (cells_words T f (set T.words (link m.from t) d.echoes.words) (each_set In T.words (link m.from t) d.echoes.words f.words (omega (arith, x.echoes)))) (omega arith) in
      let ids = placed m.id (ids_at q₀ t) in
      let T₂ = marks_t z T₁ t ids in
      let f₂ = marks_cells z T₁ t ids f₁ (placed_fit m.id (ids_at q₀ t) q.id (ids_fit z T t f)) (omega (arith, length_placed m.id (ids_at q₀ t))) in
      let echoes = drawn_each o m t Soon Good soon own_good q₀ (subst (λ (y : Live). Each Good (ring_for y m)) (sym h) (ring_good z T refl f s h fits)) in
      let cs = copies o m q₀ d t in
      let first : ℕ = suc q₀.queue.sequence in
      let fit : Each CopyFit cs = (original_fit first d.loss.words (omega arith), echoes_fit first d.echoes.all (omega (arith, drawn_few o m t q₀)) echoes) in
      let same : (j : ℕ) → (fault_words_at ≡ j → ⊥) → cell T₂.net j ≡ cell T.net j = λ j ne. net_ruled (words_t T (link m.from t) d.echoes.words) d.verdict j ne in
      let f₃ = push_cells z cs T₂ (2 ^ 33) f₂ fit (omega (arith, same waiting_at (λ e. omega arith))) (omega (arith, same sequence_at (λ e. omega arith))) (omega (arith, few_copies o m q₀ d t (drawn_few o m t q₀))) in
      remember_cells (push_t z T₂ cs) f₃
    where
      net_ruled : (T : Tables) (v : Decision) (j : ℕ) → (fault_words_at ≡ j → ⊥) → cell (ruled_t T v).net j ≡ cell T.net j
      net_ruled T v j ne = go v.drops
        where
          go : (x : Bool) → cell (cond x (set_rules (net_t T fault_words_at v.words) (fire_table T.rules v.place)) (net_t T fault_words_at v.words)).net j ≡ cell T.net j
          go true = get_or-set_other T.net fault_words_at j v.words 0 (λ e. ne (sym e))
          go false = get_or-set_other T.net fault_words_at j v.words 0 (λ e. ne (sym e))

      remember_cells : (T : Tables) → CellsFit T → CellsFit (remember_t o m T)
      remember_cells T f = go o.draws.echoing
        where
          go : (x : Bool) → CellsFit (cond x (set_rings T (rings.pushed (rings_of o.sizes) T.rings (rings.number_of m.kind m.scope) (carried_of m))) T)
          go true = cells_rings T f _ (fit_pushed rings.form rings.slots (rings.head_of (rings.number_of m.kind m.scope)) (rings.base_of (rings_of o.sizes) (rings.number_of m.kind m.scope)) (omega arith) T.rings (carried_of m) f.rings own_good.1)
          go false = f
