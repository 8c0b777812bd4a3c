-- Every cell fits its memory after a call.
use mathlib.Core.Path.{◌≡◌, sym, ap, ◌∙◌, subst}
use Prim.Native.Nat.{ℕ, zero, suc, ◌+◌, ◌*◌, ◌^◌, ◌≤◌, ◌<◌, max}
use native.Mathlib.Omega.{arith}
use native.Mathlib.Nat.{pow-suc, pow-le-pow_right}
use mathlib.Core.Bool.{Bool, true, false, cond, not, ◌&&◌, ◌||◌}
use mathlib.Core.List.{List, [], ◌∷◌}
use lib.Dec.{eqb, ltb}
use lib.Pow.{pow_pos, pow_mono}
use lib.ListN.{length, get_or, drop, length-take}
use borrow.Author.Tests.{ltb-true, leb-true}
use Rattle.table_shift.specs.Shift.{put_words, closed}
use Rattle.table_rows.specs.Lists.{Each}
use Rattle.table_rows.proofs.Lists.{each_map, length_up_to}
use Rattle.table_rows.proofs.Rows.{length_rows}
use Rattle.table_delivery.specs.Delivery as delivery
use Rattle.table_waiting.specs.Waiting as waiting
use Rattle.table_waiting.specs.declared.Copy.{Copy}
use Rattle.table_marks.specs.Marks.{ids_of, removed}
use Rattle.table_marks.proofs.Ordered.{length_removed}
use Rattle.fault_card.specs.Card as card
use Rattle.fault_card.specs.Card.{fields_of}
use Rattle.fault_rule.specs.Rule.{has}
use Rattle.fault_rules.specs.Rules as rules
use Rattle.fault_rules.specs.Rules.{rule_slots, rule_width, most_rules, install_number, install_table, remove_table, index_of, rules_of, without}
use Rattle.fault_blocks.specs.Blocks as blocks
use Rattle.fault_blocks.specs.Blocks.{block_slots, block_width, always, during, block_table, unblock_table, open_count, blocks_of}
use Rattle.fault_blocks.specs.declared.BlockWindow.{BlockWindow}
use Rattle.spec_network.specs.Opening.{Sizes, Opening, link, global, last_number, latest_now, longest_wire, most_words}
use Rattle.spec_network.specs.Lists.{within, below}
use Rattle.spec_network.specs.Live.{Till, down_till, up_till, Live, is_original, ids_at, marked, stopped, till_at}
use Rattle.spec_network.specs.Accept.{Message, message_of, receives, selected, Drawn, drawn, context, Fate, deduplicated, partition, loss, fault, sent, fate_of, effect, offered}
use Rattle.spec_network.specs.Flush.{served, later, stops, lands}
use Rattle.spec_network.specs.Calls.{Call, with_handlers, accept, flush, take_down, bring_up, handlers, block, block_during, unblock, install, remove, decide, drain, reading}
use Rattle.spec_network.specs.Questions.{Room, asked_in, asked, first_no}
use Rattle.spec_network.specs.Tables.{cell, Tables, live, till_form, block_form, ids_start, sequence_at, waiting_at, rules_at, installed_at, blocks_at}
use Rattle.spec_network.specs.Writes.{net_t, till_t, marks_t, waiting_t, block_t, unblock_t, install_t, remove_t, record_t, record_all_t, clear_t, flush_t, accept_t, offered_t, step_t}
use Rattle.spec_book.specs.Cells.{Fit, CellsFit, CallFits}
use Rattle.spec_book.proofs.Each.{both, all_each, each_at, each_keep, each_up_to}
use Rattle.spec_book.proofs.Asking.{apart_in, room_fits, all_yes, apart}
use Rattle.spec_book.proofs.Sound.{Below, selected_below, sent_unmarked}
use Rattle.spec_book.proofs.Serving.{served_each, later_each, later_short}
use Rattle.spec_book.proofs.Fitting.{Limited, Fits, NearMessage, Good, drawn_good, few_copies, Ready, room, effect_fits, effect_length, effect_ready, length_keep}
use Rattle.spec_book.proofs.StepFits.{near_message, length_without}
use Rattle.spec_book.proofs.Formed.{Wrote}
use Rattle.spec_book.proofs.Simulation.{effect_wrote, ids_few}
use Rattle.spec_book.proofs.Fit.{cell_fits, rows_fit, fit_put, fit_closed, fit_over, fit_kept, fit_logged, fit_cleared}
use Rattle.spec_book.proofs.Bounds.{DrawsFit}
use Rattle.spec_book.proofs.Words.{drawn_words, effect_words, effect_fault}
use Rattle.spec_book.proofs.CellsAccept.{CopyFit, MessageFits, effect_cells, cells_tills, cells_rules, cells_blocks, cells_log, cells_waiting, cell_net, copy_reads, waiting_fits, marks_cells, ids_fit, removed_fit, ruled_cells}

-- ---- Accept

module _ (o : Opening) (lim : Limited o.sizes) (g : DrawsFit o) (m : Message) (k : NearMessage o.sizes m) (q : MessageFits m) where
  -- what an effect does to the sequence
  effect_sequence : (c : Fate) (s : Live) (d : Drawn) (t : ℕ) → length d.echoes.all ≤ 2 → (effect o m c s d t).queue.sequence ≤ s.queue.sequence + 3
  effect_sequence deduplicated s d t h = omega arith
  effect_sequence partition s d t h = omega arith
  effect_sequence loss s d t h = omega arith
  effect_sequence fault s d t h = omega arith
  effect_sequence sent s d t h = omega (arith, few_copies o m s d t h)

  accept_cells : (ts : List ℕ) (T : Tables) (s : Live) → Wrote o.sizes T s → Fits o.sizes s → Below o.sizes.tills ts → Each (Ready o m s) ts → length s.queue.waiting + 3 * length ts ≤ o.sizes.wait_slots
      → CellsFit T → s.queue.sequence + 3 * length ts ≤ last_number → (W : ℕ) → Each (λ (t : ℕ). get_or s.words (link m.from t) 0 ≤ W) ts → W + 26 * length ts ≤ 2 ^ 41 → s.engine.words + 128 * length ts ≤ 2 ^ 41
      → CellsFit (accept_t o m T ts)
  unfolding offered drawn
  accept_cells [] T s w f b r l cells n W ws e v = cells
  accept_cells (t ∷ ts) T s w f b r l cells n W ws e v =
      let z = o.sizes in
      let d = drawn o m t s in
      let c = fate_of o m s t in
      let gd = drawn_good o m k s t b.0 f in
      let free : c ≡ sent → marked s t m.id ≡ false = sent_unmarked (marked s t m.id) (stopped s m.from t m.now) d.loss.value d.verdict.drops in
      let many : length s.queue.waiting ≡ cell T.net waiting_at = sym (ap (λ (x : Live). length x.queue.waiting) w.holds) ∙ length_rows waiting.width waiting.read (cell T.net waiting_at) T.waiting in
      let slot : c ≡ sent → length (ids_at s t) < z.seen_slots = λ x. room o m s t r.0 (free x) in
      let x = effect_wrote o m k (fate_of o m (live z T) t) T (drawn o m t (live z T)) t w.formed
      (subst (λ (y : Live). Good o m (drawn o m t y)) (sym w.holds) gd).few b.0
      (subst (λ (y : Live). fate_of o m y t ≡ sent → length (ids_at y t) < z.seen_slots) (sym w.holds) slot) (omega (arith, many)) in
      let y : Wrote z (offered_t o m T t) (effect o m c s d t) =
      record { formed = x.formed; holds = x.holds ∙ ap (λ (y : Live). effect o m (fate_of o m y t) y (drawn o m t y) t) w.holds } in
      let given : cell T.net sequence_at ≡ s.queue.sequence = ap (λ (y : Live). y.queue.sequence) w.holds in
      let counted : get_or T.words (link m.from t) 0 ≤ W = subst (λ (y : Live). get_or y.words (link m.from t) 0 ≤ W) (sym w.holds) ws.0 in
      let verdict : d.verdict.words ≤ s.engine.words + 128 = omega (arith, g.decide (context o m t) s.engine.rules s.engine.words, f.engine.rules) in
      let verdict' : (drawn o m t (live z T)).verdict.words ≤ s.engine.words + 128 = subst (λ (y : Live). (drawn o m t y).verdict.words ≤ s.engine.words + 128) (sym w.holds) verdict in
      let few = ids_few o z T t w.formed b.0 in
      let next = effect_cells o lim g m k q t b.0 (fate_of o m (live z T) t) T s w.holds f cells
      (omega (arith, many, lim.waiting)) (omega (arith, given)) (omega (arith, counted)) (omega (arith, verdict')) (omega (arith, few, lim.seen)) in
      let dw = drawn_words o g m t s in
      let at : (u : ℕ) → get_or s.words (link m.from u) 0 ≤ W → get_or (effect o m c s d t).words (link m.from u) 0 ≤ W + 26 =
      λ u h. effect_words o m c s d t (link m.from u) (W + 26) (omega (arith, h)) (omega (arith, dw.loss, ws.0)) (omega (arith, dw.latency, ws.0)) (omega (arith, dw.echoes, ws.0)) in
      accept_cells ts (offered_t o m T t) (effect o m c s d t) y
      (effect_fits o m k s d t f gd c free b.0 r.0 (omega arith)) b.1
      (each_map (Ready o m s) (Ready o m (offered o m s t)) ts (λ u. effect_ready o m k s d t f gd c free b.0 u) r.1) (omega (arith, effect_length o m k s d t f gd c))
      next (omega (arith, effect_sequence c s d t gd.few)) (W + 26)
      (each_map (λ (u : ℕ). get_or s.words (link m.from u) 0 ≤ W) (λ (u : ℕ). get_or (effect o m c s d t).words (link m.from u) 0 ≤ W + 26) ts at ws.1)
      (omega arith) (omega (arith, effect_fault o m c s d t (s.engine.words + 128) (omega arith) verdict))

-- ---- Flush

ids_length : (z : Sizes) (T : Tables) (t : ℕ) → CellsFit T → length (ids_at (live z T) t) < 2 ^ 64
ids_length z T t f =
    each_at (λ (l : List ℕ). length l < 2 ^ 64) (live z T).seen t [] (each_up_to (λ (l : List ℕ). length l < 2 ^ 64) z.tills (λ i. ids_of T.seen (ids_start z i) (cell T.seen i))
    (λ i l. omega (arith, length-take (cell T.seen i) (drop (ids_start z i) T.seen), cell_fits 64 T.seen i f.seen))) (pow_pos 64)

clear_cells : (z : Sizes) (s : Live) (cs : List Copy) (T : Tables) → CellsFit T → CellsFit (clear_t z s cs T)
clear_cells z s [] T f = f
clear_cells z s (c ∷ cs) T f = clear_cells z s cs _ (go (stops s c && is_original c))
  where
    go : (b : Bool) → CellsFit (cond b (marks_t z T c.delivery.to (removed c.id (ids_at (live z T) c.delivery.to))) T)
    go true =
        let t : ℕ = c.delivery.to in
        marks_cells z T t (removed c.id (ids_at (live z T) t)) f (removed_fit c.id (ids_at (live z T) t) (ids_fit z T t f)) (omega (arith, length_removed c.id (ids_at (live z T) t), ids_length z T t f))
    go false = f

record_cells : (z : Sizes) → z.log_slots ≤ 4096 → (cs : List Copy) (T : Tables) → Each CopyFit cs → CellsFit T → CellsFit (record_all_t z T cs)
record_cells z h [] T e f = f
record_cells z h (c ∷ cs) T e f =
    let q = e.0 in
    let d : Fit 64 (delivery.words c.delivery) = (q.0, (q.1.0, (q.1.1.0, (q.1.1.1.0, (q.1.1.1.1.0, (q.1.1.1.1.1.0, (q.1.1.1.1.1.1.0, (q.1.1.1.1.1.1.1.0, tt)))))))) in
    record_cells z h cs (record_t z T c.delivery) e.1 (cells_log T f _ (fit_logged z.log_slots h T.log c.delivery f.log d))

flush_cells : (z : Sizes) → z.log_slots ≤ 4096 → (now rows : ℕ) (T : Tables) → CellsFit T → CellsFit (flush_t z T now rows)
flush_cells z h now rows T f =
    let s = live z T in
    let all = waiting_fits z T f in
    let T₁ = clear_t z s (served now rows s) T in
    let f₁ = clear_cells z s (served now rows s) T f in
    let left = later now rows s in
    let short : length left < 2 ^ 64 = omega (arith, later_short now rows s, length_rows waiting.width waiting.read (cell T.net waiting_at) T.waiting, cell_fits 64 T.net waiting_at f.net) in
    let f₂ = cells_waiting (net_t T₁ waiting_at (length left)) (cell_net T₁ f₁ waiting_at (length left) short) _
    (fit_over 64 waiting.form copy_reads left T₁.waiting (later_each now rows s CopyFit all) f₁.waiting) in
    record_cells z h (lands s (served now rows s)) (waiting_t T₁ left) (each_keep CopyFit _ (served now rows s) (served_each now rows s CopyFit all)) f₂

-- ---- Tills, blocks, rules

till_reads : (l : List ℕ) → Fit 64 l → Fit 64 (till_form.words (till_form.read l))
till_reads l e = (cell_fits 64 l 0 e, (cell_fits 64 l 1 e, (cell_fits 64 l 2 e, (cell_fits 64 l 3 e, tt))))

till_cells : (T : Tables) (t : ℕ) (x : Till) → CellsFit T → Fit 64 (till_form.words x) → CellsFit (till_t T t x)
till_cells T t x f h = cells_tills T f _ (fit_put 64 T.tills (t * till_form.width) (till_form.words x) f.tills h)

-- a mask of at most 16 bits
pub mask_small : (mask n : ℕ) → n ≤ 16 → within mask n ≡ true → mask < 2 ^ 64
mask_small mask n h e = omega (arith, ltb-true mask (2 ^ n) e, pow_mono h)

block_reads : (l : List ℕ) → Fit 64 l → Fit 64 (blocks.words (blocks.first_block l))
block_reads l e = (cell_fits 64 l 0 e, (cell_fits 64 l 1 e, (cell_fits 64 l 2 e, (cell_fits 64 l 3 e, (cell_fits 64 l 4 e, tt)))))

block_cells : (T : Tables) (e : BlockWindow) → CellsFit T → cell T.net blocks_at < block_slots → Fit 64 (blocks.words e) → CellsFit (block_t T e)
unfolding block_table blocks.put_at
block_cells T e f h w = cells_blocks (net_t T blocks_at (suc (cell T.net blocks_at))) (cell_net T f blocks_at (suc (cell T.net blocks_at)) (omega arith)) _ (go (ltb (cell T.net blocks_at) block_slots))
  where
    go : (b : Bool) → Fit 64 (cond b (put_words T.blocks (cell T.net blocks_at * block_width) (blocks.words e)) T.blocks)
    go true = fit_put 64 T.blocks (cell T.net blocks_at * block_width) (blocks.words e) f.blocks w
    go false = f.blocks

unblock_cells : (T : Tables) (from to : ℕ) → CellsFit T → CellsFit (unblock_t T from to)
unfolding unblock_table open_count
unblock_cells T from to f =
    let n : ℕ = cell T.net blocks_at in
    let few : open_count from to T.blocks n < 2 ^ 64 = omega (arith, length_keep (blocks.other from to) (blocks_of T.blocks n), length_rows block_width blocks.first_block n T.blocks, cell_fits 64 T.net blocks_at f.net) in
    cells_blocks (net_t T blocks_at (open_count from to T.blocks n)) (cell_net T f blocks_at (open_count from to T.blocks n) few) _ (fit_kept 64 block_form block_reads (blocks.other from to) T.blocks n f.blocks)

-- n bytes make a number of 8 n bits
le_small : (s : List ℕ) (n i : ℕ) → Fit 8 s → card.le_at s i n + 1 ≤ 256 ^ n
unfolding card.le_at
le_small s zero i e = omega arith
le_small s (suc n) i e = omega (arith, le_small s n (i + 1) e, cell_fits 8 s i e, pow-suc 256 n)

eight : (n : ℕ) → n ≤ 8 → 256 ^ n ≤ 256 ^ 8
eight n h = pow-le-pow_right (omega arith) h

field_small : (s : List ℕ) (map bit i n : ℕ) → n ≤ 8 → Fit 8 s → card.field_of s map bit i n < 2 ^ 64
unfolding card.field_of
field_small s map bit i n h e = go (has map bit)
  where
    go : (b : Bool) → cond b (card.le_at s i n) 0 < 2 ^ 64
    go true = omega (arith, le_small s n i e, eight n h)
    go false = pow_pos 64

rule_fits : (s : List ℕ) (ever : ℕ) → Fit 8 s → ever < 2 ^ 64 → Fit 64 (rules.words (rules.new_rule ever (fields_of s)))
unfolding card.spec_of
rule_fits s ever e h =
    let at = card.places_of (card.map_of s) in
    let m : ℕ = card.map_of s in (
      h,
      (
        omega (arith, cell_fits 8 s 0 e),
        (
          field_small s m _ at.kind 1 (omega arith) e,
          (
            field_small s m _ at.from 4 (omega arith) e,
            (
              field_small s m _ at.to 4 (omega arith) e,
              (
                field_small s m _ at.tier 1 (omega arith) e,
                (field_small s m _ at.probability 8 (omega arith) e, (field_small s m _ at.window 8 (omega arith) e, (field_small s m _ (at.window + 8) 8 (omega arith) e, (omega arith, tt)))),
              ),
            ),
          ),
        ),
      ),
    )

install_cells : (T : Tables) (s : List ℕ) → CellsFit T → Fit 8 s → cell T.net rules_at < rule_slots → cell T.net installed_at < most_rules → CellsFit (install_t T s)
unfolding install_table rules.put_at
install_cells T s f e h k =
    let n : ℕ = cell T.net rules_at in
    let ever : ℕ = cell T.net installed_at in
    let f₁ = cell_net T f rules_at (suc n) (omega arith) in
    let f₂ = cell_net (net_t T rules_at (suc n)) f₁ installed_at (suc ever) (omega arith) in
    cells_rules (net_t (net_t T rules_at (suc n)) installed_at (suc ever)) f₂ _ (go n ever (eqb (install_number n ever s) 0) (omega arith))
  where
    go : (n ever : ℕ) (b : Bool) → ever < 2 ^ 64 → Fit 64 (cond b (put_words T.rules (n * rule_width) (rules.words (rules.new_rule ever (fields_of s)))) T.rules)
    go n ever true l = fit_put 64 T.rules (n * rule_width) (rules.words (rules.new_rule ever (fields_of s))) f.rules (rule_fits s ever e l)
    go n ever false l = f.rules

remove_cells : (z : Sizes) (T : Tables) (id : ℕ) → CellsFit T → CellsFit (remove_t z T id)
unfolding remove_table
remove_cells z T id f =
    let n : ℕ = cell T.net rules_at in
    let few : length (without id (live z T).engine.rules) < 2 ^ 64 = omega (arith, length_without id (live z T).engine.rules, length_rows rule_width rules.first_rule n T.rules, cell_fits 64 T.net rules_at f.net) in
    cells_rules (net_t T rules_at (length (without id (live z T).engine.rules))) (cell_net T f rules_at (length (without id (live z T).engine.rules)) few) _ (go n (ltb (index_of id (rules_of T.rules n)) n))
  where
    go : (n : ℕ) (b : Bool) → Fit 64 (cond b (closed T.rules ((index_of id (rules_of T.rules n) + 1) * rule_width) (n * rule_width) rule_width) T.rules)
    go n true = fit_closed 64 T.rules ((index_of id (rules_of T.rules n) + 1) * rule_width) (n * rule_width) rule_width f.rules
    go n false = f.rules

-- ---- Every call

pub selected_few : (o : Opening) (s : Live) (scope from : ℕ) → length (selected o s scope from) ≤ o.sizes.tills
selected_few o s scope from = omega (arith, length_keep (λ t. receives s scope t && not (eqb t from)) (below o.sizes.tills), length_up_to o.sizes.tills (λ (i : ℕ). i))

free_block : {z : Sizes} (T : Tables) (s : Live) → Wrote z T s → ltb (length s.engine.blocks) block_slots ≡ true → cell T.net blocks_at < block_slots
free_block T s w h =
    let n : length s.engine.blocks ≡ cell T.net blocks_at = sym (ap (λ (v : Live). length v.engine.blocks) w.holds) ∙ length_rows block_width blocks.first_block (cell T.net blocks_at) T.blocks in
    omega (arith, n, ltb-true (length s.engine.blocks) block_slots h)

module _ (o : Opening) (lim : Limited o.sizes) (g : DrawsFit o) where
  pub step_cells : (room : Room) (c : Call) (T : Tables) (s : Live) → Wrote o.sizes T s → Fits o.sizes s → first_no (asked_in o room s c) ≡ 0 → CallFits c → CellsFit T → CellsFit (step_t o T c)
  step_cells room (accept e true) T s w f h fit cells =
      let y = all_yes (asked_in o room s (accept e true)) (apart_in o room s (accept e true)) h in
      let m = message_of o e in
      let ts = selected o s e.scope e.from in
      let k = near_message o lim e y.0 y.1.0 y.1.1.0 in
      let x = both (ltb e.kind o.sizes.types && ltb e.class o.sizes.classes) (eqb e.scope global || ltb e.scope o.sizes.shards) y.1.0 in
      let wire = leb-true (length e.wire) longest_wire y.1.1.0 in
      let id = g.id e.kind e.scope e.wire (ltb-true e.kind o.sizes.types k.kind) x.1 wire in
      let q : MessageFits m = record { now = leb-true e.now latest_now y.1.1.1.0; id = id; tag = fit } in
      let fresh = both (ltb s.engine.words most_words) _ y.1.1.1.1.0 in
      let words = each_map (λ (t : ℕ). ltb (get_or s.words (link e.from t) 0) most_words ≡ true) (λ (t : ℕ). get_or s.words (link e.from t) 0 ≤ most_words) ts
      (λ t l. less (get_or s.words (link e.from t) 0) l) (all_each _ ts fresh.1) in
      let many = few ts (selected_few o s e.scope e.from) in
      subst (λ (v : Live). CellsFit (accept_t o m T (selected o v e.scope e.from))) (sym w.holds)
      (accept_cells o lim g m k q ts T s w f (selected_below o s e.scope e.from) (all_each _ ts y.1.1.1.1.1.1.0) (room_fits o room s e y.1.1.1.1.1.1.1.0) cells
      (leb-true _ _ y.1.1.1.1.1.0) most_words words (omega (arith, many)) (omega (arith, many, ltb-true s.engine.words most_words fresh.0)))
    where
      less : (n : ℕ) → ltb n most_words ≡ true → n ≤ most_words
      less n l = omega (arith, ltb-true n most_words l)

      few : (ts : List ℕ) → length ts ≤ o.sizes.tills → length ts ≤ 64
      few ts l = omega (arith, lim.tills)
  step_cells room (accept e false) T s w f h fit cells = cells
  step_cells room (flush now rows) T s w f h fit cells = flush_cells o.sizes lim.log now rows T cells
  step_cells room (take_down t) T s w f h fit cells =
      marks_cells o.sizes (till_t T t down_till) t [] (till_cells T t down_till cells (omega arith, (omega arith, (omega arith, (omega arith, tt))))) tt (omega arith)
  step_cells room (bring_up t shards) T s w f h fit cells =
      let y = all_yes (asked o s (bring_up t shards)) (apart o s (bring_up t shards)) h in
      till_cells T t (up_till shards) cells (omega arith, (omega arith, (omega arith, (mask_small shards o.sizes.shards lim.shards y.1.0, tt))))
  step_cells room (handlers t gossip host) T s w f h fit cells =
      let y = all_yes (asked o s (handlers t gossip host)) (apart o s (handlers t gossip host)) h in
      let x = both (within gossip o.sizes.types) (within host o.sizes.types) y.1.0 in
      let old = each_at (λ (v : Till). Fit 64 (till_form.words v)) (live o.sizes T).tills t down_till (rows_fit 64 till_form till_reads o.sizes.tills T.tills cells.tills) (omega arith, (omega arith, (omega arith, (omega arith, tt)))) in
      till_cells T t (with_handlers (till_at (live o.sizes T) t) gossip host) cells
      (old.0, (mask_small gossip o.sizes.types lim.types x.0, (mask_small host o.sizes.types lim.types x.1, (old.1.1.1.0, tt))))
  step_cells room (block from to) T s w f h fit cells =
      let y = all_yes (asked o s (block from to)) (apart o s (block from to)) h in
      let a = ltb-true (max from to) o.sizes.tills y.0 in
      block_cells T (always from to) cells (free_block T s w y.1.0) (omega (arith, a, lim.tills), (omega (arith, a, lim.tills), (omega arith, (omega arith, (omega arith, tt)))))
  step_cells room (block_during from to start end) T s w f h fit cells =
      let y = all_yes (asked o s (block_during from to start end)) (apart o s (block_during from to start end)) h in
      let a = ltb-true (max from to) o.sizes.tills y.0 in
      block_cells T (during from to start end) cells (free_block T s w y.1.0) (omega (arith, a, lim.tills), (omega (arith, a, lim.tills), (omega arith, (fit.0, (fit.1, tt)))))
  step_cells room (unblock from to) T s w f h fit cells = unblock_cells T from to cells
  step_cells room (install card) T s w f h fit cells =
      let y = all_yes (asked o s (install card)) (apart o s (install card)) h in
      let x = both (ltb (length s.engine.rules) rule_slots) (ltb s.engine.installed most_rules) y.0 in
      let n : length s.engine.rules ≡ cell T.net rules_at = sym (ap (λ (v : Live). length v.engine.rules) w.holds) ∙ length_rows rule_width rules.first_rule (cell T.net rules_at) T.rules in
      let ever : s.engine.installed ≡ cell T.net installed_at = sym (ap (λ (v : Live). v.engine.installed) w.holds) in
      install_cells T card cells fit (omega (arith, n, ltb-true (length s.engine.rules) rule_slots x.0)) (omega (arith, ever, ltb-true s.engine.installed most_rules x.1))
  step_cells room (remove id) T s w f h fit cells = remove_cells o.sizes T id cells
  step_cells room (decide x) T s w f h fit cells =
      let y = all_yes (asked o s (decide x)) (apart o s (decide x)) h in
      let v = (live o.sizes T).engine in
      let old : v.words ≡ s.engine.words = ap (λ (q : Live). q.engine.words) w.holds in
      let n : length v.rules ≤ rule_slots = subst (λ (q : Live). length q.engine.rules ≤ rule_slots) (sym w.holds) f.engine.rules in
      ruled_cells T (o.draws.decide x v.rules v.words) cells (omega (arith, g.decide x v.rules v.words, n, old, ltb-true s.engine.words most_words y.1.1.1.0))
  step_cells room (drain rows) T s w f h fit cells = cells_log T cells _ (fit_cleared o.sizes.log_slots lim.log T.log cells.log)
  step_cells room (reading r) T s w f h fit cells = cells
