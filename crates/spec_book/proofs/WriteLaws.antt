-- One lemma a write: it is the book's change of what the tables hold.
use mathlib.Core.Path.{◌≡◌, refl, sym, ap, ◌∙◌, subst}
use Prim.Native.Nat.{ℕ, zero, suc, ◌+◌, ◌*◌, ◌%◌, ◌^◌, ◌≤◌, ◌<◌}
use native.Mathlib.Omega.{arith}
use native.Mathlib.Nat.{le_refl, mul-le-mul_right}
use mathlib.Core.Bool.{Bool, true, false, cond}
use mathlib.Core.List.{List, [], ◌∷◌, ◌++◌}
use lib.Dec.{eqb, ltb}
use lib.ListN.{length, get_or, set, drop, replicate, length-set, length-drop, length-append}
use lib.Seq.{take-set-le}
use borrow.Author.Tests.{eqb-true, eqb-false, ltb-true, ltb-false}
use Rattle.table_shift.specs.Shift.{put_words, closed}
use Rattle.table_shift.proofs.Laws.{length_put, length_closed}
use Rattle.table_rows.specs.Rows.{rows, keep, flat, kept}
use Rattle.table_ring.specs.Ring.{push}
use Rattle.table_rows.specs.Table.{rows_of, over}
use Rattle.table_rows.proofs.Rows.{length_rows, rows_take}
use Rattle.table_rows.proofs.Lists.{get_d_up_to}
use Rattle.table_rows.proofs.Table.{rows_over, length_over, rows_set}
use Rattle.table_delivery.specs.declared.Delivery.{Delivery}
use Rattle.table_waiting.specs.Waiting as waiting
use Rattle.table_waiting.specs.Waiting.{insert_copy}
use Rattle.table_waiting.specs.declared.Copy.{Copy}
use Rattle.table_waiting.proofs.Reading as waiting-laws
use Rattle.table_waiting.proofs.Order.{length_insert}
use Rattle.table_rings.specs.Rings as rings
use Rattle.table_rings.proofs.Laws as rings-laws
use Rattle.table_log.specs.Log as log
use Rattle.table_log.proofs.Laws as log-laws
use Rattle.table_log.proofs.Draining.{drained_log, drained_sound}
use Rattle.fault_rules.specs.Rules.{rule_slots, rule_width, fired_word, words, first_rule, rules_of, install_number, install_table, put_at, without, remove_table, index_of, fire_at, fire_table}
use Rattle.fault_rules.specs.declared.FaultRule.{FaultRule}
use Rattle.fault_rules.proofs.Laws as rules-laws
use Rattle.fault_rules.proofs.Held.{rules_installed, rules_removed, rules_fired, install_room}
use Rattle.fault_card.specs.Card.{fields_of}
use Rattle.fault_decide.specs.Decide.{Decision}
use Rattle.fault_blocks.specs.Blocks as blocks
use Rattle.fault_blocks.specs.Blocks.{block_slots, block_width, blocks_of, block_number, block_table, unblock_table, open_count}
use Rattle.fault_blocks.specs.declared.BlockWindow.{BlockWindow}
use Rattle.fault_blocks.proofs.Held.{blocks_added, blocks_unblocked}
use Rattle.spec_network.specs.Opening.{Sizes}
use Rattle.spec_network.specs.Layout.{table}
use Rattle.spec_network.specs.Live.{Carried, Till, Live, with_tills, with_seen, with_engine, with_rings, with_words, with_waiting, with_log, with_blocks, with_rules, rings_of}
use Rattle.spec_network.specs.Accept.{insert_all, ruled}
use Rattle.spec_network.specs.Calls.{rule_added, rule_removed}
use Rattle.spec_network.specs.Tables.{cell, Tables, queue_of, live, till_form, rule_form, block_form, net_width, sequence_at, waiting_at, rules_at, installed_at, fault_words_at, blocks_at}
use Rattle.spec_network.specs.Writes.{set_net, set_rings, set_rules, set_waiting, set_blocks, net_t, till_t, words_t, marks_t, waiting_t, block_t, unblock_t, install_t, remove_t, ruled_t, record_t, drain_t, push_t}
use Rattle.spec_book.proofs.Fitting.{length_keep}
use Rattle.spec_book.proofs.Parts.{six, net_plain, net_waiting, net_rules, net_blocks, till_exact, seen_formed, seen_holds}
use Rattle.spec_book.proofs.Formed.{Formed, Wrote, formed_net, formed_tills, formed_words, formed_seen, formed_waiting, formed_rings, formed_rules, formed_blocks, formed_log}

-- ---- The writes

module _ (z : Sizes) (T : Tables) (f : Formed z T) where
  net_size_lem : length T.net ≡ net_width
  net_size_lem = f.net.size

  pub till_wrote : (t : ℕ) (x : Till) → t < z.tills → Wrote z (till_t T t x) (with_tills (live z T) (set (live z T).tills t x))
  till_wrote t x b =
      let k : (t + 1) * till_form.width ≤ z.tills * till_form.width = mul-le-mul_right till_form.width (omega arith) in
      record {
        formed = formed_tills z T f _ (length_put T.tills (t * till_form.width) (till_form.words x) (omega (arith, f.tills)) ∙ f.tills);
        holds = λ j. with_tills (live z T) (rows_set till_form till_exact T.tills z.tills t x b (rw f.tills (le_refl _)) j);
      }

  pub words_wrote : (i n : ℕ) → Wrote z (words_t T i n) (with_words (live z T) (set (live z T).words i n))
  words_wrote i n = record { formed = formed_words z T f _ (length-set T.words i n ∙ f.words); holds = refl }

  pub marks_wrote : (t : ℕ) (ids : List ℕ) → t < z.tills → length ids ≤ z.seen_slots → Wrote z (marks_t z T t ids) (with_seen (live z T) (set (live z T).seen t ids))
  marks_wrote t ids b le = record {
    formed = formed_seen z T f _ (seen_formed z T.seen f.seen t ids b le);
    holds = λ j. with_seen (live z T) (seen_holds z T.seen f.seen t ids b le j);
  }

  pub sequence_wrote : (n : ℕ) → Wrote z (net_t T sequence_at n) (with_waiting (live z T) n (live z T).queue.waiting)
  sequence_wrote n = record {
    formed = formed_net z T f _ (net_plain z T.net f.net sequence_at n (λ e. omega arith) (λ e. omega arith) (λ e. omega arith));
    holds = λ j. live z (set_net T (set (six T.net net_size_lem j) sequence_at n));
  }

  pub waiting_wrote : (w : List Copy) → length w ≤ z.wait_slots → Wrote z (waiting_t T w) (with_waiting (live z T) (live z T).queue.sequence (queue_of z w))
  waiting_wrote w le = record {
    formed =
        let f₁ = formed_net z T f _ (net_waiting z T.net f.net (length w) le) in
        formed_waiting z _ f₁ _ (length_over waiting.form waiting-laws.exact w T.waiting (rw f.waiting (mul-le-mul_right waiting.width le)) ∙ f.waiting);
    holds = (λ j. live z (set_waiting (set_net T (set (six T.net net_size_lem j) waiting_at (length w))) (over waiting.form w T.waiting)))
        ∙ (λ j. with_waiting (live z T) (live z T).queue.sequence (rows_over waiting.form waiting-laws.exact w T.waiting j));
  }

  -- ---- Blocks

  length_block : (n : ℕ) (e : BlockWindow) → length (block_table T.blocks n e) ≡ length T.blocks
  unfolding block_table blocks.put_at
  length_block n e = go (ltb n block_slots) refl
    where
      go : (x : Bool) → ltb n block_slots ≡ x → length (cond x (put_words T.blocks (n * block_width) (blocks.words e)) T.blocks) ≡ length T.blocks
      go true p = length_put T.blocks (n * block_width) (blocks.words e) (omega (arith, f.blocks, ltb-true n block_slots p))
      go false p = refl

  pub block_wrote : (e : BlockWindow) → ltb (cell T.net blocks_at) block_slots ≡ true → Wrote z (block_t T e) (with_engine (live z T) (with_blocks (live z T).engine ((live z T).engine.blocks ++ (e ∷ []))))
  unfolding block_number
  block_wrote e h =
      let n : ℕ = cell T.net blocks_at in
      let free : block_number n ≡ 0 = ap (λ (x : Bool). cond x 0 12) h in
      let one : n + 1 ≡ suc n = omega arith in
      let read : rows_of block_form (block_table T.blocks n e) (suc n) ≡ rows_of block_form T.blocks n ++ (e ∷ []) =
      ap (rows_of block_form (block_table T.blocks n e)) (sym one) ∙ blocks_added T.blocks n e (omega (arith, f.blocks)) free in
      record {
        formed = formed_blocks z _ (formed_net z T f _ (net_blocks z T.net f.net (suc n) (ltb-true n block_slots h))) _ (length_block n e ∙ f.blocks);
        holds = (λ j. live z (set_blocks (set_net T (set (six T.net net_size_lem j) blocks_at (suc n))) (block_table T.blocks n e)))
            ∙ (λ j. with_engine (live z T) (with_blocks (live z T).engine (read j)));
      }

  length_unblock : (from to n : ℕ) → n ≤ block_slots → length (unblock_table from to T.blocks n) ≡ length T.blocks
  unfolding unblock_table kept
  length_unblock from to n h =
      let left = keep (blocks.other from to) (blocks_of T.blocks n) in
      let k : length left ≤ n = omega (arith, length_keep (blocks.other from to) (blocks_of T.blocks n), length_rows block_width blocks.first_block n T.blocks) in
      let m : length left * block_width ≤ length T.blocks = omega (arith, f.blocks) in
      length-append (flat blocks.words left) (drop (length left * block_width) T.blocks) ∙ omega (arith, long_flat left, length-drop (length left * block_width) T.blocks)
    where
      long_flat : (l : List BlockWindow) → length (flat blocks.words l) ≡ length l * block_width
      long_flat [] = refl
      long_flat (e ∷ l) = omega (arith, long_flat l)

  pub unblock_wrote : (from to : ℕ) → Wrote z (unblock_t T from to) (with_engine (live z T) (with_blocks (live z T).engine (blocks.unblocked from to (live z T).engine.blocks)))
  unfolding open_count
  unblock_wrote from to =
      let n : ℕ = cell T.net blocks_at in
      let left : ℕ = open_count from to T.blocks n in
      let few : left ≤ block_slots = omega (arith, length_keep (blocks.other from to) (blocks_of T.blocks n), length_rows block_width blocks.first_block n T.blocks, f.net.blocks) in
      record {
        formed = formed_blocks z _ (formed_net z T f _ (net_blocks z T.net f.net left few)) _ (length_unblock from to n f.net.blocks ∙ f.blocks);
        holds = (λ j. live z (set_blocks (set_net T (set (six T.net net_size_lem j) blocks_at left)) (unblock_table from to T.blocks n)))
            ∙ (λ j. with_engine (live z T) (with_blocks (live z T).engine (blocks_unblocked from to T.blocks n j)));
      }

  -- ---- Rules

  length_install : (n ever : ℕ) (card : List ℕ) → n < rule_slots → length (install_table T.rules n ever card) ≡ length T.rules
  unfolding install_table put_at
  length_install n ever card h = go (eqb (install_number n ever card) 0)
    where
      go : (x : Bool) → length (cond x (put_words T.rules (n * rule_width) (words (record { id = ever; spec = fields_of card; fired = 0 }))) T.rules) ≡ length T.rules
      go true = length_put T.rules (n * rule_width) (words (record { id = ever; spec = fields_of card; fired = 0 })) (omega (arith, f.rules))
      go false = refl

  pub install_wrote : (card : List ℕ) → install_number (cell T.net rules_at) (cell T.net installed_at) card ≡ 0 → Wrote z (install_t T card) (with_engine (live z T) (rule_added (live z T).engine (fields_of card)))
  install_wrote card h =
      let n : ℕ = cell T.net rules_at in
      let ever : ℕ = cell T.net installed_at in
      let few = install_room n ever card h in
      let one : n + 1 ≡ suc n = omega arith in
      let table = install_table T.rules n ever card in
      let read = ap (rows_of rule_form table) (sym one) ∙ rules_installed T.rules n ever card (omega (arith, f.rules)) h in
      let net₁ = net_rules z T.net f.net (suc n) few in
      record {
        formed = formed_rules z _ (formed_net z T f _ (net_plain z (set T.net rules_at (suc n)) net₁ installed_at (suc ever) (λ e. omega arith) (λ e. omega arith) (λ e. omega arith))) _
            (length_install n ever card few ∙ f.rules);
        holds = (λ j. live z (set_rules (set_net T (set (set (six T.net net_size_lem j) rules_at (suc n)) installed_at (suc ever))) table))
            ∙ (λ j. with_engine (live z T) (with_rules (live z T).engine (read j) (suc ever) (live z T).engine.words));
      }

  length_remove : (n id : ℕ) → n ≤ rule_slots → length (remove_table T.rules n id) ≡ length T.rules
  unfolding remove_table
  length_remove n id h = go (ltb (index_of id (rules_of T.rules n)) n) refl
    where
      go : (x : Bool) → ltb (index_of id (rules_of T.rules n)) n ≡ x
          → length (cond x (closed T.rules ((index_of id (rules_of T.rules n) + 1) * rule_width) (n * rule_width) rule_width) T.rules) ≡ length T.rules
      go true p = length_closed T.rules ((index_of id (rules_of T.rules n) + 1) * rule_width) (n * rule_width) rule_width (omega arith) (omega (arith, ltb-true (index_of id (rules_of T.rules n)) n p)) (omega (arith, f.rules))
      go false p = refl

  pub remove_wrote : (id : ℕ) → length (without id (live z T).engine.rules) ≤ rule_slots → Wrote z (remove_t z T id) (with_engine (live z T) (rule_removed (live z T).engine id))
  remove_wrote id few =
      let n : ℕ = cell T.net rules_at in
      let left : ℕ = length (without id (live z T).engine.rules) in
      record {
        formed = formed_rules z _ (formed_net z T f _ (net_rules z T.net f.net left few)) _ (length_remove n id f.net.rules ∙ f.rules);
        holds = (λ j. live z (set_rules (set_net T (set (six T.net net_size_lem j) rules_at left)) (remove_table T.rules n id)))
            ∙ (λ j. with_engine (live z T) (with_rules (live z T).engine (rules_removed T.rules n id (omega (arith, f.rules, f.net.rules)) j) (live z T).engine.installed (live z T).engine.words));
      }

  -- a fire at a place that no rule has changes nothing that is read
  fire_past : (rs : List FaultRule) (p : ℕ) → length rs ≤ p → fire_at p rs ≡ rs
  unfolding fire_at
  fire_past [] p h = refl
  fire_past (r ∷ rs) zero h = absurd (omega arith)
  fire_past (r ∷ rs) (suc p) h = ap (λ (l : List FaultRule). r ∷ l) (fire_past rs p (omega arith))

  fired_read : (n p : ℕ) → n ≤ rule_slots → rows_of rule_form (fire_table T.rules p) n ≡ fire_at p (rows_of rule_form T.rules n)
  unfolding fire_table
  fired_read n p h = go (ltb p n) refl
    where
      v : ℕ
      v = (get_or T.rules (p * rule_width + fired_word) 0 + 1) % 2 ^ 64

      few : n * rule_width ≤ length T.rules
      few = omega (arith, f.rules)

      go : (x : Bool) → ltb p n ≡ x → rows_of rule_form (fire_table T.rules p) n ≡ fire_at p (rows_of rule_form T.rules n)
      go true q = rules_fired T.rules n p (ltb-true p n q) few
      go false q =
          let past : n ≤ p = ltb-false p n q in
          let i : ℕ = p * rule_width + fired_word in
          let w : List ℕ = set T.rules i v in
          let room : n * rule_width ≤ length w = omega (arith, length-set T.rules i v, few) in
          sym (rows_take rule_width first_rule rules-laws.alone n w room)
          ∙ ap (λ (l : List ℕ). rows rule_width first_rule l n) (take-set-le (n * rule_width) T.rules i v (omega (arith, past)))
          ∙ rows_take rule_width first_rule rules-laws.alone n T.rules few
          ∙ sym (fire_past (rows_of rule_form T.rules n) p (omega (arith, length_rows rule_width first_rule n T.rules, past)))

  -- what a decision changes
  pub ruled_wrote : (v : Decision) → Wrote z (ruled_t T v) (with_engine (live z T) (ruled (live z T).engine v))
  unfolding fire_table
  ruled_wrote v = go v.drops
    where
      f₁ : Formed z (net_t T fault_words_at v.words)
      f₁ = formed_net z T f _ (net_plain z T.net f.net fault_words_at v.words (λ e. omega arith) (λ e. omega arith) (λ e. omega arith))

      go : (b : Bool) → Wrote z (cond b (set_rules (net_t T fault_words_at v.words) (fire_table T.rules v.place)) (net_t T fault_words_at v.words))
          (with_engine (live z T) (with_rules (live z T).engine (cond b (fire_at v.place (live z T).engine.rules) (live z T).engine.rules) (live z T).engine.installed v.words))
      go true = record {
        formed = formed_rules z _ f₁ _ (length-set T.rules (v.place * rule_width + fired_word) _ ∙ f.rules);
        holds = (λ j. live z (set_rules (set_net T (set (six T.net net_size_lem j) fault_words_at v.words)) (fire_table T.rules v.place)))
            ∙ (λ j. with_engine (live z T) (with_rules (live z T).engine (fired_read (cell T.net rules_at) v.place f.net.rules j) (live z T).engine.installed v.words));
      }
      go false = record { formed = f₁; holds = λ j. live z (set_net T (set (six T.net net_size_lem j) fault_words_at v.words)) }

  -- ---- Rings and log

  pub ring_wrote : (r : ℕ) (c : Carried) → r < rings_of z → Wrote z (set_rings T (rings.pushed (rings_of z) T.rings r c)) (with_rings (live z T) (set (live z T).rings r (push rings.slots (get_or (live z T).rings r []) c)))
  ring_wrote r c b =
      let fits : rings.Fits (rings_of z) r T.rings = record { there = b; room = rw f.rings.size (le_refl _) } in
      let head = f.rings.heads r b in
      let own : rings.entries (rings_of z) T.rings r ≡ get_or (live z T).rings r [] = sym (get_d_up_to (rings_of z) (rings.entries (rings_of z) T.rings) r [] b) in
      record {
        formed = formed_rings z T f _ (record { size = rings-laws.length_pushed (rings_of z) T.rings r c fits head ∙ f.rings.size; heads = λ q h. go fits head q h (eqb q r) refl });
        holds = λ j. with_rings (live z T) ((rings-laws.all_pushed (rings_of z) T.rings r c fits head f.rings.heads
            ∙ ap (λ (l : List Carried). set (live z T).rings r (push rings.slots l c)) own) j);
      }
    where
      go : (fits : rings.Fits (rings_of z) r T.rings) (head : rings.SoundRing T.rings r) (q : ℕ) → q < rings_of z → (x : Bool) → eqb q r ≡ x → rings.SoundRing (rings.pushed (rings_of z) T.rings r c) q
      go fits head q h true p = subst (rings.SoundRing (rings.pushed (rings_of z) T.rings r c)) (sym (eqb-true q r p)) (rings-laws.pushed_sound (rings_of z) T.rings r c fits head)
      go fits head q h false p = rings-laws.other_sound (rings_of z) T.rings r c fits head q h (eqb-false q r p) (f.rings.heads q h)

  pub record_wrote : (d : Delivery) → Wrote z (record_t z T d) (with_log (live z T) (log.logged z.log_slots (live z T).log d))
  record_wrote d =
      let room : log.size_of z.log_slots ≤ length T.log = rw f.log.size (le_refl _) in
      record {
        formed = formed_log z T f _ (record {
          size = log-laws.length_pushed z.log_slots T.log d room f.log.head ∙ f.log.size;
          head = log-laws.pushed_sound z.log_slots T.log d room f.log.head;
        });
        holds = λ j. with_log (live z T) (log-laws.log_pushed z.log_slots T.log d room f.log.head j);
      }

  pub drain_wrote : Wrote z (drain_t T) (with_log (live z T) log.empty_log)
  unfolding log.cleared_at
  drain_wrote = record {
    formed = formed_log z T f _ (record {
      size = length-append (replicate log.records_at 0) (drop log.records_at T.log) ∙ omega (arith, length-drop log.records_at T.log, f.log.size);
      head = drained_sound z.log_slots T.log;
    });
    holds = λ j. with_log (live z T) (drained_log z.log_slots T.log j);
  }

-- the copies one after the other
pub push_wrote : (z : Sizes) (cs : List Copy) (T : Tables) → Formed z T → cell T.net waiting_at + length cs ≤ z.wait_slots
    → Wrote z (push_t z T cs) (with_waiting (live z T) (length cs + (live z T).queue.sequence) (insert_all table cs (live z T).queue.waiting))
push_wrote z [] T f l = let e : 0 + cell T.net sequence_at ≡ cell T.net sequence_at = omega arith in rw e (record { formed = f; holds = refl })
push_wrote z (c ∷ cs) T f l =
    let w = (live z T).queue.waiting in
    let n : ℕ = cell T.net sequence_at in
    let many : length (insert_copy c w) ≡ suc (cell T.net waiting_at) = length_insert c w ∙ ap suc (length_rows waiting.width waiting.read (cell T.net waiting_at) T.waiting) in
    let T₁ = net_t T sequence_at (suc n) in
    let x = sequence_wrote z T f (suc n) in
    let y = waiting_wrote z T₁ x.formed (insert_copy c w) (omega (arith, many)) in
    let T₂ = waiting_t T₁ (insert_copy c w) in
    let one : live z T₂ ≡ with_waiting (live z T) (suc n) (insert_copy c w) = y.holds ∙ ap (λ (s : Live). with_waiting s s.queue.sequence (insert_copy c w)) x.holds in
    let count : cell T₂.net waiting_at ≡ suc (cell T.net waiting_at) =
    sym (length_rows waiting.width waiting.read (cell T₂.net waiting_at) T₂.waiting) ∙ ap (λ (s : Live). length s.queue.waiting) one ∙ many in
    let rest = push_wrote z cs T₂ y.formed (omega (arith, count)) in
    let e : length cs + suc n ≡ suc (length cs) + n = omega arith in
    record {
      formed = rest.formed;
      holds = rest.holds ∙ ap (λ (s : Live). with_waiting s (length cs + s.queue.sequence) (insert_all table cs s.queue.waiting)) one ∙ ap (λ (k : ℕ). with_waiting (live z T) k (insert_all table cs (insert_copy c w))) e;
    }
