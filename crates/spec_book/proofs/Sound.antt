-- What holds of every book: each copy is in one place, no original is scheduled twice, waiting is in order, no window is empty.
use mathlib.Core.Path.{◌≡◌, refl, sym, ◌∙◌, subst}
use Prim.Native.Nat.{ℕ, zero, suc, ◌+◌, ◌<◌}
use native.Mathlib.Omega.{arith}
use mathlib.Core.Bool.{Bool, true, false, cond, ◌&&◌}
use mathlib.Core.List.{List, [], ◌∷◌}
use lib.ListN.{length, get_or, replicate, length-set, length-replicate}
use borrow.Author.Tests.{lt-ltb, lt-leb}
use Rattle.table_rows.specs.Rows.{pick, keep}
use Rattle.table_rows.specs.Lists.{Each}
use Rattle.table_waiting.specs.Waiting.{ordered, Sorted}
use Rattle.table_waiting.specs.declared.Copy.{Copy}
use Rattle.table_waiting.proofs.Order.{sorted_insert, insert_ordered}
use Rattle.table_marks.specs.Marks.{member, Rises}
use Rattle.fault_rule.specs.declared.DropSpec.{DropSpec}
use Rattle.fault_card.specs.Card.{fields_of}
use Rattle.fault_rules.specs.Rules.{Ascending, fire_at, with_rule}
use Rattle.fault_rules.specs.declared.FaultRule.{FaultRule}
use Rattle.fault_rules.proofs.Ids.{install_ascends, remove_ascends, fire_ascends}
use Rattle.fault_decide.specs.Decide.{Decision, rules_after}
use Rattle.fault_blocks.specs.declared.BlockWindow.{BlockWindow}
use Rattle.spec_network.specs.Lists.{bit, count, below}
use Rattle.spec_network.specs.Opening.{Opening}
use Rattle.spec_network.specs.Layout.{Layout, plain, Marks, inserted}
use Rattle.spec_network.specs.Live.{LiveBy, is_original, marked, ids_at, stopped}
use Rattle.spec_network.specs.Accept.{Message, message_of, selected, Drawn, drawn, Fate, deduplicated, partition, loss, fault, sent, first_fit, fate_of, copies, effect, offered, live_after, insert_all}
use Rattle.spec_network.specs.Flush.{served, stops, unmark, clearing}
use Rattle.spec_network.specs.Questions.{Room, asked_in, asked, first_no}
use Rattle.spec_network.specs.Calls.{Call, live_step, accept, flush, take_down, bring_up, handlers, block, block_during, unblock, install, remove, decide, drain, reading}
use Rattle.spec_book.specs.Book.{Book, Event, scheduled_in, landed_in, dropped_in, events_of, offer_events, events_after, happened, opened, book_step}
use Rattle.spec_book.specs.History.{has_sequence, given, standing}
use Rattle.spec_book.specs.Demand3.{RuleHolds, BlockHolds}
use Rattle.spec_book.proofs.Counting.{copies_count, count_insert_all, scheduling_scheduled, scheduling_landed, scheduling_dropped, flushing_scheduled, flushing_moved}
use Rattle.spec_book.proofs.Serving.{later_sorted, served_count}
use Rattle.spec_book.proofs.Marks.{Apart, echoes_standing, echoes_apart, member_set, member_empty, rises_inserted, clearing_rises, clearing_agrees, flushing_apart}
use Rattle.spec_book.proofs.Each.{each_set, each_at, each_replicate, each_up_to}
use Rattle.spec_book.proofs.Asking.{all_yes, apart}
use Rattle.spec_book.proofs.Windows.{install_windows, remove_windows, ruled_windows, always_windows, during_windows, unblock_windows}

-- It speaks of the parts that it needs, and so holds at once of a live part that differs elsewhere.
pub record Sound (tills : ℕ) (waiting : List Copy) (sequence : ℕ) (seen : List (List ℕ)) (installed : ℕ) (rules : List FaultRule) (blocks : List BlockWindow) (past : List Event) : Type 0 where
  pub places : (p : Copy → Bool) → count p (scheduled_in past) ≡ count p waiting + (count p (landed_in past) + count p (dropped_in past))
  pub numbers : (n : ℕ) → count (has_sequence n) (scheduled_in past) ≡ bit (given n sequence)
  pub marks : (t i : ℕ) → standing t i past ≡ member i (get_or seen t [])
  pub apart : Apart past
  pub order : Sorted waiting
  pub shape : length seen ≡ tills
  pub rises : Each Rises seen
  pub ids : Ascending 0 installed rules
  pub rule_windows : Each RuleHolds rules
  pub block_windows : Each BlockHolds blocks

abbrev pub SoundLive : Opening → LiveBy plain → List Event → Type 0
SoundLive o s past = Sound o.sizes.tills s.queue.waiting s.queue.sequence s.seen s.engine.installed s.engine.rules s.engine.blocks past

sorted_insert_all : (cs w : List Copy) → Sorted w → Sorted (insert_all plain cs w)
sorted_insert_all [] w h = h
sorted_insert_all (c ∷ cs) w h = sorted_insert_all cs (ordered c w) (subst Sorted (insert_ordered c w h) (sorted_insert c w h))

-- a decision leaves each rule its place and its id
ruled_ascends : (v : Decision) (n : ℕ) (rs : List FaultRule) → Ascending 0 n rs → Ascending 0 n (rules_after v rs)
ruled_ascends v n rs h = go v.drops
  where
    go : (b : Bool) → Ascending 0 n (cond b (fire_at v.place rs) rs)
    go true = fire_ascends v.place 0 n rs h
    go false = h

pub sent_unmarked : (m p l f : Bool) → first_fit m p l f ≡ sent → m ≡ false
sent_unmarked true p l f h = cc
sent_unmarked false p l f h = refl

-- ---- One recipient

module _ (o : Opening) (m : Message) (s : LiveBy plain) (d : Drawn) (t : ℕ) (past : List Event) (h : SoundLive o s past) where
  effect_sound : (k : Fate) → (k ≡ sent → marked s t m.id ≡ false) → t < o.sizes.tills → SoundLive o (effect o m k s d t) (events_of o m k s d t past)
  effect_sound deduplicated f b = h
  effect_sound partition f b = h
  effect_sound loss f b = h
  effect_sound fault f b = record {
    places = h.places;
    numbers = h.numbers;
    marks = h.marks;
    apart = h.apart;
    order = h.order;
    shape = h.shape;
    rises = h.rises;
    ids = ruled_ascends d.verdict s.engine.installed s.engine.rules h.ids;
    rule_windows = ruled_windows d.verdict s.engine.rules h.rule_windows;
    block_windows = h.block_windows;
  }
  effect_sound sent f b =
      let cs = copies o m s d t in
      let es = d.echoes.all in
      let n = suc s.queue.sequence in
      record {
        places = λ p. rw (scheduling_landed cs past, scheduling_dropped cs past)
            (omega (arith, scheduling_scheduled p cs past, count_insert_all p cs s.queue.waiting, h.places p));
        numbers = λ n. omega (arith, scheduling_scheduled (has_sequence n) cs past, copies_count m t d.latency.value es s.queue.sequence n, h.numbers n);
        marks = λ u j. echoes_standing m t u j n es _ ∙ rw (h.marks u j) (sym (member_set s.seen t m.id u j (omega (arith, h.shape))));
        apart = echoes_apart m t n es _ (λ z. h.marks t m.id ∙ f refl, h.apart);
        order = sorted_insert_all cs s.queue.waiting h.order;
        shape = length-set s.seen t _ ∙ h.shape;
        rises = each_set Rises s.seen t (inserted m.id (ids_at s t)) h.rises (rises_inserted m.id (ids_at s t) (f refl) (each_at Rises s.seen t [] h.rises tt));
        ids = ruled_ascends d.verdict s.engine.installed s.engine.rules h.ids;
        rule_windows = ruled_windows d.verdict s.engine.rules h.rule_windows;
        block_windows = h.block_windows;
      }

-- ---- The selected tills

abbrev pub Below : ℕ → List ℕ → Type 0
Below n ts = Each (λ t. t < n) ts

keep_below : (n : ℕ) (q : ℕ → Bool) (ts : List ℕ) → Below n ts → Below n (keep q ts)
keep_below n q [] h = tt
keep_below n q (t ∷ ts) h = go (q t) (keep_below n q ts h.1)
  where
    go : (b : Bool) → Below n (keep q ts) → Below n (pick b (t ∷ keep q ts) (keep q ts))
    go true r = (h.0, r)
    go false r = r

pub selected_below : (o : Opening) {k : Layout} (s : LiveBy k) (scope from : ℕ) → Below o.sizes.tills (selected o s scope from)
selected_below o s scope from = keep_below o.sizes.tills _ (below o.sizes.tills) (each_up_to (λ t. t < o.sizes.tills) o.sizes.tills (λ i. i) (λ j h. h))

module _ (o : Opening) (m : Message) where
  accept_sound : (ts : List ℕ) (s : LiveBy plain) (past : List Event) → Below o.sizes.tills ts → SoundLive o s past → SoundLive o (live_after o m s ts) (events_after o m s ts past)
  unfolding offered offer_events
  accept_sound [] s past b h = h
  accept_sound (t ∷ ts) s past b h =
      let d = drawn o m t s in
      accept_sound ts (offered o m s t) (offer_events o m s t past) b.1
      (effect_sound o m s d t past h (fate_of o m s t) (sent_unmarked (marked s t m.id) (stopped s m.from t m.now) d.loss.value d.verdict.drops) b.0)

-- ---- Every call

pub length_clearing : {k : Layout} (s : LiveBy k) (cs : List Copy) (seen : List (Marks k)) → length (clearing s cs seen) ≡ length seen
length_clearing s [] seen = refl
length_clearing {k} s (c ∷ cs) seen = length_clearing s cs _ ∙ go (stops s c && is_original c)
  where
    go : (b : Bool) → length (cond b (unmark k c.delivery.to c.id seen) seen) ≡ length seen
    go true = length-set seen c.delivery.to _
    go false = refl

install_next : (n : ℕ) (rs : List FaultRule) (d : DropSpec) → Ascending 0 n rs → Ascending 0 (suc n) (with_rule n d rs)
install_next n rs d h = let z : n + 1 ≡ suc n = omega arith in subst (λ (k : ℕ). Ascending 0 k (with_rule n d rs)) z (install_ascends 0 n rs d (omega arith) h)

module _ (o : Opening) where
  -- other rules, or other blocks
  with_rules_lem : (s : LiveBy plain) (past : List Event) → SoundLive o s past → (n : ℕ) (rs : List FaultRule) → Ascending 0 n rs → Each RuleHolds rs
      → Sound o.sizes.tills s.queue.waiting s.queue.sequence s.seen n rs s.engine.blocks past
  with_rules_lem s past h n rs a w = record {
    places = h.places;
    numbers = h.numbers;
    marks = h.marks;
    apart = h.apart;
    order = h.order;
    shape = h.shape;
    rises = h.rises;
    ids = a;
    rule_windows = w;
    block_windows = h.block_windows;
  }

  with_blocks : (s : LiveBy plain) (past : List Event) → SoundLive o s past → (bs : List BlockWindow) → Each BlockHolds bs
      → Sound o.sizes.tills s.queue.waiting s.queue.sequence s.seen s.engine.installed s.engine.rules bs past
  with_blocks s past h bs w = record {
    places = h.places;
    numbers = h.numbers;
    marks = h.marks;
    apart = h.apart;
    order = h.order;
    shape = h.shape;
    rises = h.rises;
    ids = h.ids;
    rule_windows = h.rule_windows;
    block_windows = w;
  }

  pub step_sound : (room : Room) (s : LiveBy plain) (c : Call) (past : List Event) → first_no (asked_in o room s c) ≡ 0 → SoundLive o s past → SoundLive o (live_step o s c) (happened o s c past)
  step_sound room s (accept e true) past y h = accept_sound o (message_of o e) (selected o s e.scope e.from) s past (selected_below o s e.scope e.from) h
  step_sound room s (accept e false) past y h = h
  step_sound room s (flush now rows) past y h = record {
    places = λ p. rw (flushing_scheduled s (served now rows s) past)
        (omega (arith, h.places p, flushing_moved p s (served now rows s) past, served_count now rows s p));
    numbers = λ n. rw (flushing_scheduled s (served now rows s) past) (h.numbers n);
    marks = clearing_agrees s (served now rows s) past s.seen h.marks;
    apart = flushing_apart s (served now rows s) past h.apart;
    order = later_sorted now rows s h.order;
    shape = length_clearing s (served now rows s) s.seen ∙ h.shape;
    rises = clearing_rises s (served now rows s) s.seen h.rises;
    ids = h.ids;
    rule_windows = h.rule_windows;
    block_windows = h.block_windows;
  }
  step_sound room s (take_down t) past y h = record {
    places = h.places;
    numbers = h.numbers;
    apart = h.apart;
    order = h.order;
    marks = λ u j. rw (h.marks u j) (sym (member_empty s.seen t u j));
    shape = length-set s.seen t [] ∙ h.shape;
    rises = each_set Rises s.seen t [] h.rises tt;
    ids = h.ids;
    rule_windows = h.rule_windows;
    block_windows = h.block_windows;
  }
  step_sound room s (bring_up t shards) past y h = h
  step_sound room s (handlers t gossip host) past y h = h
  step_sound room s (block from to) past y h = with_blocks s past h _ (always_windows from to s.engine.blocks h.block_windows)
  step_sound room s (block_during from to start end) past y h =
      let q = all_yes (asked o s (block_during from to start end)) (apart o s (block_during from to start end)) y in
      with_blocks s past h _ (during_windows from to start end s.engine.blocks q.1.1.0 h.block_windows)
  step_sound room s (unblock from to) past y h = with_blocks s past h _ (unblock_windows from to s.engine.blocks h.block_windows)
  step_sound room s (install card) past y h =
      let q = all_yes (asked o s (install card)) (apart o s (install card)) y in
      with_rules_lem s past h (suc s.engine.installed) _ (install_next s.engine.installed s.engine.rules (fields_of card) h.ids)
      (install_windows s.engine.installed (fields_of card) s.engine.rules q.1.1.0 h.rule_windows)
  step_sound room s (remove id) past y h =
      with_rules_lem s past h s.engine.installed _ (remove_ascends id 0 s.engine.installed s.engine.rules h.ids) (remove_windows id s.engine.rules h.rule_windows)
  step_sound room s (decide x) past y h =
      let v = o.draws.decide x s.engine.rules s.engine.words in
      with_rules_lem s past h s.engine.installed _ (ruled_ascends v s.engine.installed s.engine.rules h.ids) (ruled_windows v s.engine.rules h.rule_windows)
  step_sound room s (drain rows) past y h = h
  step_sound room s (reading r) past y h = h

  abbrev pub SoundBook : Book → Type 0
  SoundBook b = SoundLive o b.live b.past

  -- a call that no number refused
  pub book_sound : (b : Book) (room : Room) (c : Call) → first_no (asked_in o room b.live c) ≡ 0 → SoundBook b → SoundBook (book_step o b c false)
  book_sound b room c y h = step_sound room b.live c b.past y h

  none_marked : (n t i : ℕ) → false ≡ member i (get_or (replicate n []) t [])
  none_marked zero t i = refl
  none_marked (suc n) zero i = refl
  none_marked (suc n) (suc t) i = none_marked n t i

  none_given : (n : ℕ) → 0 ≡ bit (given n 0)
  none_given zero = refl
  none_given (suc n) = rw (lt-ltb 0 (suc n) (omega arith), lt-leb (suc n) 0 (omega arith))

  pub opened_sound : (masks : List ℕ) → SoundBook (opened o masks)
  opened_sound masks = record {
    places = λ p. refl;
    numbers = none_given;
    marks = none_marked o.sizes.tills;
    apart = tt;
    order = tt;
    shape = length-replicate o.sizes.tills [];
    rises = each_replicate Rises o.sizes.tills [] tt;
    ids = omega arith;
    rule_windows = tt;
    block_windows = tt;
  }
