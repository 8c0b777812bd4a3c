-- A call whose questions are answered "yes" leaves a live part that fits the tables: one recipient, and all of an accept.
use mathlib.Core.Path.{◌≡◌, refl, ap, ◌∙◌}
use Prim.Native.Nat.{ℕ, zero, suc, ◌+◌, ◌*◌, ◌≤◌, ◌<◌}
use native.Mathlib.Omega.{arith}
use native.Mathlib.Nat.{le_refl}
use mathlib.Core.Bool.{Bool, true, false, cond, ◌||◌}
use mathlib.Core.List.{List, [], ◌∷◌, ◌++◌}
use lib.Dec.{eqb, leb, ltb}
use lib.ListN.{length, get_or, set, drop, length-set, length-append}
use lib.Seq.{get_or-set_same, get_or-set_other}
use borrow.Author.Tests.{ltb-true, eqb-true, eqb-false, lt-ltb}
use Rattle.table_rows.specs.Rows.{pick, keep}
use Rattle.table_rows.specs.Lists.{Each}
use Rattle.table_ring.specs.Ring.{push}
use Rattle.table_rows.proofs.Lists.{each_map}
use Rattle.table_delivery.specs.declared.Delivery.{Delivery}
use Rattle.table_waiting.specs.Waiting.{before, ordered, insert_copy}
use Rattle.table_waiting.specs.declared.Copy.{Copy}
use Rattle.table_waiting.proofs.Order.{length_insert, each_insert}
use Rattle.table_marks.specs.Marks.{placed, Ordered}
use Rattle.table_marks.proofs.Ordered.{none_ordered, length_placed, ordered_placed}
use Rattle.fault_rules.specs.declared.FaultRule.{FaultRule}
use Rattle.fault_decide.specs.Decide.{Decision, rules_after}
use Rattle.spec_network.specs.Opening.{Sizes, Opening, links, longest_wire, most_tills, most_types, most_classes, most_shards, most_slots}
use Rattle.fault_rules.specs.Rules.{rule_slots, fire_at}
use Rattle.fault_blocks.specs.Blocks.{block_slots}
use Rattle.fault_blocks.specs.declared.BlockWindow.{BlockWindow}
use Rattle.table_rings.specs.Rings.{slots, number_of}
use Rattle.spec_network.specs.Layout.{Layout, plain, table, with_copy}
use Rattle.spec_network.specs.Live.{Carried, Till, Engine, Live, LiveBy, rings_of, ids_at, marked, stopped}
use Rattle.table_log.specs.Log as log
use Rattle.table_log.specs.Log.{Log}
use Rattle.spec_network.specs.Accept.{Message, Timed, Drawn, drawn, original, echo, echo_copies, carried_of, ring_for, Fate, deduplicated, partition, loss, fault, sent, fate_of, copies, insert_all, mark, remembered, ruled, effect, offered, live_after}
use Rattle.spec_network.specs.Lent.{near_till, near_delivery, near_copy, near_block, near_carried}
use Rattle.spec_book.proofs.Each.{both, join, each_set, each_at, each_push}
use Rattle.spec_book.proofs.Marks.{found_placed}
use Rattle.spec_book.proofs.Counting.{length_echoes}
use Rattle.spec_book.proofs.Echoing.{drawn_few, drawn_each}
use Rattle.spec_book.proofs.Sound.{Below, sent_unmarked}

-- ---- Lengths

module _ {A : Type 0} where
  pub length_keep : (q : A → Bool) (l : List A) → length (keep q l) ≤ length l
  length_keep q [] = le_refl _
  length_keep q (a ∷ l) = go (q a) (length_keep q l)
    where
      go : (b : Bool) → length (keep q l) ≤ length l → length (pick b (a ∷ keep q l) (keep q l)) ≤ suc (length l)
      go true h = omega arith
      go false h = omega arith

  drop_one : (l : List A) (x : A) → length (drop 1 (l ++ (x ∷ []))) ≡ length l
  drop_one [] x = refl
  drop_one (a ∷ l) x = length-append l (x ∷ []) ∙ omega arith

  -- no more than the places
  pub length_push : (n : ℕ) (l : List A) (x : A) → length l ≤ n → length (push n l x) ≤ n
  length_push n l x h = go (ltb (length l) n) refl
    where
      go : (b : Bool) → ltb (length l) n ≡ b → length (cond b (l ++ (x ∷ [])) (drop 1 (l ++ (x ∷ [])))) ≤ n
      go true e = omega (arith, length-append l (x ∷ []), ltb-true (length l) n e)
      go false e = omega (arith, drop_one l x, h)

length_ordered : (c : Copy) (w : List Copy) → length (ordered c w) ≡ suc (length w)
length_ordered c [] = refl
length_ordered c (x ∷ w) = go (before c x) (length_ordered c w)
  where
    go : (b : Bool) → length (ordered c w) ≡ suc (length w) → length (cond b (c ∷ x ∷ w) (x ∷ ordered c w)) ≡ suc (suc (length w))
    go true h = refl
    go false h = ap suc h

length_copy : (k : Layout) (c : Copy) (w : List Copy) → length (with_copy k c w) ≡ suc (length w)
length_copy plain c w = length_ordered c w
length_copy table c w = length_insert c w

pub length_insert_all : (k : Layout) (cs w : List Copy) → length (insert_all k cs w) ≡ length cs + length w
length_insert_all k [] w = omega arith
length_insert_all k (c ∷ cs) w = omega (arith, length_insert_all k cs (with_copy k c w), length_copy k c w)

each_insert_all : (P : Copy → Type 0) (cs w : List Copy) → Each P cs → Each P w → Each P (insert_all table cs w)
each_insert_all P [] w e h = h
each_insert_all P (c ∷ cs) w e h = each_insert_all P cs (insert_copy c w) e.1 (each_insert P c w e.0 h)

pub length_fire_at : (k : ℕ) (rs : List FaultRule) → length (fire_at k rs) ≡ length rs
unfolding fire_at
length_fire_at k [] = refl
length_fire_at zero (r ∷ rs) = refl
length_fire_at (suc k) (r ∷ rs) = ap suc (length_fire_at k rs)

-- deciding changes no rule's place
pub length_ruled : (v : Decision) (rs : List FaultRule) → length (rules_after v rs) ≡ length rs
length_ruled v rs = go v.drops
  where
    go : (b : Bool) → length (cond b (fire_at v.place rs) rs) ≡ length rs
    go true = length_fire_at v.place rs
    go false = refl

-- ---- The live part fits the tables

-- what question 2 leaves of the sizes
pub record Limited (z : Sizes) : Type 0 where
  pub tills : z.tills ≤ most_tills
  pub seen : z.seen_slots ≤ most_slots
  pub waiting : z.wait_slots ≤ most_slots
  pub log : z.log_slots ≤ most_slots
  pub types : z.types ≤ most_types
  pub classes : z.classes ≤ most_classes
  pub shards : z.shards ≤ most_shards

abbrev pub Small : ℕ → List ℕ → Type 0
Small k ids = length ids ≤ k

module _ (z : Sizes) where
  pub record EngineFits (e : Engine) : Type 0 where
    pub blocks : length e.blocks ≤ block_slots
    pub rules : length e.rules ≤ rule_slots
    pub near : Each (λ (b : BlockWindow). near_block z b ≡ true) e.blocks

  abbrev pub NearRing : List Carried → Type 0
  NearRing l = Each (λ (c : Carried). near_carried z c ≡ true) l

  pub record RingsFit (r : List (List Carried)) : Type 0 where
    pub many : length r ≡ rings_of z
    pub small : Each (λ (l : List Carried). length l ≤ slots) r
    pub near : Each NearRing r

  pub record QueueFits (w : List Copy) : Type 0 where
    pub few : length w ≤ z.wait_slots
    pub near : Each (λ (c : Copy). near_copy z c ≡ true) w

  pub record LogFits (l : Log) : Type 0 where
    pub records : length l.records ≤ z.log_slots
    pub tallies : length l.tallies ≡ log.classes
    pub near : Each (λ (d : Delivery). near_delivery z d ≡ true) l.records

  pub record Fits (s : Live) : Type 0 where
    pub tills : length s.tills ≡ z.tills
    pub masks : Each (λ (t : Till). near_till z t ≡ true) s.tills
    pub hosts : length s.seen ≡ z.tills
    pub seen : Each (Small z.seen_slots) s.seen
    pub ordered : Each Ordered s.seen
    pub engine : EngineFits s.engine
    pub rings : RingsFit s.rings
    pub words : length s.words ≡ links
    pub queue : QueueFits s.queue.waiting
    pub log : LogFits s.log

  -- a message whose sender, type, class, ring and wire length are in range
  pub record NearMessage (m : Message) : Type 0 where
    pub from : ltb m.from z.tills ≡ true
    pub kind : ltb m.kind z.types ≡ true
    pub class : ltb m.class z.classes ≡ true
    pub ring : number_of m.kind m.scope < rings_of z
    pub wire : leb m.wire longest_wire ≡ true

pub ruled_fits : (z : Sizes) (e : Engine) (v : Decision) → EngineFits z e → EngineFits z (ruled e v)
ruled_fits z e v f = record { blocks = f.blocks; rules = rw (length_ruled v e.rules) f.rules; near = f.near }

-- ---- One recipient

module _ (o : Opening) (m : Message) where
  pub few_copies : {k : Layout} (s : LiveBy k) (d : Drawn) (t : ℕ) → length d.echoes.all ≤ 2 → length (copies o m s d t) ≤ 3
  few_copies s d t h = omega (arith, length_echoes m t (suc s.queue.sequence) d.echoes.all)

  abbrev pub NearCopy : Copy → Type 0
  NearCopy c = near_copy o.sizes c ≡ true

  -- what an echo carries is in range
  abbrev pub NearTimed : Timed → Type 0
  NearTimed e = near_carried o.sizes e.what.carried ≡ true

  near_original : NearMessage o.sizes m → (t n l : ℕ) → t < o.sizes.tills → NearCopy (original m t n l)
  near_original k t n l b = rw (k.from, lt-ltb t o.sizes.tills b, k.kind, k.class)

  near_echo : NearMessage o.sizes m → (t : ℕ) → t < o.sizes.tills → (n : ℕ) (e : Timed) → NearTimed e → NearCopy (echo m t n e)
  near_echo k t b n e h =
      let c = e.what.carried in
      rw (k.from, lt-ltb t o.sizes.tills b, k.kind, (both (ltb c.class o.sizes.classes) (leb c.wire longest_wire) h).0)

  near_echoes : NearMessage o.sizes m → (t : ℕ) → t < o.sizes.tills → (n : ℕ) (es : List Timed) → Each NearTimed es → Each NearCopy (echo_copies m t n es)
  near_echoes k t b n [] h = tt
  near_echoes k t b n (e ∷ es) h = (near_echo k t b (suc n) e h.0, near_echoes k t b (suc n) es h.1)

  near_own : NearMessage o.sizes m → near_carried o.sizes (carried_of m) ≡ true
  near_own k = join _ _ k.class k.wire

  near_ring : (s : Live) → RingsFit o.sizes s.rings → NearRing o.sizes (ring_for s m)
  near_ring s f = each_at (NearRing o.sizes) s.rings (number_of m.kind m.scope) [] f.near tt

  -- what the draws for a recipient give
  pub record Good (d : Drawn) : Type 0 where
    pub few : length d.echoes.all ≤ 2
    pub near : Each NearTimed d.echoes.all

  pub drawn_good : NearMessage o.sizes m → (s : Live) (t : ℕ) → t < o.sizes.tills → Fits o.sizes s → Good (drawn o m t s)
  unfolding drawn
  drawn_good k s t b f = record {
    few = drawn_few o m t s;
    near = drawn_each o m t NearTimed (λ (c : Carried). near_carried o.sizes c ≡ true) (λ e w h. h) (near_own k) s (near_ring s f.rings);
  }

  -- question 10 at a till
  abbrev pub Ready : Live → ℕ → Type 0
  Ready s t = (marked s t m.id || ltb (length (ids_at s t)) o.sizes.seen_slots) ≡ true

  pub room : (s : Live) (t : ℕ) → Ready s t → marked s t m.id ≡ false → length (ids_at s t) < o.sizes.seen_slots
  room s t r f = ltb-true _ _ (rw f at r)

  remembered_fits : NearMessage o.sizes m → (s : Live) → RingsFit o.sizes s.rings → RingsFit o.sizes (remembered o m s)
  remembered_fits k s f = go o.draws.echoing
    where
      r : List (List Carried)
      r = s.rings

      at : ℕ
      at = number_of m.kind m.scope

      ring : List Carried
      ring = get_or r at []

      go : (b : Bool) → RingsFit o.sizes (cond b (set r at (push slots ring (carried_of m))) r)
      go true = record {
        many = length-set r at (push slots ring (carried_of m)) ∙ f.many;
        small = each_set (λ (l : List Carried). length l ≤ slots) r at (push slots ring (carried_of m)) f.small (length_push slots ring (carried_of m) (each_at (λ (l : List Carried). length l ≤ slots) r at [] f.small (omega arith)));
        near = each_set (NearRing o.sizes) r at (push slots ring (carried_of m)) f.near
            (each_push (λ (c : Carried). near_carried o.sizes c ≡ true) slots ring (carried_of m) (each_at (NearRing o.sizes) r at [] f.near tt) (near_own k));
      }
      go false = f

  module _ (k : NearMessage o.sizes m) (s : Live) (d : Drawn) (t : ℕ) (f : Fits o.sizes s) (g : Good d) where
    pub effect_fits : (c : Fate) → (c ≡ sent → marked s t m.id ≡ false) → t < o.sizes.tills → Ready s t → length s.queue.waiting + 3 ≤ o.sizes.wait_slots → Fits o.sizes (effect o m c s d t)
    effect_fits deduplicated h b r w = f
    effect_fits partition h b r w = f
    effect_fits loss h b r w = record { tills = f.tills; masks = f.masks; hosts = f.hosts; seen = f.seen; ordered = f.ordered; engine = f.engine; rings = f.rings; words = length-set s.words _ _ ∙ f.words; queue = f.queue; log = f.log }
    effect_fits fault h b r w = record { tills = f.tills; masks = f.masks; hosts = f.hosts; seen = f.seen; ordered = f.ordered; engine = ruled_fits o.sizes s.engine d.verdict f.engine; rings = f.rings; words = length-set s.words _ _ ∙ f.words; queue = f.queue; log = f.log }
    effect_fits sent h b r w = record {
      tills = f.tills;
      masks = f.masks;
      hosts = length-set s.seen t _ ∙ f.hosts;
      seen = each_set (Small o.sizes.seen_slots) s.seen t (placed m.id (ids_at s t)) f.seen (omega (arith, room s t r (h refl), length_placed m.id (ids_at s t)));
      ordered = each_set Ordered s.seen t (placed m.id (ids_at s t)) f.ordered (ordered_placed m.id (ids_at s t) (h refl) (each_at Ordered s.seen t [] f.ordered none_ordered));
      engine = ruled_fits o.sizes s.engine d.verdict f.engine;
      rings = remembered_fits k s f.rings;
      words = length-set s.words _ _ ∙ f.words;
      queue = record {
        few = omega (arith, length_insert_all table (copies o m s d t) s.queue.waiting, few_copies s d t g.few);
        near = each_insert_all (λ (c : Copy). near_copy o.sizes c ≡ true) (copies o m s d t) s.queue.waiting
            (near_original k t (suc s.queue.sequence) d.latency.value b, near_echoes k t b (suc s.queue.sequence) d.echoes.all g.near) f.queue.near;
      };
      log = f.log;
    }

    pub effect_length : (c : Fate) → length (effect o m c s d t).queue.waiting ≤ length s.queue.waiting + 3
    effect_length deduplicated = omega arith
    effect_length partition = omega arith
    effect_length loss = omega arith
    effect_length fault = omega arith
    effect_length sent = omega (arith, length_insert_all table (copies o m s d t) s.queue.waiting, few_copies s d t g.few)

    pub effect_ready : (c : Fate) → (c ≡ sent → marked s t m.id ≡ false) → t < o.sizes.tills → (u : ℕ) → Ready s u → Ready (effect o m c s d t) u
    effect_ready deduplicated h b u r = r
    effect_ready partition h b u r = r
    effect_ready loss h b u r = r
    effect_ready fault h b u r = r
    effect_ready sent h b u r = go (eqb u t) refl
      where
        go : (x : Bool) → eqb u t ≡ x → Ready (effect o m sent s d t) u
        go true p = rw (there, found_placed m.id (ids_at s t) own (h refl))
          where
            own : Ordered (ids_at s t)
            own = each_at Ordered s.seen t [] f.ordered none_ordered

            there : get_or (mark table t m.id s.seen) u [] ≡ placed m.id (ids_at s t)
            there = ap (λ (x : ℕ). get_or (mark table t m.id s.seen) x []) (eqb-true u t p) ∙ get_or-set_same s.seen t (placed m.id (ids_at s t)) [] (omega (arith, f.hosts))
        go false p = rw (get_or-set_other s.seen t u (placed m.id (ids_at s t)) [] (eqb-false u t p)) r

  pub accept_fits : NearMessage o.sizes m → (ts : List ℕ) (s : Live) → Below o.sizes.tills ts → Each (Ready s) ts → length s.queue.waiting + 3 * length ts ≤ o.sizes.wait_slots → Fits o.sizes s → Fits o.sizes (live_after o m s ts)
  unfolding offered
  accept_fits k [] s b r w f = f
  accept_fits k (t ∷ ts) s b r w f =
      let d = drawn o m t s in
      let c = fate_of o m s t in
      let g = drawn_good k s t b.0 f in
      let free : c ≡ sent → marked s t m.id ≡ false = sent_unmarked (marked s t m.id) (stopped s m.from t m.now) d.loss.value d.verdict.drops in
      accept_fits k ts (offered o m s t) b.1 (each_map (Ready s) (Ready (offered o m s t)) ts (λ u. effect_ready k s d t f g c free b.0 u) r.1)
      (omega (arith, effect_length k s d t f g c))
      (effect_fits k s d t f g c free b.0 r.0 (omega arith))
