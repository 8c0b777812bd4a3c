-- Document 01, 'The book', Accept: each recipient in host order.
use Rattle.std.specs.Prelude.{ℕ, suc, ◌+◌, Bool, true, false, cond, not, ◌&&◌, ◌||◌, List, [], ◌∷◌, ◌++◌, eqb, length, get_or, set}
use Rattle.table_rows.specs.Rows.{keep}
use Rattle.table_waiting.specs.declared.Copy.{Copy}
use Rattle.fault_decide.specs.Decide.{Decision, rules_after}
use Rattle.table_ring.specs.Ring.{push}
use Rattle.spec_network.specs.Lists.{bit, below, bit_at}
use Rattle.table_rings.specs.Rings.{slots}
use Rattle.spec_network.specs.Opening.{Draw, Opening, link, global}
use Rattle.spec_network.specs.Layout.{Layout, Marks, Rings, no_marks, with_mark, with_copy, ring_of, with_ring}
use Rattle.spec_network.specs.Live.{Carried, Context, Engine, LiveBy, with_rules, with_seen, with_engine, with_rings, with_words, with_waiting, marked, till_at, stopped}

-- an outbox entry as the caller lends it; the tag stands for its payload
pub record Entry : Type 0 where
  pub from : ℕ
  pub now : ℕ
  pub kind : ℕ
  pub class : ℕ
  pub scope : ℕ
  pub wire : List ℕ
  pub tag : ℕ

-- the entry with its id and its wire length
pub record Message : Type 0 where
  pub from : ℕ
  pub now : ℕ
  pub kind : ℕ
  pub class : ℕ
  pub scope : ℕ
  pub wire : ℕ
  pub id : ℕ
  pub tag : ℕ

abbrev pub message_of : Opening → Entry → Message
message_of o e = record { from = e.from; now = e.now; kind = e.kind; class = e.class; scope = e.scope; wire = length e.wire; id = o.draws.id e.kind e.scope e.wire; tag = e.tag }

-- ---- Recipients

-- all tills for a global entry, else those whose mask holds its shard
abbrev pub receives : {k : Layout} → LiveBy k → ℕ → ℕ → Bool
receives s scope t = eqb scope global || bit_at (till_at s t).shards scope

-- selected means recipients other than the sender; in host order
abbrev pub selected : {k : Layout} → Opening → LiveBy k → ℕ → ℕ → List ℕ
selected o s scope from = keep (λ t. receives s scope t && not (eqb t from)) (below o.sizes.tills)

-- those of an entry
abbrev pub chosen : {k : Layout} → Opening → LiveBy k → Entry → List ℕ
chosen o s e = selected o s e.scope e.from

-- WHAT AN ENTRY MEETS, before its recipients are judged: the live part as it stands
abbrev pub entered : {k : Layout} → Opening → Entry → LiveBy k → LiveBy k
entered o e s = s

-- ---- The draws for one recipient, in their order

-- what is echoed: the message once more, or a replay of what the ring keeps
pub record Echoed : Type 0 where
  pub replay : Bool
  pub carried : Carried

abbrev pub duplicate_of : Carried → Echoed
duplicate_of c = record { replay = false; carried = c }

abbrev pub replay_of : Carried → Echoed
replay_of c = record { replay = true; carried = c }

pub record Timed : Type 0 where
  pub what : Echoed
  pub latency : ℕ

-- echoes with their latencies, and the link's word count after these
pub record Echoes : Type 0 where
  pub all : List Timed
  pub words : ℕ

pub record Drawn : Type 0 where
  pub loss : Draw Bool
  pub latency : Draw ℕ
  pub verdict : Decision
  pub echoes : Echoes

abbrev pub carried_of : Message → Carried
carried_of m = record { class = m.class; wire = m.wire; tag = m.tag }

abbrev pub ring_for : {k : Layout} → LiveBy k → Message → List Carried
ring_for {k} s m = ring_of k s.rings m.kind m.scope

abbrev pub is_empty : {A : Type 0} → List A → Bool
is_empty [] = true
is_empty (x ∷ xs) = false

-- a copy of what is carried: now plus latency; n is its sequence
abbrev pub copy_with : Message → (t n : ℕ) → Carried → (latency flag id : ℕ) → Copy
copy_with m t n c latency flag id = record {
  delivery = record { from = m.from; to = t; kind = m.kind; class = c.class; sent = m.now; time = m.now + latency; scope = m.scope; wire = c.wire };
  sequence = n;
  original = flag;
  id = id;
  tag = c.tag;
}

abbrev pub original : Message → (t n latency : ℕ) → Copy
original m t n latency = copy_with m t n (carried_of m) latency 1 m.id

-- an echo carries no id
abbrev pub echo : Message → (t n : ℕ) → Timed → Copy
echo m t n e = copy_with m t n e.what.carried e.latency 0 0

-- each takes the next sequence; n is the last one given
abbrev pub echo_copies : Message → (t n : ℕ) → List Timed → List Copy
echo_copies m t n [] = []
echo_copies m t n (e ∷ es) = echo m t (suc n) e ∷ echo_copies m t (suc n) es

module _ (o : Opening) (m : Message) (t : ℕ) where
  -- each echo's latency, one after the other
  abbrev pub timed : ℕ → List Echoed → Echoes
  timed words [] = record { all = []; words = words }
  timed words (e ∷ es) =
      let l = o.draws.latency m.from t e.carried.wire words in
      let rest = timed l.words es in
      record { all = record { what = e; latency = l.value } ∷ rest.all; words = rest.words }

  -- the replay draw; the ring index only after a hit on a ring that isn't empty
  abbrev pub replayed : List Carried → ℕ → Draw (List Echoed)
  replayed ring words =
      let hit = o.draws.replay m.from t words in
      let at = o.draws.index m.from t (length ring) hit.words in
      cond (hit.value && not (is_empty ring))
      (record { value = replay_of (get_or ring at.value (carried_of m)) ∷ []; words = at.words })
      (record { value = []; words = hit.words })

  -- duplicate draw, replay draw, ring index: what is echoed, duplicate first
  abbrev pub echoed : List Carried → ℕ → Draw (List Echoed)
  echoed ring words =
      let d = o.draws.duplicate m.from t words in
      let r = replayed ring d.words in
      record { value = cond d.value (duplicate_of (carried_of m) ∷ []) [] ++ r.value; words = r.words }

  -- where either echo rate is above 0; then the echoes' latencies
  abbrev pub echoes_of : List Carried → ℕ → Echoes
  echoes_of ring words =
      let e = echoed ring words in
      cond o.draws.echoing (timed e.words e.value) (record { all = []; words = words })

  -- what the rules are asked of: the tier is gossip's, 0
  abbrev pub context : Context
  context = record { kind = m.kind; from = m.from; to = t; tier = 0; now = m.now }

  -- loss draw, latency, fault rules, echoes
  unfoldable pub drawn : {k : Layout} → LiveBy k → Drawn
  drawn s =
      let l = o.draws.loss m.from t (get_or s.words (link m.from t) 0) in
      let d = o.draws.latency m.from t m.wire l.words in
      record { loss = l; latency = d; verdict = o.draws.decide context s.engine.rules s.engine.words; echoes = echoes_of (ring_for s m) d.words }

-- ---- Rules

-- the fault stream's word count moves, and the fired count of the rule that drops goes up
abbrev pub ruled : Engine → Decision → Engine
ruled e v = with_rules e (rules_after v e.rules) e.installed v.words

-- ---- One recipient

pub data Fate : Type 0 where
  deduplicated partition loss fault sent : Fate

-- a recipient goes under the first that fits: its mark stands, it is stopped, the loss draw hits, a rule drops it; else sent
abbrev pub first_fit : Bool → Bool → Bool → Bool → Fate
first_fit true p l f = deduplicated
first_fit false true l f = partition
first_fit false false true f = loss
first_fit false false false true = fault
first_fit false false false false = sent

abbrev pub insert_all : Layout → List Copy → List Copy → List Copy
insert_all k [] w = w
insert_all k (c ∷ cs) w = insert_all k cs (with_copy k c w)

abbrev pub mark : (k : Layout) → ℕ → ℕ → List (Marks k) → List (Marks k)
mark k t i seen = set seen t (with_mark k i (get_or seen t (no_marks k)))

module _ (o : Opening) (m : Message) where
  abbrev pub fate_of : {k : Layout} → LiveBy k → ℕ → Fate
  fate_of s t =
      let d = drawn o m t s in
      first_fit (marked s t m.id) (stopped s m.from t m.now) d.loss.value d.verdict.drops

  -- the copies of a sent recipient: the original, then its echoes; each takes the next sequence
  abbrev pub copies : {k : Layout} → LiveBy k → Drawn → ℕ → List Copy
  copies s d t = let n = suc s.queue.sequence in original m t n d.latency.value ∷ echo_copies m t n d.echoes.all

  abbrev pub words_moved : {k : Layout} → LiveBy k → ℕ → ℕ → LiveBy k
  words_moved s t n = with_words s (set s.words (link m.from t) n)

  -- the ring takes the message, and gives up its oldest first
  abbrev pub remembered : {k : Layout} → LiveBy k → Rings k
  remembered {k} s = cond o.draws.echoing (with_ring k s.rings m.kind m.scope (push slots (ring_for s m) (carried_of m))) s.rings

  -- sent sets the mark and puts the copies into waiting; then the ring takes the message
  abbrev pub effect : {k : Layout} → Fate → LiveBy k → Drawn → ℕ → LiveBy k
  effect deduplicated s d t = s
  effect partition s d t = s
  effect loss s d t = words_moved s t d.loss.words
  effect fault s d t = with_engine (words_moved s t d.latency.words) (ruled s.engine d.verdict)
  effect {k} sent s d t =
      let cs = copies s d t in
      let s₁ = with_engine (words_moved s t d.echoes.words) (ruled s.engine d.verdict) in
      let s₂ = with_seen s₁ (mark k t m.id s.seen) in
      let s₃ = with_waiting s₂ (length cs + s.queue.sequence) (insert_all k cs s.queue.waiting) in
      with_rings s₃ (remembered s)

  unfoldable pub offered : {k : Layout} → LiveBy k → ℕ → LiveBy k
  offered s t = effect (fate_of s t) s (drawn o m t s) t

  -- the selected in host order, each on what the one before left
  abbrev pub live_after : {k : Layout} → LiveBy k → List ℕ → LiveBy k
  live_after s [] = s
  live_after s (t ∷ ts) = live_after (offered s t) ts

-- ---- The five counts

-- a selected till, and what it goes under
pub record Booked : Type 0 where
  pub till : ℕ
  pub fate : Fate

module _ (o : Opening) (m : Message) where
  abbrev pub booked : {k : Layout} → LiveBy k → List ℕ → List Booked
  booked s [] = []
  booked s (t ∷ ts) = record { till = t; fate = fate_of o m s t } ∷ booked (offered o m s t) ts

pub record Counts : Type 0 where
  pub sent : ℕ
  pub deduplicated : ℕ
  pub partition : ℕ
  pub loss : ℕ
  pub fault : ℕ

abbrev pub fate_number : Fate → ℕ
fate_number sent = 0
fate_number deduplicated = 1
fate_number partition = 2
fate_number loss = 3
fate_number fault = 4

abbrev pub is_fate : Fate → Fate → Bool
is_fate j k = eqb (fate_number j) (fate_number k)

abbrev pub no_counts : Counts
no_counts = record { sent = 0; deduplicated = 0; partition = 0; loss = 0; fault = 0 }

abbrev pub add : Fate → Counts → Counts
add k n = record {
  sent = bit (is_fate k sent) + n.sent;
  deduplicated = bit (is_fate k deduplicated) + n.deduplicated;
  partition = bit (is_fate k partition) + n.partition;
  loss = bit (is_fate k loss) + n.loss;
  fault = bit (is_fate k fault) + n.fault;
}

abbrev pub tally : List Booked → Counts
tally [] = no_counts
tally (b ∷ bs) = add b.fate (tally bs)

abbrev pub total : Counts → ℕ
total n = n.sent + n.deduplicated + n.partition + n.loss + n.fault
