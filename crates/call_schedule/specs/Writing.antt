-- Document 01, 'The book', Accept: what an offer writes, table by table, in the terms of `Writes`.
use Rattle.std.specs.Prelude.{ℕ, suc, ◌+◌, ◌*◌, ◌≤◌, ◌<◌, ◌≡◌, true, cond, List, ◌∷◌, length, set, Option, Some, None, IfSome}
use Rattle.table_shift.specs.Shift.{put_words}
use Rattle.table_rows.specs.Table.{over}
use Rattle.table_marks.specs.Marks.{ids_of, placed}
use Rattle.table_waiting.specs.declared.Copy.{Copy}
use Rattle.table_waiting.specs.Waiting.{insert_copy, copies, form, width}
use Rattle.link_latency.specs.Latency.{longest}
use Rattle.table_rings.specs.Rings.{number_of, pushed}
use Rattle.spec_network.specs.Opening.{Opening, Sizes, Settings, link, links, last_number, most_types, most_tills}
use Rattle.spec_network.specs.Live.{ids_at, rings_of}
use Rattle.spec_network.specs.Tables.{cell, Tables, live, sizes_at, setup_width, net_width, ids_start, sequence_at, waiting_at, fault_words_at}
use Rattle.spec_network.specs.Accept as accept
use Rattle.spec_network.specs.Accept.{copy_with, original, echo_copies, carried_of, Fate, deduplicated, partition, loss, fault, sent}
use Rattle.spec_network.specs.Writes.{words_t, net_t, ruled_t, marks_t, push_t, remember_t}
use Rattle.spec_network.specs.Real.{opening_at}
use Rattle.spec_network.specs.Lending.{lend_apply, lend_send}
use Rattle.call_offer.specs.declared.Outgoing.{Outgoing}
use Rattle.call_offer.specs.declared.Echo.{Echo}
use Rattle.call_offer.specs.declared.Sending.{Sending}
use Rattle.call_offer.specs.declared.Offer.{Offer}
use Rattle.call_offer.specs.declared.Offer.TheVariants.{Deduplicated, Partition, Loss, Fault, Sent}
use Rattle.call_offer.specs.Needed.{Ranged, RingsHeld, SeenHeld}
use Rattle.call_offer.specs.Offering.{as_message, echoing_at, echoes_in}
use Rattle.call_schedule.specs.declared.Counts.{Counts}

-- ---- One leaf each

-- a mark more for the till
abbrev pub marked_seen : Sizes → List ℕ → (t id : ℕ) → List ℕ
marked_seen z seen t id = let ids = placed id (ids_of seen (ids_start z t) (cell seen t)) in set (put_words seen (ids_start z t) ids) t (length ids)

abbrev pub with_sequence : Copy → ℕ → Copy
with_sequence c n = record { delivery = c.delivery; sequence = n; original = c.original; id = c.id; tag = c.tag }

-- a copy takes the next sequence and stands among those that wait
abbrev pub queue : (net waiting : List ℕ) → Copy → List Copy
queue net waiting c = insert_copy (with_sequence c (suc (cell net sequence_at))) (copies waiting (cell net waiting_at))

unfoldable pub pushed_net : Option Copy → (net waiting : List ℕ) → List ℕ
pushed_net (Some c) net waiting = set (set net sequence_at (suc (cell net sequence_at))) waiting_at (length (queue net waiting c))
pushed_net None net waiting = net

unfoldable pub pushed_waiting : Option Copy → (net waiting : List ℕ) → List ℕ
pushed_waiting (Some c) net waiting = over form (queue net waiting c) waiting
pushed_waiting None net waiting = waiting

-- an original has an id, and an echo none, which is 0 in its row
abbrev pub flag_in : Option ℕ → ℕ
flag_in (Some i) = 1
flag_in None = 0

abbrev pub id_in : Option ℕ → ℕ
id_in (Some i) = i
id_in None = 0

-- the copy of an echo
abbrev pub echo_in : accept.Message → ℕ → Option Echo → Option Copy
echo_in m t (Some e) = Some (copy_with m t 0 e.entry e.latency 0 0)
echo_in m t None = None

-- the ring takes the message, where an echo rate is above 0
abbrev pub remembered : Settings → List ℕ → accept.Message → List ℕ
remembered x rings m = cond (echoing_at x) (pushed (rings_of x.sizes) rings (number_of m.kind m.scope) (carried_of m)) rings

-- room for one copy more
pub record Room (net waiting : List ℕ) (n : ℕ) : Type 0 where
  pub size : 2 ≤ length net
  pub numbers : cell net sequence_at + n ≤ last_number
  pub slots : (cell net waiting_at + n) * width ≤ length waiting

-- what sending needs of the tables
pub record Sendable (setup net words seen waiting rings : List ℕ) (m : Outgoing) (t : ℕ) (x : Sending) : Type 0 where
  pub setup_size : length setup ≡ setup_width
  pub types : (sizes_at setup).types ≤ most_types
  pub tills : (sizes_at setup).tills ≤ most_tills
  pub ranged : Ranged setup m
  pub below : t < (sizes_at setup).tills
  pub net_size : length net ≡ net_width
  pub words_size : length words ≡ links
  pub seen_held : SeenHeld (sizes_at setup) seen
  pub slot : cell seen t < (sizes_at setup).seen_slots
  pub room : Room net waiting 3
  pub rings_held : RingsHeld (sizes_at setup) rings
  pub soon : x.latency ≤ longest
  pub first : IfSome x.echoes.duplicate (λ e. e.latency ≤ longest)
  pub second : IfSome x.echoes.replay (λ e. e.latency ≤ longest)

-- what applying an offer needs; of one that is sent, what sending needs
pub record Applicable (setup net words seen waiting rings : List ℕ) (m : Outgoing) (t : ℕ) (r : Offer) : Type 0 where
  pub sender : m.from < most_tills
  pub below : t < most_tills
  pub net_size : length net ≡ net_width
  pub words_size : length words ≡ links
  pub sendable : (x : Sending) → r ≡ Sent x → Sendable setup net words seen waiting rings m t x

-- ---- What an offer writes

-- sent: word counts, the mark, the original, its echoes, the ring
unfoldable pub sent_t : Opening → accept.Message → Tables → ℕ → Sending → Tables
sent_t o m T t x =
    let s = live o.sizes T in
    let T₁ = net_t (words_t T (link m.from t) x.echoes.words) fault_words_at x.fault in
    let T₂ = marks_t o.sizes T₁ t (placed m.id (ids_at s t)) in
    let n = suc s.queue.sequence in
    remember_t o m (push_t o.sizes T₂ (original m t n x.latency ∷ echo_copies m t n (echoes_in x.echoes)))

unfoldable pub offer_t : Opening → accept.Message → Tables → ℕ → Offer → Tables
offer_t o m T t Deduplicated = T
offer_t o m T t Partition = T
offer_t o m T t (Loss n) = words_t T (link m.from t) n
offer_t o m T t (Fault f) = ruled_t (words_t T (link m.from t) f.words) (record { drops = true; place = f.place; words = f.fault })
offer_t o m T t (Sent x) = sent_t o m T t x

-- so it is whatever the tables hold that are not lent: those before, and those after
unfoldable pub Sends : Outgoing → ℕ → Sending → (setup net words seen waiting rings net' words' seen' waiting' rings' : List ℕ) → Type 0
Sends m t x setup net words seen waiting rings net' words' seen' waiting' rings' =
    (L : Tables) → let T = lend_send L setup net words seen waiting rings in
    lend_send L setup net' words' seen' waiting' rings' ≡ sent_t (opening_at T) (as_message m) T t x

unfoldable pub Applies : Outgoing → ℕ → Offer → (setup net words seen waiting rings rules net' words' seen' waiting' rings' rules' : List ℕ) → Type 0
Applies m t r setup net words seen waiting rings rules net' words' seen' waiting' rings' rules' =
    (L : Tables) → let T = lend_apply L setup net words seen waiting rings rules in
    lend_apply L setup net' words' seen' waiting' rings' rules' ≡ offer_t (opening_at T) (as_message m) T t r

-- ---- The five counts

abbrev pub fate_in : Offer → Fate
fate_in Deduplicated = deduplicated
fate_in Partition = partition
fate_in (Loss n) = loss
fate_in (Fault f) = fault
fate_in (Sent x) = sent

-- the counts as `Accept` has them
abbrev pub counts_of : Counts → accept.Counts
counts_of c = record { sent = c.sent; deduplicated = c.deduplicated; partition = c.partition; loss = c.loss; fault = c.fault }
