-- Document 01, 'The book', Accept: what an offer says, the class of one recipient, and the draws that count for it, as `Accept` has them.
use Rattle.std.specs.Prelude.{ℕ, ◌+◌, ◌*◌, ◌≤◌, ◌≡◌, Bool, true, false, not, ◌&&◌, ◌||◌, List, [], ◌∷◌, ◌++◌, eqb, Option, Some, None, IfSome}
use Rattle.std.specs.Float.Ieee.{lt}
use Rattle.math_float.specs.Float.{zero64}
use Rattle.rand_streams.specs.declared.Cursor.{Cursor}
use Rattle.rand_draw.specs.Draw.{whole32_at, words32_at}
use Rattle.link_latency.specs.Latency.{longest}
use Rattle.fault_decide.specs.Decide.{Decision, decision, decide_of}
use Rattle.link_draws.specs.Drawing.{delay_draw}
use Rattle.call_stopped.specs.Stopped.{stopped_by}
use Rattle.fault_rule.specs.declared.MessageContext.{MessageContext}
use Rattle.spec_network.specs.Lending.{lend_draws, lend_offer}
use Rattle.spec_network.specs.Lists.{bit_at}
use Rattle.spec_network.specs.Opening.{Draw, Opening, Settings, global, longest_wire}
use Rattle.spec_network.specs.Live.{Carried, Live, marked, stopped}
use Rattle.spec_network.specs.Limits.{rate_of}
use Rattle.spec_network.specs.Tables.{cell, Tables, live, sizes_at, till_form, blocks_at}
use Rattle.spec_network.specs.Real.{chance, fault_key_of, id_of, opening_at}
use Rattle.spec_network.specs.Accept as accept
use Rattle.spec_network.specs.Accept.{Drawn, drawn, duplicate_of, replay_of, deduplicated, partition, loss, fault, sent, fate_of}
use Rattle.call_offer.specs.declared.Outgoing.{Outgoing}
use Rattle.call_offer.specs.declared.Echo.{Echo}
use Rattle.call_offer.specs.declared.Echoes.{Echoes}
use Rattle.call_offer.specs.declared.Sending.{Sending}
use Rattle.call_offer.specs.declared.Ruling.{Ruling}
use Rattle.call_offer.specs.declared.Offer.{Offer}
use Rattle.call_offer.specs.declared.Offer.TheVariants.{Deduplicated, Partition, Loss, Fault, Sent}

-- the message as `Accept` has it
abbrev pub as_message : Outgoing → accept.Message
as_message m = record { from = m.from; now = m.now; kind = m.kind; class = m.class; scope = m.scope; wire = m.wire; id = m.id; tag = m.tag }

-- what the rules read of it, to one recipient
abbrev pub context_of : Outgoing → ℕ → MessageContext
context_of m t = record { kind = m.kind; from = m.from; to = t; tier = 0; now = m.now }

-- ---- What the tables say of a till

abbrev pub selects_at : List ℕ → (scope from t : ℕ) → Bool
selects_at tills scope from t = (eqb scope global || bit_at (cell tills (t * till_form.width + 3)) scope) && not (eqb t from)

abbrev pub stopped_at : (net tills blocks : List ℕ) (from to now : ℕ) → Bool
stopped_at net tills blocks from to now = stopped_by tills blocks (cell net blocks_at) from to now

-- ---- Draws on one link: an opening whose links all have the stream with this key

abbrev pub echoing_at : Settings → Bool
echoing_at x = lt zero64 (rate_of x.config.duplicate) || lt zero64 (rate_of x.config.replay)

abbrev pub keyed : Settings → (prices key : List ℕ) → Opening
keyed x prices key = record {
  sizes = x.sizes;
  draws = record {
    loss = λ from to words. chance key x.config.loss words;
    duplicate = λ from to words. chance key x.config.duplicate words;
    replay = λ from to words. chance key x.config.replay words;
    echoing = echoing_at x;
    latency = λ from to bytes words. delay_draw x prices from to bytes key words;
    index = λ from to n words. record { value = whole32_at key words n; words = words + words32_at key words n };
    decide = λ m rules words. decide_of (fault_key_of x.fault_key) m rules words;
    id = id_of [];
  };
}

-- what is echoed of an entry that may not be there
abbrev pub whats_in : (Carried → accept.Echoed) → Option Carried → List accept.Echoed
whats_in what (Some e) = what e ∷ []
whats_in what None = []

-- an echo with a latency that its entry determines, and a word count that it determines, or the one before
abbrev pub echo_by : Option Carried → (Carried → ℕ) → Option Echo
echo_by (Some e) latency = Some (record { entry = e; latency = latency e })
echo_by None latency = None

abbrev pub words_by : Option Carried → (Carried → ℕ) → ℕ → ℕ
words_by (Some e) words w = words e
words_by None words w = w

-- an echo's latency, drawn where there is an echo
pub record Timed (x : Settings) (prices : List ℕ) (from to : ℕ) (entry : Option Carried) (c : Cursor) (r : Option Echo) (next : Cursor) : Type 0 where
  pub is : r ≡ echo_by entry (λ e. (delay_draw x prices from to e.wire c.key c.count).value)
  pub words : next.count ≡ words_by entry (λ e. (delay_draw x prices from to e.wire c.key c.count).words) c.count
  pub key : next.key ≡ c.key
  pub few : next.count ≤ c.count + 6
  pub below : IfSome r (λ e. e.latency ≤ longest)

-- the replay draw, and the entry that it echoes
pub record Replays (d : Draw (List accept.Echoed)) (c : Cursor) (old : Option Carried) (next : Cursor) : Type 0 where
  pub is : whats_in replay_of old ≡ d.value
  pub words : next.count ≡ d.words
  pub key : next.key ≡ c.key
  pub few : next.count ≤ c.count + 4
  pub short : IfSome old (λ e. e.wire ≤ longest_wire)

-- an echo as `Accept` has it, and the echoes, duplicate first
abbrev pub timed_as : (Carried → accept.Echoed) → Option Echo → List accept.Timed
timed_as what (Some e) = record { what = what e.entry; latency = e.latency } ∷ []
timed_as what None = []

abbrev pub echoes_in : Echoes → List accept.Timed
echoes_in e = timed_as duplicate_of e.duplicate ++ timed_as replay_of e.replay

pub record Echoed (m : accept.Message) (t : ℕ) (d : accept.Echoes) (e : Echoes) : Type 0 where
  pub all : d.all ≡ echoes_in e
  pub words : d.words ≡ e.words
  pub first : IfSome e.duplicate (λ q. q.latency ≤ longest)
  pub second : IfSome e.replay (λ q. q.latency ≤ longest)

-- the decision of so many rules
abbrev pub decision_in : ℕ → Ruling → Decision
decision_in n v = decision v.place n v.words

-- ---- The offer

pub record Sends (m : accept.Message) (t : ℕ) (d : Drawn) (x : Sending) : Type 0 where
  pub latency : d.latency.value ≡ x.latency
  pub passed : d.verdict.drops ≡ false
  pub words : d.verdict.words ≡ x.fault
  pub echoes : Echoed m t d.echoes x.echoes
  pub below : x.latency ≤ longest

-- the first of the five that fits, and what of the draws it leaves to be written
unfoldable pub Answers : Opening → accept.Message → Live → ℕ → Offer → Type 0
Answers o m s t Deduplicated = fate_of o m s t ≡ deduplicated
Answers o m s t Partition = fate_of o m s t ≡ partition
Answers o m s t (Loss n) = (fate_of o m s t ≡ loss) × ((drawn o m t s).loss.words ≡ n)
Answers o m s t (Fault f) = (fate_of o m s t ≡ fault) × ((drawn o m t s).latency.words ≡ f.words) × ((drawn o m t s).verdict ≡ record { drops = true; place = f.place; words = f.fault })
Answers o m s t (Sent x) = (fate_of o m s t ≡ sent) × Sends m t (drawn o m t s) x

-- so it is for a recipient that no mark and no partition stops, whatever the tables hold that are not lent
unfoldable pub Draws : (setup net words keys prices rings rules : List ℕ) → Outgoing → ℕ → Offer → Type 0
Draws setup net words keys prices rings rules m t r =
    (L : Tables) → let T = lend_draws L setup net words keys prices rings rules in
    let s = live (sizes_at setup) T in
    marked s t m.id ≡ false → stopped s m.from t m.now ≡ false → Answers (opening_at T) (as_message m) s t r

-- so it is whatever the tables hold that are not lent
unfoldable pub Offers : (setup net tills words keys prices seen rings rules blocks : List ℕ) → Outgoing → ℕ → Offer → Type 0
Offers setup net tills words keys prices seen rings rules blocks m t r =
    (L : Tables) → let T = lend_offer L setup net tills words keys prices seen rings rules blocks in Answers (opening_at T) (as_message m) (live (sizes_at setup) T) t r
