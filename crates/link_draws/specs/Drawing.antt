-- Document 01, link streams, draw rules and latency: what the draws of an opening need of its settings and prices (question 1), and what they give.
use Rattle.std.specs.Prelude.{ℕ, ◌+◌, ◌*◌, ◌≤◌, ◌<◌, ◌≡◌, Bool, true, false, List, T, eqb, length}
use Rattle.rand_streams.specs.declared.Cursor.{Cursor}
use Rattle.rand_draw.specs.Draw.{whole32_at, words32_at}
use Rattle.link_latency.specs.Latency.{latency_at, latency_words, longest}
use Rattle.link_latency.specs.Admitted.{longest_base, fraction_admitted}
use Rattle.link_geography.specs.Geography.{at_least_one, most_regions, link_in, link_admitted}
use Rattle.spec_network.specs.Opening.{Draw, Settings, most_tills, longest_wire}
use Rattle.spec_network.specs.Tables.{setup_width, settings_at}
use Rattle.spec_network.specs.Limits.{rate_of}
use Rattle.spec_network.specs.Real.{chance, region_at, cost_at}

-- settings and prices that an opening can leave
pub record Priced (setup prices : List ℕ) : Type 0 where
  pub size : length setup ≡ setup_width
  pub tills : (settings_at setup).sizes.tills ≤ most_tills
  pub regions : (settings_at setup).plan.regions ≤ most_regions
  pub base : (settings_at setup).config.latency ≤ longest_base
  pub fraction : T (fraction_admitted (rate_of (settings_at setup).config.jitter))
  pub sits : (t : ℕ) → t < (settings_at setup).sizes.tills → region_at (settings_at setup).plan prices t < at_least_one (settings_at setup).plan.regions
  pub links : eqb (settings_at setup).plan.planned 0 ≡ false
      → (i : ℕ) → i < at_least_one (settings_at setup).plan.regions * at_least_one (settings_at setup).plan.regions → link_admitted (link_in prices i) ≡ true

-- so many bytes between two of the tills
pub record Sent (setup prices : List ℕ) (from to bytes : ℕ) : Type 0 where
  pub priced : Priced setup prices
  pub sender : from < (settings_at setup).sizes.tills
  pub receiver : to < (settings_at setup).sizes.tills
  pub short : bytes ≤ longest_wire

-- a draw for a rate, from the cursor c to next
pub record Struck (rate : ℕ) (c : Cursor) (hit : Bool) (next : Cursor) : Type 0 where
  pub hits : hit ≡ (chance c.key rate c.count).value
  pub words : next.count ≡ (chance c.key rate c.count).words
  pub key : next.key ≡ c.key
  pub few : next.count ≤ c.count + 2

-- an index below n
pub record Picked (n : ℕ) (c : Cursor) (i : ℕ) (next : Cursor) : Type 0 where
  pub is : i ≡ whole32_at c.key c.count n
  pub words : next.count ≡ c.count + words32_at c.key c.count n
  pub key : next.key ≡ c.key
  pub few : next.count ≤ c.count + 2
  pub below : i < n

-- a latency, on the stream with this key from this word count on
abbrev pub delay_draw : Settings → (prices : List ℕ) (from to bytes : ℕ) (key : List ℕ) (words : ℕ) → Draw ℕ
delay_draw x prices from to bytes key words =
    let k = cost_at x prices from to bytes in
    let c = x.config in
    record {
      value = latency_at key words k.base.ns (rate_of c.jitter) (rate_of c.spike) k.transmission.ns;
      words = words + latency_words key words k.base.ns (rate_of c.jitter) (rate_of c.spike);
    }

pub record Delayed (x : Settings) (prices : List ℕ) (from to bytes : ℕ) (c : Cursor) (latency : ℕ) (next : Cursor) : Type 0 where
  pub is : latency ≡ (delay_draw x prices from to bytes c.key c.count).value
  pub words : next.count ≡ (delay_draw x prices from to bytes c.key c.count).words
  pub key : next.key ≡ c.key
  pub few : next.count ≤ c.count + 6
  pub below : latency ≤ longest
