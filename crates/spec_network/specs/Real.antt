-- Document 01, 'Parts': the draws that an opening has, link streams, latencies, the fault stream and ids, from the crates below.
use Rattle.std.specs.Prelude.{ℕ, ◌+◌, ◌*◌, ◌/◌, ◌%◌, ◌^◌, Bool, cond, not, ◌||◌, List, [], ◌∷◌, ◌++◌, eqb, get_or, take, drop, replicate}
use Rattle.std.specs.Float.Ieee.{lt}
use Rattle.table_rows.specs.Rows.{flat}
use Rattle.math_float.specs.Float.{zero64}
use Rattle.hash_digest.specs.Blake3.{hash}
use Rattle.rand_draw.specs.Draw.{whole32_at, words32_at}
use Rattle.rand_draw.specs.Fraction.{hits_at, hit_words}
use Rattle.link_latency.specs.Latency.{latency_at, latency_words}
use Rattle.rand_streams.specs.Link.{link_key}
use Rattle.link_geography.specs.Geography.{at_least_one, link_width, region_of, prices_of, cost_of, plan_cost}
use Rattle.link_geography.specs.declared.Cost.{Cost}
use Rattle.fault_decide.specs.Decide.{decide_of}
use Rattle.table_rows.specs.Lists.{up_to}
use Rattle.spec_network.specs.Opening.{Plan, Settings, Draw, Draws, Opening, global}
use Rattle.spec_network.specs.Limits.{rate_of}
use Rattle.spec_network.specs.Tables.{Tables, cell, key_cells, settings_at, name_at, shard_at, text_at}

-- ---- A link's key and cost, as the book has them

-- the digest of seed, "link" and the two tills
abbrev pub book_key : Settings → (from to : ℕ) → List ℕ
book_key x from to = link_key x.seed from to

-- base and time on the wire, by the region plan; without one the set latency, and 0
abbrev pub book_cost : Settings → (from to bytes : ℕ) → Cost
book_cost x from to bytes = let p = x.plan in plan_cost (not (eqb p.planned 0)) p.seed p.regions from to x.config.latency bytes

-- ---- The same in the tables: the key of each ordered pair of tills

abbrev pub key_width : ℕ
key_width = key_cells

unfoldable pub keys_of : Settings → List ℕ
keys_of x = let n = x.sizes.tills in flat (λ i. link_key x.seed (i / n) (i % n)) (up_to (n * n) (λ i. i))

abbrev pub key_of : (tills : ℕ) → List ℕ → (from to : ℕ) → List ℕ
key_of tills keys from to = take key_width (drop ((from * tills + to) * key_width) keys)

-- the fault stream's key as the settings have it: of each word the low 32 bits
unfoldable pub fault_key_of : List ℕ → List ℕ
fault_key_of key = up_to key_width (λ i. cell key i % 2 ^ 32)

-- with a plan, base and rate of each pair of regions, then the region of each till; without one, nothing
abbrev pub pair_cells : Plan → ℕ
pair_cells p = link_width * (at_least_one p.regions * at_least_one p.regions)

abbrev pub prices_width : Plan → ℕ → ℕ
prices_width p tills = cond (eqb p.planned 0) 0 (pair_cells p + tills)

unfoldable pub priced_by : Settings → List ℕ
priced_by x =
    let p = x.plan in
    cond (eqb p.planned 0) []
    (prices_of p.seed p.regions (replicate (pair_cells p) 0) ++ up_to x.sizes.tills (λ t. region_of p.seed p.regions t))

-- the region that a till sits in
abbrev pub region_at : Plan → List ℕ → ℕ → ℕ
region_at p prices t = cell prices (pair_cells p + t)

abbrev pub cost_at : Settings → List ℕ → (from to bytes : ℕ) → Cost
cost_at x prices from to bytes = let p = x.plan in cost_of (not (eqb p.planned 0)) prices p.regions (region_at p prices from) (region_at p prices to) x.config.latency bytes

-- ---- Ids

-- the first 8 bytes, little-endian, of the digest of: type name, then byte 1 and the shard's key bytes or byte 0 for global, then the wire bytes
abbrev pub scope_bytes : List ℕ → ℕ → List ℕ
scope_bytes names scope = cond (eqb scope global) (0 ∷ []) (1 ∷ text_at names (shard_at scope))

unfoldable pub id_of : List ℕ → (kind scope : ℕ) → List ℕ → ℕ
id_of names kind scope wire =
    let h = hash ((text_at names (name_at kind) ++ scope_bytes names scope) ++ wire) in
    get_or h 0 0 + 2 ^ 32 * get_or h 1 0

-- ---- The draws

-- a fraction, made only where the rate is above 0; it hits when it is below the rate
unfoldable pub chance : (key : List ℕ) (rate words : ℕ) → Draw Bool
chance key rate words = record { value = hits_at key words (rate_of rate); words = words + hit_words (rate_of rate) }

-- of settings and names, by the key and the cost of each link
unfoldable pub draws_of : Settings → (names : List ℕ) → (key : (from to : ℕ) → List ℕ) → (cost : (from to bytes : ℕ) → Cost) → Draws
draws_of x names key cost =
    let c = x.config in
    record {
      loss = λ from to words. chance (key from to) c.loss words;
      duplicate = λ from to words. chance (key from to) c.duplicate words;
      replay = λ from to words. chance (key from to) c.replay words;
      echoing = lt zero64 (rate_of c.duplicate) || lt zero64 (rate_of c.replay);
      latency = λ from to bytes words.
          let k = cost from to bytes in
          record {
            value = latency_at (key from to) words k.base.ns (rate_of c.jitter) (rate_of c.spike) k.transmission.ns;
            words = words + latency_words (key from to) words k.base.ns (rate_of c.jitter) (rate_of c.spike);
          };
      index = λ from to n words. record { value = whole32_at (key from to) words n; words = words + words32_at (key from to) words n };
      decide = λ m rules words. decide_of (fault_key_of x.fault_key) m rules words;
      id = id_of names;
    }

-- ---- What the calls go by: as the book has it, from the opening's settings and names; and as the tables hold it

abbrev pub opening_of : Settings → (names : List ℕ) → Opening
opening_of x names = record { sizes = x.sizes; draws = draws_of x names (book_key x) (book_cost x) }

abbrev pub opening_at : Tables → Opening
opening_at T = let x = settings_at T.setup in record { sizes = x.sizes; draws = draws_of x T.names (key_of x.sizes.tills T.keys) (cost_at x T.prices) }
