-- What the cells, costs and word counts give. Assumes nothing.
use Prim.Native.Nat.{ℕ, ◌+◌, ◌*◌, ◌%◌, ◌^◌, ◌≤◌, ◌<◌}
use mathlib.Core.Path.{◌≡◌, refl, sym, ap, subst, ◌∙◌}
use mathlib.Core.Bool.{Bool, true, false, cond, not, ◌&&◌, false≢true}
use mathlib.Core.List.{List, [], ◌∷◌}
use native.Mathlib.Omega.{arith}
use native.Mathlib.Nat.{mul-le-mul_right, suc-mul, div-le_of_le-mul}
use lib.Dec.{T, eqb, leb}
use lib.Ieee.{Float, lt}
use lib.ListN.{length, get_or-eq_default}
use lib.Seq.{get_or-drop}
use borrow.Author.Tests.{leb-true}
use Rattle.std.specs.Prelude.{Option, Some, None, MatchOption}
use Rattle.std.specs.Bool.{then_some}
use Rattle.math_float.specs.Float.{zero64}
use Rattle.math_time.specs.Seconds.{millisecond, seconds}
use Rattle.rand_streams.specs.declared.Cursor.{Cursor}
use Rattle.rand_streams.specs.Streams.{Moved}
use Rattle.rand_draw.specs.Draw.{whole32_at, words32_at, draws_of, choose, again}
use Rattle.rand_draw.specs.Fraction.{hits_at, hit_words}
use Rattle.link_latency.specs.Latency.{latency_at, latency_words, jitter_words, jitters, spike_count, longest}
use Rattle.link_latency.specs.Admitted.{Admitted, fraction_admitted, longest_base, longest_transmission}
use Rattle.link_geography.specs.declared.Cost.{Cost}
use Rattle.link_geography.specs.declared.Link.{Link}
use Rattle.link_geography.specs.Geography.{at_least_one, most_regions, link_in, link_at, link_admitted, link_cost, transmission_of, cost_of, pick_cost}
use Rattle.spec_network.specs.Opening.{Settings, Plan, longest_wire, most_tills}
use Rattle.spec_network.specs.Tables.{cell, settings_at, key_at}
use Rattle.spec_network.specs.Limits.{rate_of}
use Rattle.spec_network.specs.Real.{key_width, fault_key_of, chance, region_at, cost_at, pair_cells}
use Rattle.link_draws.specs.Drawing.{Sent, Struck, Picked, Delayed}

-- ---- Word counts

pub hit_few : (r : Float) → hit_words r ≤ 2
unfolding hit_words
hit_few r = go (lt zero64 r)
  where
    go : (b : Bool) → cond b 2 0 ≤ 2
    go true = omega arith
    go false = omega arith

pub index_few : (key : List ℕ) (count n : ℕ) → words32_at key count n ≤ 2
unfolding words32_at draws_of
index_few key count n = go (again 32 n _)
  where
    go : (b : Bool) → choose b 2 1 ≤ 2
    go true = omega arith
    go false = omega arith

pub delay_few : (key : List ℕ) (count base : ℕ) (f r : Float) → latency_words key count base f r ≤ 6
unfolding latency_words jitter_words
delay_few key count base f r = omega (arith, two (jitters (seconds base) f), hit_few r, two (hits_at key (spike_count count base f) r))
  where
    two : (b : Bool) → cond b 2 0 ≤ 2
    two true = omega arith
    two false = omega arith

-- ---- What the draws give

pub struck : (rate : ℕ) (c : Cursor) (hit : Bool) (next : Cursor) (f : Float) → f ≡ rate_of rate → hit ≡ hits_at c.key c.count f → Moved c (hit_words f) next → Struck rate c hit next
unfolding chance
struck rate c hit next f e a m = record {
  hits = a ∙ ap (hits_at c.key c.count) e;
  words = m.count ∙ ap (λ (g : Float). c.count + hit_words g) e;
  key = m.key;
  few = omega (arith, m.count, hit_few f);
}

pub picked : (n : ℕ) (c : Cursor) (i : ℕ) (next : Cursor) → i ≡ whole32_at c.key c.count n → Moved c (words32_at c.key c.count n) next → i < n → Picked n c i next
picked n c i next a m l = record { is = a; words = m.count; key = m.key; few = omega (arith, m.count, index_few c.key c.count n); below = l }

-- ---- Keys

pub fault_cells : (setup : List ℕ) → cell setup key_at % 2 ^ 32 ∷ cell setup (key_at + 1) % 2 ^ 32 ∷ cell setup (key_at + 2) % 2 ^ 32 ∷ cell setup (key_at + 3) % 2 ^ 32
    ∷ cell setup (key_at + 4) % 2 ^ 32 ∷ cell setup (key_at + 5) % 2 ^ 32 ∷ cell setup (key_at + 6) % 2 ^ 32 ∷ cell setup (key_at + 7) % 2 ^ 32 ∷ [] ≡ fault_key_of (settings_at setup).fault_key
unfolding fault_key_of
fault_cells setup = sym (rw (
  get_or-drop key_at setup 0 0,
  get_or-drop key_at setup 1 0,
  get_or-drop key_at setup 2 0,
  get_or-drop key_at setup 3 0,
  get_or-drop key_at setup 4 0,
  get_or-drop key_at setup 5 0,
  get_or-drop key_at setup 6 0,
  get_or-drop key_at setup 7 0,
))

-- the key of a link of n tills lies in the table
pub key_in : (from to n : ℕ) → from < n → to < n → (from * n + to) * key_width + key_width ≤ n * n * key_width
key_in from to n f t = let k : (from + 1) * n ≤ n * n = mul-le-mul_right n (omega arith) in omega (arith, suc-mul from n)

-- ---- Costs

-- a cost by an Option is one by a flag
pub cost_told : (planned : Bool) (regions : ℕ) (t : List ℕ) (a b latency bytes : ℕ) {k : Cost} (plan : Option ℕ) → plan ≡ then_some planned regions
    → MatchOption plan (k ≡ cost_of false t 0 a b latency bytes) (λ r. k ≡ cost_of true t r a b latency bytes) → k ≡ cost_of planned t regions a b latency bytes
unfolding cost_of
cost_told true regions t a b latency bytes (Some r) e h = h ∙ ap (λ o. cost_of true t (value o) a b latency bytes) e
  where
    value : Option ℕ → ℕ
    value (Some r) = r
    value None = 0
cost_told true regions t a b latency bytes None e h = absurd (cc)
cost_told false regions t a b latency bytes (Some r) e h = absurd (cc)
cost_told false regions t a b latency bytes None e h = h

pub regions_few : (n r : ℕ) → r ≡ at_least_one n → n ≤ most_regions → r ≤ most_regions
unfolding at_least_one
regions_few n r e h = omega arith

pub square : (n : ℕ) → n ≤ most_regions → n * n ≤ most_regions * most_regions
square n h = let a : n * n ≤ most_regions * n = mul-le-mul_right n h in omega arith

pub grid : (from n : ℕ) → from < n → n ≤ most_tills → from * n ≤ most_tills * most_tills
grid from n f h = let a : from * n ≤ most_tills * n = mul-le-mul_right n (omega arith) in omega arith

module _ (p : Plan) (prices : List ℕ) (t n : ℕ) (e : n ≡ at_least_one p.regions) where
  region_at_lem : 2 * (n * n) + t ≡ pair_cells p + t
  region_at_lem = ap (λ (k : ℕ). 2 * (k * k) + t) e

  pub region_in : cell prices (2 * (n * n) + t) ≡ region_at p prices t
  region_in = ap (cell prices) region_at_lem

  pub region_out : length prices ≤ 2 * (n * n) + t → 0 ≡ region_at p prices t
  region_out h = sym (get_or-eq_default prices 0 h) ∙ region_in

rate_least : (rate : ℕ) → 100000000 ≤ rate → 100000000 ≤ at_least_one rate
unfolding at_least_one
rate_least rate r = omega arith

wire_short : (bytes rate : ℕ) → bytes ≤ longest_wire → 100000000 ≤ rate → transmission_of bytes rate ≤ longest_transmission
unfolding transmission_of
wire_short bytes rate h r =
    let n : ℕ = at_least_one rate in
    let m : 100000000 * longest_transmission ≤ n * longest_transmission = mul-le-mul_right longest_transmission (rate_least rate r) in
    div-le_of_le-mul n (omega arith)

split : (a b : Bool) → (a && b) ≡ true → (a ≡ true) × (b ≡ true)
split true true e = (refl, refl)
split true false e = absurd (false≢true e)
split false b e = absurd (false≢true e)

link_cheap : (l : Link) (bytes : ℕ) → bytes ≤ longest_wire → link_admitted l ≡ true → ((link_cost l bytes).base.ns ≤ longest_base) × ((link_cost l bytes).transmission.ns ≤ longest_transmission)
unfolding link_cost link_admitted
link_cheap l bytes h e =
    let q = split (leb l.base.ns (160 * millisecond)) (leb 100000000 l.rate) e in
    (omega (arith, leb-true l.base.ns (160 * millisecond) q.0), wire_short bytes l.rate h (leb-true 100000000 l.rate q.1))

module _ (setup prices : List ℕ) (from to bytes : ℕ) (s : Sent setup prices from to bytes) where
  abbrev x : Settings
  x = settings_at setup

  abbrev a : ℕ
  a = region_at x.plan prices from

  abbrev b : ℕ
  b = region_at x.plan prices to

  abbrev n : ℕ
  n = at_least_one x.plan.regions

  pub region_small : (t r : ℕ) → t < x.sizes.tills → r ≡ region_at x.plan prices t → r < most_regions
  region_small t r h e = omega (arith, s.priced.sits t h, regions_few x.plan.regions n refl s.priced.regions)

  place : a * n + b < n * n
  place = let k : (a + 1) * n ≤ n * n = mul-le-mul_right n (omega (arith, s.priced.sits from s.sender)) in omega (arith, suc-mul a n, s.priced.sits to s.receiver)

  cheap : ((cost_at x prices from to bytes).base.ns ≤ longest_base) × ((cost_at x prices from to bytes).transmission.ns ≤ longest_transmission)
  unfolding cost_of link_at
  cheap = go (eqb x.plan.planned 0) refl
    where
      go : (p : Bool) → eqb x.plan.planned 0 ≡ p
          → ((pick_cost (not p) (link_cost (link_in prices (a * n + b)) bytes) (record { base = record { ns = x.config.latency }; transmission = record { ns = 0 } })).base.ns ≤ longest_base)
          × ((pick_cost (not p) (link_cost (link_in prices (a * n + b)) bytes)
          (record { base = record { ns = x.config.latency }; transmission = record { ns = 0 } })).transmission.ns ≤ longest_transmission)
      go true e = (s.priced.base, omega arith)
      go false e = link_cheap (link_in prices (a * n + b)) bytes s.short (s.priced.links e (a * n + b) place)

  pub cost_admitted : (k : Cost) (j : Float) → k ≡ cost_at x prices from to bytes → j ≡ rate_of x.config.jitter → Admitted k.base.ns j × (k.transmission.ns ≤ longest_transmission)
  cost_admitted k j e f = (
    record { base = subst (λ (q : Cost). q.base.ns ≤ longest_base) (sym e) cheap.0; fraction = subst (λ (q : Float). T (fraction_admitted q)) (sym f) s.priced.fraction },
    subst (λ (q : Cost). q.transmission.ns ≤ longest_transmission) (sym e) cheap.1,
  )

  pub delayed : (k : Cost) (c : Cursor) (j p : Float) (r : ℕ) (next : Cursor) → k ≡ cost_at x prices from to bytes → j ≡ rate_of x.config.jitter → p ≡ rate_of x.config.spike
      → r ≡ latency_at c.key c.count k.base.ns j p k.transmission.ns → Moved c (latency_words c.key c.count k.base.ns j p) next → r ≤ longest
      → Delayed x prices from to bytes c r next
  delayed k c j p r next ke je pe a m l = record {
    is = a ∙ (λ i. latency_at c.key c.count (ke i).base.ns (je i) (pe i) (ke i).transmission.ns);
    words = m.count ∙ (λ i. c.count + latency_words c.key c.count (ke i).base.ns (je i) (pe i));
    key = m.key;
    few = omega (arith, m.count, delay_few c.key c.count k.base.ns j p);
    below = l;
  }
