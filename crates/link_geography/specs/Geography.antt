-- Document 01, geography: where tills sit, the links' prices and the time on the wire, as `Geography::new`, `region_of`, `link`, `transmission`.
use Rattle.std.specs.Prelude.{ℕ, zero, suc, ◌+◌, ◌-◌, ◌*◌, ◌/◌, ◌%◌, ◌^◌, min, max, ◌≡◌, Bool, true, false, ◌&&◌, List, eqb, leb, get_or, set}
use Rattle.rand_streams.specs.declared.Cursor.{Cursor}
use Rattle.math_time.specs.Seconds.{second, millisecond}
use Rattle.rand_draw.specs.Draw.{whole64_at, words64_at}
use Rattle.link_geography.specs.declared.Link.{Link}
use Rattle.link_geography.specs.declared.Cost.{Cost}
use Rattle.link_geography.specs.declared.Band.{Band}
use Rattle.link_geography.specs.Bytes.{derive, host, links}

-- regions 0..16, where 0 act as 1; wire bytes 0..65,536
abbrev pub most_regions : ℕ
most_regions = 16

abbrev pub most_bytes : ℕ
most_bytes = 65536

unfoldable pub at_least_one : ℕ → ℕ
at_least_one n = max 1 n

-- the first 8 bytes of the till's digest, little-endian, modulo the regions
unfoldable pub region_of : (seed regions till : ℕ) → ℕ
region_of seed regions till = (get_or (derive seed host till) 0 0 + 2 ^ 32 * get_or (derive seed host till) 1 0) % at_least_one regions

-- bytes × 1,000,000,000 / rate nanoseconds, rounded down
unfoldable pub transmission_of : (bytes rate : ℕ) → ℕ
transmission_of bytes rate = bytes * second / at_least_one rate

-- ---- a link's price: the base drawn in milliseconds, then the rate
abbrev pub link_of : (base rate : ℕ) → Link
link_of base rate = record { base = record { ns = base }; rate = rate }

abbrev pub pick : Bool → Band → Band → Band
pick true x y = x
pick false x y = y

-- within a region 1..=10 ms and 10^9..=10^10 bytes a second, between regions 40..=160 ms and 10^8..=10^9
unfoldable pub band_of : (a b : ℕ) → Band
band_of a b = pick (eqb a b) (record { base = 1; bases = 10; rate = 1000000000; rates = 9000000001 }) (record { base = 40; bases = 121; rate = 100000000; rates = 900000001 })

unfoldable pub drawn_link : (key : List ℕ) (count : ℕ) → Band → Link
drawn_link key count s = link_of ((s.base + whole64_at key count s.bases) * millisecond) (s.rate + whole64_at key (count + words64_at key count s.bases) s.rates)

unfoldable pub link_words : (key : List ℕ) (count : ℕ) → Band → ℕ
link_words key count s = words64_at key count s.bases + words64_at key (count + words64_at key count s.bases) s.rates

-- ---- the pairs in order: (0, 0), (0, 1), .., (1, 1), (1, 2), ..
-- the words given once the first k pairs of row a are priced, the row begun at a count
unfoldable pub row_count : (key : List ℕ) (a count k : ℕ) → ℕ
row_count key a count zero = count
row_count key a count (suc k) = row_count key a count k + link_words key (row_count key a count k) (band_of a (a + k))

-- and once the first k rows are
unfoldable pub all_count : (key : List ℕ) (regions k : ℕ) → ℕ
all_count key regions zero = 0
all_count key regions (suc k) = row_count key k (all_count key regions k) (regions - k)

-- the link of the pair (a, b), a at most b
unfoldable pub pair_link : (key : List ℕ) (regions a b : ℕ) → Link
pair_link key regions a b = drawn_link key (row_count key a (all_count key regions a) (b - a)) (band_of a b)

-- the link of a plan between two regions, the same both ways
unfoldable pub plan_link : (seed regions a b : ℕ) → Link
plan_link seed regions a b = pair_link (derive seed links 0) (at_least_one regions) (min a b) (max a b)

-- ---- the table: for each pair of regions a row of base, in nanoseconds, and rate
abbrev pub link_width : ℕ
link_width = 2

unfoldable pub link_in : List ℕ → ℕ → Link
link_in t i = link_of (get_or t (link_width * i) 0) (get_or t (link_width * i + 1) 0)

unfoldable pub put_link : List ℕ → ℕ → Link → List ℕ
put_link t i l = set (set t (link_width * i) l.base.ns) (link_width * i + 1) l.rate

-- both ways
unfoldable pub put_pair : List ℕ → (regions a b : ℕ) → Link → List ℕ
put_pair t regions a b l = put_link (put_link t (a * regions + b) l) (b * regions + a) l

-- the first k pairs of row a
unfoldable pub priced_row : (key : List ℕ) (regions a k : ℕ) → List ℕ → List ℕ
priced_row key regions a zero t = t
priced_row key regions a (suc k) t = put_pair (priced_row key regions a k t) regions a (a + k) (pair_link key regions a (a + k))

-- the first k rows
unfoldable pub priced_all : (key : List ℕ) (regions k : ℕ) → List ℕ → List ℕ
priced_all key regions zero t = t
priced_all key regions (suc k) t = priced_row key regions k (regions - k) (priced_all key regions k t)

-- the links of a plan, in a table t
unfoldable pub prices_of : (seed regions : ℕ) → List ℕ → List ℕ
prices_of seed regions t = priced_all (derive seed links 0) (at_least_one regions) (at_least_one regions) t

-- the link between regions a and b, by the table
unfoldable pub link_at : List ℕ → (regions a b : ℕ) → Link
link_at t regions a b = link_in t (a * at_least_one regions + b)

-- the prices that a plan can give: at most 160 ms, and at least 100,000,000 bytes a second
unfoldable pub link_admitted : Link → Bool
link_admitted l = leb l.base.ns (160 * millisecond) && leb 100000000 l.rate

-- ---- what a delivery costs: without a plan the base is the set latency, and transmission is 0
abbrev pub pick_cost : Bool → Cost → Cost → Cost
pick_cost true x y = x
pick_cost false x y = y

unfoldable pub link_cost : Link → (bytes : ℕ) → Cost
link_cost l bytes = record { base = l.base; transmission = record { ns = transmission_of bytes l.rate } }

unfoldable pub cost_of : (planned : Bool) → List ℕ → (regions a b latency bytes : ℕ) → Cost
cost_of planned t regions a b latency bytes = pick_cost planned (link_cost (link_at t regions a b) bytes) (record { base = record { ns = latency }; transmission = record { ns = 0 } })

-- the same by the plan alone, between two tills
unfoldable pub plan_cost : (planned : Bool) (seed regions from to latency bytes : ℕ) → Cost
plan_cost planned seed regions from to latency bytes =
    pick_cost planned (link_cost (plan_link seed regions (region_of seed regions from) (region_of seed regions to)) bytes) (record { base = record { ns = latency }; transmission = record { ns = 0 } })

-- a cursor of the stream with this key, at this count
pub record Stands (k : List ℕ) (n : ℕ) (c : Cursor) : Type 0 where
  pub key : c.key ≡ k
  pub count : c.count ≡ n
