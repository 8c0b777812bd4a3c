-- Every cell fits its memory after an accepted opening.
use mathlib.Core.Path.{◌≡◌}
use Prim.Native.Nat.{ℕ, zero, suc, ◌+◌, ◌-◌, ◌*◌, ◌/◌, ◌%◌, ◌^◌, ◌≤◌, ◌<◌}
use native.Mathlib.Omega.{arith}
use native.Mathlib.Nat.{lt_of_lt_of_le}
use mathlib.Core.Bool.{Bool, true, false, cond}
use mathlib.Core.List.{List, [], ◌++◌}
use lib.Dec.{eqb, lit<}
use lib.Pow.{pow_pos}
use lib.ListN.{get_or, set, drop, replicate}
use borrow.Author.Tests.{leb-true}
use Rattle.math_word.specs.Word.{le4, le8}
use Rattle.rand_streams.specs.Link.{link_key, link_bytes}
use Rattle.table_rows.specs.Rows.{flat}
use Rattle.table_rows.specs.Lists.{Each, up_to}
use Rattle.table_rows.proofs.Lists.{each_map, each_drop}
use Rattle.table_rings.specs.Rings as rings
use Rattle.rand_draw.specs.Draw.{words64_at}
use Rattle.rand_draw.proofs.Words.{whole64_below}
use Rattle.link_geography.specs.Bytes.{derive, links}
use Rattle.link_geography.specs.Geography.{at_least_one, most_regions, link_width, pick, band_of, drawn_link, row_count, all_count, pair_link, put_pair, put_link, priced_row, priced_all, prices_of, region_of}
use Rattle.link_geography.specs.declared.Band.{Band}
use Rattle.link_geography.specs.declared.Link.{Link}
use Rattle.link_geography.proofs.Prices as prices
use Rattle.spec_network.specs.Opening as opening
use Rattle.spec_network.specs.Opening.{Settings}
use Rattle.spec_network.specs.Lists.{within}
use Rattle.spec_network.specs.Live.{Till, up_till, open_tills, rings_of}
use Rattle.spec_network.specs.Questions.{Asked}
use Rattle.spec_network.specs.Tables.{Tables, setup_of, net_width, till_form}
use Rattle.spec_network.specs.Limits.{size_tests}
use Rattle.spec_network.specs.Real.{keys_of, pair_cells, priced_by}
use Rattle.spec_network.specs.Open.{limit_tests, asked_opening, open_number, open_tables}
use Rattle.spec_network.proofs.Hash.{hash_fit}
use Rattle.spec_book.specs.Cells.{Fit, CellsFit}
use Rattle.spec_book.proofs.Each.{all_each, every_each, each_set, each_at, each_append, each_replicate, each_up_to}
use Rattle.spec_book.proofs.Asking.{all_yes, apart_opening}
use Rattle.spec_book.proofs.Fit.{fit_flat, fit_cleared}
use Rattle.spec_book.proofs.Cells.{mask_small}
use Rattle.spec_book.proofs.Start.{limited}

abbrev In : ℕ → Type 0
In v = v < 2 ^ 64

-- ---- Keys

key_fits : (seed from to : ℕ) → Fit 32 (link_key seed from to)
unfolding link_key link_bytes le8 le4
key_fits seed from to = hash_fit (link_bytes seed from to) (lit< tt)

keys_fit : (x : Settings) → Fit 32 (keys_of x)
unfolding keys_of
keys_fit x =
    let n : ℕ = x.sizes.tills in
    let key : ℕ → List ℕ = λ i. link_key x.seed (i / n) (i % n) in
    fit_flat 32 key (up_to (n * n) (λ i. i)) (each_up_to (λ i. Fit 32 (key i)) (n * n) (λ i. i) (λ i l. key_fits x.seed (i / n) (i % n)))

-- ---- Prices

link_small : (key : List ℕ) (count a b : ℕ) → ((drawn_link key count (band_of a b)).base.ns < 2 ^ 64) × ((drawn_link key count (band_of a b)).rate < 2 ^ 64)
unfolding drawn_link band_of
link_small key count a b = go (eqb a b)
  where
    B : Bool → Band
    B t = pick t (record { base = 1; bases = 10; rate = 1000000000; rates = 9000000001 }) (record { base = 40; bases = 121; rate = 100000000; rates = 900000001 })

    go : (t : Bool) → ((drawn_link key count (B t)).base.ns < 2 ^ 64) × ((drawn_link key count (B t)).rate < 2 ^ 64)
    go true =
        let h = whole64_below key count 10 (omega arith) (omega arith) in
        let k = whole64_below key (count + words64_at key count 10) 9000000001 (omega arith) (omega arith) in
        (omega arith, omega arith)
    go false =
        let h = whole64_below key count 121 (omega arith) (omega arith) in
        let k = whole64_below key (count + words64_at key count 121) 900000001 (omega arith) (omega arith) in
        (omega arith, omega arith)

fit_link : (t : List ℕ) (i : ℕ) (l : Link) → Fit 64 t → l.base.ns < 2 ^ 64 → l.rate < 2 ^ 64 → Fit 64 (put_link t i l)
unfolding put_link
fit_link t i l e p q = each_set In (set t (link_width * i) l.base.ns) (link_width * i + 1) l.rate (each_set In t (link_width * i) l.base.ns e p) q

fit_pair : (t : List ℕ) (R a b : ℕ) (l : Link) → Fit 64 t → l.base.ns < 2 ^ 64 → l.rate < 2 ^ 64 → Fit 64 (put_pair t R a b l)
unfolding put_pair
fit_pair t R a b l e p q = fit_link (put_link t (a * R + b) l) (b * R + a) l (fit_link t (a * R + b) l e p q) p q

fit_row : (key : List ℕ) (R a k : ℕ) (t : List ℕ) → Fit 64 t → Fit 64 (priced_row key R a k t)
unfolding priced_row pair_link
fit_row key R a zero t e = e
fit_row key R a (suc k) t e =
    let h = link_small key (row_count key a (all_count key R a) (a + k - a)) a (a + k) in
    fit_pair (priced_row key R a k t) R a (a + k) (pair_link key R a (a + k)) (fit_row key R a k t e) h.0 h.1

fit_all : (key : List ℕ) (R k : ℕ) (t : List ℕ) → Fit 64 t → Fit 64 (priced_all key R k t)
unfolding priced_all
fit_all key R zero t e = e
fit_all key R (suc k) t e = fit_row key R k (R - k) (priced_all key R k t) (fit_all key R k t e)

one_small : (n : ℕ) → n ≤ most_regions → at_least_one n ≤ 2 ^ 64
unfolding at_least_one
one_small n h = omega arith

prices_fit : (x : Settings) → x.plan.regions ≤ most_regions → Fit 64 (priced_by x)
unfolding priced_by prices_of
prices_fit x h = go (eqb x.plan.planned 0)
  where
    r : ℕ
    r = at_least_one x.plan.regions

    pairs : List ℕ
    pairs = prices_of x.plan.seed x.plan.regions (replicate (pair_cells x.plan) 0)

    sits : ℕ → ℕ
    sits t = region_of x.plan.seed x.plan.regions t

    go : (b : Bool) → Fit 64 (cond b [] (pairs ++ up_to x.sizes.tills sits))
    go true = tt
    go false =
        each_append In pairs (up_to x.sizes.tills sits)
        (fit_all (derive x.plan.seed links 0) r r (replicate (pair_cells x.plan) 0) (each_replicate In (pair_cells x.plan) 0 (pow_pos 64)))
        (each_up_to In x.sizes.tills sits (λ t l. lt_of_lt_of_le (prices.region_below x.plan.seed x.plan.regions t) (one_small x.plan.regions h)))

-- ---- The opening

-- n zeros, and behind them what stood there
fit_front : (n : ℕ) (l : List ℕ) → Fit 64 l → Fit 64 (replicate n 0 ++ drop n l)
fit_front n l e = each_append In (replicate n 0) (drop n l) (each_replicate In n 0 (pow_pos 64)) (each_drop In n l e)

tills_fit : (masks : List ℕ) (n : ℕ) → Fit 64 masks → Fit 64 (flat till_form.words (open_tills masks n))
tills_fit masks n e =
    fit_flat 64 till_form.words (open_tills masks n)
    (each_up_to (λ (t : Till). Fit 64 (till_form.words t)) n (λ t. up_till (get_or masks t 0)) (λ t l. (lit< tt, (lit< tt, (lit< tt, (each_at In masks t 0 e (lit< tt), tt))))))

-- the lent tables are cells, and the settings numbers, of 64 bits
pub open_cells : (x : Settings) (masks : List ℕ) (lent : Tables) → open_number x masks lent ≡ 0 → Fit 64 (setup_of x) → CellsFit lent → CellsFit (open_tables x masks lent)
open_cells x masks lent h e f =
    let y : Each (λ (q : Asked). q.yes ≡ true) (asked_opening x masks lent) = all_yes (asked_opening x masks lent) (apart_opening x masks lent) h in
    let sizes = every_each (size_tests x) (every_each (limit_tests x masks lent) y.1.0).0 in
    let lim = limited x masks lent h in
    let small = each_map (λ (m : ℕ). within m x.sizes.shards ≡ true) In masks (λ m w. mask_small m x.sizes.shards lim.shards w) (all_each (λ m. within m x.sizes.shards) masks y.1.1.1.0) in
    record {
      setup = e;
      net = each_replicate In net_width 0 (pow_pos 64);
      names = f.names;
      tills = tills_fit masks x.sizes.tills small;
      words = each_replicate In opening.links 0 (pow_pos 64);
      keys = keys_fit x;
      prices = prices_fit x (leb-true _ _ sizes.1.1.1.1.1.1.1.1.1.0);
      seen = fit_front x.sizes.tills lent.seen f.seen;
      waiting = f.waiting;
      rings = fit_front (rings_of x.sizes * rings.head_width) lent.rings f.rings;
      rules = f.rules;
      blocks = f.blocks;
      log = fit_cleared x.sizes.log_slots lim.log lent.log f.log;
    }
