-- Laws of what the opening works out: link keys, and the prices of a plan; and with them the draws that the tables give are the book's.
use mathlib.Core.Path.{◌≡◌, refl, sym, ap, ◌∙◌}
use Prim.Native.Nat.{ℕ, zero, suc, ◌+◌, ◌-◌, ◌*◌, ◌/◌, ◌%◌, ◌^◌, ◌≤◌, ◌<◌}
use native.Mathlib.Omega.{arith}
use native.Mathlib.Nat.{mul-le-mul_right, suc-mul, mod-lt, add-mul-div_right, add-mul-mod_self_right, div-eq_of_lt, mod-eq_of_lt, zero-add, div-lt_iff_lt-mul, div-add-mod'}
use mathlib.Core.Bool.{Bool, true, false, cond, not}
use mathlib.Core.List.{List, [], ◌∷◌, ◌++◌}
use lib.Dec.{eqb, leb, ltb}
use lib.ListN.{length, get_or, take, drop, replicate, length-append, length-replicate, get_or-append}
use lib.Seq.{take_at, drop-append-add, get_or-append-add}
use borrow.Author.Tests.{lt-ltb}
use Rattle.hash_compress.proofs.Laws.{length_compressed}
use Rattle.hash_chunk.specs.Chunk.{chunk, blocks, parent}
use Rattle.hash_digest.specs.Blake3.{hash, tree, pick}
use Rattle.table_rows.specs.Rows.{flat}
use Rattle.table_rows.specs.Lists.{up_to}
use Rattle.table_rows.proofs.Lists.{length_up_to, get_d_up_to}
use Rattle.link_geography.specs.Geography.{at_least_one, link_width, link_in, link_at, link_admitted, plan_link, region_of, prices_of, pick_cost, link_cost, cost_of, plan_cost}
use Rattle.link_geography.specs.declared.Link.{Link}
use Rattle.link_geography.specs.declared.Cost.{Cost}
use Rattle.rand_streams.specs.Link.{link_key}
use Rattle.link_latency.specs.Latency.{latency_at, latency_words}
use Rattle.rand_draw.specs.Draw.{whole32_at, words32_at}
use Rattle.link_geography.proofs.Prices.{length_prices, prices_are, plan_admitted}
use Rattle.link_geography.proofs.Prices as plan
use Rattle.spec_network.specs.Opening.{Plan, Settings, Draw, Draws}
use Rattle.spec_network.specs.Limits.{rate_of}
use Rattle.spec_network.specs.Tables.{cell}
use Rattle.spec_network.specs.Real.{key_width, keys_of, key_of, pair_cells, prices_width, priced_by, region_at, cost_at, book_key, book_cost, chance, draws_of}

-- ---- A digest has 8 words

length_blocks : (k : ℕ) (h s : List ℕ) (t d e : ℕ) → length (blocks k h s t d e) ≡ 8
unfolding blocks
length_blocks zero h s t d e = length_compressed h _ t (length s) (d + 2 + e)
length_blocks (suc k) h s t d e = length_blocks k _ (drop 64 s) t 0 e

length_tree : (k : ℕ) (s : List ℕ) (t e : ℕ) → length (tree k s t e) ≡ 8
unfolding tree chunk parent
length_tree zero s t e = length_blocks ((length s - 1) / 64) _ s t 1 e
length_tree (suc k) s t e = go (leb (length s) (1024 * 2 ^ k)) (length_tree k s t e)
  where
    go : (b : Bool) → length (tree k s t e) ≡ 8 → length (pick b (tree k s t e) (parent (tree k (take (1024 * 2 ^ k) s) t 0) (tree k (drop (1024 * 2 ^ k) s) (t + 2 ^ k) 0) e)) ≡ 8
    go true h = h
    go false h = length_compressed _ _ 0 64 (4 + e)

pub length_hash : (s : List ℕ) → length (hash s) ≡ 8
unfolding hash
length_hash s = length_tree 7 s 0 8

-- ---- Keys

-- part i of parts of one length
module _ {A : Type 0} (w : ℕ) (f : A → List ℕ) (long : (a : A) → length (f a) ≡ w) where
  length_flat : (l : List A) → length (flat f l) ≡ length l * w
  length_flat [] = omega arith
  length_flat (a ∷ l) = length-append (f a) (flat f l) ∙ omega (arith, long a, length_flat l, suc-mul (length l) w)

  flat_part : (l : List A) (i : ℕ) (d : A) → i < length l → take w (drop (i * w) (flat f l)) ≡ f (get_or l i d)
  flat_part [] i d h = absurd (omega arith)
  flat_part (a ∷ l) zero d h =
      let e : 0 * w ≡ 0 = omega arith in
      ap (λ (k : ℕ). take w (drop k (f a ++ flat f l))) e ∙ take_at (f a) (flat f l) w (long a)
  flat_part (a ∷ l) (suc i) d h =
      let e : suc i * w ≡ length (f a) + i * w = omega (arith, suc-mul i w, long a) in
      ap (λ (k : ℕ). take w (drop k (f a ++ flat f l))) e ∙ ap (take w) (drop-append-add (f a) (flat f l) (i * w)) ∙ flat_part l i d (omega arith)

pub length_keys : (x : Settings) → length (keys_of x) ≡ x.sizes.tills * x.sizes.tills * key_width
unfolding keys_of link_key
length_keys x =
    let n : ℕ = x.sizes.tills in
    length_flat key_width (λ (i : ℕ). link_key x.seed (i / n) (i % n)) (λ i. length_hash _) (up_to (n * n) (λ i. i)) ∙ ap (λ (k : ℕ). k * key_width) (length_up_to (n * n) (λ i. i))

key_long : (seed a b : ℕ) → length (link_key seed a b) ≡ key_width
unfolding link_key
key_long seed a b = length_hash _

-- the key of a link is the digest of seed, "link" and its two ends
pub keys_are : (x : Settings) (from to : ℕ) → from < x.sizes.tills → to < x.sizes.tills → key_of x.sizes.tills (keys_of x) from to ≡ link_key x.seed from to
unfolding keys_of
keys_are x from to f t =
    let n : ℕ = x.sizes.tills in
    let i : ℕ = from * n + to in
    let k : (from + 1) * n ≤ n * n = mul-le-mul_right n (omega arith) in
    let inside : i < n * n = omega (arith, suc-mul from n, k) in
    let turn : i ≡ to + from * n = omega arith in
    let q : i / n ≡ from = ap (λ (j : ℕ). j / n) turn ∙ add-mul-div_right to from (omega arith) ∙ ap (λ (j : ℕ). j + from) (div-eq_of_lt t) ∙ zero-add from in
    let r : i % n ≡ to = ap (λ (j : ℕ). j % n) turn ∙ add-mul-mod_self_right to from n ∙ mod-eq_of_lt t in
    flat_part key_width (λ (j : ℕ). link_key x.seed (j / n) (j % n)) (λ j. key_long x.seed (j / n) (j % n)) (up_to (n * n) (λ j. j)) i 0 (omega (arith, length_up_to (n * n) (λ (j : ℕ). j)))
    ∙ ap (λ (j : ℕ). link_key x.seed (j / n) (j % n)) (get_d_up_to (n * n) (λ j. j) i 0 inside)
    ∙ (λ j. link_key x.seed (q j) (r j))

-- ---- Prices

abbrev pairs : Plan → List ℕ
pairs p = prices_of p.seed p.regions (replicate (pair_cells p) 0)

length_pairs : (p : Plan) → length (pairs p) ≡ pair_cells p
length_pairs p = length_prices p.seed p.regions (replicate (pair_cells p) 0) ∙ length-replicate (pair_cells p) 0

pub length_priced : (x : Settings) → length (priced_by x) ≡ prices_width x.plan x.sizes.tills
unfolding priced_by
length_priced x = go (eqb x.plan.planned 0)
  where
    go : (b : Bool) → length (cond b [] (pairs x.plan ++ up_to x.sizes.tills (λ t. region_of x.plan.seed x.plan.regions t))) ≡ cond b 0 (pair_cells x.plan + x.sizes.tills)
    go true = refl
    go false = length-append (pairs x.plan) (up_to x.sizes.tills (λ t. region_of x.plan.seed x.plan.regions t))
        ∙ omega (arith, length_pairs x.plan, length_up_to x.sizes.tills (λ (t : ℕ). region_of x.plan.seed x.plan.regions t))

-- with a plan: the pairs come first, the regions of the tills behind them
module _ (x : Settings) (planned : eqb x.plan.planned 0 ≡ false) where
  abbrev regions : ℕ
  regions = at_least_one x.plan.regions

  abbrev sits : ℕ → ℕ
  sits t = region_of x.plan.seed x.plan.regions t

  priced_is : priced_by x ≡ pairs x.plan ++ up_to x.sizes.tills sits
  unfolding priced_by
  priced_is = ap (λ (b : Bool). cond b [] (pairs x.plan ++ up_to x.sizes.tills sits)) planned

  -- a till sits in its region
  pub regions_are : (t : ℕ) → t < x.sizes.tills → region_at x.plan (priced_by x) t ≡ region_of x.plan.seed x.plan.regions t
  regions_are t h =
      ap (λ (l : List ℕ). cell l (pair_cells x.plan + t)) priced_is
      ∙ ap (λ (k : ℕ). cell (pairs x.plan ++ up_to x.sizes.tills sits) (k + t)) (sym (length_pairs x.plan))
      ∙ get_or-append-add (pairs x.plan) (up_to x.sizes.tills sits) t 0
      ∙ get_d_up_to x.sizes.tills sits t 0 h

  link_same : (i : ℕ) → i < regions * regions → link_in (priced_by x) i ≡ link_in (pairs x.plan) i
  unfolding link_in
  link_same i h =
      let low : (k : ℕ) → k < pair_cells x.plan → cell (priced_by x) k ≡ cell (pairs x.plan) k =
      λ k l. ap (λ (q : List ℕ). cell q k) priced_is ∙ get_or-append (pairs x.plan) (up_to x.sizes.tills sits) 0 k (omega (arith, l, length_pairs x.plan)) in
      rw (low (link_width * i) (omega arith), low (link_width * i + 1) (omega arith))

  -- the price of a pair of regions is the plan's
  pub prices_of_lem : (a b : ℕ) → a < regions → b < regions → link_at (priced_by x) x.plan.regions a b ≡ plan_link x.plan.seed x.plan.regions a b
  unfolding link_at
  prices_of_lem a b p q =
      let k : (a + 1) * regions ≤ regions * regions = mul-le-mul_right regions (omega arith) in
      link_same (a * regions + b) (omega (arith, suc-mul a regions, k))
      ∙ prices_are x.plan.seed x.plan.regions a b (replicate (pair_cells x.plan) 0) p q (omega (arith, length-replicate {A = ℕ} (pair_cells x.plan) 0))

  some_region : 0 < regions
  unfolding at_least_one
  some_region = omega arith

  -- question 1's tests of them
  pub priced_admitted : (i : ℕ) → i < regions * regions → link_admitted (link_in (priced_by x) i) ≡ true
  unfolding link_at
  priced_admitted i h =
      let a : ℕ = i / regions in
      let b : ℕ = i % regions in
      let q : a < regions = (div-lt_iff_lt-mul some_region).1 h in
      let e : i ≡ a * regions + b = sym (div-add-mod' i regions) in
      ap (λ (j : ℕ). link_admitted (link_in (priced_by x) j)) e
      ∙ ap link_admitted (prices_of_lem a b q (mod-lt i some_region))
      ∙ plan_admitted x.plan.seed x.plan.regions a b

  pub region_below : (t : ℕ) → t < x.sizes.tills → ltb (region_at x.plan (priced_by x) t) regions ≡ true
  unfolding region_of
  region_below t h = lt-ltb (region_at x.plan (priced_by x) t) regions (rw (regions_are t h) (mod-lt _ some_region))

-- the cost of a link is the plan's
pub costs_are : (x : Settings) (from to bytes : ℕ) → from < x.sizes.tills → to < x.sizes.tills → cost_at x (priced_by x) from to bytes ≡ book_cost x from to bytes
unfolding cost_of plan_cost
costs_are x from to bytes f t = go (eqb x.plan.planned 0) refl
  where
    sits_in : ℕ → ℕ
    sits_in k = region_of x.plan.seed x.plan.regions k

    by : Link → Bool → Cost
    by l b = pick_cost (not b) (link_cost l bytes) (record { base = record { ns = x.config.latency }; transmission = record { ns = 0 } })

    go : (b : Bool) → eqb x.plan.planned 0 ≡ b
        → by (link_at (priced_by x) x.plan.regions (region_at x.plan (priced_by x) from) (region_at x.plan (priced_by x) to)) b ≡ by (plan_link x.plan.seed x.plan.regions (sits_in from) (sits_in to)) b
    go true e = refl
    go false e =
        ap (λ (l : Link). link_cost l bytes)
        ((λ j. link_at (priced_by x) x.plan.regions (regions_are x e from f j) (regions_are x e to t j))
        ∙ prices_of_lem x e (sits_in from) (sits_in to) (plan.region_below x.plan.seed x.plan.regions from) (plan.region_below x.plan.seed x.plan.regions to))

-- ---- Draws that agree on every link between tills below n

pub record SameDraws (n : ℕ) (d e : Draws) : Type 0 where
  pub loss : (from to : ℕ) → from < n → to < n → d.loss from to ≡ e.loss from to
  pub duplicate : (from to : ℕ) → from < n → to < n → d.duplicate from to ≡ e.duplicate from to
  pub replay : (from to : ℕ) → from < n → to < n → d.replay from to ≡ e.replay from to
  pub echoing : d.echoing ≡ e.echoing
  pub latency : (from to : ℕ) → from < n → to < n → d.latency from to ≡ e.latency from to
  pub index : (from to : ℕ) → from < n → to < n → d.index from to ≡ e.index from to
  pub decide : d.decide ≡ e.decide
  pub id : d.id ≡ e.id

-- the tables' draws and the book's: keys and costs of links between the opening's tills are the same
pub draws_are : (x : Settings) (names : List ℕ) → SameDraws x.sizes.tills (draws_of x names (key_of x.sizes.tills (keys_of x)) (cost_at x (priced_by x))) (draws_of x names (book_key x) (book_cost x))
unfolding draws_of
draws_are x names = record {
  loss = λ from to f t. ap (λ (k : List ℕ). chance k x.config.loss) (keys_are x from to f t);
  duplicate = λ from to f t. ap (λ (k : List ℕ). chance k x.config.duplicate) (keys_are x from to f t);
  replay = λ from to f t. ap (λ (k : List ℕ). chance k x.config.replay) (keys_are x from to f t);
  echoing = refl;
  latency = λ from to f t. (λ j bytes words. delayed (keys_are x from to f t j) (costs_are x from to bytes f t j) words);
  index = λ from to f t. (λ j n words. indexed (keys_are x from to f t j) n words);
  decide = refl;
  id = refl;
}
  where
    delayed : List ℕ → Cost → ℕ → Draw ℕ
    delayed key k words = record {
      value = latency_at key words k.base.ns (rate_of x.config.jitter) (rate_of x.config.spike) k.transmission.ns;
      words = words + latency_words key words k.base.ns (rate_of x.config.jitter) (rate_of x.config.spike);
    }

    indexed : List ℕ → ℕ → ℕ → Draw ℕ
    indexed key n words = record { value = whole32_at key words n; words = words + words32_at key words n }
