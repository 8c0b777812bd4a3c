-- What the draws of an accepted opening stay below: latencies, word counts, ids.
use mathlib.Core.Path.{◌≡◌, refl, sym, ap, ◌∙◌, subst}
use Prim.Native.Nat.{ℕ, suc, ◌+◌, ◌*◌, ◌^◌, ◌≤◌, ◌<◌}
use native.Mathlib.Omega.{arith}
use mathlib.Core.Bool.{Bool, true, false, cond, not, ◌&&◌, ◌||◌, false≢true}
use mathlib.Core.List.{List, [], ◌∷◌, ◌++◌}
use lib.Dec.{T, eqb, leb, ltb}
use lib.ListN.{length, get_or, drop, length-append, length-take}
use borrow.Author.Tests.{leb-true, ltb-true}
use Rattle.table_rows.specs.Rows.{all_of}
use Rattle.table_rows.specs.Lists.{Each}
use Rattle.hash_digest.specs.Blake3.{hash}
use Rattle.rand_draw.specs.Draw.{draws_of, words32_at, choose, again}
use Rattle.link_latency.specs.Admitted.{longest_base, longest_transmission, latency_admitted, fraction_admitted}
use Rattle.link_latency.specs.Latency.{longest}
use Rattle.link_latency.proofs.Limits.{latency_limits, latency_words_most}
use Rattle.link_latency.proofs.Laws.{hit_most}
use Rattle.link_geography.specs.Geography.{at_least_one, link_at, link_admitted, link_cost, cost_of, pick_cost}
use Rattle.link_geography.specs.declared.Link.{Link}
use Rattle.link_geography.specs.declared.Cost.{Cost}
use Rattle.link_geography.proofs.Prices.{plan_admitted, transmission_most}
use Rattle.fault_rule.specs.declared.MessageContext.{MessageContext}
use Rattle.fault_rules.specs.declared.FaultRule.{FaultRule}
use Rattle.fault_decide.proofs.Held.{decide_words}
use Rattle.spec_network.specs.Opening.{Settings, Opening, global, longest_wire, longest_name, longest_key}
use Rattle.spec_network.specs.Lists.{every, below}
use Rattle.spec_network.specs.Tables.{cell, name_at, shard_at, text_at}
use Rattle.spec_network.specs.Limits.{rate_of, text_tests, range_tests}
use Rattle.spec_network.specs.Real as real
use Rattle.spec_network.specs.Real.{key_of, keys_of, fault_key_of, priced_by, region_at, cost_at, scope_bytes, id_of}
use Rattle.spec_network.proofs.Opened.{prices_of_lem, region_below}
use Rattle.spec_network.proofs.Hash.{hash_fit}
use Rattle.spec_book.proofs.Each.{all_each, every_each, each_at, up_to_each, True}

-- the draws keep to these
pub record DrawsFit (o : Opening) : Type 0 where
  pub loss : (from to w : ℕ) → (o.draws.loss from to w).words ≤ w + 2
  pub duplicate : (from to w : ℕ) → (o.draws.duplicate from to w).words ≤ w + 2
  pub replay : (from to w : ℕ) → (o.draws.replay from to w).words ≤ w + 2
  pub latency : (from to bytes w : ℕ) → from < o.sizes.tills → to < o.sizes.tills → bytes ≤ longest_wire → (o.draws.latency from to bytes w).value ≤ longest
  pub latency_words_fit : (from to bytes w : ℕ) → (o.draws.latency from to bytes w).words ≤ w + 6
  pub index : (from to n w : ℕ) → (o.draws.index from to n w).words ≤ w + 2
  pub decide : (m : MessageContext) (rs : List FaultRule) (w : ℕ) → (o.draws.decide m rs w).words ≤ w + 2 * length rs
  pub id : (kind scope : ℕ) (wire : List ℕ) → kind < o.sizes.types → (eqb scope global || ltb scope o.sizes.shards) ≡ true → length wire ≤ longest_wire → o.draws.id kind scope wire < 2 ^ 64

-- a whole range of 32 bits takes two words at most
index_words : (key : List ℕ) (w n : ℕ) → words32_at key w n ≤ 2
unfolding words32_at draws_of
index_words key w n = go (again 32 n _)
  where
    go : (b : Bool) → choose b 2 1 ≤ 2
    go true = omega arith
    go false = omega arith

module _ (x : Settings) (names : List ℕ) (ranges : every (range_tests x.config) ≡ true) (texts : every (text_tests x.sizes names) ≡ true) where
  r : Each True (range_tests x.config)
  r = every_each (range_tests x.config) ranges

  base_small : latency_admitted x.config.latency ≡ true → x.config.latency ≤ longest_base
  unfolding latency_admitted
  base_small h = leb-true x.config.latency longest_base h

  fraction_in : T (fraction_admitted (rate_of x.config.jitter))
  fraction_in = subst T (sym r.1.0) tt

  admitted_link : (l : Link) → link_admitted l ≡ true → (l.base.ns ≤ longest_base) × (100000000 ≤ l.rate)
  unfolding link_admitted
  admitted_link l h = go (leb l.base.ns 160000000) (leb 100000000 l.rate) refl refl h
    where
      go : (a b : Bool) → leb l.base.ns 160000000 ≡ a → leb 100000000 l.rate ≡ b → (a && b) ≡ true → (l.base.ns ≤ longest_base) × (100000000 ≤ l.rate)
      go true true p q e = (omega (arith, leb-true l.base.ns 160000000 p), leb-true 100000000 l.rate q)
      go true false p q e = absurd (false≢true e)
      go false b p q e = absurd (false≢true e)

  cost_limits : (from to bytes : ℕ) → from < x.sizes.tills → to < x.sizes.tills → bytes ≤ longest_wire
      → ((cost_at x (priced_by x) from to bytes).base.ns ≤ longest_base) × ((cost_at x (priced_by x) from to bytes).transmission.ns ≤ longest_transmission)
  unfolding cost_of link_cost
  cost_limits from to bytes f t h = go (eqb x.plan.planned 0) refl
    where
      a : ℕ
      a = region_at x.plan (priced_by x) from

      b : ℕ
      b = region_at x.plan (priced_by x) to

      L : Link
      L = link_at (priced_by x) x.plan.regions (region_at x.plan (priced_by x) from) (region_at x.plan (priced_by x) to)

      C : Bool → Cost
      C q = pick_cost (not q) (link_cost (link_at (priced_by x) x.plan.regions (region_at x.plan (priced_by x) from) (region_at x.plan (priced_by x) to)) bytes) (record { base = record { ns = x.config.latency }; transmission = record { ns = 0 } })

      go : (q : Bool) → eqb x.plan.planned 0 ≡ q → ((C q).base.ns ≤ longest_base) × ((C q).transmission.ns ≤ longest_transmission)
      go true e = (base_small r.0, omega arith)
      go false e =
          let p = ltb-true a (at_least_one x.plan.regions) (region_below x e from f) in
          let q = ltb-true b (at_least_one x.plan.regions) (region_below x e to t) in
          let k = admitted_link L (ap link_admitted (prices_of_lem x e a b p q) ∙ plan_admitted x.plan.seed x.plan.regions a b) in
          let m = transmission_most bytes L.rate h k.1 in
          (k.0, omega (arith, m))

  -- ---- Ids

  text_short : (i n : ℕ) → leb (cell names i) n ≡ true → length (text_at names i) ≤ n
  text_short i n h = omega (arith, length-take (cell names i) (drop (suc i) names), leb-true (cell names i) n h)

  t : Each True (text_tests x.sizes names)
  t = every_each (text_tests x.sizes names) texts

  below_at : (n k : ℕ) → k < n → (p : ℕ → Bool) → all_of p (below n) ≡ true → p k ≡ true
  below_at n k h p e = up_to_each (λ j. p j ≡ true) n (λ i. i) k h (all_each p (below n) e)

  name_short : (kind : ℕ) → kind < x.sizes.types → length (text_at names (name_at kind)) ≤ longest_name
  name_short kind h = text_short (name_at kind) longest_name (below_at x.sizes.types kind h (λ k. leb (cell names (name_at k)) longest_name) t.0)

  key_short : (shard : ℕ) → shard < x.sizes.shards → length (text_at names (shard_at shard)) ≤ longest_key
  key_short shard h = text_short (shard_at shard) longest_key (below_at x.sizes.shards shard h (λ k. leb (cell names (shard_at k)) longest_key) t.1.0)

  two_words : (l : List ℕ) → Each (λ (v : ℕ). v < 2 ^ 32) l → get_or l 0 0 + 2 ^ 32 * get_or l 1 0 < 2 ^ 64
  two_words l e =
      let a = each_at (λ (v : ℕ). v < 2 ^ 32) l 0 0 e (omega arith) in
      let b = each_at (λ (v : ℕ). v < 2 ^ 32) l 1 0 e (omega arith) in
      omega (arith, a, b)

  scope_short : (scope : ℕ) → (eqb scope global || ltb scope x.sizes.shards) ≡ true → length (scope_bytes names scope) ≤ 17
  scope_short scope h = go (eqb scope global) (ltb scope x.sizes.shards) refl h
    where
      go : (a b : Bool) → ltb scope x.sizes.shards ≡ b → (a || b) ≡ true → length (cond a (0 ∷ []) (1 ∷ text_at names (shard_at scope))) ≤ 17
      go true b p e = omega arith
      go false true p e = let k = key_short scope (ltb-true scope x.sizes.shards p) in omega (arith, k)
      go false false p e = absurd (false≢true e)

  id_small : (kind scope : ℕ) (wire : List ℕ) → kind < x.sizes.types → (eqb scope global || ltb scope x.sizes.shards) ≡ true → length wire ≤ longest_wire → id_of names kind scope wire < 2 ^ 64
  unfolding id_of
  id_small kind scope wire k s w =
      let head = text_at names (name_at kind) ++ scope_bytes names scope in
      two_words (hash (head ++ wire)) (hash_fit (head ++ wire) (omega (arith, length-append head wire, length-append (text_at names (name_at kind)) (scope_bytes names scope), name_short kind k, scope_short scope s)))

  -- the draws as the tables have them
  abbrev pub tabled : Opening
  tabled = record { sizes = x.sizes; draws = real.draws_of x names (key_of x.sizes.tills (keys_of x)) (cost_at x (priced_by x)) }

  pub draws_fit : DrawsFit tabled
  unfolding real.draws_of real.chance
  draws_fit = record {
    loss = λ from to w. omega (arith, hit_most (rate_of x.config.loss));
    duplicate = λ from to w. omega (arith, hit_most (rate_of x.config.duplicate));
    replay = λ from to w. omega (arith, hit_most (rate_of x.config.replay));
    latency = λ from to bytes w f t h.
        let c = cost_limits from to bytes f t h in
        (latency_limits _ w _ (rate_of x.config.jitter) (rate_of x.config.spike) _ (record { base = c.0; fraction = fraction_in }) c.1).1;
    latency_words_fit = λ from to bytes w. omega (arith, latency_words_most (key_at from to) w (cost_at x (priced_by x) from to bytes).base.ns (rate_of x.config.jitter) (rate_of x.config.spike));
    index = λ from to n w. omega (arith, index_words (key_at from to) w n);
    decide = λ m rs w. decide_words (fault_key_of x.fault_key) m rs w;
    id = id_small;
  }
    where
      key_at : ℕ → ℕ → List ℕ
      key_at from to = key_of x.sizes.tills (keys_of x) from to
