-- The whole opening: refused, or every table as the network's definitions say. Assumes nothing.
use mathlib.Core.Path.{◌≡◌, refl, sym, ap, ◌∙◌}
use mathlib.Core.List.{List}
use Prim.Native.Nat.{ℕ, zero, suc}
use native.Mathlib.Omega.{arith}
use lib.ListN.{length, replicate}
use borrow.Author.Tests.{eq-eqb, eqb-true, eqb-false}
use lib.Dec.{eqb}
use mathlib.Core.Bool.{Bool, true, false, false≢true}
use Rattle.spec_network.specs.Opening.{Settings, links}
use Rattle.spec_network.specs.Tables.{Tables, setup_of}
use Rattle.spec_network.specs.Real.{key_width, keys_of, priced_by}
use Rattle.spec_network.specs.Open.{open_number, open_exit}
use Rattle.ask_opening.specs.declared.NetworkConfig.{NetworkConfig}
use Rattle.ask_opening.specs.declared.NetworkSizes.{NetworkSizes}
use Rattle.ask_opening.specs.declared.RegionPlan.{RegionPlan}
use Rattle.ask_opening.specs.declared.TableLengths.{TableLengths}
use Rattle.ask_opening.specs.Given.{settings_of, key_words, key_bytes}
use Rattle.ask_opening.specs.Asked.{number_of}
use Rattle.ask_opening.proofs.Number.{Passed, passed, lengths_in, number_is}
use Rattle.ask_opening.proofs.Sums.{key_other}
use Rattle.call_open.specs.Opens.{opened_of, DoesOpen, Settled, Begun, begun_net, begun_tills, begun_seen, begun_rings, begun_log}

-- the questions do not ask the seed
seedless : (c : NetworkConfig) (z : NetworkSizes) (p : RegionPlan) (seed : ℕ) (key masks names : List ℕ) (n : TableLengths)
    → number_of (settings_of c z p 0 key) n masks names ≡ number_of (settings_of c z p seed key) n masks names
unfolding number_of
seedless c z p seed key masks names n = refl

-- only 32 bytes make 8 words
key_bytes_lem : (key : List ℕ) → length (key_words key) ≡ key_width → length key ≡ key_bytes
key_bytes_lem key h = go (eqb (length key) key_bytes) refl
  where
    go : (b : Bool) → eqb (length key) key_bytes ≡ b → length key ≡ key_bytes
    go true e = eqb-true (length key) key_bytes e
    go false e = absurd (false≢true (sym (key_other key (eqb-false (length key) key_bytes e)) ∙ eq-eqb (length (key_words key)) key_width h))

module _ (c : NetworkConfig) (z : NetworkSizes) (p : RegionPlan) (seed : ℕ) (key masks : List ℕ) (T : Tables) (number : ℕ)
    (h : number ≡ number_of (settings_of c z p 0 key) (lengths_in T) masks T.names) where
  abbrev x : Settings
  x = settings_of c z p seed key

  answer : number ≡ open_number x masks T
  answer = h ∙ seedless c z p seed key masks T.names (lengths_in T) ∙ number_is x masks T

  -- a "no" leaves everything as found
  pub refused : (number ≡ 0 → ⊥) → DoesOpen T T x masks (opened_of number)
  unfolding DoesOpen
  refused ne = (ap opened_of answer, stays number (open_number x masks T) ne answer)
    where
      stays : (a b : ℕ) → (a ≡ 0 → ⊥) → a ≡ b → open_exit x masks T b ≡ T
      stays a zero ne e = absurd (ne e)
      stays a (suc b) ne e = refl

  -- what passed
  pub ready : number ≡ 0 → Passed x (lengths_in T) masks
  ready e = passed x (lengths_in T) masks T.names (sym (h ∙ seedless c z p seed key masks T.names (lengths_in T)) ∙ e)

  pub settled : number ≡ 0 → Settled x key T.setup T.words T.keys T.prices
  settled e =
      let q = ready e in
      record {
        tills = q.sizes.tills;
        regions = q.sizes.regions;
        rates = q.rates;
        key_long = key_bytes_lem key q.key;
        setup_long = q.tables.setup;
        words_long = q.tables.words;
        keys_long = q.tables.keys;
        prices_long = q.tables.prices;
      }

  pub begun : number ≡ 0 → Begun z masks T.net T.tills T.seen T.rings T.log
  begun e =
      let q = ready e in
      record {
        tills_most = q.sizes.tills;
        types_most = q.sizes.types;
        masks_long = q.given;
        net_long = q.tables.net;
        tills_long = q.tables.tills;
        seen_long = omega (arith, q.tables.seen);
        rings_long = omega (arith, q.tables.rings);
        log_long = omega (arith, q.tables.log);
      }

  -- every table that is written
  pub done : number ≡ 0 → (setup net tills words keys prices seen heads head : List ℕ)
      → (setup ≡ setup_of x) × (words ≡ replicate links 0) × (keys ≡ keys_of x) × (prices ≡ priced_by x)
      → (net ≡ begun_net) × (tills ≡ begun_tills z masks) × (seen ≡ begun_seen z T.seen) × (heads ≡ begun_rings z T.rings) × (head ≡ begun_log T.log)
      → DoesOpen T
      (record {
        setup = setup;
        net = net;
        names = T.names;
        tills = tills;
        words = words;
        keys = keys;
        prices = prices;
        seen = seen;
        waiting = T.waiting;
        rings = heads;
        rules = T.rules;
        blocks = T.blocks;
        log = head;
      })
      x
      masks
      (opened_of number)
  unfolding DoesOpen
  done e setup net tills words keys prices seen heads head a b = (
    ap opened_of answer,
    ap (open_exit x masks T) (sym answer ∙ e)
        ∙ (λ j. record {
          setup = sym a.0 j;
          net = sym b.0 j;
          names = T.names;
          tills = sym b.1 j;
          words = sym a.1 j;
          keys = sym a.2 j;
          prices = sym a.3 j;
          seen = sym b.2 j;
          waiting = T.waiting;
          rings = sym b.3 j;
          rules = T.rules;
          blocks = T.blocks;
          log = sym b.4 j;
        }),
  )
