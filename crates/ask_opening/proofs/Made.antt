-- The lengths of an opening's tables, as they are worked out. Assumes nothing.
use mathlib.Core.Path.{◌≡◌, sym, ap, ◌∙◌}
use mathlib.Core.Bool.{Bool, true, false, cond}
use Prim.Native.Nat.{ℕ, ◌+◌, ◌*◌, ◌≤◌}
use native.Mathlib.Omega.{arith}
use native.Mathlib.Nat.{mul-le-mul}
use borrow.Author.Tests.{eq-eqb, ne_eqb}
use Rattle.table_waiting.specs.Waiting as waiting
use Rattle.table_rings.specs.Rings as rings
use Rattle.table_log.specs.Log as log
use Rattle.fault_rules.specs.Rules.{rule_slots}
use Rattle.fault_blocks.specs.Blocks.{block_slots}
use Rattle.link_geography.specs.Geography.{at_least_one, link_width}
use Rattle.spec_network.specs.Lists.{every}
use Rattle.spec_network.specs.Opening.{links}
use Rattle.spec_network.specs.Tables.{setup_width, net_width, names_width, till_form, rule_form, block_form}
use Rattle.spec_network.specs.Limits.{size_tests}
use Rattle.spec_network.specs.Real.{key_width, prices_width}
use Rattle.spec_network.specs.Open.{lengths_of}
use Rattle.ask_opening.specs.declared.NetworkSizes.{NetworkSizes}
use Rattle.ask_opening.specs.declared.RegionPlan.{RegionPlan}
use Rattle.ask_opening.specs.declared.TableSizes.{TableSizes}
use Rattle.ask_opening.specs.Given.{plan_of, sized}
use Rattle.ask_opening.specs.Sizes.{as_sizes, no_sizes, table_sizes}

-- a product of bounded numbers
pub times : (a b m n : ℕ) → a ≤ m → b ≤ n → a * b ≤ m * n
times a b m n h k = mul-le-mul h k

-- prices
module _ (p : RegionPlan) (tills : ℕ) where
  pub none_priced : p.planned ≡ 0 → 0 ≡ prices_width (plan_of p) tills
  none_priced h = sym (ap (λ (b : Bool). cond b 0 (link_width * (at_least_one p.regions * at_least_one p.regions) + tills)) (eq-eqb p.planned 0 h))

  pub some_priced : (k n : ℕ) → (p.planned ≡ 0 → ⊥) → k ≡ at_least_one p.regions → n ≡ link_width * (k * k) + tills → n ≡ prices_width (plan_of p) tills
  some_priced k n h e q =
      q ∙ ap (λ (j : ℕ). link_width * (j * j) + tills) e
      ∙ sym (ap (λ (b : Bool). cond b 0 (link_width * (at_least_one p.regions * at_least_one p.regions) + tills)) (ne_eqb p.planned 0 h))

module _ (z : NetworkSizes) (p : RegionPlan) where
  pub refused : every (size_tests (sized z p)) ≡ false → no_sizes ≡ table_sizes (sized z p)
  unfolding table_sizes
  refused h = sym (ap (λ (b : Bool). cond b (as_sizes (lengths_of (sized z p))) no_sizes) h)

  abbrev worked : ℕ → ℕ → TableSizes
  worked prices rings = record {
    number = 0;
    setup = setup_width;
    net = net_width;
    names = names_width;
    tills = z.tills * till_form.width;
    words = links;
    keys = z.tills * z.tills * key_width;
    prices = prices;
    seen = z.tills + z.tills * z.seen;
    waiting = z.waiting * waiting.width;
    rings = rings;
    rules = rule_slots * rule_form.width;
    blocks = block_slots * block_form.width;
    log = log.size_of z.log;
  }

  pub made : (prices : ℕ) → every (size_tests (sized z p)) ≡ true → prices ≡ prices_width (plan_of p) z.tills
      → worked prices (z.types * (rings.scopes * (rings.head_width + rings.span))) ≡ table_sizes (sized z p)
  unfolding table_sizes
  made prices h e =
      let r : z.types * (rings.scopes * (rings.head_width + rings.span)) ≡ z.types * rings.scopes * (rings.head_width + rings.span) = omega arith in
      (λ j. worked (e j) (r j)) ∙ sym (ap (λ (b : Bool). cond b (as_sizes (lengths_of (sized z p))) no_sizes) h)
