-- Document 01, 'The book', Opening, with questions 1, 2, 3 and 5: the opening as a call on the lent tables, and what its parts write.
use Rattle.std.specs.Prelude.{ℕ, ◌*◌, ◌≤◌, ◌≡◌, true, List, ◌++◌, length, drop, replicate}
use Rattle.table_rows.specs.Rows.{flat}
use Rattle.table_rings.specs.Rings as rings
use Rattle.table_log.specs.Log as log
use Rattle.link_geography.specs.Geography.{most_regions}
use Rattle.spec_network.specs.Lists.{every}
use Rattle.spec_network.specs.Opening.{Settings, most_tills, most_types, links}
use Rattle.spec_network.specs.Live.{open_tills, rings_of}
use Rattle.spec_network.specs.Tables.{Tables, setup_width, net_width, till_form}
use Rattle.spec_network.specs.Limits.{range_tests}
use Rattle.spec_network.specs.Real.{key_width, prices_width}
use Rattle.spec_network.specs.Contract.{Opens}
use Rattle.ask_opening.specs.declared.NetworkSizes.{NetworkSizes}
use Rattle.ask_opening.specs.Given.{sizes_of, key_bytes}
use Rattle.call_reply.specs.declared.Done.{Done}

-- ---- The contract

abbrev pub opened_of : ℕ → Done
opened_of n = record { number = n }

-- the number of the first question whose answer is "no", or 0; and every lent table at exit
unfoldable pub DoesOpen : (T T' : Tables) → Settings → (masks : List ℕ) → Done → Type 0
DoesOpen T T' x masks r = Opens opened_of T T' x masks r

-- ---- What the parts write

-- what the opening alone writes: settings and tables that passed the questions
pub record Settled (x : Settings) (key setup words keys prices : List ℕ) : Type 0 where
  pub tills : x.sizes.tills ≤ most_tills
  pub regions : x.plan.regions ≤ most_regions
  pub rates : every (range_tests x.config) ≡ true
  pub key_long : length key ≡ key_bytes
  pub setup_long : length setup ≡ setup_width
  pub words_long : length words ≡ links
  pub keys_long : length keys ≡ x.sizes.tills * x.sizes.tills * key_width
  pub prices_long : length prices ≡ prices_width x.plan x.sizes.tills

-- what calls write
pub record Begun (z : NetworkSizes) (masks net tills seen heads head : List ℕ) : Type 0 where
  pub tills_most : z.tills ≤ most_tills
  pub types_most : z.types ≤ most_types
  pub masks_long : length masks ≡ z.tills
  pub net_long : length net ≡ net_width
  pub tills_long : length tills ≡ z.tills * till_form.width
  pub seen_long : z.tills ≤ length seen
  pub rings_long : rings_of (sizes_of z) * rings.head_width ≤ length heads
  pub log_long : log.records_at ≤ length head

abbrev pub begun_net : List ℕ
begun_net = replicate net_width 0

abbrev pub begun_tills : NetworkSizes → List ℕ → List ℕ
begun_tills z masks = flat till_form.words (open_tills masks z.tills)

abbrev pub begun_seen : NetworkSizes → List ℕ → List ℕ
begun_seen z seen = replicate z.tills 0 ++ drop z.tills seen

abbrev pub begun_rings : NetworkSizes → List ℕ → List ℕ
begun_rings z heads = replicate (rings_of (sizes_of z) * rings.head_width) 0 ++ drop (rings_of (sizes_of z) * rings.head_width) heads

abbrev pub begun_log : List ℕ → List ℕ
begun_log l = log.cleared_at l
