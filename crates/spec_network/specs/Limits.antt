-- Document 01, 'Limits' and questions 2 and 3: the sizes, names, latency, fraction and rates that an opening admits.
use Rattle.std.specs.Prelude.{ℕ, Bool, List, [], ◌∷◌, leb, Float}
use Rattle.std.specs.Float.{binary64}
use Rattle.std.specs.Float.Ieee.{of_bits}
use Rattle.table_rows.specs.Rows.{all_of}
use Rattle.link_geography.specs.Geography.{most_regions}
use Rattle.link_latency.specs.Admitted.{latency_admitted, fraction_admitted, rate_admitted}
use Rattle.table_rows.specs.Lists.{up_to}
use Rattle.spec_network.specs.Lists.{below, unlike}
use Rattle.spec_network.specs.Opening.{Sizes, Config, Settings, most_tills, most_types, longest_name, most_classes, most_shards, longest_key, most_slots}
use Rattle.spec_network.specs.Tables.{cell, name_at, shard_at, text_at}

-- a rate as it is kept: the bits of an f64
abbrev pub rate_of : ℕ → Float
rate_of bits = of_bits binary64 bits

abbrev pub size_tests : Settings → List Bool
size_tests x =
    leb x.sizes.tills most_tills ∷ leb x.sizes.types most_types ∷ leb x.sizes.classes most_classes ∷ leb x.sizes.shards most_shards
    ∷ leb 1 x.sizes.wait_slots ∷ leb x.sizes.wait_slots most_slots ∷ leb 1 x.sizes.seen_slots ∷ leb x.sizes.seen_slots most_slots
    ∷ leb x.sizes.log_slots most_slots ∷ leb x.plan.regions most_regions ∷ []

-- a name of up to 64 bytes for each type, a key of up to 16 for each shard
abbrev pub text_tests : Sizes → List ℕ → List Bool
text_tests z names =
    all_of (λ k. leb (cell names (name_at k)) longest_name) (below z.types) ∷ all_of (λ k. leb (cell names (shard_at k)) longest_key) (below z.shards) ∷ []

-- no two type names and no two shard keys are alike
abbrev pub unlike_tests : Sizes → List ℕ → List Bool
unlike_tests z names =
    unlike (up_to z.types (λ k. text_at names (name_at k))) ∷ unlike (up_to z.shards (λ k. text_at names (shard_at k))) ∷ []

-- 3: latency, fraction and rates (NaN is not)
abbrev pub range_tests : Config → List Bool
range_tests c =
    latency_admitted c.latency ∷ fraction_admitted (rate_of c.jitter) ∷ rate_admitted (rate_of c.loss)
    ∷ rate_admitted (rate_of c.duplicate) ∷ rate_admitted (rate_of c.replay) ∷ rate_admitted (rate_of c.spike) ∷ []
