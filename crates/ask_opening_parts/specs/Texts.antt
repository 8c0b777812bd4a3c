-- Document 01, question 2 (type names and shard keys): texts in the table of names: a length and so many bytes, `stride` bytes apart.
use Rattle.std.specs.Prelude.{ℕ, ◌+◌, ◌*◌, ◌≤◌, ◌<◌, ◌≡◌, List, length}
use Rattle.table_rows.specs.Lists.{up_to}
use Rattle.spec_network.specs.Opening.{Sizes, most_types, most_shards}
use Rattle.spec_network.specs.Tables.{cell, text_at, names_width}

-- n texts from a start
abbrev pub texts_from : List ℕ → (start stride n : ℕ) → List (List ℕ)
texts_from names start stride n = up_to n (λ k. text_at names (start + k * stride))

-- their places lie within the table
pub record Laid (names : List ℕ) (start stride n : ℕ) : Type 0 where
  pub some : 0 < stride
  pub room : start + n * stride ≤ length names

-- each fits its place
pub record Short (names : List ℕ) (start stride n : ℕ) : Type 0 where
  pub short : (k : ℕ) → k < n → cell names (start + k * stride) < stride

-- the text at i lies within the table
pub record Inside (names : List ℕ) (i : ℕ) : Type 0 where
  pub inside : i + 1 + cell names i ≤ length names

pub record NamesHeld (names : List ℕ) (z : Sizes) : Type 0 where
  pub long : length names ≡ names_width
  pub types : z.types ≤ most_types
  pub shards : z.shards ≤ most_shards

-- sizes of which only types and shards are asked
abbrev pub counted : (types shards : ℕ) → Sizes
counted types shards = record { tills = 0; types = types; classes = 0; shards = shards; seen_slots = 0; wait_slots = 0; log_slots = 0 }
