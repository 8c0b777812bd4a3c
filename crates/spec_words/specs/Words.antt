-- Document 02, M-102: 2^40 + 10,000, "which is further than one accepted call can carry a stream".
use Rattle.std.specs.Prelude.{ℕ, ◌+◌, ◌<◌}
use Rattle.table_rows.specs.Lists.{Each}
use Rattle.spec_network.specs.Opening.{most_words}
use Rattle.spec_network.specs.Tables.{Tables, cell, fault_words_at}

abbrev pub farthest : ℕ
farthest = most_words + 10000

abbrev pub Near : ℕ → Type 0
Near count = count < farthest

-- the word count of every link and that of the fault stream, as the tables hold them
pub record WordsNear (T : Tables) : Type 0 where
  pub links : Each Near T.words
  pub fault : Near (cell T.net fault_words_at)
