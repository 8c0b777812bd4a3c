-- Document 01, link streams: a stream read through a cursor: what the cursor keeps, and how a draw moves it.
use Rattle.std.specs.Prelude.{ℕ, ◌+◌, ◌*◌, ◌/◌, ◌^◌, ◌≡◌, List, Bool, true, false, Some, ltb}
use Rattle.rand_chacha8.specs.Chacha.{word_at, block_of}
use Rattle.rand_streams.specs.declared.Cursor.{Cursor}

-- a cursor that holds the block of its count; that whatever block it holds is the stream's stands in its type
unfoldable pub keeps_block : Cursor → Type 0
keeps_block c = (c.held ≡ Some (c.count / 16)) × (c.block ≡ block_of c.key (c.count / 16))

-- c and then n words on: the same stream, n words further
pub record Moved (c : Cursor) (n : ℕ) (c' : Cursor) : Type 0 where
  pub key : c'.key ≡ c.key
  pub count : c'.count ≡ c.count + n

-- the 64-bit draw at a count: two words, the low one first
unfoldable pub word_pair : List ℕ → ℕ → ℕ
word_pair key count = word_at key count + 2 ^ 32 * word_at key (count + 1)

-- a draw, and the count of words after it
pub record Step : Type 0 where
  pub value : ℕ
  pub count : ℕ

abbrev pub pick : Bool → Step → Step → Step
pick true x y = x
pick false x y = y

-- a draw on a stream record: at a count below 2^62 the 64-bit draw there, and two words more; else 0, and no word
unfoldable pub step_of : List ℕ → ℕ → Step
step_of key count = pick (ltb count (2 ^ 62)) (record { value = word_pair key count; count = count + 2 }) (record { value = 0; count = count })
