-- Document 01, fault engine (`block`, `block_during`, `unblock`, `is_blocked`), with questions 1, 4, 7, 12 and 18: THE CONTRACTS of the block calls. Of the tables `setup`,
-- `net` and `blocks` are lent; the others hold whatever they hold, and stay.
use Rattle.std.specs.Prelude.{List, ℕ}
use Rattle.spec_network.specs.Calls.{Call, block, block_during, unblock, reading, is_blocked}
use Rattle.spec_network.specs.Tables.{Tables}
use Rattle.spec_network.specs.Lending.{lend_blocks}
use Rattle.spec_network.specs.Contract.{Does}
use Rattle.call_reply.specs.declared.Done.{Done}
use Rattle.call_reply.specs.declared.Value.{Value}
use Rattle.call_reply.specs.Reply.{done_of, value_of}

-- a call that writes: its reply, and the tables at exit
unfoldable pub Changes : (setup net blocks net' blocks' : List ℕ) → Call → Done → Type 0
Changes s n b n' b' c r = (T : Tables) → Does done_of (lend_blocks T s n b) (lend_blocks T s n' b') c r

abbrev pub DoesBlock : (setup net blocks net' blocks' : List ℕ) (from to : ℕ) → Done → Type 0
DoesBlock s n b n' b' from to r = Changes s n b n' b' (block from to) r

abbrev pub DoesBlockDuring : (setup net blocks net' blocks' : List ℕ) (from to start end : ℕ) → Done → Type 0
DoesBlockDuring s n b n' b' from to start end r = Changes s n b n' b' (block_during from to start end) r

abbrev pub DoesUnblock : (setup net blocks net' blocks' : List ℕ) (from to : ℕ) → Done → Type 0
DoesUnblock s n b n' b' from to r = Changes s n b n' b' (unblock from to) r

-- the call that only reads
unfoldable pub DoesIsBlocked : (setup net blocks : List ℕ) (from to now : ℕ) → Value → Type 0
DoesIsBlocked s n b from to now r = (T : Tables) → Does value_of (lend_blocks T s n b) (lend_blocks T s n b) (reading (is_blocked from to now)) r
