-- Document 01, questions 1, 4 and 5, for the calls on tills and marks: as the code asks them, of the lent tables.
use Rattle.std.specs.Prelude.{Bool, true, cond, ◌&&◌, List, ℕ, leb, ltb}
use Rattle.spec_network.specs.Lists.{within}
use Rattle.spec_network.specs.Tables.{sizes_at}
use Rattle.ask_tables.specs.Held.{setup_held, tills_held, seen_held}

-- 1
unfoldable pub tills_lent : (setup tills : List ℕ) → Bool
tills_lent s a = setup_held s && (tills_held s a && true)

unfoldable pub seen_lent : (setup seen : List ℕ) → Bool
seen_lent s m = setup_held s && (seen_held s m && true)

unfoldable pub both_lent : (setup tills seen : List ℕ) → Bool
both_lent s a m = setup_held s && (tills_held s a && (seen_held s m && true))

-- 4, then the rest
abbrev pub near : (setup : List ℕ) (t rest : ℕ) → ℕ
near s t rest = cond (ltb t (sizes_at s).tills) rest 4

unfoldable pub down_number : (setup tills seen : List ℕ) (t : ℕ) → ℕ
down_number s a m t = cond (both_lent s a m) (near s t 0) 1

unfoldable pub read_number : (setup tills : List ℕ) (t : ℕ) → ℕ
read_number s a t = cond (tills_lent s a) (near s t 0) 1

-- 5
unfoldable pub up_number : (setup tills : List ℕ) (t shards : ℕ) → ℕ
up_number s a t shards = cond (tills_lent s a) (near s t (cond (within shards (sizes_at s).shards) 0 5)) 1

unfoldable pub handlers_number : (setup tills : List ℕ) (t gossip host : ℕ) → ℕ
handlers_number s a t gossip host = cond (tills_lent s a) (near s t (cond (within gossip (sizes_at s).types && within host (sizes_at s).types) 0 5)) 1

-- 1, also of the output: it has a place for each mark that a till may have
unfoldable pub marks_number : (setup seen : List ℕ) (places t : ℕ) → ℕ
marks_number s m places t = cond (seen_lent s m) (cond (leb (sizes_at s).seen_slots places) (near s t 0) 1) 1
