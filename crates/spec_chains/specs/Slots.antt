-- Document 02, M-113: the pool as lent memory. One table of rows holds the waiting copies of every chain, those of chain 0 first, each chain's by time, then sequence; what lies behind them is unused.
-- Between its calls a chain has no other waiting table. With each call it is lent a table of its limit's size to work in; its copies are brought there, and go back into the pool.
use Rattle.std.specs.Prelude.{◌≡◌, ℕ, zero, suc, ◌+◌, ◌-◌, ◌*◌, ◌≤◌, ◌<◌, cond, List, [], ◌∷◌, ◌++◌, eqb, ltb, length, drop, set}
use Rattle.table_rows.specs.Table.{rows_of, over}
use Rattle.table_waiting.specs.Waiting as waiting
use Rattle.table_waiting.specs.declared.Copy.{Copy}
use Rattle.spec_network.specs.Live.{plainly}
use Rattle.spec_network.specs.Questions.{alone, pooled}
use Rattle.spec_network.specs.Tables.{cell, Tables, live, waiting_at}
use Rattle.spec_network.specs.Writes.{Reply, set_waiting}
use Rattle.spec_book.specs.Book.{Book}
use Rattle.spec_book.specs.Demand3.{Item, Admitted, reply_to, tables_after, book_after, CallHolds, BookHolds}
use Rattle.spec_chains.specs.Pool.{sum_below, others_below, takes, Bench, limit, free_for, most_chains, chain_opening, chain_opened}
use Rattle.spec_chains.specs.Chains.{placed, put, in_books, opened_books}

-- the copies of the chains below k, in their order
abbrev pub joined : ℕ → (ℕ → List Copy) → List Copy
joined zero f = []
joined (suc k) f = joined k f ++ f k

-- a chain's copies in the pool: behind those of the chains before it
unfoldable pub copies_in : List ℕ → (counts : ℕ → ℕ) → ℕ → List Copy
copies_in pool counts i = rows_of waiting.form (drop (sum_below i counts * waiting.width) pool) (counts i)

-- ---- `ledger`: the number of chains and the pool's slots; then for each chain its share, its limit and how many of its copies wait

abbrev pub ledger_width : ℕ
ledger_width = 2 + most_chains * 3

abbrev pub share_at : ℕ → ℕ
share_at i = 2 + i * 3

abbrev pub count_at : ℕ → ℕ
count_at i = 4 + i * 3

abbrev pub counts : List ℕ → ℕ → ℕ
counts ledger i = cell ledger (count_at i)

-- the pool less the others' waiting copies and unused shares, as the ledger has them
abbrev pub free_in : List ℕ → ℕ → ℕ
free_in ledger i = cell ledger 1 - others_below (cell ledger 0) i (λ j. takes (cell ledger (share_at j)) (counts ledger j))

-- what the opening writes; the places of chains that are not there hold 0
abbrev pub of_chain : Bench → (ℕ → ℕ) → ℕ → ℕ
of_chain B f i = cond (ltb i B.chains) (f i) 0

abbrev pub open_ledger : Bench → List ℕ
open_ledger B =
    let s = of_chain B B.share in
    let l = of_chain B (limit B) in
    B.chains ∷ B.slots ∷ s 0 ∷ l 0 ∷ 0 ∷ s 1 ∷ l 1 ∷ 0 ∷ s 2 ∷ l 2 ∷ 0 ∷ s 3 ∷ l 3 ∷ 0 ∷ s 4 ∷ l 4 ∷ 0 ∷ s 5 ∷ l 5 ∷ 0 ∷ s 6 ∷ l 6 ∷ 0 ∷ s 7 ∷ l 7 ∷ 0 ∷ []

-- the pool, its ledger, and every chain's own tables
pub record Stand : Type 0 where
  pub pool : List ℕ
  pub ledger : List ℕ
  pub tables : ℕ → Tables

-- a call of a chain; `work` is the table lent for its waiting copies
pub record Move : Type 0 where
  pub chain : ℕ
  pub item : Item
  pub work : List ℕ

abbrev pub pool_of : Stand → ℕ → List Copy
pool_of S i = copies_in S.pool (counts S.ledger) i

-- a chain's tables as its call finds them: its copies at the front of the table lent to work in
abbrev pub brought : Stand → ℕ → List ℕ → Tables
brought S i work = set_waiting (S.tables i) (over waiting.form (pool_of S i) work)

module _ (B : Bench) where
  abbrev pub item_here : Stand → Move → Item
  item_here S m = placed (pooled (free_in S.ledger m.chain)) m.item

  abbrev pub worked : Stand → Move → Tables
  worked S m = tables_after (brought S m.chain m.work) (item_here S m)

  -- the copies that wait go back: the chains' rows over the front of the pool; what lies behind them stays
  abbrev pub stand_next : Stand → Move → Stand
  stand_next S m =
      let T = worked S m in
      record {
        pool = over waiting.form (joined B.chains (put m.chain (rows_of waiting.form T.waiting (cell T.net waiting_at)) (pool_of S))) S.pool;
        ledger = set S.ledger (count_at m.chain) (cell T.net waiting_at);
        tables = put m.chain T S.tables;
      }

  abbrev pub books_along : (ℕ → Book) → Stand → Move → ℕ → Book
  books_along b S m = put m.chain (book_after (chain_opening B m.chain) (b m.chain) (brought S m.chain m.work) (item_here S m)) b

  abbrev pub stand_last : Stand → List Move → Stand
  stand_last S [] = S
  stand_last S (m ∷ ms) = stand_last (stand_next S m) ms

  abbrev pub books_then : (ℕ → Book) → Stand → List Move → ℕ → Book
  books_then b S [] = b
  books_then b S (m ∷ ms) = books_then (books_along b S m) (stand_next S m) ms

  -- a table of the limit's size to work in; any other is refused by question 1
  abbrev pub AdmittedMoves : List Move → Type 0
  AdmittedMoves [] = Unit {0}
  AdmittedMoves (m ∷ ms) = (m.chain < B.chains) × Admitted m.item × (length m.work ≡ limit B m.chain * waiting.width) × AdmittedMoves ms

  abbrev pub MoveHolds : (ℕ → Book) → Stand → Move → Type 0
  MoveHolds b S m =
      CallHolds (chain_opening B m.chain) (b m.chain) (brought S m.chain m.work) (placed (pooled (free_for B (in_books b) m.chain)) m.item)
      × (free_in S.ledger m.chain ≡ free_for B (in_books b) m.chain)

  abbrev pub MovesHold : (ℕ → Book) → Stand → List Move → Type 0
  MovesHold b S [] = Unit {0}
  MovesHold b S (m ∷ ms) = MoveHolds b S m × MovesHold (books_along b S m) (stand_next S m) ms

  abbrev pub open_stand : List ℕ → Stand
  open_stand pool = record { pool = pool; ledger = open_ledger B; tables = chain_opened B }

-- DEMAND 3 on the pool
pub record PoolHolds (B : Bench) (pool : List ℕ) (ms : List Move) : Type 0 where
  pub calls : MovesHold B (opened_books B) (open_stand B pool) ms
  -- a chain's waiting copies are those it has in the pool, and all else that it holds is its book's
  pub in_pool : (i : ℕ) → i < B.chains → pool_of (stand_last B (open_stand B pool) ms) i ≡ (books_then B (opened_books B) (open_stand B pool) ms i).live.queue.waiting
  pub same_live : (i : ℕ) → i < B.chains → (work : List ℕ) → length work ≡ limit B i * waiting.width
      → plainly (live (B.settings i).sizes (brought (stand_last B (open_stand B pool) ms) i work)) ≡ (books_then B (opened_books B) (open_stand B pool) ms i).live
  pub books : (i : ℕ) → BookHolds (chain_opening B i) (books_then B (opened_books B) (open_stand B pool) ms i)
  -- the pool has the slots that the chains' copies take
  pub within_pool : sum_below B.chains (λ j. takes (B.share j) (in_books (books_then B (opened_books B) (open_stand B pool) ms) j)) ≤ B.slots

-- ---- A chain's own calls, and its replies on the pool

abbrev pub own_moves : ℕ → List Move → List Item
own_moves i [] = []
own_moves i (m ∷ ms) = cond (eqb i m.chain) (placed alone m.item ∷ own_moves i ms) (own_moves i ms)

abbrev pub pool_replies : Bench → ℕ → Stand → List Move → List Reply
pool_replies B i S [] = []
pool_replies B i S (m ∷ ms) = cond (eqb i m.chain) (reply_to (brought S m.chain m.work) (item_here B S m) ∷ pool_replies B i (stand_next B S m) ms) (pool_replies B i (stand_next B S m) ms)
