-- Document 02, M-113, and document 01, 'The book': DEMAND 3 for each chain of a bench over its own list of calls, with 23 answered from all the chains' books; what the others cannot do to a chain inside its share.
use Rattle.std.specs.Prelude.{◌≡◌, ℕ, ◌+◌, ◌*◌, ◌≤◌, ◌<◌, cond, List, [], ◌∷◌, eqb, length}
use Rattle.spec_network.specs.Opening.{Opening}
use Rattle.spec_network.specs.Live.{Live}
use Rattle.spec_network.specs.Accept.{chosen}
use Rattle.spec_network.specs.Calls.{Call, Kind, kind_of, accepting, flushing, taking_down, draining, quiet}
use Rattle.spec_network.specs.Questions.{Room, alone, pooled}
use Rattle.spec_network.specs.Tables.{cell, Tables, live, waiting_at}
use Rattle.spec_network.specs.Writes.{Reply}
use Rattle.spec_book.specs.Book.{Book, opened}
use Rattle.spec_book.specs.Demand3.{Item, own, others, reopen, Admitted, reply_to, tables_after, tables_at_end, book_after, CallHolds, Demand3}
use Rattle.spec_chains.specs.Pool.{sum_below, takes, Bench, free_for, chain_opening, chain_opened}

-- a call of one chain; the room that an item of its list names is the one that the pool leaves it
pub record Act : Type 0 where
  pub chain : ℕ
  pub item : Item

abbrev pub placed : Room → Item → Item
placed room (own r c) = own room c
placed room (others X c) = others X c
placed room (reopen X y ms) = reopen X y ms

abbrev pub put : {A : Type 0} → ℕ → A → (ℕ → A) → ℕ → A
put i x f j = cond (eqb j i) x (f j)

-- copies that wait: as the pool counts them, and as the books have them
abbrev pub counted : (ℕ → Tables) → ℕ → ℕ
counted T j = cell (T j).net waiting_at

abbrev pub in_books : (ℕ → Book) → ℕ → ℕ
in_books b j = length (b j).live.queue.waiting

module _ (B : Bench) where
  -- ---- Along the bench's list: every chain's tables, and every chain's book

  abbrev pub room_for : (ℕ → Tables) → Act → Room
  room_for T a = pooled (free_for B (counted T) a.chain)

  abbrev pub item_of : (ℕ → Tables) → Act → Item
  item_of T a = placed (room_for T a) a.item

  abbrev pub tables_next : (ℕ → Tables) → Act → ℕ → Tables
  tables_next T a = put a.chain (tables_after (T a.chain) (item_of T a)) T

  abbrev pub books_next : (ℕ → Book) → (ℕ → Tables) → Act → ℕ → Book
  books_next b T a = put a.chain (book_after (chain_opening B a.chain) (b a.chain) (T a.chain) (item_of T a)) b

  abbrev pub tables_last : (ℕ → Tables) → List Act → ℕ → Tables
  tables_last T [] = T
  tables_last T (a ∷ acts) = tables_last (tables_next T a) acts

  abbrev pub books_last : (ℕ → Book) → (ℕ → Tables) → List Act → ℕ → Book
  books_last b T [] = b
  books_last b T (a ∷ acts) = books_last (books_next b T a) (tables_next T a) acts

  -- a chain's own list, with the room that it found at each call
  abbrev pub list_of : ℕ → (ℕ → Tables) → List Act → List Item
  list_of i T [] = []
  list_of i T (a ∷ acts) = cond (eqb i a.chain) (item_of T a ∷ list_of i (tables_next T a) acts) (list_of i (tables_next T a) acts)

  -- its own calls alone, whatever the others do
  abbrev pub own_list : ℕ → List Act → List Item
  own_list i [] = []
  own_list i (a ∷ acts) = cond (eqb i a.chain) (placed alone a.item ∷ own_list i acts) (own_list i acts)

  -- its replies, on the bench, and of a list by itself
  abbrev pub replies_of : ℕ → (ℕ → Tables) → List Act → List Reply
  replies_of i T [] = []
  replies_of i T (a ∷ acts) = cond (eqb i a.chain) (reply_to (T a.chain) (item_of T a) ∷ replies_of i (tables_next T a) acts) (replies_of i (tables_next T a) acts)

  abbrev pub AdmittedActs : List Act → Type 0
  AdmittedActs [] = Unit {0}
  AdmittedActs (a ∷ acts) = (a.chain < B.chains) × Admitted a.item × AdmittedActs acts

  -- ---- What holds of each call: on its chain's book; its room is answered from all the chains' books

  abbrev pub ActHolds : (ℕ → Book) → (ℕ → Tables) → Act → Type 0
  ActHolds b T a = CallHolds (chain_opening B a.chain) (b a.chain) (T a.chain) (placed (pooled (free_for B (in_books b) a.chain)) a.item) × (free_for B (counted T) a.chain ≡ free_for B (in_books b) a.chain)

  abbrev pub ActsHold : (ℕ → Book) → (ℕ → Tables) → List Act → Type 0
  ActsHold b T [] = Unit {0}
  ActsHold b T (a ∷ acts) = ActHolds b T a × ActsHold (books_next b T a) (tables_next T a) acts

  abbrev pub opened_books : ℕ → Book
  opened_books i = opened (chain_opening B i) (B.masks i)

-- THE STATEMENT for a bench
pub record BenchHolds (B : Bench) (acts : List Act) : Type 0 where
  pub calls : ActsHold B (opened_books B) (chain_opened B) acts
  -- each chain's tables are those of its own list, of which demand 3 holds, past its share too
  pub own_tables : (i : ℕ) → tables_last B (chain_opened B) acts i ≡ tables_at_end (chain_opened B i) (list_of B i (chain_opened B) acts)
  pub demand3 : (i : ℕ) → i < B.chains → Demand3 (B.settings i) (B.masks i) (B.lent i) (list_of B i (chain_opened B) acts)
  -- waiting copies and unused shares never pass the pool
  pub within_pool : sum_below B.chains (λ j. takes (B.share j) (in_books (books_last B (opened_books B) (chain_opened B) acts) j)) ≤ B.slots

-- ---- Inside the share

-- an accept that opens: waiting plus 3 × selected stay within `share`; any other call is inside
abbrev pub InsideBy : Opening → (share : ℕ) → Live → Kind → Type 0
InsideBy o share s (accepting e) = length s.queue.waiting + 3 * length (chosen o s e) ≤ share
InsideBy o share s (flushing now rows) = Unit {0}
InsideBy o share s (taking_down t) = Unit {0}
InsideBy o share s draining = Unit {0}
InsideBy o share s quiet = Unit {0}

abbrev pub InsideCall : Opening → (share : ℕ) → Live → Call → Type 0
InsideCall o share s c = InsideBy o share s (kind_of c)

abbrev pub Inside : Opening → (share : ℕ) → Tables → Item → Type 0
Inside o share T (own room c) = InsideCall o share (live o.sizes T) c
Inside o share T (others X c) = Unit {0}
Inside o share T (reopen X y ms) = Unit {0}

-- at each of its calls since the opening: said of its own calls alone
abbrev pub AllInside : Opening → (share : ℕ) → Tables → List Item → Type 0
AllInside o share T [] = Unit {0}
AllInside o share T (i ∷ is) = Inside o share T i × AllInside o share (tables_after T i) is
