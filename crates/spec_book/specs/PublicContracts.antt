-- Document 01, 'The book': from the contracts to demand 3. A call as its contract leaves it: the tables and the output that it was lent, as they were and as they are, and its reply.
-- A list of such calls, each lent the tables that the one before left, is a list of items.
use Rattle.std.specs.Prelude.{◌≡◌, ℕ, List, [], ◌∷◌, map}
use Rattle.spec_network.specs.Opening.{Settings}
use Rattle.spec_network.specs.Calls.{Call, silent}
use Rattle.spec_network.specs.Questions.{alone}
use Rattle.spec_network.specs.Tables.{Tables}
use Rattle.spec_network.specs.Open.{open_tables}
use Rattle.spec_network.specs.Writes.{Reply, room_output}
use Rattle.spec_network.specs.Contract.{DoesOut, Opens}
use Rattle.spec_book.specs.Demand3.{Item, own, others, reopen, replies_to, end_tables, Demand3, tables_after}

pub record Called : Type 0 where
  pub call : Call
  pub entry : Tables
  pub exit : Tables
  pub lent : List ℕ  -- the output; empty for a call without one
  pub left : List ℕ
  pub reply : Reply

-- what the contract of a call ensures, in the form of every call's
abbrev pub Meets : Called → Type 0
Meets a = DoesOut (λ (q : Reply). q) a.entry a.exit a.call a.reply a.lent a.left

pub record Opened : Type 0 where
  pub settings : Settings
  pub masks : List ℕ
  pub entry : Tables
  pub exit : Tables
  pub number : ℕ

-- and that of the opening
abbrev pub MeetsOpening : Opened → Type 0
MeetsOpening r = Opens (λ (n : ℕ). n) r.entry r.exit r.settings r.masks r.number

-- a call on the tables of the list; one that was lent others; an opening that a number refuses
pub data Done : Type 0 where
  here : Called → Done
  elsewhere : Called → Done
  refused_opening : Opened → Done

-- every contract is met, and each call got the tables as the one before left them; others were refused by question 1
abbrev pub Follow : Tables → List Done → Type 0
Follow T [] = Unit {0}
Follow T (here a ∷ ds) = Meets a × (a.entry ≡ T) × Follow a.exit ds
Follow T (elsewhere a ∷ ds) = Meets a × (a.reply.number ≡ 1) × Follow T ds
Follow T (refused_opening r ∷ ds) = MeetsOpening r × (r.number ≡ 0 → ⊥) × Follow T ds

abbrev pub item_of : Done → Item
item_of (here a) = own alone a.call
item_of (elsewhere a) = others a.entry a.call
item_of (refused_opening r) = reopen r.entry r.settings r.masks

abbrev pub reply_of : Done → Reply
reply_of (here a) = a.reply
reply_of (elsewhere a) = a.reply
reply_of (refused_opening r) = record { number = r.number; answer = silent }

abbrev pub last_tables : Tables → List Done → Tables
last_tables T [] = T
last_tables T (here a ∷ ds) = last_tables a.exit ds
last_tables T (elsewhere a ∷ ds) = last_tables T ds
last_tables T (refused_opening r ∷ ds) = last_tables T ds

-- each output is the one of demand 3
abbrev pub OutputsAre : Tables → List Done → Type 0
OutputsAre T [] = Unit {0}
OutputsAre T (here a ∷ ds) = (a.left ≡ room_output alone T a.call a.lent) × OutputsAre (tables_after T (item_of (here a))) ds
OutputsAre T (elsewhere a ∷ ds) = (a.left ≡ a.lent) × OutputsAre T ds
OutputsAre T (refused_opening r ∷ ds) = OutputsAre T ds

-- DEMAND 3 OF THE CALLS THEMSELVES: it holds of their items, and the replies, outputs and tables that it speaks of are theirs
pub record Tied (x : Settings) (masks : List ℕ) (lent : Tables) (ds : List Done) : Type 0 where
  pub demand3 : Demand3 x masks lent (map item_of ds)
  pub replies : map reply_of ds ≡ replies_to (open_tables x masks lent) (map item_of ds)
  pub outputs : OutputsAre (open_tables x masks lent) ds
  pub tables : last_tables (open_tables x masks lent) ds ≡ end_tables x masks lent (map item_of ds)
