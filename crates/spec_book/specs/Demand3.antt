-- Document 01, 'The book': DEMAND 3, one statement on every list of calls after an accepted opening.
use Rattle.std.specs.Prelude.{◌≡◌, ℕ, zero, suc, ◌+◌, ◌<◌, Bool, true, false, ◌&&◌, T, length}
use mathlib.Core.List.{List, [], ◌∷◌, ◌++◌, map, reverse_aux}
use Rattle.table_rows.specs.Rows.{keep}
use Rattle.table_rows.specs.Lists.{Each}
use Rattle.table_waiting.specs.Waiting.{on_time, Sorted}
use Rattle.table_waiting.specs.declared.Copy.{Copy}
use Rattle.table_marks.specs.Marks.{Rises}
use Rattle.fault_rule.specs.Rule.{HoldsSome, window_in}
use Rattle.fault_rules.specs.declared.FaultRule.{FaultRule}
use Rattle.fault_rules.specs.Rules.{Ascending}
use Rattle.fault_blocks.specs.declared.BlockWindow.{BlockWindow}
use Rattle.fault_blocks.specs.Blocks.{window_of}
use Rattle.spec_network.specs.Lists.{bit, count, some_of}
use Rattle.spec_network.specs.Opening.{Settings, Opening}
use Rattle.spec_network.specs.Layout.{plain}
use Rattle.spec_network.specs.Live.{LiveBy, plainly, is_original, marked, in_transit}
use Rattle.table_log.specs.Log.{Log, empty_log}
use Rattle.spec_network.specs.Accept.{message_of, selected, chosen, entered, Booked, booked, no_counts, tally, total}
use Rattle.spec_network.specs.Flush.{Row, handled, due, logged_all}
use Rattle.spec_network.specs.Calls.{Call, Answer, silent, counts_in, rows_in, delivered_in, drops_in, Kind, kind_of, accepting, flushing, taking_down, draining, quiet}
use Rattle.spec_network.specs.Questions.{Room, asked_in, asked, first_no, answer_to}
use Rattle.spec_network.specs.Tables.{Tables, sizes_at, settings_at, live}
use Rattle.spec_network.specs.Real.{key_of, cost_at, book_key, book_cost, opening_of, opening_at}
use Rattle.spec_network.specs.Lent.{question1}
use Rattle.spec_network.specs.Writes.{Reply, is_number, output_with, call_tables, call_reply, call_output, room_tables, room_reply, room_output}
use Rattle.spec_network.specs.Open.{asked_opening, open_number, open_tables, open_call}
use Rattle.spec_book.specs.Book.{Book, Event, scheduled, scheduled_in, landed_in, dropped_in, book_step, expected, opened}
use Rattle.spec_book.specs.History.{has_sequence, given, original_of, clears, standing}

-- ---- A list of calls

-- a call on the tables that the last one left, by a network with slots of its own or a chain of a pool; a call that was lent others, which question 1 refuses, of the tables or of a short output; an opening, on whatever tables, that a number refuses
pub data Item : Type 0 where
  own : Room → Call → Item
  others : Tables → Call → Item
  reopen : Tables → Settings → (masks : List ℕ) → Item

abbrev pub Admitted : Item → Type 0
Admitted (own room c) = Unit {0}
Admitted (others X c) = (call_reply X c).number ≡ 1
Admitted (reopen X y ms) = open_number y ms X ≡ 0 → ⊥

abbrev pub AllAdmitted : List Item → Type 0
AllAdmitted [] = Unit {0}
AllAdmitted (i ∷ is) = Admitted i × AllAdmitted is

abbrev pub reply_to : Tables → Item → Reply
reply_to T (own room c) = room_reply room T c
reply_to T (others X c) = call_reply X c
reply_to T (reopen X y ms) = record { number = open_number y ms X; answer = silent }

-- the tables that the next call gets
abbrev pub tables_after : Tables → Item → Tables
tables_after T (own room c) = room_tables room T c
tables_after T (others X c) = T
tables_after T (reopen X y ms) = T

abbrev pub tables_at_end : Tables → List Item → Tables
tables_at_end T [] = T
tables_at_end T (i ∷ is) = tables_at_end (tables_after T i) is

abbrev pub replies_to : Tables → List Item → List Reply
replies_to T [] = []
replies_to T (i ∷ is) = reply_to T i ∷ replies_to (tables_after T i) is

abbrev pub refused : Tables → Item → Bool
refused T i = is_number (reply_to T i).number

-- a refused call leaves what it was lent as found
abbrev pub Kept : Tables → Item → Type 0
Kept T (own room c) = refused T (own room c) ≡ true → (room_tables room T c ≡ T) × ((out : List ℕ) → room_output room T c out ≡ out)
Kept T (others X c) = (call_tables X c ≡ X) × ((out : List ℕ) → call_output X c out ≡ out)
Kept T (reopen X y ms) = open_call y ms X ≡ X

abbrev pub copies_of : List Row → List Copy
copies_of rows = map (λ (r : Row). r.copy) rows

-- ---- Along the list: the program's tables T, and the book b, fed the calls and of the answers only whether a number refused

module _ (o : Opening) where
  abbrev pub book_after : Book → Tables → Item → Book
  book_after b T (own room c) = book_step o b c (refused T (own room c))
  book_after b T (others X c) = book_step o b c (refused T (others X c))
  book_after b T (reopen X y ms) = b

  abbrev pub expected_of : Book → Tables → Item → Answer
  expected_of b T (own room c) = expected o b c (refused T (own room c))
  expected_of b T (others X c) = expected o b c (refused T (others X c))
  expected_of b T (reopen X y ms) = silent

  abbrev pub book_at_end : Book → Tables → List Item → Book
  book_at_end b T [] = b
  book_at_end b T (i ∷ is) = book_at_end (book_after b T i) (tables_after T i) is

  -- ---- What holds of each call

  -- a number came back only where its question's answer is "no"; question 1 is asked of the tables and the output lent, the others of the book
  abbrev pub OnlyNo : Book → Item → ℕ → Type 0
  OnlyNo b i zero = Unit {0}
  OnlyNo b (own room c) (suc n) = answer_to (asked_in o room b.live c) (suc n) ≡ false
  OnlyNo b (others X c) (suc n) = (suc n ≡ 1) × ((question1 (sizes_at X.setup) X c && answer_to (asked (opening_at X) (live (sizes_at X.setup) X) c) 1) ≡ false)
  OnlyNo b (reopen X y ms) (suc n) = answer_to (asked_opening y ms X) (suc n) ≡ false

  -- and it is the number of the first such question: 0 says that every answer is "yes"
  abbrev pub NumberIs : Book → Item → ℕ → Type 0
  NumberIs b (own room c) n = n ≡ first_no (asked_in o room b.live c)
  NumberIs b (others X c) n = n ≡ 1
  NumberIs b (reopen X y ms) n = n ≡ first_no (asked_opening y ms X)

  -- an accepted entry that opened: each of its selected tills goes under exactly one of the five, the book's class of it, and the counts count these tills
  pub record FiveCounts (b : Book) (scope from : ℕ) (bs : List Booked) (a : Answer) : Type 0 where
    pub each_once : map (λ (x : Booked). x.till) bs ≡ selected o b.live scope from
    pub counts : counts_in a ≡ tally bs
    pub sum : total (counts_in a) ≡ length (selected o b.live scope from)

  abbrev pub SumBy : Book → Kind → Reply → Type 0
  SumBy b (accepting e) r = r.number ≡ 0 → FiveCounts b e.scope e.from (booked o (message_of o e) (entered o e b.live) (chosen o b.live e)) r.answer
  SumBy b (flushing now rows) r = counts_in r.answer ≡ no_counts
  SumBy b (taking_down t) r = counts_in r.answer ≡ no_counts
  SumBy b draining r = counts_in r.answer ≡ no_counts
  SumBy b quiet r = counts_in r.answer ≡ no_counts

  abbrev pub SumOf : Book → Item → Reply → Type 0
  SumOf b (own room c) r = SumBy b (kind_of c) r
  SumOf b (others X c) r = r.answer ≡ silent
  SumOf b (reopen X y ms) r = r.answer ≡ silent

  -- the log follows from the rows: each row's delivery goes in, in their order; a drain empties it
  abbrev pub is_drain : Kind → Bool
  is_drain draining = true
  is_drain (accepting e) = false
  is_drain (flushing now rows) = false
  is_drain (taking_down t) = false
  is_drain quiet = false

  abbrev pub log_from : Bool → Log → Answer → Log
  log_from true l a = empty_log
  log_from false l a = logged_all o.sizes.log_slots l (copies_of (rows_in a))

  abbrev pub LogOf : Book → Book → Item → Reply → Type 0
  LogOf b b' (own room c) r = r.number ≡ 0 → b'.live.log ≡ log_from (is_drain (kind_of c)) b.live.log r.answer
  LogOf b b' (others X c) r = b'.live.log ≡ b.live.log
  LogOf b b' (reopen X y ms) r = b'.live.log ≡ b.live.log

  -- the output lent to a call begins with the words of the book's answer, a flush's with its rows in their order; what lies behind them stays as found
  abbrev pub OutputOf : Book → Tables → Item → Type 0
  OutputOf b T (own room c) = (out : List ℕ) → room_output room T c out ≡ output_with (expected_of b T (own room c)) out
  OutputOf b T (others X c) = (out : List ℕ) → call_output X c out ≡ out
  OutputOf b T (reopen X y ms) = Unit {0}

  pub record CallHolds (b : Book) (T : Tables) (i : Item) : Type 0 where
    -- its counts, and a flush's rows in their order, are the book's
    pub same_answer : (reply_to T i).answer ≡ expected_of b T i
    pub output : OutputOf b T i
    pub only_no : OnlyNo b i (reply_to T i).number
    pub number_is : NumberIs b i (reply_to T i).number
    pub kept : Kept T i
    -- its rows, in their order, are the copies that land with it; its drops count the copies that it drops, and delivered its rows with a handler
    pub rows_land : landed_in (book_after b T i).past ≡ reverse_aux (copies_of (rows_in (reply_to T i).answer)) (landed_in b.past)
    pub drops_count : length (dropped_in (book_after b T i).past) ≡ drops_in (reply_to T i).answer + length (dropped_in b.past)
    pub delivered_count : delivered_in (reply_to T i).answer ≡ count handled (rows_in (reply_to T i).answer)
    -- sent + deduplicated + partition + loss + fault = recipients other than the sender, each of them under exactly one
    pub sum : SumOf b i (reply_to T i)
    pub log : LogOf b (book_after b T i) i (reply_to T i)

  abbrev pub CallsHold : Book → Tables → List Item → Type 0
  CallsHold b T [] = Unit {0}
  CallsHold b T (i ∷ is) = CallHolds b T i × CallsHold (book_after b T i) (tables_after T i) is

-- ---- What holds of the book

-- a rule's window, and a block's, holds some time
abbrev pub RuleHolds : FaultRule → Type 0
RuleHolds r = HoldsSome (window_in r.spec)

abbrev pub BlockHolds : BlockWindow → Type 0
BlockHolds w = HoldsSome (window_of w)

pub record BookHolds (o : Opening) (b : Book) : Type 0 where
  -- every copy scheduled is in one place, waiting, one row or one flush drop, and nothing else is in any of these
  pub same_copies : (p : Copy → Bool) → count p (scheduled_in b.past) ≡ count p b.live.queue.waiting + (count p (landed_in b.past) + count p (dropped_in b.past))
  pub one_place : (n : ℕ) → count (has_sequence n) b.live.queue.waiting + (count (has_sequence n) (landed_in b.past) + count (has_sequence n) (dropped_in b.past)) ≡ bit (given n b.live.queue.sequence)
  -- no two originals of one id are scheduled for one till without, in between, a take-down of that till or a flush drop of such an original to it
  pub two_apart : (after between before : List Event) (c d : Copy) (t i : ℕ) → b.past ≡ after ++ scheduled d ∷ (between ++ scheduled c ∷ before)
      → T (original_of t i c) → T (original_of t i d) → T (some_of (clears t i) between)
  -- a mark stands exactly where an original was scheduled and nothing has cleared it since
  pub marks : (t i : ℕ) → marked b.live t i ≡ standing t i b.past
  -- each till has its marks, rising and none twice: with the line above they are settled whole
  pub marks_each : length b.live.seen ≡ o.sizes.tills
  pub marks_rise : Each Rises b.live.seen
  -- waiting stands by time, then sequence, and a flush takes all the copies with a time at or before now
  pub sorted : Sorted b.live.queue.waiting
  pub due_all : (now : ℕ) → due now b.live ≡ keep (on_time now) b.live.queue.waiting
  -- no two rules have one id, and none an id that is still to come
  pub rule_ids : Ascending 0 b.live.engine.installed b.live.engine.rules
  -- no window is empty (M-110)
  pub rule_windows : Each RuleHolds b.live.engine.rules
  pub block_windows : Each BlockHolds b.live.engine.blocks

-- the tables hold the opening: its settings and names, and for every link between its tills the key and the cost that the book has
pub record OpeningHeld (x : Settings) (names : List ℕ) (T : Tables) : Type 0 where
  pub settings : settings_at T.setup ≡ x
  pub texts : T.names ≡ names
  pub keys : (from to : ℕ) → from < x.sizes.tills → to < x.sizes.tills → key_of x.sizes.tills T.keys from to ≡ book_key x from to
  pub costs : (from to bytes : ℕ) → from < x.sizes.tills → to < x.sizes.tills → cost_at x T.prices from to bytes ≡ book_cost x from to bytes

-- the originals in transit to the first n tills, together
abbrev pub in_transit_to : ℕ → LiveBy plain → ℕ
in_transit_to zero s = 0
in_transit_to (suc n) s = in_transit_to n s + in_transit s n

-- ---- DEMAND 3, of an accepted opening and the list of calls that follows it

module _ (x : Settings) (masks : List ℕ) (lent : Tables) where
  -- the opening as the book has it; the book and the tables that it leaves; both at the list's end
  abbrev pub book_opening : Opening
  book_opening = opening_of x lent.names

  abbrev pub open_book : Book
  open_book = opened book_opening masks

  abbrev pub end_tables : List Item → Tables
  end_tables is = tables_at_end (open_tables x masks lent) is

  abbrev pub end_book : List Item → Book
  end_book is = book_at_end book_opening open_book (open_tables x masks lent) is

  pub record Demand3 (is : List Item) : Type 0 where
    pub calls : CallsHold book_opening open_book (open_tables x masks lent) is
    -- the copies waiting at the list's end are the book's, in every field, each one time; so is all else that the tables hold, the marks as the ids that they list, and the opening
    pub same_live : plainly (live x.sizes (end_tables is)) ≡ (end_book is).live
    pub same_opening : OpeningHeld x lent.names (end_tables is)
    pub book : BookHolds book_opening (end_book is)
    -- document 02, M-101: in transit, over all tills, is the originals that wait, each one time
    pub originals_in_transit : in_transit_to x.sizes.tills (end_book is).live ≡ count is_original (end_book is).live.queue.waiting

-- ---- A later accepted opening begins another list, on whatever tables it was lent

pub record Run : Type 0 where
  pub settings : Settings
  pub masks : List ℕ
  pub lent : Tables
  pub items : List Item

abbrev pub Accepted : List Run → Type 0
Accepted [] = Unit {0}
Accepted (r ∷ rs) = (open_number r.settings r.masks r.lent ≡ 0) × AllAdmitted r.items × Accepted rs

abbrev pub EveryList : List Run → Type 0
EveryList [] = Unit {0}
EveryList (r ∷ rs) = Demand3 r.settings r.masks r.lent r.items × EveryList rs
