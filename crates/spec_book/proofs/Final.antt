-- Demand 3 is met: for every accepted opening and every list of calls.
use mathlib.Core.Path.{◌≡◌, refl, sym, ap, ◌∙◌, subst}
use Prim.Native.Nat.{ℕ, zero, suc, ◌+◌}
use native.Mathlib.Omega.{arith}
use mathlib.Core.Bool.{Bool, true, false, cond, ◌&&◌, false≢true}
use mathlib.Core.List.{List, [], ◌∷◌, reverse_aux}
use lib.ListN.{length}
use Rattle.table_rows.specs.Lists.{Each}
use Rattle.table_waiting.specs.declared.Copy.{Copy}
use Rattle.table_waiting.specs.Waiting.{Sorted}
use Rattle.table_waiting.proofs.Order.{front_all}
use Rattle.table_marks.specs.Marks.{listed}
use Rattle.spec_network.specs.Lists.{count}
use Rattle.spec_network.specs.Opening.{Settings, Opening, Draws}
use Rattle.spec_network.specs.Layout.{plain, table}
use Rattle.spec_network.specs.Live.{Live, LiveBy, plainly, opening_live, rings_of}
use Rattle.spec_network.specs.Accept.{message_of, chosen, booked, no_counts, tally, total}
use Rattle.spec_network.specs.Flush.{handled}
use Rattle.spec_network.specs.Calls.{Call, Answer, live_step, answer_of, counts_in, rows_in, delivered_in, drops_in, Kind, kind_of, accept, flush, take_down, drain}
use Rattle.spec_network.specs.Questions.{Asked, Room, alone, asked_in, asked, first_no, answer_to}
use Rattle.spec_network.specs.Tables.{Tables, sizes_at, settings_at, live}
use Rattle.spec_network.specs.Real.{key_of, cost_at, opening_of, opening_at}
use Rattle.spec_network.specs.Lent.{question1, near_copy}
use Rattle.spec_network.specs.Writes.{Reply, is_number, number_in, exit_t, answer_t, tables_in, reply_in, output_with, call_reply, room_reply}
use Rattle.spec_network.specs.Open.{asked_opening, open_number, open_tables, open_exit}
use Rattle.spec_network.proofs.Opened.{keys_are, costs_are, SameDraws, draws_are}
use Rattle.spec_book.specs.Book.{Book, landed_in, dropped_in, book_step, expected, opened}
use Rattle.spec_book.specs.History.{has_sequence}
use Rattle.spec_book.specs.Demand3.{Item, own, others, reopen, Admitted, AllAdmitted, reply_to, tables_after, tables_at_end, refused, Kept, copies_of, book_after, expected_of, book_at_end, OnlyNo, NumberIs, SumBy, SumOf, is_drain, log_from, LogOf, OutputOf, CallHolds, CallsHold, BookHolds, OpeningHeld, Demand3, Run, Accepted, EveryList}
use Rattle.spec_book.proofs.Marks.{two_originals}
use Rattle.spec_book.proofs.Sound.{SoundBook, book_sound, opened_sound}
use Rattle.spec_book.proofs.Plain as layout
use Rattle.spec_book.proofs.Plain.{InOrder}
use Rattle.spec_book.proofs.Drawing as drawing
use Rattle.spec_book.proofs.Drawing.{by}
use Rattle.spec_book.proofs.Sums.{booked_tills, booked_total}
use Rattle.spec_book.proofs.Moves.{book_rows, book_drops, book_delivered, book_log}
use Rattle.spec_book.proofs.EachKind.{each_kind}
use Rattle.spec_book.proofs.Asking.{first_no_lem, apart_in, apart, apart_opening}
use Rattle.spec_book.proofs.Fitting.{Limited}
use Rattle.spec_book.proofs.StepFits.{step_fits}
use Rattle.spec_book.proofs.Formed.{Four, Fixed}
use Rattle.spec_book.proofs.Simulation.{step_wrote}
use Rattle.spec_book.proofs.Unwritten.{same_step, same_end}
use Rattle.spec_book.proofs.Held.{Held, yes1}
use Rattle.spec_book.proofs.Start.{limited, open_held}
use Rattle.spec_book.proofs.Transit.{originals_in_transit_lem}

-- the tables, whose draws agree with the book's, hold a live part, and it is the book's once its marks and rings are plain
pub record Bears (o : Opening) (T : Tables) (b : Book) : Type 0 where
  pub draws : Draws
  pub agree : SameDraws o.sizes.tills draws o.draws
  pub kept : Live
  pub held : Held (by o draws) T kept
  pub same : plainly kept ≡ b.live
  pub sound : SoundBook o b
  pub limits : Limited o.sizes

-- what is in order of the live part that the tables hold
in_order : (o : Opening) (T : Tables) (b : Book) (h : Bears o T b) → InOrder o.sizes h.kept
in_order o T b h = record {
  marks = h.held.fits.ordered;
  queue = subst Sorted (sym (ap (λ (q : LiveBy plain). q.queue.waiting) h.same)) h.sound.order;
  rings = h.held.fits.rings.many;
}

module _ (o : Opening) where
  -- ---- One call: the contracts speak of the book's opening

  module _ (room : Room) (T : Tables) (b : Book) (h : Bears o T b) (c : Call) where
    pub reply_is : room_reply room T c ≡ reply_in (by o h.draws) room T c
    reply_is = ap (λ (q : Opening). reply_in q room T c) h.held.fixed.opening

    -- the questions of the tables are those of the book
    pub asked_is : asked_in (by o h.draws) room h.kept c ≡ asked_in o room b.live c
    asked_is =
        layout.same_asked (by o h.draws) h.kept (in_order o T b h) room c ∙ ap (λ (q : LiveBy plain). asked_in (by o h.draws) room q c) h.same
        ∙ drawing.same_asked o h.draws h.agree b.live room c

    pub number_kept : number_in (by o h.draws) room T c ≡ first_no (asked_in (by o h.draws) room h.kept c)
    number_kept = rw (yes1 (by o h.draws) T h.kept h.held c) (ap (λ (q : Live). first_no (asked_in (by o h.draws) room q c)) h.held.wrote.holds)

    pub number_is : number_in (by o h.draws) room T c ≡ first_no (asked_in o room b.live c)
    number_is = number_kept ∙ ap first_no asked_is

  pub answer_is : (room : Room) (T : Tables) (b : Book) (h : Bears o T b) (c : Call) (n : ℕ) → n ≡ first_no (asked_in o room b.live c) → answer_t (by o h.draws) (is_number n) T c ≡ expected o b c (is_number n)
  answer_is room T b h c (suc n) e = refl
  answer_is room T b h c zero e =
      ap (λ (s : Live). answer_of (by o h.draws) s c) h.held.wrote.holds ∙ layout.same_answer (by o h.draws) h.limits h.kept (in_order o T b h) room c (ap first_no (asked_is room T b h c) ∙ sym e) ∙ ap (λ (q : LiveBy plain). answer_of (by o h.draws) q c) h.same
      ∙ drawing.same_answer o h.draws h.agree b.live room c (sym e)

  held_step : (room : Room) (T : Tables) (b : Book) (c : Call) (h : Bears o T b) → (n : ℕ) → n ≡ first_no (asked_in (by o h.draws) room h.kept c)
      → Bears o (exit_t (by o h.draws) (is_number n) T c) (book_step o b c (is_number n))
  held_step room T b c h zero e = record {
    draws = h.draws;
    agree = h.agree;
    kept = live_step (by o h.draws) h.kept c;
    held = record {
      fixed = subst (Fixed (by o h.draws)) (sym (same_step (by o h.draws) T c)) h.held.fixed;
      wrote = step_wrote (by o h.draws) h.limits room c T h.kept h.held.wrote h.held.fits (sym e);
      fits = step_fits (by o h.draws) h.limits room h.kept c (sym e) h.held.fits;
    };
    same = layout.same_step (by o h.draws) h.limits h.kept (in_order o T b h) room c (sym e) ∙ ap (λ (q : LiveBy plain). live_step (by o h.draws) q c) h.same
        ∙ drawing.same_step o h.draws h.agree b.live room c (sym (e ∙ ap first_no (asked_is room T b h c)));
    sound = book_sound o b room c (sym (e ∙ ap first_no (asked_is room T b h c))) h.sound;
    limits = h.limits;
  }
  held_step room T b c h (suc n) e = h

  -- ---- What holds of each call

  same_answer : (b : Book) (T : Tables) (i : Item) → Bears o T b → Admitted i → (reply_to T i).answer ≡ expected_of o b T i
  same_answer b T (own room c) h a =
      ap (λ (r : Reply). r.answer) (reply_is room T b h c)
      ∙ answer_is room T b h c (number_in (by o h.draws) room T c) (number_is room T b h c)
      ∙ ap (λ (r : Reply). expected o b c (is_number r.number)) (sym (reply_is room T b h c))
  same_answer b T (others X c) h a = rw a
  same_answer b T (reopen X y ms) h a = refl

  only_own : (room : Room) (b : Book) (c : Call) (n : ℕ) → n ≡ first_no (asked_in o room b.live c) → OnlyNo o b (own room c) n
  only_own room b c zero h = tt
  only_own room b c (suc n) h = rw h (first_no_lem (asked_in o room b.live c) (apart_in o room b.live c) (λ e. omega arith))

  -- question 1, of the tables or of the output
  only_others : (X : Tables) (c : Call) → (call_reply X c).number ≡ 1 → (question1 (sizes_at X.setup) X c && answer_to (asked (opening_at X) (live (sizes_at X.setup) X) c) 1) ≡ false
  only_others X c a = go (question1 (sizes_at X.setup) X c) a
    where
      qs : List Asked
      qs = asked (opening_at X) (live (sizes_at X.setup) X) c

      go : (q : Bool) → cond q (first_no qs) 1 ≡ 1 → (q && answer_to qs 1) ≡ false
      go true h = subst (λ (n : ℕ). answer_to qs n ≡ false) h (first_no_lem qs (apart (opening_at X) (live (sizes_at X.setup) X) c) (λ e. omega (arith, h, e)))
      go false h = refl

  only_reopen : (b : Book) (X : Tables) (y : Settings) (ms : List ℕ) (n : ℕ) → n ≡ open_number y ms X → OnlyNo o b (reopen X y ms) n
  only_reopen b X y ms zero h = tt
  only_reopen b X y ms (suc n) h = rw h (first_no_lem (asked_opening y ms X) (apart_opening y ms X) (λ e. omega arith))

  number_of : (b : Book) (T : Tables) (i : Item) → Bears o T b → Admitted i → NumberIs o b i (reply_to T i).number
  number_of b T (own room c) h a = ap (λ (r : Reply). r.number) (reply_is room T b h c) ∙ number_is room T b h c
  number_of b T (others X c) h a = a
  number_of b T (reopen X y ms) h a = refl

  only_no : (b : Book) (T : Tables) (i : Item) → Bears o T b → Admitted i → OnlyNo o b i (reply_to T i).number
  only_no b T (own room c) h a = only_own room b c (room_reply room T c).number (number_of b T (own room c) h a)
  only_no b T (others X c) h a = rw a (refl, only_others X c a)
  only_no b T (reopen X y ms) h a = only_reopen b X y ms (open_number y ms X) refl

  -- a refused call leaves what it was lent as found
  call_kept : (p : Opening) (T : Tables) (c : Call) (r : Bool) → r ≡ true → (exit_t p r T c ≡ T) × ((out : List ℕ) → output_with (answer_t p r T c) out ≡ out)
  call_kept p T c true h = (refl, λ out. refl)
  call_kept p T c false h = absurd (false≢true h)

  reopen_kept : (X : Tables) (y : Settings) (ms : List ℕ) (n : ℕ) → (n ≡ 0 → ⊥) → open_exit y ms X n ≡ X
  reopen_kept X y ms zero h = absurd (h refl)
  reopen_kept X y ms (suc n) h = refl

  pub kept : (T : Tables) (i : Item) → Admitted i → Kept T i
  kept T (own room c) a = λ r. call_kept (opening_at T) T c (is_number (number_in (opening_at T) room T c)) r
  kept T (others X c) a = call_kept (opening_at X) X c (is_number (number_in (opening_at X) alone X c)) (rw a)
  kept T (reopen X y ms) a = reopen_kept X y ms (open_number y ms X) a

  output : (b : Book) (T : Tables) (i : Item) → Bears o T b → Admitted i → OutputOf o b T i
  output b T (own room c) h a = λ out. ap (λ (r : Answer). output_with r out) (same_answer b T (own room c) h a)
  output b T (others X c) h a = (kept T (others X c) a).1
  output b T (reopen X y ms) h a = tt

  -- calls other than an accept count nothing
  none : (room : Room) (b : Book) (T : Tables) (c : Call) → Bears o T b → counts_in (answer_of o b.live c) ≡ no_counts → counts_in (room_reply room T c).answer ≡ no_counts
  none room b T c h e = ap counts_in (same_answer b T (own room c) h tt) ∙ go (refused T (own room c))
    where
      go : (r : Bool) → counts_in (expected o b c r) ≡ no_counts
      go true = refl
      go false = e

  sum : (b : Book) (T : Tables) (i : Item) → Bears o T b → Admitted i → SumOf o b i (reply_to T i)
  sum b T (own room c) h a =
      each_kind o b.live (λ (x : Call). SumBy o b (kind_of x) (room_reply room T x))
      (λ e z.
      let x = accept e true in
      let ts = chosen o b.live e in
      let m = message_of o e in
      let n : counts_in (room_reply room T x).answer ≡ tally (booked o m b.live ts) =
      ap counts_in (same_answer b T (own room x) h tt) ∙ ap (λ (k : ℕ). counts_in (expected o b x (is_number k))) z in
      record { each_once = booked_tills o m b.live ts; counts = n; sum = ap total n ∙ booked_total o m b.live ts })
      (λ now rows. none room b T (flush now rows) h refl)
      (λ t. none room b T (take_down t) h refl)
      (λ rows. none room b T (drain rows) h refl)
      (λ x i. subst (λ (k : Kind). SumBy o b k (room_reply room T x)) (sym i.kind) (none room b T x h i.answer.counts))
      c
  sum b T (others X c) h a = rw a
  sum b T (reopen X y ms) h a = refl

  log_of_lem : (b : Book) (T : Tables) (i : Item) → Bears o T b → Admitted i → LogOf o b (book_after o b T i) i (reply_to T i)
  log_of_lem b T (own room c) h a = λ z.
      ap (λ (k : ℕ). (book_step o b c (is_number k)).live.log) z ∙ book_log o b c
      ∙ ap (log_from o (is_drain o (kind_of c)) b.live.log) (sym (same_answer b T (own room c) h tt ∙ ap (λ (k : ℕ). expected o b c (is_number k)) z))
  log_of_lem b T (others X c) h a = rw a
  log_of_lem b T (reopen X y ms) h a = refl

  rows_land : (b : Book) (T : Tables) (i : Item) → landed_in (book_after o b T i).past ≡ reverse_aux (copies_of (rows_in (expected_of o b T i))) (landed_in b.past)
  rows_land b T (own room c) = book_rows o b c (refused T (own room c))
  rows_land b T (others X c) = book_rows o b c (refused T (others X c))
  rows_land b T (reopen X y ms) = refl

  drops_count : (b : Book) (T : Tables) (i : Item) → length (dropped_in (book_after o b T i).past) ≡ drops_in (expected_of o b T i) + length (dropped_in b.past)
  drops_count b T (own room c) = book_drops o b c (refused T (own room c))
  drops_count b T (others X c) = book_drops o b c (refused T (others X c))
  drops_count b T (reopen X y ms) = omega arith

  delivered_count : (b : Book) (T : Tables) (i : Item) → delivered_in (expected_of o b T i) ≡ count handled (rows_in (expected_of o b T i))
  delivered_count b T (own room c) = book_delivered o b c (refused T (own room c))
  delivered_count b T (others X c) = book_delivered o b c (refused T (others X c))
  delivered_count b T (reopen X y ms) = refl

  pub call_holds : (b : Book) (T : Tables) (i : Item) → Bears o T b → Admitted i → CallHolds o b T i
  call_holds b T i h a =
      let e = same_answer b T i h a in
      record {
        same_answer = e;
        output = output b T i h a;
        only_no = only_no b T i h a;
        number_is = number_of b T i h a;
        kept = kept T i a;
        rows_land = rows_land b T i ∙ ap (λ (x : Answer). reverse_aux (copies_of (rows_in x)) (landed_in b.past)) (sym e);
        drops_count = drops_count b T i ∙ ap (λ (x : Answer). drops_in x + length (dropped_in b.past)) (sym e);
        delivered_count = ap delivered_in e ∙ delivered_count b T i ∙ ap (λ (x : Answer). count handled (rows_in x)) (sym e);
        sum = sum b T i h a;
        log = log_of_lem b T i h a;
      }

  -- ---- Every list

  pub held_after : (b : Book) (T : Tables) (i : Item) → Bears o T b → Admitted i → Bears o (tables_after T i) (book_after o b T i)
  held_after b T (own room c) h a =
      subst (λ (q : Opening). Bears o (tables_in q room T c) (book_step o b c (is_number (number_in q room T c)))) (sym h.held.fixed.opening)
      (held_step room T b c h (number_in (by o h.draws) room T c) (number_kept room T b h c))
  held_after b T (others X c) h a = rw a h
  held_after b T (reopen X y ms) h a = h

  calls_hold : (is : List Item) (b : Book) (T : Tables) → Bears o T b → AllAdmitted is → CallsHold o b T is
  calls_hold [] b T h a = tt
  calls_hold (i ∷ is) b T h a = (call_holds b T i h a.0, calls_hold is (book_after o b T i) (tables_after T i) (held_after b T i h a.0) a.1)

  pub end_held : (is : List Item) (b : Book) (T : Tables) → Bears o T b → AllAdmitted is → Bears o (tables_at_end T is) (book_at_end o b T is)
  end_held [] b T h a = h
  end_held (i ∷ is) b T h a = end_held is (book_after o b T i) (tables_after T i) (held_after b T i h a.0) a.1

  pub book_holds : (b : Book) → SoundBook o b → BookHolds o b
  book_holds b k = record {
    same_copies = k.places;
    one_place = λ n. sym (k.places (has_sequence n)) ∙ k.numbers n;
    two_apart = λ after between before c d t i e oc od. two_originals b.past after between before c d t i k.apart e oc od;
    marks = λ t i. sym (k.marks t i);
    marks_each = k.shape;
    marks_rise = k.rises;
    sorted = k.order;
    due_all = λ now. front_all now b.live.queue.waiting k.order;
    rule_ids = k.ids;
    rule_windows = k.rule_windows;
    block_windows = k.block_windows;
  }

-- ---- THE THEOREM

pub open_bears : (x : Settings) (masks : List ℕ) (lent : Tables) → open_number x masks lent ≡ 0
    → Bears (opening_of x lent.names) (open_tables x masks lent) (opened (opening_of x lent.names) masks)
open_bears x masks lent n =
    let s = opening_live table x.sizes masks in
    record {
      draws = (opening_at (open_tables x masks lent)).draws;
      agree = draws_are x lent.names;
      kept = s;
      held = open_held x masks lent n;
      same = (λ j. record {
        tills = s.tills;
        seen = layout.map_replicate listed x.sizes.tills [] j;
        engine = s.engine;
        rings = λ kind scope. layout.no_rings_lem (rings_of x.sizes) kind scope j;
        words = s.words;
        queue = s.queue;
        log = s.log;
      });
      sound = opened_sound (opening_of x lent.names) masks;
      limits = limited x masks lent n;
    }

opening_held : (x : Settings) (masks : List ℕ) (lent : Tables) (is : List Item) → OpeningHeld x lent.names (tables_at_end (open_tables x masks lent) is)
opening_held x masks lent is =
    let four = same_end is (open_tables x masks lent) in
    let n = x.sizes.tills in
    record {
      settings = ap (λ (q : Four). settings_at q.setup) four;
      texts = ap (λ (q : Four). q.names) four;
      keys = λ from to f t. ap (λ (q : Four). key_of n q.keys from to) four ∙ keys_are x from to f t;
      costs = λ from to bytes f t. ap (λ (q : Four). cost_at x q.prices from to bytes) four ∙ costs_are x from to bytes f t;
    }

-- for every accepted opening, whatever tables it was lent, and every list of calls
pub demand3 : (x : Settings) (masks : List ℕ) (lent : Tables) → open_number x masks lent ≡ 0 → (is : List Item) → AllAdmitted is → Demand3 x masks lent is
demand3 x masks lent n is a =
    let o = opening_of x lent.names in
    let T = open_tables x masks lent in
    let h = open_bears x masks lent n in
    let end = end_held o is (opened o masks) T h a in
    record {
      calls = calls_hold o is (opened o masks) T h a;
      same_live = ap plainly end.held.wrote.holds ∙ end.same;
      same_opening = opening_held x masks lent is;
      book = book_holds o (book_at_end o (opened o masks) T is) end.sound;
      originals_in_transit = originals_in_transit_lem x.sizes (book_at_end o (opened o masks) T is).live
          (subst (Each (λ (c : Copy). near_copy x.sizes c ≡ true)) (ap (λ (q : LiveBy plain). q.queue.waiting) end.same) end.held.fits.queue.near);
    }

-- and for list after list, each begun by an accepted opening
pub every_list : (rs : List Run) → Accepted rs → EveryList rs
every_list [] a = tt
every_list (r ∷ rs) a = (demand3 r.settings r.masks r.lent a.0 r.items a.1, every_list rs a.2)
