-- Questions: a call meets none of them twice, so that the number that comes back names the first "no".
use mathlib.Core.Path.{◌≡◌, refl, sym}
use Prim.Native.Nat.{ℕ, ◌+◌, ◌*◌, ◌≤◌}
use mathlib.Core.Bool.{Bool, true, false, cond, not, ◌&&◌}
use mathlib.Core.List.{List, [], ◌∷◌}
use lib.Dec.{eqb, leb}
use lib.ListN.{length}
use borrow.Author.Tests.{eq-eqb, eqb-false, leb-true}
use Rattle.spec_network.specs.Opening.{Settings, Opening}
use Rattle.spec_network.specs.Layout.{Layout}
use Rattle.spec_network.specs.Live.{LiveBy}
use Rattle.spec_network.specs.Calls.{Call, Reading, is_blocked, transit, fired, is_down, next_time, tally_of, waiting_copies, marks_of, accept, flush, take_down, bring_up, handlers, block, block_during, unblock, install, remove, decide, drain, reading}
use Rattle.spec_network.specs.Questions.{Asked, Room, alone, pooled, first_no, answer_to, ask_room, asked_in, asked, asked_reading}
use Rattle.spec_network.specs.Accept.{Entry, selected}
use Rattle.spec_network.specs.Open.{asked_opening}
use Rattle.spec_network.specs.Tables.{Tables}
use Rattle.table_rows.specs.Rows.{all_of}
use Rattle.table_rows.specs.Lists.{Each}
use Rattle.spec_book.proofs.Each.{both, all_each}

-- no number stands twice, and none is 0
abbrev pub numbers_apart : List Asked → Bool
numbers_apart [] = true
numbers_apart (q ∷ qs) = not (eqb q.number 0) && (all_of (λ (r : Asked). not (eqb q.number r.number)) qs && numbers_apart qs)

is_not : (b : Bool) → not b ≡ true → b ≡ false
is_not true h = sym h
is_not false h = refl

among : (P : ℕ → Type 0) (qs : List Asked) → Each (λ (q : Asked). P q.number) qs → (first_no qs ≡ 0 → ⊥) → P (first_no qs)
among P [] e h = absurd (h refl)
among P (q ∷ qs) e h = go q.yes h (λ k. among P qs e.1 k)
  where
    go : (b : Bool) → (cond b (first_no qs) q.number ≡ 0 → ⊥) → ((first_no qs ≡ 0 → ⊥) → P (first_no qs)) → P (cond b (first_no qs) q.number)
    go true k f = f k
    go false k f = e.0

module _ (q : Asked) (qs : List Asked) (a : numbers_apart (q ∷ qs) ≡ true) where
  halves : (not (eqb q.number 0) ≡ true) × ((all_of (λ (r : Asked). not (eqb q.number r.number)) qs && numbers_apart qs) ≡ true)
  halves = both (not (eqb q.number 0)) (all_of (λ (r : Asked). not (eqb q.number r.number)) qs && numbers_apart qs) a

  others : (all_of (λ (r : Asked). not (eqb q.number r.number)) qs ≡ true) × (numbers_apart qs ≡ true)
  others = both (all_of (λ (r : Asked). not (eqb q.number r.number)) qs) (numbers_apart qs) halves.1

  not_zero : q.number ≡ 0 → ⊥
  not_zero = eqb-false q.number 0 (is_not (eqb q.number 0) halves.0)

  other_number : (first_no qs ≡ 0 → ⊥) → eqb q.number (first_no qs) ≡ false
  other_number h = is_not (eqb q.number (first_no qs)) (among (λ (n : ℕ). not (eqb q.number n) ≡ true) qs (all_each (λ (r : Asked). not (eqb q.number r.number)) qs others.0) h)

-- a number is the number of a question whose answer is "no"
pub first_no_lem : (qs : List Asked) → numbers_apart qs ≡ true → (first_no qs ≡ 0 → ⊥) → answer_to qs (first_no qs) ≡ false
first_no_lem [] a h = absurd (h refl)
first_no_lem (q ∷ qs) a h = go q.yes refl h (λ k. first_no_lem qs (others q qs a).1 k)
  where
    go : (b : Bool) → q.yes ≡ b → (cond b (first_no qs) q.number ≡ 0 → ⊥) → ((first_no qs ≡ 0 → ⊥) → answer_to qs (first_no qs) ≡ false)
        → answer_to (q ∷ qs) (cond b (first_no qs) q.number) ≡ false
    go true e k f = rw (other_number q qs a k) (f k)
    go false e k f = rw (eq-eqb q.number q.number refl) e

-- no number: every answer is "yes"
pub all_yes : (qs : List Asked) → numbers_apart qs ≡ true → first_no qs ≡ 0 → Each (λ (q : Asked). q.yes ≡ true) qs
all_yes [] a h = tt
all_yes (q ∷ qs) a h = go q.yes refl h (λ k. all_yes qs (others q qs a).1 k)
  where
    go : (b : Bool) → q.yes ≡ b → cond b (first_no qs) q.number ≡ 0 → (first_no qs ≡ 0 → Each (λ (q : Asked). q.yes ≡ true) qs)
        → Each (λ (q : Asked). q.yes ≡ true) (q ∷ qs)
    go true e k f = (e, f k)
    go false e k f = absurd (not_zero q qs a k)

apart_reading : (o : Opening) (r : Reading) → numbers_apart (asked_reading o r) ≡ true
apart_reading o (is_blocked from to now) = refl
apart_reading o (transit t) = refl
apart_reading o (fired id) = refl
apart_reading o (is_down t) = refl
apart_reading o next_time = refl
apart_reading o (tally_of class) = refl
apart_reading o (waiting_copies rows) = refl
apart_reading o (marks_of t places) = refl

pub apart_in : (o : Opening) (room : Room) {k : Layout} (s : LiveBy k) (c : Call) → numbers_apart (asked_in o room s c) ≡ true
apart_in o alone s (accept e true) = refl
apart_in o (pooled free) s (accept e true) = refl
apart_in o room s (accept e false) = refl
apart_in o room s (flush now rows) = refl
apart_in o room s (take_down t) = refl
apart_in o room s (bring_up t shards) = refl
apart_in o room s (handlers t gossip host) = refl
apart_in o room s (block from to) = refl
apart_in o room s (block_during from to start end) = refl
apart_in o room s (unblock from to) = refl
apart_in o room s (install card) = refl
apart_in o room s (remove id) = refl
apart_in o room s (decide x) = refl
apart_in o room s (drain rows) = refl
apart_in o room s (reading r) = apart_reading o r

pub apart : (o : Opening) {k : Layout} (s : LiveBy k) (c : Call) → numbers_apart (asked o s c) ≡ true
apart o s c = apart_in o alone s c

-- wherever the slots come from, there is room in the network's own limit
pub room_fits : (o : Opening) (room : Room) {k : Layout} (s : LiveBy k) (e : Entry) → (ask_room o s e room).yes ≡ true → length s.queue.waiting + 3 * length (selected o s e.scope e.from) ≤ o.sizes.wait_slots
room_fits o alone s e h = leb-true _ _ h
room_fits o (pooled free) s e h = leb-true _ _ (both (leb (length s.queue.waiting + 3 * length (selected o s e.scope e.from)) o.sizes.wait_slots) (leb (length s.queue.waiting + 3 * length (selected o s e.scope e.from)) free) h).0

pub apart_opening : (x : Settings) (masks : List ℕ) (T : Tables) → numbers_apart (asked_opening x masks T) ≡ true
apart_opening x masks T = refl
