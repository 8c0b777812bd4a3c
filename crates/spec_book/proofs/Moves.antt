-- A flush's rows are the copies that it lands, and its count of drops the copies that it drops; no other call moves a copy.
use mathlib.Core.Path.{◌≡◌, refl, sym, ap, ◌∙◌}
use Prim.Native.Nat.{ℕ, ◌+◌}
use native.Mathlib.Omega.{arith}
use mathlib.Core.Bool.{Bool, true, false, cond, not}
use mathlib.Core.List.{List, [], ◌∷◌, map, reverse_aux}
use lib.ListN.{length}
use Rattle.table_rows.specs.Rows.{pick}
use Rattle.table_waiting.specs.declared.Copy.{Copy}
use Rattle.spec_network.specs.Lists.{bit, count}
use Rattle.spec_network.specs.Opening.{Opening}
use Rattle.spec_network.specs.Layout.{plain}
use Rattle.spec_network.specs.Live.{LiveBy}
use Rattle.spec_network.specs.Accept.{Message, message_of, chosen, Drawn, drawn, Fate, deduplicated, partition, loss, fault, sent, fate_of, copies, effect, offered, live_after}
use Rattle.spec_network.specs.Flush.{Row, row_of, served, stops, lands, drops_of, handled, logged_all}
use Rattle.spec_network.specs.Calls.{Call, rows_in, delivered_in, drops_in, live_step, answer_of, Kind, kind_of}
use Rattle.spec_book.specs.Book.{Book, Event, landed, dropped, landed_in, dropped_in, flush_events, events_of, offer_events, events_after, happened_by, happened, book_step, expected}
use Rattle.spec_book.specs.Demand3.{copies_of, is_drain, log_from}
use Rattle.spec_book.proofs.EachKind.{each_kind}
use Rattle.spec_book.proofs.Counting.{scheduling_landed, scheduling_dropped}

flushed_lands : (s : LiveBy plain) (cs : List Copy) (es : List Event) → landed_in (flush_events s cs es) ≡ reverse_aux (lands s cs) (landed_in es)
flushed_lands s [] es = refl
flushed_lands s (c ∷ cs) es = flushed_lands s cs (cond (stops s c) (dropped c) (landed c) ∷ es) ∙ go (stops s c)
  where
    go : (b : Bool) → reverse_aux (lands s cs) (landed_in (cond b (dropped c) (landed c) ∷ es)) ≡ reverse_aux (pick (not b) (c ∷ lands s cs) (lands s cs)) (landed_in es)
    go true = refl
    go false = refl

-- a row keeps its copy
pub row_copies : (s : LiveBy plain) (cs : List Copy) → copies_of (map (row_of s) cs) ≡ cs
row_copies s [] = refl
row_copies s (c ∷ cs) = ap (λ (l : List Copy). c ∷ l) (row_copies s cs)

flushed_drops : (s : LiveBy plain) (cs : List Copy) (es : List Event) → length (dropped_in (flush_events s cs es)) ≡ drops_of s cs + length (dropped_in es)
flushed_drops s [] es = omega arith
flushed_drops s (c ∷ cs) es = omega (arith, flushed_drops s cs (cond (stops s c) (dropped c) (landed c) ∷ es), go (stops s c))
  where
    go : (b : Bool) → length (dropped_in (cond b (dropped c) (landed c) ∷ es)) ≡ bit b + length (dropped_in es)
    go true = omega arith
    go false = omega arith

-- an accept lands and drops nothing
record Still (es es' : List Event) : Type 0 where
  lands : landed_in es ≡ landed_in es'
  drops : dropped_in es ≡ dropped_in es'

module _ (o : Opening) (m : Message) where
  effect_still : (k : Fate) (s : LiveBy plain) (d : Drawn) (t : ℕ) (es : List Event) → Still (events_of o m k s d t es) es
  effect_still deduplicated s d t es = record { lands = refl; drops = refl }
  effect_still partition s d t es = record { lands = refl; drops = refl }
  effect_still loss s d t es = record { lands = refl; drops = refl }
  effect_still fault s d t es = record { lands = refl; drops = refl }
  effect_still sent s d t es = record { lands = scheduling_landed (copies o m s d t) es; drops = scheduling_dropped (copies o m s d t) es }

  accept_still : (ts : List ℕ) (s : LiveBy plain) (es : List Event) → Still (events_after o m s ts es) es
  unfolding offered offer_events
  accept_still [] s es = record { lands = refl; drops = refl }
  accept_still (t ∷ ts) s es =
      let x = effect_still (fate_of o m s t) s (drawn o m t s) t es in
      let y = accept_still ts (offered o m s t) (offer_events o m s t es) in
      record { lands = y.lands ∙ x.lands; drops = y.drops ∙ x.drops }

module _ (o : Opening) where
  pub book_rows : (b : Book) (c : Call) (r : Bool) → landed_in (book_step o b c r).past ≡ reverse_aux (copies_of (rows_in (expected o b c r))) (landed_in b.past)
  book_rows b c true = refl
  book_rows b c false =
      let s = b.live in
      each_kind o s (λ (x : Call). landed_in (happened o s x b.past) ≡ reverse_aux (copies_of (rows_in (answer_of o s x))) (landed_in b.past))
      (λ e. (accept_still o (message_of o e) (chosen o s e) s b.past).lands)
      (λ now rows. flushed_lands s (served now rows s) b.past ∙ ap (λ (l : List Copy). reverse_aux l (landed_in b.past)) (sym (row_copies s (lands s (served now rows s)))))
      (λ t. refl)
      (λ rows. refl)
      (λ x i. ap (λ (k : Kind). landed_in (happened_by o s k b.past)) i.kind ∙ ap (λ (l : List Row). reverse_aux (copies_of l) (landed_in b.past)) (sym i.answer.rows))
      c

  pub book_drops : (b : Book) (c : Call) (r : Bool) → length (dropped_in (book_step o b c r).past) ≡ drops_in (expected o b c r) + length (dropped_in b.past)
  book_drops b c true = omega arith
  book_drops b c false =
      let s = b.live in
      each_kind o s (λ (x : Call). length (dropped_in (happened o s x b.past)) ≡ drops_in (answer_of o s x) + length (dropped_in b.past))
      (λ e. ap length (accept_still o (message_of o e) (chosen o s e) s b.past).drops ∙ omega arith)
      (λ now rows. flushed_drops s (served now rows s) b.past)
      (λ t. omega arith)
      (λ rows. omega arith)
      (λ x i. ap (λ (k : Kind). length (dropped_in (happened_by o s k b.past))) i.kind ∙ omega (arith, i.answer.drops))
      c

  pub book_delivered : (b : Book) (c : Call) (r : Bool) → delivered_in (expected o b c r) ≡ count handled (rows_in (expected o b c r))
  book_delivered b c true = refl
  book_delivered b c false =
      let s = b.live in
      each_kind o s (λ (x : Call). delivered_in (answer_of o s x) ≡ count handled (rows_in (answer_of o s x)))
      (λ e. refl)
      (λ now rows. refl)
      (λ t. refl)
      (λ rows. refl)
      (λ x i. i.answer.delivered ∙ ap (λ (l : List Row). count handled l) (sym i.answer.rows))
      c

-- ---- The log follows from the rows

-- an accept leaves the log alone
module _ (o : Opening) (m : Message) where
  effect_log : (k : Fate) (s : LiveBy plain) (d : Drawn) (t : ℕ) → (effect o m k s d t).log ≡ s.log
  effect_log deduplicated s d t = refl
  effect_log partition s d t = refl
  effect_log loss s d t = refl
  effect_log fault s d t = refl
  effect_log sent s d t = refl

  accept_log : (ts : List ℕ) (s : LiveBy plain) → (live_after o m s ts).log ≡ s.log
  unfolding offered
  accept_log [] s = refl
  accept_log (t ∷ ts) s = accept_log ts (offered o m s t) ∙ effect_log (fate_of o m s t) s (drawn o m t s) t

module _ (o : Opening) where
  pub book_log : (b : Book) (c : Call) → (book_step o b c false).live.log ≡ log_from o (is_drain o (kind_of c)) b.live.log (expected o b c false)
  book_log b c =
      let s = b.live in
      each_kind o s (λ (x : Call). (live_step o s x).log ≡ log_from o (is_drain o (kind_of x)) s.log (answer_of o s x))
      (λ e. accept_log o (message_of o e) (chosen o s e) s)
      (λ now rows. ap (logged_all o.sizes.log_slots s.log) (sym (row_copies s (lands s (served now rows s)))))
      (λ t. refl)
      (λ rows. refl)
      (λ x i. i.log ∙ ap (λ (l : List Row). logged_all o.sizes.log_slots s.log (copies_of l)) (sym i.answer.rows)
      ∙ ap (λ (k : Kind). log_from o (is_drain o k) s.log (answer_of o s x)) (sym i.kind))
      c
