-- Tables that hold a book's live part: question 1 is answered "yes" to every call.
use mathlib.Core.Path.{◌≡◌, refl, ap, ◌∙◌}
use mathlib.Core.Bool.{Bool, true}
use mathlib.Core.List.{List, [], ◌∷◌}
use lib.Dec.{leb}
use borrow.Author.Tests.{eq-eqb, le-leb}
use Rattle.table_rows.specs.Rows.{all_of}
use Rattle.table_rows.specs.Lists.{Each}
use Rattle.table_rows.proofs.Lists.{each_map}
use Rattle.table_ring.specs.Ring.{sound_at}
use Rattle.table_ring.proofs.Table.{sound_true}
use Rattle.table_rings.specs.Rings as rings
use Rattle.table_log.proofs.Writing.{log_sound}
use Rattle.spec_network.specs.Lists.{every, below}
use Rattle.spec_network.specs.Opening.{Sizes, Opening}
use Rattle.spec_network.specs.Live.{Carried, Live, rings_of}
use Rattle.spec_network.specs.Tables.{cell, Tables, live}
use Rattle.spec_network.specs.Calls.{Call, Reading, is_blocked, transit, fired, is_down, next_time, tally_of, waiting_copies, marks_of, accept, flush, take_down, bring_up, handlers, block, block_during, unblock, install, remove, decide, drain, reading}
use Rattle.spec_network.specs.Lent.{near_till, near_delivery, near_copy, near_block, near_carried, setup_tests, net_tests, tills_tests, words_tests, seen_tests, waiting_tests, rings_tests, rules_tests, blocks_tests, log_tests, reading_tests, lent_tests, every_of, question1}
use Rattle.spec_book.proofs.Each.{each_all, each_every, each_up_to, join}
use Rattle.spec_book.proofs.Fitting.{Fits, NearRing}
use Rattle.spec_book.proofs.Formed.{four_of, Fixed, Wrote}

-- the tables hold a live part that fits, and the opening is the book's
pub record Held (o : Opening) (T : Tables) (s : Live) : Type 0 where
  pub fixed : Fixed o (four_of T)
  pub wrote : Wrote o.sizes T s
  pub fits : Fits o.sizes s

module _ (o : Opening) (T : Tables) (s : Live) (h : Held o T s) where
  abbrev z : Sizes
  z = o.sizes

  abbrev Passed : List Bool → Type 0
  Passed bs = every bs ≡ true

  -- a test of what the tables hold
  held : {A : Type 0} (part : Live → List A) (p : A → Bool) → Each (λ (a : A). p a ≡ true) (part s) → all_of p (part (live z T)) ≡ true
  held part p e = ap (λ (q : Live). all_of p (part q)) h.wrote.holds ∙ each_all p (part s) e

  net : Passed (net_tests z T)
  net = let f = h.wrote.formed.net in each_every (net_tests z T) (eq-eqb _ _ f.size, (le-leb _ _ f.waiting, (le-leb _ _ f.rules, (le-leb _ _ f.blocks, tt))))

  tills : Passed (tills_tests z T)
  tills = each_every (tills_tests z T) (eq-eqb _ _ h.wrote.formed.tills, (held (λ (q : Live). q.tills) (near_till z) h.fits.masks, tt))

  words : Passed (words_tests z T)
  words = each_every (words_tests z T) (eq-eqb _ _ h.wrote.formed.words, tt)

  seen : Passed (seen_tests z T)
  seen =
      let f = h.wrote.formed.seen in
      each_every (seen_tests z T) (
        eq-eqb _ _ f.size,
        (each_all (λ t. leb (cell T.seen t) z.seen_slots) (below z.tills) (each_up_to (λ t. leb (cell T.seen t) z.seen_slots ≡ true) z.tills (λ i. i) (λ t l. le-leb _ _ (f.counts t l))), tt),
      )

  waits : Passed (waiting_tests z T)
  waits = each_every (waiting_tests z T) (eq-eqb _ _ h.wrote.formed.waiting, (held (λ (q : Live). q.queue.waiting) (near_copy z) h.fits.queue.near, tt))

  ring : Passed (rings_tests z T)
  ring =
      let f = h.wrote.formed.rings in
      each_every (rings_tests z T) (
        eq-eqb _ _ f.size,
        (
          each_all (λ r. sound_at rings.slots (rings.head_of r) T.rings) (below (rings_of z))
              (each_up_to (λ r. sound_at rings.slots (rings.head_of r) T.rings ≡ true) (rings_of z) (λ i. i) (λ r l. sound_true rings.slots (rings.head_of r) T.rings (f.heads r l))),
          (held (λ (q : Live). q.rings) (all_of (near_carried z)) (each_map (NearRing z) (λ (l : List Carried). all_of (near_carried z) l ≡ true) s.rings (λ l. each_all (near_carried z) l) h.fits.rings.near), tt),
        ),
      )

  rules : Passed (rules_tests z T)
  rules = each_every (rules_tests z T) (eq-eqb _ _ h.wrote.formed.rules, tt)

  windows : Passed (blocks_tests z T)
  windows = each_every (blocks_tests z T) (eq-eqb _ _ h.wrote.formed.blocks, (held (λ (q : Live). q.engine.blocks) (near_block z) h.fits.engine.near, tt))

  logs : Passed (log_tests z T)
  logs =
      let f = h.wrote.formed.log in
      each_every (log_tests z T) (eq-eqb _ _ f.size, (log_sound z.log_slots T.log f.head, (held (λ (q : Live). q.log.records) (near_delivery z) h.fits.log.near, tt)))

  -- ---- The tables lent to each call

  all_passed : (bss : List (List Bool)) → Each Passed bss → every_of bss ≡ true
  all_passed [] e = refl
  all_passed (bs ∷ bss) e = join (every bs) (every_of bss) e.0 (all_passed bss e.1)

  passed_reading : (r : Reading) → Each Passed (reading_tests z T r)
  passed_reading (is_blocked from to now) = (net, (windows, tt))
  passed_reading (transit t) = (net, (waits, tt))
  passed_reading (fired id) = (net, (rules, tt))
  passed_reading (is_down t) = (tills, tt)
  passed_reading next_time = (net, (waits, tt))
  passed_reading (tally_of class) = (logs, tt)
  passed_reading (waiting_copies n) = (net, (waits, tt))
  passed_reading (marks_of t places) = (seen, tt)

  passed : (c : Call) → Each Passed (lent_tests z T c)
  passed (accept e opens) = (net, (h.fixed.names, (tills, (words, (h.fixed.keys, (h.fixed.prices, (seen, (waits, (ring, (rules, (windows, tt)))))))))))
  passed (flush now n) = (net, (tills, (seen, (waits, (windows, (logs, tt))))))
  passed (take_down t) = (tills, (seen, tt))
  passed (bring_up t shards) = (tills, tt)
  passed (handlers t gossip host) = (tills, tt)
  passed (block from to) = (net, (windows, tt))
  passed (block_during from to start end) = (net, (windows, tt))
  passed (unblock from to) = (net, (windows, tt))
  passed (install card) = (net, (rules, tt))
  passed (remove id) = (net, (rules, tt))
  passed (decide x) = (net, (rules, tt))
  passed (drain n) = (logs, tt)
  passed (reading r) = passed_reading r

  pub yes1 : (c : Call) → question1 z T c ≡ true
  yes1 c = all_passed (setup_tests T ∷ lent_tests z T c) (h.fixed.setup, passed c)
