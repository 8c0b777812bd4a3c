-- The ways out of accept. Assumes nothing.
use Prim.Native.Nat.{ℕ}
use mathlib.Core.Path.{◌≡◌, refl, sym, ap, subst, ◌∙◌}
use mathlib.Core.Bool.{Bool, true, false}
use mathlib.Core.List.{List}
use lib.ListN.{length}
use Rattle.spec_network.specs.Accept.{Entry, message_of, no_counts, booked, tally}
use Rattle.spec_network.specs.Calls.{accept}
use Rattle.spec_network.specs.Tables.{Tables, live, sizes_at}
use Rattle.spec_network.specs.Real.{id_of, draws_of, opening_at}
use Rattle.spec_network.specs.Writes.{accept_t, call_reply}
use Rattle.call_reply.proofs.Laws.{silenced, stays, answered, steps}
use Rattle.spec_network.specs.Lending.{lend_accept, set_names}
use Rattle.spec_network.specs.Contract.{Does}
use Rattle.ask_refusal.specs.declared.Refusal.{Refusal}
use Rattle.ask_refusal.specs.declared.Refusal.TheVariants.{Tables as TablesRefused}
use Rattle.ask_refusal.specs.Refusals.{number_of}
use Rattle.ask_refusal.proofs.Laws.{number_not_0}
use Rattle.call_offer.specs.declared.Outgoing.{Outgoing}
use Rattle.call_offer.specs.Offering.{as_message}
use Rattle.call_offer.specs.Needed.{SeenHeld}
use Rattle.ask_accept.specs.Asking.{accept_lent, argument_number, tail_number}
use Rattle.call_schedule.specs.declared.Counts as counts
use Rattle.call_schedule.specs.Writing.{counts_of}
use Rattle.call_recipients.specs.Turning.{remaining, Served}
use Rattle.call_accept.specs.declared.Accepted.{Accepted}
use Rattle.call_accept.specs.Accepting.{entry_of, counted_as, accepted_of, DoesAccept}
use Rattle.call_accept.proofs.Numbers.{chosen_is, number_shut, number_early, number_closed, number_late}

module _ (T : Tables) (e : Entry) where
  -- a number refuses it
  pub refused_by_lem : (b : Bool) (f : Refusal) → number_of f ≡ (call_reply T (accept e b)).number → Does accepted_of T T (accept e b) (counted_as (number_of f) no_counts)
  refused_by_lem b f q = (ap accepted_of (sym (silenced T (accept e b) (number_of f) q (number_not_0 f))), stays T (accept e b) (number_of f) q (number_not_0 f))

  -- the payload does not open
  pub unopened : 0 ≡ (call_reply T (accept e false)).number → Does accepted_of T T (accept e false) (counted_as 0 no_counts)
  unopened q = (ap accepted_of (sym (answered T (accept e false) 0 q refl)), steps T (accept e false) 0 q refl)

  -- the recipients are served
  module _ (m : Outgoing) (same : as_message m ≡ message_of (opening_at T) e) (from : m.from ≡ e.from) (scope : m.scope ≡ e.scope) where
    pub served : (T' : Tables) (c : counts.Counts) → 0 ≡ (call_reply T (accept e true)).number → T' ≡ accept_t (opening_at T) (as_message m) T (remaining T.setup T.tills m 0)
        → counts_of c ≡ tally (booked (opening_at T) (as_message m) (live (sizes_at T.setup) T) (remaining T.setup T.tills m 0))
        → Does accepted_of T T' (accept e true) (counted_as 0 (counts_of c))
    served T' c q w k =
        let ts = chosen_is T e m from scope in (
          ap (counted_as 0) (k ∙ (λ j. tally (booked (opening_at T) (same j) (live (sizes_at T.setup) T) (sym ts j)))) ∙ ap accepted_of (sym (answered T (accept e true) 0 q refl)),
          steps T (accept e true) 0 q refl ∙ sym (w ∙ (λ j. accept_t (opening_at T) (same j) T (sym ts j))),
        )

-- ---- The contract

module _ (setup net names tills words keys prices seen waiting rings rules blocks wire : List ℕ) (from at kind class scope tag : ℕ) (opens : Bool) where
  abbrev e : Entry
  e = entry_of wire from at kind class scope tag

  abbrev Same : Accepted → Type 0
  Same r = DoesAccept setup net names tills words keys prices seen waiting rings rules blocks net words seen waiting rings rules (accept e opens) r

  -- by whether the payload opens
  by : (T T' : Tables) (r : Accepted) (b : Bool) → opens ≡ b → Does accepted_of T T' (accept e b) r → Does accepted_of T T' (accept e opens) r
  by T T' r b q h = subst (λ (x : Bool). Does accepted_of T T' (accept e x) r) (sym q) h

  pub shut : accept_lent setup net names tills words keys prices seen waiting rings rules blocks ≡ false → Same (counted_as 1 no_counts)
  unfolding DoesAccept
  shut h = λ L.
      let T = lend_accept L setup net names tills words keys prices seen waiting rings rules blocks in
      refused_by_lem T e opens TablesRefused (number_shut T e opens h)

  module _ (lends : accept_lent setup net names tills words keys prices seen waiting rings rules blocks ≡ true) where
    pub early : (f : Refusal) → number_of f ≡ argument_number setup from kind class scope (length wire) at 0 → Same (counted_as (number_of f) no_counts)
    unfolding DoesAccept
    early f asked = λ L.
        let T = lend_accept L setup net names tills words keys prices seen waiting rings rules blocks in
        refused_by_lem T e opens f (number_early T e lends opens (number_of f) asked (number_not_0 f))

    module _ (asked : 0 ≡ argument_number setup from kind class scope (length wire) at 0) where
      pub closed : opens ≡ false → Same (counted_as 0 no_counts)
      unfolding DoesAccept
      closed z = λ L.
          let T = lend_accept L setup net names tills words keys prices seen waiting rings rules blocks in
          by T T (counted_as 0 no_counts) false z (unopened T e (number_closed T e lends 0 asked))

      module _ (opened : opens ≡ true) (id : ℕ) (is : id ≡ id_of names kind scope wire) (S : SeenHeld (sizes_at setup) seen) where
        abbrev pub message : Outgoing
        message = record { from = from; now = at; kind = kind; class = class; scope = scope; wire = length wire; id = id; tag = tag }

        pub full : (f : Refusal) → number_of f ≡ tail_number setup net tills words seen message → Same (counted_as (number_of f) no_counts)
        unfolding DoesAccept
        full f tail = λ L.
            let T = lend_accept L setup net names tills words keys prices seen waiting rings rules blocks in
            by T T (counted_as (number_of f) no_counts) true opened (refused_by_lem T e true f (number_late T e lends message refl refl is S 0 (number_of f) asked refl tail))

        same_message : (T : Tables) → T.names ≡ names → as_message message ≡ message_of (opening_at T) e
        unfolding draws_of
        same_message T q =
            ap (λ (i : ℕ). record { from = from; now = at; kind = kind; class = class; scope = scope; wire = length wire; id = i; tag = tag })
            (is ∙ ap (λ (l : List ℕ). id_of l kind scope wire) (sym q))

        pub delivered : 0 ≡ tail_number setup net tills words seen message → (net' words' seen' waiting' rings' rules' : List ℕ) (c : counts.Counts)
            → Served setup tills keys prices blocks net words seen waiting rings rules net' words' seen' waiting' rings' rules' message c
            → DoesAccept setup net names tills words keys prices seen waiting rings rules blocks net' words' seen' waiting' rings' rules' (accept e opens) (counted_as 0 (counts_of c))
        unfolding DoesAccept Served
        delivered tail net' words' seen' waiting' rings' rules' c w = λ L.
            let T = lend_accept L setup net names tills words keys prices seen waiting rings rules blocks in
            let T' = lend_accept L setup net' names tills words' keys prices seen' waiting' rings' rules' blocks in
            by T T' (counted_as 0 (counts_of c)) true opened
            (served T e message (same_message T refl) refl refl T' c (number_late T e lends message refl refl is S 0 0 asked refl tail) (w (set_names L names)).0 (w (set_names L names)).1)
