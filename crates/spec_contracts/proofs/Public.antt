-- Each public contract is met by a call of the list.
use mathlib.Core.Path.{◌≡◌, refl, sym, ap}
use Prim.Native.Nat.{ℕ}
use mathlib.Core.Bool.{Bool, true, false, not}
use mathlib.Core.List.{List, [], ◌∷◌, ◌++◌}
use lib.Dec.{eqb}
use lib.ListN.{length, drop}
use Rattle.table_waiting.specs.declared.Copy.{Copy}
use Rattle.spec_network.specs.Live.{Live}
use Rattle.spec_network.specs.Accept.{Entry}
use Rattle.spec_network.specs.Calls.{Call, first_time, answer_of, accept, take_down, bring_up, handlers, block, block_during, unblock, install, remove, decide, reading, is_blocked, transit, fired, is_down, next_time, tally_of}
use Rattle.spec_network.specs.Tables.{Tables, sizes_at, live}
use Rattle.spec_network.specs.Real.{opening_at}
use Rattle.spec_network.specs.Writes.{Reply, is_number, answer_t, output_of, output_with, call_tables, call_reply, call_output}
use Rattle.call_reply.specs.declared.Done.{Done}
use Rattle.call_open.specs.Opens as opens
use Rattle.call_accept.specs.Accepting as accepting
use Rattle.call_flush.specs.Call as flushing
use Rattle.call_till.specs.Calls as till
use Rattle.call_block.specs.Calls as blocking
use Rattle.call_rule.specs.Calls as rule
use Rattle.call_waiting.specs.Call as waiting
use Rattle.call_log.specs.Call as log
use Rattle.spec_contracts.specs.Public.{Shows, Answers, EachCall, PublicContracts}

module _ {R : Type 0} (view : Reply → R) (r : R) (c : Call) (T T' : Tables) where
  shows : (out out' : List ℕ) → r ≡ view (call_reply T c) → call_tables T c ≡ T' → out' ≡ call_output T c out → Shows view r c T T' out out'
  shows out out' e t o = record { reply = call_reply T c; shown = e; meets = (refl, t, o) }

  -- what has no words leaves an empty output empty
  answers : ((s : Live) → output_of (answer_of (opening_at T) s c) ≡ []) → (r ≡ view (call_reply T c)) × (call_tables T c ≡ T') → Answers view r c T T'
  answers none d = shows [] [] d.0 d.1 (empty (is_number (call_reply T c).number))
    where
      empty : (b : Bool) → [] ≡ output_with (answer_t (opening_at T) b T c) []
      empty true = refl
      empty false = ap (λ (l : List ℕ). l ++ drop (length l) []) (sym (none (live (sizes_at T.setup) T)))

no_words : (T : Tables) (e : Entry) (b : Bool) (s : Live) → output_of (answer_of (opening_at T) s (accept e b)) ≡ []
no_words T e true s = refl
no_words T e false s = refl

no_words_next : (w : List Copy) → output_of (first_time w) ≡ []
no_words_next [] = refl
no_words_next (c ∷ w) = refl

each_call : (T : Tables) → EachCall T
unfolding accepting.DoesAccept flushing.DoesFlush till.DoesTakeDown till.Changes till.DoesIsDown till.DoesMarksOf blocking.Changes blocking.DoesIsBlocked rule.Changes waiting.Reads waiting.DoesCopies log.DoesDrain log.DoesTally
each_call T = record {
  accept_calls = λ net' words' seen' waiting' rings' rules' wire from now kind class scope tag opens r d.
      let e = accepting.entry_of wire from now kind class scope tag in
      answers accepting.accepted_of r (accepting.call_of wire from now kind class scope tag opens) T _ (no_words T e (not (eqb opens 0))) (d T);
  flush_calls = λ net' seen' waiting' log' out out' now r d. shows flushing.flushed_of r (flushing.flush_call out now) T _ out out' (d T).0 (d T).1 (d T).2;
  take_down_calls = λ tills' seen' t r d. answers _ r (take_down t) T _ (λ s. refl) (d T);
  bring_up_calls = λ tills' t shards r d. answers _ r (bring_up t shards) T _ (λ s. refl) (d T);
  set_handlers_calls = λ tills' t gossip host r d. answers _ r (handlers t gossip host) T _ (λ s. refl) (d T);
  is_down_calls = λ t r d. answers _ r (reading (is_down t)) T T (λ s. refl) (d T);
  marks_calls = λ out out' t r d. shows till.marks_reply r _ T T out out' (d T).0 (d T).1 (d T).2;
  block_calls = λ net' blocks' from to r d. answers _ r (block from to) T _ (λ s. refl) (d T);
  block_during_calls = λ net' blocks' from to start end r d. answers _ r (block_during from to start end) T _ (λ s. refl) (d T);
  unblock_calls = λ net' blocks' from to r d. answers _ r (unblock from to) T _ (λ s. refl) (d T);
  is_blocked_calls = λ from to now r d. answers _ r (reading (is_blocked from to now)) T T (λ s. refl) (d T);
  install_calls = λ net' rules' card r d. answers _ r (install card) T _ (λ s. refl) (d T);
  remove_calls = λ net' rules' id r d. answers _ r (remove id) T _ (λ s. refl) (d T);
  fired_calls = λ id r d. answers _ r (reading (fired id)) T T (λ s. refl) (d T);
  decide_calls = λ net' rules' from to kind tier now r d. answers _ r (decide (rule.message from to kind tier now)) T _ (λ s. refl) (d T);
  transit_calls = λ t r d. answers _ r (reading (transit t)) T T (λ s. refl) (d T);
  next_time_calls = λ r d. answers _ r (reading next_time) T T (λ s. no_words_next s.queue.waiting) (d T);
  waiting_calls = λ out out' r d. shows waiting.copied_of r (waiting.copies_call out) T T out out' (d T).0 (d T).1 (d T).2;
  drain_calls = λ log' out out' r d. shows log.drained_of r (log.drain_call out) T _ out out' (d T).0 (d T).1 (d T).2;
  tally_calls = λ class r d. answers _ r (reading (tally_of class)) T T (λ s. refl) (d T);
}

-- THE THEOREM
pub public_contracts : PublicContracts
unfolding opens.DoesOpen
public_contracts = record {
  calls = each_call;
  opening = λ x masks T T' r d. (ap (λ (q : Done). q.number) d.0, d.1);
}
