-- Document 01, 'Agreed between us': the contract of each public call, as `gossip` states it, is met by a call of the list that demand 3 speaks of (`spec_book/specs/PublicContracts`).
-- T holds all the tables at entry, those among them that the call is not lent; what it writes stands primed.
use Rattle.std.specs.Prelude.{◌≡◌, ℕ, List, [], length}
use Rattle.spec_network.specs.Opening.{Settings}
use Rattle.spec_network.specs.Calls.{Call, take_down, bring_up, handlers, block, block_during, unblock, install, remove, decide, reading, is_blocked, transit, fired, is_down, next_time, marks_of}
use Rattle.spec_network.specs.Tables.{Tables}
use Rattle.spec_network.specs.Writes.{Reply}
use Rattle.spec_network.specs.Lending.{lend_tills, lend_tills_seen, lend_blocks, lend_rules, lend_log, lend_flush, lend_accept}
use Rattle.call_reply.specs.declared.Done.{Done}
use Rattle.call_reply.specs.declared.Value.{Value}
use Rattle.call_reply.specs.Reply.{done_of, value_of}
use Rattle.call_open.specs.Opens.{DoesOpen}
use Rattle.call_accept.specs.declared.Accepted.{Accepted}
use Rattle.call_accept.specs.Accepting.{DoesAccept, call_of, accepted_of}
use Rattle.call_flush.specs.declared.Flushed.{Flushed}
use Rattle.call_flush.specs.Call as flushing
use Rattle.call_till.specs.declared.Marks.{Marks}
use Rattle.call_till.specs.Calls as till
use Rattle.call_block.specs.Calls as blocking
use Rattle.call_rule.specs.Calls as rule
use Rattle.call_waiting.specs.declared.Copied.{Copied}
use Rattle.call_waiting.specs.Call as waiting
use Rattle.call_log.specs.declared.Drained.{Drained}
use Rattle.call_log.specs.declared.Tallied.{Tallied}
use Rattle.call_log.specs.Call as log
use Rattle.spec_book.specs.PublicContracts.{Meets, MeetsOpening}

-- the struct r that a call answers shows a reply, and with that reply the call is one of the list
pub record Shows {R : Type 0} (view : Reply → R) (r : R) (c : Call) (T T' : Tables) (out out' : List ℕ) : Type 0 where
  pub reply : Reply
  pub shown : r ≡ view reply
  pub meets : Meets (record { call = c; entry = T; exit = T'; lent = out; left = out'; reply = reply })

-- a call without an output
abbrev pub Answers : {R : Type 0} → (Reply → R) → R → Call → (T T' : Tables) → Type 0
Answers view r c T T' = Shows view r c T T' [] []

pub record EachCall (T : Tables) : Type 0 where
  pub accept_calls : (net' words' seen' waiting' rings' rules' wire : List ℕ) (from now kind class scope tag opens : ℕ) (r : Accepted)
      → DoesAccept T.setup T.net T.names T.tills T.words T.keys T.prices T.seen T.waiting T.rings T.rules T.blocks
      net' words' seen' waiting' rings' rules' (call_of wire from now kind class scope tag opens) r
      → Answers accepted_of r (call_of wire from now kind class scope tag opens) T
      (lend_accept T T.setup net' T.names T.tills words' T.keys T.prices seen' waiting' rings' rules' T.blocks)
  pub flush_calls : (net' seen' waiting' log' out out' : List ℕ) (now : ℕ) (r : Flushed)
      → flushing.DoesFlush T.setup T.net T.tills T.seen T.waiting T.blocks T.log net' seen' waiting' log' now r out out'
      → Shows flushing.flushed_of r (flushing.flush_call out now) T (lend_flush T T.setup net' T.tills seen' waiting' T.blocks log') out out'
  pub take_down_calls : (tills' seen' : List ℕ) (t : ℕ) (r : Done)
      → till.DoesTakeDown T.setup T.tills T.seen tills' seen' t r → Answers done_of r (take_down t) T (lend_tills_seen T T.setup tills' seen')
  pub bring_up_calls : (tills' : List ℕ) (t shards : ℕ) (r : Done)
      → till.DoesBringUp T.setup T.tills tills' t shards r → Answers done_of r (bring_up t shards) T (lend_tills T T.setup tills')
  pub set_handlers_calls : (tills' : List ℕ) (t gossip host : ℕ) (r : Done)
      → till.DoesSetHandlers T.setup T.tills tills' t gossip host r → Answers done_of r (handlers t gossip host) T (lend_tills T T.setup tills')
  pub is_down_calls : (t : ℕ) (r : Value) → till.DoesIsDown T.setup T.tills t r → Answers value_of r (reading (is_down t)) T T
  pub marks_calls : (out out' : List ℕ) (t : ℕ) (r : Marks) → till.DoesMarksOf T.setup T.seen t r out out' → Shows till.marks_reply r (reading (marks_of t (length out))) T T out out'
  pub block_calls : (net' blocks' : List ℕ) (from to : ℕ) (r : Done)
      → blocking.DoesBlock T.setup T.net T.blocks net' blocks' from to r → Answers done_of r (block from to) T (lend_blocks T T.setup net' blocks')
  pub block_during_calls : (net' blocks' : List ℕ) (from to start end : ℕ) (r : Done)
      → blocking.DoesBlockDuring T.setup T.net T.blocks net' blocks' from to start end r → Answers done_of r (block_during from to start end) T (lend_blocks T T.setup net' blocks')
  pub unblock_calls : (net' blocks' : List ℕ) (from to : ℕ) (r : Done)
      → blocking.DoesUnblock T.setup T.net T.blocks net' blocks' from to r → Answers done_of r (unblock from to) T (lend_blocks T T.setup net' blocks')
  pub is_blocked_calls : (from to now : ℕ) (r : Value) → blocking.DoesIsBlocked T.setup T.net T.blocks from to now r → Answers value_of r (reading (is_blocked from to now)) T T
  pub install_calls : (net' rules' card : List ℕ) (r : Value)
      → rule.DoesInstall T.setup T.net T.rules net' rules' card r → Answers value_of r (install card) T (lend_rules T T.setup net' rules')
  pub remove_calls : (net' rules' : List ℕ) (id : ℕ) (r : Value)
      → rule.DoesRemove T.setup T.net T.rules net' rules' id r → Answers value_of r (remove id) T (lend_rules T T.setup net' rules')
  pub fired_calls : (id : ℕ) (r : Value) → rule.DoesFired T.setup T.net T.rules id r → Answers value_of r (reading (fired id)) T T
  pub decide_calls : (net' rules' : List ℕ) (from to kind tier now : ℕ) (r : Value)
      → rule.DoesDecide T.setup T.net T.rules net' rules' from to kind tier now r → Answers value_of r (decide (rule.message from to kind tier now)) T (lend_rules T T.setup net' rules')
  pub transit_calls : (t : ℕ) (r : Value) → waiting.DoesTransit T.setup T.net T.waiting t r → Answers value_of r (reading (transit t)) T T
  pub next_time_calls : (r : Value) → waiting.DoesNextTime T.setup T.net T.waiting r → Answers value_of r (reading next_time) T T
  pub waiting_calls : (out out' : List ℕ) (r : Copied)
      → waiting.DoesCopies T.setup T.net T.waiting r out out' → Shows waiting.copied_of r (waiting.copies_call out) T T out out'
  pub drain_calls : (log' out out' : List ℕ) (r : Drained)
      → log.DoesDrain T.setup T.log log' r out out' → Shows log.drained_of r (log.drain_call out) T (lend_log T T.setup log') out out'
  pub tally_calls : (class : ℕ) (r : Tallied) → log.DoesTally T.setup T.log class r → Answers log.tallied_of r (log.tally_call class) T T

-- THE STATEMENT: of every public call, on whatever tables, and of the opening
pub record PublicContracts : Type 0 where
  pub calls : (T : Tables) → EachCall T
  pub opening : (x : Settings) (masks : List ℕ) (T T' : Tables) (r : Done) → DoesOpen T T' x masks r → MeetsOpening (record { settings = x; masks = masks; entry = T; exit = T'; number = r.number })
