-- Document 01, fault engine (`install_spec`, `remove`, `decide`), with questions 1, 4, 5, 7, 8, 12, 13 and 18: THE CONTRACTS of the rule calls. Of the tables `setup`, `net`
-- and `rules` are lent; the others hold whatever they hold, and stay.
use Rattle.std.specs.Prelude.{List, ℕ}
use Rattle.fault_rule.specs.declared.MessageContext.{MessageContext}
use Rattle.spec_network.specs.Calls.{Call, install, remove, decide, reading, fired}
use Rattle.spec_network.specs.Tables.{Tables}
use Rattle.spec_network.specs.Lending.{lend_rules}
use Rattle.spec_network.specs.Contract.{Does}
use Rattle.call_reply.specs.declared.Value.{Value}
use Rattle.call_reply.specs.Reply.{value_of}

-- a call's reply, and the tables at exit
unfoldable pub Changes : (setup net rules net' rules' : List ℕ) → Call → Value → Type 0
Changes s n r n' r' c v = (T : Tables) → Does value_of (lend_rules T s n r) (lend_rules T s n' r') c v

abbrev pub DoesInstall : (setup net rules net' rules' card : List ℕ) → Value → Type 0
DoesInstall s n r n' r' card v = Changes s n r n' r' (install card) v

abbrev pub DoesRemove : (setup net rules net' rules' : List ℕ) (id : ℕ) → Value → Type 0
DoesRemove s n r n' r' id v = Changes s n r n' r' (remove id) v

abbrev pub DoesFired : (setup net rules : List ℕ) (id : ℕ) → Value → Type 0
DoesFired s n r id v = Changes s n r n r (reading (fired id)) v

abbrev pub message : (from to kind tier now : ℕ) → MessageContext
message from to kind tier now = record { kind = kind; from = from; to = to; tier = tier; now = now }

abbrev pub DoesDecide : (setup net rules net' rules' : List ℕ) (from to kind tier now : ℕ) → Value → Type 0
DoesDecide s n r n' r' from to kind tier now v = Changes s n r n' r' (decide (message from to kind tier now)) v
