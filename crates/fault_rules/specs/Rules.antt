-- Document 01, fault engine (`install_spec`, `remove`): the rule table, the list of rules that it holds, and what the calls make of each.
use Rattle.std.specs.Prelude.{Option, Some, None, Result, Ok, Err, ℕ, zero, suc, ◌+◌, ◌*◌, ◌%◌, ◌^◌, ◌<◌, ◌≤◌, cond, ◌&&◌, List, [], ◌∷◌, ◌++◌, length, ◌==◌, nat_lt, slice_index, slice_set, refl}
use Rattle.std.proofs.Common.{arith}
use Rattle.table_shift.proofs.Blocks.{cells_eq}
use Rattle.table_rows.specs.Table.{Form, Exact}
use Rattle.table_shift.specs.Shift.{put_words, closed}
use Rattle.table_rows.specs.Rows.{rows}
use Rattle.fault_rule.specs.declared.DropSpec.{DropSpec}
use Rattle.fault_card.specs.Card as card
use Rattle.fault_rules.specs.declared.FaultRule.{FaultRule}
use Rattle.fault_rules.specs.declared.InstallError.{InstallError}
use Rattle.fault_rules.specs.declared.InstallError.TheVariants.{Full, Card}
use Rattle.fault_rules.specs.declared.Removed.{Removed}

-- ---- the table

-- the words of a row, and the place of the fired count in it
abbrev pub rule_width : ℕ
rule_width = 10

abbrev pub fired_word : ℕ
fired_word = 9

-- the rules that may stand at a time, and that may ever be installed
abbrev pub rule_slots : ℕ
rule_slots = 64

abbrev pub most_rules : ℕ
most_rules = 4294967295

-- the rule whose words start at b
abbrev pub rule_at : List ℕ → ℕ → FaultRule
rule_at ws b = record {
  id = slice_index ws b;
  spec = record {
    map = slice_index ws (b + 1);
    kind = slice_index ws (b + 2);
    from = slice_index ws (b + 3);
    to = slice_index ws (b + 4);
    tier = slice_index ws (b + 5);
    probability = slice_index ws (b + 6);
    start = slice_index ws (b + 7);
    end = slice_index ws (b + 8);
  };
  fired = slice_index ws (b + fired_word);
}

abbrev pub words : FaultRule → List ℕ
words r =
    r.id ∷ r.spec.map ∷ r.spec.kind ∷ r.spec.from ∷ r.spec.to ∷ r.spec.tier ∷ r.spec.probability ∷ r.spec.start ∷ r.spec.end ∷ r.fired ∷ []

unfoldable pub put_at : List ℕ → ℕ → FaultRule → List ℕ
put_at ws b r = put_words ws b (words r)

abbrev pub first_rule : List ℕ → FaultRule
first_rule ws = rule_at ws 0

abbrev pub form : Form FaultRule
form = record { width = rule_width; read = first_rule; words = words }

-- a rule and its words: each way undoes the other
pub exact : Exact form
exact = record { long = λ r. refl; back = λ r m. refl; whole = λ l h. cells_eq l 0 0 rule_width (omega arith) }

-- the first n rules of a table, in install order
abbrev pub rules_of : List ℕ → ℕ → List FaultRule
rules_of ws n = rows rule_width first_rule ws n

-- ---- the list of rules

-- a new rule stands last; ids count from 0, so its id is the number of rules ever installed
abbrev pub new_rule : ℕ → DropSpec → FaultRule
new_rule ever s = record { id = ever; spec = s; fired = 0 }

abbrev pub with_rule : ℕ → DropSpec → List FaultRule → List FaultRule
with_rule ever s rs = rs ++ (new_rule ever s ∷ [])

-- the rule with this id is gone, the others keep their order
unfoldable pub without : ℕ → List FaultRule → List FaultRule
without id [] = []
without id (r ∷ rs) = cond (r.id == id) rs (r ∷ without id rs)

-- how often the rule with this id fired, if there is one
unfoldable pub reading_of : ℕ → List FaultRule → Option ℕ
reading_of id [] = None
reading_of id (r ∷ rs) = cond (r.id == id) (Some r.fired) (reading_of id rs)

-- what a removal answers: a reading of the rule before it went, and how many rules are left
abbrev pub removed_of : ℕ → List FaultRule → Removed
removed_of id rs = record { fired = reading_of id rs; left = length (without id rs) }

-- fired counts wrap at 2^64
abbrev pub fired_more : FaultRule → FaultRule
fired_more r = record { id = r.id; spec = r.spec; fired = (r.fired + 1) % 2 ^ 64 }

-- the rule at place k has fired once more
unfoldable pub fire_at : ℕ → List FaultRule → List FaultRule
fire_at k [] = []
fire_at zero (r ∷ rs) = fired_more r ∷ rs
fire_at (suc k) (r ∷ rs) = r ∷ fire_at k rs

-- what every list of calls keeps: ids ascend from low and stay below high
abbrev pub Ascending : ℕ → ℕ → List FaultRule → Type 0
Ascending low high [] = low ≤ high
Ascending low high (r ∷ rs) = (low ≤ r.id) × (r.id < high) × Ascending (r.id + 1) high rs

-- ---- what a call answers, and what it leaves in the table

-- the number of the question that refused, 0 where the rule was installed
abbrev pub number_in : {T : Type 0} → Result T InstallError → ℕ
number_in (Ok v) = 0
number_in (Err Full) = 12
number_in (Err Card) = 13

-- question 12, a place is free and fewer than 4,294,967,295 rules were ever installed; then 13, the card is exact
unfoldable pub install_number : ℕ → ℕ → List ℕ → ℕ
install_number n ever bytes = cond (nat_lt n rule_slots && nat_lt ever most_rules) (cond (card.exact bytes) 0 13) 12

unfoldable pub install_table : List ℕ → ℕ → ℕ → List ℕ → List ℕ
install_table ws n ever bytes = cond (install_number n ever bytes == 0) (put_at ws (n * rule_width) (new_rule ever (card.fields_of bytes))) ws

-- the place of the rule with this id; with none, their number
unfoldable pub index_of : ℕ → List FaultRule → ℕ
index_of id [] = 0
index_of id (r ∷ rs) = cond (r.id == id) 0 (suc (index_of id rs))

-- the rows behind that place move down by one
unfoldable pub remove_table : List ℕ → ℕ → ℕ → List ℕ
remove_table ws n id =
    cond (nat_lt (index_of id (rules_of ws n)) n) (closed ws ((index_of id (rules_of ws n) + 1) * rule_width) (n * rule_width) rule_width) ws

-- a store past the table changes nothing
unfoldable pub fire_table : List ℕ → ℕ → List ℕ
fire_table ws p = slice_set ws (p * rule_width + fired_word) ((slice_index ws (p * rule_width + fired_word) + 1) % 2 ^ 64)
