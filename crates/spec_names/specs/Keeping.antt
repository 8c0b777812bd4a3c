-- Document 02, M-112: states kept in lent memory under the names 0 to 7, returned to and given up: the memory, the questions, and what each call writes.
use Rattle.std.specs.Prelude.{ℕ, ◌+◌, ◌*◌, Bool, true, false, cond, not, ◌&&◌, List, [], ◌∷◌, ◌++◌, eqb, leb, ltb, length, take, drop, set, replicate}
use Rattle.table_rows.specs.Rows.{all_of}
use Rattle.table_waiting.specs.Waiting as waiting
use Rattle.table_rings.specs.Rings as rings
use Rattle.table_log.specs.Log as log
use Rattle.fault_rules.specs.Rules.{rule_slots}
use Rattle.fault_blocks.specs.Blocks.{block_slots}
use Rattle.spec_network.specs.Opening.{Sizes, links}
use Rattle.spec_network.specs.Live.{rings_of}
use Rattle.spec_network.specs.Questions.{Asked, ask, first_no}
use Rattle.spec_network.specs.Tables.{cell, Tables, sizes_at, net_width, till_form, rule_form, block_form}
use Rattle.spec_network.specs.Lending.{set_nine}
use Rattle.spec_network.specs.Lent.{has_length, setup_tests, net_tests, tills_tests, words_tests, seen_tests, waiting_tests, rings_tests, rules_tests, blocks_tests, log_tests, every_of}
use Rattle.spec_network.specs.Writes.{is_number}

-- ---- The memory: the nine tables that calls write, whole, one behind the other. `setup`, `names`, `keys` and `prices` are the opening's, and no call writes them

abbrev pub stored : Tables → List ℕ
stored T = T.net ++ (T.tills ++ (T.words ++ (T.seen ++ (T.waiting ++ (T.rings ++ (T.rules ++ (T.blocks ++ T.log)))))))

-- the words of each, by the opening's sizes
abbrev pub tills_words : Sizes → ℕ
tills_words z = z.tills * till_form.width

abbrev pub seen_words : Sizes → ℕ
seen_words z = z.tills + z.tills * z.seen_slots

abbrev pub waiting_words : Sizes → ℕ
waiting_words z = z.wait_slots * waiting.width

abbrev pub rings_words : Sizes → ℕ
rings_words z = rings_of z * (rings.head_width + rings.span)

abbrev pub rules_words : ℕ
rules_words = rule_slots * rule_form.width

abbrev pub blocks_words : ℕ
blocks_words = block_slots * block_form.width

abbrev pub need_words : Sizes → ℕ
need_words z = net_width + (tills_words z + (links + (seen_words z + (waiting_words z + (rings_words z + (rules_words + (blocks_words + log.size_of z.log_slots)))))))

-- the reading: bytes that keeping needs. A memory is lent as words of 8 bytes
abbrev pub word_bytes : ℕ
word_bytes = 8

unfoldable pub bytes_needed : Sizes → ℕ
bytes_needed z = word_bytes * need_words z

unfoldable pub bytes_of : List ℕ → ℕ
bytes_of memory = word_bytes * length memory

abbrev pub most_bytes : ℕ
most_bytes = 16777216

-- the tables with a memory's nine in place of their own
unfoldable pub restored : Sizes → List ℕ → Tables → Tables
restored z m T =
    let m₁ = drop net_width m in
    let m₂ = drop (tills_words z) m₁ in
    let m₃ = drop links m₂ in
    let m₄ = drop (seen_words z) m₃ in
    let m₅ = drop (waiting_words z) m₄ in
    let m₆ = drop (rings_words z) m₅ in
    let m₇ = drop rules_words m₆ in
    let m₈ = drop blocks_words m₇ in
    set_nine T
    (take net_width m)
    (take (tills_words z) m₁)
    (take links m₂)
    (take (seen_words z) m₃)
    (take (waiting_words z) m₄)
    (take (rings_words z) m₅)
    (take rules_words m₆)
    (take blocks_words m₇)
    (take (log.size_of z.log_slots) m₈)

-- ---- `shelf`: a word for each name, 1 where it keeps a state. The opening clears it; no other call but these three is lent it

abbrev pub names : ℕ
names = 8

abbrev pub open_shelf : List ℕ
open_shelf = replicate names 0

abbrev pub keeps : List ℕ → ℕ → Bool
keeps shelf n = not (eqb (cell shelf n) 0)

-- ---- The calls

pub data NameCall : Type 0 where
  keep : (name : ℕ) (memory : List ℕ) → NameCall
  return : (name : ℕ) (memory : List ℕ) → NameCall
  give_up : (name : ℕ) → NameCall

-- 1: the nine tables, the opening's settings, and the shelf
abbrev pub shelf_tests : List ℕ → List Bool
shelf_tests shelf = has_length shelf names ∷ all_of (λ v. leb v 1) shelf ∷ []

abbrev pub nine_tests : Sizes → Tables → List (List Bool)
nine_tests z T = net_tests z T ∷ tills_tests z T ∷ words_tests z T ∷ seen_tests z T ∷ waiting_tests z T ∷ rings_tests z T ∷ rules_tests z T ∷ blocks_tests z T ∷ log_tests z T ∷ []

unfoldable pub nine_held : Sizes → Tables → Bool
nine_held z T = every_of (nine_tests z T)

abbrev pub name_tests : Sizes → Tables → List ℕ → NameCall → List (List Bool)
name_tests z T shelf (keep n m) = setup_tests T ∷ shelf_tests shelf ∷ nine_tests z T
name_tests z T shelf (return n m) = setup_tests T ∷ shelf_tests shelf ∷ nine_tests z T
name_tests z T shelf (give_up n) = setup_tests T ∷ shelf_tests shelf ∷ []

abbrev pub name_question1 : Sizes → Tables → List ℕ → NameCall → Bool
name_question1 z T shelf a = every_of (name_tests z T shelf a)

-- 19: is the name at most 7?
abbrev pub ask19 : ℕ → Asked
ask19 n = ask 19 (ltb n names)

-- has the memory room for a state of this opening?
abbrev pub roomy : Sizes → List ℕ → Bool
roomy z m = leb (bytes_needed z) (bytes_of m)

-- the others, in order; `kept` tells which names keep a state. 20: does the name keep a state, and is the memory now lent as long as that keeping needed (which is what any keeping of this opening needs)?
-- 21: is the memory as long as the reading says? Last of all a return asks question 1 of the kept bytes
abbrev pub asked_name : Sizes → Tables → (kept : ℕ → Bool) → NameCall → List Asked
asked_name z T kept (keep n m) = ask19 n ∷ ask 21 (roomy z m) ∷ []
asked_name z T kept (return n m) = ask19 n ∷ ask 20 (kept n && roomy z m) ∷ ask 1 (nine_held z (restored z m T)) ∷ []
asked_name z T kept (give_up n) = ask19 n ∷ ask 20 (kept n) ∷ []

-- the number, by the opening's sizes
abbrev pub number_by : Sizes → Tables → List ℕ → NameCall → ℕ
number_by z T shelf a = cond (name_question1 z T shelf a) (first_no (asked_name z T (keeps shelf) a)) 1

-- ---- What is left: tables, shelf and memory

abbrev pub tables_if : Bool → Sizes → Tables → NameCall → Tables
tables_if true z T a = T
tables_if false z T (keep n m) = T
tables_if false z T (return n m) = restored z m T
tables_if false z T (give_up n) = T

abbrev pub shelf_if : Bool → List ℕ → NameCall → List ℕ
shelf_if true shelf a = shelf
shelf_if false shelf (keep n m) = set shelf n 1
shelf_if false shelf (return n m) = shelf
shelf_if false shelf (give_up n) = set shelf n 0

abbrev pub memory_of : NameCall → List ℕ
memory_of (keep n m) = m
memory_of (return n m) = m
memory_of (give_up n) = []

-- what lies behind the state's words stays
abbrev pub memory_if : Bool → Sizes → Tables → NameCall → List ℕ
memory_if true z T a = memory_of a
memory_if false z T (keep n m) = stored T ++ drop (need_words z) m
memory_if false z T (return n m) = m
memory_if false z T (give_up n) = []

-- ---- THE CONTRACTS: the number, and tables, shelf and memory at exit

abbrev pub name_number : Tables → List ℕ → NameCall → ℕ
name_number T shelf a = number_by (sizes_at T.setup) T shelf a

abbrev pub name_refused : Tables → List ℕ → NameCall → Bool
name_refused T shelf a = is_number (name_number T shelf a)

abbrev pub name_tables : Tables → List ℕ → NameCall → Tables
name_tables T shelf a = tables_if (name_refused T shelf a) (sizes_at T.setup) T a

abbrev pub name_shelf : Tables → List ℕ → NameCall → List ℕ
name_shelf T shelf a = shelf_if (name_refused T shelf a) shelf a

abbrev pub name_memory : Tables → List ℕ → NameCall → List ℕ
name_memory T shelf a = memory_if (name_refused T shelf a) (sizes_at T.setup) T a
