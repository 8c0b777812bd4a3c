use lib.Dec.{ltb}
use mathlib.Core.Bool.{◌||◌}
use Rattle.table_marks.specs.Marks.{found, ids_of}
use Rattle.spec_network.specs.Opening.{link, most_words}
use Rattle.spec_network.specs.Tables.{cell, sizes_at, ids_start}
use Rattle.ask_accept.proofs.tail.Given as goal

abbrev pub ghost-each_selected : goal.ghost-each_selected
ghost-each_selected a = λ t. ltb (cell a.test.0.now (link a.m.from t)) most_words

abbrev pub ghost-each_selected-2 : goal.ghost-each_selected-2
ghost-each_selected-2 a = λ t. found a.m.id (ids_of a.test.1.now (ids_start (sizes_at a.setup.now) t) (cell a.test.1.now t)) || ltb (cell a.test.1.now t) (sizes_at a.setup.now).seen_slots
