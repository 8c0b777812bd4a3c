use Rattle.ask_tables.specs.Held.{masks_below}
use Rattle.ask_tables.specs.TillRow.{live_till}
use Rattle.ask_tables.proofs.tills_held.Given as goal

abbrev pub ghost-all : goal.ghost-all
ghost-all a = λ t. masks_below a.test.0.now a.test.1.now (live_till t)
