use Rattle.ask_tables.specs.Held.{ends_below}
use Rattle.ask_tables.proofs.all_ends_below.Given as goal

abbrev pub ghost-all : goal.ghost-all
ghost-all a = ends_below a.test.0.now
