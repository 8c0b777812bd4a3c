use Rattle.table_waiting.specs.Waiting.{on_time}
use Rattle.table_waiting.proofs.due.Given as goal

abbrev pub ghost-passing : goal.ghost-passing
ghost-passing a = on_time a.test.0.now
