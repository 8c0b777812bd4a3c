use Rattle.table_scan.specs.Scan.{near}
use Rattle.table_scan.proofs.run_near.Given as goal

abbrev pub ghost-all : goal.ghost-all
ghost-all a = near a.test.0.now
