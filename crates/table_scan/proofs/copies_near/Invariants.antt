use Rattle.table_scan.specs.Scan.{near}
use Rattle.table_scan.proofs.copies_near.Given as goal

abbrev pub ghost-all : goal.ghost-all
ghost-all a = λ c. near a.test.0.now c.delivery
