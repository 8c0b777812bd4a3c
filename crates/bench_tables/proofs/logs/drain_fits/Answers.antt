use mathlib.Core.Path.{sym, ◌∙◌}
use native.Mathlib.Omega.{arith}
use Rattle.bench_tables.proofs.Laws.{log_room}
use Rattle.bench_tables.proofs.logs.drain_fits.Goals as goal

pub overflow_mul-result : goal.overflow_mul-result
overflow_mul-result c = let l = log_room c.args.log.now c.args.capacity (sym c.log_fits.ensures ∙ c.if-log_fits.true) in record { fits = omega (arith, l.0) }
