use Rattle.call_till.proofs.Laws.{read_room}
use Rattle.call_till.proofs.Ways.{ask_refused, ask_done}
use native.Mathlib.Omega.{arith}
use mathlib.Core.Path.{refl, sym}
use Rattle.ask_refusal.proofs.Laws.{number_not_0, left_by}
use Rattle.call_till.proofs.is_down.Goals as goal

pub returns-in_err-read : goal.returns-in_err-read
returns-in_err-read c = let a = c.args in
    rw (left_by c.from_residual.result c.from_residual.ensures.1) (ask_refused a.setup.now a.tills.now a.t _ c.in_err-read.ensures _ refl (number_not_0 _))

pub overflow_mul-t : goal.overflow_mul-t
overflow_mul-t c = omega (arith, read_room _ _ _ (sym c.in_ok-read.ensures))

pub get-till-requires : goal.get-till-requires
get-till-requires c = omega (arith, read_room _ _ _ (sym c.in_ok-read.ensures))

pub returns : goal.returns
returns c = let a = c.args in
    ask_done a.setup.now a.tills.now a.t _ c.in_ok-read.ensures refl (read_room _ _ _ (sym c.in_ok-read.ensures)) _ c.get-till.ensures
