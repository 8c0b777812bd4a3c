-- Document 01, fault engine (clamping leaves NaN as NaN): f64 constants, and the clamp of a probability to 0..1.
use Rattle.std.specs.Prelude.{false, cond, pos, Float}
use Rattle.std.specs.Float.{fin}
use Rattle.std.specs.Float.Ieee.{lt}

abbrev pub zero64 : Float
zero64 = fin false 0 (pos 0)

abbrev pub one64 : Float
one64 = fin false 1 (pos 0)

-- below 0 is 0, above 1 is 1; NaN stays NaN, since no comparison holds of it
unfoldable pub clamped : Float → Float
clamped p = cond (lt p zero64) zero64 (cond (lt one64 p) one64 p)
