-- Question 3's tests as the code makes them, in order.
use mathlib.Core.Path.{◌≡◌}
use mathlib.Core.Bool.{true, false}
use lib.IntN.{negsuc}
use lib.Ieee.{Float, fin, eq, le}
use Rattle.math_float.specs.Float.{zero64, one64}
use Rattle.link_latency.specs.Admitted.{fraction_admitted, rate_admitted}

module _ (f : Float) where
  pub none : eq f zero64 ≡ true → true ≡ fraction_admitted f
  unfolding fraction_admitted
  none h = rw h

  pub some : eq f zero64 ≡ false → le (fin false 1 (negsuc 19)) f ≡ true → le f one64 ≡ fraction_admitted f
  unfolding fraction_admitted
  some h k = rw (h, k)

  pub few : eq f zero64 ≡ false → le (fin false 1 (negsuc 19)) f ≡ false → false ≡ fraction_admitted f
  unfolding fraction_admitted
  few h k = rw (h, k)

  pub from_none : le zero64 f ≡ true → le f one64 ≡ rate_admitted f
  unfolding rate_admitted
  from_none h = rw h

  pub below_none : le zero64 f ≡ false → false ≡ rate_admitted f
  unfolding rate_admitted
  below_none h = rw h
