-- The corners, computed by the checker.
use mathlib.Core.Path.{refl}
use lib.Ieee as ieee
use Rattle.rand_draw.specs.Real as real
use Rattle.math_time.specs.Seconds as seconds
use Rattle.link_latency.specs.Latency as latency
use Rattle.link_latency.specs.Admitted as admitted
use Rattle.link_delay.specs.Delay as delay
use Rattle.link_delay.specs.Corners.{Corners}

pub corners : Corners
unfolding ieee.of_bits ieee.eq ieee.le ieee.lt ieee.add ieee.sub ieee.mul ieee.div ieee.neg ieee.of_int real.real_of seconds.seconds latency.jitter_range
    latency.jitters latency.jitter_of latency.floored latency.delay_of admitted.fraction_admitted delay.digits delay.places delay.parts delay.raised delay.lowered delay.exact delay.bound
corners = record { as_worked_out = refl; are_close = refl }
