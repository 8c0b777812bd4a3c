use Rattle.ask_opening.proofs.Rates.{asked}
use Rattle.link_latency.specs.Admitted.{rate_admitted}
use mathlib.Core.Path.{refl, sym, subst}
use lib.Dec.{T}
use Rattle.ask_opening.proofs.rate_in_range.Goals as goal

pub returns : goal.returns
returns c = sym (asked rate_admitted _ _ _ (subst T (sym c.well_formed.0.1) tt) c.rate_admitted.ensures refl)
