use Rattle.ask_opening.proofs.Rates.{asked}
use Rattle.link_latency.specs.Admitted.{fraction_admitted}
use mathlib.Core.Path.{refl, sym, subst}
use lib.Dec.{T}
use Rattle.ask_opening.proofs.fraction_in_range.Goals as goal

pub returns : goal.returns
returns c = sym (asked fraction_admitted _ _ _ (subst T (sym c.well_formed.0.1) tt) c.fraction_admitted.ensures refl)
