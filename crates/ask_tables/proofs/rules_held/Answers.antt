use Rattle.ask_tables.specs.Held.{rules_held}
use Rattle.ask_tables.proofs.Ladder.{last}
use mathlib.Core.Path.{refl}
use Rattle.ask_tables.proofs.rules_held.Goals as goal

pub returns : goal.returns
unfolding rules_held
returns c = last _ _ refl
