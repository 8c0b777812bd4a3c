use Rattle.ask_tables.specs.Held.{words_held}
use Rattle.ask_tables.proofs.Ladder.{last}
use mathlib.Core.Path.{refl}
use Rattle.ask_tables.proofs.words_held.Goals as goal

pub returns : goal.returns
unfolding words_held
returns c = last _ _ refl
