-- What question 1 passed says of the setup.
use Rattle.std.specs.Prelude.{◌≡◌, true, List, ℕ}
use Rattle.ask_tables.proofs.Ladder.{both}
use Rattle.ask_tables.proofs.Passed.{PassedSetup, setup_says_lem}
use Rattle.ask_till.specs.Questions.{tills_lent}

pub lent_setup : (s a : List ℕ) → tills_lent s a ≡ true → PassedSetup s
unfolding tills_lent
lent_setup s a h = setup_says_lem s (both _ _ h).0
