-- What the figures of a run are behind a call: the note taken before it, and the note of its outcome.
use Rattle.std.specs.Prelude.{◌≡◌, ℕ, List}
use Rattle.sim_script.specs.declared.calls.Call.{Call}
use Rattle.sim_figures.specs.declared.Figures.{Figures}
use Rattle.sim_outcome.specs.declared.Outcome.{Outcome}
use Rattle.sim_notes.specs.Noted.{marks_in, before_note, after_note}

-- the figures l became m by a call: setup, log and seen as they were before it, the primed tables and the due copies as they are behind it
pub record IsNoted (l m : Figures) (call : Call) (setup log seen due setup' net' seen' out' : List ℕ) : Type 0 where
  pub told : Outcome
  pub is : m ≡ after_note (before_note l call setup log) due call told (marks_in setup seen) setup' net' seen' out'
