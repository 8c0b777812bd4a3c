-- What the outcome of a flush is: the question that refused it, or its rows, delivered and dropped copies and how many were due. A drain counts nothing.
use Rattle.std.specs.Prelude.{⊤, ℕ, List, ◌/◌, length}
use Rattle.table_waiting.specs.Waiting as waiting
use Rattle.call_flush_pass.specs.declared.Moved.{Moved}
use Rattle.sim_figures.specs.declared.Said.{Said}
use Rattle.sim_outcome.specs.declared.Outcome.{Outcome}
use Rattle.sim_outcome.specs.declared.Outcome.TheVariants.{Bad, Refused, Done, Accepted, Flushed}

abbrev pub said_of : Moved → Said
said_of m = record { rows = m.rows; delivered = m.delivered; dropped = m.dropped }

-- so many words of due copies
abbrev pub flushed_of : Moved → (due : List ℕ) → Outcome
flushed_of m due = Flushed (said_of m) (length due / waiting.width)

abbrev pub IsFlush : Outcome → Type 0
IsFlush (Refused refusal) = ⊤
IsFlush (Flushed said due) = ⊤
IsFlush Bad = ⊥
IsFlush Done = ⊥
IsFlush (Accepted five) = ⊥

abbrev pub IsDrain : Outcome → Type 0
IsDrain (Refused refusal) = ⊤
IsDrain Done = ⊤
IsDrain Bad = ⊥
IsDrain (Accepted five) = ⊥
IsDrain (Flushed said due) = ⊥
