-- What the outcome of an accept is: the question that refused it, or the five counts of its recipients.
use Rattle.std.specs.Prelude.{⊤}
use Rattle.call_schedule.specs.declared.Counts.{Counts}
use Rattle.sim_figures.specs.declared.Five.{Five}
use Rattle.sim_outcome.specs.declared.Outcome.{Outcome}
use Rattle.sim_outcome.specs.declared.Outcome.TheVariants.{Bad, Refused, Done, Accepted, Flushed}

abbrev pub five_of : Counts → Five
five_of c = record { sent = c.sent; deduplicated = c.deduplicated; partition = c.partition; loss = c.loss; fault = c.fault }

abbrev pub IsAccept : Outcome → Type 0
IsAccept (Refused refusal) = ⊤
IsAccept (Accepted five) = ⊤
IsAccept Bad = ⊥
IsAccept Done = ⊥
IsAccept (Flushed said due) = ⊥
