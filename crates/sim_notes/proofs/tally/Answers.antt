use Rattle.sim_notes.proofs.Laws.{class_noted}
use Rattle.std.proofs.Common.{ap, ◌∙◌}
use Rattle.call_log.specs.declared.Tallied.{Tallied}
use Rattle.sim_figures.specs.Notes.{tallied_note}
use Rattle.sim_notes.specs.Noted.{tally_figures}
use Rattle.sim_notes.proofs.tally.Goals as goal

pub returns : goal.returns
returns c =
    class_noted _ _ _ _ _ _ c.tally_of.ensures
    (c.tallied.ensures ∙ ap (λ (t : Tallied). tallied_note c.args.figures.now c.args.class (tally_figures t)) c.from-t.ensures)
