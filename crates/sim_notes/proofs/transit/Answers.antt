use Rattle.sim_notes.proofs.Laws.{transit_noted}
use Rattle.std.proofs.Common.{ap, ◌∙◌}
use Rattle.call_reply.specs.declared.Value.{Value}
use Rattle.sim_figures.specs.Notes.{transit_note}
use Rattle.sim_notes.proofs.transit.Goals as goal

pub returns : goal.returns
returns c =
    transit_noted _ _ _ _ _ _ _ c.in_transit.ensures
    (c.in_transit-2.ensures ∙ ap (λ (v : Value). transit_note c.args.figures.now c.args.t v.value) c.from-r.ensures)
