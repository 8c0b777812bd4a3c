use Rattle.std.proofs.Common.{rules, ap, ◌∙◌, ℕ}
use Rattle.sim_figures.specs.declared.Figures.{Figures}
use Rattle.sim_figures.specs.Figures.{no_figures}
use Rattle.sim_figures.specs.Notes.{masked, opened_note}
use Rattle.sim_figures.proofs.Laws.{masked_by_front}
use Rattle.sim_figures.proofs.Figures.opened.Goals as goal

pub returns : goal.returns
unfolding opened_note
returns c =
    let begun : Figures → Figures = λ f. record f { tills = c.args.tills; log = c.args.log; first = c.args.sequence; last = c.args.sequence } in
    c.set_masks.ensures ∙ masked_by_front _ c.args.masks.now c.min-n.result (search rules)
    ∙ ap (λ (f : Figures). masked (begun f) c.args.masks.now c.min-n.result) c.none.ensures ∙ ap (λ (n : ℕ). masked (begun no_figures) c.args.masks.now n) c.min-n.ensures
