use Rattle.std.proofs.Common.{ℕ, [], ◌∷◌, ◌%◌, ◌^◌, ap, ◌∙◌}
use Rattle.link_draws.proofs.Laws.{fault_cells}
use Rattle.link_draws.proofs.fault_key.Goals as goal

pub returns : goal.returns
returns c =
    let m : ℕ → ℕ = λ x. x % 2 ^ 32 in
    (λ j. (c.low.ensures ∙ ap m c.cell.ensures) j ∷ (c.low-2.ensures ∙ ap m c.cell-2.ensures) j ∷ (c.low-3.ensures ∙ ap m c.cell-3.ensures) j ∷
    (c.low-4.ensures ∙ ap m c.cell-4.ensures) j ∷ (c.low-5.ensures ∙ ap m c.cell-5.ensures) j ∷ (c.low-6.ensures ∙ ap m c.cell-6.ensures) j ∷
    (c.low-7.ensures ∙ ap m c.cell-7.ensures) j ∷ (c.low-8.ensures ∙ ap m c.cell-8.ensures) j ∷ [])
    ∙ fault_cells c.args.setup.now
