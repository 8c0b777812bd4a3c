use mathlib.Core.Path.{ap₂, ◌∙◌}
use Rattle.spec_network.specs.Lists.{same}
use Rattle.ask_opening_parts.proofs.Scans.{same_is}
use Rattle.ask_opening_parts.proofs.Names.{text_read}
use Rattle.ask_opening_parts.proofs.texts.same_text.Goals as goal

pub returns : goal.returns
returns c = let n = c.args.names.now in
    c.eq.ensures ∙ same_is c.text.result.now c.text-2.result.now ∙ ap₂ same (text_read n c.args.i c.text.ensures) (text_read n c.args.j c.text-2.ensures)
