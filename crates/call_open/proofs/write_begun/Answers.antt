use mathlib.Core.Path.{ap, ◌∙◌}
use Rattle.table_rows.specs.Rows.{flat}
use Rattle.spec_network.specs.Live.{open_tills}
use Rattle.spec_network.specs.Tables.{till_form, net_width}
use Rattle.call_open.proofs.Heads.{all_clear, log_clear}
use Rattle.call_open.proofs.write_begun.Goals as goal

pub returns : goal.returns
returns c = let a = c.args in (
  all_clear net_width a.net.now _ c.requires.net_long c.clear.ensures,
  c.write_tills.ensures ∙ ap (λ n. flat till_form.words (open_tills a.masks.now n)) c.requires.masks_long,
  c.clear-2.ensures,
  c.clear-3.ensures,
  log_clear a.log.now _ c.clear-4.ensures,
)
