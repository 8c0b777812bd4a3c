use mathlib.Core.Path.{sym, ◌∙◌}
use Rattle.call_open_writes.proofs.settings.write_setup.Goals as goal

pub cells-given-requires : goal.cells-given-requires
cells-given-requires c = (c.requires.0, c.requires.1)

pub copy_from_slice-requires : goal.copy_from_slice-requires
copy_from_slice-requires c = c.requires.2 ∙ sym c.cells-given.ensures.1

pub returns : goal.returns
returns c = c.copy_from_slice.ensures.after ∙ c.cells-given.ensures.0
