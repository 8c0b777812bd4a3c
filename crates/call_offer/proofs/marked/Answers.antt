use Rattle.std.proofs.Common.{ap, arith, ◌∙◌}
use Rattle.std.specs.Prelude.{ℕ}
use Rattle.call_offer.proofs.Readings.{marks_in_lem}
use Rattle.table_marks.specs.Marks.{found, ids_of}
use Rattle.spec_network.specs.Tables.{cell, sizes_at}
use Rattle.call_offer.proofs.marked.Goals as goal

pub ids_start-start-requires : goal.ids_start-start-requires
ids_start-start-requires c = omega (arith, marks_in_lem c.args.to (sizes_at c.args.setup.now).tills (sizes_at c.args.setup.now).seen_slots c.requires.1, c.requires.0.size)

pub has-requires : goal.has-requires
has-requires c = omega (
  arith,
  marks_in_lem c.args.to (sizes_at c.args.setup.now).tills (sizes_at c.args.setup.now).seen_slots c.requires.1,
  c.requires.0.size,
  c.requires.0.counts c.args.to c.requires.1,
  c.ids_start-start.ensures,
)

pub returns : goal.returns
returns c = let a = c.args in c.has.ensures ∙ ap (λ (i : ℕ). found a.id (ids_of a.seen.now i (cell a.seen.now a.to))) c.ids_start-start.ensures
