use Rattle.link_draws.proofs.Laws.{grid, key_in}
use native.Mathlib.Omega.{arith}
use mathlib.Core.Path.{◌∙◌}
use Rattle.link_draws.proofs.link_at.Goals as goal

pub overflow_mul-from : goal.overflow_mul-from
overflow_mul-from c = omega (arith, grid c.args.from c.args.tills c.requires.0 c.requires.2)

pub overflow_add-from : goal.overflow_add-from
overflow_add-from c = omega (arith, grid c.args.from c.args.tills c.requires.0 c.requires.2)

pub overflow_mul-from-2 : goal.overflow_mul-from-2
overflow_mul-from-2 c = omega (arith, grid c.args.from c.args.tills c.requires.0 c.requires.2)

pub key_at-key-requires : goal.key_at-key-requires
key_at-key-requires c = omega (arith, key_in c.args.from c.args.to c.args.tills c.requires.0 c.requires.1, c.requires.3)

pub returns : goal.returns
returns c = record { key = c.at.ensures.0 ∙ c.key_at-key.ensures; count = c.at.ensures.1 }
