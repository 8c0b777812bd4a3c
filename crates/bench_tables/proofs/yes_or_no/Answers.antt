use mathlib.Core.Path.{◌≡◌, refl, ap, ◌∙◌}
use mathlib.Core.Bool.{Bool, true, false}
use Rattle.std.specs.Int.{from_bool}
use Rattle.bench_tables.specs.Answers.{valued, bit}
use Rattle.bench_tables.proofs.yes_or_no.Goals as goal

pub returns : goal.returns
returns c = c.valued.ensures ∙ ap valued (c.from.ensures ∙ same c.args.b)
  where
    same : (b : Bool) → from_bool b ≡ bit b
    same true = refl
    same false = refl
