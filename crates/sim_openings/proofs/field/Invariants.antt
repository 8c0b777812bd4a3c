use Rattle.std.proofs.Common.{◌≡◌}
use Rattle.sim_spelling.specs.Spelling.{words_in}
use Rattle.sim_openings.specs.Openings.{field_in}
use Rattle.sim_openings.proofs.field.Given as goal

abbrev pub invariant-loop-word : goal.invariant-loop-word
invariant-loop-word l = field_in l.key (words_in l.word-iterator.rest.now) ≡ field_in l.key (words_in l.line)
