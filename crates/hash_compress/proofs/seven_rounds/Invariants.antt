use Rattle.hash_compress.specs.Compress.{rounds}
use Rattle.math_word.specs.Words.{list_of}
use mathlib.Core.Path.{◌≡◌}
use Prim.Native.Nat.{◌-◌}
use Rattle.hash_compress.proofs.seven_rounds.Given as goal

abbrev pub invariant-loop : goal.invariant-loop
invariant-loop l = rounds (7 - l.counter) (list_of l.state) (list_of l.message) ≡ rounds 7 (list_of l.fn.v) (list_of l.fn.m)
