use native.Mathlib.Omega.{arith}
use Rattle.rand_chacha8.proofs.Laws.{word_of}
use Rattle.rand_chacha8.proofs.word.Goals as goal

pub offset_bounds-words-i : goal.offset_bounds-words-i
offset_bounds-words-i c = omega (arith, c.split-spot.ensures.1)

pub bounds-words-i : goal.bounds-words-i
bounds-words-i c = omega (arith, c.split-spot.ensures.1)

pub returns : goal.returns
returns c = let s = c.split-spot in word_of _ _ s.result.block s.result.place s.ensures.0 s.ensures.1 c.block-words.ensures
