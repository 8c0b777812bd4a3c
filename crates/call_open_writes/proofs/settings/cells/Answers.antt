use mathlib.Core.Path.{refl}
use Rattle.call_open_writes.proofs.Cells.{numbers, setup_made}
use Rattle.call_open_writes.proofs.settings.cells.Goals as goal

pub rate_bits-requires : goal.rate_bits-requires
rate_bits-requires c = (numbers c.args.config c.requires.0).jitter

pub rate_bits-requires-2 : goal.rate_bits-requires-2
rate_bits-requires-2 c = (numbers c.args.config c.requires.0).loss

pub rate_bits-requires-3 : goal.rate_bits-requires-3
rate_bits-requires-3 c = (numbers c.args.config c.requires.0).duplicate

pub rate_bits-requires-4 : goal.rate_bits-requires-4
rate_bits-requires-4 c = (numbers c.args.config c.requires.0).replay

pub rate_bits-requires-5 : goal.rate_bits-requires-5
rate_bits-requires-5 c = (numbers c.args.config c.requires.0).spike

pub returns : goal.returns
returns c = let a = c.args in (
  setup_made a.config a.sizes a.plan a.seed a.key.now c.requires.1 _ _ _ _ _ _ _ _ _ _ _ _ _
      c.rate_bits.ensures c.rate_bits-2.ensures c.rate_bits-3.ensures c.rate_bits-4.ensures
      c.rate_bits-5.ensures c.key_word.ensures c.key_word-2.ensures c.key_word-3.ensures
      c.key_word-4.ensures c.key_word-5.ensures c.key_word-6.ensures c.key_word-7.ensures
      c.key_word-8.ensures,
  refl,
)
