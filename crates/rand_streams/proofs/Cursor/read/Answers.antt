use Rattle.std.proofs.Common.{refl, ap, arith, ◌∙◌}
use Rattle.std.specs.Prelude.{Some}
use Rattle.rand_chacha8.specs.Chacha.{block_of}
use Rattle.rand_streams.specs.Streams.{keeps_block}
use Rattle.rand_streams.proofs.Cursor.read.Goals as goal

pub returns : goal.returns
unfolding keeps_block
returns c = let s = c.split-n.ensures.0 in
    (record { key = refl; count = omega arith }, (ap Some s, c.block-self.ensures ∙ ap (block_of c.args.self.now.key) s))
