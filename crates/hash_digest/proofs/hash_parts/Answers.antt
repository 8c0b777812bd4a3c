use Rattle.hash_digest.proofs.TreeLaws.{hash_one}
use Rattle.hash_digest.specs.Blake3.{hash}
use Rattle.hash_digest.proofs.hash_parts.Goals as goal

pub returns-then-head-tail-le1024 : goal.returns-then-head-tail-le1024
returns-then-head-tail-le1024 c = hash_one c.args.head.now c.args.tail.now c.if-head-tail-le1024.true c.chunk_value.ensures

pub returns : goal.returns
unfolding hash
returns c = c.subtree.ensures
