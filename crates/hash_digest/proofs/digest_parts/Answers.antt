use native.Mathlib.Omega.{arith}
use Rattle.hash_digest.proofs.Answers.{parts_short, parts_long}
use Rattle.hash_digest.proofs.digest_parts.Goals as goal

pub returns-then-head-gt-LONGEST : goal.returns-then-head-gt-LONGEST
returns-then-head-gt-LONGEST c = parts_long c.args.head.now c.args.tail.now (omega arith)

pub returns-then-head-tail : goal.returns-then-head-tail
returns-then-head-tail c = parts_long c.args.head.now c.args.tail.now (omega arith)

pub returns : goal.returns
returns c = parts_short c.args.head.now c.args.tail.now (omega arith) c.hash_parts.ensures
