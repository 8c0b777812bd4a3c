use Rattle.call_message.proofs.Laws.{scope_global, scope_shard, text_short}
use borrow.Author.Tests.{ne_eqb}
use native.Mathlib.Omega.{arith}
use mathlib.Core.Path.{refl, ap}
use lib.ListN.{length, set, length-set}
use Rattle.std.proofs.lemmas.Slice.{put_mid-paste}
use Prim.Native.Nat.{◌+◌}
use Rattle.spec_network.specs.Tables.{shard_at}
use Rattle.spec_network.specs.Opening.{longest_key}
use Rattle.call_message.proofs.put_scope.Goals as goal

pub returns-then-scope-eq-GLOBAL : goal.returns-then-scope-eq-GLOBAL
returns-then-scope-eq-GLOBAL c = (scope_global c.args.buf.now c.args.names.now c.args.at c.args.scope c.if-scope-eq-GLOBAL.true (omega arith), omega arith)

pub copy_from_slice-requires : goal.copy_from_slice-requires
copy_from_slice-requires c = omega (arith, ap length c.text-key.ensures, text_short c.args.names.now (shard_at c.args.scope) longest_key c.requires.2, length-set c.args.buf.now c.args.at 1)

pub shape_of-buf : goal.shape_of-buf
shape_of-buf c = omega (arith, length-set c.args.buf.now c.args.at 1)

pub returns : goal.returns
returns c = let a = c.args in (
  scope_shard a.buf.now a.names.now a.at a.scope (ne_eqb _ _ c.if-scope-eq-GLOBAL.false) _ _ c.text-key.ensures
      (omega (arith, ap length c.text-key.ensures, text_short a.names.now (shard_at a.scope) longest_key c.requires.2))
      (put_mid-paste (a.at + 1) _ (set a.buf.now a.at 1) _ c.text-key.result.now (length c.text-key.result.now) c.copy_from_slice.ensures.after (omega arith) refl),
  omega (arith, ap length c.text-key.ensures, text_short a.names.now (shard_at a.scope) longest_key c.requires.2),
)
