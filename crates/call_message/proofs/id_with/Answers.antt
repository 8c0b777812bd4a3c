use Rattle.call_message.proofs.Laws.{head_fits, id_from, head_is, text_short, length_put}
use native.Mathlib.Omega.{arith}
use mathlib.Core.Path.{refl, ap, ◌∙◌}
use lib.ListN.{length}
use Prim.Native.Nat.{◌-◌}
use Rattle.std.proofs.lemmas.Slice.{put_mid-paste}
use Rattle.spec_network.specs.Tables.{name_at}
use Rattle.spec_network.specs.Opening.{longest_name}
use Rattle.call_message.proofs.id_with.Goals as goal

pub copy_from_slice-requires : goal.copy_from_slice-requires
copy_from_slice-requires c = omega (arith, ap length c.text-name.ensures, text_short c.args.names.now (name_at c.args.kind) longest_name c.requires.0.name)

pub put_scope-n-requires : goal.put_scope-n-requires
put_scope-n-requires c =
    let s = text_short c.args.names.now (name_at c.args.kind) longest_name c.requires.0.name in
    let n = ap length c.text-name.ensures in (
      c.requires.0.long,
      c.requires.0.target,
      c.requires.0.key,
      omega (arith, n, s, length_put c.args.buf.now c.text-name.result.now _ (length c.text-name.result.now - 0) c.copy_from_slice.ensures.after (omega arith) (omega (arith, n, s))),
    )

pub hash_parts-d-requires : goal.hash_parts-d-requires
hash_parts-d-requires c =
    let s = text_short c.args.names.now (name_at c.args.kind) longest_name c.requires.0.name in
    let n = ap length c.text-name.ensures in
    head_fits c.put_scope-n.result c.put_scope-n.new.buf _ c.args.wire.now c.front.ensures (omega (arith, c.put_scope-n.ensures.1, n, s)) c.requires.1

pub returns : goal.returns
returns c = let a = c.args in
    let s = text_short a.names.now (name_at a.kind) longest_name c.requires.0.name in
    id_from _ a.wire.now c.hash_parts-d.result c.put_scope-n.result c.from-low.result c.from-high.result c.put_scope-n.new.buf
    c.front.ensures c.hash_parts-d.ensures c.from-low.ensures c.from-high.ensures
    ∙ head_is a.buf.now a.names.now a.wire.now _ _ c.put_scope-n.new.buf a.kind a.scope c.put_scope-n.result c.text-name.ensures
    (omega (arith, ap length c.text-name.ensures, s))
    (put_mid-paste 0 _ a.buf.now _ c.text-name.result.now (length c.text-name.result.now) c.copy_from_slice.ensures.after (omega arith) refl) c.put_scope-n.ensures.0
