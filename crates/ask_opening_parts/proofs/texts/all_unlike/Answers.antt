use mathlib.Core.Path.{refl}
use native.Mathlib.Omega.{arith}
use Rattle.ask_opening_parts.specs.Texts.{texts_from}
use Rattle.ask_opening_parts.proofs.Scans.{unlike_next, unlike_stop, unlike_end}
use Rattle.ask_opening_parts.proofs.Names.{texts_length, text_met}
use Rattle.ask_opening_parts.proofs.texts.all_unlike.Goals as goal

pub loop-k-init : goal.loop-k-init
loop-k-init c = refl

pub repeated-requires : goal.repeated-requires
repeated-requires c = (c.requires.0, c.requires.1, omega arith)

pub returns-then-repeated : goal.returns-then-repeated
returns-then-repeated c = let a =
    c.args in unlike_stop (texts_from a.names.now a.start a.stride a.n) c.loop-k.k (omega (arith, texts_length a.names.now a.start a.stride a.n))
    (text_met a.names.now a.start a.stride a.n c.loop-k.k _ _ (omega arith) c.repeated.ensures c.if-repeated.true) c.loop-k.invariant

pub loop-k-preserved : goal.loop-k-preserved
loop-k-preserved c = let a = c.args in unlike_next (texts_from a.names.now a.start a.stride a.n) c.loop-k.k
    (omega (arith, texts_length a.names.now a.start a.stride a.n)) (text_met a.names.now a.start a.stride a.n c.loop-k.k _ _ (omega arith) c.repeated.ensures c.if-repeated.false) c.loop-k.invariant

pub returns : goal.returns
returns c = let a = c.args in unlike_end (texts_from a.names.now a.start a.stride a.n) c.loop-k.k (omega (arith, texts_length a.names.now a.start a.stride a.n)) c.loop-k.invariant
