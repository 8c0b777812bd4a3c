use mathlib.Core.List.{[]}
use Prim.Native.Nat.{◌+◌, ◌*◌}
use mathlib.Core.Path.{refl}
use native.Mathlib.Omega.{arith}
use Rattle.spec_network.specs.Lists.{same}
use Rattle.spec_network.specs.Tables.{text_at}
use Rattle.ask_opening_parts.specs.Texts.{texts_from}
use Rattle.ask_opening_parts.proofs.Scans.{some_next, some_stop, some_end}
use Rattle.ask_opening_parts.proofs.Names.{place, inside, texts_length, text_asked}
use Rattle.ask_opening_parts.proofs.texts.repeated.Goals as goal

pub loop-j-init : goal.loop-j-init
loop-j-init c = refl

pub overflow_mul-k : goal.overflow_mul-k
overflow_mul-k c = let a = c.args in omega (arith, place a.names.now a.start a.stride a.n c.requires.0 a.k (omega arith))

pub overflow_add-start : goal.overflow_add-start
overflow_add-start c = let a = c.args in omega (arith, place a.names.now a.start a.stride a.n c.requires.0 a.k (omega arith))

pub overflow_mul-j : goal.overflow_mul-j
overflow_mul-j c = let a = c.args in omega (arith, place a.names.now a.start a.stride a.n c.requires.0 c.loop-j.j (omega arith))

pub overflow_add-start-in-loop-j : goal.overflow_add-start-in-loop-j
overflow_add-start-in-loop-j c = let a = c.args in omega (arith, place a.names.now a.start a.stride a.n c.requires.0 c.loop-j.j (omega arith))

pub same_text-requires : goal.same_text-requires
same_text-requires c = let a =
    c.args in (inside a.names.now a.start a.stride a.n c.requires.0 c.requires.1 a.k (omega arith), inside a.names.now a.start a.stride a.n c.requires.0 c.requires.1 c.loop-j.j (omega arith))

pub returns-then-same_text : goal.returns-then-same_text
returns-then-same_text c = let a = c.args in some_stop (same (text_at a.names.now (a.start + a.k * a.stride))) (texts_from a.names.now a.start a.stride a.n)
    c.loop-j.j [] _ (omega (arith, texts_length a.names.now a.start a.stride a.n))
    (text_asked a.names.now a.start a.stride a.n (same (text_at a.names.now (a.start + a.k * a.stride))) c.loop-j.j _ _ (omega arith) c.same_text.ensures c.if-same_text.true) c.loop-j.invariant

pub loop-j-preserved : goal.loop-j-preserved
loop-j-preserved c = let a = c.args in some_next (same (text_at a.names.now (a.start + a.k * a.stride))) (texts_from a.names.now a.start a.stride a.n) c.loop-j.j []
    _ (omega (arith, texts_length a.names.now a.start a.stride a.n))
    (text_asked a.names.now a.start a.stride a.n (same (text_at a.names.now (a.start + a.k * a.stride))) c.loop-j.j _ _ (omega arith) c.same_text.ensures c.if-same_text.false) c.loop-j.invariant

pub returns : goal.returns
returns c = let a = c.args in some_end (same (text_at a.names.now (a.start + a.k * a.stride))) (texts_from a.names.now a.start a.stride a.n) c.loop-j.j [] _
    (omega (arith, texts_length a.names.now a.start a.stride a.n)) c.loop-j.invariant
