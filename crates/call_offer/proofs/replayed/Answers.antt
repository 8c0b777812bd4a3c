use Rattle.std.specs.Prelude.{ℕ}
use Rattle.std.proofs.Common.{ap, arith}
use Rattle.call_offer.proofs.Readings.{ring_below}
use Rattle.call_offer.proofs.Replaying.{missed, empty, played}
use Rattle.call_offer.specs.Offering.{as_message}
use Rattle.spec_network.specs.Tables.{settings_at, sizes_at}
use Rattle.spec_network.specs.Live.{rings_of}
use Rattle.table_rings.specs.Rings.{number_of, entry_of}
use Rattle.table_rings.specs.declared.Entry.{Entry}
use Rattle.call_offer.proofs.replayed.Goals as goal

pub returns-then-not-chance : goal.returns-then-not-chance
returns-then-not-chance c = let a = c.args in
    λ prices. missed (settings_at a.setup.now) prices (as_message a.m) a.to (rings_of (sizes_at a.setup.now)) a.rings.now (number_of a.m.kind a.m.scope)
    a.c.now c.chance.result c.chance.new.c c.chance.ensures c.if-not-chance.true

pub returns-then-n-eq0 : goal.returns-then-n-eq0
returns-then-n-eq0 c = let a = c.args in
    λ prices. empty (settings_at a.setup.now) prices (as_message a.m) a.to (rings_of (sizes_at a.setup.now)) a.rings.now (number_of a.m.kind a.m.scope)
    a.c.now c.chance.result c.chance.new.c c.chance.ensures c.count-n.result c.number-ring.result c.number-ring.ensures.is c.count-n.ensures c.if-n-eq0.true

pub returns : goal.returns
returns c = let a = c.args in
    let z = sizes_at a.setup.now in
    let ring = number_of a.m.kind a.m.scope in
    let in_rings = ring_below z a.m.kind a.m.scope c.requires.0.ranged.kind c.requires.0.ranged.scope in
    λ prices. played (settings_at a.setup.now) prices (as_message a.m) a.to (rings_of z) a.rings.now ring
    a.c.now c.chance.result c.chance.new.c c.chance.ensures c.if-not-chance.false c.count-n.result c.number-ring.result c.number-ring.ensures.is c.count-n.ensures
    c.if-n-eq0.false c.index-i.result c.index-i.new.c c.index-i.ensures (c.requires.0.held.heads ring in_rings) c.get.result c.get.ensures
    (omega (
      arith,
      ap (λ (e : Entry). e.wire) c.get.ensures,
      ap (λ (j : ℕ). (entry_of (rings_of z) a.rings.now j c.index-i.result).wire) c.number-ring.ensures.is,
      c.requires.0.held.near ring c.index-i.result in_rings,
    ))
