use Rattle.std.proofs.Common.{refl}
use Rattle.std.proofs.lemmas.Result.{err_from_is_err_and}
use Rattle.ask_refusal.proofs.Laws.{number_not_0}
use Rattle.spec_network.specs.Tables.{Tables}
use Rattle.spec_network.specs.Lending.{tables_of}
use Rattle.call_open.proofs.Whole.{refused, settled, begun, done}
use Rattle.call_open.proofs.open_network.Goals as goal

pub returns-in_err-refusal : goal.returns-in_err-refusal
returns-in_err-refusal c = let a = c.args in
    let T : Tables =
    tables_of a.setup.now a.net.now a.names.now a.tills.now a.words.now a.keys.now a.prices.now a.seen.now a.waiting.now a.rings.now a.rules.now
    a.blocks.now a.log.now in
    let p = err_from_is_err_and c.from_residual.result c.from_residual.ensures.1 in
    rw (p.1, p.2) (refused a.config a.sizes a.plan a.seed a.key.now a.masks.now T _ c.in_err-refusal.ensures (number_not_0 _))

pub write_settled-requires : goal.write_settled-requires
write_settled-requires c = let a = c.args in
    let T : Tables =
    tables_of a.setup.now a.net.now a.names.now a.tills.now a.words.now a.keys.now a.prices.now a.seen.now a.waiting.now a.rings.now a.rules.now
    a.blocks.now a.log.now in
    settled a.config a.sizes a.plan a.seed a.key.now a.masks.now T 0 c.in_ok-refusal.ensures refl

pub write_begun-requires : goal.write_begun-requires
write_begun-requires c = let a = c.args in
    let T : Tables =
    tables_of a.setup.now a.net.now a.names.now a.tills.now a.words.now a.keys.now a.prices.now a.seen.now a.waiting.now a.rings.now a.rules.now
    a.blocks.now a.log.now in
    begun a.config a.sizes a.plan a.seed a.key.now a.masks.now T 0 c.in_ok-refusal.ensures refl

pub returns : goal.returns
returns c = let a = c.args in
    let T : Tables =
    tables_of a.setup.now a.net.now a.names.now a.tills.now a.words.now a.keys.now a.prices.now a.seen.now a.waiting.now a.rings.now a.rules.now
    a.blocks.now a.log.now in
    done a.config a.sizes a.plan a.seed a.key.now a.masks.now T 0 c.in_ok-refusal.ensures refl _ _ _ _ _ _ _ _ _ c.write_settled.ensures
    c.write_begun.ensures
