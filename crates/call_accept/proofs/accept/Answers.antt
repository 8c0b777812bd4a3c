use Rattle.ask_refusal.proofs.Laws.{left_by}
use Rattle.call_accept.proofs.Calling.{shut, early, closed, full, delivered}
use Rattle.call_accept.proofs.Facts.{lent_in, fixed, seen_held_lem, asked_facts, going, arguments_say, scope_in, named}
use Rattle.call_offer.specs.declared.Outgoing.{Outgoing}
use Rattle.ask_tables.proofs.Ladder.{is_no, is_yes}
use lib.ListN.{length}
use Rattle.std.proofs.Common.{refl}
use Rattle.call_accept.proofs.accept.Goals as goal

pub returns-then-not-lent : goal.returns-then-not-lent
returns-then-not-lent c = let a = c.args in
    shut a.fixed.setup.now a.net.now a.names.now a.fixed.tills.now a.words.now a.fixed.keys.now a.fixed.prices.now a.seen.now a.waiting.now a.rings.now
    a.rules.now a.fixed.blocks.now a.given.wire.now a.given.from a.given.at a.given.kind a.given.class a.given.scope a.given.tag a.opens
    (is_no _ _ c.lent.ensures c.if-not-lent.true)

pub returns-in_err-arguments : goal.returns-in_err-arguments
returns-in_err-arguments c = let a = c.args in
    rw (left_by c.from_residual.result c.from_residual.ensures.1)
    (early a.fixed.setup.now a.net.now a.names.now a.fixed.tills.now a.words.now a.fixed.keys.now a.fixed.prices.now a.seen.now a.waiting.now a.rings.now
    a.rules.now a.fixed.blocks.now a.given.wire.now a.given.from a.given.at a.given.kind a.given.class a.given.scope a.given.tag a.opens
    (is_yes _ _ c.lent.ensures c.if-not-lent.false) _ (c.in_err-arguments.ensures))

pub returns-then-not-opens : goal.returns-then-not-opens
returns-then-not-opens c = let a = c.args in
    let d = c.default.ensures in
    rw (d.0, d.1.0, d.1.1.0, d.1.1.1.0, d.1.1.1.1)
    (closed a.fixed.setup.now a.net.now a.names.now a.fixed.tills.now a.words.now a.fixed.keys.now a.fixed.prices.now a.seen.now a.waiting.now a.rings.now
    a.rules.now a.fixed.blocks.now a.given.wire.now a.given.from a.given.at a.given.kind a.given.class a.given.scope a.given.tag a.opens
    (is_yes _ _ c.lent.ensures c.if-not-lent.false) c.in_ok-arguments.ensures c.if-not-opens.true)

pub id_of-requires : goal.id_of-requires
id_of-requires c =
    let p = lent_in c.lent.ensures c.if-not-lent.false in
    let q = arguments_say _ _ _ _ _ _ _ _ c.in_ok-arguments.ensures refl in
    (named _ _ _ _ _ _ _ _ p.setup_says p.names_say q, q.short)

pub tail-requires : goal.tail-requires
tail-requires c = let a = c.args in
    let p = lent_in c.lent.ensures c.if-not-lent.false in
    let q = arguments_say _ _ _ _ _ _ _ _ c.in_ok-arguments.ensures refl in
    let m : Outgoing = record {
      from = a.given.from;
      now = a.given.at;
      kind = a.given.kind;
      class = a.given.class;
      scope = a.given.scope;
      wire =
          length a.given.wire.now;
      id = c.id_of.result;
      tag = a.given.tag;
    } in (
      asked_facts _ _ _ _ _ _ _ _ _ _ _ _ p m q.sender (scope_in a.fixed.setup.now a.given.scope p.setup_says.sizes.shards q.target),
      p.words_size,
      seen_held_lem _ _ _ _ _ _ _ _ _ _ _ _ p,
      p.net_says.size,
    )

pub returns-in_err-tail : goal.returns-in_err-tail
returns-in_err-tail c = let a = c.args in
    rw (left_by c.from_residual-in_err-tail.result c.from_residual-in_err-tail.ensures.1)
    (full a.fixed.setup.now a.net.now a.names.now a.fixed.tills.now a.words.now a.fixed.keys.now a.fixed.prices.now a.seen.now a.waiting.now a.rings.now
    a.rules.now a.fixed.blocks.now a.given.wire.now a.given.from a.given.at a.given.kind a.given.class a.given.scope a.given.tag a.opens
    (is_yes _ _ c.lent.ensures c.if-not-lent.false) c.in_ok-arguments.ensures c.if-not-opens.false c.id_of.result c.id_of.ensures
    (seen_held_lem _ _ _ _ _ _ _ _ _ _ _ _ (lent_in c.lent.ensures c.if-not-lent.false))
    _ (c.in_err-tail.ensures))

pub serve-requires : goal.serve-requires
serve-requires c = let a = c.args in
    let p = arguments_say _ _ _ _ _ _ _ _ c.in_ok-arguments.ensures refl in
    let q = lent_in c.lent.ensures c.if-not-lent.false in
    let scope = scope_in a.fixed.setup.now a.given.scope q.setup_says.sizes.shards p.target in
    let m : Outgoing = record {
      from = a.given.from;
      now = a.given.at;
      kind = a.given.kind;
      class = a.given.class;
      scope = a.given.scope;
      wire =
          length a.given.wire.now;
      id = c.id_of.result;
      tag = a.given.tag;
    } in (
      fixed _ _ _ _ _ _ _ _ _ _ _ _ q,
      record { from = p.sender; kind = p.type; scope = scope; wire = p.short; now = p.soon },
      p.klass,
      going _ _ _ _ _ _ _ _ _ _ _ _ q m p.sender scope c.in_ok-tail.ensures,
    )

pub returns : goal.returns
returns c = let a = c.args in
    let p = is_yes _ _ c.lent.ensures c.if-not-lent.false in
    delivered a.fixed.setup.now a.net.now a.names.now a.fixed.tills.now a.words.now a.fixed.keys.now a.fixed.prices.now a.seen.now a.waiting.now
    a.rings.now a.rules.now a.fixed.blocks.now a.given.wire.now a.given.from a.given.at a.given.kind a.given.class a.given.scope a.given.tag a.opens p
    c.in_ok-arguments.ensures c.if-not-opens.false c.id_of.result c.id_of.ensures
    (seen_held_lem _ _ _ _ _ _ _ _ _ _ _ _ (lent_in c.lent.ensures c.if-not-lent.false))
    c.in_ok-tail.ensures _ _ _ _ _ _ c.serve.result c.serve.ensures
