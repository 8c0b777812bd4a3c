use Rattle.std.proofs.Common.{arith}
use Rattle.ask_tables.proofs.Ladder.{is_yes}
use Rattle.ask_till.proofs.Laws.{lent_setup}
use Rattle.ask_till.proofs.up.Goals as goal

pub power-requires : goal.power-requires
power-requires c =
    let p = lent_setup c.args.setup.now c.args.tills.now (is_yes _ _ c.tills_lent.ensures c.if-not-tills_lent.false) in
    omega (arith, p, c.cell-2.ensures)
