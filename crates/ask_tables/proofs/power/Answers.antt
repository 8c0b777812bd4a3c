use Rattle.ask_tables.proofs.Rows.{power_is}
use Rattle.ask_tables.proofs.power.Goals as goal

pub returns : goal.returns
returns c = power_is c.args.n c.requires
