use Rattle.call_schedule.proofs.Pushing.{unpushed, pushed_made}
use Rattle.call_schedule.proofs.push.Goals as goal

pub returns-in_default : goal.returns-in_default
returns-in_default c = let p = unpushed c.args.net.now c.args.waiting.now c.args.c c.in_default.is in record { counts = p.0; rows = p.1 }

pub returns : goal.returns
returns c = let a = c.args in let p = pushed_made a.net.now a.waiting.now c.in-Some.c a.c c.in-Some.is _ c.insert.ensures in record { counts = p.0; rows = p.1 }
