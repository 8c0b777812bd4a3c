use Rattle.call_schedule.proofs.Applying.{counted_as_lem}
use native.Mathlib.Omega.{arith}
use Prim.Native.Nat.{◌+◌}
use Rattle.call_schedule.proofs.count.Goals as goal

pub returns-in-Deduplicated : goal.returns-in-Deduplicated
returns-in-Deduplicated c = counted_as_lem c.args.c
    (record { sent = c.args.c.sent; deduplicated = c.args.c.deduplicated + 1; partition = c.args.c.partition; loss = c.args.c.loss; fault = c.args.c.fault })
    c.args.r _ c.in-Deduplicated.is (omega arith) (omega arith) (omega arith) (omega arith) (omega arith)

pub returns-in-Partition : goal.returns-in-Partition
returns-in-Partition c = counted_as_lem c.args.c
    (record { sent = c.args.c.sent; deduplicated = c.args.c.deduplicated; partition = c.args.c.partition + 1; loss = c.args.c.loss; fault = c.args.c.fault })
    c.args.r _ c.in-Partition.is (omega arith) (omega arith) (omega arith) (omega arith) (omega arith)

pub returns-in-Loss : goal.returns-in-Loss
returns-in-Loss c = counted_as_lem c.args.c
    (record { sent = c.args.c.sent; deduplicated = c.args.c.deduplicated; partition = c.args.c.partition; loss = c.args.c.loss + 1; fault = c.args.c.fault })
    c.args.r _ c.in-Loss.is (omega arith) (omega arith) (omega arith) (omega arith) (omega arith)

pub returns-in-Fault : goal.returns-in-Fault
returns-in-Fault c = counted_as_lem c.args.c
    (record { sent = c.args.c.sent; deduplicated = c.args.c.deduplicated; partition = c.args.c.partition; loss = c.args.c.loss; fault = c.args.c.fault + 1 })
    c.args.r _ c.in-Fault.is (omega arith) (omega arith) (omega arith) (omega arith) (omega arith)

pub returns-in-Sent : goal.returns-in-Sent
returns-in-Sent c = counted_as_lem c.args.c
    (record { sent = c.args.c.sent + 1; deduplicated = c.args.c.deduplicated; partition = c.args.c.partition; loss = c.args.c.loss; fault = c.args.c.fault })
    c.args.r _ c.in-Sent.is (omega arith) (omega arith) (omega arith) (omega arith) (omega arith)
