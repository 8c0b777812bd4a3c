use Rattle.call_keeping.proofs.return_first.Goals as goal

-- src/lib.rt:52:1
pub returns : goal.returns
returns c = record { net = c.fetch.ensures; tills = c.fetch-2.ensures; words = c.fetch-3.ensures; seen = c.fetch-4.ensures; waiting = c.fetch-5.ensures }
