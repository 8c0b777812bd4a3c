use mathlib.Core.Path.{◌∙◌}
use Rattle.call_flush_pass.proofs.Leaves.{byte_bit, landed_made}
use Rattle.call_flush_pass.proofs.land.Goals as goal

pub returns : goal.returns
returns c = let a = c.args in record {
  log = c.push.ensures;
  out = c.put_row.ensures;
  counts = landed_made a.m c.from.result _ (c.from.ensures ∙ byte_bit c.is_handled.result ∙ c.is_handled.ensures);
}
