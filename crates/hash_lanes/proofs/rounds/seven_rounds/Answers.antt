use mathlib.Core.Path.{◌∙◌}
use Rattle.math_word.specs.Words.{list_of}
use Rattle.hash_lanes.specs.Rows.{flat}
use Rattle.hash_lanes.proofs.Round.{rounds_made}
use Rattle.hash_lanes.proofs.rounds.seven_rounds.Goals as goal

pub returns : goal.returns
returns c = c.words_of.ensures ∙ rounds_made (list_of c.args.m) (list_of c.permute-m1.result) (list_of c.permute-m2.result) (list_of c.permute-m3.result)
    (list_of c.permute-m4.result) (list_of c.permute-m5.result) (list_of c.permute.result)
    (list_of c.args.v) (flat c.rows_of.result) (flat c.round-v1.result) (flat c.round-v2.result) (flat c.round-v3.result) (flat c.round-v4.result) (flat c.round-v5.result) (flat c.round-v6.result)
    c.permute-m1.ensures c.permute-m2.ensures c.permute-m3.ensures c.permute-m4.ensures c.permute-m5.ensures c.permute.ensures
    c.rows_of.ensures c.round-v1.ensures c.round-v2.ensures c.round-v3.ensures c.round-v4.ensures c.round-v5.ensures c.round-v6.ensures c.round.ensures
