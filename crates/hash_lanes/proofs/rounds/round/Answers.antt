use Rattle.hash_lanes.proofs.Round.{round_rows}
use Rattle.math_word.specs.Words.{list_of}
use Rattle.hash_lanes.proofs.rounds.round.Goals as goal

pub returns : goal.returns
unfolding list_of
returns c = let m = c.args.m in
    round_rows c.args.v m.w0 m.w1 m.w2 m.w3 m.w4 m.w5 m.w6 m.w7 m.w8 m.w9 m.w10 m.w11 m.w12 m.w13 m.w14 m.w15
    c.half_columns-p.result c.half_columns-q.result c.to_diagonals.result c.half_columns-r.result c.half_columns-s.result
    c.half_columns-p.ensures c.half_columns-q.ensures c.to_diagonals.ensures c.half_columns-r.ensures c.half_columns-s.ensures c.to_columns.ensures
