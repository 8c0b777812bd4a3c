use Rattle.std.proofs.Common.{◌≡◌, ◌+◌, ◌-◌, ◌*◌, ◌≤◌, length, drop}
use Rattle.table_rows.specs.Lists.{front}
use Rattle.table_rows.specs.Table.{rows_of}
use Rattle.table_rows.proofs.all.Given as goal

-- i rows pass; those behind decide
abbrev pub invariant-loop-i : goal.invariant-loop-i
invariant-loop-i g l =
    let f = g.R.Row.form in
    record {
      in_range : l.i ≤ l.n;
      so_far : length (front g.passes (rows_of f l.ws l.n)) ≡ l.i + length (front g.passes (rows_of f (drop (l.i * f.width) l.ws) (l.n - l.i)));
    }
