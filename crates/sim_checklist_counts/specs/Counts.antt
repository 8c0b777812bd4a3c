-- The head of the checklist and its parts A to C, as pieces, from the figures.
use Rattle.std.specs.Prelude.{cond, List, [], ◌∷◌, ◌++◌, ℕ, ◌+◌, min, eqb}
use Rattle.sim_figures.specs.declared.Figures.{Figures}
use Rattle.sim_figures.specs.Figures.{most_numbers, refused_of, till_of}
use Rattle.sim_comparison.specs.declared.Column.TheVariants.{Partition, Loss, Fault, LostFrom}
use Rattle.sim_comparison.specs.Compared.{refused_sum, column_of, counts_of, marks_of, cleared_of, at_accept_of, flush_drops_of, senders_differ, differ_of}
use Rattle.sim_sheet.specs.Sheet.{Piece, figure, bytes, saying, newline, line_of, compared_lines, bounded_lines, table_of, four_of, verdict_line}

-- ---- The head: how many calls each question refused, where some

unfoldable pub refusal_of : Figures → ℕ → List Piece
refusal_of l number =
    cond (eqb (refused_of l number) 0) [] (saying "  by question " ++ (figure number 2 ∷ figure (refused_of l number) 32 ∷ newline))

-- questions 1 to n
abbrev pub refusals_of : Figures → ℕ → List Piece
refusals_of l n = table_of (λ (k : ℕ). refusal_of l (k + 1)) n

unfoldable pub head_of : Figures → List Piece
head_of l =
    saying "CHECKLIST OF THE RUN\n" ++ (line_of (bytes "tills") l.tills ++ (line_of (bytes "messages accepted") l.accepts
    ++ (line_of (bytes "flushes") l.flushes ++ (line_of (bytes "calls refused") (refused_sum l) ++ (refusals_of l most_numbers
    ++ line_of (bytes "comparisons that differ") (differ_of l))))))

-- ---- A, B, C

unfoldable pub recipients_of : Figures → List Piece
recipients_of l =
    saying "\nA. RECIPIENTS, BY THE ANSWERS OF ACCEPT\n" ++ (line_of (bytes "sent") l.five.sent ++ (line_of (bytes "deduplicated") l.five.deduplicated
    ++ (line_of (bytes "partition") l.five.partition ++ (line_of (bytes "loss") l.five.loss ++ (line_of (bytes "fault rule") l.five.fault
    ++ compared_lines (counts_of l) (bytes "= the five together") (bytes "= recipients by the masks"))))))

unfoldable pub marks_part : Figures → List Piece
marks_part l =
    saying "\nB. SEEN MARKS\n" ++ (line_of (bytes "set by sent originals") l.five.sent ++ (line_of (bytes "gone with take-downs") l.down_marks
    ++ (line_of (bytes "gone with flush drops") l.flush_marks ++ (compared_lines (marks_of l) (bytes "= so these should stand") (bytes "= standing in the tables")
    ++ bounded_lines (cleared_of l) (bytes "= gone with flush drops") (bytes "= at most: originals dropped")))))

unfoldable pub drops_part : Figures → List Piece
drops_part l =
    saying "\nC. DROPS BY CAUSE\n" ++ (line_of (bytes "partition") l.five.partition ++ (line_of (bytes "loss") l.five.loss
    ++ (line_of (bytes "fault rule") l.five.fault ++ (compared_lines (at_accept_of l) (bytes "= dropped at accept") (bytes "= recipients - dedup. - sent")
    ++ compared_lines (flush_drops_of l) (bytes "= copies dropped by flushes") (bytes "= by the flushes' own counts")))))

-- ---- Drops by the till that sent: a row a till, the sums, the whole, and whether every column agrees

unfoldable pub sender_row : Figures → ℕ → List Piece
sender_row l t =
    (figure t 4 ∷ []) ++ four_of (till_of l t).sent.partition (till_of l t).sent.loss (till_of l t).sent.fault (till_of l t).lost_from

abbrev pub sender_rows : Figures → ℕ → List Piece
sender_rows l n = table_of (sender_row l) n

unfoldable pub senders_part : Figures → List Piece
senders_part l =
    saying "drops by the till that sent\n" ++ (saying "till  partition       loss      fault      flush\n" ++ (sender_rows l (min l.tills 64)
    ++ (saying "=sum" ++ (four_of (column_of l Partition) (column_of l Loss) (column_of l Fault) (column_of l LostFrom)
    ++ (saying "=all" ++ (four_of l.five.partition l.five.loss l.five.fault (flush_drops_of l).left
    ++ verdict_line (eqb (senders_differ l) 0)))))))
