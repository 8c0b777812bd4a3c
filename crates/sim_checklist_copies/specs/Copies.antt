-- Parts D and E of the checklist and the closing slips, as pieces, from the figures.
use Rattle.std.specs.Prelude.{ℕ, min, Bool, false, cond, List, [], ◌∷◌, ◌++◌, ◌==◌}
use Rattle.sim_figures.specs.declared.Five.{Five}
use Rattle.sim_figures.specs.declared.Kinds.{Kinds}
use Rattle.sim_figures.specs.declared.TillFigures.{TillFigures}
use Rattle.sim_figures.specs.declared.Figures.{Figures}
use Rattle.sim_figures.specs.Figures.{plus, till_of}
use Rattle.sim_comparison.specs.declared.Pair.{Pair}
use Rattle.sim_comparison.specs.declared.Counted.{Counted}
use Rattle.sim_comparison.specs.declared.Counted.TheVariants.{Deliveries, Bytes}
use Rattle.sim_comparison.specs.Compared.{originals_of, echoes_of, copies_of, in_transit_of, rows_of, order_of, delivered_of, class_of, agreed, classes_differ}
use Rattle.sim_sheet.specs.Sheet.{Piece, figure, wide, bytes, saying, newline, labelled, at_right, line_of, verdict_in, verdict_line, compared_lines, table_of, three_of}

-- ---- D

-- originals, echoes and all of these
unfoldable pub kinds_of : List ℕ → Kinds → List Piece
kinds_of what k = three_of what k.originals k.echoes (plus k.originals k.echoes)

-- each column has its own verdict
unfoldable pub columns_part : Figures → List Piece
columns_part l =
    saying "\nD. COPIES: WAITING, LANDED, DROPPED BY A FLUSH\n" ++ (saying "               originals      echoes         all\n"
    ++ (kinds_of (bytes "waiting") l.waiting ++ (kinds_of (bytes "landed") l.landed ++ (kinds_of (bytes "dropped") l.dropped
    ++ (three_of (bytes "= together") (originals_of l).left (echoes_of l).left (copies_of l).left
    ++ (three_of (bytes "= scheduled") (originals_of l).right (echoes_of l).right (copies_of l).right
    ++ (labelled (bytes "") 12 ++ (verdict_in (agreed (originals_of l)) 12 ++ (verdict_in (agreed (echoes_of l)) 12 ++ (verdict_in (agreed (copies_of l)) 12
    ++ (saying "\nscheduled: originals as sent, all by the\n" ++ saying "sequences given, echoes what is left\n")))))))))))

unfoldable pub copies_part : Figures → List Piece
copies_part l = columns_part l ++ compared_lines (in_transit_of l) (bytes "= in transit, all slips") (bytes "= originals that wait")

-- ---- E

unfoldable pub order_part : Figures → List Piece
order_part l =
    saying "\nE. DELIVERY ORDER AND CLASS TALLIES\n" ++ (compared_lines (rows_of l) (bytes "= rows") (bytes "= by the flushes' own counts")
    ++ (compared_lines (order_of l) (bytes "= rows out of order") (bytes "= there should be")
    ++ compared_lines (delivered_of l) (bytes "= rows with a handler") (bytes "= delivered, flushes' counts")))

-- are both figures 0?
abbrev pub none_in : Pair → Bool
none_in p = cond (p.left == 0) (p.right == 0) false

-- a class's line in the table of deliveries or bytes; nothing where both figures are 0
unfoldable pub class_line : Figures → Counted → ℕ → List Piece
class_line l of k = cond (none_in (class_of l of k)) [] (figure k 5 ∷ figure (class_of l of k).left 21 ∷ figure (class_of l of k).right 22 ∷ newline)

abbrev pub class_lines : Figures → Counted → List Piece
class_lines l of = table_of (class_line l of) 8

unfoldable pub class_table : Figures → Counted → List Piece
class_table l of =
    cond (l.log == 0) (at_right (bytes "no log") wide ++ newline)
    (saying "class               = rows                 = log\n" ++ (class_lines l of ++ verdict_line (classes_differ l of == 0)))

-- ---- The closing slips

unfoldable pub sender_drops : Five → List Piece
sender_drops s =
    line_of (bytes "S dropped by partition") s.partition ++ (line_of (bytes "S dropped by loss") s.loss ++ line_of (bytes "S dropped by a fault rule") s.fault)

unfoldable pub as_sender : Five → List Piece
as_sender s = line_of (bytes "S sent") s.sent ++ (line_of (bytes "S deduplicated") s.deduplicated ++ sender_drops s)

unfoldable pub as_receiver : TillFigures → List Piece
as_receiver t = line_of (bytes "R received") t.received ++ (line_of (bytes "R dropped by a flush") t.lost_to ++ line_of (bytes "R in transit") t.transit)

unfoldable pub slip_of : Figures → ℕ → List Piece
slip_of l t = newline ++ (line_of (bytes "TILL") t ++ (as_sender (till_of l t).sent ++ as_receiver (till_of l t)))

unfoldable pub slips_part : Figures → List Piece
slips_part l = saying "\nCLOSING SLIPS: S as sender, R as receiver\n" ++ table_of (slip_of l) (min l.tills 64)

-- the log's part, and the slips
unfoldable pub tables_part : Figures → List Piece
tables_part l =
    saying "deliveries by class\n" ++ (class_table l Deliveries ++ (saying "wire bytes by class\n" ++ (class_table l Bytes ++ slips_part l)))
