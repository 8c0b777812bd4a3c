-- What the checklist compares: of each comparison the two figures that should be the same. Figures wrap at 2^64.
use Rattle.std.specs.Prelude.{ℕ, ◌-◌, Bool, cond, not, List, [], ◌∷◌, ◌==◌, nat_le, take, fold, count_by}
use Rattle.sim_figures.specs.declared.Five.{Five}
use Rattle.sim_figures.specs.declared.Kinds.{Kinds}
use Rattle.sim_figures.specs.declared.Tally.{Tally}
use Rattle.sim_figures.specs.declared.ClassFigures.{ClassFigures}
use Rattle.sim_figures.specs.declared.TillFigures.{TillFigures}
use Rattle.sim_figures.specs.declared.Figures.{Figures}
use Rattle.sim_figures.specs.Figures as figures
use Rattle.sim_figures.specs.Figures.{plus}
use Rattle.sim_comparison.specs.declared.Pair.{Pair}
use Rattle.sim_comparison.specs.declared.Column.{Column}
use Rattle.sim_comparison.specs.declared.Column.TheVariants.{Partition, Loss, Fault, LostFrom, Transit}
use Rattle.sim_comparison.specs.declared.Counted.{Counted}
use Rattle.sim_comparison.specs.declared.Counted.TheVariants.{Deliveries, Bytes}

abbrev pub pair : ℕ → ℕ → Pair
pair a b = record { left = a; right = b }

-- the five counts together
abbrev pub five_together : Five → ℕ
five_together f = plus (plus (plus (plus f.sent f.deduplicated) f.partition) f.loss) f.fault

abbrev pub both_of : Kinds → ℕ
both_of k = plus k.originals k.echoes

-- a figure of every till, together
abbrev pub till_figure : Column → TillFigures → ℕ
till_figure Partition t = t.sent.partition
till_figure Loss t = t.sent.loss
till_figure Fault t = t.sent.fault
till_figure LostFrom t = t.lost_from
till_figure Transit t = t.transit

unfoldable pub column_of : Figures → Column → ℕ
column_of l of = fold (λ sum t. plus sum (till_figure of t)) 0 l.of_tills

-- the calls that any question refused
unfoldable pub refused_sum : Figures → ℕ
refused_sum l = fold plus 0 l.refused

-- ---- A. the five counts; recipients other than the sender

abbrev pub counts_of : Figures → Pair
counts_of l = pair (five_together l.five) l.recipients

-- ---- B. marks set by sent originals, without those that went; marks that stand

abbrev pub marks_of : Figures → Pair
marks_of l = pair (l.five.sent - plus l.down_marks l.flush_marks) l.standing

-- the left one is at most the right one: marks gone in flushes; originals dropped by flushes
abbrev pub cleared_of : Figures → Pair
cleared_of l = pair l.flush_marks l.dropped.originals

-- ---- C. partition, loss and fault; recipients without deduplicated and sent. Copies that flushes dropped; their own counts

abbrev pub at_accept_of : Figures → Pair
at_accept_of l = pair (plus (plus l.five.partition l.five.loss) l.five.fault) (l.recipients - plus l.five.sent l.five.deduplicated)

abbrev pub flush_drops_of : Figures → Pair
flush_drops_of l = pair (both_of l.dropped) l.said.dropped

-- a column of the table by sender, of each cause; its whole
abbrev pub partitions_of : Figures → Pair
partitions_of l = pair (column_of l Partition) l.five.partition

abbrev pub losses_of : Figures → Pair
losses_of l = pair (column_of l Loss) l.five.loss

abbrev pub faults_of : Figures → Pair
faults_of l = pair (column_of l Fault) l.five.fault

abbrev pub sender_drops_of : Figures → Pair
sender_drops_of l = pair (column_of l LostFrom) (both_of l.dropped)

-- each by its name, with that of the slips
abbrev pub whole_of : Figures → Column → ℕ
whole_of l Partition = l.five.partition
whole_of l Loss = l.five.loss
whole_of l Fault = l.five.fault
whole_of l LostFrom = both_of l.dropped
whole_of l Transit = l.waiting.originals

abbrev pub column_pair : Figures → Column → Pair
column_pair l of = pair (column_of l of) (whole_of l of)

-- ---- D. copies that wait, landed or were dropped; copies scheduled: originals as sent, all by the sequences given, echoes what is left

abbrev pub placed_originals : Figures → ℕ
placed_originals l = plus (plus l.landed.originals l.dropped.originals) l.waiting.originals

abbrev pub placed_echoes : Figures → ℕ
placed_echoes l = plus (plus l.landed.echoes l.dropped.echoes) l.waiting.echoes

abbrev pub placed_of : Figures → Kinds
placed_of l = record { originals = placed_originals l; echoes = placed_echoes l }

abbrev pub scheduled_of : Figures → ℕ
scheduled_of l = l.last - l.first

abbrev pub originals_of : Figures → Pair
originals_of l = pair (placed_originals l) l.five.sent

abbrev pub echoes_of : Figures → Pair
echoes_of l = pair (placed_echoes l) (scheduled_of l - l.five.sent)

abbrev pub copies_of : Figures → Pair
copies_of l = pair (plus (plus (both_of l.landed) (both_of l.dropped)) (both_of l.waiting)) (scheduled_of l)

-- in transit, the slips of every till together; originals that wait
abbrev pub in_transit_of : Figures → Pair
in_transit_of l = pair (column_of l Transit) l.waiting.originals

-- ---- E. rows; the flushes' own count. Rows out of order; none. Rows with a handler; delivered. A class's figure from the rows; the log's

abbrev pub rows_of : Figures → Pair
rows_of l = pair (both_of l.landed) l.said.rows

abbrev pub order_of : Figures → Pair
order_of l = pair l.late 0

abbrev pub delivered_of : Figures → Pair
delivered_of l = pair l.handled l.said.delivered

-- without a log there is nothing to compare
abbrev pub tally_figure : Counted → Tally → ℕ
tally_figure Deliveries t = t.deliveries
tally_figure Bytes t = t.bytes

abbrev pub class_pair : (log : ℕ) → Counted → ClassFigures → Pair
class_pair log of c = pair (tally_figure of c.rows) (cond (log == 0) (tally_figure of c.rows) (tally_figure of c.logged))

abbrev pub class_of : Figures → Counted → ℕ → Pair
class_of l of k = class_pair l.log of (figures.class_of l k)

-- ---- Do they agree?

abbrev pub agreed : Pair → Bool
agreed p = p.left == p.right

abbrev pub within : Pair → Bool
within p = nat_le p.left p.right

-- how many of some comparisons differ
abbrev pub differing : List Bool → ℕ
differing = count_by not

-- of the eight classes
unfoldable pub classes_differ : Figures → Counted → ℕ
classes_differ l of = count_by (λ c. not (agreed (class_pair l.log of c))) (take 8 l.classes)

unfoldable pub senders_differ : Figures → ℕ
senders_differ l = differing (agreed (partitions_of l) ∷ agreed (losses_of l) ∷ agreed (faults_of l) ∷ agreed (sender_drops_of l) ∷ [])

unfoldable pub accepts_differ : Figures → ℕ
accepts_differ l =
    differing (agreed (counts_of l) ∷ agreed (marks_of l) ∷ within (cleared_of l) ∷ agreed (at_accept_of l) ∷ agreed (flush_drops_of l) ∷ [])

unfoldable pub copies_differ : Figures → ℕ
copies_differ l = differing (agreed (originals_of l) ∷ agreed (echoes_of l) ∷ agreed (copies_of l) ∷ agreed (in_transit_of l) ∷ [])

unfoldable pub rows_differ : Figures → ℕ
rows_differ l = differing (agreed (rows_of l) ∷ agreed (order_of l) ∷ agreed (delivered_of l) ∷ [])

-- how many comparisons differ
unfoldable pub differ_of : Figures → ℕ
differ_of l =
    plus (plus (plus (plus (accepts_differ l) (senders_differ l)) (plus (copies_differ l) (rows_differ l))) (classes_differ l Deliveries)) (classes_differ l Bytes)
