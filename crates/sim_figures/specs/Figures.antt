-- The figures of a run, a record; the rows of its tills, classes and questions; what is added to them. Figures wrap at 2^64.
use Rattle.std.specs.Prelude.{ℕ, ◌+◌, ◌%◌, ◌^◌, min, cond, ◌==◌, replicate, slice_index, slice_index_or, slice_set}
use Rattle.sim_figures.specs.declared.Five.{Five}
use Rattle.sim_figures.specs.declared.Said.{Said}
use Rattle.sim_figures.specs.declared.Kinds.{Kinds}
use Rattle.sim_figures.specs.declared.Tally.{Tally}
use Rattle.sim_figures.specs.declared.ClassFigures.{ClassFigures}
use Rattle.sim_figures.specs.declared.TillFigures.{TillFigures}
use Rattle.sim_figures.specs.declared.Figures.{Figures}

abbrev pub plus : ℕ → ℕ → ℕ
plus a b = (a + b) % 2 ^ 64

-- ---- Every figure 0

abbrev pub no_five : Five
no_five = record { sent = 0; deduplicated = 0; partition = 0; loss = 0; fault = 0 }

abbrev pub no_copies : Kinds
no_copies = record { originals = 0; echoes = 0 }

abbrev pub no_tally : Tally
no_tally = record { deliveries = 0; bytes = 0 }

abbrev pub no_class : ClassFigures
no_class = record { rows = no_tally; logged = no_tally }

abbrev pub no_till : TillFigures
no_till = record { mask = 0; sent = no_five; received = 0; lost_to = 0; lost_from = 0; transit = 0 }

abbrev pub no_figures : Figures
no_figures = record {
  tills = 0;
  log = 0;
  first = 0;
  last = 0;
  accepts = 0;
  recipients = 0;
  five = no_five;
  down_marks = 0;
  flush_marks = 0;
  standing = 0;
  flushes = 0;
  said = record { rows = 0; delivered = 0; dropped = 0 };
  handled = 0;
  late = 0;
  time = 0;
  sequence = 0;
  landed = no_copies;
  dropped = no_copies;
  waiting = no_copies;
  refused = replicate 26 0;
  classes = replicate 9 no_class;
  of_tills = replicate 65 no_till;
}

-- ---- Rows: refused calls by their number, those beyond 24, the last question, share the last row; a class beyond 7 shares the last row; a till
-- ---- beyond 63 shares the last row

abbrev pub most_numbers : ℕ
most_numbers = 25

abbrev pub refused_row : ℕ → ℕ
refused_row number = min number most_numbers

abbrev pub refused_of : Figures → ℕ → ℕ
refused_of l number = slice_index l.refused (refused_row number)

abbrev pub class_row : ℕ → ℕ
class_row k = min k 8

abbrev pub class_of : Figures → ℕ → ClassFigures
class_of l k = slice_index_or l.classes (class_row k) no_class

abbrev pub with_class : Figures → ℕ → ClassFigures → Figures
with_class l k r = record l { classes = slice_set l.classes (class_row k) r }

abbrev pub till_row : ℕ → ℕ
till_row t = min t 64

abbrev pub till_of : Figures → ℕ → TillFigures
till_of l t = slice_index_or l.of_tills (till_row t) no_till

abbrev pub with_till : Figures → ℕ → TillFigures → Figures
with_till l t r = record l { of_tills = slice_set l.of_tills (till_row t) r }

-- ---- Added up

abbrev pub five_added : Five → Five → Five
five_added a b =
    record {
      sent = plus a.sent b.sent;
      deduplicated = plus a.deduplicated b.deduplicated;
      partition = plus a.partition b.partition;
      loss = plus a.loss b.loss;
      fault = plus a.fault b.fault;
    }

abbrev pub said_added : Said → Said → Said
said_added a b = record { rows = plus a.rows b.rows; delivered = plus a.delivered b.delivered; dropped = plus a.dropped b.dropped }

abbrev pub tally_added : Tally → Tally → Tally
tally_added a b = record { deliveries = plus a.deliveries b.deliveries; bytes = plus a.bytes b.bytes }

-- one copy more: an original, or an echo where the flag is 0
abbrev pub counted : Kinds → ℕ → Kinds
counted k original =
    cond (original == 0) (record { originals = k.originals; echoes = plus k.echoes 1 }) (record { originals = plus k.originals 1; echoes = k.echoes })
