-- A note is its parts in a row: each law takes the equation of every part, over plain lists.
use Rattle.std.proofs.Common.{◌≡◌, ℕ, ◌+◌, ◌*◌, ◌%◌, ◌^◌, ◌≤◌, min, List, get_or, take, sym, refl, ◌-◌, ap, ◌∙◌, add-one, arith, eq-eqb, ne_eqb}
use Rattle.table_waiting.specs.Waiting as waiting
use Rattle.spec_network.specs.Opening.{most_tills, most_classes, most_slots}
use Rattle.spec_network.specs.Tables.{cell, waiting_at}
use Rattle.call_reply.specs.declared.Value.{Value}
use Rattle.call_waiting.specs.Call.{Reads, DoesTransit}
use Rattle.call_log.specs.Call.{DoesTally}
use Rattle.call_log.specs.declared.Tallied.{Tallied}
use Rattle.ask_refusal.specs.declared.Refusal.{Refusal}
use Rattle.sim_script.specs.declared.calls.Call.{Call}
use Rattle.sim_script.specs.declared.calls.Call.TheVariants.{Flush as FlushCall}
use Rattle.sim_script.specs.declared.calls.Flush.{Flush}
use Rattle.sim_outcome.specs.declared.Outcome.{Outcome}
use Rattle.sim_outcome.specs.declared.Outcome.TheVariants.{Bad, Refused, Done, Accepted, Flushed}
use Rattle.sim_figures.specs.declared.Said.{Said}
use Rattle.sim_figures.specs.declared.Tally.{Tally}
use Rattle.sim_figures.specs.declared.Figures.{Figures}
use Rattle.sim_figures.specs.Notes.{row_note, drop_note, wait_note, transit_note, flushed_note, tallied_note, standing_note}
use Rattle.spec_network.specs.Lending.{no_tables}
use Rattle.sim_notes.specs.Noted.{total_of, marks_in, tally_in, class_tallied, tallies_of, log_words, tallies_note}
use Rattle.sim_notes.specs.Noted.{
  tally_figures,
  sequence_of,
  row_width,
  Noted,
  noted,
  due_note,
  due_notes,
  rows_words,
  flush_note,
  taken_note,
  after_note,
  waits_of,
  transit_in,
  till_transit,
  transits_of,
  wait_words,
  transits_note,
  end_note,
}

-- ---- Marks

pub total_none : (seen : List ℕ) → 0 ≡ total_of seen 0
unfolding total_of
total_none seen = refl

pub total_more : (seen : List ℕ) (total g v t : ℕ) → total ≡ total_of seen t → g ≡ get_or seen t 0 → v ≡ (total + g) % 2 ^ 64 → v ≡ total_of seen (t + 1)
unfolding total_of
total_more seen total g v t e eg ev = rw add-one (whole e eg ev)
  where
    whole : total ≡ total_of seen t → g ≡ get_or seen t 0 → v ≡ (total + g) % 2 ^ 64 → v ≡ (total_of seen t + cell seen t) % 2 ^ 64
    whole e eg ev = cc

pub total_end : (setup seen : List ℕ) (total t n k : ℕ) → t ≤ n → n ≤ t → k ≡ get_or setup 0 0 → n ≡ min k most_tills → total ≡ total_of seen t → total ≡ marks_in setup seen
unfolding marks_in
total_end setup seen total t n k a b ek en e =
    let same : t ≡ n = omega arith in
    e ∙ ap (λ (x : ℕ). total_of seen x) (same ∙ (en ∙ ap (λ (x : ℕ). min x most_tills) ek))

-- ---- Tallies

pub class_noted : (d d' : Figures) (setup log : List ℕ) (k : ℕ) (r : Tallied) → DoesTally setup log k r → d' ≡ tallied_note d k (tally_figures r) → d' ≡ class_tallied d setup log k
unfolding DoesTally class_tallied tally_in
class_noted d d' setup log k r does e = e ∙ ap (λ (t : Tallied). tallied_note d k (tally_figures t)) (does no_tables).0

pub tallies_none : (d : Figures) (setup log : List ℕ) → d ≡ tallies_of d setup log 0
unfolding tallies_of
tallies_none d setup log = refl

pub tallies_more : (d e e' : Figures) (setup log : List ℕ) (k : ℕ) → e ≡ tallies_of d setup log k → e' ≡ class_tallied e setup log k → e' ≡ tallies_of d setup log (k + 1)
unfolding tallies_of
tallies_more d e e' setup log k p q = rw add-one (whole p q)
  where
    whole : e ≡ tallies_of d setup log k → e' ≡ class_tallied e setup log k → e' ≡ class_tallied (tallies_of d setup log k) setup log k
    whole p q = cc

pub tallies_end : (d e : Figures) (setup log : List ℕ) (k : ℕ) → k ≤ most_classes → most_classes ≤ k → e ≡ tallies_of d setup log k → e ≡ tallies_of d setup log most_classes
tallies_end d e setup log k a b p =
    let same : k ≡ most_classes = omega arith in
    p ∙ ap (λ (x : ℕ). tallies_of d setup log x) same

pub tallied : (d e : Figures) (setup log part : List ℕ) (n : ℕ) → n ≡ log_words setup → part ≡ take n log → e ≡ tallies_of d setup part most_classes → e ≡ tallies_note d setup log
unfolding tallies_note
tallied d e setup log part n en ep e₁ = e₁ ∙ ap (λ (x : List ℕ). tallies_of d setup x most_classes) (ep ∙ ap (λ (x : ℕ). take x log) en)

-- ---- A flush

pub landed :
    (d d' : Figures) (due out : List ℕ) (at row q r : ℕ) → q ≡ get_or due (at + sequence_of) 0 → r ≡ get_or out (row + sequence_of) 0 → q ≡ r → d' ≡ row_note d out row
    → noted d' (row + row_width) ≡ due_note (noted d row) due out at
unfolding due_note
landed d d' due out at row q r eq er same e =
    simp (eq-eqb (get_or due (at + sequence_of) 0) (get_or out (row + sequence_of) 0) (sym eq ∙ (same ∙ er))) (ap (λ (x : Figures). noted x (row + row_width)) e)

pub lost :
    (d d' : Figures) (due out : List ℕ) (at row q r : ℕ) → q ≡ get_or due (at + sequence_of) 0 → r ≡ get_or out (row + sequence_of) 0 → (q ≡ r → ⊥) → d' ≡ drop_note d due at
    → noted d' row ≡ due_note (noted d row) due out at
unfolding due_note
lost d d' due out at row q r eq er other e =
    simp (ne_eqb (get_or due (at + sequence_of) 0) (get_or out (row + sequence_of) 0) (λ same. other (eq ∙ (same ∙ sym er)))) (ap (λ (x : Figures). noted x row) e)

pub due_none : (d : Figures) (due out : List ℕ) → noted d 0 ≡ due_notes d due out 0
unfolding due_notes
due_none d due out = refl

pub due_more :
    (d e e' : Figures) (due out : List ℕ) (row row' i : ℕ) → noted e row ≡ due_notes d due out i → noted e' row' ≡ due_note (noted e row) due out (i * waiting.width)
    → noted e' row' ≡ due_notes d due out (i + 1)
unfolding due_notes
due_more d e e' due out row row' i p q = rw add-one (whole p q)
  where
    whole :
        noted e row ≡ due_notes d due out i → noted e' row' ≡ due_note (noted e row) due out (i * waiting.width)
        → noted e' row' ≡ due_note (due_notes d due out i) due out (i * waiting.width)
    whole p q = q ∙ ap (λ (x : Noted). due_note x due out (i * waiting.width)) p

pub due_end : (d e : Figures) (due out : List ℕ) (row i n : ℕ) → i ≤ n → n ≤ i → noted e row ≡ due_notes d due out i → e ≡ (due_notes d due out n).held
due_end d e due out row i n a b p =
    let same : i ≡ n = omega arith in
    ap (λ (x : Noted). x.held) (p ∙ ap (λ (x : ℕ). due_notes d due out x) same)

pub flushes :
    (d e e' : Figures) (due out part : List ℕ) (said : Said) (copies n w gone : ℕ) → n ≡ min copies most_slots → w ≡ rows_words said.rows → part ≡ take w out
    → e ≡ (due_notes d due part n).held → e' ≡ flushed_note e said gone → e' ≡ flush_note d due said copies gone out
unfolding flush_note
flushes d e e' due out part said copies n w gone en ew ep p q = cc

-- ---- The end

pub waits_none : (d : Figures) (copies : List ℕ) → d ≡ waits_of d copies 0
unfolding waits_of
waits_none d copies = refl

pub waits_more : (d e e' : Figures) (copies : List ℕ) (i : ℕ) → e ≡ waits_of d copies i → e' ≡ wait_note e copies (i * waiting.width) → e' ≡ waits_of d copies (i + 1)
unfolding waits_of
waits_more d e e' copies i p q = rw add-one (whole p q)
  where
    whole : e ≡ waits_of d copies i → e' ≡ wait_note e copies (i * waiting.width) → e' ≡ wait_note (waits_of d copies i) copies (i * waiting.width)
    whole p q = cc

pub waits_end : (d e : Figures) (copies : List ℕ) (i n : ℕ) → i ≤ n → n ≤ i → e ≡ waits_of d copies i → e ≡ waits_of d copies n
waits_end d e copies i n a b p =
    let same : i ≡ n = omega arith in
    p ∙ ap (λ (x : ℕ). waits_of d copies x) same

-- in transit
pub transit_noted : (d d' : Figures) (setup net copies : List ℕ) (t : ℕ) (r : Value) → DoesTransit setup net copies t r → d' ≡ transit_note d t r.value → d' ≡ till_transit d setup net copies t
unfolding Reads till_transit transit_in
transit_noted d d' setup net copies t r does e = e ∙ ap (λ (v : Value). transit_note d t v.value) (does no_tables).0

pub transits_none : (d : Figures) (setup net copies : List ℕ) → d ≡ transits_of d setup net copies 0
unfolding transits_of
transits_none d setup net copies = refl

pub transits_more : (d e e' : Figures) (setup net copies : List ℕ) (t : ℕ) → e ≡ transits_of d setup net copies t → e' ≡ till_transit e setup net copies t → e' ≡ transits_of d setup net copies (t + 1)
unfolding transits_of
transits_more d e e' setup net copies t p q = rw add-one (whole p q)
  where
    whole : e ≡ transits_of d setup net copies t → e' ≡ till_transit e setup net copies t → e' ≡ till_transit (transits_of d setup net copies t) setup net copies t
    whole p q = cc

pub transits_end : (d e : Figures) (setup net copies : List ℕ) (t n : ℕ) → t ≤ n → n ≤ t → e ≡ transits_of d setup net copies t → e ≡ transits_of d setup net copies n
transits_end d e setup net copies t n a b p =
    let same : t ≡ n = omega arith in
    p ∙ ap (λ (x : ℕ). transits_of d setup net copies x) same

pub transited :
    (d e : Figures) (setup net copies part : List ℕ) (k n w : ℕ) → k ≡ get_or setup 0 0 → n ≡ min k most_tills → w ≡ wait_words setup → part ≡ take w copies → e ≡ transits_of d setup net part n
    → e ≡ transits_note d setup net copies
unfolding transits_note
transited d e setup net copies part k n w ek en ew ep e₁ = cc

pub ends :
    (d e₁ e₂ e₃ e₄ : Figures) (setup net seen copies log : List ℕ) (k n m : ℕ) → k ≡ get_or net waiting_at 0 → n ≡ min k most_slots → e₁ ≡ waits_of d copies n → e₂ ≡ transits_note e₁ setup net copies
    → e₃ ≡ tallies_note e₂ setup log → m ≡ marks_in setup seen → e₄ ≡ standing_note e₃ m → e₄ ≡ end_note d setup net seen copies log
unfolding end_note
ends d e₁ e₂ e₃ e₄ setup net seen copies log k n m ek en p t q em r = cc

-- ---- A call that no question refused, and what is noted behind a line

pub flush_noted : (l l' : Figures) (due : List ℕ) (call : Call) (told : Outcome) (gone : ℕ) (net out : List ℕ) (flush : Flush) (said : Said) (n : ℕ)
    → call ≡ FlushCall flush → told ≡ Flushed said n → l' ≡ flush_note l due said n gone out → l' ≡ taken_note l due call told gone net out
unfolding taken_note
flush_noted l l' due call told gone net out flush said n ec et e = rw (ec, et) e

pub bad_noted : (l : Figures) (due : List ℕ) (call : Call) (told : Outcome) (stood : ℕ) (setup net seen out : List ℕ)
    → told ≡ Bad → l ≡ after_note l due call told stood setup net seen out
unfolding after_note
bad_noted l due call told stood setup net seen out e = rw e refl

pub taken_noted : (l l' : Figures) (due : List ℕ) (call : Call) (told : Outcome) (stood m gone : ℕ) (setup net seen out : List ℕ)
    → (told ≡ Bad → ⊥) → ((r : Refusal) → told ≡ Refused r → ⊥) → m ≡ marks_in setup seen → gone ≡ stood - m
    → l' ≡ taken_note l due call told gone net out → l' ≡ after_note l due call told stood setup net seen out
unfolding after_note
taken_noted l l' due call Bad stood m gone setup net seen out b r em eg e = absurd (b refl)
taken_noted l l' due call (Refused w) stood m gone setup net seen out b r em eg e = absurd (r w refl)
taken_noted l l' due call Done stood m gone setup net seen out b r em eg e =
    e ∙ ap (λ (g : ℕ). taken_note l due call Done g net out) (eg ∙ ap (λ (k : ℕ). stood - k) em)
taken_noted l l' due call (Accepted five) stood m gone setup net seen out b r em eg e =
    e ∙ ap (λ (g : ℕ). taken_note l due call (Accepted five) g net out) (eg ∙ ap (λ (k : ℕ). stood - k) em)
taken_noted l l' due call (Flushed said n) stood m gone setup net seen out b r em eg e =
    e ∙ ap (λ (g : ℕ). taken_note l due call (Flushed said n) g net out) (eg ∙ ap (λ (k : ℕ). stood - k) em)
