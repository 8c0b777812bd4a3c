-- The log after one delivery more: records, forced count, tallies; its head in range again. Assumes nothing.
use Rattle.std.proofs.Common.{
  ◌≡◌,
  ℕ,
  ◌+◌,
  ◌*◌,
  ◌≤◌,
  Bool,
  true,
  false,
  cond,
  ◌&&◌,
  eqb,
  ltb,
  leb,
  List,
  [],
  ◌∷◌,
  length,
  get_or,
  take,
  drop,
  set,
  sym,
  refl,
  ap,
  ◌∙◌,
  arith,
  length-drop,
  get_or-drop,
  get_or-take,
  drop-drop,
  le-ltb,
  eqb-true,
}
use borrow.Author.Tests.{eqb-false}
use Rattle.table_shift.specs.Shift.{put_words}
use Rattle.table_rows.specs.Table.{rows_of}
use Rattle.table_rows.proofs.Table.{rows_within}
use Rattle.table_ring.specs.declared.Push.{Push}
use Rattle.table_ring.specs.Ring.{push, count_at, first_at, sound_at, Sound, slot_at, next_at, written_at}
use Rattle.table_ring.proofs.Laws.{length_from}
use Rattle.table_ring.proofs.Table.{sound_true, sound_same, length_written, written_sound, ring_written, ring_elsewhere, before_slots}
use Rattle.table_delivery.specs.declared.Delivery.{Delivery}
use Rattle.table_delivery.specs.Delivery as delivery
use Rattle.table_delivery.proofs.Laws as delivery-laws
use Rattle.table_log.specs.Log.{
  tally_exact,
  wrap,
  no_tally,
  tallied,
  logged,
  classes,
  tally_width,
  forced_at,
  tallies_at,
  records_at,
  size_of,
  tally_form,
  records_of,
  tallies_of,
  log_of,
  SoundLog,
  tally_at,
  tallied_at,
  noted_at,
  pushed,
}
use Rattle.table_log.proofs.Writing.{tallied_length, tallied_head, tallied_records, tallied_tallies, noted_length, noted_head, noted_rest, noted_forced}

-- a cell, read from a part that holds it
cell : (ws ws' : List ℕ) (t : ℕ) → take 1 (drop t ws') ≡ take 1 (drop t ws) → get_or ws' (t + 0) 0 ≡ get_or ws (t + 0) 0
cell ws ws' t e =
    let own : (w : List ℕ) → get_or w (t + 0) 0 ≡ get_or (take 1 (drop t w)) 0 0 = λ w. sym (get_or-take 1 (drop t w) 0 0 (omega arith) ∙ get_or-drop t w 0 0) in
    own ws' ∙ ap (λ (x : List ℕ). get_or x 0 0) e ∙ sym (own ws)

-- the ways out of `push`
module _ (m : ℕ) (log : List ℕ) (d : Delivery) where
  pub left : sound_at m 0 log ≡ false → log ≡ pushed m log d
  unfolding pushed
  left h = sym (ap (λ (b : Bool). cond b (written_at delivery.form m 0 records_at (noted_at m (tallied_at log d.class d.wire)) d) log) h)

  -- a log of capacity 0 keeps nothing
  pub off : m ≡ 0 → pushed m log d ≡ log
  off z = sym (left (both (leb (count_at 0 log) m) (le-ltb (first_at 0 log) m (omega arith))))
    where
      both : (b : Bool) → ltb (first_at 0 log) m ≡ false → (b && ltb (first_at 0 log) m) ≡ false
      both true e = e
      both false e = refl

  pub wrote : (t n l l' : List ℕ) (p : Push) → sound_at m 0 log ≡ true → t ≡ tallied_at log d.class d.wire → n ≡ noted_at m t
      → p ≡ next_at delivery.form m 0 records_at n → l ≡ put_words n (records_at + p.slot * delivery.width) (delivery.words d) → l' ≡ put_words l 0 (p.count ∷ p.first ∷ []) → l' ≡ pushed m log d
  unfolding pushed
  wrote t n l l' p h et en ep el el' =
      let whole : n ≡ noted_at m (tallied_at log d.class d.wire) = en ∙ ap (noted_at m) et in
      el' ∙ ap (λ (w : List ℕ). put_words w 0 (p.count ∷ p.first ∷ [])) el
      ∙ ap (λ (q : Push). put_words (put_words n (records_at + q.slot * delivery.width) (delivery.words d)) 0 (q.count ∷ q.first ∷ [])) ep
      ∙ ap (λ (w : List ℕ). written_at delivery.form m 0 records_at w d) whole
      ∙ sym (ap (λ (b : Bool). cond b (written_at delivery.form m 0 records_at (noted_at m (tallied_at log d.class d.wire)) d) log) h)

module _ (m : ℕ) (log : List ℕ) (d : Delivery) (room : size_of m ≤ length log) (sound : Sound m 0 log) where
  tally : List ℕ
  tally = tallied_at log d.class d.wire

  noted : List ℕ
  noted = noted_at m tally

  tally_length : length tally ≡ length log
  unfolding tally
  tally_length = tallied_length log d.class d.wire (omega arith)

  note_length : length noted ≡ length log
  unfolding noted
  note_length = noted_length m tally (omega (arith, tally_length)) ∙ tally_length

  -- the head and the records are as they were
  head_same : take 2 (drop 0 noted) ≡ take 2 (drop 0 log)
  unfolding noted tally
  head_same = noted_head m tally (omega (arith, tally_length)) ∙ tallied_head log d.class d.wire (omega arith) 0 2 (omega arith)

  records_same : drop records_at noted ≡ drop records_at log
  unfolding noted tally
  records_same =
      sym (drop-drop (classes * tally_width) tallies_at noted)
      ∙ ap (drop (classes * tally_width)) (noted_rest m tally (omega (arith, tally_length)))
      ∙ drop-drop (classes * tally_width) tallies_at tally
      ∙ tallied_records log d.class d.wire (omega arith)

  sound' : Sound m 0 noted
  sound' = sound_same m 0 log noted head_same sound

  -- the head is in range where `push` asks for the next slot
  pub ready : (t n : List ℕ) → t ≡ tallied_at log d.class d.wire → n ≡ noted_at m t → Sound m 0 n
  unfolding noted tally
  ready t n et en = rw (en, et) sound'

  room' : records_at + m * delivery.width ≤ length noted
  room' = omega (arith, note_length)

  ring_kept : records_of m noted ≡ records_of m log
  ring_kept = ring_elsewhere delivery.form delivery-laws.exact m 0 records_at log noted head_same (ap (take (m * delivery.width)) records_same) room room' sound

  -- what is read of the head after the write
  between : (t n : ℕ) → 2 ≤ t → t + n ≤ records_at → take n (drop t (written_at delivery.form m 0 records_at noted d)) ≡ take n (drop t noted)
  between t n q r = before_slots delivery.form delivery-laws.exact m 0 records_at noted d (omega arith) room' sound' t n (omega arith) r

  written : List ℕ
  written = written_at delivery.form m 0 records_at noted d

  pushed_is : pushed m log d ≡ written
  unfolding pushed written noted tally
  pushed_is = ap (λ (b : Bool). cond b (written_at delivery.form m 0 records_at (noted_at m (tallied_at log d.class d.wire)) d) log) (sound_true m 0 log sound)

  written_records : records_of m written ≡ push m (records_of m log) d
  unfolding written
  written_records = ring_written delivery.form delivery-laws.exact m 0 records_at noted d (omega arith) room' sound' ∙ ap (λ (l : List Delivery). push m l d) ring_kept

  written_length : length written ≡ length log
  unfolding written
  written_length = length_written delivery.form delivery-laws.exact m 0 records_at noted d (omega arith) room' sound' ∙ note_length

  many : length (records_of m log) ≡ count_at 0 log
  many = length_from (slot_at delivery.form m 0 records_at log) m (first_at 0 log) 0 (count_at 0 log)

  written_forced : get_or written forced_at 0 ≡ cond (ltb (length (records_of m log)) m) (get_or log forced_at 0) (wrap (get_or log forced_at 0 + 1))
  unfolding written noted tally
  written_forced =
      let c : count_at 0 tally ≡ count_at 0 log = cell log tally 0 (tallied_head log d.class d.wire (omega arith) 0 1 (omega arith)) in
      let f : get_or tally forced_at 0 ≡ get_or log forced_at 0 = cell log tally forced_at (tallied_head log d.class d.wire (omega arith) forced_at 1 (omega arith)) in
      cell noted written forced_at (between forced_at 1 (omega arith) (omega arith))
      ∙ noted_forced m tally (omega (arith, tally_length))
      ∙ (λ j. cond (ltb ((c ∙ sym many) j) m) (f j) (wrap (f j + 1)))

  written_tallies : tallies_of written ≡ set (tallies_of log) d.class (tallied (get_or (tallies_of log) d.class no_tally) d.wire)
  unfolding written noted tally tally_at
  written_tallies =
      let lw = length-drop tallies_at written in
      let ln = length-drop tallies_at noted in
      rows_within tally_form tally_exact (drop tallies_at noted) (drop tallies_at written) classes
      (between tallies_at (classes * tally_width) (omega arith) (omega arith)) (omega (arith, ln, note_length)) (omega (arith, lw, written_length))
      ∙ ap (λ (w : List ℕ). rows_of tally_form w classes) (noted_rest m tally (omega (arith, tally_length)))
      ∙ tallied_tallies log d.class d.wire (omega arith)

  written_log : log_of m written ≡ record {
    records = push m (records_of m log) d;
    forced =
        cond (ltb (length (records_of m log)) m) (get_or log forced_at 0) (wrap (get_or log forced_at 0 + 1));
    tallies =
        set (tallies_of log) d.class (tallied (get_or (tallies_of log) d.class no_tally) d.wire);
  }
  written_log j = record { records = written_records j; forced = written_forced j; tallies = written_tallies j }

  again : Sound m 0 written
  unfolding written
  again = written_sound delivery.form delivery-laws.exact m 0 records_at noted d (omega arith) room' sound'

-- THE LAWS of a push, for every capacity
module _ (m : ℕ) (log : List ℕ) (d : Delivery) (room : size_of m ≤ length log) (sound : SoundLog m log) where
  on : (b : Bool) → eqb m 0 ≡ b → b ≡ false → Sound m 0 log
  on b z e = let q = eqb-false m 0 (z ∙ e) in record { counted = sound.counted; begun = sound.begun (omega (arith, q)) }

  pub log_pushed : log_of m (pushed m log d) ≡ logged m (log_of m log) d
  log_pushed = go (eqb m 0) refl
    where
      go : (b : Bool) → eqb m 0 ≡ b → log_of m (pushed m log d)
          ≡ cond b (log_of m log) (record {
            records = push m (records_of m log) d;
            forced =
                cond (ltb (length (records_of m log)) m) (get_or log forced_at 0) (wrap (get_or log forced_at 0 + 1));
            tallies =
                set (tallies_of log) d.class (tallied (get_or (tallies_of log) d.class no_tally) d.wire);
          })
      go true z = ap (log_of m) (off m log d (eqb-true m 0 z))
      go false z = let s = on false z refl in ap (log_of m) (pushed_is m log d room s) ∙ written_log m log d room s

  pub pushed_sound : SoundLog m (pushed m log d)
  pushed_sound = go (eqb m 0) refl
    where
      go : (b : Bool) → eqb m 0 ≡ b → SoundLog m (pushed m log d)
      go true z = rw (off m log d (eqb-true m 0 z)) sound
      go false z =
          let s = on false z refl in
          let a = again m log d room s in
          rw (pushed_is m log d room s) (record { counted = a.counted; begun = λ h. a.begun })

  pub length_pushed : length (pushed m log d) ≡ length log
  length_pushed = go (eqb m 0) refl
    where
      go : (b : Bool) → eqb m 0 ≡ b → length (pushed m log d) ≡ length log
      go true z = ap length (off m log d (eqb-true m 0 z))
      go false z = let s = on false z refl in ap length (pushed_is m log d room s) ∙ written_length m log d room s
