-- The steps of a push: the tally, the forced count, and what they leave alone. Assumes nothing.
use Rattle.std.proofs.Common.{
  ◌≡◌,
  ℕ,
  ◌+◌,
  ◌*◌,
  ◌<◌,
  ◌≤◌,
  Bool,
  true,
  false,
  cond,
  eqb,
  ltb,
  List,
  length,
  get_or,
  take,
  drop,
  set,
  sym,
  refl,
  ap,
  ◌∙◌,
  arith,
  length-drop,
  length-set,
  get_or-set_same,
  drop-set-lt,
  ltb-false,
  ltb-true,
  le-ltb,
  lt-ltb,
  eq-eqb,
  ne_eqb,
  eqb-true,
}
use lib.ListN.{get_or-eq_default}
use lib.Seq.{drop-drop, take-set-le, set_out}
use borrow.Author.Tests.{eqb-false}
use Rattle.table_shift.specs.Shift.{put_words}
use Rattle.table_shift.proofs.Laws.{length_put}
use Rattle.table_shift.proofs.Parts.{put_before, put_behind, drop_put}
use Rattle.table_rows.specs.Table.{rows_of}
use Rattle.table_rows.proofs.Rows.{length_rows}
use Rattle.table_rows.proofs.Table.{rows_set, row_at}
use Rattle.table_ring.specs.Ring.{count_at, sound_at}
use Rattle.table_ring.proofs.Table.{true_sound, sound_true}
pub use Rattle.table_log.specs.Log.{tally_exact}
use Rattle.table_log.specs.declared.Tally.{Tally}
use Rattle.table_log.specs.Log.{wrap, no_tally, tallied, classes, tally_width, forced_at, tallies_at, records_at, tally_form, tallies_of, sound_log, SoundLog, tally_at, tallied_at, noted_at}

-- THE HEAD: the test and the facts
pub sound_log_lem : (m : ℕ) (log : List ℕ) → sound_log m log ≡ true → SoundLog m log
sound_log_lem m log = go (eqb m 0) refl
  where
    go : (b : Bool) → eqb m 0 ≡ b → cond b (eqb (count_at 0 log) 0) (sound_at m 0 log) ≡ true → SoundLog m log
    go true z e = let q = eqb-true m 0 z in let c = eqb-true (count_at 0 log) 0 e in record { counted = omega arith; begun = λ h. absurd (omega arith) }
    go false z e = let s = true_sound m 0 log e in record { counted = s.counted; begun = λ h. s.begun }

pub log_sound : (m : ℕ) (log : List ℕ) → SoundLog m log → sound_log m log ≡ true
log_sound m log s = go (eqb m 0) refl
  where
    go : (b : Bool) → eqb m 0 ≡ b → cond b (eqb (count_at 0 log) 0) (sound_at m 0 log) ≡ true
    go true z = let q = eqb-true m 0 z in eq-eqb (count_at 0 log) 0 (omega (arith, s.counted))
    go false z = let q = eqb-false m 0 z in sound_true m 0 log (record { counted = s.counted; begun = s.begun (omega (arith, q)) })

pub sound_off : (m : ℕ) (log : List ℕ) → m ≡ 0 → eqb (count_at 0 log) 0 ≡ sound_log m log
sound_off m log z = sym (ap (λ (b : Bool). cond b (eqb (count_at 0 log) 0) (sound_at m 0 log)) (eq-eqb m 0 z))

pub sound_on : (m : ℕ) (log : List ℕ) (b : Bool) → (m ≡ 0 → ⊥) → b ≡ sound_at m 0 log → b ≡ sound_log m log
sound_on m log b n e = e ∙ sym (ap (λ (x : Bool). cond x (eqb (count_at 0 log) 0) (sound_at m 0 log)) (ne_eqb m 0 n))

-- A CLASS'S TALLY
module _ (log : List ℕ) (class : ℕ) where
  pub tally_none : classes ≤ class → no_tally ≡ tally_at log class
  unfolding tally_at
  tally_none h = sym (get_or-eq_default (tallies_of log) no_tally {n = class} (let l = length_rows tally_width tally_form.read classes (drop tallies_at log) in omega arith))

  pub tally_row : class < classes → tally_form.read (drop (tallies_at + class * tally_width) log) ≡ tally_at log class
  unfolding tally_at
  tally_row h = ap tally_form.read (sym (drop-drop (class * tally_width) tallies_at log)) ∙ sym (row_at tally_form (drop tallies_at log) classes class no_tally h)

  -- what `add_tally` leaves
  pub tally_out : (wire : ℕ) → classes ≤ class → log ≡ tallied_at log class wire
  unfolding tallied_at
  tally_out wire h = sym (rw (le-ltb class classes h))

  pub tally_made : (wire : ℕ) (t : Tally) → class < classes → t ≡ tally_form.read (drop (tallies_at + class * tally_width) log)
      → put_words log (tallies_at + class * tally_width) (tally_form.words (tallied t wire)) ≡ tallied_at log class wire
  unfolding tallied_at
  tally_made wire t h is =
      let at : ℕ = tallies_at + class * tally_width in
      ap (λ (k : Tally). put_words log at (tally_form.words (tallied k wire))) (is ∙ tally_row h)
      ∙ sym (ap (λ (x : Bool). cond x (put_words log at (tally_form.words (tallied (tally_at log class) wire))) log) (lt-ltb class classes h))

-- what the tally leaves alone, and what it changes
module _ (log : List ℕ) (class wire : ℕ) (room : records_at ≤ length log) where
  at : ℕ
  at = tallies_at + class * tally_width

  by_class : {A : Type 0} (F : List ℕ → A) →
      (class < classes → F (put_words log (tallies_at + class * tally_width) (tally_form.words (tallied (tally_at log class) wire))) ≡ F log) → F (tallied_at log class wire) ≡ F log
  unfolding tallied_at
  by_class F k = go (ltb class classes) refl
    where
      go : (b : Bool) → ltb class classes ≡ b → F (cond b (put_words log (tallies_at + class * tally_width) (tally_form.words (tallied (tally_at log class) wire))) log) ≡ F log
      go true e = k (ltb-true class classes e)
      go false e = refl

  pub tallied_length : length (tallied_at log class wire) ≡ length log
  tallied_length = by_class length (λ h. length_put log (tallies_at + class * tally_width) (tally_form.words (tallied (tally_at log class) wire)) (omega arith))

  pub tallied_head : (t n : ℕ) → t + n ≤ tallies_at → take n (drop t (tallied_at log class wire)) ≡ take n (drop t log)
  tallied_head t n q = by_class (λ (w : List ℕ). take n (drop t w))
      (λ h. put_before log (tallies_at + class * tally_width) (tally_form.words (tallied (tally_at log class) wire)) t n (omega arith) (omega arith))

  pub tallied_records : drop records_at (tallied_at log class wire) ≡ drop records_at log
  tallied_records = by_class (drop records_at) (λ h. put_behind log (tallies_at + class * tally_width) (tally_form.words (tallied (tally_at log class) wire)) records_at (omega arith) (omega arith))

  pub tallied_tallies : tallies_of (tallied_at log class wire) ≡ set (tallies_of log) class (tallied (tally_at log class) wire)
  unfolding tallied_at
  tallied_tallies = go (ltb class classes) refl
    where
      more : Tally
      more = tallied (tally_at log class) wire

      go : (b : Bool) → ltb class classes ≡ b → tallies_of (cond b (put_words log (tallies_at + class * tally_width) (tally_form.words more)) log) ≡ set (tallies_of log) class more
      go true e =
          let h = ltb-true class classes e in
          ap (λ (w : List ℕ). rows_of tally_form w classes) (drop_put log (class * tally_width) (tally_form.words more) tallies_at (omega arith))
          ∙ rows_set tally_form tally_exact (drop tallies_at log) classes class more h (rw length-drop (omega arith))
      go false e = sym (set_out (tallies_of log) class more (let h = ltb-false class classes e in let l = length_rows tally_width tally_form.read classes (drop tallies_at log) in omega arith))

-- the forced count
module _ (m : ℕ) (log : List ℕ) (room : records_at ≤ length log) where
  pub noted_room : count_at 0 log < m → log ≡ noted_at m log
  unfolding noted_at
  noted_room h = sym (rw (lt-ltb (count_at 0 log) m h))

  pub noted_full : (d : ℕ) → m ≤ count_at 0 log → d ≡ wrap (get_or log forced_at 0 + 1) → set log forced_at d ≡ noted_at m log
  unfolding noted_at
  noted_full d h e = ap (set log forced_at) e ∙ sym (ap (λ (b : Bool). cond b log (set log forced_at (wrap (get_or log forced_at 0 + 1)))) (le-ltb (count_at 0 log) m h))

  by_count : {A : Type 0} (F : List ℕ → A) → F (set log forced_at (wrap (get_or log forced_at 0 + 1))) ≡ F log → F (noted_at m log) ≡ F log
  unfolding noted_at
  by_count F k = go (ltb (count_at 0 log) m)
    where
      go : (b : Bool) → F (cond b log (set log forced_at (wrap (get_or log forced_at 0 + 1)))) ≡ F log
      go true = refl
      go false = k

  pub noted_length : length (noted_at m log) ≡ length log
  noted_length = by_count length (length-set log forced_at (wrap (get_or log forced_at 0 + 1)))

  pub noted_head : take 2 (noted_at m log) ≡ take 2 log
  noted_head = by_count (take 2) (take-set-le 2 log forced_at (wrap (get_or log forced_at 0 + 1)) (omega arith))

  pub noted_rest : drop tallies_at (noted_at m log) ≡ drop tallies_at log
  noted_rest = by_count (drop tallies_at) (drop-set-lt tallies_at log forced_at (wrap (get_or log forced_at 0 + 1)) (omega arith))

  pub noted_forced : get_or (noted_at m log) forced_at 0 ≡ cond (ltb (count_at 0 log) m) (get_or log forced_at 0) (wrap (get_or log forced_at 0 + 1))
  unfolding noted_at
  noted_forced = go (ltb (count_at 0 log) m)
    where
      go : (b : Bool) → get_or (cond b log (set log forced_at (wrap (get_or log forced_at 0 + 1)))) forced_at 0 ≡ cond b (get_or log forced_at 0) (wrap (get_or log forced_at 0 + 1))
      go true = refl
      go false = get_or-set_same log forced_at (wrap (get_or log forced_at 0 + 1)) 0 (omega arith)
