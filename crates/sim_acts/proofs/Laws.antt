-- The figures behind a call, from the two notes.
use mathlib.Core.Path.{◌≡◌, subst}
use mathlib.Core.List.{List}
use Prim.Native.Nat.{ℕ}
use Rattle.sim_script.specs.declared.calls.Call.{Call}
use Rattle.sim_figures.specs.declared.Figures.{Figures}
use Rattle.sim_outcome.specs.declared.Outcome.{Outcome}
use Rattle.sim_notes.specs.Noted.{marks_in, before_note, after_note}
use Rattle.sim_acts.specs.Acted.{IsNoted}

pub noted :
    (l k m : Figures) (call : Call) (setup log seen due setup' net' seen' out' : List ℕ) (told : Outcome) (stood : ℕ) → k ≡ before_note l call setup log → stood ≡ marks_in setup seen
    → m ≡ after_note k due call told stood setup' net' seen' out' → IsNoted l m call setup log seen due setup' net' seen' out'
noted l k m call setup log seen due setup' net' seen' out' told stood e f g = record {
  told = told;
  is =
      subst (λ (n : ℕ). m ≡ after_note (before_note l call setup log) due call told n setup' net' seen' out') f
      (subst (λ (x : Figures). m ≡ after_note x due call told stood setup' net' seen' out') e g);
}
