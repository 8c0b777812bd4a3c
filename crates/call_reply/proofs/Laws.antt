-- The two ways of a call: a number refuses it, and its tables stay; or none does, and they are what its step leaves.
use mathlib.Core.Path.{◌≡◌, refl, sym, ap, ◌∙◌}
use mathlib.Core.Bool.{Bool, true, false}
use Prim.Native.Nat.{ℕ, zero, suc}
use Rattle.spec_network.specs.Calls.{Call, Answer, silent, number, answer_of}
use Rattle.spec_network.specs.Tables.{Tables, live, sizes_at}
use Rattle.spec_network.specs.Real.{opening_at}
use Rattle.spec_network.specs.Writes.{is_number, exit_t, answer_t, step_t, call_tables, call_reply}
use Rattle.call_reply.specs.declared.Done.{Done}
use Rattle.call_reply.specs.declared.Value.{Value}
use Rattle.call_reply.specs.Reply.{done_of, value_of, refused_by}

is_number_lem : (n : ℕ) → (n ≡ 0 → ⊥) → is_number n ≡ true
is_number_lem zero h = absurd (h refl)
is_number_lem (suc n) h = refl

module _ (T : Tables) (c : Call) (n : ℕ) (e : n ≡ (call_reply T c).number) where
  module _ (h : n ≡ 0 → ⊥) where
    by_number : is_number (call_reply T c).number ≡ true
    by_number = is_number_lem (call_reply T c).number (λ z. h (e ∙ z))

    pub silenced : call_reply T c ≡ record { number = n; answer = silent }
    silenced = ap (λ (b : Bool). record { number = (call_reply T c).number; answer = answer_t (opening_at T) b T c }) by_number ∙ ap (λ (k : ℕ). record { number = k; answer = silent }) (sym e)

    -- a refused call leaves every table as found
    pub stays : call_tables T c ≡ T
    stays = ap (λ (b : Bool). exit_t (opening_at T) b T c) by_number

    pub done_refused : ◌≡◌ {A = Done} (record { number = n }) (done_of (call_reply T c))
    done_refused = ap done_of (sym silenced)

    pub value_refused : refused_by n ≡ value_of (call_reply T c)
    value_refused = ap value_of (sym silenced)

  module _ (h : n ≡ 0) where
    no_number_lem : is_number (call_reply T c).number ≡ false
    no_number_lem = ap is_number (sym e ∙ h)

    pub answered : call_reply T c ≡ record { number = 0; answer = answer_of (opening_at T) (live (sizes_at T.setup) T) c }
    answered =
        ap (λ (b : Bool). record { number = (call_reply T c).number; answer = answer_t (opening_at T) b T c }) no_number_lem
        ∙ ap (λ (k : ℕ). record { number = k; answer = answer_of (opening_at T) (live (sizes_at T.setup) T) c }) (sym e ∙ h)

    pub steps : call_tables T c ≡ step_t (opening_at T) T c
    steps = ap (λ (b : Bool). exit_t (opening_at T) b T c) no_number_lem

    pub done : ◌≡◌ {A = Done} (record { number = 0 }) (done_of (call_reply T c))
    done = ap done_of (sym answered)

    pub value : (f v : ℕ) → answer_of (opening_at T) (live (sizes_at T.setup) T) c ≡ number f v → ◌≡◌ {A = Value} (record { number = 0; found = f; value = v }) (value_of (call_reply T c))
    value f v a = sym (ap value_of answered ∙ ap (λ (x : Answer). value_of (record { number = 0; answer = x })) a)
