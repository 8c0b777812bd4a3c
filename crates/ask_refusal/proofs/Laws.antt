-- No question has the number 0, so a result that answers 0 is Ok.
use Rattle.std.specs.Prelude.{◌≡◌, Result, Ok, Err, IsErrAnd}
use Rattle.std.proofs.Common.{ap, arith}
use Rattle.ask_refusal.specs.declared.Refusal.{Refusal}
use Rattle.ask_refusal.specs.declared.Refusal.TheVariants.{Tables, Sizes, Rates, Till, Range, Length, Time, Words, Sequences, SeenSlots, WaitingSlots, Places, Card, Rows, Window}
use Rattle.ask_refusal.specs.Refusals.{number_of}

pub number_not_0 : (e : Refusal) → number_of e ≡ 0 → ⊥
number_not_0 Tables h = omega (arith, h)
number_not_0 Sizes h = omega (arith, h)
number_not_0 Rates h = omega (arith, h)
number_not_0 Till h = omega (arith, h)
number_not_0 Range h = omega (arith, h)
number_not_0 Length h = omega (arith, h)
number_not_0 Time h = omega (arith, h)
number_not_0 Words h = omega (arith, h)
number_not_0 Sequences h = omega (arith, h)
number_not_0 SeenSlots h = omega (arith, h)
number_not_0 WaitingSlots h = omega (arith, h)
number_not_0 Places h = omega (arith, h)
number_not_0 Card h = omega (arith, h)
number_not_0 Rows h = omega (arith, h)
number_not_0 Window h = omega (arith, h)

-- what `?` hands on is the refusal that it met
pub left_by : {T : Type 0} (r : Result T Refusal) {e : Refusal} → IsErrAnd r (λ x. x ≡ e) → r ≡ Err e
left_by (Ok v) h = absurd h
left_by (Err x) h = ap Err h
