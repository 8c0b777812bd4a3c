-- The number of each question that refuses, and what a call's result answers in numbers: 0 where nothing refused it.
use Rattle.std.specs.Prelude.{ℕ, Result, Ok, Err}
use Rattle.ask_refusal.specs.declared.Refusal.{Refusal}
use Rattle.ask_refusal.specs.declared.Refusal.TheVariants.{Tables, Sizes, Rates, Till, Range, Length, Time, Words, Sequences, SeenSlots, WaitingSlots, Places, Card, Rows, Window}

abbrev pub number_of : Refusal → ℕ
number_of Tables = 1
number_of Sizes = 2
number_of Rates = 3
number_of Till = 4
number_of Range = 5
number_of Length = 6
number_of Time = 7
number_of Words = 8
number_of Sequences = 9
number_of SeenSlots = 10
number_of WaitingSlots = 11
number_of Places = 12
number_of Card = 13
number_of Rows = 14
number_of Window = 18

-- 0, or the number of the question that refused
abbrev pub asked : {T : Type 0} → Result T Refusal → ℕ
asked (Ok v) = 0
asked (Err e) = number_of e
