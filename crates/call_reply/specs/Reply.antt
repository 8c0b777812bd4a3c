-- Document 01, 'Questions' (a "no" returns the number with all counts 0): the fields of a reply, for each case of an answer.
use Rattle.std.specs.Prelude.{ℕ, Bool, Option, Some, None, Result, Ok, Err}
use Rattle.ask_refusal.specs.declared.Refusal.{Refusal}
use Rattle.ask_refusal.specs.Refusals.{number_of, asked}
use Rattle.spec_network.specs.Calls.{Answer, shown}
use Rattle.spec_network.specs.Lists.{bit}
use Rattle.spec_network.specs.Writes.{Reply}
use Rattle.call_reply.specs.declared.Done.{Done}
use Rattle.call_reply.specs.declared.Value.{Value}

abbrev pub found_in : Answer → ℕ
found_in a = (shown a).found

abbrev pub value_in : Answer → ℕ
value_in a = (shown a).value

-- a call that answers nothing but whether it was refused
abbrev pub done_of : Reply → Done
done_of q = record { number = q.number }

-- a call that answers a number
abbrev pub value_of : Reply → Value
value_of q = record { number = q.number; found = found_in q.answer; value = value_in q.answer }

-- a refusal, and an answer that there is
abbrev pub refused_by : ℕ → Value
refused_by n = record { number = n; found = 0; value = 0 }

abbrev pub answered_by : ℕ → Value
answered_by v = record { number = 0; found = 1; value = v }

-- ---- What C is answered, by a call's result

abbrev pub done_reply : {T : Type 0} → Result T Refusal → Done
done_reply r = record { number = asked r }

abbrev pub value_reply : Result ℕ Refusal → Value
value_reply (Ok v) = answered_by v
value_reply (Err e) = refused_by (number_of e)

-- there may be no number: found is 0
abbrev pub found_reply : Result (Option ℕ) Refusal → Value
found_reply (Ok (Some v)) = answered_by v
found_reply (Ok None) = record { number = 0; found = 0; value = 0 }
found_reply (Err e) = refused_by (number_of e)

-- 1 or 0
abbrev pub test_reply : Result Bool Refusal → Value
test_reply (Ok b) = answered_by (bit b)
test_reply (Err e) = refused_by (number_of e)
