-- Document 01, 'Agreed between us': THE FORM of every contract. A call, lent these tables, gives this reply and leaves those tables, whatever they hold;
-- `shape` is the reply as the code gives it.
use Rattle.std.specs.Prelude.{◌≡◌, List, ℕ}
use Rattle.spec_network.specs.Opening.{Settings}
use Rattle.spec_network.specs.Calls.{Call}
use Rattle.spec_network.specs.Tables.{Tables}
use Rattle.spec_network.specs.Writes.{Reply, call_tables, call_reply, call_output}
use Rattle.spec_network.specs.Open.{open_number, open_call}

abbrev pub Does : {R : Type 0} → (shape : Reply → R) → (before after : Tables) → Call → (reply : R) → Type 0
Does shape before after call reply = (reply ≡ shape (call_reply before call)) × (call_tables before call ≡ after)

-- with an output
abbrev pub DoesOut : {R : Type 0} → (shape : Reply → R) → (before after : Tables) → Call → (reply : R) → (out out' : List ℕ) → Type 0
DoesOut shape before after call reply out out' =
    (reply ≡ shape (call_reply before call)) × (call_tables before call ≡ after) × (out' ≡ call_output before call out)

-- an opening: the number of the first question whose answer is "no", or 0
abbrev pub Opens : {R : Type 0} → (shape : ℕ → R) → (before after : Tables) → Settings → (masks : List ℕ) → (reply : R) → Type 0
Opens shape before after x masks reply = (reply ≡ shape (open_number x masks before)) × (open_call x masks before ≡ after)
