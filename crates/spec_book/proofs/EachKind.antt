-- Calls by kind: a quiet call shows no rows, drops or counts, leaves waiting and log as they are, and is asked the same whatever its room. What holds of every call's copies goes by `each-kind`.
use mathlib.Core.Path.{◌≡◌, refl}
use Prim.Native.Nat.{ℕ}
use mathlib.Core.Bool.{true, false}
use mathlib.Core.List.{List, [], ◌∷◌}
use Rattle.table_waiting.specs.declared.Copy.{Copy}
use Rattle.spec_network.specs.Opening.{Opening}
use Rattle.spec_network.specs.Layout.{Layout}
use Rattle.spec_network.specs.Live.{LiveBy}
use Rattle.spec_network.specs.Accept.{Entry, no_counts}
use Rattle.spec_network.specs.Questions.{Room, alone, asked_in}
use Rattle.spec_network.specs.Calls.{Reading, is_blocked, transit, fired, is_down, next_time, tally_of, waiting_copies, marks_of, read, first_time}
use Rattle.spec_network.specs.Calls.{Answer, silent, number, rows_in, delivered_in, drops_in, counts_in, live_step, answer_of, kind_of, quiet}
use Rattle.spec_network.specs.Calls.{Call, accept, flush, take_down, bring_up, handlers, block, block_during, unblock, install, remove, decide, drain, reading}

-- an answer without rows, drops and counts
pub record Bare (a : Answer) : Type 0 where
  pub rows : rows_in a ≡ []
  pub drops : drops_in a ≡ 0
  pub delivered : delivered_in a ≡ 0
  pub counts : counts_in a ≡ no_counts

bare_silent : Bare silent
bare_silent = record { rows = refl; drops = refl; delivered = refl; counts = refl }

bare_number : (found value : ℕ) → Bare (number found value)
bare_number found value = record { rows = refl; drops = refl; delivered = refl; counts = refl }

bare_first : (w : List Copy) → Bare (first_time w)
bare_first [] = bare_number 0 0
bare_first (c ∷ w) = bare_number 1 _

module _ {k : Layout} (s : LiveBy k) where
  bare_reading : (r : Reading) → Bare (read s r)
  bare_reading (is_blocked from to now) = bare_number 1 _
  bare_reading (transit t) = bare_number 1 _
  bare_reading (fired id) = bare_number _ _
  bare_reading (is_down t) = bare_number 1 _
  bare_reading next_time = bare_first s.queue.waiting
  bare_reading (tally_of class) = record { rows = refl; drops = refl; delivered = refl; counts = refl }
  bare_reading (waiting_copies rows) = record { rows = refl; drops = refl; delivered = refl; counts = refl }
  bare_reading (marks_of t places) = record { rows = refl; drops = refl; delivered = refl; counts = refl }

module _ {k : Layout} (o : Opening) (s : LiveBy k) where
  pub record Idle (c : Call) : Type 0 where
    pub kind : kind_of c ≡ quiet
    pub answer : Bare (answer_of o s c)
    pub log : (live_step o s c).log ≡ s.log
    pub waiting : (live_step o s c).queue.waiting ≡ s.queue.waiting
    pub questions : (room : Room) → asked_in o room s c ≡ asked_in o alone s c

  -- what holds of the four kinds, and of every quiet call, holds of each call
  module _ (P : Call → Type 0) (accepts : (e : Entry) → P (accept e true)) (flushes : (now rows : ℕ) → P (flush now rows)) (downs : (t : ℕ) → P (take_down t))
      (drains : (rows : ℕ) → P (drain rows)) (idles : (c : Call) → Idle c → P c) where
    pub each_kind : (c : Call) → P c
    each_kind (accept e true) = accepts e
    each_kind (accept e false) =
        idles (accept e false) (record { kind = refl; answer = record { rows = refl; drops = refl; delivered = refl; counts = refl }; log = refl; waiting = refl; questions = λ room. refl })
    each_kind (flush now rows) = flushes now rows
    each_kind (take_down t) = downs t
    each_kind (bring_up t shards) = idles (bring_up t shards) (record { kind = refl; answer = bare_silent; log = refl; waiting = refl; questions = λ room. refl })
    each_kind (handlers t gossip host) = idles (handlers t gossip host) (record { kind = refl; answer = bare_silent; log = refl; waiting = refl; questions = λ room. refl })
    each_kind (block from to) = idles (block from to) (record { kind = refl; answer = bare_silent; log = refl; waiting = refl; questions = λ room. refl })
    each_kind (block_during from to start end) =
        idles (block_during from to start end) (record { kind = refl; answer = bare_silent; log = refl; waiting = refl; questions = λ room. refl })
    each_kind (unblock from to) = idles (unblock from to) (record { kind = refl; answer = bare_silent; log = refl; waiting = refl; questions = λ room. refl })
    each_kind (install card) = idles (install card) (record { kind = refl; answer = bare_number 1 _; log = refl; waiting = refl; questions = λ room. refl })
    each_kind (remove id) = idles (remove id) (record { kind = refl; answer = bare_reading s (fired id); log = refl; waiting = refl; questions = λ room. refl })
    each_kind (decide x) = idles (decide x) (record { kind = refl; answer = bare_number 1 _; log = refl; waiting = refl; questions = λ room. refl })
    each_kind (drain rows) = drains rows
    each_kind (reading r) = idles (reading r) (record { kind = refl; answer = bare_reading s r; log = refl; waiting = refl; questions = λ room. refl })
