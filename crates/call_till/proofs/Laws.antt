-- What the questions passed say of the tables, and the small laws of the workers. Assumes nothing.
use mathlib.Core.Path.{◌≡◌, ap, ◌∙◌}
use mathlib.Core.Bool.{true, cond}
use mathlib.Core.List.{List, [], ◌++◌}
use Prim.Native.Nat.{ℕ, ◌+◌, ◌*◌, ◌≤◌, ◌<◌}
use native.Mathlib.Nat.{add-zero, add-mul, mul-le-mul, mul-le-mul_right}
use native.Mathlib.Omega.{arith}
use lib.Dec.{ltb}
use lib.ListN.{length, take, drop, take-append-drop}
use borrow.Author.Tests.{leb-true, ltb-true}
use Rattle.table_shift.specs.Shift.{put_words}
use Rattle.spec_network.specs.Opening.{most_tills, most_slots}
use Rattle.spec_network.specs.Tables.{cell, sizes_at, setup_width, till_form, ids_start}
use Rattle.ask_tables.proofs.Ladder.{under, both, only}
use Rattle.ask_tables.proofs.Passed.{PassedSetup, setup_says_lem}
use Rattle.ask_tables.proofs.PassedRows.{PassedTills, PassedSeen, tills_say_lem, seen_says_lem}
use Rattle.ask_till.specs.Questions.{tills_lent, seen_lent, both_lent, down_number, read_number, up_number, handlers_number, marks_number}

-- ---- What passed questions say

-- a till that exists, and its row
pub record Room (s a : List ℕ) (t : ℕ) : Type 0 where
  pub most : (sizes_at s).tills ≤ most_tills
  pub size : length a ≡ (sizes_at s).tills * till_form.width
  pub there : t < (sizes_at s).tills

module _ (s a : List ℕ) (t : ℕ) where
  room : PassedSetup s → PassedTills s a → ltb t (sizes_at s).tills ≡ true → Room s a t
  room p q h = record { most = p.sizes.tills; size = q.size; there = ltb-true _ _ h }

  by_tills : (rest : ℕ) → cond (tills_lent s a) (cond (ltb t (sizes_at s).tills) rest 4) 1 ≡ 0 → Room s a t
  unfolding tills_lent
  by_tills rest h =
      let x = under _ _ 0 h in
      let y = under _ _ 3 x.1 in
      let z = both _ _ x.0 in
      room (setup_says_lem s z.0) (tills_say_lem s a (only _ z.1)) y.0

  pub read_room : read_number s a t ≡ 0 → Room s a t
  unfolding read_number
  read_room h = by_tills _ h

  pub up_room : (shards : ℕ) → up_number s a t shards ≡ 0 → Room s a t
  unfolding up_number
  up_room shards h = by_tills _ h

  pub handlers_room : (gossip host : ℕ) → handlers_number s a t gossip host ≡ 0 → Room s a t
  unfolding handlers_number
  handlers_room gossip host h = by_tills _ h

  pub down_room : (m : List ℕ) → down_number s a m t ≡ 0 → Room s a t
  unfolding down_number both_lent
  down_room m h =
      let x = under _ _ 0 h in
      let y = under _ _ 3 x.1 in
      let z = both _ _ x.0 in
      room (setup_says_lem s z.0) (tills_say_lem s a (both _ _ z.1).0) y.0

-- a till's marks, and the output's places
pub record MarksRoom (s m : List ℕ) (places t : ℕ) : Type 0 where
  pub wide : length s ≡ setup_width
  pub most : (sizes_at s).tills ≤ most_tills
  pub slots : (sizes_at s).seen_slots ≤ most_slots
  pub there : t < (sizes_at s).tills
  pub before : t * (sizes_at s).seen_slots ≤ most_tills * most_slots
  pub end : ids_start (sizes_at s) t + cell m t ≤ length m
  pub out : cell m t ≤ places
  pub row : t < length m

pub marks_room : (s m : List ℕ) (places t : ℕ) → marks_number s m places t ≡ 0 → MarksRoom s m places t
unfolding marks_number seen_lent
marks_room s m places t h =
    let x = under _ _ 0 h in
    let y = under _ _ 0 x.1 in
    let w = under _ _ 3 y.1 in
    let z = both _ _ x.0 in
    let p : PassedSetup s = setup_says_lem s z.0 in
    let q : PassedSeen s m = seen_says_lem s m (only _ z.1) in
    let n = (sizes_at s).tills in
    let k = (sizes_at s).seen_slots in
    let there : t < n = ltb-true _ _ w.0 in
    let c : cell m t ≤ k = q.counts t there in
    let o : k ≤ places = leb-true _ _ y.0 in
    let size : length m ≡ n + n * k = q.size in
    let b : t * k + 1 * k ≤ n * k = (let e = add-mul t 1 k in let u : (t + 1) * k ≤ n * k = mul-le-mul_right k (omega arith) in omega arith) in
    let u : t * k ≤ most_tills * most_slots = (let tt : t ≤ most_tills = omega (arith, p.sizes.tills) in mul-le-mul tt p.sizes.seen_slots) in
    record { wide = p.size; most = p.sizes.tills; slots = p.sizes.seen_slots; there = there; before = u; end = omega arith; out = omega arith; row = omega arith }

-- ---- Workers

-- no words put at b
pub put_none : (ws : List ℕ) (b : ℕ) → put_words ws b [] ≡ ws
unfolding put_words
put_none ws b = ap (λ (k : ℕ). take b ws ++ drop k ws) (add-zero b) ∙ take-append-drop b ws
