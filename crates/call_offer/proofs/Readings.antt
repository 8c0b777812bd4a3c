-- What is read of one till: whether it is selected, stopped, marked. Assumes nothing.
use Prim.Native.Nat.{ℕ, ◌+◌, ◌*◌, ◌≤◌, ◌<◌}
use mathlib.Core.Path.{◌≡◌, refl, sym, ap, ◌∙◌}
use mathlib.Core.Bool.{Bool, true, false, not, ◌&&◌, ◌||◌}
use mathlib.Core.List.{List, []}
use native.Mathlib.Omega.{arith}
use native.Mathlib.Nat.{mul-le-mul_right, suc-mul, add-zero}
use lib.Dec.{eqb}
use lib.Ieee.{Float, lt}
use lib.ListN.{drop}
use lib.Seq.{get_or-drop}
use borrow.Author.Tests.{eq-eqb, ne_eqb}
use Rattle.table_rows.proofs.Lists.{get_d_up_to}
use Rattle.table_rows.proofs.Table.{row_at}
use Rattle.table_marks.specs.Marks.{found, ids_of}
use Rattle.table_rings.specs.Rings.{entries, number_of, scopes}
use Rattle.fault_blocks.specs.Blocks.{blocked, blocks_of}
use Rattle.fault_rule.specs.Rule.{has}
use Rattle.spec_network.specs.Lists.{bit_at}
use Rattle.math_float.specs.Float.{zero64}
use Rattle.spec_network.specs.Limits.{rate_of}
use Rattle.spec_network.specs.Opening.{Sizes, Settings, global}
use Rattle.spec_network.specs.Live.{Live, Till, down_till, till_at, is_up, marked, stopped, rings_of}
use Rattle.spec_network.specs.Accept.{Message, receives, ring_for}
use Rattle.spec_network.specs.Tables.{cell, Tables, live, sizes_at, till_form, ids_start, blocks_at}
use Rattle.ask_tables.specs.declared.Till as row
use Rattle.ask_tables.specs.TillRow.{form}
use Rattle.call_stopped.specs.Stopped.{up_at}
use Rattle.call_offer.specs.Offering.{selects_at, stopped_at, echoing_at}

-- ---- Tests

pub and_off : (b : Bool) → false ≡ (b && false)
and_off true = refl
and_off false = refl

and_on : (b : Bool) → (b && true) ≡ b
and_on true = refl
and_on false = refl

module _ (tills : List ℕ) (scope from t : ℕ) where
  abbrev hosts : Bool
  hosts = bit_at (cell tills (t * till_form.width + 3)) scope

  pub own : t ≡ from → false ≡ selects_at tills scope from t
  own h = and_off (eqb scope global || hosts) ∙ ap (λ (b : Bool). (eqb scope global || hosts) && not b) (sym (eq-eqb t from h))

  pub everywhere : (t ≡ from → ⊥) → scope ≡ global → true ≡ selects_at tills scope from t
  everywhere h k = (λ j. (sym (eq-eqb scope global k) j || hosts) && not (sym (ne_eqb t from h) j))

  pub hosted : (t ≡ from → ⊥) → (scope ≡ global → ⊥) → (x : row.Till) → x ≡ form.read (drop (t * till_form.width) tills)
      → (b : Bool) → b ≡ has x.shards scope → b ≡ selects_at tills scope from t
  unfolding has
  hosted h k x e b q =
      q ∙ ap (λ (y : row.Till). has y.shards scope) e ∙ ap (λ (n : ℕ). has n scope) (get_or-drop (t * till_form.width) tills 3 0)
      ∙ sym (and_on hosts) ∙ (λ j. (sym (ne_eqb scope global k) j || hosts) && not (sym (ne_eqb t from h) j))

-- a till's marks lie in the table
pub marks_in_lem : (t n k : ℕ) → t < n → n + t * k + k ≤ n + n * k
marks_in_lem t n k h = let a : (t + 1) * k ≤ n * k = mul-le-mul_right k (omega arith) in omega (arith, suc-mul t k)

-- a message's ring is one of the rings
pub ring_below : (z : Sizes) (kind scope : ℕ) → kind < z.types → scope ≤ global → number_of kind scope < rings_of z
ring_below z kind scope k c = let a : (kind + 1) * scopes ≤ z.types * scopes = mul-le-mul_right scopes (omega arith) in omega (arith, suc-mul kind scopes)

-- either echo rate is above 0
pub first_rate : (x : Settings) (f : Float) → f ≡ rate_of x.config.duplicate → lt zero64 f ≡ true → true ≡ echoing_at x
first_rate x f e h = (λ j. (sym h ∙ ap (lt zero64) e) j || lt zero64 (rate_of x.config.replay))

pub second_rate : (x : Settings) (f g : Float) → f ≡ rate_of x.config.duplicate → lt zero64 f ≡ false → g ≡ rate_of x.config.replay → lt zero64 g ≡ echoing_at x
second_rate x f g e h k = (λ j. (sym h ∙ ap (lt zero64) e) j || lt zero64 (k j))

-- ---- What the tables hold

module _ (T : Tables) where
  abbrev s : Live
  s = live (sizes_at T.setup) T

  abbrev n : ℕ
  n = (sizes_at T.setup).tills

  pub marked_is : (t id : ℕ) → t < n → marked s t id ≡ found id (ids_of T.seen (ids_start (sizes_at T.setup) t) (cell T.seen t))
  marked_is t id h = ap (found id) (get_d_up_to n (λ (k : ℕ). ids_of T.seen (ids_start (sizes_at T.setup) k) (cell T.seen k)) t [] h)

  till_is : (t : ℕ) → t < n → till_at s t ≡ till_form.read (drop (t * till_form.width) T.tills)
  till_is t h = row_at till_form T.tills n t down_till h

  pub up_is : (t : ℕ) → t < n → is_up s t ≡ up_at T.tills t
  up_is t h =
      ap (λ (x : Till). not (eqb x.up 0)) (till_is t h)
      ∙ ap (λ (x : ℕ). not (eqb x 0)) (get_or-drop (t * till_form.width) T.tills 0 0 ∙ ap (cell T.tills) (add-zero (t * till_form.width)))

  pub stopped_is : (from to at : ℕ) → from < n → to < n → stopped s from to at ≡ stopped_at T.net T.tills T.blocks from to at
  stopped_is from to at f h = (λ j. not (up_is from f j) || not (up_is to h j) || blocked from to at (blocks_of T.blocks (cell T.net blocks_at)))

  pub selects_is : (scope from t : ℕ) → t < n → (receives s scope t && not (eqb t from)) ≡ selects_at T.tills scope from t
  selects_is scope from t h =
      ap (λ (x : ℕ). (eqb scope global || bit_at x scope) && not (eqb t from)) (ap (λ (x : Till). x.shards) (till_is t h) ∙ get_or-drop (t * till_form.width) T.tills 3 0)

  pub ring_is : (m : Message) → number_of m.kind m.scope < rings_of (sizes_at T.setup) → ring_for s m ≡ entries (rings_of (sizes_at T.setup)) T.rings (number_of m.kind m.scope)
  ring_is m h = get_d_up_to (rings_of (sizes_at T.setup)) (entries (rings_of (sizes_at T.setup)) T.rings) (number_of m.kind m.scope) [] h
