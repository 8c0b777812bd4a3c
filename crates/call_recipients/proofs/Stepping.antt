-- What one offer leaves to the recipients behind it. Assumes nothing.
use Prim.Native.Nat.{ℕ, zero, suc, ◌+◌, ◌-◌, ◌*◌, ◌≤◌, ◌<◌}
use mathlib.Core.Path.{◌≡◌, refl, sym, ap, subst, ◌∙◌}
use mathlib.Core.Bool.{Bool, true, false, cond}
use mathlib.Core.List.{List, [], ◌∷◌, ◌++◌}
use native.Mathlib.Omega.{arith}
use native.Mathlib.Nat.{add-zero}
use lib.Dec.{ltb}
use lib.ListN.{length, get_or, set, drop}
use lib.Seq.{get_or-set_other, get_or-drop}
use Rattle.table_rows.specs.Rows.{keep, pick}
use Rattle.table_rows.specs.Lists.{up_to}
use Rattle.table_rows.proofs.Lists.{up_to_same}
use Rattle.table_rows.proofs.Rows.{length_rows}
use Rattle.table_ring.specs.Ring.{push}
use Rattle.table_rings.specs.Rings.{slots, number_of, none}
use Rattle.fault_rules.specs.Rules.{rule_width, first_rule}
use Rattle.fault_decide.proofs.Held.{decide_words}
use Rattle.spec_network.specs.Opening.{Opening, link}
use Rattle.spec_network.specs.Live.{Live, Carried, ids_at}
use Rattle.spec_network.specs.Tables.{cell, Tables, live, sizes_at, settings_at, rules_at}
use Rattle.spec_network.specs.Real.{draws_of, fault_key_of, opening_at}
use Rattle.spec_network.specs.Layout.{table}
use Rattle.spec_network.specs.Accept.{Message, Drawn, drawn, context, carried_of, Fate, deduplicated, partition, loss, fault, sent, copies, remembered, effect}
use Rattle.spec_book.proofs.Echoing.{drawn_few}
use Rattle.spec_book.proofs.Fitting.{few_copies, length_insert_all}
use Rattle.call_recipients.specs.Turning.{rest}

-- ---- The list of those that are left

module _ (q : ℕ → Bool) (n to : ℕ) where
  unroll : to < n → up_to (n - to) (λ k. to + k) ≡ to ∷ up_to (n - (to + 1)) (λ k. to + 1 + k)
  unroll h =
      let e : n - to ≡ suc (n - (to + 1)) = omega arith in
      ap (λ (k : ℕ). up_to k (λ i. to + i)) e
      ∙ (λ j. add-zero to j ∷ up_to_same (n - (to + 1)) (λ k. to + 1 + k) (λ k. to + suc k) (λ k l. omega arith) j)

  pub rest_on : to < n → q to ≡ true → rest q n to ≡ to ∷ rest q n (to + 1)
  rest_on h e = ap (keep q) (unroll h) ∙ ap (λ (b : Bool). pick b (to ∷ rest q n (to + 1)) (rest q n (to + 1))) e

  pub rest_off : to < n → q to ≡ false → rest q n to ≡ rest q n (to + 1)
  rest_off h e = ap (keep q) (unroll h) ∙ ap (λ (b : Bool). pick b (to ∷ rest q n (to + 1)) (rest q n (to + 1))) e

  pub rest_end : n ≤ to → rest q n to ≡ []
  rest_end h = let e : n - to ≡ 0 = omega arith in ap (λ (k : ℕ). keep q (up_to k (λ i. to + i))) e

-- ---- A ring with one entry more

module _ {A : Type 0} (P : A → Type 0) (d : A) where
  behind : (l : List A) (a : A) → ((k : ℕ) → P (get_or l k d)) → P a → (k : ℕ) → P (get_or (l ++ (a ∷ [])) k d)
  behind [] a h p zero = p
  behind [] a h p (suc k) = h 0
  behind (x ∷ l) a h p zero = h 0
  behind (x ∷ l) a h p (suc k) = behind l a (λ i. h (suc i)) p k

  pub pushed_each : (n : ℕ) (l : List A) (a : A) → ((k : ℕ) → P (get_or l k d)) → P a → (k : ℕ) → P (get_or (push n l a) k d)
  pushed_each n l a h p k = go (ltb (length l) n)
    where
      go : (b : Bool) → P (get_or (cond b (l ++ (a ∷ [])) (drop 1 (l ++ (a ∷ [])))) k d)
      go true = behind l a h p k
      go false = subst P (sym (get_or-drop 1 (l ++ (a ∷ [])) k d)) (behind l a h p (1 + k))

set_any : {A : Type 0} (P : A → Type 0) (d x : A) (l : List A) (at r : ℕ) → P (get_or l r d) → P x → P (get_or (set l at x) r d)
set_any P d x [] at r p q = p
set_any P d x (a ∷ l) zero zero p q = q
set_any P d x (a ∷ l) zero (suc r) p q = p
set_any P d x (a ∷ l) (suc at) zero p q = p
set_any P d x (a ∷ l) (suc at) (suc r) p q = set_any P d x l at r p q

-- ---- One offer

pub record Step (o : Opening) (m : Message) (s s' : Live) (t : ℕ) : Type 0 where
  pub words : (u : ℕ) → (u ≡ t → ⊥) → get_or s'.words (link m.from u) 0 ≡ get_or s.words (link m.from u) 0
  pub seen : (u : ℕ) → (u ≡ t → ⊥) → ids_at s' u ≡ ids_at s u
  pub sequence : s'.queue.sequence ≤ s.queue.sequence + 3
  pub waiting : length s'.queue.waiting ≤ length s.queue.waiting + 3
  pub near : (W : ℕ) → m.wire ≤ W → ((r k : ℕ) → (get_or (get_or s.rings r []) k none).wire ≤ W) → (r k : ℕ) → (get_or (get_or s'.rings r []) k none).wire ≤ W

abbrev wires : ℕ → Carried → Type 0
wires W c = c.wire ≤ W

module _ (o : Opening) (m : Message) (s : Live) (t : ℕ) where
  abbrev d : Drawn
  d = drawn o m t s

  other_link : (u n : ℕ) → (u ≡ t → ⊥) → get_or (set s.words (link m.from t) n) (link m.from u) 0 ≡ get_or s.words (link m.from u) 0
  other_link u n h = get_or-set_other s.words (link m.from t) (link m.from u) n 0 (λ e. h (omega arith))

  ring_near_lem : (W : ℕ) → m.wire ≤ W → ((r k : ℕ) → (get_or (get_or s.rings r []) k none).wire ≤ W) → (r k : ℕ) → (get_or (get_or (remembered o m s) r []) k none).wire ≤ W
  ring_near_lem W w h r k = go o.draws.echoing
    where
      at : ℕ
      at = number_of m.kind m.scope

      more : List Carried
      more = push slots (get_or s.rings at []) (carried_of m)

      go : (b : Bool) → (get_or (get_or (cond b (set s.rings at more) s.rings) r []) k none).wire ≤ W
      go true = set_any (λ (l : List Carried). (get_or l k none).wire ≤ W) [] more s.rings at r (h r k) (pushed_each (wires W) none slots (get_or s.rings at []) (carried_of m) (h at) w k)
      go false = h r k

  pub stepped : (c : Fate) → Step o m s (effect o m c s d t) t
  stepped deduplicated = record { words = λ u h. refl; seen = λ u h. refl; sequence = omega arith; waiting = omega arith; near = λ W w h. h }
  stepped partition = record { words = λ u h. refl; seen = λ u h. refl; sequence = omega arith; waiting = omega arith; near = λ W w h. h }
  stepped loss = record { words = λ u h. other_link u _ h; seen = λ u h. refl; sequence = omega arith; waiting = omega arith; near = λ W w h. h }
  stepped fault = record { words = λ u h. other_link u _ h; seen = λ u h. refl; sequence = omega arith; waiting = omega arith; near = λ W w h. h }
  stepped sent =
      let few = few_copies o m s d t (drawn_few o m t s) in
      record {
        words = λ u h. other_link u _ h;
        seen = λ u h. get_or-set_other s.seen t u _ [] h;
        sequence = omega arith;
        waiting = omega (arith, length_insert_all table (copies o m s d t) s.queue.waiting);
        near = ring_near_lem;
      }

-- the fault stream's words
module _ (T : Tables) (m : Message) (t : ℕ) where
  abbrev held : Live
  held = live (sizes_at T.setup) T

  verdict_few : (drawn (opening_at T) m t held).verdict.words ≤ held.engine.words + 2 * cell T.net rules_at
  unfolding drawn draws_of
  verdict_few =
      let long : length held.engine.rules ≡ cell T.net rules_at = length_rows rule_width first_rule (cell T.net rules_at) T.rules in
      omega (arith, decide_words (fault_key_of (settings_at T.setup).fault_key) (context (opening_at T) m t) held.engine.rules held.engine.words)

  pub decided : (c : Fate) → (effect (opening_at T) m c held (drawn (opening_at T) m t held) t).engine.words ≤ held.engine.words + 2 * cell T.net rules_at
  decided deduplicated = omega arith
  decided partition = omega arith
  decided loss = omega arith
  decided fault = verdict_few
  decided sent = verdict_few
