-- The replay draw and the echoes with their latencies. Assumes nothing.
use Prim.Native.Nat.{ℕ, zero, suc, ◌+◌, ◌≤◌, ◌<◌}
use mathlib.Core.Path.{◌≡◌, refl, sym, ap, subst, ◌∙◌}
use Rattle.std.specs.Prelude.{Option, Some, None, IfSome}
use Rattle.std.specs.Bool.{then_some}
use mathlib.Core.Bool.{Bool, true, false, cond, not, ◌&&◌}
use mathlib.Core.List.{List, [], ◌∷◌, ◌++◌}
use native.Mathlib.Omega.{arith}
use lib.ListN.{length, get_or}
use Rattle.rand_streams.specs.declared.Cursor.{Cursor}
use Rattle.rand_draw.specs.Draw.{whole32_at, words32_at}
use Rattle.table_ring.specs.Ring.{ring_from, slot_at, first_at}
use Rattle.table_ring.proofs.Laws.{length_from}
use Rattle.table_rings.specs.Rings.{form, slots, none, entries, entry_of, head_of, base_of, count_of, SoundRing}
use Rattle.table_rings.proofs.Laws.{get_oldest}
use Rattle.link_draws.specs.Drawing.{Struck, Picked, delay_draw}
use Rattle.spec_network.specs.Opening.{Draw, Opening, Settings, longest_wire}
use Rattle.spec_network.specs.Live.{Carried}
use Rattle.spec_network.specs.Real.{chance}
use Rattle.spec_network.specs.Accept as accept
use Rattle.spec_network.specs.Accept.{Message, duplicate_of, replay_of, carried_of, is_empty, timed, replayed, echoed, echoes_of}
use Rattle.call_offer.specs.declared.Echo.{Echo}
use Rattle.call_offer.specs.Offering.{echoing_at, keyed, whats_in, echo_by, words_by, Timed, Replays, timed_as, Echoed}
use Rattle.call_offer.proofs.Readings.{and_off}

-- ---- What is echoed

-- what is echoed may be sent: the message itself, and an entry of the ring
pub double_sent : (P : ℕ → Type 0) (hit : Bool) (e : Carried) (m : Message) {d : Option Carried} → d ≡ then_some hit e → e ≡ carried_of m → P m.wire → IfSome d (λ q. P q.wire)
double_sent P hit e m q s h = subst (λ (o : Option Carried). IfSome o (λ c. P c.wire)) (sym q) (go hit)
  where
    go : (b : Bool) → IfSome (then_some b e) (λ c. P c.wire)
    go true = subst (λ (c : Carried). P c.wire) (sym s) h
    go false = tt

pub old_sent : (P : ℕ → Type 0) (d : Option Carried) → IfSome d (λ e. e.wire ≤ longest_wire) → ((n : ℕ) → n ≤ longest_wire → P n) → IfSome d (λ e. P e.wire)
old_sent P (Some e) h f = f e.wire h
old_sent P None h f = tt

-- ---- The replay draw

any : {A : Type 0} (l : List A) (k : ℕ) (a b : A) → k < length l → get_or l k a ≡ get_or l k b
any [] k a b h = absurd (omega arith)
any (x ∷ l) zero a b h = refl
any (x ∷ l) (suc k) a b h = any l k a b (omega arith)

some_left : {A : Type 0} (at : ℕ → A) (m first n : ℕ) → (n ≡ 0 → ⊥) → is_empty (ring_from at m first 0 n) ≡ false
some_left at m first zero h = absurd (h refl)
some_left at m first (suc n) h = refl

module _ (x : Settings) (prices : List ℕ) (m : Message) (t many : ℕ) (rings : List ℕ) (ring : ℕ) (c : Cursor) (hit : Bool) (after : Cursor) (s : Struck x.config.replay c hit after) where
  abbrev o : Opening
  o = keyed x prices c.key

  abbrev held : List Carried
  held = entries many rings ring

  abbrev hits : Draw Bool
  hits = chance c.key x.config.replay c.count

  abbrev at : Draw ℕ
  at = o.draws.index m.from t (length held) hits.words

  abbrev yes : Draw (List accept.Echoed)
  yes = record { value = replay_of (get_or held at.value (carried_of m)) ∷ []; words = at.words }

  abbrev nothing : Draw (List accept.Echoed)
  nothing = record { value = []; words = hits.words }

  unplayed : (hits.value && not (is_empty held)) ≡ false → Replays (replayed o m t held c.count) c None after
  unplayed e =
      let d : nothing ≡ replayed o m t held c.count = ap (λ (b : Bool). cond b yes nothing) (sym e) in
      record {
        is = ap (λ (q : Draw (List accept.Echoed)). q.value) d;
        words = s.words ∙ ap (λ (q : Draw (List accept.Echoed)). q.words) d;
        key = s.key;
        few = omega (arith, s.few);
        short = tt;
      }

  pub missed : hit ≡ false → Replays (replayed o m t held c.count) c None after
  missed e = unplayed (ap (λ (q : Bool). q && not (is_empty held)) (sym s.hits ∙ e))

  pub empty : (n g : ℕ) → g ≡ ring → n ≡ count_of rings g → n ≡ 0 → Replays (replayed o m t held c.count) c None after
  empty n g i p z =
      let none_left : is_empty held ≡ true =
      ap (λ (k : ℕ). is_empty (ring_from (slot_at form slots (head_of ring) (base_of many ring) rings) slots (first_at (head_of ring) rings) 0 k)) (ap (count_of rings) (sym i) ∙ sym p ∙ z) in
      unplayed (ap (λ (q : Bool). hits.value && not q) none_left ∙ sym (and_off hits.value))

  pub played : hit ≡ true → (n g : ℕ) → g ≡ ring → n ≡ count_of rings g → (n ≡ 0 → ⊥) → (i : ℕ) (next : Cursor) → Picked n after i next → SoundRing rings ring →
      (old : Carried) → old ≡ entry_of many rings g i
      → old.wire ≤ longest_wire → Replays (replayed o m t held c.count) c (Some old) next
  played e n g j₀ p₀ z i next k sound old q₀ w =
      let p : n ≡ count_of rings ring = p₀ ∙ ap (count_of rings) j₀ in
      let q : old ≡ entry_of many rings ring i = q₀ ∙ ap (λ (j : ℕ). entry_of many rings j i) j₀ in
      let long : length held ≡ n = length_from (slot_at form slots (head_of ring) (base_of many ring) rings) slots (first_at (head_of ring) rings) 0 (count_of rings ring) ∙ sym p in
      let full : (hits.value && not (is_empty held)) ≡ true =
      (λ j. (sym s.hits ∙ e) j && not (some_left (slot_at form slots (head_of ring) (base_of many ring) rings) slots (first_at (head_of ring) rings) (count_of rings ring) (λ u. z (p ∙ u)) j)) in
      let v : i ≡ at.value = k.is ∙ (λ j. whole32_at (s.key j) (s.words j) (sym long j)) in
      let u : next.count ≡ at.words = k.words ∙ (λ j. s.words j + words32_at (s.key j) (s.words j) (sym long j)) in
      let is : old ≡ get_or held at.value (carried_of m) = q ∙ get_oldest many rings ring i sound ∙ any held i none (carried_of m) (omega (arith, k.below, long)) ∙
      ap (λ (i : ℕ). get_or held i (carried_of m)) v in
      let r : yes ≡ replayed o m t held c.count = ap (λ (b : Bool). cond b yes nothing) (sym full) in
      record {
        is = ap (λ (y : Carried). replay_of y ∷ []) is ∙ ap (λ (y : Draw (List accept.Echoed)). y.value) r;
        words = u ∙ ap (λ (y : Draw (List accept.Echoed)). y.words) r;
        key = k.key ∙ s.key;
        few = omega (arith, k.few, s.few);
        short = w;
      }

-- ---- The echoes

append_nil : {A : Type 0} (l : List A) → l ++ [] ≡ l
append_nil [] = refl
append_nil (x ∷ l) = ap (λ q. x ∷ q) (append_nil l)

module _ (x : Settings) (prices key : List ℕ) (m : Message) (t : ℕ) where
  abbrev O : Opening
  O = keyed x prices key

  abbrev draw_at : ℕ → Carried → Draw ℕ
  draw_at w c = delay_draw x prices m.from t c.wire key w

  -- an echo that may not be there, and what is timed behind it
  timed_step : (what : Carried → accept.Echoed) → ((c : Carried) → (what c).carried ≡ c) → (e : Option Carried) (w : ℕ) (rest : List accept.Echoed) (a : Option Echo) (wa : ℕ)
      → a ≡ echo_by e (λ c. (draw_at w c).value) → wa ≡ words_by e (λ c. (draw_at w c).words) w
      → timed O m t w (whats_in what e ++ rest) ≡ record { all = timed_as what a ++ (timed O m t wa rest).all; words = (timed O m t wa rest).words }
  timed_step what same None w rest a wa p q = (λ j. record { all = timed_as what (sym p j) ++ (timed O m t (sym q j) rest).all; words = (timed O m t (sym q j) rest).words })
  timed_step what same (Some c) w rest a wa p q =
      (λ j. record {
        all = record { what = what c; latency = (draw_at w (same c j)).value } ∷ (timed O m t (draw_at w (same c j)).words rest).all;
        words = (timed O m t (draw_at w (same c j)).words rest).words;
      })
      ∙ (λ j. record { all = timed_as what (sym p j) ++ (timed O m t (sym q j) rest).all; words = (timed O m t (sym q j) rest).words })

  pub timed_is : (d old : Option Carried) (w : ℕ) (a b : Option Echo) (wa wb : ℕ)
      → a ≡ echo_by d (λ c. (draw_at w c).value) → wa ≡ words_by d (λ c. (draw_at w c).words) w
      → b ≡ echo_by old (λ c. (draw_at wa c).value) → wb ≡ words_by old (λ c. (draw_at wa c).words) wa
      → timed O m t w (whats_in duplicate_of d ++ whats_in replay_of old) ≡ record { all = timed_as duplicate_of a ++ timed_as replay_of b; words = wb }
  timed_is d old w a b wa wb p q r s =
      let last : timed O m t wa (whats_in replay_of old) ≡ record { all = timed_as replay_of b; words = wb } =
      ap (timed O m t wa) (sym (append_nil (whats_in replay_of old))) ∙ timed_step replay_of (λ c. refl) old wa [] b wb r s ∙
      ap (λ (l : List accept.Timed). record { all = l; words = wb }) (append_nil (timed_as replay_of b)) in
      timed_step duplicate_of (λ c. refl) d w (whats_in replay_of old) a wa p q ∙ ap (λ (e : accept.Echoes). record { all = timed_as duplicate_of a ++ e.all; words = e.words }) last

module _ (x : Settings) (prices : List ℕ) (m : Message) (t : ℕ) (ring : List Carried) (c : Cursor) where
  pub silent : echoing_at x ≡ false → Echoed m t (echoes_of (keyed x prices c.key) m t ring c.count) (record { duplicate = None; replay = None; words = c.count })
  silent h =
      let o : Opening = keyed x prices c.key in
      let d : echoes_of o m t ring c.count ≡ record { all = []; words = c.count } =
      ap (λ (b : Bool). cond b (timed o m t (echoed o m t ring c.count).words (echoed o m t ring c.count).value) (record { all = []; words = c.count })) h in
      record { all = ap (λ (y : accept.Echoes). y.all) d; words = ap (λ (y : accept.Echoes). y.words) d; first = tt; second = tt }

  doubles : (b : Bool) (e : Carried) → cond b (duplicate_of e ∷ []) [] ≡ whats_in duplicate_of (then_some b e)
  doubles true e = refl
  doubles false e = refl

  -- from the cursor c past the duplicate's draw (c₁), the replay's (c₂) and the two latencies (c₃, c₄)
  pub echoing_from : echoing_at x ≡ true → (hit : Bool) (c₁ : Cursor) → Struck x.config.duplicate c hit c₁ → (old : Option Carried) (c₂ : Cursor) →
      Replays (replayed (keyed x prices c₁.key) m t ring c₁.count) c₁ old c₂
      → (d : Option Carried) → d ≡ then_some hit (carried_of m) → (a b : Option Echo) (c₃ c₄ : Cursor) → Timed x prices m.from t d c₂ a c₃ → Timed x prices m.from t old c₃ b c₄
      → Echoed m t (echoes_of (keyed x prices c.key) m t ring c.count) (record { duplicate = a; replay = b; words = c₄.count })
  echoing_from h hit c₁ sd old c₂ sp d is a b c₃ c₄ sa sb =
      let o : Opening = keyed x prices c.key in
      let e : Draw (List accept.Echoed) = echoed o m t ring c.count in
      let k₂ : c₂.key ≡ c.key = sp.key ∙ sd.key in
      let k₃ : c₃.key ≡ c.key = sa.key ∙ k₂ in
      let r : Draw (List accept.Echoed) = replayed o m t ring (chance c.key x.config.duplicate c.count).words in
      let same : replayed (keyed x prices c₁.key) m t ring c₁.count ≡ r = (λ j. replayed (keyed x prices (sd.key j)) m t ring (sd.words j)) in
      let w₂ : c₂.count ≡ e.words = sp.words ∙ ap (λ (q : Draw (List accept.Echoed)). q.words) same in
      let v : e.value ≡ whats_in duplicate_of d ++ whats_in replay_of old =
      (λ j. (ap (λ (q : Bool). cond q (duplicate_of (carried_of m) ∷ []) []) (sym sd.hits) ∙ doubles hit (carried_of m) ∙ ap (whats_in duplicate_of) (sym is)) j ++
      (ap (λ (q : Draw (List accept.Echoed)). q.value) (sym same) ∙ sym sp.is) j) in
      let all : echoes_of o m t ring c.count ≡ record { all = timed_as duplicate_of a ++ timed_as replay_of b; words = c₄.count } =
      ap (λ (q : Bool). cond q (timed o m t e.words e.value) (record { all = []; words = c.count })) h
      ∙ ap (timed o m t e.words) v
      ∙ timed_is x prices c.key m t d old e.words a b c₃.count c₄.count
      (sa.is ∙ (λ j. echo_by d (λ q. (delay_draw x prices m.from t q.wire (k₂ j) (w₂ j)).value)))
      (sa.words ∙ (λ j. words_by d (λ q. (delay_draw x prices m.from t q.wire (k₂ j) (w₂ j)).words) (w₂ j)))
      (sb.is ∙ (λ j. echo_by old (λ q. (delay_draw x prices m.from t q.wire (k₃ j) c₃.count).value)))
      (sb.words ∙ (λ j. words_by old (λ q. (delay_draw x prices m.from t q.wire (k₃ j) c₃.count).words) c₃.count)) in
      record { all = ap (λ (y : accept.Echoes). y.all) all; words = ap (λ (y : accept.Echoes). y.words) all; first = sa.below; second = sb.below }
