-- The five ways out of a decision. Assumes nothing.
use Prim.Native.Nat.{ℕ}
use mathlib.Core.Path.{◌≡◌, refl, sym, ap, ◌∙◌}
use mathlib.Core.Bool.{Bool, true, false}
use Rattle.std.specs.Prelude.{Option, Some, None}
use mathlib.Core.List.{List}
use Rattle.rand_streams.specs.declared.Cursor.{Cursor}
use Rattle.link_geography.specs.Geography.{Stands}
use Rattle.fault_rules.specs.Rules.{rules_of}
use Rattle.fault_decide.specs.Decide.{Decision, decision, decide_of}
use Rattle.link_draws.specs.Drawing.{Struck, Delayed, delay_draw}
use Rattle.spec_network.specs.Opening.{Draw, Settings, link}
use Rattle.spec_network.specs.Live.{Live, Carried, marked, stopped}
use Rattle.spec_network.specs.Tables.{cell, Tables, live, sizes_at, settings_at, rules_at, fault_words_at}
use Rattle.spec_network.specs.Real.{key_of, fault_key_of, chance, draws_of, opening_at}
use Rattle.spec_network.specs.Accept as accept
use Rattle.spec_network.specs.Accept.{Drawn, drawn, context, echoes_of, ring_for, loss, fault, first_fit, fate_of}
use Rattle.call_offer.specs.declared.Echoes.{Echoes}
use Rattle.call_offer.specs.declared.Ruling.{Ruling}
use Rattle.call_offer.specs.declared.Offer.TheVariants.{Deduplicated, Partition, Loss, Fault, Sent}
use Rattle.call_offer.specs.Offering.{keyed, Echoed, decision_in, Answers}

-- ---- The draws of a recipient, read from the tables

module _ (T : Tables) (m : accept.Message) (t : ℕ) where
  abbrev s : Live
  s = live (sizes_at T.setup) T

  abbrev x : Settings
  x = settings_at T.setup

  abbrev key : List ℕ
  key = key_of x.sizes.tills T.keys m.from t

  abbrev d : Drawn
  d = drawn (opening_at T) m t s

  loss_is : d.loss ≡ chance key x.config.loss (cell T.words (link m.from t))
  unfolding drawn draws_of
  loss_is = refl

  latency_is : d.latency ≡ delay_draw x T.prices m.from t m.wire key d.loss.words
  unfolding drawn draws_of
  latency_is = refl

  verdict_is : d.verdict ≡ decide_of (fault_key_of x.fault_key) (context (opening_at T) m t) (rules_of T.rules (cell T.net rules_at)) (cell T.net fault_words_at)
  unfolding drawn draws_of
  verdict_is = refl

  echoes_by : (ring : List Carried) (w : ℕ) → echoes_of (opening_at T) m t ring w ≡ echoes_of (keyed x T.prices key) m t ring w
  unfolding draws_of
  echoes_by ring w = refl

  echoes_are : d.echoes ≡ echoes_of (opening_at T) m t (ring_for s m) d.latency.words
  unfolding drawn
  echoes_are = refl

  class_by : (a b l f : Bool) → marked s t m.id ≡ a → stopped s m.from t m.now ≡ b → d.loss.value ≡ l → d.verdict.drops ≡ f → fate_of (opening_at T) m s t ≡ first_fit a b l f
  class_by a b l f p q r u = (λ j. first_fit (p j) (q j) (r j) (u j))

  pub is_deduplicated : marked s t m.id ≡ true → Answers (opening_at T) m s t Deduplicated
  unfolding Answers
  is_deduplicated h = class_by true _ _ _ h refl refl refl

  pub is_partition : marked s t m.id ≡ false → stopped s m.from t m.now ≡ true → Answers (opening_at T) m s t Partition
  unfolding Answers
  is_partition h k = class_by false true _ _ h k refl refl

  module _ (free : marked s t m.id ≡ false) (going : stopped s m.from t m.now ≡ false) (start : Cursor) (st : Stands key (cell T.words (link m.from t)) start)
      (hit : Bool) (c₁ : Cursor) (hl : Struck x.config.loss start hit c₁) where
    loss_value : d.loss.value ≡ hit
    loss_value = ap (λ (q : Draw Bool). q.value) loss_is ∙ sym (hl.hits ∙ (λ j. (chance (st.key j) x.config.loss (st.count j)).value))

    loss_words : d.loss.words ≡ c₁.count
    loss_words = ap (λ (q : Draw Bool). q.words) loss_is ∙ sym (hl.words ∙ (λ j. (chance (st.key j) x.config.loss (st.count j)).words))

    pub is_loss : hit ≡ true → Answers (opening_at T) m s t (Loss c₁.count)
    unfolding Answers
    is_loss h = (class_by false false true _ free going (loss_value ∙ h) refl, loss_words)

    module _ (past : hit ≡ false) (latency : ℕ) (c₂ : Cursor) (ha : Delayed x T.prices m.from t m.wire c₁ latency c₂)
        (v : Ruling) (hv : decision_in (cell T.net rules_at) v ≡ decide_of (fault_key_of x.fault_key) (context (opening_at T) m t)
        (rules_of T.rules (cell T.net rules_at)) (cell T.net fault_words_at)) where
      same_key : c₁.key ≡ key
      same_key = hl.key ∙ st.key

      latency_value : d.latency.value ≡ latency
      latency_value = ap (λ (q : Draw ℕ). q.value) latency_is ∙ sym (ha.is ∙ (λ j. (delay_draw x T.prices m.from t m.wire (same_key j) (sym loss_words j)).value))

      latency_words_fit : d.latency.words ≡ c₂.count
      latency_words_fit = ap (λ (q : Draw ℕ). q.words) latency_is ∙ sym (ha.words ∙ (λ j. (delay_draw x T.prices m.from t m.wire (same_key j) (sym loss_words j)).words))

      verdict : (p : Option ℕ) → v.place ≡ p → d.verdict ≡ decision p (cell T.net rules_at) v.words
      verdict p e = verdict_is ∙ sym hv ∙ ap (λ (q : Option ℕ). decision q (cell T.net rules_at) v.words) e

      pub is_fault : (place : ℕ) → v.place ≡ Some place → Answers (opening_at T) m s t (Fault (record { words = c₂.count; fault = v.words; place = place }))
      unfolding Answers
      is_fault place h = (
        class_by false false false true free going (loss_value ∙ past) (ap (λ (q : Decision). q.drops) (verdict _ h)),
        latency_words_fit,
        verdict _ h,
      )

      pub is_sent : v.place ≡ None → (ring : List Carried) → ring_for s m ≡ ring → (e : Echoes) → Echoed m t (echoes_of (keyed x T.prices c₂.key) m t ring c₂.count) e
          → Answers (opening_at T) m s t (Sent (record { latency = latency; echoes = e; fault = v.words }))
      unfolding Answers
      is_sent h ring rq e he =
          let same : echoes_of (keyed x T.prices c₂.key) m t ring c₂.count ≡ d.echoes =
          sym (echoes_are ∙ ap (λ (r : List Carried). echoes_of (opening_at T) m t r d.latency.words) rq ∙ echoes_by ring d.latency.words
          ∙ (λ j. echoes_of (keyed x T.prices (sym (ha.key ∙ same_key) j)) m t ring (latency_words_fit j))) in (
            class_by false false false false free going (loss_value ∙ past) (ap (λ (q : Decision). q.drops) (verdict _ h)),
            record {
              latency = latency_value;
              passed = ap (λ (q : Decision). q.drops) (verdict _ h);
              words = ap (λ (q : Decision). q.words) (verdict _ h);
              echoes = record {
                all = ap (λ (q : accept.Echoes). q.all) (sym same) ∙ he.all;
                words = ap (λ (q : accept.Echoes). q.words) (sym same) ∙ he.words;
                first = he.first;
                second = he.second;
              };
              below = ha.below;
            },
          )
