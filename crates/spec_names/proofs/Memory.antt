-- A memory gives back the tables that were stored in it; and no opening needs more than 16,777,216 bytes.
use mathlib.Core.Path.{◌≡◌, refl, sym, ap, ◌∙◌}
use Prim.Native.Nat.{ℕ, ◌+◌, ◌*◌, ◌≤◌}
use native.Mathlib.Omega.{arith}
use native.Mathlib.Nat.{le_trans, mul-le-mul_left, mul-le-mul_right}
use mathlib.Core.List.{List, [], ◌∷◌, ◌++◌, append_assoc}
use lib.ListN.{length, take, drop, length-append, take-append-drop}
use Rattle.table_log.specs.Log as log
use Rattle.spec_network.specs.Opening.{Sizes, links}
use Rattle.spec_network.specs.Tables.{Tables, net_width}
use Rattle.spec_network.specs.Lending.{set_nine}
use Rattle.spec_book.proofs.Formed.{Four, four_of, bare, Formed}
use Rattle.spec_book.proofs.Fitting.{Limited}
use Rattle.spec_names.specs.Keeping.{stored, restored, need_words, tills_words, seen_words, waiting_words, rings_words, rules_words, blocks_words, bytes_needed, most_bytes}

-- ---- A list behind one of a known length

take_exact : (a b : List ℕ) (n : ℕ) → length a ≡ n → take n (a ++ b) ≡ a
take_exact [] b n h = rw (← h)
take_exact (x ∷ a) b n h = rw (← h) (ap (λ (l : List ℕ). x ∷ l) (take_exact a b (length a) refl))

drop_exact : (a b : List ℕ) (n : ℕ) → length a ≡ n → drop n (a ++ b) ≡ b
drop_exact [] b n h = rw (← h)
drop_exact (x ∷ a) b n h = rw (← h) (drop_exact a b (length a) refl)

-- ---- The memory

-- the four tables of T that no call writes, and the nine of K
abbrev pub mixed : Tables → Tables → Tables
mixed T K = set_nine T K.net K.tills K.words K.seen K.waiting K.rings K.rules K.blocks K.log

module _ (z : Sizes) (K T : Tables) (f : Formed z K) (rest : List ℕ) where
  abbrev r₈ : List ℕ
  r₈ = K.log ++ rest

  abbrev r₇ : List ℕ
  r₇ = K.blocks ++ r₈

  abbrev r₆ : List ℕ
  r₆ = K.rules ++ r₇

  abbrev r₅ : List ℕ
  r₅ = K.rings ++ r₆

  abbrev r₄ : List ℕ
  r₄ = K.waiting ++ r₅

  abbrev r₃ : List ℕ
  r₃ = K.seen ++ r₄

  abbrev r₂ : List ℕ
  r₂ = K.words ++ r₃

  abbrev r₁ : List ℕ
  r₁ = K.tills ++ r₂

  row : stored K ++ rest ≡ K.net ++ r₁
  row = simp append_assoc

  restore_row : restored z (K.net ++ r₁) T ≡ mixed T K
  unfolding restored
  restore_row =
      let d₁ = drop_exact K.net r₁ net_width f.net.size in
      let d₂ = ap (drop (tills_words z)) d₁ ∙ drop_exact K.tills r₂ (tills_words z) f.tills in
      let d₃ = ap (drop links) d₂ ∙ drop_exact K.words r₃ links f.words in
      let d₄ = ap (drop (seen_words z)) d₃ ∙ drop_exact K.seen r₄ (seen_words z) f.seen.size in
      let d₅ = ap (drop (waiting_words z)) d₄ ∙ drop_exact K.waiting r₅ (waiting_words z) f.waiting in
      let d₆ = ap (drop (rings_words z)) d₅ ∙ drop_exact K.rings r₆ (rings_words z) f.rings.size in
      let d₇ = ap (drop rules_words) d₆ ∙ drop_exact K.rules r₇ rules_words f.rules in
      let d₈ = ap (drop blocks_words) d₇ ∙ drop_exact K.blocks r₈ blocks_words f.blocks in
      let t₀ = take_exact K.net r₁ net_width f.net.size in
      let t₁ = ap (take (tills_words z)) d₁ ∙ take_exact K.tills r₂ (tills_words z) f.tills in
      let t₂ = ap (take links) d₂ ∙ take_exact K.words r₃ links f.words in
      let t₃ = ap (take (seen_words z)) d₃ ∙ take_exact K.seen r₄ (seen_words z) f.seen.size in
      let t₄ = ap (take (waiting_words z)) d₄ ∙ take_exact K.waiting r₅ (waiting_words z) f.waiting in
      let t₅ = ap (take (rings_words z)) d₅ ∙ take_exact K.rings r₆ (rings_words z) f.rings.size in
      let t₆ = ap (take rules_words) d₆ ∙ take_exact K.rules r₇ rules_words f.rules in
      let t₇ = ap (take blocks_words) d₇ ∙ take_exact K.blocks r₈ blocks_words f.blocks in
      let t₈ = ap (take (log.size_of z.log_slots)) d₈ ∙ take_exact K.log rest (log.size_of z.log_slots) f.log.size in
      λ j. set_nine T (t₀ j) (t₁ j) (t₂ j) (t₃ j) (t₄ j) (t₅ j) (t₆ j) (t₇ j) (t₈ j)

  -- THE CENTRAL LEMMA: a memory that begins with K's nine tables gives them back
  pub restore_stored : restored z (stored K ++ rest) T ≡ mixed T K
  restore_stored = ap (λ (m : List ℕ). restored z m T) row ∙ restore_row

pub length_stored : (z : Sizes) (K : Tables) → Formed z K → length (stored K) ≡ need_words z
length_stored z K f =
    simp length-append
    (omega (arith, f.net.size, f.tills, f.words, f.seen.size, f.waiting, f.rings.size, f.rules, f.blocks, f.log.size))

-- the first words of what a keeping leaves
pub take_stored : (z : Sizes) (K : Tables) → Formed z K → (m : List ℕ) → take (need_words z) (stored K ++ m) ≡ stored K
take_stored z K f m = take_exact (stored K) m (need_words z) (length_stored z K f)

-- back to K itself, where T has the four of the same opening
pub restore_back : (z : Sizes) (K T : Tables) → Formed z K → four_of T ≡ four_of K → (m : List ℕ) → take (need_words z) m ≡ stored K → restored z m T ≡ K
restore_back z K T f e m h =
    ap (λ (l : List ℕ). restored z l T) (sym (take-append-drop (need_words z) m) ∙ ap (λ (l : List ℕ). l ++ drop (need_words z) m) h)
    ∙ restore_stored z K T f (drop (need_words z) m)
    ∙ ap (λ (q : Four). mixed (bare q) K) e

-- ---- The reading

-- tills, seen slots, waiting slots, log slots and types at their limits; a mark of up to `k` words, a copy of up to `w`, a ring's entry of up to `e`, and `more` words besides: with M-100, M-103, M-104 and M-108 these are 2, 19, 4 and 512
pub fits_memory : (tills slots waits logs types k w e more : ℕ) → tills ≤ 64 → slots ≤ 4096 → waits ≤ 4096 → logs ≤ 4096 → types ≤ 16 → k ≤ 2 → w ≤ 19 → e ≤ 4 → more ≤ 512
    → 8 * (6 + (tills * 4 + (4096 + ((tills + tills * (slots * k)) + (waits * w + (types * 17 * (2 + 64 * e) + (64 * 10 + (256 * 5 + ((19 + logs * 8) + more))))))))) ≤ 5700000
fits_memory tills slots waits logs types k w e more a b c d t p q r s =
    let h : slots * k ≤ 8192 = le_trans (mul-le-mul_right k b) (le_trans (mul-le-mul_left 4096 p) (omega arith)) in
    let i : tills * (slots * k) ≤ 524288 = le_trans (mul-le-mul_right (slots * k) a) (le_trans (mul-le-mul_left 64 h) (omega arith)) in
    let j : waits * w ≤ 77824 = le_trans (mul-le-mul_right w c) (le_trans (mul-le-mul_left 4096 q) (omega arith)) in
    let l : types * 17 * (2 + 64 * e) ≤ 70176 = le_trans (mul-le-mul_right {m = types * 17} {n = 272} (2 + 64 * e) (omega arith)) (le_trans (mul-le-mul_left {m = 2 + 64 * e} {n = 258} 272 (omega arith)) (omega arith)) in
    omega arith

-- the bytes that keeping needs are at most 16,777,216 for every opening within limits
pub few_bytes : (z : Sizes) → Limited z → bytes_needed z ≤ most_bytes
unfolding bytes_needed
few_bytes z l =
    let h = fits_memory z.tills z.seen_slots z.wait_slots z.log_slots z.types 1 12 3 0 l.tills l.seen l.waiting l.log l.types (omega arith) (omega arith) (omega arith) (omega arith) in
    omega (arith, h)
