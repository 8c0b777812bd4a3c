-- The ways down the questions, and the scans over the selected tills. Assumes nothing.
use Prim.Native.Nat.{ℕ, ◌+◌, ◌*◌, ◌≤◌, ◌<◌}
use mathlib.Core.Path.{◌≡◌, refl, sym, ap, ◌∙◌}
use mathlib.Core.Bool.{Bool, true, false, ◌&&◌}
use mathlib.Core.List.{List, [], ◌++◌}
use base.Fml.{Lft}
use contract.BorrowLft.{◌⊑◌, ⊑_meet, ⊑_static}
use native.Mathlib.Omega.{arith}
use lib.Dec.{ltb}
use lib.ListN.{length}
use mir.Val.{bool_byte}
use borrow.Author.Tests.{le-ltb, lt-ltb, le-leb, lt-leb}
use Rattle.table_rows.specs.Rows.{all_of}
use Rattle.spec_network.specs.Opening.{most_words, last_number}
use Rattle.spec_network.specs.Tables.{cell, sizes_at, sequence_at, waiting_at, fault_words_at}
use Rattle.ask_tables.proofs.Ladder.{yes, no}
use Rattle.call_offer.specs.declared.Outgoing.{Outgoing}
use Rattle.call_recipients.specs.Turning.{rest, remaining}
use Rattle.call_recipients.proofs.Stepping.{rest_on, rest_off, rest_end}
use Rattle.ask_accept.specs.Asking.{fresh_at, free_at, tail_number}

-- ---- Scans over the selected

module _ (q p : ℕ → Bool) (n : ℕ) where
  -- till `to` is not selected; it is, and passes; it is, and fails
  pub scan_skip : (to : ℕ) → to < n → q to ≡ false → all_of p (rest q n to) ≡ all_of p (rest q n (to + 1))
  scan_skip to h f = ap (all_of p) (rest_off q n to h f)

  pub scan_on : (to : ℕ) → to < n → q to ≡ true → p to ≡ true → all_of p (rest q n to) ≡ all_of p (rest q n (to + 1))
  scan_on to h f g = ap (all_of p) (rest_on q n to h f) ∙ ap (λ (x : Bool). x && all_of p (rest q n (to + 1))) g

  pub scan_off : (to : ℕ) → to < n → q to ≡ true → p to ≡ false → all_of p (rest q n to) ≡ false
  scan_off to h f g = ap (all_of p) (rest_on q n to h f) ∙ ap (λ (x : Bool). x && all_of p (rest q n (to + 1))) g

  pub scan_end : (to : ℕ) → n ≤ to → true ≡ all_of p (rest q n to)
  scan_end to h = sym (ap (all_of p) (rest_end q n to h))

  pub count_on : (to k : ℕ) (b : Bool) → to < n → b ≡ q to → k ≡ bool_byte b → length (rest q n to) ≡ k + length (rest q n (to + 1))
  count_on to k b h e f = go b (sym e) f
    where
      go : (b : Bool) → q to ≡ b → k ≡ bool_byte b → length (rest q n to) ≡ k + length (rest q n (to + 1))
      go true g f = omega (arith, ap length (rest_on q n to h g))
      go false g f = omega (arith, ap length (rest_off q n to h g))

  pub count_end : (to : ℕ) → n ≤ to → length (rest q n to) ≡ 0
  count_end to h = ap length (rest_end q n to h)

-- a test as a number
pub byte_small : (b : Bool) → bool_byte b ≤ 1
byte_small true = omega arith
byte_small false = omega arith

-- ---- 8 to 11

module _ (setup net tills words seen : List ℕ) (m : Outgoing) where
  abbrev ts : List ℕ
  ts = remaining setup tills m 0

  abbrev given : Bool
  given = ltb (cell net fault_words_at) most_words && all_of (fresh_at words m) ts

  pub old_fault : most_words ≤ cell net fault_words_at → 8 ≡ tail_number setup net tills words seen m
  unfolding tail_number
  old_fault h = no _ _ _ _ (ap (λ (b : Bool). b && all_of (fresh_at words m) ts) (le-ltb (cell net fault_words_at) most_words h)) refl

  module _ (fresh : cell net fault_words_at < most_words) where
    left_of : given ≡ all_of (fresh_at words m) ts
    left_of = ap (λ (b : Bool). b && all_of (fresh_at words m) ts) (lt-ltb (cell net fault_words_at) most_words fresh)

    pub old_link : all_of (fresh_at words m) ts ≡ false → 8 ≡ tail_number setup net tills words seen m
    unfolding tail_number
    old_link h = no _ _ _ _ (left_of ∙ h) refl

    module _ (links : all_of (fresh_at words m) ts ≡ true) where
      pub no_number_lem : last_number < cell net sequence_at + 3 * length ts → 9 ≡ tail_number setup net tills words seen m
      unfolding tail_number
      no_number_lem h = yes _ _ _ _ (left_of ∙ links) (no _ _ _ _ (lt-leb (cell net sequence_at + 3 * length ts) last_number h) refl)

      module _ (numbers : cell net sequence_at + 3 * length ts ≤ last_number) where
        pub no_mark : all_of (free_at setup seen m) ts ≡ false → 10 ≡ tail_number setup net tills words seen m
        unfolding tail_number
        no_mark h = yes _ _ _ _ (left_of ∙ links) (yes _ _ _ _ (le-leb (cell net sequence_at + 3 * length ts) last_number numbers) (no _ _ _ _ h refl))

        module _ (marks : all_of (free_at setup seen m) ts ≡ true) where
          pub no_room : (sizes_at setup).wait_slots < cell net waiting_at + 3 * length ts → 11 ≡ tail_number setup net tills words seen m
          unfolding tail_number
          no_room h = yes _ _ _ _ (left_of ∙ links)
              (yes _ _ _ _ (le-leb (cell net sequence_at + 3 * length ts) last_number numbers)
              (yes _ _ _ _ marks (no _ _ _ _ (lt-leb (cell net waiting_at + 3 * length ts) (sizes_at setup).wait_slots h) refl)))

          pub all_fit : cell net waiting_at + 3 * length ts ≤ (sizes_at setup).wait_slots → 0 ≡ tail_number setup net tills words seen m
          unfolding tail_number
          all_fit h = yes _ _ _ _ (left_of ∙ links)
              (yes _ _ _ _ (le-leb (cell net sequence_at + 3 * length ts) last_number numbers)
              (yes _ _ _ _ marks (yes _ _ _ _ (le-leb (cell net waiting_at + 3 * length ts) (sizes_at setup).wait_slots h) refl)))

-- ---- A closure that holds three slices lives while they do

three : (k a b d : Lft) → k ⊑ a → k ⊑ b → k ⊑ d → k ⊑ (a ++ []) ++ ((b ++ []) ++ ((d ++ []) ++ []))
three k a b d p q r =
    ⊑_meet k (a ++ []) ((b ++ []) ++ ((d ++ []) ++ [])) (⊑_meet k a [] p (⊑_static k))
    (⊑_meet k (b ++ []) ((d ++ []) ++ []) (⊑_meet k b [] q (⊑_static k)) (⊑_meet k (d ++ []) [] (⊑_meet k d [] r (⊑_static k)) (⊑_static k)))

pub lives : (k a b d : Lft) → k ⊑ a → k ⊑ b → k ⊑ d → k ⊑ ((a ++ []) ++ ((b ++ []) ++ ((d ++ []) ++ []))) ++ ((a ++ []) ++ ((b ++ []) ++ ((d ++ []) ++ [])))
lives k a b d p q r = ⊑_meet k ((a ++ []) ++ ((b ++ []) ++ ((d ++ []) ++ []))) ((a ++ []) ++ ((b ++ []) ++ ((d ++ []) ++ []))) (three k a b d p q r) (three k a b d p q r)
