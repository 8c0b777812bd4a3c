-- Counts of list functions of the book.
use mathlib.Core.Path.{◌≡◌, refl, ap, ◌∙◌}
use Prim.Native.Nat.{ℕ, suc, ◌+◌}
use native.Mathlib.Omega.{arith}
use mathlib.Core.Bool.{Bool, true, false, cond, ◌&&◌}
use mathlib.Core.List.{List, [], ◌∷◌}
use lib.Dec.{eqb, leb, ltb}
use lib.ListN.{length}
use borrow.Author.Tests.{ltb-false, leb-true, leb-false, eqb-true, eqb-false}
use Rattle.spec_book.specs.Book.{Event, scheduled, landed, dropped, scheduled_in, landed_in, dropped_in, scheduling, flush_events}
use Rattle.spec_book.specs.History.{has_sequence, given}
use Rattle.table_rows.specs.Lists.{front, behind}
use Rattle.table_waiting.specs.Waiting.{before, ordered}
use Rattle.table_waiting.specs.declared.Copy.{Copy}
use Rattle.spec_network.specs.Accept.{Message, Timed, original, echo_copies, insert_all}
use Rattle.spec_network.specs.Flush.{stops}
use Rattle.spec_network.specs.Lists.{bit, count}
use Rattle.spec_network.specs.Layout.{plain}
use Rattle.spec_network.specs.Live.{LiveBy}

-- one more sequence is given
pub bit_next : (m n : ℕ) → bit (eqb (suc m) n) + bit (given n m) ≡ bit (given n (suc m))
bit_next m n = go (eqb (suc m) n) (ltb 0 n) (leb n m) (leb n (suc m)) refl refl refl refl
  where
    go : (a z b c : Bool) → eqb (suc m) n ≡ a → ltb 0 n ≡ z → leb n m ≡ b → leb n (suc m) ≡ c → bit a + bit (z && b) ≡ bit (z && c)
    go true true true c p z q r = absurd (omega (arith, eqb-true (suc m) n p, leb-true n m q))
    go true true false true p z q r = refl
    go true true false false p z q r = absurd (omega (arith, eqb-true (suc m) n p, leb-false n (suc m) r))
    go true false b c p z q r = absurd (omega (arith, eqb-true (suc m) n p, ltb-false 0 n z))
    go false true true true p z q r = refl
    go false true true false p z q r = absurd (omega (arith, leb-true n m q, leb-false n (suc m) r))
    go false true false true p z q r = absurd (eqb-false (suc m) n p (omega (arith, leb-false n m q, leb-true n (suc m) r)))
    go false true false false p z q r = refl
    go false false b c p z q r = refl

module _ {A : Type 0} where
  pub count_split : (p q : A → Bool) (w : List A) → count p (front q w) + count p (behind q w) ≡ count p w
  count_split p q [] = refl
  count_split p q (x ∷ xs) = go (q x) (count_split p q xs)
    where
      go : (b : Bool) → count p (front q xs) + count p (behind q xs) ≡ count p xs → count p (cond b (x ∷ front q xs) []) + count p (cond b (behind q xs) (x ∷ xs)) ≡ bit (p x) + count p xs
      go true h = omega arith
      go false h = omega arith

pub count_insert : (p : Copy → Bool) (c : Copy) (w : List Copy) → count p (ordered c w) ≡ bit (p c) + count p w
count_insert p c [] = refl
count_insert p c (x ∷ xs) = go (before c x) (count_insert p c xs)
  where
    go : (b : Bool) → count p (ordered c xs) ≡ bit (p c) + count p xs
        → count p (cond b (c ∷ x ∷ xs) (x ∷ ordered c xs)) ≡ bit (p c) + (bit (p x) + count p xs)
    go true h = refl
    go false h = omega arith

pub count_insert_all : (p : Copy → Bool) (cs w : List Copy) → count p (insert_all plain cs w) ≡ count p cs + count p w
count_insert_all p [] w = omega arith
count_insert_all p (c ∷ cs) w = omega (arith, count_insert_all p cs (ordered c w), count_insert p c w)

-- ---- Events

pub scheduling_scheduled : (p : Copy → Bool) (cs : List Copy) (es : List Event) → count p (scheduled_in (scheduling cs es)) ≡ count p cs + count p (scheduled_in es)
scheduling_scheduled p [] es = omega arith
scheduling_scheduled p (c ∷ cs) es = omega (arith, scheduling_scheduled p cs (scheduled c ∷ es))

pub scheduling_landed : (cs : List Copy) (es : List Event) → landed_in (scheduling cs es) ≡ landed_in es
scheduling_landed [] es = refl
scheduling_landed (c ∷ cs) es = scheduling_landed cs (scheduled c ∷ es)

pub scheduling_dropped : (cs : List Copy) (es : List Event) → dropped_in (scheduling cs es) ≡ dropped_in es
scheduling_dropped [] es = refl
scheduling_dropped (c ∷ cs) es = scheduling_dropped cs (scheduled c ∷ es)

pub flushing_scheduled : (s : LiveBy plain) (cs : List Copy) (es : List Event) → scheduled_in (flush_events s cs es) ≡ scheduled_in es
flushing_scheduled s [] es = refl
flushing_scheduled s (c ∷ cs) es = flushing_scheduled s cs (cond (stops s c) (dropped c) (landed c) ∷ es) ∙ go (stops s c)
  where
    go : (b : Bool) → scheduled_in (cond b (dropped c) (landed c) ∷ es) ≡ scheduled_in es
    go true = refl
    go false = refl

pub flushing_moved : (p : Copy → Bool) (s : LiveBy plain) (cs : List Copy) (es : List Event)
    → count p (landed_in (flush_events s cs es)) + count p (dropped_in (flush_events s cs es)) ≡ count p cs + (count p (landed_in es) + count p (dropped_in es))
flushing_moved p s [] es = omega arith
flushing_moved p s (c ∷ cs) es = omega (arith, flushing_moved p s cs (cond (stops s c) (dropped c) (landed c) ∷ es), go (stops s c))
  where
    go : (b : Bool) → count p (landed_in (cond b (dropped c) (landed c) ∷ es)) + count p (dropped_in (cond b (dropped c) (landed c) ∷ es))
        ≡ bit (p c) + (count p (landed_in es) + count p (dropped_in es))
    go true = omega arith
    go false = omega arith

-- ---- Copies that take the next sequences

-- an original and its echoes: each takes the next sequence
module _ (m : Message) (t : ℕ) where
  pub length_echoes : (n : ℕ) (es : List Timed) → length (echo_copies m t n es) ≡ length es
  length_echoes n [] = refl
  length_echoes n (e ∷ es) = ap suc (length_echoes (suc n) es)

  echoes_count : (es : List Timed) (q n : ℕ) → count (has_sequence n) (echo_copies m t q es) + bit (given n q) ≡ bit (given n (length (echo_copies m t q es) + q))
  echoes_count [] q n = let z : 0 + q ≡ q = omega arith in rw z (omega arith)
  echoes_count (e ∷ es) q n =
      let z : suc (length (echo_copies m t (suc q) es)) + q ≡ length (echo_copies m t (suc q) es) + suc q = omega arith in
      rw z (omega (arith, echoes_count es (suc q) n, bit_next q n))

  pub copies_count : (latency : ℕ) (es : List Timed) (q n : ℕ) → let cs = original m t (suc q) latency ∷ echo_copies m t (suc q) es in
      count (has_sequence n) cs + bit (given n q) ≡ bit (given n (length cs + q))
  copies_count latency es q n =
      let z : suc (length (echo_copies m t (suc q) es)) + q ≡ length (echo_copies m t (suc q) es) + suc q = omega arith in
      rw z (omega (arith, echoes_count es (suc q) n, bit_next q n))
