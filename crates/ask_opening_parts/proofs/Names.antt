-- Texts in the table of names: their bytes, and their places. Assumes nothing.
use mathlib.Core.Path.{◌≡◌, refl, sym, ap, ◌∙◌}
use mathlib.Core.List.{List, [], ◌∷◌}
use Prim.Native.Nat.{ℕ, suc, ◌+◌, ◌*◌, ◌≤◌, ◌<◌}
use native.Mathlib.Nat.{mul-le-mul_right, suc-mul, zero-add}
use native.Mathlib.Omega.{arith}
use lib.Dec.{leb}
use borrow.Author.Tests.{leb-true}
use mathlib.Core.Bool.{Bool, true, false, ◌&&◌}
use lib.ListN.{length, get_or, take, drop}
use Rattle.table_rows.specs.Rows.{all_of}
use Rattle.table_rows.specs.Lists.{up_to}
use Rattle.table_rows.proofs.Lists.{length_up_to, get_d_up_to}
use Rattle.table_rows.proofs.Scans.{pass_at}
use Rattle.table_scan.specs.Scan.{column_within}
use Rattle.ask_tables.proofs.Rows.{alike}
use Rattle.spec_network.specs.Opening.{longest_name, longest_key}
use Rattle.spec_network.specs.Lists.{every, below, same, some_of, unlike}
use Rattle.spec_network.specs.Tables.{cell, text_at, shard_at}
use Rattle.spec_network.specs.Limits.{text_tests, unlike_tests}
use Rattle.ask_opening_parts.specs.Texts.{texts_from, Laid, Short, Inside, counted}

-- the text at i, as it is read
pub text_read : (names : List ℕ) (i : ℕ) {t : List ℕ} → t ≡ take (cell names i) (drop (i + 1) names) → t ≡ text_at names i
text_read names i e = let n : i + 1 ≡ suc i = omega arith in e ∙ ap (λ (k : ℕ). take (cell names i) (drop k names)) n

module _ (names : List ℕ) (start stride n : ℕ) where
  -- place k lies within the table
  pub place : Laid names start stride n → (k : ℕ) → k < n → start + k * stride + stride ≤ length names
  place h k q =
      let m : (k + 1) * stride ≤ n * stride = mul-le-mul_right stride (omega arith) in
      omega (arith, h.room, suc-mul k stride, m)

  pub inside : Laid names start stride n → Short names start stride n → (k : ℕ) → k < n → Inside names (start + k * stride)
  inside h s k q = record { inside = omega (arith, place h k q, s.short k q) }

  pub texts_length : length (texts_from names start stride n) ≡ n
  texts_length = length_up_to n (λ k. text_at names (start + k * stride))

  pub text_at_lem : (k : ℕ) → k < n → get_or (texts_from names start stride n) k [] ≡ text_at names (start + k * stride)
  text_at_lem k q = get_d_up_to n (λ k. text_at names (start + k * stride)) k [] q

  -- a test of text k
  pub text_asked : (q : List ℕ → Bool) (k : ℕ) (r b : Bool) → k < n → r ≡ q (text_at names (start + k * stride)) → r ≡ b → q (get_or (texts_from names start stride n) k []) ≡ b
  text_asked q k r b h e w = ap q (text_at_lem k h) ∙ sym e ∙ w

  pub text_met : (k : ℕ) (r b : Bool) → k < n → r ≡ some_of (same (text_at names (start + k * stride))) (drop (k + 1) (texts_from names start stride n)) → r ≡ b
      → some_of (same (get_or (texts_from names start stride n) k [])) (drop (k + 1) (texts_from names start stride n)) ≡ b
  text_met k r b h e w = ap (λ (t : List ℕ). some_of (same t) (drop (k + 1) (texts_from names start stride n))) (text_at_lem k h) ∙ sym e ∙ w

-- the lengths are a column
pub lengths : (names : List ℕ) (start stride n most : ℕ) → column_within names start stride n most ≡ all_of (λ k. leb (cell names (start + k * stride)) most) (below n)
unfolding column_within
lengths names start stride n most =
    alike n (λ (x : ℕ). leb x most) (λ i. get_or names (start + i * stride) 0) (λ k. leb (cell names (start + k * stride)) most) (λ i. i) (λ i h. refl)

-- texts whose lengths passed fit their places
pub short_ones : (names : List ℕ) (start stride n most : ℕ) → most < stride → all_of (λ k. leb (cell names (start + k * stride)) most) (below n) ≡ true → Short names start stride n
short_ones names start stride n most h e = record {
  short = λ k q.
      let p : leb (cell names (start + k * stride)) most ≡ true =
      ap (λ (j : ℕ). leb (cell names (start + j * stride)) most) (sym (get_d_up_to n (λ j. j) k 0 q))
      ∙ pass_at (λ j. leb (cell names (start + j * stride)) most) 0 (below n) k (omega (arith, length_up_to n (λ (j : ℕ). j))) e in
      omega (arith, leb-true (cell names (start + k * stride)) most p);
}

-- the tests of type names, which start at 0, and of shard keys
module _ (names : List ℕ) (types shards : ℕ) where
  abbrev pub names_short : Bool
  names_short = all_of (λ k. leb (cell names (0 + k * (1 + longest_name))) longest_name) (below types)

  abbrev pub keys_short : Bool
  keys_short = all_of (λ k. leb (cell names (shard_at k)) longest_key) (below shards)

  abbrev pub names_unlike : Bool
  names_unlike = unlike (texts_from names 0 (1 + longest_name) types)

  abbrev pub keys_unlike : Bool
  keys_unlike = unlike (up_to shards (λ k. text_at names (shard_at k)))

  two : (a b c d : Bool) → (a && (b && (c && d))) ≡ ((a && (b && true)) && ((c && (d && true)) && true))
  two true true true true = refl
  two true true true false = refl
  two true true false d = refl
  two true false c d = refl
  two false b c d = refl

  pub admitted : {r : Bool} → r ≡ (names_short && (keys_short && (names_unlike && keys_unlike)))
      → r ≡ every (every (text_tests (counted types shards) names) ∷ every (unlike_tests (counted types shards) names) ∷ [])
  admitted h = h ∙ two names_short keys_short names_unlike keys_unlike
      ∙ (λ j. (all_of (λ k. leb (cell names (zero-add (k * (1 + longest_name)) j)) longest_name) (below types) && (keys_short && true))
      && ((unlike (up_to types (λ k. text_at names (zero-add (k * (1 + longest_name)) j))) && (keys_unlike && true)) && true))
