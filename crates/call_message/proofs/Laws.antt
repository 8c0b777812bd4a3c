-- The head of an id: a name and a scope, put one behind the other. Assumes nothing.
use Prim.Native.Nat.{ℕ, suc, ◌+◌, ◌*◌, ◌≤◌, ◌<◌}
use mathlib.Core.Path.{◌≡◌, refl, ap, ap₂, sym, ◌∙◌}
use mathlib.Core.Bool.{false, cond}
use mathlib.Core.List.{List, [], ◌∷◌, ◌++◌, append_assoc}
use native.Mathlib.Omega.{arith}
use native.Mathlib.Nat.{le_refl, zero-add}
use native.Mathlib.Numerals.{add-one}
use lib.Dec.{eqb}
use lib.ListN.{length, get_or, take, drop, set, length-set, length-take}
use lib.Seq.{paste, take-paste, take-length, take-suc-set}
use Rattle.std.proofs.lemmas.Slice.{put_mid-paste}
use Rattle.std.proofs.lemmas.List.Edits.{length-paste}
use borrow.Rule.Slice.PartMut.{put_mid}
use Rattle.hash_digest.specs.Blake3.{hash, longest}
use Rattle.spec_network.specs.Opening.{global}
use Rattle.spec_network.specs.Tables.{cell, name_at, shard_at, text_at}
use Rattle.spec_network.specs.Real.{scope_bytes, id_of}
use Rattle.call_message.specs.Message.{longest_head, id_in}

-- a text is as long as the byte before it says, at most
pub text_short : (names : List ℕ) (i n : ℕ) → cell names i ≤ n → length (text_at names i) ≤ n
text_short names i n h = omega (arith, length-take (cell names i) (drop (suc i) names))

pub text_is : (names : List ℕ) (i : ℕ) (t : List ℕ) → t ≡ take (cell names i) (drop (i + 1) names) → t ≡ text_at names i
text_is names i t e = e ∙ ap (λ (k : ℕ). take (cell names i) (drop k names)) (add-one i)

-- a copy to the front keeps the length
pub length_put : (d s v : List ℕ) (k : ℕ) → v ≡ s → length s ≡ k → length s ≤ length d → length (put_mid 0 k d v) ≡ length d
length_put d s v k e f h = ap length (put_mid-paste 0 k d v s (length s) e f refl) ∙ length-paste d 0 s (length s) (omega arith) (le_refl (length s))

-- what is put after the bytes p stands after p
pub step : (d p s : List ℕ) (at : ℕ) → take at d ≡ p → at + length s ≤ length d → take (at + length s) (paste d at s (length s)) ≡ p ++ s
step d p s at e h = take-paste d at s (length s) (omega arith) (le_refl (length s)) ∙ ap₂ ◌++◌ e (take-length s)

module _ (buf names : List ℕ) (at scope : ℕ) where
  pub scope_global : scope ≡ global → at < length buf → take (at + 1) (set buf at 0) ≡ take at buf ++ scope_bytes names scope
  scope_global e h = ap (λ (k : ℕ). take k (set buf at 0)) (add-one at) ∙ take-suc-set buf at 0 h ∙
      ap (λ (b : _). take at buf ++ cond b (0 ∷ []) (1 ∷ text_at names (shard_at scope))) (sym (ap (λ (k : ℕ). eqb k global) e))

  pub scope_shard : eqb scope global ≡ false → (key d : List ℕ) → key ≡ text_at names (shard_at scope) → at + 1 + length key ≤ length buf
      → d ≡ paste (set buf at 1) (at + 1) key (length key) → take (at + 1 + length key) d ≡ take at buf ++ scope_bytes names scope
  scope_shard e key d q h r =
      ap (take (at + 1 + length key)) r
      ∙ step (set buf at 1) (take at buf ++ (1 ∷ [])) key (at + 1) (ap (λ (k : ℕ). take k (set buf at 1)) (add-one at) ∙ take-suc-set buf at 1 (omega arith)) (omega (arith, length-set buf at 1))
      ∙ append_assoc (take at buf) (1 ∷ []) key
      ∙ ap (λ (k : List ℕ). take at buf ++ (1 ∷ k)) q
      ∙ ap (λ (b : _). take at buf ++ cond b (0 ∷ []) (1 ∷ text_at names (shard_at scope))) (sym e)

pub head_fits : (n : ℕ) (l head wire : List ℕ) → head ≡ take n l → n ≤ longest_head → length wire ≤ 65536 → length head + length wire ≤ longest
head_fits n l head wire q h w = omega (arith, ap length q, length-take n l)

pub id_from : (head wire d : List ℕ) (n low high : ℕ) (buf : List ℕ) → head ≡ take n buf → d ≡ hash (head ++ wire) → low ≡ get_or d 0 0 → high ≡ get_or d 1 0
    → low + 4294967296 * high ≡ id_in (take n buf) wire
id_from head wire d n low high buf p q r s = cc

pub head_is : (buf names wire name d b : List ℕ) (kind scope n : ℕ) → name ≡ text_at names (name_at kind) → length name ≤ length buf
    → d ≡ paste buf 0 name (length name) → take n b ≡ take (length name) d ++ scope_bytes names scope → id_in (take n b) wire ≡ id_of names kind scope wire
unfolding id_of
head_is buf names wire name d b kind scope n p h q r =
    let e : take (length name) d ≡ name = ap₂ take (sym (zero-add (length name))) q ∙ step buf [] name 0 refl (omega arith) in
    ap (λ (l : List ℕ). id_in l wire) (r ∙ ap₂ ◌++◌ (e ∙ p) refl)
