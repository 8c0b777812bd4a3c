-- laws of a cursor, for each function
use Prim.Native.Nat.{ℕ, ◌+◌, ◌*◌, ◌/◌, ◌%◌, ◌^◌, ◌<◌}
use mathlib.Core.Path.{◌≡◌, ap, ap₂, ◌∙◌}
use Rattle.std.specs.Prelude.{Some}
use lib.ListN.{get_or}
use native.Mathlib.Omega.{arith}
use Rattle.rand_chacha8.specs.Chacha.{word_at, block_of}
use Rattle.rand_streams.specs.declared.Cursor.{Cursor}
use Rattle.rand_streams.specs.Streams.{Moved, keeps_block, word_pair}

-- the block of the count is held already
pub held_already : (c : Cursor) → c.held ≡ Some (c.count / 16) → keeps_block c
unfolding keeps_block
held_already c p = (p, c.holds (c.count / 16) p)

-- the word at a place i of the block of a loaded cursor d, which stands where c stood
module _ (c d : Cursor) (stands : Moved c 0 d) (k : keeps_block d) (i : ℕ) (e : i ≡ c.count % 16) where
  pub word_there : get_or d.block i 0 ≡ word_at c.key c.count
  unfolding keeps_block word_at
  word_there =
      let n : d.count ≡ c.count = omega (arith, stands.count) in
      ap₂ (λ b j. get_or b j 0) (k.1 ∙ ap₂ (λ x y. block_of x (y / 16)) stands.key n) e

  -- and the one after it, where the block has both
  pub pair_there : c.count % 16 < 15 → {v : ℕ} → v ≡ get_or d.block i 0 + 2 ^ 32 * get_or d.block (i + 1) 0 → v ≡ word_pair c.key c.count
  unfolding keeps_block word_at word_pair
  pair_there l p =
      let n : d.count ≡ c.count = omega (arith, stands.count) in
      let m : i + 1 ≡ (c.count + 1) % 16 = omega (arith, e) in
      let q : c.count / 16 ≡ (c.count + 1) / 16 = omega arith in
      let b : d.block ≡ block_of c.key (c.count / 16) = k.1 ∙ ap₂ (λ x y. block_of x (y / 16)) stands.key n in
      p ∙ ap₂ (λ x y. x + 2 ^ 32 * y) (ap₂ (λ x j. get_or x j 0) b e) (ap₂ (λ x j. get_or x j 0) (b ∙ ap (block_of c.key) q) m)

-- two words, drawn one after the other
pub pair_drawn : (c d : Cursor) {x y v : ℕ} → Moved c 1 d → x ≡ word_at c.key c.count → y ≡ word_at d.key d.count → v ≡ x + 2 ^ 32 * y → v ≡ word_pair c.key c.count
unfolding word_pair
pair_drawn c d m p q r = r ∙ ap₂ (λ a b. a + 2 ^ 32 * b) p (q ∙ ap₂ word_at m.key m.count)
