-- The little-endian bytes of a number are std's `to_le_bytes`, and a link's bytes.
use Rattle.std.proofs.Common.{◌≡◌, ℕ, ◌-◌, List, [], ◌∷◌, ◌++◌, length, take, replicate, refl}
use Rattle.std.specs.Int.{w32, w64, to_le_bytes}
use Rattle.math_word.specs.Word.{le4, le8}
use Rattle.rand_streams.specs.Link.{link_bytes}

pub le4_is : (x : ℕ) → to_le_bytes w32 x ≡ le4 x
unfolding le4
le4_is x = refl

pub le8_is : (x : ℕ) → to_le_bytes w64 x ≡ le8 x
unfolding le8
le8_is x = refl

-- seed, "link", and both ends
pub link_made : (seed from to : ℕ) {s a b ends named r : List ℕ} → s ≡ to_le_bytes w64 seed → a ≡ to_le_bytes w32 from → b ≡ to_le_bytes w32 to
    → ends ≡ a ++ (take (8 - length a) b ++ replicate (8 - length a - length b) 0) → named ≡ (108 ∷ 105 ∷ 110 ∷ 107 ∷ []) ++ (take 8 ends ++ replicate (8 - length ends) 0)
    → r ≡ s ++ (take (20 - length s) named ++ replicate (20 - length s - length named) 0) → r ≡ link_bytes seed from to
unfolding link_bytes le4 le8
link_made seed from to ps pa pb pe pn pr = rw (pr, pn, pe, ps, pa, pb)
