-- Laws of a round on rows, and of seven rounds with their schedule written in.
use Prim.Native.Nat.{ℕ}
use mathlib.Core.Path.{◌≡◌, refl}
use mathlib.Core.List.{List, [], ◌∷◌}
use Rattle.hash_compress.specs.Compress.{half_of, mix_of, put_quad, mix_at, columns, diagonals, permuted, round_of, rounds}
use Rattle.hash_lanes.specs.declared.rows.Rows.{Rows}
use Rattle.hash_lanes.specs.Rows.{flat, sums_of, rotated_of, half_rows, diagonals_of, columns_of}

module _ (v : Rows) (x0 x1 x2 x3 x4 x5 x6 x7 x8 x9 x10 x11 x12 x13 x14 x15 : ℕ) where
  plain : flat (columns_of (half_rows (half_rows (diagonals_of
      (half_rows (half_rows v (record { a = x0; b = x2; c = x4; d = x6 }) 16 12) (record { a = x1; b = x3; c = x5; d = x7 }) 8 7))
      (record { a = x8; b = x10; c = x12; d = x14 }) 16 12) (record { a = x9; b = x11; c = x13; d = x15 }) 8 7))
      ≡ round_of (flat v) (x0 ∷ x1 ∷ x2 ∷ x3 ∷ x4 ∷ x5 ∷ x6 ∷ x7 ∷ x8 ∷ x9 ∷ x10 ∷ x11 ∷ x12 ∷ x13 ∷ x14 ∷ x15 ∷ [])
  unfolding flat columns_of diagonals_of half_rows sums_of rotated_of round_of columns diagonals mix_at put_quad mix_of half_of
  plain = refl

  -- a round
  pub round_rows : (p q w r s : Rows) {z : Rows}
      → p ≡ half_rows v (record { a = x0; b = x2; c = x4; d = x6 }) 16 12
      → q ≡ half_rows p (record { a = x1; b = x3; c = x5; d = x7 }) 8 7
      → w ≡ diagonals_of q
      → r ≡ half_rows w (record { a = x8; b = x10; c = x12; d = x14 }) 16 12
      → s ≡ half_rows r (record { a = x9; b = x11; c = x13; d = x15 }) 8 7
      → z ≡ columns_of s
      → flat z ≡ round_of (flat v) (x0 ∷ x1 ∷ x2 ∷ x3 ∷ x4 ∷ x5 ∷ x6 ∷ x7 ∷ x8 ∷ x9 ∷ x10 ∷ x11 ∷ x12 ∷ x13 ∷ x14 ∷ x15 ∷ [])
  round_rows p q w r s h0 h1 h2 h3 h4 h5 = cc plain

-- seven rounds
pub rounds_made : (m0 m1 m2 m3 m4 m5 m6 l l0 l1 l2 l3 l4 l5 l6 : List ℕ) {l7 : List ℕ}
    → m1 ≡ permuted m0 → m2 ≡ permuted m1 → m3 ≡ permuted m2 → m4 ≡ permuted m3 → m5 ≡ permuted m4 → m6 ≡ permuted m5
    → l0 ≡ l → l1 ≡ round_of l0 m0 → l2 ≡ round_of l1 m1 → l3 ≡ round_of l2 m2 → l4 ≡ round_of l3 m3 → l5 ≡ round_of l4 m4 → l6 ≡ round_of l5 m5 → l7 ≡ round_of l6 m6
    → l7 ≡ rounds 7 l m0
unfolding rounds
rounds_made m0 m1 m2 m3 m4 m5 m6 l l0 l1 l2 l3 l4 l5 l6 q1 q2 q3 q4 q5 q6 p0 p1 p2 p3 p4 p5 p6 p7 = cc
