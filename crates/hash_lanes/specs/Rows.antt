-- BLAKE3, specification section 2.2: the state as a table of four rows, so that a column is one word of each row.
use Rattle.std.specs.Prelude.{ℕ, List, [], ◌∷◌}
use Rattle.math_word.specs.Word.{add32, xor32, rotr32}
use Rattle.math_word.specs.declared.Quad.{Quad}
use Rattle.hash_lanes.specs.declared.rows.Rows.{Rows}

-- the 16 words, row after row
unfoldable pub flat : Rows → List ℕ
flat v =
    v.a.a ∷ v.a.b ∷ v.a.c ∷ v.a.d ∷ v.b.a ∷ v.b.b ∷ v.b.c ∷ v.b.d
    ∷ v.c.a ∷ v.c.b ∷ v.c.c ∷ v.c.d ∷ v.d.a ∷ v.d.b ∷ v.d.c ∷ v.d.d ∷ []

unfoldable pub sums_of : Quad → Quad → Quad
sums_of x y = record { a = add32 x.a y.a; b = add32 x.b y.b; c = add32 x.c y.c; d = add32 x.d y.d }

unfoldable pub rotated_of : Quad → Quad → ℕ → Quad
rotated_of x y n =
    record { a = rotr32 (xor32 x.a y.a) n; b = rotr32 (xor32 x.b y.b) n; c = rotr32 (xor32 x.c y.c) n; d = rotr32 (xor32 x.d y.d) n }

-- half of G on each column, with a word of x each
unfoldable pub half_rows : Rows → Quad → ℕ → ℕ → Rows
half_rows v x s t =
    let a = sums_of (sums_of v.a v.b) x in
    let d = rotated_of v.d a s in
    let c = sums_of v.c d in
    let b = rotated_of v.b c t in
    record { a = a; b = b; c = c; d = d }

-- row i turned left by i words, so that the diagonals stand as columns
unfoldable pub diagonals_of : Rows → Rows
diagonals_of v =
    record {
      a = v.a;
      b = record { a = v.b.b; b = v.b.c; c = v.b.d; d = v.b.a };
      c = record { a = v.c.c; b = v.c.d; c = v.c.a; d = v.c.b };
      d = record { a = v.d.d; b = v.d.a; c = v.d.b; d = v.d.c };
    }

-- and back
unfoldable pub columns_of : Rows → Rows
columns_of v =
    record {
      a = v.a;
      b = record { a = v.b.d; b = v.b.a; c = v.b.b; d = v.b.c };
      c = record { a = v.c.c; b = v.c.d; c = v.c.a; d = v.c.b };
      d = record { a = v.d.b; b = v.d.c; c = v.d.d; d = v.d.a };
    }
