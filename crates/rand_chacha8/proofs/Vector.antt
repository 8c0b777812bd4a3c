-- ChaCha8 vectors, computed from the definitions.
use mathlib.Core.Path.{◌≡◌, refl}
use mathlib.Core.List.{[], ◌∷◌}
use lib.ListN.{replicate}
use Rattle.math_word.specs.Word.{add32, xor32, rotl32}
use Rattle.rand_chacha8.specs.Chacha.{sums, double_rounds, columns, diagonals, quarter_at, put_quad, block_of, initial, quarter_of, half_of}

-- draft-strombergson-chacha-test-vectors-01, TC1: key and IV of zeros, 256-bit key, 8 rounds, the first block
pub block_0 : block_of (replicate 8 0) 0 ≡ 0x2fef003e ∷ 0xd6405f89 ∷ 0xe8b85b7f ∷ 0xa1a5091f ∷ 0xc30e842c ∷ 0x3b7f9ace ∷ 0x88e11b18 ∷ 0x1e1a71ef ∷ 0x72e14c98 ∷
    0x416f21b9 ∷ 0x6753449f ∷ 0x19566d45 ∷ 0xa3424a31 ∷ 0x01b086da ∷ 0xb8fd7b38 ∷ 0x42fe0c0e ∷ []
unfolding add32 xor32 rotl32 sums double_rounds columns diagonals quarter_at put_quad block_of initial quarter_of half_of
block_0 = refl

-- Debian's rand_chacha: the key words 1 to 8, block 2^33 + 5, whose number takes both counter words
pub block_high : block_of (1 ∷ 2 ∷ 3 ∷ 4 ∷ 5 ∷ 6 ∷ 7 ∷ 8 ∷ []) 8589934597 ≡ 0xcbf5b696 ∷ 0x710fc7df ∷ 0x3f54ecf4 ∷ 0x72d520e9 ∷ 0xeee92cd5 ∷ 0x39074d35 ∷
    0x732391a4 ∷ 0xdf98dcf6 ∷ 0xccb16ce4 ∷ 0x9a6c478e ∷ 0x997ce242 ∷ 0xdb032706 ∷ 0x9297f2c4 ∷ 0xaa4a3683 ∷ 0xcda408a4 ∷ 0x0d21bbd7 ∷ []
unfolding add32 xor32 rotl32 sums double_rounds columns diagonals quarter_at put_quad block_of initial quarter_of half_of
block_high = refl
