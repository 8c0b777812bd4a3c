-- Published BLAKE3 vectors, computed from the definitions: bytes i mod 251, answers by b3sum (the repository's test vectors too).
use Prim.Native.Nat.{ℕ, zero, suc, ◌%◌}
use mathlib.Core.Path.{◌≡◌, refl}
use mathlib.Core.List.{List, [], ◌∷◌}
use Rattle.math_word.specs.Word.{add32, xor32, rotr32}
use Rattle.hash_compress.specs.Compress.{iv, half_of, mix_of, put_quad, mix_at, columns, diagonals, permuted, round_of, rounds, initial, folded, compressed}
use Rattle.hash_chunk.specs.Chunk.{words_of, blocks, chunk, parent}
use Rattle.math_word.specs.Word.{le_word}
use Rattle.hash_digest.specs.Blake3.{tree, hash}

-- n bytes, from the number i on
pub input : ℕ → ℕ → List ℕ
input zero i = []
input (suc n) i = i % 251 ∷ input n (suc i)

-- af1349b9f5f9a1a6a0404dea36dcc949..
pub length_0 : hash (input 0 0) ≡ 0xb94913af ∷ 0xa6a1f9f5 ∷ 0xea4d40a0 ∷ 0x49c9dc36 ∷ 0xc925cb9b ∷ 0xb712c1ad ∷ 0xca939acc ∷ 0x62321fe4 ∷ []
unfolding input add32 xor32 rotr32 iv half_of mix_of put_quad mix_at columns diagonals permuted round_of rounds initial folded compressed le_word words_of blocks chunk parent tree hash
length_0 = refl

-- e1be4d7a8ab5560aa4199eea339849ba..
pub length_3 : hash (input 3 0) ≡ 0x7a4dbee1 ∷ 0x0a56b58a ∷ 0xea9e19a4 ∷ 0xba499833 ∷ 0x553d298e ∷ 0x00810aca ∷ 0x84d12667 ∷ 0x7f649e51 ∷ []
unfolding input add32 xor32 rotr32 iv half_of mix_of put_quad mix_at columns diagonals permuted round_of rounds initial folded compressed le_word words_of blocks chunk parent tree hash
length_3 = refl

-- de1e5fa0be70df6d2be8fffd0e99ceaa..
pub length_65 : hash (input 65 0) ≡ 0xa05f1ede ∷ 0x6ddf70be ∷ 0xfdffe82b ∷ 0xaace990e ∷ 0xc9e8b68e ∷ 0xd8f2633a ∷ 0xcb0ec3d1 ∷ 0xee3d266b ∷ []
unfolding input add32 xor32 rotr32 iv half_of mix_of put_quad mix_at columns diagonals permuted round_of rounds initial folded compressed le_word words_of blocks chunk parent tree hash
length_65 = refl

-- d00278ae47eb27b34faecf67b4fe263f..
pub length_1025 : hash (input 1025 0) ≡ 0xae7802d0 ∷ 0xb327eb47 ∷ 0x67cfae4f ∷ 0x3f26feb4 ∷ 0x2941d582 ∷ 0xd9ffc116 ∷ 0xfbb78c7c ∷ 0x44844b81 ∷ []
unfolding input add32 xor32 rotr32 iv half_of mix_of put_quad mix_at columns diagonals permuted round_of rounds initial folded compressed le_word words_of blocks chunk parent tree hash
length_1025 = refl
