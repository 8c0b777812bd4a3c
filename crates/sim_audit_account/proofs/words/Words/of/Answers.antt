use Rattle.std.proofs.Common.{◌≡◌, ℕ, List, ◌++◌, length, take, min, refl, arith}
use Rattle.std.proofs.lemmas.List.{length-take-le, take_min}
use Rattle.std.proofs.Math.Seq.{take-append_seam}
use Rattle.sim_audit_account.proofs.words.Words.of.Goals as goal

-- what is kept stands in front of what the buffer held before
kept : (s c z : List ℕ) (n : ℕ) → n ≡ min 36 (length s) → c ≡ take n s → take n (c ++ z) ≡ take 36 s
kept s c z n e f = cc (length-take-le n s (omega arith), take-append_seam (take n s) z, take_min 36 s)

pub returns : goal.returns
returns c = kept _ _ _ _ c.min-length.ensures c.copy_from_slice.ensures.after
