-- Two parts that fill a block are what is joined in it.
use Rattle.std.proofs.Common.{◌≡◌, ℕ, ◌+◌, ◌-◌, List, ◌++◌, length, take, replicate, ap, ap₂, ◌∙◌, arith}
use Rattle.std.proofs.Math.Seq.{take_all}
use mathlib.Core.List.{append-nil}

pub both_joined : (n : ℕ) (h t r : List ℕ) → length h + length t ≡ n → r ≡ h ++ (take (n - length h) t ++ replicate (n - length h - length t) 0) → r ≡ h ++ t
both_joined n h t r e q =
    let z : n - length h - length t ≡ 0 = omega arith in
    q ∙ ap₂ (λ (x : List ℕ) (k : ℕ). h ++ (x ++ replicate k 0)) (take_all (n - length h) t (omega arith)) z ∙ ap (λ (x : List ℕ). h ++ x) (append-nil t)
