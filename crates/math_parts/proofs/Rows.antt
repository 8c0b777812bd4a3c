-- Two parts copied into zeros, one behind the other.
use Rattle.std.proofs.Common.{◌≡◌, ℕ, ◌+◌, ◌-◌, ◌≤◌, List, ◌++◌, length, take, drop, replicate, min, refl, ap, ap₂, ◌∙◌, arith, length-take}
use Rattle.std.proofs.Math.Seq.{take_at, drop-append-add, drop-drop}
use Rattle.std.proofs.lemmas.List.Edits.{paste_all}
use Rattle.std.proofs.lemmas.List.{take_min, drop-replicate}
use Rattle.std.proofs.lemmas.Slice.{put_mid-paste}
use borrow.Rule.Slice.PartMut.{put_mid}

pub joined_made : (N m : ℕ) (h t p q : List ℕ) → length h ≤ N → m ≡ min (N - length h) (length t) → p ≡ h → q ≡ take m t
    → put_mid (length h) (length h + m - length h) (p ++ drop (length h) (replicate N 0)) q ≡ h ++ (take (N - length h) t ++ replicate (N - length h - length t) 0)
joined_made N m h t p q room e pe qe =
    let x : List ℕ = p ++ drop (length h) (replicate N 0) in
    let long : m ≡ length (take m t) = omega (arith, length-take m t) in
    put_mid-paste (length h) (length h + m - length h) x q (take m t) m qe (omega arith) long
    ∙ paste_all x (length h) (take m t) m long
    ∙ ap (λ (y : List ℕ). take (length h) (y ++ drop (length h) (replicate N 0)) ++ (take m t ++ drop (length h + m) (y ++ drop (length h) (replicate N 0)))) pe
    ∙ ap₂ (λ (a b : List ℕ). a ++ (take m t ++ b)) (take_at h _ (length h) refl) (drop-append-add h _ m ∙ drop-drop m (length h) (replicate N 0) ∙ drop-replicate _ N 0)
    ∙ ap₂ (λ (a : List ℕ) (k : ℕ). h ++ (a ++ replicate k 0)) (ap (λ k. take k t) e ∙ take_min (N - length h) t) (omega arith)
