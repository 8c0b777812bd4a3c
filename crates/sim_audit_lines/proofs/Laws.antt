-- A line without the blanks at its end, by the place of its last mark; a line of the book, one byte further.
use Rattle.std.proofs.Common.{◌≡◌, ℕ, suc, ◌+◌, ◌-◌, ◌<◌, ◌≤◌, Bool, true, false, cond, List, [], ◌∷◌, ◌++◌, length, get_or, take, drop, sym, ap, ◌∙◌, append_assoc, add-one, arith, drop-cons}
use Rattle.std.proofs.Math.Seq.{take-suc}
use Rattle.std.proofs.lemmas.List.Sums.{suffix_len_is}
use Rattle.std.proofs.lemmas.Grind.{common_steps}
use Rattle.sim_audit_lines.specs.Recorded.{blank, trimmed, added, plain}

pub trim_all : (s : List ℕ) → ((k : ℕ) → k < length s → blank (get_or s k 0) ≡ true) → [] ≡ trimmed s
trim_all s h = let e = suffix_len_is blank s 0 0 (omega arith) (λ k _ b. h k b) (λ b. absurd (omega arith)) in grind (arith, common_steps, e)

pub trim_at : (s : List ℕ) (i : ℕ) → i < length s → blank (get_or s i 0) ≡ false → ((k : ℕ) → i < k → k < length s → blank (get_or s k 0) ≡ true) → take (i + 1) s ≡ trimmed s
trim_at s i b f h = let e = suffix_len_is blank s (i + 1) 0 (omega arith) (λ k l m. h k (omega arith) m) (λ _. grind (arith, common_steps, f)) in grind (arith, common_steps, e)

plain_step : (s : List ℕ) (i : ℕ) → i < length s → false ≡ added (drop i s) → plain (drop i s) ≡ get_or s i 0 ∷ plain (drop (suc i) s)
plain_step s i b f = let e = drop-cons s i 0 b in ap plain e ∙ ap (λ (v : Bool). cond v [] (get_or s i 0 ∷ plain (drop (suc i) s))) (sym (f ∙ ap added e))

pub plain_on : (s : List ℕ) (i : ℕ) → i < length s → false ≡ added (drop i s) → take i s ++ plain (drop i s) ≡ plain s → take (i + 1) s ++ plain (drop (i + 1) s) ≡ plain s
plain_on s i b f h = rw (add-one, take-suc s i 0 b, append_assoc) (ap (λ (x : List ℕ). take i s ++ x) (sym (plain_step s i b f)) ∙ h)
