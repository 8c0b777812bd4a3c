-- The five counts of an accept.
use mathlib.Core.Path.{◌≡◌, refl, ap, ◌∙◌}
use Prim.Native.Nat.{ℕ, suc}
use native.Mathlib.Omega.{arith}
use mathlib.Core.List.{List, [], ◌∷◌, map}
use lib.ListN.{length}
use Rattle.spec_network.specs.Accept.{Message, Fate, sent, deduplicated, partition, loss, fault, Counts, add, total, Booked, booked, tally, offered}
use Rattle.spec_network.specs.Layout.{plain}
use Rattle.spec_network.specs.Live.{LiveBy}
use Rattle.spec_network.specs.Opening.{Opening}

add_total : (k : Fate) (n : Counts) → total (add k n) ≡ suc (total n)
add_total deduplicated n = omega arith
add_total partition n = omega arith
add_total loss n = omega arith
add_total fault n = omega arith
add_total sent n = omega arith

tally_total : (bs : List Booked) → total (tally bs) ≡ length bs
tally_total [] = refl
tally_total (b ∷ bs) = add_total b.fate (tally bs) ∙ ap suc (tally_total bs)

module _ (o : Opening) (m : Message) where
  -- each recipient goes under one class
  pub booked_tills : (s : LiveBy plain) (ts : List ℕ) → map (λ (x : Booked). x.till) (booked o m s ts) ≡ ts
  booked_tills s [] = refl
  booked_tills s (t ∷ ts) = ap (λ (l : List ℕ). t ∷ l) (booked_tills (offered o m s t) ts)

  -- sent + deduplicated + partition + loss + fault is the number of the selected tills
  pub booked_total : (s : LiveBy plain) (ts : List ℕ) → total (tally (booked o m s ts)) ≡ length ts
  booked_total s ts = tally_total (booked o m s ts) ∙ go s ts
    where
      go : (s : LiveBy plain) (ts : List ℕ) → length (booked o m s ts) ≡ length ts
      go s [] = refl
      go s (t ∷ ts) = ap suc (go (offered o m s t) ts)
