-- What a copy's words stored leave. Assumes nothing.
use mathlib.Core.Path.{◌≡◌, refl, ap, ◌∙◌}
use mathlib.Core.List.{List, [], ◌∷◌}
use Prim.Native.Nat.{ℕ, ◌+◌, ◌≤◌}
use native.Mathlib.Omega.{arith}
use lib.ListN.{length}
use Rattle.table_shift.specs.Shift.{put_words}
use Rattle.table_shift.proofs.Laws.{stores}
use Rattle.table_shift.proofs.Blocks.{put_stores}
use Rattle.table_delivery.specs.Delivery as delivery
use Rattle.table_waiting.specs.declared.Copy.{Copy}
use Rattle.table_waiting.specs.Waiting.{width, words}
pub use Rattle.table_waiting.specs.Waiting.{exact}

-- what `put` leaves
pub put_made : (ws : List ℕ) (b : ℕ) (c : Copy) (l : List ℕ) → b + width ≤ length ws → l ≡ put_words ws b (delivery.words c.delivery)
    → stores l b 8 (c.sequence ∷ c.original ∷ c.id ∷ c.tag ∷ []) ≡ put_words ws b (words c)
put_made ws b c l h e =
    let more : List ℕ = c.sequence ∷ c.original ∷ c.id ∷ c.tag ∷ [] in
    ap (λ (x : List ℕ). stores x b 8 more) e ∙ put_stores ws b 8 (delivery.words c.delivery) more refl (omega arith)
