-- Document 01, network: the fields of `DeliveryRecord`, as a row of eight words.
use Rattle.std.specs.Prelude.{List, [], ◌∷◌, ℕ, get_or, refl}
use Rattle.std.proofs.Common.{arith}
use Rattle.table_shift.proofs.Blocks.{cells_eq}
use Rattle.table_rows.specs.Table.{Form, Exact}
use Rattle.table_delivery.specs.declared.Delivery.{Delivery}

abbrev pub width : ℕ
width = 8

-- the delivery at the head of a list of words
abbrev pub read : List ℕ → Delivery
read l = record { from = get_or l 0 0; to = get_or l 1 0; kind = get_or l 2 0; class = get_or l 3 0; sent = get_or l 4 0; time = get_or l 5 0; scope = get_or l 6 0; wire = get_or l 7 0 }

abbrev pub words : Delivery → List ℕ
words d = d.from ∷ d.to ∷ d.kind ∷ d.class ∷ d.sent ∷ d.time ∷ d.scope ∷ d.wire ∷ []

abbrev pub form : Form Delivery
form = record { width = width; read = read; words = words }

-- a delivery and its words: each way undoes the other
pub exact : Exact form
exact = record { long = λ d. refl; back = λ d m. refl; whole = λ l h. cells_eq l 0 0 width (omega arith) }
