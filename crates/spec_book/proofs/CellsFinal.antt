-- Every cell fits its memory after every list of calls.
use mathlib.Core.Path.{◌≡◌, sym, subst}
use Prim.Native.Nat.{ℕ, zero, suc}
use mathlib.Core.Bool.{true}
use mathlib.Core.List.{List, [], ◌∷◌}
use Rattle.table_rows.specs.Lists.{Each}
use Rattle.spec_network.specs.Opening.{Settings, Opening}
use Rattle.spec_network.specs.Calls.{Call}
use Rattle.spec_network.specs.Questions.{Asked, Room, asked_in, first_no}
use Rattle.spec_network.specs.Tables.{Tables, setup_of}
use Rattle.spec_network.specs.Real.{opening_of, opening_at}
use Rattle.spec_network.specs.Writes.{is_number, number_in, exit_t, tables_in}
use Rattle.spec_network.specs.Open.{limit_tests, asked_opening, open_number, open_tables}
use Rattle.spec_book.specs.Book.{Book, opened}
use Rattle.spec_book.specs.Demand3.{Item, own, others, reopen, AllAdmitted, tables_after, tables_at_end, book_after}
use Rattle.spec_book.specs.Cells.{Fit, CellsFit, CallFits, ItemFits, ItemsFit}
use Rattle.spec_book.proofs.Each.{every_each}
use Rattle.spec_book.proofs.Asking.{all_yes, apart_opening}
use Rattle.spec_book.proofs.Drawing.{by}
use Rattle.spec_book.proofs.Formed.{Four, bare}
use Rattle.spec_book.proofs.Unwritten.{same_after}
use Rattle.spec_book.proofs.Bounds.{DrawsFit, draws_fit}
use Rattle.spec_book.proofs.Cells.{step_cells}
use Rattle.spec_book.proofs.CellsOpen.{open_cells}
use Rattle.spec_book.proofs.Final.{Bears, number_kept, held_after, open_bears}

module _ (o : Opening) where
  module _ (room : Room) (T : Tables) (b : Book) (c : Call) (h : Bears o T b) (g : DrawsFit (by o h.draws)) where
    call_cells : CallFits c → CellsFit T → (n : ℕ) → n ≡ first_no (asked_in (by o h.draws) room h.kept c) → CellsFit (exit_t (by o h.draws) (is_number n) T c)
    call_cells f k zero e = step_cells (by o h.draws) h.limits g room c T h.kept h.held.wrote h.held.fits (sym e) f k
    call_cells f k (suc n) e = k

  item_cells : (b : Book) (T : Tables) (i : Item) → Bears o T b → DrawsFit (opening_at T) → ItemFits i → CellsFit T → CellsFit (tables_after T i)
  item_cells b T (own room c) h g f k =
      let e = h.held.fixed.opening in
      subst (λ (q : Opening). CellsFit (tables_in q room T c)) (sym e) (call_cells room T b c h (subst DrawsFit e g) f k (number_in (by o h.draws) room T c) (number_kept o room T b h c))
  item_cells b T (others X c) h g f k = k
  item_cells b T (reopen X y ms) h g f k = k

  items_cells : (is : List Item) (b : Book) (T : Tables) → Bears o T b → DrawsFit (opening_at T) → AllAdmitted is → ItemsFit is → CellsFit T → CellsFit (tables_at_end T is)
  items_cells [] b T h g a f k = k
  items_cells (i ∷ is) b T h g a f k =
      items_cells is (book_after o b T i) (tables_after T i) (held_after o b T i h a.0) (subst (λ (q : Four). DrawsFit (opening_at (bare q))) (sym (same_after T i)) g) a.1 f.1 (item_cells b T i h g f.0 k)

-- for every accepted opening on cells that fit, by settings of 64 bits, and every list of calls
pub cells : (x : Settings) (masks : List ℕ) (lent : Tables) → open_number x masks lent ≡ 0 → Fit 64 (setup_of x) → CellsFit lent
    → (is : List Item) → AllAdmitted is → ItemsFit is → CellsFit (tables_at_end (open_tables x masks lent) is)
cells x masks lent h e f is a q =
    let o = opening_of x lent.names in
    let y : Each (λ (p : Asked). p.yes ≡ true) (asked_opening x masks lent) = all_yes (asked_opening x masks lent) (apart_opening x masks lent) h in
    let texts = (every_each (limit_tests x masks lent) y.1.0).1.0 in
    items_cells o is (opened o masks) (open_tables x masks lent) (open_bears x masks lent h) (draws_fit x lent.names y.1.1.0 texts) a q (open_cells x masks lent h e f)
