-- After every list of calls no stream has given 2^40 + 10,000 words.
use mathlib.Core.Path.{◌≡◌, sym, subst}
use Prim.Native.Nat.{ℕ, zero, suc}
use native.Mathlib.Omega.{arith}
use mathlib.Core.Bool.{true}
use mathlib.Core.List.{List, [], ◌∷◌}
use Rattle.table_rows.specs.Lists.{Each}
use Rattle.spec_network.specs.Opening.{Settings, Opening, links}
use Rattle.spec_network.specs.Calls.{Call}
use Rattle.spec_network.specs.Questions.{Asked, Room, asked_in, first_no}
use Rattle.spec_network.specs.Tables.{Tables}
use Rattle.spec_network.specs.Real.{opening_of, opening_at}
use Rattle.spec_network.specs.Writes.{is_number, number_in, exit_t, tables_in}
use Rattle.spec_network.specs.Open.{limit_tests, asked_opening, open_number, open_tables}
use Rattle.spec_book.specs.Book.{Book, opened}
use Rattle.spec_book.specs.Demand3.{Item, own, others, reopen, AllAdmitted, tables_after, tables_at_end, book_after}
use Rattle.spec_book.proofs.Each.{every_each, each_replicate}
use Rattle.spec_book.proofs.Asking.{all_yes, apart_opening}
use Rattle.spec_book.proofs.Drawing.{by}
use Rattle.spec_book.proofs.Formed.{Four, bare}
use Rattle.spec_book.proofs.Unwritten.{same_after}
use Rattle.spec_book.proofs.Simulation.{step_wrote}
use Rattle.spec_book.proofs.Bounds.{DrawsFit, draws_fit}
use Rattle.spec_book.proofs.Final.{Bears, number_kept, held_after, open_bears}
use Rattle.spec_words.specs.Words.{Near, WordsNear}
use Rattle.spec_words.proofs.Recipients.{LiveNear, step_near}

module _ (o : Opening) where
  module _ (room : Room) (T : Tables) (b : Book) (c : Call) (h : Bears o T b) (g : DrawsFit (by o h.draws)) where
    call_near : WordsNear T → (n : ℕ) → n ≡ first_no (asked_in (by o h.draws) room h.kept c) → WordsNear (exit_t (by o h.draws) (is_number n) T c)
    call_near k zero e =
        let w = h.held.wrote in
        let s : LiveNear h.kept = subst LiveNear w.holds (record { links = k.links; fault = k.fault }) in
        let after = step_wrote (by o h.draws) h.limits room c T h.kept w h.held.fits (sym e) in
        let near = subst LiveNear (sym after.holds) (step_near (by o h.draws) h.limits g room c h.kept h.held.fits.engine.rules (sym e) s) in
        record { links = near.links; fault = near.fault }
    call_near k (suc n) e = k

  item_near : (b : Book) (T : Tables) (i : Item) → Bears o T b → DrawsFit (opening_at T) → WordsNear T → WordsNear (tables_after T i)
  item_near b T (own room c) h g k =
      let e = h.held.fixed.opening in
      subst (λ (q : Opening). WordsNear (tables_in q room T c)) (sym e) (call_near room T b c h (subst DrawsFit e g) k (number_in (by o h.draws) room T c) (number_kept o room T b h c))
  item_near b T (others X c) h g k = k
  item_near b T (reopen X y ms) h g k = k

  items_near : (is : List Item) (b : Book) (T : Tables) → Bears o T b → DrawsFit (opening_at T) → AllAdmitted is → WordsNear T → WordsNear (tables_at_end T is)
  items_near [] b T h g a k = k
  items_near (i ∷ is) b T h g a k =
      items_near is (book_after o b T i) (tables_after T i) (held_after o b T i h a.0) (subst (λ (q : Four). DrawsFit (opening_at (bare q))) (sym (same_after T i)) g) a.1 (item_near b T i h g k)

-- for every accepted opening, whatever tables it was lent, and every list of calls
pub words : (x : Settings) (masks : List ℕ) (lent : Tables) → open_number x masks lent ≡ 0 → (is : List Item) → AllAdmitted is → WordsNear (tables_at_end (open_tables x masks lent) is)
words x masks lent h is a =
    let o = opening_of x lent.names in
    let y : Each (λ (p : Asked). p.yes ≡ true) (asked_opening x masks lent) = all_yes (asked_opening x masks lent) (apart_opening x masks lent) h in
    let texts = (every_each (limit_tests x masks lent) y.1.0).1.0 in
    items_near o is (opened o masks) (open_tables x masks lent) (open_bears x masks lent h) (draws_fit x lent.names y.1.1.0 texts) a
    (record { links = each_replicate Near links 0 (omega arith); fault = omega arith })
