-- From the contracts to demand 3: whatever calls met their contracts one after the other, demand 3 holds of them.
use mathlib.Core.Path.{◌≡◌, refl, sym, ap, ◌∙◌, subst}
use mathlib.Core.List.{List, [], ◌∷◌, map}
use Rattle.spec_network.specs.Calls.{silent}
use Rattle.spec_network.specs.Tables.{Tables}
use Rattle.spec_network.specs.Real.{opening_at}
use Rattle.spec_network.specs.Open.{open_tables, open_exit}
use Rattle.spec_network.specs.Writes.{Reply, call_tables, call_reply, call_output}
use Rattle.spec_book.specs.Demand3.{AllAdmitted, replies_to, tables_at_end}
use Rattle.spec_book.specs.PublicContracts.{Called, Opened, MeetsOpening, Done, here, elsewhere, refused_opening, Follow, item_of, reply_of, last_tables, OutputsAre, Tied}
use Rattle.spec_book.proofs.Final.{kept, demand3}

admitted : (ds : List Done) (T : Tables) → Follow T ds → AllAdmitted (map item_of ds)
admitted [] T f = tt
admitted (here a ∷ ds) T f = (tt, admitted ds a.exit f.2)
admitted (elsewhere a ∷ ds) T f = (sym (ap (λ (r : Reply). r.number) f.0.0) ∙ f.1, admitted ds T f.2)
admitted (refused_opening r ∷ ds) T f = ((λ e. f.1 (f.0.0 ∙ e)), admitted ds T f.2)

-- a call's exit is what the next one gets
next : (a : Called) (T : Tables) → call_tables a.entry a.call ≡ a.exit → a.entry ≡ T → a.exit ≡ call_tables T a.call
next a T e p = sym e ∙ ap (λ (W : Tables). call_tables W a.call) p

same_replies : (ds : List Done) (T : Tables) → Follow T ds → map reply_of ds ≡ replies_to T (map item_of ds)
same_replies [] T f = refl
same_replies (here a ∷ ds) T f =
    let rest = subst (λ (W : Tables). map reply_of ds ≡ replies_to W (map item_of ds)) (next a T f.0.1 f.1) (same_replies ds a.exit f.2) in
    let one = f.0.0 ∙ ap (λ (W : Tables). call_reply W a.call) f.1 in
    (λ j. one j ∷ rest j)
same_replies (elsewhere a ∷ ds) T f = (λ j. f.0.0 j ∷ same_replies ds T f.2 j)
same_replies (refused_opening r ∷ ds) T f = (λ j. record { number = f.0.0 j; answer = silent } ∷ same_replies ds T f.2 j)

same_last : (ds : List Done) (T : Tables) → Follow T ds → last_tables T ds ≡ tables_at_end T (map item_of ds)
same_last [] T f = refl
same_last (here a ∷ ds) T f = same_last ds a.exit f.2 ∙ ap (λ (W : Tables). tables_at_end W (map item_of ds)) (next a T f.0.1 f.1)
same_last (elsewhere a ∷ ds) T f = same_last ds T f.2
same_last (refused_opening r ∷ ds) T f = same_last ds T f.2

same_outputs : (ds : List Done) (T : Tables) → Follow T ds → OutputsAre T ds
same_outputs [] T f = tt
same_outputs (here a ∷ ds) T f = (
  f.0.2 ∙ ap (λ (W : Tables). call_output W a.call a.lent) f.1,
  subst (λ (W : Tables). OutputsAre W ds) (next a T f.0.1 f.1) (same_outputs ds a.exit f.2),
)
same_outputs (elsewhere a ∷ ds) T f = (f.0.2 ∙ (kept (opening_at T) T (item_of (elsewhere a)) (admitted (elsewhere a ∷ []) T (f.0, f.1, tt)).0).1 a.lent, same_outputs ds T f.2)
same_outputs (refused_opening r ∷ ds) T f = same_outputs ds T f.2

module _ (r : Opened) (m : MeetsOpening r) (accepted : r.number ≡ 0) where
  -- an accepted opening leaves the tables of the book's opening
  open_exit_lem : r.exit ≡ open_tables r.settings r.masks r.entry
  open_exit_lem = sym m.1 ∙ ap (open_exit r.settings r.masks r.entry) (sym m.0 ∙ accepted)

  -- THE TIE: after an accepted opening, for every list of calls whose contracts are met, each on the tables that the one before left
  pub tied : (ds : List Done) → Follow r.exit ds → Tied r.settings r.masks r.entry ds
  tied ds f =
      let g = subst (λ (W : Tables). Follow W ds) open_exit_lem f in
      let T = open_tables r.settings r.masks r.entry in
      record {
        demand3 = demand3 r.settings r.masks r.entry (sym m.0 ∙ accepted) (map item_of ds) (admitted ds T g);
        replies = same_replies ds T g;
        outputs = same_outputs ds T g;
        tables = same_last ds T g;
      }
