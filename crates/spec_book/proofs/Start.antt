-- An accepted opening leaves tables that hold the book's opening.
use mathlib.Core.Path.{◌≡◌, refl, sym, ap, ◌∙◌}
use Prim.Native.Nat.{ℕ, zero, suc, ◌+◌, ◌*◌, ◌≤◌, ◌<◌}
use native.Mathlib.Omega.{arith}
use mathlib.Core.Bool.{Bool, true, false, cond, ◌&&◌}
use mathlib.Core.List.{List, [], ◌∷◌, ◌++◌, append-nil}
use lib.Dec.{eqb, ltb}
use lib.ListN.{length, get_or, drop, replicate, length-append, length-drop, length-replicate, get_or-replicate, get_or-append}
use borrow.Author.Tests.{eq-eqb, eqb-true, leb-true}
use Rattle.table_rows.specs.Rows.{all_of, flat}
use Rattle.table_rows.specs.Lists.{Each, up_to}
use Rattle.table_rows.specs.Table.{rows_of, over}
use Rattle.table_rows.proofs.Lists.{length_up_to}
use Rattle.table_rows.proofs.Table.{rows_over, length_words}
use Rattle.table_marks.specs.Marks.{ids_of}
use Rattle.table_ring.specs.Ring.{first_at, ring_from, slot_at}
use Rattle.table_rings.specs.Rings as rings
use Rattle.table_rings.specs.declared.Entry.{Entry}
use Rattle.table_log.specs.Log as log
use Rattle.table_log.proofs.Draining.{drained_log, drained_sound}
use Rattle.link_geography.specs.Geography.{at_least_one, link_in, link_admitted}
use Rattle.spec_network.specs.Lists.{every, below}
use Rattle.spec_network.specs.Opening.{Sizes, Settings, links}
use Rattle.spec_network.specs.Layout.{table}
use Rattle.spec_network.specs.Live.{up_till, open_tills, opening_live, rings_of}
use Rattle.spec_network.specs.Questions.{Asked}
use Rattle.spec_network.specs.Tables.{cell, Tables, live, setup_of, setup_width, till_form, ids_start}
use Rattle.spec_network.specs.Limits.{size_tests}
use Rattle.spec_network.specs.Real.{key_width, priced_by, region_at, opening_at}
use Rattle.spec_network.specs.Lent.{setup_tests, names_tests, keys_tests, prices_tests}
use Rattle.spec_network.specs.Open.{lent_tests, limit_tests, asked_opening, open_number, open_tables}
use Rattle.spec_network.proofs.Opened.{length_keys, length_priced, priced_admitted, region_below}
use Rattle.spec_book.proofs.Each.{each_all, each_every, every_each, each_up_to, join, True}
use Rattle.spec_book.proofs.Asking.{all_yes, apart_opening}
use Rattle.spec_book.proofs.Fitting.{Limited}
use Rattle.spec_book.proofs.StepFits.{opening_fits}
use Rattle.spec_book.proofs.Formed.{four_of, Fixed, Formed}
use Rattle.spec_book.proofs.Parts.{till_exact}
use Rattle.spec_book.proofs.Held.{Held}

-- n zeros, and behind them what stood there
zero_front : (n : ℕ) (l : List ℕ) (i : ℕ) → i < n → cell (replicate n 0 ++ drop n l) i ≡ 0
zero_front n l i h = get_or-append (replicate n 0) (drop n l) 0 i (omega (arith, length-replicate {A = ℕ} n 0)) ∙ get_or-replicate n i 0 0 h

length_zeros : (n : ℕ) (l : List ℕ) → n ≤ length l → length (replicate n 0 ++ drop n l) ≡ length l
length_zeros n l h = length-append (replicate n 0) (drop n l) ∙ omega (arith, length-replicate {A = ℕ} n 0, length-drop n l)

all_empty : {A : Type 0} (n : ℕ) (f : ℕ → List A) → ((k : ℕ) → k < n → f k ≡ []) → up_to n f ≡ replicate n []
all_empty zero f h = refl
all_empty (suc n) f h = (λ j. h 0 (omega arith) j ∷ all_empty n (λ k. f (suc k)) (λ k l. h (suc k) (omega arith)) j)

module _ (x : Settings) (masks : List ℕ) (lent : Tables) (accepted : open_number x masks lent ≡ 0) where
  abbrev opened : Tables
  opened = open_tables x masks lent

  abbrev z : Sizes
  z = x.sizes

  yes : Each (λ (q : Asked). q.yes ≡ true) (asked_opening x masks lent)
  yes = all_yes (asked_opening x masks lent) (apart_opening x masks lent) accepted

  sized : Each True (lent_tests x masks lent)
  sized = every_each (lent_tests x masks lent) yes.0

  limits : Each True (limit_tests x masks lent)
  limits = every_each (limit_tests x masks lent) yes.1.0

  -- ---- The tables that the opening alone writes

  key_long : length x.fault_key ≡ key_width
  key_long = eqb-true _ _ sized.1.1.1.1.1.1.1.1.1.1.1.1.1.0

  setup_long : length (setup_of x) ≡ setup_width
  setup_long = omega (arith, key_long)

  prices_passed : every (prices_tests opened) ≡ true
  prices_passed = each_every (prices_tests opened) (eq-eqb _ _ (length_priced x), (go (eqb x.plan.planned 0) refl, tt))
    where
      go : (b : Bool) → eqb x.plan.planned 0 ≡ b
          → cond b true (all_of (λ i. link_admitted (link_in (priced_by x) i)) (below (at_least_one x.plan.regions * at_least_one x.plan.regions)) && all_of (λ t. ltb (region_at x.plan (priced_by x) t) (at_least_one x.plan.regions)) (below x.sizes.tills)) ≡ true
      go true e = refl
      go false e =
          let r : ℕ = at_least_one x.plan.regions in
          join _ _
          (each_all (λ i. link_admitted (link_in (priced_by x) i)) (below (r * r)) (each_up_to (λ i. link_admitted (link_in (priced_by x) i) ≡ true) (r * r) (λ i. i) (λ i l. priced_admitted x e i l)))
          (each_all (λ t. ltb (region_at x.plan (priced_by x) t) r) (below x.sizes.tills) (each_up_to (λ t. ltb (region_at x.plan (priced_by x) t) r ≡ true) x.sizes.tills (λ i. i) (λ t l. region_below x e t l)))

  fixed : Fixed (opening_at opened) (four_of opened)
  fixed = record {
    setup = each_every (setup_tests opened) (eq-eqb _ _ setup_long, (limits.0, (yes.1.1.0, tt)));
    names = each_every (names_tests z opened) (sized.1.1.0, (limits.1.0, tt));
    keys = each_every (keys_tests z opened) (eq-eqb _ _ (length_keys x), tt);
    prices = prices_passed;
    opening = refl;
  }

  -- ---- The others

  length_tills : length opened.tills ≡ z.tills * till_form.width
  length_tills = length_words till_form till_exact (open_tills masks z.tills) ∙ ap (λ (k : ℕ). k * till_form.width) (length_up_to z.tills (λ t. up_till (get_or masks t 0)))

  read_tills : rows_of till_form opened.tills z.tills ≡ open_tills masks z.tills
  unfolding over
  read_tills =
      let l = open_tills masks z.tills in
      let n : length l ≡ z.tills = length_up_to z.tills (λ t. up_till (get_or masks t 0)) in
      ap (rows_of till_form (flat till_form.words l)) (sym n)
      ∙ ap (λ (w : List ℕ). rows_of till_form w (length l)) (sym (append-nil (flat till_form.words l)) ∙ ap (λ (w : List ℕ). flat till_form.words l ++ w) (sym (nothing (length l * till_form.width))))
      ∙ rows_over till_form till_exact l []
    where
      nothing : (n : ℕ) → ◌≡◌ {A = List ℕ} (drop n []) []
      nothing zero = refl
      nothing (suc n) = refl

  abbrev heads : ℕ
  heads = rings_of z * rings.head_width

  long_seen : length lent.seen ≡ z.tills + z.tills * z.seen_slots
  long_seen = eqb-true _ _ sized.1.1.1.1.1.1.1.0

  long_rings : length lent.rings ≡ rings_of z * (rings.head_width + rings.span)
  long_rings = eqb-true _ _ sized.1.1.1.1.1.1.1.1.1.0

  ring_head : (r i : ℕ) → r < rings_of z → i < rings.head_width → cell opened.rings (rings.head_of r + i) ≡ 0
  ring_head r i h l = zero_front heads lent.rings (rings.head_of r + i) (omega arith)

  ring_zero : (r : ℕ) → r < rings_of z → cell opened.rings (rings.head_of r) ≡ 0
  ring_zero r h = zero_front heads lent.rings (rings.head_of r) (omega arith)

  ring_empty : (r : ℕ) → r < rings_of z → rings.entries (rings_of z) opened.rings r ≡ []
  ring_empty r h = ap (λ (n : ℕ). ring_of n) (ring_zero r h)
    where
      ring_of : ℕ → List Entry
      ring_of n = ring_from (slot_at rings.form rings.slots (rings.head_of r) (rings.base_of (rings_of z) r) opened.rings) rings.slots (first_at (rings.head_of r) opened.rings) 0 n

  formed : Formed z opened
  unfolding log.cleared_at
  formed = record {
    net = record { size = refl; waiting = omega arith; rules = omega arith; blocks = omega arith };
    tills = length_tills;
    words = length-replicate {A = ℕ} links 0;
    seen = record {
      size = length_zeros z.tills lent.seen (omega (arith, long_seen)) ∙ long_seen;
      counts = λ t h. rw (zero_front z.tills lent.seen t h) (omega arith);
    };
    waiting = eqb-true _ _ sized.1.1.1.1.1.1.1.1.0;
    rings = record {
      size = length_zeros heads lent.rings (omega (arith, long_rings)) ∙ long_rings;
      heads = λ r h. record { counted = rw (ring_zero r h) (omega arith); begun = rw (ring_head r 1 h (omega arith)) (omega arith) };
    };
    rules = eqb-true _ _ sized.1.1.1.1.1.1.1.1.1.1.0;
    blocks = eqb-true _ _ sized.1.1.1.1.1.1.1.1.1.1.1.0;
    log = record {
      size = let e = eqb-true _ _ sized.1.1.1.1.1.1.1.1.1.1.1.1.0 in length_zeros log.records_at lent.log (omega (arith, e)) ∙ e;
      head = drained_sound z.log_slots lent.log;
    };
  }

  holds : live z opened ≡ opening_live table z masks
  holds = λ j. record {
    tills = read_tills j;
    seen = all_empty z.tills (λ t. ids_of opened.seen (ids_start z t) (cell opened.seen t)) (λ t h. ap (ids_of opened.seen (ids_start z t)) (zero_front z.tills lent.seen t h)) j;
    engine = record { blocks = []; rules = []; installed = 0; words = 0 };
    rings = all_empty (rings_of z) (rings.entries (rings_of z) opened.rings) ring_empty j;
    words = replicate links 0;
    queue = record { sequence = 0; waiting = [] };
    log = drained_log z.log_slots lent.log j;
  }

  pub limited : Limited z
  limited =
      let l = every_each (size_tests x) limits.0 in
      record { tills = leb-true _ _ l.0; seen = leb-true _ _ l.1.1.1.1.1.1.1.0; waiting = leb-true _ _ l.1.1.1.1.1.0; log = leb-true _ _ l.1.1.1.1.1.1.1.1.0; types = leb-true _ _ l.1.0; classes = leb-true _ _ l.1.1.0; shards = leb-true _ _ l.1.1.1.0 }

  pub open_held : Held (opening_at (open_tables x masks lent)) (open_tables x masks lent) (opening_live table x.sizes masks)
  open_held = record { fixed = fixed; wrote = record { formed = formed; holds = holds }; fits = opening_fits (opening_at opened) masks yes.1.1.1.0 }
