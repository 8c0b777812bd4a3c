-- The pass: one copy more of those at the front, table by table. Assumes nothing.
use mathlib.Core.Path.{◌≡◌, refl, sym, ap, ◌∙◌, subst}
use mathlib.Core.Bool.{Bool, true, false, cond, not}
use mathlib.Core.List.{List, [], ◌∷◌, ◌++◌, append-nil, map}
use Prim.Native.Nat.{ℕ, suc, ◌+◌, ◌*◌, ◌≤◌, ◌<◌}
use native.Mathlib.Nat.{mul-le-mul_right}
use native.Mathlib.Omega.{arith}
use lib.ListN.{length, take, drop, length-append}
use lib.Seq.{take-add}
use Rattle.table_shift.specs.Shift.{put_words}
use Rattle.table_shift.proofs.Blocks.{cells, cells_eq}
use Rattle.table_rows.specs.Rows.{keep, pick}
use Rattle.table_rows.specs.Table.{Exact, over}
use Rattle.table_rows.proofs.Rows.{rows_more}
use Rattle.table_rows.proofs.Table.{over_more}
use Rattle.table_log.specs.Log.{pushed}
use Rattle.table_waiting.specs.declared.Copy.{Copy}
use Rattle.table_waiting.specs.Waiting as waiting
use Rattle.table_waiting.proofs.Reading as waiting-laws
use Rattle.spec_network.specs.Lists.{bit, count}
use Rattle.spec_network.specs.Live.{Live}
use Rattle.spec_network.specs.Flush.{Row, stops, row_of, handled, lands, rows_of, drops_of}
use Rattle.spec_network.specs.Writes.{row_width, row_words}
use Rattle.call_flush_pass.specs.declared.Extents.{Extents}
use Rattle.call_flush_pass.specs.declared.Moved.{Moved}
use Rattle.call_flush_pass.specs.declared.Taken.{Taken}
use Rattle.call_flush_pass.specs.Pass.{
  flush_view,
  taken_by,
  row_as,
  handled_by,
  cleared_one,
  cleared_by,
  logged_by,
  row_by,
  dropped_more,
  landed_more,
  counted_by,
  cleared,
  recorded,
  row_form,
  written,
  moved_of,
  Near,
  SeenRoom,
  Due,
  Landed,
  Turned,
  Passed,
}
use Rattle.call_flush_pass.proofs.Seen.{cleared_room}

-- ---- The output's rows

whole : (l : List ℕ) → row_width ≤ length l → row_words (row_form.read l) ≡ take row_width l
whole l h =
    ap (λ (w : List ℕ). w ++ cells l 0 waiting.width 2) ((waiting-laws.exact).whole l (omega arith))
    ∙ ap (λ (w : List ℕ). take waiting.width l ++ w) (cells_eq l 0 waiting.width 2 (omega arith))
    ∙ sym (take-add waiting.width 2 l)

pub exact : Exact row_form
exact = record { long = λ r. refl; back = λ r m. refl; whole = whole }

-- ---- One copy: stopped, or landed

module _ (z : Extents) (tills blocks : List ℕ) (c : Copy) (m : Moved) where
  abbrev s : Live
  s = flush_view z tills blocks

  pub turn_dropped : (ns ns' ls os : List ℕ) (r : Moved) → stops (flush_view z tills blocks) c ≡ true → ns' ≡ cleared_one z.tills z.slots c ns → r ≡ dropped_more m
      → Turned z (flush_view z tills blocks) c m ns ns' ls ls os os r
  unfolding cleared_by logged_by row_by counted_by
  turn_dropped ns ns' ls os r h en er = record {
    seen = en ∙ ap (λ (b : Bool). cond b (cleared_one z.tills z.slots c ns) ns) (sym h);
    log = ap (λ (b : Bool). cond b ls (pushed z.log ls c.delivery)) (sym h);
    out = ap (λ (b : Bool). cond b os (put_words os (m.rows * row_width) (row_words (row_of s c)))) (sym h);
    counts = er ∙ ap (λ (b : Bool). cond b (dropped_more m) (landed_more (bit (handled (row_of s c))) m)) (sym h);
  }

  own_row : row_as c (taken_by z.tills tills c) ≡ row_of (flush_view z tills blocks) c
  unfolding taken_by flush_view
  own_row = refl

  own_handled : handled_by (taken_by z.tills tills c) ≡ bit (handled (row_of (flush_view z tills blocks) c))
  unfolding handled_by taken_by flush_view
  own_handled = refl

  pub turn_landed : (ns ls ls' os os' : List ℕ) (r : Moved) (k : Taken) → stops (flush_view z tills blocks) c ≡ false → k ≡ taken_by z.tills tills c → Landed z k c m ls ls' os os' r
      → Turned z (flush_view z tills blocks) c m ns ns ls ls' os os' r
  unfolding cleared_by logged_by row_by counted_by
  turn_landed ns ls ls' os os' r k h e l = record {
    seen = ap (λ (b : Bool). cond b (cleared_one z.tills z.slots c ns) ns) (sym h);
    log = l.log ∙ ap (λ (b : Bool). cond b ls (pushed z.log ls c.delivery)) (sym h);
    out = l.out ∙ ap (λ (q : Taken). put_words os (m.rows * row_width) (row_words (row_as c q))) e ∙ ap (λ (x : Row). put_words os (m.rows * row_width) (row_words x)) own_row
        ∙ ap (λ (b : Bool). cond b os (put_words os (m.rows * row_width) (row_words (row_of s c)))) (sym h);
    counts = l.counts ∙ ap (λ (q : Taken). landed_more (handled_by q) m) e ∙ ap (λ (x : ℕ). landed_more x m) own_handled
        ∙ ap (λ (b : Bool). cond b (dropped_more m) (landed_more (bit (handled (row_of s c))) m)) (sym h);
  }

-- ---- One copy more behind those that are done

pub length_map : {A B : Type 0} (f : A → B) (l : List A) → length (map f l) ≡ length l
length_map f [] = refl
length_map f (x ∷ l) = ap suc (length_map f l)

module _ (s : Live) (c : Copy) where
  keep_snoc : (q : Copy → Bool) (cs : List Copy) → keep q (cs ++ (c ∷ [])) ≡ keep q cs ++ keep q (c ∷ [])
  keep_snoc q [] = refl
  keep_snoc q (x ∷ cs) = go (q x) (keep_snoc q cs)
    where
      go : (b : Bool) → keep q (cs ++ (c ∷ [])) ≡ keep q cs ++ keep q (c ∷ []) → pick b (x ∷ keep q (cs ++ (c ∷ []))) (keep q (cs ++ (c ∷ []))) ≡ pick b (x ∷ keep q cs) (keep q cs) ++ keep q (c ∷ [])
      go true h = ap (λ (l : List Copy). x ∷ l) h
      go false h = h

  pub cleared_snoc : (tills slots : ℕ) (cs : List Copy) (seen : List ℕ) → cleared tills slots s (cs ++ (c ∷ [])) seen ≡ cleared_by tills slots s c (cleared tills slots s cs seen)
  unfolding cleared
  cleared_snoc tills slots [] seen = refl
  cleared_snoc tills slots (x ∷ cs) seen = cleared_snoc tills slots cs (cleared_by tills slots s x seen)

  recorded_append : (places : ℕ) (cs ds : List Copy) (log : List ℕ) → recorded places (cs ++ ds) log ≡ recorded places ds (recorded places cs log)
  unfolding recorded
  recorded_append places [] ds log = refl
  recorded_append places (x ∷ cs) ds log = recorded_append places cs ds (pushed places log x.delivery)

  one_recorded : (places : ℕ) (log : List ℕ) → recorded places (lands s (c ∷ [])) log ≡ logged_by places s c log
  unfolding recorded logged_by
  one_recorded places log = go (stops s c)
    where
      go : (b : Bool) → recorded places (pick (not b) (c ∷ []) []) log ≡ cond b log (pushed places log c.delivery)
      go true = refl
      go false = refl

  pub recorded_snoc : (places : ℕ) (cs : List Copy) (log : List ℕ) → recorded places (lands s (cs ++ (c ∷ []))) log ≡ logged_by places s c (recorded places (lands s cs) log)
  recorded_snoc places cs log =
      ap (λ (l : List Copy). recorded places l log) (keep_snoc (λ x. not (stops s x)) cs)
      ∙ recorded_append places (lands s cs) (lands s (c ∷ [])) log ∙ one_recorded places (recorded places (lands s cs) log)

  map_snoc : (r : Row) (f : Copy → Row) (cs : List Copy) → f c ≡ r → map f (cs ++ (c ∷ [])) ≡ map f cs ++ (r ∷ [])
  map_snoc r f [] e = ap (λ (x : Row). x ∷ []) e
  map_snoc r f (x ∷ cs) e = ap (λ (l : List Row). f x ∷ l) (map_snoc r f cs e)

  dropped_lands : (cs : List Copy) → stops s c ≡ true → lands s (cs ++ (c ∷ [])) ≡ lands s cs
  dropped_lands cs h = keep_snoc (λ x. not (stops s x)) cs ∙ ap (λ (b : Bool). lands s cs ++ pick (not b) (c ∷ []) []) h ∙ append-nil (lands s cs)

  landed_lands : (cs : List Copy) → stops s c ≡ false → lands s (cs ++ (c ∷ [])) ≡ lands s cs ++ (c ∷ [])
  landed_lands cs h = keep_snoc (λ x. not (stops s x)) cs ∙ ap (λ (b : Bool). lands s cs ++ pick (not b) (c ∷ []) []) h

  landed_rows : (cs : List Copy) → stops s c ≡ false → rows_of s (cs ++ (c ∷ [])) ≡ rows_of s cs ++ (row_of s c ∷ [])
  landed_rows cs h = ap (map (row_of s)) (landed_lands cs h) ∙ map_snoc (row_of s c) (row_of s) (lands s cs) refl

  pub written_snoc : (cs : List Copy) (out : List ℕ) → (length (lands s cs) + 1) * row_width ≤ length out
      → written s (cs ++ (c ∷ [])) out ≡ row_by s c (length (lands s cs)) (written s cs out)
  unfolding written row_by
  written_snoc cs out room = go (stops s c) refl
    where
      go : (b : Bool) → stops s c ≡ b
          → over row_form (rows_of s (cs ++ (c ∷ []))) out ≡ cond b (over row_form (rows_of s cs) out)
          (put_words (over row_form (rows_of s cs) out) (length (lands s cs) * row_width) (row_words (row_of s c)))
      go true h = ap (λ (l : List Copy). over row_form (map (row_of s) l) out) (dropped_lands cs h)
      go false h = ap (λ (l : List Row). over row_form l out) (landed_rows cs h) ∙
          sym (over_more row_form exact (rows_of s cs) out (length (lands s cs)) (row_of s c) (length_map (row_of s) (lands s cs)) room)

  count_snoc : {A : Type 0} (p : A → Bool) (l : List A) (a : A) → count p (l ++ (a ∷ [])) ≡ count p l + bit (p a)
  count_snoc p [] a = let e : bit (p a) + 0 ≡ 0 + bit (p a) = omega arith in e
  count_snoc p (x ∷ l) a = let h = count_snoc p l a in let e : bit (p x) + count p (l ++ (a ∷ [])) ≡ bit (p x) + count p l + bit (p a) = omega arith in e

  pub moved_snoc : (cs : List Copy) → moved_of s (cs ++ (c ∷ [])) ≡ counted_by s c (moved_of s cs)
  unfolding moved_of counted_by dropped_more landed_more
  moved_snoc cs = go (stops s c) refl
    where
      go : (b : Bool) → stops s c ≡ b
          → moved_of s (cs ++ (c ∷ [])) ≡ cond b (record { rows = length (lands s cs); delivered = count handled (rows_of s cs); dropped = drops_of s cs + 1 })
          (record { rows = length (lands s cs) + 1; delivered = count handled (rows_of s cs) + bit (handled (row_of s c)); dropped = drops_of s cs })
      go true h =
          let d : drops_of s (cs ++ (c ∷ [])) ≡ drops_of s cs + 1 = count_snoc (stops s) cs c ∙ ap (λ (b : Bool). drops_of s cs + bit b) h in
          λ j. record { rows = length (dropped_lands cs h j); delivered = count handled (map (row_of s) (dropped_lands cs h j)); dropped = d j }
      go false h =
          let d : drops_of s (cs ++ (c ∷ [])) ≡ drops_of s cs = count_snoc (stops s) cs c ∙ ap (λ (b : Bool). drops_of s cs + bit b) h ∙
          (let z : drops_of s cs + 0 ≡ drops_of s cs = omega arith in z) in
          let r : length (lands s (cs ++ (c ∷ []))) ≡ length (lands s cs) + 1 = ap length (landed_lands cs h) ∙ length-append (lands s cs) (c ∷ []) in
          let v : count handled (rows_of s (cs ++ (c ∷ []))) ≡ count handled (rows_of s cs) + bit (handled (row_of s c)) = ap (count handled) (landed_rows cs h) ∙
          count_snoc handled (rows_of s cs) (row_of s c) in
          λ j. record { rows = r j; delivered = v j; dropped = d j }

  at_most_one : (b : Bool) → bit b ≤ 1
  at_most_one true = omega arith
  at_most_one false = omega arith

  pub counted_within : (i : ℕ) (m r : Moved) → r ≡ counted_by s c m → (m.rows ≤ i) × (m.delivered ≤ i) × (m.dropped ≤ i) → (r.rows ≤ i + 1) × (r.delivered ≤ i + 1) × (r.dropped ≤ i + 1)
  unfolding counted_by dropped_more landed_more
  counted_within i m r e h = subst (λ (x : Moved). (x.rows ≤ i + 1) × (x.delivered ≤ i + 1) × (x.dropped ≤ i + 1)) (sym e) (go (stops s c))
    where
      choice : Bool → Moved
      choice b = cond b (record { rows = m.rows; delivered = m.delivered; dropped = m.dropped + 1 })
          (record { rows = m.rows + 1; delivered = m.delivered + bit (handled (row_of s c)); dropped = m.dropped })

      go : (b : Bool) → ((choice b).rows ≤ i + 1) × ((choice b).delivered ≤ i + 1) × ((choice b).dropped ≤ i + 1)
      go true = (omega arith, omega arith, omega arith)
      go false = (omega arith, omega (arith, at_most_one (handled (row_of s c))), omega arith)

-- ---- The loop at copy i

pub record Mid (z : Extents) (s : Live) (ws : List ℕ) (k : ℕ) (ns ls os : List ℕ) (i : ℕ) (ns' ls' os' : List ℕ) (m : Moved) : Type 0 where
  pub within : i ≤ k
  pub passed : Passed z s (waiting.copies ws i) ns ns' ls ls' os os' m
  pub room : SeenRoom z.tills z.slots ns'
  pub seen : length ns' ≡ length ns
  pub log : length ls' ≡ length ls
  pub out : length os' ≡ length os
  pub counts : (m.rows ≤ i) × (m.delivered ≤ i) × (m.dropped ≤ i)

module _ (z : Extents) (s : Live) (ws : List ℕ) (k : ℕ) (ns ls os : List ℕ) where
  pub begin : SeenRoom z.tills z.slots ns → Mid z s ws k ns ls os 0 ns ls os (record { rows = 0; delivered = 0; dropped = 0 })
  unfolding cleared recorded written moved_of over
  begin f = record {
    within = omega arith;
    passed = record { seen = refl; log = refl; out = refl; counts = refl };
    room = f;
    seen = refl;
    log = refl;
    out =
        refl;
    counts = (omega arith, omega arith, omega arith);
  }

  by_room : (c : Copy) (seen : List ℕ) → SeenRoom z.tills z.slots seen → c.delivery.to < z.tills → SeenRoom z.tills z.slots (cleared_by z.tills z.slots s c seen)
  unfolding cleared_by
  by_room c seen f h = go (stops s c)
    where
      go : (b : Bool) → SeenRoom z.tills z.slots (cond b (cleared_one z.tills z.slots c seen) seen)
      go true = cleared_room z.tills z.slots c seen f h
      go false = f

  module _ (i : ℕ) (ns' ls' os' : List ℕ) (m : Moved) (h : i < k) (d : Due z ws os k) (a : Mid z s ws k ns ls os i ns' ls' os' m) where
    rows_are : m.rows ≡ length (lands s (waiting.copies ws i))
    unfolding moved_of
    rows_are = ap (λ (x : Moved). x.rows) a.passed.counts

    -- the row has its place
    pub row_room : (m.rows + 1) * row_width ≤ length os'
    row_room = let q : (m.rows + 1) * row_width ≤ k * row_width = mul-le-mul_right row_width (omega (arith, a.counts.0)) in omega (arith, q, d.room, a.out)

    module _ (c : Copy) (there : c ≡ waiting.read (drop (i * waiting.width) ws)) where
      pub near_copy_lem : Near z c
      near_copy_lem = subst (Near z) (sym there) (d.near i h)

      next : waiting.copies ws (i + 1) ≡ waiting.copies ws i ++ (c ∷ [])
      next = rows_more waiting.width waiting.read ws i ∙ ap (λ (x : Copy). waiting.copies ws i ++ (x ∷ [])) (sym there)

      pub more : (ns'' ls'' os'' : List ℕ) (r : Moved) → length ns'' ≡ length ns' → length ls'' ≡ length ls' → length os'' ≡ length os' → Turned z s c m ns' ns'' ls' ls'' os' os'' r
          → Mid z s ws k ns ls os (i + 1) ns'' ls'' os'' r
      more ns'' ls'' os'' r ln ll lo t =
          let cs = waiting.copies ws i in
          let room : (length (lands s cs) + 1) * row_width ≤ length os = rw (sym rows_are) (omega (arith, row_room, a.out)) in
          record {
            within = omega arith;
            passed = record {
              seen = t.seen ∙ ap (cleared_by z.tills z.slots s c) a.passed.seen ∙ sym (cleared_snoc s c z.tills z.slots cs ns) ∙ ap (λ (x : List Copy). cleared z.tills z.slots s x ns) (sym next);
              log = t.log ∙ ap (logged_by z.log s c) a.passed.log ∙ sym (recorded_snoc s c z.log cs ls) ∙ ap (λ (x : List Copy). recorded z.log (lands s x) ls) (sym next);
              out = t.out ∙ (λ j. row_by s c (rows_are j) (a.passed.out j)) ∙ sym (written_snoc s c cs os room) ∙ ap (λ (x : List Copy). written s x os) (sym next);
              counts = t.counts ∙ ap (counted_by s c) a.passed.counts ∙ sym (moved_snoc s c cs) ∙ ap (moved_of s) (sym next);
            };
            room = subst (SeenRoom z.tills z.slots) (sym t.seen) (by_room c ns' a.room near_copy_lem.to);
            seen = ln ∙ a.seen;
            log = ll ∙ a.log;
            out = lo ∙ a.out;
            counts = counted_within s c i m r t.counts a.counts;
          }

  pub end : (i : ℕ) (ns' ls' os' : List ℕ) (m : Moved) → k ≤ i → Mid z s ws k ns ls os i ns' ls' os' m → Passed z s (waiting.copies ws k) ns ns' ls ls' os os' m
  end i ns' ls' os' m h a = let e : i ≡ k = omega (arith, a.within) in subst (λ (x : ℕ). Passed z s (waiting.copies ws x) ns ns' ls ls' os os' m) e a.passed
