use Prim.Native.Nat.{ℕ, ◌+◌, ◌*◌}
use mathlib.Core.Path.{◌≡◌, refl, sym, ap, ◌∙◌}
use mathlib.Core.List.{◌++◌}
use native.Mathlib.Omega.{arith}
use lib.ListN.{length, drop, get_or}
use Rattle.table_rows.specs.Rows.{flat}
use Rattle.table_rows.proofs.Lists.{length_up_to}
use Rattle.table_shift.proofs.Laws.{length_put}
use Rattle.spec_network.specs.Live.{Till, up_till, open_tills}
use Rattle.spec_network.specs.Tables.{till_form}
use Rattle.call_open_writes.proofs.Filled.{rows_none, row_more, rows_all, up_to_more}
use Rattle.call_open_writes.proofs.fill.write_tills.Goals as goal

pub loop-t-init : goal.loop-t-init
loop-t-init c = (refl, rows_none till_form.width till_form.words (λ _. refl) c.args.tills.now)

pub loop-t-preserved : goal.loop-t-preserved
loop-t-preserved c = let m = c.args.masks.now in let f : ℕ → Till = λ t.
    up_till (get_or m t 0) in (
      ap length c.put_till.ensures ∙ length_put _ _ _ (omega arith) ∙ c.loop-t.invariant.0,
      c.put_till.ensures ∙
          row_more till_form.width till_form.words (λ _. refl) (open_tills m c.loop-t.t) c.args.tills.now c.loop-t.tills c.loop-t.t (f c.loop-t.t)
          (length_up_to c.loop-t.t f) c.loop-t.invariant.1 ∙ ap (λ l. flat till_form.words l ++ drop ((c.loop-t.t + 1) * till_form.width) c.args.tills.now) (sym (up_to_more c.loop-t.t f)),
    )

pub returns : goal.returns
returns c = rows_all till_form.width till_form.words (λ _. refl) (open_tills c.args.masks.now c.loop-t.t) c.args.tills.now c.loop-t.tills c.loop-t.t
    (length c.args.masks.now) (omega arith) c.requires c.loop-t.invariant.1 ∙
    (let e : c.loop-t.t ≡ length c.args.masks.now = omega arith in ap (λ k. flat till_form.words (open_tills c.args.masks.now k)) e)
