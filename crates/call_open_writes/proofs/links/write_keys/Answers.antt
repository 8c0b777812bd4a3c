use Prim.Native.Nat.{◌+◌, ◌*◌, ◌/◌, ◌%◌}
use mathlib.Core.Path.{◌≡◌, refl, sym, ap, ◌∙◌}
use mathlib.Core.List.{◌++◌}
use native.Mathlib.Omega.{arith}
use lib.ListN.{length, drop}
use Rattle.table_rows.specs.Rows.{flat}
use Rattle.table_rows.specs.Lists.{up_to}
use Rattle.table_rows.proofs.Lists.{length_up_to}
use Rattle.table_shift.proofs.Laws.{length_put}
use Rattle.rand_streams.specs.Link.{link_key}
use Rattle.spec_network.specs.Real.{key_width}
use Rattle.call_open_writes.specs.Written.{link_keys}
use Rattle.call_open_writes.proofs.Filled.{rows_none, row_more, rows_all, up_to_more}
use Rattle.call_open_writes.proofs.Cells.{link_long, pair_most, some_till, quotient_fits, remainder_fits}
use Rattle.table_shift.specs.Shift.{put_words}
use Rattle.call_open_writes.proofs.links.write_keys.Goals as goal

pub overflow_mul-i-end : goal.overflow_mul-i-end
overflow_mul-i-end c = let t = pair_most c.args.n c.requires.0 in record { fits = omega arith }

pub loop-i-init : goal.loop-i-init
loop-i-init c = (refl, rows_none key_width (λ i. link_key c.args.seed (i / c.args.n) (i % c.args.n)) (λ i. link_long c.args.seed (i / c.args.n) (i % c.args.n)) c.args.keys.now)

pub nonzero_div-i : goal.nonzero_div-i
nonzero_div-i c = omega (arith, some_till c.loop-i.i c.args.n c.requires.0 (omega arith))

pub overflow_cast-i : goal.overflow_cast-i
overflow_cast-i c = let t = pair_most c.args.n c.requires.0 in record { fits = quotient_fits _ _ (omega arith) }

pub nonzero_rem-i : goal.nonzero_rem-i
nonzero_rem-i c = omega (arith, some_till c.loop-i.i c.args.n c.requires.0 (omega arith))

pub overflow_cast-i-in-loop-i : goal.overflow_cast-i-in-loop-i
overflow_cast-i-in-loop-i c = let t = pair_most c.args.n c.requires.0 in record { fits = remainder_fits _ _ (omega arith) }

pub loop-i-preserved : goal.loop-i-preserved
loop-i-preserved c = (
  ap length c.put_key.ensures ∙ length_put _ _ _ (omega arith) ∙ c.loop-i.invariant.0,
  c.put_key.ensures ∙
      ap (λ k. put_words c.loop-i.keys (c.loop-i.i * key_width) k) c.link_key-key.ensures ∙
      row_more key_width (λ i. link_key c.args.seed (i / c.args.n) (i % c.args.n)) (λ i. link_long c.args.seed (i / c.args.n) (i % c.args.n))
      (up_to c.loop-i.i (λ i. i)) c.args.keys.now c.loop-i.keys c.loop-i.i c.loop-i.i (length_up_to c.loop-i.i (λ i. i)) c.loop-i.invariant.1 ∙
      ap (λ l. flat (λ i. link_key c.args.seed (i / c.args.n) (i % c.args.n)) l ++ drop ((c.loop-i.i + 1) * key_width) c.args.keys.now) (sym (up_to_more c.loop-i.i (λ i. i))),
)

pub returns : goal.returns
unfolding link_keys
returns c = rows_all key_width (λ i. link_key c.args.seed (i / c.args.n) (i % c.args.n)) (λ i. link_long c.args.seed (i / c.args.n) (i % c.args.n))
    (up_to c.loop-i.i (λ i. i)) c.args.keys.now c.loop-i.keys c.loop-i.i (c.args.n * c.args.n) (omega arith) c.requires.1 c.loop-i.invariant.1 ∙
    (let e : c.loop-i.i ≡ c.args.n * c.args.n = omega arith in ap (λ k. flat (λ i. link_key c.args.seed (i / c.args.n) (i % c.args.n)) (up_to k (λ i. i))) e)
