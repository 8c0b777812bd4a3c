-- What question 1, answered "yes", says of words, rules, keys, tills, blocks and seen. Assumes nothing.
use mathlib.Core.Path.{◌≡◌}
use mathlib.Core.Bool.{true}
use mathlib.Core.List.{List}
use Prim.Native.Nat.{ℕ, ◌+◌, ◌*◌, ◌^◌, ◌≤◌, ◌<◌}
use native.Mathlib.Omega.{arith}
use lib.Dec.{leb}
use lib.ListN.{length, get_or}
use borrow.Author.Tests.{eqb-true, leb-true, ltb-true}
use Rattle.table_rows.specs.Table.{rows_of}
use Rattle.table_rows.proofs.Rows.{length_rows}
use Rattle.table_rows.proofs.Scans.{pass_at}
use Rattle.fault_rules.specs.Rules.{rule_slots}
use Rattle.fault_blocks.specs.Blocks.{block_slots}
use Rattle.fault_blocks.specs.declared.BlockWindow.{BlockWindow}
use Rattle.spec_network.specs.Opening.{Sizes, links}
use Rattle.spec_network.specs.Live.{Till}
use Rattle.spec_network.specs.Tables.{cell, sizes_at, till_form, rule_form, block_form, blocks_at}
use Rattle.spec_network.specs.Real.{key_width}
use Rattle.spec_network.specs.Lent.{near_till, near_block}
use Rattle.ask_tables.specs.Held.{words_held, rules_held, keys_held, tills_held, blocks_held, seen_held}
use Rattle.ask_tables.proofs.Ladder.{both, only}
use Rattle.ask_tables.proofs.Rows.{below_at}

pub words_say : (words : List ℕ) → words_held words ≡ true → length words ≡ links
unfolding words_held
words_say words h = eqb-true _ _ (only _ h)

pub rules_say : (rules : List ℕ) → rules_held rules ≡ true → length rules ≡ rule_slots * rule_form.width
unfolding rules_held
rules_say rules h = eqb-true _ _ (only _ h)

pub keys_say : (setup keys : List ℕ) → keys_held setup keys ≡ true → length keys ≡ (sizes_at setup).tills * (sizes_at setup).tills * key_width
unfolding keys_held
keys_say setup keys h = eqb-true _ _ (only _ h)

-- ---- Tills

pub record NearTill (z : Sizes) (t : Till) : Type 0 where
  pub gossip : t.gossip < 2 ^ z.types
  pub host : t.host < 2 ^ z.types
  pub shards : t.shards < 2 ^ z.shards

pub near_till_lem : (z : Sizes) (t : Till) → near_till z t ≡ true → NearTill z t
near_till_lem z t h =
    let a = both _ _ h in
    let b = both _ _ a.0 in
    record { gossip = ltb-true _ _ b.0; host = ltb-true _ _ b.1; shards = ltb-true _ _ a.1 }

pub record PassedTills (setup tills : List ℕ) : Type 0 where
  pub size : length tills ≡ (sizes_at setup).tills * till_form.width
  pub near : (t : ℕ) (d : Till) → t < (sizes_at setup).tills → NearTill (sizes_at setup) (get_or (rows_of till_form tills (sizes_at setup).tills) t d)

pub tills_say_lem : (setup tills : List ℕ) → tills_held setup tills ≡ true → PassedTills setup tills
unfolding tills_held
tills_say_lem setup tills h =
    let a = both _ _ h in
    let z = sizes_at setup in
    let rs = rows_of till_form tills z.tills in
    record {
      size = eqb-true _ _ a.0;
      near = λ t d l. near_till_lem z (get_or rs t d) (pass_at (near_till z) d rs t (let k = length_rows till_form.width till_form.read z.tills tills in omega arith) (only _ a.1));
    }

-- ---- Blocks

pub record NearBlock (z : Sizes) (b : BlockWindow) : Type 0 where
  pub from : b.from < z.tills
  pub to : b.to < z.tills

pub record PassedBlocks (setup net blocks : List ℕ) : Type 0 where
  pub size : length blocks ≡ block_slots * block_form.width
  pub near : (i : ℕ) (d : BlockWindow) → i < cell net blocks_at → NearBlock (sizes_at setup) (get_or (rows_of block_form blocks (cell net blocks_at)) i d)

pub near_block_lem : (z : Sizes) (b : BlockWindow) → near_block z b ≡ true → NearBlock z b
near_block_lem z b h = let a = both _ _ h in record { from = ltb-true _ _ a.0; to = ltb-true _ _ a.1 }

pub blocks_say_lem : (setup net blocks : List ℕ) → blocks_held setup net blocks ≡ true → PassedBlocks setup net blocks
unfolding blocks_held
blocks_say_lem setup net blocks h =
    let a = both _ _ h in
    let z = sizes_at setup in
    let n = cell net blocks_at in
    let rs = rows_of block_form blocks n in
    record {
      size = eqb-true _ _ a.0;
      near = λ i d l. near_block_lem z (get_or rs i d) (pass_at (near_block z) d rs i (let k = length_rows block_form.width block_form.read n blocks in omega arith) (only _ a.1));
    }

-- ---- Seen

pub record PassedSeen (setup seen : List ℕ) : Type 0 where
  pub size : length seen ≡ (sizes_at setup).tills + (sizes_at setup).tills * (sizes_at setup).seen_slots
  pub counts : (t : ℕ) → t < (sizes_at setup).tills → cell seen t ≤ (sizes_at setup).seen_slots

pub seen_says_lem : (setup seen : List ℕ) → seen_held setup seen ≡ true → PassedSeen setup seen
unfolding seen_held
seen_says_lem setup seen h =
    let a = both _ _ h in
    let n = (sizes_at setup).tills in
    let limit = (sizes_at setup).seen_slots in
    record {
      size = eqb-true _ _ a.0;
      counts = λ t l. leb-true (cell seen t) limit (below_at (λ (i : ℕ). leb (cell seen i) limit) n t (only _ a.1) l);
    }
