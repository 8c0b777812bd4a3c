use Rattle.std.proofs.Common.{◌≡◌, true, false, sym, ◌∙◌}
use Rattle.table_log.specs.Log.{records_of, sound_log, cleared_at}
use Rattle.table_delivery.specs.Delivery as delivery
use Rattle.table_rows.specs.Table.{over}
use Rattle.table_ring.specs.Ring.{count_at}
use Rattle.table_log.proofs.Writing.{sound_log_lem}
use Rattle.table_log.proofs.Draining.{by_head}
use Rattle.table_log.proofs.drain.Goals as goal

pub returns-then-not-is_sound : goal.returns-then-not-is_sound
returns-then-not-is_sound c = let a = c.args in
    let no : sound_log a.capacity a.log.now ≡ false = sym c.is_sound.ensures ∙ c.if-not-is_sound.true in
    record {
      many = by_head a.capacity a.log.now false _ 0 no;
      copied = by_head a.capacity a.log.now false _ a.out.now no;
      emptied = by_head a.capacity a.log.now false _ a.log.now no;
    }

pub copy_out-requires : goal.copy_out-requires
copy_out-requires c = let a = c.args in (
  c.requires.0,
  c.requires.1,
  sound_log_lem a.capacity a.log.now
      (sym c.is_sound.ensures ∙ c.if-not-is_sound.false),
)

pub returns : goal.returns
returns c = let a = c.args in
    let yes : sound_log a.capacity a.log.now ≡ true = sym c.is_sound.ensures ∙ c.if-not-is_sound.false in
    let w = a.log.now in record {
      many = by_head a.capacity w true (count_at 0 w) 0 yes;
      copied = c.copy_out.ensures ∙ by_head a.capacity w true (over delivery.form (records_of a.capacity w) a.out.now) a.out.now yes;
      emptied = c.clear.ensures ∙ by_head a.capacity w true (cleared_at w) w yes;
    }
