use Rattle.fault_card.proofs.Laws.{read_fields}
use Rattle.fault_card.proofs.fields.Goals as goal

pub returns : goal.returns
returns c = read_fields _ _ _ _ _ _ _ _ _ _ c.field_at.ensures c.field_at-2.ensures c.field_at-3.ensures c.field_at-4.ensures c.field_at-5.ensures c.field_at-6.ensures c.field_at-7.ensures
