use mathlib.Core.Path.{refl}
use Rattle.call_keeping.proofs.Laws.{kept_five}
use Rattle.call_keeping.proofs.keep_first.Goals as goal

-- src/lib.rt:27:1
pub returns : goal.returns
returns c = let a = c.args in record {
  kept = kept_five a.net.now a.tills.now a.words.now a.seen.now a.waiting.now a.memory.now
      c.store.new.memory c.store-2.new.memory c.store-3.new.memory c.store-4.new.memory
      c.store-5.new.memory c.store.ensures c.store-2.ensures c.store-3.ensures c.store-4.ensures
      c.store-5.ensures;
  at = refl;
}
