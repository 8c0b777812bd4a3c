use Rattle.ask_tables.proofs.Ladder.{on, off}
use mathlib.Core.Path.{sym, ◌∙◌}
use native.Mathlib.Omega.{arith}
use Rattle.ask_opening_parts.proofs.Names.{lengths, short_ones, admitted}
use Rattle.ask_opening_parts.proofs.texts.names_admitted.Goals as goal

pub lengths_within-requires : goal.lengths_within-requires
lengths_within-requires c = (omega arith, omega (arith, c.requires.long, c.requires.types))

pub returns-then-not-lengths_within : goal.returns-then-not-lengths_within
returns-then-not-lengths_within c = admitted c.args.names.now c.args.types c.args.shards (off _ _ (sym (c.lengths_within.ensures ∙ lengths _ _ _ _ _) ∙ c.if-not-lengths_within.true))

pub lengths_within-requires-2 : goal.lengths_within-requires-2
lengths_within-requires-2 c = (omega arith, omega (arith, c.requires.long, c.requires.shards))

pub returns-then-not-lengths_within-2 : goal.returns-then-not-lengths_within-2
returns-then-not-lengths_within-2 c =
    admitted c.args.names.now c.args.types c.args.shards
    (on _ _ _ (sym (c.lengths_within.ensures ∙ lengths _ _ _ _ _) ∙ c.if-not-lengths_within.false) (off _ _ (sym (c.lengths_within-2.ensures ∙ lengths _ _ _ _ _) ∙ c.if-not-lengths_within-2.true)))

pub all_unlike-requires : goal.all_unlike-requires
all_unlike-requires c = (
  record { some = omega arith; room = omega (arith, c.requires.long, c.requires.types) },
  short_ones c.args.names.now _ _ _ _ (omega arith) (sym (c.lengths_within.ensures ∙ lengths _ _ _ _ _) ∙ c.if-not-lengths_within.false),
)

pub returns-then-not-all_unlike : goal.returns-then-not-all_unlike
returns-then-not-all_unlike c = let a = c.args in admitted a.names.now a.types a.shards
    (on _ _ _ (sym (c.lengths_within.ensures ∙ lengths _ _ _ _ _) ∙ c.if-not-lengths_within.false)
    (on _ _ _ (sym (c.lengths_within-2.ensures ∙ lengths _ _ _ _ _) ∙ c.if-not-lengths_within-2.false)
    (off _ _ (sym c.all_unlike.ensures ∙ c.if-not-all_unlike.true))))

pub all_unlike-requires-2 : goal.all_unlike-requires-2
all_unlike-requires-2 c = (
  record { some = omega arith; room = omega (arith, c.requires.long, c.requires.shards) },
  short_ones c.args.names.now _ _ _ _ (omega arith) (sym (c.lengths_within-2.ensures ∙ lengths _ _ _ _ _) ∙ c.if-not-lengths_within-2.false),
)

pub returns : goal.returns
returns c = let a = c.args in admitted a.names.now a.types a.shards
    (on _ _ _ (sym (c.lengths_within.ensures ∙ lengths _ _ _ _ _) ∙ c.if-not-lengths_within.false)
    (on _ _ _ (sym (c.lengths_within-2.ensures ∙ lengths _ _ _ _ _) ∙ c.if-not-lengths_within-2.false)
    (on _ _ _ (sym c.all_unlike.ensures ∙ c.if-not-all_unlike.false) c.all_unlike-2.ensures)))
