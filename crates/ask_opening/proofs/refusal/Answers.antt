use mathlib.Core.Path.{refl, sym, ◌∙◌}
use Rattle.ask_opening.specs.Asked.{number_of, table_tests, given_tests}
use Rattle.ask_opening.specs.Given.{sized, key_words}
use Rattle.spec_network.specs.Open.{lengths_of}
use Rattle.ask_opening.proofs.Ladder.{first_fails, second_fails, both_pass}
use Rattle.ask_tables.proofs.Ladder.{on, off, no, yes}
use Rattle.ask_opening.proofs.Number.{limited, held}
use Rattle.ask_opening.proofs.refusal.Goals as goal

pub returns-then-not-tables_fit : goal.returns-then-not-tables_fit
unfolding number_of
returns-then-not-tables_fit c = let a =
    c.args in no _ _ _ 1 (first_fails (table_tests (lengths_of (sized a.sizes a.plan)) a.lengths) (given_tests a.sizes.tills (key_words a.key.now) a.masks.now)
    (sym c.tables_fit.ensures ∙ c.if-not-tables_fit.true)) refl

pub returns-then-not-given_fit : goal.returns-then-not-given_fit
unfolding number_of
returns-then-not-given_fit c = let a = c.args in no _ _ _ 1 (second_fails (table_tests (lengths_of (sized a.sizes a.plan)) a.lengths)
    (given_tests a.sizes.tills (key_words a.key.now) a.masks.now) (sym c.tables_fit.ensures ∙ c.if-not-tables_fit.false)
    (sym c.given_fit.ensures ∙ c.if-not-given_fit.true)) refl

pub returns-then-not-sizes_admitted : goal.returns-then-not-sizes_admitted
unfolding number_of
returns-then-not-sizes_admitted c = let a = c.args in yes _ _ _ 1 (both_pass (table_tests (lengths_of (sized a.sizes a.plan)) a.lengths)
    (given_tests a.sizes.tills (key_words a.key.now) a.masks.now) (sym c.tables_fit.ensures ∙ c.if-not-tables_fit.false)
    (sym c.given_fit.ensures ∙ c.if-not-given_fit.false))
    (no _ _ _ 2 (sym (off _ _ (sym c.sizes_admitted.ensures ∙ c.if-not-sizes_admitted.true))) refl)

pub names_admitted-requires : goal.names_admitted-requires
names_admitted-requires c = let a = c.args in let l = limited (sized a.sizes a.plan) (sym c.sizes_admitted.ensures ∙ c.if-not-sizes_admitted.false) in
    record {
      long = sym c.requires ∙ (held (lengths_of (sized a.sizes a.plan)) a.lengths
          (sym c.tables_fit.ensures ∙ c.if-not-tables_fit.false)).names;
      types = l.types;
      shards = l.shards;
    }

pub returns-then-not-names_admitted : goal.returns-then-not-names_admitted
unfolding number_of
returns-then-not-names_admitted c = let a = c.args in yes _ _ _ 1 (both_pass (table_tests (lengths_of (sized a.sizes a.plan)) a.lengths)
    (given_tests a.sizes.tills (key_words a.key.now) a.masks.now) (sym c.tables_fit.ensures ∙ c.if-not-tables_fit.false)
    (sym c.given_fit.ensures ∙ c.if-not-given_fit.false))
    (no _ _ _ 2 (sym (on _ _ _ (sym c.sizes_admitted.ensures ∙ c.if-not-sizes_admitted.false)
    (sym (sym c.names_admitted.ensures ∙ c.if-not-names_admitted.true)))) refl)

pub returns-then-not-config_admitted : goal.returns-then-not-config_admitted
unfolding number_of
returns-then-not-config_admitted c = let a = c.args in yes _ _ _ 1 (both_pass (table_tests (lengths_of (sized a.sizes a.plan)) a.lengths)
    (given_tests a.sizes.tills (key_words a.key.now) a.masks.now) (sym c.tables_fit.ensures ∙ c.if-not-tables_fit.false)
    (sym c.given_fit.ensures ∙ c.if-not-given_fit.false))
    (yes _ _ _ 2 (sym (on _ _ _ (sym c.sizes_admitted.ensures ∙ c.if-not-sizes_admitted.false)
    (sym (sym c.names_admitted.ensures ∙ c.if-not-names_admitted.false))))
    (no _ _ _ 3 (sym c.config_admitted.ensures ∙ c.if-not-config_admitted.true) refl))

pub masks_admitted-requires : goal.masks_admitted-requires
masks_admitted-requires c = let a = c.args in let l = limited (sized a.sizes a.plan)
    (sym c.sizes_admitted.ensures ∙ c.if-not-sizes_admitted.false) in l.shards

pub returns-then-not-masks_admitted : goal.returns-then-not-masks_admitted
unfolding number_of
returns-then-not-masks_admitted c = let a = c.args in yes _ _ _ 1 (both_pass (table_tests (lengths_of (sized a.sizes a.plan)) a.lengths)
    (given_tests a.sizes.tills (key_words a.key.now) a.masks.now) (sym c.tables_fit.ensures ∙ c.if-not-tables_fit.false)
    (sym c.given_fit.ensures ∙ c.if-not-given_fit.false))
    (yes _ _ _ 2 (sym (on _ _ _ (sym c.sizes_admitted.ensures ∙ c.if-not-sizes_admitted.false)
    (sym (sym c.names_admitted.ensures ∙ c.if-not-names_admitted.false))))
    (yes _ _ _ 3 (sym c.config_admitted.ensures ∙ c.if-not-config_admitted.false)
    (no _ _ _ 5 (sym c.masks_admitted.ensures ∙ c.if-not-masks_admitted.true) refl)))

pub returns : goal.returns
unfolding number_of
returns c = let a = c.args in yes _ _ _ 1 (both_pass (table_tests (lengths_of (sized a.sizes a.plan)) a.lengths)
    (given_tests a.sizes.tills (key_words a.key.now) a.masks.now) (sym c.tables_fit.ensures ∙ c.if-not-tables_fit.false)
    (sym c.given_fit.ensures ∙ c.if-not-given_fit.false))
    (yes _ _ _ 2 (sym (on _ _ _ (sym c.sizes_admitted.ensures ∙ c.if-not-sizes_admitted.false)
    (sym (sym c.names_admitted.ensures ∙ c.if-not-names_admitted.false))))
    (yes _ _ _ 3 (sym c.config_admitted.ensures ∙ c.if-not-config_admitted.false)
    (yes _ _ _ 5 (sym c.masks_admitted.ensures ∙ c.if-not-masks_admitted.false) refl)))
