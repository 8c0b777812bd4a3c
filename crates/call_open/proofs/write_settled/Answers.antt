use mathlib.Core.Path.{◌∙◌}
use Rattle.ask_opening.specs.Given.{settings_of}
use Rattle.call_open_writes.proofs.Cells.{keys_of_lem, priced_by_lem}
use Rattle.call_open.proofs.write_settled.Goals as goal

pub write_setup-requires : goal.write_setup-requires
write_setup-requires c = (c.requires.rates, c.requires.key_long, c.requires.setup_long)

pub clear_words-requires : goal.clear_words-requires
clear_words-requires c = c.requires.words_long

pub write_keys-requires : goal.write_keys-requires
write_keys-requires c = (c.requires.tills, c.requires.keys_long)

pub write_prices-requires : goal.write_prices-requires
write_prices-requires c = (c.requires.tills, c.requires.regions, c.requires.prices_long)

pub returns : goal.returns
returns c = let a = c.args in
    let x = settings_of a.config a.sizes a.plan a.seed a.key.now in (
      c.write_setup.ensures,
      c.clear_words.ensures,
      c.write_keys.ensures ∙ keys_of_lem x,
      c.write_prices.ensures ∙ priced_by_lem x,
    )
