use Rattle.std.proofs.Common.{rules}
use Rattle.sim_spelling.proofs.Laws.{no_words, next_word, shorter}
use Rattle.sim_spelling.proofs.words.WordsIterator.next.Goals as goal

pub returns-in_err-start-clause-steps : goal.returns-in_err-start-clause-steps
returns-in_err-start-clause-steps c = let e = no_words c.args.self.now.rest.now (search rules) in search (rules, e)

pub returns-clause-steps : goal.returns-clause-steps
returns-clause-steps c = let e = next_word c.args.self.now.rest.now c.in_ok-start.start (search rules) in search (rules, e)

pub returns-clause-goes : goal.returns-clause-goes
returns-clause-goes c = let e = shorter c.args.self.now.rest.now c.in_ok-start.start (search rules) in search (rules, e)
