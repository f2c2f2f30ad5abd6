-- A number is read where the text has one in the range.
use Rattle.std.proofs.Common.{rules}
use Rattle.drt_words.proofs.NumberLemmas.{number_read, number_refused}
use Rattle.drt_words.proofs.number.number_of.Goals as goal

pub returns-then-number-most-clause-value : goal.returns-then-number-most-clause-value
returns-then-number-most-clause-value c =
    let parsed = c.in-Ok.ensures.value.0 in
    number_read c.args.most c.in-Ok.number c.args.text.now parsed.0 parsed.1 (search rules) (search rules)

pub returns-in-Err-clause-value : goal.returns-in-Err-clause-value
returns-in-Err-clause-value c = number_refused c.args.most c.args.text.now (search rules) c.in-Err.ensures.value.0
