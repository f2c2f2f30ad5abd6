-- A number is read where the text has one.
use Rattle.drt_words.proofs.NumberLemmas.{whole_read, whole_refused}
use Rattle.drt_words.proofs.number.whole_of.Goals as goal

pub returns-in-Ok : goal.returns-in-Ok
returns-in-Ok c =
    let parsed = c.in-Ok.ensures.value.0 in
    whole_read c.in-Ok.number c.args.text.now parsed.0 parsed.1

pub returns-in-Err : goal.returns-in-Err
returns-in-Err c = whole_refused c.args.text.now c.in-Err.ensures.value.0
