-- The word of a number is that of its rows.
use Rattle.std.proofs.Common.{ap, ◌∙◌}
use Rattle.std.specs.Prelude.{option_and_then}
use Rattle.clap.specs.Words.{found_of}
use Rattle.clap.proofs.WalkLemmas.{first_value-rows}
use Rattle.drt_words.specs.Number.{whole_in}
use Rattle.drt_words.proofs.words.whole_word.Goals as goal

pub returns-in-Some : goal.returns-in-Some
returns-in-Some c = c.whole_of.ensures ∙ ap (option_and_then whole_in) (c.in-Some.ensures ∙ first_value-rows (found_of c.args.matches.now) c.args.name.now)

pub returns-in-None : goal.returns-in-None
returns-in-None c = ap (option_and_then whole_in) (c.in-None.ensures ∙ first_value-rows (found_of c.args.matches.now) c.args.name.now)
