-- The first value of an option is that of its rows.
use Rattle.std.proofs.Common.{ap, ◌∙◌}
use Rattle.std.specs.Prelude.{option_and_then}
use Rattle.clap.specs.Words.{found_of}
use Rattle.clap.proofs.WalkLemmas.{first_value-rows}
use Rattle.drt_words.specs.Number.{number_in}
use Rattle.drt_words.proofs.words.number_option.Goals as goal

pub returns-in-Some-clause-value : goal.returns-in-Some-clause-value
returns-in-Some-clause-value c = c.number_of.ensures.value ∙ ap (option_and_then (number_in c.args.most)) (c.in-Some.ensures ∙ first_value-rows (found_of c.args.matches.now) c.args.name.now)

pub returns-in-None-clause-value : goal.returns-in-None-clause-value
returns-in-None-clause-value c = ap (option_and_then (number_in c.args.most)) (c.in-None.ensures ∙ first_value-rows (found_of c.args.matches.now) c.args.name.now)
