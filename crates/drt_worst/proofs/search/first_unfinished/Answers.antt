use Rattle.std.proofs.Common.{rules}
use Rattle.std.proofs.lemmas.Option.{slice_get-get_or}
use Rattle.drt_worst.proofs.search.first_unfinished.Goals as goal

pub returns-then-not-is_empty-clause-some : goal.returns-then-not-is_empty-clause-some
returns-then-not-is_empty-clause-some c = (c.index-passes-i.result, search (rules, slice_get-get_or), λ e. search rules)
