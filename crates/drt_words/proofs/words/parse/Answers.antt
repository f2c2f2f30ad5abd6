-- What `clap` says of the command line holds of it, since it is simple and no argument has a rule on another.
use Rattle.std.proofs.Common.{◌∙◌, map}
use Rattle.clap.specs.Words.{app_of, subcommand_rows_of}
use Rattle.drt_words.proofs.Readiness.{finds, refuses, taken}
use Rattle.drt_words.proofs.words.parse.Goals as goal

pub returns-in-Ok-try_get_matches_from-clause-taken : goal.returns-in-Ok-try_get_matches_from-clause-taken
returns-in-Ok-try_get_matches_from-clause-taken g c =
    taken (app_of c.in-Ok.command) c.in-Ok.ensures (map g.S.AsStr.text c.args.words.now) c.in-Ok-try_get_matches_from.ensures.kinds

pub returns-in-Ok-try_get_matches_from-clause-found : goal.returns-in-Ok-try_get_matches_from-clause-found
returns-in-Ok-try_get_matches_from-clause-found g c =
    finds (app_of c.in-Ok.command) c.in-Ok.ensures (map g.S.AsStr.text c.args.words.now) (subcommand_rows_of c.in-Ok-try_get_matches_from.matches)
    c.in-Ok-try_get_matches_from.ensures.matches

pub returns : goal.returns
returns g c = record {
  taken = tt;
  found = tt;
  refused = λ same.
      refuses (app_of c.in-Ok.command) c.in-Ok.ensures (map g.S.AsStr.text c.args.words.now) _ _ c.in-Err-try_get_matches_from.ensures.kinds
      (λ memory. c.in_default.not-OutOfMemory (c.kind.ensures ∙ memory));
}
