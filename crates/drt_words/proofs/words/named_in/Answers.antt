-- The two names are the texts of their rows.
use Rattle.std.proofs.Common.{ap, sym, ◌∙◌, codes, Some}
use Rattle.clap.specs.Words.{found_of, rows_of}
use Rattle.clap.proofs.WalkLemmas.{first_value-rows}
use Rattle.drt_words.proofs.Spots.{both_names, no_task, no_vertex}
use Rattle.drt_words.proofs.words.named_in.Goals as goal

pub returns-in_default-clause-refused : goal.returns-in_default-clause-refused
returns-in_default-clause-refused c =
    let found = found_of c.args.matches.now in
    λ same. no_task (rows_of found) (c.in_default.ensures ∙ first_value-rows found (codes "task"))

pub returns-in_default-get_str-clause-refused : goal.returns-in_default-get_str-clause-refused
returns-in_default-get_str-clause-refused c =
    let found = found_of c.args.matches.now in
    let task = c.in-Some.ensures ∙ first_value-rows found (codes "task") in
    λ same. no_vertex (rows_of found) c.in-Some.task.now task (c.in_default-get_str.ensures ∙ first_value-rows found (codes "vertex"))

pub returns-in-Ok-clause-spot : goal.returns-in-Ok-clause-spot
returns-in-Ok-clause-spot c =
    let found = found_of c.args.matches.now in
    let task = c.in-Some.ensures ∙ first_value-rows found (codes "task") in
    let vertex = c.in-Some-get_str.ensures ∙ first_value-rows found (codes "vertex") in
    both_names (rows_of found) c.in-Some.task.now task c.in-Some-get_str.vertex.now vertex ∙ ap Some (sym c.in-Ok.ensures)
