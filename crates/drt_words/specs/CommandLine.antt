-- The command line, as clap's clauses see it.
use Rattle.std.specs.Prelude.{◌≡◌, ℕ, [], ◌∷◌, Ok, Result, Some, true, codes}
use Rattle.clap.specs.Words.{App, Rule, Shape, Text, app_of, new_app, new_rule, with_rule, with_subcommand}
use Rattle.clap.specs.declared.builder.command.Command.{Command}
use Rattle.clap.specs.declared.builder.ArgAction.TheVariants.{Set, SetTrue}
use Rattle.clap.specs.declared.builder.ValueParser.TheVariants as vp
use Rattle.drt_effort.specs.Efforts.{most_budget, most_workers}

-- An option of one whole number from 1 to `most`, with a default.
abbrev pub number_rule : Text → ℕ → Text → Rule
number_rule name most standard = record (new_rule name) {
  long = Some name;
  action = Some Set;
  parser = Some (vp.Unsigned 1 most);
  defaults = standard ∷ [];
}

-- The option for workers, 4 by default.
abbrev pub workers_rule : Rule
workers_rule = number_rule (codes "workers") most_workers (codes "4")

-- The option for the budget, 100,000 by default.
abbrev pub budget_rule : Rule
budget_rule = number_rule (codes "budget") most_budget (codes "100000")

-- A command that searches has the options for workers and budget.
abbrev pub search_app : Text → App
search_app name = with_rule (with_rule (new_app name) workers_rule) budget_rule

-- Help, version and the help subcommand are off, and a subcommand is required.
abbrev pub bare_top : Shape → Shape
bare_top s = record s {
  disable_help_flag = true;
  disable_version_flag = true;
  disable_help_subcommand = true;
  subcommand_required = true;
}

-- The same of a command's top shape.
abbrev pub bare_app : App → App
bare_app a = record { top = bare_top a.top; subs = a.subs }

-- The command line with one more command that searches.
abbrev pub with_search : App → Text → App
with_search top name = with_subcommand top (search_app name).top

-- The command line with one more command that has no options.
abbrev pub with_plain : App → Text → App
with_plain top name = with_subcommand top (new_app name).top

-- A word that must stand: a whole number from 0 to 18,446,744,073,709,551,615.
abbrev pub whole_rule : Text → Rule
whole_rule name = record (new_rule name) {
  action = Some Set;
  parser = Some (vp.Unsigned 0 18446744073709551615);
  required = true;
}

-- The command `bench` has the option for workers and the word of a number.
abbrev pub bench_app : App
bench_app = with_rule (with_rule (new_app (codes "bench")) workers_rule) (whole_rule (codes "number"))

-- The command line with `bench` too.
abbrev pub with_bench : App → App
with_bench top = with_subcommand top bench_app.top

-- An option without a value: it is given or not.
abbrev pub flag_rule : Text → Rule
flag_rule name = record (new_rule name) { long = Some name; action = Some SetTrue }

-- An option of two words.
abbrev pub pair_rule : Text → Rule
pair_rule name = record (new_rule name) {
  long = Some name;
  action = Some Set;
  range = Some (record { start_inclusive = 2; end_inclusive = 2 });
}

-- The command `timeline` has the flag for a picture and the option for a vertex, of its two names.
abbrev pub timeline_app : App
timeline_app = with_rule (with_rule (new_app (codes "timeline")) (flag_rule (codes "svg"))) (pair_rule (codes "vertex"))

-- The command line with `timeline` too.
abbrev pub with_timeline : App → App
with_timeline top = with_subcommand top timeline_app.top

-- A word that must stand: any text.
abbrev pub name_rule : Text → Rule
name_rule name = record (new_rule name) { action = Some Set; required = true }

-- The options of `margin`: the flag for fixed priorities, and those of a search.
abbrev pub margin_options_app : App
margin_options_app = with_rule (with_rule (with_rule (new_app (codes "margin")) (flag_rule (codes "fixed"))) workers_rule) budget_rule

-- The command `margin` has these options, and the words of two names.
abbrev pub margin_app : App
margin_app = with_rule (with_rule margin_options_app (name_rule (codes "task"))) (name_rule (codes "vertex"))

-- The command line with `margin` too.
abbrev pub with_margin : App → App
with_margin top = with_subcommand top margin_app.top

-- A command line made by one more step from the one before it, which could be made.
abbrev pub IsMadeFrom : {E : Type 0} → Result Command E → (App → App) → Command → Type 0
IsMadeFrom before step made = (old : Command) × (before ≡ Ok old) × (app_of made ≡ step (app_of old))

-- The whole command line: the commands `edf`, `sp`, `upgrade`, `util`, `check`, `bench`, `response`, `convert`, `timeline`, `assign` and `margin`.
abbrev pub drt_app : App
drt_app =
    with_margin (with_search (with_timeline (with_plain (with_search (with_bench
    (with_plain (with_plain (with_plain (with_search (with_search (bare_app (new_app (codes "drt")))
    (codes "edf")) (codes "sp")) (codes "upgrade")) (codes "util")) (codes "check"))) (codes "response")) (codes "convert"))) (codes "assign"))
