-- What the command line says of the words below a command's name is what that command says of them.
use Rattle.std.proofs.Common.{◌≡◌, ◌++◌, cond, true, false, None, List, [], ◌∷◌, Option, Some, codes, refl, append_assoc, append-nil, fold, find}
use Rattle.clap.proofs.OnLiterals.{clap_on_literals}
use Rattle.clap.specs.Kinds.{Kinds, or_else}
use Rattle.clap.specs.Simple.{App, Shape, built, entered, filled, label_of, names_of, new_shape, rows_at, subcommand_of, with_index}
use Rattle.clap.specs.Walk.{Names, Rule, Text, Walk, answers_to, idle, is_empty, nothing_held, rows_after, walk_from, walked, with_default}
use Rattle.clap.specs.Faults.{built_fault, check_fault, defaults_fault, level_fault, turn_fault, walk_fault}
use Rattle.drt_words.specs.CommandLine.{drt_app, flag_rule, workers_rule, budget_rule, name_rule, pair_rule, whole_rule}
use Rattle.drt_words.specs.Meaning.{meaning_at, meaning_of}
use Rattle.drt_words.specs.Plain.{Searcher, for_edf, for_sp, for_response, for_assign, searcher_word}
use Rattle.drt_words.specs.declared.meaning.Meaning.{Meaning}
use Rattle.drt_words.proofs.WordWalks.{Faulty, not_empty}

-- ---- a walk that a command's name stopped

abbrev stopped_at : Text → List Text → Walk
stopped_at command words = record { held = nothing_held; waiting = idle; position = 1; is_trailing = false; stopped = Some (command, words) }

-- it keeps the words that follow
keeps_words : (c : List Rule) (names : Names) (command : Text) (words met : List Text)
    → fold (walked c names) (stopped_at command met) words ≡ stopped_at command (met ++ words)
unfolding walked
keeps_words c names command [] met = rw (append-nil met) refl
keeps_words c names command (word ∷ words) met = rw (← append_assoc met (word ∷ []) words) (keeps_words c names command words (met ++ word ∷ []))

-- and refuses none of them
quiet_words : (s : Shape) (names : Names) (command : Text) (words met : List Text) → walk_fault s names (stopped_at command met) words ≡ []
unfolding walked walk_fault
quiet_words s names command [] met = refl
quiet_words s names command (word ∷ words) met = quiet_words s names command words (met ++ word ∷ [])

-- ---- any command line over a built command

-- the name enters this subcommand, and nothing is left to refuse above it
record Enters (a : App) (command : Text) (s : Shape) : Type 0 where
  stops : walked a.top.rules (names_of a) (walk_from nothing_held) command ≡ stopped_at command []
  turns : turn_fault a.top (names_of a) (walk_from nothing_held) command ≡ []
  finds : find (λ s. answers_to command (label_of s)) a.subs ≡ Some s
  ends : or_else (defaults_fault [] a.top.rules) (check_fault a.top (fold with_default [] a.top.rules) true) ≡ []

or_nothing : (kinds : Kinds) → or_else kinds [] ≡ kinds
or_nothing [] = refl
or_nothing (k ∷ kinds) = refl

module _ (a : App) (command : Text) (s : Shape) (e : Enters a command s) (words : List Text) where
  walks : fold (walked a.top.rules (names_of a)) (walk_from nothing_held) (command ∷ words) ≡ stopped_at command words
  walks = rw e.stops (keeps_words a.top.rules (names_of a) command words [])

  no_fault : walk_fault a.top (names_of a) (walk_from nothing_held) (command ∷ words) ≡ []
  unfolding walk_fault
  no_fault = rw (e.turns, e.stops) (quiet_words a.top (names_of a) command words [])

  faults : built_fault a nothing_held (command ∷ words) ≡ level_fault s [] nothing_held words false []
  faults = rw (walks, no_fault, e.finds, e.ends) (or_nothing (level_fault s [] nothing_held words false []))

  finds_rows : entered a (fold (walked a.top.rules (names_of a)) (walk_from nothing_held) (command ∷ words)).stopped ≡ Some (rows_at s words)
  finds_rows = rw (walks, e.finds) refl

-- ---- the commands that have options, as built

abbrev pub workers_built : Rule
workers_built = with_index 1 (filled workers_rule)

abbrev pub budget_built : Rule
budget_built = with_index 1 (filled budget_rule)

abbrev pub number_built : Rule
number_built = with_index 1 (filled (whole_rule (codes "number")))

abbrev pub svg_built : Rule
svg_built = with_index 1 (filled (flag_rule (codes "svg")))

abbrev pub vertex_built : Rule
vertex_built = with_index 1 (filled (pair_rule (codes "vertex")))

abbrev pub fixed_built : Rule
fixed_built = with_index 1 (filled (flag_rule (codes "fixed")))

-- the words of two names
abbrev pub first_name_built : Rule
first_name_built = with_index 1 (filled (name_rule (codes "task")))

abbrev pub second_name_built : Rule
second_name_built = with_index 2 (filled (name_rule (codes "vertex")))

abbrev pub leaf : Text → List Rule → Shape
leaf name rules = record (new_shape name) {
  rules = rules;
  disable_help_flag = true;
  disable_help_subcommand = true;
  disable_version_flag = true;
  is_built = true;
}

abbrev pub search_leaf : Searcher → Shape
search_leaf k = leaf (searcher_word k) (workers_built ∷ budget_built ∷ [])

abbrev pub bench_leaf : Shape
bench_leaf = leaf (codes "bench") (workers_built ∷ number_built ∷ [])

abbrev pub timeline_leaf : Shape
timeline_leaf = leaf (codes "timeline") (svg_built ∷ vertex_built ∷ [])

abbrev pub margin_leaf : Shape
margin_leaf = leaf (codes "margin") (fixed_built ∷ workers_built ∷ budget_built ∷ first_name_built ∷ second_name_built ∷ [])

search_enters : (k : Searcher) → Enters (built drt_app) (searcher_word k) (search_leaf k)
unfolding clap_on_literals
search_enters for_edf = record { stops = refl; turns = refl; finds = refl; ends = refl }
search_enters for_sp = record { stops = refl; turns = refl; finds = refl; ends = refl }
search_enters for_response = record { stops = refl; turns = refl; finds = refl; ends = refl }
search_enters for_assign = record { stops = refl; turns = refl; finds = refl; ends = refl }

bench_enters : Enters (built drt_app) (codes "bench") bench_leaf
unfolding clap_on_literals
bench_enters = record { stops = refl; turns = refl; finds = refl; ends = refl }

timeline_enters : Enters (built drt_app) (codes "timeline") timeline_leaf
unfolding clap_on_literals
timeline_enters = record { stops = refl; turns = refl; finds = refl; ends = refl }

margin_enters : Enters (built drt_app) (codes "margin") margin_leaf
unfolding clap_on_literals
margin_enters = record { stops = refl; turns = refl; finds = refl; ends = refl }

-- ---- what the words mean

-- what a command below the top makes of these words
abbrev pub meaning_below : Shape → List Text → Option Meaning
meaning_below s words = cond (is_empty (level_fault s [] nothing_held words false [])) (meaning_at s.name (rows_after s.rules [] words)) None

-- and where it refuses them, they mean nothing
pub refused_below : (s : Shape) (words : List Text) → Faulty (level_fault s [] nothing_held words false []) → meaning_below s words ≡ None
refused_below s words bad = rw (not_empty (level_fault s [] nothing_held words false []) bad) refl

means_below : (command program : Text) (s : Shape) → Enters (built drt_app) command s → (words : List Text) → meaning_of (program ∷ command ∷ words) ≡ meaning_below s words
means_below command program s e words =
    let rows : subcommand_of drt_app (program ∷ command ∷ words) ≡ Some (rows_at s words) = finds_rows (built drt_app) command s e words in
    rw (faults (built drt_app) command s e words, rows) refl

pub search_means : (k : Searcher) (program : Text) (words : List Text) → meaning_of (program ∷ searcher_word k ∷ words) ≡ meaning_below (search_leaf k) words
search_means k program words = means_below (searcher_word k) program (search_leaf k) (search_enters k) words

pub bench_means : (program : Text) (words : List Text) → meaning_of (program ∷ codes "bench" ∷ words) ≡ meaning_below bench_leaf words
bench_means program words = means_below (codes "bench") program bench_leaf bench_enters words

pub timeline_means : (program : Text) (words : List Text) → meaning_of (program ∷ codes "timeline" ∷ words) ≡ meaning_below timeline_leaf words
timeline_means program words = means_below (codes "timeline") program timeline_leaf timeline_enters words

pub margin_means : (program : Text) (words : List Text) → meaning_of (program ∷ codes "margin" ∷ words) ≡ meaning_below margin_leaf words
margin_means program words = means_below (codes "margin") program margin_leaf margin_enters words
