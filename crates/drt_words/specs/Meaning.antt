-- What a list of words means.
use Rattle.std.specs.Prelude.{ℕ, Bool, false, List, [], ◌∷◌, Option, Some, None, if◌then◌else◌}
use Rattle.std.specs.Prelude.{codes, option_map, option_and_then}
use Rattle.std.specs.Option.{option_map_or}
use Rattle.std.specs.Str.{bytes_eq}
use Rattle.clap.specs.Words.{Row, Text, all_of, first_of, subcommand_of, fault_of}
use Rattle.clap.specs.Walk.{is_empty}
use Rattle.drt_words.specs.CommandLine.{drt_app}
use Rattle.drt_words.specs.Number.{number_in, whole_in}
use Rattle.drt_effort.specs.Efforts.{Numbers, most_budget, most_workers}
use Rattle.drt_words.specs.declared.meaning.Meaning.{Meaning}
use Rattle.drt_words.specs.declared.meaning.Meaning.TheVariants.{Edf, Sp, Upgrade, Util, Check, Bench, Response, Convert, Timeline}
use Rattle.drt_words.specs.declared.meaning.Meaning.TheVariants.{Assign, Margin}
use Rattle.drt_words.specs.declared.spot.Spot.{Spot}

-- The number of an option that is there, or stands by default.
abbrev pub number_at : Text → ℕ → List Row → Option ℕ
number_at name most rows = option_and_then (number_in most) (first_of name rows)

-- The workers and the steps of a search, by its options.
abbrev pub effort_at : List Row → Option Numbers
effort_at rows = option_and_then (λ workers. option_map (λ budget. record { workers = workers; budget = budget })
    (number_at (codes "budget") most_budget rows)) (number_at (codes "workers") most_workers rows)

-- The word of a whole number.
abbrev pub whole_at : Text → List Row → Option ℕ
whole_at name rows = option_and_then whole_in (first_of name rows)

-- What `bench` asks for, by its workers and its number.
abbrev pub bench_at : List Row → Option Meaning
bench_at rows = option_and_then (λ workers. option_map (λ number. Bench workers number)
    (whole_at (codes "number") rows)) (number_at (codes "workers") most_workers rows)

-- Whether a flag is given: its text is `true` then, and `false` by default.
abbrev pub flag_at : Text → List Row → Bool
flag_at name rows = option_map_or (λ text. bytes_eq text (codes "true")) (first_of name rows) false

-- The vertex that the words behind an option name, a task and then a vertex: none where the option isn't there, and no answer where the words
-- aren't two.
abbrev pub spot_by : Option (List Text) → Option (Option Spot)
spot_by None = Some None
spot_by (Some (task ∷ vertex ∷ [])) = Some (Some (record { task = task; vertex = vertex }))
spot_by (Some _) = None

-- The vertex of a timeline.
abbrev pub spot_at : List Row → Option (Option Spot)
spot_at rows = spot_by (all_of (codes "vertex") rows)

-- What `timeline` asks for, by its flag and its vertex.
abbrev pub timeline_at : List Row → Option Meaning
timeline_at rows = option_map (λ vertex. Timeline (flag_at (codes "svg") rows) vertex) (spot_at rows)

-- The vertex that two words name.
abbrev pub named_at : List Row → Option Spot
named_at rows = option_and_then (λ task. option_map (λ vertex. record { task = task; vertex = vertex })
    (first_of (codes "vertex") rows)) (first_of (codes "task") rows)

-- What `margin` asks for, by its effort, its flag and its two names.
abbrev pub margin_at : List Row → Option Meaning
margin_at rows = option_and_then (λ effort. option_map (λ spot. Margin (flag_at (codes "fixed") rows) spot effort)
    (named_at rows)) (effort_at rows)

-- What a command of this name asks for with these options, of those from `response` on.
abbrev pub later_at : Text → List Row → Option Meaning
later_at name rows =
    if bytes_eq name (codes "response") then option_map Response (effort_at rows)
    else (if bytes_eq name (codes "convert") then Some Convert
    else (if bytes_eq name (codes "timeline") then timeline_at rows
    else (if bytes_eq name (codes "assign") then option_map Assign (effort_at rows)
    else (if bytes_eq name (codes "margin") then margin_at rows else None))))

-- What a command of this name asks for with these options.
abbrev pub meaning_at : Text → List Row → Option Meaning
meaning_at name rows =
    if bytes_eq name (codes "edf") then option_map Edf (effort_at rows)
    else (if bytes_eq name (codes "sp") then option_map Sp (effort_at rows)
    else (if bytes_eq name (codes "upgrade") then Some Upgrade
    else (if bytes_eq name (codes "util") then Some Util
    else (if bytes_eq name (codes "check") then Some Check
    else (if bytes_eq name (codes "bench") then bench_at rows
    else later_at name rows)))))

-- What a list of words means: what clap's command states of the words, where it refuses none of them.
abbrev pub meaning_of : List Text → Option Meaning
meaning_of words =
    if is_empty (fault_of drt_app words)
    then option_and_then (λ p. meaning_at p.0 p.1) (subcommand_of drt_app words) else None
