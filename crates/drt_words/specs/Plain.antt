-- Plain lists of words, and lists that must be refused.
use Rattle.std.specs.Prelude.{◌≡◌, ◌≤◌, ◌<◌, ◌^◌, ◌⊎◌, ℕ, List, [], ◌∷◌, ◌++◌, codes, decimal}
use Rattle.std.specs.Prelude.{Bool, false, if◌then◌else◌, Option, Some, None}
use Rattle.std.specs.List.{list_any}
use Rattle.std.specs.Str.{bytes_eq}
use Rattle.clap.specs.Lexer.{long_of, short_of}
use Rattle.clap.specs.ValueTests.{is_unsigned_in}
use Rattle.drt_effort.specs.Efforts.{most_budget, most_workers}
use Rattle.drt_words.specs.declared.meaning.Meaning.{Meaning}
use Rattle.drt_words.specs.declared.meaning.Meaning.TheVariants.{Edf, Sp, Upgrade, Util, Check, Bench, Response, Convert, Timeline}
use Rattle.drt_words.specs.declared.meaning.Meaning.TheVariants.{Assign, Margin}
use Rattle.drt_words.specs.declared.spot.Spot.{Spot}

-- An option with its value is spelled `--name value` or `--name=value`.
pub data Spells (name text : List ℕ) : List (List ℕ) → Type 0 where
  apart : Spells name text ((codes "--" ++ name) ∷ text ∷ [])
  joined : Spells name text ((codes "--" ++ name ++ codes "=" ++ text) ∷ [])

-- An option is left out, which means its usual number, or given with a number from 1 to `most` in decimal digits without leading zeros.
pub data PlainOption (name : List ℕ) (usual most : ℕ) : List (List ℕ) → ℕ → Type 0 where
  left_out : PlainOption name usual most [] usual
  given : (words : List (List ℕ)) (n : ℕ) → 1 ≤ n → n ≤ most → Spells name (decimal n) words → PlainOption name usual most words n

-- The options of a command that searches, each at most once and in any order, with the numbers that they mean.
pub data PlainOptions : List (List ℕ) → ℕ → ℕ → Type 0 where
  workers_first : (front back : List (List ℕ)) (m n : ℕ) → PlainOption (codes "workers") 4 most_workers front m → PlainOption (codes "budget") 100000 most_budget back n → PlainOptions (front ++ back) m n
  budget_first : (front back : List (List ℕ)) (m n : ℕ) → PlainOption (codes "budget") 100000 most_budget front n → PlainOption (codes "workers") 4 most_workers back m → PlainOptions (front ++ back) m n

-- A plain list of a command that answers for a set: a program name, the command, and the options of a search.
pub data IsPlainAnswer : List (List ℕ) → Meaning → Type 0 where
  plain_edf : (program : List ℕ) (options : List (List ℕ)) (m n : ℕ) → PlainOptions options m n → IsPlainAnswer (program ∷ codes "edf" ∷ options) (Edf (record { workers = m; budget = n }))
  plain_sp : (program : List ℕ) (options : List (List ℕ)) (m n : ℕ) → PlainOptions options m n → IsPlainAnswer (program ∷ codes "sp" ∷ options) (Sp (record { workers = m; budget = n }))
  plain_response : (program : List ℕ) (options : List (List ℕ)) (m n : ℕ) → PlainOptions options m n
      → IsPlainAnswer (program ∷ codes "response" ∷ options) (Response (record { workers = m; budget = n }))
  plain_assign : (program : List ℕ) (options : List (List ℕ)) (m n : ℕ) → PlainOptions options m n → IsPlainAnswer (program ∷ codes "assign" ∷ options) (Assign (record { workers = m; budget = n }))
  plain_check : (program : List ℕ) → IsPlainAnswer (program ∷ codes "check" ∷ []) Check

-- The word isn't `--` and doesn't read as a flag.
pub record BeginsPlain (text : List ℕ) : Type 0 where
  pub no_dashes : bytes_eq text (codes "--") ≡ false
  pub no_long : long_of text ≡ None
  pub no_short : short_of text ≡ None

-- A flag of this name, where it is given.
abbrev pub flag_words : List ℕ → Bool → List (List ℕ)
flag_words name is_given = if is_given then (codes "--" ++ name) ∷ [] else []

-- The two names of `margin`. Neither reads as a flag, or they stand behind `--`, where a name may be any text.
pub data PlainNames : List (List ℕ) → Spot → Type 0 where
  names_alone : (task vertex : List ℕ) → BeginsPlain task → BeginsPlain vertex → PlainNames (task ∷ vertex ∷ []) (record { task = task; vertex = vertex })
  names_behind : (task vertex : List ℕ) → PlainNames (codes "--" ∷ task ∷ vertex ∷ []) (record { task = task; vertex = vertex })

-- A plain list of `margin`: its flag, the options of a search, and its names behind them or before them.
pub data IsPlainMargin : List (List ℕ) → Meaning → Type 0 where
  names_last : (program : List ℕ) (options names : List (List ℕ)) (fixed : Bool) (m n : ℕ) (spot : Spot) → PlainOptions options m n → PlainNames names spot
      → IsPlainMargin (program ∷ codes "margin" ∷ (flag_words (codes "fixed") fixed ++ (options ++ names))) (Margin fixed spot (record { workers = m; budget = n }))
  names_first : (program task vertex : List ℕ) (options : List (List ℕ)) (fixed : Bool) (m n : ℕ) → PlainOptions options m n → BeginsPlain task → BeginsPlain vertex → IsPlainMargin
      (program ∷ codes "margin" ∷ task ∷ vertex ∷ (flag_words (codes "fixed") fixed ++ options)) (Margin fixed (record { task = task; vertex = vertex }) (record { workers = m; budget = n }))

-- The option of `timeline`, with the two names that it gives or none. Neither name reads as a flag.
pub data PlainSpot : List (List ℕ) → Option Spot → Type 0 where
  vertex_absent : PlainSpot [] None
  vertex_given : (task vertex : List ℕ) → BeginsPlain task → BeginsPlain vertex
      → PlainSpot (codes "--vertex" ∷ task ∷ vertex ∷ []) (Some (record { task = task; vertex = vertex }))

-- A plain list of another command: its options, each at most once and in any order, and behind that of `bench` its number.
pub data IsPlainTool : List (List ℕ) → Meaning → Type 0 where
  plain_upgrade : (program : List ℕ) → IsPlainTool (program ∷ codes "upgrade" ∷ []) Upgrade
  plain_util : (program : List ℕ) → IsPlainTool (program ∷ codes "util" ∷ []) Util
  plain_convert : (program : List ℕ) → IsPlainTool (program ∷ codes "convert" ∷ []) Convert
  plain_bench : (program : List ℕ) (options : List (List ℕ)) (m n : ℕ) → PlainOption (codes "workers") 4 most_workers options m → n < 2 ^ 64
      → IsPlainTool (program ∷ codes "bench" ∷ (options ++ decimal n ∷ [])) (Bench m n)
  plain_timeline : (program : List ℕ) (spots : List (List ℕ)) (svg : Bool) (vertex : Option Spot) → PlainSpot spots vertex
      → IsPlainTool (program ∷ codes "timeline" ∷ (flag_words (codes "svg") svg ++ spots)) (Timeline svg vertex)
  plain_timeline_back : (program : List ℕ) (spots : List (List ℕ)) (svg : Bool) (vertex : Option Spot) → PlainSpot spots vertex
      → IsPlainTool (program ∷ codes "timeline" ∷ (spots ++ flag_words (codes "svg") svg)) (Timeline svg vertex)

-- A plain list of any command.
abbrev pub IsPlain : List (List ℕ) → Meaning → Type 0
IsPlain words meaning = IsPlainAnswer words meaning ⊎ (IsPlainMargin words meaning ⊎ IsPlainTool words meaning)

-- A plain list of `margin`, but with one name or none.
pub data MissesNames : List (List ℕ) → Type 0 where
  no_name : (program : List ℕ) (options : List (List ℕ)) (fixed : Bool) (m n : ℕ) → PlainOptions options m n → MissesNames (program ∷ codes "margin" ∷ (flag_words (codes "fixed") fixed ++ options))
  one_name : (program name : List ℕ) (options : List (List ℕ)) (fixed : Bool) (m n : ℕ) → PlainOptions options m n → BeginsPlain name
      → MissesNames (program ∷ codes "margin" ∷ (flag_words (codes "fixed") fixed ++ (options ++ name ∷ [])))

-- The commands that search.
pub data Searcher : Type 0 where
  for_edf : Searcher
  for_sp : Searcher
  for_response : Searcher
  for_assign : Searcher

-- The name of such a command.
abbrev pub searcher_word : Searcher → List ℕ
searcher_word for_edf = codes "edf"
searcher_word for_sp = codes "sp"
searcher_word for_response = codes "response"
searcher_word for_assign = codes "assign"

-- No word is `--`.
abbrev pub HaveNoDashes : List (List ℕ) → Type 0
HaveNoDashes words = list_any (λ word. bytes_eq word (codes "--")) words ≡ false

-- The list gives an option of a command that searches, of `bench` or of `margin` a value that is no number in its range, whatever stands before it and
-- after it. In a list of `margin` no `--` may stand before it: what follows a `--` is a name.
pub data GivesBadNumber : List (List ℕ) → Type 0 where
  bad_workers : (command : Searcher) (program text : List ℕ) (front words back : List (List ℕ)) → is_unsigned_in 1 most_workers text ≡ false
      → Spells (codes "workers") text words → GivesBadNumber (program ∷ searcher_word command ∷ (front ++ words ++ back))
  bad_budget : (command : Searcher) (program text : List ℕ) (front words back : List (List ℕ)) → is_unsigned_in 1 most_budget text ≡ false
      → Spells (codes "budget") text words → GivesBadNumber (program ∷ searcher_word command ∷ (front ++ words ++ back))
  bad_bench : (program text : List ℕ) (front words back : List (List ℕ)) → is_unsigned_in 1 most_workers text ≡ false
      → Spells (codes "workers") text words → GivesBadNumber (program ∷ codes "bench" ∷ (front ++ words ++ back))
  bad_margin_workers : (program text : List ℕ) (front words back : List (List ℕ)) → HaveNoDashes front → is_unsigned_in 1 most_workers text ≡ false
      → Spells (codes "workers") text words → GivesBadNumber (program ∷ codes "margin" ∷ (front ++ words ++ back))
  bad_margin_budget : (program text : List ℕ) (front words back : List (List ℕ)) → HaveNoDashes front → is_unsigned_in 1 most_budget text ≡ false
      → Spells (codes "budget") text words → GivesBadNumber (program ∷ codes "margin" ∷ (front ++ words ++ back))
