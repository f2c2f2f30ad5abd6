-- `util`: what it writes, what it refuses, and with which status it ends.
use Rattle.std.specs.Prelude.{◌≡◌, ℕ, ◌*◌, ◌^◌, ◌<◌, ◌≤◌, ◌⊎◌, List, [], ◌∷◌, ◌++◌, map, codes, decimal}
use Rattle.std.specs.Int.{IsGcd}
use Rattle.drt_model.specs.Contents.{Contents}
use Rattle.drt_model.specs.declared.tasks.Task.{Task}
use Rattle.drt_model.specs.Digraph.{digraph_of}
use Rattle.drt_model.specs.Utilisation.{Fraction, AreRatios, IsScale, rate}
use Rattle.drt_file.specs.trusted.Canonical.{written}
use Rattle.drt_outcome.specs.declared.fault.Fault.{Fault}
use Rattle.drt_outcome.specs.declared.fault.Fault.TheVariants as faults
use Rattle.drt_outcome.specs.declared.outcome.Trail.TheVariants as trails
use Rattle.drt_command.specs.declared.report.Report.{Report}
use Rattle.drt_command.specs.Rules.{Rules}
use Rattle.drt_command_files.specs.TaskFiles.{IsAccepted, IsFileFault, file_input}
use Rattle.drt_model.specs.Numbers.{most_scale}

-- The line of a name and its fraction: `NAME NUM/DEN`.
abbrev pub fraction_line : List ℕ → Fraction → List (List ℕ)
fraction_line name r = name ∷ (decimal r.num ++ codes "/" ++ decimal r.den) ∷ []

-- The lines of the tasks, each with its fraction, in order.
abbrev pub fraction_lines : List Task → List Fraction → List (List (List ℕ))
fraction_lines [] ratios = []
fraction_lines (t ∷ tasks) [] = []
fraction_lines (t ∷ tasks) (r ∷ ratios) = fraction_line t.name r ∷ fraction_lines tasks ratios

-- The name of the last line.
abbrev pub total_word : List ℕ
total_word = codes "total"

-- The lines of the tasks, each with its fraction, and the line of the total.
abbrev pub util_lines : List Task → List Fraction → Fraction → List (List (List ℕ))
util_lines tasks ratios total = fraction_lines tasks ratios ++ fraction_line total_word total ∷ []

-- The text says the ratios of the set's tasks and, in lowest terms, its utilisation, where the scale is at most 2^60.
pub record IsUtilisationText (set : Contents) (text : List ℕ) : Type 0 where
  pub ratios : List Fraction
  pub are : AreRatios (map digraph_of set.tasks) ratios
  pub scale : ℕ
  pub is_scale : IsScale ratios scale
  pub fine : scale ≤ most_scale
  pub total : Fraction
  pub lowest : IsGcd total.num total.den 1
  pub value : total.num * scale ≡ rate scale ratios * total.den
  pub text_is : text ≡ written (util_lines set.tasks ratios total)

-- The scale of the ratios of the set's tasks exceeds 2^60.
pub record IsTooFineSet (set : Contents) : Type 0 where
  pub ratios : List Fraction
  pub are : AreRatios (map digraph_of set.tasks) ratios
  pub scale : ℕ
  pub is_scale : IsScale ratios scale
  pub beyond : most_scale < scale

-- `util`: the bytes are an accepted file, and the text has the ratio of each task and the utilisation of the set.
pub record Utilises (bytes : List ℕ) (made : Report) : Type 0 where
  pub set : Contents
  pub accepted : IsAccepted bytes set
  pub status : made.status ≡ 0
  pub text : IsUtilisationText set made.text
  pub trail : made.trail ≡ trails.Nothing

-- The file is accepted, but the scale of its set is above 2^60: code 21.
pub record IsTooFineFile (bytes : List ℕ) (fault : Fault) : Type 0 where
  pub set : Contents
  pub accepted : IsAccepted bytes set
  pub fine : IsTooFineSet set
  pub is : fault ≡ faults.Limit 21

-- What is promised of `util`.
abbrev pub util_rules : Rules
util_rules = record {
  input = file_input;
  makes = Utilises;
  refuses = λ bytes fault. IsFileFault bytes fault ⊎ IsTooFineFile bytes fault;
  faults = λ bytes fault. IsFileFault bytes fault ⊎ IsTooFineFile bytes fault;
  ends = λ bytes status. (set : Contents) → IsAccepted bytes set → (status ≡ 0) ⊎ ((status ≡ 4) × IsTooFineSet set);
}
