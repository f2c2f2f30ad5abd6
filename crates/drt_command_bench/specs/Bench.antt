-- `bench`: what it writes for the drawn set of a number, and with which status it ends.
use Rattle.std.specs.Prelude.{◌≡◌, ◌≢◌, ◌↔◌, ℕ, List, [], length, AllPairs, Option, IfSome, IsSome}
use Rattle.drt_model.specs.Contents.{Contents}
use Rattle.drt_model.specs.declared.tasks.Task.{Task}
use Rattle.drt_model.specs.declared.jobs.Policy.TheVariants as under
use Rattle.drt_graph.specs.declared.front.FrontEntry.{FrontEntry}
use Rattle.drt_model.specs.Digraph.{Digraph}
use Rattle.drt_model.specs.Schedulable.{Schedulable}
use Rattle.drt_claims.specs.Claims.{graphs_of}
use Rattle.drt_claims.specs.Rates.{IsAtOne}
use Rattle.drt_edf.specs.Plans.{HasHorizon, IsTooFar}
use Rattle.drt_edf.specs.Walks.{IsExactFront}
use Rattle.drt_edf.specs.Answers as edf_answers
use Rattle.drt_sp.specs.Answers as fixed_answers
use Rattle.drt_gen.specs.Generated.{generated}
use Rattle.drt_summary.specs.Line.{summary_line}
use Rattle.drt_summary.specs.declared.summary.EdfVerdict.{EdfVerdict}
use Rattle.drt_summary.specs.declared.summary.EdfVerdict.TheVariants as on_edf
use Rattle.drt_summary.specs.declared.summary.FixedVerdict.{FixedVerdict}
use Rattle.drt_summary.specs.declared.summary.FixedVerdict.TheVariants as on_fixed
use Rattle.drt_trails.specs.declared.EdfTrail.{EdfTrail}
use Rattle.drt_trails.specs.declared.FixedTrail.{FixedTrail}
use Rattle.drt_effort.specs.Efforts.{most_budget}
use Rattle.drt_outcome.specs.declared.outcome.Trail.TheVariants as trails
use Rattle.drt_command.specs.declared.input.Input.TheVariants.{Nothing}
use Rattle.drt_command.specs.declared.report.Report.{Report}
use Rattle.drt_command.specs.Rules.{Rules}
use Rattle.drt_model.specs.Each.{Each}

-- The verdict under EDF is `yes` or `no` as the set is schedulable or not, unless it is `one`, exactly where the utilisation is one, `beyond`,
-- exactly where it is below one and the horizon exceeds 2^40, or `undecided`, exactly where there is a trail, which shows that the budget was spent.
pub record EdfSays (tasks : List Task) (verdict : EdfVerdict) (trail : Option EdfTrail) : Type 0 where
  pub yes : verdict ≡ on_edf.Yes → Schedulable tasks under.Edf
  pub no : verdict ≡ on_edf.No → ¬ Schedulable tasks under.Edf
  pub one : (verdict ≡ on_edf.One) ↔ IsAtOne tasks
  pub beyond : (verdict ≡ on_edf.Beyond) ↔ IsTooFar tasks
  pub undecided : (verdict ≡ on_edf.Undecided) ↔ IsSome trail
  pub cause : IfSome trail (edf_answers.IsEdfUndecided tasks most_budget)

-- The verdict under fixed priorities is `yes` or `no` as the set is schedulable or not, unless it is `undecided`, exactly where there is a
-- trail, which shows that the budget was spent.
pub record FixedSays (set : Contents) (verdict : FixedVerdict) (trail : Option FixedTrail) : Type 0 where
  pub yes : verdict ≡ on_fixed.Yes → Schedulable set.tasks under.Fixed
  pub no : verdict ≡ on_fixed.No → ¬ Schedulable set.tasks under.Fixed
  pub undecided : (verdict ≡ on_fixed.Undecided) ↔ IsSome trail
  pub cause : IfSome trail (fixed_answers.IsTreeUndecided set most_budget)

-- So many labels of the graph's walks that are due within the bound are covered by no other one: a list without repetition has exactly these.
pub record HasCount (bound : ℕ) (g : Digraph) (count : ℕ) : Type 0 where
  pub labels : List FrontEntry
  pub exact : IsExactFront bound g labels
  pub distinct : AllPairs (λ d e. d ≢ e) labels
  pub long : length labels ≡ count

-- There is one such count for each task, up to the horizon of the set.
pub record AreCounts (tasks : List Task) (kept : List ℕ) : Type 0 where
  pub bound : ℕ
  pub below : HasHorizon tasks bound
  pub each : Each (HasCount bound) (graphs_of tasks) kept

-- `bench`: the set is that of the number, both verdicts are said of it, and the text is their line, with the counts after a `yes` under EDF.
pub record Benches (number : ℕ) (made : Report) : Type 0 where
  pub edf : EdfVerdict
  pub fixed : FixedVerdict
  pub kept : List ℕ
  pub edf_trail : Option EdfTrail
  pub fixed_trail : Option FixedTrail
  pub edf_says : EdfSays (generated number).tasks edf edf_trail
  pub fixed_says : FixedSays (generated number) fixed fixed_trail
  pub counts : edf ≡ on_edf.Yes → AreCounts (generated number).tasks kept
  pub no_counts : edf ≢ on_edf.Yes → kept ≡ []
  pub status : made.status ≡ 0
  pub text : made.text ≡ summary_line (record { edf = edf; fixed = fixed; kept = kept; number = number })
  pub trail : made.trail ≡ trails.Bench edf_trail fixed_trail

-- What is promised of `bench` with this number: it reads nothing, refuses nothing, and ends with the status 0.
abbrev pub bench_rules : ℕ → Rules
bench_rules number = record {
  input = Nothing;
  makes = λ bytes. Benches number;
  refuses = λ bytes fault. ⊥;
  faults = λ bytes fault. ⊥;
  ends = λ bytes status. status ≡ 0;
}
