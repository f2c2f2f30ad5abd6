-- What holds of the subject of a search, and what is said of answers to it.
use Rattle.std.specs.Prelude.{◌≤◌, length}
use Rattle.std.specs.List.{All}
use Rattle.drt_model.specs.Numbers.{most_time}
use Rattle.drt_check_states.specs.Crests.{AreCrests}
use Rattle.drt_check_states.specs.Curves.{HasRisingCurves}
use Rattle.drt_check_states.specs.Places.{AreTasks, graphs_at}
use Rattle.drt_sp_states.specs.Answers.{IsSearchedAnswer, IsRespondedAnswer}
use Rattle.drt_sp_states.specs.Trials.{IsTrialAnswer}
use Rattle.drt_sp_states.specs.declared.places.Subject.{Subject}
use Rattle.drt_sp_states.specs.declared.response.Responded.{Responded}
use Rattle.drt_sp_states.specs.declared.search.Searched.{Searched}
use Rattle.drt_sp_states.specs.declared.trials.Trial.{Trial}

-- The order has the numbers of at most 31 tasks, the tails rise, the crests are theirs, and the job's numbers are within the limits.
pub record IsStateSubject (s : Subject) : Type 0 where
  pub order : AreTasks s.graphs.now s.order.now
  pub tails : All HasRisingCurves s.tails.now
  pub crests : AreCrests s.tails.now s.crests.now
  pub few : length s.order.now ≤ 31
  pub wcet : s.wcet ≤ most_time
  pub some : 1 ≤ s.deadline
  pub most : s.deadline ≤ most_time

-- What is said of an answer to the search of a subject.
abbrev pub IsAnswerTo : Subject → Searched → Type 0
IsAnswerTo s answer = IsSearchedAnswer (graphs_at s.graphs.now s.order.now) s.tails.now s.wcet s.deadline answer

-- What is said of a trial of the subject.
abbrev pub IsTrialOf : Subject → Trial → Type 0
IsTrialOf s trial = IsTrialAnswer (graphs_at s.graphs.now s.order.now) s.wcet s.deadline trial

-- What is said of the greatest response of a subject.
abbrev pub IsResponseTo : Subject → Responded → Type 0
IsResponseTo s answer = IsRespondedAnswer (graphs_at s.graphs.now s.order.now) s.tails.now s.wcet s.deadline answer
