-- What `margin` knows on its way.
use Rattle.std.specs.Prelude.{◌≡◌, ℕ, ◌+◌, ◌-◌, ◌<◌, ◌≤◌, All, IfSome, List, None, Some, slice_index, slice_index_or}
use Rattle.drt_model.specs.Contents.{Contents}
use Rattle.drt_model.specs.Constrained.{AreConstrained}
use Rattle.drt_model.specs.Limits.{IsTaskSet}
use Rattle.drt_model.specs.declared.jobs.Policy.{Policy}
use Rattle.drt_model.specs.declared.jobs.Policy.TheVariants.{Edf}
use Rattle.drt_edf.specs.Answers.{IsBeyond}
use Rattle.drt_margin.specs.Answers.{IsMarginAnswer, IsNextShown, IsOtherFor, IsSpentUnder, IsYesFor}
use Rattle.drt_margin.specs.Margin.{Halves, IsVertexOf, IsWithinMargin, plus_set, wcet_at}
use Rattle.drt_margin.specs.Past.{ArePast}
use Rattle.drt_claims.specs.declared.evidence.Evidence.{Evidence}
use Rattle.drt_margin.specs.declared.ahead.Ahead.{Ahead}
use Rattle.drt_margin.specs.declared.answer.MarginAnswer.{MarginAnswer}
use Rattle.drt_margin.specs.declared.answer.MarginAnswer.TheVariants.{Found}
use Rattle.drt_margin.specs.declared.answer.Next.TheVariants.{Shown}
use Rattle.drt_margin.specs.declared.asking.Finding.{Finding}
use Rattle.drt_margin.specs.declared.asking.Finding.TheVariants as findings
use Rattle.drt_margin.specs.declared.question.Question.{Question}
use Rattle.drt_margin.specs.declared.halving.Room.{Room}
use Rattle.drt_margin.specs.declared.halving.Half.{Half}
use Rattle.drt_margin.specs.declared.halving.Half.TheVariants as halves
use Rattle.drt_margin.specs.declared.halving.Last.{Last}
use Rattle.drt_margin.specs.declared.halving.Last.TheVariants as lasts
use Rattle.drt_model.specs.Numbers.{most_time}

-- The question can be asked of the set: it keeps its limits, its deadlines are constrained, and the vertex is there.
pub record IsAsked (set : Contents) (q : Question) : Type 0 where
  pub limits : IsTaskSet set.version set.tasks
  pub constrained : AreConstrained set.tasks
  pub vertex : IsVertexOf set.tasks q.task q.vertex

-- What the analysis of a set under the policy found.
abbrev pub IsFinding : Policy → Contents → ℕ → Finding → Type 0
IsFinding policy set budget (findings.Yes evidence) = IsYesFor policy set evidence
IsFinding policy set budget (findings.Other evidence) = IsOtherFor policy set evidence
IsFinding policy set budget (findings.Beyond beyond) = (policy ≡ Edf) × IsBeyond set.tasks beyond
IsFinding policy set budget (findings.Undecided trail) = IsSpentUnder policy set budget trail

-- S with so many ticks more keeps the limit of an execution time, for each of these numbers.
abbrev pub AreAskable : Contents → Question → List ℕ → Type 0
AreAskable set q numbers = All (λ add. wcet_at set.tasks q.task q.vertex + add ≤ most_time) numbers

-- What was found ahead, with a budget, is said of S with so many ticks more as the number at its place.
abbrev pub AreNumbersAhead : Contents → Question → ℕ → Ahead → Type 0
AreNumbersAhead set q budget ahead =
    (i : ℕ) (finding : Finding) → slice_index_or ahead.found.items i None ≡ Some finding
    → IsFinding q.policy (plus_set set q.task q.vertex (slice_index ahead.numbers.items i)) budget finding

-- A pair that halving goes through: the lower number is within, with its evidence, and the higher one isn't, with its evidence if it was
-- tried.
pub record IsHalvingRoom (set : Contents) (policy : Policy) (k v : ℕ) (room : Room) : Type 0 where
  pub order : room.low < room.high
  pub most : room.high ≤ most_time
  pub limit : wcet_at set.tasks k v + room.high ≤ most_time + 1
  pub halves : Halves set policy k v room.low room.high
  pub is_in : IsWithinMargin set policy k v room.low
  pub first : IsWithinMargin set policy k v 0
  pub past : ArePast set policy k v room.high
  pub yes : IsYesFor policy (plus_set set k v room.low) room.within
  pub shown : IfSome room.past (λ evidence. IsNextShown set policy k v room.high (Shown evidence))

-- What one analysis makes of a pair: the next pair, whose numbers are nearer, or the answer.
abbrev pub IsHalf : Contents → Policy → ℕ → ℕ → ℕ → ℕ → Half → Type 0
IsHalf set policy k v budget apart (halves.Open room) = IsHalvingRoom set policy k v room × (room.high - room.low < apart)
IsHalf set policy k v budget apart (halves.Ended answer) = IsMarginAnswer set policy k v budget answer

-- The least number that isn't within: the higher one of a pair whose numbers are next to each other.
pub record IsLeast (set : Contents) (policy : Policy) (k v high : ℕ) : Type 0 where
  pub low : ℕ
  pub halves : Halves set policy k v low high
  pub near : high - low ≤ 1
  pub first : IsWithinMargin set policy k v 0
  pub past : ArePast set policy k v high
  pub limit : wcet_at set.tasks k v + high ≤ most_time + 1

-- What is shown of it, or the answer.
abbrev pub IsLastShown : Contents → Policy → ℕ → ℕ → ℕ → ℕ → Last → Type 0
IsLastShown set policy k v budget high (lasts.Next next) = IsNextShown set policy k v high next
IsLastShown set policy k v budget high (lasts.Ended answer) = IsMarginAnswer set policy k v budget answer

-- The answer: the margin with what is shown of the number after it, or the one that came instead.
abbrev pub answer_of : ℕ → Evidence → Last → MarginAnswer
answer_of low within (lasts.Next next) = Found low within next
answer_of low within (lasts.Ended answer) = answer
