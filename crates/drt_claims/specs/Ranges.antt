-- The ranges of the numbers in a dossier.
use Rattle.std.specs.Prelude.{ℕ, ◌≤◌, ℤ, pos, negsuc, ◌≤ℤ◌, List, All, length}
use Rattle.drt_model.specs.Numbers.{most_number, most_term, most_height, most_ticks}
use Rattle.drt_model.specs.declared.jobs.Release.{Release}
use Rattle.drt_model.specs.declared.jobs.Miss.{Miss}
use Rattle.drt_claims.specs.declared.evidence.Evidence.{Evidence}
use Rattle.drt_claims.specs.declared.evidence.Evidence.TheVariants.{EdfYes, EdfNo, UtilisationOne, FixedYes, FixedStates, FixedNo, Undecided}
use Rattle.drt_graph.specs.declared.front.FrontEntry.{FrontEntry}
use Rattle.drt_claims.specs.declared.evidence.Item.{Item}
use Rattle.drt_claims.specs.declared.evidence.Item.TheVariants.{Pass, Split}
use Rattle.drt_claims.specs.declared.evidence.Pair.{Pair}
use Rattle.drt_claims.specs.declared.evidence.ProofClaim.{ProofClaim}
use Rattle.drt_rates.specs.declared.ratio_claim.RatioClaim.{RatioClaim}
use Rattle.drt_claims.specs.declared.evidence.TreeClaim.{TreeClaim}
use Rattle.drt_states.specs.declared.claims.Jump.{Jump}
use Rattle.drt_states.specs.declared.claims.SearchClaim.{SearchClaim}
use Rattle.drt_states.specs.declared.claims.StateClaim.{StateClaim}
use Rattle.drt_states.specs.declared.claims.StateEnd.{StateEnd}
use Rattle.drt_states.specs.declared.claims.StateEnd.TheVariants.{Passes, Splits}
use Rattle.drt_states.specs.declared.claims.StateEntry.{StateEntry}
use Rattle.drt_states.specs.declared.claims.TailClaim.{TailClaim}

-- A number of a vertex, a task, a job or a place, or a count, is at most 4,294,967,295.
abbrev pub IsNumber : ℕ → Type 0
IsNumber n = n ≤ most_number

-- An offset, a time, a need or a deadline is at most 10^18 ticks.
abbrev pub IsTick : ℕ → Type 0
IsTick t = t ≤ most_ticks

-- A list is counted by such a number.
abbrev pub IsCounted : {A : Type 0} → List A → Type 0
IsCounted xs = IsNumber (length xs)

-- A potential is -10^16 to 10^16.
abbrev pub IsInRangePotential : ℤ → Type 0
IsInRangePotential h = (negsuc 9999999999999999 ≤ℤ h) × (h ≤ℤ pos most_height)

-- A ratio has a numerator of at most 10^9 and a denominator of 1 to 10^9, its cycle has numbers of vertices, and its potentials
-- are in range.
pub record IsInRangeRatio (c : RatioClaim) : Type 0 where
  pub num : c.num ≤ most_term
  pub some : 1 ≤ c.den
  pub den : c.den ≤ most_term
  pub cycle : All IsNumber c.cycle
  pub cycle_counted : IsCounted c.cycle
  pub potentials : All IsInRangePotential c.potentials
  pub potentials_counted : IsCounted c.potentials

-- A work is at most 2·10^18 ticks.
pub record IsInRangeEntry (e : FrontEntry) : Type 0 where
  pub vertex : IsNumber e.vertex
  pub offset : IsTick e.offset
  pub work : e.work ≤ 2000000000000000000

-- A front is counted, and its entries are in range.
abbrev pub IsInRangeFront : List FrontEntry → Type 0
IsInRangeFront front = All IsInRangeEntry front × IsCounted front

-- A release has numbers of a task and a vertex, a time and a need.
pub record IsInRangeRelease (r : Release) : Type 0 where
  pub task : IsNumber r.task
  pub vertex : IsNumber r.vertex
  pub time : IsTick r.time
  pub need : IsTick r.need

-- A miss has numbers of a task and a job, and a deadline.
pub record IsInRangeMiss (m : Miss) : Type 0 where
  pub task : IsNumber m.task
  pub index : IsNumber m.index
  pub deadline : IsTick m.deadline

-- Releases are counted and in range, and so is the miss of one of their jobs.
pub record AreInRangeReleases (releases : List Release) (miss : Miss) : Type 0 where
  pub each : All IsInRangeRelease releases
  pub counted : IsCounted releases
  pub named : IsInRangeMiss miss

-- A walk of a tree has numbers of vertices.
abbrev pub IsInRangeWalk : List ℕ → Type 0
IsInRangeWalk walk = All IsNumber walk × IsCounted walk

-- A pair has numbers of two nodes.
abbrev pub IsInRangePair : Pair → Type 0
IsInRangePair p = IsNumber p.left × IsNumber p.right

-- A tree has walks and pairs, and both are counted.
pub record IsInRangeTree (t : TreeClaim) : Type 0 where
  pub walks : All IsInRangeWalk t.walks
  pub walks_counted : IsCounted t.walks
  pub pairs : All IsInRangePair t.pairs
  pub pairs_counted : IsCounted t.pairs

-- An item has a time or the number of a place.
abbrev pub IsInRangeItem : Item → Type 0
IsInRangeItem (Pass t) = IsTick t
IsInRangeItem (Split p) = IsNumber p

-- A proof has numbers of a task and a vertex, and its items are counted.
pub record IsInRangeProof (p : ProofClaim) : Type 0 where
  pub task : IsNumber p.task
  pub vertex : IsNumber p.vertex
  pub items : All IsInRangeItem p.items
  pub counted : IsCounted p.items

-- A work of a jump or of a state is at most 2·10^18 ticks.
abbrev pub IsWork : ℕ → Type 0
IsWork w = w ≤ 2000000000000000000

-- A jump has an offset and a work.
abbrev pub IsInRangeJump : Jump → Type 0
IsInRangeJump j = IsTick j.offset × IsWork j.work

-- Jumps are counted.
abbrev pub IsInRangeCurve : List Jump → Type 0
IsInRangeCurve jumps = All IsInRangeJump jumps × IsCounted jumps

-- A tail has lists of jumps, and they are counted.
abbrev pub IsInRangeTail : TailClaim → Type 0
IsInRangeTail t = All IsInRangeCurve t.curves × IsCounted t.curves

-- An entry of a state has numbers of a place and a vertex, and an offset.
pub record IsInRangeStateEntry (e : StateEntry) : Type 0 where
  pub place : IsNumber e.place
  pub vertex : IsNumber e.vertex
  pub offset : IsTick e.offset

-- A state ends with a time, or with the numbers of a place and of states. How many these are isn't said.
abbrev pub IsInRangeEnd : StateEnd → Type 0
IsInRangeEnd (Passes t) = IsTick t
IsInRangeEnd (Splits place children) = IsNumber place × All IsNumber children

-- A state has entries, which are counted, a work, and an end.
pub record IsInRangeState (s : StateClaim) : Type 0 where
  pub entries : All IsInRangeStateEntry s.entries
  pub counted : IsCounted s.entries
  pub work : IsWork s.work
  pub end : IsInRangeEnd s.end

-- A search has numbers of a task and a vertex, and its states are counted.
pub record IsInRangeSearch (s : SearchClaim) : Type 0 where
  pub task : IsNumber s.task
  pub vertex : IsNumber s.vertex
  pub states : All IsInRangeState s.states
  pub counted : IsCounted s.states

-- The numbers of each kind of evidence are in range.
abbrev pub IsEvidenceInRange : Evidence → Type 0
IsEvidenceInRange (EdfYes ratios fronts) = (All IsInRangeRatio ratios × IsCounted ratios) × (All IsInRangeFront fronts × IsCounted fronts)
IsEvidenceInRange (EdfNo releases miss) = AreInRangeReleases releases miss
IsEvidenceInRange (UtilisationOne ratios) = All IsInRangeRatio ratios × IsCounted ratios
IsEvidenceInRange (FixedYes trees proofs) = (All IsInRangeTree trees × IsCounted trees) × (All IsInRangeProof proofs × IsCounted proofs)
IsEvidenceInRange (FixedStates tails searches) = (All IsInRangeTail tails × IsCounted tails) × (All IsInRangeSearch searches × IsCounted searches)
IsEvidenceInRange (FixedNo releases miss) = AreInRangeReleases releases miss
IsEvidenceInRange Undecided = Unit {0}
