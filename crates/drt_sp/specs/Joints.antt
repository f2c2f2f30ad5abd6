-- Attempts whose parts are put together.
use Rattle.std.specs.Prelude.{◌≡◌, ℕ, ◌<◌, ◌≤◌, List, All, length, slice_index_or, IfOk, IfSome}
use Rattle.drt_model.specs.Numbers.{most_time}
use Rattle.drt_model.specs.Digraph.{Digraph}
use Rattle.drt_claims.specs.Ranges.{IsCounted}
use Rattle.drt_refine.specs.Eager.{IsEager}
use Rattle.drt_refine.specs.View.{IsFrontier, setting_of}
use Rattle.drt_sp.specs.Attempts.{IsAttempt}
use Rattle.drt_sp.specs.Parts.{AreEndOf, HasParts}
use Rattle.drt_sp.specs.declared.joints.Joint.{Joint}
use Rattle.drt_tree.specs.Tree.{Plain}

module _ (f : Plain) where
  -- The parts, where there are some, end combinations of the attempt's frontier, and the items, where there are some, end its roots.
  pub record IsJoint (j : Joint) : Type 0 where
    pub frontier : IsFrontier f j.attempt.frontier
    pub eager : IsEager (setting_of f j.attempt.frontier) j.attempt.frontier.log
    pub deadline : j.attempt.frontier.deadline ≤ most_time
    pub parts : HasParts f j.attempt.frontier.wcet j.attempt.frontier.deadline j.attempt.frontier.combinations j.parts.items
    pub items : IfOk j.items (λ some. IfSome some (λ items. AreEndOf f j.attempt.frontier.wcet j.attempt.frontier.deadline j.attempt.frontier.roots items × IsCounted items))

module _ (f : Plain) (roots : List ℕ) (g : Digraph) where
  -- It is of an attempt at a vertex of the graph.
  pub record IsJointOf (j : Joint) : Type 0 where
    pub joint : IsJoint f j
    pub attempt : IsAttempt f roots g j.attempt

  -- Each is of an attempt at a vertex of the graph.
  abbrev pub AreJoints : List Joint → Type 0
  AreJoints joints = All IsJointOf joints

-- There are as many, and the attempt at each place is the same.
pub record KeepAttempts (old new : List Joint) : Type 0 where
  pub count : length new ≡ length old
  pub same : (i : ℕ) (d : Joint) → i < length old → (slice_index_or new i d).attempt ≡ (slice_index_or old i d).attempt
