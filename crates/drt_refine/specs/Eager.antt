-- Eager runs: a combination passes with the least time that passes, is split only where no time passes, and at the place whose
-- node has the most leaves.
use Rattle.std.specs.Prelude.{◌≡◌, ℕ, ◌≤◌, ◌<◌, Option, None, Some, List, slice_get}
use Rattle.drt_steps.specs.Time.{IsLeastTime}
use Rattle.drt_tree.specs.Tree.{Plain, children, leaves}
use Rattle.drt_worklist.specs.Runs.{AllAlong}
use Rattle.drt_refine.specs.Below.{IsConcrete}
use Rattle.drt_refine.specs.Combination.{Combination}
use Rattle.drt_refine.specs.Machine.{FrontierSetting, FrontierState, NonePasses, after, opening_state}
use Rattle.drt_refine.specs.declared.step.FrontierStep.{FrontierStep}
use Rattle.drt_refine.specs.declared.step.FrontierStep.TheVariants.{Take, Pass, Split, Fail}
use Rattle.drt_refine.specs.declared.step.FrontierEntry.{FrontierEntry}

-- The node at the place has the most leaves under it, and each node before it has fewer.
pub record IsWidest (f : Plain) (nodes : List ℕ) (place : ℕ) : Type 0 where
  pub node : ℕ
  pub at : slice_get nodes place ≡ Some node
  pub most : (q m : ℕ) → slice_get nodes q ≡ Some m → leaves f m ≤ leaves f node
  pub least : (q m : ℕ) → q < place → slice_get nodes q ≡ Some m → leaves f m < leaves f node

-- The place at which a combination of these nodes is to be split: none exactly where each is a leaf, and else the place whose node
-- has the most leaves under it, the least one in a tie.
abbrev pub IsSplitPlace : Plain → List ℕ → Option ℕ → Type 0
IsSplitPlace f nodes None = IsConcrete f nodes
IsSplitPlace f nodes (Some place) = (w : IsWidest f nodes place) × (l : ℕ) × (r : ℕ) × (children f w.node ≡ Some (l, r))

module _ (t : FrontierSetting) where
  -- The step is what a worker that settles the combination makes: it passes with the least time that passes; it splits only
  -- where no time passes, and at the widest place.
  abbrev pub IsEagerFor : Combination → FrontierStep → Type 0
  IsEagerFor c Take = Unit {0}
  IsEagerFor c (Pass id time) = IsLeastTime t.wcet t.deadline t.forest.pool c.nodes time
  IsEagerFor c (Split id place) = NonePasses t c.nodes × IsWidest t.forest c.nodes place
  IsEagerFor c (Fail id) = Unit {0}

  -- The combination that a step settles, if it settles one.
  abbrev pub settled_by : FrontierStep → Option ℕ
  settled_by Take = None
  settled_by (Pass id time) = Some id
  settled_by (Split id place) = Some id
  settled_by (Fail id) = Some id

  -- The entry's step is eager for the combination that it settles.
  abbrev pub IsEagerStep : FrontierState → FrontierEntry → Type 0
  IsEagerStep s e = (id : ℕ) (c : Combination) → settled_by e.step ≡ Some id → slice_get s.combinations id ≡ Some c → IsEagerFor c e.step

  -- Each entry's step is eager, one after another.
  abbrev pub AreEagerFrom : FrontierState → List FrontierEntry → Type 0
  AreEagerFrom s es = AllAlong (after t) IsEagerStep s es

  -- The log is eager.
  abbrev pub IsEager : List FrontierEntry → Type 0
  IsEager es = AreEagerFrom (opening_state t) es
