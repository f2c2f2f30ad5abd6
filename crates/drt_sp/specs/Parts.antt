-- A proof that is put together from parts, each of which ends one combination of a frontier.
use Rattle.std.specs.Prelude.{◌≡◌, ℕ, ◌<◌, ◌≤◌, Option, Some, List, [], ◌∷◌, ◌++◌, All, length, slice_get}
use Rattle.drt_model.specs.Numbers.{most_time}
use Rattle.drt_claims.specs.Ranges.{IsCounted, IsInRangeItem, IsNumber}
use Rattle.drt_claims.specs.declared.evidence.Item.{Item}
use Rattle.drt_claims.specs.declared.evidence.Item.TheVariants.{Pass, Split}
use Rattle.drt_steps.specs.Time.{AreChosen}
use Rattle.drt_tree.specs.Tree.{Plain}
use Rattle.drt_refine.specs.Combination.{Combination}
use Rattle.drt_refine.specs.Drive.{StopsAt}
use Rattle.drt_refine.specs.Eager.{IsEager}
use Rattle.drt_refine.specs.View.{FrontierView, IsFrontier, setting_of, state_of}
use Rattle.drt_refine.specs.declared.step.CombinationState.{CombinationState}
use Rattle.drt_refine.specs.declared.step.CombinationState.TheVariants.{Pending, Taken, Passed as PassedAt, Split as SplitAt, Failed}
use Rattle.drt_refine.specs.declared.step.FrontierReply.TheVariants.{Spent as SpentReply}
use Rattle.drt_sp.specs.Items.{AreItems, IsFailure, IsProofOf, refinement_of}
use Rattle.drt_sp.specs.declared.parts.Part.{Part}
use Rattle.drt_sp.specs.declared.proving.PosedVertex.{PosedVertex}
use Rattle.drt_sp.specs.declared.proving.Refined.{Refined}
use Rattle.drt_sp.specs.declared.proving.Refined.TheVariants.{Passes as PassesBy, Fails as FailsAt, Spent as SpentIn}

-- The nodes of the combinations on a stack, the last one on top, put onto those that stand under them.
abbrev pub upright : List (List ℕ) → List (List ℕ) → List (List ℕ)
upright [] under = under
upright (nodes ∷ stack) under = upright stack (nodes ∷ under)

-- The trees have leaves whose functions go to the deadline, and there are few of them; the numbers are in range.
pub record IsPosedVertex (v : PosedVertex) : Type 0 where
  pub few : length v.roots.now ≤ 31
  pub chosen : AreChosen v.deadline v.forest.now.pool v.roots.now
  pub some_wcet : 1 ≤ v.wcet
  pub few_wcet : v.wcet ≤ most_time
  pub some_deadline : 1 ≤ v.deadline
  pub few_deadline : v.deadline ≤ most_time

module _ (f : Plain) (wcet deadline : ℕ) where
  -- The frontier is that of the job and the roots, made by eager steps, and spent its budget.
  pub record IsSpentFrontier (roots : List ℕ) (budget : ℕ) (v : FrontierView) : Type 0 where
    pub setting : setting_of f v ≡ refinement_of f roots wcet deadline budget
    pub frontier : IsFrontier f v
    pub eager : IsEager (setting_of f v) v.log
    pub stops : StopsAt (setting_of f v) (state_of v) SpentReply

  -- Where the refinement came to its end is so.
  abbrev pub IsRefined : List ℕ → ℕ → Refined → Type 0
  IsRefined roots budget (PassesBy items) = IsProofOf f wcet deadline roots items × All IsInRangeItem items × IsCounted items
  IsRefined roots budget (FailsAt tuple) = IsFailure f wcet deadline roots tuple
  IsRefined roots budget (SpentIn frontier) = IsSpentFrontier roots budget frontier

  -- The items end a combination of these nodes, and are in the ranges of a dossier.
  pub record AreEndOf (nodes : List ℕ) (items : List Item) : Type 0 where
    pub items_are : AreItems f wcet deadline items (nodes ∷ [])
    pub in_range : All IsInRangeItem items

  -- A combination of these nodes can be ended.
  pub record CanEnd (nodes : List ℕ) : Type 0 where
    pub few : length nodes ≤ 31
    pub chosen : AreChosen deadline f.pool nodes

  -- One more item, in range, ends a combination or splits it: whatever items end the new stack, end the combination and the old one
  -- after it.
  pub record IsNextItem (nodes : List ℕ) (old new : List (List ℕ)) (item : Item) : Type 0 where
    pub goes : (more : List Item) → AreItems f wcet deadline more (upright new []) → AreItems f wcet deadline (item ∷ more) (nodes ∷ upright old [])
    pub in_range : IsInRangeItem item
    pub can : All CanEnd old → All CanEnd new

  -- The items were added for a combination in this state: its own where it passed or was split, and then its halves are on the stack,
  -- the left one on top; a part that ends it where it is open.
  abbrev pub AreAdded : CombinationState → List ℕ → List Item → List ℕ → List ℕ → Type 0
  AreAdded Pending nodes added old new = AreEndOf nodes added × (new ≡ old)
  AreAdded (Taken w) nodes added old new = AreEndOf nodes added × (new ≡ old)
  AreAdded (PassedAt time) nodes added old new = (added ≡ Pass time ∷ []) × (new ≡ old)
  AreAdded (SplitAt place left right) nodes added old new = (added ≡ Split place ∷ []) × IsNumber place × (new ≡ old ++ right ∷ left ∷ [])
  AreAdded Failed nodes added old new = ⊥

  module _ (combinations : List Combination) where
    -- The items end the combination of that number.
    abbrev pub IsEndOf : ℕ → List Item → Type 0
    IsEndOf id items = (c : Combination) → slice_get combinations id ≡ Some c → AreEndOf c.nodes items

    -- It is a part of the proof: it ends a combination.
    abbrev pub IsPart : Part → Type 0
    IsPart part = (part.id < length combinations) × IsEndOf part.id part.items

    -- There is a place for each combination, and what is there, if anything, ends it.
    pub record HasParts (parts : List (Option (List Item))) : Type 0 where
      pub count : length parts ≡ length combinations
      pub are : (id : ℕ) (items : List Item) → slice_get parts id ≡ Some (Some items) → IsEndOf id items

-- Some items were added to the old ones for the combination of that number of a frontier, which changed the stack.
abbrev pub AreAddedFor : Plain → FrontierView → ℕ → List Item → List Item → List ℕ → List ℕ → Type 0
AreAddedFor f v id old new before after =
    (added : List Item) × (new ≡ old ++ added) × ((c : Combination) → slice_get v.combinations id ≡ Some c → AreAdded f v.wcet v.deadline c.state c.nodes added before after)
