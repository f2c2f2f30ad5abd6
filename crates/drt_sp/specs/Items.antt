-- The items of a vertex's proof, said of the nodes of a forest.
use Rattle.std.specs.Prelude.{◌≡◌, ℕ, None, Some, List, [], ◌∷◌, ◌++◌, length, slice_get, slice_set, false, All}
use Rattle.drt_steps.specs.Time.{IsLeastTime, Passes}
use Rattle.drt_tree.specs.Tree.{Plain, children}
use Rattle.drt_worklist.specs.Places.{first}
use Rattle.drt_claims.specs.Ranges.{IsCounted, IsInRangeItem, IsNumber}
use Rattle.drt_claims.specs.declared.evidence.Item.{Item}
use Rattle.drt_claims.specs.declared.evidence.Item.TheVariants.{Pass, Split}
use Rattle.drt_refine.specs.Below.{AreBelow}
use Rattle.drt_refine.specs.Combination.{is_failed}
use Rattle.drt_refine.specs.Eager.{IsEager, IsSplitPlace}
use Rattle.drt_refine.specs.Machine.{FrontierSetting, IsRun, replay, is_finished}
use Rattle.drt_refine.specs.declared.step.CombinationState.{CombinationState}
use Rattle.drt_refine.specs.declared.step.CombinationState.TheVariants.{Pending, Taken, Passed as PassedAt, Split as SplitAt, Failed}
use Rattle.drt_refine.specs.declared.step.FrontierEntry.{FrontierEntry}
use Rattle.drt_sp.specs.declared.proving.VertexProof.{VertexProof}
use Rattle.drt_sp.specs.declared.proving.VertexProof.TheVariants.{Passes as PassesBy, Fails as FailsAt, Spent as SpentBy}

-- A job of this wcet and deadline and the trees with these roots, with a budget of steps.
abbrev pub refinement_of : Plain → List ℕ → ℕ → ℕ → ℕ → FrontierSetting
refinement_of f roots wcet deadline budget = record { forest = f; roots = roots; wcet = wcet; deadline = deadline; budget = budget }

module _ (f : Plain) (wcet deadline : ℕ) where
  -- No time passes for the nodes.
  abbrev pub NonePasses : List ℕ → Type 0
  NonePasses nodes = (t : ℕ) → Passes wcet deadline f.pool nodes t → ⊥

  -- The node at the place has these children.
  pub record AreHalves (nodes : List ℕ) (place l r : ℕ) : Type 0 where
    pub node : ℕ
    pub at : slice_get nodes place ≡ Some node
    pub children : children f node ≡ Some (l, r)

  -- The items end the combinations of the stack one after another, the topmost first: an item passes with the least time that
  -- passes, or splits a combination for which none does at its widest place, and then the left half comes on top.
  pub data AreItems : List Item → List (List ℕ) → Type 0 where
    none : AreItems [] []
    pass : (t : ℕ) (items : List Item) (nodes : List ℕ) (stack : List (List ℕ)) → IsLeastTime wcet deadline f.pool nodes t → AreItems items stack → AreItems (Pass t ∷ items) (nodes ∷ stack)
    split : (place l r : ℕ) (items : List Item) (nodes : List ℕ) (stack : List (List ℕ)) → NonePasses nodes → IsSplitPlace f nodes (Some place) → AreHalves nodes place l r
        → AreItems items (slice_set nodes place l ∷ slice_set nodes place r ∷ stack) → AreItems (Split place ∷ items) (nodes ∷ stack)

  -- The vertex passes: the items are its proof from the roots on, and for each tuple of leaves some time passes.
  pub record IsProofOf (roots : List ℕ) (items : List Item) : Type 0 where
    pub items_are : AreItems items (roots ∷ [])
    pub each : (tuple : List ℕ) → AreBelow f tuple roots → (t : ℕ) × Passes wcet deadline f.pool tuple t

  -- The vertex fails: no time passes for this tuple of leaves.
  pub record IsFailure (roots tuple : List ℕ) : Type 0 where
    pub below : AreBelow f tuple roots
    pub hopeless : NonePasses tuple

  -- The refinement spent the budget: the log is an eager run of that many steps, which isn't finished and has no failed combination.
  pub record IsSpentRefinement (roots : List ℕ) (budget : ℕ) (log : List FrontierEntry) : Type 0 where
    pub run : IsRun (refinement_of f roots wcet deadline budget) log
    pub eager : IsEager (refinement_of f roots wcet deadline budget) log
    pub spent : length log ≡ budget
    pub unfinished : is_finished (refinement_of f roots wcet deadline budget) (replay (refinement_of f roots wcet deadline budget) log) ≡ false
    pub unfailed : first is_failed (replay (refinement_of f roots wcet deadline budget) log).combinations ≡ None

  -- What becomes of a vertex is so: it passes by these items, whose numbers are in the ranges of a dossier; it fails at the tuple; or
  -- the budget was spent after the log.
  abbrev pub IsVertexProof : List ℕ → ℕ → VertexProof → Type 0
  IsVertexProof roots budget (PassesBy items) = IsProofOf roots items × All IsInRangeItem items × IsCounted items
  IsVertexProof roots budget (FailsAt tuple) = IsFailure roots tuple
  IsVertexProof roots budget (SpentBy log) = IsSpentRefinement roots budget log

-- The item of a combination in this state, and the numbers on a stack before and after it: those of its halves are put onto it, the
-- left one last.
abbrev pub IsItemOf : CombinationState → Item → List ℕ → List ℕ → Type 0
IsItemOf Pending item old new = ⊥
IsItemOf (Taken w) item old new = ⊥
IsItemOf (PassedAt time) item old new = (item ≡ Pass time) × (new ≡ old)
IsItemOf (SplitAt place left right) item old new = (item ≡ Split place) × IsNumber place × (new ≡ old ++ right ∷ left ∷ [])
IsItemOf Failed item old new = ⊥
