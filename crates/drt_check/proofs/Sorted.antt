-- The rules on the tasks in order of priority: a row that decides what they ask of the sorted tasks decides what they ask.
use Rattle.std.proofs.Common.{◌≢◌, ℕ, Bool, List}
use Rattle.std.specs.Prelude.{◌↔◌, All, AllPairs, IfOk, IsTrue, Result}
use Rattle.std.proofs.lemmas.Result.{IfOk-weaker}
use Rattle.drt_model.specs.declared.tasks.Task.{Task}
use Rattle.drt_model.specs.Digraph.{Digraph}
use Rattle.drt_model.specs.Each.{Each}
use Rattle.drt_claims.specs.Kinds.{proofs_of, searches_of, tails_of, trees_of}
use Rattle.drt_claims.specs.Proofs.{HasPassingTimes}
use Rattle.drt_claims.specs.Searches.{places_of}
use Rattle.drt_claims.specs.Sorting.{by_priority}
use Rattle.drt_claims.specs.Statement.{Statement}
use Rattle.drt_claims.specs.Trees.{ByPriority, greatest_deadline, tree_graphs}
use Rattle.drt_claims.specs.declared.evidence.TreeClaim.{TreeClaim}
use Rattle.drt_claims.proofs.Sorting.{holds_sorted, sorted_holds}
use Rattle.drt_states.specs.Tails.{EachTail}
use Rattle.drt_states.specs.declared.claims.SearchClaim.{SearchClaim}
use Rattle.drt_states.specs.declared.claims.TailClaim.{TailClaim}

module _ (s : Statement) where
  -- What such rules ask of the tasks in order of priority: of the trees, of the times that pass, of the tails and of the searches.
  abbrev pub OfTrees : (ℕ → Digraph → TreeClaim → Type 0) → List Task → Type 0
  OfTrees R sorted = Each (R (greatest_deadline s.set.tasks)) (tree_graphs sorted (trees_of s.evidence)) (trees_of s.evidence)

  abbrev pub OfTimes : List Task → Type 0
  OfTimes sorted = All (HasPassingTimes s.set.tasks (tree_graphs sorted (trees_of s.evidence)) (trees_of s.evidence)) (proofs_of s.evidence)

  abbrev pub OfTails : (ℕ → Digraph → TailClaim → Type 0) → List Task → Type 0
  OfTails R sorted = EachTail R (places_of s.set.tasks sorted) (tails_of s.evidence)

  abbrev pub OfSearches : (List Task → List Task → SearchClaim → Type 0) → List Task → Type 0
  OfSearches R sorted = All (R s.set.tasks sorted) (searches_of s.evidence)

  module _ (R : List Task → Type 0) where
    -- What they ask, they ask of the sorted tasks.
    pub of_sorted : ByPriority s.set.tasks R → R (by_priority s.set.tasks)
    of_sorted by = holds_sorted R s.set.tasks by

    module _ (distinct : AllPairs (λ s t. s.priority ≢ t.priority) s.set.tasks) where
      pub decides_sorted : (b : Bool) → (IsTrue b ↔ R (by_priority s.set.tasks)) → IsTrue b ↔ ByPriority s.set.tasks R
      decides_sorted b h = (λ t. sorted_holds R s.set.tasks distinct (h.0 t), λ by. h.1 (of_sorted by))

      pub finds_sorted : {E : Type 0} (r : Result Bool E) → IfOk r (λ b. IsTrue b ↔ R (by_priority s.set.tasks))
          → IfOk r (λ b. IsTrue b ↔ ByPriority s.set.tasks R)
      finds_sorted r h = IfOk-weaker r (λ b. IsTrue b ↔ R (by_priority s.set.tasks)) (λ b. IsTrue b ↔ ByPriority s.set.tasks R) decides_sorted h
