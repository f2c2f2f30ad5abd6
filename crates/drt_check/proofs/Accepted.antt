-- What accepted evidence keeps, as the record of its kind.
use Rattle.std.proofs.Common.{◌≡◌, ℕ, List, All, sym, ap, ◌∙◌, subst}
use Rattle.drt_model.specs.Contents.{Contents}
use Rattle.drt_model.specs.Digraph.{Digraph}
use Rattle.drt_graph.specs.Horizon.{horizon}
use Rattle.drt_model.specs.declared.jobs.Policy.{Policy}
use Rattle.drt_claims.specs.Claims.{graphs_of, IsHorizon}
use Rattle.drt_rates.specs.RatioClaims.{fractions, potentials}
use Rattle.drt_claims.specs.Fronts.{HasOpenings, IsClosedFront, IsOrdered}
use Rattle.drt_claims.specs.Proofs.{HasPassingTimes}
use Rattle.drt_claims.specs.Rules.{Accepts}
use Rattle.drt_claims.specs.Searches.{HasDominatedChildren, HasStatesOver, places_of}
use Rattle.drt_claims.specs.Sorting.{by_priority}
use Rattle.drt_claims.specs.Trees.{CoversWalks, HasShortWalks, greatest_deadline, tree_graphs}
use Rattle.drt_claims.specs.declared.evidence.Evidence.TheVariants.{EdfYes, FixedStates, FixedYes, UtilisationOne}
use Rattle.drt_graph.specs.declared.front.FrontEntry.{FrontEntry}
use Rattle.drt_claims.specs.declared.evidence.ProofClaim.{ProofClaim}
use Rattle.drt_rates.specs.declared.ratio_claim.RatioClaim.{RatioClaim}
use Rattle.drt_claims.specs.declared.evidence.TreeClaim.{TreeClaim}
use Rattle.drt_claims.specs.declared.rule.Rule.TheVariants.{RatioPerTask, LowestTerms, PotentialPerVertex, FittingPotentials, ClosedCycles, TightCycles}
use Rattle.drt_claims.specs.declared.rule.Rule.TheVariants.{FineScale, ClaimedUtilisation, NearHorizon, OrderedFronts, CoveredOpenings, CoveredExtensions, Room}
use Rattle.drt_claims.specs.declared.rule.Rule.TheVariants.{TreePerHigherTask, ShortWalks, CoveredWalks, TreeShapes, ProofPerVertex, ProofShapes, PassingTimes}
use Rattle.drt_claims.specs.declared.rule.Rule.TheVariants.{RisingTails, BoundingTails, SearchPerVertex, SearchStates, PassingStates, DominatedChildren}
use Rattle.drt_claims.proofs.Accepting.{IsEdfYes, IsFixedStates, IsFixedYes, IsUtilisationOne, statement}
use Rattle.drt_claims.proofs.Sorting.{holds_sorted}
use Rattle.drt_graph.proofs.Scales.{scale_same}
use Rattle.drt_states.specs.Tails.{BoundsWalks, EachTail, IsTail}
use Rattle.drt_states.specs.declared.claims.SearchClaim.{SearchClaim}
use Rattle.drt_states.specs.declared.claims.TailClaim.{TailClaim}
use Rattle.drt_model.specs.Each.{Each}

-- There is one horizon.
pub horizon_same : (graphs : List Digraph) (ratios : List RatioClaim) (b c : ℕ) → IsHorizon graphs ratios b → IsHorizon graphs ratios c → b ≡ c
horizon_same graphs ratios b c p q =
    let e : p.0 ≡ q.0 = scale_same (fractions ratios) p.0 q.0 p.1 q.1 in
    p.2 ∙ ap (λ n. horizon n graphs (fractions ratios) (potentials ratios)) e ∙ sym q.2

-- What holds at a horizon holds at the horizon.
pub at_horizon : (graphs : List Digraph) (ratios : List RatioClaim) (b : ℕ) → IsHorizon graphs ratios b → (R : ℕ → Type 0)
    → (c : ℕ) × IsHorizon graphs ratios c × R c → R b
at_horizon graphs ratios b is R other = subst R (horizon_same graphs ratios other.0 b other.1 is) other.2

-- A yes of EDF.
pub yes_kept : (policy : Policy) (set : Contents) (ratios : List RatioClaim) (fronts : List (List FrontEntry))
    → Accepts (statement policy set (EdfYes ratios fronts)) → IsEdfYes set.tasks ratios fronts
yes_kept policy set ratios fronts is =
    let near = is.keeps NearHorizon tt in
    record {
      claims = record {
        per_task = is.keeps RatioPerTask tt;
        lowest = is.keeps LowestTerms tt;
        counted = is.keeps PotentialPerVertex tt;
        fits = is.keeps FittingPotentials tt;
        closed = is.keeps ClosedCycles tt;
        tight = is.keeps TightCycles tt;
        fine = is.keeps FineScale tt;
      };
      below = is.keeps ClaimedUtilisation tt;
      bound = near.0;
      is_bound = near.1;
      fronts_are = record {
        near = near.2;
        ordered = at_horizon (graphs_of set.tasks) ratios near.0 near.1 (λ bound. Each (IsOrdered bound) (graphs_of set.tasks) fronts) (is.keeps OrderedFronts tt);
        openings = at_horizon (graphs_of set.tasks) ratios near.0 near.1 (λ bound. Each (HasOpenings bound) (graphs_of set.tasks) fronts) (is.keeps CoveredOpenings tt);
        closed = at_horizon (graphs_of set.tasks) ratios near.0 near.1 (λ bound. Each (IsClosedFront bound) (graphs_of set.tasks) fronts) (is.keeps CoveredExtensions tt);
        room = is.keeps Room tt;
      };
    }

-- A utilisation of one.
pub one_kept : (policy : Policy) (set : Contents) (ratios : List RatioClaim) → Accepts (statement policy set (UtilisationOne ratios)) → IsUtilisationOne set.tasks ratios
one_kept policy set ratios is = record {
  claims = record {
    per_task = is.keeps RatioPerTask tt;
    lowest = is.keeps LowestTerms tt;
    counted = is.keeps PotentialPerVertex tt;
    fits = is.keeps FittingPotentials tt;
    closed = is.keeps ClosedCycles tt;
    tight = is.keeps TightCycles tt;
    fine = is.keeps FineScale tt;
  };
  one = is.keeps ClaimedUtilisation tt;
}

-- A yes of fixed priorities.
pub fixed_kept : (policy : Policy) (set : Contents) (trees : List TreeClaim) (proofs : List ProofClaim)
    → Accepts (statement policy set (FixedYes trees proofs)) → IsFixedYes set.tasks (by_priority set.tasks) trees proofs
fixed_kept policy set trees proofs is = record {
  trees_are = record {
    per_task = is.keeps TreePerHigherTask tt;
    short = holds_sorted (λ ts. Each (HasShortWalks (greatest_deadline set.tasks)) (tree_graphs ts trees) trees) set.tasks (is.keeps ShortWalks tt);
    covers = holds_sorted (λ ts. Each (CoversWalks (greatest_deadline set.tasks)) (tree_graphs ts trees) trees) set.tasks (is.keeps CoveredWalks tt);
    shapes = is.keeps TreeShapes tt;
  };
  per_vertex = is.keeps ProofPerVertex tt;
  shapes = is.keeps ProofShapes tt;
  times = holds_sorted (λ ts. All (HasPassingTimes set.tasks (tree_graphs ts trees) trees) proofs) set.tasks (is.keeps PassingTimes tt);
}

-- A yes of fixed priorities by tails and states.
pub states_kept : (policy : Policy) (set : Contents) (tails : List TailClaim) (searches : List SearchClaim)
    → Accepts (statement policy set (FixedStates tails searches)) → IsFixedStates set.tasks (by_priority set.tasks) tails searches
states_kept policy set tails searches is = record {
  rising = holds_sorted (λ ts. EachTail IsTail (places_of set.tasks ts) tails) set.tasks (is.keeps RisingTails tt);
  bounding = holds_sorted (λ ts. EachTail BoundsWalks (places_of set.tasks ts) tails) set.tasks (is.keeps BoundingTails tt);
  per_vertex = is.keeps SearchPerVertex tt;
  states = holds_sorted (λ ts. All (HasStatesOver set.tasks ts) searches) set.tasks (is.keeps SearchStates tt);
  passing = is.keeps PassingStates tt;
  children = holds_sorted (λ ts. All (HasDominatedChildren set.tasks ts) searches) set.tasks (is.keeps DominatedChildren tt);
}
