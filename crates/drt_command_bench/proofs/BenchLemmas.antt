-- What both answers to a drawn set say.
use Rattle.std.proofs.Common.{◌≡◌, ◌≢◌, inl, inr, ℕ, List, [], ◌∷◌, length, get_or, map, AllPairs, Some, None, true≢false, refl, sym, ap, arith}
use Rattle.drt_model.specs.Digraph.{Digraph}
use Rattle.drt_model.specs.Legal.{AllNeighbours}
use Rattle.drt_model.specs.Limits.{IsTaskSet}
use Rattle.drt_graph.specs.declared.front.FrontEntry.{FrontEntry}
use Rattle.drt_model.specs.declared.jobs.Release.{Release}
use Rattle.drt_model.specs.declared.jobs.Miss.{Miss}
use Rattle.drt_model.specs.declared.tasks.Task.{Task}
use Rattle.drt_claims.specs.Claims.{graphs_of}
use Rattle.drt_claims.specs.Fronts.{IsOrdered}
use Rattle.drt_graph.specs.FrontEntry.{IsNextEntry}
use Rattle.drt_claims.specs.Rates.{IsAtOne}
use Rattle.drt_rates.specs.declared.ratio_claim.RatioClaim.{RatioClaim}
use Rattle.drt_claims.specs.declared.rule.Rule.TheVariants.{OrderedFronts}
use Rattle.drt_horizon.specs.declared.answers.Beyond.TheVariants.{TooFar}
use Rattle.drt_edf.specs.Answers.{IsExactEdfYes, IsEdfMiss, IsOther, IsEdfUndecided}
use Rattle.drt_edf.specs.Plans.{AreTooFine, IsTooFar}
use Rattle.drt_edf.specs.Walks.{IsExactFront}
use Rattle.drt_gen.specs.Generated.{generated}
use Rattle.drt_command_bench.specs.Scales.{AreAllSmall}
use Rattle.drt_summary.specs.declared.summary.EdfVerdict.TheVariants as on_edf
use Rattle.drt_trails.specs.declared.EdfTrail.{EdfTrail}
use Rattle.drt_effort.specs.Efforts.{most_budget}
use Rattle.drt_command_bench.specs.Bench.{AreCounts, EdfSays, HasCount}
use Rattle.drt_check_fronts.proofs.Orders.{later}
use Rattle.drt_command_edf.proofs.EdfLemmas.{one_alone, one_near, other_near, undecided_other}
use Rattle.drt_model.specs.Each.{Each}

-- No drawn set is too fine.
pub never_fine : AreAllSmall → (number : ℕ) → AreTooFine (generated number).tasks → ⊥
never_fine law number (rates, big) = omega (arith, law number rates.scale rates.ratios rates.are rates.is_scale, big)

module _ (tasks : List Task) (limits : IsTaskSet 1 tasks) where
  pub yes_says : (ratios : List RatioClaim) (fronts : List (List FrontEntry)) → IsExactEdfYes tasks ratios fronts → IsOther tasks → EdfSays tasks on_edf.Yes None
  yes_says ratios fronts exact other = record {
    yes = λ e. exact.schedulable;
    no = λ e. absurd (cc);
    one = (λ e. absurd (cc), λ p. absurd (one_alone 1 tasks limits p other));
    beyond = (λ e. absurd (cc), λ p. absurd (other_near 1 tasks limits TooFar other p));
    undecided = (λ e. absurd (cc), λ some. absurd (true≢false (sym some)));
    cause = tt;
  }

  pub no_says : (releases : List Release) (miss : Miss) → IsEdfMiss tasks releases miss → IsOther tasks → EdfSays tasks on_edf.No None
  no_says releases miss missed other = record {
    yes = λ e. absurd (cc);
    no = λ e. missed.not_schedulable;
    one = (λ e. absurd (cc), λ p. absurd (one_alone 1 tasks limits p other));
    beyond = (λ e. absurd (cc), λ p. absurd (other_near 1 tasks limits TooFar other p));
    undecided = (λ e. absurd (cc), λ some. absurd (true≢false (sym some)));
    cause = tt;
  }

  pub one_says : IsAtOne tasks → EdfSays tasks on_edf.One None
  one_says at_one = record {
    yes = λ e. absurd (cc);
    no = λ e. absurd (cc);
    one = (λ e. at_one, λ p. refl);
    beyond = (λ e. absurd (cc), λ p. absurd (one_near 1 tasks limits TooFar at_one p));
    undecided = (λ e. absurd (cc), λ some. absurd (true≢false (sym some)));
    cause = tt;
  }

  pub far_says : IsTooFar tasks → EdfSays tasks on_edf.Beyond None
  far_says far = record {
    yes = λ e. absurd (cc);
    no = λ e. absurd (cc);
    one = (λ e. absurd (cc), λ p. absurd (one_near 1 tasks limits TooFar p far));
    beyond = (λ e. far, λ p. refl);
    undecided = (λ e. absurd (cc), λ some. absurd (true≢false (sym some)));
    cause = tt;
  }

  pub undecided_says : (trail : EdfTrail) → IsEdfUndecided tasks most_budget trail → EdfSays tasks on_edf.Undecided (Some trail)
  undecided_says trail spent =
      let other = undecided_other tasks most_budget trail spent in
      record {
        yes = λ e. absurd (cc);
        no = λ e. absurd (cc);
        one = (λ e. absurd (cc), λ p. absurd (one_alone 1 tasks limits p other));
        beyond = (λ e. absurd (cc), λ p. absurd (other_near 1 tasks limits TooFar other p));
        undecided = (λ e. refl, λ some. refl);
        cause = spent;
      }

-- The labels of an ordered front are all different.
next_differs : (d e : FrontEntry) → IsNextEntry d e → d ≢ e
next_differs d e (inl l) same = let v : d.vertex ≡ e.vertex = ap (λ x. x.vertex) same in omega (arith, l, v)
next_differs d e (inr (at, l, m)) same = let o : d.offset ≡ e.offset = ap (λ x. x.offset) same in omega (arith, l, o)

distinct_labels : (front : List FrontEntry) → AllNeighbours IsNextEntry front → AllPairs (λ d e. d ≢ e) front
distinct_labels front ordered i j d l m = next_differs (get_or front i d) (get_or front j d) (later front ordered i j d l m)

counts_each : (bound b : ℕ) (gs : List Digraph) (fronts : List (List FrontEntry)) → Each (IsExactFront bound) gs fronts → Each (IsOrdered b) gs fronts → Each (HasCount bound) gs (map length fronts)
counts_each bound b [] [] exact ordered = tt
counts_each bound b [] (f ∷ fronts) exact ordered = absurd exact
counts_each bound b (g ∷ gs) [] exact ordered = absurd exact
counts_each bound b (g ∷ gs) (f ∷ fronts) exact ordered =
    (record { labels = f; exact = exact.0; distinct = distinct_labels f ordered.0.1; long = refl }, counts_each bound b gs fronts exact.1 ordered.1)

pub yes_counts : (tasks : List Task) (ratios : List RatioClaim) (fronts : List (List FrontEntry)) → IsExactEdfYes tasks ratios fronts → AreCounts tasks (map length fronts)
yes_counts tasks ratios fronts exact =
    let (b, is_bound, ordered) = (exact.accepted 1).keeps OrderedFronts tt in
    record { bound = exact.bound; below = exact.below; each = counts_each exact.bound b (graphs_of tasks) fronts exact.exact ordered }
