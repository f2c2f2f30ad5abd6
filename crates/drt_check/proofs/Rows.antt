-- What the rules of smaller numbers give to the next, and what its row decides.
use Rattle.std.proofs.Common.{◌≡◌, ℕ, ◌<◌, ◌≤◌, ◌^◌, Bool, List, length, sym, ◌∙◌, subst, arith}
use Rattle.std.specs.Prelude.{◌↔◌, IsTrue, nat_le, nat_lt, nat_eq}
use Rattle.std.proofs.lemmas.Bool.Decides.{nat_tests}
use Rattle.std.proofs.lemmas.List.{length-map}
use Rattle.drt_model.specs.Numbers.{most_horizon}
use Rattle.drt_model.specs.Digraph.{Digraph, digraph_of}
use Rattle.drt_model.specs.Utilisation.{IsScale, rate}
use Rattle.drt_model.specs.declared.tasks.Task.{Task}
use Rattle.drt_claims.specs.Claims.{graphs_of, HaveUtilisationBelowOne, HaveUtilisationOne, IsFine, IsHorizon}
use Rattle.drt_rates.specs.RatioClaims.{fractions}
use Rattle.drt_claims.specs.Fronts.{IsOrdered}
use Rattle.drt_claims.specs.Kinds.{HasFronts, HasRatios, fronts_of, ratios_of}
use Rattle.drt_claims.specs.Rules.{HasClaimedUtilisation, Keeps, number_of}
use Rattle.drt_claims.specs.Statement.{Statement}
use Rattle.drt_claims.specs.declared.evidence.Evidence.{Evidence}
use Rattle.drt_claims.specs.declared.evidence.Evidence.TheVariants.{EdfYes}
use Rattle.drt_graph.specs.declared.front.FrontEntry.{FrontEntry}
use Rattle.drt_rates.specs.declared.ratio_claim.RatioClaim.{RatioClaim}
use Rattle.drt_claims.specs.declared.rule.Rule.{Rule}
use Rattle.drt_claims.specs.declared.rule.Rule.TheVariants.{RatioPerTask, FineScale, ClaimedUtilisation, NearHorizon, OrderedFronts}
use Rattle.drt_check.specs.Deciding.{HaveHorizon, HaveNearHorizon, IsNextRule}
use Rattle.drt_check_fronts.specs.FrontOrder.{AreFrontsInOrder}
use Rattle.drt_check.proofs.Accepted.{at_horizon}
use Rattle.drt_graph.proofs.Scales.{scale_same}
use Rattle.drt_check_fronts.proofs.Eachs.{each_count}
use Rattle.drt_model.specs.Each.{Each}

-- Evidence with fronts has ratios, and the utilisation that it claims is below one.
ratios_too : (e : Evidence) → HasFronts e → HasRatios e
ratios_too (EdfYes ratios fronts) has = tt
ratios_too other has = absurd has

below_too : (e : Evidence) → HasFronts e → HasClaimedUtilisation e → HaveUtilisationBelowOne (ratios_of e)
below_too (EdfYes ratios fronts) has below = below
below_too other has below = absurd has

-- There are as many graphs as tasks.
count_back : (tasks : List Task) (n : ℕ) → n ≡ length tasks → n ≡ length (graphs_of tasks)
count_back tasks n e = e ∙ sym (length-map tasks digraph_of)

module _ (s : Statement) (rule : Rule) (next : IsNextRule s rule) where
  -- Past rule 3 there are as many ratios as graphs.
  pub counted : HasRatios s.evidence → 3 < number_of rule → length (ratios_of s.evidence) ≡ length (graphs_of s.set.tasks)
  counted has l = count_back s.set.tasks (length (ratios_of s.evidence)) (next.before RatioPerTask has l)

  -- Past rule 9 their scale is small.
  pub fine : HasRatios s.evidence → 9 < number_of rule → IsFine (ratios_of s.evidence)
  fine has l = next.before FineScale has l

  -- Past rule 10 they have a horizon.
  pub given : HasFronts s.evidence → 10 < number_of rule → HaveHorizon (graphs_of s.set.tasks) (ratios_of s.evidence)
  given has l = record {
    per_graph = counted (ratios_too s.evidence has) (omega arith);
    fine = fine (ratios_too s.evidence has) (omega arith);
    below = below_too s.evidence has (next.before ClaimedUtilisation (ratios_too s.evidence has) l);
  }

  -- Past rule 11 it is at most 2^40.
  pub near : HasFronts s.evidence → 11 < number_of rule → HaveNearHorizon (graphs_of s.set.tasks) (ratios_of s.evidence)
  near has l = next.before NearHorizon has l

  -- Past rule 12 the fronts are in order within it.
  pub in_order : HasFronts s.evidence → 12 < number_of rule → (bound : ℕ) → IsHorizon (graphs_of s.set.tasks) (ratios_of s.evidence) bound
      → AreFrontsInOrder (graphs_of s.set.tasks) bound (fronts_of s.evidence)
  in_order has l bound is =
      let graphs = graphs_of s.set.tasks in
      let each = at_horizon graphs (ratios_of s.evidence) bound is (λ n. Each (IsOrdered n) graphs (fronts_of s.evidence)) (next.before OrderedFronts has l) in
      (each_count (IsOrdered bound) graphs (fronts_of s.evidence) each, each)

-- What a row decides of the rule that it is for.
pub decides : (s : Statement) (rule other : Rule) (b : Bool) → rule ≡ other → (IsTrue b ↔ Keeps other s) → IsTrue b ↔ Keeps rule s
decides s rule other b e h = subst (λ r. IsTrue b ↔ Keeps r s) (sym e) h

-- What is decided at the horizon is decided at some.
pub decides_at : (graphs : List Digraph) (ratios : List RatioClaim) (bound : ℕ) → IsHorizon graphs ratios bound → (R : ℕ → Type 0) (b : Bool)
    → (IsTrue b ↔ R bound) → IsTrue b ↔ ((c : ℕ) × IsHorizon graphs ratios c × R c)
decides_at graphs ratios bound is R b h = (λ t. (bound, is, h.0 t), λ other. h.1 (at_horizon graphs ratios bound is R other))

pub decides_order : (graphs : List Digraph) (ratios : List RatioClaim) (bound : ℕ) → IsHorizon graphs ratios bound → (fronts : List (List FrontEntry)) (b : Bool)
    → (IsTrue b ↔ AreFrontsInOrder graphs bound fronts) → IsTrue b ↔ ((c : ℕ) × IsHorizon graphs ratios c × Each (IsOrdered c) graphs fronts)
decides_order graphs ratios bound is fronts b h =
    decides_at graphs ratios bound is (λ n. Each (IsOrdered n) graphs fronts) b
    (λ t. (h.0 t).1, λ each. h.1 (each_count (IsOrdered bound) graphs fronts each, each))

-- A horizon is at most 2^40 where the horizon is.
pub near_fits : (graphs : List Digraph) (ratios : List RatioClaim) (bound : ℕ) → IsHorizon graphs ratios bound → HaveNearHorizon graphs ratios → bound ≤ 2 ^ 40
near_fits graphs ratios bound is near = at_horizon graphs ratios bound is (λ n. n ≤ 2 ^ 40) near

pub decides_near : (graphs : List Digraph) (ratios : List RatioClaim) (bound : ℕ) → IsHorizon graphs ratios bound
    → IsTrue (nat_le bound most_horizon) ↔ HaveNearHorizon graphs ratios
decides_near graphs ratios bound is =
    decides_at graphs ratios bound is (λ n. n ≤ 2 ^ 40) (nat_le bound most_horizon)
    (λ t. grind (arith, nat_tests), λ l. grind (arith, nat_tests))

-- The utilisation at one scale is that at each.
pub below_at : (ratios : List RatioClaim) (scale r : ℕ) → IsScale (fractions ratios) scale → r ≡ rate scale (fractions ratios)
    → IsTrue (nat_lt r scale) ↔ HaveUtilisationBelowOne ratios
below_at ratios scale r is e = (
  λ t. (scale, is, (let l : r < scale = grind (arith, nat_tests) in omega (arith, l, e))),
  λ below. (let same : below.0 ≡ scale = scale_same (fractions ratios) below.0 scale below.1 is in
      let l : rate scale (fractions ratios) < scale = subst (λ n. rate n (fractions ratios) < n) same below.2 in
      let m : r < scale = omega (arith, l, e) in
      grind (arith, nat_tests)),
)

pub one_at : (ratios : List RatioClaim) (scale r : ℕ) → IsScale (fractions ratios) scale → r ≡ rate scale (fractions ratios)
    → IsTrue (nat_eq r scale) ↔ HaveUtilisationOne ratios
one_at ratios scale r is e = (
  λ t. (scale, is, (let l : r ≡ scale = grind (arith, nat_tests) in sym e ∙ l)),
  λ one. (let same : one.0 ≡ scale = scale_same (fractions ratios) one.0 scale one.1 is in
      let l : rate scale (fractions ratios) ≡ scale = subst (λ n. rate n (fractions ratios) ≡ n) same one.2 in
      let m : r ≡ scale = e ∙ l in
      grind (arith, nat_tests)),
)

-- And a rate below one scale is below each.
pub rate_below : (ratios : List RatioClaim) (scale : ℕ) → IsScale (fractions ratios) scale → HaveUtilisationBelowOne ratios → rate scale (fractions ratios) < scale
rate_below ratios scale is below = subst (λ n. rate n (fractions ratios) < n) (scale_same (fractions ratios) below.0 scale below.1 is) below.2
