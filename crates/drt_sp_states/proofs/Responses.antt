-- The greatest response that a search answers.
use Rattle.std.proofs.Common.{◌≡◌, ℕ, ◌+◌, ◌≤◌, ◌⊎◌, inl, inr, List, Option, Some, None, Result, Ok, Err, subst, sym, arith}
use Rattle.std.specs.Prelude.{IfOk, IfSome}
use Rattle.drt_model.specs.Digraph.{Digraph}
use Rattle.drt_states.specs.declared.claims.StateClaim.{StateClaim}
use Rattle.drt_states.specs.declared.claims.TailClaim.{TailClaim}
use Rattle.drt_states.specs.States.{AreStates, HaveDominatedChildren, HavePassingTimes}
use Rattle.drt_sp_states.specs.Answers.{AreWorst, IsRespondedAnswer}
use Rattle.drt_sp_states.specs.Misses.{AreReachingWalks}
use Rattle.drt_sp_states.specs.Reaching.{IsReachedBy}
use Rattle.drt_sp_states.specs.declared.places.Subject.{Subject}
use Rattle.drt_sp_states.specs.declared.response.Reached.{Reached}
use Rattle.drt_sp_states.specs.declared.response.Responded.{Responded}
use Rattle.drt_sp_states.specs.declared.response.Responded.TheVariants as responses

-- Walks that reach a number of ticks, with states whose times are at most that.
pub worst : (graphs : List Digraph) (tails : List TailClaim) (wcet deadline ticks bound : ℕ) (walks : List (List ℕ)) (states : List StateClaim)
    → AreReachingWalks graphs wcet deadline ticks walks → bound ≡ ticks
    → AreStates graphs states → HavePassingTimes bound wcet tails states → HaveDominatedChildren graphs deadline states
    → AreWorst graphs tails wcet deadline ticks walks
worst graphs tails wcet deadline ticks bound walks states r same are times children = record {
  each = r.each;
  some = r.some;
  fits = r.fits;
  none = r.none;
  bound = deadline;
  within = r.most;
  near = omega arith;
  states = states;
  are = are;
  times = subst (λ n. HavePassingTimes n wcet tails states) same times;
  children = children;
}

-- What is the greatest response up to a deadline is that up to a later one.
pub farther : (graphs : List Digraph) (tails : List TailClaim) (wcet near deadline : ℕ) (answer : Responded) → near ≤ deadline
    → IsRespondedAnswer graphs tails wcet near answer → IsRespondedAnswer graphs tails wcet deadline answer
farther graphs tails wcet near deadline (responses.Reached ticks walks) le w = record {
  each = w.each;
  some = w.some;
  fits = w.fits;
  none = w.none;
  bound = w.bound;
  within = w.within;
  near = let n : w.bound ≤ near = w.near in omega arith;
  states = w.states;
  are = w.are;
  times = w.times;
  children = w.children;
}
farther graphs tails wcet near deadline responses.Spent le w = tt

pub farther_ok : {E : Type 0} (graphs : List Digraph) (tails : List TailClaim) (wcet near deadline : ℕ) (r : Result Responded E) → near ≤ deadline
    → IfOk r (λ answer. IsRespondedAnswer graphs tails wcet near answer) → IfOk r (λ answer. IsRespondedAnswer graphs tails wcet deadline answer)
farther_ok graphs tails wcet near deadline (Ok answer) le is = farther graphs tails wcet near deadline answer le is
farther_ok graphs tails wcet near deadline (Err e) le is = tt

-- One of two that are reached is.
pub one_of : (s : Subject) (known : Option Reached) (new later : Reached) → (later ≡ new) ⊎ (Some later ≡ known) → IfSome known (IsReachedBy s) → IsReachedBy s new
    → IsReachedBy s later
one_of s known new later (inl e) k n = subst (IsReachedBy s) (sym e) n
one_of s known new later (inr e) k n = subst (λ o. IfSome o (IsReachedBy s)) (sym e) k
