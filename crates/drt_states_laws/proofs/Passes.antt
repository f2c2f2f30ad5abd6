-- What futures ask for is at most what the state allows for them.
use Rattle.std.proofs.Common.{◌≡◌, ℕ, ◌+◌, ◌-◌, ◌<◌, ◌≤◌, ◌⊎◌, inl, inr, None, Some, List, [], ◌∷◌, ap, ◌∙◌, arith, All}
use Rattle.std.specs.Prelude.{Option}
use Rattle.std.proofs.lemmas.Bool.{cases_lt}
use Rattle.std.proofs.lemmas.List.Elements.{All-head, All-tail}
use Rattle.drt_model.specs.Digraph.{Digraph, IsSoundGraph}
use Rattle.drt_model.specs.Walk.{request}
use Rattle.drt_states.specs.declared.claims.StateEntry.{StateEntry}
use Rattle.drt_states.specs.declared.claims.TailClaim.{TailClaim}
use Rattle.drt_states.specs.States.{asked_from, asked_of, entry_at}
use Rattle.drt_states.specs.Tails.{BoundsWalks, EachTail, IsTail, Place, curve_of, value_before}
use Rattle.drt_states_laws.proofs.Bound.{tails_bound}
use Rattle.drt_states_laws.proofs.Curves.{greatest_most}
use Rattle.drt_states_laws.proofs.Futures.{AreFutures, IsFuture, future_asked, futures_asked}
use Rattle.drt_states_laws.proofs.Requests.{request_none}

module _ (bound : ℕ) (g : Digraph) (tail : TailClaim) (sound : IsSoundGraph g) (are : IsTail bound g tail) (bounds : BoundsWalks bound g tail) where
  future_most : (o : Option StateEntry) (vs : List ℕ) (t : ℕ) → IsFuture g o vs → 1 ≤ t → t ≤ bound → future_asked g o vs t ≤ asked_of tail o t
  future_most None [] t is some within = omega arith
  future_most None (u ∷ vs) t is some within =
      let most = tails_bound bound g tail sound are bounds u vs t is.0 is.1 some within in
      let l = is.0 in
      let count = are.count in
      let greatest = greatest_most tail.curves u t (omega (arith, l, count)) in
      omega (arith, most, greatest)
  future_most (Some e) vs t is some within = go (cases_lt e.offset t)
    where
      go : (e.offset < t) ⊎ (t ≤ e.offset) → request g e.vertex vs (t - e.offset) ≤ value_before (curve_of tail e.vertex) (t - e.offset)
      go (inl after) = tails_bound bound g tail sound are bounds e.vertex vs (t - e.offset) is.0 is.1 (omega arith) (omega arith)
      go (inr before) =
          let none : request g e.vertex vs (t - e.offset) ≡ 0 = (let z : t - e.offset ≡ 0 = omega arith in ap (λ n. request g e.vertex vs n) z ∙ request_none g e.vertex vs) in
          omega (arith, none)

-- Together.
pub futures_most : (deadline i : ℕ) (places : List Place) (tails : List TailClaim) (entries : List StateEntry) (futures : List (List ℕ)) (t : ℕ)
    → All (λ p. IsSoundGraph p.graph) places → All (λ p. deadline ≤ p.bound) places → EachTail IsTail places tails → EachTail BoundsWalks places tails
    → AreFutures i places entries futures → 1 ≤ t → t ≤ deadline → futures_asked i places entries futures t ≤ asked_from i tails entries t
unfolding futures_asked asked_from
futures_most deadline i [] tails entries futures t sound near are bounds is some within = omega arith
futures_most deadline i (p ∷ places) tails entries [] t sound near are bounds is some within = omega arith
futures_most deadline i (p ∷ places) [] entries (vs ∷ futures) t sound near are bounds is some within = absurd are
futures_most deadline i (p ∷ places) (tail ∷ tails) entries (vs ∷ futures) t sound near are bounds is some within =
    let to = All-head (λ (q : Place). deadline ≤ q.bound) p places near in
    let first = future_most p.bound p.graph tail (All-head (λ (q : Place). IsSoundGraph q.graph) p places sound) are.0 bounds.0 (entry_at entries i) vs t is.0 some (omega (arith, within, to)) in
    let rest = futures_most deadline (i + 1) places tails entries futures t (All-tail (λ (q : Place). IsSoundGraph q.graph) p places sound)
    (All-tail (λ (q : Place). deadline ≤ q.bound) p places near) are.1 bounds.1 is.1 some within in
    omega (arith, first, rest)
