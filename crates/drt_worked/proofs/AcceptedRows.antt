-- What `edf` writes of one vertex (2, 5) with a loop of 5 is accepted: each rule that applies is kept.
use Rattle.std.proofs.Common.{◌≡◌, ℕ, zero, suc, ◌<◌, ◌≤◌, [], ◌∷◌, Some, refl, sym, ap, ◌∙◌, lit<, lit≤, arith}
use Rattle.std.specs.Prelude.{if◌then◌else◌, pos}
use Rattle.std.specs.Int.{IsGcd}
use Rattle.std.proofs.Math.Nat.{dvd-mul_left}
use Rattle.std.proofs.lemmas.Bool.{ne_eqb}
use Rattle.std.proofs.lemmas.Int.{ints}
use Rattle.std.proofs.lemmas.List.Elements.{All-nil, All-cons}
use Rattle.std.proofs.lemmas.Nat.Gcd.{IsGcd-from_zero, IsGcd-from_mod, IsGcd-swap}
use Rattle.std.proofs.lemmas.Option.{none-some, same_Some}
use Rattle.drt_model.specs.Digraph.{Digraph, digraph_of, out_degree}
use Rattle.drt_graph.specs.Horizon.{most_to, extra}
use Rattle.drt_graph.specs.RatioRules.{FitPotentials}
use Rattle.drt_model.specs.Utilisation.{Fraction, IsScale, rate}
use Rattle.drt_model.specs.Walk.{sep_in, or_zero, work, span}
use Rattle.drt_graph.specs.declared.front.FrontEntry.{FrontEntry}
use Rattle.drt_graph.specs.FrontEntry.{due}
use Rattle.drt_claims.specs.Fronts.{HasOpenings, IsExtended, IsEntryWithin, works_due}
use Rattle.drt_claims.specs.Rules.{Accepts}
use Rattle.drt_rates.specs.declared.ratio_claim.RatioClaim.{RatioClaim}
use Rattle.drt_claims.proofs.Accepting.{AreFrontClaims, AreRatioClaims, yes_accepted}
use Rattle.drt_rows.proofs.SetRows.{short_is_constrained}
use Rattle.drt_rows.proofs.Sets.{short}
use Rattle.drt_worked.proofs.TextRows.{edf_statement, one, set}

abbrev claim : RatioClaim
claim = record { num = 2; den = 5; cycle = 0 ∷ []; potentials = pos 0 ∷ [] }

abbrev graph : Digraph
graph = digraph_of short

abbrev fraction : ℕ → ℕ → Fraction
fraction a b = record { num = a; den = b }

lowest : IsGcd 2 5 1
lowest = IsGcd-swap 5 2 1 (IsGcd-from_mod 5 2 1 (IsGcd-from_mod 2 1 1 (IsGcd-from_zero 1 0 refl)))

-- The loop gains nothing: 5 times 2 less 2 times 5.
loop_fits : FitPotentials graph 2 5 (pos 0 ∷ [])
unfolding sep_in
loop_fits zero zero p e = let s : 5 ≡ p = same_Some 5 p e in omega (arith, ints, s)
loop_fits zero (suc v) p e = absurd (none-some p (sym (ap (λ b. if b then Some 5 else sep_in [] (suc v)) (ne_eqb 0 (suc v) (λ h. omega (arith, h)))) ∙ e))
loop_fits (suc u) v p e = absurd (none-some p e)

-- The scale of the ratio 2/5 is 5, and its rate is 2.
scale_5 : IsScale (fraction 2 5 ∷ []) 5
scale_5 = record { some = lit≤ tt; multiple = (dvd-mul_left 5 1, tt); least = λ m each. each.0 }

-- The ratio is in lowest terms, its one potential fits the loop, and the loop is a cycle that has the ratio: 5 times the work 2 is 2 times the span 5.
ratio_claims : AreRatioClaims one (claim ∷ [])
unfolding work span sep_in or_zero
ratio_claims = record {
  per_task = refl;
  lowest = All-cons (λ (c : RatioClaim). IsGcd c.num c.den 1) claim [] lowest (All-nil (λ (c : RatioClaim). IsGcd c.num c.den 1));
  counted = (refl, tt);
  fits = (loop_fits, tt);
  closed = (((λ e. omega (arith, e)), (refl, tt)), tt);
  tight = (refl, tt);
  fine = (5, scale_5, lit≤ tt);
}

-- No vertex is due by the horizon 0, so that no label has to stand in the front.
no_opening : HasOpenings 0 graph []
no_opening zero h by = absurd (omega (arith, by))
no_opening (suc v) h by = absurd (omega (arith, h))

front_claims : AreFrontClaims one 0 ([] ∷ [])
front_claims = record {
  near = lit≤ tt;
  ordered = ((All-nil (IsEntryWithin graph 0), (λ i d l. absurd (omega (arith, l)))), tt);
  openings = (no_opening, tt);
  closed = (All-nil (λ (e : FrontEntry). (k : ℕ) → k < out_degree graph e.vertex → IsExtended 0 graph [] e k), tt);
  room = (All-nil (λ (e : FrontEntry). works_due (graph ∷ []) ([] ∷ []) (due graph e) ≤ due graph e), tt);
}

pub yes_is_accepted : Accepts edf_statement
unfolding rate most_to extra
yes_is_accepted =
    yes_accepted set (claim ∷ []) ([] ∷ []) short_is_constrained
    (record { claims = ratio_claims; below = (5, scale_5, lit< tt); bound = 0; is_bound = (5, scale_5, refl); fronts_are = front_claims })
