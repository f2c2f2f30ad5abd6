-- The ratios and the canonical potentials of worked graphs. That no cycle has a greater ratio, and that no short walk gains more, follows from the
-- potentials themselves: along each edge they rise by at least its gain.
use Rattle.std.proofs.Common.{◌≡◌, ℕ, zero, suc, ◌+◌, ◌*◌, ◌<◌, ◌≤◌, List, [], ◌∷◌, Some, refl, sym, ap, ◌∙◌, lit<, lit≤, arith}
use Rattle.std.specs.Prelude.{if◌then◌else◌, ℤ, pos, ◌-ℤ◌, ◌≤ℤ◌}
use Rattle.std.proofs.lemmas.Bool.{ne_eqb}
use Rattle.std.proofs.lemmas.Int.{ints}
use Rattle.std.proofs.lemmas.Nat.Gcd.{IsGcd-from_zero, IsGcd-from_mod, IsGcd-swap}
use Rattle.std.proofs.lemmas.Option.{none-some, same_Some}
use Rattle.drt_model.specs.Digraph.{Digraph, digraph_of}
use Rattle.drt_model.specs.Walk.{sep_in, or_zero, gap, work, span, IsPath, last_of, deadline, IsEdge}
use Rattle.drt_graph.specs.Potential.{gain, IsPotential, AreCanonical, potential_of}
use Rattle.drt_graph.specs.RatioRules.{FitPotentials}
use Rattle.drt_model.specs.Utilisation.{BoundsCycles, IsRatio}
use Rattle.drt_graph.proofs.Bounds.{rises}
use Rattle.drt_model.specs.declared.tasks.Edge.{Edge}
use Rattle.drt_rows.proofs.Sets.{apart, edge, half, short, too_long}
use Rattle.drt_rows.proofs.UtilisationRows.{fraction, lowest}
use Rattle.drt_rows.proofs.WalkRows.{g, cycle_ab}

-- Round a cycle the potentials rise by nothing, so that it gains nothing.
no_cycle_gains : (g : Digraph) (a b : ℕ) (hs : List ℤ) → FitPotentials g a b hs → BoundsCycles g a b
no_cycle_gains g a b hs fits [] is = absurd is
no_cycle_gains g a b hs fits (v ∷ vs) is =
    let r : (pos (b * work g (v ∷ vs)) -ℤ pos (a * span g (last_of v vs) (v ∷ vs))) ≤ℤ (potential_of hs (last_of v vs) -ℤ potential_of hs (last_of v vs)) =
    rises g a b hs (λ x y e. fits x y (gap g x y) e) (last_of v vs) (v ∷ vs) is in
    omega (arith, ints, r)

-- A walk gains at most the potential of its end where no potential is negative.
no_walk_gains : (g : Digraph) (a b : ℕ) (hs : List ℤ) → FitPotentials g a b hs → ((u : ℕ) → pos 0 ≤ℤ potential_of hs u)
    → (u : ℕ) (vs : List ℕ) → IsPath g u vs → gain g a b u vs ≤ℤ potential_of hs (last_of u vs)
no_walk_gains g a b hs fits some u vs is =
    let r = rises g a b hs (λ x y e. fits x y (gap g x y) e) u vs is in
    let s = some u in
    omega (arith, ints, r, s)

-- An edge to another vertex is no edge to v.
pub other_edge : (from to p : ℕ) (edges : List Edge) (v : ℕ) → (to ≡ v → ⊥) → sep_in (edge from to p ∷ edges) v ≡ sep_in edges v
unfolding sep_in
other_edge from to p edges v other = ap (λ b. if b then Some p else sep_in edges v) (ne_eqb to v other)

-- The vertices a (1, 2) and b (4, 6) with the edges a-b 2, b-a 8 and a-a 5.
abbrev pub potentials : List ℤ
potentials = pos 0 ∷ pos 6 ∷ []

pub fits : FitPotentials g 1 2 potentials
unfolding sep_in
fits zero zero p e = let s : 5 ≡ p = same_Some 5 p e in omega (arith, ints, s)
fits zero (suc zero) p e = let s : 2 ≡ p = same_Some 2 p e in omega (arith, ints, s)
fits zero (suc (suc v)) p e =
    let none = other_edge 0 1 2 (edge 0 0 5 ∷ []) (suc (suc v)) (λ h. omega (arith, h)) ∙ other_edge 0 0 5 [] (suc (suc v)) (λ h. omega (arith, h)) in
    absurd (none-some p (sym none ∙ e))
fits (suc zero) zero p e = let s : 8 ≡ p = same_Some 8 p e in omega (arith, ints, s)
fits (suc zero) (suc v) p e = absurd (none-some p (sym (other_edge 1 0 8 [] (suc v) (λ h. omega (arith, h))) ∙ e))
fits (suc (suc u)) v p e = absurd (none-some p e)

none_negative : (u : ℕ) → pos 0 ≤ℤ potential_of potentials u
none_negative zero = omega (arith, ints)
none_negative (suc zero) = omega (arith, ints)
none_negative (suc (suc u)) = omega (arith, ints)

-- Their ratio is 1/2, that of the cycle a b.
pub ratio_is : IsRatio g (fraction 1 2)
unfolding work span sep_in or_zero
ratio_is = record {
  lowest = IsGcd-swap 2 1 1 (IsGcd-from_mod 2 1 1 (IsGcd-from_zero 1 0 refl));
  least = no_cycle_gains g 1 2 potentials fits;
  cycle = 0 ∷ 1 ∷ [];
  has = (cycle_ab, refl, lit≤ tt);
}

most : (v u : ℕ) (vs : List ℕ) → IsPath g u vs → last_of u vs ≡ v → gain g 1 2 u vs ≤ℤ potential_of potentials v
most v u vs is e = rw (← e) (no_walk_gains g 1 2 potentials fits none_negative u vs is)

-- The walk a gains 0.
pub first_potential : IsPotential g 1 2 0 (pos 0)
unfolding work span sep_in or_zero
first_potential = record { most = λ u vs is e l. most 0 u vs is e; reached = (0, ([], tt, refl, lit< tt, refl)) }

-- The walk a b gains 2 * 4 - 1 * 2 = 6.
pub second_potential : IsPotential g 1 2 1 (pos 6)
unfolding work span sep_in or_zero
second_potential = record { most = λ u vs is e l. most 1 u vs is e; reached = (0, (1 ∷ [], (refl, tt), refl, lit< tt, refl)) }

-- So their canonical potentials are 0 and 6.
pub potentials_are : AreCanonical g 1 2 potentials
potentials_are = record { counted = refl; each = each }
  where
    each : (v : ℕ) → v < 2 → IsPotential g 1 2 v (potential_of potentials v)
    each zero l = first_potential
    each (suc zero) l = second_potential
    each (suc (suc v)) l = absurd (omega arith)

-- One vertex (2, 5) with a loop of 5 has the ratio 2/5.
pub loop_fits : FitPotentials (digraph_of short) 2 5 (pos 0 ∷ [])
unfolding sep_in
loop_fits zero zero p e = let s : 5 ≡ p = same_Some 5 p e in omega (arith, ints, s)
loop_fits zero (suc v) p e = absurd (none-some p (sym (other_edge 0 0 5 [] (suc v) (λ h. omega (arith, h))) ∙ e))
loop_fits (suc u) v p e = absurd (none-some p e)

pub loop_ratio_is : IsRatio (digraph_of short) (fraction 2 5)
unfolding work span sep_in or_zero
loop_ratio_is = record {
  lowest = lowest;
  least = no_cycle_gains (digraph_of short) 2 5 (pos 0 ∷ []) loop_fits;
  cycle = 0 ∷ [];
  has = ((refl, tt), refl, lit≤ tt);
}

-- One vertex (1, 2) with a loop of 2 has the ratio 1/2.
half_fits : FitPotentials (digraph_of half) 1 2 (pos 0 ∷ [])
unfolding sep_in
half_fits zero zero p e = let s : 2 ≡ p = same_Some 2 p e in omega (arith, ints, s)
half_fits zero (suc v) p e = absurd (none-some p (sym (other_edge 0 0 2 [] (suc v) (λ h. omega (arith, h))) ∙ e))
half_fits (suc u) v p e = absurd (none-some p e)

pub half_ratio_is : IsRatio (digraph_of half) (fraction 1 2)
unfolding work span sep_in or_zero
half_ratio_is = record {
  lowest = IsGcd-swap 2 1 1 (IsGcd-from_mod 2 1 1 (IsGcd-from_zero 1 0 refl));
  least = no_cycle_gains (digraph_of half) 1 2 (pos 0 ∷ []) half_fits;
  cycle = 0 ∷ [];
  has = ((refl, tt), refl, lit≤ tt);
}

-- One vertex without an edge has the ratio 0/1.
lone_fits : FitPotentials (digraph_of too_long) 0 1 (pos 0 ∷ [])
unfolding sep_in
lone_fits zero v p e = absurd (none-some p e)
lone_fits (suc u) v p e = absurd (none-some p e)

pub lone_ratio_is : IsRatio (digraph_of too_long) (fraction 0 1)
lone_ratio_is = record {
  lowest = IsGcd-swap 1 0 1 (IsGcd-from_zero 1 0 refl);
  least = no_cycle_gains (digraph_of too_long) 0 1 (pos 0 ∷ []) lone_fits;
  cycle = [];
  has = (refl, refl);
}

-- With x (100, 1000) alone and y (1, 1) with a loop of 2 each edge out of y leads to y.
to_y : (v : ℕ) → IsEdge (digraph_of apart) 1 v → v ≡ 1
unfolding sep_in or_zero
to_y zero e = absurd (none-some (gap (digraph_of apart) 1 zero) (sym (other_edge 1 1 2 [] zero (λ h. omega (arith, h))) ∙ e))
to_y (suc zero) e = refl
to_y (suc (suc v)) e = absurd (none-some (gap (digraph_of apart) 1 (suc (suc v))) (sym (other_edge 1 1 2 [] (suc (suc v)) (λ h. omega (arith, h))) ∙ e))

-- At the ratio 1/2: twice the work of the walk is at most its last deadline and 1.
abbrev pub IsWithinOne : ℕ → List ℕ → Type 0
IsWithinOne u vs = 2 * work (digraph_of apart) (u ∷ vs) ≤ span (digraph_of apart) u vs + deadline (digraph_of apart) (last_of u vs) + 1

-- A walk that goes on to y.
y_goes_on : (v : ℕ) (vs : List ℕ) → v ≡ 1 → IsPath (digraph_of apart) v vs → (IsPath (digraph_of apart) 1 vs → IsWithinOne 1 vs) → IsWithinOne 1 (v ∷ vs)
unfolding work span sep_in or_zero
y_goes_on v vs e p rest = rw e (let h = rest (rw e at p) in omega (arith, h))

-- It is so for each walk, from y and from x: the constant of 199 lies above what any one walk needs.
pub y_walks : (vs : List ℕ) → IsPath (digraph_of apart) 1 vs → IsWithinOne 1 vs
unfolding work span sep_in or_zero
y_walks [] is = lit≤ tt
y_walks (v ∷ vs) is = y_goes_on v vs (to_y v is.0) is.1 (λ p. y_walks vs p)

pub x_walks : (vs : List ℕ) → IsPath (digraph_of apart) 0 vs → IsWithinOne 0 vs
unfolding work span sep_in or_zero
x_walks [] is = lit≤ tt
x_walks (v ∷ vs) is = absurd (none-some (gap (digraph_of apart) 0 v) is.0)
