-- Two tasks with the rate 1/2, whose utilisation is one.
use Rattle.std.proofs.Common.{◌≡◌, ℕ, zero, suc, ◌*◌, List, [], ◌∷◌, All, codes, inr, refl, subst, arith}
use Rattle.std.specs.List.{Contains}
use Rattle.std.proofs.lemmas.List.Elements.{All-cons, All-head, All-nil, All-tail}
use Rattle.std.proofs.lemmas.List.Sums.{sum_by-cons}
use Rattle.std.specs.Prelude.{slice_index, map}
use Rattle.drt_model.specs.declared.tasks.Edge.{Edge}
use Rattle.drt_model.proofs.Neighbours.{AllNeighbours-cons, AllNeighbours-one}
use Rattle.drt_command_files.specs.AtOne.{IsRateOver, IsUtilisationOne, need_of, time_of}
use Rattle.drt_rows.proofs.Sets.{edge, half, looped}

-- The only edge.
only : (e : Edge) → Contains (edge 0 0 2 ∷ []) e → edge 0 0 2 ≡ e
only e (zero, within, at) = at
only e (suc k, within, at) = absurd (omega (arith, within))

module _ (name : List ℕ) (priority : ℕ) where
  -- Some edges of the loop: so many ticks of need as edges, and twice as many of separations.
  around : (edges : List Edge) → All (Contains (edge 0 0 2 ∷ [])) edges
      → 2 * need_of (looped name priority 1 2 2) edges ≡ 1 * time_of edges
  around [] are = refl
  around (e ∷ edges) are =
      let is = only e (All-head (Contains (edge 0 0 2 ∷ [])) e edges are) in
      let rest = around edges (All-tail (Contains (edge 0 0 2 ∷ [])) e edges are) in
      subst (λ x. 2 * need_of (looped name priority 1 2 2) (x ∷ edges) ≡ 1 * time_of (x ∷ edges)) is
      (omega (
        arith,
        rest,
        sum_by-cons (λ (x : Edge). slice_index (map (λ v. v.wcet) (looped name priority 1 2 2).vertices) x.from) (edge 0 0 2) edges,
        sum_by-cons (λ (x : Edge). x.sep) (edge 0 0 2) edges,
      ))

  -- So the rate is 1 over 2.
  pub rate_is : IsRateOver 2 (looped name priority 1 2 2) 1
  rate_is = record {
    most = λ cycle is. omega (arith, around cycle is.0);
    reached = inr (
      edge 0 0 2 ∷ [],
      omega arith,
      (
        All-cons (Contains (edge 0 0 2 ∷ [])) (edge 0 0 2) [] (0, omega arith, refl) (All-nil (Contains (edge 0 0 2 ∷ []))),
        AllNeighbours-cons (λ e f. e.to ≡ f.from) (edge 0 0 2) (edge 0 0 2) [] refl (AllNeighbours-one (λ e f. e.to ≡ f.from) (edge 0 0 2)),
      ),
      refl,
    );
  }

-- So the utilisation of the two is one: 1 and 1 over 2.
pub one_is : IsUtilisationOne (half ∷ looped (codes "U") 2 1 2 2 ∷ [])
one_is = (2, (omega arith, 1 ∷ 1 ∷ [], (rate_is (codes "T") 1, (rate_is (codes "U") 2, tt)), refl))
