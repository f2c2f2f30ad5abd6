-- Which lists of releases are legal, worked: one that is, and four that each break one sentence.
use Rattle.std.proofs.Common.{◌≡◌, ℕ, zero, suc, ◌<◌, ◌≤◌, inl, inr, [], ◌∷◌, refl, ap, lit<, lit≤, arith, get_or}
use Rattle.std.proofs.lemmas.List.Elements.{All-nil, All-cons}
use Rattle.drt_model.specs.declared.tasks.Edge.{Edge}
use Rattle.drt_model.specs.Legal.{IsLegal, IsAllowed, IsAllowedStep}
use Rattle.drt_model.proofs.LegalLemmas.{legal_if_allowed}
use Rattle.drt_model.proofs.Neighbours.{AllNeighbours-one, AllNeighbours-cons}
use Rattle.drt_rows.proofs.Sets.{edge, release, task_a, two_tasks, worked}

-- a at 0 and at 4, b at 0.
pub worked_is_legal : IsLegal two_tasks worked
worked_is_legal =
    let R = IsAllowedStep two_tasks in
    legal_if_allowed two_tasks worked
    (All-cons (IsAllowed two_tasks) (release 0 0 0 2) (release 0 0 4 2 ∷ release 1 0 0 3 ∷ []) (lit≤ tt, lit≤ tt)
    (All-cons (IsAllowed two_tasks) (release 0 0 4 2) (release 1 0 0 3 ∷ []) (lit≤ tt, lit≤ tt)
    (All-cons (IsAllowed two_tasks) (release 1 0 0 3) [] (lit≤ tt, lit≤ tt) (All-nil (IsAllowed two_tasks)))))
    (AllNeighbours-cons R (release 0 0 0 2) (release 0 0 4 2) (release 1 0 0 3 ∷ []) (inr (refl, (0, edge 0 0 4, lit< tt, refl, (refl, refl, lit≤ tt))))
    (AllNeighbours-cons R (release 0 0 4 2) (release 1 0 0 3) [] (inl (lit< tt)) (AllNeighbours-one R (release 1 0 0 3))))

-- The empty list is legal.
pub none_is_legal : IsLegal two_tasks []
none_is_legal = record {
  of_tasks = λ k d h. absurd (omega arith);
  in_order = λ i d h. absurd (omega arith);
  parts = λ k t at. record { each = λ i d h. absurd (omega arith); steps = λ i d h. absurd (omega arith) };
}

-- The edge at a place of a list of one is that one.
only : (e f : Edge) (k : ℕ) → k < 1 → get_or (e ∷ []) k f ≡ f → e ≡ f
only e f zero h is = is
only e f (suc k) h is = absurd (omega arith)

-- The second release of a at 3 comes too early: 3 < 0 + 4.
pub too_early : ¬ IsLegal two_tasks (release 0 0 0 2 ∷ release 0 0 3 2 ∷ release 1 0 0 3 ∷ [])
too_early l =
    let (k, e, within, at, leads) = (l.parts 0 task_a refl).steps 0 (release 0 0 0 2) (lit< tt) in
    let same : 4 ≡ e.sep = ap (λ x. x.sep) (only (edge 0 0 4) e k within at) in
    absurd (omega (arith, same, leads.2))

-- A need of 3 is above a's execution time of 2.
pub need_too_great : ¬ IsLegal two_tasks (release 0 0 0 3 ∷ release 0 0 4 2 ∷ release 1 0 0 3 ∷ [])
need_too_great l = let h : 3 ≤ 2 = ((l.parts 0 task_a refl).each 0 (release 0 0 0 3) (lit< tt)).1 in absurd (omega (arith, h))

-- A need of 0 is none.
pub need_of_nothing : ¬ IsLegal two_tasks (release 0 0 0 2 ∷ release 0 0 4 0 ∷ release 1 0 0 3 ∷ [])
need_of_nothing l = let h : 1 ≤ 0 = ((l.parts 0 task_a refl).each 1 (release 0 0 0 2) (lit< tt)).0 in absurd (omega (arith, h))

-- b's release stands between the two of a.
pub out_of_order : ¬ IsLegal two_tasks (release 0 0 0 2 ∷ release 1 0 0 3 ∷ release 0 0 4 2 ∷ [])
out_of_order l = let h : 1 ≤ 0 = l.in_order 1 (release 0 0 0 2) (lit< tt) in absurd (omega (arith, h))
