-- What a task releases in a window is a walk of its own.
use Rattle.std.proofs.Common.{inl, inr, ◌≡◌, ℕ, ◌≤◌, Bool, true, false, cond, leb, ltb, List, [], ◌∷◌, filter, sum_by, refl, sym, ◌∙◌, arith}
use Rattle.std.proofs.lemmas.Bool.{cases_Bool, cases_lt, leb-true, le-leb, lt-ltb, le-ltb, and_parts, both_ways}
use Rattle.std.proofs.lemmas.List.Elements.{All-filter}
use Rattle.std.proofs.lemmas.List.Sums.{sum_by-cons}
use Rattle.drt_model.specs.declared.tasks.Task.{Task}
use Rattle.drt_model.specs.declared.jobs.Release.{Release}
use Rattle.drt_model.specs.Legal.{AllNeighbours, IsReleaseOf, Follows, IsLegalPart}
use Rattle.drt_busy.specs.PartWalk.{is_within}
use Rattle.drt_model.proofs.Neighbours.{filter-yes, filter-no, AllNeighbours-nil, AllNeighbours-one, AllNeighbours-tail, AllNeighbours-cons, AllNeighbours-head}

-- a test that a walk enters and leaves once: after it has left, it is past
module _ (t : Task) (q : Release → Bool) (Past : Release → Type 0)
    (leaves : (x y : Release) → Follows t x y → q x ≡ true → q y ≡ false → Past y)
    (stays : (x y : Release) → Follows t x y → Past x → Past y)
    (out : (x : Release) → Past x → q x ≡ false) where
  none_after : (y : Release) (zs : List Release) → Past y → AllNeighbours (Follows t) (y ∷ zs) → filter q (y ∷ zs) ≡ []
  none_after y [] h a = filter-no q y [] (out y h)
  none_after y (z ∷ zs) h a =
      filter-no q y (z ∷ zs) (out y h)
      ∙ none_after z zs (stays y z (AllNeighbours-head (Follows t) y z zs a) h) (AllNeighbours-tail (Follows t) y (z ∷ zs) a)

  window_steps : (rs : List Release) → AllNeighbours (Follows t) rs → AllNeighbours (Follows t) (filter q rs)
  window_steps [] a = AllNeighbours-nil (Follows t)
  window_steps (x ∷ []) a = elim (cases_Bool (q x)) [
    | inl h ↦ rw (filter-yes q x [] h) (AllNeighbours-one (Follows t) x)
    | inr h ↦ rw (filter-no q x [] h) (AllNeighbours-nil (Follows t))
  ]
  window_steps (x ∷ (y ∷ zs)) a =
      let step = AllNeighbours-head (Follows t) x y zs a in
      let later = window_steps (y ∷ zs) (AllNeighbours-tail (Follows t) x (y ∷ zs) a) in
      elim (cases_Bool (q x)) [
        | inr h ↦ rw (filter-no q x (y ∷ zs) h) later
        | inl h ↦ rw (filter-yes q x (y ∷ zs) h) (elim (cases_Bool (q y)) [
          | inl k ↦ rw (filter-yes q y zs k) (AllNeighbours-cons (Follows t) x y (filter q zs) step (rw (filter-yes q y zs k) at later))
          | inr k ↦ rw (none_after y zs (leaves x y step h k) (AllNeighbours-tail (Follows t) x (y ∷ zs) a)) (AllNeighbours-one (Follows t) x)
        ])
      ]

  pub window_walk : (rs : List Release) → IsLegalPart t rs → IsLegalPart t (filter q rs)
  window_walk rs w = record { each = All-filter q (IsReleaseOf t) rs w.each; steps = window_steps rs w.steps }

pub follows_later : (t : Task) (x y : Release) → Follows t x y → x.time ≤ y.time
follows_later t x y (i, e, h, at, (from, to, sep)) = omega arith

module _ (t : Task) (a b : ℕ) where
  within_leaves : (x y : Release) → Follows t x y → is_within a b x ≡ true → is_within a b y ≡ false → b ≤ y.time
  within_leaves x y f h k =
      let (low, high) = and_parts (leb a x.time) (ltb x.time b) h in
      let from = leb-true a x.time low in
      elim (cases_lt y.time b) [
        | inr over ↦ over
        | inl under ↦ absurd (both_ways (is_within a b y) k (rw (le-leb a y.time (omega (arith, follows_later t x y f)), lt-ltb y.time b under) refl))
      ]

  within_out : (x : Release) → b ≤ x.time → is_within a b x ≡ false
  within_out x h = rw (le-ltb x.time b h) (grind arith)

  -- what a task releases from a up to b is a walk
  pub within_walk : (rs : List Release) → IsLegalPart t rs → IsLegalPart t (filter (is_within a b) rs)
  within_walk rs w = window_walk t (is_within a b) (λ r. b ≤ r.time) within_leaves (λ x y f h. omega (arith, follows_later t x y f)) within_out rs w

-- what the releases that pass need
pub needs_within : (q : Release → Bool) (rs : List Release) → sum_by (λ r. cond (q r) r.need 0) rs ≡ sum_by (λ r. r.need) (filter q rs)
needs_within q [] = refl
needs_within q (r ∷ rs) = elim (cases_Bool (q r)) [
  | inl t ↦ sum_by-cons (λ x. cond (q x) x.need 0) r rs ∙ rw (t, needs_within q rs) (sym (sum_by-cons (λ x. x.need) r (filter q rs)))
  | inr f ↦ sum_by-cons (λ x. cond (q x) x.need 0) r rs ∙ rw (f, needs_within q rs) (omega arith)
]
