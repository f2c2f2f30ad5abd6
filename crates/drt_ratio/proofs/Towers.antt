-- Levels over one another.
use Rattle.std.proofs.Common.{◌≡◌, ℕ, zero, suc, ◌+◌, ◌*◌, ◌<◌, ◌≤◌, List, [], ◌∷◌, ◌++◌, length, get_or, ◌⊎◌, inl, inr, refl, arith, length-append}
use Rattle.std.proofs.lemmas.Bool.{cases_lt}
use Rattle.std.proofs.lemmas.List.{get_or_append_left, get_or_push}
use Rattle.std.specs.Prelude.{replicate}
use Rattle.drt_model.specs.Digraph.{Digraph, IsSoundGraph}
use Rattle.drt_ratio.specs.declared.levels.Level.{Level}
use Rattle.drt_ratio.specs.Levels.{height, no_level, level_of, IsLevelBelow, IsWholeRound, IsTower}
use Rattle.drt_ratio.proofs.Offers.{raised_below}

pub tower_one : (g : Digraph) (a b : ℕ) (l : Level) → ((v : ℕ) → height l v ≡ 0) → IsTower g a b (l ∷ [])
tower_one g a b l none = record {
  opens = none;
  rounds = λ k m. absurd (omega arith);
  small = λ k m v at. small k m v;
}
  where
    small : (k : ℕ) → k < 1 → (v : ℕ) → height (level_of (l ∷ []) k) v ≤ k * 100000000000000
    small zero m v = omega (arith, none v)
    small (suc k) m v = absurd (omega arith)

pub tower_push : (g : Digraph) (a b i : ℕ) (levels : List Level) (next : Level) → IsSoundGraph g → b ≤ 100000000 → IsTower g a b levels → length levels ≡ i + 1
    → IsWholeRound g a b (level_of levels i) next → IsTower g a b (levels ++ next ∷ [])
tower_push g a b i levels next sound small is count round = record {
  opens = λ v. rw (get_or_append_left levels (next ∷ []) no_level 0 (omega arith)) (is.opens v);
  rounds = λ k m. rounds k m (cases_lt (k + 1) (i + 1));
  small = λ k m. below k m (cases_lt k (i + 1));
}
  where
    left : (k : ℕ) → k < i + 1 → level_of (levels ++ next ∷ []) k ≡ level_of levels k
    left k m = get_or_append_left levels (next ∷ []) no_level k (omega arith)

    top : (k : ℕ) → k ≡ i + 1 → level_of (levels ++ next ∷ []) k ≡ next
    top k e = get_or_push levels next no_level k (omega arith)

    rounds : (k : ℕ) → k + 1 < length (levels ++ next ∷ []) → (k + 1 < i + 1) ⊎ (i + 1 ≤ k + 1) → IsWholeRound g a b (level_of (levels ++ next ∷ []) k) (level_of (levels ++ next ∷ []) (k + 1))
    rounds k m (inl l) = rw (left k (omega arith), left (k + 1) l) (is.rounds k (omega arith))
    rounds k m (inr l) =
        let e : k ≡ i = omega (arith, m, length-append levels (next ∷ [])) in
        rw (e, left i (omega arith), top (i + 1) refl) round

    below : (k : ℕ) → k < length (levels ++ next ∷ []) → (k < i + 1) ⊎ (i + 1 ≤ k) → IsLevelBelow g (level_of (levels ++ next ∷ []) k) (k * 100000000000000)
    below k m (inl l) = rw (left k l) (is.small k (omega arith))
    below k m (inr l) =
        let e : k ≡ i + 1 = omega (arith, m, length-append levels (next ∷ [])) in
        let h = raised_below g a b (i * 100000000000000) (level_of levels i) next sound small round.raised (is.small i (omega arith)) in
        rw (e, top (i + 1) refl) (λ v at. omega (arith, h v at))

pub zeros : (n v : ℕ) → get_or {A = ℕ} (replicate n 0) v 0 ≡ 0
zeros zero v = refl
zeros (suc n) zero = refl
zeros (suc n) (suc v) = zeros n v
