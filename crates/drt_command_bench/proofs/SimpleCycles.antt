-- A cycle with the greatest ratio goes round one that has the same ratio and names each vertex at most once.
use Rattle.std.proofs.Common.{◌≡◌, ◌≢◌, ◌⊎◌, inl, inr, ℕ, zero, suc, ◌+◌, ◌-◌, ◌*◌, ◌<◌, ◌≤◌, List, [], ◌∷◌, ◌++◌, length, get_or, take, drop, refl, sym, ap, subst, ◌∙◌, arith, length-drop}
use Rattle.std.proofs.Math.Seq.{take-length}
use Rattle.std.proofs.lemmas.Bool.{cases_eq}
use Rattle.std.proofs.lemmas.List.{length-take}
use Rattle.drt_model.specs.Digraph.{Digraph}
use Rattle.drt_model.specs.Walk.{IsPath, last_of, work, span, IsCycle, cycle_span}
use Rattle.drt_model.specs.Utilisation.{BoundsCycles, AreDistinct}
use Rattle.drt_graph.proofs.Paths.{path_both, path_first, path_rest, last_both, work_both, span_both, work_none, span_none, path_cycle}
use Rattle.drt_ratio.specs.Levels.{IsRepeat}
use Rattle.drt_ratio.proofs.Loops.{in_parts, last_take, loop_distinct}

-- The first place of a list whose number stands before.
module _ (xs : List ℕ) where
  abbrev Differ : ℕ → Type 0
  Differ n = (p q : ℕ) → p < q → q < n → get_or xs p 0 ≢ get_or xs q 0

  abbrev Stands : ℕ → ℕ → Type 0
  Stands n m = ((i : ℕ) → i < n → get_or xs i 0 ≢ get_or xs m 0) ⊎ ((i : ℕ) × (i < n) × (get_or xs i 0 ≡ get_or xs m 0))

  stands_before : (n m : ℕ) → Stands n m
  stands_before zero m = inl (λ i l. absurd (omega (arith, l)))
  stands_before (suc n) m = go (cases_eq (get_or xs n 0) (get_or xs m 0)) (stands_before n m)
    where
      go : (get_or xs n 0 ≡ get_or xs m 0) ⊎ (get_or xs n 0 ≢ get_or xs m 0) → Stands n m → Stands (suc n) m
      go (inl same) before = inr (n, omega arith, same)
      go (inr differ) (inr (i, l, same)) = inr (i, omega (arith, l), same)
      go (inr differ) (inl none) = inl (λ i l. elim (cases_eq i n) [
        | inl last ↦ subst (λ k. get_or xs k 0 ≢ get_or xs m 0) (sym last) differ
        | inr before ↦ none i (omega (arith, l, before))
      ])

  abbrev Repeats : ℕ → Type 0
  Repeats n = Differ n ⊎ ((i : ℕ) × (j : ℕ) × IsRepeat xs i j)

  pub first_repeat : (n : ℕ) → n ≤ length xs → Repeats n
  first_repeat zero l = inl (λ p q less within. absurd (omega (arith, within)))
  first_repeat (suc n) l = go (first_repeat n (omega arith)) (stands_before n n)
    where
      go : Repeats n → Stands n n → Repeats (suc n)
      go (inr found) stands = inr found
      go (inl differ) (inr (i, less, same)) = inr (i, n, record { order = less; within = l; same = same; differ = differ })
      go (inl differ) (inl none) = inl (λ p q less within. elim (cases_eq q n) [
        | inl last ↦ subst (λ k. get_or xs p 0 ≢ get_or xs k 0) (sym last) (none p (omega (arith, less, last)))
        | inr before ↦ differ p q less (omega (arith, within, before))
      ])

-- Between two places with the same vertex a walk comes back.
two_takes : (i m : ℕ) (vs : List ℕ) → take i vs ++ take m (drop i vs) ≡ take (i + m) vs
two_takes zero m vs = let e : 0 + m ≡ m = omega arith in rw e refl
two_takes (suc i) m [] = take_none m ∙ sym (take_none (suc i + m))
  where
    take_none : (k : ℕ) → take {A = ℕ} k [] ≡ []
    take_none zero = refl
    take_none (suc k) = refl
two_takes (suc i) m (v ∷ vs) = let e : suc i + m ≡ suc (i + m) = omega arith in rw e (ap (λ ys. v ∷ ys) (two_takes i m vs))

comes_back : (u i m : ℕ) (ws : List ℕ) → i + m ≤ length ws → get_or (u ∷ ws) i 0 ≡ get_or (u ∷ ws) (i + m) 0 → last_of (last_of u (take i ws)) (take m (drop i ws)) ≡ last_of u (take i ws)
comes_back u i m ws within same =
    let first = last_take u ws i (omega (arith, within)) in
    sym (last_both u (take i ws) (take m (drop i ws))) ∙ ap (last_of u) (two_takes i m ws) ∙ last_take u ws (i + m) within ∙ sym same ∙ sym first

-- In plain numbers, of the parts of a walk.
parts : (a b w1 w2 w3 s1 s2 s3 : ℕ) → b * (w1 + (w2 + w3)) ≡ a * (s1 + (s2 + s3)) → b * (w1 + w3) ≤ a * (s1 + s3) → b * w2 ≤ a * s2 → b * w2 ≡ a * s2
parts a b w1 w2 w3 s1 s2 s3 whole rest loop = omega arith

-- A cycle that names each vertex at most once and has the ratio.
pub record IsSimple (g : Digraph) (a b : ℕ) (cycle : List ℕ) : Type 0 where
  pub is : IsCycle g cycle
  pub distinct : AreDistinct cycle
  pub has : b * work g cycle ≡ a * cycle_span g cycle

module _ (g : Digraph) (a b : ℕ) (least : BoundsCycles g a b) where
  -- A walk that comes back has at most the greatest ratio.
  closed_least : (u : ℕ) (xs : List ℕ) → IsPath g u xs → last_of u xs ≡ u → b * work g xs ≤ a * span g u xs
  closed_least u [] path back = rw (work_none, span_none) (omega arith)
  closed_least u (x ∷ xs) path back =
      let r = path_cycle g u x xs path back in
      subst (λ s. b * work g (x ∷ xs) ≤ a * s) r.1 (least (x ∷ xs) r.0)

  -- So does each loop of one that has it.
  loop_has : (u : ℕ) (xs cs ys : List ℕ) → IsPath g u (xs ++ (cs ++ ys)) → last_of u (xs ++ (cs ++ ys)) ≡ u → b * work g (xs ++ (cs ++ ys)) ≡ a * span g u (xs ++ (cs ++ ys))
      → last_of (last_of u xs) cs ≡ last_of u xs → IsPath g (last_of u xs) cs × (b * work g cs ≡ a * span g (last_of u xs) cs)
  loop_has u xs cs ys path end whole back =
      let rest = path_rest g u xs (cs ++ ys) path in
      let round = path_first g (last_of u xs) cs ys rest in
      let after : IsPath g (last_of u xs) ys = rw back at (path_rest g (last_of u xs) cs ys rest) in
      let ends : last_of u (xs ++ ys) ≡ u = last_both u xs ys ∙ ap (λ w. last_of w ys) (sym back) ∙ sym (last_both (last_of u xs) cs ys) ∙ sym (last_both u xs (cs ++ ys)) ∙ end in
      let less = closed_least u (xs ++ ys) (path_both g u xs ys (path_first g u xs (cs ++ ys) path) after) ends in
      let l = rw (work_both g xs ys, span_both g u xs ys) at less in
      let s = rw (work_both g xs (cs ++ ys), work_both g cs ys, span_both g u xs (cs ++ ys), span_both g (last_of u xs) cs ys, back) at whole in
      (round, parts a b (work g xs) (work g cs) (work g ys) (span g u xs) (span g (last_of u xs) cs) (span g (last_of u xs) ys) s l (closed_least (last_of u xs) cs round back))

  close : (w : ℕ) (cs : List ℕ) → 0 < length cs → IsPath g w cs → last_of w cs ≡ w → b * work g cs ≡ a * span g w cs → AreDistinct cs → IsSimple g a b cs
  close w [] some path back has distinct = absurd (omega (arith, some))
  close w (c ∷ cs) some path back has distinct =
      let r = path_cycle g w c cs path back in
      record { is = r.0; distinct = distinct; has = rw r.1 has }

  loop_simple : (u i j : ℕ) (ws : List ℕ) → IsPath g u ws → last_of u ws ≡ u → b * work g ws ≡ a * span g u ws → IsRepeat (u ∷ ws) i j → (cycle : List ℕ) × IsSimple g a b cycle
  loop_simple u i j ws path end has again =
      let m : ℕ = j - i in
      let at : i + m ≡ j = omega (arith, again.order) in
      let within : i + m ≤ length ws = omega (arith, again.within, again.order) in
      let same : get_or (u ∷ ws) i 0 ≡ get_or (u ∷ ws) (i + m) 0 = rw at again.same in
      let e = in_parts ws i m in
      let back : last_of (last_of u (take i ws)) (take m (drop i ws)) ≡ last_of u (take i ws) = comes_back u i m ws within same in
      let r = loop_has u (take i ws) (take m (drop i ws)) (drop m (drop i ws)) (rw e path) (rw e end) (rw e has) back in
      let size : 0 < length (take m (drop i ws)) = simp (length-take, length-drop) (omega (arith, again.order, again.within)) in
      let distinct = loop_distinct u i m ws within same (λ p q x y. again.differ p q x (omega (arith, y, again.order))) in
      (take m (drop i ws), close (last_of u (take i ws)) (take m (drop i ws)) size r.0 back r.1 distinct)

  pub simple_of : (v : ℕ) (vs : List ℕ) → IsCycle g (v ∷ vs) → b * work g (v ∷ vs) ≡ a * cycle_span g (v ∷ vs) → (cycle : List ℕ) × IsSimple g a b cycle
  simple_of v vs is has =
      let u = last_of v vs in
      let ws = v ∷ vs in
      let whole : last_of u ws ≡ get_or (u ∷ ws) (length ws) 0 = ap (last_of u) (sym (take-length ws)) ∙ last_take u ws (length ws) (omega arith) in
      elim (first_repeat (u ∷ ws) (length (u ∷ ws)) (omega arith)) [
        | inl differ ↦ absurd (differ 0 (length ws) (omega arith) (omega arith) whole)
        | inr (i, j, again) ↦ loop_simple u i j ws is refl has again
      ]
