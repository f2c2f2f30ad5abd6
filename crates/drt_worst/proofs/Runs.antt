-- What a pass's run shows.
use Rattle.std.proofs.Common.{◌≡◌, ◌≢◌, ℕ, suc, zero, ◌<◌, ◌≤◌, ◌⊎◌, Some, List, [], ◌∷◌, ◌++◌, refl, sym, ap, ◌∙◌, subst, inl, inr, arith}
use Rattle.std.specs.Prelude.{slice_get}
use Rattle.std.proofs.lemmas.Option.{none-some, same_Some}
use Rattle.drt_tree.specs.Tree.{IsForest}
use Rattle.drt_refine.specs.Below.{AreBelow}
use Rattle.drt_worst.specs.Splitting.{Search, IsSplit, IsPart, AreParts, IsBelowOne, IsWithin, IsReached, IsGreatest}
use Rattle.drt_worst.specs.Runs.{Choice, skips, reaches, splits, PassEntry, known, left_after, stack_after, known_after, IsFit, IsRunFrom, IsEnded, Run, AreEnded, IsDealtTo, AreDealt}
use Rattle.drt_worst.proofs.Below.{below_parts, below_part, part_more, concrete_below, passes_below, some_tuple}
use Rattle.drt_worst.proofs.Least.{least_of}

module _ (s : Search) where
  -- a pass never knows less than before
  pub knows_more : (c : List ℕ) (seen : ℕ) (choice : Choice) → IsFit s c seen choice → seen ≤ known seen choice
  knows_more c seen skips h = omega arith
  knows_more c seen (reaches t) h = let lt : seen < t = h.2 in omega arith
  knows_more c seen (splits l r) h = omega arith

  -- what holds of one entry
  pub record At (low : ℕ) (es : List PassEntry) (e : PassEntry) : Type 0 where
    pub seen : low ≤ e.seen
    pub fits : IsFit s e.combination e.seen e.choice

  pub entry_at : (low : ℕ) (stack : List (List ℕ)) (es : List PassEntry) (j : ℕ) (e : PassEntry) → IsRunFrom s low stack es → slice_get es j ≡ Some e → At low es e
  entry_at low stack [] j e run at = absurd (none-some e at)
  entry_at low [] (d ∷ es) j e run at = elim run [ ]
  entry_at low (c ∷ stack) (d ∷ es) zero e run at =
      let h : IsFit s d.combination d.seen d.choice = subst (λ (x : List ℕ). IsFit s x d.seen d.choice) (sym run.0) run.2 in
      let first : At low (d ∷ es) d = record { seen = run.1; fits = h } in
      subst (λ (x : PassEntry). At low (d ∷ es) x) (same_Some d e at) first
  entry_at low (c ∷ stack) (d ∷ es) (suc j) e run at =
      let more : d.seen ≤ known d.seen d.choice = knows_more c d.seen d.choice run.2 in
      let a : At (known d.seen d.choice) es e = entry_at (known d.seen d.choice) (left_after d.choice stack) es j e run.3 at in
      let x : known d.seen d.choice ≤ e.seen = a.seen in
      let y : low ≤ d.seen = run.1 in
      record { seen = omega arith; fits = a.fits }

  pub known_rises : (low : ℕ) (stack : List (List ℕ)) (es : List PassEntry) → IsRunFrom s low stack es → low ≤ known_after low es
  known_rises low stack [] run = omega arith
  known_rises low [] (d ∷ es) run = elim run [ ]
  known_rises low (c ∷ stack) (d ∷ es) run =
      let more : d.seen ≤ known d.seen d.choice = knows_more c d.seen d.choice run.2 in
      let rest : known d.seen d.choice ≤ known_after (known d.seen d.choice) es = known_rises (known d.seen d.choice) (left_after d.choice stack) es run.3 in
      let y : low ≤ d.seen = run.1 in
      omega arith

  pub within_more : (tuple : List ℕ) (a b : ℕ) → a ≤ b → IsWithin s tuple a → IsWithin s tuple b
  within_more tuple a b le w = (w.0, w.1, (let h : w.0 ≤ a = w.2 in omega arith))

  -- a tuple below a combination that is taken is below what is left, or within what is then known
  below_taken : IsForest s.forest → (tuple c : List ℕ) (stack : List (List ℕ)) (seen : ℕ) (choice : Choice) → IsFit s c seen choice → AreBelow s.forest tuple c ⊎ IsBelowOne s.forest tuple stack
      → IsBelowOne s.forest tuple (left_after choice stack) ⊎ IsWithin s tuple (known seen choice)
  below_taken sound tuple c stack seen skips h (inl b) = inr (h.0, passes_below s.forest sound s.wcet s.deadline tuple c h.0 b h.1, h.2)
  below_taken sound tuple c stack seen skips h (inr b) = inl b
  below_taken sound tuple c stack seen (reaches t) h (inl b) = inr (t, passes_below s.forest sound s.wcet s.deadline tuple c t b h.1.passes, omega arith)
  below_taken sound tuple c stack seen (reaches t) h (inr b) = inl b
  below_taken sound tuple c stack seen (splits l r) h (inl b) =
      elim (below_parts s.forest tuple c l r h.0 b) as (λ _. IsBelowOne s.forest tuple (l ∷ r ∷ stack) ⊎ IsWithin s tuple seen) [ inl u ↦ inl (inl u) | inr u ↦ inl (inr (inl u)) ]
  below_taken sound tuple c stack seen (splits l r) h (inr b) = inl (inr (inr b))

  -- each tuple below what was dealt is below what is left, or within what is known
  pub covered : IsForest s.forest → (low : ℕ) (stack : List (List ℕ)) (es : List PassEntry) → IsRunFrom s low stack es → (tuple : List ℕ) → IsBelowOne s.forest tuple stack
      → IsBelowOne s.forest tuple (stack_after stack es) ⊎ IsWithin s tuple (known_after low es)
  covered sound low stack [] run tuple b = inl b
  covered sound low [] (d ∷ es) run tuple b = elim run [ ]
  covered sound low (c ∷ stack) (d ∷ es) run tuple b =
      let taken = below_taken sound tuple c stack d.seen d.choice run.2 b in
      elim taken as (λ _. IsBelowOne s.forest tuple (stack_after (left_after d.choice stack) es) ⊎ IsWithin s tuple (known_after (known d.seen d.choice) es)) [
        | inl u ↦ covered sound (known d.seen d.choice) (left_after d.choice stack) es run.3 tuple u
        | inr w ↦ inr (within_more tuple (known d.seen d.choice) (known_after (known d.seen d.choice) es) (known_rises (known d.seen d.choice) (left_after d.choice stack) es run.3) w)
      ]

  -- each combination on the stack stays one of the splitting tree
  pub parts_left : (roots c : List ℕ) (stack : List (List ℕ)) (seen : ℕ) (choice : Choice) → IsFit s c seen choice
      → IsPart s.forest roots c → AreParts s.forest roots stack → AreParts s.forest roots (left_after choice stack)
  parts_left roots c stack seen skips h p ps = ps
  parts_left roots c stack seen (reaches t) h p ps = ps
  parts_left roots c stack seen (splits l r) h p ps = (part_more s.forest roots c l p (r, inl h.0), (part_more s.forest roots c r p (l, inr h.0), ps))

  pub entry_part : (roots : List ℕ) (low : ℕ) (stack : List (List ℕ)) (es : List PassEntry) (j : ℕ) (e : PassEntry)
      → AreParts s.forest roots stack → IsRunFrom s low stack es → slice_get es j ≡ Some e → IsPart s.forest roots e.combination
  entry_part roots low stack [] j e ps run at = absurd (none-some e at)
  entry_part roots low [] (d ∷ es) j e ps run at = elim run [ ]
  entry_part roots low (c ∷ stack) (d ∷ es) zero e ps run at = subst (λ (x : List ℕ). IsPart s.forest roots x) (sym run.0 ∙ ap (λ (x : PassEntry). x.combination) (same_Some d e at)) ps.0
  entry_part roots low (c ∷ stack) (d ∷ es) (suc j) e ps run at =
      entry_part roots (known d.seen d.choice) (left_after d.choice stack) es j e (parts_left roots c stack d.seen d.choice run.2 ps.0 ps.1) run.3 at

  -- a value that a pass puts into the word is the least time of a tuple below the roots
  pub reaches_tuple : (roots : List ℕ) (low : ℕ) (stack : List (List ℕ)) (es : List PassEntry) (j t : ℕ) (e : PassEntry) → AreParts s.forest roots stack
      → IsRunFrom s low stack es → slice_get es j ≡ Some e → e.choice ≡ reaches t → IsReached s roots t e.combination
  reaches_tuple roots low stack es j t e ps run at is =
      let a : At low es e = entry_at low stack es j e run at in
      let h : IsFit s e.combination e.seen (reaches t) = subst (λ (x : Choice). IsFit s e.combination e.seen x) is a.fits in
      let p : IsPart s.forest roots e.combination = entry_part roots low stack es j e ps run at in
      record { below = below_part s.forest e.combination roots e.combination p (concrete_below s.forest e.combination h.0); least = h.1 }

  -- the entries of a pass that goes on
  pub run_more : (low : ℕ) (stack : List (List ℕ)) (es : List PassEntry) (e : PassEntry) (c : List ℕ) (others : List (List ℕ))
      → IsRunFrom s low stack es → stack_after stack es ≡ c ∷ others → e.combination ≡ c → known_after low es ≤ e.seen → IsFit s c e.seen e.choice
      → IsRunFrom s low stack (es ++ e ∷ []) × (stack_after stack (es ++ e ∷ []) ≡ left_after e.choice others) × (known_after low (es ++ e ∷ []) ≡ known e.seen e.choice)
  run_more low stack [] e c others run is same more fits =
      let go : (st : List (List ℕ)) → st ≡ c ∷ others → IsRunFrom s low st (e ∷ []) × (stack_after st (e ∷ []) ≡ left_after e.choice others) × (known e.seen e.choice ≡ known e.seen e.choice) =
      λ st g. subst (λ (x : List (List ℕ)). IsRunFrom s low x (e ∷ []) × (stack_after x (e ∷ []) ≡ left_after e.choice others) × (known e.seen e.choice ≡ known e.seen e.choice))
      (sym g) ((same, more, fits, tt), refl, refl) in
      go stack is
  run_more low [] (d ∷ es) e c others run is same more fits = elim run [ ]
  run_more low (b ∷ stack) (d ∷ es) e c others run is same more fits =
      let rest = run_more (known d.seen d.choice) (left_after d.choice stack) es e c others run.3 is same more fits in
      ((run.0, run.1, run.2, rest.0), rest.1, rest.2)

  -- one pass that has ended, and then all of them
  ended_within : IsForest s.forest → (word : ℕ) (start : List (List ℕ)) (es : List PassEntry) → IsEnded s word start es → (tuple : List ℕ) → IsBelowOne s.forest tuple start → IsWithin s tuple word
  ended_within sound word start es h tuple b =
      elim (covered sound 0 start es h.run tuple b) as (λ _. IsWithin s tuple word) [
        | inl u ↦ absurd (let v : IsBelowOne s.forest tuple [] = subst (λ (x : List (List ℕ)). IsBelowOne s.forest tuple x) h.empty u in v)
        | inr w ↦ within_more tuple (known_after 0 es) word h.within w
      ]

  all_within : IsForest s.forest → (word : ℕ) (passes : List Run) → AreEnded s word passes → (tuple : List ℕ) → IsDealtTo s.forest tuple passes → IsWithin s tuple word
  all_within sound word [] h tuple b = elim b [ ]
  all_within sound word (p ∷ ps) h tuple (inl b) = ended_within sound word p.start p.entries h.0 tuple b
  all_within sound word (p ∷ ps) h tuple (inr b) = all_within sound word ps h.1 tuple b

  -- the word at the end, where it was reached
  pub greatest : IsForest s.forest → (roots : List ℕ) (word : ℕ) (passes : List Run) → AreEnded s word passes → ((tuple : List ℕ) → AreBelow s.forest tuple roots → IsDealtTo s.forest tuple passes)
      → (tuple : List ℕ) → IsReached s roots word tuple → IsGreatest s roots word tuple
  greatest sound roots word passes ended dealt tuple reached = record {
    reached = reached;
    most = λ other b.
        (let w : IsWithin s other word = all_within sound word passes ended other (dealt other b) in
        let m = least_of s.wcet s.deadline s.forest.pool other w.0 w.1 in
        let a : m.0 ≤ w.0 = m.2 in
        let z : w.0 ≤ word = w.2 in
        (m.0, m.1, omega arith));
  }

  -- it was reached: else it would be 0, and there is a tuple
  pub some_reached : IsForest s.forest → (roots : List ℕ) (word : ℕ) (passes : List Run) → AreEnded s word passes
      → ((tuple : List ℕ) → AreBelow s.forest tuple roots → IsDealtTo s.forest tuple passes) → word ≢ 0
  some_reached sound roots word passes ended dealt zero_is =
      let t = some_tuple s.forest sound roots in
      let w : IsWithin s t.0 word = all_within sound word passes ended t.0 (dealt t.0 t.1) in
      let a : 1 ≤ w.0 = w.1.from in
      let b : w.0 ≤ word = w.2 in
      omega arith

  -- what the caller deals: the roots, and then each combination that is split gives way to its parts
  pub dealt_roots : (roots : List ℕ) → AreDealt s.forest roots (roots ∷ [])
  dealt_roots roots = record { parts = (([], refl), tt); all = λ tuple b. inl b }

  parts_join : (roots l r : List ℕ) (xs : List (List ℕ)) (c : List ℕ) (ys : List (List ℕ))
      → IsSplit s.forest c l r → AreParts s.forest roots (xs ++ c ∷ ys) → AreParts s.forest roots (xs ++ l ∷ r ∷ ys)
  parts_join roots l r [] c ys h ps = (part_more s.forest roots c l ps.0 (r, inl h), (part_more s.forest roots c r ps.0 (l, inr h), ps.1))
  parts_join roots l r (x ∷ xs) c ys h ps = (ps.0, parts_join roots l r xs c ys h ps.1)

  below_join : (tuple l r : List ℕ) (xs : List (List ℕ)) (c : List ℕ) (ys : List (List ℕ)) → IsSplit s.forest c l r
      → IsBelowOne s.forest tuple (xs ++ c ∷ ys) → IsBelowOne s.forest tuple (xs ++ l ∷ r ∷ ys)
  below_join tuple l r [] c ys h (inl b) = elim (below_parts s.forest tuple c l r h b) as (λ _. IsBelowOne s.forest tuple (l ∷ r ∷ ys)) [ inl u ↦ inl u | inr u ↦ inr (inl u) ]
  below_join tuple l r [] c ys h (inr b) = inr (inr b)
  below_join tuple l r (x ∷ xs) c ys h (inl b) = inl b
  below_join tuple l r (x ∷ xs) c ys h (inr b) = inr (below_join tuple l r xs c ys h b)

  pub dealt_split : (roots l r : List ℕ) (xs : List (List ℕ)) (c : List ℕ) (ys : List (List ℕ))
      → IsSplit s.forest c l r → AreDealt s.forest roots (xs ++ c ∷ ys) → AreDealt s.forest roots (xs ++ l ∷ r ∷ ys)
  dealt_split roots l r xs c ys h d = record { parts = parts_join roots l r xs c ys h d.parts; all = λ tuple b. below_join tuple l r xs c ys h (d.all tuple b) }
