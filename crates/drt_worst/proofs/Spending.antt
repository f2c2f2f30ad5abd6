-- What a pass shows that has spent its budget.
use Rattle.std.proofs.Common.{◌≡◌, ◌≢◌, ℕ, suc, zero, ◌+◌, ◌*◌, ◌-◌, ◌<◌, ◌≤◌, Option, Some, None, List, [], ◌∷◌, length, map, refl, sym, ap, ◌∙◌, subst, arith}
use Rattle.std.specs.Prelude.{slice_get}
use Rattle.std.proofs.lemmas.Option.{none-some, same_Some}
use Rattle.drt_tree.specs.Tree.{IsForest}
use Rattle.drt_refine.specs.Below.{IsConcrete, tuples}
use Rattle.drt_worst.specs.Splitting.{Search, IsPart, PassesFor, IsLeastFor}
use Rattle.drt_worst.specs.Runs.{Choice, skips, reaches, splits, PassEntry, known, left_after, halves_of, stack_after, IsFit, IsRunFrom, combination_of, half_of}
use Rattle.drt_worst.specs.Spent.{with_halves_in_front, AreHalves, AreTaken}
use Rattle.drt_worst.proofs.Below.{concrete_whole, tuples_some, tuples_split, tuples_part}
use Rattle.drt_worst.proofs.Runs.{At, entry_at}

-- the element of a map at a place
pub map_at : {A B : Type 0} (v : A → B) (xs : List A) (j : ℕ) (x : A) → slice_get xs j ≡ Some x → slice_get (map v xs) j ≡ Some (v x)
map_at v [] j x h = absurd (none-some x h)
map_at v (y ∷ xs) zero x h = ap (λ z. Some (v z)) (same_Some y x h)
map_at v (y ∷ xs) (suc j) x h = map_at v xs j x h

pub record Mapped {A B : Type 0} (v : A → B) (xs : List A) (j : ℕ) (y : B) : Type 0 where
  pub item : A
  pub at : slice_get xs j ≡ Some item
  pub is : v item ≡ y

pub at_map : {A B : Type 0} (v : A → B) (xs : List A) (j : ℕ) (y : B) → slice_get (map v xs) j ≡ Some y → Mapped v xs j y
at_map v [] j y h = absurd (none-some y h)
at_map v (x ∷ xs) zero y h = record { item = x; at = refl; is = same_Some (v x) y h }
at_map v (x ∷ xs) (suc j) y h = (let m : Mapped v xs j y = at_map v xs j y h in record { item = m.item; at = m.at; is = m.is })

pub length-map : {A B : Type 0} (v : A → B) (xs : List A) → length (map v xs) ≡ length xs
length-map v [] = refl
length-map v (x ∷ xs) = ap suc (length-map v xs)

module _ (s : Search) where
  halves_fit : (c : List ℕ) (seen : ℕ) (choice : Choice) → IsFit s c seen choice → AreHalves s.forest c (halves_of choice)
  halves_fit c seen skips h = tt
  halves_fit c seen (reaches t) h = tt
  halves_fit c seen (splits l r) h = h.0

  put_left : (choice : Choice) (stack : List (List ℕ)) → with_halves_in_front (halves_of choice) stack ≡ left_after choice stack
  put_left skips stack = refl
  put_left (reaches t) stack = refl
  put_left (splits l r) stack = refl

  pub takes_run : (low : ℕ) (stack : List (List ℕ)) (es : List PassEntry) → IsRunFrom s low stack es → AreTaken s.forest stack (map combination_of es) (map half_of es) (stack_after stack es)
  takes_run low stack [] run = refl
  takes_run low [] (d ∷ es) run = elim run [ ]
  takes_run low (c ∷ stack) (d ∷ es) run = (
    sym run.0,
    halves_fit c d.seen d.choice run.2,
    subst (λ (x : List (List ℕ)). AreTaken s.forest x (map combination_of es) (map half_of es) (stack_after (left_after d.choice stack) es))
        (sym (put_left d.choice stack)) (takes_run (known d.seen d.choice) (left_after d.choice stack) es run.3),
  )

  -- what isn't concrete and has no time that passes is split
  split_failing : (c : List ℕ) (seen : ℕ) (choice : Choice) → IsFit s c seen choice → ¬ IsConcrete s.forest c → ((t : ℕ) → ¬ PassesFor s c t) → (p : List ℕ × List ℕ) × (halves_of choice ≡ Some p)
  split_failing c seen skips h n none = absurd (none h.0 h.1)
  split_failing c seen (reaches t) h n none = absurd (n h.0)
  split_failing c seen (splits l r) h n none = ((l, r), refl)

  pub fails_split : (low : ℕ) (stack : List (List ℕ)) (es : List PassEntry) → IsRunFrom s low stack es → (i : ℕ) (c : List ℕ)
      → slice_get (map combination_of es) i ≡ Some c → ¬ IsConcrete s.forest c → ((t : ℕ) → ¬ PassesFor s c t)
      → (p : List ℕ × List ℕ) × (slice_get (map half_of es) i ≡ Some (Some p))
  fails_split low stack es run i c at n none =
      let m : Mapped combination_of es i c = at_map combination_of es i c at in
      let a : At s low es m.item = entry_at s low stack es i m.item run m.at in
      let fits : IsFit s c m.item.seen m.item.choice = subst (λ (x : List ℕ). IsFit s x m.item.seen m.item.choice) m.is a.fits in
      let p = split_failing c m.item.seen m.item.choice fits n none in
      (p.0, map_at half_of es i m.item m.at ∙ ap (λ (o : Option (List ℕ × List ℕ)). Some o) p.1)

  -- after a concrete combination a pass knows its least time
  knows_least : (c : List ℕ) (seen T : ℕ) (choice : Choice) → IsFit s c seen choice → IsConcrete s.forest c → IsLeastFor s c T → T ≤ known seen choice
  knows_least c seen T skips h leaf least = let a : T ≤ h.0 = least.least h.0 h.1 in let b : h.0 ≤ seen = h.2 in omega arith
  knows_least c seen T (reaches t) h leaf least = let a : T ≤ t = least.least t h.1.passes in a
  knows_least c seen T (splits l r) h leaf least = absurd (concrete_whole s.forest c l r leaf h.0)

  not_split : (c : List ℕ) (seen t : ℕ) (choice : Choice) → IsFit s c seen choice → PassesFor s c t → t ≤ seen → halves_of choice ≡ None
  not_split c seen t skips h p le = refl
  not_split c seen t (reaches u) h p le = refl
  not_split c seen t (splits l r) h p le = absurd (let a : seen < t = h.1 t p in omega arith)

  pub skips_later : (low : ℕ) (stack : List (List ℕ)) (es : List PassEntry) → IsRunFrom s low stack es → (i j T t : ℕ) (c d : List ℕ)
      → i < j → slice_get (map combination_of es) i ≡ Some c → slice_get (map combination_of es) j ≡ Some d
      → IsConcrete s.forest c → IsLeastFor s c T → IsLeastFor s d t → t ≤ T → slice_get (map half_of es) j ≡ Some None
  skips_later low stack [] run i j T t c d lt ati atj leaf least own le = absurd (none-some c ati)
  skips_later low [] (e ∷ es) run i j T t c d lt ati atj leaf least own le = elim run [ ]
  skips_later low (b ∷ stack) (e ∷ es) run i zero T t c d lt ati atj leaf least own le = absurd (omega arith)
  skips_later low (b ∷ stack) (e ∷ es) run zero (suc j) T t c d lt ati atj leaf least own le =
      let same : e.combination ≡ c = same_Some e.combination c ati in
      let fits : IsFit s c e.seen e.choice = subst (λ (x : List ℕ). IsFit s x e.seen e.choice) (sym run.0 ∙ same) run.2 in
      let knows : T ≤ known e.seen e.choice = knows_least c e.seen T e.choice fits leaf least in
      let m : Mapped combination_of es j d = at_map combination_of es j d atj in
      let a : At s (known e.seen e.choice) es m.item = entry_at s (known e.seen e.choice) (left_after e.choice stack) es j m.item run.3 m.at in
      let later : known e.seen e.choice ≤ m.item.seen = a.seen in
      let fits' : IsFit s d m.item.seen m.item.choice = subst (λ (x : List ℕ). IsFit s x m.item.seen m.item.choice) m.is a.fits in
      map_at half_of es j m.item m.at ∙ ap (λ (o : Option (List ℕ × List ℕ)). Some o) (not_split d m.item.seen t m.item.choice fits' own.passes (omega arith))
  skips_later low (b ∷ stack) (e ∷ es) run (suc i) (suc j) T t c d lt ati atj leaf least own le =
      skips_later (known e.seen e.choice) (left_after e.choice stack) es run.3 i j T t c d (omega arith) ati atj leaf least own le

  -- what may still be taken: of a combination with p tuples at most 2p - 1
  abbrev pub work : List (List ℕ) → ℕ
  work [] = 0
  work (c ∷ cs) = (2 * tuples s.forest c - 1) + work cs

  work_left : IsForest s.forest → (c : List ℕ) (stack : List (List ℕ)) (seen : ℕ) (choice : Choice)
      → IsFit s c seen choice → work (left_after choice stack) + 1 ≤ (2 * tuples s.forest c - 1) + work stack
  work_left sound c stack seen skips h = let a : 1 ≤ tuples s.forest c = tuples_some s.forest sound c in omega arith
  work_left sound c stack seen (reaches t) h = let a : 1 ≤ tuples s.forest c = tuples_some s.forest sound c in omega arith
  work_left sound c stack seen (splits l r) h =
      let a : 1 ≤ tuples s.forest l = tuples_some s.forest sound l in
      let b : 1 ≤ tuples s.forest r = tuples_some s.forest sound r in
      let e : tuples s.forest l + tuples s.forest r ≡ tuples s.forest c = tuples_split s.forest sound c l r h.0 in
      omega arith

  pub work_bounded : IsForest s.forest → (low : ℕ) (stack : List (List ℕ)) (es : List PassEntry) → IsRunFrom s low stack es → length es + work (stack_after stack es) ≤ work stack
  work_bounded sound low stack [] run = omega arith
  work_bounded sound low [] (d ∷ es) run = elim run [ ]
  work_bounded sound low (c ∷ stack) (d ∷ es) run =
      let a : work (left_after d.choice stack) + 1 ≤ (2 * tuples s.forest c - 1) + work stack = work_left sound c stack d.seen d.choice run.2 in
      let b : length es + work (stack_after (left_after d.choice stack) es) ≤ work (left_after d.choice stack) = work_bounded sound (known d.seen d.choice) (left_after d.choice stack) es run.3 in
      omega arith

  work_some : IsForest s.forest → (stack : List (List ℕ)) → stack ≢ [] → 1 ≤ work stack
  work_some sound [] n = absurd (n refl)
  work_some sound (c ∷ cs) n = let a : 1 ≤ tuples s.forest c = tuples_some s.forest sound c in omega arith

  -- so what a pass takes is less than twice the tuples below the roots
  pub spent_short : IsForest s.forest → (roots start : List ℕ) (low : ℕ) (es : List PassEntry) → IsPart s.forest roots start
      → IsRunFrom s low (start ∷ []) es → stack_after (start ∷ []) es ≢ [] → length es < 2 * tuples s.forest roots
  spent_short sound roots start low es p run more =
      let a : length es + work (stack_after (start ∷ []) es) ≤ work (start ∷ []) = work_bounded sound low (start ∷ []) es run in
      let b : 1 ≤ work (stack_after (start ∷ []) es) = work_some sound (stack_after (start ∷ []) es) more in
      let c : tuples s.forest start ≤ tuples s.forest roots = tuples_part s.forest sound roots start p in
      let d : work (start ∷ []) ≡ (2 * tuples s.forest start - 1) + 0 = refl in
      omega arith
