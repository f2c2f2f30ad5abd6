-- A pass never takes a combination twice, nor a part of one that it didn't split.
use Rattle.std.proofs.Common.{◌≡◌, ◌≢◌, ℕ, suc, zero, ◌+◌, ◌*◌, ◌<◌, ◌≤◌, ◌⊎◌, None, Some, List, [], ◌∷◌, length, map, sym, ap, ◌∙◌, subst, inl, inr, arith, set}
use Rattle.std.specs.Prelude.{slice_get}
use Rattle.std.proofs.lemmas.Bool.{cases_lt}
use Rattle.std.proofs.lemmas.Option.{none-some, same_Some}
use Rattle.drt_tree.specs.Tree.{Plain, AreApart, IsForest, IsUnder}
use Rattle.drt_refine.specs.Below.{AreBelow, tuples}
use Rattle.drt_worst.specs.Splitting.{Search, IsSplit, IsHalfOf, IsPart}
use Rattle.drt_worst.specs.Runs.{Choice, skips, reaches, splits, PassEntry, known, left_after, halves_of, half_of, stack_after, IsFit, IsRunFrom, combination_of}
use Rattle.drt_worst.specs.Spent.{IsProperPart, IsSpent}
use Rattle.drt_worst.proofs.Below.{below_from_left, below_from_right, below_part, some_tuple, tuples_some, tuples_split, tuples_part}
use Rattle.drt_worst.proofs.Spending.{Mapped, at_map, length-map, takes_run, fails_split, skips_later, spent_short}

module _ (f : Plain) where
  -- no tuple is below both
  abbrev pub AreDisjoint : List ℕ → List ℕ → Type 0
  AreDisjoint c d = (tuple : List ℕ) → AreBelow f tuple c → AreBelow f tuple d → ⊥

  -- or the later one has fewer
  abbrev pub Differs : List ℕ → List ℕ → Type 0
  Differs c d = AreDisjoint c d ⊎ (tuples f d < tuples f c)

  abbrev pub AllDiffer : List ℕ → List (List ℕ) → Type 0
  AllDiffer c [] = Unit {0}
  AllDiffer c (d ∷ ds) = Differs c d × AllDiffer c ds

  abbrev pub AllDisjoint : List ℕ → List (List ℕ) → Type 0
  AllDisjoint c [] = Unit {0}
  AllDisjoint c (d ∷ ds) = AreDisjoint c d × AllDisjoint c ds

  abbrev pub ArePairwise : List (List ℕ) → Type 0
  ArePairwise [] = Unit {0}
  ArePairwise (c ∷ cs) = AllDisjoint c cs × ArePairwise cs

  all_differ : (c : List ℕ) (ds : List (List ℕ)) → AllDisjoint c ds → AllDiffer c ds
  all_differ c [] h = tt
  all_differ c (d ∷ ds) h = (inl h.0, all_differ c ds h.1)

  -- a leaf under both nodes that stand at one place
  shared_leaf : (tuple c : List ℕ) (place n a b : ℕ) → slice_get c place ≡ Some n → AreBelow f tuple (set c place a)
      → AreBelow f tuple (set c place b) → (leaf : ℕ) × IsUnder f leaf a × IsUnder f leaf b
  shared_leaf tuple [] place n a b at g h = absurd (none-some n at)
  shared_leaf [] (m ∷ c) zero n a b at g h = elim g [ ]
  shared_leaf [] (m ∷ c) (suc place) n a b at g h = elim g [ ]
  shared_leaf (leaf ∷ tuple) (m ∷ c) zero n a b at g h = (leaf, g.0, h.0)
  shared_leaf (leaf ∷ tuple) (m ∷ c) (suc place) n a b at g h = shared_leaf tuple c place n a b at g.1 h.1

  halves_disjoint : AreApart f → (c l r : List ℕ) → IsSplit f c l r → AreDisjoint l r
  halves_disjoint apart c l r s tuple g h =
      let x = shared_leaf tuple c s.place s.widest.node s.left s.right s.widest.at (subst (λ (z : List ℕ). AreBelow f tuple z) s.left_is g) (subst (λ (z : List ℕ). AreBelow f tuple z) s.right_is h) in
      apart s.widest.node s.left s.right x.0 s.forks x.1 x.2

  fewer_left : IsForest f → (c l r : List ℕ) → IsSplit f c l r → tuples f l < tuples f c
  fewer_left sound c l r s = let e : tuples f l + tuples f r ≡ tuples f c = tuples_split f sound c l r s in let b : 1 ≤ tuples f r = tuples_some f sound r in omega arith

  fewer_right : IsForest f → (c l r : List ℕ) → IsSplit f c l r → tuples f r < tuples f c
  fewer_right sound c l r s = let e : tuples f l + tuples f r ≡ tuples f c = tuples_split f sound c l r s in let b : 1 ≤ tuples f l = tuples_some f sound l in omega arith

  differs_left : IsForest f → (b c l r : List ℕ) → IsSplit f c l r → Differs b c → Differs b l
  differs_left sound b c l r s (inl h) = inl (λ tuple x y. h tuple x (below_from_left f tuple c l r s y))
  differs_left sound b c l r s (inr h) = inr (let a : tuples f l < tuples f c = fewer_left sound c l r s in omega arith)

  differs_right : IsForest f → (b c l r : List ℕ) → IsSplit f c l r → Differs b c → Differs b r
  differs_right sound b c l r s (inl h) = inl (λ tuple x y. h tuple x (below_from_right f tuple c l r s y))
  differs_right sound b c l r s (inr h) = inr (let a : tuples f r < tuples f c = fewer_right sound c l r s in omega arith)

  -- what differs is another combination
  pub differ_not : IsForest f → (c d : List ℕ) → Differs c d → c ≢ d
  differ_not sound c d (inl h) e =
      let t = some_tuple f sound c in
      h t.0 t.1 (subst (λ (z : List ℕ). AreBelow f t.0 z) e t.1)
  differ_not sound c d (inr h) e = let g : tuples f c ≡ tuples f d = ap (λ z. tuples f z) e in omega arith

  disjoint_halves : (b c l r : List ℕ) (ds : List (List ℕ)) → IsSplit f c l r → AllDisjoint c ds → AllDisjoint l ds × AllDisjoint r ds
  disjoint_halves b c l r [] s h = (tt, tt)
  disjoint_halves b c l r (d ∷ ds) s h =
      let more = disjoint_halves b c l r ds s h.1 in
      (((λ tuple x y. h.0 tuple (below_from_left f tuple c l r s x) y), more.0), ((λ tuple x y. h.0 tuple (below_from_right f tuple c l r s x) y), more.1))

module _ (s : Search) where
  left_differ : IsForest s.forest → (b c : List ℕ) (stack : List (List ℕ)) (seen : ℕ) (choice : Choice)
      → IsFit s c seen choice → AllDiffer s.forest b (c ∷ stack) → AllDiffer s.forest b (left_after choice stack)
  left_differ sound b c stack seen skips h d = d.1
  left_differ sound b c stack seen (reaches t) h d = d.1
  left_differ sound b c stack seen (splits l r) h d = (differs_left s.forest sound b c l r h.0 d.0, (differs_right s.forest sound b c l r h.0 d.0, d.1))

  own_differ : IsForest s.forest → (c : List ℕ) (stack : List (List ℕ)) (seen : ℕ) (choice : Choice)
      → IsFit s c seen choice → AllDisjoint s.forest c stack → AllDiffer s.forest c (left_after choice stack)
  own_differ sound c stack seen skips h d = all_differ s.forest c stack d
  own_differ sound c stack seen (reaches t) h d = all_differ s.forest c stack d
  own_differ sound c stack seen (splits l r) h d = (inr (fewer_left s.forest sound c l r h.0), (inr (fewer_right s.forest sound c l r h.0), all_differ s.forest c stack d))

  left_pairwise : AreApart s.forest → (c : List ℕ) (stack : List (List ℕ)) (seen : ℕ) (choice : Choice)
      → IsFit s c seen choice → ArePairwise s.forest (c ∷ stack) → ArePairwise s.forest (left_after choice stack)
  left_pairwise apart c stack seen skips h p = p.1
  left_pairwise apart c stack seen (reaches t) h p = p.1
  left_pairwise apart c stack seen (splits l r) h p =
      let both = disjoint_halves s.forest c c l r stack h.0 p.0 in
      ((halves_disjoint s.forest apart c l r h.0, both.0), (both.1, p.1))

  later_differ : IsForest s.forest → (b : List ℕ) (low : ℕ) (stack : List (List ℕ)) (es : List PassEntry) (j : ℕ) (e : PassEntry)
      → IsRunFrom s low stack es → AllDiffer s.forest b stack → slice_get es j ≡ Some e → Differs s.forest b e.combination
  later_differ sound b low stack [] j e run d at = absurd (none-some e at)
  later_differ sound b low [] (x ∷ es) j e run d at = elim run [ ]
  later_differ sound b low (c ∷ stack) (x ∷ es) zero e run d at = subst (λ (z : List ℕ). Differs s.forest b z) (sym run.0 ∙ ap (λ (y : PassEntry). y.combination) (same_Some x e at)) d.0
  later_differ sound b low (c ∷ stack) (x ∷ es) (suc j) e run d at =
      later_differ sound b (known x.seen x.choice) (left_after x.choice stack) es j e run.3 (left_differ sound b c stack x.seen x.choice run.2 d) at

  entries_differ : IsForest s.forest → AreApart s.forest → (low : ℕ) (stack : List (List ℕ)) (es : List PassEntry) (i j : ℕ) (d e : PassEntry) → IsRunFrom s low stack es
      → ArePairwise s.forest stack → i < j → slice_get es i ≡ Some d → slice_get es j ≡ Some e → Differs s.forest d.combination e.combination
  entries_differ sound apart low stack [] i j d e run p lt ati atj = absurd (none-some d ati)
  entries_differ sound apart low [] (x ∷ es) i j d e run p lt ati atj = elim run [ ]
  entries_differ sound apart low (c ∷ stack) (x ∷ es) i zero d e run p lt ati atj = absurd (omega arith)
  entries_differ sound apart low (c ∷ stack) (x ∷ es) zero (suc j) d e run p lt ati atj =
      let same : c ≡ d.combination = sym run.0 ∙ ap (λ (y : PassEntry). y.combination) (same_Some x d ati) in
      let differs : Differs s.forest c e.combination = later_differ sound c (known x.seen x.choice) (left_after x.choice stack) es j e run.3 (own_differ sound c stack x.seen x.choice run.2 p.0) atj in
      subst (λ (z : List ℕ). Differs s.forest z e.combination) same differs
  entries_differ sound apart low (c ∷ stack) (x ∷ es) (suc i) (suc j) d e run p lt ati atj =
      entries_differ sound apart (known x.seen x.choice) (left_after x.choice stack) es i j d e run.3 (left_pairwise apart c stack x.seen x.choice run.2 p) (omega arith) ati atj

  -- what comes after a combination that isn't split is apart from it
  left_apart : (b c : List ℕ) (stack : List (List ℕ)) (seen : ℕ) (choice : Choice) → IsFit s c seen choice → AllDisjoint s.forest b (c ∷ stack) → AllDisjoint s.forest b (left_after choice stack)
  left_apart b c stack seen skips h d = d.1
  left_apart b c stack seen (reaches t) h d = d.1
  left_apart b c stack seen (splits l r) h d =
      ((λ tuple x y. d.0 tuple x (below_from_left s.forest tuple c l r h.0 y)), ((λ tuple x y. d.0 tuple x (below_from_right s.forest tuple c l r h.0 y)), d.1))

  later_apart : (b : List ℕ) (low : ℕ) (stack : List (List ℕ)) (es : List PassEntry) (k : ℕ) (e : PassEntry)
      → IsRunFrom s low stack es → AllDisjoint s.forest b stack → slice_get es k ≡ Some e → AreDisjoint s.forest b e.combination
  later_apart b low stack [] k e run d at = absurd (none-some e at)
  later_apart b low [] (x ∷ es) k e run d at = elim run [ ]
  later_apart b low (c ∷ stack) (x ∷ es) zero e run d at = subst (λ (z : List ℕ). AreDisjoint s.forest b z) (sym run.0 ∙ ap (λ (y : PassEntry). y.combination) (same_Some x e at)) d.0
  later_apart b low (c ∷ stack) (x ∷ es) (suc k) e run d at =
      later_apart b (known x.seen x.choice) (left_after x.choice stack) es k e run.3 (left_apart b c stack x.seen x.choice run.2 d) at

  whole_left : (c : List ℕ) (stack : List (List ℕ)) (choice : Choice) → halves_of choice ≡ None → AllDisjoint s.forest c stack → AllDisjoint s.forest c (left_after choice stack)
  whole_left c stack skips h d = d
  whole_left c stack (reaches t) h d = d
  whole_left c stack (splits l r) h d =
      let p : List ℕ × List ℕ = (l, r) in
      absurd (none-some p (sym h))

  whole_apart : AreApart s.forest → (low : ℕ) (stack : List (List ℕ)) (es : List PassEntry) (j k : ℕ) (d e : PassEntry)
      → IsRunFrom s low stack es → ArePairwise s.forest stack → j < k → slice_get es j ≡ Some d → slice_get es k ≡ Some e
      → halves_of d.choice ≡ None → AreDisjoint s.forest d.combination e.combination
  whole_apart apart low stack [] j k d e run p lt atj atk none = absurd (none-some d atj)
  whole_apart apart low [] (x ∷ es) j k d e run p lt atj atk none = elim run [ ]
  whole_apart apart low (c ∷ stack) (x ∷ es) j zero d e run p lt atj atk none = absurd (omega arith)
  whole_apart apart low (c ∷ stack) (x ∷ es) zero (suc k) d e run p lt atj atk none =
      let is : x ≡ d = same_Some x d atj in
      let unsplit : halves_of x.choice ≡ None = ap (λ (y : PassEntry). halves_of y.choice) is ∙ none in
      let same : c ≡ d.combination = sym run.0 ∙ ap (λ (y : PassEntry). y.combination) is in
      let later : AreDisjoint s.forest c e.combination = later_apart c (known x.seen x.choice) (left_after x.choice stack) es k e run.3 (whole_left c stack x.choice unsplit p.0) atk in
      subst (λ (z : List ℕ). AreDisjoint s.forest z e.combination) same later
  whole_apart apart low (c ∷ stack) (x ∷ es) (suc j) (suc k) d e run p lt atj atk none =
      whole_apart apart (known x.seen x.choice) (left_after x.choice stack) es j k d e run.3 (left_pairwise apart c stack x.seen x.choice run.2 p) (omega arith) atj atk none

  half_fewer : IsForest s.forest → (c d : List ℕ) → IsHalfOf s.forest c d → tuples s.forest d < tuples s.forest c
  half_fewer sound c d h = elim h.1 as (λ _. tuples s.forest d < tuples s.forest c) [ inl x ↦ fewer_left s.forest sound c d h.0 x | inr x ↦ fewer_right s.forest sound c h.0 d x ]

  half_below : (tuple c d : List ℕ) → IsHalfOf s.forest c d → AreBelow s.forest tuple d → AreBelow s.forest tuple c
  half_below tuple c d h b = elim h.1 as (λ _. AreBelow s.forest tuple c) [ inl x ↦ below_from_left s.forest tuple c d h.0 x b | inr x ↦ below_from_right s.forest tuple c h.0 d x b ]

  -- a proper part is neither disjoint nor as large
  proper_not : IsForest s.forest → (c d : List ℕ) → IsProperPart s.forest c d → (tuples s.forest d < tuples s.forest c) × ((AreDisjoint s.forest c d → ⊥) × (AreDisjoint s.forest d c → ⊥))
  proper_not sound c d p =
      let a : tuples s.forest p.0 < tuples s.forest c = half_fewer sound c p.0 p.1 in
      let b : tuples s.forest d ≤ tuples s.forest p.0 = tuples_part s.forest sound p.0 d p.2 in
      let t = some_tuple s.forest sound d in
      let up : AreBelow s.forest t.0 c = half_below t.0 c p.0 p.1 (below_part s.forest t.0 p.0 d p.2 t.1) in
      (omega arith, ((λ h. h t.0 up t.1), (λ h. h t.0 t.1 up)))

  proper_by : IsForest s.forest → (low : ℕ) (start : List ℕ) (es : List PassEntry) → IsRunFrom s low (start ∷ []) es → (j k : ℕ) (d e : PassEntry) → slice_get es j ≡ Some d → slice_get es k ≡ Some e
      → halves_of d.choice ≡ None → ¬ IsProperPart s.forest d.combination e.combination
  proper_by sound low start es run j k d e atj atk none proper =
      let p = proper_not sound d.combination e.combination proper in
      let less : tuples s.forest e.combination < tuples s.forest d.combination = p.0 in
      elim (cases_lt j k) as (λ _. ⊥) [
        | inl later ↦ p.1.0 (whole_apart sound.apart low (start ∷ []) es j k d e run (tt, tt) later atj atk none)
        | inr le ↦ elim (cases_lt k j) as (λ _. ⊥) [
          | inl earlier ↦ elim (entries_differ sound sound.apart low (start ∷ []) es k j e d run (tt, tt) earlier atk atj) as (λ _. ⊥) [ inl apart ↦ p.1.1 apart | inr more ↦ omega arith ]
          | inr ge ↦ (let same : j ≡ k = omega arith in
              let is : d ≡ e = same_Some d e (sym atj ∙ (ap (λ i. slice_get es i) same ∙ atk)) in
              let equal : tuples s.forest d.combination ≡ tuples s.forest e.combination = ap (λ (x : PassEntry). tuples s.forest x.combination) is in
              omega arith)
        ]
      ]

  -- of what isn't split no part is taken
  pub whole_stays : IsForest s.forest → (low : ℕ) (start : List ℕ) (es : List PassEntry) → IsRunFrom s low (start ∷ []) es
      → (j k : ℕ) (d e : List ℕ) → slice_get (map combination_of es) j ≡ Some d → slice_get (map half_of es) j ≡ Some None
      → slice_get (map combination_of es) k ≡ Some e → ¬ IsProperPart s.forest d e
  whole_stays sound low start es run j k d e atj none atk proper =
      let x : Mapped combination_of es j d = at_map combination_of es j d atj in
      let y : Mapped combination_of es k e = at_map combination_of es k e atk in
      let h : Mapped half_of es j None = at_map half_of es j None none in
      let same : h.item ≡ x.item = same_Some h.item x.item (sym h.at ∙ x.at) in
      let unsplit : halves_of x.item.choice ≡ None = ap (λ (z : PassEntry). halves_of z.choice) (sym same) ∙ h.is in
      let up : IsProperPart s.forest x.item.combination e = subst (λ (z : List ℕ). IsProperPart s.forest z e) (sym x.is) proper in
      proper_by sound low start es run j k x.item y.item x.at y.at unsplit (subst (λ (z : List ℕ). IsProperPart s.forest x.item.combination z) (sym y.is) up)

  -- what a pass takes is all different
  pub taken_differ : IsForest s.forest → (low : ℕ) (start : List ℕ) (es : List PassEntry) → IsRunFrom s low (start ∷ []) es
      → (i j : ℕ) (c d : List ℕ) → i < j → slice_get (map combination_of es) i ≡ Some c → slice_get (map combination_of es) j ≡ Some d → c ≢ d
  taken_differ sound low start es run i j c d lt ati atj e =
      let x : Mapped combination_of es i c = at_map combination_of es i c ati in
      let y : Mapped combination_of es j d = at_map combination_of es j d atj in
      let differs : Differs s.forest x.item.combination y.item.combination = entries_differ sound sound.apart low (start ∷ []) es i j x.item y.item run (tt, tt) lt x.at y.at in
      differ_not s.forest sound x.item.combination y.item.combination differs (x.is ∙ (e ∙ sym y.is))

  -- a pass that took as many as the budget and still has one to take
  pub spent : IsForest s.forest → (roots start : List ℕ) (low budget : ℕ) (es : List PassEntry)
      → IsPart s.forest roots start → IsRunFrom s low (start ∷ []) es → stack_after (start ∷ []) es ≢ [] → length es ≡ budget
      → IsSpent s roots budget (map combination_of es)
  spent sound roots start low budget es p run more count = record {
    start = start;
    part = p;
    halves = map half_of es;
    rest = stack_after (start ∷ []) es;
    count = length-map combination_of es ∙ count;
    takes = takes_run s low (start ∷ []) es run;
    fails = λ i c at n none. fails_split s low (start ∷ []) es run i c at n none;
    skips = λ i j T t c d lt ati atj leaf least own le. skips_later s low (start ∷ []) es run i j T t c d lt ati atj leaf least own le;
    whole = λ i j k T t c d e lt ati atj leaf least own le atk.
        whole_stays sound low start es run j k d e atj (skips_later s low (start ∷ []) es run i j T t c d lt ati atj leaf least own le) atk;
    more = more;
    different = λ i j c d lt ati atj. taken_differ sound low start es run i j c d lt ati atj;
    short = (let h : length es < 2 * tuples s.forest roots = spent_short s sound roots start low es p run more in omega arith);
  }
