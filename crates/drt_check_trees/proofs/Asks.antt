-- What walks ask for, vertex by vertex, and how two walks compare.
use Rattle.std.proofs.Common.{◌≡◌, ℕ, ◌+◌, ◌*◌, ◌<◌, ◌≤◌, ◌⊎◌, inl, inr, List, [], ◌∷◌, length, get_or, drop, refl, ap, arith, ◌∙◌}
use Rattle.std.specs.Prelude.{◌↔◌}
use Rattle.std.proofs.lemmas.Bool.{cases_lt, le-ltb, lt-ltb}
use Rattle.std.proofs.lemmas.List.{drop_more, drop_all}
use Rattle.drt_model.specs.Numbers.{most_time}
use Rattle.drt_model.specs.Digraph.{Digraph}
use Rattle.drt_model.specs.Walk.{gap, wcet, work, requested_from, span_of}
use Rattle.drt_graph.proofs.Paths.{span_cons, span_none, work_cons, work_none}
use Rattle.drt_check_trees.specs.Asking.{AsksNoLess, IsCursorPlaced, asked_at, asked_by_rest}
use Rattle.drt_check_trees.specs.Gaps.{gap_to, leap}
use Rattle.drt_check_trees.specs.declared.asking.Cursor.{Cursor}

module _ (g : Digraph) where
  -- Before its first release a walk asks for nothing.
  pub asks_none : (offset : ℕ) (vs : List ℕ) (t : ℕ) → t ≤ offset → asked_by_rest g offset vs t ≡ 0
  unfolding requested_from
  asks_none offset [] t le = refl
  asks_none offset (u ∷ []) t le = rw (le-ltb offset t le) refl
  asks_none offset (u ∷ v ∷ vs) t le = rw (le-ltb offset t le) (omega (arith, asks_none (offset + gap g u v) (v ∷ vs) t (omega arith)))

  -- After it, for the first vertex and what the others ask for.
  pub asks_more : (offset u : ℕ) (vs : List ℕ) (t : ℕ) → offset < t → asked_by_rest g offset (u ∷ vs) t ≡ wcet g u + asked_by_rest g (offset + gap_to g u vs) vs t
  unfolding requested_from
  asks_more offset u [] t l = rw (lt-ltb offset t l) (omega arith)
  asks_more offset u (v ∷ vs) t l = rw (lt-ltb offset t l) refl

  -- The same at a place of a walk.
  pub asks_at : (walk : List ℕ) (i offset t : ℕ) → i < length walk → offset < t
      → asked_by_rest g offset (drop i walk) t ≡ wcet g (get_or walk i 0) + asked_by_rest g (offset + leap g walk i) (drop (i + 1) walk) t
  asks_at walk i offset t l m = ap (λ xs. asked_by_rest g offset xs t) (drop_more walk i 0 l) ∙ asks_more offset (get_or walk i 0) (drop (i + 1) walk) t m

  pub span_more : (u : ℕ) (vs : List ℕ) → span_of g (u ∷ vs) ≡ gap_to g u vs + span_of g vs
  span_more u [] = omega (arith, span_none g u)
  span_more u (v ∷ vs) = span_cons g u v vs

  pub span_at : (walk : List ℕ) (i : ℕ) → i < length walk → span_of g (drop i walk) ≡ leap g walk i + span_of g (drop (i + 1) walk)
  span_at walk i l = ap (span_of g) (drop_more walk i 0 l) ∙ span_more (get_or walk i 0) (drop (i + 1) walk)

  pub work_at : (walk : List ℕ) (i : ℕ) → i < length walk → work g (drop i walk) ≡ wcet g (get_or walk i 0) + work g (drop (i + 1) walk)
  work_at walk i l = ap (work g) (drop_more walk i 0 l) ∙ work_cons g (get_or walk i 0) (drop (i + 1) walk)

  pub span_end : (walk : List ℕ) (i : ℕ) → length walk ≤ i → span_of g (drop i walk) ≡ 0
  span_end walk i l = ap (span_of g) (drop_all i walk l)

  pub work_end : (walk : List ℕ) (i : ℕ) → length walk ≤ i → work g (drop i walk) ≡ 0
  work_end walk i l = ap (work g) (drop_all i walk l) ∙ work_none g

  -- From an offset on, what is done and left of one walk is at most what is done and left of another.
  abbrev pub Stays : ℕ → ℕ → ℕ → List ℕ → (ℕ → ℕ) → Type 0
  Stays bound offset done rest asked = (t : ℕ) → offset < t → t ≤ bound → done + asked_by_rest g offset rest t ≤ asked t

  module _ (bound offset done : ℕ) (other : List ℕ) (i : ℕ) (asked : ℕ → ℕ) where
    pub stays_past : bound ≤ offset → Stays bound offset done (drop i other) asked
    stays_past past t l m = absurd (omega arith)

    pub stays_end : (least : ℕ) → length other ≤ i → done ≤ least → ((t : ℕ) → offset < t → least ≤ asked t) → Stays bound offset done (drop i other) asked
    stays_end least long le at t l m =
        let e : asked_by_rest g offset (drop i other) t ≡ 0 = ap (λ xs. asked_by_rest g offset xs t) (drop_all i other long) in
        let a = at t l in
        omega (arith, e, le, a)

    module _ (l : i < length other) (below : offset < bound) where
      first : ℕ
      first = wcet g (get_or other i 0)

      next : ℕ
      next = offset + leap g other i

      -- Just after the release here less is asked for.
      pub stays_not : (least : ℕ) → asked (offset + 1) ≡ least → least < done + wcet g (get_or other i 0) → Stays bound offset done (drop i other) asked → ⊥
      stays_not least at less stays =
          let a = stays (offset + 1) (omega arith) (omega (arith, below)) in
          let b = asks_at other i offset (offset + 1) l (omega arith) in
          omega (arith, a, b, at, less)

      -- It is so from here on exactly where it is from the next release on.
      pub stays_more : (least : ℕ) → done + wcet g (get_or other i 0) ≤ least → ((t : ℕ) → offset < t → least ≤ asked t)
          → Stays bound offset done (drop i other) asked ↔ Stays bound (offset + leap g other i) (done + wcet g (get_or other i 0)) (drop (i + 1) other) asked
      stays_more least enough at = (goes, comes)
        where
          goes : Stays bound offset done (drop i other) asked → Stays bound (offset + leap g other i) (done + wcet g (get_or other i 0)) (drop (i + 1) other) asked
          goes stays t m n =
              let o : offset < t = omega arith in
              let a = stays t o n in
              let b = asks_at other i offset t l o in
              omega (arith, a, b)

          comes : Stays bound (offset + leap g other i) (done + wcet g (get_or other i 0)) (drop (i + 1) other) asked → Stays bound offset done (drop i other) asked
          comes stays t m n = go (cases_lt (offset + leap g other i) t)
            where
              b : asked_by_rest g offset (drop i other) t ≡ wcet g (get_or other i 0) + asked_by_rest g (offset + leap g other i) (drop (i + 1) other) t
              b = asks_at other i offset t l m

              go : (offset + leap g other i < t) ⊎ (t ≤ offset + leap g other i) → done + asked_by_rest g offset (drop i other) t ≤ asked t
              go (inl q) = let a = stays t q n in omega (arith, a, b)
              go (inr q) =
                  let e = asks_none (offset + leap g other i) (drop (i + 1) other) t q in
                  let a = at t m in
                  omega (arith, e, a, b, enough)

  pub stays_same : (bound offset done : ℕ) (rest : List ℕ) (asked later : ℕ → ℕ) → ((t : ℕ) → offset < t → later t ≡ asked t)
      → Stays bound offset done rest asked ↔ Stays bound offset done rest later
  stays_same bound offset done rest asked later
      same = (λ s t l m. (let a = s t l m in let b = same t l in omega (arith, a, b)), λ s t l m. (let a = s t l m in let b = same t l in omega (arith, a, b)))

  -- What is known of a comparison at a place of the other walk.
  pub record IsSettled (bound : ℕ) (other walk : List ℕ) (i offset done : ℕ) (c : Cursor) : Type 0 where
    pub placed : IsCursorPlaced walk c
    pub offset_small : offset ≤ most_time * i
    pub done_small : done ≤ most_time * i
    pub least : done ≤ c.work
    pub same : AsksNoLess bound g other walk ↔ Stays bound offset done (drop i other) (asked_at g walk c)

  module _ (bound : ℕ) (other walk : List ℕ) where
    pub settled_start : (c : Cursor) → c.place ≡ 0 → c.offset ≡ 0 → c.work ≡ 0 → IsSettled bound other walk 0 0 0 c
    settled_start c p o w =
        let at : (t : ℕ) → asked_at g walk c t ≡ asked_by_rest g 0 walk t = (λ t. rw (p, o, w) (omega arith)) in
        record {
          placed = record { within = omega (arith, p); offset = omega (arith, o); work = omega (arith, w) };
          offset_small = omega arith;
          done_small = omega arith;
          least = omega arith;
          same = (λ h t l m. (let a = h t l m in let b = at t in omega (arith, a, b)), λ s t l m. (let a = s t l m in let b = at t in omega (arith, a, b)));
        }

    module _ (i offset done : ℕ) (c : Cursor) (is : IsSettled bound other walk i offset done c) where
      pub settled_past : bound ≤ offset → AsksNoLess bound g other walk
      settled_past past = is.same.1 (stays_past bound offset done other i (asked_at g walk c) past)

      pub settled_end : length other ≤ i → AsksNoLess bound g other walk
      settled_end long = is.same.1 (stays_end bound offset done other i (asked_at g walk c) c.work long is.least (λ t l. omega arith))

      module _ (d : Cursor) (l : i < length other) (below : offset < bound) (same : (t : ℕ) → offset < t → asked_at g walk d t ≡ asked_at g walk c t) where
        pub settled_not : (d.place < length walk → offset < d.offset) → d.work < done + wcet g (get_or other i 0) → AsksNoLess bound g other walk → ⊥
        settled_not past less no_less =
            stays_not bound offset done other i (asked_at g walk d) l below d.work (at (cases_lt d.place (length walk))) less
            ((stays_same bound offset done (drop i other) (asked_at g walk c) (asked_at g walk d) same).0 (is.same.0 no_less))
          where
            at : (d.place < length walk) ⊎ (length walk ≤ d.place) → asked_at g walk d (offset + 1) ≡ d.work
            at (inl q) = let a = past q in let e = asks_none d.offset (drop d.place walk) (offset + 1) (omega (arith, a)) in omega (arith, e)
            at (inr q) = let e : asked_by_rest g d.offset (drop d.place walk) (offset + 1) ≡ 0 = ap (λ xs. asked_by_rest g d.offset xs (offset + 1)) (drop_all d.place walk q) in omega (arith, e)

        pub settled_more : IsCursorPlaced walk d → wcet g (get_or other i 0) ≤ most_time → leap g other i ≤ most_time → done + wcet g (get_or other i 0) ≤ d.work
            → IsSettled bound other walk (i + 1) (offset + leap g other i) (done + wcet g (get_or other i 0)) d
        settled_more placed small short enough =
            let a = stays_same bound offset done (drop i other) (asked_at g walk c) (asked_at g walk d) same in
            let b = stays_more bound offset done other i (asked_at g walk d) l below d.work enough (λ t m. omega arith) in
            record {
              placed = placed;
              offset_small = omega (arith, is.offset_small, short);
              done_small = omega (arith, is.done_small, small);
              least = enough;
              same = (λ h. b.0 (a.0 (is.same.0 h)), λ s. is.same.1 (a.1 (b.1 s)));
            }
