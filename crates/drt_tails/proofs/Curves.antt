-- The entries of a front in order, as the jumps of a vertex, and the value of such jumps before a time.
use Rattle.std.proofs.Common.{◌≡◌, ℕ, zero, suc, ◌<◌, ◌≤◌, Bool, true, false, cond, eqb, List, [], ◌∷◌, length, map, filter, get_or, refl, sym, ap, ◌∙◌, subst, inl, inr, arith}
use Rattle.std.specs.Prelude.{All, Contains, nat_lt}
use Rattle.std.proofs.lemmas.Bool.{cond_both, eq-eqb, eqb-true, lt-ltb}
use Rattle.std.proofs.lemmas.List.{get_or-map, length-map}
use Rattle.std.proofs.lemmas.List.Elements.{All-cons, All-contains_itself, All-filter, All-map, All-nil, All-weaker, filter_passes}
use Rattle.drt_graph.specs.FrontEntry.{IsNextEntry}
use Rattle.drt_model.specs.Legal.{AllNeighbours}
use Rattle.drt_graph.specs.declared.front.FrontEntry.{FrontEntry}
use Rattle.drt_model.proofs.Neighbours.{AllNeighbours-cons, AllNeighbours-head, AllNeighbours-nil, AllNeighbours-one, AllNeighbours-tail, filter-no, filter-yes, kept}
use Rattle.drt_states.specs.declared.claims.Jump.{Jump}
use Rattle.drt_states.specs.Tails.{last_work}
use Rattle.drt_tails.specs.Cut.{jump_of, jumps_at}

-- The second jump comes later and is higher.
abbrev pub RisesTo : Jump → Jump → Type 0
RisesTo a b = (a.offset < b.offset) × (a.work < b.work)

-- A relation of neighbours that goes on holds of the first with each later one.
first_with_each : {X : Type 0} (R : X → X → Type 0) → ((a b c : X) → R a b → R b c → R a c) → (x : X) (xs : List X) → AllNeighbours R (x ∷ xs) → All (R x) xs
first_with_each R go x [] n = All-nil (R x)
first_with_each R go x (y ∷ ys) n =
    let r = AllNeighbours-head R x y ys n in
    All-cons (R x) y ys r (All-weaker (R y) (R x) (λ z s. go x y z r s) ys (first_with_each R go y ys (AllNeighbours-tail R x (y ∷ ys) n)))

next_next : (a b c : FrontEntry) → IsNextEntry a b → IsNextEntry b c → IsNextEntry a c
next_next a b c (inl l) (inl m) = inl (omega arith)
next_next a b c (inl l) (inr m) = let m0 = m.0 in inl (omega (arith, m0))
next_next a b c (inr l) (inl m) = let l0 = l.0 in inl (omega (arith, l0))
next_next a b c (inr l) (inr m) =
    let l1 = l.1 in let l2 = l.2 in let m1 = m.1 in let m2 = m.2 in
    inr (l.0 ∙ m.0, omega (arith, l1, m1), omega (arith, l2, m2))

rises_on : (a b c : Jump) → RisesTo a b → RisesTo b c → RisesTo a c
rises_on a b c l m = let l0 = l.0 in let l1 = l.1 in let m0 = m.0 in let m1 = m.1 in (omega (arith, l0, m0), omega (arith, l1, m1))

-- A jump below each of a rising list.
rising_more : (j : Jump) (js : List Jump) → All (RisesTo j) js → AllNeighbours RisesTo js → AllNeighbours RisesTo (j ∷ js)
rising_more j [] below n = AllNeighbours-one RisesTo j
rising_more j (k ∷ js) below n = AllNeighbours-cons RisesTo j k js (below 0 j (omega arith)) n

-- A jump of vertex v is that of an entry.
pub record IsOfEntry (front : List FrontEntry) (v : ℕ) (j : Jump) : Type 0 where
  pub entry : FrontEntry
  pub there : Contains front entry
  pub vertex : entry.vertex ≡ v
  pub is : j ≡ jump_of entry

pub of_entries : (front : List FrontEntry) (v : ℕ) → All (IsOfEntry front v) (jumps_at front v)
of_entries front v =
    let test : FrontEntry → Bool = λ e. eqb e.vertex v in
    All-map (IsOfEntry front v) jump_of (filter test front) (λ k d l. record {
      entry = get_or (filter test front) k d;
      there = All-filter test (Contains front) front (All-contains_itself front) k d l;
      vertex = eqb-true (get_or (filter test front) k d).vertex v (filter_passes test front k d l);
      is = refl;
    })

-- An entry of vertex v gives a jump of it.
pub jump_there : (front : List FrontEntry) (v i : ℕ) (e : FrontEntry) (d : Jump) → i < length front → get_or front i e ≡ e → e.vertex ≡ v
    → (c : ℕ) × (c < length (jumps_at front v)) × (get_or (jumps_at front v) c d ≡ jump_of e)
jump_there front v i e d l at vertex =
    let test : FrontEntry → Bool = λ x. eqb x.vertex v in
    let passes : test (get_or front i e) ≡ true = eq-eqb _ v (ap (λ (x : FrontEntry). x.vertex) at ∙ vertex) in
    let c = kept test front i e l passes in (
      c.0,
      rw (length-map (filter test front) jump_of) c.1,
      get_or-map jump_of (filter test front) c.0 e d c.1 ∙ ap jump_of (c.2 ∙ at),
    )

-- The jumps of a vertex rise.
pub jumps_rise : (front : List FrontEntry) (v : ℕ) → AllNeighbours IsNextEntry front → AllNeighbours RisesTo (jumps_at front v)
jumps_rise [] v n = AllNeighbours-nil RisesTo
jumps_rise (e ∷ es) v n = go (eqb e.vertex v) refl (jumps_rise es v (AllNeighbours-tail IsNextEntry e es n))
  where
    above : e.vertex ≡ v → (x : FrontEntry) → x.vertex ≡ v → IsNextEntry e x → RisesTo (jump_of e) (jump_of x)
    above here x there (inl l) = absurd (omega arith)
    above here x there (inr l) = (l.1, l.2)

    each : e.vertex ≡ v → All (RisesTo (jump_of e)) (jumps_at es v)
    each here =
        let test : FrontEntry → Bool = λ x. eqb x.vertex v in
        All-map (RisesTo (jump_of e)) jump_of (filter test es) (λ k d l. above here (get_or (filter test es) k d)
        (eqb-true (get_or (filter test es) k d).vertex v (filter_passes test es k d l))
        (All-filter test (IsNextEntry e) es (first_with_each IsNextEntry next_next e es n) k d l))

    go : (b : Bool) → eqb e.vertex v ≡ b → AllNeighbours RisesTo (jumps_at es v) → AllNeighbours RisesTo (jumps_at (e ∷ es) v)
    go true q rest =
        subst (AllNeighbours RisesTo) (sym (ap (map jump_of) (filter-yes (λ (x : FrontEntry). eqb x.vertex v) e es q)))
        (rising_more (jump_of e) (jumps_at es v) (each (eqb-true e.vertex v q)) rest)
    go false q rest = subst (AllNeighbours RisesTo) (sym (ap (map jump_of) (filter-no (λ (x : FrontEntry). eqb x.vertex v) e es q))) rest

-- The first of a rising list is the only one with an offset of 0.
pub first_only : (js : List Jump) (i : ℕ) (d : Jump) → AllNeighbours RisesTo js → i < length js → (get_or js i d).offset ≤ 0 → i ≡ 0
first_only [] i d n l low = absurd (omega arith)
first_only (j ∷ js) zero d n l low = refl
first_only (j ∷ js) (suc i) d n l low =
    let r = (first_with_each RisesTo rises_on j js n i d (omega arith)).0 in absurd (omega (arith, r, low))

-- What is known stays known through higher jumps.
known_least : (known : ℕ) (js : List Jump) (t : ℕ) → AllNeighbours RisesTo js → All (λ j. known ≤ j.work) js → known ≤ last_work known js t
unfolding last_work
known_least known [] t n above = omega arith
known_least known (j ∷ js) t n above =
    let here : known ≤ j.work = above 0 j (omega arith) in
    let k : ℕ = cond (nat_lt j.offset t) j.work known in
    let more : known ≤ k = cond_both (nat_lt j.offset t) j.work known (λ x. known ≤ x) (λ e. here) (λ e. omega arith) in
    let least : k ≤ j.work = cond_both (nat_lt j.offset t) j.work known (λ x. x ≤ j.work) (λ e. omega arith) (λ e. here) in
    let rest = known_least k js t (AllNeighbours-tail RisesTo j js n)
    (All-weaker (RisesTo j) (λ x. k ≤ x.work) (λ x r. let r1 = r.1 in omega (arith, least, r1)) js (first_with_each RisesTo rises_on j js n)) in
    omega (arith, more, rest)

-- The value before t is no less than the work of each jump with an offset below t.
pub jump_counts : (known : ℕ) (js : List Jump) (t i : ℕ) (d : Jump) → AllNeighbours RisesTo js → i < length js → (get_or js i d).offset < t → (get_or js i d).work ≤ last_work known js t
unfolding last_work
jump_counts known [] t i d n l early = absurd (omega arith)
jump_counts known (j ∷ js) t zero d n l early =
    rw (lt-ltb j.offset t early)
    (known_least j.work js t (AllNeighbours-tail RisesTo j js n)
    (All-weaker (RisesTo j) (λ x. j.work ≤ x.work) (λ x r. let r1 = r.1 in omega (arith, r1)) js (first_with_each RisesTo rises_on j js n)))
jump_counts known (j ∷ js) t (suc i) d n l early =
    jump_counts (cond (nat_lt j.offset t) j.work known) js t i d (AllNeighbours-tail RisesTo j js n) (omega arith) early
