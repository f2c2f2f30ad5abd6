-- Short walks, their entries in order, and what dominates them.
use Rattle.std.proofs.Common.{◌≡◌, ℕ, zero, suc, ◌+◌, ◌-◌, ◌*◌, ◌<◌, ◌≤◌, ◌⊎◌, inl, inr, true, false, List, [], ◌∷◌, All, length, get_or, refl, sym, ap, subst, arith, ◌∙◌}
use Rattle.std.specs.Prelude.{Any, nat_lt, ◌==◌}
use Rattle.std.specs.Ordering.{is_lt, nat_cmp, ordering_then}
use Rattle.std.specs.declared.cmp.Ordering.{Ordering}
use Rattle.std.specs.List.Sorted.{IsPartitionedBy, IsPermutation, IsSorted}
use Rattle.std.proofs.lemmas.Bool.{cases_Bool, cases_lt, eq-eqb, eqb-true, eqb-false, le-leb, le-ltb, leb-true, lt-ltb, ltb-true}
use Rattle.std.proofs.lemmas.List.{get_or_default}
use Rattle.std.proofs.lemmas.List.Sorted.{All-permutation, Contains-permutation}
use Rattle.std.proofs.lemmas.List.Elements.{All-cons, All-head, All-nil, All-tail}
use Rattle.drt_model.specs.Numbers.{most_time}
use Rattle.drt_model.specs.Digraph.{Digraph, IsSoundGraph, vertex_count}
use Rattle.drt_model.specs.Walk.{IsPath, gap, last_of, span, work, span_of}
use Rattle.drt_graph.proofs.Edges.{target_of}
use Rattle.drt_graph.proofs.Paths.{path_within, span_cons, work_cons, work_none}
use Rattle.drt_claims.specs.Trees.{IsShortWalk}
use Rattle.drt_check_trees.specs.Asking.{AsksNoLess, AreWalkVertices, asked_by_rest}
use Rattle.drt_check_trees.specs.Entries.{AreInOrder, AreWalkEntries, IsEntryOf, IsListed, IsNoLater, IsWalkOver, is_up_to, last_in}
use Rattle.drt_check_trees.specs.Gaps.{gap_to}
use Rattle.drt_check_trees.specs.declared.entries.Entry.{Entry}
use Rattle.drt_check_trees.proofs.Asks.{asks_more, span_more}
use Rattle.drt_check_trees.proofs.Domination.{over_self, over_trans}

-- How two entries compare.
abbrev pub compare : Entry → Entry → Ordering
compare x y = ordering_then (nat_cmp x.last y.last)
    (ordering_then (nat_cmp y.work.0 x.work.0) (ordering_then (nat_cmp x.span y.span) (ordering_then (nat_cmp x.digest y.digest) (nat_cmp x.number y.number))))

-- The last vertex of a list that isn't empty.
at_last : (v : ℕ) (vs : List ℕ) → get_or (v ∷ vs) (length vs) 0 ≡ last_of v vs
at_last v [] = refl
at_last v (w ∷ vs) = at_last w vs

pub last_at : (walk : List ℕ) → 0 < length walk → get_or walk (length walk - 1) 0 ≡ last_in walk
last_at [] l = absurd (omega arith)
last_at (v ∷ vs) l = let n : suc (length vs) - 1 ≡ length vs = omega arith in ap (λ i. get_or (v ∷ vs) i 0) n ∙ at_last v vs

-- Those of lower last vertices come first,
pub lower_first : (entries : List Entry) (last : ℕ) → AreInOrder entries → IsPartitionedBy (λ e. nat_lt e.last last) entries
lower_first entries last sorted i j d l m e =
    let a = (sorted i j d l m).last in
    let b = ltb-true (get_or entries j d).last last e in
    lt-ltb (get_or entries i d).last last (omega (arith, a, b))

-- and among those of one last vertex those of more work.
pub up_to_parts : (last work : ℕ) (e : Entry) → is_up_to last work e ≡ true → (e.last ≤ last) × (e.last ≡ last → work ≤ e.work.0)
up_to_parts last work e is = elim (cases_Bool (e.last == last)) [
  | inl q ↦ (
      let same : e.last ≡ last = eqb-true e.last last q in
      let more : work ≤ e.work.0 = leb-true work e.work.0 (rw q at is) in
      (omega (arith, same), λ f. more))
  | inr q ↦ (
      let low : e.last < last = ltb-true e.last last (rw q at is) in
      (omega (arith, low), λ f. absurd (omega (arith, f, low))))
]

pub up_to_of : (last work : ℕ) (e : Entry) → e.last ≤ last → (e.last ≡ last → work ≤ e.work.0) → is_up_to last work e ≡ true
up_to_of last work e low more = elim (cases_Bool (e.last == last)) [
  | inl q ↦ rw (q, le-leb work e.work.0 (more (eqb-true e.last last q))) refl
  | inr q ↦ (let n = eqb-false e.last last q in rw (q, lt-ltb e.last last (omega (arith, low, n))) refl)
]

pub more_first : (entries : List Entry) (last work : ℕ) → AreInOrder entries → IsPartitionedBy (is_up_to last work) entries
more_first entries last work sorted i j d l m e =
    let a = sorted i j d l m in
    let b = up_to_parts last work (get_or entries j d) e in
    up_to_of last work (get_or entries i d) (omega (arith, a.last, b.0))
    (λ f. (let n : (get_or entries i d).last ≡ (get_or entries j d).last = omega (arith, f, a.last, b.0) in omega (arith, a.work n, b.1 (omega (arith, f, n)))))

module _ (g : Digraph) (sound : IsSoundGraph g) where
  path_all : (u : ℕ) (vs : List ℕ) → u < vertex_count g → IsPath g u vs → All (λ v. v < vertex_count g) (u ∷ vs)
  path_all u [] l is = All-cons (λ v. v < vertex_count g) u [] l (All-nil (λ v. v < vertex_count g))
  path_all u (v ∷ vs) l is = All-cons (λ v. v < vertex_count g) u (v ∷ vs) l (path_all v vs (target_of g sound u v (gap g u v) is.0).0 is.1)

  path_long : (u : ℕ) (vs : List ℕ) → IsPath g u vs → length vs ≤ span g u vs
  path_long u [] is = omega arith
  path_long u (v ∷ vs) is =
      let a = (target_of g sound u v (gap g u v) is.0).1 in
      let b = path_long v vs is.1 in
      let c = span_cons g u v vs in
      omega (arith, a, b, c)

  module _ (bound : ℕ) where
    pub short_within : (walk : List ℕ) → bound ≤ most_time → IsShortWalk bound g walk → AreWalkVertices g walk
    short_within [] b is = absurd is
    short_within (u ∷ vs) b is = record { each = path_all u vs is.0 is.1; few = omega (arith, path_long u vs is.1, is.2, b) }

    pub short_some : (walk : List ℕ) → IsShortWalk bound g walk → 0 < length walk
    short_some [] is = absurd is
    short_some (u ∷ vs) is = omega arith

    pub short_last : (walk : List ℕ) → IsShortWalk bound g walk → last_in walk < vertex_count g
    short_last [] is = absurd is
    short_last (u ∷ vs) is = path_within g sound u vs is.0 is.1

-- After its last release a walk has asked for all its work.
asks_all : (g : Digraph) (vs : List ℕ) (offset t : ℕ) → offset + span_of g vs < t → asked_by_rest g offset vs t ≡ work g vs
asks_all g [] offset t l = sym (work_none g)
asks_all g (u ∷ vs) offset t l =
    let s = span_more g u vs in
    let m : offset + gap_to g u vs + span_of g vs < t = omega (arith, l, s) in
    let a = asks_more g offset u vs t (omega (arith, l)) in
    let b = asks_all g vs (offset + gap_to g u vs) t m in
    let w = work_cons g u vs in
    omega (arith, a, b, w)

module _ (bound : ℕ) (g : Digraph) where
  pub short_work : (walk : List ℕ) → IsShortWalk bound g walk → (1 ≤ bound) × (asked_by_rest g 0 walk bound ≡ work g walk)
  short_work [] is = absurd is
  short_work (u ∷ vs) is = (omega (arith, is.2), asks_all g (u ∷ vs) 0 bound (omega (arith, is.2)))

  pub short_span : (walk : List ℕ) → IsShortWalk bound g walk → span_of g walk < bound
  short_span [] is = absurd is
  short_span (u ∷ vs) is = is.2

  pub over_of : (walk x : List ℕ) → IsShortWalk bound g walk → IsShortWalk bound g x → last_in x ≡ last_in walk → span_of g x ≤ span_of g walk → AsksNoLess bound g walk x
      → IsWalkOver bound g walk x
  over_of [] x is is_x e l asks = is
  over_of (u ∷ vs) [] is is_x e l asks = is_x
  over_of (u ∷ vs) (v ∷ ws) is is_x e l asks = (e, l, asks)

  pub over_parts : (walk x : List ℕ) → IsWalkOver bound g walk x → (last_in x ≡ last_in walk) × (span_of g x ≤ span_of g walk) × AsksNoLess bound g walk x
  over_parts [] x over = absurd over
  over_parts (u ∷ vs) [] over = absurd over
  over_parts (u ∷ vs) (v ∷ ws) over = (over.0, over.1, over.2)

  pub over_work : (walk x : List ℕ) → IsShortWalk bound g walk → IsShortWalk bound g x → IsWalkOver bound g walk x → work g walk ≤ work g x
  over_work walk x is is_x over =
      let a = short_work walk is in
      let b = short_work x is_x in
      let asks = (over_parts walk x over).2 bound a.0 (omega arith) in
      omega (arith, a.1, b.1, asks)

work_small : (g : Digraph) → IsSoundGraph g → (walk : List ℕ) → All (λ v. v < vertex_count g) walk → work g walk ≤ most_time * length walk
work_small g sound [] all = omega (arith, work_none g)
work_small g sound (u ∷ vs) all =
    let l = All-head (λ v. v < vertex_count g) u vs all in
    let a = (sound.wcet u l).1 in
    let b = work_small g sound vs (All-tail (λ v. v < vertex_count g) u vs all) in
    let c = work_cons g u vs in
    omega (arith, a, b, c)

-- A short walk has at most 10^12 ticks of work.
pub short_small : (g : Digraph) → IsSoundGraph g → (bound : ℕ) (walk : List ℕ) → bound ≤ most_time → IsShortWalk bound g walk → work g walk ≤ 1000000000000
short_small g sound bound walk b is =
    let w = short_within g sound bound walk b is in
    let a = work_small g sound walk w.each in
    let c = w.few in
    omega (arith, a, c)

-- A walk that dominates is that of an entry.
pub entry_any : (bound : ℕ) (g : Digraph) (walks : List (List ℕ)) (walk : List ℕ) (entries : List Entry) → AreWalkEntries bound g walks entries → (k : ℕ) (d : Entry) → k < length entries
    → IsWalkOver bound g walk (get_or walks (get_or entries k d).number []) → Any (IsWalkOver bound g walk) walks
entry_any bound g walks walk entries are k d l over =
    let n : ℕ = (get_or entries k d).number in
    let m = (are.each k d l).number in
    (n, get_or walks (get_or entries k d).number [], m, get_or_default walks n (get_or walks (get_or entries k d).number []) [] m, over)

-- The walk of an entry that spans no more and asks for no less dominates, where it has the same last vertex.
module _ (bound : ℕ) (g : Digraph) (walks : List (List ℕ)) (short : All (IsShortWalk bound g) walks) (walk : List ℕ) (is : IsShortWalk bound g walk) where
  pub entry_short : (e : Entry) → IsEntryOf g walks e → IsShortWalk bound g (get_or walks e.number [])
  entry_short e of = short e.number [] of.number

  pub entry_over : (e : Entry) → IsEntryOf g walks e → e.last ≡ last_in walk → e.span ≤ span_of g walk
      → AsksNoLess bound g walk (get_or walks e.number []) → Any (IsWalkOver bound g walk) walks
  entry_over e of last span asks = (
    e.number,
    get_or walks e.number [],
    of.number,
    get_or_default walks e.number (get_or walks e.number []) [] of.number,
    over_of bound g walk (get_or walks e.number []) is (entry_short e of) (omega (arith, last, of.last)) (omega (arith, span, of.span)) asks,
  )

  -- The entry of a walk that dominates.
  pub record HasOver (entries : List Entry) : Type 0 where
    pub place : ℕ
    pub within : place < length entries
    pub entry : Entry
    pub at : get_or entries place entry ≡ entry
    pub over : IsWalkOver bound g walk (get_or walks entry.number [])
    pub last : entry.last ≡ last_in walk
    pub more : work g walk ≤ entry.work.0

  pub over_entry : (entries : List Entry) → AreWalkEntries bound g walks entries → Any (IsWalkOver bound g walk) walks → HasOver entries
  over_entry entries are (n, x, l, at, over) =
      let found = are.every n x l in
      let e : Entry = found.1 in
      let of : IsEntryOf g walks e = subst (IsEntryOf g walks) found.3 (are.each found.0 e found.2) in
      let over' : IsWalkOver bound g walk (get_or walks e.number []) = over_trans g bound walk x (get_or walks e.number []) over
      (subst (λ w. IsWalkOver bound g w (get_or walks e.number [])) at found.4) in
      let more = over_work bound g walk (get_or walks e.number []) is (entry_short e of) over' in
      record {
        place = found.0;
        within = found.2;
        entry = e;
        at = found.3;
        over = over';
        last = omega (arith, (over_parts bound g walk (get_or walks e.number []) over').0, of.last);
        more = omega (arith, more, of.work);
      }

-- Entries that are neighbours in order are in order of last vertices and work.
pub after_next : (e f : Entry) → is_lt (compare f e) ≡ false → IsNoLater e f
after_next e f not_before = record { last = low (cases_lt f.last e.last); work = λ same. work same (cases_lt e.work.0 f.work.0) }
  where
    differ : true ≡ false → ⊥
    differ e = cc

    low : (f.last < e.last) ⊎ (e.last ≤ f.last) → e.last ≤ f.last
    low (inl q) = absurd (differ (rw (lt-ltb f.last e.last q) at not_before))
    low (inr q) = q

    work : e.last ≡ f.last → (e.work.0 < f.work.0) ⊎ (f.work.0 ≤ e.work.0) → f.work.0 ≤ e.work.0
    work same (inl q) = absurd (differ (rw (le-ltb f.last e.last (omega (arith, same)), eq-eqb f.last e.last (sym same), lt-ltb e.work.0 f.work.0 q) at not_before))
    work same (inr q) = q

pub no_later_self : (e : Entry) → IsNoLater e e
no_later_self e = record { last = omega arith; work = λ same. omega arith }

no_later_trans : (e f h : Entry) → IsNoLater e f → IsNoLater f h → IsNoLater e h
no_later_trans e f h a b = record {
  last = omega (arith, a.last, b.last);
  work = λ same. (let m : e.last ≡ f.last = omega (arith, same, a.last, b.last) in omega (arith, a.work m, b.work (omega (arith, same, m))));
}

-- So all are.
pub in_order : (entries : List Entry) → IsSorted compare entries → AreInOrder entries
in_order entries sorted j k d l m =
    let e : j + (k - j) ≡ k = omega (arith, l) in
    subst (λ n. IsNoLater (get_or entries j d) (get_or entries n d)) e (far (k - j) (omega (arith, l, m)))
  where
    far : (n : ℕ) → j + n < length entries → IsNoLater (get_or entries j d) (get_or entries (j + n) d)
    far zero o = (let e : j ≡ j + 0 = omega arith in subst (λ n. IsNoLater (get_or entries j d) (get_or entries n d)) e (no_later_self (get_or entries j d)))
    far (suc n) o =
        let e : j + n + 1 ≡ j + suc n = omega arith in
        let here = after_next (get_or entries (j + n) d) (get_or entries (j + n + 1) d) (sorted (j + n) d (omega arith) (omega (arith, o))) in
        subst (λ i. IsNoLater (get_or entries j d) (get_or entries i d)) e
        (no_later_trans (get_or entries j d) (get_or entries (j + n) d) (get_or entries (j + n + 1) d) (far n (omega (arith, o))) here)

-- Entries at their numbers, put in order.
pub entries_sorted : (bound : ℕ) (g : Digraph) (walks : List (List ℕ)) (listed entries : List Entry) → All (IsShortWalk bound g) walks
    → IsListed g walks listed (length walks) → IsPermutation listed entries → IsSorted compare entries → AreWalkEntries bound g walks entries
entries_sorted bound g walks listed entries short is permutation sorted = record {
  each = All-permutation (IsEntryOf g walks) listed entries permutation (λ k d l. (is.each k d (omega (arith, l, is.long))).0);
  every = λ n x l.
      let d : Entry = record { last = 0; work = record { 0 = 0 }; span = 0; digest = 0; number = 0 } in
      let e : Entry = get_or listed n d in
      let m : n < length listed = omega (arith, l, is.long) in
      let at = Contains-permutation listed entries e permutation (n, m, get_or_default listed n e d m) in
      let number : e.number ≡ n = (is.each n d l).1 in
      let same : get_or walks n x ≡ get_or walks e.number [] = get_or_default walks n x [] l ∙ ap (λ k. get_or walks k []) (sym number) in
      (at.0, e, at.1, at.2, subst (λ w. IsWalkOver bound g (get_or walks n x) w) same (over_self g bound (get_or walks n x) (short n x l)));
  sorted = in_order entries sorted;
}
