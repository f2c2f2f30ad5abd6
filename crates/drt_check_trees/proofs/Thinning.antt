-- Entries, from which those are left out whose walk the one kept before them dominates: the kept ones stand first, and those that are
-- still to be looked at stand where they stood.
use Rattle.std.proofs.Common.{◌≡◌, ◌≢◌, ℕ, ◌+◌, ◌-◌, ◌<◌, ◌≤◌, ◌⊎◌, inl, inr, List, [], All, length, get_or, set, take, refl, ap, sym, subst, arith, ◌∙◌}
use Rattle.std.proofs.lemmas.Bool.{cases_lt}
use Rattle.std.proofs.lemmas.List.{get_or-set_other, get_or-set_same, get_or-take, get_or_default, length-set, length-take}
use Rattle.drt_model.specs.Digraph.{Digraph}
use Rattle.drt_claims.specs.Trees.{IsShortWalk}
use Rattle.drt_check_trees.specs.Entries.{AreWalkEntries, IsEntryOf, IsNoLater, IsWalkOver}
use Rattle.drt_check_trees.specs.declared.entries.Entry.{Entry}
use Rattle.drt_check_trees.proofs.Domination.{over_self, over_trans}
use Rattle.drt_check_trees.proofs.Dominators.{no_later_self}

-- What stands for an entry past the last one.
abbrev none : Entry
none = record { last = 0; work = record { 0 = 0 }; span = 0; digest = 0; number = 0 }

-- The order is that of equal entries.
no_later_at : (e f e' f' : Entry) → e' ≡ e → f' ≡ f → IsNoLater e f → IsNoLater e' f'
no_later_at e f e' f' at_e at_f is = subst (λ (x : Entry). IsNoLater x f') (sym at_e) (subst (λ (y : Entry). IsNoLater e y) (sym at_f) is)

module _ (bound : ℕ) (g : Digraph) (walks : List (List ℕ)) where
  abbrev walk_of : Entry → List ℕ
  walk_of e = get_or walks e.number []

  -- An entry whose walk dominates the walk of e is among the kept ones.
  pub record IsKept (now : List Entry) (kept : ℕ) (e : Entry) : Type 0 where
    pub place : ℕ
    pub low : place < kept
    pub within : place < length now
    pub over : IsWalkOver bound g (walk_of e) (walk_of (get_or now place none))

  -- Of the entries there were first, those before i have been looked at, and as many as kept are kept.
  pub record IsThinned (first now : List Entry) (kept i : ℕ) : Type 0 where
    pub long : length now ≡ length first
    pub some : 1 ≤ kept
    pub few : kept ≤ i
    pub rest : (k : ℕ) → i ≤ k → k < length first → get_or now k none ≡ get_or first k none
    pub each : (k : ℕ) → k < kept → k < length first → IsEntryOf g walks (get_or now k none)
    pub sorted : (j k : ℕ) → j ≤ k → k < kept → k < length first → IsNoLater (get_or now j none) (get_or now k none)
    pub below : (j k : ℕ) → j < kept → i ≤ k → k < length first → IsNoLater (get_or now j none) (get_or first k none)
    pub every : (j : ℕ) → j < i → j < length first → IsKept now kept (get_or first j none)

  module _ (short : All (IsShortWalk bound g) walks) (first : List Entry) (are : AreWalkEntries bound g walks first) where
    own : (j : ℕ) → j < length first → IsWalkOver bound g (walk_of (get_or first j none)) (walk_of (get_or first j none))
    own j l = over_self g bound (walk_of (get_or first j none)) (short (get_or first j none).number [] (are.each j none l).number)

    -- The first entry is kept.
    pub thinned_start : IsThinned first first 1 1
    thinned_start = record {
      long = refl;
      some = omega arith;
      few = omega arith;
      rest = λ k l m. refl;
      each = λ k l m. are.each k none m;
      sorted = λ j k l m n. are.sorted j k none l n;
      below = λ j k l m n. are.sorted j k none (omega arith) n;
      every = λ j l m. let z : j ≡ 0 = omega arith in rw z (record { place = 0; low = omega arith; within = omega (arith, m); over = own 0 (omega (arith, m)) });
    }

    module _ (now : List Entry) (kept i : ℕ) (is : IsThinned first now kept i) (l : i < length first) where
      pub thinned_here : (d : Entry) → IsEntryOf g walks (get_or now i d)
      thinned_here d = subst (IsEntryOf g walks) (sym (get_or_default now i d none (omega (arith, l, is.long)) ∙ is.rest i (omega arith) l)) (are.each i none l)

      pub thinned_last : (d : Entry) → IsEntryOf g walks (get_or now (kept - 1) d)
      thinned_last d = subst (IsEntryOf g walks) (sym (get_or_default now (kept - 1) d none (omega (arith, l, is.few, is.some, is.long))))
          (is.each (kept - 1) (omega (arith, is.some)) (omega (arith, is.few, is.some, l)))

      -- The entry is left out,
      pub thinned_out : IsWalkOver bound g (walk_of (get_or now i none)) (walk_of (get_or now (kept - 1) none)) → IsThinned first now kept (i + 1)
      thinned_out over = record {
        long = is.long;
        some = is.some;
        few = omega (arith, is.few);
        rest = λ k m n. is.rest k (omega arith) n;
        each = is.each;
        sorted = is.sorted;
        below = λ j k m n o. is.below j k m (omega arith) o;
        every = λ j m n. go j n m (cases_lt j i);
      }
        where
          go : (j : ℕ) → j < length first → j < i + 1 → (j < i) ⊎ (i ≤ j) → IsKept now kept (get_or first j none)
          go j n m (inl q) = is.every j q n
          go j n m (inr q) =
              let e : i ≡ j = omega arith in
              let same : get_or now i none ≡ get_or first j none = is.rest i (omega arith) l ∙ ap (λ x. get_or first x none) e in
              record {
                place = kept - 1;
                low = omega (arith, is.some);
                within = omega (arith, is.some, is.few, is.long, l);
                over = subst (λ (x : Entry). IsWalkOver bound g (walk_of x) (walk_of (get_or now (kept - 1) none))) same over;
              }

      -- or it is kept after those that are.
      pub thinned_in : IsThinned first (set now kept (get_or now i none)) (kept + 1) (i + 1)
      thinned_in = record {
        long = length-set now kept (get_or now i none) ∙ is.long;
        some = omega arith;
        few = omega (arith, is.few);
        rest = λ k m n. other k (omega (arith, is.few)) ∙ is.rest k (omega arith) n;
        each = λ k m n. each k n m (cases_lt k kept);
        sorted = λ j k m n o. sorted j k m n o (cases_lt j kept) (cases_lt k kept);
        below = λ j k m n o. below j k m n o (cases_lt j kept);
        every = λ j m n. every j m n (cases_lt j i);
      }
        where
          more : List Entry
          more = set now kept (get_or now i none)

          other : (k : ℕ) → k ≢ kept → get_or (set now kept (get_or now i none)) k none ≡ get_or now k none
          other k n = get_or-set_other now kept k (get_or now i none) none n

          here : (k : ℕ) → kept ≡ k → get_or (set now kept (get_or now i none)) k none ≡ get_or first i none
          here k e = ap (λ x. get_or (set now kept (get_or now i none)) x none) (sym e)
              ∙ (get_or-set_same now kept (get_or now i none) none (omega (arith, is.long, is.few, l)) ∙ is.rest i (omega arith) l)

          each : (k : ℕ) → k < length first → k < kept + 1 → (k < kept) ⊎ (kept ≤ k) → IsEntryOf g walks (get_or (set now kept (get_or now i none)) k none)
          each k n m (inl q) = subst (IsEntryOf g walks) (sym (other k (omega arith))) (is.each k q n)
          each k n m (inr q) = subst (IsEntryOf g walks) (sym (here k (omega arith))) (are.each i none l)

          sorted : (j k : ℕ) → j ≤ k → k < kept + 1 → k < length first → (j < kept) ⊎ (kept ≤ j) → (k < kept) ⊎ (kept ≤ k)
              → IsNoLater (get_or (set now kept (get_or now i none)) j none) (get_or (set now kept (get_or now i none)) k none)
          sorted j k m n o (inl p) (inl q) =
              no_later_at (get_or now j none) (get_or now k none) (get_or (set now kept (get_or now i none)) j none) (get_or (set now kept (get_or now i none)) k none)
              (other j (omega arith)) (other k (omega arith)) (is.sorted j k m q o)
          sorted j k m n o (inl p) (inr q) =
              no_later_at (get_or now j none) (get_or first i none) (get_or (set now kept (get_or now i none)) j none) (get_or (set now kept (get_or now i none)) k none)
              (other j (omega arith)) (here k (omega arith)) (is.below j i p (omega arith) l)
          sorted j k m n o (inr p) q =
              let e : j ≡ k = omega arith in
              subst (λ x. IsNoLater (get_or (set now kept (get_or now i none)) j none) (get_or (set now kept (get_or now i none)) x none)) e
              (no_later_self (get_or (set now kept (get_or now i none)) j none))

          below : (j k : ℕ) → j < kept + 1 → i + 1 ≤ k → k < length first → (j < kept) ⊎ (kept ≤ j)
              → IsNoLater (get_or (set now kept (get_or now i none)) j none) (get_or first k none)
          below j k m n o (inl p) =
              no_later_at (get_or now j none) (get_or first k none) (get_or (set now kept (get_or now i none)) j none) (get_or first k none)
              (other j (omega arith)) refl (is.below j k p (omega arith) o)
          below j k m n o (inr p) =
              no_later_at (get_or first i none) (get_or first k none) (get_or (set now kept (get_or now i none)) j none) (get_or first k none)
              (here j (omega arith)) refl (are.sorted i k none (omega arith) o)

          every : (j : ℕ) → j < i + 1 → j < length first → (j < i) ⊎ (i ≤ j) → IsKept (set now kept (get_or now i none)) (kept + 1) (get_or first j none)
          every j m n (inl q) =
              let was = is.every j q n in
              record {
                place = was.place;
                low = omega (arith, was.low);
                within = omega (arith, was.within, length-set now kept (get_or now i none));
                over = subst (λ (x : Entry). IsWalkOver bound g (walk_of (get_or first j none)) (walk_of x)) (sym (other was.place (omega (arith, was.low)))) was.over;
              }
          every j m n (inr q) =
              let e : i ≡ j = omega arith in
              record {
                place = kept;
                low = omega arith;
                within = omega (arith, is.few, is.long, l, length-set now kept (get_or now i none));
                over = subst (λ (x : Entry). IsWalkOver bound g (walk_of (get_or first j none)) (walk_of x)) (sym (here kept refl ∙ ap (λ x. get_or first x none) e)) (own j n);
              }

    -- At the end those that are kept are enough.
    pub thinned_end : (now : List Entry) (kept i : ℕ) → IsThinned first now kept i → length first ≤ i → AreWalkEntries bound g walks (take kept now)
    thinned_end now kept i is end = record {
      each = λ k d l.
          let at = get_or_default (take kept now) k d none l ∙ get_or-take kept now k none (low k l) in
          subst (IsEntryOf g walks) (sym at) (is.each k (low k l) (short_of k l));
      every = λ n d l.
          let found = are.every n d l in
          let e : Entry = found.1 in
          let same : get_or first found.0 none ≡ e = get_or_default first found.0 none e found.2 ∙ found.3 in
          let was = is.every found.0 (omega (arith, found.2, end)) found.2 in
          let over = subst (λ (x : Entry). IsWalkOver bound g (walk_of x) (walk_of (get_or now was.place none))) same was.over in
          let within : was.place < length (take kept now) = omega (arith, was.low, was.within, length-take kept now) in
          let at : get_or (take kept now) was.place none ≡ get_or now was.place none = get_or-take kept now was.place none was.low in (
            was.place,
            get_or now was.place none,
            within,
            get_or_default (take kept now) was.place (get_or now was.place none) none within ∙ at,
            over_trans g bound (get_or walks n d) (walk_of e) (walk_of (get_or now was.place none)) found.4 over,
          );
      sorted = λ j k d l m.
          let o : j < length (take kept now) = omega arith in
          no_later_at (get_or now j none) (get_or now k none) (get_or (take kept now) j d) (get_or (take kept now) k d)
          (get_or_default (take kept now) j d none o ∙ get_or-take kept now j none (low j o)) (get_or_default (take kept now) k d none m ∙ get_or-take kept now k none (low k m))
          (is.sorted j k l (low k m) (short_of k m));
    }
      where
        low : (k : ℕ) → k < length (take kept now) → k < kept
        low k l = omega (arith, l, length-take kept now)

        short_of : (k : ℕ) → k < length (take kept now) → k < length first
        short_of k l = omega (arith, l, length-take kept now, is.long)
