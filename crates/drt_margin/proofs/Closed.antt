-- What holds of short closed paths, and of two together where it holds of both, holds of all closed paths.
use Rattle.std.proofs.Common.{◌≡◌, ℕ, zero, suc, ◌+◌, ◌-◌, ◌<◌, ◌≤◌, List, [], ◌∷◌, ◌++◌, length, get_or, take, drop, ◌⊎◌, inl, inr, refl, sym, ap, ◌∙◌, arith, length-append, length-drop}
use Rattle.std.specs.Prelude.{◌≢◌}
use Rattle.std.proofs.lemmas.Bool.{cases_eq, cases_lt}
use Rattle.std.proofs.lemmas.List.{length-take}
use Rattle.drt_model.specs.Digraph.{Digraph, IsSoundGraph, vertex_count}
use Rattle.drt_model.specs.Utilisation.{AreDistinct}
use Rattle.drt_model.specs.Walk.{IsPath, last_of, span, work}
use Rattle.drt_graph.proofs.Paths.{last_both, path_both, path_first, path_rest, span_both, work_both}
use Rattle.drt_ratio.proofs.Loops.{few_distinct, in_parts, last_take, path_below}

take_none : (k : ℕ) → take {A = ℕ} k [] ≡ []
take_none zero = refl
take_none (suc k) = refl

-- A first part, and the first part of what is left.
two_takes : (i m : ℕ) (vs : List ℕ) → take i vs ++ take m (drop i vs) ≡ take (i + m) vs
two_takes zero m vs = let e : 0 + m ≡ m = omega arith in rw e refl
two_takes (suc i) m [] = take_none m ∙ sym (take_none (suc i + m))
two_takes (suc i) m (v ∷ vs) = let e : suc i + m ≡ suc (i + m) = omega arith in rw e (ap (λ ys. v ∷ ys) (two_takes i m vs))

-- Two places of a list with the same number.
pub record IsTwice (xs : List ℕ) : Type 0 where
  pub i : ℕ
  pub j : ℕ
  pub before : i < j
  pub within : j < length xs
  pub same : get_or xs i 0 ≡ get_or xs j 0

find : (x : ℕ) (xs : List ℕ) → ((k : ℕ) × (k < length xs) × (get_or xs k 0 ≡ x)) ⊎ ((k : ℕ) → k < length xs → get_or xs k 0 ≢ x)
find x [] = inr (λ k l. absurd (omega arith))
find x (y ∷ ys) = go (cases_eq y x) (find x ys)
  where
    go : (y ≡ x) ⊎ (y ≡ x → ⊥) → ((k : ℕ) × (k < length ys) × (get_or ys k 0 ≡ x)) ⊎ ((k : ℕ) → k < length ys → get_or ys k 0 ≢ x)
        → ((k : ℕ) × (k < suc (length ys)) × (get_or (y ∷ ys) k 0 ≡ x)) ⊎ ((k : ℕ) → k < suc (length ys) → get_or (y ∷ ys) k 0 ≢ x)
    go (inl e) rest = inl (0, omega arith, e)
    go (inr other) (inl (k, l, e)) = inl (suc k, omega arith, e)
    go (inr other) (inr none) = inr all
      where
        all : (k : ℕ) → k < suc (length ys) → get_or (y ∷ ys) k 0 ≢ x
        all zero l = other
        all (suc k) l = none k (omega arith)

-- The numbers of a list are distinct, or one stands at two places.
twice : (xs : List ℕ) → AreDistinct xs ⊎ IsTwice xs
twice [] = inl (λ i j l m. absurd (omega arith))
twice (x ∷ xs) = go (find x xs) (twice xs)
  where
    go : ((k : ℕ) × (k < length xs) × (get_or xs k 0 ≡ x)) ⊎ ((k : ℕ) → k < length xs → get_or xs k 0 ≢ x) → AreDistinct xs ⊎ IsTwice xs → AreDistinct (x ∷ xs) ⊎ IsTwice (x ∷ xs)
    go (inl (k, l, e)) rest = inr (record { i = 0; j = suc k; before = omega arith; within = omega arith; same = sym e })
    go (inr none) (inr t) = inr (record { i = suc t.i; j = suc t.j; before = omega (arith, t.before); within = omega (arith, t.within); same = t.same })
    go (inr none) (inl distinct) = inl all
      where
        all : AreDistinct (x ∷ xs)
        all i zero l m e = absurd (omega arith)
        all zero (suc j) l m e = none j (omega arith) (sym e)
        all (suc i) (suc j) l m e = distinct i j (omega arith) (omega arith) e

-- A path that comes back to where it starts.
pub record IsClosedPath (g : Digraph) (u : ℕ) (cs : List ℕ) : Type 0 where
  pub some : 1 ≤ length cs
  pub path : IsPath g u cs
  pub back : last_of u cs ≡ u

-- A closed path in two, each shorter.
record AreParts (g : Digraph) (u : ℕ) (cs : List ℕ) : Type 0 where
  x : ℕ
  ls : List ℕ
  rest : List ℕ
  loop : IsClosedPath g x ls
  whole : IsClosedPath g u rest
  shorter_loop : length ls < length cs
  shorter : length rest < length cs
  works : work g cs ≡ work g rest + work g ls
  spans : span g u cs ≡ span g u rest + span g x ls

cut : (g : Digraph) (u : ℕ) (cs : List ℕ) → IsClosedPath g u cs → IsTwice cs → AreParts g u cs
cut g u cs is t = parts (take p cs) (take m (drop p cs)) (drop m (drop p cs)) (in_parts cs p m) before after sizes
  where
    p : ℕ
    p = suc t.i

    m : ℕ
    m = t.j - t.i

    before : last_of u (take (suc t.i) cs) ≡ get_or cs t.i 0
    before = last_take u cs (suc t.i) (omega (arith, t.before, t.within))

    after : last_of u (take (suc t.i) cs ++ take (t.j - t.i) (drop (suc t.i) cs)) ≡ get_or cs t.i 0
    after =
        let e : suc t.i + (t.j - t.i) ≡ suc t.j = omega (arith, t.before) in
        ap (last_of u) (two_takes (suc t.i) (t.j - t.i) cs ∙ ap (λ n. take n cs) e) ∙ last_take u cs (suc t.j) (omega (arith, t.within)) ∙ sym t.same

    sizes : (length (take (suc t.i) cs) ≡ suc t.i) × (length (take (t.j - t.i) (drop (suc t.i) cs)) ≡ t.j - t.i)
    sizes = (simp (length-take) (omega (arith, t.before, t.within)), simp (length-take, length-drop) (omega (arith, t.before, t.within)))

    parts : (xs ls ys : List ℕ) → xs ++ (ls ++ ys) ≡ cs → last_of u xs ≡ get_or cs t.i 0 → last_of u (xs ++ ls) ≡ get_or cs t.i 0 → (length xs ≡ suc t.i) × (length ls ≡ t.j - t.i) → AreParts g u cs
    parts xs ls ys e first second sizes =
        let path : IsPath g u (xs ++ (ls ++ ys)) = rw e is.path in
        let end : last_of u (xs ++ (ls ++ ys)) ≡ u = rw e is.back in
        let rest = path_rest g u xs (ls ++ ys) path in
        let back : last_of (last_of u xs) ls ≡ last_of u xs = sym (last_both u xs ls) ∙ second ∙ sym first in
        let after : IsPath g (last_of u xs) ys = rw back at (path_rest g (last_of u xs) ls ys rest) in
        let size : length cs ≡ length xs + (length ls + length ys) = ap length (sym e) ∙ (length-append xs (ls ++ ys) ∙ ap (λ n. length xs + n) (length-append ls ys)) in
        record {
          x = last_of u xs;
          ls = ls;
          rest = xs ++ ys;
          loop = record { some = omega (arith, sizes.1, t.before); path = path_first g (last_of u xs) ls ys rest; back = back };
          whole = record {
            some = omega (arith, sizes.0, length-append xs ys);
            path = path_both g u xs ys (path_first g u xs (ls ++ ys) path) after;
            back = last_both u xs ys ∙ ap (λ w. last_of w ys) (sym back) ∙ sym (last_both (last_of u xs) ls ys) ∙ sym (last_both u xs (ls ++ ys)) ∙ end;
          };
          shorter_loop = omega (arith, size, sizes.0);
          shorter = omega (arith, size, sizes.1, t.before, length-append xs ys);
          works = ap (work g) (sym e) ∙ work_both g xs (ls ++ ys) ∙ omega (arith, work_both g ls ys, work_both g xs ys);
          spans = ap (span g u) (sym e) ∙ span_both g u xs (ls ++ ys) ∙ omega (arith, span_both g (last_of u xs) ls ys, span_both g u xs ys, ap (λ w. span g w ys) back);
        }

module _ (g : Digraph) (sound : IsSoundGraph g) (Q : ℕ → ℕ → Type 0) (add : (a b c d : ℕ) → Q a b → Q c d → Q (a + c) (b + d))
    (short : (u : ℕ) (cs : List ℕ) → IsClosedPath g u cs → length cs ≤ vertex_count g → Q (work g cs) (span g u cs)) where
  all_up_to : (n u : ℕ) (cs : List ℕ) → length cs ≤ n → IsClosedPath g u cs → Q (work g cs) (span g u cs)
  all_up_to zero u cs l is = absurd (omega (arith, is.some))
  all_up_to (suc n) u cs l is = go (cases_lt (vertex_count g) (length cs)) (λ v ds m d. all_up_to n v ds m d)
    where
      together : AreParts g u cs → ((v : ℕ) (ds : List ℕ) → length ds ≤ n → IsClosedPath g v ds → Q (work g ds) (span g v ds)) → Q (work g cs) (span g u cs)
      together a ih =
          rw (a.works, a.spans)
          (add (work g a.rest) (span g u a.rest) (work g a.ls) (span g a.x a.ls) (ih u a.rest (omega (arith, a.shorter)) a.whole) (ih a.x a.ls (omega (arith, a.shorter_loop)) a.loop))

      long : vertex_count g < length cs → AreDistinct cs ⊎ IsTwice cs → ((v : ℕ) (ds : List ℕ) → length ds ≤ n → IsClosedPath g v ds → Q (work g ds) (span g v ds)) → Q (work g cs) (span g u cs)
      long m (inl distinct) ih = absurd (omega (arith, few_distinct cs (vertex_count g) distinct (path_below g sound u cs is.path)))
      long m (inr t) ih = together (cut g u cs is t) ih

      go : (vertex_count g < length cs) ⊎ (length cs ≤ vertex_count g) → ((v : ℕ) (ds : List ℕ) → length ds ≤ n → IsClosedPath g v ds → Q (work g ds) (span g v ds)) → Q (work g cs) (span g u cs)
      go (inl m) ih = long m (twice cs) ih
      go (inr m) ih = short u cs is m

  -- What holds of the short ones holds of all.
  pub all_closed : (u : ℕ) (cs : List ℕ) → IsClosedPath g u cs → Q (work g cs) (span g u cs)
  all_closed u cs is = all_up_to (length cs) u cs (omega arith) is
