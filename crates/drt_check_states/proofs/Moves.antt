-- Numbers of states for the children by the edges out of a vertex, edge by edge.
use Rattle.std.proofs.Common.{◌≡◌, ℕ, ◌+◌, ◌<◌, ◌≤◌, ◌⊎◌, inl, inr, Bool, true, false, List, [], ◌∷◌, length, get_or, drop, map, filter, sym, ap, subst, arith, ◌∙◌}
use Rattle.std.specs.List.{AllZip}
use Rattle.std.specs.Prelude.{nat_lt}
use Rattle.std.proofs.lemmas.Bool.{cases_lt}
use Rattle.std.proofs.lemmas.List.{drop_more, drop_all, length-drop}
use Rattle.drt_model.proofs.Neighbours.{filter-no, filter-yes}
use Rattle.drt_model.specs.Digraph.{Digraph}
use Rattle.drt_model.specs.Walk.{wcet}
use Rattle.drt_model.specs.declared.tasks.Edge.{Edge}
use Rattle.drt_states.specs.States.{Child, child_at}
use Rattle.drt_states.specs.declared.claims.StateClaim.{StateClaim}
use Rattle.drt_states.specs.declared.claims.StateEntry.{StateEntry}
use Rattle.drt_check_states.proofs.Zips.{zip_long}

module _ {E A : Type 0} (R : A → ℕ → Type 0) (f : E → A) (p : E → Bool) where
  -- The numbers fit the images of the items that pass.
  abbrev pub Fit : List E → List ℕ → Type 0
  Fit es ns = AllZip R (map f (filter p es)) ns

  -- So many items stand against so many numbers, which fit exactly where the rest does.
  pub record IsAlong (es : List E) (ns : List ℕ) (k next : ℕ) : Type 0 where
    pub within : next ≤ length ns
    pub on : Fit es ns → Fit (drop k es) (drop next ns)
    pub back : Fit (drop k es) (drop next ns) → Fit es ns

  left_no : (es : List E) (k : ℕ) (d x : E) → k < length es → x ≡ get_or es k d → p x ≡ false → filter p (drop k es) ≡ filter p (drop (k + 1) es)
  left_no es k d x l at t = ap (filter p) (drop_more es k d l) ∙ filter-no p (get_or es k d) (drop (k + 1) es) (ap p (sym at) ∙ t)

  left_yes : (es : List E) (k : ℕ) (d x : E) → k < length es → x ≡ get_or es k d → p x ≡ true → filter p (drop k es) ≡ x ∷ filter p (drop (k + 1) es)
  left_yes es k d x l at t =
      ap (filter p) (drop_more es k d l) ∙ (filter-yes p (get_or es k d) (drop (k + 1) es) (ap p (sym at) ∙ t) ∙ ap (λ (y : E). y ∷ filter p (drop (k + 1) es)) (sym at))

  pub along_skip : (es : List E) (ns : List ℕ) (k next : ℕ) (d x : E) → k < length es → x ≡ get_or es k d → p x ≡ false → IsAlong es ns k next → IsAlong es ns (k + 1) next
  along_skip es ns k next d x l at t is =
      let e = left_no es k d x l at t in
      record {
        within = is.within;
        on = λ fit. subst (λ (ks : List E). AllZip R (map f ks) (drop next ns)) e (is.on fit);
        back = λ fit. is.back (subst (λ (ks : List E). AllZip R (map f ks) (drop next ns)) (sym e) fit);
      }

  -- The rest, where the next item passes and a number is left.
  module _ (es : List E) (ns : List ℕ) (k next : ℕ) (d x : E) (l : k < length es) (at : x ≡ get_or es k d) (t : p x ≡ true) where
    first_fits : next < length ns → Fit (drop k es) (drop next ns) → R (f x) (get_or ns next 0) × Fit (drop (k + 1) es) (drop (next + 1) ns)
    first_fits m fit =
        subst (λ (ms : List ℕ). AllZip R (f x ∷ map f (filter p (drop (k + 1) es))) ms) (drop_more ns next 0 m)
        (subst (λ (ks : List E). AllZip R (map f ks) (drop next ns)) (left_yes es k d x l at t) fit)

    fits_first : next < length ns → R (f x) (get_or ns next 0) × Fit (drop (k + 1) es) (drop (next + 1) ns) → Fit (drop k es) (drop next ns)
    fits_first m both =
        subst (λ (ks : List E). AllZip R (map f ks) (drop next ns)) (sym (left_yes es k d x l at t))
        (subst (λ (ms : List ℕ). AllZip R (f x ∷ map f (filter p (drop (k + 1) es))) ms) (sym (drop_more ns next 0 m)) both)

    pub along_take : next < length ns → R (f x) (get_or ns next 0) → IsAlong es ns k next → IsAlong es ns (k + 1) (next + 1)
    along_take m here is = record { within = omega arith; on = λ fit. (first_fits m (is.on fit)).1; back = λ fit. is.back (fits_first m (here, fit)) }

    pub along_not : next < length ns → (R (f x) (get_or ns next 0) → ⊥) → IsAlong es ns k next → Fit es ns → ⊥
    along_not m fails is fit = fails (first_fits m (is.on fit)).0

    pub along_short : length ns ≤ next → IsAlong es ns k next → Fit es ns → ⊥
    along_short m is fit =
        let a = subst (λ (ks : List E). AllZip R (map f ks) (drop next ns)) (left_yes es k d x l at t) (is.on fit) in
        subst (λ (ms : List ℕ). AllZip R (f x ∷ map f (filter p (drop (k + 1) es))) ms) (drop_all next ns m) a

  -- At the end no number is left over.
  pub along_end : (es : List E) (ns : List ℕ) (k next : ℕ) → length es ≤ k → IsAlong es ns k next → next ≡ length ns → Fit es ns
  along_end es ns k next l is e =
      is.back (subst (λ (ks : List E). AllZip R (map f (filter p ks)) (drop next ns)) (sym (drop_all k es l)) (subst (λ (ms : List ℕ). AllZip R [] ms) (sym (drop_all next ns (omega arith))) tt))

  pub along_over : (es : List E) (ns : List ℕ) (k next : ℕ) → length es ≤ k → IsAlong es ns k next → Fit es ns → next ≡ length ns
  along_over es ns k next l is fit =
      let a : AllZip R [] (drop next ns) = subst (λ (ks : List E). AllZip R (map f (filter p ks)) (drop next ns)) (drop_all k es l) (is.on fit) in
      let left = zip_long R [] (drop next ns) a in
      let rest = length-drop next ns in
      omega (arith, left, rest, is.within)

-- The child by an edge, and whether it counts.
abbrev pub child_by : Digraph → StateClaim → StateEntry → Edge → Child
child_by g s from edge = child_at s from.place edge.to (from.offset + edge.sep) (s.work + wcet g from.vertex)

abbrev pub near_by : ℕ → StateEntry → Edge → Bool
near_by deadline from edge = nat_lt (from.offset + edge.sep) deadline

pub far : (a b : ℕ) (r : Bool) → (a < b → r ≡ true) → r ≡ false → b ≤ a
far a b r on off = go (cases_lt a b)
  where
    go : (a < b) ⊎ (b ≤ a) → b ≤ a
    go (inl q) = let t : r ≡ true = on q in absurd (cc)
    go (inr q) = q
