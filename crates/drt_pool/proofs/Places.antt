-- A list that is one longer, place by place.
use Rattle.std.proofs.Common.{◌≡◌, List, [], ◌∷◌, ◌++◌, length, sym, subst, arith, length-append}
use Rattle.std.specs.Prelude.{slice_index_or}
use Rattle.std.proofs.lemmas.List.{get_or_append_left}
use Rattle.std.proofs.Math.Seq.{get_or-append_seam}
use mathlib.Core.Logic.{dite}
use native.Mathlib.Decide.{dec_lt}
use Rattle.drt_pool.specs.Turns.{EachPlace}

module _ {X : Type 0} (P : X → Type 0) where
  pub places_last : (xs ys : List X) (x : X) → ys ≡ xs ++ x ∷ [] → EachPlace (λ i y. P y) ys → EachPlace (λ i y. P y) xs × P x
  places_last xs ys x e all =
      let both : EachPlace (λ i y. P y) (xs ++ x ∷ []) = subst (EachPlace (λ i y. P y)) e all in (
        (λ k d h. subst P (get_or_append_left xs (x ∷ []) d k h) (both k d (omega (arith, length-append xs (x ∷ []))))),
        subst P (get_or-append_seam xs x [] x) (both (length xs) x (omega (arith, length-append xs (x ∷ [])))),
      )

  pub places_push : (xs ys : List X) (x : X) → ys ≡ xs ++ x ∷ [] → EachPlace (λ i y. P y) xs → P x → EachPlace (λ i y. P y) ys
  places_push xs ys x e all one = subst (EachPlace (λ i y. P y)) (sym e)
      (λ k d h. dite (dec_lt k (length xs))
      (λ l. subst P (sym (get_or_append_left xs (x ∷ []) d k l)) (all k d l))
      (λ nl.
      let more = length-append xs (x ∷ []) in
      let same : k ≡ length xs = omega arith in
      subst (λ z. P (slice_index_or (xs ++ x ∷ []) z d)) (sym same) (subst P (sym (get_or-append_seam xs x [] d)) one)))
