-- Where the items that pass stand: at all places at once against each place.
use Rattle.std.proofs.Common.{◌≡◌, ℕ, List, [], ◌∷◌, length, map, refl, sym, ap, subst, ◌∙◌}
use Rattle.std.specs.Prelude.{Option, Some, None, slice_get}
use Rattle.std.specs.List.{AllByRecursion}
use Rattle.drt_claims.specs.Proofs.{after, after_all, passes}
use Rattle.drt_claims.specs.declared.evidence.Item.{Item}
use Rattle.drt_claims.specs.declared.evidence.Item.TheVariants.{Pass, Split}
use Rattle.drt_claims.specs.declared.evidence.TreeClaim.{TreeClaim}
use Rattle.drt_check_values.specs.declared.query.Query.{Query}
use Rattle.drt_check_proofs.specs.Passing.{asks, passes_at, passing_times}
use Rattle.drt_check_proofs.specs.Places.{at_place, node_at}
use Rattle.drt_check_proofs.proofs.Steps.{AreWide, Stepped, stepped}

-- What a combination that is to pass asks for at a place.
abbrev pub asks_of : ℕ → List ℕ × ℕ → Query
asks_of i at = asks (node_at i at.0) at.1

-- Combinations that are to pass, with their times, as wide as all, and their questions at each place.
pub record Passed (trees : List TreeClaim) (width : ℕ) (ts : List ℕ) (ps : List (List ℕ × ℕ)) (qs : ℕ → TreeClaim → List Query) : Type 0 where
  pub times_are : map (λ at. at.1) ps ≡ ts
  pub wide : AllByRecursion (λ at. length at.0 ≡ width) ps
  pub places : (i : ℕ) (tree : TreeClaim) → slice_get trees i ≡ Some tree → qs i tree ≡ map (asks_of i) ps

pub passed : (trees : List TreeClaim) (width : ℕ) (items : List Item) (stack last : List (List ℕ)) → AreWide width stack → after_all trees items (Some stack) ≡ Some last
    → Passed trees width (passing_times items) (passes trees items (Some stack)) (λ i tree. passes_at tree i items (Some (at_place i stack)))
unfolding after_all passes passes_at passing_times
passed trees width [] stack last wide e = record { times_are = refl; wide = tt; places = λ i tree at. refl }
passed trees width (item ∷ items) [] last wide e = absurd (cc)
passed trees width (Pass t ∷ items) (nodes ∷ stack) last wide e =
    let rest = passed trees width items stack last wide.1 e in
    record {
      times_are = ap (λ ts. t ∷ ts) rest.times_are;
      wide = (wide.0, rest.wide);
      places = λ i tree at. ap (λ qs. asks (node_at i nodes) t ∷ qs) (rest.places i tree at);
    }
passed trees width (Split place ∷ items) (nodes ∷ stack) last wide e = go (after trees (Split place) (nodes ∷ stack)) refl e (λ next w h. passed trees width items next last w h)
  where
    go : (o : Option (List (List ℕ))) → after trees (Split place) (nodes ∷ stack) ≡ o → after_all trees items o ≡ Some last
        → ((next : List (List ℕ)) → AreWide width next → after_all trees items (Some next) ≡ Some last
        → Passed trees width (passing_times items) (passes trees items (Some next)) (λ i tree. passes_at tree i items (Some (at_place i next))))
        → Passed trees width (passing_times (Split place ∷ items)) (passes trees (Split place ∷ items) (Some (nodes ∷ stack)))
        (λ i tree. passes_at tree i (Split place ∷ items) (Some (at_place i (nodes ∷ stack))))
    go None was h more = absurd (cc)
    go (Some next) was h more =
        let step : Stepped trees width (Split place) (nodes ∷ stack) next = stepped trees width (Split place) (nodes ∷ stack) next wide was in
        let rest = more next step.wide h in
        record {
          times_are = ap (λ o. map (λ at. at.1) (passes trees items o)) was ∙ rest.times_are;
          wide = subst (λ (o : Option (List (List ℕ))). AllByRecursion (λ at. length at.0 ≡ width) (passes trees items o)) (sym was) rest.wide;
          places = λ i tree at. ap (passes_at tree i items) (step.each i tree at) ∙ (rest.places i tree at ∙ ap (λ o. map (asks_of i) (passes trees items o)) (sym was));
        }
