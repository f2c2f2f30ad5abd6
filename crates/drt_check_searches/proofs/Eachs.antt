-- What holds of the tails at the places, place by place, and of the searches of the tasks that they name.
use Rattle.std.proofs.Common.{◌≡◌, ℕ, zero, suc, ◌+◌, ◌<◌, ◌≤◌, ◌⊎◌, inl, inr, List, [], ◌∷◌, length, take, get_or, sym, ap, subst, arith, ◌∙◌}
use Rattle.std.specs.List.{AllZip}
use Rattle.std.proofs.lemmas.Bool.{cases_lt}
use Rattle.std.proofs.lemmas.List.{get_or_default}
use Rattle.drt_model.specs.Digraph.{Digraph}
use Rattle.drt_states.specs.States.{AreStates, HaveDominatedChildren, HavePassingTimes}
use Rattle.drt_states.specs.Tails.{EachTail, Place}
use Rattle.drt_states.specs.declared.claims.StateClaim.{StateClaim}
use Rattle.drt_states.specs.declared.claims.TailClaim.{TailClaim}
use Rattle.drt_check_states.proofs.Zips.{zip_all, zip_at}
use Rattle.drt_check_searches.specs.Places.{no_place, place_at}

-- It holds of the tails at the first places.
abbrev pub AreTo : (ℕ → Digraph → TailClaim → Type 0) → List Place → List TailClaim → ℕ → Type 0
AreTo R places tails n = (k : ℕ) (p : Place) (d : TailClaim) → k < n → R (get_or places k p).bound (get_or places k p).graph (get_or tails k d)

-- What a place and a tail have, in other words for them.
at_by : (R : ℕ → Digraph → TailClaim → Type 0) (b c : ℕ) (g h : Digraph) (x y : TailClaim) → b ≡ c → g ≡ h → x ≡ y → R b g x → R c h y
at_by R b c g h x y e f s is = subst (λ (z : TailClaim). R c h z) s (subst (λ (k : Digraph). R c k x) f (subst (λ (n : ℕ). R n g x) e is))

-- One more place.
pub each_more : (R : ℕ → Digraph → TailClaim → Type 0) (places : List Place) (tails : List TailClaim) (i b : ℕ) (g : Digraph) (x : TailClaim) → i < length places → i < length tails
    → b ≡ (place_at places i).bound → g ≡ (place_at places i).graph → x ≡ get_or tails i x → R b g x → AreTo R places tails i → AreTo R places tails (i + 1)
each_more R places tails i b g x l m e f s is so_far k p d h = go (cases_lt k i)
  where
    go : (k < i) ⊎ (i ≤ k) → R (get_or places k p).bound (get_or places k p).graph (get_or tails k d)
    go (inl q) = so_far k p d q
    go (inr q) =
        let here : i ≡ k = omega arith in
        let place : place_at places i ≡ get_or places k p = get_or_default places i no_place p l ∙ ap (λ (n : ℕ). get_or places n p) here in
        let tail : get_or tails i x ≡ get_or tails k d = get_or_default tails i x d m ∙ ap (λ (n : ℕ). get_or tails n d) here in
        at_by R b (get_or places k p).bound g (get_or places k p).graph x (get_or tails k d) (e ∙ ap (λ (q : Place). q.bound) place) (f ∙ ap (λ (q : Place). q.graph) place) (s ∙ tail) is

-- What each place and its tail have.
pub each_at : (R : ℕ → Digraph → TailClaim → Type 0) (places : List Place) (tails : List TailClaim) (i b : ℕ) (g : Digraph) (x : TailClaim) → i < length places
    → b ≡ (place_at places i).bound → g ≡ (place_at places i).graph → x ≡ get_or tails i x → EachTail R places tails → R b g x
each_at R places tails i b g x l e f s each =
    let is = zip_at (λ (p : Place) (tail : TailClaim). R p.bound p.graph tail) places tails i no_place x each l in
    at_by R (place_at places i).bound b (place_at places i).graph g (get_or tails i x) x (sym e) (sym f) (sym s) is

pub each_end : (R : ℕ → Digraph → TailClaim → Type 0) (places : List Place) (tails : List TailClaim) (i : ℕ) → length tails ≡ length places → length tails ≤ i
    → AreTo R places tails i → EachTail R places tails
each_end R places tails i e l all = zip_all (λ (p : Place) (tail : TailClaim). R p.bound p.graph tail) places tails (sym e) (λ k p d m. all k p d (omega arith))

-- The first items of two lists.
pub zip_take : {A B : Type 0} (R : A → B → Type 0) (xs : List A) (ys : List B) (n : ℕ) → AllZip R xs ys → AllZip R (take n xs) (take n ys)
zip_take R xs ys zero all = tt
zip_take R [] [] (suc n) all = tt
zip_take R [] (y ∷ ys) (suc n) all = absurd all
zip_take R (x ∷ xs) [] (suc n) all = absurd all
zip_take R (x ∷ xs) (y ∷ ys) (suc n) all = (all.0, zip_take R xs ys n all.1)

-- The same of what is equal.
pub states_by : (gs hs : List Digraph) (ss ts : List StateClaim) → gs ≡ hs → ss ≡ ts → AreStates gs ss → AreStates hs ts
states_by gs hs ss ts f h is = subst (λ (xs : List StateClaim). AreStates hs xs) h (subst (λ (ks : List Digraph). AreStates ks ss) f is)

pub splits_by : (gs hs : List Digraph) (d e : ℕ) (ss ts : List StateClaim) → gs ≡ hs → d ≡ e → ss ≡ ts → HaveDominatedChildren gs d ss → HaveDominatedChildren hs e ts
splits_by gs hs d e ss ts f g h is =
    subst (λ (xs : List StateClaim). HaveDominatedChildren hs e xs) h (subst (λ (n : ℕ). HaveDominatedChildren hs n ss) g (subst (λ (ks : List Digraph). HaveDominatedChildren ks d ss) f is))

pub passes_by : (b c w v : ℕ) (xs ys : List TailClaim) (ss ts : List StateClaim) → b ≡ c → w ≡ v → xs ≡ ys → ss ≡ ts → HavePassingTimes b w xs ss → HavePassingTimes c v ys ts
passes_by b c w v xs ys ss ts e f g h is =
    subst (λ (zs : List StateClaim). HavePassingTimes c v ys zs) h (subst (λ (zs : List TailClaim). HavePassingTimes c v zs ss) g
    (subst (λ (n : ℕ). HavePassingTimes c n xs ss) f (subst (λ (n : ℕ). HavePassingTimes n w xs ss) e is)))
