-- The combinations that lie one after another in flat lists.
use Rattle.std.proofs.Common.{◌≡◌, ℕ, suc, zero, ◌+◌, ◌*◌, ◌≤◌, Bool, cond, Some, List, [], ◌∷◌, ◌++◌, length, take, drop, refl, sym, ap, ◌∙◌, arith, set, zero-add}
use Rattle.std.proofs.lemmas.Option.{none-some, same_Some}
use Rattle.std.specs.Prelude.{slice_get, option_map}
use Rattle.drt_worklist.specs.Places.{first, changed}
use Rattle.drt_refine.specs.Combination.{Combination, with_state}
use Rattle.drt_refine.specs.View.{FrontierView, combinations_of, moved}
use Rattle.drt_refine.specs.declared.step.FrontierEntry.{FrontierEntry}
use Rattle.drt_refine.specs.declared.step.CombinationState.{CombinationState}

pub length_combinations : (width : ℕ) (nodes : List ℕ) (states : List CombinationState) → length (combinations_of width nodes states) ≡ length states
length_combinations width nodes [] = refl
length_combinations width nodes (s ∷ states) = ap suc (length_combinations width (drop width nodes) states)

pub combinations_set : (width : ℕ) (nodes : List ℕ) (states : List CombinationState) (i : ℕ) (x : CombinationState)
    → combinations_of width nodes (set states i x) ≡ changed i (with_state x) (combinations_of width nodes states)
combinations_set width nodes [] i x = refl
combinations_set width nodes (s ∷ states) zero x = refl
combinations_set width nodes (s ∷ states) (suc i) x = ap (λ cs. record { nodes = take width nodes; state = s } ∷ cs) (combinations_set width (drop width nodes) states i x)

pub first_combinations : (p : CombinationState → Bool) (width : ℕ) (nodes : List ℕ) (states : List CombinationState)
    → first p states ≡ first (λ (c : Combination). p c.state) (combinations_of width nodes states)
first_combinations p width nodes [] = refl
first_combinations p width nodes (s ∷ states) = ap (λ o. cond (p s) (Some 0) (option_map suc o)) (first_combinations p width (drop width nodes) states)

-- the nodes and the state of a combination
pub record CombinationAt (width : ℕ) (nodes : List ℕ) (states : List CombinationState) (i : ℕ) (c : Combination) : Type 0 where
  pub nodes_are : c.nodes ≡ take width (drop (i * width) nodes)
  pub state_at : slice_get states i ≡ Some c.state

drop_nil : (n : ℕ) → drop {A = ℕ} n [] ≡ []
drop_nil zero = refl
drop_nil (suc n) = refl

drop_drop : (a b : ℕ) (xs : List ℕ) → drop b (drop a xs) ≡ drop (a + b) xs
drop_drop zero b xs = ap (λ n. drop n xs) (sym (zero-add b))
drop_drop (suc a) b [] = drop_nil b ∙ sym (drop_nil (suc a + b))
drop_drop (suc a) zero (x ∷ xs) = let e : drop 0 (drop a xs) ≡ drop (a + 0) xs = drop_drop a 0 xs in e ∙ ap (λ n. drop n (x ∷ xs)) (let g : suc (a + 0) ≡ suc a + 0 = omega arith in g)
drop_drop (suc a) (suc b) (x ∷ xs) = drop_drop a (suc b) xs ∙ ap (λ n. drop n (x ∷ xs)) (let g : suc (a + suc b) ≡ suc a + suc b = omega arith in g)

pub combination_at : (width : ℕ) (nodes : List ℕ) (states : List CombinationState) (i : ℕ) (c : Combination) → slice_get (combinations_of width nodes states) i ≡ Some c
    → CombinationAt width nodes states i c
combination_at width nodes [] i c at = absurd (none-some c at)
combination_at width nodes (s ∷ states) zero c at =
    let e : record { nodes = take width nodes; state = s } ≡ c = same_Some (record { nodes = take width nodes; state = s }) c at in
    record {
      nodes_are = sym (ap (λ (x : Combination). x.nodes) e) ∙ ap (λ n. take width (drop n nodes)) (let z : 0 ≡ 0 * width = omega arith in z);
      state_at = ap (λ (x : Combination). Some x.state) e;
    }
combination_at width nodes (s ∷ states) (suc i) c at =
    let r : CombinationAt width (drop width nodes) states i c = combination_at width (drop width nodes) states i c at in
    record {
      nodes_are = r.nodes_are ∙ (ap (λ xs. take width xs) (drop_drop width (i * width) nodes) ∙ ap (λ n. take width (drop n nodes)) (let z : width + i * width ≡ suc i * width = omega arith in z));
      state_at = r.state_at;
    }

pub take_front : (n : ℕ) (xs ys : List ℕ) → n ≤ length xs → take n (xs ++ ys) ≡ take n xs
take_front zero xs ys h = take_none xs ys
  where
    take_none : (xs ys : List ℕ) → take 0 (xs ++ ys) ≡ take 0 xs
    take_none [] [] = refl
    take_none [] (y ∷ ys) = refl
    take_none (x ∷ xs) ys = refl
take_front (suc n) [] ys h = absurd (let g : suc n ≤ 0 = h in omega arith)
take_front (suc n) (x ∷ xs) ys h = ap (λ l. x ∷ l) (take_front n xs ys (omega arith))

pub drop_front : (n : ℕ) (xs ys : List ℕ) → n ≤ length xs → drop n (xs ++ ys) ≡ drop n xs ++ ys
drop_front zero xs ys h = drop_none xs ys
  where
    drop_none : (xs ys : List ℕ) → drop 0 (xs ++ ys) ≡ drop 0 xs ++ ys
    drop_none [] [] = refl
    drop_none [] (y ∷ ys) = refl
    drop_none (x ∷ xs) ys = refl
drop_front (suc n) [] ys h = absurd (let g : suc n ≤ 0 = h in omega arith)
drop_front (suc n) (x ∷ xs) ys h = drop_front n xs ys (omega arith)

take_whole : (n : ℕ) (xs : List ℕ) → length xs ≡ n → take n xs ≡ xs
take_whole zero [] e = refl
take_whole zero (x ∷ xs) e = absurd (omega arith)
take_whole (suc n) [] e = absurd (omega arith)
take_whole (suc n) (x ∷ xs) e = ap (λ l. x ∷ l) (take_whole n xs (omega arith))

no_more : (xs : List ℕ) → length xs ≡ 0 → xs ≡ []
no_more [] e = refl
no_more (x ∷ xs) e = absurd (omega arith)

pub length_drop : (n : ℕ) (xs : List ℕ) → n ≤ length xs → length (drop n xs) + n ≡ length xs
length_drop zero [] h = refl
length_drop zero (x ∷ xs) h = omega arith
length_drop (suc n) [] h = absurd (let g : suc n ≤ 0 = h in omega arith)
length_drop (suc n) (x ∷ xs) h = let e : length (drop n xs) + n ≡ length xs = length_drop n xs (omega arith) in omega arith

pub state_at : (width : ℕ) (nodes : List ℕ) (states : List CombinationState) (i : ℕ) (s : CombinationState) → slice_get states i ≡ Some s
    → (c : Combination) × (slice_get (combinations_of width nodes states) i ≡ Some c) × (c.state ≡ s)
state_at width nodes [] i s at = absurd (none-some s at)
state_at width nodes (x ∷ states) zero s at = (record { nodes = take width nodes; state = x }, refl, same_Some x s at)
state_at width nodes (x ∷ states) (suc i) s at = state_at width (drop width nodes) states i s at

-- one more combination
pub combinations_push : (width : ℕ) (nodes more : List ℕ) (states : List CombinationState) (x : CombinationState) → length nodes ≡ length states * width
    → length more ≡ width → combinations_of width (nodes ++ more) (states ++ x ∷ []) ≡ combinations_of width nodes states ++ record { nodes = more; state = x } ∷ []
combinations_push width nodes more [] x e l =
    let z : nodes ≡ [] = no_more nodes (let h : 0 * width ≡ 0 = omega arith in e ∙ h) in
    ap (λ (xs : List ℕ). record { nodes = take width (xs ++ more); state = x } ∷ []) z ∙ ap (λ (xs : List ℕ). record { nodes = xs; state = x } ∷ []) (take_whole width more l)
combinations_push width nodes more (s ∷ states) x e l =
    let f : length nodes ≡ length states * width + width = e ∙ (let h : suc (length states) * width ≡ length states * width + width = omega arith in h) in
    let d : length (drop width nodes) + width ≡ length nodes = length_drop width nodes (omega arith) in
    ap (λ (xs : List ℕ). record { nodes = xs; state = s } ∷ combinations_of width (drop width (nodes ++ more)) (states ++ x ∷ [])) (take_front width nodes more (omega arith))
    ∙ ap (λ cs. record { nodes = take width nodes; state = s } ∷ cs)
    (ap (λ xs. combinations_of width xs (states ++ x ∷ [])) (drop_front width nodes more (omega arith)) ∙ combinations_push width (drop width nodes) more states x (omega arith) l)

-- a view whose combinations and log change
pub moved_by : (r : List ℕ) (w d b : ℕ) (cs : List Combination) (l : List FrontierEntry) (v : FrontierView) → record { roots = r; wcet = w; deadline = d; budget = b; combinations = cs; log = l } ≡ v →
    (g : List Combination → List Combination) (e : FrontierEntry) (cs' : List Combination) (l' : List FrontierEntry) → cs' ≡ g cs → l' ≡ l ++ e ∷ []
    → record { roots = r; wcet = w; deadline = d; budget = b; combinations = cs'; log = l' } ≡ moved v (record { combinations = g v.combinations; log = v.log ++ e ∷ [] })
moved_by r w d b cs l v is g e cs' l' p q =
    ap (λ (xs : List Combination). record { roots = r; wcet = w; deadline = d; budget = b; combinations = xs; log = l' }) p
    ∙ (ap (λ (xs : List FrontierEntry). record { roots = r; wcet = w; deadline = d; budget = b; combinations = g cs; log = xs }) q
    ∙ ap (λ (u : FrontierView). moved u (record { combinations = g u.combinations; log = u.log ++ e ∷ [] })) is)
