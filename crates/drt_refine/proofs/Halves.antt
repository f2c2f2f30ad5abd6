-- What a split leaves in the flat lists.
use Rattle.std.proofs.Common.{◌≡◌, ℕ, ◌+◌, ◌-◌, ◌*◌, ◌<◌, ◌≤◌, true, Some, List, [], ◌∷◌, ◌++◌, length, take, drop, length-append, refl, sym, ap, ◌∙◌, arith, set}
use Rattle.std.specs.Prelude.{slice_get}
use Rattle.std.proofs.lemmas.Option.{slice_get_within}
use Rattle.drt_worklist.specs.Places.{changed, places}
use Rattle.drt_worklist.proofs.Places.{Placed, placed}
use Rattle.drt_worklist.proofs.Writes.{length_set}
use Rattle.drt_refine.specs.View.{combinations_of}
use Rattle.drt_refine.specs.Combination.{Combination, with_state, is_combination_taken, is_taken_combination, fresh_combination}
use Rattle.drt_refine.specs.Machine.{halves}
use Rattle.drt_refine.specs.declared.step.CombinationState.{CombinationState}
use Rattle.drt_refine.specs.declared.step.CombinationState.TheVariants.{Pending, Split as SplitAt}
use Rattle.drt_refine.proofs.Flat.{CombinationAt, combination_at, combinations_push, combinations_set, take_front, drop_front, length_drop}

pub record Room (w : ℕ) (nodes : List ℕ) (states : List CombinationState) (budget id : ℕ) (c : Combination) : Type 0 where
  pub lt : id < length states
  pub few : length states + 2 ≤ budget + 1
  pub part : id * w + w ≤ length nodes
  pub wide : length nodes + (w + w) ≤ (budget + 1) * w
  pub nodes_are : c.nodes ≡ take w (drop (id * w) nodes)

some_taken : (states : List CombinationState) (i : ℕ) (x : CombinationState) → slice_get states i ≡ Some x → is_taken_combination x ≡ true → 1 ≤ length (places is_taken_combination states)
some_taken states i x at h =
    let p : Placed 0 is_taken_combination states i = placed is_taken_combination 0 states i x at h in
    let lt : p.place < length (places is_taken_combination states) = slice_get_within (places is_taken_combination states) p.place (0 + i) p.at in
    omega arith

pub rows : (a b w : ℕ) → a ≤ b → a * w ≤ b * w
rows a b w le =
    let e : b ≡ a + (b - a) = omega arith in
    let g : b * w ≡ (a + (b - a)) * w = ap (λ x. x * w) e in
    let h : (a + (b - a)) * w ≡ a * w + (b - a) * w = omega arith in
    omega arith

pub room_of : (w : ℕ) (nodes : List ℕ) (states : List CombinationState) (budget entries id : ℕ) (c : Combination) → length nodes ≡ length states * w
    → length states + length (places is_taken_combination states) ≤ 1 + entries → entries < budget → slice_get (combinations_of w nodes states) id ≡ Some c
    → is_combination_taken c ≡ true → Room w nodes states budget id c
room_of w nodes states budget entries id c e room lt at held =
    let a : CombinationAt w nodes states id c = combination_at w nodes states id c at in
    let one : 1 ≤ length (places is_taken_combination states) = some_taken states id c.state a.state_at held in
    let in_list : id < length states = slice_get_within states id c.state a.state_at in
    let r : (id + 1) * w ≤ length states * w = rows (id + 1) (length states) w (omega arith) in
    let q : (length states + 2) * w ≤ (budget + 1) * w = rows (length states + 2) (budget + 1) w (omega arith) in
    record { lt = in_list; few = omega arith; part = omega arith; wide = omega arith; nodes_are = a.nodes_are }

module _ (w : ℕ) (nodes : List ℕ) (states : List CombinationState) (id place left right : ℕ) (c : Combination) (e : length nodes ≡ length states * w)
    (part : id * w + w ≤ length nodes) (are : c.nodes ≡ take w (drop (id * w) nodes)) (wide : length c.nodes ≡ w) where
  pub same_part : (more : List ℕ) → take w (drop (id * w) (nodes ++ more)) ≡ c.nodes
  same_part more =
      ap (λ xs. take w xs) (drop_front (id * w) nodes more (omega arith))
      ∙ (take_front w (drop (id * w) nodes) more (let d : length (drop (id * w) nodes) + id * w ≡ length nodes = length_drop (id * w) nodes (omega arith) in omega arith) ∙ sym are)

  pub halves_made : (a b : List ℕ) (x : CombinationState) → a ≡ set c.nodes place left → b ≡ set c.nodes place right
      → x ≡ SplitAt place (length (combinations_of w nodes states)) (length (combinations_of w nodes states) + 1) →
      combinations_of w ((nodes ++ a) ++ b) ((set states id x ++ Pending ∷ []) ++ Pending ∷ []) ≡ halves (combinations_of w nodes states) id place (set c.nodes place left) (set c.nodes place right)
  halves_made a b x p q y =
      let la : length a ≡ w = ap length p ∙ (length_set c.nodes place left ∙ wide) in
      let lb : length b ≡ w = ap length q ∙ (length_set c.nodes place right ∙ wide) in
      let ls : length (set states id x) ≡ length states = length_set states id x in
      let e1 : length nodes ≡ length (set states id x) * w = e ∙ ap (λ n. n * w) (sym ls) in
      let lm : length (set states id x ++ Pending ∷ []) ≡ length (set states id x) + 1 = length-append (set states id x) (Pending ∷ []) in
      let ln : length (nodes ++ a) ≡ length nodes + length a = length_two nodes a in
      let e2 : length (nodes ++ a) ≡ length (set states id x ++ Pending ∷ []) * w =
      ln ∙ (let g : length nodes + length a ≡ (length (set states id x) + 1) * w = omega arith in g ∙ ap (λ n. n * w) (sym lm)) in
      combinations_push w (nodes ++ a) b (set states id x ++ Pending ∷ []) Pending e2 lb
      ∙ (ap (λ cs. cs ++ fresh_combination b ∷ []) (combinations_push w nodes a (set states id x) Pending e1 la ∙ ap (λ cs. cs ++ fresh_combination a ∷ []) (combinations_set w nodes states id x))
      ∙ (two (changed id (with_state x) (combinations_of w nodes states)) (fresh_combination a) (fresh_combination b)
      ∙ (ap (λ z. changed id (with_state z) (combinations_of w nodes states) ++ fresh_combination a ∷ fresh_combination b ∷ []) y
      ∙ (ap (λ z. changed id (with_state (SplitAt place (length (combinations_of w nodes states)) (length (combinations_of w nodes states) + 1)))
      (combinations_of w nodes states) ++ fresh_combination z ∷ fresh_combination b ∷ []) p
      ∙ ap (λ z. changed id (with_state (SplitAt place (length (combinations_of w nodes states)) (length (combinations_of w nodes states) + 1)))
      (combinations_of w nodes states) ++ fresh_combination (set c.nodes place left) ∷ fresh_combination z ∷ []) q))))
    where
      two : {A : Type 0} (xs : List A) (u v : A) → (xs ++ u ∷ []) ++ v ∷ [] ≡ xs ++ u ∷ v ∷ []
      two [] u v = refl
      two (z ∷ xs) u v = ap (λ l. z ∷ l) (two xs u v)

      length_two : (xs ys : List ℕ) → length (xs ++ ys) ≡ length xs + length ys
      length_two [] ys = let g : length ys ≡ 0 + length ys = omega arith in g
      length_two (z ∷ xs) ys = let g : length (xs ++ ys) ≡ length xs + length ys = length_two xs ys in omega arith
