-- A split on the flat lists: what its conditions give, and the two copies that it makes.
use Rattle.std.proofs.Common.{◌≡◌, ℕ, ◌+◌, ◌*◌, ◌<◌, ◌≤◌, true, Some, List, [], ◌∷◌, ◌++◌, length, take, drop, refl, sym, ap, ◌∙◌, subst, arith, set, length-append, append_assoc}
use Rattle.std.specs.Prelude.{slice_get}
use Rattle.drt_worklist.specs.Places.{places}
use Rattle.drt_worklist.proofs.Places.{places_fewer, places_more}
use Rattle.drt_worklist.proofs.Writes.{length_set}
use Rattle.drt_refine.specs.Combination.{Combination, is_combination_taken, is_taken_combination}
use Rattle.drt_refine.specs.Machine.{halves}
use Rattle.drt_refine.specs.View.{FrontierView, combinations_of}
use Rattle.drt_refine.specs.declared.step.CombinationState.{CombinationState}
use Rattle.drt_refine.specs.declared.step.CombinationState.TheVariants.{Pending, Split}
use Rattle.drt_refine.specs.declared.step.FrontierEntry.{FrontierEntry}
use Rattle.drt_refine.proofs.Flat.{combination_at, length_combinations}
use Rattle.drt_refine.proofs.Halves.{Room, room_of, same_part, halves_made}

-- What the conditions give.
pub record Halving (w width budget : ℕ) (nodes : List ℕ) (states : List CombinationState) (id : ℕ) (x : Combination) : Type 0 where
  pub same : width ≡ w
  pub wide : length x.nodes ≡ w
  pub flat : length nodes ≡ length states * w
  pub room : Room w nodes states budget id x
  pub state : slice_get states id ≡ Some x.state
  pub taken : is_taken_combination x.state ≡ true
  pub part : id * width + width ≤ length nodes

pub halving : (r : List ℕ) (wcet deadline budget : ℕ) (nodes : List ℕ) (states : List CombinationState) (log : List FrontierEntry) (v : FrontierView)
    → record { roots = r; wcet = wcet; deadline = deadline; budget = budget; combinations = combinations_of (length r) nodes states; log = log } ≡ v →
    length nodes ≡ length states * length r → length states + length (places is_taken_combination states) ≤ 1 + length log →
    (id width : ℕ) (x : Combination) → slice_get v.combinations id ≡ Some x → is_combination_taken x ≡ true → length x.nodes ≡ length v.roots → length v.log < v.budget
    → width ≡ length r → Halving (length r) width budget nodes states id x
halving r wcet deadline budget nodes states log v is flat left id width x at_v held wide_v lt_v same =
    let w : ℕ = length r in
    let at : slice_get (combinations_of w nodes states) id ≡ Some x = ap (λ (u : FrontierView). slice_get u.combinations id) is ∙ at_v in
    let hl : length log ≡ length v.log = ap (λ (u : FrontierView). length u.log) is in
    let hb : budget ≡ v.budget = ap (λ (u : FrontierView). u.budget) is in
    let room : Room w nodes states budget id x = room_of w nodes states budget (length log) id x flat left (omega arith) at held in
    record {
      same = same;
      wide = wide_v ∙ sym (ap (λ (u : FrontierView). length u.roots) is);
      flat = flat;
      room = room;
      state = (combination_at w nodes states id x at).state_at;
      taken = held;
      part = subst (λ (n : ℕ). id * n + n ≤ length nodes) (sym same) room.part;
    }

module _ (w width budget : ℕ) (nodes : List ℕ) (states : List CombinationState) (id : ℕ) (x : Combination) (h : Halving w width budget nodes states id x) (place : ℕ) where
  pub first_copy : (item : ℕ) → set (take width (drop (id * width) nodes)) place item ≡ set x.nodes place item
  first_copy item = ap (λ n. set (take n (drop (id * n) nodes)) place item) h.same ∙ ap (λ xs. set xs place item) (sym h.room.nodes_are)

  pub second_copy : (more : List ℕ) (item : ℕ) → set (take width (drop (id * width) (nodes ++ more))) place item ≡ set x.nodes place item
  second_copy more item = ap (λ n. set (take n (drop (id * n) (nodes ++ more))) place item) h.same
      ∙ ap (λ xs. set xs place item) (same_part w nodes states id place item item x h.flat h.room.part h.room.nodes_are h.wide more)

  pub length_copy : (item : ℕ) → length (set x.nodes place item) ≡ w
  length_copy item = length_set x.nodes place item ∙ h.wide

  -- the states after the split
  module _ (now : List CombinationState) (is : now ≡ set states id (Split place (length states) (length states + 1)) ++ Pending ∷ Pending ∷ []) where
    abbrev set_states : List CombinationState
    set_states = set states id (Split place (length states) (length states + 1))

    twice : now ≡ (set_states ++ Pending ∷ []) ++ Pending ∷ []
    twice = is ∙ sym (append_assoc set_states (Pending ∷ []) (Pending ∷ []))

    pub length_now : length now ≡ length states + 2
    length_now =
        let a : length now ≡ length set_states + 2 = ap length is ∙ length-append set_states (Pending ∷ Pending ∷ []) in
        let b : length set_states ≡ length states = length_set states id (Split place (length states) (length states + 1)) in
        omega arith

    pub taken_now : length (places is_taken_combination now) + 1 ≡ length (places is_taken_combination states)
    taken_now =
        ap (λ l. length (places is_taken_combination l) + 1) twice
        ∙ (ap (λ l. length l + 1) (places_more is_taken_combination (set_states ++ Pending ∷ []) Pending refl ∙ places_more is_taken_combination set_states Pending refl)
        ∙ places_fewer is_taken_combination states id x.state (Split place (length states) (length states + 1)) h.state h.taken refl)

    pub flat_now : (all : List ℕ) → length all ≡ length nodes + (w + w) → length all ≡ length now * w
    flat_now all e =
        let n : length now * w ≡ (length states + 2) * w = ap (λ k. k * w) length_now in
        let f : length nodes ≡ length states * w = h.flat in
        omega arith

    pub halves_now : (a b all : List ℕ) (left right : ℕ) → a ≡ set x.nodes place left → b ≡ set x.nodes place right → all ≡ (nodes ++ a) ++ b
        → combinations_of w all now ≡ halves (combinations_of w nodes states) id place (set x.nodes place left) (set x.nodes place right)
    halves_now a b all left right p q e =
        ap (λ l. combinations_of w l now) e ∙ (ap (λ l. combinations_of w ((nodes ++ a) ++ b) l) twice
        ∙ halves_made w nodes states id place left right x h.flat h.room.part h.room.nodes_are h.wide a b (Split place (length states) (length states + 1)) p q
        (ap (λ n. Split place n (n + 1)) (sym (length_combinations w nodes states))))
