-- The samples of an arena's nodes after a change of its nodes.
use Rattle.std.proofs.Common.{◌≡◌, ◌≢◌, ℕ, suc, zero, ◌+◌, ◌<◌, ◌≤◌, ◌⊎◌, Bool, true, false, cond, Option, Some, None, List, [], ◌∷◌, ◌++◌, length, map, take, zero-add}
use Rattle.std.proofs.Common.{refl, sym, ap, ◌∙◌, subst, inl, inr, arith, eqb}
use Rattle.std.specs.Prelude.{slice_get, option_map, ◌&&◌}
use Rattle.std.proofs.lemmas.List.{length_push, length-map, length-take-le, map-append}
use Rattle.std.proofs.lemmas.Option.{none-some, same_Some, slice_get-map, slice_get_within}
use Rattle.std.proofs.lemmas.Bool.Decides.{eqb_tells}
use Rattle.std.proofs.Math.Seq.{take-append_seam}
use Rattle.drt_columns.specs.Entries.{KeptLabel}
use Rattle.drt_columns.specs.Shelf.{Shelf, entries}
use Rattle.drt_label.specs.Algebra.{Algebra}
use Rattle.drt_worklist.specs.Places.{first, changed}
use Rattle.drt_worklist.proofs.Views.{Pushed, earlier, last, before_push, map-changed_same, map-map_same}
use Rattle.drt_table.specs.Node.{Held, is_kept}
use Rattle.drt_table.specs.declared.node.NodeState.TheVariants.{Done}
use Rattle.drt_table.specs.Held.{drop_held, dominates_held, fresh_held, compared_nodes, placed_nodes}
use Rattle.drt_table.specs.Sampled.{labels_of, sampled_from, AreSampled, CanSample, HasSamples, IsShelf}
use Rattle.drt_table.proofs.Sampled.{sampled_more, sampled_here, sampled_elsewhere}

-- one more label
pub sampled_push : {L : Type 0} (a : Algebra L) (labels : List L) (l : L) (old new : Shelf) → AreSampled a labels old
    → entries new (a.vertex l) ≡ entries old (a.vertex l) ++ record { number = length labels; samples = a.samples l } ∷ []
    → ((v : ℕ) → v ≢ a.vertex l → entries new v ≡ entries old v) → new.count ≡ old.count + 1 → AreSampled a (labels ++ l ∷ []) new
sampled_push {L} a labels l old new before here others count = record {
  entries_are = λ v. by_vertex v (eqb_tells (a.vertex l) v);
  count = let e : length (labels ++ l ∷ []) ≡ length labels + 1 = length_push labels l in let c : old.count ≡ length labels = before.count in omega arith;
}
  where
    more : (v : ℕ) → sampled_from a v 0 (labels ++ l ∷ []) ≡ sampled_from a v 0 labels ++ sampled_from a v (length labels) (l ∷ [])
    more v = sampled_more a v 0 labels l ∙ ap (λ n. sampled_from a v 0 labels ++ sampled_from a v n (l ∷ [])) (zero-add (length labels))

    is_here : (v : ℕ) → a.vertex l ≡ v → sampled_from a v 0 (labels ++ l ∷ []) ≡ sampled_from a v 0 labels ++ record { number = length labels; samples = a.samples l } ∷ []
    is_here v same = more v ∙ ap (λ es. sampled_from a v 0 labels ++ es) (sampled_here a v (length labels) l same)

    is_elsewhere : (v : ℕ) → (a.vertex l ≡ v → ⊥) → sampled_from a v 0 (labels ++ l ∷ []) ≡ sampled_from a v 0 labels
    is_elsewhere v other = more v ∙ (ap (λ es. sampled_from a v 0 labels ++ es) (sampled_elsewhere a v (length labels) l other) ∙ nothing_more (sampled_from a v 0 labels))
      where
        nothing_more : (es : List KeptLabel) → es ++ [] ≡ es
        nothing_more [] = refl
        nothing_more (e ∷ es) = ap (λ fs. e ∷ fs) (nothing_more es)

    by_vertex : (v : ℕ) → ((eqb (a.vertex l) v ≡ true) × (a.vertex l ≡ v)) ⊎ ((eqb (a.vertex l) v ≡ false) × (a.vertex l ≢ v)) → entries new v ≡ sampled_from a v 0 (labels ++ l ∷ [])
    by_vertex v (inl p) =
        subst (λ u. entries new u ≡ entries old u ++ record { number = length labels; samples = a.samples l } ∷ []) p.1 here
        ∙ (ap (λ es. es ++ record { number = length labels; samples = a.samples l } ∷ []) (before.entries_are v) ∙ sym (is_here v p.1))
    by_vertex v (inr p) = others v (λ e. p.1 (sym e)) ∙ (before.entries_are v ∙ sym (is_elsewhere v p.1))

-- the last element of a list
pub split_last : {A : Type 0} (xs : List A) (n : ℕ) (x : A) → slice_get xs n ≡ Some x → length xs ≤ n + 1 → take n xs ++ x ∷ [] ≡ xs
split_last [] n x at most = absurd (none-some x at)
split_last (y ∷ []) zero x at most = ap (λ z. z ∷ []) (sym (same_Some y x at))
split_last (y ∷ (z ∷ xs)) zero x at most = absurd (let h : suc (suc (length xs)) ≤ 0 + 1 = most in omega arith)
split_last (y ∷ xs) (suc n) x at most = ap (λ zs. y ∷ zs) (split_last xs n x at (let h : suc (length xs) ≤ suc n + 1 = most in omega arith))

pub take_past : {A : Type 0} (xs : List A) (n : ℕ) → length xs ≤ n → take n xs ≡ xs
take_past [] zero le = refl
take_past [] (suc n) le = refl
take_past (x ∷ xs) zero le = absurd (let h : suc (length xs) ≤ 0 = le in omega arith)
take_past (x ∷ xs) (suc n) le = ap (λ ys. x ∷ ys) (take_past xs n (let h : suc (length xs) ≤ suc n = le in omega arith))

module _ {L : Type 0} (a : Algebra L) (vertices room : ℕ) (shelf : Shelf) where
  -- a change of one node leaves the labels
  pub change_samples : (f : Held L → Held L) (k : ℕ) (nodes later : List (Held L)) → later ≡ changed k f nodes → ((h : Held L) → (f h).node.label ≡ h.node.label)
      → IsShelf a nodes vertices room shelf → IsShelf a later vertices room shelf
  change_samples f k nodes later is keeps ok no_chain =
      let has : HasSamples a nodes vertices room shelf = ok no_chain in
      let same : labels_of later ≡ labels_of nodes = ap (λ (hs : List (Held L)). labels_of hs) is ∙ map-changed_same (λ (h : Held L). h.node.label) f keeps k nodes in
      record { sampled = subst (λ ls. AreSampled a ls shelf) (sym same) has.sampled; vertices_are = has.vertices_are; room_is = has.room_is }

-- the shelf of an arena without nodes
pub new_shelf : {L : Type 0} (a : Algebra L) (vertices room : ℕ) (shelf : Shelf) (nodes : List (Held L)) (v : ℕ) → nodes ≡ [] → v ≡ vertices
    → IsShelf a [] vertices room shelf → IsShelf a nodes v room shelf
new_shelf {L} a vertices room shelf nodes v none is ok = subst (λ (hs : List (Held L)). IsShelf a hs v room shelf) (sym none) (subst (λ n. IsShelf a [] n room shelf) (sym is) ok)

-- later nodes are these with what they have as labels, and then at most one node more, of the label
pub record IsMore {L : Type 0} (nodes later : List (Held L)) (l : L) : Type 0 where
  pub first : take (length nodes) (labels_of later) ≡ labels_of nodes
  pub at_most : length later ≤ length nodes + 1
  pub label : (h : Held L) → slice_get later (length nodes) ≡ Some h → h.node.label ≡ l

module _ {L : Type 0} (nodes : List (Held L)) (l : L) where
  -- no node more
  pub more_none : IsMore nodes nodes l
  more_none = record {
    first = take_past (labels_of nodes) (length nodes) (let e : length (labels_of nodes) ≡ length nodes = length-map nodes (λ (h : Held L). h.node.label) in omega arith);
    at_most = omega arith;
    label = λ h at. absurd (let lt : length nodes < length nodes = slice_get_within nodes (length nodes) h at in omega arith);
  }

  labels_more : (f : Held L → Held L) (z : Held L) → ((h : Held L) → (f h).node.label ≡ h.node.label) → labels_of (map f nodes ++ z ∷ []) ≡ labels_of nodes ++ z.node.label ∷ []
  labels_more f z keeps =
      map-append (λ (h : Held L). h.node.label) (map f nodes) (z ∷ [])
      ∙ ap (λ ls. ls ++ z.node.label ∷ []) (map-map_same (λ (h : Held L). h.node.label) f keeps nodes)

  -- one node more
  pub more_one : (f : Held L → Held L) (z : Held L) → ((h : Held L) → (f h).node.label ≡ h.node.label) → z.node.label ≡ l → IsMore nodes (map f nodes ++ z ∷ []) l
  more_one f z keeps label = record {
    first =
        ap (λ ls. take (length nodes) ls) (labels_more f z keeps)
        ∙ (ap (λ n. take n (labels_of nodes ++ z.node.label ∷ [])) (sym (length-map nodes (λ (h : Held L). h.node.label))) ∙ take-append_seam (labels_of nodes) (z.node.label ∷ []));
    at_most = let e : length (map f nodes ++ z ∷ []) ≡ length (map f nodes) + 1 = length_push (map f nodes) z in let n : length (map f nodes) ≡ length nodes = length-map nodes f in omega arith;
    label = λ h at. by_place h (before_push f nodes z (length nodes) h at);
  }
    where
      by_place : (h : Held L) → Pushed f nodes z (length nodes) h → h.node.label ≡ l
      by_place h (earlier x at is less) = absurd (omega arith)
      by_place h (last e is) = ap (λ (y : Held L). y.node.label) is ∙ label

  same_nodes : (hs : List (Held L)) → map (λ (h : Held L). h) hs ≡ hs
  same_nodes [] = refl
  same_nodes (h ∷ hs) = ap (λ ys. h ∷ ys) (same_nodes hs)

  -- an opening node
  pub more_opened : (z : Held L) → z.node.label ≡ l → IsMore nodes (nodes ++ z ∷ []) l
  more_opened z label = subst (λ (hs : List (Held L)). IsMore nodes (hs ++ z ∷ []) l) (same_nodes nodes) (more_one (λ h. h) z (λ h. refl) label)

-- a label that is offered
module _ {L : Type 0} (a : Algebra L) (l : L) (parent deadline bound : ℕ) (nodes : List (Held L)) where
  drop_keeps : (number : ℕ) (h : Held L) → (drop_held a l number h).node.label ≡ h.node.label
  drop_keeps number h = by_test (is_kept h.node && a.dominates l h.node.label)
    where
      by_test : (b : Bool) → (cond b (record h { node = record h.node { dropped_by = Some number; state = Done } }) h).node.label ≡ h.node.label
      by_test true = refl
      by_test false = refl

  pub more_placed : IsMore nodes (placed_nodes a l parent deadline bound nodes) l
  more_placed = by_range (a.in_range l deadline bound)
    where
      by_first : (o : Option ℕ) → IsMore nodes (compared_nodes a l parent nodes o) l
      by_first None = more_one nodes l (drop_held a l (length nodes)) (fresh_held l (Some parent)) (drop_keeps (length nodes)) refl
      by_first (Some k) = more_none nodes l

      by_range : (b : Bool) → IsMore nodes (cond b (compared_nodes a l parent nodes (first (dominates_held a l) nodes)) nodes) l
      by_range true = by_first (first (dominates_held a l) nodes)
      by_range false = more_none nodes l

-- the arena's nodes, with one more at most, of a label
module _ {L : Type 0} (a : Algebra L) (nodes later : List (Held L)) (l : L) (vertices room : ℕ) (old : Shelf) (ok : IsShelf a nodes vertices room old) (more : IsMore nodes later l) where
  -- the new node's samples can be added
  pub can_sample : (number : ℕ) → number ≡ length nodes → a.vertex l < vertices → length nodes < room → a.is_chain ≡ false → CanSample a later number old
  can_sample number is vertex less no_chain =
      let has : HasSamples a nodes vertices room old = ok no_chain in
      let vertices_are : old.vertices ≡ vertices = has.vertices_are in
      let room_is : old.room ≡ room = has.room_is in
      let at_most : length later ≤ length nodes + 1 = more.at_most in
      subst (λ n. CanSample a later n old) (sym is) (record {
        sampled = subst (λ ls. AreSampled a ls old) (sym more.first) has.sampled;
        vertex = λ h at. subst (λ m. a.vertex m < old.vertices) (sym (more.label h at)) (omega arith);
        room = omega arith;
      })

  -- the samples after they were added
  pub has_samples : (new : Shelf) (v : ℕ) → (a.is_chain ≡ false → AreSampled a (labels_of later) new) → new.vertices ≡ old.vertices → new.room ≡ old.room → v ≡ vertices → IsShelf a later v room new
  has_samples new v sampled vertices_same room_same is no_chain =
      let has : HasSamples a nodes vertices room old = ok no_chain in
      record { sampled = sampled no_chain; vertices_are = vertices_same ∙ (has.vertices_are ∙ sym is); room_is = room_same ∙ has.room_is }

-- the last node's samples were added
pub sampled_last : {L : Type 0} (a : Algebra L) (nodes : List (Held L)) (number : ℕ) (z : Held L) (old new : Shelf) (l : L) (v : ℕ) (samples : List ℕ)
    → CanSample a nodes number old → slice_get nodes number ≡ Some z → length nodes ≤ number + 1 → l ≡ z.node.label → v ≡ a.vertex l → samples ≡ a.samples l
    → entries new v ≡ entries old v ++ record { number = number; samples = samples } ∷ [] → ((u : ℕ) → u ≢ v → entries new u ≡ entries old u) → new.count ≡ old.count + 1
    → AreSampled a (labels_of nodes) new
sampled_last {L} a nodes number z old new l v samples can at ends l_is v_is samples_is here others count =
    subst (λ ls. AreSampled a ls new) (split_last (labels_of nodes) number l label at_most)
    (sampled_push a (take number (labels_of nodes)) l old new can.sampled
    (subst (λ n. entries new (a.vertex l) ≡ entries old (a.vertex l) ++ record { number = n; samples = a.samples l } ∷ []) (sym long)
    (subst (λ ss. entries new (a.vertex l) ≡ entries old (a.vertex l) ++ record { number = number; samples = ss } ∷ []) samples_is
    (subst (λ u. entries new u ≡ entries old u ++ record { number = number; samples = samples } ∷ []) v_is here)))
    (subst (λ w. (u : ℕ) → u ≢ w → entries new u ≡ entries old u) v_is others) count)
  where
    label : slice_get (labels_of nodes) number ≡ Some l
    label = slice_get-map (λ (h : Held L). h.node.label) nodes number ∙ (ap (λ o. option_map (λ (h : Held L). h.node.label) o) at ∙ ap (λ m. Some m) (sym l_is))

    as_many : length (labels_of nodes) ≡ length nodes
    as_many = length-map nodes (λ (h : Held L). h.node.label)

    at_most : length (labels_of nodes) ≤ number + 1
    at_most = let e = as_many in omega arith

    long : length (take number (labels_of nodes)) ≡ number
    long = length-take-le number (labels_of nodes) (let lt : number < length nodes = slice_get_within nodes number z at in let e = as_many in omega arith)
