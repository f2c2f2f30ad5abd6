-- The items of combinations on a stack, put together, and what they prove of the tuples below these.
use Rattle.std.proofs.Common.{◌≡◌, ℕ, ◌≤◌, List, Option, set, [], ◌∷◌, ◌++◌, All, Some, length, refl, inl, inr, sym, ap, subst, arith, ◌∙◌, append_assoc}
use Rattle.std.specs.Prelude.{slice_get, slice_set}
use Rattle.std.proofs.lemmas.List.{append-nil}
use Rattle.std.proofs.lemmas.List.Elements.{All-cons, All-nil, All-pop, All-push}
use Rattle.drt_steps.specs.Time.{AreChosen, IsLeastTime, Passes}
use Rattle.drt_steps.specs.Values.{value_at}
use Rattle.drt_tree.specs.Tree.{IsForest, IsUnder, Plain, children, node_values_in}
use Rattle.drt_claims.specs.Ranges.{IsInRangeItem, IsNumber}
use Rattle.drt_claims.specs.declared.evidence.Item.{Item}
use Rattle.drt_claims.specs.declared.evidence.Item.TheVariants.{Pass, Split}
use Rattle.drt_refine.specs.Below.{AreBelow}
use Rattle.drt_refine.specs.Eager.{IsSplitPlace}
use Rattle.drt_refine.proofs.Below.{below_half, chosen_halves, length_set, passes_below}
use Rattle.drt_sp.specs.Items.{AreHalves, AreItems, IsProofOf, NonePasses, none, pass, split}
use Rattle.drt_worklist.proofs.Writes.{length_set as length_write, set_at}
use Rattle.std.proofs.lemmas.Option.{same_Some}
use Rattle.drt_model.specs.Numbers.{most_time}
use Rattle.drt_refine.specs.Combination.{Combination}
use Rattle.drt_sp.specs.declared.parts.Part.{Part}
use Rattle.drt_sp.specs.Parts.{AreEndOf, CanEnd, HasParts, IsEndOf, IsNextItem, IsPart, upright}

module _ (f : Plain) (w d : ℕ) where
  -- the items of two stacks, one after the other
  pub items_join : (items more : List Item) (stack under : List (List ℕ)) → AreItems f w d items stack → AreItems f w d more under → AreItems f w d (items ++ more) (stack ++ under)
  items_join items more stack under none h = h
  items_join items more stack under (pass t rest nodes below least are) h = pass t (rest ++ more) nodes (below ++ under) least (items_join rest more below under are h)
  items_join items more stack under (split place l r rest nodes below hopeless place_is halves are) h =
      split place l r (rest ++ more) nodes (below ++ under) hopeless place_is halves (items_join rest more (slice_set nodes place l ∷ slice_set nodes place r ∷ below) under are h)

  module _ (above : (leaf n t : ℕ) → IsUnder f leaf n → value_at (node_values_in f leaf) t ≤ value_at (node_values_in f n) t) where
    -- for each tuple below the nodes a time passes
    abbrev TuplesPass : List ℕ → Type 0
    TuplesPass nodes = (tuple : List ℕ) → AreBelow f tuple nodes → (t : ℕ) × Passes w d f.pool tuple t

    abbrev EachPasses : List (List ℕ) → Type 0
    EachPasses [] = Unit {0}
    EachPasses (nodes ∷ stack) = TuplesPass nodes × EachPasses stack

    each_passes : (items : List Item) (stack : List (List ℕ)) → AreItems f w d items stack → EachPasses stack
    each_passes items stack none = tt
    each_passes items stack (pass t rest nodes below least are) = ((λ tuple h. (t, passes_below f above w d tuple nodes t h least.passes)), each_passes rest below are)
    each_passes items stack (split place l r rest nodes below hopeless place_is halves are) =
        let both : EachPasses (slice_set nodes place l ∷ slice_set nodes place r ∷ below) = each_passes rest (slice_set nodes place l ∷ slice_set nodes place r ∷ below) are in (
          (λ tuple h. elim (below_half f tuple nodes place halves.node l r halves.at halves.children h) as (λ _. (t : ℕ) × Passes w d f.pool tuple t) [
            | inl low ↦ both.0 tuple low
            | inr high ↦ both.1.0 tuple high
          ]),
          both.1.1,
        )

    pub items_prove : (roots : List ℕ) (items : List Item) → AreItems f w d items (roots ∷ []) → IsProofOf f w d roots items
    items_prove roots items are = record { items_are = are; each = (each_passes items (roots ∷ []) are).0 }

pub empty_of : {A : Type 0} (xs : List A) → length xs ≡ 0 → xs ≡ []
empty_of [] h = refl
empty_of (x ∷ xs) h = absurd (omega arith)

pub upright_push : (stack : List (List ℕ)) (nodes : List ℕ) (under : List (List ℕ)) → upright (stack ++ nodes ∷ []) under ≡ nodes ∷ upright stack under
upright_push [] nodes under = refl
upright_push (n ∷ stack) nodes under = upright_push stack nodes (n ∷ under)

pub upright_two : (stack : List (List ℕ)) (a b : List ℕ) (under : List (List ℕ)) → upright (stack ++ a ∷ b ∷ []) under ≡ b ∷ a ∷ upright stack under
upright_two [] a b under = refl
upright_two (n ∷ stack) a b under = upright_two stack a b (n ∷ under)

module _ (f : Plain) (w d : ℕ) (nodes : List ℕ) where
  -- a time that passes ends the combination
  pub next_pass : (t : ℕ) (old : List (List ℕ)) → d ≤ most_time → IsLeastTime w d f.pool nodes t → IsNextItem f w d nodes old old (Pass t)
  next_pass t old small least = record {
    goes = λ more h. pass t more nodes (upright old []) least h;
    in_range = let le : t ≤ d = least.passes.to in omega (arith, small);
    can = λ h. h;
  }

  -- the widest place splits it
  pub next_split : (place node l r : ℕ) (old new : List (List ℕ)) → IsForest f → CanEnd f w d nodes → NonePasses f w d nodes → IsSplitPlace f nodes (Some place)
      → slice_get nodes place ≡ Some node → children f node ≡ Some (l, r) → IsNumber place → new ≡ (old ++ slice_set nodes place r ∷ []) ++ slice_set nodes place l ∷ []
      → IsNextItem f w d nodes old new (Split place)
  next_split place node l r old new forest can hopeless is at pair number e =
      let low = slice_set nodes place l in
      let high = slice_set nodes place r in
      let chosen : AreChosen d f.pool low × AreChosen d f.pool high = chosen_halves f forest d nodes place node l r at pair can.chosen in
      let few : length nodes ≤ 31 = can.few in
      let low_can : CanEnd f w d low = record { few = omega (arith, length_set nodes place l, few); chosen = chosen.0 } in
      let high_can : CanEnd f w d high = record { few = omega (arith, length_set nodes place r, few); chosen = chosen.1 } in
      let top : upright new [] ≡ low ∷ high ∷ upright old [] =
      ap (λ (s : List (List ℕ)). upright s []) e ∙ (upright_push (old ++ high ∷ []) low [] ∙ ap (λ (s : List (List ℕ)). low ∷ s) (upright_push old high [])) in
      let halves : AreHalves f w d nodes place l r = record { node = node; at = at; children = pair } in
      record {
        goes = λ more h. split place l r more nodes (upright old []) hopeless is halves (subst (λ (s : List (List ℕ)). AreItems f w d more s) top h);
        in_range = number;
        can = λ h. subst (λ (s : List (List ℕ)). All (CanEnd f w d) s) (sym e)
            (All-push (CanEnd f w d) (old ++ high ∷ []) low (All-push (CanEnd f w d) old high h high_can) low_can);
      }

  -- the items so far, and whatever items end the stack, end the nodes
  pub record IsEnding (items : List Item) (stack : List (List ℕ)) : Type 0 where
    pub goes : (more : List Item) → AreItems f w d more (upright stack []) → AreItems f w d (items ++ more) (nodes ∷ [])
    pub in_range : All IsInRangeItem items
    pub can : All (CanEnd f w d) stack

  pub ending_start : (stack : List (List ℕ)) → stack ≡ nodes ∷ [] → CanEnd f w d nodes → IsEnding [] stack
  ending_start stack e can = record {
    goes = λ more h. subst (λ (s : List (List ℕ)). AreItems f w d more (upright s [])) e h;
    in_range = All-nil IsInRangeItem;
    can = subst (λ (s : List (List ℕ)). All (CanEnd f w d) s) (sym e) (All-cons (CanEnd f w d) nodes [] can (All-nil (CanEnd f w d)));
  }

  pub ending_end : (items : List Item) → IsEnding items [] → AreEndOf f w d nodes items
  ending_end items h = record {
    items_are = subst (λ (l : List Item). AreItems f w d l (nodes ∷ [])) (append-nil items) (h.goes [] none);
    in_range = h.in_range;
  }

  pub ending_more : (items : List Item) (rest new : List (List ℕ)) (top : List ℕ) (item : Item) → IsEnding items (rest ++ top ∷ []) → IsNextItem f w d top rest new item
      → IsEnding (items ++ item ∷ []) new
  ending_more items rest new top item h next = record {
    goes = λ more g. subst (λ (l : List Item). AreItems f w d l (nodes ∷ [])) (sym (append_assoc items (item ∷ []) more))
        (h.goes (item ∷ more) (subst (λ (s : List (List ℕ)). AreItems f w d (item ∷ more) s) (sym (upright_push rest top [])) (next.goes more g)));
    in_range = All-push IsInRangeItem items item h.in_range next.in_range;
    can = next.can (All-pop (CanEnd f w d) (rest ++ top ∷ []) rest (Some top) refl h.can).0;
  }

-- a part comes to its place
pub parts_put : (f : Plain) (w d : ℕ) (cs : List Combination) (old new : List (Option (List Item))) (part : Part) → HasParts f w d cs old → IsPart f w d cs part
    → new ≡ set old part.id (Some part.items) → HasParts f w d cs new
parts_put f w d cs old new part h is e = record {
  count = ap length e ∙ (length_write old part.id (Some part.items) ∙ h.count);
  are = λ id items at. elim (set_at old part.id (Some part.items) id (Some items) (ap (λ (l : List (Option (List Item))). slice_get l id) (sym e) ∙ at)) as (λ _. IsEndOf f w d cs id items) [
    | inl here ↦ (
        let same : items ≡ part.items = same_Some items part.items here.1 in
        let ends : IsEndOf f w d cs id part.items = subst (λ (n : ℕ). IsEndOf f w d cs n part.items) (sym here.0) is.1 in
        subst (λ (l : List Item). IsEndOf f w d cs id l) (sym same) ends)
    | inr other ↦ h.are id items other.1
  ];
}
