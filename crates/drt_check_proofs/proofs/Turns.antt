-- One more item of a proof, as far as the number of combinations goes and at a place.
use Rattle.std.proofs.Common.{◌≡◌, ℕ, zero, suc, ◌+◌, ◌<◌, ◌≤◌, Bool, true, false, List, length, get_or, drop, refl, sym, ap, ◌∙◌, arith, ltb}
use Rattle.std.specs.Prelude.{Option, Some, None, IsSome, if◌then◌else◌}
use Rattle.std.proofs.lemmas.List.{at_drop_more, drop_all}
use Rattle.drt_claims.specs.declared.evidence.Item.{Item}
use Rattle.drt_claims.specs.declared.evidence.Item.TheVariants.{Pass, Split}
use Rattle.drt_claims.specs.declared.evidence.TreeClaim.{TreeClaim}
use Rattle.drt_check_proofs.specs.Places.{after_all_at, after_at, depth_after, depth_after_all}

-- The item at a place of a list.
abbrev pub item_at : List Item → ℕ → Item
item_at items i = get_or items i (Pass 0)

pub none_not_some : {X : Type 0} (o : Option X) → o ≡ None → IsSome o → ⊥
none_not_some None e h = cc
none_not_some (Some x) e h = cc

pub some_is_some : {X : Type 0} (o : Option X) (x : X) → o ≡ Some x → IsSome o
some_is_some None x e = absurd (cc)
some_is_some (Some y) x e = refl

-- What the number comes to, one item on.
pub depth_turned : (width : ℕ) (items : List Item) (i n : ℕ) (o : Option ℕ) → i < length items → o ≡ depth_after width (item_at items i) n
    → depth_after_all width (drop i items) (Some n) ≡ depth_after_all width (drop (i + 1) items) o
unfolding depth_after_all
depth_turned width items i n o l e = at_drop_more (λ xs. depth_after_all width xs (Some n)) items i (Pass 0) l ∙ ap (depth_after_all width (drop (i + 1) items)) (sym e)

pub depth_stops : (width : ℕ) (items : List Item) (i n : ℕ) → i < length items → None ≡ depth_after width (item_at items i) n
    → depth_after_all width (drop i items) (Some n) ≡ None
unfolding depth_after_all
depth_stops width items i n l e = depth_turned width items i n None l e

pub depth_ended : (width : ℕ) (items : List Item) (i n : ℕ) → length items ≤ i → depth_after_all width (drop i items) (Some n) ≡ Some n
unfolding depth_after_all
depth_ended width items i n l = ap (λ xs. depth_after_all width xs (Some n)) (drop_all i items l)

pub depth_grows : (width : ℕ) (item : Item) (n next : ℕ) → Some next ≡ depth_after width item n → next ≤ n + 1
depth_grows width item zero next e = absurd (cc)
depth_grows width (Pass t) (suc n) next e = (let h : next ≡ n = cc in omega arith)
depth_grows width (Split place) (suc n) next e = go (ltb place width) e
  where
    go : (b : Bool) → Some next ≡ (if b then Some (suc (suc n)) else None) → next ≤ suc n + 1
    go true h = (let k : next ≡ suc (suc n) = cc in omega arith)
    go false h = absurd (cc)

-- What the nodes come to, one item on.
pub nodes_turned : (tree : TreeClaim) (place : ℕ) (items : List Item) (i : ℕ) (nodes : List ℕ) (o : Option (List ℕ)) → i < length items → after_at tree place (item_at items i) nodes ≡ o
    → after_all_at tree place (drop i items) (Some nodes) ≡ after_all_at tree place (drop (i + 1) items) o
unfolding after_all_at
nodes_turned tree place items i nodes o l e =
    at_drop_more (λ xs. after_all_at tree place xs (Some nodes)) items i (Pass 0) l ∙ ap (after_all_at tree place (drop (i + 1) items)) e

pub nodes_stop : (tree : TreeClaim) (place : ℕ) (items : List Item) (i : ℕ) (nodes : List ℕ) → i < length items → after_at tree place (item_at items i) nodes ≡ None
    → after_all_at tree place (drop i items) (Some nodes) ≡ None
unfolding after_all_at
nodes_stop tree place items i nodes l e = nodes_turned tree place items i nodes None l e

pub nodes_ended : (tree : TreeClaim) (place : ℕ) (items : List Item) (i : ℕ) (nodes : List ℕ) → length items ≤ i → after_all_at tree place (drop i items) (Some nodes) ≡ Some nodes
unfolding after_all_at
nodes_ended tree place items i nodes l = ap (λ xs. after_all_at tree place xs (Some nodes)) (drop_all i items l)
