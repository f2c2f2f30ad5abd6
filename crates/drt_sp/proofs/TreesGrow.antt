-- What is said of a tree of a forest stays true while the forest grows.
use Rattle.std.proofs.Common.{◌≡◌, ℕ, ◌+◌, ◌<◌, ◌≤◌, Bool, true, false, cond, Some, List, [], ◌∷◌, length, sym, ap, ◌∙◌, subst, arith}
use Rattle.std.specs.Prelude.{slice_get}
use Rattle.drt_model.specs.Digraph.{Digraph}
use Rattle.drt_steps.specs.Values.{value_at}
use Rattle.drt_tree.specs.Tree.{Plain, Grows, IsForest, IsPair, LeadsToLeaf, children, node_values_in, walk, node_walk}
use Rattle.drt_tree.proofs.Trees.{children_stay, get_front, grows_long, values_stay}
use Rattle.drt_model.specs.Walk.{IsWalk, request_of}
use Rattle.drt_sp.specs.Choices.{StandsFor}
use Rattle.drt_claims.specs.Trees.{root}
use Rattle.drt_claims.specs.declared.evidence.TreeClaim.{TreeClaim}
use Rattle.drt_sp.specs.TreeClaims.{IsClaimOf, lowered}

module _ (f h : Plain) (forest : IsForest f) (grows : Grows f h) where
  walk_stays : (n : ℕ) → n < length f.nodes → walk h n ≡ walk f n
  walk_stays n l = ap (λ xs. node_walk (slice_get xs n)) grows.nodes ∙ ap node_walk (get_front f.nodes grows.more n l)

  values_stay_there : (n : ℕ) → n < length f.nodes → node_values_in h n ≡ node_values_in f n
  values_stay_there n l = let s = forest.same in values_stay f h n grows (omega (arith, l, s))

  child_there : (n l r : ℕ) (b : Bool) → n < length f.nodes → children f n ≡ Some (l, r) → cond b l r < length f.nodes
  child_there n l r b w e = go b
    where
      p : IsPair f n l r
      p = forest.pairs n l r e

      go : (b : Bool) → cond b l r < length f.nodes
      go true = let a = p.left in omega (arith, a, w)
      go false = let a = p.right in omega (arith, a, w)

  -- What leads from a node to a leaf leads to it in both.
  leads_on : (n : ℕ) (turns : List Bool) (leaf : ℕ) → n < length f.nodes → LeadsToLeaf f n turns leaf → LeadsToLeaf h n turns leaf
  leads_on n [] leaf w l = (l.0, children_stay f h n grows w ∙ l.1)
  leads_on n (b ∷ turns) leaf w l = (l.0, l.1, children_stay f h n grows w ∙ l.2, leads_on (cond b l.0 l.1) turns leaf (child_there n l.0 l.1 b w l.2) l.3)

  leads_back : (n : ℕ) (turns : List Bool) (leaf : ℕ) → n < length f.nodes → LeadsToLeaf h n turns leaf → LeadsToLeaf f n turns leaf
  leads_back n [] leaf w l = (l.0, sym (children_stay f h n grows w) ∙ l.1)
  leads_back n (b ∷ turns) leaf w l =
      let e : children f n ≡ Some (l.0, l.1) = sym (children_stay f h n grows w) ∙ l.2 in
      (l.0, l.1, e, leads_back (cond b l.0 l.1) turns leaf (child_there n l.0 l.1 b w e) l.3)

  leaf_there : (n : ℕ) (turns : List Bool) (leaf : ℕ) → n < length f.nodes → LeadsToLeaf f n turns leaf → leaf < length f.nodes
  leaf_there n [] leaf w l = subst (λ k. k < length f.nodes) l.0 w
  leaf_there n (b ∷ turns) leaf w l = leaf_there (cond b l.0 l.1) turns leaf (child_there n l.0 l.1 b w l.2) l.3

  -- A tree stands for the walks of its task as long as its forest grows.
  pub stands_for_on : (g : Digraph) (bound root : ℕ) → root < length f.nodes → StandsFor g bound f root → StandsFor g bound h root
  stands_for_on g bound root w is = record {
    covers = λ ws walk.
        let c = is.covers ws walk in
        let l = leaf_there root c.1.0 c.0 w c.1.1 in
        (c.0, (c.1.0, leads_on root c.1.0 c.0 w c.1.1), λ t from to. subst (λ xs. request_of g ws t ≤ value_at xs t) (sym (values_stay_there c.0 l)) (c.2 t from to));
    walks = λ leaf under.
        let b = leads_back root under.0 leaf w under.1 in
        subst (IsWalk g) (sym (walk_stays leaf (leaf_there root under.0 leaf w b))) (is.walks leaf (under.0, b));
    asks = λ leaf t under from to.
        let b = leads_back root under.0 leaf w under.1 in
        let l = leaf_there root under.0 leaf w b in
        ap (λ xs. value_at xs t) (values_stay_there leaf l) ∙ (is.asks leaf t (under.0, b) from to ∙ ap (λ ws. request_of g ws t) (sym (walk_stays leaf l)));
  }

  -- A claim is that of its tree as long as the forest grows.
  pub claim_on : (g : Digraph) (bound low top : ℕ) (claim : TreeClaim) → IsClaimOf g bound f low top claim → IsClaimOf g bound h low top claim
  claim_on g bound low top claim is = record {
    root_is = is.root_is;
    within = (let w = is.within in let l = grows_long f h grows in omega (arith, w, l));
    parts = λ n le. is.parts n le ∙ ap (λ o. lowered low o) (sym (children_stay f h (low + n) grows (there n le)));
    above = λ n l r le e. is.above n l r le (sym (children_stay f h (low + n) grows (there n le)) ∙ e);
    values = λ n t le from to. is.values n t le from to ∙ ap (λ xs. value_at xs t) (sym (values_stay_there (low + n) (there n le)));
  }
    where
      there : (n : ℕ) → n ≤ root claim → low + n < length f.nodes
      there n le = let w = is.within in let e = is.root_is in omega (arith, le, w, e)
