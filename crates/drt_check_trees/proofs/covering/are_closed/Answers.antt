use Rattle.std.proofs.Common.{◌≡◌, ℕ, ◌<◌, inl, inr, List, [], length, get_or, refl, ap, subst, arith, ◌∙◌}
use Rattle.std.proofs.lemmas.Bool.{cases_lt}
use Rattle.std.proofs.lemmas.List.{get_or_default}
use Rattle.drt_claims.specs.Trees.{IsClosedWalk}
use Rattle.drt_check_trees.specs.declared.entries.Entry.{Entry}
use Rattle.drt_check_trees.proofs.Domination.{closed_over}
use Rattle.drt_check_trees.proofs.covering.are_closed.Goals as goal

pub loop-i-preserved : goal.loop-i-preserved
loop-i-preserved c = λ j d l.
    let g = c.args.bounded.now.graph.now in
    let i : ℕ = c.loop-i.i in
    let entries : List Entry = c.args.catalogue.now.entries.now in
    let none : Entry = record { last = 0; work = record { 0 = 0 }; span = 0; digest = 0; number = 0 } in
    let m : i < length entries = c.loop-i-test.true in
    let at : c.walk_at-walk.result.now ≡ get_or c.args.catalogue.now.tree.now.walks (get_or entries i none).number []
    = c.walk_at-walk.ensures in
    elim (cases_lt j c.loop-i.i) [
      | inl q ↦ c.loop-i.invariant j d q
      | inr q ↦ (
          let e : c.loop-i.i ≡ j = omega (arith, l, q) in
          let same : get_or entries i none ≡ get_or entries j d = get_or_default entries i none d m ∙ ap (λ (k : ℕ). get_or entries k d) e in
          let closed : IsClosedWalk c.args.bounded.now.bound g c.args.catalogue.now.tree.now c.walk_at-walk.result.now = c.in_ok-is_closed.ensures.0 c.if-not-branch.false in
          subst (λ (w : List ℕ). IsClosedWalk c.args.bounded.now.bound g c.args.catalogue.now.tree.now w) (at ∙ ap (λ (x : Entry). get_or c.args.catalogue.now.tree.now.walks x.number []) same) closed)
    ]

pub returns : goal.returns
returns c = (
  λ t. λ k d l.
      let g = c.args.bounded.now.graph.now in
      let found = c.requires.catalogue.entries.every k d l in
      let here = c.loop-i.invariant found.0 found.1 (omega (arith, found.2, c.loop-i-test.false)) in
      closed_over g c.args.bounded.now.bound c.args.catalogue.now.tree.now (get_or c.args.catalogue.now.tree.now.walks k d) (get_or c.args.catalogue.now.tree.now.walks found.1.number []) found.4
      (subst (λ (x : Entry). IsClosedWalk c.args.bounded.now.bound g c.args.catalogue.now.tree.now (get_or c.args.catalogue.now.tree.now.walks x.number [])) found.3 here),
  λ all. refl,
)
