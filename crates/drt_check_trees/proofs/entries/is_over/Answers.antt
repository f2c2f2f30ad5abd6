use Rattle.std.proofs.Common.{◌≡◌, ℕ, List, [], arith, get_or}
use Rattle.drt_claims.specs.Trees.{IsShortWalk}
use Rattle.drt_check_trees.specs.Entries.{last_in}
use Rattle.drt_check_trees.proofs.Dominators.{over_of, over_parts}
use Rattle.drt_check_trees.proofs.entries.is_over.Goals as goal

pub returns-then-entry-last_in : goal.returns-then-entry-last_in
returns-then-entry-last_in c = (
  λ t. absurd (cc),
  λ over.
      let parts = over_parts c.args.bounded.now.bound c.args.bounded.now.graph.now c.args.walk.now (get_or c.args.tree.now.walks c.args.entry.number []) over in
      absurd (omega (arith, parts.0, c.requires.entry.last, c.last_in.ensures, c.if-entry-last_in.true)),
)

pub returns : goal.returns
returns c =
    let bound = c.args.bounded.now.bound in
    let g = c.args.bounded.now.graph.now in
    let walk : List ℕ = c.args.walk.now in
    let x : List ℕ = get_or c.args.tree.now.walks c.args.entry.number [] in
    let is_x : IsShortWalk bound g x = c.requires.short c.args.entry.number [] c.requires.entry.number in
    let last : last_in x ≡ last_in walk = omega (arith, c.requires.entry.last, c.last_in.ensures, c.if-entry-last_in.false) in (
      λ t.
          let both = c.is_no_less.ensures.0 t in
          over_of bound g walk x c.requires.walk is_x last (omega (arith, both.0, c.requires.entry.span, c.requires.span)) both.1,
      λ over.
          let parts = over_parts bound g walk x over in
          c.is_no_less.ensures.1 (omega (arith, parts.1, c.requires.entry.span, c.requires.span), parts.2),
    )
