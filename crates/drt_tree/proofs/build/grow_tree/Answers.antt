use Rattle.std.proofs.Common.{rules, ◌≡◌, ◌+◌, List, length, sym, ap, ◌∙◌, subst, arith}
use Rattle.std.specs.List.Sorted.{IsPermutation}
use Rattle.std.proofs.lemmas.List.Sorted.{length_permutation}
use Rattle.drt_tree.specs.declared.leaf.Leaf.{Leaf}
use Rattle.drt_tree.specs.Leaf.{leaves_of}
use Rattle.drt_tree.specs.Tree.{Plain, plain, IsForest, with_leaves, children}
use Rattle.drt_tree.specs.Shape.{IsBuilt, IsTreeAdded}
use Rattle.drt_tree.proofs.Trees.{grows_none, with_forest, with_long, one_bound, leaf_none, length-leaves_of, plain_is, added, if_ok_more}
use Rattle.drt_tree.proofs.build.grow_tree.Goals as goal

pub returns-in_err-leaves-clause-grows : goal.returns-in_err-leaves-clause-grows
returns-in_err-leaves-clause-grows c = grows_none (plain c.args.nodes.now.items c.args.pool.now.items)

pub returns-in_err-sort_leaves-clause-grows : goal.returns-in_err-sort_leaves-clause-grows
returns-in_err-sort_leaves-clause-grows c = grows_none (plain c.args.nodes.now.items c.args.pool.now.items)

pub overflow_cast-count : goal.overflow_cast-count
overflow_cast-count c =
    let sorted : List Leaf = c.sort_leaves.new.leaves.items in
    let ls : List Leaf = leaves_of c.args.labels.now c.args.walks.now in
    let perm : IsPermutation ls sorted = subst (λ (z : List Leaf). IsPermutation z sorted) c.in_ok-leaves.ensures c.in_ok-sort_leaves.ensures.permutation in
    let a : length sorted ≡ length ls = length_permutation ls sorted perm in
    let b : length ls ≡ length c.args.labels.now = length-leaves_of c.args.labels.now c.args.walks.now c.requires.same in
    let n : length c.sort_leaves.new.leaves.items ≡ c.len-count.result = search rules in
    omega (arith, c.requires.room)

pub build-requires-clause-forest : goal.build-requires-clause-forest
build-requires-clause-forest c =
    let sorted : List Leaf = c.sort_leaves.new.leaves.items in
    let ls : List Leaf = leaves_of c.args.labels.now c.args.walks.now in
    let f : Plain = plain c.args.nodes.now.items c.args.pool.now.items in
    let perm : IsPermutation ls sorted = subst (λ (z : List Leaf). IsPermutation z sorted) c.in_ok-leaves.ensures c.in_ok-sort_leaves.ensures.permutation in
    let e : plain c.place.new.nodes.items c.place.new.pool.items ≡ with_leaves f sorted = plain_is c.place.new.nodes.items _ c.place.new.pool.items _
    c.in_ok-place.ensures.nodes c.in_ok-place.ensures.pool in
    subst (λ (z : Plain). IsForest z) (sym e) (with_forest f sorted c.requires.forest (one_bound f.pool ls sorted perm c.requires.bound))

pub build-requires-clause-some : goal.build-requires-clause-some
build-requires-clause-some c =
    let sorted : List Leaf = c.sort_leaves.new.leaves.items in
    let ls : List Leaf = leaves_of c.args.labels.now c.args.walks.now in
    let perm : IsPermutation ls sorted = subst (λ (z : List Leaf). IsPermutation z sorted) c.in_ok-leaves.ensures c.in_ok-sort_leaves.ensures.permutation in
    let a : length sorted ≡ length ls = length_permutation ls sorted perm in
    let b : length ls ≡ length c.args.labels.now = length-leaves_of c.args.labels.now c.args.walks.now c.requires.same in
    let n : length c.sort_leaves.new.leaves.items ≡ c.len-count.result = search rules in
    omega (arith, c.requires.some)

pub build-requires-clause-leaves : goal.build-requires-clause-leaves
build-requires-clause-leaves c k from to =
    let sorted : List Leaf = c.sort_leaves.new.leaves.items in
    let f : Plain = plain c.args.nodes.now.items c.args.pool.now.items in
    let e : plain c.place.new.nodes.items c.place.new.pool.items ≡ with_leaves f sorted = plain_is c.place.new.nodes.items _ c.place.new.pool.items _
    c.in_ok-place.ensures.nodes c.in_ok-place.ensures.pool in
    let n : length c.args.nodes.now.items ≡ c.len-low.result = search rules in
    ap (λ z. children z k) e ∙ leaf_none f sorted k (omega arith)

pub build-requires-clause-room : goal.build-requires-clause-room
build-requires-clause-room c =
    let sorted : List Leaf = c.sort_leaves.new.leaves.items in
    let ls : List Leaf = leaves_of c.args.labels.now c.args.walks.now in
    let f : Plain = plain c.args.nodes.now.items c.args.pool.now.items in
    let perm : IsPermutation ls sorted = subst (λ (z : List Leaf). IsPermutation z sorted) c.in_ok-leaves.ensures c.in_ok-sort_leaves.ensures.permutation in
    let a : length sorted ≡ length ls = length_permutation ls sorted perm in
    let b : length ls ≡ length c.args.labels.now = length-leaves_of c.args.labels.now c.args.walks.now c.requires.same in
    let n : length c.sort_leaves.new.leaves.items ≡ c.len-count.result = search rules in
    let w : length (with_leaves f sorted).nodes ≡ length c.args.nodes.now.items + length sorted = with_long f sorted in
    let l : length c.place.new.nodes.items ≡ length (with_leaves f sorted).nodes = ap length c.in_ok-place.ensures.nodes in
    omega (arith, c.requires.room)

pub returns-clause-added : goal.returns-clause-added
returns-clause-added c =
    let sorted : List Leaf = c.sort_leaves.new.leaves.items in
    let ls : List Leaf = leaves_of c.args.labels.now c.args.walks.now in
    let f : Plain = plain c.args.nodes.now.items c.args.pool.now.items in
    let p : Plain = plain c.place.new.nodes.items c.place.new.pool.items in
    let g : Plain = plain c.build.new.nodes.items c.build.new.pool.items in
    let perm : IsPermutation ls sorted = subst (λ (z : List Leaf). IsPermutation z sorted) c.in_ok-leaves.ensures c.in_ok-sort_leaves.ensures.permutation in
    let e : p ≡ with_leaves f sorted = plain_is c.place.new.nodes.items _ c.place.new.pool.items _ c.in_ok-place.ensures.nodes c.in_ok-place.ensures.pool in
    let a : length sorted ≡ length ls = length_permutation ls sorted perm in
    let n : length c.sort_leaves.new.leaves.items ≡ c.len-count.result = search rules in
    let m : length c.args.nodes.now.items ≡ c.len-low.result = search rules in
    if_ok_more (λ root. IsBuilt p g c.len-low.result c.len-count.result root) (λ root. IsTreeAdded f g ls root) c.build.result
    (λ root b. added f p g ls sorted c.len-low.result c.len-count.result root e perm c.in_ok-sort_leaves.ensures.sorted (sym m) (sym n ∙ a) c.build.ensures.grows b) c.build.ensures.built
