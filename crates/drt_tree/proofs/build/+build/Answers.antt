use Rattle.std.proofs.Common.{rules, ◌≡◌, ℕ, ◌+◌, ◌-◌, ◌/◌, ◌<◌, ◌≤◌, [], ◌∷◌, ◌++◌, Some, length, sym, ap, ◌∙◌, subst, arith}
use Rattle.drt_steps.specs.Values.{max_of}
use Rattle.drt_tree.specs.Tree.{Plain, plain, IsForest, Grows, node_values_in}
use Rattle.drt_tree.specs.Shape.{IsBuilt}
use Rattle.drt_tree.proofs.Trees.{grows_none, grows_long, children_stay, any_default, built_two, Paired}
use Rattle.drt_tree.proofs.build.+build.Goals as goal

pub returns-then-count-eq1-clause-grows : goal.returns-then-count-eq1-clause-grows
returns-then-count-eq1-clause-grows t c = grows_none (plain c.args.nodes.now.items c.args.pool.now.items)

pub build-requires-2 : goal.build-requires-2
build-requires-2 t c =
    let f : Plain = plain c.args.nodes.now.items c.args.pool.now.items in
    let a : Plain = plain c.build.new.nodes.items c.build.new.pool.items in
    let b : IsBuilt f a c.args.low (c.args.count - c.args.count / 2) c.in_ok-left.left = c.in_ok-left.ensures.built in
    let g : Grows f a = c.in_ok-left.ensures.grows in
    let long : length a.nodes + 1 ≡ length f.nodes + (c.args.count - c.args.count / 2) = b.long in
    let le : length f.nodes ≤ length a.nodes = grows_long f a g in
    (omega arith, (b.forest, (omega arith, (omega arith, (λ k from to. children_stay f a k g (omega arith) ∙ c.requires.leaves k (omega arith) (omega arith), omega arith)))))

pub max_of-requires : goal.max_of-requires
max_of-requires t c =
    let f : Plain = plain c.args.nodes.now.items c.args.pool.now.items in
    let a : Plain = plain c.build.new.nodes.items c.build.new.pool.items in
    let b : Plain = plain c.build-2.new.nodes.items c.build-2.new.pool.items in
    let l : ℕ = c.in_ok-left.left in
    let r : ℕ = c.in_ok-right.right in
    let k : IsForest b = c.in_ok-right.ensures.built.forest in
    let s : length b.nodes ≡ length b.pool = k.same in
    let wl : l < length a.nodes = c.in_ok-left.ensures.built.within in
    let ab : length a.nodes ≤ length b.nodes = grows_long a b c.in_ok-right.ensures.grows in
    let wr : r < length b.nodes = c.in_ok-right.ensures.built.within in
    let el : c.index.result.now ≡ node_values_in b l = c.index.ensures ∙ any_default c.index.result.now [] b.pool l (omega arith) in
    let er : c.index-2.result.now ≡ node_values_in b r = c.index-2.ensures ∙ any_default c.index-2.result.now [] b.pool r (omega arith) in
    ap length el ∙ (k.bound l r (omega arith) (omega arith) ∙ sym (ap length er))

pub returns-clause-built : goal.returns-clause-built
returns-clause-built t c =
    let f : Plain = plain c.args.nodes.now.items c.args.pool.now.items in
    let a : Plain = plain c.build.new.nodes.items c.build.new.pool.items in
    let b : Plain = plain c.build-2.new.nodes.items c.build-2.new.pool.items in
    let g : Plain = plain c.push-2.new.self.items c.push.new.self.items in
    let l : ℕ = c.in_ok-left.left in
    let r : ℕ = c.in_ok-right.right in
    let count : ℕ = c.args.count in
    let k : IsForest b = c.in_ok-right.ensures.built.forest in
    let s : length b.nodes ≡ length b.pool = k.same in
    let wl : l < length a.nodes = c.in_ok-left.ensures.built.within in
    let ab : length a.nodes ≤ length b.nodes = grows_long a b c.in_ok-right.ensures.grows in
    let wr : r < length b.nodes = c.in_ok-right.ensures.built.within in
    let el : c.index.result.now ≡ node_values_in b l = c.index.ensures ∙ any_default c.index.result.now [] b.pool l (omega arith) in
    let er : c.index-2.result.now ≡ node_values_in b r = c.index-2.ensures ∙ any_default c.index-2.result.now [] b.pool r (omega arith) in
    let most : c.in_ok-most.most ≡ max_of (node_values_in b l) (node_values_in b r) = c.in_ok-most.ensures
    ∙ (ap (λ z. max_of z c.index-2.result.now) el ∙ ap (λ z. max_of (node_values_in b l) z) er) in
    let none : c.from_vec.result ≡ [] = c.from_vec.ensures ∙ c.new.ensures.items in
    let p : Paired b count l r g = record {
      nodes = c.in_ok-push-2.ensures.items ∙ ap (λ z. b.nodes ++ record { children = Some (l, r); leaves = count; walk = z } ∷ []) none;
      pool = c.in_ok-push.ensures.items ∙ ap (λ z. b.pool ++ z ∷ []) most;
    } in
    let built : IsBuilt f g c.args.low count (length b.nodes) =
    built_two f a b g c.args.low count (count - count / 2) (count / 2) l r (omega arith) (omega arith) (omega arith) c.in_ok-left.ensures.grows c.in_ok-left.ensures.built
    c.in_ok-right.ensures.grows c.in_ok-right.ensures.built p in
    subst (λ (z : ℕ). IsBuilt f g c.args.low count z) (let e : length c.build-2.new.nodes.items ≡ c.len-root.result = search rules in e) built
