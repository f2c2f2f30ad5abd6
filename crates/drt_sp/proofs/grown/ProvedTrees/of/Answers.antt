use Rattle.std.proofs.Common.{List, ℕ, sym, subst}
use Rattle.drt_sp.specs.Grown.{AreProvedTrees}
use Rattle.drt_sp.specs.declared.grown.ProvedTrees.{ProvedTrees}
use Rattle.drt_sp.proofs.Ended.{proved_trees}
use Rattle.drt_sp.proofs.grown.ProvedTrees.of.Goals as goal

pub returns : goal.returns
returns c =
    let f = c.args.progress.forest in
    let shown : (roots order : List ℕ) → ProvedTrees = λ roots order. record { forest = f; roots = roots; order = order } in
    let made = proved_trees c.args.set.now c.args.order c.args.progress c.keep_limits.ensures.limits c.keep_limits.ensures.constrained c.times_decide.ensures c.show_sound.ensures c.requires in
    subst (λ (roots : List ℕ). AreProvedTrees c.args.set.now (shown roots c.args.order)) (sym c.from_vec.ensures) made
