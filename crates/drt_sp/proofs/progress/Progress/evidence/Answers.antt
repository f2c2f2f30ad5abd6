use Rattle.std.proofs.Common.{List, subst, sym, ◌∙◌}
use Rattle.drt_claims.specs.Ranges.{IsEvidenceInRange}
use Rattle.drt_claims.specs.declared.evidence.Evidence.TheVariants.{FixedYes}
use Rattle.drt_claims.specs.declared.evidence.ProofClaim.{ProofClaim}
use Rattle.drt_claims.specs.declared.evidence.TreeClaim.{TreeClaim}
use Rattle.drt_sp.specs.Answers.{IsExactTreeYes}
use Rattle.drt_sp.proofs.Yes.{is_in_range, is_yes}
use Rattle.drt_sp.proofs.progress.Progress.evidence.Goals as goal

pub returns-clause-verdict : goal.returns-clause-verdict
returns-clause-verdict c =
    let set = c.args.set.now in
    let (order, is) = c.requires in
    let rows : List (List ProofClaim) = c.args.self.proofs.items in
    let yes = is_yes set.tasks order is.order_is set.version c.keep_limits.ensures.limits is.last is.whole c.args.self.forest
    c.args.self.roots.items c.args.self.trees.items is.grown rows is.proved c.keep_limits.ensures.constrained c.times_decide.ensures in
    subst (λ (ts : List TreeClaim). IsExactTreeYes set ts c.from_vec-2.result) (sym c.from_vec.ensures)
    (subst (λ (ps : List ProofClaim). IsExactTreeYes set c.args.self.trees.items ps) (sym (c.from_vec-2.ensures ∙ c.in_ok-joined.ensures)) yes)

pub returns-clause-range : goal.returns-clause-range
returns-clause-range c =
    let set = c.args.set.now in
    let (order, is) = c.requires in
    let rows : List (List ProofClaim) = c.args.self.proofs.items in
    let range = is_in_range set.tasks order is.order_is set.version c.keep_limits.ensures.limits is.last
    is.whole c.args.self.forest c.args.self.roots.items c.args.self.trees.items is.grown rows is.proved in
    subst (λ (ts : List TreeClaim). IsEvidenceInRange (FixedYes ts c.from_vec-2.result)) (sym c.from_vec.ensures)
    (subst (λ (ps : List ProofClaim). IsEvidenceInRange (FixedYes c.args.self.trees.items ps)) (sym (c.from_vec-2.ensures ∙ c.in_ok-joined.ensures)) range)
