use Rattle.std.proofs.Common.{Some, None, cond, sym, ap, ◌∙◌, subst}
use Rattle.std.specs.Prelude.{IsTrue}
use Rattle.drt_table.proofs.table.opening_twin.Goals as goal

pub in_range-requires-clause-of : goal.in_range-requires-clause-of
in_range-requires-clause-of g c =
    let a = g.L.Label.algebra in
    let laws = (g.met.L.Label g.world.𝓛 g.world.𝓜 g.world.𝓡 ((λ s x. x), (λ x. x), (λ x. x), λ x. x)).laws in
    subst (λ l. IsTrue (a.is_of l c.args.bound)) (sym c.in_ok-label.ensures) (laws.opening_of c.args.v c.args.wcet c.args.bound c.requires.bound)

pub returns-in_ok-new : goal.returns-in_ok-new
returns-in_ok-new g c =
    let a = g.L.Label.algebra in
    let l = a.opening c.args.v c.args.wcet c.args.bound in
    let in_range = sym c.if-in_range.true ∙ (c.in_range.ensures ∙ ap (λ x. a.in_range x c.args.deadline c.args.bound) c.in_ok-label.ensures) in
    ap Some (c.in_ok-new.ensures ∙ c.in_ok-label.ensures) ∙ ap (λ b. cond b (Some l) None) in_range

pub returns-else-in_range : goal.returns-else-in_range
returns-else-in_range g c =
    let a = g.L.Label.algebra in
    let l = a.opening c.args.v c.args.wcet c.args.bound in
    let in_range = sym c.if-in_range.false ∙ (c.in_range.ensures ∙ ap (λ x. a.in_range x c.args.deadline c.args.bound) c.in_ok-label.ensures) in
    ap (λ b. cond b (Some l) None) in_range
