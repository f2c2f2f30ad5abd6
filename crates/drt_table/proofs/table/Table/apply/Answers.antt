use Rattle.std.proofs.Common.{sym, ◌∙◌, subst}
use Rattle.std.proofs.lemmas.Option.{same_Some}
use Rattle.drt_table.specs.Machine.{extended}
use Rattle.drt_table.specs.View.{ComesWith, setting_of}
use Rattle.drt_table.specs.declared.step.TableStep.{TableStep}
use Rattle.drt_table.specs.declared.step.TableStep.TheVariants.{Offer}
use Rattle.drt_table.proofs.table.Table.apply.Goals as goal

pub offer-requires-clause-comes : goal.offer-requires-clause-comes
offer-requires-clause-comes g c κs within =
    let a = g.L.Label.algebra in
    let comes : ComesWith a c.args.self.now (Offer c.in-Offer.node c.in-Offer.edge) c.args.label = subst (λ (s : TableStep). ComesWith a c.args.self.now s c.args.label)
    c.in-Offer.is c.requires.comes in
    (comes.0, comes.1, same_Some c.in-Some.twin (extended a (setting_of c.args.self.now) comes.0.label c.in-Offer.edge) (sym c.in-Some.is ∙ comes.2))
