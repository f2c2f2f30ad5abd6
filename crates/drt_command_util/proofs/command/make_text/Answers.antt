-- The text says the ratios and the utilisation.
use Rattle.std.proofs.Common.{map, subst}
use Rattle.drt_model.specs.Digraph.{digraph_of}
use Rattle.drt_model.specs.Utilisation.{AreRatios}
use Rattle.drt_ratio.specs.SetRatios.{IsRatioSum}
use Rattle.drt_rates.specs.RatioClaims.{fractions}
use Rattle.drt_command_util.proofs.command.make_text.Goals as goal

pub returns-in-Ok-print_lines-clause-text : goal.returns-in-Ok-print_lines-clause-text
returns-in-Ok-print_lines-clause-text c =
    let ps = c.in-Ok.proofs.items in
    let u : IsRatioSum (fractions ps) c.in-Some.total.num c.in-Some.total.den = rw c.as_slice.ensures.value at c.in-Some.ensures in
    let are : AreRatios (map digraph_of c.args.set.now.tasks) (fractions ps)
    = subst (λ gs. AreRatios gs (fractions ps)) c.requires (c.proofs_give_ratios.ensures c.args.graphs.now ps c.in-Ok.ensures.are) in
    record {
      ratios = fractions ps;
      are = are;
      scale = u.0;
      is_scale = u.1;
      fine = u.2;
      total = record { num = c.in-Some.total.num; den = c.in-Some.total.den };
      lowest = u.4;
      value = u.3;
      text_is = rw (c.tasks.ensures.tasks, c.as_slice-2.ensures.value) at c.in-Ok-print_lines.ensures;
    }
