use Rattle.std.proofs.Common.{map}
use Rattle.std.specs.Prelude.{codes, decimal}
use Rattle.std.specs.Fmt.{signed_decimal}
use Rattle.drt_evidence.specs.Text.{list_line, ratio_line}
use Rattle.drt_evidence.proofs.Joins.{three_lines}
use Rattle.drt_evidence.proofs.printing.ratios.push_ratio.Goals as goal

pub returns : goal.returns
returns c =
    let r = c.args.ratio.now in
    three_lines c.args.text.now.items c.push_fraction.new.text.items c.push_numbers.new.text.items c.push_signed.new.text.items
    (ratio_line r) (list_line (codes "cycle") (map decimal r.cycle)) (list_line (codes "potentials") (map signed_decimal r.potentials))
    c.in_ok-push_fraction.ensures (rw c.as_slice.ensures at c.in_ok-push_numbers.ensures) (rw c.as_slice-2.ensures at c.in_ok-push_signed.ensures)
