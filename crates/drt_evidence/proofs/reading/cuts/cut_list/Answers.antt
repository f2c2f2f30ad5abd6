use Rattle.std.proofs.Common.{subst, sym}
use Rattle.drt_evidence.specs.Cuts.{IsFormCut, counted_form, left}
use Rattle.drt_evidence.specs.LineForms.{AreItemsCounted}
use Rattle.drt_evidence.proofs.Cuts.{list_broken_off, list_cut, list_none}
use Rattle.drt_evidence.proofs.Forms.{number_no_space}
use Rattle.drt_evidence.proofs.reading.cuts.cut_list.Goals as goal

pub cut_one-requires : goal.cut_one-requires
cut_one-requires g c = number_no_space

pub returns-in-None : goal.returns-in-None
returns-in-None g c = list_none g.G.Group.form g.G.Group.is_stated g.met.G.Group.spaced (left c.args.rest) c.in-None.ensures

pub returns-in-Some-2 : goal.returns-in-Some-2
returns-in-Some-2 g c =
    subst (λ xs. IsFormCut (counted_form g.G.Group.form) (AreItemsCounted g.G.Group.is_stated) (left c.args.rest) xs (left c.in-Some-2.others)) (sym c.from_vec.ensures)
    (list_cut g.G.Group.form g.G.Group.is_stated g.met.G.Group.spaced (left c.args.rest) (left c.in-Some.parts.1) (left c.in-Some-2.others) c.in-Some.parts.0 c.in-Some-2.found.items
    c.in-Some.ensures (rw c.in-Some-2.is at c.in_ok-found.ensures))

pub returns-in-None-2 : goal.returns-in-None-2
returns-in-None-2 g c =
    list_broken_off g.G.Group.form g.G.Group.is_stated g.met.G.Group.spaced (left c.args.rest) (left c.in-Some.parts.1) c.in-Some.parts.0
    c.in-Some.ensures (rw c.in-None-2.is at c.in_ok-found.ensures)
