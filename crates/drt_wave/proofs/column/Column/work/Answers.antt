use Rattle.std.proofs.Common.{◌≡◌, get_or, ap, sym, ◌∙◌, subst}
use Rattle.std.specs.Mem.Slots.{slots_items}
use Rattle.drt_wave.specs.Dense.{cells_of}
use Rattle.drt_wave.proofs.Sums.{word_is}
use Rattle.drt_wave.proofs.column.Column.work.Goals as goal

pub returns : goal.returns
returns c =
    let ws = slots_items c.in-Some.closed.words in
    subst (λ ws. c.word.result ≡ get_or ws c.args.offset 0) (sym (ap cells_of c.in-Some.is) ∙ c.self.view_is)
    (sym (word_is ws c.args.offset c.word.result c.word.ensures))
