use Rattle.std.proofs.Common.{ap, subst}
use Rattle.drt_worst.specs.Closing.{IsWordClosed}
use Rattle.drt_worst.proofs.Steps.{closes_at}
use Rattle.drt_worst.proofs.word.Word.close.Goals as goal

pub returns : goal.returns
returns g c =
    subst (λ x. IsWordClosed (g.S.Meaning.is_reached x) c.word-word.result c.args.seat.me.0) (ap (λ w. w.about) c.self.view_is)
    (closes_at _ _ _ _ _ _ c.requires.parts c.close_with-closed.ensures.values.2 c.word-word.ensures)
