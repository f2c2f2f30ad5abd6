use Rattle.std.proofs.Common.{rules, sym, ap, subst}
use Rattle.drt_worst.proofs.Steps.{raises}
use Rattle.drt_worst.proofs.word.Word.raise.Goals as goal

pub fetch_max-requires : goal.fetch_max-requires
fetch_max-requires g c =
    (search rules, search rules, raises _ _ _ _ _ c.requires.part (subst (λ x. g.S.Meaning.is_reached x c.args.number) (sym (ap (λ w. w.about) c.self.view_is)) c.requires.reached))
