use Rattle.std.proofs.Common.{[], ◌∷◌}
use Rattle.std.specs.Prelude.{codes}
use Rattle.drt_file.specs.trusted.Words.{policy_word}
use Rattle.drt_evidence.proofs.Joins.{two_lines}
use Rattle.drt_evidence.proofs.printing.push_head.Goals as goal

pub returns : goal.returns
returns c =
    two_lines c.args.bytes.now.items c.push_line.new.text.items c.push_line-2.new.text.items
    (codes "drt-dossier" ∷ codes "1" ∷ []) (codes "policy" ∷ policy_word c.args.policy ∷ [])
    (rw c.as_slice.ensures at c.in_ok-push_line.ensures.line) (rw (c.as_slice-2.ensures, c.word_of.ensures) at c.in_ok-push_line-2.ensures.line)
