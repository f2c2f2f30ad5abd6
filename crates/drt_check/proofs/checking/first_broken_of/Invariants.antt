-- The rules before the i-th are kept where they apply, and what is known is known of the dossier.
use Rattle.std.proofs.Common.{◌<◌}
use Rattle.drt_claims.specs.Rules.{Applies, Keeps}
use Rattle.drt_claims.specs.declared.rule.Rule.{Rule}
use Rattle.drt_check.specs.Deciding.{IsKnownOf}
use Rattle.drt_check.proofs.Table.{place}
use Rattle.drt_check.proofs.checking.first_broken_of.Given as goal

abbrev pub invariant-rules : goal.invariant-rules
invariant-rules l = ((rule : Rule) → Applies rule l.dossier.evidence → place rule < l.i → Keeps rule l.dossier) × IsKnownOf l.dossier l.known
