use Rattle.std.proofs.Common.{◌≡◌, refl, sym, ap, subst, true, arith}
use Rattle.std.specs.Prelude.{◌↔◌, IsTrue}
use Rattle.drt_claims.specs.Rules.{Keeps}
use Rattle.drt_claims.specs.Statement.{Statement}
use Rattle.drt_claims.specs.declared.rule.Rule.TheVariants.{ConstrainedDeadlines, LegalReleases}
use Rattle.drt_check.specs.Deciding.{IsNextRule}
use Rattle.drt_check.proofs.Plain.{deadlines_left}
use Rattle.drt_check.proofs.rules.keeps_plainly.Goals as goal

pub is_least_miss-requires-clause-legal : goal.is_least_miss-requires-clause-legal
is_least_miss-requires-clause-legal c =
    let next = subst (λ r. IsNextRule c.args.dossier.now r) c.in-LeastMiss.is c.requires.next in
    let set = ap (λ (s : Statement). s.set) c.dossier.view_is in
    rw (set, c.releases_of-releases.ensures.value) (next.before LegalReleases next.applies (omega arith))

pub returns-in-LeastMiss : goal.returns-in-LeastMiss
returns-in-LeastMiss c =
    let policy = ap (λ (s : Statement). s.policy) c.dossier.view_is in
    let set = ap (λ (s : Statement). s.set) c.dossier.view_is in
    rw c.in-LeastMiss.is (rw (policy, set, c.releases_of-releases.ensures.value, c.miss_of.ensures) at c.is_least_miss.ensures)

pub returns-in_default : goal.returns-in_default
returns-in_default c =
    let rule : c.args.rule ≡ ConstrainedDeadlines = deadlines_left c.args.rule c.requires.plain c.in_default.not-KindOfPolicy c.in_default.not-LegalReleases c.in_default.not-LeastMiss in
    subst (λ r. IsTrue true ↔ Keeps r c.args.dossier.now) (sym rule) (λ kept. c.requires.constrained, λ kept. refl)
