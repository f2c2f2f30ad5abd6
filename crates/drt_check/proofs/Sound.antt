-- Accepted evidence is sound, kind by kind.
use Rattle.std.proofs.Common.{◌≡◌, sym, subst}
use Rattle.drt_busy.specs.Decide.{DeadlinesDecide, TimesDecide}
use Rattle.drt_model.specs.Schedulable.{Schedulable}
use Rattle.drt_model.specs.declared.jobs.Policy.{Policy}
use Rattle.drt_model.specs.declared.jobs.Policy.TheVariants.{Edf, Fixed}
use Rattle.drt_claims.specs.Rules.{Accepts}
use Rattle.drt_claims.specs.declared.evidence.Evidence.{Evidence}
use Rattle.drt_claims.specs.declared.evidence.Evidence.TheVariants.{EdfYes, EdfNo, UtilisationOne, FixedYes, FixedStates, FixedNo, Undecided}
use Rattle.drt_claims.specs.declared.rule.Rule.TheVariants.{ConstrainedDeadlines, KindOfPolicy, LeastMiss, LegalReleases}
use Rattle.drt_claims.proofs.Accepting.{statement}
use Rattle.drt_states_laws.specs.Laws.{StatesPass}
use Rattle.drt_check.specs.Judging.{IsSoundJudgement, claimed}
use Rattle.drt_check.specs.Laws.{AcceptedIsSound}
use Rattle.drt_check.proofs.Accepted.{fixed_kept, one_kept, states_kept, yes_kept}
use Rattle.drt_check.proofs.SoundFixed.{fixed_is_sound}
use Rattle.drt_check.proofs.SoundNo.{no_is_sound}
use Rattle.drt_check.proofs.SoundRatios.{one_is_sound}
use Rattle.drt_check.proofs.SoundStates.{states_are_sound}
use Rattle.drt_check.proofs.SoundYes.{yes_is_sound}

pub accepted_is_sound : DeadlinesDecide → TimesDecide → StatesPass → AcceptedIsSound
accepted_is_sound deadlines times pass s stated accepts = by_kind s.policy s.evidence accepts
  where
    by_kind : (policy : Policy) (evidence : Evidence) → Accepts (statement policy s.set evidence) → IsSoundJudgement (statement policy s.set evidence) (claimed evidence)
    by_kind policy (EdfYes ratios fronts) is =
        let edf : policy ≡ Edf = is.keeps KindOfPolicy tt in
        subst (λ p. Schedulable s.set.tasks p) (sym edf)
        (yes_is_sound deadlines s.set.version s.set.tasks stated.0 (is.keeps ConstrainedDeadlines tt) ratios fronts (yes_kept policy s.set ratios fronts is))
    by_kind policy (EdfNo releases miss) is = no_is_sound policy s.set.tasks releases miss (is.keeps LegalReleases tt) (is.keeps LeastMiss tt)
    by_kind policy (UtilisationOne ratios) is = one_is_sound s.set.tasks ratios (one_kept policy s.set ratios is)
    by_kind policy (FixedYes trees proofs) is =
        let fixed : policy ≡ Fixed = is.keeps KindOfPolicy tt in
        subst (λ p. Schedulable s.set.tasks p) (sym fixed)
        (fixed_is_sound times s.set.version s.set.tasks stated.0 (is.keeps ConstrainedDeadlines tt) trees proofs (fixed_kept policy s.set trees proofs is))
    by_kind policy (FixedStates tails searches) is =
        let fixed : policy ≡ Fixed = is.keeps KindOfPolicy tt in
        let constrained = is.keeps ConstrainedDeadlines tt in
        subst (λ p. Schedulable s.set.tasks p) (sym fixed)
        (states_are_sound times pass s.set.version s.set.tasks stated.0 constrained tails searches (states_kept policy s.set tails searches is))
    by_kind policy (FixedNo releases miss) is = no_is_sound policy s.set.tasks releases miss (is.keeps LegalReleases tt) (is.keeps LeastMiss tt)
    by_kind policy Undecided is = tt
