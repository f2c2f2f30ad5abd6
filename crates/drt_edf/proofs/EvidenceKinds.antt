-- Which kinds of evidence go with which utilisation.
use Rattle.std.proofs.Common.{List}
use Rattle.drt_model.specs.declared.tasks.Task.{Task}
use Rattle.drt_claims.specs.declared.evidence.Evidence.{Evidence}
use Rattle.drt_claims.specs.declared.evidence.Evidence.TheVariants.{EdfYes, EdfNo, UtilisationOne, FixedYes, FixedStates, FixedNo, Undecided}
use Rattle.drt_edf.specs.Answers.{IsEdfVerdict, IsOther, IsPlanned}

-- A yes or a no where the utilisation isn't one.
pub planned_other : (tasks : List Task) (evidence : Evidence) → IsOther tasks → IsEdfVerdict tasks evidence → IsPlanned tasks evidence
planned_other tasks (EdfYes ratios fronts) other done = other
planned_other tasks (EdfNo releases miss) other done = other
planned_other tasks (UtilisationOne ratios) other done = done.at_one
planned_other tasks (FixedYes trees proofs) other done = absurd done
planned_other tasks (FixedStates tails searches) other done = absurd done
planned_other tasks (FixedNo releases miss) other done = absurd done
planned_other tasks Undecided other done = absurd done
