-- What a run did whose input was had or not, from how it ended.
use Rattle.std.proofs.Common.{◌≡◌, ℕ, List, Option, inl, inr, Result, Ok, Err, IfOk, IfErr, sym, subst}
use Rattle.drt_outcome.specs.declared.outcome.Outcome.{Outcome}
use Rattle.drt_outcome.specs.declared.stop.Stop.{Stop}
use Rattle.drt_outcome.specs.declared.stop.Stop.TheVariants.{Words, Read, Write, Memory, Refused}
use Rattle.drt_outcome.specs.Stops.{outcome_of}
use Rattle.drt_command.specs.declared.report.Report.{Report}
use Rattle.drt_command.specs.declared.report.Unmade.{Unmade}
use Rattle.drt_command.specs.declared.report.Unmade.TheVariants as unmade
use Rattle.drt_command.specs.Inputs.{IsInput}
use Rattle.drt_command.specs.Rules.{AreLawful, IsUnmadeCause, Rules}
use Rattle.drt_command.specs.Runs.{HasEnded, IsReadCause, IsRun, IsStopCause, stop_of}
use Rattle.drt_command.proofs.Ends.{at_more, stopped, wrote}

module _ (r : Rules) (laws : AreLawful r) (left : Option (List ℕ)) (R W : Type 0) (old new : Option (List ℕ)) where
  -- a run that made something of its input
  wrote_or_failed : (bytes : List ℕ) (made : Report) (o : Outcome) → IsInput r.input left bytes → r.makes bytes made → HasEnded (Ok made) old new W o → IsRun r left R W old new o
  wrote_or_failed bytes made o is makes (inl (grows, e)) =
      subst (λ (x : Outcome). IsRun r left R W old new x) (sym e) (wrote r laws left R W old new made (record { bytes = bytes; is = is; holds = makes }) grows)
  wrote_or_failed bytes made o is makes (inr (failed, prefix, e)) =
      subst (λ (x : Outcome). IsRun r left R W old new x) (sym e)
      (stopped r laws left R W old new Write failed (λ _. record { bytes = bytes; is = is; holds = record { made = made; makes = makes; written = prefix } }))

  -- one that made nothing
  told : (bytes : List ℕ) (e : Unmade) (o : Outcome) → IsInput r.input left bytes → IsUnmadeCause r.refuses bytes e → o ≡ outcome_of (stop_of e) → IsRun r left R W old new o
  told bytes unmade.Memory o is cause e = subst (λ (x : Outcome). IsRun r left R W old new x) (sym e) (stopped r laws left R W old new Memory tt (λ w. absurd (cc)))
  told bytes (unmade.Refused f) o is cause e =
      subst (λ (x : Outcome). IsRun r left R W old new x) (sym e) (stopped r laws left R W old new (Refused f) (record { bytes = bytes; is = is; holds = cause }) (λ w. absurd (cc)))

  pub finished : (bytes : List ℕ) (made : Result Report Unmade) (o : Outcome) → HasEnded made old new W o → IsInput r.input left bytes → IfOk made (r.makes bytes)
      → IfErr made (IsUnmadeCause r.refuses bytes)
      → IsRun r left R W old new o
  finished bytes (Ok m) o h is ok err = wrote_or_failed bytes m o is ok h
  finished bytes (Err e) o h is ok err = told bytes e o is err h

  -- one whose input wasn't had
  cause_of : (stop : Stop) → IsReadCause R r.input left stop → IsStopCause r R W left stop
  cause_of Words h = h
  cause_of Read h = h
  cause_of Write h = absurd h
  cause_of Memory h = tt
  cause_of (Refused f) h = at_more h (λ b l. laws.longer b f l)

  not_write : (stop : Stop) → IsReadCause R r.input left stop → stop ≡ Write → ⊥
  not_write Write h e = h
  not_write Words h e = h
  not_write Read h e = absurd (cc)
  not_write Memory h e = absurd (cc)
  not_write (Refused f) h e = absurd (cc)

  pub unread : (stop : Stop) → IsReadCause R r.input left stop → IsRun r left R W old new (outcome_of stop)
  unread stop h = stopped r laws left R W old new stop (cause_of stop h) (λ e. absurd (not_write stop h e))
