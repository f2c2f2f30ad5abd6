-- What a run did, from what its parts did.
use Rattle.std.proofs.Common.{◌≡◌, ◌<◌, ◌⊎◌, ℕ, zero, suc, List, [], length, Option, Some, None, inl, inr, refl, ap, lit<, arith, length-append}
use Rattle.std.specs.Io.KnownBytes.{Consumes}
use Rattle.drt_io.specs.Writing.{GrowsBy}
use Rattle.drt_command.specs.declared.input.Input.{Input}
use Rattle.drt_command.specs.declared.input.Input.TheVariants as inputs
use Rattle.drt_outcome.specs.declared.fault.Fault.{Fault}
use Rattle.drt_outcome.specs.declared.fault.Fault.TheVariants.{Nothing, File, Edge, Limit, Probe, Rule, Dossier}
use Rattle.drt_command.specs.declared.report.Report.{Report}
use Rattle.drt_outcome.specs.declared.stop.Stop.{Stop}
use Rattle.drt_outcome.specs.declared.stop.Stop.TheVariants.{Words, Read, Write, Memory, Refused}
use Rattle.drt_command.specs.Inputs.{AtInput, IsLonger}
use Rattle.drt_command.specs.Rules.{Rules, AreLawful}
use Rattle.drt_command.specs.Runs.{IsCutShort, IsCompleteRun, IsStopCause, IsRun}
use Rattle.drt_outcome.specs.Stops.{IsRefusalStatus, IsStatus, fault_status, outcome_of}

-- what holds of the input, and gives another thing, gives it of the input
pub at_more : {input : Input} {left : Option (List ℕ)} {P Q : List ℕ → Type 0} → AtInput input left P → ((b : List ℕ) → P b → Q b) → AtInput input left Q
at_more h more = record { bytes = h.bytes; is = h.is; holds = more h.bytes h.holds }

-- some bytes are the input
pub some_input : (input : Input) (left : Option (List ℕ)) (P : List ℕ → Type 0) → ((b : List ℕ) → P b) → AtInput input left P
some_input inputs.Nothing left P h = record { bytes = []; is = refl; holds = h [] }
some_input (inputs.AtMost most longer) None P h = record { bytes = []; is = tt; holds = h [] }
some_input (inputs.AtMost most longer) (Some b) P h = record { bytes = b; is = refl; holds = h b }

-- more was taken than the command reads, so its input is too long
pub longer_input : (most : ℕ) (longer : Fault) (left new : Option (List ℕ)) (taken : List ℕ) → Consumes left new taken → most < length taken
    → AtInput (inputs.AtMost most longer) left (λ b. IsLonger (inputs.AtMost most longer) b longer)
longer_input most longer None new taken h more = record { bytes = taken; is = tt; holds = (more, refl) }
longer_input most longer (Some b) None taken h more = absurd h
longer_input most longer (Some b) (Some c) taken h more = record { bytes = b; is = refl; holds = (omega (arith, ap length h, length-append taken c), refl) }

low_known : (status : ℕ) → status < 4 → IsStatus status
low_known zero h = (0, lit< tt, refl)
low_known (suc zero) h = (1, lit< tt, refl)
low_known (suc (suc zero)) h = (2, lit< tt, refl)
low_known (suc (suc (suc zero))) h = (3, lit< tt, refl)
low_known (suc (suc (suc (suc n)))) h = absurd (omega arith)

fault_known : (f : Fault) → IsStatus (fault_status f)
fault_known Nothing = (4, lit< tt, refl)
fault_known (File l c) = (4, lit< tt, refl)
fault_known (Edge t e p) = (4, lit< tt, refl)
fault_known (Limit c) = (4, lit< tt, refl)
fault_known (Probe a c) = (4, lit< tt, refl)
fault_known (Rule n) = (9, lit< tt, refl)
fault_known (Dossier l c) = (10, lit< tt, refl)

-- a run that stopped has one of the statuses
pub stop_known : (stop : Stop) → IsStatus (outcome_of stop).status
stop_known Words = (5, lit< tt, refl)
stop_known Read = (6, lit< tt, refl)
stop_known Write = (7, lit< tt, refl)
stop_known Memory = (8, lit< tt, refl)
stop_known (Refused f) = fault_known f

-- want of memory is free
pub memory_complete : (r : Rules) (left : Option (List ℕ)) → AtInput r.input left (λ b. IsCompleteRun r b 8 Nothing)
memory_complete r left = some_input r.input left (λ b. IsCompleteRun r b 8 Nothing) (λ b. record { ends = inl refl; refused = λ f _. inl refl })

-- a refusal has a status of its own
fault_refusal : (f : Fault) → IsRefusalStatus (fault_status f)
fault_refusal Nothing = inl refl
fault_refusal (File l c) = inl refl
fault_refusal (Edge t e p) = inl refl
fault_refusal (Limit c) = inl refl
fault_refusal (Probe a c) = inl refl
fault_refusal (Rule n) = inr (inl refl)
fault_refusal (Dossier l c) = inr (inr refl)

-- these statuses aren't those of a refusal
unrefused : (status : ℕ) → (status < 4) ⊎ ((4 < status) × (status < 9)) → IsRefusalStatus status → ⊥
unrefused status (inl low) (inl e) = omega (arith, low, e)
unrefused status (inl low) (inr (inl e)) = omega (arith, low, e)
unrefused status (inl low) (inr (inr e)) = omega (arith, low, e)
unrefused status (inr other) (inl e) = omega (arith, other.0, other.1, e)
unrefused status (inr other) (inr (inl e)) = omega (arith, other.0, other.1, e)
unrefused status (inr other) (inr (inr e)) = omega (arith, other.0, other.1, e)

refusal_high : (f : Fault) → fault_status f < 4 → ⊥
refusal_high f h = elim (fault_refusal f) [ inl e ↦ omega (arith, h, e) | inr (inl e) ↦ omega (arith, h, e) | inr (inr e) ↦ omega (arith, h, e) ]

refusal_not : (f : Fault) (n : ℕ) → (4 < n) × (n < 9) → fault_status f ≡ n → ⊥
refusal_not f n h k = elim (fault_refusal f) [ inl e ↦ omega (arith, h.0, h.1, k, e) | inr (inl e) ↦ omega (arith, h.0, h.1, k, e) | inr (inr e) ↦ omega (arith, h.0, h.1, k, e) ]

-- a run that wrote its text
pub wrote : (r : Rules) → AreLawful r → (left : Option (List ℕ)) (R W : Type 0) (old new : Option (List ℕ)) (made : Report)
    → AtInput r.input left (λ b. r.makes b made) → GrowsBy old new made.text
    → IsRun r left R W old new (record { status = made.status; trail = made.trail; fault = Nothing })
wrote r laws left R W old new made at written =
    let low : made.status < 4 = laws.low at.bytes made at.holds in
    record {
      done = λ _. at_more at (λ b m. record { text = made.text; makes = m; written = written });
      refused = λ h. absurd (unrefused made.status (inl low) h);
      words = λ e. omega (arith, low, e);
      read = λ e. absurd (omega (arith, low, e));
      write = λ e. absurd (omega (arith, low, e));
      known = low_known made.status low;
      cut = λ e. absurd (omega (arith, low, e));
      complete = λ _ _. at_more at (λ b m. record { ends = inr (laws.made_ends b made m); refused = λ f h. absurd (laws.apart b made f m h) });
      fault = λ _. refl;
      kind = λ h. absurd (unrefused made.status (inl low) h);
      trail = λ h. absurd (omega (arith, low, h));
    }

-- a run that stopped
pub stopped : (r : Rules) → AreLawful r → (left : Option (List ℕ)) (R W : Type 0) (old new : Option (List ℕ)) (stop : Stop)
    → IsStopCause r R W left stop → (stop ≡ Write → AtInput r.input left (λ b. IsCutShort r b old new))
    → IsRun r left R W old new (outcome_of stop)
stopped r laws left R W old new Words h cut = absurd h
stopped r laws left R W old new Read h cut = record {
  done = λ low. absurd (omega (arith, low));
  refused = λ is. absurd (unrefused 6 (inr (lit< tt, lit< tt)) is);
  words = λ e. omega (arith, e);
  read = λ _. h;
  write = λ e. absurd (omega (arith, e));
  known = (6, lit< tt, refl);
  cut = λ e. absurd (omega (arith, e));
  complete = λ no_read _. absurd (no_read h);
  fault = λ _. refl;
  kind = λ is. absurd (unrefused 6 (inr (lit< tt, lit< tt)) is);
  trail = λ _. refl;
}
stopped r laws left R W old new Write h cut = record {
  done = λ low. absurd (omega (arith, low));
  refused = λ is. absurd (unrefused 7 (inr (lit< tt, lit< tt)) is);
  words = λ e. omega (arith, e);
  read = λ e. absurd (omega (arith, e));
  write = λ _. h;
  known = (7, lit< tt, refl);
  cut = λ _. cut refl;
  complete = λ _ no_write. absurd (no_write h);
  fault = λ _. refl;
  kind = λ is. absurd (unrefused 7 (inr (lit< tt, lit< tt)) is);
  trail = λ _. refl;
}
stopped r laws left R W old new Memory h cut = record {
  done = λ low. absurd (omega (arith, low));
  refused = λ is. absurd (unrefused 8 (inr (lit< tt, lit< tt)) is);
  words = λ e. omega (arith, e);
  read = λ e. absurd (omega (arith, e));
  write = λ e. absurd (omega (arith, e));
  known = (8, lit< tt, refl);
  cut = λ e. absurd (omega (arith, e));
  complete = λ _ _. memory_complete r left;
  fault = λ _. refl;
  kind = λ is. absurd (unrefused 8 (inr (lit< tt, lit< tt)) is);
  trail = λ _. refl;
}
stopped r laws left R W old new (Refused f) h cut = record {
  done = λ low. absurd (refusal_high f low);
  refused = λ _. h;
  words = λ e. refusal_not f 5 (lit< tt, lit< tt) e;
  read = λ e. absurd (refusal_not f 6 (lit< tt, lit< tt) e);
  write = λ e. absurd (refusal_not f 7 (lit< tt, lit< tt) e);
  known = fault_known f;
  cut = λ e. absurd (refusal_not f 7 (lit< tt, lit< tt) e);
  complete = λ _ _. at_more h (λ b k. record { ends = inr (laws.refused_ends b f k); refused = λ g also. let e = laws.one_fault b f g k also in inr (ap fault_status e, e) });
  fault = λ other. absurd (other (fault_refusal f));
  kind = λ _. refl;
  trail = λ _. refl;
}
