-- What is written is the verdict.
use Rattle.std.proofs.Common.{◌≡◌, ◌⊎◌, ℕ, List, [], ◌∷◌, Result, Ok, Err, IfOk, inl, inr, ap, sym, ◌∙◌}
use Rattle.std.specs.Prelude.{filter, map, codes, decimal, bytes_eq, slice_index_or}
use Rattle.std.proofs.lemmas.List.Elements.{All-map, All-weaker}
use Rattle.std.proofs.lemmas.Simd.{map-map}
use Rattle.drt_model.specs.Contents.{Contents}
use Rattle.drt_model.specs.Schedulable.{Schedulable}
use Rattle.drt_model.specs.declared.jobs.Policy.TheVariants.{Fixed}
use Rattle.drt_busy.specs.Response.{IsGreatestResponse}
use Rattle.drt_claims.specs.declared.evidence.Evidence.TheVariants.{FixedNo, Undecided}
use Rattle.drt_file.specs.trusted.Line.{said}
use Rattle.drt_response.specs.Answers.{IsResponseOf}
use Rattle.drt_responses.specs.declared.response.Response.{Response}
use Rattle.drt_outcome.specs.declared.outcome.Trail.{Trail}
use Rattle.drt_command.specs.declared.report.Report.{Report}
use Rattle.drt_command.specs.declared.report.Unmade.{Unmade}
use Rattle.drt_command_files.specs.Verdicts.{IsAbout}
use Rattle.drt_command_files.proofs.Abouts.{about_of}
use Rattle.drt_sp.specs.Evidence.{under_fixed}
use Rattle.drt_command_response.specs.Besides.{Besides, IsResponseText}
use Rattle.drt_command_response.specs.Verdict.{IsGreatestText}
use Rattle.drt_command_response.specs.Response.{response_rules}
use Rattle.drt_command_response.proofs.ResponseLines.{lines_are}
use Rattle.drt_command_response.proofs.ResponsePromises.{IsResponseAnswer}
use Rattle.drt_command_response.proofs.ResponseVertices.{vertices_are}

-- A response by its numbers.
abbrev told : Response → ℕ × ℕ × ℕ
told r = (r.task, r.vertex, r.ticks)

greatest_of : (set : Contents) (written : List ℕ) → IsResponseText set written → IsGreatestText set written
greatest_of set written t = record {
  schedulable = t.are.schedulable;
  responses = map told t.responses;
  are = map-map (λ r. (r.0, r.1)) told t.responses ∙ t.are.are ∙ vertices_are set.tasks;
  greatest = All-map (λ r. IsGreatestResponse set.tasks r.0 r.1 r.2) told t.responses
      (All-weaker (IsResponseOf set) (λ r. IsGreatestResponse set.tasks r.task r.vertex r.ticks) (λ r is. is.greatest) t.responses t.are.each);
  lines = ap (λ text. filter (λ words. bytes_eq (slice_index_or words 0 []) (codes "response")) (said text)) t.text_is ∙ lines_are t.responses
      ∙ sym (map-map (λ r. codes "response" ∷ decimal r.0 ∷ decimal r.1 ∷ decimal r.2 ∷ []) told t.responses);
}

-- What the status says.
abbrev Says : Contents → ℕ → List ℕ → Type 0
Says set status written =
    ((status ≡ 0) × IsGreatestText set written)
    ⊎ (((status ≡ 1) × IsAbout Fixed set written × ¬ Schedulable set.tasks Fixed)
    ⊎ ((status ≡ 3) × IsAbout Fixed set written))

says : (set : Contents) (budget status : ℕ) (written : List ℕ) (trail : Trail) → IsResponseAnswer set budget status written trail → Says set status written
says set budget status written trail (inl a) = inl (a.0, greatest_of set written a.1)
says set budget status written trail (inr (inl a)) =
    inr (inl (a.0, about_of (under_fixed set (FixedNo a.1.releases a.1.miss)) written a.1.is, a.1.no.not_schedulable))
says set budget status written trail (inr (inr a)) = inr (inr (a.0, about_of (under_fixed set Undecided) written a.1.is))

-- What stands besides has its verdict.
pub with_verdict : (budget : ℕ) (bytes : List ℕ) (r : Result Report Unmade) → IfOk r (Besides budget bytes) → IfOk r ((response_rules budget).makes bytes)
with_verdict budget bytes (Ok m) d = (record { set = d.set; accepted = d.accepted; answer = says d.set budget m.status m.text m.trail d.answer }, d)
with_verdict budget bytes (Err e) d = tt
