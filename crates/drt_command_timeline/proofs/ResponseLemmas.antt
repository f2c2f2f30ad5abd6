-- The steps of `timeline` of a response: what each makes, and why it makes nothing.
use Rattle.std.proofs.Common.{◌∙◌, Some, None, ◌≡◌, ℕ, ◌-◌, ◌≤◌, ◌⊎◌, inl, inr, Bool, List, length, take, drop, refl, sym, subst}
use Rattle.std.specs.Prelude.{Result, Ok, Err, IfErr, IfOk, IsErrAnd}
use Rattle.std.proofs.lemmas.Option.{same_Some}
use Rattle.drt_model.specs.Numbers.{most_text}
use Rattle.drt_outcome.specs.declared.fault.Fault.TheVariants as faults
use Rattle.drt_outcome.specs.declared.outcome.Trail.TheVariants as trails
use Rattle.drt_model.specs.Contents.{Contents}
use Rattle.drt_model.specs.declared.jobs.Policy.TheVariants.{Fixed}
use Rattle.drt_model.specs.declared.tasks.Task.{Task}
use Rattle.drt_command.specs.Rules.{IsUnmadeCause}
use Rattle.drt_command.specs.declared.report.Report.{Report}
use Rattle.drt_command.specs.declared.report.Unmade.{Unmade}
use Rattle.drt_command.specs.declared.report.Unmade.TheVariants.{Memory, Refused}
use Rattle.drt_command_files.specs.TaskFiles.{IsAccepted, IsFileFault}
use Rattle.drt_responses.specs.Reading.{IsResponsesText}
use Rattle.drt_responses.specs.declared.response.Response.{Response}
use Rattle.drt_command_timeline.specs.Inputs.{IsInputCut, IsFileAndText}
use Rattle.drt_command_timeline.specs.Drawn.{IsDrawn}
use Rattle.drt_command_timeline.specs.Reached.{IsReachedResponse}
use Rattle.drt_command_timeline.specs.Response.{DrawsIn, DrawsResponse, IsFaultIn, IsResponseFault, IsTextFault, IsUnreached, response_of}
use Rattle.drt_command_files.specs.Spots.{NamesNone}
use Rattle.drt_command_files.specs.Spots.{IsSpot}
use Rattle.drt_command_timeline.proofs.InputLemmas.{rest_all}

-- An error that is passed on.
pub passed : {T : Type 0} (P : Unmade → Type 0) (r : Result T Unmade) (e : Unmade) → IsErrAnd r (λ y. y ≡ e) → P e → IfErr r P
passed P (Ok x) e is p = tt
passed P (Err y) e is p = subst P (sym is) p

pub input_at : (bytes : List ℕ) (at : ℕ) → length bytes ≤ most_text → IsInputCut bytes at → IsFileAndText bytes (take at bytes) (take (length bytes - at) (drop at bytes))
input_at bytes at small cut = record { small = small; at = at; cut = cut; file_is = refl; text_is = rest_all bytes at }

-- Where file and text are read, with the set and the responses that these say.
pub record IsRead (bytes file text : List ℕ) (set : Contents) (responses : List Response) : Type 0 where
  pub input : IsFileAndText bytes file text
  pub accepted : IsAccepted file set
  pub are : IsResponsesText responses text
  pub only : (found : List Response) → IsResponsesText found text → responses ≡ found

pub file_cause : (task vertex bytes file text : List ℕ) → IsFileAndText bytes file text → (e : Unmade) → IsUnmadeCause IsFileFault file e → IsUnmadeCause (IsResponseFault task vertex) bytes e
file_cause task vertex bytes file text input Memory h = tt
file_cause task vertex bytes file text input (Refused f) h = inr (inl (record { file = file; text = text; input = input; is = h }))

pub text_cause : (task vertex bytes file text : List ℕ) (set : Contents) → IsFileAndText bytes file text → IsAccepted file set → (e : Unmade) → IsUnmadeCause IsTextFault text e
    → IsUnmadeCause (IsResponseFault task vertex) bytes e
text_cause task vertex bytes file text set input accepted Memory h = tt
text_cause task vertex bytes file text set input accepted (Refused f) h = inr (inr (inl (record { file = file; text = text; input = input; set = set; accepted = accepted; is = h })))

pub named_cause : (task vertex bytes file text : List ℕ) (set : Contents) (responses : List Response) → IsRead bytes file text set responses → (e : Unmade)
    → IsUnmadeCause (λ name fault. IsFaultIn task vertex set.tasks responses fault) task e → IsUnmadeCause (IsResponseFault task vertex) bytes e
named_cause task vertex bytes file text set responses r Memory h = tt
named_cause task vertex bytes file text set responses r (Refused f) (inl h) =
    inr (inr (inr (inl (record { file = file; text = text; input = r.input; set = set; accepted = r.accepted; responses = responses; are = r.are; none = h.0 }, h.1))))
named_cause task vertex bytes file text set responses r (Refused f) (inr h) =
    inr (inr (inr (inr (
      record {
        file = file;
        text = text;
        input = r.input;
        set = set;
        accepted = r.accepted;
        responses = responses;
        are = r.are;
        unreached = λ found is. subst (IsUnreached task vertex set.tasks) (r.only found is) h.0;
      },
      h.1,
    ))))

pub named_draws : (svg : Bool) (task vertex bytes file text : List ℕ) (set : Contents) (responses : List Response) (made : Report) → IsRead bytes file text set responses
    → DrawsIn svg task vertex set.tasks responses made → DrawsResponse svg task vertex bytes made
named_draws svg task vertex bytes file text set responses made r d = record {
  set = set;
  response = d.response;
  shown = record { file = file; text = text; input = r.input; accepted = r.accepted; responses = responses; are = r.are; shown = d.shown };
  drawn = d.drawn;
  status_is = d.status_is;
  trail = d.trail;
}

-- What holds of a result holds of it in other words.
pub ok_then : {T E : Type 0} {P Q : T → Type 0} → ((x : T) → P x → Q x) → (r : Result T E) → IfOk r P → IfOk r Q
ok_then to (Ok x) h = to x h
ok_then to (Err e) h = tt

pub err_then : {T E : Type 0} {P Q : E → Type 0} → ((e : E) → P e → Q e) → (r : Result T E) → IfErr r P → IfErr r Q
err_then to (Ok x) h = tt
err_then to (Err e) h = to e h

-- The response of a spot is drawn, or it isn't reached.
pub spot_draws : (svg : Bool) (task vertex : List ℕ) (tasks : List Task) (responses : List Response) (k v : ℕ) (r : Response) → IsSpot tasks task vertex k v → response_of k v responses ≡ Some r
    → (made : Report) → IsReachedResponse tasks r → IsDrawn svg tasks Fixed r.releases r.ticks made.text → (made.status ≡ 0) × (made.trail ≡ trails.Nothing)
    → DrawsIn svg task vertex tasks responses made
spot_draws svg task vertex tasks responses k v r spot is made reached drawn made_is = record {
  response = r;
  shown = record { k = k; v = v; spot = spot; response = is; reached = reached };
  drawn = drawn;
  status_is = made_is.0;
  trail = made_is.1;
}

pub spot_cause : (task vertex : List ℕ) (tasks : List Task) (responses : List Response) (k v : ℕ) (r : Response) → IsSpot tasks task vertex k v → response_of k v responses ≡ Some r
    → (e : Unmade) → (e ≡ Memory) ⊎ ((e ≡ Refused (faults.Rule 31)) × ¬ IsReachedResponse tasks r) → IsUnmadeCause (λ name fault. IsFaultIn name vertex tasks responses fault) task e
spot_cause task vertex tasks responses k v r spot is Memory h = tt
spot_cause task vertex tasks responses k v r spot is (Refused f) (inl h) = absurd (cc)
spot_cause task vertex tasks responses k v r spot is (Refused f) (inr h) =
    let refused = h.0 in
    let same : f ≡ faults.Rule 31 = cc in
    inr (record { k = k; v = v; spot = spot; none = λ s at reached. h.1 (subst (IsReachedResponse tasks) (same_Some s r (sym at ∙ is)) reached) }, same)

-- The same names have no spot.
pub names_none : (tasks : List Task) (a b task vertex : List ℕ) → a ≡ task → b ≡ vertex → NamesNone a b tasks → NamesNone task vertex tasks
names_none tasks a b task vertex p q h = subst (λ t. NamesNone t vertex tasks) p (subst (λ v. NamesNone a v tasks) q h)

-- So is a spot without a response.
pub no_response : (task vertex : List ℕ) (tasks : List Task) (responses : List Response) (k v : ℕ) → IsSpot tasks task vertex k v → response_of k v responses ≡ None
    → IsFaultIn task vertex tasks responses (faults.Rule 31)
no_response task vertex tasks responses k v spot none = inr (record { k = k; v = v; spot = spot; none = λ s at reached. (let clash : Some s ≡ None = sym at ∙ none in absurd (cc)) }, refl)
