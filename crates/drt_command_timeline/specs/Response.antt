-- `timeline` of a response: what it draws, what it refuses, and with which status it ends.
use Rattle.std.specs.Prelude.{◌≡◌, ℕ, ◌<◌, ◌⊎◌, ◌&&◌, ◌==◌, Bool, List, Option, Some, length}
use Rattle.std.specs.List.{find}
use Rattle.drt_model.specs.Numbers.{most_text}
use Rattle.drt_model.specs.Contents.{Contents}
use Rattle.drt_model.specs.declared.jobs.Policy.TheVariants.{Fixed}
use Rattle.drt_model.specs.declared.tasks.Task.{Task}
use Rattle.drt_outcome.specs.declared.fault.Fault.{Fault}
use Rattle.drt_outcome.specs.declared.fault.Fault.TheVariants as faults
use Rattle.drt_outcome.specs.declared.outcome.Trail.TheVariants as trails
use Rattle.drt_command.specs.declared.report.Report.{Report}
use Rattle.drt_command.specs.Rules.{Rules}
use Rattle.drt_command_check.specs.Check.{dossier_input}
use Rattle.drt_command_files.specs.TaskFiles.{IsAccepted, IsFileFault}
use Rattle.drt_responses.specs.Reading.{HasTextFault, IsResponsesText}
use Rattle.drt_responses.specs.declared.response.Response.{Response}
use Rattle.drt_command_timeline.specs.Drawn.{IsDrawn}
use Rattle.drt_command_timeline.specs.Inputs.{IsFileAndText}
use Rattle.drt_command_timeline.specs.Reached.{IsReachedResponse}
use Rattle.drt_command_files.specs.Spots.{IsSpot, NamesNone}

-- The first of the responses that is of this vertex of this task.
abbrev pub response_of : ℕ → ℕ → List Response → Option Response
response_of k v responses = find (λ r. r.task == k && r.vertex == v) responses

-- Of these responses, this is that of the named vertex, and it is reached.
pub record IsShownIn (task vertex : List ℕ) (tasks : List Task) (responses : List Response) (r : Response) : Type 0 where
  pub k : ℕ
  pub v : ℕ
  pub spot : IsSpot tasks task vertex k v
  pub response : response_of k v responses ≡ Some r
  pub reached : IsReachedResponse tasks r

-- There is such a vertex, but no response of it, or none that is reached.
pub record IsUnreached (task vertex : List ℕ) (tasks : List Task) (responses : List Response) : Type 0 where
  pub k : ℕ
  pub v : ℕ
  pub spot : IsSpot tasks task vertex k v
  pub none : (r : Response) → response_of k v responses ≡ Some r → ¬ IsReachedResponse tasks r

-- The bytes are an accepted file of this set, and behind it the text of responses, of which this is that of the named vertex, and it is
-- reached.
pub record IsShown (task vertex bytes : List ℕ) (set : Contents) (r : Response) : Type 0 where
  pub file : List ℕ
  pub text : List ℕ
  pub input : IsFileAndText bytes file text
  pub accepted : IsAccepted file set
  pub responses : List Response
  pub are : IsResponsesText responses text
  pub shown : IsShownIn task vertex set.tasks responses r

-- `timeline` of a response: its releases are drawn under fixed priorities up to the tick after which its job finishes, with status 0
-- and without a trail.
pub record DrawsResponse (svg : Bool) (task vertex bytes : List ℕ) (made : Report) : Type 0 where
  pub set : Contents
  pub response : Response
  pub shown : IsShown task vertex bytes set response
  pub drawn : IsDrawn svg set.tasks Fixed response.releases response.ticks made.text
  pub status_is : made.status ≡ 0
  pub trail : made.trail ≡ trails.Nothing

-- What is no text of responses has code 6, with the line counted from where it begins.
pub record IsTextFault (text : List ℕ) (fault : Fault) : Type 0 where
  pub line : ℕ
  pub stops : HasTextFault text line
  pub is : fault ≡ faults.Dossier line 6

-- What is made where file and text are fine.
pub record DrawsIn (svg : Bool) (task vertex : List ℕ) (tasks : List Task) (responses : List Response) (made : Report) : Type 0 where
  pub response : Response
  pub shown : IsShownIn task vertex tasks responses response
  pub drawn : IsDrawn svg tasks Fixed response.releases response.ticks made.text
  pub status_is : made.status ≡ 0
  pub trail : made.trail ≡ trails.Nothing

-- Where file and text are fine, there is this fault: code 27 where no vertex has these names, else rule 31.
abbrev pub IsFaultIn : List ℕ → List ℕ → List Task → List Response → Fault → Type 0
IsFaultIn task vertex tasks responses fault =
    (NamesNone task vertex tasks × (fault ≡ faults.Limit 27)) ⊎ (IsUnreached task vertex tasks responses × (fault ≡ faults.Rule 31))

-- The file has this fault.
pub record IsFaultOfFile (bytes : List ℕ) (fault : Fault) : Type 0 where
  pub file : List ℕ
  pub text : List ℕ
  pub input : IsFileAndText bytes file text
  pub is : IsFileFault file fault

-- The file is accepted, and what stands behind it has this fault.
pub record IsFaultOfText (bytes : List ℕ) (fault : Fault) : Type 0 where
  pub file : List ℕ
  pub text : List ℕ
  pub input : IsFileAndText bytes file text
  pub set : Contents
  pub accepted : IsAccepted file set
  pub is : IsTextFault text fault

-- File and text are fine, but no vertex of a task has these names.
pub record HasNoDrawnSpot (task vertex bytes : List ℕ) : Type 0 where
  pub file : List ℕ
  pub text : List ℕ
  pub input : IsFileAndText bytes file text
  pub set : Contents
  pub accepted : IsAccepted file set
  pub responses : List Response
  pub are : IsResponsesText responses text
  pub none : NamesNone task vertex set.tasks

-- There is such a vertex, but whichever responses the text says, none is of it and reached.
pub record IsNotReached (task vertex bytes : List ℕ) : Type 0 where
  pub file : List ℕ
  pub text : List ℕ
  pub input : IsFileAndText bytes file text
  pub set : Contents
  pub accepted : IsAccepted file set
  pub responses : List Response
  pub are : IsResponsesText responses text
  pub unreached : (found : List Response) → IsResponsesText found text → IsUnreached task vertex set.tasks found

-- An input has this fault: code 4 at line 0 where it is too long, else the fault of the file, else that of the text, else code 27 where
-- no vertex has these names, else rule 31 where its response isn't reached.
abbrev pub IsResponseFault : List ℕ → List ℕ → List ℕ → Fault → Type 0
IsResponseFault task vertex bytes fault =
    ((most_text < length bytes) × (fault ≡ faults.Dossier 0 4))
    ⊎ (IsFaultOfFile bytes fault
    ⊎ (IsFaultOfText bytes fault
    ⊎ ((HasNoDrawnSpot task vertex bytes × (fault ≡ faults.Limit 27))
    ⊎ (IsNotReached task vertex bytes × (fault ≡ faults.Rule 31)))))

-- What is promised of `timeline` of the response of the vertex with these names, as text or as a picture.
abbrev pub response_timeline_rules : Bool → List ℕ → List ℕ → Rules
response_timeline_rules svg task vertex = record {
  input = dossier_input;
  makes = DrawsResponse svg task vertex;
  refuses = IsResponseFault task vertex;
  faults = IsResponseFault task vertex;
  ends = λ bytes status. (set : Contents) (r : Response) → IsShown task vertex bytes set r → status ≡ 0;
}
