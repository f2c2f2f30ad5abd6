-- What is promised of `timeline` of a response agrees.
use Rattle.std.proofs.Common.{◌≡◌, ℕ, ◌<◌, Bool, List, length, inl, inr, sym, ap, ◌∙◌, subst, arith}
use Rattle.std.proofs.lemmas.Bool.{cases_lt}
use Rattle.drt_model.specs.Numbers.{most_text}
use Rattle.drt_model.specs.Contents.{Contents}
use Rattle.drt_file.specs.trusted.Laws.{TextsReadAsOneSet}
use Rattle.drt_command.specs.Rules.{AreLawful}
use Rattle.drt_command_files.specs.TaskFiles.{IsAccepted, IsFileFault}
use Rattle.drt_command_files.proofs.TaskFileLemmas.{accepted_one, accepted_well, fault_one}
use Rattle.drt_outcome.specs.declared.fault.Fault.{Fault}
use Rattle.drt_outcome.specs.declared.fault.Fault.TheVariants.{Dossier}
use Rattle.drt_responses.specs.Reading.{HasTextFault, IsResponsesText}
use Rattle.drt_responses.specs.declared.response.Response.{Response}
use Rattle.drt_command_timeline.specs.Inputs.{IsFileAndText}
use Rattle.drt_command_timeline.specs.Response.{HasNoDrawnSpot, IsFaultOfFile, IsFaultOfText, IsNotReached, IsResponseFault, IsShown, IsUnreached, response_of, response_timeline_rules}
use Rattle.drt_command_files.specs.Spots.{IsSpot}
use Rattle.drt_command_files.proofs.SpotLemmas.{spot_one}
use Rattle.drt_command_timeline.proofs.InputLemmas.{input_one}

too_long : (bytes file text : List ℕ) → most_text < length bytes → IsFileAndText bytes file text → ⊥
too_long bytes file text big input = let small = input.small in omega (arith, big, small)

-- A file that is accepted has no fault.
file_well : TextsReadAsOneSet → (bytes file text : List ℕ) (set : Contents) (f : Fault) → IsFileAndText bytes file text → IsAccepted file set → IsFaultOfFile bytes f → ⊥
file_well law bytes file text set f input accepted h =
    let same = input_one bytes file text h.file h.text input h.input in
    accepted_well law h.file set f (subst (λ b. IsAccepted b set) same.0 accepted) h.is

-- A text of responses has none.
text_well : (bytes file text : List ℕ) (responses : List Response) (f : Fault) → IsFileAndText bytes file text → IsResponsesText responses text → IsFaultOfText bytes f → ⊥
text_well bytes file text responses f input are h =
    let same = input_one bytes file text h.file h.text input h.input in
    h.is.stops.none responses (subst (IsResponsesText responses) same.1 are)

-- An input has one set.
set_one : TextsReadAsOneSet → (bytes f t g u : List ℕ) (a b : Contents) → IsFileAndText bytes f t → IsFileAndText bytes g u → IsAccepted f a → IsAccepted g b → a ≡ b
set_one law bytes f t g u a b h k x y = accepted_one law g a b (subst (λ w. IsAccepted w a) (input_one bytes f t g u h k).0 x) y

line_one : (text : List ℕ) (l m : ℕ) → HasTextFault text l → HasTextFault text m → l ≡ m
line_one text l m h k = elim (cases_lt l m) [
  | inl lt ↦ absurd (k.least l lt h.here)
  | inr le ↦ elim (cases_lt m l) [ inl lt ↦ absurd (h.least m lt k.here) | inr ge ↦ omega arith ]
]

text_fault_one : (bytes : List ℕ) (f g : Fault) → IsFaultOfText bytes f → IsFaultOfText bytes g → f ≡ g
text_fault_one bytes f g h k =
    let same = input_one bytes h.file h.text k.file k.text h.input k.input in
    let line = line_one k.text h.is.line k.is.line (subst (λ t. HasTextFault t h.is.line) same.1 h.is.stops) k.is.stops in
    h.is.is ∙ ap (λ l. Dossier l 6) line ∙ sym k.is.is

file_fault_one : TextsReadAsOneSet → (bytes : List ℕ) (f g : Fault) → IsFaultOfFile bytes f → IsFaultOfFile bytes g → f ≡ g
file_fault_one law bytes f g h k =
    let same = input_one bytes h.file h.text k.file k.text h.input k.input in
    fault_one law k.file f g (subst (λ b. IsFileFault b f) same.0 h.is) k.is

-- Names that have no spot have no response.
no_spot : TextsReadAsOneSet → (task vertex bytes : List ℕ) → HasNoDrawnSpot task vertex bytes → IsNotReached task vertex bytes → ⊥
no_spot law task vertex bytes h k =
    let same = set_one law bytes h.file h.text k.file k.text h.set k.set h.input k.input h.accepted k.accepted in
    let u = k.unreached k.responses k.are in
    h.none u.k u.v (subst (λ (s : Contents). IsSpot s.tasks task vertex u.k u.v) (sym same) u.spot)

-- What is shown isn't refused.
no_spot_shown : TextsReadAsOneSet → (task vertex bytes : List ℕ) (set : Contents) (r : Response) → IsShown task vertex bytes set r → HasNoDrawnSpot task vertex bytes → ⊥
no_spot_shown law task vertex bytes set r s h =
    let same = set_one law bytes s.file s.text h.file h.text set h.set s.input h.input s.accepted h.accepted in
    h.none s.shown.k s.shown.v (subst (λ (c : Contents). IsSpot c.tasks task vertex s.shown.k s.shown.v) same s.shown.spot)

unreached_shown : TextsReadAsOneSet → (task vertex bytes : List ℕ) (set : Contents) (r : Response) → IsShown task vertex bytes set r → IsNotReached task vertex bytes → ⊥
unreached_shown law task vertex bytes set r s h =
    let same = set_one law bytes s.file s.text h.file h.text set h.set s.input h.input s.accepted h.accepted in
    let text = (input_one bytes s.file s.text h.file h.text s.input h.input).1 in
    let found : IsUnreached task vertex h.set.tasks s.responses = h.unreached s.responses (subst (IsResponsesText s.responses) text s.are) in
    let u : IsUnreached task vertex set.tasks s.responses = subst (λ (c : Contents). IsUnreached task vertex c.tasks s.responses) (sym same) found in
    let one = spot_one set.tasks task vertex u.k u.v s.shown.k s.shown.v u.spot s.shown.spot in
    u.none r (ap (λ k. response_of k u.v s.responses) one.0 ∙ ap (λ v. response_of s.shown.k v s.responses) one.1 ∙ s.shown.response) s.shown.reached

shown_well : TextsReadAsOneSet → (task vertex bytes : List ℕ) (f : Fault) (set : Contents) (r : Response) → IsShown task vertex bytes set r → IsResponseFault task vertex bytes f → ⊥
shown_well law task vertex bytes f set r s (inl h) = too_long bytes s.file s.text h.0 s.input
shown_well law task vertex bytes f set r s (inr (inl h)) = file_well law bytes s.file s.text set f s.input s.accepted h
shown_well law task vertex bytes f set r s (inr (inr (inl h))) = text_well bytes s.file s.text s.responses f s.input s.are h
shown_well law task vertex bytes f set r s (inr (inr (inr (inl h)))) = no_spot_shown law task vertex bytes set r s h.0
shown_well law task vertex bytes f set r s (inr (inr (inr (inr h)))) = unreached_shown law task vertex bytes set r s h.0

-- An input has one fault.
one_fault : TextsReadAsOneSet → (task vertex bytes : List ℕ) (f g : Fault) → IsResponseFault task vertex bytes f → IsResponseFault task vertex bytes g → f ≡ g
one_fault law task vertex bytes f g (inl h) (inl k) = h.1 ∙ sym k.1
one_fault law task vertex bytes f g (inl h) (inr (inl k)) = absurd (too_long bytes k.file k.text h.0 k.input)
one_fault law task vertex bytes f g (inl h) (inr (inr (inl k))) = absurd (too_long bytes k.file k.text h.0 k.input)
one_fault law task vertex bytes f g (inl h) (inr (inr (inr (inl k)))) = absurd (too_long bytes k.0.file k.0.text h.0 k.0.input)
one_fault law task vertex bytes f g (inl h) (inr (inr (inr (inr k)))) = absurd (too_long bytes k.0.file k.0.text h.0 k.0.input)
one_fault law task vertex bytes f g (inr (inl h)) (inl k) = absurd (too_long bytes h.file h.text k.0 h.input)
one_fault law task vertex bytes f g (inr (inl h)) (inr (inl k)) = file_fault_one law bytes f g h k
one_fault law task vertex bytes f g (inr (inl h)) (inr (inr (inl k))) = absurd (file_well law bytes k.file k.text k.set f k.input k.accepted h)
one_fault law task vertex bytes f g (inr (inl h)) (inr (inr (inr (inl k)))) = absurd (file_well law bytes k.0.file k.0.text k.0.set f k.0.input k.0.accepted h)
one_fault law task vertex bytes f g (inr (inl h)) (inr (inr (inr (inr k)))) = absurd (file_well law bytes k.0.file k.0.text k.0.set f k.0.input k.0.accepted h)
one_fault law task vertex bytes f g (inr (inr (inl h))) (inl k) = absurd (too_long bytes h.file h.text k.0 h.input)
one_fault law task vertex bytes f g (inr (inr (inl h))) (inr (inl k)) = absurd (file_well law bytes h.file h.text h.set g h.input h.accepted k)
one_fault law task vertex bytes f g (inr (inr (inl h))) (inr (inr (inl k))) = text_fault_one bytes f g h k
one_fault law task vertex bytes f g (inr (inr (inl h))) (inr (inr (inr (inl k)))) = absurd (text_well bytes k.0.file k.0.text k.0.responses f k.0.input k.0.are h)
one_fault law task vertex bytes f g (inr (inr (inl h))) (inr (inr (inr (inr k)))) = absurd (text_well bytes k.0.file k.0.text k.0.responses f k.0.input k.0.are h)
one_fault law task vertex bytes f g (inr (inr (inr (inl h)))) (inl k) = absurd (too_long bytes h.0.file h.0.text k.0 h.0.input)
one_fault law task vertex bytes f g (inr (inr (inr (inl h)))) (inr (inl k)) = absurd (file_well law bytes h.0.file h.0.text h.0.set g h.0.input h.0.accepted k)
one_fault law task vertex bytes f g (inr (inr (inr (inl h)))) (inr (inr (inl k))) = absurd (text_well bytes h.0.file h.0.text h.0.responses g h.0.input h.0.are k)
one_fault law task vertex bytes f g (inr (inr (inr (inl h)))) (inr (inr (inr (inl k)))) = h.1 ∙ sym k.1
one_fault law task vertex bytes f g (inr (inr (inr (inl h)))) (inr (inr (inr (inr k)))) = absurd (no_spot law task vertex bytes h.0 k.0)
one_fault law task vertex bytes f g (inr (inr (inr (inr h)))) (inl k) = absurd (too_long bytes h.0.file h.0.text k.0 h.0.input)
one_fault law task vertex bytes f g (inr (inr (inr (inr h)))) (inr (inl k)) = absurd (file_well law bytes h.0.file h.0.text h.0.set g h.0.input h.0.accepted k)
one_fault law task vertex bytes f g (inr (inr (inr (inr h)))) (inr (inr (inl k))) = absurd (text_well bytes h.0.file h.0.text h.0.responses g h.0.input h.0.are k)
one_fault law task vertex bytes f g (inr (inr (inr (inr h)))) (inr (inr (inr (inl k)))) = absurd (no_spot law task vertex bytes k.0 h.0)
one_fault law task vertex bytes f g (inr (inr (inr (inr h)))) (inr (inr (inr (inr k)))) = h.1 ∙ sym k.1

pub response_lawful : TextsReadAsOneSet → (svg : Bool) (task vertex : List ℕ) → AreLawful (response_timeline_rules svg task vertex)
response_lawful law svg task vertex = record {
  low = λ bytes m d. omega (arith, d.status_is);
  apart = λ bytes m f d h. shown_well law task vertex bytes f d.set d.response d.shown h;
  one_fault = one_fault law task vertex;
  longer = λ bytes f h. inl h;
  made_ends = λ bytes m d set r s. d.status_is;
  refused_ends = λ bytes f h set r s. absurd (shown_well law task vertex bytes f set r s h);
}
