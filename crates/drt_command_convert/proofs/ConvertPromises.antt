-- What is promised of `convert` agrees.
use Rattle.std.proofs.Common.{◌≡◌, ℕ, ◌<◌, ◌≤◌, List, length, inl, inr, refl, sym, ap, ◌∙◌, subst, arith, Some}
use Rattle.std.proofs.lemmas.Option.{same_Some}
use Rattle.drt_classic.specs.declared.classic.Classic.{Classic}
use Rattle.drt_classic.specs.ClassicReading.{HasClassicFault}
use Rattle.drt_command.specs.Inputs.{IsLonger}
use Rattle.drt_command.specs.Rules.{AreLawful}
use Rattle.drt_command_files.specs.TaskFiles.{file_input}
use Rattle.drt_outcome.specs.declared.fault.Fault.{Fault}
use Rattle.drt_outcome.specs.declared.fault.Fault.TheVariants.{Nothing, File, Edge, Limit, Probe, Rule, Dossier}
use Rattle.drt_command_convert.specs.Convert.{IsClassicFault, convert_rules}
use Rattle.drt_command_convert.specs.Verdict.{IsClassicFile}

same_place : (l c m d : ℕ) → l ≡ m → c ≡ d → File l c ≡ File m d
same_place l c m d p q = cc

same_text : (bytes : List ℕ) (l c m d : ℕ) → HasClassicFault bytes l c → HasClassicFault bytes m d → File l c ≡ File m d
same_text bytes l c m d h k =
    let one : ◌≡◌ {A = ℕ × ℕ} (l, c) (m, d) = same_Some (l, c) (m, d) (sym h.first ∙ k.first) in
    same_place l c m d (ap (λ (x : ℕ × ℕ). x.0) one) (ap (λ (x : ℕ × ℕ). x.1) one)

-- A file that reads as a set has no fault.
reads_well : (bytes : List ℕ) (tasks : List Classic) (f : Fault) → IsClassicFile bytes tasks → IsClassicFault bytes f → ⊥
reads_well bytes tasks Nothing a h = h
reads_well bytes tasks (Edge t e p) a h = h
reads_well bytes tasks (Limit c) a h = h
reads_well bytes tasks (Probe n c) a h = h
reads_well bytes tasks (Rule n) a h = h
reads_well bytes tasks (Dossier l c) a h = h
reads_well bytes tasks (File l c) a (inl big) = omega (arith, a.small, big.0)
reads_well bytes tasks (File l c) a (inr text) = text.1.reads_as_none tasks a.reads

-- A file has one fault.
fault_one : (bytes : List ℕ) (f g : Fault) → IsClassicFault bytes f → IsClassicFault bytes g → f ≡ g
fault_one bytes Nothing g h k = absurd h
fault_one bytes (Edge t e p) g h k = absurd h
fault_one bytes (Limit c) g h k = absurd h
fault_one bytes (Probe n c) g h k = absurd h
fault_one bytes (Rule n) g h k = absurd h
fault_one bytes (Dossier l c) g h k = absurd h
fault_one bytes (File l c) Nothing h k = absurd k
fault_one bytes (File l c) (Edge t e p) h k = absurd k
fault_one bytes (File l c) (Limit d) h k = absurd k
fault_one bytes (File l c) (Probe n d) h k = absurd k
fault_one bytes (File l c) (Rule n) h k = absurd k
fault_one bytes (File l c) (Dossier m d) h k = absurd k
fault_one bytes (File l c) (File m d) (inl big) (inl more) = same_place l c m d (big.1 ∙ sym more.1) (big.2 ∙ sym more.2)
fault_one bytes (File l c) (File m d) (inl big) (inr text) = absurd (omega (arith, big.0, text.0))
fault_one bytes (File l c) (File m d) (inr text) (inl big) = absurd (omega (arith, big.0, text.0))
fault_one bytes (File l c) (File m d) (inr text) (inr other) = same_text bytes l c m d text.1 other.1

-- A file that is too long is refused.
long_file : (bytes : List ℕ) (f : Fault) → IsLonger file_input bytes f → IsClassicFault bytes f
long_file bytes f h = subst (IsClassicFault bytes) (sym h.1) (inl (h.0, refl, refl))

pub convert_lawful : AreLawful convert_rules
convert_lawful = record {
  low = λ bytes m d. omega (arith, d.0.status);
  apart = λ bytes m f d h. reads_well bytes d.0.tasks f d.0.file h;
  one_fault = fault_one;
  longer = long_file;
  made_ends = λ bytes m d tasks a. d.0.status;
  refused_ends = λ bytes f h tasks a. absurd (reads_well bytes tasks f a h);
}
