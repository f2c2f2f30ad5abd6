-- What a reading says of a text.
use Rattle.std.proofs.Common.{◌≡◌, ◌↔◌, ℕ, List, None, Result, Ok, Err, ap, refl, sym, ◌∙◌}
use Rattle.drt_model.specs.Contents.{Contents}
use Rattle.drt_file.specs.declared.fault.FileFault.{FileFault}
use Rattle.drt_file.specs.declared.fault.FileError.{FileError}
use Rattle.drt_file.specs.declared.fault.FileError.TheVariants as errors
use Rattle.drt_file.specs.internal.Steps.{Fails, read_text}
use Rattle.drt_file.specs.trusted.Reading.{Reads, IsCauseOf}
use Rattle.drt_file.specs.trusted.Faults.{fault_of}
use Rattle.drt_file.proofs.Faulty.{told}
use Rattle.drt_file.proofs.Spelled.{reads_again}
use Rattle.drt_file.proofs.TextFaults.{fault_same}
use Rattle.drt_file.proofs.Whole.{read_says}

-- A text with a fault reads as no set.
pub not_read : (bytes : List ℕ) (f : FileFault) → read_text bytes ≡ Err f → (set : Contents) → Reads bytes set → ⊥
not_read bytes f e set reads = let ok = reads_again bytes set reads in absurd (cc)

pub cause_of : (bytes : List ℕ) (e : FileError) → Fails e (read_text bytes) → IsCauseOf bytes e
cause_of bytes errors.Memory fails = tt
cause_of bytes (errors.Fault f) fails = record { first = fault_same bytes ∙ ap told fails; reads_as_none = λ set reads. not_read bytes f fails set reads }

-- A text reads as one set at most.
pub one_set : (bytes : List ℕ) (s t : Contents) → Reads bytes s → Reads bytes t → s ≡ t
one_set bytes s t rs rt =
    let a = reads_again bytes s rs in
    let b = reads_again bytes t rt in
    cc

-- A text has no fault exactly where it reads as some set.
pub faultless : (bytes : List ℕ) → fault_of bytes ≡ None ↔ ((set : Contents) × Reads bytes set)
faultless bytes = (λ e. read (read_text bytes) refl (sym (fault_same bytes) ∙ e), λ h. fault_same bytes ∙ ap told (reads_again bytes h.0 h.1))
  where
    read : (r : Result Contents FileFault) → read_text bytes ≡ r → told (read_text bytes) ≡ None → (set : Contents) × Reads bytes set
    read (Ok set) at e = (set, read_says bytes set at)
    read (Err f) at e = absurd (cc)
