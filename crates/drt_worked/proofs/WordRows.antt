-- What worked lists of words mean.
use Rattle.std.proofs.Common.{◌≡◌, [], ◌∷◌, Some, None, true, false, codes, refl}
use Rattle.clap.proofs.OnLiterals.{clap_on_literals}
use Rattle.drt_words.specs.Meaning.{meaning_of}
use Rattle.drt_words.specs.declared.meaning.Meaning.TheVariants.{Edf, Sp, Check, Convert, Timeline}

-- Four workers and a budget of 100,000 stand by default.
pub edf_alone : meaning_of (codes "drt" ∷ codes "edf" ∷ []) ≡ Some (Edf (record { workers = 4; budget = 100000 }))
unfolding clap_on_literals
edf_alone = refl

pub sp_joined : meaning_of (codes "drt" ∷ codes "sp" ∷ codes "--workers=2" ∷ codes "--budget=50" ∷ []) ≡ Some (Sp (record { workers = 2; budget = 50 }))
unfolding clap_on_literals
sp_joined = refl

pub edf_apart : meaning_of (codes "drt" ∷ codes "edf" ∷ codes "--budget" ∷ codes "7" ∷ codes "--workers" ∷ codes "16" ∷ []) ≡ Some (Edf (record { workers = 16; budget = 7 }))
unfolding clap_on_literals
edf_apart = refl

pub check_alone : meaning_of (codes "drt" ∷ codes "check" ∷ []) ≡ Some Check
unfolding clap_on_literals
check_alone = refl

pub convert_alone : meaning_of (codes "drt" ∷ codes "convert" ∷ []) ≡ Some Convert
unfolding clap_on_literals
convert_alone = refl

-- A timeline is a text of a dossier by default.
pub timeline_alone : meaning_of (codes "drt" ∷ codes "timeline" ∷ []) ≡ Some (Timeline false None)
unfolding clap_on_literals
timeline_alone = refl

pub timeline_of_a_vertex : meaning_of (codes "drt" ∷ codes "timeline" ∷ codes "--svg" ∷ codes "--vertex" ∷ codes "T" ∷ codes "a" ∷ [])
    ≡ Some (Timeline true (Some (record { task = codes "T"; vertex = codes "a" })))
unfolding clap_on_literals
timeline_of_a_vertex = refl

-- No command, an unknown one, numbers out of range, and one name in place of two have no meaning.
pub no_command : meaning_of (codes "drt" ∷ []) ≡ None
unfolding clap_on_literals
no_command = refl

pub unknown_command : meaning_of (codes "drt" ∷ codes "walk" ∷ []) ≡ None
unfolding clap_on_literals
unknown_command = refl

pub no_worker : meaning_of (codes "drt" ∷ codes "edf" ∷ codes "--workers" ∷ codes "0" ∷ []) ≡ None
unfolding clap_on_literals
no_worker = refl

pub too_many_workers : meaning_of (codes "drt" ∷ codes "edf" ∷ codes "--workers" ∷ codes "17" ∷ []) ≡ None
unfolding clap_on_literals
too_many_workers = refl

pub too_great_a_budget : meaning_of (codes "drt" ∷ codes "edf" ∷ codes "--budget" ∷ codes "1000001" ∷ []) ≡ None
unfolding clap_on_literals
too_great_a_budget = refl

pub one_name : meaning_of (codes "drt" ∷ codes "timeline" ∷ codes "--vertex" ∷ codes "T" ∷ []) ≡ None
unfolding clap_on_literals
one_name = refl
