-- Worked examples of the definitions, computed: what a reader can check by hand.
use Rattle.std.proofs.Common.{◌≡◌, List, [], ◌∷◌, refl, Some, None, lit<}
use Rattle.drt_model.specs.declared.jobs.Job.{Job}
use Rattle.drt_model.specs.declared.jobs.Policy.TheVariants.{Edf, Fixed}
use Rattle.drt_model.specs.Trace.{trace, pending, best, better, goes_before, is_before, is_pending, done, Misses}

-- Two jobs of a(2,4) at 0 and 4, above one job of b(3,6) at 0.
abbrev two_tasks : List Job
two_tasks =
    record { task = 0; priority = 1; time = 0; deadline = 4; need = 2 }
    ∷ record { task = 0; priority = 1; time = 4; deadline = 8; need = 2 }
    ∷ record { task = 1; priority = 2; time = 0; deadline = 6; need = 3 } ∷ []

-- b has had two ticks by 6 under fixed priorities, and its third comes late.
fixed_trace : trace Fixed two_tasks 8 ≡ Some 0 ∷ Some 0 ∷ Some 2 ∷ Some 2 ∷ Some 1 ∷ Some 1 ∷ Some 2 ∷ None ∷ []
unfolding trace pending best better goes_before is_before is_pending
fixed_trace = refl

-- Under EDF it is done at 5.
edf_trace : trace Edf two_tasks 8 ≡ Some 0 ∷ Some 0 ∷ Some 2 ∷ Some 2 ∷ Some 2 ∷ Some 1 ∷ Some 1 ∷ None ∷ []
unfolding trace pending best better goes_before is_before is_pending
edf_trace = refl

fixed_miss : Misses Fixed two_tasks 2
unfolding done trace pending best better goes_before is_before is_pending
fixed_miss = lit< tt

-- Equal deadlines go by the task under EDF, and by the written priority under fixed priorities, whatever the order of the file.
abbrev tied : List Job
tied =
    record { task = 0; priority = 9; time = 0; deadline = 5; need = 2 }
    ∷ record { task = 1; priority = 3; time = 0; deadline = 5; need = 1 } ∷ []

tied_edf : trace Edf tied 4 ≡ Some 0 ∷ Some 0 ∷ Some 1 ∷ None ∷ []
unfolding trace pending best better goes_before is_before is_pending
tied_edf = refl

tied_fixed : trace Fixed tied 4 ≡ Some 1 ∷ Some 0 ∷ Some 0 ∷ None ∷ []
unfolding trace pending best better goes_before is_before is_pending
tied_fixed = refl

-- A late job stays pending until it has had its need; a tick without a pending job is idle.
abbrev late : List Job
late =
    record { task = 0; priority = 1; time = 1; deadline = 3; need = 3 }
    ∷ record { task = 0; priority = 1; time = 5; deadline = 9; need = 1 } ∷ []

late_trace : trace Fixed late 7 ≡ None ∷ Some 0 ∷ Some 0 ∷ Some 0 ∷ None ∷ Some 1 ∷ None ∷ []
unfolding trace pending best better goes_before is_before is_pending
late_trace = refl

late_miss : Misses Edf late 0
unfolding done trace pending best better goes_before is_before is_pending
late_miss = lit< tt
