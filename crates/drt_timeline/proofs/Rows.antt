-- A worked timeline, computed: what a reader can check by hand.
use Rattle.std.proofs.Common.{◌≡◌, List, [], ◌∷◌, refl, Some, None}
use Rattle.std.specs.Prelude.{codes, decimal}
use Rattle.drt_model.specs.declared.jobs.Policy.TheVariants.{Edf}
use Rattle.drt_model.specs.declared.jobs.Release.{Release}
use Rattle.drt_model.specs.declared.tasks.Task.{Task}
use Rattle.drt_model.specs.Schedulable.{jobs_of}
use Rattle.drt_model.specs.Trace.{trace, pending, best, better, goes_before, is_before, is_pending}
use Rattle.drt_timeline.specs.declared.event.Event.{Event}
use Rattle.drt_timeline.specs.declared.event.Mark.TheVariants.{Finish, Deadline, Release as Released}
use Rattle.drt_timeline.specs.declared.span.Span.{Span}
use Rattle.drt_timeline.specs.Text.{events_after, events_until, timeline_lines}

-- T1 has a(2,3), and T2 has b(4,10).
abbrev two_tasks : List Task
two_tasks =
    record { name = codes "T1"; priority = 1; vertices = record { name = codes "a"; wcet = 2; deadline = 3 } ∷ []; edges = record { from = 0; to = 0; sep = 7 } ∷ [] }
    ∷ record { name = codes "T2"; priority = 2; vertices = record { name = codes "b"; wcet = 4; deadline = 10 } ∷ []; edges = [] } ∷ []

-- T1 is released at 2 and at 9, and T2 at 0.
abbrev three_releases : List Release
three_releases =
    record { task = 0; vertex = 0; time = 2; need = 2 }
    ∷ record { task = 0; vertex = 0; time = 9; need = 1 }
    ∷ record { task = 1; vertex = 0; time = 0; need = 4 } ∷ []

-- Under EDF the first job of T1 preempts that of T2, and from 6 to 9 the processor is idle.
preempting : trace Edf (jobs_of two_tasks three_releases) 11
    ≡ Some 2 ∷ Some 2 ∷ Some 0 ∷ Some 0 ∷ Some 2 ∷ Some 2 ∷ None ∷ None ∷ None ∷ Some 1 ∷ None ∷ []
unfolding trace pending best better goes_before is_before is_pending
preempting = refl

-- So the spans are these.
abbrev spans : List Span
spans =
    record { start = 0; end = 2; job = 2 } ∷ record { start = 2; end = 4; job = 0 } ∷ record { start = 4; end = 6; job = 2 } ∷ record { start = 9; end = 10; job = 1 } ∷ []

-- And these are the events up to 11.
abbrev events : List Event
events =
    record { time = 0; mark = Released; job = 2 }
    ∷ record { time = 2; mark = Released; job = 0 }
    ∷ record { time = 4; mark = Finish; job = 0 }
    ∷ record { time = 5; mark = Deadline; job = 0 }
    ∷ record { time = 6; mark = Finish; job = 2 }
    ∷ record { time = 9; mark = Released; job = 1 }
    ∷ record { time = 10; mark = Finish; job = 1 }
    ∷ record { time = 10; mark = Deadline; job = 2 } ∷ []

-- A span stands behind the events up to its start.
lines : timeline_lines two_tasks three_releases spans events
    ≡ (codes "release" ∷ decimal 0 ∷ codes "T2" ∷ codes "b" ∷ decimal 0 ∷ [])
    ∷ (decimal 0 ∷ decimal 2 ∷ codes "T2" ∷ codes "b" ∷ decimal 0 ∷ [])
    ∷ (codes "release" ∷ decimal 2 ∷ codes "T1" ∷ codes "a" ∷ decimal 0 ∷ [])
    ∷ (decimal 2 ∷ decimal 4 ∷ codes "T1" ∷ codes "a" ∷ decimal 0 ∷ [])
    ∷ (codes "finish" ∷ decimal 4 ∷ codes "T1" ∷ codes "a" ∷ decimal 0 ∷ [])
    ∷ (decimal 4 ∷ decimal 6 ∷ codes "T2" ∷ codes "b" ∷ decimal 0 ∷ [])
    ∷ (codes "deadline" ∷ decimal 5 ∷ codes "T1" ∷ codes "a" ∷ decimal 0 ∷ [])
    ∷ (codes "finish" ∷ decimal 6 ∷ codes "T2" ∷ codes "b" ∷ decimal 0 ∷ [])
    ∷ (codes "release" ∷ decimal 9 ∷ codes "T1" ∷ codes "a" ∷ decimal 1 ∷ [])
    ∷ (decimal 9 ∷ decimal 10 ∷ codes "T1" ∷ codes "a" ∷ decimal 1 ∷ [])
    ∷ (codes "finish" ∷ decimal 10 ∷ codes "T1" ∷ codes "a" ∷ decimal 1 ∷ [])
    ∷ (codes "deadline" ∷ decimal 10 ∷ codes "T2" ∷ codes "b" ∷ decimal 0 ∷ []) ∷ []
unfolding timeline_lines events_until events_after
lines = refl
