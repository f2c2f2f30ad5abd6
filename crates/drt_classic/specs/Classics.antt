-- Classic tasks, seen as their frames.
use Rattle.std.specs.Prelude.{ℕ, List, [], ◌∷◌, map}
use Rattle.drt_classic.specs.declared.classic.Frame.{Frame}
use Rattle.drt_classic.specs.declared.classic.Classic.{Classic}
use Rattle.drt_classic.specs.declared.classic.Classic.TheVariants.{Sporadic, Multiframe, Cyclic, Free}

-- The name of a task.
abbrev pub name_of : Classic → List ℕ
name_of (Sporadic name frame) = name
name_of (Multiframe name deadline period wcets) = name
name_of (Cyclic name frames) = name
name_of (Free name frames) = name

-- The frames of a multiframe task: they share its deadline, and its period is the separation after each.
abbrev pub frames_of_period : ℕ → ℕ → List ℕ → List Frame
frames_of_period deadline period wcets = map (λ wcet. record { wcet = wcet; deadline = deadline; sep = period }) wcets

-- The frames of a task, in order. A sporadic task has one, whose separation is its period.
abbrev pub frames_of : Classic → List Frame
frames_of (Sporadic name frame) = frame ∷ []
frames_of (Multiframe name deadline period wcets) = frames_of_period deadline period wcets
frames_of (Cyclic name frames) = frames
frames_of (Free name frames) = frames
