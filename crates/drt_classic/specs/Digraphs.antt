-- The digraphs of classic tasks.
use Rattle.std.specs.Prelude.{ℕ, ◌+◌, List, [], ◌∷◌, ◌++◌, length, map, decimal}
use Rattle.std.specs.List.{range_with_len}
use Rattle.drt_model.specs.declared.tasks.Vertex.{Vertex}
use Rattle.drt_model.specs.declared.tasks.Edge.{Edge}
use Rattle.drt_model.specs.declared.tasks.Task.{Task}
use Rattle.drt_model.specs.Contents.{Contents}
use Rattle.drt_classic.specs.declared.classic.Frame.{Frame}
use Rattle.drt_classic.specs.declared.classic.Classic.{Classic}
use Rattle.drt_classic.specs.declared.classic.Classic.TheVariants.{Sporadic, Multiframe, Cyclic, Free}
use Rattle.drt_classic.specs.Classics.{name_of, frames_of}
use Rattle.drt_classic.specs.ClassicLegal.{next_frame}

-- The vertex of frame i is named `f` and its number.
abbrev pub frame_name : ℕ → List ℕ
frame_name i = 102 ∷ decimal i

-- A vertex for each of these frames, of which the first has number i.
unfoldable pub vertices_from : ℕ → List Frame → List Vertex
vertices_from i [] = []
vertices_from i (f ∷ frames) = record { name = frame_name i; wcet = f.wcet; deadline = f.deadline } ∷ vertices_from (i + 1) frames

-- The frames that may come after frame i, in order: any frame of a free task, and of each other the next one round.
abbrev pub frames_after : Classic → ℕ → List ℕ
frames_after (Sporadic name frame) i = 0 ∷ []
frames_after (Multiframe name deadline period wcets) i = next_frame (length wcets) i ∷ []
frames_after (Cyclic name frames) i = next_frame (length frames) i ∷ []
frames_after (Free name frames) i = range_with_len 0 (length frames)

-- The edges out of these frames, of which the first has number i, in order of sources and then of targets. The separation is that of the source.
unfoldable pub frame_edges : (ℕ → List ℕ) → ℕ → List Frame → List Edge
frame_edges after i [] = []
frame_edges after i (f ∷ frames) = map (λ j. record { from = i; to = j; sep = f.sep }) (after i) ++ frame_edges after (i + 1) frames

-- The digraph of a task. It has this priority.
abbrev pub digraph_of_classic : ℕ → Classic → Task
digraph_of_classic priority t = record {
  name = name_of t;
  priority = priority;
  vertices = vertices_from 0 (frames_of t);
  edges = frame_edges (frames_after t) 0 (frames_of t);
}

-- The digraphs of tasks, in order, with the priorities from this one on.
unfoldable pub tasks_from : ℕ → List Classic → List Task
tasks_from priority [] = []
tasks_from priority (t ∷ ts) = digraph_of_classic priority t ∷ tasks_from (priority + 1) ts

-- The digraphs of a classic set are a set of version 1.
abbrev pub digraphs_of : List Classic → Contents
digraphs_of tasks = record { version = 1; tasks = tasks_from 1 tasks }
