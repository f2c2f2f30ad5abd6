-- What the program says of an outcome below its notice.
use Rattle.std.specs.Prelude.{ℕ, List, [], ◌∷◌, ◌++◌, ◌==◌, if◌then◌else◌, codes, decimal}
use Rattle.drt_outcome.specs.declared.fault.Fault.{Fault}
use Rattle.drt_outcome.specs.declared.fault.Fault.TheVariants.{Nothing, File, Edge, Limit, Probe, Rule, Dossier}
use Rattle.drt_outcome.specs.declared.fault.PastEdge.{PastEdge}
use Rattle.drt_outcome.specs.declared.outcome.Outcome.{Outcome}
use Rattle.drt_outcome.specs.declared.outcome.Trail.{Trail}
use Rattle.drt_outcome.specs.declared.outcome.Trail.TheVariants as trails
use Rattle.drt_advice.specs.Sentences.{file_sentence, dossier_sentence, rule_sentence}

-- An edge and its numbers by their names, and what helps.
abbrev pub edge_sentence : PastEdge → List ℕ
edge_sentence past =
    codes "edge " ++ past.from ++ codes " " ++ past.to ++ codes " of task " ++ past.task ++ codes " has separation " ++ decimal past.separation
    ++ codes ", below the deadline " ++ decimal past.deadline ++ codes " of " ++ past.from ++ codes ": raise the separation or lower the deadline"

-- What is wrong with a refused input.
abbrev pub fault_sentence : Fault → List ℕ
fault_sentence Nothing = []
fault_sentence (File line code) = file_sentence code
fault_sentence (Edge task edge past) = edge_sentence past
fault_sentence (Limit code) = file_sentence code
fault_sentence (Probe add code) = codes "with " ++ decimal add ++ codes " more ticks of this vertex: " ++ file_sentence code
fault_sentence (Rule number) = rule_sentence number ++ codes ": don't trust this evidence, and analyse the set again"
fault_sentence (Dossier line code) = dossier_sentence code

-- What helps where a budget was spent.
abbrev pub more_steps : List ℕ
more_steps = codes " spent its budget: give more with --budget (at most 1,000,000), or make the set simpler"

-- That the search of something with a number spent its budget, and what helps.
abbrev pub spent_at : List ℕ → ℕ → List ℕ
spent_at search number = search ++ decimal number ++ more_steps

-- The same of a vertex of a task.
abbrev pub spent_in : List ℕ → ℕ → ℕ → List ℕ
spent_in search vertex task = search ++ decimal vertex ++ codes " of task " ++ decimal task ++ more_steps

-- Which search spent its budget, and what helps. Tasks and vertices count from 0.
abbrev pub trail_sentence : Trail → List ℕ
trail_sentence trails.Nothing = codes "the dossier says that nothing is decided, so there is nothing to check"
trail_sentence (trails.Table task log) = spent_at (codes "undecided: the search of the walks of task ") task
trail_sentence (trails.Refine task vertex log) = spent_in (codes "undecided: the refinement for vertex ") vertex task
trail_sentence (trails.Overload last) = spent_at (codes "undecided: the search for an overload, at time ") last
trail_sentence (trails.Bench edf fixed) = []
trail_sentence (trails.Assign higher task vertex log) = spent_in (codes "undecided: the refinement below the other open tasks for vertex ") vertex task
trail_sentence (trails.Response task vertex taken) = spent_in (codes "undecided: the search for the response of vertex ") vertex task

-- The sentence of an outcome; an answer has none.
abbrev pub sentence_of : Outcome → List ℕ
sentence_of o =
    if o.status == 3 then trail_sentence o.trail
    else if o.status == 4 then fault_sentence o.fault
    else if o.status == 5 then codes "write: drt edf, sp, response, assign, margin, check, timeline, util, upgrade, convert or bench, with --workers N (1 to 16) and --budget N (1 to 1,000,000) where the command has them; the file comes on standard input, as in drt edf < FILE (man ./docs/drt.1)"
    else if o.status == 6 then codes "standard input can't be read: is it a file?"
    else if o.status == 7 then codes "standard output takes no more: what it holds is cut"
    else if o.status == 8 then codes "the analysis needs more memory than there is: give fewer steps with --budget, or fewer workers with --workers"
    else if o.status == 9 then fault_sentence o.fault
    else if o.status == 10 then fault_sentence o.fault
    else []

-- The line of a sentence: none where it is empty.
abbrev pub line_of : List ℕ → List ℕ
line_of [] = []
line_of (c ∷ cs) = codes "drt: " ++ (c ∷ cs) ++ codes "\n"

-- The line that the program says of an outcome below its notice.
abbrev pub advice_of : Outcome → List ℕ
advice_of o = line_of (sentence_of o)
