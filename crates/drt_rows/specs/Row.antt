-- The steps of three workers, and of one, on one small graph.
use Rattle.std.specs.Prelude.{ℕ, Option, List, [], ◌∷◌, map, filter}
use Rattle.drt_model.specs.Digraph.{Digraph}
use Rattle.drt_graph.specs.declared.front.FrontEntry.{FrontEntry}
use Rattle.drt_demand.specs.Demand.{demand_algebra}
use Rattle.drt_table.specs.Node.{NodeOf, is_kept}
use Rattle.drt_table.specs.Machine.{Setting, State, step_of, opening_state, replay_from}
use Rattle.drt_table.specs.declared.step.TableStep.{TableStep}
use Rattle.drt_table.specs.declared.step.TableStep.TheVariants.{Take, Offer, Close}
use Rattle.drt_table.specs.declared.step.TableReply.{TableReply}
use Rattle.drt_table.specs.declared.step.TableReply.TheVariants.{Taken, Busy, Finished, Added, Dominated, OutOfRange, Closed}
use Rattle.drt_table.specs.declared.step.Entry.{Entry}

-- The graph p(1,1), q(2,1), m(1,1) with the edges p-m 1, q-m 1 and m-m 3.
abbrev pub graph : Digraph
graph = record {
  vertices = record { name = []; wcet = 1; deadline = 1 } ∷ record { name = []; wcet = 2; deadline = 1 } ∷ record { name = []; wcet = 1; deadline = 1 } ∷ [];
  out = (record { from = 0; to = 2; sep = 1 } ∷ []) ∷ (record { from = 1; to = 2; sep = 1 } ∷ []) ∷ (record { from = 2; to = 2; sep = 3 } ∷ []) ∷ [];
}

-- The bound is 5, and the budget ample.
abbrev pub setting : Setting
setting = record { graph = graph; bound = 5; budget = 100000 }

-- A step by a worker.
abbrev pub by : ℕ → TableStep → Entry
by w s = record { worker = w; step = s }

-- The replies to calls, one after another.
abbrev pub replies : Setting → State FrontEntry → List Entry → List TableReply
replies t s [] = []
replies t s (e ∷ es) = (step_of demand_algebra t s e.worker e.step).reply ∷ replies t (step_of demand_algebra t s e.worker e.step).state es

-- The calls of three workers.
abbrev pub calls_of_three : List Entry
calls_of_three =
    by 0 Take ∷ by 1 Take ∷ by 0 (Offer 0 0) ∷ by 0 (Close 0) ∷ by 2 Take ∷ by 0 Take ∷ by 1 (Offer 1 0) ∷ by 1 (Close 1) ∷ by 2 (Offer 2 0)
    ∷ by 2 (Close 2) ∷ by 0 Take ∷ by 1 Take ∷ by 0 (Offer 4 0) ∷ by 0 (Close 4) ∷ by 1 Take ∷ by 1 (Offer 5 0) ∷ by 1 (Close 5) ∷ by 0 Take ∷ []

-- What the three are answered.
abbrev pub replies_to_three : List TableReply
replies_to_three =
    Taken 0 ∷ Taken 1 ∷ Added 3 ∷ Closed ∷ Taken 2 ∷ Busy 1 ∷ Added 4 ∷ Closed ∷ Dominated 4
    ∷ Closed ∷ Taken 4 ∷ Busy 4 ∷ Added 5 ∷ Closed ∷ Taken 5 ∷ OutOfRange ∷ Closed ∷ Finished ∷ []

-- The calls of one worker.
abbrev pub calls_of_one : List Entry
calls_of_one =
    by 0 Take ∷ by 0 (Offer 0 0) ∷ by 0 (Close 0) ∷ by 0 Take ∷ by 0 (Offer 1 0) ∷ by 0 (Close 1) ∷ by 0 Take ∷ by 0 (Offer 2 0) ∷ by 0 (Close 2)
    ∷ by 0 Take ∷ by 0 (Offer 4 0) ∷ by 0 (Close 4) ∷ by 0 Take ∷ by 0 (Offer 5 0) ∷ by 0 (Close 5) ∷ by 0 Take ∷ []

-- What the one is answered.
abbrev pub replies_to_one : List TableReply
replies_to_one =
    Taken 0 ∷ Added 3 ∷ Closed ∷ Taken 1 ∷ Added 4 ∷ Closed ∷ Taken 2 ∷ Dominated 4 ∷ Closed
    ∷ Taken 4 ∷ Added 5 ∷ Closed ∷ Taken 5 ∷ OutOfRange ∷ Closed ∷ Finished ∷ []

-- The state after the calls of three.
abbrev pub after_three : State FrontEntry
after_three = replay_from demand_algebra setting (opening_state demand_algebra setting) calls_of_three

-- The state after the calls of one.
abbrev pub after_one : State FrontEntry
after_one = replay_from demand_algebra setting (opening_state demand_algebra setting) calls_of_one

-- The node that dropped a node, if any.
abbrev pub dropped_by : NodeOf FrontEntry → Option ℕ
dropped_by n = n.dropped_by

-- The labels of the kept nodes.
abbrev pub kept_labels : State FrontEntry → List FrontEntry
kept_labels s = map (λ n. n.label) (filter is_kept s.nodes)
