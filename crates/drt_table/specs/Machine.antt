-- The table machine: states, steps, replies, runs.
use Rattle.std.specs.Prelude.{◌≡◌, ℕ, suc, zero, ◌+◌, ◌<◌, nat_le, nat_lt, Bool, true, if◌then◌else◌, ◌&&◌, Option, None, Some, is_none, unwrap_or, List, [], ◌∷◌, ◌++◌, length, map, slice_get}
use Rattle.drt_label.specs.Algebra.{Algebra}
use Rattle.drt_model.specs.Digraph.{Digraph, vertex_of, edge_of, out_degree}
use Rattle.drt_model.specs.declared.tasks.Edge.{Edge}
use Rattle.drt_table.specs.Node.{NodeOf, is_kept, is_node_pending, is_taken, fresh}
use Rattle.drt_worklist.specs.Places.{first, changed}
use Rattle.drt_worklist.specs.Runs.{replay_from as replay_by, IsRunFrom as IsRunBy}
use Rattle.drt_table.specs.Earliest.{smaller, least_of, earliest}
use Rattle.drt_table.specs.declared.node.NodeState.TheVariants.{Taken as TakenBy, Done}
use Rattle.drt_table.specs.declared.step.TableStep.{TableStep}
use Rattle.drt_table.specs.declared.step.TableStep.TheVariants.{Take, Offer, Close}
use Rattle.drt_table.specs.declared.step.TableReply.{TableReply}
use Rattle.drt_table.specs.declared.step.TableReply.TheVariants.{Taken, Busy, Finished, Added, Dominated, OutOfRange, Closed, Spent}
use Rattle.drt_table.specs.declared.step.Entry.{Entry}

-- What a table never changes: its graph, its bound in ticks, and its budget in steps.
pub record Setting : Type 0 where
  pub graph : Digraph
  pub bound : ℕ
  pub budget : ℕ

-- What a search of a graph's walks never changes.
abbrev pub search_of : Digraph → ℕ → ℕ → Setting
search_of g bound budget = record { graph = g; bound = bound; budget = budget }

-- A state has nodes, and the log of the steps that led to it.
pub record State (L : Type 0) : Type 0 where
  pub nodes : List (NodeOf L)
  pub log : List Entry

-- What a step gives: the state after it, and a reply.
pub record Outcome (L : Type 0) : Type 0 where
  pub state : State L
  pub reply : TableReply

-- The least separation of the edges in some rows, if there is an edge.
abbrev pub shortest : List (List Edge) → Option ℕ
shortest [] = None
shortest (row ∷ rows) = smaller (least_of (λ e. true) (λ e. e.sep) row) (shortest rows)

-- The least separation of the graph, or the bound plus 1 where it has no edge: no extension of a label comes sooner after it.
abbrev pub separation : Setting → ℕ
separation t = unwrap_or (shortest t.graph.out) (t.bound + 1)

module _ {L : Type 0} (a : Algebra L) (t : Setting) where
  -- The opening label of a vertex.
  abbrev pub opening_label : ℕ → L
  opening_label v = a.opening v (vertex_of t.graph v).wcet t.bound

  -- A label is in range of its vertex's deadline and the bound.
  abbrev pub in_range : L → Bool
  in_range l = a.in_range l (vertex_of t.graph (a.vertex l)).deadline t.bound

  -- A label extended by the k-th edge out of its vertex.
  abbrev pub extended : L → ℕ → L
  extended l k =
      let e = edge_of t.graph (a.vertex l) k in
      a.extend l e.sep e.to (vertex_of t.graph e.to).wcet

  -- The opening nodes of the vertices from v on, of which there are n: one for each whose opening label is in range.
  abbrev pub opening_nodes : ℕ → ℕ → List (NodeOf L)
  opening_nodes v zero = []
  opening_nodes v (suc n) =
      if in_range (opening_label v) then fresh (opening_label v) None ∷ opening_nodes (v + 1) n else opening_nodes (v + 1) n

  -- The opening state.
  abbrev pub opening_state : State L
  opening_state = record { nodes = opening_nodes 0 (length t.graph.vertices); log = [] }

  -- The log has as many entries as the budget allows.
  abbrev pub is_full : State L → Bool
  is_full s = nat_le t.budget (length s.log)

  -- A step that changes nothing.
  abbrev pub unchanged : State L → TableReply → Outcome L
  unchanged s r = record { state = s; reply = r }

  -- A step that is logged.
  abbrev pub logged : State L → Entry → List (NodeOf L) → TableReply → Outcome L
  logged s e nodes r = record { state = record { nodes = nodes; log = s.log ++ e ∷ [] }; reply = r }

  -- The offset of a node's label.
  abbrev pub offset : NodeOf L → ℕ
  offset n = a.offset n.label

  -- The offset of a node's label, or 0 where there is no node.
  abbrev pub offset_in : Option (NodeOf L) → ℕ
  offset_in None = 0
  offset_in (Some n) = offset n

  -- The offset of the node of a number.
  abbrev pub offset_at : List (NodeOf L) → ℕ → ℕ
  offset_at nodes k = offset_in (slice_get nodes k)

  -- The next node: the pending node of least offset, the least number in a tie.
  abbrev pub next : List (NodeOf L) → Option ℕ
  next nodes = earliest is_node_pending offset nodes

  -- The holder: the taken node of least offset, the least number in a tie.
  abbrev pub holder : List (NodeOf L) → Option ℕ
  holder nodes = earliest is_taken offset nodes

  -- The worker takes node k.
  abbrev pub takes : State L → ℕ → ℕ → Outcome L
  takes s w k = logged s (record { worker = w; step = Take }) (changed k (λ n. record n { state = TakenBy w }) s.nodes) (Taken k)

  -- The step Take, by the next node and the holder, where there are. The next node is taken only where no taken node can give
  -- an offset as small.
  abbrev pub taken : State L → ℕ → Option ℕ → Option ℕ → Outcome L
  taken s w None None = unchanged s Finished
  taken s w None (Some h) = if is_full s then unchanged s Spent else unchanged s (Busy h)
  taken s w (Some k) None = if is_full s then unchanged s Spent else takes s w k
  taken s w (Some k) (Some h) =
      if is_full s then unchanged s Spent else
      if nat_lt (offset_at s.nodes k) (offset_at s.nodes h + separation t) then takes s w k else unchanged s (Busy h)

  -- A kept node that the label dominates is dropped by the node of that number and becomes done. (A label dominates only labels
  -- of its vertex.)
  abbrev pub drop_by : L → ℕ → NodeOf L → NodeOf L
  drop_by l number n = if is_kept n && a.dominates l n.label then record n { dropped_by = Some number; state = Done } else n

  -- The node is kept and dominates the label.
  abbrev pub dominating : L → NodeOf L → Bool
  dominating l n = is_kept n && a.dominates n.label l

  -- The nodes after node id has added the label as the node of the next number.
  abbrev pub added : List (NodeOf L) → ℕ → L → List (NodeOf L)
  added nodes id l = map (drop_by l (length nodes)) nodes ++ fresh l (Some id) ∷ []

  -- An offer of a label in range, by the least kept node that dominates it, if there is one.
  abbrev pub compared : State L → Entry → List (NodeOf L) → ℕ → L → Option ℕ → Outcome L
  compared s e nodes id l None = logged s e (added nodes id l) (Added (length nodes))
  compared s e nodes id l (Some k) = logged s e nodes (Dominated k)

  -- Node id has made one more offer.
  abbrev pub counted : ℕ → List (NodeOf L) → List (NodeOf L)
  counted id nodes = changed id (λ n. record n { offered = n.offered + 1 }) nodes

  -- The offer of a label by node id.
  abbrev pub offered : State L → Entry → ℕ → L → Outcome L
  offered s e id l =
      if in_range l
      then compared s e (counted id s.nodes) id l (first (dominating l) (counted id s.nodes))
      else logged s e (counted id s.nodes) OutOfRange

  -- The offer of the label of the node of number id, extended by its k-th edge. (There is a node of that number.)
  abbrev pub offered_at : State L → Entry → ℕ → ℕ → Option (NodeOf L) → Outcome L
  offered_at s e id k None = unchanged s Spent
  offered_at s e id k (Some n) = offered s e id (extended n.label k)

  -- The outcome of a worker's step.
  abbrev pub step_of : State L → ℕ → TableStep → Outcome L
  step_of s w Take = taken s w (next s.nodes) (holder s.nodes)
  step_of s w (Offer id k) = if is_full s then unchanged s Spent else offered_at s (record { worker = w; step = Offer id k }) id k (slice_get s.nodes id)
  step_of s w (Close id) = if is_full s then unchanged s Spent else logged s (record { worker = w; step = Close id }) (changed id (λ n. record n { state = Done }) s.nodes) Closed

  -- The worker holds the node of that number.
  pub record Holds (s : State L) (w id : ℕ) (n : NodeOf L) : Type 0 where
    pub at : slice_get s.nodes id ≡ Some n
    pub held : n.state ≡ TakenBy w

  -- The conditions of a step: a worker takes only where it holds none, offers the edges of a node that it holds in order, and
  -- closes it when all were offered.
  abbrev pub CanStep : State L → ℕ → TableStep → Type 0
  CanStep s w Take = (id : ℕ) (n : NodeOf L) → slice_get s.nodes id ≡ Some n → n.state ≡ TakenBy w → ⊥
  CanStep s w (Offer id k) = (n : NodeOf L) × Holds s w id n × (k ≡ n.offered) × (k < out_degree t.graph (a.vertex n.label))
  CanStep s w (Close id) = (n : NodeOf L) × Holds s w id n × (n.offered ≡ out_degree t.graph (a.vertex n.label))

  -- The state after an entry.
  abbrev pub after : State L → Entry → State L
  after s e = (step_of s e.worker e.step).state

  -- An entry meets the conditions of its step.
  abbrev pub CanEnter : State L → Entry → Type 0
  CanEnter s e = CanStep s e.worker e.step

  -- The state after some entries.
  abbrev pub replay_from : State L → List Entry → State L
  replay_from s es = replay_by after s es

  -- The entries meet the conditions one after another, and each adds itself to the log.
  abbrev pub IsRunFrom : State L → List Entry → Type 0
  IsRunFrom s es = IsRunBy after CanEnter (λ (s : State L). s.log) s es

  -- The state after a log, from the opening state.
  abbrev pub replay : List Entry → State L
  replay es = replay_from opening_state es

  -- A run: entries that are applied from the opening state.
  abbrev pub IsRun : List Entry → Type 0
  IsRun es = IsRunFrom opening_state es

  -- No node is pending and none is taken.
  abbrev pub is_finished : State L → Bool
  is_finished s = is_none (next s.nodes) && is_none (holder s.nodes)
