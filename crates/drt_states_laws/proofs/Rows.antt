-- A worked search, which keeps all rules: below a task with a branch a job of two ticks passes, though by the task's tail alone it has no
-- room at its deadline.
use Rattle.std.proofs.Common.{◌≡◌, ◌≢◌, ℕ, zero, suc, ◌+◌, ◌<◌, ◌≤◌, List, [], ◌∷◌, All, refl, arith}
use Rattle.std.specs.List.{AllByRecursion as ByRecursion}
use Rattle.std.specs.Prelude.{slice_index_or}
use Rattle.std.proofs.lemmas.List.Elements.{All-from_recursion, All-nil}
use Rattle.drt_model.specs.declared.tasks.Edge.{Edge}
use Rattle.drt_model.specs.declared.tasks.Vertex.{Vertex}
use Rattle.drt_model.specs.Digraph.{Digraph, IsSoundGraph, edge_of, out_degree, vertex_of}
use Rattle.drt_model.specs.Limits.{IsTime}
use Rattle.drt_model.specs.Walk.{wcet}
use Rattle.drt_model.proofs.Neighbours.{AllNeighbours-cons, AllNeighbours-nil, AllNeighbours-one}
use Rattle.drt_states.specs.declared.claims.Jump.{Jump}
use Rattle.drt_states.specs.declared.claims.StateClaim.{StateClaim}
use Rattle.drt_states.specs.declared.claims.StateEnd.{StateEnd}
use Rattle.drt_states.specs.declared.claims.StateEnd.TheVariants.{Passes, Splits}
use Rattle.drt_states.specs.declared.claims.StateEntry.{StateEntry}
use Rattle.drt_states.specs.declared.claims.TailClaim.{TailClaim}
use Rattle.drt_states.specs.States.{AreStates, Dominates, HasRoomAt, HaveDominatedChildren, HavePassingTimes, IsEntry, IsPassing, IsSplit, IsSplitting, IsState}
use Rattle.drt_states.specs.States.{asked_before, asked_from, entry_at, with_entry}
use Rattle.drt_states.specs.Tails.{BoundsWalks, IsAboveJump, IsCurve, IsTail, Place, curve_of, greatest_before, last_work, no_jump}
use Rattle.drt_states_laws.specs.Laws.{AreWalksOf, asked_together}
use Rattle.drt_states_laws.proofs.Curves.{IsRise}
use Rattle.drt_states_laws.proofs.Descent.{states_pass}

abbrev vertex : ℕ → Vertex
vertex wcet = record { name = []; wcet = wcet; deadline = 2 }

abbrev edge : ℕ → ℕ → ℕ → Edge
edge from to sep = record { from = from; to = to; sep = sep }

-- Vertices u, a, b and x of 1, 3, 1 and 3 ticks; edges from u to a and to b after 2 ticks, and from b to x after 3.
abbrev graph : Digraph
graph = record {
  vertices = vertex 1 ∷ vertex 3 ∷ vertex 1 ∷ vertex 3 ∷ [];
  out = (edge 0 1 2 ∷ edge 0 2 2 ∷ []) ∷ [] ∷ (edge 2 3 3 ∷ []) ∷ [] ∷ [];
}

abbrev place : Place
place = record { graph = graph; bound = 6 }

abbrev jump : ℕ → ℕ → Jump
jump offset work = record { offset = offset; work = work }

-- From u on 1 is asked for, past 2 ticks 4 and past 5 ticks 5; from b on 1 and past 3 ticks 4.
abbrev tail : TailClaim
tail = record {
  curves = (jump 0 1 ∷ jump 2 4 ∷ jump 5 5 ∷ []) ∷ (jump 0 3 ∷ []) ∷ (jump 0 1 ∷ jump 3 4 ∷ []) ∷ (jump 0 3 ∷ []) ∷ [];
}

abbrev at : ℕ → ℕ → List StateEntry
at vertex offset = record { place = 0; vertex = vertex; offset = offset } ∷ []

abbrev state : List StateEntry → ℕ → StateEnd → StateClaim
state entries work end = record { entries = entries; work = work; end = end }

-- The walk begins at one of the vertices. From u it goes on to a or to b, both at 2 and after 1 tick of work.
abbrev states : List StateClaim
states =
    state [] 0 (Splits 0 (1 ∷ 2 ∷ 3 ∷ 4 ∷ []))
    ∷ state (at 0 0) 0 (Splits 0 (5 ∷ 6 ∷ []))
    ∷ state (at 1 0) 0 (Passes 5)
    ∷ state (at 2 0) 0 (Passes 3)
    ∷ state (at 3 0) 0 (Passes 5)
    ∷ state (at 1 2) 1 (Passes 6)
    ∷ state (at 2 2) 1 (Passes 4)
    ∷ []

-- By the tail alone the job of 2 ticks has no room at 6.
by_tail : asked_before (tail ∷ []) (state [] 0 (Passes 6)) 6 ≡ 5
unfolding asked_from entry_at greatest_before last_work
by_tail = refl

-- Each state that passes does.
passing : HavePassingTimes 6 2 (tail ∷ []) states
unfolding asked_from entry_at greatest_before last_work
passing = All-from_recursion (λ s. IsPassing 6 2 (tail ∷ []) s s.end) states (tt, (tt, (a, (b, (x, (a_after_u, (b_after_u, tt)))))))
  where
    a : HasRoomAt 6 2 (tail ∷ []) (state (at 1 0) 0 (Passes 5)) 5
    a = record { some = omega arith; within = omega arith; fits = omega arith }

    b : HasRoomAt 6 2 (tail ∷ []) (state (at 2 0) 0 (Passes 3)) 3
    b = record { some = omega arith; within = omega arith; fits = omega arith }

    x : HasRoomAt 6 2 (tail ∷ []) (state (at 3 0) 0 (Passes 5)) 5
    x = record { some = omega arith; within = omega arith; fits = omega arith }

    a_after_u : HasRoomAt 6 2 (tail ∷ []) (state (at 1 2) 1 (Passes 6)) 6
    a_after_u = record { some = omega arith; within = omega arith; fits = omega arith }

    b_after_u : HasRoomAt 6 2 (tail ∷ []) (state (at 2 2) 1 (Passes 4)) 4
    b_after_u = record { some = omega arith; within = omega arith; fits = omega arith }

-- Each state that splits names those that stand for its children.
dominated : HaveDominatedChildren (graph ∷ []) 6 states
unfolding entry_at with_entry
dominated = All-from_recursion (λ s. IsSplitting (graph ∷ []) 6 states s s.end) states (first, (from_u, (tt, (tt, (tt, (tt, (tt, tt)))))))
  where
    same : (v o w : ℕ) (end : StateEnd) → Dominates (state (at v o) w end) (record { entries = at v o; work = w })
    same v o w end = record { entries = ((refl, refl, omega arith), tt); work = omega arith }

    first : IsSplit (graph ∷ []) 6 states (state [] 0 (Splits 0 (1 ∷ 2 ∷ 3 ∷ 4 ∷ []))) 0 (1 ∷ 2 ∷ 3 ∷ 4 ∷ [])
    first = record {
      place_is = omega arith;
      some = omega arith;
      each = (same 0 0 0 (Splits 0 (5 ∷ 6 ∷ [])), (same 1 0 0 (Passes 5), (same 2 0 0 (Passes 3), (same 3 0 0 (Passes 5), tt))));
    }

    from_u : IsSplit (graph ∷ []) 6 states (state (at 0 0) 0 (Splits 0 (5 ∷ 6 ∷ []))) 0 (5 ∷ 6 ∷ [])
    from_u = record { place_is = omega arith; some = omega arith; each = (same 1 2 1 (Passes 6), (same 2 2 1 (Passes 4), tt)) }

-- They are states, and the first one is the opening.
are_states : AreStates (graph ∷ []) states
are_states = record {
  opens = record { entries = refl; work = refl };
  each = All-from_recursion (IsState (graph ∷ [])) states (
    record { in_order = AllNeighbours-nil (λ (a b : StateEntry). a.place < b.place); entries = All-nil (IsEntry (graph ∷ [])) },
    (
      one 0 0 0 (Splits 0 (5 ∷ 6 ∷ [])) (omega arith),
      (
        one 1 0 0 (Passes 5) (omega arith),
        (
          one 2 0 0 (Passes 3) (omega arith),
          (one 3 0 0 (Passes 5) (omega arith), (one 1 2 1 (Passes 6) (omega arith), (one 2 2 1 (Passes 4) (omega arith), tt))),
        ),
      ),
    ),
  );
}
  where
    one : (v o w : ℕ) (end : StateEnd) → v < 4 → IsState (graph ∷ []) (state (at v o) w end)
    one v o w end l = record {
      in_order = AllNeighbours-one (λ (a b : StateEntry). a.place < b.place) (record { place = 0; vertex = v; offset = o });
      entries = All-from_recursion (IsEntry (graph ∷ [])) (at v o) (l, tt);
    }

-- The tail keeps its rules.
is_tail : IsTail 6 graph tail
is_tail = record { count = refl; each = All-from_recursion (IsCurve 6) tail.curves (from_u, (alone, (from_b, (alone, tt)))) }
  where
    below : (jumps : List Jump) → ByRecursion (λ j. j.offset < 6) jumps → All (λ j. j.offset < 6) jumps
    below jumps each = All-from_recursion (λ (j : Jump). j.offset < 6) jumps each

    alone : IsCurve 6 (jump 0 3 ∷ [])
    alone = record { some = omega arith; first = refl; rising = AllNeighbours-one IsRise (jump 0 3); below = below (jump 0 3 ∷ []) (omega arith, tt) }

    from_b : IsCurve 6 (jump 0 1 ∷ jump 3 4 ∷ [])
    from_b = record {
      some = omega arith;
      first = refl;
      rising = AllNeighbours-cons IsRise (jump 0 1) (jump 3 4) [] (omega arith, omega arith) (AllNeighbours-one IsRise (jump 3 4));
      below = below (jump 0 1 ∷ jump 3 4 ∷ []) (omega arith, (omega arith, tt));
    }

    from_u : IsCurve 6 (jump 0 1 ∷ jump 2 4 ∷ jump 5 5 ∷ [])
    from_u = record {
      some = omega arith;
      first = refl;
      rising = AllNeighbours-cons IsRise (jump 0 1) (jump 2 4) (jump 5 5 ∷ []) (omega arith, omega arith)
          (AllNeighbours-cons IsRise (jump 2 4) (jump 5 5) [] (omega arith, omega arith) (AllNeighbours-one IsRise (jump 5 5)));
      below = below (jump 0 1 ∷ jump 2 4 ∷ jump 5 5 ∷ []) (omega arith, (omega arith, (omega arith, tt)));
    }

openings : (u : ℕ) → u < 4 → wcet graph u ≤ (slice_index_or (curve_of tail u) 0 no_jump).work
openings zero l = omega arith
openings (suc zero) l = omega arith
openings (suc (suc zero)) l = omega arith
openings (suc (suc (suc zero))) l = omega arith
openings (suc (suc (suc (suc u)))) l = absurd (omega arith)

-- To a 2 ticks after u: 1 and 3 by 3.
to_a : All (IsAboveJump 6 graph tail 0 0) (jump 0 3 ∷ [])
unfolding last_work
to_a = All-from_recursion (IsAboveJump 6 graph tail 0 0) (jump 0 3 ∷ []) ((λ within. omega arith), tt)

-- To b 2 ticks after u: 1 and 1 by 3, and 1 and 4 by 6.
to_b : All (IsAboveJump 6 graph tail 0 1) (jump 0 1 ∷ jump 3 4 ∷ [])
unfolding last_work
to_b = All-from_recursion (IsAboveJump 6 graph tail 0 1) (jump 0 1 ∷ jump 3 4 ∷ []) ((λ within. omega arith), ((λ within. omega arith), tt))

-- To x 3 ticks after b: 1 and 3 by 4.
to_x : All (IsAboveJump 6 graph tail 2 0) (jump 0 3 ∷ [])
unfolding last_work
to_x = All-from_recursion (IsAboveJump 6 graph tail 2 0) (jump 0 3 ∷ []) ((λ within. omega arith), tt)

extensions : (u k : ℕ) → u < 4 → k < out_degree graph u → All (IsAboveJump 6 graph tail u k) (curve_of tail (edge_of graph u k).to)
extensions zero zero l m = to_a
extensions zero (suc zero) l m = to_b
extensions zero (suc (suc k)) l m = absurd (omega arith)
extensions (suc zero) k l m = absurd (omega arith)
extensions (suc (suc zero)) zero l m = to_x
extensions (suc (suc zero)) (suc k) l m = absurd (omega arith)
extensions (suc (suc (suc zero))) k l m = absurd (omega arith)
extensions (suc (suc (suc (suc u)))) k l m = absurd (omega arith)

bounds_walks : BoundsWalks 6 graph tail
bounds_walks = record { openings = openings; extensions = extensions }

-- What holds of each of the graph's vertices.
each_vertex : (P : ℕ → Type 0) → P 0 → P 1 → P 2 → P 3 → (v : ℕ) → v < 4 → P v
each_vertex P a b c d zero l = a
each_vertex P a b c d (suc zero) l = b
each_vertex P a b c d (suc (suc zero)) l = c
each_vertex P a b c d (suc (suc (suc zero))) l = d
each_vertex P a b c d (suc (suc (suc (suc v)))) l = absurd (omega arith)

-- What holds of each of its edges.
each_edge : (P : ℕ → ℕ → Type 0) → P 0 0 → P 0 1 → P 2 0 → (v k : ℕ) → v < 4 → k < out_degree graph v → P v k
each_edge P a b c zero zero l m = a
each_edge P a b c zero (suc zero) l m = b
each_edge P a b c zero (suc (suc k)) l m = absurd (omega arith)
each_edge P a b c (suc zero) k l m = absurd (omega arith)
each_edge P a b c (suc (suc zero)) zero l m = c
each_edge P a b c (suc (suc zero)) (suc k) l m = absurd (omega arith)
each_edge P a b c (suc (suc (suc zero))) k l m = absurd (omega arith)
each_edge P a b c (suc (suc (suc (suc v)))) k l m = absurd (omega arith)

single : (v j k : ℕ) → v < 4 → j < k → k < out_degree graph v → (edge_of graph v j).to ≢ (edge_of graph v k).to
single zero zero (suc zero) l m n = λ e. omega arith
single zero (suc j) (suc zero) l m n = absurd (omega arith)
single zero j zero l m n = absurd (omega arith)
single zero j (suc (suc k)) l m n = absurd (omega arith)
single (suc zero) j k l m n = absurd (omega arith)
single (suc (suc zero)) j zero l m n = absurd (omega arith)
single (suc (suc zero)) j (suc k) l m n = absurd (omega arith)
single (suc (suc (suc zero))) j k l m n = absurd (omega arith)
single (suc (suc (suc (suc v)))) j k l m n = absurd (omega arith)

time_1 : IsTime 1
time_1 = (omega arith, omega arith)

time_2 : IsTime 2
time_2 = (omega arith, omega arith)

time_3 : IsTime 3
time_3 = (omega arith, omega arith)

sound : IsSoundGraph graph
sound = record {
  some = omega arith;
  few = omega arith;
  rows = refl;
  wcet = each_vertex (λ v. IsTime (vertex_of graph v).wcet) time_1 time_3 time_1 time_3;
  deadline = each_vertex (λ v. IsTime (vertex_of graph v).deadline) time_2 time_2 time_2 time_2;
  degree = each_vertex (λ v. out_degree graph v ≤ 256) (omega arith) (omega arith) (omega arith) (omega arith);
  from = each_edge (λ v k. (edge_of graph v k).from ≡ v) refl refl refl;
  sep = each_edge (λ v k. IsTime (edge_of graph v k).sep) time_2 time_2 time_3;
  to = each_edge (λ v k. (edge_of graph v k).to < 4) (omega arith) (omega arith) (omega arith);
  single = single;
}

-- So for each walk of the graph some time up to 6 has room for the job of 2 ticks and the walk.
room_for_all : (walks : List (List ℕ)) → AreWalksOf (place ∷ []) walks
    → (t : ℕ) × (1 ≤ t) × (t ≤ 6) × (2 + asked_together (graph ∷ []) walks t ≤ t)
room_for_all =
    states_pass (place ∷ []) (tail ∷ []) 2 6 6 states
    (All-from_recursion (λ p. IsSoundGraph p.graph) (place ∷ []) (sound, tt)) (All-from_recursion (λ p. 6 ≤ p.bound) (place ∷ []) (omega arith, tt))
    (is_tail, tt) (bounds_walks, tt) are_states (omega arith) passing dominated
