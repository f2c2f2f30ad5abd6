-- Demand labels as values.
use Rattle.std.specs.Prelude.{ℕ, ◌+◌, ◌*◌, ◌≤◌, Bool, true, ◌==◌, nat_le, ◌&&◌, replicate}
use Rattle.drt_model.specs.Numbers.{most_time, most_horizon}
use Rattle.drt_label.specs.Algebra.{Algebra}
use Rattle.drt_graph.specs.declared.front.FrontEntry.{FrontEntry}

-- The label of the walk of one vertex.
abbrev pub opening_entry : ℕ → ℕ → ℕ → FrontEntry
opening_entry number wcet bound = record { vertex = number; offset = 0; work = wcet }

-- The label of a walk that goes on by an edge.
abbrev pub extend : FrontEntry → ℕ → ℕ → ℕ → FrontEntry
extend x sep target wcet = record { vertex = target; offset = x.offset + sep; work = x.work + wcet }

-- A label is in range where its last job is due within the bound.
abbrev pub in_range : FrontEntry → ℕ → ℕ → Bool
in_range x deadline bound = nat_le (x.offset + deadline) bound

-- A label dominates one of the same vertex that is no earlier and has no more work.
abbrev pub entry_dominates : FrontEntry → FrontEntry → Bool
entry_dominates x y = (x.vertex == y.vertex) && (nat_le x.offset y.offset && nat_le y.work x.work)

-- Demand labels: each is of every bound up to the greatest one, and extendable where its offset is at most that.
abbrev pub demand_algebra : Algebra FrontEntry
demand_algebra = record {
  takes_bound = λ bound. nat_le bound most_horizon;
  opening = opening_entry;
  extend = extend;
  vertex = λ x. x.vertex;
  offset = λ x. x.offset;
  in_range = in_range;
  dominates = entry_dominates;
  is_of = λ x bound. nat_le bound most_horizon;
  is_extendable = λ x. nat_le x.offset most_horizon;
  is_chain = true;
  samples = λ x. replicate 16 0;
}

-- What the type of demand labels keeps: the offset and the work are within these limits.
abbrev pub IsDemandWithinLimits : FrontEntry → Type 0
IsDemandWithinLimits x = (x.offset ≤ most_horizon + most_time) × (x.work ≤ most_time * (x.offset + 1))
