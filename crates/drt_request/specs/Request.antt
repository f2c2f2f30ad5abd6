-- Request labels as values.
use Rattle.std.specs.Prelude.{ℕ, ◌+◌, ◌*◌, ◌≤◌, Bool, ◌==◌, nat_le, nat_lt, ◌&&◌, false, List, length, replicate}
use Rattle.drt_model.specs.Numbers.{most_time, most_work}
use Rattle.drt_label.specs.Algebra.{Algebra}
use Rattle.drt_steps.specs.Values.{raise, covers, value_at}
use Rattle.drt_steps.specs.Samples.{samples_of}

-- The last vertex of a walk, the offset of its last release, and its request function at 1 to the bound.
pub record Request : Type 0 where
  pub vertex : ℕ
  pub offset : ℕ
  pub values : List ℕ

-- One label dominates another one of its vertex that is no earlier and asks at no time for more.
abbrev pub request_dominates : Request → Request → Bool
request_dominates x y = (x.vertex == y.vertex) && (nat_le x.offset y.offset && covers x.values y.values)

-- How request labels are made, read and compared.
abbrev pub request_algebra : Algebra Request
request_algebra = record {
  takes_bound = λ bound. nat_le 1 bound && nat_le bound most_time;
  opening = λ number wcet bound. record { vertex = number; offset = 0; values = replicate bound wcet };
  extend = λ x sep target wcet. record { vertex = target; offset = x.offset + sep; values = raise (x.offset + sep) wcet x.values };
  vertex = λ x. x.vertex;
  offset = λ x. x.offset;
  in_range = λ x deadline bound. nat_lt x.offset bound;
  dominates = request_dominates;
  is_of = λ x bound. length x.values == bound;
  is_extendable = λ x. nat_lt x.offset (length x.values);
  is_chain = false;
  samples = λ x. samples_of x.values;
}

-- What each label keeps: with a release at most once a tick, the values stay small.
pub record AreValuesWithinLimits (offset : ℕ) (values : List ℕ) : Type 0 where
  pub early : offset ≤ 2000000
  pub few : length values ≤ most_time
  pub work : (t : ℕ) → value_at values t ≤ most_time * (offset + 1)
  pub small : (t : ℕ) → value_at values t ≤ most_work
