-- Which numbers are within: no number past one that isn't, and each below one that is.
use Rattle.std.proofs.Common.{◌≡◌, ℕ, ◌+◌, ◌-◌, ◌<◌, ◌≤◌, List, All, ◌⊎◌, inl, inr, refl, arith}
use Rattle.std.proofs.lemmas.Bool.{cases_lt}
use Rattle.std.proofs.lemmas.List.Elements.{All-map}
use Rattle.drt_model.specs.Constrained.{AreConstrained}
use Rattle.drt_model.specs.Contents.{Contents}
use Rattle.drt_model.specs.Digraph.{IsSoundGraph, digraph_of}
use Rattle.drt_model.specs.Limits.{IsTaskSet}
use Rattle.drt_model.specs.Schedulable.{Schedulable}
use Rattle.drt_model.specs.Utilisation.{rate}
use Rattle.drt_model.specs.declared.jobs.Policy.{Policy}
use Rattle.drt_model.specs.declared.jobs.Policy.TheVariants.{Edf}
use Rattle.drt_model.specs.declared.tasks.Task.{Task}
use Rattle.drt_graph.proofs.Soundness.{all_sound}
use Rattle.drt_claims.specs.Claims.{graphs_of}
use Rattle.drt_claims.specs.Rates.{Rates}
use Rattle.drt_margin.specs.Margin.{IsMargin, IsVertexOf, IsWithinMargin, SmallerIsWithin, deadline_at, plus, wcet_at}
use Rattle.drt_margin.specs.Past.{ArePast}
use Rattle.drt_margin.proofs.Deciding.{done_in_time, milder_schedulable}
use Rattle.drt_margin.proofs.Limits.{plus_kept, plus_most, timed_constrained, wcet_most}
use Rattle.drt_margin.proofs.Milder.{AreMilder, timed_milder}
use Rattle.drt_margin.proofs.Ratios.{rates_exist}
use Rattle.drt_margin.proofs.Timed.{timed_deadline, timed_wcet, timed_within, timed_length}
use Rattle.drt_margin.proofs.Utilisations.{below_less}

-- The graphs of a set are sound.
pub graphs_sound : (version : ℕ) (tasks : List Task) → IsTaskSet version tasks → All IsSoundGraph (graphs_of tasks)
graphs_sound version tasks is = All-map IsSoundGraph digraph_of tasks (all_sound version tasks is)

-- A set with constrained deadlines, and a vertex of it.
pub record IsSubject (set : Contents) (k v : ℕ) : Type 0 where
  pub limits : IsTaskSet set.version set.tasks
  pub constrained : AreConstrained set.tasks
  pub vertex : IsVertexOf set.tasks k v

module _ (set : Contents) (k v : ℕ) (s : IsSubject set k v) where
  -- S + c has constrained deadlines.
  pub plus_constrained : (c : ℕ) → AreConstrained (plus set.tasks k v c)
  plus_constrained c = timed_constrained set.tasks k v (wcet_at set.tasks k v + c) s.constrained s.vertex.0 s.vertex.1

  -- S + c has the vertex.
  pub plus_vertex : (c : ℕ) → IsVertexOf (plus set.tasks k v c) k v
  plus_vertex c =
      let e = wcet_at set.tasks k v + c in
      (omega (arith, timed_length set.tasks k v e, s.vertex.0), timed_within set.tasks k v e s.vertex.0 s.vertex.1)

  -- With an execution time above c.
  pub plus_above : (c : ℕ) → c < wcet_at (plus set.tasks k v c) k v
  plus_above c =
      let some = (wcet_most set.version set.tasks k v s.limits s.vertex.0 s.vertex.1).0 in
      omega (arith, timed_wcet set.tasks k v (wcet_at set.tasks k v + c) s.vertex.0 s.vertex.1)

  -- S + m is milder than S + c for a smaller m.
  pub plus_milder : (m c : ℕ) → m ≤ c → AreMilder (plus set.tasks k v m) (plus set.tasks k v c)
  plus_milder m c l = timed_milder set.tasks k v (wcet_at set.tasks k v + m) (wcet_at set.tasks k v + c) s.vertex.0 s.vertex.1 (omega arith)

  -- Where S + c keeps the limits, so does S + m.
  pub plus_limits : (m c : ℕ) → m ≤ c → IsTaskSet set.version (plus set.tasks k v c) → IsTaskSet set.version (plus set.tasks k v m)
  plus_limits m c l is = plus_kept set.version set.tasks k v m s.limits s.vertex.0 s.vertex.1 (omega (arith, plus_most set.version set.tasks k v c s.vertex.0 s.vertex.1 is))

  -- Where S + c is schedulable, so is S + m.
  pub plus_schedulable : (policy : Policy) (m c : ℕ) → m ≤ c → IsTaskSet set.version (plus set.tasks k v c) → Schedulable (plus set.tasks k v c) policy → Schedulable (plus set.tasks k v m) policy
  plus_schedulable policy m c l is schedulable =
      milder_schedulable set.version (plus set.tasks k v m) (plus set.tasks k v c) (plus_milder m c l)
      (record { limits = plus_limits m c l is; constrained = plus_constrained m }) (record { limits = is; constrained = plus_constrained c }) policy schedulable

  -- Where S + c isn't schedulable, no number from c on is within.
  pub past_no : (policy : Policy) (c : ℕ) → ¬ Schedulable (plus set.tasks k v c) policy → ArePast set policy k v c
  past_no policy c not m l is = not (plus_schedulable policy c m l is.limits is.schedulable)

  -- Where the utilisation of S + c is one, no number from c on is within under EDF.
  pub past_one : (c : ℕ) (r : Rates (plus set.tasks k v c)) → rate r.scale r.ratios ≡ r.scale → ArePast set Edf k v c
  past_one c r one m l is =
      let below = is.below_one refl in
      let sound = graphs_sound set.version (plus set.tasks k v c) (plus_limits c m l is.limits) in
      let less = below_less (plus set.tasks k v c) (plus set.tasks k v m) (plus_milder c m l) sound r below.0 below.1 in
      absurd (omega arith)

  -- Where the vertex needs more than its deadline, no number is within from there on.
  pub past_deadline : (policy : Policy) (c : ℕ) → deadline_at set.tasks k v < wcet_at set.tasks k v + c → ArePast set policy k v c
  past_deadline policy c over m l is =
      let e = wcet_at set.tasks k v + m in
      let done = done_in_time (plus set.tasks k v m) k v (omega (arith, timed_length set.tasks k v e, s.vertex.0)) (timed_within set.tasks k v e s.vertex.0 s.vertex.1) set.version
      (record { limits = is.limits; constrained = plus_constrained m }) policy is.schedulable in
      omega (arith, done, timed_wcet set.tasks k v e s.vertex.0 s.vertex.1, timed_deadline set.tasks k v e s.vertex.0 s.vertex.1)

  -- Where 0 is within, the vertex is done by its deadline.
  pub opens_in_time : (policy : Policy) → IsWithinMargin set policy k v 0 → wcet_at set.tasks k v ≤ deadline_at set.tasks k v
  opens_in_time policy is = go (cases_lt (deadline_at set.tasks k v) (wcet_at set.tasks k v + 0))
    where
      go : (deadline_at set.tasks k v < wcet_at set.tasks k v + 0) ⊎ (wcet_at set.tasks k v + 0 ≤ deadline_at set.tasks k v) → wcet_at set.tasks k v ≤ deadline_at set.tasks k v
      go (inl l) = absurd (past_deadline policy 0 l 0 (omega arith) is)
      go (inr l) = omega arith

  -- The number that is within, and the next one past it: the margin.
  pub margin_is : (policy : Policy) (low high : ℕ) → low < high → high - low ≤ 1 → IsWithinMargin set policy k v low → ArePast set policy k v high → IsMargin set policy k v low
  margin_is policy low high order near is past = record { within = is; greatest = λ m other. go m other (cases_lt low m) }
    where
      go : (m : ℕ) → IsWithinMargin set policy k v m → (low < m) ⊎ (m ≤ low) → m ≤ low
      go m other (inl l) = absurd (past m (omega arith) other)
      go m other (inr l) = l

  -- A smaller number than one within is within, where the set with it has rates.
  pub smaller : (policy : Policy) (c m : ℕ) → m ≤ c → IsWithinMargin set policy k v c → (policy ≡ Edf → Rates (plus set.tasks k v m)) → IsWithinMargin set policy k v m
  smaller policy c m l is rates = record {
    limits = plus_limits m c l is.limits;
    schedulable = plus_schedulable policy m c l is.limits is.schedulable;
    below_one = λ edf.
        (let below = is.below_one edf in
        let r = rates edf in
        (r, below_less (plus set.tasks k v m) (plus set.tasks k v c) (plus_milder m c l) (graphs_sound set.version (plus set.tasks k v m) (plus_limits m c l is.limits)) r below.0 below.1));
  }

-- So a smaller number than one within is within.
pub all_smaller : SmallerIsWithin
all_smaller set policy k v c m limits constrained vertex is l =
    let s : IsSubject set k v = record { limits = limits; constrained = constrained; vertex = vertex } in
    smaller set k v s policy c m l is (λ edf. rates_exist (plus set.tasks k v m) (graphs_sound set.version (plus set.tasks k v m) (plus_limits set k v s m c l is.limits)))
