-- Whole turns of the tasks' cycles against the scale.
use Rattle.std.proofs.Common.{◌≡◌, ℕ, zero, suc, ◌+◌, ◌-◌, ◌*◌, ◌/◌, ◌<◌, ◌≤◌, List, [], ◌∷◌, All, length, get_or, ap, arith, div-lt_iff_lt-mul}
use Rattle.std.specs.Int.{◌∣◌}
use Rattle.std.proofs.Math.Nat.{mul-div_cancel'}
use Rattle.drt_model.specs.Digraph.{Digraph, IsSoundGraph, vertex_count}
use Rattle.drt_model.specs.Walk.{gap, IsPath, last_of, work, IsCycle, cycle_span}
use Rattle.drt_model.specs.Utilisation.{HasRatio, AreDistinct, EachDivides, IsScale, rate}
use Rattle.drt_graph.specs.Graphs.{AreGraphs}
use Rattle.drt_graph.proofs.Edges.{target_of}
use Rattle.drt_rates.specs.declared.ratio_claim.RatioClaim.{RatioClaim}
use Rattle.drt_rates.specs.RatioClaims.{fractions}
use Rattle.drt_ratio.proofs.Loops.{few_distinct}
use Rattle.drt_ratio.proofs.Optima.{cycle_sums}
use Rattle.drt_graph.proofs.Scales.{scale_same}
use Rattle.drt_horizon.specs.declared.cycle_turns.CycleTurn.{CycleTurn}
use Rattle.drt_horizon.specs.declared.answers.Over.TheVariants.{Spent}
use Rattle.drt_horizon.specs.Given.{AreGiven}
use Rattle.drt_horizon.specs.Plans.{IsPlannedAboveOne, rate_at}
use Rattle.drt_horizon.specs.CycleTurns.{with_cycle_turn, cycle_turns_of, cycle_turn_works, turned, AreCycleTurns, IsStepTime, IsOverFound}
use Rattle.drt_horizon.specs.Laws.{latest}
use Rattle.drt_horizon.proofs.Givens.{head_of, tail_of}
use Rattle.drt_horizon.proofs.Turns.{one, turn_end, plain}
use Rattle.drt_horizon.proofs.Multiples.{steps_decide, steps_few, turned_none}

path_each : (g : Digraph) → IsSoundGraph g → (u : ℕ) (vs : List ℕ) → IsPath g u vs → (k : ℕ) → k < length vs → get_or vs k 0 < vertex_count g
path_each g sound u [] path k l = absurd (omega arith)
path_each g sound u (v ∷ vs) path zero l = (target_of g sound u v (gap g u v) path.0).0
path_each g sound u (v ∷ vs) path (suc k) l = path_each g sound v vs path.1 k (omega arith)

-- A cycle that names each vertex at most once has at most as many as there are.
pub cycle_few : (g : Digraph) → IsSoundGraph g → (cycle : List ℕ) → IsCycle g cycle → AreDistinct cycle → length cycle ≤ vertex_count g
cycle_few g sound [] is distinct = absurd is
cycle_few g sound (v ∷ vs) is distinct = few_distinct (v ∷ vs) (vertex_count g) distinct (path_each g sound (last_of v vs) (v ∷ vs) is)

-- A cycle that isn't empty is one.
pub is_cycle : (g : Digraph) (a b : ℕ) (cycle : List ℕ) → HasRatio g a b cycle → 0 < length cycle → IsCycle g cycle
is_cycle g a b [] has l = absurd (omega arith)
is_cycle g a b (v ∷ vs) has l = has.0

cycle_turns_with : (g : Digraph) (a b : ℕ) (cycle : List ℕ) (cycle_turns : List CycleTurn) → IsSoundGraph g → HasRatio g a b cycle → AreDistinct cycle
    → AreCycleTurns cycle_turns → AreCycleTurns (with_cycle_turn g cycle cycle_turns)
cycle_turns_with g a b [] cycle_turns sound has distinct are = are
cycle_turns_with g a b (v ∷ vs) cycle_turns sound has distinct are =
    let sums = cycle_sums g sound (v ∷ vs) has.0 in
    let few = cycle_few g sound (v ∷ vs) has.0 distinct in
    (sums.span_some, omega (arith, sums.span_most, few, sound.few), omega (arith, sums.work_most, few, sound.few), are)

-- The turns' numbers are in range.
pub are_cycle_turns : (graphs : List Digraph) (proofs : List RatioClaim) → All IsSoundGraph graphs → AreGiven graphs proofs → AreCycleTurns (cycle_turns_of graphs proofs)
unfolding cycle_turns_of
are_cycle_turns [] proofs sound given = tt
are_cycle_turns (g ∷ graphs) [] sound given = absurd given
are_cycle_turns (g ∷ graphs) (p ∷ proofs) sound given =
    cycle_turns_with g p.num p.den p.cycle (cycle_turns_of graphs proofs) (head_of IsSoundGraph g graphs sound) given.0.greatest.has given.0.greatest.distinct
    (are_cycle_turns graphs proofs (tail_of IsSoundGraph g graphs sound) given.1)

-- In plain numbers: the work of a cycle at the scale is its share of the rate for its span.
share : (scale a b q w s : ℕ) → b * q ≡ scale → b * w ≡ a * s → scale * w ≡ a * q * s
share scale a b q w s e f = let g = ap (λ n. q * n) f in rw (← e) (omega arith)

more : (g : Digraph) (a b scale t r : ℕ) (cycle : List ℕ) (cycle_turns : List CycleTurn) → IsSoundGraph g → HasRatio g a b cycle → b ∣ scale
    → r * t ≤ scale * turned cycle_turns t + scale * cycle_turn_works cycle_turns → (a * (scale / b) + r) * t ≤ scale * turned (with_cycle_turn g cycle cycle_turns) t +
    scale * cycle_turn_works (with_cycle_turn g cycle cycle_turns)
unfolding turned cycle_turn_works
more g a b scale t r [] cycle_turns sound has divides l = rw has.0 (omega arith)
more g a b scale t r (v ∷ vs) cycle_turns sound has divides l =
    let sums = cycle_sums g sound (v ∷ vs) has.0 in
    let e = share scale a b (scale / b) (work g (v ∷ vs)) (cycle_span g (v ∷ vs)) (mul-div_cancel' b divides) has.1 in
    let o = one scale (work g (v ∷ vs)) (cycle_span g (v ∷ vs)) (a * (scale / b)) t (t / cycle_span g (v ∷ vs)) e (turn_end t (cycle_span g (v ∷ vs)) sums.span_some) in
    omega (arith, o, l)

all : (graphs : List Digraph) (proofs : List RatioClaim) (scale t : ℕ) → All IsSoundGraph graphs → AreGiven graphs proofs → EachDivides (fractions proofs) scale
    → rate_at scale proofs * t ≤ scale * turned (cycle_turns_of graphs proofs) t + scale * cycle_turn_works (cycle_turns_of graphs proofs)
unfolding rate cycle_turns_of
all [] [] scale t sound given divides = omega arith
all [] (p ∷ proofs) scale t sound given divides = absurd given
all (g ∷ graphs) [] scale t sound given divides = absurd given
all (g ∷ graphs) (p ∷ proofs) scale t sound given divides =
    more g p.num p.den scale t (rate_at scale proofs) p.cycle (cycle_turns_of graphs proofs) (head_of IsSoundGraph g graphs sound) given.0.greatest.has
    divides.0 (all graphs proofs scale t (tail_of IsSoundGraph g graphs sound) given.1 divides.1)

-- Where the rate is above the scale, whole turns are too much at the latest time.
cycle_turns_overload : (graphs : List Digraph) (proofs : List RatioClaim) (scale : ℕ) → All IsSoundGraph graphs → AreGiven graphs proofs
    → EachDivides (fractions proofs) scale → scale < rate_at scale proofs → latest scale graphs proofs < turned (cycle_turns_of graphs proofs) (latest scale graphs proofs)
cycle_turns_overload graphs proofs scale sound given divides over =
    let d : scale + (rate_at scale proofs - scale) ≡ rate_at scale proofs = omega arith in
    let some : 0 < rate_at scale proofs - scale = omega arith in
    let l : scale * cycle_turn_works (cycle_turns_of graphs proofs) / (rate_at scale proofs - scale) < scale * cycle_turn_works (cycle_turns_of graphs proofs) /
    (rate_at scale proofs - scale) + 1 = omega arith in
    let far = (div-lt_iff_lt-mul some).0 l in
    plain scale (rate_at scale proofs - scale) (cycle_turn_works (cycle_turns_of graphs proofs)) (latest scale graphs proofs)
    (turned (cycle_turns_of graphs proofs) (latest scale graphs proofs)) some (rw d (all graphs proofs scale (latest scale graphs proofs) sound given divides)) far

over_at : (graphs : List Digraph) (proofs : List RatioClaim) → IsPlannedAboveOne graphs proofs → (scale : ℕ) → IsScale (fractions proofs) scale → scale < rate_at scale proofs
over_at graphs proofs above scale is = rw (scale_same (fractions proofs) above.0 scale above.1 is) at above.2.1

-- A step time up to the latest time has too much work.
pub overload_has_a_time : (graphs : List Digraph) (proofs : List RatioClaim) → AreGraphs graphs → AreGiven graphs proofs → IsPlannedAboveOne graphs proofs → (scale : ℕ)
    → IsScale (fractions proofs) scale → (t : ℕ) × IsStepTime (cycle_turns_of graphs proofs) t × (t ≤ latest scale graphs proofs) × (t < turned (cycle_turns_of graphs proofs) t)
overload_has_a_time graphs proofs are given above scale is =
    steps_decide (cycle_turns_of graphs proofs) (are_cycle_turns graphs proofs are.sound given) (latest scale graphs proofs)
    (cycle_turns_overload graphs proofs scale are.sound given is.multiple (over_at graphs proofs above scale is))

-- A search with enough steps finds a time.
pub search_ends : (graphs : List Digraph) (proofs : List RatioClaim) → AreGraphs graphs → AreGiven graphs proofs → IsPlannedAboveOne graphs proofs → (scale : ℕ)
    → IsScale (fractions proofs) scale → (budget last : ℕ) → latest scale graphs proofs ≤ budget → IsOverFound (cycle_turns_of graphs proofs) budget (Spent last) → ⊥
search_ends graphs proofs are given above scale is budget last enough spent =
    let s = overload_has_a_time graphs proofs are given above scale is in
    let fits = spent.1 s.0 (omega (arith, s.2, spent.2, steps_few (cycle_turns_of graphs proofs) last)) s.1 in
    omega (arith, s.3, fits)

some_cycle_turn : (cycle_turns : List CycleTurn) (t : ℕ) → t < turned cycle_turns t → 1 ≤ length cycle_turns
some_cycle_turn [] t l = let e = turned_none t in absurd (omega arith)
some_cycle_turn (c ∷ cycle_turns) t l = omega arith

-- Some task has a turn.
pub cycle_turns_some : (graphs : List Digraph) (proofs : List RatioClaim) → AreGraphs graphs → AreGiven graphs proofs → IsPlannedAboveOne graphs proofs → 1 ≤ length (cycle_turns_of graphs proofs)
cycle_turns_some graphs proofs are given above =
    let s = overload_has_a_time graphs proofs are given above above.0 above.1 in
    some_cycle_turn (cycle_turns_of graphs proofs) s.0 s.3
