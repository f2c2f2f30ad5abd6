-- Whole turns of cycles, as walks.
use Rattle.std.proofs.Common.{◌≡◌, ℕ, zero, suc, ◌+◌, ◌*◌, ◌/◌, ◌<◌, ◌≤◌, List, [], ◌∷◌, ◌++◌, length, All, refl, sym, ap, subst, arith, ◌∙◌}
use Rattle.std.specs.List.{repeat}
use Rattle.std.proofs.Math.Nat.{div-mul-le_self}
use Rattle.std.proofs.lemmas.List.{append-nil}
use Rattle.std.proofs.lemmas.List.Elements.{All-head, All-tail}
use Rattle.drt_model.specs.declared.tasks.Task.{Task}
use Rattle.drt_model.specs.Digraph.{Digraph, IsSoundGraph, IsConstrainedGraph, digraph_of}
use Rattle.drt_model.specs.Walk.{gap, IsEdge, IsPath, deadline, last_of, span, work, IsCycle, cycle_span, IsWalk, due_of}
use Rattle.drt_graph.proofs.Edges.{edge_of_sep, source_of, target_of}
use Rattle.drt_rates.specs.declared.ratio_claim.RatioClaim.{RatioClaim}
use Rattle.drt_graph.proofs.Paths.{path_both, last_both, work_both, span_both, span_cons, work_none, span_none, cycle_path}
use Rattle.drt_busy.specs.Choice.{AreDueBy, AreWalks, efforts}
use Rattle.drt_horizon.specs.declared.cycle_turns.CycleTurn.{CycleTurn}
use Rattle.drt_horizon.specs.Given.{AreGiven}
use Rattle.drt_horizon.specs.CycleTurns.{with_cycle_turn, cycle_turns_of, turned}
use Rattle.drt_horizon.proofs.Overloads.{is_cycle}
use Rattle.drt_claims.specs.Claims.{graphs_of}
use Rattle.drt_releases.specs.Walks.{walk_at}
use Rattle.drt_edf.specs.Turns.{turns_of, turns_within, AreTurns}

-- On an edge the deadline of the source is at most the separation.
edge_due : (g : Digraph) → IsSoundGraph g → IsConstrainedGraph g → (u v : ℕ) → IsEdge g u v → deadline g u ≤ gap g u v
edge_due g sound constrained u v edge =
    let k = edge_of_sep g u v (gap g u v) edge in
    let l = source_of g sound u v (gap g u v) edge in
    omega (arith, constrained u k.0 l k.1, k.3)

-- No vertices stay none, however often they come.
pub none_again : (n : ℕ) → repeat {A = ℕ} n [] ≡ []
none_again zero = refl
none_again (suc n) = none_again n

none_works : (g : Digraph) (n : ℕ) → n * work g [] ≡ 0
none_works g n = let e : n * work g [] ≡ n * 0 = ap (λ x. n * x) (work_none g) in omega (arith, e)

-- A path that ends where it starts, so many times.
record AreRounds (g : Digraph) (u : ℕ) (cycle : List ℕ) (n : ℕ) : Type 0 where
  path : IsPath g u (repeat n cycle)
  back : last_of u (repeat n cycle) ≡ u
  spans : span g u (repeat n cycle) ≡ n * span g u cycle
  works : work g (repeat n cycle) ≡ n * work g cycle

rounds : (g : Digraph) (u : ℕ) (cycle : List ℕ) → IsPath g u cycle → last_of u cycle ≡ u → (n : ℕ) → AreRounds g u cycle n
rounds g u cycle path back zero = record { path = tt; back = refl; spans = omega (arith, span_none g u); works = omega (arith, work_none g) }
rounds g u cycle path back (suc n) =
    let r = rounds g u cycle path back n in
    let more = repeat n cycle in
    let s : span g (last_of u cycle) more ≡ span g u more = ap (λ x. span g x more) back in
    record {
      path = path_both g u cycle more path (subst (λ x. IsPath g x more) (sym back) r.path);
      back = last_both u cycle more ∙ (ap (λ x. last_of x more) back ∙ r.back);
      spans = omega (arith, span_both g u cycle more, s, r.spans);
      works = omega (arith, work_both g cycle more, r.works);
    }

-- Such a path is a walk from its second vertex on, and is due by its span.
round_walk : (g : Digraph) → IsSoundGraph g → IsConstrainedGraph g → (u : ℕ) (walk : List ℕ) → IsPath g u walk → last_of u walk ≡ u → IsWalk g walk × (due_of g walk ≤ span g u walk)
round_walk g sound constrained u [] path back = (tt, omega arith)
round_walk g sound constrained u (v ∷ vs) path back =
    let t = target_of g sound u v (gap g u v) path.0 in
    let same : deadline g (last_of v vs) ≡ deadline g u = ap (λ x. deadline g x) back in
    ((t.0, path.1), omega (arith, span_cons g u v vs, same, edge_due g sound constrained u v path.0))

-- The walk of the whole turns of a cycle within t is due by t.
record IsTurnWalk (g : Digraph) (t : ℕ) (cycle walk : List ℕ) : Type 0 where
  is : IsWalk g walk
  due : due_of g walk ≤ t
  works : work g walk ≡ t / cycle_span g cycle * work g cycle

turn_walk : (g : Digraph) → IsSoundGraph g → IsConstrainedGraph g → (t : ℕ) (cycle : List ℕ) → (0 < length cycle → IsCycle g cycle) → IsTurnWalk g t cycle (turns_of g t cycle)
unfolding turns_of
turn_walk g sound constrained t [] is =
    subst (IsTurnWalk g t []) (sym (none_again (t / 0))) (record { is = tt; due = omega arith; works = omega (arith, work_none g, none_works g (t / 0)) })
turn_walk g sound constrained t (v ∷ vs) is =
    let c = cycle_path g v vs (is (omega arith)) in
    let n = t / cycle_span g (v ∷ vs) in
    let r = rounds g c.0 (v ∷ vs) c.1 c.2 n in
    let w = round_walk g sound constrained c.0 (repeat n (v ∷ vs)) r.path r.back in
    let s : span g c.0 (repeat n (v ∷ vs)) ≡ n * cycle_span g (v ∷ vs) = r.spans ∙ ap (λ x. n * x) (sym c.3) in
    record { is = w.0; due = omega (arith, w.1, s, div-mul-le_self t (cycle_span g (v ∷ vs))); works = r.works }

-- Where there is no cycle there is no walk.
pub turns_none : (g : Digraph) (t : ℕ) (cycle : List ℕ) → length cycle ≡ 0 → turns_of g t cycle ≡ []
unfolding turns_of
turns_none g t [] none = none_again (t / 0)
turns_none g t (v ∷ vs) none = absurd (omega arith)

-- What has the vertices of the turns is their walk.
pub turns_are : (g : Digraph) (t n : ℕ) (cycle walk : List ℕ) → n ≡ t / cycle_span g cycle → walk ≡ repeat n cycle → walk ≡ turns_of g t cycle
unfolding turns_of
turns_are g t n cycle walk e same = same ∙ ap (λ k. repeat k cycle) e

-- The whole turns within t with one more task.
turned_with : (g : Digraph) (t : ℕ) (cycle : List ℕ) (cycle_turns : List CycleTurn) → turned (with_cycle_turn g cycle cycle_turns) t ≡ t / cycle_span g cycle * work g cycle + turned cycle_turns t
unfolding turned
turned_with g t [] cycle_turns = omega (arith, none_works g (t / 0))
turned_with g t (v ∷ vs) cycle_turns = refl

-- The work of walks with one more task before the others.
efforts_with : (task : Task) (tasks : List Task) (walks : ℕ → List ℕ) (n : ℕ) → efforts (task ∷ tasks) walks (suc n) ≡ work (digraph_of task) (walks 0) + efforts tasks (λ k. walks (suc k)) n
unfolding efforts
efforts_with task tasks walks zero = omega arith
efforts_with task tasks walks (suc n) = omega (arith, efforts_with task tasks walks n)

-- The turns with one more task.
pub turns_cons : (g : Digraph) (graphs : List Digraph) (p : RatioClaim) (proofs : List RatioClaim) (t : ℕ)
    → turns_within (g ∷ graphs) (p ∷ proofs) t ≡ turns_of g t p.cycle ∷ turns_within graphs proofs t
unfolding turns_within
turns_cons g graphs p proofs t = refl

-- All turns.
pub turns_all : (walks whole : List (List ℕ)) (proofs : List RatioClaim) (t : ℕ) → walks ++ turns_within [] proofs t ≡ whole → walks ≡ whole
unfolding turns_within
turns_all walks whole proofs t e = sym (append-nil walks) ∙ e

more_turns : (task : Task) (tasks : List Task) (p : RatioClaim) (proofs : List RatioClaim) (t : ℕ) (walk : List ℕ) (walks : List (List ℕ))
    → IsTurnWalk (digraph_of task) t p.cycle walk → AreTurns tasks proofs t walks → AreTurns (task ∷ tasks) (p ∷ proofs) t (walk ∷ walks)
unfolding cycle_turns_of
more_turns task tasks p proofs t walk walks w rest = record { are = are; due = due; all = all }
  where
    are : AreWalks (task ∷ tasks) (walk_at (walk ∷ walks))
    are zero l = w.is
    are (suc k) l = rest.are k (omega arith)

    due : AreDueBy (task ∷ tasks) (walk_at (walk ∷ walks)) t
    due zero l = w.due
    due (suc k) l = rest.due k (omega arith)

    all : turned (cycle_turns_of (graphs_of (task ∷ tasks)) (p ∷ proofs)) t ≤ efforts (task ∷ tasks) (walk_at (walk ∷ walks)) (length (task ∷ tasks))
    all =
        let e = efforts_with task tasks (walk_at (walk ∷ walks)) (length tasks) in
        let f = turned_with (digraph_of task) t p.cycle (cycle_turns_of (graphs_of tasks) proofs) in
        omega (arith, e, f, w.works, rest.all)

no_turns : (proofs : List RatioClaim) (t : ℕ) → AreTurns [] proofs t []
unfolding cycle_turns_of turned efforts
no_turns proofs t = record { are = λ k l. absurd (omega arith); due = λ k l. absurd (omega arith); all = omega arith }

-- The whole turns are walks of the tasks, are due by t, and have the work of whole turns.
pub are_turns : (tasks : List Task) (proofs : List RatioClaim) (t : ℕ) → All IsSoundGraph (graphs_of tasks) → All IsConstrainedGraph (graphs_of tasks)
    → AreGiven (graphs_of tasks) proofs → AreTurns tasks proofs t (turns_within (graphs_of tasks) proofs t)
unfolding turns_within
are_turns [] proofs t sound constrained given = no_turns proofs t
are_turns (task ∷ tasks) [] t sound constrained given = absurd given
are_turns (task ∷ tasks) (p ∷ proofs) t sound constrained given =
    let g = digraph_of task in
    let w = turn_walk g (All-head IsSoundGraph g (graphs_of tasks) sound) (All-head IsConstrainedGraph g (graphs_of tasks) constrained) t p.cycle
    (is_cycle g p.num p.den p.cycle given.0.greatest.has) in
    more_turns task tasks p proofs t (turns_of g t p.cycle) (turns_within (graphs_of tasks) proofs t) w
    (are_turns tasks proofs t (All-tail IsSoundGraph g (graphs_of tasks) sound) (All-tail IsConstrainedGraph g (graphs_of tasks) constrained) given.1)
