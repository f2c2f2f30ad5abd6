use Rattle.std.proofs.Common.{◌≡◌, ℕ, ◌<◌, ◌≤◌, ◌+◌, ◌-◌, true, List, [], ◌++◌, length, map, replicate, refl, sym, ap, ◌∙◌, subst, arith}
use Rattle.std.proofs.lemmas.List.{append-nil}
use Rattle.std.proofs.lemmas.Option.{none-some}
use Rattle.std.specs.Prelude.{slice_get}
use Rattle.drt_label.specs.Algebra.{Algebra}
use Rattle.drt_model.specs.Limits.{IsTime}
use Rattle.drt_model.specs.Digraph.{vertex_count}
use Rattle.drt_table.specs.Arena.{Stock}
use Rattle.drt_table.specs.Machine.{Setting, opening_nodes}
use Rattle.drt_table.specs.Node.{Held}
use Rattle.drt_table.proofs.Start.{IsOpened, open_room, open_vertex, open_alone, opened_more, opened_same}
use Rattle.drt_table.proofs.table.opening_arena.Goals as goal
use Rattle.drt_table.proofs.table.opening_arena.Goals.{in-Some, in_default}

pub opening_twin-requires-clause-wcet : goal.opening_twin-requires-clause-wcet
opening_twin-requires-clause-wcet g c κs within =
    let lt : c.loop-v.v < vertex_count c.args.graph.now = subst (λ n. c.loop-v.v < n) c.vertex_count-count.ensures.count c.loop-v-test.true in
    subst (λ t. IsTime t) (ap (λ x. x.wcet) (sym c.vertex-vertex.ensures)) (c.vertex_count-count.ensures.sound.wcet c.loop-v.v lt)

pub opening_twin-requires-clause-deadline : goal.opening_twin-requires-clause-deadline
opening_twin-requires-clause-deadline g c κs within =
    let lt : c.loop-v.v < vertex_count c.args.graph.now = subst (λ n. c.loop-v.v < n) c.vertex_count-count.ensures.count c.loop-v-test.true in
    subst (λ t. IsTime t) (ap (λ x. x.deadline) (sym c.vertex-vertex.ensures)) (c.vertex_count-count.ensures.sound.deadline c.loop-v.v lt)

pub open-requires-clause-room : goal.open-requires-clause-room
open-requires-clause-room g c κs within =
    let laws = (g.met.L.Label g.world.𝓛 g.world.𝓜 g.world.𝓡 ((λ s x. x), (λ x. x), (λ x. x), λ x. x)).laws in
    open_room g.L.Label.algebra laws (record { graph = c.args.graph.now; bound = c.args.bound; budget = c.args.budget })
    c.vertex_count-count.result c.loop-v.v c.loop-v.arena c.loop-v.invariant c.loop-v-test.true
    c.vertex-vertex.result.now c.vertex-vertex.ensures c.in_ok-twin.field-0 c.in_ok-twin.ensures c.in-Some.twin c.in-Some.is

pub open-requires-clause-vertex : goal.open-requires-clause-vertex
open-requires-clause-vertex g c κs within =
    let laws = (g.met.L.Label g.world.𝓛 g.world.𝓜 g.world.𝓡 ((λ s x. x), (λ x. x), (λ x. x), λ x. x)).laws in
    open_vertex g.L.Label.algebra laws (record { graph = c.args.graph.now; bound = c.args.bound; budget = c.args.budget })
    c.vertex_count-count.result c.loop-v.v c.loop-v.arena c.loop-v.invariant c.loop-v-test.true
    c.vertex-vertex.result.now c.vertex-vertex.ensures c.in_ok-twin.field-0 c.in_ok-twin.ensures c.in-Some.twin c.in-Some.is

pub open-requires-clause-alone : goal.open-requires-clause-alone
open-requires-clause-alone g c κs within =
    let laws = (g.met.L.Label g.world.𝓛 g.world.𝓜 g.world.𝓡 ((λ s x. x), (λ x. x), (λ x. x), λ x. x)).laws in
    open_alone g.L.Label.algebra laws (record { graph = c.args.graph.now; bound = c.args.bound; budget = c.args.budget })
    c.vertex_count-count.result c.loop-v.v c.loop-v.arena c.loop-v.invariant c.loop-v-test.true
    c.vertex-vertex.result.now c.vertex-vertex.ensures c.in_ok-twin.field-0 c.in_ok-twin.ensures c.in-Some.twin c.in-Some.is

pub loop-v-preserved : goal.loop-v-preserved
loop-v-preserved g c =
    let a = g.L.Label.algebra in
    let laws = (g.met.L.Label g.world.𝓛 g.world.𝓜 g.world.𝓡 ((λ s x. x), (λ x. x), (λ x. x), λ x. x)).laws in
    let t : Setting = record { graph = c.args.graph.now; bound = c.args.bound; budget = c.args.budget } in
    let n = c.vertex_count-count.result in
    let v = c.loop-v.v in
    elim c.match-branch-3.branch as (λ _. IsOpened a t n (v + 1) c.match-branch-3.arena) [
      | in-Some w ↦ subst (λ x. IsOpened a t n (v + 1) x) (sym w.arena-is)
          (opened_more a laws t n v c.loop-v.arena c.loop-v.invariant c.loop-v-test.true
          c.vertex-vertex.result.now c.vertex-vertex.ensures c.in_ok-twin.field-0 c.in_ok-twin.ensures w.in-Some.twin w.in-Some.is _ w.open.ensures)
      | in_default w ↦ subst (λ x. IsOpened a t n (v + 1) x) (sym w.arena-is)
          (opened_same a laws t n v c.loop-v.arena c.loop-v.invariant c.loop-v-test.true
          c.vertex-vertex.result.now c.vertex-vertex.ensures c.in_ok-twin.field-0 c.in_ok-twin.ensures w.in_default.is)
    ]

module _ {L : Type 0} (a : Algebra L) (t : Setting) (n : ℕ) (x : Stock L) where
  -- an arena without nodes has the opening nodes of no vertex
  none_opened : x.nodes ≡ [] → x.vertices ≡ n → x.room ≡ n + t.budget → IsOpened a t n 0 x
  none_opened none vertices room = record {
    nodes = ap (λ (hs : List (Held L)). map (λ (h : Held L). h.node) hs ++ opening_nodes a t 0 (n - 0)) none ∙ ap (λ k. opening_nodes a t 0 k) (let e : n - 0 ≡ n = omega arith in e);
    spares = ap (λ (hs : List (Held L)). map (λ (h : Held L). h.spare) hs) none ∙ ap (λ (hs : List (Held L)). replicate (length hs) true) (sym none);
    few = let e : length x.nodes ≡ 0 = ap length none in omega arith;
    low = λ k h at. absurd (none-some h (ap (λ (hs : List (Held L)). slice_get hs k) (sym none) ∙ at));
    vertices = vertices;
    room = room;
  }

  -- at the end it has those of all
  all_opened : (v : ℕ) → v ≤ n → n ≤ v → IsOpened a t n v x → map (λ (h : Held L). h.node) x.nodes ≡ opening_nodes a t 0 n
  all_opened v le ge h =
      let none : n - v ≡ 0 = omega arith in
      sym (append-nil (map (λ (y : Held L). y.node) x.nodes)) ∙ (ap (λ k. map (λ (y : Held L). y.node) x.nodes ++ opening_nodes a t v k) (sym none) ∙ h.nodes)

pub loop-v-init : goal.loop-v-init
loop-v-init g c =
    none_opened g.L.Label.algebra (record { graph = c.args.graph.now; bound = c.args.bound; budget = c.args.budget }) c.vertex_count-count.result c.in_ok-arena.arena
    c.in_ok-arena.ensures.nodes c.in_ok-arena.ensures.vertices c.in_ok-arena.ensures.room

pub returns-clause-nodes : goal.returns-clause-nodes
returns-clause-nodes g c =
    let t : Setting = record { graph = c.args.graph.now; bound = c.args.bound; budget = c.args.budget } in
    all_opened g.L.Label.algebra t c.vertex_count-count.result c.loop-v.arena c.loop-v.v c.loop-v.auto.v-end c.loop-v-test.false c.loop-v.invariant
    ∙ ap (λ n. opening_nodes g.L.Label.algebra t 0 n) c.vertex_count-count.ensures.count

pub returns-clause-spares : goal.returns-clause-spares
returns-clause-spares g c = c.loop-v.invariant.spares

pub returns-clause-vertices : goal.returns-clause-vertices
returns-clause-vertices g c = c.loop-v.invariant.vertices ∙ c.vertex_count-count.ensures.count

pub returns-clause-room : goal.returns-clause-room
returns-clause-room g c = c.loop-v.invariant.room ∙ ap (λ n. n + c.args.budget) c.vertex_count-count.ensures.count
