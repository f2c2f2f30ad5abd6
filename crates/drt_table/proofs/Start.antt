-- The loop that makes the opening nodes, and the table at its start.
use Rattle.std.proofs.Common.{◌≡◌, ℕ, suc, zero, ◌+◌, ◌-◌, ◌<◌, ◌≤◌, Bool, true, false, cond, Option, None, Some, List, [], ◌∷◌, ◌++◌, length, map, replicate, refl, sym, ap, ◌∙◌, subst, arith, append_assoc, length-append}
use Rattle.std.proofs.lemmas.List.{map-append, replicate_more}
use Rattle.drt_label.specs.Algebra.{Algebra, Laws}
use Rattle.drt_model.specs.Digraph.{IsSoundGraph, vertex_of}
use Rattle.std.specs.Prelude.{◌&&◌, ◌==◌, IsTrue}
use Rattle.std.proofs.lemmas.Option.{none-some, same_Some}
use Rattle.std.proofs.lemmas.Bool.Decides.{nat_tests}
use Rattle.drt_effort.specs.Efforts.{most_budget}
use Rattle.drt_model.specs.declared.tasks.Vertex.{Vertex}
use Rattle.drt_table.specs.Arena.{Stock, HasNodes}
use Rattle.drt_table.specs.Held.{AllOf, fresh_held}
use Rattle.drt_table.specs.View.{View, IsTable, kept_at, setting_of}
use Rattle.drt_table.specs.Node.{NodeOf, Held, is_kept, fresh}
use Rattle.drt_table.specs.Machine.{Setting, IsRun, opening_label, in_range, opening_nodes, opening_state, replay}

module _ {L : Type 0} (a : Algebra L) (laws : Laws a) (t : Setting) where
  opening_more : (v n : ℕ) → v < n
      → opening_nodes a t v (n - v) ≡ cond (in_range a t (opening_label a t v)) (fresh (opening_label a t v) None ∷ opening_nodes a t (v + 1) (n - (v + 1)))
      (opening_nodes a t (v + 1) (n - (v + 1)))
  opening_more v n lt = let e : n - v ≡ suc (n - (v + 1)) = omega arith in ap (λ k. opening_nodes a t v k) e

  range_is : (v : ℕ) → in_range a t (opening_label a t v) ≡ a.in_range (opening_label a t v) (vertex_of t.graph v).deadline t.bound
  range_is v = ap (λ u. a.in_range (opening_label a t v) (vertex_of t.graph u).deadline t.bound) (laws.opening_vertex v (vertex_of t.graph v).wcet t.bound)

  module _ (nodes : List (Held L)) (all : List (NodeOf L)) (v n : ℕ) (l : L) (lt : v < n) (so_far : map (λ (h : Held L). h.node) nodes ++ opening_nodes a t v (n - v) ≡ all) where
    more_at : (b : Bool) → in_range a t (opening_label a t v) ≡ b
        → map (λ (h : Held L). h.node) nodes ++ cond b (fresh (opening_label a t v) None ∷ opening_nodes a t (v + 1) (n - (v + 1))) (opening_nodes a t (v + 1) (n - (v + 1))) ≡ all
    more_at b e =
        ap (λ x. map (λ (h : Held L). h.node) nodes ++ cond x (fresh (opening_label a t v) None ∷ opening_nodes a t (v + 1) (n - (v + 1))) (opening_nodes a t (v + 1) (n - (v + 1)))) (sym e)
        ∙ (ap (λ xs. map (λ (h : Held L). h.node) nodes ++ xs) (sym (opening_more v n lt)) ∙ so_far)

    opening_in : l ≡ opening_label a t v → (new : List (Held L)) → in_range a t (opening_label a t v) ≡ true
        → new ≡ nodes ++ record { node = fresh l None; spare = true } ∷ [] → map (λ (h : Held L). h.node) new ++ opening_nodes a t (v + 1) (n - (v + 1)) ≡ all
    opening_in l_is new r e =
        ap (λ xs. map (λ (h : Held L). h.node) xs ++ opening_nodes a t (v + 1) (n - (v + 1))) e
        ∙ (ap (λ xs. xs ++ opening_nodes a t (v + 1) (n - (v + 1))) (map-append (λ (h : Held L). h.node) nodes (record { node = fresh l None; spare = true } ∷ []))
        ∙ (append_assoc (map (λ (h : Held L). h.node) nodes) (fresh l None ∷ []) (opening_nodes a t (v + 1) (n - (v + 1)))
        ∙ (ap (λ x. map (λ (h : Held L). h.node) nodes ++ (fresh x None ∷ opening_nodes a t (v + 1) (n - (v + 1)))) l_is
        ∙ more_at true r)))

spares_more : {L : Type 0} (nodes new : List (Held L)) (h : Held L) → h.spare ≡ true → new ≡ nodes ++ h ∷ []
    → map (λ (x : Held L). x.spare) nodes ≡ replicate (length nodes) true → map (λ (x : Held L). x.spare) new ≡ replicate (length new) true
spares_more {L} nodes new h s e so_far =
    ap (λ xs. map (λ (x : Held L). x.spare) xs) e
    ∙ (map-append (λ (x : Held L). x.spare) nodes (h ∷ [])
    ∙ (ap (λ xs. xs ++ h.spare ∷ []) so_far
    ∙ (ap (λ b. replicate (length nodes) true ++ b ∷ []) s
    ∙ (replicate_more (length nodes) true
    ∙ (ap (λ n. replicate n true) (sym (length-append nodes (h ∷ [])))
    ∙ ap (λ xs. replicate (length xs) true) (sym e))))))

-- a fact of each element, and of one that is pushed
all_push : {A : Type 0} (P : A → Type 0) (xs : List A) (z : A) → AllOf P xs → P z → AllOf P (xs ++ z ∷ [])
all_push P [] z h p zero y at = subst P (same_Some z y at) p
all_push P [] z h p (suc k) y at = absurd (none-some y at)
all_push P (x ∷ xs) z h p zero y at = h 0 y at
all_push P (x ∷ xs) z h p (suc k) y at = all_push P xs z (λ j w g. h (suc j) w g) p k y at

not_here : (b : Bool) (x u : ℕ) → x < u → (b && (x == u)) ≡ false
not_here true x u lt = grind (arith, nat_tests)
not_here false x u lt = refl

module _ {L : Type 0} (a : Algebra L) where
  -- no node of the vertex yet
  alone_of : (nodes : List (Held L)) (v u : ℕ) → AllOf (λ (h : Held L). a.vertex h.node.label < v) nodes → u ≡ v → AllOf (λ (h : Held L). kept_at a u h.node ≡ false) nodes
  alone_of nodes v u low e k h at =
      let lt : a.vertex h.node.label < v = low k h at in
      not_here (is_kept h.node) (a.vertex h.node.label) u (omega arith)

  low_in : (nodes new : List (Held L)) (v : ℕ) (l : L) → AllOf (λ (h : Held L). a.vertex h.node.label < v) nodes
      → new ≡ nodes ++ record { node = fresh l None; spare = true } ∷ [] → a.vertex l ≡ v → AllOf (λ (h : Held L). a.vertex h.node.label < v + 1) new
  low_in nodes new v l low e here =
      subst (λ (xs : List (Held L)). AllOf (λ (h : Held L). a.vertex h.node.label < v + 1) xs) (sym e)
      (all_push (λ (h : Held L). a.vertex h.node.label < v + 1) nodes (record { node = fresh l None; spare = true })
      (λ k h at. let lt : a.vertex h.node.label < v = low k h at in omega arith) (omega arith))

  low_out : (nodes : List (Held L)) (v : ℕ) → AllOf (λ (h : Held L). a.vertex h.node.label < v) nodes → AllOf (λ (h : Held L). a.vertex h.node.label < v + 1) nodes
  low_out nodes v low k h at = let lt : a.vertex h.node.label < v = low k h at in omega arith

-- an opening label is there where it is in range
abbrev opening_at : {L : Type 0} → Algebra L → ℕ → ℕ → ℕ → ℕ → Option L
opening_at a v wcet deadline bound = cond (a.in_range (a.opening v wcet bound) deadline bound) (Some (a.opening v wcet bound)) None

there_in_range : {L : Type 0} (b : Bool) (l m : L) → Some l ≡ cond b (Some m) None → (b ≡ true) × (l ≡ m)
there_in_range true l m e = (refl, same_Some l m e)
there_in_range false l m e = absurd (none-some l (sym e))

not_in_range : {L : Type 0} (b : Bool) (m : L) → None ≡ cond b (Some m) None → b ≡ false
not_in_range true m e = absurd (none-some m e)
not_in_range false m e = refl

-- an arena of n vertices has the opening nodes of the first v of them
pub record IsOpened {L : Type 0} (a : Algebra L) (t : Setting) (n v : ℕ) (x : Stock L) : Type 0 where
  pub nodes : map (λ (h : Held L). h.node) x.nodes ++ opening_nodes a t v (n - v) ≡ opening_nodes a t 0 n
  pub spares : map (λ (h : Held L). h.spare) x.nodes ≡ replicate (length x.nodes) true
  pub few : length x.nodes ≤ v
  pub low : AllOf (λ (h : Held L). a.vertex h.node.label < v) x.nodes
  pub vertices : x.vertices ≡ n
  pub room : x.room ≡ n + t.budget

-- the next vertex, of number v, and the opening label that it gives
module _ {L : Type 0} (a : Algebra L) (laws : Laws a) (t : Setting) (n v : ℕ) (x : Stock L) (h : IsOpened a t n v x) (lt : v < n)
    (vertex : Vertex) (vertex_is : vertex ≡ vertex_of t.graph v) (o : Option L) (o_is : o ≡ opening_at a v vertex.wcet vertex.deadline t.bound) where
  o_at : o ≡ opening_at a v (vertex_of t.graph v).wcet (vertex_of t.graph v).deadline t.bound
  o_at = o_is ∙ ap (λ (y : Vertex). opening_at a v y.wcet y.deadline t.bound) vertex_is

  module _ (l : L) (there : o ≡ Some l) where
    parts : (a.in_range (opening_label a t v) (vertex_of t.graph v).deadline t.bound ≡ true) × (l ≡ opening_label a t v)
    parts = there_in_range (a.in_range (opening_label a t v) (vertex_of t.graph v).deadline t.bound) l (opening_label a t v) (sym there ∙ o_at)

    at_v : a.vertex l ≡ v
    at_v = ap a.vertex parts.1 ∙ laws.opening_vertex v (vertex_of t.graph v).wcet t.bound

    pub open_room : length x.nodes < x.room
    open_room = let few = h.few in let room = h.room in omega arith

    pub open_vertex : a.vertex l < x.vertices
    open_vertex = let here = at_v in let vertices = h.vertices in omega arith

    pub open_alone : AllOf (λ (y : Held L). kept_at a (a.vertex l) y.node ≡ false) x.nodes
    open_alone = alone_of a x.nodes v (a.vertex l) h.low at_v

    pub opened_more : (new : Stock L) → HasNodes x new (x.nodes ++ fresh_held l None ∷ []) → IsOpened a t n (v + 1) new
    opened_more new e = record {
      nodes = opening_in a laws t x.nodes (opening_nodes a t 0 n) v n l lt h.nodes parts.1 new.nodes (range_is a laws t v ∙ parts.0) e.nodes_are;
      spares = spares_more x.nodes new.nodes (fresh_held l None) refl e.nodes_are h.spares;
      few = let few = h.few in let more : length new.nodes ≡ length x.nodes + 1 = ap length e.nodes_are ∙ length-append x.nodes (fresh_held l None ∷ []) in omega arith;
      low = low_in a x.nodes new.nodes v l h.low e.nodes_are at_v;
      vertices = e.vertices ∙ h.vertices;
      room = e.room ∙ h.room;
    }

  pub opened_same : o ≡ None → IsOpened a t n (v + 1) x
  opened_same none = record {
    nodes = more_at a laws t x.nodes (opening_nodes a t 0 n) v n (opening_label a t v) lt h.nodes false
        (range_is a laws t v ∙ not_in_range (a.in_range (opening_label a t v) (vertex_of t.graph v).deadline t.bound) (opening_label a t v) (sym none ∙ o_at));
    spares = h.spares;
    few = let few = h.few in omega arith;
    low = low_out a x.nodes v h.low;
    vertices = h.vertices;
    room = h.room;
  }

-- a table at its start keeps what the type keeps
pub table_starts : {L : Type 0} (a : Algebra L) (v : View L) (t : Setting) → setting_of v ≡ t → IsSoundGraph t.graph → IsTrue (a.takes_bound t.bound) → t.budget ≤ most_budget
    → map (λ (h : Held L). h.node) v.nodes ≡ (opening_state a t).nodes → v.log ≡ [] → IsTable a v
table_starts {L} a v t set sound bound budget nodes log =
    let ns : List (NodeOf L) = (opening_state a (setting_of v)).nodes in
    let nodes_are : map (λ (h : Held L). h.node) v.nodes ≡ ns = nodes ∙ ap (λ (x : Setting). (opening_state a x).nodes) (sym set) in
    let as_replayed : opening_state a (setting_of v) ≡ replay a (setting_of v) v.log = ap (λ es. replay a (setting_of v) es) (sym log) in
    record {
      sound = subst (λ (x : Setting). IsSoundGraph x.graph) (sym set) sound;
      bound = subst (λ (x : Setting). IsTrue (a.takes_bound x.bound)) (sym set) bound;
      budget = subst (λ (x : Setting). x.budget ≤ most_budget) (sym set) budget;
      run = subst (λ es. IsRun a (setting_of v) es) (sym log) tt;
      state = ap (λ xs. record { nodes = xs; log = v.log }) nodes_are ∙ (ap (λ es. record { nodes = ns; log = es }) log ∙ as_replayed);
    }
