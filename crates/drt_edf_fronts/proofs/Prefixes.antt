-- The walk of an entry of a front, found backwards: the label of its first part is an entry too.
use Rattle.std.proofs.Common.{◌≡◌, ℕ, ◌+◌, ◌<◌, ◌≤◌, List, [], ◌∷◌, ◌++◌, reverse, refl, sym, ap, ◌∙◌, subst, arith}
use Rattle.std.specs.Prelude.{Contains}
use Rattle.std.proofs.lemmas.List.{reverse-append}
use Rattle.std.proofs.lemmas.List.Elements.{All-contains}
use Rattle.drt_model.specs.Digraph.{Digraph, IsSoundGraph, IsConstrainedGraph, vertex_count}
use Rattle.drt_model.specs.Walk.{wcet, deadline, gap, IsEdge, IsPath, last_of, work, span}
use Rattle.drt_graph.proofs.Edges.{edge_of_sep, source_of, target_of}
use Rattle.drt_graph.proofs.Paths.{work_cons, work_none, span_cons, span_none}
use Rattle.drt_graph.specs.WalkLabel.{demand_of}
use Rattle.drt_graph.proofs.WalkLabels.{same_entry, HasParts, parts_of, label_of_parts, more, label_more, label_single}
use Rattle.drt_graph.specs.declared.front.FrontEntry.{FrontEntry}
use Rattle.drt_graph.specs.FrontEntry.{due}
use Rattle.drt_claims.specs.Fronts.{IsEntryWithin}
use Rattle.drt_edf_fronts.specs.DemandWalk.{IsPrefixLabel, IsDemandWalkTo}
use Rattle.drt_edf_fronts.specs.LabelFronts.{IsLabelFront}
use Rattle.drt_wave.specs.Fronts.{IsWalkEntry, IsNonDominatedEntry}
use Rattle.drt_edf_fronts.proofs.WalkEntries.{walk_entry_is}

-- A path that isn't empty goes on by an edge from the end of a shorter one.
record HasLastEdge (g : Digraph) (u : ℕ) (vs : List ℕ) : Type 0 where
  before : List ℕ
  path : IsPath g u before
  edge : IsEdge g (last_of u before) (last_of u vs)
  spans : span g u vs ≡ span g u before + gap g (last_of u before) (last_of u vs)
  works : work g vs ≡ work g before + wcet g (last_of u vs)

last_edge : (g : Digraph) (u v : ℕ) (vs : List ℕ) → IsPath g u (v ∷ vs) → HasLastEdge g u (v ∷ vs)
last_edge g u v [] p =
    let s = span_cons g u v [] in
    let s1 = span_none g v in
    let s2 = span_none g u in
    let w = work_cons g v [] in
    let w1 = work_none g in
    record { before = []; path = tt; edge = p.0; spans = omega (arith, s, s1, s2); works = omega (arith, w, w1) }
last_edge g u v (x ∷ vs) p =
    let r = last_edge g v x vs p.1 in
    let s = span_cons g u v (x ∷ vs) in
    let s1 = span_cons g u v r.before in
    let s2 = r.spans in
    let w = work_cons g v (x ∷ vs) in
    let w1 = work_cons g v r.before in
    let w2 = r.works in
    record { before = v ∷ r.before; path = (p.0, r.path); edge = r.edge; spans = omega (arith, s, s1, s2); works = omega (arith, w, w1, w2) }

moved : (g : Digraph) (x y v : ℕ) → x ≡ y → IsEdge g x v → IsEdge g y v
moved g x y v e h = subst (λ z. IsEdge g z v) e h

-- Where it is due within the bound it is one of a walk.
pub walk_more : (g : Digraph) (bound : ℕ) (e : FrontEntry) → IsWalkEntry g bound e → (v : ℕ) → IsEdge g e.vertex v → e.offset + gap g e.vertex v + deadline g v ≤ bound
    → IsWalkEntry g bound (more g e v)
walk_more g bound e walk v edge near =
    record { first = walk.first; others = walk.others ++ v ∷ []; label = label_more g walk.first walk.others e v walk.label edge; within = near }

module _ (g : Digraph) (sound : IsSoundGraph g) (bound : ℕ) (front : List FrontEntry) (is : IsLabelFront g bound front) where
  -- An entry is the label of a walk.
  pub entry_walk : (e : FrontEntry) → Contains front e → IsWalkEntry g bound e
  entry_walk e has = ((is.exact e).0 has).label

  pub entry_vertex : (e : FrontEntry) → Contains front e → e.vertex < vertex_count g
  entry_vertex e has = (All-contains (IsEntryWithin g bound) front e is.ordered.0 has).0

  -- An entry without an offset is the label of a single vertex.
  pub entry_single : (e : FrontEntry) → Contains front e → e.offset ≡ 0 → e.work ≡ wcet g e.vertex
  entry_single e has none =
      let w = entry_walk e has in
      label_single g w.first w.others e sound w.label none

  module _ (con : IsConstrainedGraph g) where
    -- Any other has an entry from which an edge leads to it.
    pub has_prefix : (e : FrontEntry) → Contains front e → 0 < e.offset → (d : FrontEntry) × Contains front d × IsPrefixLabel g d e
    has_prefix e has later = split alone.label.others refl
      where
        alone : IsNonDominatedEntry (IsWalkEntry g bound) e
        alone = (is.exact e).0 has

        prefix : (d : FrontEntry) → Contains front d → IsEdge g d.vertex e.vertex → d.offset + gap g d.vertex e.vertex ≤ e.offset → e.work ≤ d.work + wcet g e.vertex → IsPrefixLabel g d e
        prefix d there edge early much =
            let within : due g e ≤ bound = alone.label.within in
            let same : more g d e.vertex ≡ e = alone.alone (more g d e.vertex) (walk_more g bound d (entry_walk d there) e.vertex edge (omega (arith, early, within))) (refl, early, much) in
            record { edge = edge; offset = ap (λ (x : FrontEntry). x.offset) same; work = ap (λ (x : FrontEntry). x.work) same }

        by_edge : HasLastEdge g alone.label.first alone.label.others → (d : FrontEntry) × Contains front d × IsPrefixLabel g d e
        by_edge r =
            let first = alone.label.first in
            let others = alone.label.others in
            let label = alone.label.label in
            let parts = parts_of label in
            let u = last_of first r.before in
            let v : last_of first others ≡ e.vertex = sym parts.vertex in
            let edge : IsEdge g u e.vertex = subst (λ x. IsEdge g u x) v r.edge in
            let gaps : gap g u (last_of first others) ≡ gap g u e.vertex = ap (λ x. gap g u x) v in
            let costs : wcet g (last_of first others) ≡ wcet g e.vertex = ap (λ x. wcet g x) v in
            let k = edge_of_sep g u e.vertex (gap g u e.vertex) edge in
            let near = con u k.0 (source_of g sound u e.vertex (gap g u e.vertex) edge) k.1 in
            let sep = k.3 in
            let s = r.spans in
            let o = parts.offset in
            let within : due g e ≤ bound = alone.label.within in
            let c = is.covers (demand_of g first r.before) (walk_entry_is g bound first r.before label.is_vertex r.path (omega (arith, near, sep, s, gaps, o, within))) in
            let there : Contains front c.1 = (c.0, c.2, c.3) in
            let vertex : c.1.vertex ≡ u = c.4.0 in
            let on : IsEdge g c.1.vertex e.vertex = moved g u c.1.vertex e.vertex (sym vertex) edge in
            let gap_on : gap g c.1.vertex e.vertex ≡ gap g u e.vertex = ap (λ x. gap g x e.vertex) vertex in
            let early = c.4.1 in
            let much = c.4.2 in
            let w = r.works in
            let w1 = work_cons g first others in
            let w2 = work_cons g first r.before in
            let n = parts.works in
            (c.1, there, prefix c.1 there on (omega (arith, gap_on, early, s, gaps, o)) (omega (arith, much, w, w1, w2, n, costs)))

        split : (vs : List ℕ) → alone.label.others ≡ vs → (d : FrontEntry) × Contains front d × IsPrefixLabel g d e
        split [] at =
            let first = alone.label.first in
            let o : e.offset ≡ 0 = (parts_of alone.label.label).offset ∙ (ap (λ vs. span g first vs) at ∙ span_none g first) in
            absurd (omega (arith, o, later))
        split (v ∷ vs) at =
            let first = alone.label.first in
            by_edge (subst (HasLastEdge g first) (sym at) (last_edge g first v vs (subst (IsPath g first) at alone.label.label.path)))

-- From one vertex there is at most one such label.
pub one_prefix : (g : Digraph) (c d e : FrontEntry) → c.vertex ≡ d.vertex → IsPrefixLabel g c e → IsPrefixLabel g d e → c ≡ d
one_prefix g c d e vertex p q =
    let gaps : gap g c.vertex e.vertex ≡ gap g d.vertex e.vertex = ap (λ x. gap g x e.vertex) vertex in
    let o = p.offset in
    let o1 = q.offset in
    let w = p.work in
    let w1 = q.work in
    same_entry c d vertex (omega (arith, gaps, o, o1)) (omega (arith, w, w1))

-- A prefix has a smaller offset.
pub prefix_earlier : (g : Digraph) → IsSoundGraph g → (d e : FrontEntry) → IsPrefixLabel g d e → d.offset < e.offset
prefix_earlier g sound d e p =
    let t = target_of g sound d.vertex e.vertex (gap g d.vertex e.vertex) p.edge in
    let l = t.1 in
    let o = p.offset in
    omega (arith, l, o)

-- The vertices found so far, the last one first, are a walk from the entry's vertex that leads from its label to the last one.
pub record IsTail (g : Digraph) (e last : FrontEntry) (found : List ℕ) : Type 0 where
  pub others : List ℕ
  pub forward : reverse found ≡ e.vertex ∷ others
  pub path : IsPath g e.vertex others
  pub vertex : last_of e.vertex others ≡ last.vertex
  pub offset : e.offset + span g e.vertex others ≡ last.offset
  pub works : e.work + work g others ≡ last.work

pub tail_first : (g : Digraph) (last : FrontEntry) (found : List ℕ) → found ≡ last.vertex ∷ [] → IsTail g last last found
tail_first g last found is =
    let s = span_none g last.vertex in
    let w = work_none g in
    record { others = []; forward = ap reverse is; path = tt; vertex = refl; offset = omega (arith, s); works = omega (arith, w) }

pub tail_more : (g : Digraph) (d e last : FrontEntry) (found new : List ℕ) → IsPrefixLabel g d e → IsTail g e last found → new ≡ found ++ d.vertex ∷ [] → IsTail g d last new
tail_more g d e last found new p t pushed =
    let s = span_cons g d.vertex e.vertex t.others in
    let w = work_cons g e.vertex t.others in
    let o = p.offset in
    let o1 = t.offset in
    let n = p.work in
    let n1 = t.works in
    record {
      others = e.vertex ∷ t.others;
      forward = ap reverse pushed ∙ (reverse-append found (d.vertex ∷ []) ∙ ap (λ xs. d.vertex ∷ xs) t.forward);
      path = (p.edge, t.path);
      vertex = t.vertex;
      offset = omega (arith, s, o, o1);
      works = omega (arith, w, n, n1);
    }

-- Where the first label is that of a single vertex, it is a walk to the last.
pub tail_whole : (g : Digraph) (e last : FrontEntry) (found walk : List ℕ) → e.vertex < vertex_count g → e.offset ≡ 0 → e.work ≡ wcet g e.vertex → IsTail g e last found
    → walk ≡ reverse found → IsDemandWalkTo g last walk
tail_whole g e last found walk is_vertex none single t is =
    let o = t.offset in
    let n = t.works in
    let w = work_cons g e.vertex t.others in
    let parts : HasParts g e.vertex t.others last = record { vertex = sym t.vertex; offset = omega (arith, o, none); works = omega (arith, n, single, w) } in
    subst (IsDemandWalkTo g last) (sym (is ∙ t.forward)) (label_of_parts g e.vertex t.others last is_vertex t.path parts)
