-- The proofs of the first vertices of a task, one after another.
use Rattle.std.proofs.Common.{ℕ, ◌+◌, ◌<◌, ◌≤◌, List, [], ◌∷◌, ◌++◌, All, length, refl, sym, ap, subst, ◌≡◌, ◌∙◌, arith}
use Rattle.std.proofs.lemmas.List.{map_push}
use Rattle.std.proofs.lemmas.List.Elements.{All-nil, All-push}
use Rattle.std.proofs.lemmas.List.FromFn.{map-range_with_len_more}
use Rattle.drt_model.specs.Digraph.{Digraph, IsSoundGraph, vertex_count}
use Rattle.drt_model.specs.Walk.{deadline, wcet}
use Rattle.drt_tree.specs.Tree.{Plain}
use Rattle.drt_claims.specs.Ranges.{IsCounted, IsInRangeItem}
use Rattle.drt_claims.specs.declared.evidence.Item.{Item}
use Rattle.drt_claims.specs.declared.evidence.ProofClaim.{ProofClaim}
use Rattle.drt_sp.specs.Items.{IsProofOf}
use Rattle.drt_sp.specs.Parts.{IsPosedVertex}
use Rattle.drt_sp.specs.declared.proving.PosedVertex.{PosedVertex}
use Rattle.drt_steps.specs.Time.{AreChosen}
use Rattle.drt_sp.specs.Vertices.{AreVertexProofs, IsStop, IsProvedVertex, subject_of}
use Rattle.drt_sp.proofs.Passing.{proofs_pass}

module _ (f : Plain) (roots : List ℕ) (g : Digraph) (k : ℕ) where
  pub no_proofs : AreVertexProofs f roots g k 0 []
  no_proofs = record { are = refl; each = All-nil (IsProvedVertex f roots g k) }

  pub proofs_more : (v : ℕ) (proofs : List ProofClaim) (items : List Item) → IsSoundGraph g → k ≤ 4294967295 → v < vertex_count g → AreVertexProofs f roots g k v proofs
      → IsProofOf f (wcet g v) (deadline g v) roots items → All IsInRangeItem items → IsCounted items
      → AreVertexProofs f roots g k (v + 1) (proofs ++ record { task = k; vertex = v; items = items } ∷ [])
  proofs_more v proofs items sound few l are is each counted = record {
    are = map_push subject_of proofs p ∙ (ap (λ xs. xs ++ (k, v) ∷ []) are.are ∙ sym (map-range_with_len_more (λ u. (k, u)) 0 v v (omega arith)));
    each = All-push (IsProvedVertex f roots g k) proofs p are.each (record {
      task_is = refl;
      vertex = l;
      proves = is;
      range = record { task = few; vertex = omega (arith, l, sound.few); items = each; counted = counted };
    });
  }
    where
      p : ProofClaim
      p = record { task = k; vertex = v; items = items }

  -- The earlier vertices pass.
  pub stop_at : (v : ℕ) (proofs : List ProofClaim) → v < vertex_count g → AreVertexProofs f roots g k v proofs → IsStop f roots g v
  stop_at v proofs l are = record { vertex = l; earlier = λ u less. proofs_pass f roots g k v proofs are u less }

-- A vertex of the graph is posed against the roots that its deadline chooses.
pub posed_vertex : (p : PosedVertex) (g : Digraph) (v : ℕ) → IsSoundGraph g → v < vertex_count g → p.wcet ≡ wcet g v → p.deadline ≡ deadline g v
    → length p.roots.now ≤ 31 → AreChosen (deadline g v) p.forest.now.pool p.roots.now → IsPosedVertex p
posed_vertex p g v sound l w d few chosen =
    let long = sound.wcet v l in
    let late = sound.deadline v l in
    record {
      few = few;
      chosen = subst (λ (n : ℕ). AreChosen n p.forest.now.pool p.roots.now) (sym d) chosen;
      some_wcet = omega (arith, w, long);
      few_wcet = omega (arith, w, long);
      some_deadline = omega (arith, d, late);
      few_deadline = omega (arith, d, late);
    }
