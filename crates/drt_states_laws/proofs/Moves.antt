-- Where a walk goes on to: to its first vertex, or by its next edge, or by some edge where the next one comes too late to count.
use Rattle.std.proofs.Common.{◌≡◌, ℕ, ◌+◌, ◌-◌, ◌<◌, ◌≤◌, ◌⊎◌, inl, inr, List, [], ◌∷◌, sym, ap, ◌∙◌, subst, arith}
use Rattle.std.proofs.lemmas.Bool.{cases_lt}
use Rattle.drt_model.specs.Digraph.{Digraph, IsSoundGraph, edge_of, out_degree, vertex_count}
use Rattle.drt_model.specs.Walk.{gap, wcet, request, IsWalk, request_of}
use Rattle.drt_states_laws.proofs.Bound.{edge_between, target_within}
use Rattle.drt_states_laws.proofs.Requests.{request_grows, request_last, request_next, request_none}

-- A walk that begins with a vertex and asks for no less where that is released at offset 0.
pub record Begun (g : Digraph) (vs : List ℕ) : Type 0 where
  pub first : ℕ
  pub rest : List ℕ
  pub walk : IsWalk g (first ∷ rest)
  pub more : (t : ℕ) → request_of g vs t ≤ request g first rest (t - 0)

pub begin : (g : Digraph) → IsSoundGraph g → (vs : List ℕ) → IsWalk g vs → Begun g vs
begin g sound [] walk = record { first = 0; rest = []; walk = (sound.some, tt); more = λ t. omega arith }
begin g sound (u ∷ vs) walk = record { first = u; rest = vs; walk = walk; more = more }
  where
    more : (t : ℕ) → request g u vs t ≤ request g u vs (t - 0)
    more t = request_grows g u vs t (t - 0) (omega arith)

-- An edge out of u whose target comes before the deadline where u is released at an offset, and a walk that begins with its target: after
-- u it asks up to n for no less.
pub record Moved (g : Digraph) (deadline n offset u : ℕ) (vs : List ℕ) : Type 0 where
  pub number : ℕ
  pub here : number < out_degree g u
  pub early : offset + (edge_of g u number).sep < deadline
  pub rest : List ℕ
  pub walk : IsWalk g ((edge_of g u number).to ∷ rest)
  pub more : (t : ℕ) → t ≤ n → request g u vs (t - offset) ≤ wcet g u + request g (edge_of g u number).to rest (t - (offset + (edge_of g u number).sep))

-- Where nothing comes after u, any edge serves.
move_late : (g : Digraph) → IsSoundGraph g → (deadline n offset u : ℕ) (vs : List ℕ) (k : ℕ) → u < vertex_count g → k < out_degree g u
    → offset + (edge_of g u k).sep < deadline → ((t : ℕ) → t ≤ n → request g u vs (t - offset) ≤ wcet g u) → Moved g deadline n offset u vs
move_late g sound deadline n offset u vs k l here early more = record {
  number = k;
  here = here;
  early = early;
  rest = [];
  walk = (sound.to u k l here, tt);
  more = λ t to. (let most = more t to in omega (arith, most));
}

-- The next edge, where its target comes before the deadline.
move_next : (g : Digraph) (deadline n offset u v : ℕ) (vs : List ℕ) → IsWalk g (u ∷ v ∷ vs) → v < vertex_count g → offset + gap g u v < deadline
    → Moved g deadline n offset u (v ∷ vs)
move_next g deadline n offset u v vs walk m early =
    let e = edge_between g u v walk.1.0 in
    let to : (edge_of g u e.number).to ≡ v = e.to in
    let sep : (edge_of g u e.number).sep ≡ gap g u v = e.sep in
    record {
      number = e.number;
      here = e.here;
      early = omega (arith, sep, early);
      rest = vs;
      walk = subst (λ w. IsWalk g (w ∷ vs)) (sym to) (m, walk.1.1);
      more = λ t l.
          (let next = request_next g u v vs (t - offset) in
          let at : t - offset - gap g u v ≡ t - (offset + (edge_of g u e.number).sep) = omega (arith, sep) in
          let same : request g v vs (t - offset - gap g u v) ≡ request g (edge_of g u e.number).to vs (t - (offset + (edge_of g u e.number).sep)) =
          ap (λ n. request g v vs n) at ∙ ap (λ w. request g w vs (t - (offset + (edge_of g u e.number).sep))) (sym to) in
          omega (arith, next, same));
    }

-- A walk moves on where some edge out of its vertex has a target that comes before the deadline.
pub move : (g : Digraph) → IsSoundGraph g → (deadline n offset u : ℕ) (vs : List ℕ) (k : ℕ) → n ≤ deadline → IsWalk g (u ∷ vs) → k < out_degree g u
    → offset + (edge_of g u k).sep < deadline → Moved g deadline n offset u vs
move g sound deadline n offset u [] k within walk here early =
    move_late g sound deadline n offset u [] k walk.0 here early (λ t l. request_last g u (t - offset))
move g sound deadline n offset u (v ∷ vs) k within walk here early = go (cases_lt (offset + gap g u v) deadline)
  where
    go : (offset + gap g u v < deadline) ⊎ (deadline ≤ offset + gap g u v) → Moved g deadline n offset u (v ∷ vs)
    go (inl next) = move_next g deadline n offset u v vs walk (target_within g sound u v walk.0 walk.1.0) next
    go (inr late) = move_late g sound deadline n offset u (v ∷ vs) k walk.0 here early most
      where
        most : (t : ℕ) → t ≤ n → request g u (v ∷ vs) (t - offset) ≤ wcet g u
        most t l =
            let next = request_next g u v vs (t - offset) in
            let at : t - offset - gap g u v ≡ 0 = omega arith in
            let none : request g v vs (t - offset - gap g u v) ≡ 0 = ap (λ m. request g v vs m) at ∙ request_none g v vs in
            omega (arith, next, none)
