-- Which states stand for the children of a state: for each vertex, or for each edge whose target comes before the deadline.
use Rattle.std.proofs.Common.{◌≡◌, ℕ, zero, suc, ◌<◌, ◌≤◌, ◌⊎◌, inl, inr, Bool, true, false, Some, None, List, [], ◌∷◌, length, get_or, map, filter, refl, subst, arith}
use Rattle.std.specs.Prelude.{IsSomeAnd, Option, slice_get}
use Rattle.std.specs.List.{AllZip, range_with_len}
use Rattle.std.proofs.lemmas.Bool.{cases_Bool}
use Rattle.std.proofs.lemmas.List.FromFn.{get_or-map-range_with_len, length-map-range_with_len}
use Rattle.drt_model.specs.declared.tasks.Edge.{Edge}
use Rattle.drt_model.specs.Digraph.{no_edge}
use Rattle.drt_model.proofs.Neighbours.{filter-no, filter-yes}
use Rattle.drt_states.specs.declared.claims.StateClaim.{StateClaim}
use Rattle.drt_states.specs.States.{Child, NamesAbove}

-- A state of the list.
pub record IsStateAt (states : List StateClaim) (k : ℕ) (P : StateClaim → Type 0) : Type 0 where
  pub state : StateClaim
  pub at : slice_get states k ≡ Some state
  pub is : P state

pub state_at : (states : List StateClaim) (k : ℕ) (P : StateClaim → Type 0) → IsSomeAnd (slice_get states k) P → IsStateAt states k P
state_at states k P is = go (slice_get states k) refl is
  where
    go : (o : Option StateClaim) → slice_get states k ≡ o → IsSomeAnd o P → IsStateAt states k P
    go None e some = absurd some
    go (Some s) e some = record { state = s; at = e; is = some }

module _ (states : List StateClaim) where
  -- The number of a state that dominates the child.
  abbrev pub Named : Child → Type 0
  Named c = (n : ℕ) × NamesAbove states c n

  named_at : (children : List Child) (numbers : List ℕ) (k : ℕ) (d : Child) → AllZip (NamesAbove states) children numbers → k < length children → Named (get_or children k d)
  named_at [] numbers k d zip l = absurd (omega arith)
  named_at (c ∷ children) [] k d zip l = absurd zip
  named_at (c ∷ children) (n ∷ numbers) zero d zip l = (n, zip.0)
  named_at (c ∷ children) (n ∷ numbers) (suc k) d zip l = named_at children numbers k d zip.1 (omega (arith, l))

  -- One child for each of the first numbers.
  pub vertex_named : (child : ℕ → Child) (count : ℕ) (numbers : List ℕ) (v : ℕ) → v < count
      → AllZip (NamesAbove states) (map child (range_with_len 0 count)) numbers → Named (child v)
  vertex_named child count numbers v l zip =
      let long = length-map-range_with_len child 0 count in
      let named = named_at (map child (range_with_len 0 count)) numbers v (child v) zip (omega (arith, long, l)) in
      subst Named (get_or-map-range_with_len child 0 count v v (child v) l (omega arith)) named

  module _ (child : Edge → Child) (test : Edge → Bool) where
    -- The children of the edges that pass the test.
    abbrev of_edges : List Edge → List Child
    of_edges edges = map child (filter test edges)

    -- One child for each edge that passes.
    pub edge_named : (edges : List Edge) (numbers : List ℕ) (k : ℕ) → k < length edges → test (get_or edges k no_edge) ≡ true
        → AllZip (NamesAbove states) (map child (filter test edges)) numbers → Named (child (get_or edges k no_edge))
    edge_named [] numbers k l passes zip = absurd (omega arith)
    edge_named (e ∷ edges) numbers zero l passes zip =
        let all = subst (λ es. AllZip (NamesAbove states) (map child es) numbers) (filter-yes test e edges passes) zip in
        named_at (child e ∷ of_edges edges) numbers 0 (child e) all (omega arith)
    edge_named (e ∷ edges) numbers (suc k) l passes zip = go (cases_Bool (test e)) numbers zip (λ ns. edge_named edges ns k (omega (arith, l)) passes)
      where
        go : (test e ≡ true) ⊎ (test e ≡ false) → (ns : List ℕ) → AllZip (NamesAbove states) (of_edges (e ∷ edges)) ns
            → ((ms : List ℕ) → AllZip (NamesAbove states) (of_edges edges) ms → Named (child (get_or edges k no_edge)))
            → Named (child (get_or edges k no_edge))
        go (inr not_so) ns all later = later ns (subst (λ es. AllZip (NamesAbove states) (map child es) ns) (filter-no test e edges not_so) all)
        go (inl so) ns all later = rest ns (subst (λ es. AllZip (NamesAbove states) (map child es) ns) (filter-yes test e edges so) all)
          where
            rest : (ms : List ℕ) → AllZip (NamesAbove states) (child e ∷ of_edges edges) ms → Named (child (get_or edges k no_edge))
            rest [] more = absurd more
            rest (m ∷ ms) more = later ms more.1

    -- An edge that passes.
    pub record IsPassing (edges : List Edge) : Type 0 where
      pub number : ℕ
      pub here : number < length edges
      pub passes : test (get_or edges number no_edge) ≡ true

    -- Where there is a number, there is such an edge.
    pub edge_passing : (edges : List Edge) (numbers : List ℕ) → 1 ≤ length numbers → AllZip (NamesAbove states) (map child (filter test edges)) numbers → IsPassing edges
    edge_passing [] [] some zip = absurd (omega arith)
    edge_passing [] (n ∷ numbers) some zip = absurd zip
    edge_passing (e ∷ edges) numbers some zip = go (cases_Bool (test e)) (edge_passing edges numbers some)
      where
        go : (test e ≡ true) ⊎ (test e ≡ false) → (AllZip (NamesAbove states) (of_edges edges) numbers → IsPassing edges) → IsPassing (e ∷ edges)
        go (inl so) later = record { number = 0; here = omega arith; passes = so }
        go (inr not_so) later =
            let r = later (subst (λ es. AllZip (NamesAbove states) (map child es) numbers) (filter-no test e edges not_so) zip) in
            record { number = suc r.number; here = (let h = r.here in omega (arith, h)); passes = r.passes }
