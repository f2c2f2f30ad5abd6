-- The search of a graph's walks takes few steps: a kept node for each walk at most, since one walk has one label.
use Rattle.std.proofs.Common.{◌≡◌, inl, inr, ℕ, ◌+◌, ◌-◌, ◌*◌, ◌<◌, ◌≤◌, Bool, true, false, List, [], ◌∷◌, ◌++◌, length, map, reverse, get_or, Contains, refl, sym, ap}
use Rattle.std.proofs.Common.{◌∙◌, subst, arith, append_assoc, mul-le-mul_left}
use Rattle.std.specs.Prelude.{IsTrue, nat_le, ◌&&◌}
use Rattle.std.specs.List.{position_or_len, range_with_len}
use Rattle.std.proofs.lemmas.Bool.{cases_lt}
use Rattle.std.proofs.lemmas.Bool.Decides.{nat_tests}
use Rattle.std.proofs.lemmas.List.{append-nil, reverse-reverse}
use Rattle.std.proofs.lemmas.List.FromFn.{length-map-range_with_len, get_or-map-range_with_len}
use Rattle.std.proofs.lemmas.List.Sums.{fails_before_first, passes_at_first}
use Rattle.drt_model.specs.Numbers.{most_time}
use Rattle.drt_graph.specs.Degrees.{most_out}
use Rattle.drt_model.specs.Digraph.{Digraph, IsSoundGraph}
use Rattle.drt_model.specs.Walk.{last_of, span, request}
use Rattle.drt_graph.proofs.MostOut.{most_row}
use Rattle.drt_steps.specs.Values.{value_at}
use Rattle.drt_request.specs.Laws.{request_laws}
use Rattle.drt_request.specs.Request.{Request, request_algebra, request_dominates}
use Rattle.drt_request.specs.Walk.{IsRequestLabelOf}
use Rattle.drt_table.specs.Machine.{Setting, State, step_of, opening_state, replay_from, IsRun, IsRunFrom, replay, search_of}
use Rattle.drt_table.specs.Walk.{IsWalkBack, IsWalkLabel}
use Rattle.drt_table.specs.Work.{IsDegree, IsShort, AreSlots, kept_count}
use Rattle.drt_table.specs.declared.step.Entry.{Entry}
use Rattle.drt_claims.specs.Trees.{IsShortWalk}
use Rattle.drt_sp.specs.Needs.{HasAtMost}
use Rattle.drt_sp.specs.TreeClaims.{IsSpentWalkSearch}
use Rattle.drt_sp.proofs.FewWalks.{itself}
use Rattle.drt_sp.proofs.RequestWalks.{same_labels, walk_short}

-- The label of a walk, by its request function.
abbrev label_of : Digraph → ℕ → ℕ → List ℕ → Request
label_of g bound u vs = record { vertex = last_of u vs; offset = span g u vs; values = map (request g u vs) (range_with_len 1 bound) }

label_is : (g : Digraph) (bound u : ℕ) (vs : List ℕ) → IsRequestLabelOf g bound u vs (label_of g bound u vs)
unfolding value_at
label_is g bound u vs = record {
  vertex = refl;
  offset = refl;
  long = length-map-range_with_len (request g u vs) 1 bound;
  values = λ t from to. get_or-map-range_with_len (request g u vs) 1 bound (t - 1) t 0 (omega (arith, from, to)) (omega (arith, from));
}

-- The walk has the label: each dominates the other.
has_label : Digraph → ℕ → Request → List ℕ → Bool
has_label g bound l [] = false
has_label g bound l (u ∷ vs) = request_dominates l (label_of g bound u vs) && request_dominates (label_of g bound u vs) l

-- A label's slot is the place of the first walk that has it.
slot : Digraph → ℕ → List (List ℕ) → Request → ℕ
slot g bound walks l = position_or_len (has_label g bound l) walks

and_left : (b c : Bool) → (b && c) ≡ true → b ≡ true
and_left true c h = refl
and_left false c h = absurd (cc)

and_right : (b c : Bool) → (b && c) ≡ true → c ≡ true
and_right true c h = h
and_right false c h = absurd (cc)

both : (b c : Bool) → b ≡ true → c ≡ true → (b && c) ≡ true
both b c p q = ap (λ x. x && c) p ∙ q

module _ (g : Digraph) (bound : ℕ) where
  -- A walk has its label.
  walk_has : (u : ℕ) (vs : List ℕ) (l : Request) → IsShortWalk bound g (u ∷ vs) → IsRequestLabelOf g bound u vs l → has_label g bound l (u ∷ vs) ≡ true
  unfolding has_label
  walk_has u vs l short is =
      let same = same_labels g bound u vs u vs l (label_of g bound u vs) is (label_is g bound u vs) (itself bound g (u ∷ vs) short) in
      subst (λ x. (request_dominates l x && request_dominates x l) ≡ true) same (both (request_dominates l l) (request_dominates l l) (request_laws.reflexive l) (request_laws.reflexive l))

  -- Of two labels of one walk one dominates the other.
  one_walk : (w : List ℕ) (l m : Request) → has_label g bound l w ≡ true → has_label g bound m w ≡ true → IsTrue (request_dominates l m)
  unfolding has_label
  one_walk [] l m h k = absurd (cc)
  one_walk (u ∷ vs) l m h k =
      let x = label_of g bound u vs in
      request_laws.transitive l x m (and_left (request_dominates l x) (request_dominates x l) h) (and_right (request_dominates m x) (request_dominates x m) k)

  module _ (walks : List (List ℕ)) where
    slot_within : (l : Request) (w : List ℕ) → Contains walks w → has_label g bound l w ≡ true → slot g bound walks l < length walks
    unfolding slot
    slot_within l w at h = elim (cases_lt (position_or_len (has_label g bound l) walks) (length walks)) [
      | inl within ↦ within
      | inr past ↦
          (let fails = fails_before_first (has_label g bound l) walks at.0 w (omega (arith, at.1, past)) in
          let holds = ap (has_label g bound l) at.2 ∙ h in
          absurd (cc (fails, holds)))
    ]

    slot_has : (l : Request) → slot g bound walks l < length walks → has_label g bound l (get_or walks (slot g bound walks l) []) ≡ true
    unfolding slot
    slot_has l within = passes_at_first (has_label g bound l) walks [] within

-- The walks have each that spans less than the bound.
abbrev HasAll : Setting → List (List ℕ) → Type 0
HasAll t walks = (w : List ℕ) → IsShortWalk t.bound t.graph w → Contains walks w

module _ (t : Setting) (sound : IsSoundGraph t.graph) where
  -- The label of a walk of the search is that of one of the walks.
  labelled : (walks : List (List ℕ)) → HasAll t walks → (l : Request) → IsWalkLabel request_algebra t l → slot t.graph t.bound walks l < length walks
  labelled walks all l is =
      let back = is.0 ∷ is.1 in
      let w = walk_short t sound (reverse back) l (subst (λ x. IsWalkBack request_algebra t x l) (sym (reverse-reverse back)) is.2) in
      slot_within t.graph t.bound walks l (w.first ∷ w.others) (all (w.first ∷ w.others) w.short) (walk_has t.graph t.bound w.first w.others l w.short w.label)

  slots_are : (walks : List (List ℕ)) → HasAll t walks → AreSlots request_algebra t (slot t.graph t.bound walks) (length walks)
  slots_are walks all = record {
    within = labelled walks all;
    alone = λ l m is has same.
        (let h = slot_has t.graph t.bound walks l (labelled walks all l is) in
        let k = slot_has t.graph t.bound walks m (labelled walks all m has) in
        let e = ap (λ n. has_label t.graph t.bound m (get_or walks n [])) same in
        inl (one_walk t.graph t.bound (get_or walks (slot t.graph t.bound walks l) []) l m h (e ∙ k)));
  }

-- The log of the state after a run is the run.
module _ (t : Setting) where
  run_log_from : (es : List Entry) (s : State Request) → IsRunFrom request_algebra t s es → (replay_from request_algebra t s es).log ≡ s.log ++ es
  run_log_from [] s run = sym (append-nil s.log)
  run_log_from (e ∷ es) s run =
      let h = run_log_from es (step_of request_algebra t s e.worker e.step).state run.2 in
      h ∙ (ap (λ l. l ++ es) run.1 ∙ append_assoc s.log (e ∷ []) es)

  run_log : (log : List Entry) → IsRun request_algebra t log → length (replay request_algebra t log).log ≡ length log
  run_log log run = ap length (run_log_from log (opening_state request_algebra t) run)

-- What holds after each run, of its log's length and of the kept nodes.
abbrev pub SearchesAreShort : Type 0
SearchesAreShort =
    (t : Setting) (log : List Entry) (g : ℕ) → IsSoundGraph t.graph → IsTrue (request_algebra.takes_bound t.bound) → IsRun request_algebra t log → IsDegree request_algebra t g
    → IsShort request_algebra t g (replay request_algebra t log)

abbrev pub SearchesKeepFew : Type 0
SearchesKeepFew =
    (t : Setting) (log : List Entry) (slot : Request → ℕ) (many : ℕ) → IsSoundGraph t.graph → IsTrue (request_algebra.takes_bound t.bound) → IsRun request_algebra t log
    → AreSlots request_algebra t slot many → kept_count (replay request_algebra t log).nodes ≤ many

scaled : (n kept many g : ℕ) → n < kept * (g + 2) → kept ≤ many → n < many * (g + 2)
scaled n kept many g l m =
    let x : (g + 2) * kept ≤ (g + 2) * many = mul-le-mul_left (g + 2) m in
    omega arith

-- A search that spent its budget had less than a graph with so many walks needs.
pub spent_search : SearchesAreShort → SearchesKeepFew → (g : Digraph) (bound budget n : ℕ) (log : List Entry) → IsSoundGraph g → 1 ≤ bound → bound ≤ most_time
    → IsSpentWalkSearch g bound budget log → HasAtMost bound g n → budget < n * (most_out g.out + 2)
spent_search short few g bound budget n log sound from to is most =
    let t = search_of g bound budget in
    let takes : (nat_le 1 bound && nat_le bound most_time) ≡ true = grind (arith, nat_tests) in
    let s = short t log (most_out g.out) sound takes is.run (λ v l. most_row g.out v) in
    let k = few t log (slot g bound most.0) (length most.0) sound takes is.run (slots_are t sound most.0 most.2) in
    let u = s.unfinished is.unfinished in
    scaled budget (kept_count (replay request_algebra t log).nodes) n (most_out g.out) (omega (arith, u, run_log t log is.run, is.spent)) (omega (arith, k, most.1))
