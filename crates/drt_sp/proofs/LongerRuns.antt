-- A run of a table that isn't finished can be lengthened by a step under a greater budget.
use Rattle.std.proofs.Common.{◌≡◌, ℕ, zero, suc, ◌+◌, ◌<◌, ◌≤◌, Bool, true, false, cond, Option, Some, None, List, [], ◌∷◌, ◌++◌, length}
use Rattle.std.proofs.Common.{refl, sym, ap, ◌∙◌, subst, arith, inl, inr, length-append}
use Rattle.std.specs.Prelude.{slice_get, is_none, ◌&&◌, nat_le}
use Rattle.std.proofs.lemmas.Bool.{cases_lt, leb-false}
use Rattle.std.proofs.lemmas.Bool.Decides.{nat_tests}
use Rattle.drt_label.specs.Algebra.{Algebra}
use Rattle.drt_model.specs.Digraph.{IsSoundGraph, out_degree}
use Rattle.drt_request.specs.Request.{request_algebra}
use Rattle.drt_worklist.specs.Places.{changed, first}
use Rattle.drt_worklist.proofs.Runs.{run_join, run_log}
use Rattle.drt_table.specs.Facts.{Facts}
use Rattle.drt_table.specs.Machine.{Setting, State, Outcome, in_range, opening_label, opening_nodes, opening_state, extended, is_full, unchanged, logged, offset, next, holder, search_of}
use Rattle.drt_table.specs.Machine.{takes, taken, dominating, compared, counted, offered, offered_at, step_of, CanStep, after, CanEnter, replay, replay_from, IsRun, IsRunFrom, is_finished}
use Rattle.drt_table.specs.Node.{NodeOf, fresh, is_taken, is_taken_state}
use Rattle.drt_table.specs.declared.node.NodeState.{NodeState}
use Rattle.drt_table.specs.declared.node.NodeState.TheVariants.{Pending, Taken as TakenBy, Done}
use Rattle.drt_table.specs.declared.step.Entry.{Entry}
use Rattle.drt_table.specs.declared.step.TableReply.TheVariants.{Closed, OutOfRange, Spent}
use Rattle.drt_table.specs.declared.step.TableStep.{TableStep}
use Rattle.drt_table.specs.declared.step.TableStep.TheVariants.{Take, Offer, Close}
use Rattle.drt_table.proofs.Earliest.{found_earliest, none_earliest}
use Rattle.drt_sp.specs.Laws.{SearchesGoOn}

-- The setting with another budget.
abbrev with_budget : ℕ → Setting → Setting
with_budget budget t = record { graph = t.graph; bound = t.bound; budget = budget }

no_longer : (es : List Entry) (e : Entry) → es ≡ es ++ e ∷ [] → ⊥
no_longer es e h = let l : length es ≡ length es + 1 = ap length h ∙ length-append es (e ∷ []) in absurd (omega arith)

-- A greater budget changes no step that is logged.
module _ {L : Type 0} (a : Algebra L) (t : Setting) (budget : ℕ) (more : t.budget ≤ budget) where
  module _ (s : State L) (e : Entry) where
    full_same : (b : Bool) (x : Outcome L) → is_full a t s ≡ b → (cond b (unchanged a t s Spent) x).state.log ≡ s.log ++ e ∷ []
        → cond (is_full a (with_budget budget t) s) (unchanged a t s Spent) x ≡ cond b (unchanged a t s Spent) x
    full_same true x h l = absurd (no_longer s.log e l)
    full_same false x h l =
        let less : length s.log < t.budget = leb-false t.budget (length s.log) h in
        let room : nat_le budget (length s.log) ≡ false = grind (arith, nat_tests) in
        ap (λ b. cond b (unchanged a t s Spent) x) room

    take_same : (w : ℕ) (p h : Option ℕ) → (taken a t s w p h).state.log ≡ s.log ++ e ∷ [] → taken a (with_budget budget t) s w p h ≡ taken a t s w p h
    take_same w None None l = refl
    take_same w None (Some h) l = full_same (is_full a t s) _ refl l
    take_same w (Some k) None l = full_same (is_full a t s) _ refl l
    take_same w (Some k) (Some h) l = full_same (is_full a t s) _ refl l

    compared_same : (f : Entry) (nodes : List (NodeOf L)) (id : ℕ) (l : L) (o : Option ℕ) → compared a (with_budget budget t) s f nodes id l o ≡ compared a t s f nodes id l o
    compared_same f nodes id l None = refl
    compared_same f nodes id l (Some k) = refl

    offered_same : (f : Entry) (id k : ℕ) (o : Option (NodeOf L)) → offered_at a (with_budget budget t) s f id k o ≡ offered_at a t s f id k o
    offered_same f id k None = refl
    offered_same f id k (Some n) =
        let l = extended a t n.label k in
        ap (λ (o : Outcome L). cond (in_range a t l) o (logged a t s f (counted a t id s.nodes) OutOfRange))
        (compared_same f (counted a t id s.nodes) id l (first (dominating a t l) (counted a t id s.nodes)))

    step_same : (w : ℕ) (step : TableStep) → (step_of a t s w step).state.log ≡ s.log ++ e ∷ [] → step_of a (with_budget budget t) s w step ≡ step_of a t s w step
    step_same w Take l = take_same w (next a t s.nodes) (holder a t s.nodes) l
    step_same w (Offer id k) l =
        let f : Entry = record { worker = w; step = Offer id k } in
        ap (λ (o : Outcome L). cond (is_full a (with_budget budget t) s) (unchanged a t s Spent) o) (offered_same f id k (slice_get s.nodes id))
        ∙ full_same (is_full a t s) (offered_at a t s f id k (slice_get s.nodes id)) refl l
    step_same w (Close id) l = full_same (is_full a t s) _ refl l

  can_same : (s : State L) (w : ℕ) (step : TableStep) → CanStep a t s w step → CanStep a (with_budget budget t) s w step
  can_same s w Take h = h
  can_same s w (Offer id k) h = (h.0, record { at = h.1.at; held = h.1.held }, h.2, h.3)
  can_same s w (Close id) h = (h.0, record { at = h.1.at; held = h.1.held }, h.2)

  -- A run is a run under a greater budget, and leads to the same state.
  run_same : (es : List Entry) (s : State L) → IsRunFrom a t s es
      → IsRunFrom a (with_budget budget t) s es × (replay_from a (with_budget budget t) s es ≡ replay_from a t s es)
  run_same [] s run = (tt, refl)
  run_same (e ∷ es) s run =
      let u = with_budget budget t in
      let same : after a u s e ≡ after a t s e = ap (λ (o : Outcome L). o.state) (step_same s e e.worker e.step run.1) in
      let rest : IsRunFrom a u (after a t s e) es × (replay_from a u (after a t s e) es ≡ replay_from a t (after a t s e) es) = run_same es (after a t s e) run.2 in (
        (can_same s e.worker e.step run.0, ap (λ (x : State L). x.log) same ∙ run.1, subst (λ (x : State L). IsRunFrom a u x es) (sym same) rest.0),
        ap (λ (x : State L). replay_from a u x es) same ∙ rest.1,
      )

  nodes_same : (v n : ℕ) → opening_nodes a (with_budget budget t) v n ≡ opening_nodes a t v n
  nodes_same v zero = refl
  nodes_same v (suc n) =
      let l = opening_label a t v in
      ap (λ (ns : List (NodeOf L)). cond (in_range a t l) (fresh l None ∷ ns) ns) (nodes_same (v + 1) n)

  opening_same : opening_state a (with_budget budget t) ≡ opening_state a t
  opening_same = ap (λ (ns : List (NodeOf L)). record { nodes = ns; log = [] }) (nodes_same 0 (length t.graph.vertices))

holder_of : (x : NodeState) → is_taken_state x ≡ true → (w : ℕ) × (x ≡ TakenBy w)
holder_of Pending h = absurd (cc)
holder_of (TakenBy w) h = (w, refl)
holder_of Done h = absurd (cc)

-- A step that is allowed and logged.
record IsLogged {L : Type 0} (a : Algebra L) (t : Setting) (s : State L) : Type 0 where
  entry : Entry
  can : CanStep a t s entry.worker entry.step
  logs : (step_of a t s entry.worker entry.step).state.log ≡ s.log ++ entry ∷ []

-- No node has offered more than its edges.
abbrev pub AreOffered : {L : Type 0} → Algebra L → Setting → State L → Type 0
AreOffered {L = L} a t s = (i : ℕ) (n : NodeOf L) → slice_get s.nodes i ≡ Some n → n.offered ≤ out_degree t.graph (a.vertex n.label)

module _ {L : Type 0} (a : Algebra L) (t : Setting) (s : State L) (less : length s.log < t.budget) (offers : AreOffered a t s) where
  room : is_full a t s ≡ false
  room = grind (arith, nat_tests)

  compared_logs : (f : Entry) (nodes : List (NodeOf L)) (id : ℕ) (l : L) (o : Option ℕ) → (compared a t s f nodes id l o).state.log ≡ s.log ++ f ∷ []
  compared_logs f nodes id l None = refl
  compared_logs f nodes id l (Some k) = refl

  ranged_logs : (f : Entry) (nodes : List (NodeOf L)) (b : Bool) (x : Outcome L) → x.state.log ≡ s.log ++ f ∷ [] → (cond b x (logged a t s f nodes OutOfRange)).state.log ≡ s.log ++ f ∷ []
  ranged_logs f nodes true x h = h
  ranged_logs f nodes false x h = refl

  offered_logs : (f : Entry) (id : ℕ) (l : L) → (offered a t s f id l).state.log ≡ s.log ++ f ∷ []
  offered_logs f id l =
      let nodes = counted a t id s.nodes in
      let o = first (dominating a t l) nodes in
      ranged_logs f nodes (in_range a t l) (compared a t s f nodes id l o) (compared_logs f nodes id l o)

  -- A node that is taken can offer an edge or be closed.
  holder_goes_on : (id w : ℕ) (n : NodeOf L) → slice_get s.nodes id ≡ Some n → n.state ≡ TakenBy w → IsLogged a t s
  holder_goes_on id w n at held = elim (cases_lt n.offered (out_degree t.graph (a.vertex n.label))) as (λ _. IsLogged a t s) [
    | inl within ↦
        (let f : Entry = record { worker = w; step = Offer id n.offered } in
        record {
          entry = f;
          can = (n, record { at = at; held = held }, refl, within);
          logs =
              ap (λ b. (cond b (unchanged a t s Spent) (offered_at a t s f id n.offered (slice_get s.nodes id))).state.log) room
              ∙ (ap (λ o. (offered_at a t s f id n.offered o).state.log) at ∙ offered_logs f id (extended a t n.label n.offered));
        })
    | inr past ↦
        (let f : Entry = record { worker = w; step = Close id } in
        record {
          entry = f;
          can = (n, record { at = at; held = held }, omega (arith, past, offers id n at));
          logs = ap (λ b. (cond b (unchanged a t s Spent) (logged a t s f (changed id (λ (m : NodeOf L). record m { state = Done }) s.nodes) Closed)).state.log) room;
        })
  ]

  none_taken : holder a t s.nodes ≡ None → CanStep a t s 0 Take
  none_taken none id n at held =
      let no : is_taken n ≡ false = none_earliest is_taken (offset a t) s.nodes none id n at in
      let yes : is_taken n ≡ true = ap is_taken_state held in
      cc (no, yes)

  by_holder : (h : Option ℕ) → holder a t s.nodes ≡ h → (p : Option ℕ) → next a t s.nodes ≡ p → is_finished a t s ≡ false → IsLogged a t s
  by_holder (Some id) h p g unfinished =
      let f = found_earliest is_taken (offset a t) s.nodes id h in
      let w : (w : ℕ) × (f.item.state ≡ TakenBy w) = holder_of f.item.state f.passes in
      holder_goes_on id w.0 f.item f.at w.1
  by_holder None h (Some k) g unfinished = record {
    entry = record { worker = 0; step = Take };
    can = none_taken h;
    logs =
        ap (λ o. (taken a t s 0 o (holder a t s.nodes)).state.log) g
        ∙ (ap (λ o. (taken a t s 0 (Some k) o).state.log) h ∙ ap (λ b. (cond b (unchanged a t s Spent) (takes a t s 0 k)).state.log) room);
  }
  by_holder None h None g unfinished =
      let yes : is_finished a t s ≡ true = ap (λ (o : Option ℕ). is_none o && is_none (holder a t s.nodes)) g ∙ ap (λ (o : Option ℕ). is_none o) h in
      absurd (cc (yes, unfinished))

  goes_on : is_finished a t s ≡ false → IsLogged a t s
  goes_on unfinished = by_holder (holder a t s.nodes) refl (next a t s.nodes) refl unfinished

-- A run that isn't finished can be lengthened by a step, where the budget allows one more.
pub run_longer : {L : Type 0} (a : Algebra L) (t : Setting) (es : List Entry) (budget : ℕ) → IsRun a t es → is_finished a t (replay a t es) ≡ false → AreOffered a t (replay a t es)
    → t.budget ≤ budget → length es < budget → (e : Entry) × IsRun a (record { graph = t.graph; bound = t.bound; budget = budget }) (es ++ e ∷ [])
run_longer {L = L} a t es budget run unfinished offers more less =
    let u : Setting = with_budget budget t in
    let same : IsRunFrom a u (opening_state a t) es × (replay_from a u (opening_state a t) es ≡ replay a t es) = run_same a t budget more es (opening_state a t) run in
    let logs : (replay a t es).log ≡ es = run_log (after a t) (CanEnter a t) (λ (s : State L). s.log) es (opening_state a t) run in
    let room : length (replay a t es).log < budget = subst (λ (l : List Entry). length l < budget) (sym logs) less in
    let one : IsLogged a u (replay a t es) = goes_on a u (replay a t es) room offers unfinished in
    let there : IsLogged a u (replay_from a u (opening_state a t) es) = subst (λ (s : State L). IsLogged a u s) (sym same.1) one in
    let longer : IsRunFrom a u (opening_state a t) (es ++ there.entry ∷ [])
    = run_join (after a u) (CanEnter a u) (λ (s : State L). s.log) es (there.entry ∷ []) (opening_state a t) same.0 (there.can, there.logs, tt) in
    (there.entry, subst (λ (s : State L). IsRunFrom a u s (es ++ there.entry ∷ [])) (sym (opening_same a t budget more)) longer)

-- A search that spent its budget goes on under a greater one.
pub search_longer : ((t : Setting) (log : List Entry) → IsSoundGraph t.graph → IsRun request_algebra t log → Facts request_algebra t (replay request_algebra t log).nodes) → SearchesGoOn
search_longer facts g bound budget more log sound spent less =
    let t = search_of g bound budget in
    run_longer request_algebra t log more spent.run spent.unfinished (facts t log sound spent.run).offered (omega (arith, less)) (omega (arith, less, spent.spent))
