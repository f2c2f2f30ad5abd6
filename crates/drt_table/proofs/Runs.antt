-- What holds after a run, and a run that goes on by one step.
use Rattle.std.proofs.Common.{◌≡◌, ℕ, ◌+◌, ◌<◌, ◌≤◌, Bool, true, false, cond, Option, Some, None, List, [], ◌∷◌, ◌++◌, length, map, refl, ap, ◌∙◌, arith, length-append}
use Rattle.std.specs.Prelude.{slice_get, nat_lt}
use Rattle.std.proofs.lemmas.Bool.{leb-false}
use Rattle.std.proofs.lemmas.List.{length-map}
use Rattle.drt_label.specs.Algebra.{Algebra, Laws}
use Rattle.drt_table.specs.Node.{NodeOf, fresh}
use Rattle.drt_table.specs.declared.node.NodeState.TheVariants.{Done, Taken as TakenBy}
use Rattle.drt_table.specs.declared.step.TableStep.{TableStep}
use Rattle.drt_table.specs.declared.step.TableStep.TheVariants.{Take, Offer, Close}
use Rattle.drt_table.specs.declared.step.TableReply.{TableReply}
use Rattle.drt_table.specs.declared.step.TableReply.TheVariants.{Taken, Busy, Added, Dominated, Closed, OutOfRange}
use Rattle.drt_table.specs.declared.step.Entry.{Entry}
use Rattle.drt_table.specs.Machine.{Setting, separation, State, Outcome, in_range, extended, is_full, unchanged, logged, offset_at, next, holder, takes, taken, drop_by, dominating, added, compared, counted, offered_at, step_of, CanStep, opening_nodes, opening_state, after, CanEnter, replay, IsRun}
use Rattle.drt_worklist.specs.Places.{first, changed}
use Rattle.drt_model.specs.Digraph.{IsSoundGraph}
use Rattle.drt_worklist.proofs.Runs.{replay_join, run_join, replay_keeps, run_keeps as keeps_all}
use Rattle.drt_table.specs.Facts.{Facts, Order}
use Rattle.drt_worklist.proofs.Lists.{length-changed}
use Rattle.drt_table.proofs.Opening.{opening_facts, opening_order, opening_few}
use Rattle.drt_table.proofs.Steps.{step_keeps}
use Rattle.drt_table.proofs.Ordering.{step_order}

-- how many nodes and entries there are
pub record Counts {L : Type 0} (t : Setting) (s : State L) : Type 0 where
  pub few : length s.nodes ≤ length t.graph.vertices + length s.log
  pub within : length s.log ≤ t.budget

module _ {L : Type 0} (a : Algebra L) (laws : Laws a) (t : Setting) where
  -- whoever made its steps
  pub run_keeps : (es : List Entry) → IsRun a t es → Facts a t (replay a t es).nodes
  run_keeps es run = keeps_all (after a t) (CanEnter a t) (λ (s : State L). s.log) (λ (s : State L). Facts a t s.nodes)
      (λ s e can facts. step_keeps a laws t s e.worker e.step facts can) es (opening_state a t) (opening_facts a laws t) run

  -- whoever made its steps
  pub run_order : IsSoundGraph t.graph → (es : List Entry) → IsRun a t es → Order a t (replay a t es).nodes
  run_order sound es run =
      (keeps_all (after a t) (CanEnter a t) (λ (s : State L). s.log) (λ (s : State L). Facts a t s.nodes × Order a t s.nodes)
      (λ s e can both. (step_keeps a laws t s e.worker e.step both.0 can, step_order a t sound laws s e.worker e.step both.0 both.1 can))
      es (opening_state a t) (opening_facts a laws t, opening_order a laws t) run).1

module _ {L : Type 0} (a : Algebra L) (t : Setting) where
  counts_cond : (s : State L) (b : Bool) (x y : Outcome L) → is_full a t s ≡ b → Counts t x.state → (is_full a t s ≡ false → Counts t y.state) → Counts t (cond b x y).state
  counts_cond s true x y e p q = p
  counts_cond s false x y e p q = q e

  counts_logged : (s : State L) (e : Entry) (nodes : List (NodeOf L)) (r : TableReply) → Counts t s → length nodes ≤ length s.nodes + 1 → is_full a t s ≡ false
      → Counts t (logged a t s e nodes r).state
  counts_logged s e nodes r c h f =
      let more : length (s.log ++ e ∷ []) ≡ length s.log + 1 = length-append s.log (e ∷ []) in
      let room : length s.log < t.budget = leb-false t.budget (length s.log) f in
      let few : length s.nodes ≤ length t.graph.vertices + length s.log = c.few in
      record { few = omega arith; within = omega arith }

  counts_takes : (s : State L) (w k : ℕ) → Counts t s → is_full a t s ≡ false → Counts t (takes a t s w k).state
  counts_takes s w k c f = counts_logged s (record { worker = w; step = Take }) (changed k (λ (n : NodeOf L). record n { state = TakenBy w }) s.nodes) (Taken k) c
      (let h : length (changed k (λ (n : NodeOf L). record n { state = TakenBy w }) s.nodes) ≡ length s.nodes = length-changed k _ s.nodes in omega arith) f

  counts_either : (b : Bool) (x y : Outcome L) → Counts t x.state → Counts t y.state → Counts t (cond b x y).state
  counts_either true x y p q = p
  counts_either false x y p q = q

  counts_taken : (s : State L) (w : ℕ) (p o : Option ℕ) → Counts t s → Counts t (taken a t s w p o).state
  counts_taken s w None None c = c
  counts_taken s w None (Some h) c = counts_either (is_full a t s) _ _ c c
  counts_taken s w (Some k) None c = counts_cond s (is_full a t s) _ _ refl c (λ f. counts_takes s w k c f)
  counts_taken s w (Some k) (Some h) c = counts_cond s (is_full a t s) _ _ refl c
      (λ f. counts_either (nat_lt (offset_at a t s.nodes k) (offset_at a t s.nodes h + separation t)) (takes a t s w k) (unchanged a t s (Busy h)) (counts_takes s w k c f) c)

  length-added : (nodes : List (NodeOf L)) (id : ℕ) (l : L) → length (added a t nodes id l) ≡ length nodes + 1
  length-added nodes id l = length-append (map (drop_by a t l (length nodes)) nodes) (fresh l (Some id) ∷ []) ∙ ap (λ k. k + 1) (length-map nodes (drop_by a t l (length nodes)))

  counts_compared : (s : State L) (e : Entry) (nodes : List (NodeOf L)) (id : ℕ) (l : L) (o : Option ℕ) → length nodes ≡ length s.nodes → Counts t s
      → is_full a t s ≡ false → Counts t (compared a t s e nodes id l o).state
  counts_compared s e nodes id l None h c f = counts_logged s e (added a t nodes id l) (Added (length nodes)) c
      (let g : length (added a t nodes id l) ≡ length nodes + 1 = length-added nodes id l in omega arith) f
  counts_compared s e nodes id l (Some k) h c f = counts_logged s e nodes (Dominated k) c (omega arith) f

  counts_ranged : (s : State L) (e : Entry) (id : ℕ) (l : L) (b : Bool) → Counts t s → is_full a t s ≡ false
      → Counts t (cond b (compared a t s e (counted a t id s.nodes) id l (first (dominating a t l) (counted a t id s.nodes))) (logged a t s e (counted a t id s.nodes) OutOfRange)).state
  counts_ranged s e id l true c f = counts_compared s e (counted a t id s.nodes) id l (first (dominating a t l) (counted a t id s.nodes))
      (length-changed id (λ (n : NodeOf L). record n { offered = n.offered + 1 }) s.nodes) c f
  counts_ranged s e id l false c f = counts_logged s e (counted a t id s.nodes) OutOfRange c
      (let h : length (counted a t id s.nodes) ≡ length s.nodes = length-changed id (λ (n : NodeOf L). record n { offered = n.offered + 1 }) s.nodes in omega arith) f

  counts_offered_at : (s : State L) (e : Entry) (id k : ℕ) (o : Option (NodeOf L)) → Counts t s → is_full a t s ≡ false → Counts t (offered_at a t s e id k o).state
  counts_offered_at s e id k None c f = c
  counts_offered_at s e id k (Some n) c f = counts_ranged s e id (extended a t n.label k) (in_range a t (extended a t n.label k)) c f

  pub step_counts : (s : State L) (w : ℕ) (step : TableStep) → Counts t s → Counts t (step_of a t s w step).state
  step_counts s w Take c = counts_taken s w (next a t s.nodes) (holder a t s.nodes) c
  step_counts s w (Offer id k) c = counts_cond s (is_full a t s) _ _ refl c (λ f. counts_offered_at s (record { worker = w; step = Offer id k }) id k (slice_get s.nodes id) c f)
  step_counts s w (Close id) c = counts_cond s (is_full a t s) _ _ refl c
      (λ f. counts_logged s (record { worker = w; step = Close id }) (changed id (λ (n : NodeOf L). record n { state = Done }) s.nodes) Closed c
      (let h : length (changed id (λ (n : NodeOf L). record n { state = Done }) s.nodes) ≡ length s.nodes = length-changed id _ s.nodes in omega arith) f)

  pub run_counts : (es : List Entry) → Counts t (replay a t es)
  run_counts es = replay_keeps (after a t) (Counts t) (λ s e c. step_counts s e.worker e.step c) es (opening_state a t)
      (record { few = let h : length (opening_nodes a t 0 (length t.graph.vertices)) ≤ length t.graph.vertices = opening_few a t (length t.graph.vertices) 0 in omega arith; within = omega arith })

  -- a run that goes on
  pub replay_more : (es : List Entry) (e : Entry) → replay a t (es ++ e ∷ []) ≡ (step_of a t (replay a t es) e.worker e.step).state
  replay_more es e = replay_join (after a t) es (e ∷ []) (opening_state a t)

  pub run_more : (es : List Entry) (e : Entry) → IsRun a t es → CanStep a t (replay a t es) e.worker e.step
      → ((step_of a t (replay a t es) e.worker e.step).state.log ≡ (replay a t es).log ++ e ∷ []) → IsRun a t (es ++ e ∷ [])
  run_more es e run can log = run_join (after a t) (CanEnter a t) (λ (s : State L). s.log) es (e ∷ []) (opening_state a t) run (can, log, tt)
