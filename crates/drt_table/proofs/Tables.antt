-- Tables as values: what their invariant gives, and their steps.
use Rattle.std.proofs.Common.{◌≡◌, ℕ, ◌+◌, ◌<◌, ◌≤◌, ◌⊎◌, ◌^◌, Bool, true, false, cond, Option, Some, None, List, [], ◌∷◌, ◌++◌, length, map, refl, sym, ap, ◌∙◌, subst, inl, inr, arith}
use Rattle.std.specs.Prelude.{slice_get, IsTrue, option_map, is_none, is_some, not, nat_lt, ◌&&◌}
use Rattle.std.proofs.lemmas.Bool.{le-leb, lt-leb}
use Rattle.std.proofs.lemmas.List.{length-map, map-append}
use Rattle.std.proofs.lemmas.Option.{none-some, same_Some, slice_get-map, slice_get_within}
use Rattle.drt_effort.specs.Efforts.{most_budget}
use Rattle.drt_model.specs.Numbers.{most_time}
use Rattle.drt_label.specs.Algebra.{Algebra, Laws}
use Rattle.drt_model.specs.Digraph.{Digraph, IsSoundGraph, vertex_of, edge_of, out_degree}
use Rattle.drt_table.specs.Node.{NodeOf, Held, is_kept, is_node_pending, is_taken, is_taken_state, fresh}
use Rattle.drt_table.specs.declared.node.NodeState.TheVariants.{Taken as TakenBy, Done}
use Rattle.drt_table.specs.declared.step.TableStep.{TableStep}
use Rattle.drt_table.specs.declared.step.TableStep.TheVariants.{Take, Offer, Close}
use Rattle.drt_table.specs.declared.step.TableReply.{TableReply}
use Rattle.drt_table.specs.declared.step.TableReply.TheVariants.{Taken, Busy, Added, OutOfRange, Closed, Spent}
use Rattle.drt_table.specs.declared.step.Entry.{Entry}
use Rattle.drt_worklist.specs.Places.{first, changed}
use Rattle.drt_table.specs.Earliest.{earliest}
use Rattle.drt_table.specs.Taking.{take_reply, taken_node, offset_of, is_soon}
use Rattle.drt_table.specs.Machine.{Setting, State, Outcome, separation, in_range, extended, is_full, unchanged, logged, offset, offset_in, offset_at, next, holder}
use Rattle.drt_table.specs.Machine.{takes, taken, drop_by, dominating, added, compared, counted, offered, offered_at, step_of, CanStep, Holds, replay, IsRun, is_finished}
use Rattle.drt_table.specs.Facts.{Facts}
use Rattle.drt_table.specs.Links.{AreAlone}
use Rattle.drt_table.specs.Held.{AllOf, held_offset, take_by, count_offer, close_node, hand_out, dominates_held, drop_held, compared_nodes, compared_reply, placed_nodes, placed_reply}
use Rattle.drt_table.specs.View.{View, setting_of, state_of, IsTable, spares_of, spares_after, CanApply, outcome, IsTableStep}
use Rattle.drt_table.proofs.Earliest.{earliest-map}
use Rattle.drt_worklist.proofs.Lists.{Before, before_change, get_within}
use Rattle.drt_worklist.proofs.Views.{first-map, map-changed, map-changed_same, map-map_with, map-map_same}
use Rattle.drt_table.proofs.Walks.{walk_of, walk_vertex, walk_within, walk_range, extended_vertex}
use Rattle.drt_table.specs.Walk.{IsWalkLabel}
use Rattle.drt_table.proofs.Runs.{Counts, run_keeps, run_counts, replay_more, run_more}

module _ {L : Type 0} (a : Algebra L) (laws : Laws a) (v : View L) (is : IsTable a v) where
  pub facts_of : Facts a (setting_of v) (state_of v).nodes
  facts_of = subst (λ (s : State L). Facts a (setting_of v) s.nodes) (sym is.state) (run_keeps a laws (setting_of v) v.log is.run)

  pub counts_of : Counts (setting_of v) (state_of v)
  counts_of = subst (λ (s : State L). Counts (setting_of v) s) (sym is.state) (run_counts a (setting_of v) v.log)

  pub nodes_few : length v.nodes ≤ length v.graph.vertices + length v.log
  nodes_few =
      let h : length (state_of v).nodes ≤ length v.graph.vertices + length v.log = counts_of.few in
      let e : length (state_of v).nodes ≡ length v.nodes = length-map v.nodes (λ h. h.node) in
      omega arith

  pub log_within : length v.log ≤ v.budget
  log_within = counts_of.within

  pub nodes_small : length v.nodes < 2 ^ 32
  nodes_small =
      let h : length v.nodes ≤ length v.graph.vertices + length v.log = nodes_few in
      let g : length v.log ≤ v.budget = log_within in
      let b : v.budget ≤ most_budget = is.budget in
      let few : length v.graph.vertices ≤ 96 = is.sound.few in
      omega arith

  pub at_node : (k : ℕ) (h : Held L) → slice_get v.nodes k ≡ Some h → slice_get (state_of v).nodes k ≡ Some h.node
  at_node k h at = slice_get-map (λ (x : Held L). x.node) v.nodes k ∙ ap (λ o. option_map (λ (x : Held L). x.node) o) at

  pub labels_of : AllOf (λ (h : Held L). IsTrue (a.is_of h.node.label v.bound)) v.nodes
  labels_of k h at = let w = facts_of.walks k h.node (at_node k h at) in walk_of a laws (setting_of v) is.bound w.0 w.1 h.node.label w.2

  pub offered_few : (k : ℕ) (h : Held L) → slice_get v.nodes k ≡ Some h → h.node.offered ≤ out_degree v.graph (a.vertex h.node.label)
  offered_few k h at = facts_of.offered k h.node (at_node k h at)

state_eq : {L : Type 0} (ns ms : List (NodeOf L)) (log gol : List Entry) → ns ≡ ms → log ≡ gol → ◌≡◌ {A = State L} (record { nodes = ns; log = log }) (record { nodes = ms; log = gol })
state_eq ns ms log gol p q = ap (λ xs. record { nodes = xs; log = log }) p ∙ ap (λ es. record { nodes = ms; log = es }) q

module _ {L : Type 0} (a : Algebra L) (v : View L) where
  full : v.budget ≤ length v.log → is_full a (setting_of v) (state_of v) ≡ true
  full h = le-leb v.budget (length v.log) h

  not_full : length v.log < v.budget → is_full a (setting_of v) (state_of v) ≡ false
  not_full h = lt-leb v.budget (length v.log) h

  -- a step that changes nothing
  unchanged_step : (w : ℕ) (step : TableStep) (r : TableReply) → outcome a v w step ≡ unchanged a (setting_of v) (state_of v) r
      → spares_after r (spares_of v) ≡ spares_of v → IsTableStep a v v w step r
  unchanged_step w step r e s = record { setting = refl; state = ap (λ (o : Outcome L). o.state) (sym e); reply_is = ap (λ (o : Outcome L). o.reply) (sym e); spares = sym s }

  -- a step that is logged
  logged_step : (new : View L) (w : ℕ) (step : TableStep) (r : TableReply) (ns : List (NodeOf L)) → setting_of new ≡ setting_of v
      → map (λ (h : Held L). h.node) new.nodes ≡ ns → new.log ≡ v.log ++ record { worker = w; step = step } ∷ []
      → outcome a v w step ≡ logged a (setting_of v) (state_of v) (record { worker = w; step = step }) ns r → spares_of new ≡ spares_after r (spares_of v) → IsTableStep a v new w step r
  logged_step new w step r ns set nodes log e s = record {
    setting = set;
    state = state_eq (map (λ (h : Held L). h.node) new.nodes) ns new.log (v.log ++ record { worker = w; step = step } ∷ []) nodes log ∙ ap (λ (o : Outcome L). o.state) (sym e);
    reply_is = ap (λ (o : Outcome L). o.reply) (sym e);
    spares = s;
  }

  pub offer_spent : (w id k : ℕ) → v.budget ≤ length v.log → IsTableStep a v v w (Offer id k) Spent
  offer_spent w id k h = unchanged_step w (Offer id k) Spent
      (ap (λ b. cond b (unchanged a (setting_of v) (state_of v) Spent)
      (offered_at a (setting_of v) (state_of v) (record { worker = w; step = Offer id k }) id k (slice_get (state_of v).nodes id))) (full h)) refl

  pub close_spent : (w id : ℕ) → v.budget ≤ length v.log → IsTableStep a v v w (Close id) Spent
  close_spent w id h = unchanged_step w (Close id) Spent
      (ap (λ b. cond b (unchanged a (setting_of v) (state_of v) Spent)
      (logged a (setting_of v) (state_of v) (record { worker = w; step = Close id })
      (changed id (λ n. record n { state = Done }) (state_of v).nodes) Closed)) (full h)) refl

  pub close_closed : (new : View L) (w id : ℕ) → setting_of new ≡ setting_of v → new.nodes ≡ changed id close_node v.nodes
      → new.log ≡ v.log ++ record { worker = w; step = Close id } ∷ [] → length v.log < v.budget → IsTableStep a v new w (Close id) Closed
  close_closed new w id set nodes log h =
      let ns : List (NodeOf L) = changed id (λ (n : NodeOf L). record n { state = Done }) (state_of v).nodes in
      logged_step new w (Close id) Closed ns set
      (ap (λ xs. map (λ (x : Held L). x.node) xs) nodes ∙ map-changed (λ (x : Held L). x.node) close_node (λ (n : NodeOf L). record n { state = Done }) (λ _. refl) id v.nodes)
      log
      (ap (λ b. cond b (unchanged a (setting_of v) (state_of v) Spent) (logged a (setting_of v) (state_of v) (record { worker = w; step = Close id }) ns Closed)) (not_full h))
      (ap (λ xs. map (λ (x : Held L). x.spare) xs) nodes ∙ map-changed_same (λ (x : Held L). x.spare) close_node (λ _. refl) id v.nodes)

  -- the step Take, by its reply
  abbrev after_reply : State L → ℕ → TableReply → Option ℕ → Outcome L
  after_reply s w r (Some k) = takes a (setting_of v) s w k
  after_reply s w r None = unchanged a (setting_of v) s r

  abbrev soon_for : State L → Option ℕ → Option ℕ → Bool
  soon_for s None o = false
  soon_for s (Some k) None = true
  soon_for s (Some k) (Some h) = nat_lt (offset_at a (setting_of v) s.nodes k) (offset_at a (setting_of v) s.nodes h + separation (setting_of v))

  taken_is : (s : State L) (w : ℕ) (p o : Option ℕ) (b c : Bool) → is_full a (setting_of v) s ≡ b → soon_for s p o ≡ c
      → taken a (setting_of v) s w p o ≡ after_reply s w (take_reply p o b c) (taken_node (take_reply p o b c))
  taken_is s w None None b c e f = refl
  taken_is s w None (Some h) true c e f = ap (λ x. cond x (unchanged a (setting_of v) s Spent) (unchanged a (setting_of v) s (Busy h))) e
  taken_is s w None (Some h) false c e f = ap (λ x. cond x (unchanged a (setting_of v) s Spent) (unchanged a (setting_of v) s (Busy h))) e
  taken_is s w (Some k) None true c e f = ap (λ x. cond x (unchanged a (setting_of v) s Spent) (takes a (setting_of v) s w k)) e
  taken_is s w (Some k) None false c e f = ap (λ x. cond x (unchanged a (setting_of v) s Spent) (takes a (setting_of v) s w k)) e
  taken_is s w (Some k) (Some h) true c e f =
      ap (λ x. cond x (unchanged a (setting_of v) s Spent) (cond (soon_for s (Some k) (Some h)) (takes a (setting_of v) s w k) (unchanged a (setting_of v) s (Busy h)))) e
  taken_is s w (Some k) (Some h) false true e f =
      ap (λ x. cond x (unchanged a (setting_of v) s Spent) (cond (soon_for s (Some k) (Some h)) (takes a (setting_of v) s w k) (unchanged a (setting_of v) s (Busy h)))) e
      ∙ ap (λ x. cond x (takes a (setting_of v) s w k) (unchanged a (setting_of v) s (Busy h))) f
  taken_is s w (Some k) (Some h) false false e f =
      ap (λ x. cond x (unchanged a (setting_of v) s Spent) (cond (soon_for s (Some k) (Some h)) (takes a (setting_of v) s w k) (unchanged a (setting_of v) s (Busy h)))) e
      ∙ ap (λ x. cond x (takes a (setting_of v) s w k) (unchanged a (setting_of v) s (Busy h))) f

  offset_same : (o : Option (Held L)) → offset_in a (setting_of v) (option_map (λ (h : Held L). h.node) o) ≡ offset_of a v.nodes (separation (setting_of v)) o
  offset_same None = refl
  offset_same (Some h) = refl

  offset_at_same : (k : ℕ) → offset_at a (setting_of v) (state_of v).nodes k ≡ offset_of a v.nodes (separation (setting_of v)) (slice_get v.nodes k)
  offset_at_same k = ap (λ o. offset_in a (setting_of v) o) (slice_get-map (λ (h : Held L). h.node) v.nodes k) ∙ offset_same (slice_get v.nodes k)

  soon_same : (p o : Option ℕ) → soon_for (state_of v) p o ≡ is_soon a v.nodes (separation (setting_of v)) p o
  soon_same None o = refl
  soon_same (Some k) None = refl
  soon_same (Some k) (Some h) =
      ap (λ m. nat_lt m (offset_at a (setting_of v) (state_of v).nodes h + separation (setting_of v))) (offset_at_same k)
      ∙ ap (λ m. nat_lt (offset_of a v.nodes (separation (setting_of v)) (slice_get v.nodes k)) (m + separation (setting_of v))) (offset_at_same h)

  -- what the code found before it takes
  pub record Found-for-take (p o : Option ℕ) (b c : Bool) (r : TableReply) : Type 0 where
    pub next_is : p ≡ earliest (λ (h : Held L). is_node_pending h.node) (held_offset a) v.nodes
    pub holder_is : o ≡ earliest (λ (h : Held L). is_taken h.node) (held_offset a) v.nodes
    pub full : is_full a (setting_of v) (state_of v) ≡ b
    pub soon : c ≡ is_soon a v.nodes (separation (setting_of v)) p o
    pub reply : r ≡ take_reply p o b c

  take_outcome : (w : ℕ) (p o : Option ℕ) (b c : Bool) (r : TableReply) → Found-for-take p o b c r → outcome a v w Take ≡ after_reply (state_of v) w r (taken_node r)
  take_outcome w p o b c r f =
      ap (λ x. taken a (setting_of v) (state_of v) w x (holder a (setting_of v) (state_of v).nodes))
      (earliest-map is_node_pending (offset a (setting_of v)) (λ (h : Held L). h.node) v.nodes ∙ sym f.next_is)
      ∙ (ap (λ x. taken a (setting_of v) (state_of v) w p x) (earliest-map is_taken (offset a (setting_of v)) (λ (h : Held L). h.node) v.nodes ∙ sym f.holder_is)
      ∙ (taken_is (state_of v) w p o b c f.full (soon_same p o ∙ sym f.soon)
      ∙ ap (λ q. after_reply (state_of v) w q (taken_node q)) (sym f.reply)))

  no_spare : (r : TableReply) (spares : List Bool) → taken_node r ≡ None → (p o : Option ℕ) (b c : Bool) → r ≡ take_reply p o b c → spares_after r spares ≡ spares
  no_spare r spares e p o b c h = ap (λ q. spares_after q spares) h ∙ at_reply p o b c
    where
      at_reply : (p o : Option ℕ) (b c : Bool) → spares_after (take_reply p o b c) spares ≡ spares
      at_reply None None b c = refl
      at_reply None (Some h) true c = refl
      at_reply None (Some h) false c = refl
      at_reply (Some k) None true c = refl
      at_reply (Some k) None false c = refl
      at_reply (Some k) (Some h) true c = refl
      at_reply (Some k) (Some h) false true = refl
      at_reply (Some k) (Some h) false false = refl

  pub take_same : (w : ℕ) (p o : Option ℕ) (b c : Bool) (r : TableReply) → Found-for-take p o b c r → taken_node r ≡ None → IsTableStep a v v w Take r
  take_same w p o b c r f e = unchanged_step w Take r (take_outcome w p o b c r f ∙ ap (λ n. after_reply (state_of v) w r n) e) (no_spare r (spares_of v) e p o b c f.reply)

  pub take_taken : (new : View L) (w k : ℕ) (p o : Option ℕ) (b c : Bool) (r : TableReply) → Found-for-take p o b c r → taken_node r ≡ Some k
      → setting_of new ≡ setting_of v → new.nodes ≡ changed k (take_by w) v.nodes → new.log ≡ v.log ++ record { worker = w; step = Take } ∷ [] → IsTableStep a v new w Take (Taken k)
  take_taken new w k p o b c r f e set nodes log =
      let ns : List (NodeOf L) = changed k (λ (n : NodeOf L). record n { state = TakenBy w }) (state_of v).nodes in
      logged_step new w Take (Taken k) ns set
      (ap (λ xs. map (λ (x : Held L). x.node) xs) nodes ∙ map-changed (λ (x : Held L). x.node) (take_by w) (λ (n : NodeOf L). record n { state = TakenBy w }) (λ _. refl) k v.nodes)
      log
      (take_outcome w p o b c r f ∙ ap (λ n. after_reply (state_of v) w r n) e)
      (ap (λ xs. map (λ (x : Held L). x.spare) xs) nodes ∙ map-changed_same (λ (x : Held L). x.spare) (take_by w) (λ _. refl) k v.nodes)

  -- the log has room where a node is taken
  pub taken_room : (p o : Option ℕ) (b c : Bool) (r : TableReply) (k : ℕ) → Found-for-take p o b c r → taken_node r ≡ Some k → b ≡ false
  taken_room p o b c r k f e = at_reply p o b c (ap taken_node (sym f.reply) ∙ e)
    where
      at_reply : (p o : Option ℕ) (b c : Bool) → taken_node (take_reply p o b c) ≡ Some k → b ≡ false
      at_reply p o false c h = refl
      at_reply None None true c h = absurd (none-some k h)
      at_reply None (Some j) true c h = absurd (none-some k h)
      at_reply (Some i) None true c h = absurd (none-some k h)
      at_reply (Some i) (Some j) true c h = absurd (none-some k h)

  pub taken_next : (p o : Option ℕ) (b c : Bool) (r : TableReply) (k : ℕ) → Found-for-take p o b c r → taken_node r ≡ Some k → Some k ≡ p
  taken_next p o b c r k f e = at_reply p o b c (ap taken_node (sym f.reply) ∙ e)
    where
      at_reply : (p o : Option ℕ) (b c : Bool) → taken_node (take_reply p o b c) ≡ Some k → Some k ≡ p
      at_reply None None b c h = absurd (none-some k h)
      at_reply None (Some j) true c h = absurd (none-some k h)
      at_reply None (Some j) false c h = absurd (none-some k h)
      at_reply (Some i) None true c h = absurd (none-some k h)
      at_reply (Some i) None false c h = sym h
      at_reply (Some i) (Some j) true c h = absurd (none-some k h)
      at_reply (Some i) (Some j) false true h = sym h
      at_reply (Some i) (Some j) false false h = absurd (none-some k h)

  -- an offer
  drop_node : (l : L) (n : ℕ) (h : Held L) (b : Bool)
      → (cond b (record h { node = record h.node { dropped_by = Some n; state = Done } }) h).node ≡ cond b (record h.node { dropped_by = Some n; state = Done }) h.node
  drop_node l n h true = refl
  drop_node l n h false = refl

  drop_spare : (n : ℕ) (h : Held L) (b : Bool) → (cond b (record h { node = record h.node { dropped_by = Some n; state = Done } }) h).spare ≡ h.spare
  drop_spare n h true = refl
  drop_spare n h false = refl

module _ {L : Type 0} (a : Algebra L) (v : View L) (w id k : ℕ) (l : L) where
  -- the nodes with the label added, as the machine sees them
  added-node : (xs : List (Held L)) → map (λ (h : Held L). h.node) (compared_nodes a l id xs None) ≡ added a (setting_of v) (map (λ (h : Held L). h.node) xs) id l
  added-node xs =
      map-append (λ (h : Held L). h.node) (map (drop_held a l (length xs)) xs) (record { node = fresh l (Some id); spare = true } ∷ [])
      ∙ (ap (λ ys. ys ++ fresh l (Some id) ∷ []) (map-map_with (λ (h : Held L). h.node) (drop_held a l (length xs)) (drop_by a (setting_of v) l (length xs))
      (λ h. drop_node a v l (length xs) h (is_kept h.node && a.dominates l h.node.label)) xs)
      ∙ ap (λ n. map (drop_by a (setting_of v) l n) (map (λ (h : Held L). h.node) xs) ++ fresh l (Some id) ∷ []) (sym (length-map xs (λ (h : Held L). h.node))))

  added-spare : (xs : List (Held L)) → map (λ (h : Held L). h.spare) (compared_nodes a l id xs None) ≡ map (λ (h : Held L). h.spare) xs ++ true ∷ []
  added-spare xs =
      map-append (λ (h : Held L). h.spare) (map (drop_held a l (length xs)) xs) (record { node = fresh l (Some id); spare = true } ∷ [])
      ∙ ap (λ ys. ys ++ true ∷ []) (map-map_same (λ (h : Held L). h.spare) (drop_held a l (length xs)) (λ h. drop_spare a v (length xs) h (is_kept h.node && a.dominates l h.node.label)) xs)

  logged_eq : (e : Entry) (ns ms : List (NodeOf L)) (r q : TableReply) → ns ≡ ms → r ≡ q → logged a (setting_of v) (state_of v) e ns r ≡ logged a (setting_of v) (state_of v) e ms q
  logged_eq e ns ms r q p h = ap (λ x. logged a (setting_of v) (state_of v) e x r) p ∙ ap (λ x. logged a (setting_of v) (state_of v) e ms x) h

  placed_outcome : (e : Entry) (xs : List (Held L)) (b : Bool) (o : Option ℕ)
      → cond b (compared a (setting_of v) (state_of v) e (map (λ (h : Held L). h.node) xs) id l o) (logged a (setting_of v) (state_of v) e (map (λ (h : Held L). h.node) xs) OutOfRange)
      ≡ logged a (setting_of v) (state_of v) e (map (λ (h : Held L). h.node) (cond b (compared_nodes a l id xs o) xs)) (cond b (compared_reply xs o) OutOfRange)
  placed_outcome e xs false o = refl
  placed_outcome e xs true (Some j) = refl
  placed_outcome e xs true None = logged_eq e _ _ _ _ (sym (added-node xs)) (ap (λ n. Added n) (length-map xs (λ (h : Held L). h.node)))

  placed_spares : (xs : List (Held L)) (b : Bool) (o : Option ℕ)
      → map (λ (h : Held L). h.spare) (cond b (compared_nodes a l id xs o) xs) ≡ spares_after (cond b (compared_reply xs o) OutOfRange) (map (λ (h : Held L). h.spare) xs)
  placed_spares xs false o = refl
  placed_spares xs true (Some j) = refl
  placed_spares xs true None = added-spare xs

  pub offer_placed : (new : View L) (x : Held L) (deadline : ℕ) (r : TableReply)
      → slice_get v.nodes id ≡ Some x → l ≡ extended a (setting_of v) x.node.label k → deadline ≡ (vertex_of v.graph (a.vertex l)).deadline
      → setting_of new ≡ setting_of v
      → new.nodes ≡ placed_nodes a l id deadline v.bound (changed id count_offer v.nodes)
      → r ≡ placed_reply a l deadline v.bound (changed id count_offer v.nodes)
      → new.log ≡ v.log ++ record { worker = w; step = Offer id k } ∷ [] → length v.log < v.budget
      → IsTableStep a v new w (Offer id k) r
  offer_placed new x deadline r at l_is d_is set nodes r_is log h =
      let t = setting_of v in
      let s = state_of v in
      let e : Entry = record { worker = w; step = Offer id k } in
      let xs : List (Held L) = changed id count_offer v.nodes in
      let node = λ (y : Held L). y.node in
      let spare = λ (y : Held L). y.spare in
      let counted_is : counted a t id s.nodes ≡ map node xs = sym (map-changed node count_offer (λ (n : NodeOf L). record n { offered = n.offered + 1 }) (λ _. refl) id v.nodes) in
      let b : Bool = a.in_range l deadline v.bound in
      let o : Option ℕ = first (dominates_held a l) xs in
      let ns : List (NodeOf L) = map node (cond b (compared_nodes a l id xs o) xs) in
      let q : TableReply = cond b (compared_reply xs o) OutOfRange in
      let at_node : slice_get s.nodes id ≡ Some x.node = slice_get-map node v.nodes id ∙ ap (λ y. option_map node y) at in
      let step_1 : outcome a v w (Offer id k) ≡ offered_at a t s e id k (slice_get s.nodes id) =
      ap (λ y. cond y (unchanged a t s Spent) (offered_at a t s e id k (slice_get s.nodes id))) (not_full a v h) in
      let step_2 : offered_at a t s e id k (slice_get s.nodes id) ≡ offered a t s e id (extended a t x.node.label k) = ap (λ y. offered_at a t s e id k y) at_node in
      let step_3 : offered a t s e id (extended a t x.node.label k) ≡ offered a t s e id l = ap (λ y. offered a t s e id y) (sym l_is) in
      let step_4 : offered a t s e id l ≡ cond (in_range a t l) (compared a t s e (map node xs) id l (first (dominating a t l) (map node xs))) (logged a t s e (map node xs) OutOfRange) =
      ap (λ ys. cond (in_range a t l) (compared a t s e ys id l (first (dominating a t l) ys)) (logged a t s e ys OutOfRange)) counted_is in
      let step_5 : cond (in_range a t l) (compared a t s e (map node xs) id l (first (dominating a t l) (map node xs))) (logged a t s e (map node xs) OutOfRange)
      ≡ cond b (compared a t s e (map node xs) id l (first (dominating a t l) (map node xs))) (logged a t s e (map node xs) OutOfRange) =
      ap (λ d. cond (a.in_range l d v.bound) (compared a t s e (map node xs) id l (first (dominating a t l) (map node xs))) (logged a t s e (map node xs) OutOfRange)) (sym d_is) in
      let step_6 : cond b (compared a t s e (map node xs) id l (first (dominating a t l) (map node xs))) (logged a t s e (map node xs) OutOfRange)
      ≡ cond b (compared a t s e (map node xs) id l o) (logged a t s e (map node xs) OutOfRange) =
      ap (λ y. cond b (compared a t s e (map node xs) id l y) (logged a t s e (map node xs) OutOfRange)) (first-map (dominating a t l) node xs) in
      let whole : outcome a v w (Offer id k) ≡ logged a t s e ns q = step_1 ∙ (step_2 ∙ (step_3 ∙ (step_4 ∙ (step_5 ∙ (step_6 ∙ placed_outcome e xs b o))))) in
      let spares : spares_of new ≡ spares_after q (spares_of v) =
      ap (λ ys. map spare ys) nodes ∙ (placed_spares xs b o ∙ ap (λ ys. spares_after q ys) (map-changed_same spare count_offer (λ _. refl) id v.nodes)) in
      subst (λ (y : TableReply). IsTableStep a v new w (Offer id k) y) (sym r_is)
      (logged_step a v new w (Offer id k) q ns set (ap (λ ys. map node ys) nodes) log whole spares)

-- a logged step keeps the invariant
pub table_more : {L : Type 0} (a : Algebra L) (old new : View L) (w : ℕ) (step : TableStep) (r : TableReply) → IsTable a old → CanApply a old w step
    → IsTableStep a old new w step r → new.log ≡ old.log ++ record { worker = w; step = step } ∷ [] → IsTable a new
table_more {L} a old new w step r is can h log =
    let t : Setting = setting_of old in
    let e : Entry = record { worker = w; step = step } in
    let adds : (step_of a t (state_of old) w step).state.log ≡ old.log ++ e ∷ [] = ap (λ (s : State L). s.log) (sym h.state) ∙ log in
    let run : IsRun a t (old.log ++ e ∷ []) =
    run_more a t old.log e is.run
    (subst (λ (s : State L). CanStep a t s w step) is.state can)
    (subst (λ (s : State L). (step_of a t s w step).state.log ≡ s.log ++ e ∷ []) is.state adds) in
    let state : state_of new ≡ replay a t (old.log ++ e ∷ []) =
    h.state ∙ (ap (λ s. (step_of a t s w step).state) is.state ∙ sym (replay_more a t old.log e)) in
    record {
      sound = subst (λ (g : Digraph). IsSoundGraph g) (ap (λ (x : Setting). x.graph) (sym h.setting)) is.sound;
      bound = subst (λ (x : ℕ). IsTrue (a.takes_bound x)) (ap (λ (x : Setting). x.bound) (sym h.setting)) is.bound;
      budget = subst (λ (x : ℕ). x ≤ most_time) (ap (λ (x : Setting). x.budget) (sym h.setting)) is.budget;
      run = subst (λ (x : Setting). IsRun a x new.log) (sym h.setting) (subst (λ (es : List Entry). IsRun a t es) (sym log) run);
      state = subst (λ (x : Setting). state_of new ≡ replay a x new.log) (sym h.setting) (state ∙ ap (λ es. replay a t es) (sym log));
    }

module _ {L : Type 0} (a : Algebra L) (laws : Laws a) (v : View L) (is : IsTable a v) where
  -- an offer that the machine can make
  module _ (w id k : ℕ) (can : CanApply a v w (Offer id k)) (l : L) (comes : (n : NodeOf L) × (slice_get (state_of v).nodes id ≡ Some n) × (l ≡ extended a (setting_of v) n.label k)) where
    pub offer_within : id < length v.nodes
    offer_within =
        let h : id < length (state_of v).nodes = slice_get_within (state_of v).nodes id can.0 can.1.at in
        let e : length (state_of v).nodes ≡ length v.nodes = length-map v.nodes (λ h. h.node) in
        omega arith

    -- the node, its next edge and its vertex
    same_node : comes.0 ≡ can.0
    same_node = same_Some comes.0 can.0 (sym comes.1 ∙ can.1.at)

    walk : IsWalkLabel a (setting_of v) can.0.label
    walk = (facts_of a laws v is).walks id can.0 can.1.at

    vertex_is : a.vertex can.0.label ≡ walk.0
    vertex_is = walk_vertex a laws (setting_of v) walk.0 walk.1 can.0.label walk.2

    vertex_within : a.vertex can.0.label < length v.graph.vertices
    vertex_within = subst (λ (x : ℕ). x < length v.graph.vertices) (sym vertex_is) (walk_within a laws (setting_of v) is.sound walk.0 walk.1 can.0.label walk.2)

    label_is : l ≡ extended a (setting_of v) can.0.label k
    label_is = comes.2 ∙ ap (λ (n : NodeOf L). extended a (setting_of v) n.label k) same_node

    pub offer_vertex : a.vertex l < length v.graph.vertices
    offer_vertex =
        subst (λ (x : ℕ). x < length v.graph.vertices) (sym (ap a.vertex label_is ∙ extended_vertex a laws (setting_of v) can.0.label k))
        (is.sound.to (a.vertex can.0.label) k vertex_within can.3)

    pub offer_of : IsTrue (a.is_of l v.bound)
    offer_of =
        let e = edge_of v.graph (a.vertex can.0.label) k in
        subst (λ (x : L). IsTrue (a.is_of x v.bound)) (sym label_is)
        (laws.extended_of can.0.label e.sep e.to (vertex_of v.graph e.to).wcet v.bound (walk_of a laws (setting_of v) is.bound walk.0 walk.1 can.0.label walk.2))

    pub offer_few : (x : Held L) → slice_get v.nodes id ≡ Some x → x.node.offered < 1000
    offer_few x at =
        let e : can.0 ≡ x.node = same_Some can.0 x.node (sym can.1.at ∙ at_node a laws v is id x at) in
        let h : can.0.offered ≤ out_degree v.graph (a.vertex can.0.label) = (facts_of a laws v is).offered id can.0 can.1.at in
        let d : out_degree v.graph (a.vertex can.0.label) ≤ 256 = is.sound.degree (a.vertex can.0.label) vertex_within in
        subst (λ (n : NodeOf L). n.offered < 1000) e (omega arith)

    pub offer_label : (x : Held L) → slice_get v.nodes id ≡ Some x → l ≡ extended a (setting_of v) x.node.label k
    offer_label x at = label_is ∙ ap (λ (n : NodeOf L). extended a (setting_of v) n.label k) (same_Some can.0 x.node (sym can.1.at ∙ at_node a laws v is id x at))

    pub offer_all_of : AllOf (λ (h : Held L). IsTrue (a.is_of h.node.label v.bound)) (changed id count_offer v.nodes)
    offer_all_of j y h =
        let b : Before id count_offer v.nodes j y = before_change id count_offer v.nodes j y h in
        subst (λ (x : L). IsTrue (a.is_of x v.bound)) (sym (counted_label j y b b.is)) (labels_of a laws v is j b.old b.at)
      where
        counted_label : (j : ℕ) (y : Held L) (b : Before id count_offer v.nodes j y) → ((j ≡ id) × (y ≡ count_offer b.old)) ⊎ (y ≡ b.old) → y.node.label ≡ b.old.node.label
        counted_label j y b (inl p) = ap (λ (z : Held L). z.node.label) p.1
        counted_label j y b (inr q) = ap (λ (z : Held L). z.node.label) q

-- no kept node dominates another one, also after an offer is counted
pub offer_alone : {L : Type 0} (a : Algebra L) (laws : Laws a) (v : View L) → IsTable a v → (id : ℕ) → AreAlone a (changed id count_offer v.nodes)
offer_alone {L} a laws v is id i j g h at_i at_j kept_i kept_j dom = from (before_change id count_offer v.nodes i g at_i) (before_change id count_offer v.nodes j h at_j)
  where
    label : (k : ℕ) (y : Held L) (b : Before id count_offer v.nodes k y) → ((k ≡ id) × (y ≡ count_offer b.old)) ⊎ (y ≡ b.old)
        → (y.node.label ≡ b.old.node.label) × (y.node.dropped_by ≡ b.old.node.dropped_by)
    label k y b (inl p) = (ap (λ (z : Held L). z.node.label) p.1, ap (λ (z : Held L). z.node.dropped_by) p.1)
    label k y b (inr q) = (ap (λ (z : Held L). z.node.label) q, ap (λ (z : Held L). z.node.dropped_by) q)

    from : Before id count_offer v.nodes i g → Before id count_offer v.nodes j h → i ≡ j
    from b c =
        let p = label i g b b.is in
        let q = label j h c c.is in
        (facts_of a laws v is).alone i j b.old.node c.old.node
        (record { at = at_node a laws v is i b.old b.at; kept = ap (λ o. is_none o) (sym p.1) ∙ kept_i })
        (record { at = at_node a laws v is j c.old c.at; kept = ap (λ o. is_none o) (sym q.1) ∙ kept_j })
        (subst (λ l. IsTrue (a.dominates l c.old.node.label)) p.0 (subst (λ l. IsTrue (a.dominates g.node.label l)) q.0 dom))

-- whether the table is finished, by the next node and the holder
pub finished_is : {L : Type 0} (a : Algebra L) (v : View L) (p o : Option ℕ) → p ≡ earliest (λ (h : Held L). is_node_pending h.node) (held_offset a) v.nodes
    → o ≡ earliest (λ (h : Held L). is_taken h.node) (held_offset a) v.nodes → (is_none p && is_none o) ≡ is_finished a (setting_of v) (state_of v)
finished_is {L} a v p o e f =
    ap (λ x. is_none x && is_none o) (e ∙ sym (earliest-map is_node_pending (offset a (setting_of v)) (λ (h : Held L). h.node) v.nodes))
    ∙ ap (λ x. is_none (next a (setting_of v) (state_of v).nodes) && is_none x) (f ∙ sym (earliest-map is_taken (offset a (setting_of v)) (λ (h : Held L). h.node) v.nodes))

pub none_result : {A : Type 0} (o : Option A) (r : Bool) → is_some o ≡ not r → r ≡ is_none o
none_result None true e = refl
none_result None false e = absurd (cc)
none_result (Some x) true e = absurd (cc)
none_result (Some x) false e = refl

-- what is answered where both are looked at
pub finished_result : {L : Type 0} (a : Algebra L) (v : View L) (p o : Option ℕ) (b c : Bool)
    → p ≡ earliest (λ (h : Held L). is_node_pending h.node) (held_offset a) v.nodes → o ≡ earliest (λ (h : Held L). is_taken h.node) (held_offset a) v.nodes
    → is_some p ≡ not b → is_some o ≡ not c → (b && c) ≡ is_finished a (setting_of v) (state_of v)
finished_result a v p o b c e f b_is c_is =
    ap (λ x. x && c) (none_result p b b_is) ∙ (ap (λ x. is_none p && x) (none_result o c c_is) ∙ finished_is a v p o e f)

-- a spare that is handed out changes nothing that the machine sees
pub table_same_nodes : {L : Type 0} (a : Algebra L) (old new : View L) (id : ℕ) → IsTable a old → setting_of new ≡ setting_of old
    → new.nodes ≡ changed id hand_out old.nodes → new.log ≡ old.log → IsTable a new
table_same_nodes {L} a old new id is set nodes log =
    let same : state_of new ≡ state_of old =
    state_eq (map (λ (h : Held L). h.node) new.nodes) (map (λ (h : Held L). h.node) old.nodes) new.log old.log
    (ap (λ xs. map (λ (h : Held L). h.node) xs) nodes ∙ map-changed_same (λ (h : Held L). h.node) hand_out (λ _. refl) id old.nodes) log in
    record {
      sound = subst (λ (g : Digraph). IsSoundGraph g) (ap (λ (x : Setting). x.graph) (sym set)) is.sound;
      bound = subst (λ (x : ℕ). IsTrue (a.takes_bound x)) (ap (λ (x : Setting). x.bound) (sym set)) is.bound;
      budget = subst (λ (x : ℕ). x ≤ most_time) (ap (λ (x : Setting). x.budget) (sym set)) is.budget;
      run = subst (λ (x : Setting). IsRun a x new.log) (sym set) (subst (λ (es : List Entry). IsRun a (setting_of old) es) (sym log) is.run);
      state = subst (λ (x : Setting). state_of new ≡ replay a x new.log) (sym set) (same ∙ (is.state ∙ ap (λ es. replay a (setting_of old) es) (sym log)));
    }

module _ {L : Type 0} (a : Algebra L) (laws : Laws a) (v : View L) (is : IsTable a v) (id : ℕ) (h : Held L) (at : slice_get v.nodes id ≡ Some h) where
  pub node_walk : IsWalkLabel a (setting_of v) h.node.label
  node_walk = (facts_of a laws v is).walks id h.node (at_node a laws v is id h at)

  pub node_vertex : a.vertex h.node.label < length v.graph.vertices
  node_vertex =
      let w = node_walk in
      subst (λ (x : ℕ). x < length v.graph.vertices) (sym (walk_vertex a laws (setting_of v) w.0 w.1 h.node.label w.2)) (walk_within a laws (setting_of v) is.sound w.0 w.1 h.node.label w.2)

  pub node_extendable : IsTrue (a.is_extendable h.node.label)
  node_extendable =
      let w = node_walk in
      laws.extendable h.node.label (vertex_of v.graph (a.vertex h.node.label)).deadline v.bound
      (walk_of a laws (setting_of v) is.bound w.0 w.1 h.node.label w.2) (walk_range a laws (setting_of v) w.0 w.1 h.node.label w.2)

  pub node_holds : (w : ℕ) → h.node.state ≡ TakenBy w → Holds a (setting_of v) (state_of v) w id h.node
  node_holds w e = record { at = at_node a laws v is id h at; held = e }

  pub node_all : out_degree v.graph (a.vertex h.node.label) ≤ h.node.offered → h.node.offered ≡ out_degree v.graph (a.vertex h.node.label)
  node_all le = let ge : h.node.offered ≤ out_degree v.graph (a.vertex h.node.label) = offered_few a laws v is id h at in omega arith

-- a node that a worker holds, with its spare
pub held_at : {L : Type 0} (a : Algebra L) (laws : Laws a) (v : View L) → IsTable a v → (w id : ℕ) (n : NodeOf L) → Holds a (setting_of v) (state_of v) w id n
    → (h : Held L) × (slice_get v.nodes id ≡ Some h) × IsTrue (is_taken h.node)
held_at {L} a laws v is w id n holds =
    let lt : id < length v.nodes =
    (let h : id < length (state_of v).nodes = slice_get_within (state_of v).nodes id n holds.at in
    let e : length (state_of v).nodes ≡ length v.nodes = length-map v.nodes (λ h. h.node) in omega arith) in
    let x : (h : Held L) × (slice_get v.nodes id ≡ Some h) = get_within v.nodes id lt in
    let same : n ≡ x.0.node = same_Some n x.0.node (sym holds.at ∙ at_node a laws v is id x.0 x.1) in
    (x.0, x.1, ap (λ (m : NodeOf L). is_taken m) (sym same) ∙ ap is_taken_state holds.held)

pub offer_held : {L : Type 0} (a : Algebra L) (laws : Laws a) (v : View L) (is : IsTable a v) (w id k : ℕ) (can : CanApply a v w (Offer id k)) (l : L)
    (comes : (n : NodeOf L) × (slice_get (state_of v).nodes id ≡ Some n) × (l ≡ extended a (setting_of v) n.label k)) → (h : Held L) × (slice_get v.nodes id ≡ Some h) × (h.node.offered < 1000)
offer_held {L} a laws v is w id k can l comes =
    let x : (h : Held L) × (slice_get v.nodes id ≡ Some h) = get_within v.nodes id (offer_within a laws v is w id k can l comes) in
    (x.0, x.1, offer_few a laws v is w id k can l comes x.0 x.1)
