-- Tables whose pending nodes have their spares: a step and a label that is handed out keep them so.
use Rattle.std.proofs.Common.{◌≡◌, ℕ, zero, suc, ◌+◌, ◌<◌, ◌≤◌, Bool, true, Some, List, [], ◌∷◌, ◌++◌, length, refl, sym, ap, ◌∙◌, subst, ⊎_elim, arith}
use Rattle.std.specs.Prelude.{slice_get, IsTrue, option_map, replicate}
use Rattle.std.proofs.lemmas.List.{length-map}
use Rattle.std.proofs.lemmas.Option.{none-some, same_Some, slice_get-map, slice_get_within}
use Rattle.drt_effort.specs.Efforts.{most_budget}
use Rattle.drt_label.specs.Algebra.{Algebra, Laws}
use Rattle.drt_table.specs.Held.{hand_out}
use Rattle.drt_table.specs.Machine.{State, Outcome}
use Rattle.drt_table.specs.Node.{NodeOf, Held, is_node_pending, is_taken, is_pending_state, is_taken_state, is_held_by}
use Rattle.drt_table.specs.declared.node.NodeState.{NodeState}
use Rattle.drt_table.specs.declared.node.NodeState.TheVariants.{Pending, Taken as TakenBy, Done}
use Rattle.drt_table.specs.View.{View, IsTable, IsTableStep, setting_of, state_of, spares_of, spares_after, outcome}
use Rattle.drt_table.specs.declared.step.TableStep.{TableStep}
use Rattle.drt_table.specs.declared.step.TableReply.{TableReply}
use Rattle.drt_table.specs.declared.step.TableReply.TheVariants.{Taken, Busy, Finished, Added, Dominated, OutOfRange, Closed, Spent}
use Rattle.drt_table.proofs.Tables.{node_walk, node_vertex, labels_of, log_within}
use Rattle.drt_table.proofs.Walks.{walk_range}
use Rattle.drt_worklist.specs.Places.{first, changed}
use Rattle.drt_worklist.proofs.Lists.{Found as FoundAt, found, Before, before_change, get_within, after_join, after_end}
use Rattle.drt_shared.specs.TableBoard.{HasSpares, CanHandOut, HandsOut, IsLogged}
use Rattle.drt_shared.specs.Passes.{IsLabel}
use Rattle.drt_shared.specs.Replies.{logged_by, IsReplyOf}
use Rattle.drt_shared.proofs.Goes.{IsAdded, WaitsAt, Waited, TakesOne, Goes, goes}

module _ {L : Type 0} (v : View L) where
  pub node_at : (k : ℕ) (h : Held L) → slice_get v.nodes k ≡ Some h → slice_get (state_of v).nodes k ≡ Some h.node
  node_at k h at = slice_get-map (λ (x : Held L). x.node) v.nodes k ∙ ap (λ o. option_map (λ (x : Held L). x.node) o) at

  spare_at : (k : ℕ) (h : Held L) → slice_get v.nodes k ≡ Some h → slice_get (spares_of v) k ≡ Some h.spare
  spare_at k h at = slice_get-map (λ (x : Held L). x.spare) v.nodes k ∙ ap (λ o. option_map (λ (x : Held L). x.spare) o) at

  -- the node as the program has it
  pub held_node : (k : ℕ) (n : NodeOf L) → slice_get (state_of v).nodes k ≡ Some n → (h : Held L) × (slice_get v.nodes k ≡ Some h) × (h.node ≡ n)
  held_node k n at =
      let lt : k < length v.nodes = (let g : k < length (state_of v).nodes = slice_get_within (state_of v).nodes k n at in
      let e : length (state_of v).nodes ≡ length v.nodes = length-map v.nodes (λ h. h.node) in omega arith) in
      let x : (h : Held L) × (slice_get v.nodes k ≡ Some h) = get_within v.nodes k lt in
      (x.0, x.1, same_Some x.0.node n (sym (node_at k x.0 x.1) ∙ at))

  -- a node that waits has its spare
  waiting_spare : HasSpares v → (k : ℕ) → WaitsAt (state_of v).nodes k → slice_get (spares_of v) k ≡ Some true
  waiting_spare has k w =
      let x = held_node k w.0 w.1 in
      spare_at k x.0 x.1 ∙ ap (λ b. Some b) (has k x.0 x.1 (ap (λ (n : NodeOf L). is_node_pending n) x.2 ∙ w.2))

  counts_spares : length (spares_of v) ≡ length (state_of v).nodes
  counts_spares = length-map v.nodes (λ h. h.spare) ∙ sym (length-map v.nodes (λ h. h.node))

spare_stays : (r : TableReply) (spares : List Bool) (k : ℕ) → slice_get spares k ≡ Some true → slice_get (spares_after r spares) k ≡ Some true
spare_stays (Taken j) spares k e = e
spare_stays (Busy j) spares k e = e
spare_stays Finished spares k e = e
spare_stays (Added j) spares k e = after_join spares (true ∷ []) k true e
spare_stays (Dominated j) spares k e = e
spare_stays OutOfRange spares k e = e
spare_stays Closed spares k e = e
spare_stays Spent spares k e = e

spare_added : (r : TableReply) (spares : List Bool) (k : ℕ) → IsAdded r → k ≡ length spares → slice_get (spares_after r spares) k ≡ Some true
spare_added (Taken j) spares k added e = absurd added
spare_added (Busy j) spares k added e = absurd added
spare_added Finished spares k added e = absurd added
spare_added (Added j) spares k added e = ap (λ i. slice_get (spares ++ true ∷ []) i) (let g : k ≡ length spares + 0 = omega arith in g) ∙ after_end spares (true ∷ []) 0 true refl
spare_added (Dominated j) spares k added e = absurd added
spare_added OutOfRange spares k added e = absurd added
spare_added Closed spares k added e = absurd added
spare_added Spent spares k added e = absurd added

-- a log is never longer than the greatest budget
pub few_logged : {L : Type 0} (a : Algebra L) (laws : Laws a) (v : View L) → IsTable a v → length v.log ≤ most_budget
few_logged a laws v is = let l : length v.log ≤ v.budget = log_within a laws v is in let b : v.budget ≤ most_budget = is.budget in omega arith

module _ {L : Type 0} (a : Algebra L) (old new : View L) (w : ℕ) (step : TableStep) (reply : TableReply) (has : HasSpares old) (is : IsTableStep a old new w step reply) where
  abbrev gone : Outcome L
  gone = outcome a old w step

  went : Goes (state_of old) step gone
  went = goes a (setting_of old) (state_of old) w step

  spare_of : (k : ℕ) (h : Held L) → slice_get new.nodes k ≡ Some h → slice_get (spares_after reply (spares_of old)) k ≡ Some true → IsTrue h.spare
  spare_of k h at e = same_Some h.spare true (sym (spare_at new k h at) ∙ (ap (λ xs. slice_get xs k) is.spares ∙ e))

  pub step_spares : HasSpares new
  step_spares k h at waits =
      let n : slice_get gone.state.nodes k ≡ Some h.node = ap (λ (s : State L). slice_get s.nodes k) (sym is.state) ∙ node_at new k h at in
      let was : Waited (state_of old).nodes reply k = subst (λ r. Waited (state_of old).nodes r k) (sym is.reply_is) (went.waits k (h.node, n, waits)) in
      spare_of k h at (⊎_elim
      (λ (x : WaitsAt (state_of old).nodes k). spare_stays reply (spares_of old) k (waiting_spare old has k x))
      (λ (x : IsAdded reply × (k ≡ length (state_of old).nodes)). spare_added reply (spares_of old) k x.0 (x.1 ∙ sym (counts_spares old))) was)

  handed : (r : TableReply) → reply ≡ r → TakesOne (state_of old).nodes (state_of new).nodes r → HandsOut new r
  handed (Taken k) e x =
      let h = held_node new k x.1.0 x.1.1 in
      let stays : slice_get (spares_after reply (spares_of old)) k ≡ Some true = spare_stays reply (spares_of old) k (waiting_spare old has k x.0) in
      (h.0, h.1, spare_of k h.0 h.1 stays, ap (λ (n : NodeOf L). is_taken n) h.2 ∙ x.1.2)
  handed (Busy k) e x = tt
  handed Finished e x = tt
  handed (Added k) e x = tt
  handed (Dominated k) e x = tt
  handed OutOfRange e x = tt
  handed Closed e x = tt
  handed Spent e x = tt

  pub step_logged : Laws a → IsTable a new → new.budget ≡ old.budget → IsLogged old new step reply
  step_logged laws table budget = record {
    setting = is.setting;
    log =
        let new_log : length new.log ≡ length gone.state.log = ap (λ (s : State L). length s.log) is.state in
        let more : length gone.state.log ≡ length old.log + logged_by gone.reply = went.log in
        new_log ∙ (more ∙ ap (λ r. length old.log + logged_by r) (sym is.reply_is));
    few = few_logged a laws new table;
    kind = subst (λ r. IsReplyOf step r) (sym is.reply_is) went.kind;
    hands = handed reply refl
        (subst (λ r. TakesOne (state_of old).nodes (state_of new).nodes r) (sym is.reply_is)
        (subst (λ (s : State L). TakesOne (state_of old).nodes s.nodes gone.reply) (sym is.state) went.takes));
  }

not_both : (s : NodeState) → is_pending_state s ≡ true → is_taken_state s ≡ true → ⊥
not_both Pending p q = absurd (cc (p, q))
not_both (TakenBy w) p q = absurd (cc (p, q))
not_both Done p q = absurd (cc (p, q))

-- a label that is handed out leaves the pending nodes their spares
pub handed_spares : {L : Type 0} (old new : View L) (id : ℕ) → HasSpares old → CanHandOut old id → new.nodes ≡ changed id hand_out old.nodes → HasSpares new
handed_spares {L} old new id has can nodes k h at waits =
    let b : Before id hand_out old.nodes k h = before_change id hand_out old.nodes k h (ap (λ xs. slice_get xs k) (sym nodes) ∙ at) in
    ⊎_elim
    (λ (p : (k ≡ id) × (h ≡ hand_out b.old)).
    let one : b.old ≡ can.0 = same_Some b.old can.0 (sym b.at ∙ (ap (λ i. slice_get old.nodes i) p.0 ∙ can.1)) in
    let no : is_taken h.node ≡ true = ap (λ (x : Held L). is_taken x.node) p.1 ∙ (ap (λ (x : Held L). is_taken x.node) one ∙ can.3) in
    absurd (not_both h.node.state waits no))
    (λ (e : h ≡ b.old). ap (λ (x : Held L). x.spare) e ∙ has k b.old b.at (ap (λ (x : Held L). is_node_pending x.node) (sym e) ∙ waits)) b.is

-- what is handed out is a label of the table
pub handed_label : {L : Type 0} (a : Algebra L) (laws : Laws a) (v : View L) (is : IsTable a v) (id : ℕ) (l : L) (can : CanHandOut v id) → l ≡ can.0.node.label → IsLabel a (setting_of v) l
handed_label {L} a laws v is id l can e =
    let w = node_walk a laws v is id can.0 can.1 in
    subst (λ (x : L). IsLabel a (setting_of v) x) (sym e) record {
      vertex = node_vertex a laws v is id can.0 can.1;
      of_bound = labels_of a laws v is id can.0 can.1;
      range = walk_range a laws (setting_of v) w.0 w.1 can.0.node.label w.2;
    }

-- the node that a worker holds is one of the table
pub node_within : {L : Type 0} (v : View L) (id w : ℕ) → first (is_held_by w) (state_of v).nodes ≡ Some id → id < length v.nodes
node_within {L} v id w e =
    let f : FoundAt (is_held_by w) (state_of v).nodes id = found (is_held_by w) (state_of v).nodes id e in
    let lt : id < length (state_of v).nodes = slice_get_within (state_of v).nodes id f.item f.at in
    let same : length (state_of v).nodes ≡ length v.nodes = length-map v.nodes (λ h. h.node) in
    omega arith

all_true : (n k : ℕ) (b : Bool) → slice_get (replicate n true) k ≡ Some b → b ≡ true
all_true zero k b e = absurd (none-some b e)
all_true (suc n) zero b e = sym (same_Some true b e)
all_true (suc n) (suc k) b e = all_true n k b e

-- at the start each node has its spare
pub start_spares : {L : Type 0} (v : View L) → spares_of v ≡ replicate (length v.nodes) true → HasSpares v
start_spares v all k h at waits = all_true (length v.nodes) k h.spare (ap (λ xs. slice_get xs k) (sym all) ∙ spare_at v k h at)
