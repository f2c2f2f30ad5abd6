-- The lists and the queue of an arena after a change of its nodes.
use Rattle.std.proofs.Common.{◌≡◌, ◌≢◌, ℕ, suc, zero, ◌+◌, ◌<◌, ◌≤◌, ◌⊎◌, Bool, true, false, cond, Option, Some, None, List}
use Rattle.std.proofs.Common.{[], ◌∷◌, ◌++◌, get_or, length, map, refl, set, sym, ap, ◌∙◌, subst, inl, inr, arith}
use Rattle.std.specs.Prelude.{slice_get, slice_set, replicate, ◌&&◌}
use Rattle.std.specs.List.{Contains}
use Rattle.std.specs.BinaryHeap.{IsHeap}
use Rattle.std.specs.List.Sorted.{IsPermutation}
use Rattle.std.proofs.lemmas.List.{length_push, length-map, length-set}
use Rattle.std.proofs.lemmas.List.Elements.{Contains-append_left, Contains-push}
use Rattle.std.proofs.lemmas.Option.{none-some, same_Some, slice_get_read, slice_get_within}
use Rattle.drt_label.specs.Algebra.{Algebra}
use Rattle.drt_table.specs.Node.{Held, NodeOf, is_kept, is_node_pending, is_taken, is_pending_state, is_taken_state}
use Rattle.drt_table.specs.declared.node.NodeState.{NodeState}
use Rattle.drt_table.specs.declared.node.NodeState.TheVariants.{Pending, Taken, Done}
use Rattle.drt_worklist.specs.Places.{first, changed}
use Rattle.drt_table.specs.Earliest.{earliest}
use Rattle.drt_table.specs.Held.{take_by, close_node, drop_held, dominates_held, fresh_held, held_offset, compared_nodes, placed_nodes}
use Rattle.drt_table.specs.Arena.{AreArranged, HasNodes, Stock}
use Rattle.drt_table.specs.Links.{IsNext, AreLinked}
use Rattle.drt_table.specs.Waiting.{Ticket, ticket_cmp, AreWaiting, IsFresh, AreHeld}
use Rattle.drt_worklist.proofs.Lists.{Before, before_change, After, after_change, changed_at, length-changed}
use Rattle.drt_worklist.proofs.Writes.{changed_set}
use Rattle.drt_worklist.proofs.Views.{Pushed, earlier, last, before_push, after_push}
use Rattle.drt_table.proofs.Linking.{StaysKept, changed_linked, at_pushed, get_pushed}
use Rattle.drt_table.proofs.Tickets.{StayWaiting, still_waiting, popped_ticket, at_contains, contains_at}
use Rattle.drt_table.proofs.Earliest.{Earliest, found_earliest}
use Rattle.drt_table.proofs.Adding.{true_not_false}

-- there is room for one more element of a vector of that length
pub room_for : (n room len cap : ℕ) → n < room → len ≡ n → room ≤ cap → len < cap
room_for n room len cap lt is le = omega arith

pub same_le : (m n : ℕ) → m ≡ n → m ≤ n
same_le m n is = omega arith

-- the counts of an arena whose nodes were n, and are m now: one more, at most
module _ (n m from : ℕ) (from_is : from ≡ n) where
  pub admit_from : m ≡ n + 1 → from ≤ m
  admit_from more = omega arith

  pub admit_few : m ≤ n + 1 → n < 4294967296 → m ≤ 4294967296
  admit_few at_most few = omega arith

  pub sample_last : m ≤ n + 1 → m ≤ from + 1
  sample_last at_most = omega arith

  pub admit_room : m ≤ n + 1 → (room len taken cap : ℕ) → n < room → len + taken ≤ n → room ≤ cap → len + m ≤ cap + from
  admit_room at_most room len taken cap lt waits le = omega arith

-- there is a node of that number, with the fact
abbrev pub HasNode : {L : Type 0} → (Held L → Type 0) → List (Held L) → ℕ → Type 0
HasNode {L} P nodes id = (h : Held L) × (slice_get nodes id ≡ Some h) × P h

-- node id, which was h, is changed to y, as f has it: what each answer there rests on
pub record Changing {L : Type 0} (v x : Stock L) (id : ℕ) (f : Held L → Held L) (h y : Held L) : Type 0 where
  pub at : slice_get v.nodes id ≡ Some h
  pub nodes_are : slice_set v.nodes id y ≡ changed id f v.nodes
  pub count : length (slice_set v.nodes id y) ≡ length v.nodes
  pub has : HasNodes x (record v { nodes = slice_set v.nodes id y }) (changed id f x.nodes)

-- the arena's nodes are these, and contracts see the arena as x: the node that is read at the number
module _ {L : Type 0} (P : Held L → Type 0) (v x : Stock L) (same : v ≡ x) (id : ℕ) (can : HasNode P x.nodes id) where
  pub has_node : HasNode P v.nodes id
  has_node = subst (λ (y : Stock L). HasNode P y.nodes id) (sym same) can

  pub node_within : id < length v.nodes
  node_within = slice_get_within v.nodes id has_node.0 has_node.1

  pub node_at : (h : Held L) → h ≡ get_or v.nodes id h → slice_get v.nodes id ≡ Some h
  node_at h is = slice_get_read v.nodes (length v.nodes) id h refl node_within is

  pub node_has : (h : Held L) → h ≡ get_or v.nodes id h → P h
  node_has h is = subst P (same_Some has_node.0 h (sym has_node.1 ∙ node_at h is)) has_node.2

  pub changing : (h : Held L) → h ≡ get_or v.nodes id h → (f : Held L → Held L) (y : Held L) → y ≡ f h → Changing v x id f h y
  changing h is f y e =
      let nodes : slice_set v.nodes id y ≡ changed id f v.nodes = ap (λ z. set v.nodes id z) e ∙ sym (changed_set f v.nodes id h (node_at h is)) in
      let new : Stock L = record v { nodes = slice_set v.nodes id y } in
      record {
        at = node_at h is;
        nodes_are = nodes;
        count = length-set v.nodes id y;
        has = subst (λ (z : Stock L). HasNodes z new (changed id f z.nodes)) same (record { nodes_are = nodes; vertices = refl; room = refl });
      }

-- the nodes are these, with others after them; none of them is newly taken
pub record StayHeld {L : Type 0} (nodes later : List (Held L)) : Type 0 where
  pub longer : length nodes ≤ length later
  pub back : (k : ℕ) (y : Held L) → slice_get later k ≡ Some y → is_taken y.node ≡ true → (x : Held L) × (slice_get nodes k ≡ Some x) × (is_taken x.node ≡ true)

pub still_held : {L : Type 0} (nodes later : List (Held L)) (taken : List ℕ) → StayHeld nodes later → AreHeld nodes taken → AreHeld later taken
still_held {L} nodes later taken stay h = record {
  within = λ j k at. let lt : k < length nodes = h.within j k at in let le : length nodes ≤ length later = stay.longer in omega arith;
  all = λ k y at t. let old = stay.back k y at t in h.all k old.0 old.1 old.2;
}

-- a change of one node that leaves its label, and makes it neither pending nor taken
pub record Calms {L : Type 0} (f : Held L → Held L) : Type 0 where
  pub label : (h : Held L) → (f h).node.label ≡ h.node.label
  pub pending : (h : Held L) → is_node_pending (f h).node ≡ true → is_node_pending h.node ≡ true

module _ {L : Type 0} (f : Held L → Held L) (k : ℕ) (nodes : List (Held L)) where
  pub change_stays : Calms f → StayWaiting nodes (changed k f nodes)
  change_stays calms = record { forth = forth; back = λ j y lt at. back j y (before_change k f nodes j y at) }
    where
      forth : (j : ℕ) (x : Held L) → slice_get nodes j ≡ Some x → (y : Held L) × (slice_get (changed k f nodes) j ≡ Some y) × (y.node.label ≡ x.node.label)
      forth j x at = let b : After k f nodes j x = after_change k f nodes j x at in (b.new, b.at, by_case b.new b.is)
        where
          by_case : (y : Held L) → ((j ≡ k) × (y ≡ f x)) ⊎ (y ≡ x) → y.node.label ≡ x.node.label
          by_case y (inl p) = ap (λ (z : Held L). z.node.label) p.1 ∙ calms.label x
          by_case y (inr e) = ap (λ (z : Held L). z.node.label) e

      back : (j : ℕ) (y : Held L) → Before k f nodes j y → (x : Held L) × (slice_get nodes j ≡ Some x) × (y.node.label ≡ x.node.label) × (is_node_pending y.node ≡ true → is_node_pending x.node ≡ true)
      back j y b = by_case b.is
        where
          by_case : ((j ≡ k) × (y ≡ f b.old)) ⊎ (y ≡ b.old)
              → (x : Held L) × (slice_get nodes j ≡ Some x) × (y.node.label ≡ x.node.label) × (is_node_pending y.node ≡ true → is_node_pending x.node ≡ true)
          by_case (inl p) = (b.old, b.at, ap (λ (z : Held L). z.node.label) p.1 ∙ calms.label b.old, λ t. calms.pending b.old (ap (λ (z : Held L). is_node_pending z.node) (sym p.1) ∙ t))
          by_case (inr e) = (b.old, b.at, ap (λ (z : Held L). z.node.label) e, λ t. ap (λ (z : Held L). is_node_pending z.node) (sym e) ∙ t)

  pub change_held : ((h : Held L) → is_taken (f h).node ≡ true → is_taken h.node ≡ true) → StayHeld nodes (changed k f nodes)
  change_held keeps = record { longer = let e : length (changed k f nodes) ≡ length nodes = length-changed k f nodes in omega arith; back = λ j y at t. back j y (before_change k f nodes j y at) t }
    where
      back : (j : ℕ) (y : Held L) → Before k f nodes j y → is_taken y.node ≡ true → (x : Held L) × (slice_get nodes j ≡ Some x) × (is_taken x.node ≡ true)
      back j y b t = by_case b.is
        where
          by_case : ((j ≡ k) × (y ≡ f b.old)) ⊎ (y ≡ b.old) → (x : Held L) × (slice_get nodes j ≡ Some x) × (is_taken x.node ≡ true)
          by_case (inl p) = (b.old, b.at, keeps b.old (ap (λ (z : Held L). is_taken z.node) (sym p.1) ∙ t))
          by_case (inr e) = (b.old, b.at, ap (λ (z : Held L). is_taken z.node) (sym e) ∙ t)

  -- where the changed node goes on waiting if it waited
  pub change_fresh : (x : Held L) → slice_get nodes k ≡ Some x → (is_node_pending x.node ≡ true → is_node_pending (f x).node ≡ true) → (tickets : List Ticket)
      → IsFresh nodes tickets → IsFresh (changed k f nodes) tickets
  change_fresh x at_x goes_on tickets fresh t at =
      let top = fresh t at in
      let b : After k f nodes t.0.1 top.0 = after_change k f nodes t.0.1 top.0 top.1 in
      (b.new, b.at, by_case top.0 top.1 top.2 b.new b.is)
    where
      by_case : (y : Held L) → slice_get nodes t.0.1 ≡ Some y → is_node_pending y.node ≡ true → (z : Held L) → ((t.0.1 ≡ k) × (z ≡ f y)) ⊎ (z ≡ y) → is_node_pending z.node ≡ true
      by_case y at_y p z (inl q) =
          let same : x ≡ y = same_Some x y (sym at_x ∙ (ap (λ j. slice_get nodes j) (sym q.0) ∙ at_y)) in
          ap (λ (h : Held L). is_node_pending h.node) (q.1 ∙ ap f (sym same)) ∙ goes_on (ap (λ (h : Held L). is_node_pending h.node) same ∙ p)
      by_case y at_y p z (inr e) = ap (λ (h : Held L). is_node_pending h.node) e ∙ p

  -- an arena after a change that its lists and its queue don't see
  pub change_arranged : (a : Algebra L) (links heads : List (Option ℕ)) (tickets : List Ticket) (taken : List ℕ) (x : Held L) → slice_get nodes k ≡ Some x → StaysKept f
      → Calms f → ((h : Held L) → is_taken (f h).node ≡ true → is_taken h.node ≡ true) → (is_node_pending x.node ≡ true → is_node_pending (f x).node ≡ true)
      → AreArranged a nodes links heads tickets taken → AreArranged a (changed k f nodes) links heads tickets taken
  change_arranged a links heads tickets taken x at kept calms keeps goes_on ok = record {
    linked = changed_linked a f kept k nodes links heads ok.linked;
    waiting = subst (λ n. AreWaiting a (changed k f nodes) tickets n) (sym (length-changed k f nodes)) (still_waiting a nodes (changed k f nodes) tickets (change_stays calms) ok.waiting);
    fresh = change_fresh x at goes_on tickets ok.fresh;
    order = ok.order;
    held = still_held nodes (changed k f nodes) taken (change_held keeps) ok.held;
  }

-- a node that isn't taken needs no place in the list
pub forget_held : {L : Type 0} (nodes : List (Held L)) (taken rest : List ℕ) (id : ℕ) (h : Held L) → slice_get nodes id ≡ Some h → is_taken h.node ≡ false
    → ((k : ℕ) → k ≢ id → Contains taken k → Contains rest k) → ((k : ℕ) → Contains rest k → Contains taken k) → AreHeld nodes taken → AreHeld nodes rest
forget_held {L} nodes taken rest id h at done others within held = record {
  within = λ j k g. let c = at_contains taken k (within k (contains_at rest j k g)) in held.within c.0 k c.1;
  all = λ k y g t. others k (λ e. absurd (true_not_false t (ap (λ (z : Held L). is_taken z.node) (same_Some y h (sym g ∙ (ap (λ j. slice_get nodes j) e ∙ at))) ∙ done))) (held.all k y g t);
}

-- one more taken node has its place in the list
pub take_held : {L : Type 0} (nodes : List (Held L)) (taken : List ℕ) (id w : ℕ) → id < length nodes → AreHeld nodes taken → AreHeld (changed id (take_by w) nodes) (taken ++ id ∷ [])
take_held {L} nodes taken id w lt held = record { within = within; all = λ k y at t. all k y (before_change id (take_by w) nodes k y at) t }
  where
    within : (j k : ℕ) → slice_get (taken ++ id ∷ []) j ≡ Some k → k < length (changed id (take_by w) nodes)
    within j k g = subst (λ n. k < n) (sym (length-changed id (take_by w) nodes)) (by_place (at_pushed taken id j k g))
      where
        by_place : ((j < length taken) × (slice_get taken j ≡ Some k)) ⊎ ((j ≡ length taken) × (k ≡ id)) → k < length nodes
        by_place (inl p) = held.within j k p.1
        by_place (inr p) = subst (λ n. n < length nodes) (sym p.1) lt

    all : (k : ℕ) (y : Held L) → Before id (take_by w) nodes k y → is_taken y.node ≡ true → Contains (taken ++ id ∷ []) k
    all k y b t = by_case b.is
      where
        by_case : ((k ≡ id) × (y ≡ take_by w b.old)) ⊎ (y ≡ b.old) → Contains (taken ++ id ∷ []) k
        by_case (inl p) = subst (λ n. Contains (taken ++ id ∷ []) n) (sym p.0) (Contains-push taken id)
        by_case (inr e) = Contains-append_left taken (id ∷ []) k (held.all k b.old b.at (ap (λ (z : Held L). is_taken z.node) (sym e) ∙ t))

-- the nodes after an opening node is added
module _ {L : Type 0} (nodes : List (Held L)) (z : Held L) where
  pub push_stays : StayWaiting nodes (nodes ++ z ∷ [])
  push_stays = record {
    forth = λ k x at. (x, get_pushed nodes z k x at, refl);
    back = λ k y lt at. by_place k y lt (at_pushed nodes z k y at);
  }
    where
      by_place : (k : ℕ) (y : Held L) → k < length nodes → ((k < length nodes) × (slice_get nodes k ≡ Some y)) ⊎ ((k ≡ length nodes) × (y ≡ z))
          → (x : Held L) × (slice_get nodes k ≡ Some x) × (y.node.label ≡ x.node.label) × (is_node_pending y.node ≡ true → is_node_pending x.node ≡ true)
      by_place k y lt (inl p) = (y, p.1, refl, λ t. t)
      by_place k y lt (inr p) = absurd (let e : k ≡ length nodes = p.0 in omega arith)

  pub push_held : is_taken z.node ≡ false → StayHeld nodes (nodes ++ z ∷ [])
  push_held idle = record { longer = let e : length (nodes ++ z ∷ []) ≡ length nodes + 1 = length_push nodes z in omega arith; back = λ k y at t. by_place k y t (at_pushed nodes z k y at) }
    where
      by_place : (k : ℕ) (y : Held L) → is_taken y.node ≡ true → ((k < length nodes) × (slice_get nodes k ≡ Some y)) ⊎ ((k ≡ length nodes) × (y ≡ z))
          → (x : Held L) × (slice_get nodes k ≡ Some x) × (is_taken x.node ≡ true)
      by_place k y t (inl p) = (y, p.1, t)
      by_place k y t (inr p) = absurd (true_not_false t (ap (λ (h : Held L). is_taken h.node) p.1 ∙ idle))

-- the nodes after a label is offered
module _ {L : Type 0} (a : Algebra L) (l : L) (parent deadline bound : ℕ) (xs : List (Held L)) where
  drops_calmly : (number : ℕ) (h : Held L) (b : Bool)
      → ((cond b (record h { node = record h.node { dropped_by = Some number; state = Done } }) h).node.label ≡ h.node.label)
      × (is_node_pending (cond b (record h { node = record h.node { dropped_by = Some number; state = Done } }) h).node ≡ true → is_node_pending h.node ≡ true)
      × (is_taken (cond b (record h { node = record h.node { dropped_by = Some number; state = Done } }) h).node ≡ true → is_taken h.node ≡ true)
  drops_calmly number h true = (refl, λ t. absurd (cc), λ t. absurd (cc))
  drops_calmly number h false = (refl, λ t. t, λ t. t)

  drop_calms : (h : Held L)
      → ((drop_held a l (length xs) h).node.label ≡ h.node.label) × (is_node_pending (drop_held a l (length xs) h).node ≡ true → is_node_pending h.node ≡ true)
      × (is_taken (drop_held a l (length xs) h).node ≡ true → is_taken h.node ≡ true)
  drop_calms h = drops_calmly (length xs) h (is_kept h.node && a.dominates l h.node.label)

  added_stays : StayWaiting xs (map (drop_held a l (length xs)) xs ++ fresh_held l (Some parent) ∷ [])
  added_stays = record {
    forth = λ k x at. (drop_held a l (length xs) x, after_push (drop_held a l (length xs)) xs (fresh_held l (Some parent)) k x at, (drop_calms x).0);
    back = λ k y lt at. by_place k y lt (before_push (drop_held a l (length xs)) xs (fresh_held l (Some parent)) k y at);
  }
    where
      by_place : (k : ℕ) (y : Held L) → k < length xs → Pushed (drop_held a l (length xs)) xs (fresh_held l (Some parent)) k y
          → (x : Held L) × (slice_get xs k ≡ Some x) × (y.node.label ≡ x.node.label) × (is_node_pending y.node ≡ true → is_node_pending x.node ≡ true)
      by_place k y lt (earlier x at e less) = (x, at, ap (λ (h : Held L). h.node.label) e ∙ (drop_calms x).0, λ t. (drop_calms x).1 (ap (λ (h : Held L). is_node_pending h.node) (sym e) ∙ t))
      by_place k y lt (last e is) = absurd (omega arith)

  length-added : length (map (drop_held a l (length xs)) xs ++ fresh_held l (Some parent) ∷ []) ≡ length xs + 1
  length-added = length_push (map (drop_held a l (length xs)) xs) (fresh_held l (Some parent)) ∙ ap (λ n. n + 1) (length-map xs (drop_held a l (length xs)))

  added_held : StayHeld xs (map (drop_held a l (length xs)) xs ++ fresh_held l (Some parent) ∷ [])
  added_held = record { longer = let e = length-added in omega arith; back = λ k y at t. by_place k y t (before_push (drop_held a l (length xs)) xs (fresh_held l (Some parent)) k y at) }
    where
      by_place : (k : ℕ) (y : Held L) → is_taken y.node ≡ true → Pushed (drop_held a l (length xs)) xs (fresh_held l (Some parent)) k y
          → (x : Held L) × (slice_get xs k ≡ Some x) × (is_taken x.node ≡ true)
      by_place k y t (earlier x at e less) = (x, at, (drop_calms x).2 (ap (λ (h : Held L). is_taken h.node) (sym e) ∙ t))
      by_place k y t (last e is) = absurd (let taken : is_taken y.node ≡ false = ap (λ (h : Held L). is_taken h.node) is in true_not_false t taken)

  same_stays : StayWaiting xs xs
  same_stays = record { forth = λ k x at. (x, at, refl); back = λ k y lt at. (y, at, refl, λ t. t) }

  same_held : StayHeld xs xs
  same_held = record { longer = omega arith; back = λ k y at t. (y, at, t) }

  -- what the lists and the queue see of an offer
  pub record Follows (later : List (Held L)) : Type 0 where
    pub waiting : StayWaiting xs later
    pub held : StayHeld xs later
    pub at_most : length later ≤ length xs + 1

  pub place_follows : Follows (placed_nodes a l parent deadline bound xs)
  place_follows = by_range (a.in_range l deadline bound)
    where
      same : Follows xs
      same = record { waiting = same_stays; held = same_held; at_most = omega arith }

      by_first : (o : Option ℕ) → Follows (compared_nodes a l parent xs o)
      by_first None = record { waiting = added_stays; held = added_held; at_most = let e = length-added in omega arith }
      by_first (Some k) = same

      by_range : (b : Bool) → Follows (cond b (compared_nodes a l parent xs (first (dominates_held a l) xs)) xs)
      by_range true = by_first (first (dominates_held a l) xs)
      by_range false = same

-- the arena without nodes
none_at : (n v : ℕ) (o : Option ℕ) → slice_get (replicate n None) v ≡ Some o → o ≡ None
none_at zero v o at = absurd (none-some o at)
none_at (suc n) zero o at = sym (same_Some None o at)
none_at (suc n) (suc v) o at = none_at n v o at

pub none_linked : {L : Type 0} (a : Algebra L) (n : ℕ) → AreLinked {L = L} a [] [] (replicate n None)
none_linked {L} a n = record {
  few = omega arith;
  as_many = refl;
  heads_ok = λ v o at. subst (λ (q : Option ℕ). IsNext {L = L} a [] v None q) (sym (none_at n v o at)) (λ k h is b. absurd (none-some h is.at));
  links_ok = λ i h o at kept link. absurd (none-some h at);
}

pub none_arranged : {L : Type 0} (a : Algebra L) (heads : List (Option ℕ)) → AreLinked {L = L} a [] [] heads → IsHeap ticket_cmp [] → AreArranged {L = L} a [] [] heads [] []
none_arranged {L} a heads linked order = record {
  linked = linked;
  waiting = record { sound = λ t c. absurd (let lt : c.0 < 0 = c.1 in omega arith); all = λ k h lt at p. absurd (none-some h at) };
  fresh = λ t at. absurd (none-some t at);
  order = order;
  held = record { within = λ j k at. absurd (none-some k at); all = λ k h at t. absurd (none-some h at) };
}

done_not : (b : Bool) → false ≡ true → b ≡ true
done_not b e = absurd (cc)

take_calms : {L : Type 0} (w : ℕ) → Calms {L = L} (take_by w)
take_calms w = record { label = λ h. refl; pending = λ h t. done_not (is_node_pending h.node) t }

pub close_calms : {L : Type 0} → Calms {L = L} close_node
close_calms = record { label = λ h. refl; pending = λ h t. done_not (is_node_pending h.node) t }

pub close_keeps : {L : Type 0} (h : Held L) → is_taken (close_node h).node ≡ true → is_taken h.node ≡ true
close_keeps h t = done_not (is_taken h.node) t

-- taking the next node
module _ {L : Type 0} (a : Algebra L) (nodes : List (Held L)) (links heads : List (Option ℕ)) (tickets : List Ticket) (taken : List ℕ)
    (ok : AreArranged a nodes links heads tickets taken) (id w : ℕ) (next : Some id ≡ earliest (λ (h : Held L). is_node_pending h.node) (held_offset a) nodes) where
  found : Earliest (λ (h : Held L). is_node_pending h.node) (held_offset a) nodes id
  found = found_earliest (λ (h : Held L). is_node_pending h.node) (held_offset a) nodes id (sym next)

  pub next_within : id < length nodes
  next_within = slice_get_within nodes id found.item found.at

  pub next_waits : 0 < length tickets
  next_waits = let c = ok.waiting.all id found.item next_within found.at found.passes in let lt : c.0 < length tickets = c.1 in omega arith

  pub taken_waiting : (rest : List Ticket) (t : Ticket) → slice_get tickets 0 ≡ Some t
      → Some t.0.1 ≡ earliest (λ (h : Held L). is_node_pending h.node) (held_offset a) nodes → IsPermutation tickets (t ∷ rest)
      → AreWaiting a (changed id (take_by w) nodes) rest (length (changed id (take_by w) nodes))
  taken_waiting rest t at is_next perm =
      let same : t.0.1 ≡ id = same_Some t.0.1 id (is_next ∙ sym next) in
      let here : slice_get (changed id (take_by w) nodes) t.0.1 ≡ Some (take_by w found.item) =
      ap (λ k. slice_get (changed id (take_by w) nodes) k) same ∙ changed_at id (take_by w) nodes found.item found.at in
      popped_ticket a (changed id (take_by w) nodes) tickets rest (length (changed id (take_by w) nodes)) t (take_by w found.item)
      (subst (λ n. AreWaiting a (changed id (take_by w) nodes) tickets n) (sym (length-changed id (take_by w) nodes))
      (still_waiting a nodes (changed id (take_by w) nodes) tickets (change_stays (take_by w) id nodes (take_calms w)) ok.waiting)) here refl perm

pub not_pending : {L : Type 0} (n : NodeOf L) → is_taken n ≡ true → is_node_pending n ≡ false
not_pending n = by_state n.state
  where
    by_state : (s : NodeState) → is_taken_state s ≡ true → is_pending_state s ≡ false
    by_state Pending t = absurd (cc)
    by_state (Taken w) t = refl
    by_state Done t = refl

pub taken_not_pending : {L : Type 0} (n : NodeOf L) → is_taken n ≡ true → is_node_pending n ≡ true → ⊥
taken_not_pending n = by_state n.state
  where
    by_state : (s : NodeState) → is_taken_state s ≡ true → is_pending_state s ≡ true → ⊥
    by_state Pending t p = absurd (cc)
    by_state (Taken w) t p = absurd (cc)
    by_state Done t p = absurd (cc)
