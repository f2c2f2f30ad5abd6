-- Each step of the table machine, as to its log, its reply, and the nodes that wait after it.
use Rattle.std.proofs.Common.{◌≡◌, ℕ, ◌+◌, ◌⊎◌, Bool, true, false, cond, Option, Some, None, List, [], ◌∷◌, ◌++◌, length, refl, ◌∙◌, subst, inl, inr, ⊎_elim, arith, length-append}
use Rattle.std.specs.Prelude.{slice_get, ◌&&◌, nat_lt}
use Rattle.drt_label.specs.Algebra.{Algebra}
use Rattle.drt_table.specs.Machine.{Setting, State, Outcome, in_range, extended, is_full, unchanged, offset, offset_at, separation, next, holder, takes, taken, drop_by, dominating, added, compared, counted, offered, offered_at, step_of}
use Rattle.drt_table.specs.Node.{NodeOf, is_kept, is_node_pending, is_taken, fresh}
use Rattle.drt_table.specs.declared.node.NodeState.TheVariants.{Taken as TakenBy, Done}
use Rattle.drt_table.specs.declared.step.TableStep.{TableStep}
use Rattle.drt_table.specs.declared.step.TableStep.TheVariants.{Take, Offer, Close}
use Rattle.drt_table.specs.declared.step.TableReply.{TableReply}
use Rattle.drt_table.specs.declared.step.TableReply.TheVariants.{Taken, Busy, Finished, Added, Dominated, OutOfRange, Closed, Spent}
use Rattle.drt_table.specs.declared.step.Entry.{Entry}
use Rattle.drt_table.proofs.Earliest.{Earliest, found_earliest}
use Rattle.drt_worklist.specs.Places.{first, changed}
use Rattle.drt_worklist.proofs.Lists.{Before, before_change, changed_at, length-changed}
use Rattle.drt_worklist.proofs.Views.{Pushed, earlier, last, before_push}
use Rattle.drt_shared.specs.Replies.{logged_by, IsReplyOf}

-- a node was added
abbrev pub IsAdded : TableReply → Type 0
IsAdded (Taken k) = ⊥
IsAdded (Busy k) = ⊥
IsAdded Finished = ⊥
IsAdded (Added k) = Unit {0}
IsAdded (Dominated k) = ⊥
IsAdded OutOfRange = ⊥
IsAdded Closed = ⊥
IsAdded Spent = ⊥

module _ {L : Type 0} where
  -- a node that waits
  abbrev pub WaitsAt : List (NodeOf L) → ℕ → Type 0
  WaitsAt nodes k = (m : NodeOf L) × (slice_get nodes k ≡ Some m) × (is_node_pending m ≡ true)

  -- a node that waits after a step waited before it, or was added by it
  abbrev pub Waited : List (NodeOf L) → TableReply → ℕ → Type 0
  Waited nodes r k = WaitsAt nodes k ⊎ (IsAdded r × (k ≡ length nodes))

  -- a node that was taken had waited
  abbrev pub TakesOne : List (NodeOf L) → List (NodeOf L) → TableReply → Type 0
  TakesOne old new (Taken k) = WaitsAt old k × ((n : NodeOf L) × (slice_get new k ≡ Some n) × (is_taken n ≡ true))
  TakesOne old new (Busy k) = Unit {0}
  TakesOne old new Finished = Unit {0}
  TakesOne old new (Added k) = Unit {0}
  TakesOne old new (Dominated k) = Unit {0}
  TakesOne old new OutOfRange = Unit {0}
  TakesOne old new Closed = Unit {0}
  TakesOne old new Spent = Unit {0}

  pub record Goes (s : State L) (step : TableStep) (o : Outcome L) : Type 0 where
    pub log : length o.state.log ≡ length s.log + logged_by o.reply
    pub kind : IsReplyOf step o.reply
    pub waits : (k : ℕ) → WaitsAt o.state.nodes k → Waited s.nodes o.reply k
    pub takes : TakesOne s.nodes o.state.nodes o.reply

  cond_both : (P : Outcome L → Type 0) (b : Bool) (x y : Outcome L) → P x → P y → P (cond b x y)
  cond_both P true x y p q = p
  cond_both P false x y p q = q

  -- nodes of which one changed, and waits only where it did
  changed_waits : (id : ℕ) (f : NodeOf L → NodeOf L) (nodes : List (NodeOf L)) (r : TableReply)
      → ((n : NodeOf L) → is_node_pending (f n) ≡ true → is_node_pending n ≡ true) → (k : ℕ) → WaitsAt (changed id f nodes) k → Waited nodes r k
  changed_waits id f nodes r back k w =
      let b : Before id f nodes k w.0 = before_change id f nodes k w.0 w.1 in
      inl (
        b.old,
        b.at,
        ⊎_elim (λ (p : (k ≡ id) × (w.0 ≡ f b.old)). back b.old (subst (λ (n : NodeOf L). is_node_pending n ≡ true) p.1 w.2))
            (λ (e : w.0 ≡ b.old). subst (λ (n : NodeOf L). is_node_pending n ≡ true) e w.2) b.is,
      )

module _ {L : Type 0} (a : Algebra L) (t : Setting) where
  same : (s : State L) (step : TableStep) (r : TableReply) → logged_by r ≡ 0 → IsReplyOf step r → TakesOne s.nodes s.nodes r → Goes s step (unchanged a t s r)
  same s step r none kind takes = record { log = omega (arith, none); kind = kind; waits = λ k w. inl w; takes = takes }

  one_longer : (s : State L) (e : Entry) → length (s.log ++ e ∷ []) ≡ length s.log + 1
  one_longer s e = length-append s.log (e ∷ [])

  goes_takes : (s : State L) (w k : ℕ) → next a t s.nodes ≡ Some k → Goes s Take (takes a t s w k)
  goes_takes s w k is =
      let f : NodeOf L → NodeOf L = λ n. record n { state = TakenBy w } in
      let e : Earliest is_node_pending (offset a t) s.nodes k = found_earliest is_node_pending (offset a t) s.nodes k is in
      record {
        log = one_longer s (record { worker = w; step = Take });
        kind = tt;
        waits = changed_waits k f s.nodes (Taken k) (λ n p. absurd (cc p));
        takes = ((e.item, e.at, e.passes), (f e.item, changed_at k f s.nodes e.item e.at, refl));
      }

  goes_take : (s : State L) (w : ℕ) (p o : Option ℕ) → next a t s.nodes ≡ p → Goes s Take (taken a t s w p o)
  goes_take s w None None is = same s Take Finished refl tt tt
  goes_take s w None (Some h) is = cond_both (Goes s Take) (is_full a t s) _ _ (same s Take Spent refl tt tt) (same s Take (Busy h) refl tt tt)
  goes_take s w (Some k) None is = cond_both (Goes s Take) (is_full a t s) _ _ (same s Take Spent refl tt tt) (goes_takes s w k is)
  goes_take s w (Some k) (Some h) is =
      cond_both (Goes s Take) (is_full a t s) _ _ (same s Take Spent refl tt tt)
      (cond_both (Goes s Take) (nat_lt (offset_at a t s.nodes k) (offset_at a t s.nodes h + separation t)) _ _ (goes_takes s w k is) (same s Take (Busy h) refl tt tt))

  abbrev counts : NodeOf L → NodeOf L
  counts n = record n { offered = n.offered + 1 }

  drop_at : (n m : NodeOf L) (b : Bool) → is_node_pending m ≡ false → is_node_pending (cond b m n) ≡ true → is_node_pending n ≡ true
  drop_at n m true e p = absurd (cc (e, p))
  drop_at n m false e p = p

  drop_waits : (l : L) (number : ℕ) (n : NodeOf L) → is_node_pending (drop_by a t l number n) ≡ true → is_node_pending n ≡ true
  drop_waits l number n p = drop_at n (record n { dropped_by = Some number; state = Done }) (is_kept n && a.dominates l n.label) refl p

  -- the nodes after one more was added
  added_waits : (s : State L) (id : ℕ) (l : L) (j k : ℕ) → WaitsAt (added a t (counted a t id s.nodes) id l) k → Waited s.nodes (Added j) k
  added_waits s id l j k w =
      let nodes : List (NodeOf L) = counted a t id s.nodes in
      from (before_push (drop_by a t l (length nodes)) nodes (fresh l (Some id)) k w.0 w.1)
    where
      from : Pushed (drop_by a t l (length (counted a t id s.nodes))) (counted a t id s.nodes) (fresh l (Some id)) k w.0 → Waited s.nodes (Added j) k
      from (earlier x at is lt) =
          changed_waits id counts s.nodes (Added j) (λ n p. p) k (x, at, drop_waits l (length (counted a t id s.nodes)) x (subst (λ (n : NodeOf L). is_node_pending n ≡ true) is w.2))
      from (last e is) = inr (tt, e ∙ length-changed id counts s.nodes)

  goes_compared : (s : State L) (e : Entry) (id k : ℕ) (l : L) (o : Option ℕ) → Goes s (Offer id k) (compared a t s e (counted a t id s.nodes) id l o)
  goes_compared s e id k l None = record { log = one_longer s e; kind = tt; waits = λ j w. added_waits s id l (length (counted a t id s.nodes)) j w; takes = tt }
  goes_compared s e id k l (Some m) = record { log = one_longer s e; kind = tt; waits = changed_waits id counts s.nodes (Dominated m) (λ n p. p); takes = tt }

  goes_offered : (s : State L) (e : Entry) (id k : ℕ) (l : L) → Goes s (Offer id k) (offered a t s e id l)
  goes_offered s e id k l =
      cond_both (Goes s (Offer id k)) (in_range a t l) _ _
      (goes_compared s e id k l (first (dominating a t l) (counted a t id s.nodes)))
      (record { log = one_longer s e; kind = tt; waits = changed_waits id counts s.nodes OutOfRange (λ n p. p); takes = tt })

  goes_offer_at : (s : State L) (e : Entry) (id k : ℕ) (o : Option (NodeOf L)) → Goes s (Offer id k) (offered_at a t s e id k o)
  goes_offer_at s e id k None = same s (Offer id k) Spent refl tt tt
  goes_offer_at s e id k (Some n) = goes_offered s e id k (extended a t n.label k)

  pub goes : (s : State L) (w : ℕ) (step : TableStep) → Goes s step (step_of a t s w step)
  goes s w Take = goes_take s w (next a t s.nodes) (holder a t s.nodes) refl
  goes s w (Offer id k) =
      cond_both (Goes s (Offer id k)) (is_full a t s) _ _ (same s (Offer id k) Spent refl tt tt)
      (goes_offer_at s (record { worker = w; step = Offer id k }) id k (slice_get s.nodes id))
  goes s w (Close id) =
      cond_both (Goes s (Close id)) (is_full a t s) _ _ (same s (Close id) Spent refl tt tt)
      (record { log = one_longer s (record { worker = w; step = Close id }); kind = tt; waits = changed_waits id (λ n. record n { state = Done }) s.nodes Closed (λ n p. absurd (cc p)); takes = tt })
