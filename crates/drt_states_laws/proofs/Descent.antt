-- No state stands for walks for which no time passes: it would be split, and a state that dominates one of its children would stand for
-- them too, with an entry more or more work.
use Rattle.std.proofs.Common.{◌≡◌, ℕ, zero, suc, ◌+◌, ◌-◌, ◌<◌, ◌≤◌, ◌⊎◌, inl, inr, ltb, max, None, Some, List, [], ◌∷◌, length, get_or, refl, sym, ap, ◌∙◌, subst, arith, All}
use Rattle.std.specs.Prelude.{IsSomeAnd, Option, option_map, slice_get}
use Rattle.std.specs.List.{AllZip}
use Rattle.std.proofs.lemmas.Bool.{cases_lt, lt-ltb, ltb-true}
use Rattle.std.proofs.lemmas.List.{length-map}
use Rattle.std.proofs.lemmas.Option.{get_or_from_slice_get, none-some, same_Some, slice_get-get_or, slice_get-map, slice_get_within}
use Rattle.drt_model.specs.declared.tasks.Edge.{Edge}
use Rattle.drt_model.specs.Digraph.{Digraph, IsSoundGraph, edge_of, out_edges, vertex_count}
use Rattle.drt_model.specs.Walk.{wcet, request, IsWalk}
use Rattle.drt_states.specs.declared.claims.StateClaim.{StateClaim}
use Rattle.drt_states.specs.declared.claims.StateEnd.{StateEnd}
use Rattle.drt_states.specs.declared.claims.StateEnd.TheVariants.{Passes, Splits}
use Rattle.drt_states.specs.declared.claims.StateEntry.{StateEntry}
use Rattle.drt_states.specs.declared.claims.TailClaim.{TailClaim}
use Rattle.drt_states.specs.States.{AreStates, Child, Dominates, HasRoomAt, HaveDominatedChildren, HavePassingTimes, IsOpening, IsPassing, IsSplitting}
use Rattle.drt_states.specs.States.{NamesAbove, child_at, children_of, entry_at, with_entry}
use Rattle.drt_states.specs.Tails.{BoundsWalks, EachTail, IsTail, Place, graphs_of_places}
use Rattle.drt_states_laws.specs.Laws.{AreWalksOf, StatesPass, asked_together}
use Rattle.drt_states_laws.proofs.Children.{Named, edge_named, edge_passing, state_at, vertex_named}
use Rattle.drt_states_laws.proofs.Entries.{idle_above, idle_from, idle_moved, idle_opened, with_here, with_other, zipped_above}
use Rattle.drt_states_laws.proofs.Futures.{AreFutures, IsFuture, above_futures, above_more, change, first_asked, first_futures, future_asked, future_at, futures_asked, no_place}
use Rattle.drt_states_laws.proofs.Moves.{begin, move}
use Rattle.drt_states_laws.proofs.Passes.{futures_most}

-- Futures of the entries for which, with this work before, no time up to n passes.
record Failing (places : List Place) (job n : ℕ) (entries : List StateEntry) (work : ℕ) (futures : List (List ℕ)) : Type 0 where
  pub are : AreFutures 0 places entries futures
  pub fails : (t : ℕ) → 1 ≤ t → t ≤ n → t < job + (work + futures_asked 0 places entries futures t)

-- There are such futures.
abbrev HasFailing : List Place → ℕ → ℕ → List StateEntry → ℕ → Type 0
HasFailing places job n entries work = (futures : List (List ℕ)) × Failing places job n entries work futures

-- A state that dominates has them too.
failing_above : (places : List Place) (job n : ℕ) (s : StateClaim) (c : Child) → Dominates s c
    → HasFailing places job n c.entries c.work → HasFailing places job n s.entries s.work
failing_above places job n s c above has =
    let are = zipped_above s.entries c.entries above.entries in (
      has.0,
      record {
        are = above_futures 0 places s.entries c.entries has.0 are has.1.are;
        fails = λ t some within.
            (let fails = has.1.fails t some within in
            let more = above_more 0 places s.entries c.entries has.0 t are in
            let work = above.work in
            omega (arith, fails, more, work));
      },
    )

-- They have them too where the future of a place is changed for one that begins with a further entry's vertex, and asks for no less but
-- for an extra, which counts as work.
failing_changed : (places : List Place) (job n : ℕ) (entries : List StateEntry) (work : ℕ) (futures : List (List ℕ))
    → Failing places job n entries work futures
    → (e : StateEntry) (extra : ℕ) (ws : List ℕ) → e.place < length places
    → IsWalk (get_or places e.place no_place).graph (e.vertex ∷ ws)
    → ((t : ℕ) → t ≤ n → future_asked (get_or places e.place no_place).graph (entry_at entries e.place) (get_or futures e.place []) t
    ≤ extra + request (get_or places e.place no_place).graph e.vertex ws (t - e.offset))
    → HasFailing places job n (with_entry e entries) (work + extra)
failing_changed places job n entries work futures failing e extra ws l walk more =
    let g : Digraph = (get_or places e.place no_place).graph in
    let here : entry_at (with_entry e entries) e.place ≡ Some e = with_here e entries in
    let is : IsFuture g (entry_at (with_entry e entries) e.place) ws = subst (λ o. IsFuture g o ws) (sym here) walk in
    let most : (t : ℕ) → t ≤ n → future_asked g (entry_at entries e.place) (get_or futures e.place []) t ≤ extra + future_asked g (entry_at (with_entry e entries) e.place) ws t =
    subst (λ o. (t : ℕ) → t ≤ n → future_asked g (entry_at entries e.place) (get_or futures e.place []) t ≤ extra + future_asked g o ws t) (sym here) more in
    let changed = change 0 e.place e.place places entries (with_entry e entries) futures n extra ws (omega arith) l (with_other e entries) failing.are is most in (
      changed.changed,
      record {
        are = changed.are;
        fails = λ t some within.
            (let fails = failing.fails t some within in
            let asks = changed.more t within in
            omega (arith, fails, asks));
      },
    )

-- The greatest work of some states.
unfoldable most_work : List StateClaim → ℕ
most_work [] = 0
most_work (s ∷ states) = max s.work (most_work states)

-- No state has more.
work_most : (states : List StateClaim) (k : ℕ) (s : StateClaim) → slice_get states k ≡ Some s → s.work ≤ most_work states
unfolding most_work
work_most [] k s at = absurd (none-some s at)
work_most (r ∷ states) zero s at = let same : r.work ≡ s.work = ap (λ x. x.work) (same_Some r s at) in omega (arith, same)
work_most (r ∷ states) (suc k) s at = let more = work_most states k s at in omega (arith, more)

-- What holds of the graph of number k holds of that of the place.
graph_at : (places : List Place) (k : ℕ) (P : Digraph → Type 0) → IsSomeAnd (slice_get (graphs_of_places places) k) P → k < length places
    → P (get_or places k no_place).graph
graph_at places k P is l =
    let at : slice_get (graphs_of_places places) k ≡ Some (get_or places k no_place).graph =
    slice_get-map (λ (p : Place). p.graph) places k ∙ ap (λ o. option_map (λ (p : Place). p.graph) o) (slice_get-get_or places k no_place l) in
    rw at at is

module _ (places : List Place) (tails : List TailClaim) (job deadline n : ℕ) (states : List StateClaim)
    (sound : All (λ p. IsSoundGraph p.graph) places) (near : All (λ p. deadline ≤ p.bound) places)
    (are : EachTail IsTail places tails) (bounds : EachTail BoundsWalks places tails)
    (within : n ≤ deadline) (passing : HavePassingTimes n job tails states) (dominated : HaveDominatedChildren (graphs_of_places places) deadline states) where
  -- No state of the list with so many places without an entry, and so much work below the greatest, has futures for which no time passes.
  abbrev Refuted : ℕ → ℕ → Type 0
  Refuted rooms fuel =
      (k : ℕ) (s : StateClaim) → slice_get states k ≡ Some s → idle_from 0 places s.entries ≤ rooms → most_work states ≤ s.work + fuel
      → HasFailing places job n s.entries s.work → ⊥

  -- No state that passes at a time has them: they ask for at most what it allows for.
  passes_not : (s : StateClaim) (t : ℕ) → HasRoomAt n job tails s t → HasFailing places job n s.entries s.work → ⊥
  passes_not s t room has =
      let some = room.some in
      let to = room.within in
      let fits = room.fits in
      let fails = has.1.fails t some to in
      let most = futures_most deadline 0 places tails s.entries has.0 t sound near are bounds has.1.are some (omega (arith, to, within)) in
      omega (arith, fits, fails, most)

  -- Nor has a child that such a state dominates.
  named_refuted : (rooms fuel : ℕ) → Refuted rooms fuel → (c : Child) → Named states c → idle_from 0 places c.entries ≤ rooms → most_work states ≤ c.work + fuel
      → HasFailing places job n c.entries c.work → ⊥
  named_refuted rooms fuel refuted c named idle work has =
      let r = state_at states named.0 (λ s. Dominates s c) named.1 in
      let same = idle_above 0 places r.state.entries c.entries (zipped_above r.state.entries c.entries r.is.entries) in
      let more = r.is.work in
      refuted named.0 r.state r.at (omega (arith, same, idle)) (omega (arith, more, work)) (failing_above places job n r.state c r.is has)

  -- The graph of a place.
  abbrev graph : ℕ → Digraph
  graph place = (get_or places place no_place).graph

  -- A state that is split at a place without an entry: the walk there begins with a vertex, and the child of that vertex has futures for
  -- which no time passes, with a place less without an entry.
  opened_refuted : (rooms : ℕ) → ((r : ℕ) → r + 1 ≡ rooms → (fuel : ℕ) → Refuted r fuel)
      → (s : StateClaim) (place : ℕ) (numbers : List ℕ) → place < length places → idle_from 0 places s.entries ≤ rooms
      → entry_at s.entries place ≡ None → AllZip (NamesAbove states) (children_of (graph place) deadline s place None) numbers
      → HasFailing places job n s.entries s.work → ⊥
  opened_refuted rooms less s place numbers l idle none zip has =
      let g : Digraph = graph place in
      let vs : List ℕ = get_or has.0 place [] in
      let is : IsFuture g (entry_at s.entries place) vs = future_at 0 place place places s.entries has.0 (omega arith) l has.1.are in
      let begun = begin g (sound place no_place l) vs (subst (λ o. IsFuture g o vs) none is) in
      let e : StateEntry = record { place = place; vertex = begun.first; offset = 0 } in
      let more : (t : ℕ) → t ≤ n → future_asked g (entry_at s.entries place) vs t ≤ 0 + request g begun.first begun.rest (t - 0) =
      subst (λ o. (t : ℕ) → t ≤ n → future_asked g o vs t ≤ 0 + request g begun.first begun.rest (t - 0)) (sym none)
      (λ t to. (let most = begun.more t in omega (arith, most))) in
      let changed = failing_changed places job n s.entries s.work has.0 has.1 e 0 begun.rest l begun.walk more in
      let same : s.work + 0 ≡ s.work = omega arith in
      let after = subst (λ w. HasFailing places job n (with_entry e s.entries) w) same changed in
      let named = vertex_named states (λ v. child_at s place v 0 s.work) (vertex_count g) numbers begun.first begun.walk.0 zip in
      let room = idle_opened places e s.entries l none in
      let refuted = less (rooms - 1) (omega (arith, room, idle)) (most_work states) in
      named_refuted (rooms - 1) (most_work states) refuted (child_at s place begun.first 0 s.work) named (omega (arith, room, idle)) (omega arith) after

  -- A state that is split at a place with an entry: the walk there moves on by an edge, and the child of that edge has futures for which
  -- no time passes, with as many places without an entry and more work.
  moved_refuted : (rooms fuel : ℕ) → ((f : ℕ) → f + 1 ≡ fuel → Refuted rooms f)
      → (s : StateClaim) (place : ℕ) (numbers : List ℕ) → place < length places → idle_from 0 places s.entries ≤ rooms → most_work states ≤ s.work + fuel
      → (e : StateEntry) → entry_at s.entries place ≡ Some e → 1 ≤ length numbers
      → AllZip (NamesAbove states) (children_of (graph place) deadline s place (Some e)) numbers
      → HasFailing places job n s.entries s.work → ⊥
  moved_refuted rooms fuel less s place numbers l idle work e some long zip has =
      let g : Digraph = graph place in
      let vs : List ℕ = get_or has.0 place [] in
      let is : IsFuture g (entry_at s.entries place) vs = future_at 0 place place places s.entries has.0 (omega arith) l has.1.are in
      let walk : IsWalk g (e.vertex ∷ vs) = subst (λ o. IsFuture g o vs) some is in
      let child = λ (x : Edge). child_at s place x.to (e.offset + x.sep) (s.work + wcet g e.vertex) in
      let test = λ (x : Edge). ltb (e.offset + x.sep) deadline in
      let first = edge_passing states child test (out_edges g e.vertex) numbers long zip in
      let early = ltb-true (e.offset + (edge_of g e.vertex first.number).sep) deadline first.passes in
      let moved = move g (sound place no_place l) deadline n e.offset e.vertex vs first.number within walk first.here early in
      let x : Edge = edge_of g e.vertex moved.number in
      let f : StateEntry = record { place = place; vertex = x.to; offset = e.offset + x.sep } in
      let more : (t : ℕ) → t ≤ n → future_asked g (entry_at s.entries place) vs t ≤ wcet g e.vertex + request g x.to moved.rest (t - (e.offset + x.sep)) =
      subst (λ o. (t : ℕ) → t ≤ n → future_asked g o vs t ≤ wcet g e.vertex + request g x.to moved.rest (t - (e.offset + x.sep))) (sym some) moved.more in
      let changed = failing_changed places job n s.entries s.work has.0 has.1 f (wcet g e.vertex) moved.rest l moved.walk more in
      let named = edge_named states child test (out_edges g e.vertex) numbers moved.number moved.here (lt-ltb (e.offset + x.sep) deadline moved.early) zip in
      let same = idle_moved places f e s.entries l some in
      let takes = ((sound place no_place l).wcet e.vertex walk.0).0 in
      let above = state_at states named.0 (λ q. Dominates q (child x)) named.1 in
      let grows = above.is.work in
      let greatest = work_most states named.0 above.state above.at in
      let refuted = less (fuel - 1) (omega (arith, grows, greatest, takes, work)) in
      named_refuted rooms (fuel - 1) refuted (child x) named (omega (arith, same, idle)) (omega (arith, takes, work)) changed

  -- No such state passes, and none is split.
  step : (rooms fuel : ℕ) → ((r : ℕ) → r + 1 ≡ rooms → (f : ℕ) → Refuted r f) → ((f : ℕ) → f + 1 ≡ fuel → Refuted rooms f) → Refuted rooms fuel
  step rooms fuel less_room less_fuel k s at idle work has =
      let l = slice_get_within states k s at in
      let here = get_or_from_slice_get states k s s at in
      let pass = subst (λ q. IsPassing n job tails q q.end) here (passing k s l) in
      let split = subst (λ q. IsSplitting (graphs_of_places places) deadline states q q.end) here (dominated k s l) in
      ends s.end pass split
    where
      -- by how the state ends
      ends : (end : StateEnd) → IsPassing n job tails s end → IsSplitting (graphs_of_places places) deadline states s end → ⊥
      ends (Passes t) room split = passes_not s t room has
      ends (Splits place numbers) room split = goes (entry_at s.entries place) refl each
        where
          inside : place < length places
          inside = let l = split.place_is in let same = length-map places (λ (p : Place). p.graph) in omega (arith, l, same)

          each : AllZip (NamesAbove states) (children_of (graph place) deadline s place (entry_at s.entries place)) numbers
          each = graph_at places place (λ g. AllZip (NamesAbove states) (children_of g deadline s place (entry_at s.entries place)) numbers) split.each inside

          goes : (o : Option StateEntry) → entry_at s.entries place ≡ o → AllZip (NamesAbove states) (children_of (graph place) deadline s place o) numbers → ⊥
          goes None none zip = opened_refuted rooms less_room s place numbers inside idle none zip has
          goes (Some e) some zip = moved_refuted rooms fuel less_fuel s place numbers inside idle work e some split.some zip has

  -- None of them has, with so many places without an entry.
  by_fuel : (rooms : ℕ) → ((r : ℕ) → r + 1 ≡ rooms → (f : ℕ) → Refuted r f) → (fuel : ℕ) → Refuted rooms fuel
  by_fuel rooms less zero = step rooms 0 less (λ f e. absurd (omega arith))
  by_fuel rooms less (suc fuel) =
      let later = by_fuel rooms less fuel in
      step rooms (suc fuel) less (λ f e. subst (λ x. Refuted rooms x) (let same : fuel ≡ f = omega arith in same) later)

  -- None of them has, at all.
  refuted : (rooms fuel : ℕ) → Refuted rooms fuel
  refuted zero = by_fuel 0 (λ r e. absurd (omega arith))
  refuted (suc rooms) =
      let later = refuted rooms in
      by_fuel (suc rooms) (λ r e. subst (λ x. (f : ℕ) → Refuted x f) (let same : rooms ≡ r = omega arith in same) later)

  -- For no walks of the places' graphs no time passes.
  walks_pass : AreStates (graphs_of_places places) states → (walks : List (List ℕ)) → AreWalksOf places walks
      → ((t : ℕ) → 1 ≤ t → t ≤ n → t < job + asked_together (graphs_of_places places) walks t) → ⊥
  walks_pass opens walks is fails =
      let r = state_at states 0 IsOpening opens.opens in
      let first : HasFailing places job n [] 0 = (
        walks,
        record {
          are = first_futures 0 places walks is;
          fails = λ t some to. (let late = fails t some to in let same = first_asked 0 places walks t in omega (arith, late, same));
        },
      ) in
      let with_entries = subst (λ es. HasFailing places job n es 0) (sym r.is.entries) first in
      let has = subst (λ w. HasFailing places job n r.state.entries w) (sym r.is.work) with_entries in
      refuted (idle_from 0 places r.state.entries) (most_work states) 0 r.state r.at (omega arith) (omega arith) has

-- Some t up to n with f t up to t, or none.
pub found : (f : ℕ → ℕ) (n : ℕ) → ((t : ℕ) × (1 ≤ t) × (t ≤ n) × (f t ≤ t)) ⊎ ((t : ℕ) → 1 ≤ t → t ≤ n → t < f t)
found f zero = inr (λ t some to. absurd (omega arith))
found f (suc n) = go (found f n) (cases_lt (suc n) (f (suc n)))
  where
    go : ((t : ℕ) × (1 ≤ t) × (t ≤ n) × (f t ≤ t)) ⊎ ((t : ℕ) → 1 ≤ t → t ≤ n → t < f t) → (suc n < f (suc n)) ⊎ (f (suc n) ≤ suc n)
        → ((t : ℕ) × (1 ≤ t) × (t ≤ suc n) × (f t ≤ t)) ⊎ ((t : ℕ) → 1 ≤ t → t ≤ suc n → t < f t)
    go (inl (t, some, to, fits)) last = inl (t, some, omega arith, fits)
    go (inr none) (inr fits) = inl (suc n, omega arith, omega arith, fits)
    go (inr none) (inl fails) = inr (λ t some to. at t some to (cases_lt n t))
      where
        at : (t : ℕ) → 1 ≤ t → t ≤ suc n → (n < t) ⊎ (t ≤ n) → t < f t
        at t some to (inr before) = none t some before
        at t some to (inl after) = let e : suc n ≡ t = omega arith in subst (λ x. x < f x) e fails

pub states_pass : StatesPass
states_pass places tails job deadline n states sound near are bounds opens within passing dominated walks is =
    go (found (λ t. job + asked_together (graphs_of_places places) walks t) n)
  where
    go : ((t : ℕ) × (1 ≤ t) × (t ≤ n) × (job + asked_together (graphs_of_places places) walks t ≤ t))
        ⊎ ((t : ℕ) → 1 ≤ t → t ≤ n → t < job + asked_together (graphs_of_places places) walks t)
        → (t : ℕ) × (1 ≤ t) × (t ≤ n) × (job + asked_together (graphs_of_places places) walks t ≤ t)
    go (inl passes) = passes
    go (inr fails) = absurd (walks_pass places tails job deadline n states sound near are bounds within passing dominated opens walks is fails)
