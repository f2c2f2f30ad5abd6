-- Futures of walks: of a place that a state names, the vertices that its walk goes on to from there; of any other place, its walk. What
-- they ask for, and how it changes with the entries of the state.
use Rattle.std.proofs.Common.{◌≡◌, ℕ, zero, suc, ◌+◌, ◌-◌, ◌<◌, ◌≤◌, None, Some, List, [], ◌∷◌, length, get_or, refl, sym, ap, subst, arith}
use Rattle.std.specs.Prelude.{Option}
use Rattle.drt_model.specs.Digraph.{Digraph}
use Rattle.drt_model.specs.Walk.{request, IsWalk, request_of}
use Rattle.drt_states.specs.declared.claims.StateEntry.{StateEntry}
use Rattle.drt_states.specs.States.{entry_at}
use Rattle.drt_states.specs.Tails.{Place, graphs_of_places}
use Rattle.drt_states_laws.specs.Laws.{AreWalksOf, asked_together}
use Rattle.drt_states_laws.proofs.Requests.{request_grows}

-- The vertices that the walk of a place goes on to from its entry's, or without an entry the walk.
abbrev pub IsFuture : Digraph → Option StateEntry → List ℕ → Type 0
IsFuture g None vs = IsWalk g vs
IsFuture g (Some e) vs = IsWalk g (e.vertex ∷ vs)

-- What it asks for before t, from the entry's offset on.
abbrev pub future_asked : Digraph → Option StateEntry → List ℕ → ℕ → ℕ
future_asked g None vs t = request_of g vs t
future_asked g (Some e) vs t = request g e.vertex vs (t - e.offset)

-- There is one of each of some places, the first of which has this number.
abbrev pub AreFutures : ℕ → List Place → List StateEntry → List (List ℕ) → Type 0
AreFutures i [] entries [] = Unit {0}
AreFutures i [] entries (vs ∷ futures) = ⊥
AreFutures i (p ∷ places) entries [] = ⊥
AreFutures i (p ∷ places) entries (vs ∷ futures) = IsFuture p.graph (entry_at entries i) vs × AreFutures (i + 1) places entries futures

-- What they ask for before t together.
unfoldable pub futures_asked : ℕ → List Place → List StateEntry → List (List ℕ) → ℕ → ℕ
futures_asked i [] entries futures t = 0
futures_asked i (p ∷ places) entries [] t = 0
futures_asked i (p ∷ places) entries (vs ∷ futures) t = future_asked p.graph (entry_at entries i) vs t + futures_asked (i + 1) places entries futures t

-- Both stand at the same vertex, the first no later than the second, or neither stands anywhere.
abbrev pub IsAbove : Option StateEntry → Option StateEntry → Type 0
IsAbove None None = Unit {0}
IsAbove None (Some f) = ⊥
IsAbove (Some e) None = ⊥
IsAbove (Some e) (Some f) = (e.vertex ≡ f.vertex) × (e.offset ≤ f.offset)

pub above_same : (o p : Option StateEntry) → o ≡ p → IsAbove o p
above_same o p same = subst (λ q. IsAbove o q) same (itself o)
  where
    itself : (q : Option StateEntry) → IsAbove q q
    itself None = tt
    itself (Some e) = (refl, omega arith)

above_future : (g : Digraph) (o p : Option StateEntry) (vs : List ℕ) → IsAbove o p → IsFuture g p vs → IsFuture g o vs
above_future g None None vs is future = future
above_future g None (Some f) vs is future = absurd is
above_future g (Some e) None vs is future = absurd is
above_future g (Some e) (Some f) vs is future = subst (λ u. IsWalk g (u ∷ vs)) (sym is.0) future

above_asked : (g : Digraph) (o p : Option StateEntry) (vs : List ℕ) (t : ℕ) → IsAbove o p → future_asked g p vs t ≤ future_asked g o vs t
above_asked g None None vs t is = omega arith
above_asked g None (Some f) vs t is = absurd is
above_asked g (Some e) None vs t is = absurd is
above_asked g (Some e) (Some f) vs t is =
    let same : request g e.vertex vs (t - f.offset) ≡ request g f.vertex vs (t - f.offset) = ap (λ u. request g u vs (t - f.offset)) is.0 in
    let early = is.1 in
    let grows = request_grows g e.vertex vs (t - f.offset) (t - e.offset) (omega (arith, early)) in
    omega (arith, same, grows)

-- The first entries are above the second from a place on.
abbrev pub AreAbove : ℕ → List StateEntry → List StateEntry → Type 0
AreAbove i above entries = (j : ℕ) → i ≤ j → IsAbove (entry_at above j) (entry_at entries j)

pub above_from : (i : ℕ) (above entries : List StateEntry) → AreAbove i above entries → AreAbove (i + 1) above entries
above_from i above entries are j l = are j (omega arith)

-- The futures of entries are those of the entries above them.
pub above_futures : (i : ℕ) (places : List Place) (above entries : List StateEntry) (futures : List (List ℕ)) → AreAbove i above entries
    → AreFutures i places entries futures → AreFutures i places above futures
above_futures i [] above entries [] are futures = tt
above_futures i [] above entries (vs ∷ rest) are futures = absurd futures
above_futures i (p ∷ places) above entries [] are futures = absurd futures
above_futures i (p ∷ places) above entries (vs ∷ rest) are futures = (
  above_future p.graph (entry_at above i) (entry_at entries i) vs (are i (omega arith)) futures.0,
  above_futures (i + 1) places above entries rest (above_from i above entries are) futures.1,
)

-- They ask for no less there.
pub above_more : (i : ℕ) (places : List Place) (above entries : List StateEntry) (futures : List (List ℕ)) (t : ℕ) → AreAbove i above entries
    → futures_asked i places entries futures t ≤ futures_asked i places above futures t
unfolding futures_asked
above_more i [] above entries futures t are = omega arith
above_more i (p ∷ places) above entries [] t are = omega arith
above_more i (p ∷ places) above entries (vs ∷ futures) t are =
    let first = above_asked p.graph (entry_at above i) (entry_at entries i) vs t (are i (omega arith)) in
    let rest = above_more (i + 1) places above entries futures t (above_from i above entries are) in
    omega (arith, first, rest)

none_at : (i : ℕ) → entry_at [] i ≡ None
unfolding entry_at
none_at i = refl

-- Walks are the futures of no entries, and ask for the same.
pub first_futures : (i : ℕ) (places : List Place) (walks : List (List ℕ)) → AreWalksOf places walks → AreFutures i places [] walks
first_futures i [] [] are = tt
first_futures i [] (w ∷ walks) are = absurd are
first_futures i (p ∷ places) [] are = absurd are
first_futures i (p ∷ places) (w ∷ walks) are = (subst (λ o. IsFuture p.graph o w) (sym (none_at i)) are.0, first_futures (i + 1) places walks are.1)

pub first_asked : (i : ℕ) (places : List Place) (walks : List (List ℕ)) (t : ℕ) → futures_asked i places [] walks t ≡ asked_together (graphs_of_places places) walks t
unfolding futures_asked asked_together
first_asked i [] walks t = refl
first_asked i (p ∷ places) [] t = refl
first_asked i (p ∷ places) (w ∷ walks) t =
    let here : future_asked p.graph (entry_at [] i) w t ≡ request_of p.graph w t = ap (λ o. future_asked p.graph o w t) (none_at i) in
    let rest = first_asked (i + 1) places walks t in
    omega (arith, here, rest)

-- What stands for a place past the last one.
abbrev pub no_place : Place
no_place = record { graph = record { vertices = []; out = [] }; bound = 0 }

-- The future of the place of number i + k.
pub future_at : (i k place : ℕ) (places : List Place) (entries : List StateEntry) (futures : List (List ℕ)) → i + k ≡ place → k < length places
    → AreFutures i places entries futures → IsFuture (get_or places k no_place).graph (entry_at entries place) (get_or futures k [])
future_at i k place [] entries futures at l are = absurd (omega arith)
future_at i k place (p ∷ places) entries [] at l are = absurd are
future_at i zero place (p ∷ places) entries (vs ∷ futures) at l are =
    let e : i ≡ place = omega arith in
    subst (λ j. IsFuture p.graph (entry_at entries j) vs) e are.0
future_at i (suc k) place (p ∷ places) entries (vs ∷ futures) at l are = future_at (i + 1) k place places entries futures (omega arith) (omega (arith, l)) are.1

-- The entries differ at one place alone.
abbrev pub DifferAt : ℕ → List StateEntry → List StateEntry → Type 0
DifferAt place entries others = (j : ℕ) → (j ≡ place → ⊥) → entry_at others j ≡ entry_at entries j

-- Futures that are changed at a place, and ask there for no less but for an extra.
pub record Changed (i : ℕ) (places : List Place) (entries others : List StateEntry) (futures : List (List ℕ)) (n extra : ℕ) : Type 0 where
  pub changed : List (List ℕ)
  pub are : AreFutures i places others changed
  pub more : (t : ℕ) → t ≤ n → futures_asked i places entries futures t ≤ extra + futures_asked i places others changed t

change_here : (i : ℕ) (p : Place) (places : List Place) (entries others : List StateEntry) (vs ws : List ℕ) (futures : List (List ℕ)) (n extra : ℕ)
    → DifferAt i entries others → AreFutures i (p ∷ places) entries (vs ∷ futures) → IsFuture p.graph (entry_at others i) ws
    → ((t : ℕ) → t ≤ n → future_asked p.graph (entry_at entries i) vs t ≤ extra + future_asked p.graph (entry_at others i) ws t)
    → Changed i (p ∷ places) entries others (vs ∷ futures) n extra
unfolding futures_asked
change_here i p places entries others vs ws futures n extra differ are is more = record {
  changed = ws ∷ futures;
  are = (is, above_futures (i + 1) places others entries futures above are.1);
  more = λ t l.
      (let first = more t l in
      let rest = above_more (i + 1) places others entries futures t above in
      omega (arith, first, rest));
}
  where
    above : AreAbove (i + 1) others entries
    above j l = above_same (entry_at others j) (entry_at entries j) (differ j (λ e. omega arith))

change_later : (i : ℕ) (p : Place) (places : List Place) (entries others : List StateEntry) (vs : List ℕ) (futures : List (List ℕ)) (n extra : ℕ)
    → entry_at others i ≡ entry_at entries i → AreFutures i (p ∷ places) entries (vs ∷ futures)
    → Changed (i + 1) places entries others futures n extra → Changed i (p ∷ places) entries others (vs ∷ futures) n extra
unfolding futures_asked
change_later i p places entries others vs futures n extra same are later = record {
  changed = vs ∷ later.changed;
  are = (subst (λ o. IsFuture p.graph o vs) (sym same) are.0, later.are);
  more = λ t l.
      (let rest = later.more t l in
      let here : future_asked p.graph (entry_at others i) vs t ≡ future_asked p.graph (entry_at entries i) vs t = ap (λ o. future_asked p.graph o vs t) same in
      omega (arith, rest, here));
}

-- Futures with another one at the place of number i + k.
pub change : (i k place : ℕ) (places : List Place) (entries others : List StateEntry) (futures : List (List ℕ)) (n extra : ℕ) (ws : List ℕ)
    → i + k ≡ place → k < length places → DifferAt place entries others → AreFutures i places entries futures
    → IsFuture (get_or places k no_place).graph (entry_at others place) ws
    → ((t : ℕ) → t ≤ n → future_asked (get_or places k no_place).graph (entry_at entries place) (get_or futures k []) t
    ≤ extra + future_asked (get_or places k no_place).graph (entry_at others place) ws t)
    → Changed i places entries others futures n extra
change i k place [] entries others futures n extra ws at l differ are is more = absurd (omega arith)
change i k place (p ∷ places) entries others [] n extra ws at l differ are is more = absurd are
change i zero place (p ∷ places) entries others (vs ∷ futures) n extra ws at l differ are is more =
    let e : place ≡ i = omega arith in
    change_here i p places entries others vs ws futures n extra
    (subst (λ q. DifferAt q entries others) e differ) are (subst (λ q. IsFuture p.graph (entry_at others q) ws) e is)
    (subst (λ q. (t : ℕ) → t ≤ n → future_asked p.graph (entry_at entries q) vs t ≤ extra + future_asked p.graph (entry_at others q) ws t) e more)
change i (suc k) place (p ∷ places) entries others (vs ∷ futures) n extra ws at l differ are is more =
    change_later i p places entries others vs futures n extra (differ i (λ e. omega arith)) are
    (change (i + 1) k place places entries others futures n extra ws (omega arith) (omega (arith, l)) differ are.1 is more)
