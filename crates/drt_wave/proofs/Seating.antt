-- Steps of one seat of a lane among those of a table, and a loop that looks at each lane.
use Rattle.std.proofs.Common.{◌≡◌, ◌≢◌, ◌⊎◌, ℕ, ◌+◌, ◌/◌, ◌<◌, ◌≤◌, List, ◌∷◌, ◌*◌}
use Rattle.std.proofs.Common.{length, get_or, set, sym, refl, ap, ◌∙◌, subst, inl, inr, ⊎_elim, length-set, arith}
use Rattle.std.specs.Prelude.{vec_capacity}
use Rattle.std.specs.Vec.{with_item}
use Rattle.std.proofs.lemmas.Nat.{div-mul-add}
use mathlib.Core.Logic.{dite}
use mathlib.Core.Option.{some, some-injective}
use native.Mathlib.Decide.{ℕ_discrete}
use lib.ListN.{get_elem?}
use Rattle.atomic_table.proofs.Lists.{at_set, at_index, set_here, set_else}
use Rattle.drt_model.specs.Digraph.{vertex_count}
use Rattle.drt_wave.specs.declared.plan.Plan.{Plan}
use Rattle.drt_wave.specs.declared.view.LaneKey.{LaneKey}
use Rattle.drt_wave.specs.declared.view.LaneView.{LaneView}
use Rattle.drt_wave.specs.declared.lane.Lane.{Lane}
use Rattle.drt_wave.specs.declared.seat.WaveSeat.{WaveSeat}
use Rattle.drt_wave.specs.declared.table.WaveTable.{WaveTable}
use Rattle.drt_wave.specs.Net.{Net, Among, IsGreatestReaching}
use Rattle.drt_wave.specs.Cells.{net_of, cell_at, width, IsWavePlan}
use Rattle.drt_wave.specs.Keys.{lane_net, lane_first, lane_count}
use Rattle.drt_wave.specs.Lanes.{Settled, Learns}
use Rattle.drt_wave.specs.Lane.{LaneSeat, IsLane, IsLaneSeat, IsClaimSeat}
use Rattle.drt_wave.specs.Seats.{parts_held, HasRaised, HasNoMore, KnowsTo, IsOfTable, IsSeatKept, ExpandedTo}
use Rattle.drt_wave.proofs.Cells.{cell_vertex, cell_offset}
use Rattle.drt_wave.proofs.Sums.{at_inside, at_there}

-- what holds of a cell of the plan holds of it as a cell of the lane, and the other way round
module _ (F : Net → ℕ → Type 0) (p : Plan) (v o : ℕ) (l : Lane) (is : IsLane p v l) where
  pub to_lane : F (net_of p) (cell_at p v o) → F (lane_net l.table.shared.key) (lane_first l.table.shared.key + o)
  to_lane h = subst (λ (q : Plan × ℕ). F (net_of q.0) (cell_at q.0 q.1 o)) (λ i. (sym is.plan i, sym is.vertex i)) h

  pub of_lane : F (lane_net l.table.shared.key) (lane_first l.table.shared.key + o) → F (net_of p) (cell_at p v o)
  of_lane h = subst (λ (q : Plan × ℕ). F (net_of q.0) (cell_at q.0 q.1 o)) (λ i. (is.plan i, is.vertex i)) h

-- the lane and the seat that were read at v are those of vertex v
pub record Found (t : WaveTable) (s : WaveSeat) (v : ℕ) (l : Lane) (y : LaneSeat) : Type 0 where
  pub at_lane : get_elem? t.lanes v ≡ some l
  pub at_seat : get_elem? s.lanes.items v ≡ some y
  pub lane : IsLane t.plan v l
  pub sits : IsLaneSeat l y
  pub parts : y.me.0.parts ≡ parts_held s

pub vertex_inside : (t : WaveTable) (v : ℕ) → v < vertex_count t.plan.graph → v < length t.lanes
vertex_inside t v lt = subst (λ n. v < n) (sym t.laned.count) lt

pub found_at : (t : WaveTable) (s : WaveSeat) (v : ℕ) (l : Lane) (y : LaneSeat) → IsOfTable t s → get_elem? t.lanes v ≡ some l → get_elem? s.lanes.items v ≡ some y → Found t s v l y
found_at t s v l y is at_l at_y = let h = is.lane v l y at_l at_y in record { at_lane = at_l; at_seat = at_y; lane = t.laned.each v l at_l; sits = h.0; parts = h.1 }

pub lane_read : (t : WaveTable) (v : ℕ) (l : Lane) (xs : List Lane) → v < length t.lanes → xs ≡ t.lanes → l ≡ get_or xs v l → get_elem? t.lanes v ≡ some l
lane_read t v l xs lt same is = at_index t.lanes v l lt (subst (λ ys. l ≡ get_or ys v l) same is)

pub found : (t : WaveTable) (s : WaveSeat) (v : ℕ) (l : Lane) (y : LaneSeat) (xs : List Lane) → IsOfTable t s → v < length t.lanes → xs ≡ t.lanes → l ≡ get_or xs v l → y ≡ get_or s.lanes.items v y
    → Found t s v l y
found t s v l y xs is lt same is_l is_y =
    found_at t s v l y is (lane_read t v l xs lt same is_l) (at_index s.lanes.items v y (omega (arith, lt, is.count)) is_y)

-- the cell is of a wave that the seat knows
pub low_wave : (p : Plan) (s : WaveSeat) (v o k : ℕ) (l : Lane) (y : LaneSeat) → IsLane p v l → get_elem? s.lanes.items v ≡ some y → o ≤ p.bound → KnowsTo k s → o / p.span ≤ k
    → (lane_net l.table.shared.key).wave (lane_first l.table.shared.key + o) ≤ y.me.0.known
low_wave p s v o k l y is at_y le known low =
    let n : ℕ = y.me.0.known in
    to_lane (λ g c. g.wave c ≤ n) p v o l is (subst (λ r. r / p.span ≤ n) (sym (cell_offset p v o le)) (let h = known v y at_y in omega (arith, low, h)))

-- the seat after the one of lane v became n
abbrev pub with_seat : WaveSeat → ℕ → LaneSeat → WaveSeat
with_seat s v n = record { claims = s.claims; lanes = with_item s.lanes v n }

pub with_is_of : (t : WaveTable) (s : WaveSeat) (v : ℕ) (l : Lane) (y n : LaneSeat) → IsOfTable t s → get_elem? t.lanes v ≡ some l → get_elem? s.lanes.items v ≡ some y
    → IsLaneSeat l n → n.me.0.parts ≡ y.me.0.parts → IsOfTable t (with_seat s v n)
with_is_of t s v l y n is at_l at_y sits parts = record {
  claims = is.claims;
  count = length-set s.lanes.items v n ∙ is.count;
  room = is.room;
  lane = λ i k u at_k at_u. ⊎_elim
      (λ (e : (i ≡ v) × (n ≡ u)).
      let same : l ≡ k = some-injective l k (sym at_l ∙ ap (get_elem? t.lanes) (sym e.0) ∙ at_k) in (
        subst (λ (q : Lane × LaneSeat). IsLaneSeat q.0 q.1) (λ j. (same j, e.1 j)) sits,
        ap (λ (z : LaneSeat). z.me.0.parts) (sym e.1) ∙ parts ∙ (is.lane v l y at_l at_y).1,
      ))
      (λ (e : (i ≢ v) × (get_elem? s.lanes.items i ≡ some u)). is.lane i k u at_k e.1)
      (at_set s.lanes.items v i n u at_u);
}

module _ (s : WaveSeat) (v : ℕ) (y n : LaneSeat) (at_y : get_elem? s.lanes.items v ≡ some y) where
  here : get_elem? (set s.lanes.items v n) v ≡ some n
  here = set_here s.lanes.items v n (at_inside s.lanes.items v y at_y)

  pub with_kept : y.me.0.known ≤ n.me.0.known → ((o x : ℕ) → Among (o, x) y.me.0.raised → Among (o, x) n.me.0.raised) → IsSeatKept s (with_seat s v n)
  with_kept known raised = record {
    parts = refl;
    draws = refl;
    known = λ k h i u at_u. ⊎_elim
        (λ (e : (i ≡ v) × (n ≡ u)). let was = h v y at_y in let le : k ≤ n.me.0.known = omega (arith, was, known) in subst (λ (z : LaneSeat). k ≤ z.me.0.known) e.1 le)
        (λ (e : (i ≢ v) × (get_elem? s.lanes.items i ≡ some u)). h i u e.1)
        (at_set s.lanes.items v i n u at_u);
    raised = λ i o x h. dite (ℕ_discrete i v)
        (λ e.
        let was : h.0 ≡ y = some-injective h.0 y (sym h.1 ∙ ap (get_elem? s.lanes.items) e ∙ at_y) in
        (n, ap (get_elem? (set s.lanes.items v n)) e ∙ here, raised o x (subst (λ (z : LaneSeat). Among (o, x) z.me.0.raised) was h.2)))
        (λ ne. (h.0, set_else s.lanes.items v i n ne ∙ h.1, h.2));
  }

  pub with_raised : (o x : ℕ) → Among (o, x) n.me.0.raised → HasRaised (with_seat s v n) v o x
  with_raised o x a = (n, here, a)

  -- what the seat of lane v contributed
  pub raised_here : (o x : ℕ) → HasRaised s v o x → Among (o, x) y.me.0.raised
  raised_here o x r = subst (λ (z : LaneSeat). Among (o, x) z.me.0.raised) (some-injective r.0 y (sym r.1 ∙ at_y)) r.2

  -- a contribution was there before, or is one of the seat of lane v
  pub with_only : (i o x : ℕ) → HasRaised (with_seat s v n) i o x → ((i ≡ v) × Among (o, x) n.me.0.raised) ⊎ HasRaised s i o x
  with_only i o x r = ⊎_elim
      (λ (e : (i ≡ v) × (n ≡ r.0)). inl (e.0, subst (λ (z : LaneSeat). Among (o, x) z.me.0.raised) (sym e.1) r.2))
      (λ (e : (i ≢ v) × (get_elem? s.lanes.items i ≡ some r.0)). inr (r.0, e.1, r.2))
      (at_set s.lanes.items v i n r.0 r.1)

  -- the seat of lane v contributed work w at offset p, and nothing else
  pub only_this : (p w : ℕ) → n.me.0.raised ≡ (p, w) ∷ y.me.0.raised → (i o x : ℕ) → HasRaised (with_seat s v n) i o x
      → ((i ≡ v) × (o ≡ p) × (x ≡ w)) ⊎ HasRaised s i o x
  only_this p w is i o x r = ⊎_elim
      (λ (e : (i ≡ v) × Among (o, x) n.me.0.raised). ⊎_elim
      (λ (q : (p, w) ≡ (o, x)). inl (e.0, sym (ap (λ (z : ℕ × ℕ). z.0) q), sym (ap (λ (z : ℕ × ℕ). z.1) q)))
      (λ (a : Among (o, x) y.me.0.raised). inr (y, ap (get_elem? s.lanes.items) e.0 ∙ at_y, a))
      (subst (Among (o, x)) is e.1))
      (λ (was : HasRaised s i o x). inr was)
      (with_only i o x r)

  pub with_same : ((o x : ℕ) → Among (o, x) n.me.0.raised → Among (o, x) y.me.0.raised) → HasNoMore s (with_seat s v n)
  with_same back i o x r = ⊎_elim
      (λ (e : (i ≡ v) × Among (o, x) n.me.0.raised). (y, ap (get_elem? s.lanes.items) e.0 ∙ at_y, back o x e.1))
      (λ (was : HasRaised s i o x). was)
      (with_only i o x r)

-- The seat of lane v passed on what the cells up to wave j have for the lane.
abbrev Settles : Plan → ℕ → LaneView LaneKey → ℕ → Type 0
Settles p v w j = (b : ℕ) → b < (net_of p).cells → (net_of p).wave b ≤ j
    → (x : ℕ) × IsGreatestReaching (net_of p) b x × (x ≢ 0 → (o a : ℕ) → o < width p → Among (cell_at p v o, a) ((net_of p).arcs b) → Among (o, x + a) w.raised)

settles : (p : Plan) (s : WaveSeat) (j v : ℕ) (y : LaneSeat) → get_elem? s.lanes.items v ≡ some y → ExpandedTo p j s → Settles p v y.me.0 j
settles p s j v y at_y expanded b lt low =
    let e = expanded b lt low in (
      e.0,
      e.1,
      λ some_work o a lto arc.
          let le : o ≤ p.bound = omega arith in
          let r : HasRaised s v o (e.0 + a) = subst (λ (q : ℕ × ℕ). HasRaised s q.0 q.1 (e.0 + a)) (λ i. (cell_vertex p v o le i, cell_offset p v o le i)) (e.2 some_work (cell_at p v o) a arc) in
          let is : r.0 ≡ y = some-injective r.0 y (sym r.1 ∙ at_y) in
          subst (λ (z : LaneSeat). Among (o, e.0 + a) z.me.0.raised) is r.2,
    )

-- the wave of a lane's cell at the first offset of wave j
pub first_wave : (p : Plan) (v j o : ℕ) (l : Lane) → IsWavePlan p → IsLane p v l → o ≤ p.bound → o ≡ j * p.span → (lane_net l.table.shared.key).wave (lane_first l.table.shared.key + o) ≡ j
first_wave p v j o l plan is le first =
    let m : ℕ = j * p.span in let begun : o ≡ j * p.span + 0 = omega (arith, first) in
    to_lane (λ g c. g.wave c ≡ j) p v o l is (ap (λ r. r / p.span) (cell_offset p v o le ∙ begun) ∙ div-mul-add j p.span 0 plan.some)

pub settled_at : (p : Plan) (s : WaveSeat) (j v o : ℕ) (l : Lane) (y : LaneSeat) → IsWavePlan p → IsLane p v l → get_elem? s.lanes.items v ≡ some y → o ≤ p.bound → o ≡ j * p.span → ExpandedTo p j s
    → Settled lane_net lane_first lane_count l.table.shared.key y.me.0 ((lane_net l.table.shared.key).wave (lane_first l.table.shared.key + o))
settled_at p s j v o l y plan is at_y le first expanded =
    subst (Settled lane_net lane_first lane_count l.table.shared.key y.me.0) (sym (first_wave p v j o l plan is le first))
    (subst (λ (q : Plan × ℕ). Settles q.0 q.1 y.me.0 j) (λ i. (sym is.plan i, sym is.vertex i)) (settles p s j v y at_y expanded))

-- From s to n the seats of the first k lanes learnt something, which is of wave j + 1 where each cell up to wave j is expanded, and the others stand as
-- they did.
pub record HaveLooked (t : WaveTable) (j : ℕ) (s n : WaveSeat) (k : ℕ) : Type 0 where
  pub claims : n.claims ≡ s.claims
  pub room : vec_capacity n.lanes ≡ vec_capacity s.lanes
  pub count : length n.lanes.items ≡ length s.lanes.items
  pub done : (i : ℕ) (l : Lane) (y u : LaneSeat) → i < k → get_elem? t.lanes i ≡ some l → get_elem? s.lanes.items i ≡ some y → get_elem? n.lanes.items i ≡ some u
      → IsLaneSeat l u × Learns y.me.0 u.me.0 × (ExpandedTo t.plan j s → j + 1 ≤ u.me.0.known)
  pub left : (i : ℕ) → k ≤ i → get_elem? n.lanes.items i ≡ get_elem? s.lanes.items i

-- what was read at the next lane
pub next_found : (t : WaveTable) (j : ℕ) (s n : WaveSeat) (v : ℕ) (l : Lane) (y : LaneSeat) (xs : List Lane) → IsOfTable t s → HaveLooked t j s n v → v < length xs → xs ≡ t.lanes → l ≡ get_or xs v l
    → y ≡ get_or n.lanes.items v y → Found t s v l y × (get_elem? n.lanes.items v ≡ some y)
next_found t j s n v l y xs is h ltx same is_l is_y =
    let lt : v < length t.lanes = subst (λ ys. v < length ys) same ltx in
    let at_y : get_elem? n.lanes.items v ≡ some y = at_index n.lanes.items v y (omega (arith, lt, is.count, h.count)) is_y in
    (found_at t s v l y is (lane_read t v l xs lt same is_l) (sym (h.left v (omega arith)) ∙ at_y), at_y)

pub all_looked : (t : WaveTable) (j : ℕ) (s n : WaveSeat) (k : ℕ) (xs : List Lane) → HaveLooked t j s n k → xs ≡ t.lanes → k ≤ length xs → length xs ≤ k → HaveLooked t j s n (length t.lanes)
all_looked t j s n k xs h same le ge = let e : length xs ≡ length t.lanes = ap length same in let is : k ≡ length t.lanes = omega arith in subst (λ i. HaveLooked t j s n i) is h

pub none_looked : (t : WaveTable) (j : ℕ) (s : WaveSeat) → HaveLooked t j s s 0
none_looked t j s = record {
  claims = refl;
  room = refl;
  count = refl;
  done = λ i l y u lt at_l at_y at_u. absurd (omega arith);
  left = λ i le. refl;
}

pub one_looked : (t : WaveTable) (j : ℕ) (s n : WaveSeat) (k : ℕ) (l : Lane) (y u : LaneSeat) → HaveLooked t j s n k → get_elem? t.lanes k ≡ some l → get_elem? n.lanes.items k ≡ some y
    → IsLaneSeat l u → Learns y.me.0 u.me.0 → (ExpandedTo t.plan j s → j + 1 ≤ u.me.0.known) → HaveLooked t j s (with_seat n k u) (k + 1)
one_looked t j s n k l y u h at_l at_y sits learned final = record {
  claims = h.claims;
  room = h.room;
  count = length-set n.lanes.items k u ∙ h.count;
  done = λ i m a b lt at_m at_a at_b. ⊎_elim
      (λ (e : (i ≡ k) × (u ≡ b)).
      let lanes : l ≡ m = some-injective l m (sym at_l ∙ ap (get_elem? t.lanes) (sym e.0) ∙ at_m) in
      let seats : y ≡ a = some-injective y a (sym at_y ∙ h.left k (omega arith) ∙ ap (get_elem? s.lanes.items) (sym e.0) ∙ at_a) in (
        subst (λ (q : Lane × LaneSeat). IsLaneSeat q.0 q.1) (λ z. (lanes z, e.1 z)) sits,
        subst (λ (q : LaneSeat × LaneSeat). Learns q.0.me.0 q.1.me.0) (λ z. (seats z, e.1 z)) learned,
        λ expanded. subst (λ (z : LaneSeat). j + 1 ≤ z.me.0.known) e.1 (final expanded),
      ))
      (λ (e : (i ≢ k) × (get_elem? n.lanes.items i ≡ some b)). let ne = e.0 in h.done i m a b (omega (arith, lt, ne)) at_m at_a e.1)
      (at_set n.lanes.items k i u b at_b);
  left = λ i le. set_else n.lanes.items k i u (λ e. omega arith) ∙ h.left i (omega arith);
}

module _ (t : WaveTable) (j : ℕ) (s n : WaveSeat) (is : IsOfTable t s) (h : HaveLooked t j s n (length t.lanes)) where
  -- what a seat of the lane at i is
  looked : (i : ℕ) (l : Lane) (u : LaneSeat) → get_elem? t.lanes i ≡ some l → get_elem? n.lanes.items i ≡ some u
      → (y : LaneSeat) × (get_elem? s.lanes.items i ≡ some y) × IsLaneSeat l u × Learns y.me.0 u.me.0 × (ExpandedTo t.plan j s → j + 1 ≤ u.me.0.known)
  looked i l u at_l at_u =
      let inside : i < length t.lanes = at_inside t.lanes i l at_l in
      let y = at_there s.lanes.items i (omega (arith, inside, is.count)) in
      let d = h.done i l y.0 u inside at_l y.1 at_u in (y.0, y.1, d.0, d.1, d.2)

  pub all_is_of : IsOfTable t n
  all_is_of = record {
    claims = subst (λ c. IsClaimSeat t.claims c) (sym h.claims) is.claims;
    count = h.count ∙ is.count;
    room = subst (λ c. length t.lanes ≤ c) (sym h.room) is.room;
    lane = λ i l u at_l at_u.
        let d = looked i l u at_l at_u in
        (d.2, ap (λ (w : LaneView LaneKey). w.parts) d.3.1 ∙ (is.lane i l d.0 at_l d.1).1 ∙ ap (λ c. c.me.0.parts) (sym h.claims));
  }

  pub all_known : ExpandedTo t.plan j s → KnowsTo (j + 1) n
  all_known expanded i u at_u =
      let inside = at_inside n.lanes.items i u at_u in
      let l = at_there t.lanes i (omega (arith, inside, h.count, is.count)) in
      let d = looked i l.0 u l.1 at_u in d.4 expanded

  pub all_kept : IsSeatKept s n
  all_kept = record {
    parts = ap (λ c. c.me.0.parts) h.claims;
    draws = ap (λ c. c.me.0.draws) h.claims;
    known = λ k known i u at_u.
        let inside = at_inside n.lanes.items i u at_u in
        let l = at_there t.lanes i (omega (arith, inside, h.count, is.count)) in
        let d = looked i l.0 u l.1 at_u in let was = known i d.0 d.1 in let more = d.3.2 in
        let le : k ≤ d.3.0 = omega (arith, was, more) in
        subst (λ (w : LaneView LaneKey). k ≤ w.known) (sym d.3.1) le;
    raised = λ i o x r.
        let inside = at_inside s.lanes.items i r.0 r.1 in
        let l = at_there t.lanes i (omega (arith, inside, is.count)) in
        let u = at_there n.lanes.items i (omega (arith, inside, h.count)) in
        let d = h.done i l.0 r.0 u.0 (omega (arith, inside, is.count)) l.1 r.1 u.1 in
        (u.0, u.1, subst (λ rs. Among (o, x) rs) (sym (ap (λ (w : LaneView LaneKey). w.raised) d.1.1)) r.2);
  }

  pub all_same : HasNoMore s n
  all_same i o x r =
      let inside = at_inside n.lanes.items i r.0 r.1 in
      let l = at_there t.lanes i (omega (arith, inside, h.count, is.count)) in
      let d = looked i l.0 r.0 l.1 r.1 in
      (d.0, d.1, subst (λ rs. Among (o, x) rs) (ap (λ (w : LaneView LaneKey). w.raised) d.3.1) r.2)
