-- Seats that are split, joined and closed lane by lane.
use Rattle.std.proofs.Common.{◌≡◌, ◌≢◌, ℕ, zero, suc, ◌+◌, ◌-◌, ◌<◌, ◌≤◌, List, [], ◌∷◌, ◌++◌, length, get_or, set, reverse}
use Rattle.std.proofs.Common.{length-append, refl, sym, ap, ◌∙◌, subst, inl, inr, ⊎_elim, arith}
use Rattle.std.specs.Prelude.{slice_index, vec_capacity}
use Rattle.std.proofs.lemmas.List.{length-set, length-reverse, reverse-append}
use mathlib.Core.Option.{some, some-injective, some-ne-none}
use lib.ListN.{get_elem?}
use Rattle.atomic_table.proofs.Lists.{at_set, at_index, set_else}
use Rattle.drt_model.specs.Digraph.{vertex_count}
use Rattle.drt_wave.specs.declared.plan.Plan.{Plan}
use Rattle.drt_wave.specs.declared.lane.Lane.{Lane}
use Rattle.drt_wave.specs.declared.seat.WaveSeat.{WaveSeat}
use Rattle.drt_wave.specs.declared.table.WaveTable.{WaveTable}
use Rattle.drt_wave.specs.Net.{Among, IsGreatestReaching}
use Rattle.drt_wave.specs.Cells.{net_of, cell_at, width, IsWavePlan}
use Rattle.drt_wave.specs.Keys.{lane_net, lane_first}
use Rattle.drt_wave.specs.Lane.{LaneSeat, IsLane, IsLaneSeat, IsClaimSeat, AreFinal}
use Rattle.drt_wave.specs.Lanes.{lane_left, lane_right, lane_joined}
use Rattle.drt_wave.specs.Claims.{claims_left, claims_right, claims_joined}
use Rattle.drt_wave.specs.Dense.{AreBest, AreWhole}
use Rattle.drt_wave.specs.Seats.{parts_held, draws_of, IsOfTable, IsSeatCut, IsGlued}
use Rattle.drt_wave.proofs.Sums.{at_inside, at_there, at_end, among-append, among_left, among_right}
use Rattle.drt_wave.proofs.Cells.{is_net, cell_lt}
use Rattle.drt_wave.proofs.Seating.{Found, found_at, lane_read}

module _ {A : Type 0} where
  pub at_before : (l m : List A) (i : ℕ) → i < length l → get_elem? (l ++ m) i ≡ get_elem? l i
  at_before [] m i h = absurd (omega arith)
  at_before (x ∷ xs) m zero h = refl
  at_before (x ∷ xs) m (suc i) h = at_before xs m i (omega arith)

  pub at_length : (l : List A) (a : A) → get_elem? (l ++ a ∷ []) (length l) ≡ some a
  at_length [] a = refl
  at_length (x ∷ xs) a = at_length xs a

  pub or_is : (l : List A) (i : ℕ) (a d : A) → get_elem? l i ≡ some a → get_or l i d ≡ a
  or_is [] i a d e = absurd (some-ne-none a (sym e))
  or_is (x ∷ xs) zero a d e = some-injective x a e
  or_is (x ∷ xs) (suc i) a d e = or_is xs i a d e

  pub at_same : (l : List A) (i j : ℕ) (a b : A) → i ≡ j → get_elem? l i ≡ some a → get_elem? l j ≡ some b → a ≡ b
  at_same l i j a b e p q = some-injective a b (sym p ∙ ap (get_elem? l) e ∙ q)

-- what is left of a lane's seat, and what is split off
abbrev pub IsLeft : Lane → LaneSeat → LaneSeat → Type 0
IsLeft l y n = IsLaneSeat l n × (n.me.0 ≡ lane_left y.me.0)

abbrev pub IsRight : Lane → LaneSeat → LaneSeat → Type 0
IsRight l y n = IsLaneSeat l n × (n.me.0 ≡ lane_right y.me.0)

-- what a lane's seat is with another one
abbrev pub IsBoth : Lane → LaneSeat → LaneSeat → LaneSeat → Type 0
IsBoth l y z n = IsLaneSeat l n × (n.me.0 ≡ lane_joined y.me.0 z.me.0)

-- The seats of the first v lanes are split.
pub record Cutting (lanes : List Lane) (olds news cut : List LaneSeat) (v : ℕ) : Type 0 where
  pub count : length news ≡ length lanes
  pub cut_count : length cut ≡ v
  pub left : (i : ℕ) (l : Lane) (y n : LaneSeat) → i < v → get_elem? lanes i ≡ some l → get_elem? olds i ≡ some y → get_elem? news i ≡ some n → IsLeft l y n
  pub right : (i : ℕ) (l : Lane) (y n : LaneSeat) → get_elem? lanes i ≡ some l → get_elem? olds i ≡ some y → get_elem? cut i ≡ some n → IsRight l y n
  pub rest : (i : ℕ) → v ≤ i → get_elem? news i ≡ get_elem? olds i

-- The seats from the n-th one on are joined, and others are those before it.
pub record Gluing (lanes : List Lane) (olds all news others : List LaneSeat) : Type 0 where
  pub count : length news ≡ length lanes
  pub within : length others ≤ length lanes
  pub whose : (i : ℕ) → i < length others → get_elem? others i ≡ get_elem? all i
  pub done : (i : ℕ) (l : Lane) (y z n : LaneSeat) → length others ≤ i
      → get_elem? lanes i ≡ some l → get_elem? olds i ≡ some y → get_elem? all i ≡ some z → get_elem? news i ≡ some n → IsBoth l y z n
  pub rest : (i : ℕ) → i < length others → get_elem? news i ≡ get_elem? olds i

module _ (lanes : List Lane) (olds : List LaneSeat) where
  pub glue_none : (all : List LaneSeat) → length olds ≡ length lanes → length all ≡ length lanes → Gluing lanes olds all olds all
  glue_none all len more = record {
    count = len;
    within = omega (arith, more);
    whose = λ i lt. refl;
    done = λ i l y z n le el ey ez en. let lt = at_inside all i z ez in absurd (omega (arith, lt));
    rest = λ i lt. refl;
  }

  pub cut_more : (news cut : List LaneSeat) (v : ℕ) (l : Lane) (y n r : LaneSeat) → Cutting lanes olds news cut v
      → get_elem? lanes v ≡ some l → get_elem? news v ≡ some y → IsLeft l y n → IsRight l y r → Cutting lanes olds (set news v n) (cut ++ r ∷ []) (v + 1)
  cut_more news cut v l y n r c el ey left right =
      let ey' : get_elem? olds v ≡ some y = sym (c.rest v (omega arith)) ∙ ey in
      let len = c.cut_count in
      record {
        count = length-set news v n ∙ c.count;
        cut_count = omega (arith, length-append cut (r ∷ []), len);
        left = λ i l' y' n' lt fl fy fn. ⊎_elim
            (λ (t : (i ≡ v) × (n ≡ n')). moved IsLeft l l' y y' n n' (at_same lanes v i l l' (sym t.0) el fl) (at_same olds v i y y' (sym t.0) ey' fy) t.1 left)
            (λ (t : (i ≢ v) × (get_elem? news i ≡ some n')). let ne = t.0 in c.left i l' y' n' (omega arith) fl fy t.1) (at_set news v i n n' fn);
        right = λ i l' y' n' fl fy fn. ⊎_elim
            (λ (t : (i < length cut) × (get_elem? cut i ≡ some n')). c.right i l' y' n' fl fy t.1)
            (λ (t : (i ≡ length cut) × (r ≡ n')). let is : v ≡ i = sym (t.0 ∙ len) in
            moved IsRight l l' y y' r n' (at_same lanes v i l l' is el fl) (at_same olds v i y y' is ey' fy) t.1 right) (at_end cut r n' i fn);
        rest = λ i le. set_else news v i n (omega arith) ∙ c.rest i (omega arith);
      }
    where
      moved : (R : Lane → LaneSeat → LaneSeat → Type 0) (l l' : Lane) (y y' n n' : LaneSeat) → l ≡ l' → y ≡ y' → n ≡ n' → R l y n → R l' y' n'
      moved R l l' y y' n n' e f g h = subst (λ (q : Lane × LaneSeat × LaneSeat). R q.0 q.1 q.2) (λ k. (e k, f k, g k)) h

  -- the last of what is left
  pub glue_last : (all news others more : List LaneSeat) (v : ℕ) (z : LaneSeat) → Gluing lanes olds all news others → others ≡ more ++ z ∷ [] → v ≡ length more
      → (length others ≡ v + 1) × (v < length lanes) × (v < length news) × (get_elem? all v ≡ some z) × (get_elem? news v ≡ get_elem? olds v)
  glue_last all news others more v z g is at =
      let len : length others ≡ v + 1 = let e = ap length is in omega (arith, length-append more (z ∷ []), e, at) in
      let within = g.within in let count = g.count in let inside : v < length others = omega (arith, len) in (
        len,
        omega (arith, within, len),
        omega (arith, within, len, count),
        sym (g.whose v inside) ∙ ap (λ (xs : List LaneSeat). get_elem? xs v) is ∙ ap (get_elem? (more ++ z ∷ [])) at ∙ at_length more z,
        g.rest v inside,
      )

  pub glue_more : (all news others more : List LaneSeat) (v : ℕ) (l : Lane) (y z n : LaneSeat) → Gluing lanes olds all news others → others ≡ more ++ z ∷ [] → v ≡ length more
      → get_elem? lanes v ≡ some l → get_elem? news v ≡ some y → IsBoth l y z n → Gluing lanes olds all (set news v n) more
  glue_more all news others more v l y z n g is at el ey both =
      let p = glue_last all news others more v z g is at in let len = p.0 in
      let ey' : get_elem? olds v ≡ some y = sym p.4 ∙ ey in
      let within = g.within in
      record {
        count = length-set news v n ∙ g.count;
        within = omega (arith, within, len, at);
        whose = λ i lt. sym (at_before more (z ∷ []) i lt) ∙ ap (λ (xs : List LaneSeat). get_elem? xs i) (sym is) ∙ g.whose i (omega (arith, len, at));
        done = λ i l' y' z' n' le fl fy fz fn. ⊎_elim
            (λ (t : (i ≡ v) × (n ≡ n')). let e : v ≡ i = sym t.0 in
            moved l l' y y' z z' n n' (at_same lanes v i l l' e el fl) (at_same olds v i y y' e ey' fy) (at_same all v i z z' e p.3 fz) t.1 both)
            (λ (t : (i ≢ v) × (get_elem? news i ≡ some n')). let ne = t.0 in g.done i l' y' z' n' (omega (arith, len, at)) fl fy fz t.1) (at_set news v i n n' fn);
        rest = λ i lt. set_else news v i n (omega (arith, at)) ∙ g.rest i (omega (arith, len, at));
      }
    where
      moved : (l l' : Lane) (y y' z z' n n' : LaneSeat) → l ≡ l' → y ≡ y' → z ≡ z' → n ≡ n' → IsBoth l y z n → IsBoth l' y' z' n'
      moved l l' y y' z z' n n' e f d g h = subst (λ (q : Lane × LaneSeat × LaneSeat × LaneSeat). IsBoth q.0 q.1 q.2 q.3) (λ k. (e k, f k, d k, g k)) h

module _ (t : WaveTable) (s : WaveSeat) (of : IsOfTable t s) where
  abbrev both_at : ℕ → Type 0
  both_at v = (l : Lane) × (y : LaneSeat) × (get_elem? t.lanes v ≡ some l) × (get_elem? s.lanes.items v ≡ some y)

  -- the lane and its seat
  pub lane_there : (v : ℕ) → v < length t.lanes → both_at v
  lane_there v lt = let l = at_there t.lanes v lt in let y = at_there s.lanes.items v (omega (arith, of.count)) in (l.0, y.0, l.1, y.1)

  module _ (left right : WaveSeat) (cut : Cutting t.lanes s.lanes.items left.lanes.items right.lanes.items (length t.lanes)) where
    pub of_left : IsClaimSeat t.claims left.claims → left.claims.me.0 ≡ claims_left s.claims.me.0 → length t.lanes ≤ vec_capacity left.lanes → IsOfTable t left
    of_left claims is room = record {
      claims = claims;
      count = cut.count;
      room = room;
      lane = λ v l n el en.
          let lt = at_inside t.lanes v l el in let y = (at_there s.lanes.items v (omega (arith, of.count))) in
          let p = cut.left v l y.0 n lt el y.1 en in
          (p.0, ap (λ m. m.parts) p.1 ∙ ap (λ k. k - 1) (of.lane v l y.0 el y.1).1 ∙ sym (ap (λ m. m.parts) is));
    }

    pub of_right : IsClaimSeat t.claims right.claims → right.claims.me.0 ≡ claims_right s.claims.me.0 → length t.lanes ≤ vec_capacity right.lanes → IsOfTable t right
    of_right claims is room = record {
      claims = claims;
      count = cut.cut_count;
      room = room;
      lane = λ v l n el en.
          let lt = at_inside t.lanes v l el in let y = (at_there s.lanes.items v (omega (arith, of.count))) in
          let p = cut.right v l y.0 n el y.1 en in
          (p.0, ap (λ m. m.parts) p.1 ∙ sym (ap (λ m. m.parts) is));
    }

    pub is_cut : 1 < parts_held s → left.claims.me.0 ≡ claims_left s.claims.me.0 → right.claims.me.0 ≡ claims_right s.claims.me.0 → IsSeatCut s left right
    is_cut whole is_left is_right = record {
      parts = let e = ap (λ m. m.parts) is_left in omega (arith, e);
      draws = ap (λ m. m.draws) is_left;
      known = λ k knows v n en.
          let b = lane_there v (omega (arith, cut.count, at_inside left.lanes.items v n en)) in
          let same = ap (λ m. m.known) (cut.left v b.0 b.1 n (at_inside t.lanes v b.0 b.2) b.2 b.3 en).1 in let h = knows v b.1 b.3 in omega (arith, same, h);
      raised = λ v o x has.
          let lt = at_inside s.lanes.items v has.0 has.1 in
          let l = at_there t.lanes v (omega (arith, of.count)) in let n = at_there left.lanes.items v (omega (arith, of.count, cut.count)) in
          (n.0, n.1, subst (Among (o, x)) (sym (ap (λ m. m.raised) (cut.left v l.0 has.0 n.0 (at_inside t.lanes v l.0 l.1) l.1 has.1 n.1).1)) has.2);
      same = λ v o x has.
          let b = lane_there v (omega (arith, cut.count, at_inside left.lanes.items v has.0 has.1)) in
          (b.1, b.3, subst (Among (o, x)) (ap (λ m. m.raised) (cut.left v b.0 b.1 has.0 (at_inside t.lanes v b.0 b.2) b.2 b.3 has.1).1) has.2);
      right_parts = ap (λ m. m.parts) is_right;
      right_draws = ap (λ m. m.draws) is_right;
      right_raised = λ v o x has.
          let b = lane_there v (omega (arith, cut.cut_count, at_inside right.lanes.items v has.0 has.1)) in
          subst (Among (o, x)) (ap (λ m. m.raised) (cut.right v b.0 b.1 has.0 b.2 b.3 has.1).1) has.2;
      right_known = λ k knows v n en.
          let b = lane_there v (omega (arith, cut.cut_count, at_inside right.lanes.items v n en)) in
          let same = ap (λ m. m.known) (cut.right v b.0 b.1 n b.2 b.3 en).1 in let h = knows v b.1 b.3 in omega (arith, same, h);
    }

  module _ (other n : WaveSeat) (of_other : IsOfTable t other) (others : List LaneSeat) (none : length others ≡ 0) (glue : Gluing t.lanes s.lanes.items other.lanes.items n.lanes.items others) where
    at_done : (v : ℕ) → v < length t.lanes → (l : Lane) × (y : LaneSeat) × (z : LaneSeat) × (u : LaneSeat)
        × (get_elem? t.lanes v ≡ some l) × (get_elem? s.lanes.items v ≡ some y) × (get_elem? other.lanes.items v ≡ some z) × (get_elem? n.lanes.items v ≡ some u) × IsBoth l y z u
    at_done v lt =
        let l = at_there t.lanes v lt in let y = at_there s.lanes.items v (omega (arith, of.count)) in
        let z = at_there other.lanes.items v (omega (arith, of_other.count)) in let u = at_there n.lanes.items v (omega (arith, glue.count)) in
        (l.0, y.0, z.0, u.0, l.1, y.1, z.1, u.1, glue.done v l.0 y.0 z.0 u.0 (omega (arith, none)) l.1 y.1 z.1 u.1)

    pub of_glued : IsClaimSeat t.claims n.claims → n.claims.me.0 ≡ claims_joined s.claims.me.0 other.claims.me.0 → length t.lanes ≤ vec_capacity n.lanes → IsOfTable t n
    of_glued claims is room = record {
      claims = claims;
      count = glue.count;
      room = room;
      lane = λ v l u el eu.
          let lt = at_inside t.lanes v l el in
          let y = at_there s.lanes.items v (omega (arith, of.count)) in let z = at_there other.lanes.items v (omega (arith, of_other.count)) in
          let p = glue.done v l y.0 z.0 u (omega (arith, none)) el y.1 z.1 eu in
          let e1 = ap (λ m. m.parts) p.1 in let e2 = (of.lane v l y.0 el y.1).1 in let e3 = (of_other.lane v l z.0 el z.1).1 in let e4 = ap (λ m. m.parts) is in
          (p.0, omega (arith, e1, e2, e3, e4));
    }

    pub is_glued : n.claims.me.0 ≡ claims_joined s.claims.me.0 other.claims.me.0 → IsGlued s other n
    is_glued is =
        let draws : draws_of n ≡ draws_of other ++ draws_of s = ap (λ m. m.draws) is in
        record {
          parts = ap (λ m. m.parts) is;
          draws = λ j k a. subst (Among (j, k)) (sym draws) (among_right (j, k) (draws_of other) (draws_of s) a);
          other_draws = λ j k a. subst (Among (j, k)) (sym draws) (among_left (j, k) (draws_of other) (draws_of s) a);
          no_more = λ j k a. among-append (j, k) (draws_of other) (draws_of s) (subst (Among (j, k)) draws a);
          known = λ k knows v u eu.
              let d = at_done v (omega (arith, glue.count, at_inside n.lanes.items v u eu)) in
              let same = ap (λ (w : LaneSeat). w.me.0.known) (at_same n.lanes.items v v u d.3 refl eu d.7) in let both = ap (λ m. m.known) d.8.1 in
              let h = knows v d.1 d.5 in omega (arith, same, both, h);
          other_known = λ k knows v u eu.
              let d = at_done v (omega (arith, glue.count, at_inside n.lanes.items v u eu)) in
              let same = ap (λ (w : LaneSeat). w.me.0.known) (at_same n.lanes.items v v u d.3 refl eu d.7) in let both = ap (λ m. m.known) d.8.1 in
              let h = knows v d.2 d.6 in omega (arith, same, both, h);
          raised = λ v o x has.
              let d = at_done v (omega (arith, of.count, at_inside s.lanes.items v has.0 has.1)) in
              let a = subst (λ (w : LaneSeat). Among (o, x) w.me.0.raised) (at_same s.lanes.items v v has.0 d.1 refl has.1 d.5) has.2 in
              (d.3, d.7, subst (Among (o, x)) (sym (ap (λ m. m.raised) d.8.1)) (among_right (o, x) d.2.me.0.raised d.1.me.0.raised a));
          other_raised = λ v o x has.
              let d = at_done v (omega (arith, of_other.count, at_inside other.lanes.items v has.0 has.1)) in
              let a = subst (λ (w : LaneSeat). Among (o, x) w.me.0.raised) (at_same other.lanes.items v v has.0 d.2 refl has.1 d.6) has.2 in
              (d.3, d.7, subst (Among (o, x)) (sym (ap (λ m. m.raised) d.8.1)) (among_left (o, x) d.2.me.0.raised d.1.me.0.raised a));
          only = λ v o x has.
              let d = at_done v (omega (arith, glue.count, at_inside n.lanes.items v has.0 has.1)) in
              let a = subst (λ (w : LaneSeat). Among (o, x) w.me.0.raised) (at_same n.lanes.items v v has.0 d.3 refl has.1 d.7) has.2 in
              ⊎_elim (λ (p : Among (o, x) d.2.me.0.raised). inl (d.2, d.6, p)) (λ (q : Among (o, x) d.1.me.0.raised). inr (d.1, d.5, q))
              (among-append (o, x) d.2.me.0.raised d.1.me.0.raised (subst (Among (o, x)) (ap (λ m. m.raised) d.8.1) a));
        }

-- what was read at the next place where seats are split
pub next_cut : (t : WaveTable) (s : WaveSeat) (news cut : List LaneSeat) (v : ℕ) (l : Lane) (y : LaneSeat) (xs : List Lane) → IsOfTable t s → Cutting t.lanes s.lanes.items news cut v
    → v < length xs → xs ≡ t.lanes → l ≡ get_or xs v l → y ≡ get_or news v y → Found t s v l y × (get_elem? news v ≡ some y)
next_cut t s news cut v l y xs of c ltx same is_l is_y =
    let lt : v < length t.lanes = subst (λ (ys : List Lane). v < length ys) same ltx in
    let at_y : get_elem? news v ≡ some y = at_index news v y (omega (arith, lt, c.count)) is_y in
    (found_at t s v l y of (lane_read t v l xs lt same is_l) (sym (c.rest v (omega arith)) ∙ at_y), at_y)

pub all_cut : (t : WaveTable) (olds news cut : List LaneSeat) (v : ℕ) (xs : List Lane) → Cutting t.lanes olds news cut v → xs ≡ t.lanes → v ≤ length xs → length xs ≤ v
    → Cutting t.lanes olds news cut (length t.lanes)
all_cut t olds news cut v xs c same le ge =
    let e : length xs ≡ length t.lanes = ap length same in let is : v ≡ length t.lanes = omega arith in subst (Cutting t.lanes olds news cut) is c

-- what was read at the next place where seats are joined
pub next_glued : (t : WaveTable) (s other : WaveSeat) (news others more : List LaneSeat) (v : ℕ) (l : Lane) (y z : LaneSeat) (xs : List Lane) → IsOfTable t s
    → Gluing t.lanes s.lanes.items other.lanes.items news others → others ≡ more ++ z ∷ [] → v ≡ length more → xs ≡ t.lanes → l ≡ get_or xs v l → y ≡ get_or news v y
    → Found t s v l y × (get_elem? news v ≡ some y) × (get_elem? other.lanes.items v ≡ some z)
next_glued t s other news others more v l y z xs of g is at same is_l is_y =
    let p = glue_last t.lanes s.lanes.items other.lanes.items news others more v z g is at in
    let at_y : get_elem? news v ≡ some y = at_index news v y p.2 is_y in
    (found_at t s v l y of (lane_read t v l xs p.1 same is_l) (sym p.4 ∙ at_y), at_y, p.3)

-- The cells of a vertex have their greatest works.
abbrev pub IsColumn : Plan → ℕ → List ℕ → Type 0
IsColumn p v c = (length c ≡ width p) × ((o : ℕ) → o < width p → IsGreatestReaching (net_of p) (cell_at p v o) (slice_index c o))

-- The lanes behind `left` are closed, the last one first.
pub record Closing (p : Plan) (lanes left : List Lane) (seats more : List LaneSeat) (columns : List (List ℕ)) : Type 0 where
  pub count : length left + length columns ≡ length lanes
  pub seat_count : length more ≡ length left
  pub lane : (i : ℕ) → i < length left → get_elem? left i ≡ get_elem? lanes i
  pub seat : (i : ℕ) → i < length more → get_elem? more i ≡ get_elem? seats i
  pub column : (k : ℕ) (c : List ℕ) → get_elem? (reverse columns) k ≡ some c → IsColumn p (length left + k) c

module _ (p : Plan) where
  pub lane_known : IsWavePlan p → (v : ℕ) (l : Lane) (k known : ℕ) → IsLane p v l → v < vertex_count p.graph → k ≤ known → (net_of p).waves ≤ k + 1
      → (o : ℕ) → o < l.table.shared.table_id.words → (lane_net l.table.shared.key).wave (lane_first l.table.shared.key + o) ≤ known
  lane_known plan v l k known is lt e all o inside =
      let in_bound : o < width p = subst (λ n. o < n) is.words inside in
      let waved : (net_of p).wave (cell_at p v o) < (net_of p).waves = (is_net p plan).waved (cell_at p v o) (cell_lt p v o lt (omega arith)) in
      let le : (net_of p).wave (cell_at p v o) ≤ known = omega (arith, waved, e, all) in
      subst (λ (q : Plan × ℕ). (net_of q.0).wave (cell_at q.0 q.1 o) ≤ known) (λ i. (sym is.plan i, sym is.vertex i)) le

  pub column_is : (v : ℕ) (l : Lane) (c : List ℕ) → IsLane p v l → length c ≡ l.table.shared.table_id.words → AreFinal l.table.shared.key c → IsColumn p v c
  column_is v l c is len final = (
    len ∙ is.words,
    λ o lt. subst (λ (q : Plan × ℕ). IsGreatestReaching (net_of q.0) (cell_at q.0 q.1 o) (slice_index c o)) (λ i. (is.plan i, is.vertex i)) (final o (subst (λ n. o < n) (sym (len ∙ is.words)) lt)),
  )

  pub close_more : (lanes left less : List Lane) (seats more fewer : List LaneSeat) (columns : List (List ℕ)) (l : Lane) (y : LaneSeat) (c : List ℕ)
      → Closing p lanes left seats more columns → left ≡ less ++ l ∷ [] → more ≡ fewer ++ y ∷ [] → IsColumn p (length less) c → Closing p lanes less seats fewer (columns ++ c ∷ [])
  close_more lanes left less seats more fewer columns l y c g is js col =
      let len : length left ≡ length less + 1 = let e = ap length is in omega (arith, length-append less (l ∷ []), e) in
      let mlen : length more ≡ length fewer + 1 = let e = ap length js in omega (arith, length-append fewer (y ∷ []), e) in
      let n = g.count in let m = g.seat_count in
      record {
        count = omega (arith, length-append columns (c ∷ []), len, n);
        seat_count = omega (arith, len, mlen, m);
        lane = λ i lt. sym (at_before less (l ∷ []) i lt) ∙ ap (λ (xs : List Lane). get_elem? xs i) (sym is) ∙ g.lane i (omega (arith, len));
        seat = λ i lt. sym (at_before fewer (y ∷ []) i lt) ∙ ap (λ (xs : List LaneSeat). get_elem? xs i) (sym js) ∙ g.seat i (omega (arith, mlen));
        column = λ k d at. columns_of g.column len k d (ap (λ (xs : List (List ℕ)). get_elem? xs k) (sym (reverse-append columns (c ∷ []))) ∙ at);
      }
    where
      columns_of : ((k : ℕ) (d : List ℕ) → get_elem? (reverse columns) k ≡ some d → IsColumn p (length left + k) d) → length left ≡ length less + 1
          → (k : ℕ) (d : List ℕ) → get_elem? (c ∷ reverse columns) k ≡ some d → IsColumn p (length less + k) d
      columns_of old len zero d at = subst (λ (q : ℕ × List ℕ). IsColumn p q.0 q.1) (λ i. ((let e : length less ≡ length less + 0 = omega arith in e) i, some-injective c d at i)) col
      columns_of old len (suc k) d at = subst (λ v. IsColumn p v d) (omega (arith, len)) (old k d at)

  -- the last of what is left
  pub last_pair : (lanes left less : List Lane) (seats more fewer : List LaneSeat) (columns : List (List ℕ)) (l : Lane) (y : LaneSeat)
      → Closing p lanes left seats more columns → left ≡ less ++ l ∷ [] → more ≡ fewer ++ y ∷ [] → (get_elem? lanes (length less) ≡ some l) × (get_elem? seats (length less) ≡ some y)
  last_pair lanes left less seats more fewer columns l y g is js =
      let len : length left ≡ length less + 1 = let e = ap length is in omega (arith, length-append less (l ∷ []), e) in
      let mlen : length more ≡ length fewer + 1 = let e = ap length js in omega (arith, length-append fewer (y ∷ []), e) in
      let m = g.seat_count in let same : length less ≡ length fewer = omega (arith, len, mlen, m) in (
        sym (g.lane (length less) (omega (arith, len))) ∙ ap (λ (xs : List Lane). get_elem? xs (length less)) is ∙ at_length less l,
        sym (g.seat (length less) (omega (arith, len, m))) ∙ ap (λ (xs : List LaneSeat). get_elem? xs (length less)) js ∙ ap (get_elem? (fewer ++ y ∷ [])) same ∙ at_length fewer y,
      )

  -- each lane is closed
  pub all_closed : (lanes left : List Lane) (seats more : List LaneSeat) (columns all : List (List ℕ)) → Closing p lanes left seats more columns → length left ≡ 0
      → length lanes ≡ vertex_count p.graph → all ≡ reverse columns → AreWhole p all × AreBest p all
  all_closed lanes left seats more columns all g none count is =
      let n = g.count in let len : length all ≡ length columns = ap length is ∙ length-reverse columns in
      let whole : length all ≡ vertex_count p.graph = omega (arith, n, none, count, len) in
      let col : (v : ℕ) → v < length all → IsColumn p v (get_or all v []) = λ v lt.
      let c = at_there all v lt in
      let r : IsColumn p (length left + v) c.0 = g.column v c.0 (ap (λ (xs : List (List ℕ)). get_elem? xs v) (sym is) ∙ c.1) in
      subst (λ (q : ℕ × List ℕ). IsColumn p q.0 q.1) (λ i. ((let e : length left + v ≡ v = omega (arith, none) in e) i, sym (or_is all v c.0 [] c.1) i)) r in
      ((whole, λ v lt. (col v lt).0), λ v s ltv le. (col v (omega (arith, whole))).1 s (omega arith))
