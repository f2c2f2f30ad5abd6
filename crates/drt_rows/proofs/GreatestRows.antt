-- Greatest works of p (1, 1), q (2, 1), m (1, 1) with the edges p-m 1, q-m 1 and m-m 3, and the bound 5. A walk is a vertex alone or goes on over
-- m again and again: q m is the greatest one at (m, 1).
use Rattle.std.proofs.Common.{◌≡◌, ℕ, zero, suc, ◌+◌, ◌*◌, ◌<◌, ◌≤◌, ◌⊎◌, inl, inr}
use Rattle.std.proofs.Common.{List, [], ◌∷◌, length, Some, refl, sym, ap, ◌∙◌, lit<, lit≤, arith}
use Rattle.std.proofs.lemmas.Option.{none-some}
use Rattle.drt_model.specs.Walk.{sep_in, or_zero, gap, wcet, deadline, work, span, last_of, IsEdge, IsPath}
use Rattle.drt_graph.proofs.WalkLabels.{label_of_parts, parts_of}
use Rattle.drt_wave.specs.Greatest.{HasWalk, IsGreatestWork, IsWalkInRange}
use Rattle.drt_rows.specs.Row.{graph}
use Rattle.drt_rows.proofs.Sets.{edge}
use Rattle.drt_rows.proofs.PotentialRows.{other_edge}

-- What the rows need of a walk in range of 5 that ends at v with the span s and the work x.
record Parts (v s x : ℕ) : Type 0 where
  first : ℕ
  others : List ℕ
  is_vertex : first < 3
  path : IsPath graph first others
  range : IsWalkInRange graph 5 0 first others
  ends : last_of first others ≡ v
  spans : span graph first others ≡ s
  works : work graph (first ∷ others) ≡ x

parts : (v s x : ℕ) → HasWalk graph 5 v s x → Parts v s x
parts v s x w = let of = parts_of w.label in record {
  first = w.first;
  others = w.others;
  is_vertex = w.label.is_vertex;
  path = w.label.path;
  range = w.range;
  ends = sym of.vertex;
  spans = sym of.offset;
  works = sym of.works;
}

whole : (v s x : ℕ) → Parts v s x → HasWalk graph 5 v s x
whole v s x p = record {
  first = p.first;
  others = p.others;
  label = label_of_parts graph p.first p.others (record { vertex = v; offset = s; work = x }) p.is_vertex p.path
      (record { vertex = sym p.ends; offset = sym p.spans; works = sym p.works });
  range = p.range;
}

-- An edge to m is none to another vertex.
no_edge : (u v d : ℕ) → (2 ≡ v → ⊥) → sep_in (edge u 2 d ∷ []) v ≡ Some (or_zero (sep_in (edge u 2 d ∷ []) v)) → ⊥
unfolding sep_in
no_edge u v d other e = none-some (or_zero (sep_in (edge u 2 d ∷ []) v)) (sym (other_edge u 2 d [] v other) ∙ e)

-- Each edge leads to m.
to_m : (u v : ℕ) → IsEdge graph u v → v ≡ 2
unfolding sep_in
to_m u (suc (suc zero)) e = refl
to_m zero zero e = absurd (no_edge 0 0 1 (λ h. omega (arith, h)) e)
to_m zero (suc zero) e = absurd (no_edge 0 1 1 (λ h. omega (arith, h)) e)
to_m zero (suc (suc (suc v))) e = absurd (no_edge 0 (suc (suc (suc v))) 1 (λ h. omega (arith, h)) e)
to_m (suc zero) zero e = absurd (no_edge 1 0 1 (λ h. omega (arith, h)) e)
to_m (suc zero) (suc zero) e = absurd (no_edge 1 1 1 (λ h. omega (arith, h)) e)
to_m (suc zero) (suc (suc (suc v))) e = absurd (no_edge 1 (suc (suc (suc v))) 1 (λ h. omega (arith, h)) e)
to_m (suc (suc zero)) zero e = absurd (no_edge 2 0 3 (λ h. omega (arith, h)) e)
to_m (suc (suc zero)) (suc zero) e = absurd (no_edge 2 1 3 (λ h. omega (arith, h)) e)
to_m (suc (suc zero)) (suc (suc (suc v))) e = absurd (no_edge 2 (suc (suc (suc v))) 3 (λ h. omega (arith, h)) e)
to_m (suc (suc (suc u))) v e = absurd (none-some (gap graph (suc (suc (suc u))) v) e)

-- A walk on from m has m again and again: it spans 3 a step, and each job needs 1.
abbrev IsOnM : ℕ → List ℕ → Type 0
IsOnM u vs = (last_of u vs ≡ 2) × (span graph u vs ≡ 3 * length vs) × (work graph (u ∷ vs) ≡ 1 + length vs)

one_more : (v : ℕ) (vs : List ℕ) → v ≡ 2 → IsPath graph v vs → (IsPath graph 2 vs → IsOnM 2 vs) → IsOnM 2 (v ∷ vs)
unfolding work span sep_in or_zero
one_more v vs is path rest = rw is (let more = rest (rw is at path) in (more.0, omega (arith, more.1), omega (arith, more.2)))

on_m : (vs : List ℕ) → IsPath graph 2 vs → IsOnM 2 vs
unfolding work span
on_m [] p = (refl, refl, refl)
on_m (v ∷ vs) p = one_more v vs (to_m 2 v p.0) p.1 (λ q. on_m vs q)

-- A vertex alone has the span 0 and its own work.
abbrev IsAlone : ℕ → ℕ → ℕ → Type 0
IsAlone v s x = (s ≡ 0) × (x ≡ wcet graph v)

-- A longer walk ends at m. Its first edge spans 1, out of p or q, and its first job needs at most 2; or it spans 3 out of m (k is 1), whose job
-- needs 1. The n further edges span 3 and add 1 each.
abbrev IsLonger : ℕ → ℕ → ℕ → Type 0
IsLonger v s x = (n : ℕ) × (k : ℕ) × (v ≡ 2) × (k ≤ 1) × (s ≡ 1 + 2 * k + 3 * n) × (x + k ≤ 3 + n)

longer : (u w v s x : ℕ) (vs : List ℕ) → u < 3 → w ≡ 2 → IsPath graph w vs → last_of w vs ≡ v → span graph u (w ∷ vs) ≡ s
    → work graph (u ∷ w ∷ vs) ≡ x → IsLonger v s x
unfolding work span sep_in or_zero
longer zero w v s x vs within is path ends spans works =
    let rest = on_m vs (rw is at path) in
    let last = rw is at ends in
    let time = rw is at spans in
    let done = rw is at works in
    (length vs, 0, sym last ∙ rest.0, omega arith, omega (arith, time, rest.1), omega (arith, done, rest.2))
longer (suc zero) w v s x vs within is path ends spans works =
    let rest = on_m vs (rw is at path) in
    let last = rw is at ends in
    let time = rw is at spans in
    let done = rw is at works in
    (length vs, 0, sym last ∙ rest.0, omega arith, omega (arith, time, rest.1), omega (arith, done, rest.2))
longer (suc (suc zero)) w v s x vs within is path ends spans works =
    let rest = on_m vs (rw is at path) in
    let last = rw is at ends in
    let time = rw is at spans in
    let done = rw is at works in
    (length vs, 1, sym last ∙ rest.0, omega arith, omega (arith, time, rest.1), omega (arith, done, rest.2))
longer (suc (suc (suc u))) w v s x vs within is path ends spans works = absurd (omega (arith, within))

-- Each walk is one of these.
from_parts : (u v s x : ℕ) (others : List ℕ) → u < 3 → IsPath graph u others → last_of u others ≡ v → span graph u others ≡ s
    → work graph (u ∷ others) ≡ x → IsAlone v s x ⊎ IsLonger v s x
unfolding work span
from_parts u v s x [] within path ends spans works = inl (sym spans, rw (← ends) (omega (arith, works)))
from_parts u v s x (w ∷ ws) within path ends spans works = inr (longer u w v s x ws within (to_m u w path.0) path.1 ends spans works)

each_walk : (v s x : ℕ) → HasWalk graph 5 v s x → IsAlone v s x ⊎ IsLonger v s x
each_walk v s x w = let p = parts v s x w in from_parts p.first v s x p.others p.is_vertex p.path p.ends p.spans p.works

-- Its last job is due within 5.
due : (s u : ℕ) (vs : List ℕ) → IsWalkInRange graph 5 s u vs → s + span graph u vs + deadline graph (last_of u vs) ≤ 5
unfolding span
due s u [] r = omega (arith, r)
due s u (v ∷ vs) r = let h = due (s + gap graph u v) v vs r.1 in omega (arith, h)

each_due : (v s x : ℕ) → HasWalk graph 5 v s x → s + deadline graph v ≤ 5
each_due v s x w =
    let p = parts v s x w in
    let h = due 0 p.first p.others p.range in
    let d : deadline graph (last_of p.first p.others) ≡ deadline graph v = ap (λ u. deadline graph u) p.ends in
    omega (arith, h, d, p.spans)

-- The walk q m has the work 3 at (m, 1), p m only 2, and no other walk ends there.
pub walk_qm : HasWalk graph 5 2 1 3
unfolding work span sep_in or_zero
walk_qm = whole 2 1 3 (record {
  first = 1;
  others = 2 ∷ [];
  is_vertex = lit< tt;
  path = (refl, tt);
  range = (lit≤ tt, lit≤ tt);
  ends = refl;
  spans = refl;
  works = refl;
})

pub greatest_m_1 : IsGreatestWork graph 5 2 1 3
greatest_m_1 = (λ some. walk_qm, most)
  where
    most : (y : ℕ) → HasWalk graph 5 2 1 y → y ≤ 3
    most y w = elim (each_walk 2 1 y w) [ inl h ↦ absurd (omega (arith, h.0)) | inr (n, k, v, h, s, x) ↦ omega (arith, h, s, x) ]

-- So 2, the work of p m, isn't the greatest one there.
pub not_2_at_m_1 : ¬ IsGreatestWork graph 5 2 1 2
not_2_at_m_1 g = let h : 3 ≤ 2 = g.1 3 walk_qm in omega (arith, h)

-- q m m has the work 4 at (m, 4), and its last job is due at 5.
pub walk_qmm : HasWalk graph 5 2 4 4
unfolding work span sep_in or_zero
walk_qmm = whole 2 4 4 (record {
  first = 1;
  others = 2 ∷ 2 ∷ [];
  is_vertex = lit< tt;
  path = (refl, (refl, tt));
  range = (lit≤ tt, (lit≤ tt, lit≤ tt));
  ends = refl;
  spans = refl;
  works = refl;
})

pub greatest_m_4 : IsGreatestWork graph 5 2 4 4
greatest_m_4 = (λ some. walk_qmm, most)
  where
    most : (y : ℕ) → HasWalk graph 5 2 4 y → y ≤ 4
    most y w = elim (each_walk 2 4 y w) [ inl h ↦ absurd (omega (arith, h.0)) | inr (n, k, v, h, s, x) ↦ omega (arith, h, s, x) ]

-- m m has the work 2 at (m, 3), and m alone 1 at (m, 0).
pub greatest_m_3 : IsGreatestWork graph 5 2 3 2
unfolding work span sep_in or_zero
greatest_m_3 = (λ some. walk_mm, most)
  where
    walk_mm : HasWalk graph 5 2 3 2
    walk_mm = whole 2 3 2 (record {
      first = 2;
      others = 2 ∷ [];
      is_vertex = lit< tt;
      path = (refl, tt);
      range = (lit≤ tt, lit≤ tt);
      ends = refl;
      spans = refl;
      works = refl;
    })

    most : (y : ℕ) → HasWalk graph 5 2 3 y → y ≤ 2
    most y w = elim (each_walk 2 3 y w) [ inl h ↦ absurd (omega (arith, h.0)) | inr (n, k, v, h, s, x) ↦ omega (arith, h, s, x) ]

-- A vertex alone, at 0.
alone : (u : ℕ) → u < 3 → deadline graph u ≤ 5 → HasWalk graph 5 u 0 (wcet graph u)
unfolding work span
alone u h within = whole u 0 (wcet graph u) (record {
  first = u;
  others = [];
  is_vertex = h;
  path = tt;
  range = omega (arith, within);
  ends = refl;
  spans = refl;
  works = omega arith;
})

at_0 : (v y : ℕ) → HasWalk graph 5 v 0 y → y ≤ wcet graph v
at_0 v y w = elim (each_walk v 0 y w) [ inl h ↦ omega (arith, h.1) | inr (n, k, e, h, s, x) ↦ absurd (omega (arith, s)) ]

pub greatest_p_0 : IsGreatestWork graph 5 0 0 1
greatest_p_0 = (λ some. alone 0 (lit< tt) (lit≤ tt), λ y w. at_0 0 y w)

pub greatest_q_0 : IsGreatestWork graph 5 1 0 2
greatest_q_0 = (λ some. alone 1 (lit< tt) (lit≤ tt), λ y w. at_0 1 y w)

pub greatest_m_0 : IsGreatestWork graph 5 2 0 1
greatest_m_0 = (λ some. alone 2 (lit< tt) (lit≤ tt), λ y w. at_0 2 y w)

-- No walk ends at m with the span 2, and none at p with a span above 0.
pub greatest_m_2 : IsGreatestWork graph 5 2 2 0
greatest_m_2 = (λ some. absurd (some refl), most)
  where
    most : (y : ℕ) → HasWalk graph 5 2 2 y → y ≤ 0
    most y w = elim (each_walk 2 2 y w) [ inl h ↦ absurd (omega (arith, h.0)) | inr (n, k, v, h, s, x) ↦ absurd (omega (arith, h, s)) ]

pub greatest_p_1 : IsGreatestWork graph 5 0 1 0
greatest_p_1 = (λ some. absurd (some refl), most)
  where
    most : (y : ℕ) → HasWalk graph 5 0 1 y → y ≤ 0
    most y w = elim (each_walk 0 1 y w) [ inl h ↦ absurd (omega (arith, h.0)) | inr (n, k, v, h, s, x) ↦ absurd (omega (arith, v)) ]

-- m m m spans 6, but its last job is due at 7: it isn't in range.
pub greatest_m_6 : IsGreatestWork graph 5 2 6 0
greatest_m_6 = (λ some. absurd (some refl), λ y w. let h : 7 ≤ 5 = each_due 2 6 y w in absurd (omega (arith, h)))
