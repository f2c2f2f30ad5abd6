-- Short walks at their bound, and which walk dominates which.
use Rattle.std.proofs.Common.{◌≡◌, ℕ, zero, suc, ◌<◌, ◌≤◌, [], ◌∷◌, refl, lit<, lit≤, arith}
use Rattle.drt_model.specs.Digraph.{Digraph, digraph_of}
use Rattle.drt_model.specs.Walk.{sep_in, or_zero, span, request, requested_from}
use Rattle.drt_claims.specs.Trees.{IsShortWalk, IsAbove}
use Rattle.drt_rows.specs.Row.{graph}
use Rattle.drt_rows.proofs.Sets.{task_a}

-- One vertex with a loop of 4.
abbrev loop_of_4 : Digraph
loop_of_4 = digraph_of task_a

-- The walk of two releases spans 4: less than 5, and not less than 4.
pub two_are_short : IsShortWalk 5 loop_of_4 (0 ∷ 0 ∷ [])
unfolding span sep_in or_zero
two_are_short = (lit< tt, (refl, tt), lit< tt)

pub two_reach_4 : ¬ IsShortWalk 4 loop_of_4 (0 ∷ 0 ∷ [])
unfolding span sep_in or_zero
two_reach_4 w = omega (arith, w.2)

-- The walk of one release spans 0: less than 1, and not less than 0.
pub one_is_short : IsShortWalk 1 loop_of_4 (0 ∷ [])
unfolding span
one_is_short = (lit< tt, tt, lit< tt)

pub one_reaches_0 : ¬ IsShortWalk 0 loop_of_4 (0 ∷ [])
unfolding span
one_reaches_0 w = omega (arith, w.2)

-- There is no vertex 1, and the list without a vertex is no short walk.
pub not_a_vertex : ¬ IsShortWalk 5 loop_of_4 (1 ∷ [])
not_a_vertex w = let h : 1 < 1 = w.0 in omega (arith, h)

pub empty_is_not_short : ¬ IsShortWalk 5 loop_of_4 []
empty_is_not_short w = w

-- p (1, 1), q (2, 1), m (1, 1) with the edges p-m 1, q-m 1 and m-m 3. The walks q m and p m end at m and span 1; q m asks for 2 at 1 and for 3
-- from 2 on, p m for 1 and for 2. So q m dominates p m.
pub qm_above_pm : IsAbove 5 graph 0 (2 ∷ []) (1 ∷ 2 ∷ [])
unfolding span sep_in or_zero requested_from
qm_above_pm = (refl, lit≤ tt, asks)
  where
    asks : (t : ℕ) → 1 ≤ t → t ≤ 5 → request graph 0 (2 ∷ []) t ≤ request graph 1 (2 ∷ []) t
    asks zero l h = omega (arith, l)
    asks (suc zero) l h = lit≤ tt
    asks (suc (suc zero)) l h = lit≤ tt
    asks (suc (suc (suc zero))) l h = lit≤ tt
    asks (suc (suc (suc (suc zero)))) l h = lit≤ tt
    asks (suc (suc (suc (suc (suc zero))))) l h = lit≤ tt
    asks (suc (suc (suc (suc (suc (suc t)))))) l h = omega (arith, h)

-- p m doesn't dominate q m: it ends there and spans no more, but asks for 1 at 1, where q m asks for 2.
pub pm_not_above_qm : ¬ IsAbove 5 graph 1 (2 ∷ []) (0 ∷ 2 ∷ [])
unfolding span sep_in or_zero requested_from
pm_not_above_qm a = let h : 2 ≤ 1 = a.2 1 (lit≤ tt) (lit≤ tt) in omega (arith, h)

-- The walk m asks for 1 from 1 on, and m m for 1 up to 3 and for 2 at 4. So m dominates m m up to 3, and not up to 4.
pub m_above_mm : IsAbove 3 graph 2 (2 ∷ []) (2 ∷ [])
unfolding span sep_in or_zero requested_from
m_above_mm = (refl, lit≤ tt, asks)
  where
    asks : (t : ℕ) → 1 ≤ t → t ≤ 3 → request graph 2 (2 ∷ []) t ≤ request graph 2 [] t
    asks zero l h = omega (arith, l)
    asks (suc zero) l h = lit≤ tt
    asks (suc (suc zero)) l h = lit≤ tt
    asks (suc (suc (suc zero))) l h = lit≤ tt
    asks (suc (suc (suc (suc t)))) l h = omega (arith, h)

pub m_not_above_mm : ¬ IsAbove 4 graph 2 (2 ∷ []) (2 ∷ [])
unfolding span sep_in or_zero requested_from
m_not_above_mm a = let h : 2 ≤ 1 = a.2 4 (lit≤ tt) (lit≤ tt) in omega (arith, h)

-- The other way round m m asks for no less than m at each time and ends there, but spans 3 and not 0.
pub mm_asks_enough : (t : ℕ) → 1 ≤ t → t ≤ 5 → request graph 2 [] t ≤ request graph 2 (2 ∷ []) t
unfolding requested_from
mm_asks_enough t l h = omega arith

pub mm_not_above_m : ¬ IsAbove 5 graph 2 [] (2 ∷ 2 ∷ [])
unfolding span sep_in or_zero
mm_not_above_m a = let h : 3 ≤ 0 = a.1 in omega (arith, h)

-- The walk q asks for 2 where m asks for 1, and both span 0, but q ends at q.
pub q_asks_enough : (t : ℕ) → 1 ≤ t → t ≤ 5 → request graph 2 [] t ≤ request graph 1 [] t
unfolding requested_from
q_asks_enough zero l h = omega (arith, l)
q_asks_enough (suc zero) l h = lit≤ tt
q_asks_enough (suc (suc zero)) l h = lit≤ tt
q_asks_enough (suc (suc (suc zero))) l h = lit≤ tt
q_asks_enough (suc (suc (suc (suc zero)))) l h = lit≤ tt
q_asks_enough (suc (suc (suc (suc (suc zero))))) l h = lit≤ tt
q_asks_enough (suc (suc (suc (suc (suc (suc t)))))) l h = omega (arith, h)

pub q_not_above_m : ¬ IsAbove 5 graph 2 [] (1 ∷ [])
q_not_above_m a = let h : 1 ≡ 2 = a.0 in omega (arith, h)
