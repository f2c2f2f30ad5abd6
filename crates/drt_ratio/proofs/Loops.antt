-- A walk that gains more than each shorter one goes round a cycle that gains.
use Rattle.std.proofs.Common.{◌≡◌, ℕ, zero, suc, ◌+◌, ◌-◌, ◌*◌, ◌<◌, ◌≤◌, Bool, true, false, eqb, List, [], ◌∷◌, ◌++◌, length, get_or, take, drop, ◌⊎◌, inl, inr, refl, sym, ap, arith, ◌∙◌, length-append, length-drop, add-one}
use Rattle.std.specs.Prelude.{◌≢◌}
use Rattle.std.proofs.lemmas.Bool.{cases_lt, eqb-true, or_cases}
use Rattle.std.proofs.lemmas.List.{length-take, get_or-take, get_or-drop, get_or_default}
use Rattle.std.proofs.lemmas.Map.Steps.{length-le_from_distinct_below}
use Rattle.std.proofs.lemmas.Map.Keys.{IsDistinct-from_apart}
use Rattle.std.specs.List.{list_any}
use Rattle.drt_model.specs.Digraph.{Digraph, IsSoundGraph, vertex_count}
use Rattle.drt_model.specs.Walk.{gap, wcet, IsEdge, IsPath, last_of, work, span, IsCycle, cycle_span}
use Rattle.drt_graph.proofs.Edges.{target_of, source_of, edge_of_sep}
use Rattle.drt_ratio.specs.declared.levels.Level.{Level}
use Rattle.drt_model.specs.Utilisation.{AreDistinct}
use Rattle.drt_ratio.specs.Levels.{height, level_of, IsWholeRound, IsTower, IsTrace, IsRepeat, IsGain}
use Rattle.drt_graph.proofs.Paths.{path_both, path_first, path_rest, last_both, work_both, span_both, path_cycle, climbs_path}

-- What a walk of few edges gains at most.
pub record IsMost (g : Digraph) (a b n v most : ℕ) : Type 0 where
  pub each : (u : ℕ) (vs : List ℕ) → IsPath g u vs → last_of u vs ≡ v → length vs < n → b * work g vs ≤ most + a * span g u vs

-- In plain numbers, of the parts of a walk.
parts : (a b h most w1 w2 w3 s1 s2 s3 : ℕ) → b * (w1 + (w2 + w3)) ≡ h + a * (s1 + (s2 + s3)) → most < h → b * (w1 + w3) ≤ most + a * (s1 + s3) → a * s2 < b * w2
parts a b h most w1 w2 w3 s1 s2 s3 e l m = omega arith

-- The loop cs of a walk gains where the walk without it gains less.
pub loop_gains : (g : Digraph) (a b n v h most u : ℕ) (xs cs ys : List ℕ) → IsPath g u (xs ++ (cs ++ ys)) → last_of u (xs ++ (cs ++ ys)) ≡ v
    → b * work g (xs ++ (cs ++ ys)) ≡ h + a * span g u (xs ++ (cs ++ ys)) → most < h → IsMost g a b n v most → length (xs ++ ys) < n
    → last_of (last_of u xs) cs ≡ last_of u xs → IsPath g (last_of u xs) cs × (a * span g (last_of u xs) cs < b * work g cs)
loop_gains g a b n v h most u xs cs ys path end sum more is short back =
    let rest = path_rest g u xs (cs ++ ys) path in
    let round = path_first g (last_of u xs) cs ys rest in
    let after : IsPath g (last_of u xs) ys = rw back at (path_rest g (last_of u xs) cs ys rest) in
    let ends : last_of u (xs ++ ys) ≡ v = last_both u xs ys ∙ ap (λ w. last_of w ys) (sym back) ∙ sym (last_both (last_of u xs) cs ys) ∙ sym (last_both u xs (cs ++ ys)) ∙ end in
    let less = is.each u (xs ++ ys) (path_both g u xs ys (path_first g u xs (cs ++ ys) path) after) ends short in
    let l = rw (work_both g xs ys, span_both g u xs ys) at less in
    let s = rw (work_both g xs (cs ++ ys), work_both g cs ys, span_both g u xs (cs ++ ys), span_both g (last_of u xs) cs ys, back) at sum in
    (round, parts a b h most (work g xs) (work g cs) (work g ys) (span g u xs) (span g (last_of u xs) cs) (span g (last_of u xs) ys) s more l)

pub last_take : (u : ℕ) (vs : List ℕ) (i : ℕ) → i ≤ length vs → last_of u (take i vs) ≡ get_or (u ∷ vs) i 0
last_take u vs zero l = refl
last_take u [] (suc i) l = absurd (omega arith)
last_take u (v ∷ vs) (suc i) l = last_take v vs i (omega arith)

pub in_parts : (vs : List ℕ) (i m : ℕ) → take i vs ++ (take m (drop i vs) ++ drop m (drop i vs)) ≡ vs
in_parts vs i m = ap (λ ys. take i vs ++ ys) (whole m (drop i vs)) ∙ whole i vs
  where
    whole : (k : ℕ) (xs : List ℕ) → take k xs ++ drop k xs ≡ xs
    whole zero xs = refl
    whole (suc k) [] = refl
    whole (suc k) (x ∷ xs) = ap (λ ys. x ∷ ys) (whole k xs)

-- Where a path leads from a vertex on, all its vertices are in range.
pub path_below : (g : Digraph) → IsSoundGraph g → (u : ℕ) (vs : List ℕ) → IsPath g u vs → (k : ℕ) → k < length vs → get_or vs k 0 < vertex_count g
path_below g sound u [] p k l = absurd (omega arith)
path_below g sound u (v ∷ vs) p zero l = (target_of g sound u v (gap g u v) p.0).0
path_below g sound u (v ∷ vs) p (suc k) l = path_below g sound v vs p.1 k (omega arith)

apart : (x y : ℕ) → (x ≡ y → ⊥) → eqb x y ≡ false
apart x y differ = go (eqb x y) refl
  where
    go : (b : Bool) → eqb x y ≡ b → b ≡ false
    go true e = absurd (differ (eqb-true x y e))
    go false e = refl

any_below : (xs : List ℕ) (n q : ℕ) → ((k : ℕ) → k < length xs → get_or xs k 0 < n) → list_any (eqb q) xs ≡ true → q < n
any_below [] n q each e = absurd (cc)
any_below (x ∷ xs) n q each e = go (or_cases (eqb q x) (list_any (eqb q) xs) e) (λ h. any_below xs n q (λ k l. each (suc k) (omega arith)) h)
  where
    go : (eqb q x ≡ true) ⊎ (list_any (eqb q) xs ≡ true) → (list_any (eqb q) xs ≡ true → q < n) → q < n
    go (inl h) ih = let same = eqb-true q x h in omega (arith, each 0 (omega arith))
    go (inr h) ih = ih h

-- Distinct numbers below n are at most n.
pub few_distinct : (xs : List ℕ) (n : ℕ) → AreDistinct xs → ((k : ℕ) → k < length xs → get_or xs k 0 < n) → length xs ≤ n
few_distinct xs n distinct each =
    length-le_from_distinct_below xs n
    (IsDistinct-from_apart eqb xs (λ i j d l m. rw (get_or_default xs i d 0 (omega arith), get_or_default xs j d 0 m) (apart _ _ (distinct i j l m))))
    (λ q e. any_below xs n q each e)

pub round_edge : (g : Digraph) (a b : ℕ) (low high : Level) → IsSoundGraph g → IsWholeRound g a b low high → (u v : ℕ) → IsEdge g u v → height low u + b * wcet g v ≤ height high v + a * gap g u v
round_edge g a b low high sound round u v edge =
    let k = edge_of_sep g u v (gap g u v) edge in
    let done = round.done u k.0 (source_of g sound u v (gap g u v) edge) k.1 in
    rw (k.2, k.3) at done

keeps_up : (g : Digraph) (a b : ℕ) (levels : List Level) (v : ℕ) → v < vertex_count g → IsTower g a b levels → (j k : ℕ) → j + k < length levels
    → height (level_of levels j) v ≤ height (level_of levels (j + k)) v
keeps_up g a b levels v l tower j zero m = let e : j + 0 ≡ j = omega arith in rw e (omega arith)
keeps_up g a b levels v l tower j (suc k) m =
    let e : j + suc k ≡ (j + k) + 1 = omega arith in
    let up = (tower.rounds (j + k) (omega arith)).raised.keeps v l in
    rw e (omega (arith, up, keeps_up g a b levels v l tower j k (omega arith)))

-- The last level but one has the most that a walk of few edges gains.
pub tower_most : (g : Digraph) (a b : ℕ) (levels : List Level) (n v : ℕ) → IsSoundGraph g → IsTower g a b levels → length levels ≡ n + 1 → v < vertex_count g
    → IsMost g a b n v (height (level_of levels (n - 1)) v)
tower_most g a b levels n v sound tower count l = record {
  each = λ u vs path end short.
      let h : height (level_of levels 0) u + b * work g vs ≤ height (level_of levels (0 + length vs)) (last_of u vs) + a * span g u vs = climbs_path g a b n
      (λ k w. height (level_of levels k) w) (λ k u w m edge. climbs k u w m edge) 0 u vs (omega arith) path in
      let z : 0 + length vs ≡ length vs = omega arith in
      let up : height (level_of levels (length vs)) v ≤ height (level_of levels (length vs + (n - 1 - length vs))) v = keeps_up g a b levels v l tower (length vs) (n - 1 - length vs) (omega arith) in
      let top : length vs + (n - 1 - length vs) ≡ n - 1 = omega arith in
      ends u vs (rw (z, end) at h) (rw top at up);
}
  where
    climbs : (k u w : ℕ) → k < n → IsEdge g u w → height (level_of levels k) u + b * wcet g w ≤ height (level_of levels (suc k)) w + a * gap g u w
    climbs k u w m edge = let e : k + 1 ≡ suc k = omega arith in rw e at (round_edge g a b (level_of levels k) (level_of levels (k + 1)) sound (tower.rounds k (omega arith)) u w edge)

    ends : (u : ℕ) (vs : List ℕ) → height (level_of levels 0) u + b * work g vs ≤ height (level_of levels (length vs)) v + a * span g u vs
        → height (level_of levels (length vs)) v ≤ height (level_of levels (n - 1)) v → b * work g vs ≤ height (level_of levels (n - 1)) v + a * span g u vs
    ends u vs h up = omega arith

close : (g : Digraph) (a b w : ℕ) (cs : List ℕ) → 0 < length cs → IsPath g w cs → last_of w cs ≡ w → a * span g w cs < b * work g cs → IsCycle g cs × (a * cycle_span g cs < b * work g cs)
close g a b w [] some path back gain = absurd (omega arith)
close g a b w (c ∷ cs) some path back gain =
    let r = path_cycle g w c cs path back in
    (r.0, rw r.1 gain)

take_none : (k : ℕ) → take {A = ℕ} k [] ≡ []
take_none zero = refl
take_none (suc k) = refl

two_takes : (i m : ℕ) (vs : List ℕ) → take i vs ++ take m (drop i vs) ≡ take (i + m) vs
two_takes zero m vs = let e : 0 + m ≡ m = omega arith in rw e refl
two_takes (suc i) m [] = take_none m ∙ sym (take_none (suc i + m))
two_takes (suc i) m (v ∷ vs) = let e : suc i + m ≡ suc (i + m) = omega arith in rw e (ap (λ ys. v ∷ ys) (two_takes i m vs))

-- The loop of a walk between two places with the same vertex.
pub loop_found : (g : Digraph) (a b n v h most u i m : ℕ) (vs : List ℕ) → IsPath g u vs → last_of u vs ≡ v → length vs ≤ n → b * work g vs ≡ h + a * span g u vs
    → most < h → IsMost g a b n v most → 0 < m → i + m ≤ length vs → get_or (u ∷ vs) i 0 ≡ get_or (u ∷ vs) (i + m) 0 → IsCycle g (take m (drop i vs))
    × (a * cycle_span g (take m (drop i vs)) < b * work g (take m (drop i vs)))
loop_found g a b n v h most u i m vs path end short sum more is some l same =
    let e = in_parts vs i m in
    let first = last_take u vs i (omega arith) in
    let back : last_of (last_of u (take i vs)) (take m (drop i vs)) ≡ last_of u (take i vs) = sym (last_both u (take i vs) (take m (drop i vs)))
    ∙ ap (last_of u) (two_takes i m vs) ∙ last_take u vs (i + m) l ∙ sym same ∙ sym first in
    let few : length (take i vs ++ drop m (drop i vs)) < n = simp (length-append, length-take, length-drop) (omega arith) in
    let r = loop_gains g a b n v h most u (take i vs) (take m (drop i vs)) (drop m (drop i vs)) (rw e path) (rw e end) (rw e sum) more is few back in
    let size : 0 < length (take m (drop i vs)) = simp (length-take, length-drop) (omega arith) in
    close g a b (last_of u (take i vs)) (take m (drop i vs)) size r.0 back r.1

loop_at : (u i m p : ℕ) (vs : List ℕ) → p < m → get_or (take m (drop i vs)) p 0 ≡ get_or (u ∷ vs) (suc (i + p)) 0
loop_at u i m p vs l = get_or-take m (drop i vs) p 0 l ∙ get_or-drop i vs p 0

pub loop_distinct : (u i m : ℕ) (vs : List ℕ) → i + m ≤ length vs → get_or (u ∷ vs) i 0 ≡ get_or (u ∷ vs) (i + m) 0
    → ((p q : ℕ) → p < q → q < i + m → get_or (u ∷ vs) p 0 ≢ get_or (u ∷ vs) q 0) → AreDistinct (take m (drop i vs))
loop_distinct u i m vs l same differ p q before within e =
    let size : length (take m (drop i vs)) ≡ m = simp (length-take, length-drop) (omega arith) in
    let f : get_or (u ∷ vs) (suc (i + p)) 0 ≡ get_or (u ∷ vs) (suc (i + q)) 0 = sym (loop_at u i m p vs (omega arith)) ∙ e ∙ loop_at u i m q vs (omega arith) in
    go (cases_lt (suc (i + q)) (i + m)) (omega arith) f
  where
    go : (suc (i + q) < i + m) ⊎ (i + m ≤ suc (i + q)) → q < m → get_or (u ∷ vs) (suc (i + p)) 0 ≡ get_or (u ∷ vs) (suc (i + q)) 0 → ⊥
    go (inl k) n f = differ (suc (i + p)) (suc (i + q)) (omega arith) k f
    go (inr k) n f =
        let at : suc (i + q) ≡ i + m = omega arith in
        differ i (suc (i + p)) (omega arith) (omega arith) (same ∙ sym (ap (λ k. get_or (u ∷ vs) k 0) at) ∙ sym f)

-- The cycle that the first repeat of the walk shows.
pub gain_found : (g : Digraph) (a b : ℕ) (levels : List Level) (n v i j : ℕ) (walk : List ℕ) → IsSoundGraph g → IsTower g a b levels → length levels ≡ n + 1
    → n ≡ vertex_count g → 0 < n → v < vertex_count g →
    (height (level_of levels n) v ≡ height (level_of levels (n - 1)) v → ⊥) → IsTrace g a b n v (height (level_of levels n) v) walk → IsRepeat walk i j
    → IsGain g a b (take (j + 1 - (i + 1)) (drop (i + 1) walk))
gain_found g a b levels n v i j [] sound tower count size some l differ trace again = absurd trace
gain_found g a b levels n v i j (u ∷ vs) sound tower count size some l differ (path, end, short, sum) again =
    let m : j + 1 - (i + 1) ≡ j - i = omega (arith, again.order) in
    let at : i + (j - i) ≡ j = omega (arith, again.order) in
    let within = again.within in
    let order = again.order in
    let last : n - 1 + 1 ≡ n = omega arith in
    let up = (tower.rounds (n - 1) (omega arith)).raised.keeps v l in
    let rise : height (level_of levels (n - 1)) v ≤ height (level_of levels n) v = rw last at up in
    let same : get_or (u ∷ vs) i 0 ≡ get_or (u ∷ vs) (i + (j - i)) 0 = rw at again.same in
    let r = loop_found g a b n v (height (level_of levels n) v) (height (level_of levels (n - 1)) v) u i (j - i) vs path end short sum (omega arith)
    (tower_most g a b levels n v sound tower count l) (omega arith) (omega arith) same in
    let d = loop_distinct u i (j - i) vs (omega arith) same (λ p q x y. again.differ p q x (omega arith)) in
    let few : length (take (j - i) (drop i vs)) ≤ vertex_count g = simp (length-take, length-drop) (omega arith) in
    rw (m, add-one) (record { is = r.0; distinct = d; few = few; gains = r.1 })

-- So a walk as long as the vertices are many repeats one.
pub must_repeat : (g : Digraph) (a b : ℕ) (levels : List Level) (n v : ℕ) (walk : List ℕ) → IsSoundGraph g → IsTower g a b levels → length levels ≡ n + 1
    → n ≡ vertex_count g → 0 < n → v < vertex_count g → (height (level_of levels n) v ≡ height (level_of levels (n - 1)) v → ⊥)
    → IsTrace g a b n v (height (level_of levels n) v) walk → AreDistinct walk → ⊥
must_repeat g a b levels n v [] sound tower count size some l differ trace distinct = trace
must_repeat g a b levels n v (u ∷ vs) sound tower count size some l differ (path, end, short, sum) distinct =
    let last : n - 1 + 1 ≡ n = omega arith in
    let up = (tower.rounds (n - 1) (omega arith)).raised.keeps v l in
    let rise : height (level_of levels (n - 1)) v ≤ height (level_of levels n) v = rw last at up in
    go (cases_lt (length vs) n) rise
  where
    first : (vs : List ℕ) → IsPath g u vs → last_of u vs ≡ v → u < vertex_count g
    first [] p e = rw e l
    first (w ∷ ws) p e = source_of g sound u w (gap g u w) p.0

    each : (k : ℕ) → k < suc (length vs) → get_or (u ∷ vs) k 0 < vertex_count g
    each zero m = first vs path end
    each (suc k) m = path_below g sound u vs path k (omega arith)

    go : (length vs < n) ⊎ (n ≤ length vs) → height (level_of levels (n - 1)) v ≤ height (level_of levels n) v → ⊥
    go (inl m) rise = let most = (tower_most g a b levels n v sound tower count l).each u vs path end m in differ (omega arith)
    go (inr m) rise = let few = few_distinct (u ∷ vs) (vertex_count g) distinct each in omega arith
