-- What a worker's steps do to its seat.
use Rattle.std.proofs.Common.{◌≡◌, ◌≢◌, ℕ, ◌+◌, ◌*◌, ◌/◌, ◌%◌, ◌^◌, ◌<◌, ◌≤◌, List, [], refl, sym, ap, ◌∙◌, subst, ⊎_elim, arith}
use Rattle.std.proofs.Math.Nat.{mod-eq_of_lt, mod-le}
use Rattle.std.proofs.lemmas.Nat.{div-add-mod', div_below}
use mathlib.Core.Logic.{dite}
use mathlib.Core.Option.{some}
use native.Mathlib.Decide.{ℕ_discrete, dec_lt}
use lib.ListN.{get_elem?}
use Rattle.drt_model.specs.declared.tasks.Edge.{Edge}
use Rattle.drt_model.specs.Digraph.{out_edges, out_degree, edge_of}
use Rattle.drt_wave.specs.declared.plan.Plan.{Plan}
use Rattle.drt_wave.specs.declared.seat.WaveSeat.{WaveSeat}
use Rattle.drt_wave.specs.declared.table.WaveTable.{WaveTable}
use Rattle.drt_wave.specs.Net.{Net, Among, IsGreatestReaching}
use Rattle.drt_wave.specs.Cells.{width, cell_at, arcs_from, net_of, IsWavePlan}
use Rattle.drt_wave.specs.Lane.{LaneSeat}
use Rattle.drt_wave.specs.Seats.{parts_held, draws_of, HasRaised, IsSeatKept, Turned, HasClaimed}
use Rattle.drt_wave.specs.Seats.{IsExpanded, AllExpanded, ExpandedTo, PassedOn, Passed, IsPast, HasDrawn, HasDrawnBelow}
use Rattle.drt_wave.specs.Shifts.{HasWorked}
use Rattle.drt_wave.proofs.Cells.{arc_is, cell_vertex, cell_offset, is_net}

pub kept_refl : (s : WaveSeat) → IsSeatKept s s
kept_refl s = record {
  parts = refl;
  draws = refl;
  known = λ k h. h;
  raised = λ v o x h. h;
}

pub kept_more : (s n o : WaveSeat) → IsSeatKept s n → IsSeatKept n o → IsSeatKept s o
kept_more s n o p q = record {
  parts = q.parts ∙ p.parts;
  draws = q.draws ∙ p.draws;
  known = λ k h. q.known k (p.known k h);
  raised = λ v a x h. q.raised v a x (p.raised v a x h);
}

pub kept_some : (s n : WaveSeat) → IsSeatKept s n → 0 < parts_held s → 0 < parts_held n
kept_some s n k part = subst (λ x. 0 < x) (sym k.parts) part

pub turned_refl : (s : WaveSeat) → Turned s s
turned_refl s = record {
  parts = refl;
  draws = λ j k a. a;
  known = λ k h. h;
  raised = λ v o x h. h;
}

pub turned_more : (s n o : WaveSeat) → Turned s n → Turned n o → Turned s o
turned_more s n o p q = record {
  parts = q.parts ∙ p.parts;
  draws = λ j k a. q.draws j k (p.draws j k a);
  known = λ k h. q.known k (p.known k h);
  raised = λ v a x h. q.raised v a x (p.raised v a x h);
}

pub turned_kept : (s n : WaveSeat) → IsSeatKept s n → Turned s n
turned_kept s n k = record {
  parts = k.parts;
  draws = λ i j a. subst (λ l. Among (i, j) l) (sym k.draws) a;
  known = k.known;
  raised = k.raised;
}

pub turned_some : (s n : WaveSeat) → Turned s n → 0 < parts_held s → 0 < parts_held n
turned_some s n t part = subst (λ x. 0 < x) (sym t.parts) part

-- a number was drawn, and nothing else done
pub drawn_turned : (s n : WaveSeat) → parts_held n ≡ parts_held s → ((j k : ℕ) → Among (j, k) (draws_of s) → Among (j, k) (draws_of n)) → n.lanes ≡ s.lanes → Turned s n
drawn_turned s n parts draws lanes = record {
  parts = parts;
  draws = draws;
  known = λ k h. subst (λ l. (v : ℕ) (y : LaneSeat) → get_elem? l.items v ≡ some y → k ≤ y.me.0.known) (sym lanes) h;
  raised = λ v o x h. subst (λ l. (y : LaneSeat) × (get_elem? l.items v ≡ some y) × Among (o, x) y.me.0.raised) (sym lanes) h;
}

-- what was told is at most the number
pub told_low : (s n : WaveSeat) (j r : ℕ) (d : HasClaimed j r s n) → r ≤ d.number
told_low s n j r d = subst (λ z. z ≤ d.number) (sym d.told) (mod-le d.number (2 ^ 64))

-- a number past the end of the wave was drawn
pub past_drawn : (g : Net) (s n : WaveSeat) (j r : ℕ) → HasClaimed j r s n → g.size j ≤ r * 64 → IsPast g j n
past_drawn g s n j r d past = let low = told_low s n j r d in (d.number, d.drawn, omega arith)

module _ (p : Plan) where
  pub passed_more : (s n : WaveSeat) (u o x i : ℕ) → IsSeatKept s n → Passed p s u o x i → PassedOn p n u o x i → Passed p n u o x (i + 1)
  passed_more s n u o x i kept before now k lt fits = dite (dec_lt k i)
      (λ l. kept.raised _ _ _ (before k l fits))
      (λ nl. let same : k ≡ i = omega arith in subst (PassedOn p n u o x) (sym same) now fits)

  -- the cell whose greatest work was read, and passed on where it is not 0, is expanded
  pub expanded_by : (n : WaveSeat) (u s x : ℕ) → s ≤ p.bound → IsGreatestReaching (net_of p) (cell_at p u s) x → (x ≢ 0 → Passed p n u s x (out_degree p.graph u)) → IsExpanded p n (cell_at p u s)
  expanded_by n u s x le best passed =
      let b : ℕ = cell_at p u s in
      let bu : b / width p ≡ u = cell_vertex p u s le in let bs : b % width p ≡ s = cell_offset p u s le in (
        x,
        best,
        (λ ne t w a.
            let a' : Among (t, w) (arcs_from p s (out_edges p.graph u)) = subst (λ (q : ℕ × List Edge). Among (t, w) (arcs_from p q.0 q.1)) (λ i. (bs i, out_edges p.graph (bu i))) a in
            let arc = arc_is p s t w (out_edges p.graph u) a' in let k : ℕ = arc.0 in let e : Edge = edge_of p.graph u k in
            let due = arc.1.1 in let within : s + e.sep ≤ p.bound = omega (arith, due) in
            let vertex : t / width p ≡ e.to = ap (λ z. z / width p) arc.1.2 ∙ cell_vertex p e.to (s + e.sep) within in
            let offset : t % width p ≡ s + e.sep = ap (λ z. z % width p) arc.1.2 ∙ cell_offset p e.to (s + e.sep) within in
            subst (λ (q : ℕ × ℕ × ℕ). HasRaised n q.0 q.1 (x + q.2)) (λ i. (sym vertex i, sym offset i, sym arc.1.3 i)) (passed ne k arc.1.0 arc.1.1)),
      )

  -- what is expanded stays so
  pub expanded_on : (s n : WaveSeat) (c : ℕ) → ((v o x : ℕ) → HasRaised s v o x → HasRaised n v o x) → IsExpanded p s c → IsExpanded p n c
  expanded_on s n c raised e = (e.0, e.1, λ ne t w a. raised (t / width p) (t % width p) (e.0 + w) (e.2 ne t w a))

  pub all_on : (s n : WaveSeat) → draws_of n ≡ draws_of s → ((v o x : ℕ) → HasRaised s v o x → HasRaised n v o x) → AllExpanded p s → AllExpanded p n
  all_on s n draws raised all j k lt at = expanded_on s n ((net_of p).cell j k) raised (all j k lt (subst (λ l. Among (j, k / 64) l) draws at))

  -- a seat that drew nothing has nothing to expand
  pub all_none : (s : WaveSeat) → draws_of s ≡ [] → AllExpanded p s
  all_none s none j k lt at = absurd (subst (λ l. Among (j, k / 64) l) none at)

  -- a number past the end of the wave was drawn
  pub all_past : (s n : WaveSeat) (j r : ℕ) → HasClaimed j r s n → Turned s n → AllExpanded p s → (net_of p).size j ≤ r * 64 → AllExpanded p n
  all_past s n j r d turned all past a b lt at = ⊎_elim
      (λ (e : (a ≡ j) × (b / 64 ≡ d.number)).
      let t : ℕ = d.number in let low : r ≤ t = told_low s n j r d in
      let q : ℕ = b / 64 in let same : q ≡ t = e.1 in let lt' : b < (net_of p).size j = subst (λ z. b < (net_of p).size z) e.0 lt in
      let split : q * 64 + b % 64 ≡ b = div-add-mod' b 64 in absurd (omega arith))
      (λ (old : Among (a, b / 64) (draws_of s)). expanded_on s n ((net_of p).cell a b) turned.raised (all a b lt old)) (d.no_more a (b / 64) at)

  -- a number within the wave was drawn, and the cells of its block were expanded
  pub all_drawn : (s n o : WaveSeat) (j r : ℕ) → HasClaimed j r s n → Turned s n → AllExpanded p s → (net_of p).size j < 2 ^ 64 → IsSeatKept n o
      → ((k : ℕ) → k < (net_of p).size j → k / 64 ≡ r → IsExpanded p o ((net_of p).cell j k)) → AllExpanded p o
  all_drawn s n o j r d turned all small kept here a b lt at = ⊎_elim
      (λ (e : (a ≡ j) × (b / 64 ≡ d.number)).
      let t : ℕ = d.number in let q : ℕ = b / 64 in let split : q * 64 + b % 64 ≡ b = div-add-mod' b 64 in
      let same : q ≡ t = e.1 in let lt' : b < (net_of p).size j = subst (λ z. b < (net_of p).size z) e.0 lt in
      let is : r ≡ q = d.told ∙ mod-eq_of_lt {n = t} {m = 2 ^ 64} (omega arith) ∙ sym same in
      subst (λ z. IsExpanded p o ((net_of p).cell z b)) (sym e.0) (here b lt' (sym is)))
      (λ (old : Among (a, b / 64) (draws_of s)).
      expanded_on n o ((net_of p).cell a b) kept.raised (expanded_on s n ((net_of p).cell a b) turned.raised (all a b lt old)))
      (d.no_more a (b / 64) (subst (λ l. Among (a, b / 64) l) kept.draws at))

  -- the cells of some numbers of a wave are expanded, and that of the next number too
  pub block_more : (s n : WaveSeat) (j low k : ℕ) → IsSeatKept s n → ((i : ℕ) → low ≤ i → i < k → IsExpanded p s ((net_of p).cell j i)) → IsExpanded p n ((net_of p).cell j k)
      → (i : ℕ) → low ≤ i → i < k + 1 → IsExpanded p n ((net_of p).cell j i)
  block_more s n j low k kept before now i from lt = dite (dec_lt i k)
      (λ l. expanded_on s n ((net_of p).cell j i) kept.raised (before i from l))
      (λ nl. let same : i ≡ k = omega arith in subst (λ z. IsExpanded p n ((net_of p).cell j z)) (sym same) now)

  -- where all blocks up to a wave are drawn and expanded, so is each cell
  pub expanded_to : IsWavePlan p → (s : WaveSeat) (j : ℕ) → AllExpanded p s → HasDrawnBelow (net_of p) (j + 1) s → ExpandedTo p j s
  expanded_to plan s j all drawn c lt le =
      let at = (is_net p plan).place c lt in let i : ℕ = (net_of p).wave c in
      subst (IsExpanded p s) at.2 (all i at.0 at.1 (drawn i at.0 (omega arith) at.1))

-- the seat with every part has drawn one number more
pub drawn_more : (s n : WaveSeat) (j r b : ℕ) → HasClaimed j r s n → Turned s n → parts_held s ≡ 1024 → HasDrawn j b s → HasDrawn j (b + 1) n
drawn_more s n j r b d turned whole has k lt =
    let t : ℕ = d.number in
    let low : b ≤ t = dite (dec_lt t b) (λ lt. let less = d.above t (has t lt) in absurd (omega arith)) (λ nlt. omega arith) in
    dite (ℕ_discrete k t)
    (λ (e : k ≡ t). subst (λ z. Among (j, z) (draws_of n)) (sym e) d.drawn)
    (λ ne. turned.draws j k (d.whole whole k (omega arith)))

-- it had drawn the whole wave where the number is past the end
worked_before : (table : WaveTable) (s n : WaveSeat) (j r : ℕ) → HasClaimed j r s n → parts_held s ≡ 1024 → (net_of table.plan).size j ≤ r * 64 → HasWorked table j s
worked_before table s n j r d whole past =
    let t : ℕ = d.number in let low : r ≤ t = told_low s n j r d in record {
      blocks = t;
      drawn = d.whole whole;
      ended = omega arith;
    }

pub worked_past : (table : WaveTable) (s n : WaveSeat) (j r : ℕ) → HasClaimed j r s n → Turned s n → parts_held s ≡ 1024 → (net_of table.plan).size j ≤ r * 64 → HasWorked table j n
worked_past table s n j r d turned whole past =
    let w = worked_before table s n j r d whole past in record {
      blocks = w.blocks;
      drawn = λ k lt. turned.draws j k (w.drawn k lt);
      ended = w.ended;
    }

-- the waves so far were drawn to their ends, and the next one too
pub waves_more : (table : WaveTable) (s n : WaveSeat) (j : ℕ) → Turned s n → HasDrawnBelow (net_of table.plan) j s → HasWorked table j n → HasDrawnBelow (net_of table.plan) (j + 1) n
waves_more table s n j turned before worked i k lt few = dite (dec_lt i j)
    (λ l. turned.draws i (k / 64) (before i k l few))
    (λ nl.
    let same : i ≡ j = omega arith in let ended = worked.ended in
    let few' : k < (net_of table.plan).size j = subst (λ z. k < (net_of table.plan).size z) same few in
    subst (λ z. Among (z, k / 64) (draws_of n)) (sym same) (worked.drawn (k / 64) (div_below k 64 worked.blocks (omega arith) (omega arith))))

pub below_turned : (g : Net) (s n : WaveSeat) (j : ℕ) → Turned s n → HasDrawnBelow g j s → HasDrawnBelow g j n
below_turned g s n j turned before i k lt few = turned.draws i (k / 64) (before i k lt few)

pub below_on : (g : Net) (s n : WaveSeat) (j : ℕ) → draws_of n ≡ draws_of s → HasDrawnBelow g j s → HasDrawnBelow g j n
below_on g s n j draws before i k lt few = subst (λ l. Among (i, k / 64) l) (sym draws) (before i k lt few)

-- where the seat with every part drew a number past the end of a wave, each cell up to that wave was expanded
pub past_expanded : (table : WaveTable) (s n : WaveSeat) (j r : ℕ) → HasClaimed j r s n → parts_held s ≡ 1024 → (net_of table.plan).size j ≤ r * 64 → AllExpanded table.plan s
    → HasDrawnBelow (net_of table.plan) j s → ExpandedTo table.plan j s
past_expanded table s n j r d whole past all before =
    expanded_to table.plan table.planned s j all (waves_more table s s j (turned_refl s) before (worked_before table s n j r d whole past))
