-- What stands once no round raises anything: the ratio is the greatest, and the last heights are its potentials.
use Rattle.std.proofs.Common.{◌≡◌, ℕ, ℤ, pos, ◌+◌, ◌-◌, ◌<◌, ◌≤◌, List, [], ◌∷◌, length, arith, ◌∙◌}
use Rattle.std.proofs.lemmas.Int.{ints}
use Rattle.std.specs.Int.{IsGcd}
use Rattle.drt_model.specs.Digraph.{Digraph, IsSoundGraph, vertex_count}
use Rattle.drt_graph.specs.Potential.{potential_of}
use Rattle.drt_graph.specs.RatioRules.{IsClosedCycle, IsTight, ProvesRatio}
use Rattle.drt_model.specs.Utilisation.{AreDistinct, HasRatio}
use Rattle.drt_graph.proofs.Edges.{target_of, source_of}
use Rattle.drt_ratio.specs.declared.levels.Level.{Level}
use Rattle.drt_ratio.specs.Claims.{IsInReach, IsRatioProof}
use Rattle.drt_ratio.specs.Levels.{height, level_of, IsTower, IsSettled}
use Rattle.drt_ratio.proofs.Loops.{tower_most}
use Rattle.drt_ratio.proofs.Optima.{is_potential, settled_fits, settled_least, tower_reaches}

-- The search ended at these levels of n rounds, with the heights below the last as potentials.
pub record Ended (g : Digraph) (a b n : ℕ) (levels : List Level) (hs : List ℤ) : Type 0 where
  pub sound : IsSoundGraph g
  pub size : n ≡ vertex_count g
  pub tower : IsTower g a b levels
  pub count : length levels ≡ n + 1
  pub settled : IsSettled levels n
  pub counted : length hs ≡ n
  pub heights : (v : ℕ) → v < n → potential_of hs v ≡ pos (height (level_of levels (n - 1)) v)

some : {g : Digraph} {a b n : ℕ} {levels : List Level} {hs : List ℤ} → Ended g a b n levels hs → 0 < n
some e = omega (arith, e.sound.some, e.size)

-- The ratio, the cycle and the potentials are those of the graph.
pub ratio_proof : (g : Digraph) (a b n : ℕ) (levels : List Level) (cycle : List ℕ) (hs : List ℤ) → Ended g a b n levels hs → IsGcd a b 1 → HasRatio g a b cycle
    → AreDistinct cycle → IsRatioProof g a b cycle hs
ratio_proof g a b n levels cycle hs e lowest has distinct = record {
  lowest = lowest;
  least = settled_least g a b levels n e.sound e.tower e.count e.size (some e) e.settled;
  has = has;
  distinct = distinct;
  canonical = record {
    counted = e.counted ∙ e.size;
    each = λ v l.
        (let is = e.heights v (omega (arith, e.size)) in
        let reaches = tower_reaches g a b levels (n - 1) v e.sound e.tower (omega (arith, e.count)) l in
        rw is (is_potential g a b n v (height (level_of levels (n - 1)) v) e.size (some e) (tower_most g a b levels n v e.sound e.tower e.count l) reaches));
  };
}

closed_of : (g : Digraph) (a b : ℕ) (cycle : List ℕ) → HasRatio g a b cycle → IsClosedCycle g a cycle
closed_of g a b [] has = has.0
closed_of g a b (v ∷ vs) has = (λ e. (let some = has.2 in absurd (omega arith)), has.0)

tight_of : (g : Digraph) (a b : ℕ) (cycle : List ℕ) → HasRatio g a b cycle → IsTight g a b cycle
tight_of g a b [] has = tt
tight_of g a b (v ∷ vs) has = has.1

-- They keep the rules of a claimed ratio.
pub rules_kept : (g : Digraph) (a b n : ℕ) (levels : List Level) (cycle : List ℕ) (hs : List ℤ) → Ended g a b n levels hs → HasRatio g a b cycle → ProvesRatio g a b cycle hs
rules_kept g a b n levels cycle hs e has = record {
  counted = e.counted ∙ e.size;
  fits = λ u v p edge.
      (let f = settled_fits g a b levels n e.sound e.tower e.count e.size (some e) e.settled u v p edge in
      let x = e.heights u (omega (arith, e.size, source_of g e.sound u v p edge)) in
      let y = e.heights v (omega (arith, e.size, (target_of g e.sound u v p edge).0)) in
      rw (x, y) (omega (arith, ints, f)));
  closed = closed_of g a b cycle has;
  tight = tight_of g a b cycle has;
}

-- Their numbers are within reach.
pub in_reach : (g : Digraph) (a b n : ℕ) (levels : List Level) (hs : List ℤ) → Ended g a b n levels hs → a ≤ 100000000 → 1 ≤ b → b ≤ 100000000
    → IsInReach g a b hs
in_reach g a b n levels hs e num positive den = record {
  num = num;
  some = positive;
  den = den;
  low = λ v l. (let is = e.heights v (omega (arith, e.size)) in rw is (omega (arith, ints)));
  high = λ v l.
      (let is = e.heights v (omega (arith, e.size)) in
      let small = e.tower.small (n - 1) (omega (arith, e.count, some e)) v l in
      let most : height (level_of levels (n - 1)) v ≤ 10000000000000000 = omega (arith, e.size, e.sound.few) in
      rw is (omega (arith, ints)));
}
