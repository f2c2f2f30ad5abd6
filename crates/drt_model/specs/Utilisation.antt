-- The ratio of a task and the utilisation of a set (Stigge, Ekberg, Guan and Yi, RTAS 2011), as statements about all cycles.
use Rattle.std.specs.Prelude.{◌≡◌, ◌≢◌, ℕ, ◌+◌, ◌*◌, ◌/◌, ◌<◌, ◌≤◌, List, [], ◌∷◌, length, slice_index}
use Rattle.drt_model.specs.Each.{Each}
use Rattle.std.specs.Int.{◌∣◌, IsGcd}
use Rattle.drt_model.specs.Digraph.{Digraph}
use Rattle.drt_model.specs.Walk.{work, IsCycle, cycle_span}

-- No cycle has a greater ratio of its execution times to its separations than a / b.
abbrev pub BoundsCycles : Digraph → ℕ → ℕ → Type 0
BoundsCycles g a b = (cycle : List ℕ) → IsCycle g cycle → b * work g cycle ≤ a * cycle_span g cycle

-- The cycle has the ratio a / b, which isn't 0; the empty list stands for no cycle, with the ratio 0 / 1.
abbrev pub HasRatio : Digraph → ℕ → ℕ → List ℕ → Type 0
HasRatio g a b [] = (a ≡ 0) × (b ≡ 1)
HasRatio g a b (v ∷ vs) = IsCycle g (v ∷ vs) × (b * work g (v ∷ vs) ≡ a * cycle_span g (v ∷ vs)) × (1 ≤ a)

-- No two places of the list have the same number.
abbrev pub AreDistinct : List ℕ → Type 0
AreDistinct xs = (i j : ℕ) → i < j → j < length xs → slice_index xs i ≢ slice_index xs j

-- A fraction, as a pair of numbers.
pub record Fraction : Type 0 where
  pub num : ℕ
  pub den : ℕ

-- The ratio of a graph: in lowest terms, the greatest ratio of a cycle, which some cycle has; 0 / 1 where there is none.
pub record IsRatio (g : Digraph) (r : Fraction) : Type 0 where
  pub lowest : IsGcd r.num r.den 1
  pub least : BoundsCycles g r.num r.den
  pub cycle : List ℕ
  pub has : HasRatio g r.num r.den cycle

-- The fractions are the ratios of the graphs, in order.
abbrev pub AreRatios : List Digraph → List Fraction → Type 0
AreRatios graphs ratios = Each IsRatio graphs ratios

-- The number is a multiple of each denominator.
abbrev pub EachDivides : List Fraction → ℕ → Type 0
EachDivides [] m = Unit {0}
EachDivides (r ∷ ratios) m = (r.den ∣ m) × EachDivides ratios m

-- The scale L of a set is the least common multiple of the denominators of its ratios.
pub record IsScale (ratios : List Fraction) (scale : ℕ) : Type 0 where
  pub some : 1 ≤ scale
  pub multiple : EachDivides ratios scale
  pub least : (m : ℕ) → EachDivides ratios m → scale ∣ m

-- The rate A of a set is the sum of its ratios times the scale. The utilisation is A / L; it is one exactly where A is L.
unfoldable pub rate : ℕ → List Fraction → ℕ
rate scale [] = 0
rate scale (r ∷ ratios) = r.num * (scale / r.den) + rate scale ratios
