-- Fronts, as statements about all walks: the labels of walks whose last job is due within a bound that no other such label covers.
pub use Rattle.drt_wave.specs.Fronts.{IsWalkEntry, IsNonDominatedEntry, IsExactFront}
