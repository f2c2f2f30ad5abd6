-- What reading to the end of input takes.
use Rattle.std.specs.Prelude.{◌≡◌, ◌+◌, ◌≤◌, ◌<◌, ◌↔◌, ℕ, List, length, Result, Err, IfOk, Option}
use Rattle.std.specs.Io.KnownBytes.{Consumes}
use Rattle.drt_io.specs.declared.reading.ReadEnd.{ReadEnd}
use Rattle.drt_io.specs.declared.reading.ReadEnd.TheVariants.{TooLong}

-- The bytes that one call took from the source: at most one beyond the limit, more than the limit exactly where it answers `TooLong`, and those of an Ok.
pub record TakesWithin (limit : ℕ) (old new : Option (List ℕ)) (result : Result (List ℕ) ReadEnd) : Type 0 where
  pub taken : List ℕ
  pub lost : Consumes old new taken
  pub most : length taken ≤ limit + 1
  pub too_long : (result ≡ Err TooLong) ↔ (limit < length taken)
  pub given : IfOk result (λ bytes. bytes ≡ taken)
