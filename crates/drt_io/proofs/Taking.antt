-- What reading to the end takes, at each of its ends.
use Rattle.std.proofs.Common.{◌≡◌, ◌≢◌, ◌+◌, ◌≤◌, ◌<◌, ℕ, List, ◌++◌, take, length, refl, length-append, length-take-le, arith, ◌-◌, Option, Ok, Err}
use Rattle.std.specs.Io.KnownBytes.{Consumes}
use Rattle.std.proofs.KnownBytes.{Consumes-trans}
use Rattle.drt_io.specs.Reading.{TakesWithin}
use Rattle.drt_io.specs.declared.reading.ReadEnd.{ReadEnd}
use Rattle.drt_io.specs.declared.reading.ReadEnd.TheVariants.{TooLong, Memory}

-- an end for another reason, after at most so many bytes
pub takes_few : (limit : ℕ) (old new : Option (List ℕ)) (taken : List ℕ) (e : ReadEnd) → Consumes old new taken → length taken ≤ limit → e ≢ TooLong
    → TakesWithin limit old new (Err e)
takes_few limit old new taken e lost few other = record {
  taken = taken;
  lost = lost;
  most = omega arith;
  too_long = (λ same. absurd (other (cc)), λ more. absurd (omega arith));
  given = tt;
}

-- the end of the input
pub takes_all : (limit : ℕ) (old new : Option (List ℕ)) (taken : List ℕ) → Consumes old new taken → length taken ≤ limit → TakesWithin limit old new (Ok taken)
takes_all limit old new taken lost few = record {
  taken = taken;
  lost = lost;
  most = omega arith;
  too_long = (λ same. cc, λ more. absurd (omega arith));
  given = refl;
}

-- one byte too many
pub takes_many : (limit : ℕ) (old new : Option (List ℕ)) (taken : List ℕ) → Consumes old new taken → length taken ≤ limit + 1 → limit < length taken
    → TakesWithin limit old new (Err TooLong)
takes_many limit old new taken lost most more = record {
  taken = taken;
  lost = lost;
  most = most;
  too_long = (λ same. more, λ _. refl);
  given = tt;
}

-- a read that found more than there is room for
pub takes_over : (limit n : ℕ) (old mid new : Option (List ℕ)) (bytes into : List ℕ) → Consumes old mid bytes → Consumes mid new (take n into)
    → length bytes ≤ limit → n ≤ length into → n ≤ (limit - length bytes) + 1 → limit - length bytes < n → TakesWithin limit old new (Err TooLong)
takes_over limit n old mid new bytes into first second few inside most more =
    let size : length (bytes ++ take n into) ≡ length bytes + n = omega (arith, length-append bytes (take n into), length-take-le n into inside) in
    takes_many limit old new (bytes ++ take n into) (Consumes-trans old mid new bytes (take n into) first second) (omega arith) (omega arith)

memory_is_other : Memory ≢ TooLong
memory_is_other same = cc

-- a read for whose bytes there was no memory
pub takes_more_few : (limit n : ℕ) (old mid new : Option (List ℕ)) (bytes into : List ℕ) → Consumes old mid bytes → Consumes mid new (take n into)
    → length bytes ≤ limit → n ≤ length into → n ≤ limit - length bytes → TakesWithin limit old new (Err Memory)
takes_more_few limit n old mid new bytes into first second few inside most =
    let size : length (bytes ++ take n into) ≡ length bytes + n = omega (arith, length-append bytes (take n into), length-take-le n into inside) in
    takes_few limit old new (bytes ++ take n into) Memory (Consumes-trans old mid new bytes (take n into) first second) (omega arith) memory_is_other
