-- What the sources and sinks over memory are to contracts.
use Rattle.std.specs.Prelude.{◌-◌, ℕ, List, nat_eq, Option, Some, None, cond, take, length}

-- A source over memory: the bytes left, the most it gives in a call, the calls that fail, the calls so far and the faults so far.
pub record Feed : Type 0 where
  pub left : List ℕ
  pub piece : ℕ
  pub failing : List ℕ
  pub calls : ℕ
  pub faults : ℕ

-- A sink over memory: the bytes held, the room for them, the most it takes in a call, the calls that fail, the calls so far and the faults so far.
pub record Store : Type 0 where
  pub held : List ℕ
  pub room : ℕ
  pub piece : ℕ
  pub failing : List ℕ
  pub calls : ℕ
  pub faults : ℕ

-- A sink that never fails: the bytes in its room, the room, and how many bytes were given up.
pub record KeptBytes : Type 0 where
  pub bytes : List ℕ
  pub room : ℕ
  pub lost : ℕ

-- What such a sink tells: its bytes, as long as none was given up.
abbrev pub told : KeptBytes → Option (List ℕ)
told k = cond (nat_eq k.lost 0) (Some k.bytes) None

-- A reader of std as a source: the bytes that the reader has left, where it tells them, and the faults so far.
pub record Inflow : Type 0 where
  pub left : Option (List ℕ)
  pub faults : ℕ

-- A writer of std as a sink: the bytes that the writer holds, where it tells them, and the faults so far.
pub record Outflow : Type 0 where
  pub held : Option (List ℕ)
  pub faults : ℕ

-- The bytes without the last ones, as many as were written and then not flushed.
abbrev pub without_last : ℕ → Option (List ℕ) → Option (List ℕ)
without_last n None = None
without_last n (Some bytes) = Some (take (length bytes - n) bytes)
