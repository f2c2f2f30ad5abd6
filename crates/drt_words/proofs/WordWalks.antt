-- What the walk of `clap` over any words keeps to, whatever the options.
use Rattle.std.proofs.Common.{◌≡◌, ℕ, Bool, cond, true, false, List, [], ◌∷◌, Option, Some, None, length, ne_eqb, suc-ne-zero, bytes_eq}
use Rattle.clap.specs.Kinds.{Kinds, or_else}
use Rattle.clap.specs.Lexer.{long_of, short_of}
use Rattle.clap.specs.Walk.{Held, Outcome, Rule, Step, Text, Waiting, Walk, done, waits, plain, refused, idle, option, positional, next, trailing}
use Rattle.clap.specs.Walk.{subcommand, value, after_flag, bundle, is_empty, long_or_other, plain_word, short_or_plain, word_met}

-- there is a fault
abbrev pub Faulty : Kinds → Type 0
Faulty [] = ⊥
Faulty (k ∷ kinds) = Unit {0}

pub or_first : (a b : Kinds) → Faulty a → Faulty (or_else a b)
or_first [] b h = absurd h
or_first (k ∷ ks) b h = tt

pub or_second : (a b : Kinds) → Faulty b → Faulty (or_else a b)
or_second [] b h = h
or_second (k ∷ ks) b h = tt

-- a list of kinds that has one isn't empty
pub not_empty : (kinds : Kinds) → Faulty kinds → is_empty kinds ≡ false
not_empty [] h = absurd h
not_empty (k ∷ kinds) h = ne_eqb (length (k ∷ kinds)) 0 (suc-ne-zero (length kinds))

-- a walk that no subcommand stopped
abbrev pub at : Held → Waiting → ℕ → Bool → Walk
at h waiting position is_trailing = record { held = h; waiting = waiting; position = position; is_trailing = is_trailing; stopped = None }

abbrev pub dashes : Text
dashes = 45 ∷ 45 ∷ []

-- the step enters no subcommand
abbrev pub IsWithin : Step → Type 0
IsWithin (next waiting) = Unit {0}
IsWithin (trailing position) = Unit {0}
IsWithin (subcommand name) = ⊥
IsWithin value = Unit {0}

-- nor does it say that all that follows is no flag
abbrev pub IsOpen : Step → Type 0
IsOpen (next waiting) = Unit {0}
IsOpen (trailing position) = ⊥
IsOpen (subcommand name) = ⊥
IsOpen value = Unit {0}

open_within : (s : Step) → IsOpen s → IsWithin s
open_within (next waiting) h = tt
open_within (trailing position) h = tt
open_within (subcommand name) h = h
open_within value h = tt

module _ (c : List Rule) where
  plain_open : (waiting : Waiting) (word : Text) (h : Held) → IsOpen (plain_word c waiting word h).1
  plain_open idle word h = tt
  plain_open (option id) word h = tt
  plain_open positional word h = tt

  flag_open : (waiting : Waiting) (word : Text) (h : Held) (o : Outcome) → IsOpen (after_flag c waiting word h o).1
  flag_open waiting word h done = tt
  flag_open waiting word h (waits id) = tt
  flag_open waiting word h plain = plain_open waiting word h
  flag_open waiting word h refused = plain_open waiting word h

  short_open : (waiting : Waiting) (word : Text) (flags : Option Text) (h : Held) → IsOpen (short_or_plain c waiting word flags h).1
  short_open waiting word (Some flags) h = flag_open waiting word (bundle c flags h).0 (bundle c flags h).1
  short_open waiting word None h = plain_open waiting word h

  long_open : (waiting : Waiting) (word : Text) (name : Option (Text × Option Text)) (h : Held) → IsOpen (long_or_other c waiting word name h).1
  long_open waiting word (Some p) h = flag_open waiting word _ _
  long_open waiting word None h = short_open waiting word (short_of word) h

  dash_within : (b : Bool) (waiting : Waiting) (position : ℕ) (word : Text) (h : Held)
      → IsWithin (cond b (h, trailing position) (long_or_other c waiting word (long_of word) h)).1
  dash_within true waiting position word h = tt
  dash_within false waiting position word h = open_within _ (long_open waiting word (long_of word) h)

  pub met_within : (is_trailing : Bool) (waiting : Waiting) (position : ℕ) (word : Text) (h : Held)
      → IsWithin (word_met c [] is_trailing waiting position word h).1
  met_within true waiting position word h = tt
  met_within false idle position word h = dash_within _ idle position word h
  met_within false (option id) position word h = dash_within _ (option id) position word h
  met_within false positional position word h = dash_within _ positional position word h

  -- a word other than `--` is no such step
  pub met_open : (waiting : Waiting) (position : ℕ) (word : Text) (h : Held) → bytes_eq word dashes ≡ false
      → IsOpen (word_met c [] false waiting position word h).1
  met_open idle position word h dash = rw dash (long_open idle word (long_of word) h)
  met_open (option id) position word h dash = rw dash (long_open (option id) word (long_of word) h)
  met_open positional position word h dash = rw dash (long_open positional word (long_of word) h)
