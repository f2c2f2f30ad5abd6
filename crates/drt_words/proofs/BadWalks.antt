-- The walk of a command that ends in a fault, for any command: where a word is refused, and how a walk goes on to the next word.
use Rattle.std.proofs.Common.{◌≡◌, ◌⊎◌, ℕ, zero, suc, Bool, true, false, List, [], ◌∷◌, Option, Some, None, refl, inl, inr, length, drop, fold, encode_utf8, slice_get, bytes_eq, chars}
use Rattle.clap.specs.Lexer.{long_of}
use Rattle.clap.specs.Simple.{Shape}
use Rattle.clap.specs.Walk.{Held, Outcome, Rule, Step, Text, Waiting, Walk, bundle_step, plain, refused, idle, option, positional, next, trailing, subcommand, value}
use Rattle.clap.specs.Walk.{after_step, arg_by_index, arg_by_short, bundle_met, nothing_held, takes_several, to_positional, walk_from, walked, word_met}
use Rattle.clap.specs.Faults.{flag_word_fault, level_fault, settle_fault, turn_fault, walk_fault, word_fault}
use Rattle.drt_words.proofs.WordWalks.{Faulty, or_first, or_second, IsOpen, IsWithin, met_open, met_within, at, dashes}

-- ---- a walk after one more word

pub record Goes (c : List Rule) (h : Held) (waiting : Waiting) (place : ℕ) (is_trailing : Bool) (word : Text) : Type 0 where
  pub to_held : Held
  pub to_waiting : Waiting
  pub to_place : ℕ
  pub to_trailing : Bool
  pub is : walked c [] (at h waiting place is_trailing) word ≡ at to_held to_waiting to_place to_trailing

pub goes : (c : List Rule) (h : Held) (waiting : Waiting) (place : ℕ) (is_trailing : Bool) (word : Text) → Goes c h waiting place is_trailing word
unfolding walked
goes c h waiting place is_trailing word =
    let met = word_met c [] is_trailing waiting place word h in
    step met.0 met.1 (met_within c is_trailing waiting place word h) refl
  where
    start : Walk
    start = at h waiting place is_trailing

    placed : (g : Held) (o : Option Rule) → walked c [] start word ≡ to_positional c o word start g → Goes c h waiting place is_trailing word
    placed g None e = record { to_held = g; to_waiting = waiting; to_place = place; to_trailing = is_trailing; is = e }
    placed g (Some a) e = record { to_held = _; to_waiting = _; to_place = _; to_trailing = _; is = e }

    step : (g : Held) (s : Step) → IsWithin s → walked c [] start word ≡ after_step c word start g s → Goes c h waiting place is_trailing word
    step g (next w) in_it e = record { to_held = g; to_waiting = w; to_place = place; to_trailing = is_trailing; is = e }
    step g (trailing p) in_it e = record { to_held = g; to_waiting = waiting; to_place = p; to_trailing = true; is = e }
    step g (subcommand named) in_it e = absurd in_it
    step g value in_it e = placed g (arg_by_index c place) e

-- ---- where each word of a place is one text, only `--` says that no flag follows

-- the argument of a place, if any, takes one text, and ends no flags
pub data Placed (o : Option Rule) : Type 0 where
  nowhere : o ≡ None → Placed o
  somewhere : (a : Rule) → o ≡ Some a → takes_several a ≡ false → a.trailing_var_arg ≡ false → Placed o

pub record Stays (c : List Rule) (h : Held) (waiting : Waiting) (place : ℕ) (word : Text) : Type 0 where
  pub to_held : Held
  pub to_waiting : Waiting
  pub to_place : ℕ
  pub is : walked c [] (at h waiting place false) word ≡ at to_held to_waiting to_place false

pub stays : (c : List Rule) → ((place : ℕ) → Placed (arg_by_index c place)) → (h : Held) (waiting : Waiting) (place : ℕ) (word : Text) → bytes_eq word dashes ≡ false
    → Stays c h waiting place word
unfolding walked
stays c places h waiting place word dash =
    let met = word_met c [] false waiting place word h in
    step met.0 met.1 (met_open c waiting place word h dash) refl
  where
    start : Walk
    start = at h waiting place false

    placed : (g : Held) → Placed (arg_by_index c place) → walked c [] start word ≡ to_positional c (arg_by_index c place) word start g → Stays c h waiting place word
    placed g (nowhere f) e = record { to_held = g; to_waiting = waiting; to_place = place; is = rw f at e }
    placed g (somewhere a f single tail) e = record { to_held = _; to_waiting = _; to_place = _; is = rw (f, tail) at e }

    step : (g : Held) (s : Step) → IsOpen s → walked c [] start word ≡ after_step c word start g s → Stays c h waiting place word
    step g (next w) is_open e = record { to_held = g; to_waiting = w; to_place = place; is = e }
    step g (trailing p) is_open e = absurd is_open
    step g (subcommand named) is_open e = absurd is_open
    step g value is_open e = placed g (places place) e

-- ---- where nothing has a short name, a word of one dash is no flag

pub record IsNoFlag (h : Held) (o : Held × Outcome) : Type 0 where
  pub held : o.0 ≡ h
  pub outcome : (o.1 ≡ plain) ⊎ (o.1 ≡ refused)

pub bundle_none : (c : List Rule) → ((x : ℕ) → arg_by_short c x ≡ None) → (n : ℕ) (flags : Text) (skip : ℕ) (h : Held) → IsNoFlag h (bundle_met c n flags skip plain h)
unfolding bundle_met
bundle_none c none zero flags skip h = record { held = refl; outcome = inl refl }
bundle_none c none (suc n) flags skip h = step (bundle_none c none n) (slice_get (chars flags) 0) skip
  where
    step : ((rest : Text) (m : ℕ) (g : Held) → IsNoFlag g (bundle_met c n rest m plain g)) → (x : Option ℕ) (m : ℕ)
        → IsNoFlag h (bundle_step c x flags m plain h (bundle_met c n))
    step after None m = record { held = refl; outcome = inl refl }
    step after (Some x) zero = rw (none x) (record { held = refl; outcome = inr refl })
    step after (Some x) (suc m) = after (drop (length (encode_utf8 x)) flags) m h

-- ---- words that lead to a fault

module _ (s : Shape) where
  -- on the way or at the end
  abbrev pub Fails : Walk → List Text → Type 0
  Fails w words = Faulty (walk_fault s [] w words) ⊎ Faulty (settle_fault s.rules s.args_override_self (fold (walked s.rules []) w words).held)

  -- a fault of the next word, or of those after it
  pub now : (w : Walk) (word : Text) (words : List Text) → Faulty (turn_fault s [] w word) → Fails w (word ∷ words)
  unfolding walk_fault
  now w word words bad = inl (or_first _ _ bad)

  pub later : (w v : Walk) (word : Text) (words : List Text) → walked s.rules [] w word ≡ v → Fails v words → Fails w (word ∷ words)
  unfolding walk_fault
  later w v word words is fails = go (rw is fails)
    where
      go : Fails (walked s.rules [] w word) words → Fails w (word ∷ words)
      go (inl bad) = inl (or_second (turn_fault s [] w word) _ bad)
      go (inr bad) = inr bad

  -- a word that begins with two dashes is read before anything else
  pub flag_first : (h : Held) (waiting : Waiting) (place : ℕ) (word : Text) (words : List Text) → bytes_eq word dashes ≡ false
      → Faulty (flag_word_fault s.rules s.args_override_self (long_of word) word h) → Fails (at h waiting place false) (word ∷ words)
  flag_first h idle place word words dash bad = now (at h idle place false) word words (or_first (word_fault s [] false idle word h) _ (rw dash bad))
  flag_first h (option id) place word words dash bad = now (at h (option id) place false) word words (or_first (word_fault s [] false (option id) word h) _ (rw dash bad))
  flag_first h positional place word words dash bad = now (at h positional place false) word words (or_first (word_fault s [] false positional word h) _ (rw dash bad))

  -- the whole list
  pub level_fails : (words : List Text) → Fails (walk_from nothing_held) words → Faulty (level_fault s [] nothing_held words false [])
  level_fails words (inl bad) = or_first _ _ bad
  level_fails words (inr bad) = or_second _ _ (or_first _ _ bad)
