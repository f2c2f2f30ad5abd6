-- The walk of a command over its options and words where each is spelled plainly: it refuses none of them, and ends with their rows.
use Rattle.std.proofs.Common.{◌≡◌, ◌++◌, ◌&&◌, ℕ, Bool, cond, true, false, List, [], ◌∷◌, Some, None, codes, refl, fold, bytes_eq}
use Rattle.clap.specs.Kinds.{Kinds, or_else}
use Rattle.clap.specs.Lexer.{long_of}
use Rattle.clap.specs.ValueTests.{is_unsigned_in}
use Rattle.clap.specs.Simple.{Shape, filled, with_index}
use Rattle.clap.specs.Walk.{Held, Row, Rule, Text, Walk, arg_by_id, arg_by_index, arg_by_long, has_row, idle, is_multiple, is_pending, next_position, option, positional_held}
use Rattle.clap.specs.Walk.{pushed, reacted, nothing_held, settled, takes_several, used, value, walk_from, walked, with_default}
use Rattle.clap.specs.Faults.{check_fault, defaults_fault, settle_fault, step_fault, turn_fault, use_fault, walk_fault}
use Rattle.drt_words.specs.CommandLine.{flag_rule, number_rule}
use Rattle.drt_words.specs.Plain.{BeginsPlain, flag_words, Spells, apart, joined}
use Rattle.drt_words.specs.Meaning.{meaning_at}
use Rattle.drt_words.proofs.WordWalks.{Faulty, at, dashes}
use Rattle.drt_words.proofs.Entering.{meaning_below, refused_below}

module _ (s : Shape) where
  -- what is held is used without a fault, and leaves these rows
  pub record Settles (rows : List Row) (h : Held) : Type 0 where
    pub no_fault : settle_fault s.rules s.args_override_self h ≡ []
    pub leaves : (settled s.rules h).rows ≡ rows

  -- the walk over these words meets no fault, and leaves these rows
  pub record Ends (rows : List Row) (w : Walk) (words : List Text) : Type 0 where
    pub no_fault : walk_fault s [] w words ≡ []
    pub settles : Settles rows (fold (walked s.rules []) w words).held

  pub ends_here : (rows : List Row) (w : Walk) → Settles rows w.held → Ends rows w []
  unfolding walk_fault
  ends_here rows w it = record { no_fault = refl; settles = it }

  -- a word without a fault
  pub one_more : (rows : List Row) (w v : Walk) (word : Text) (words : List Text) → turn_fault s [] w word ≡ [] → walked s.rules [] w word ≡ v → Ends rows v words
      → Ends rows w (word ∷ words)
  unfolding walk_fault
  one_more rows w v word words fine is ends =
      let it : Settles rows (fold (walked s.rules []) (walked s.rules [] w word) words).held = rw is ends.settles in
      record { no_fault = rw (fine, is) ends.no_fault; settles = it }

  -- what is refused at the end of such a walk
  abbrev pub last_fault : List Row → Kinds
  last_fault rows = or_else (defaults_fault rows s.rules) (check_fault s (fold with_default rows s.rules) false)

  -- the command means what its rows do, with the defaults
  pub below_ends : (rows : List Row) (words : List Text) → Ends rows (walk_from nothing_held) words → last_fault rows ≡ []
      → meaning_below s words ≡ meaning_at s.name (fold with_default rows s.rules)
  below_ends rows words ends fine = rw (ends.no_fault, ends.settles.no_fault, ends.settles.leaves, fine) refl

  -- or nothing, where such a walk is refused at its end
  pub below_misses : (rows : List Row) (words : List Text) → Ends rows (walk_from nothing_held) words → Faulty (last_fault rows) → meaning_below s words ≡ None
  below_misses rows words ends bad = refused_below s words (rw (ends.no_fault, ends.settles.no_fault, ends.settles.leaves) bad)

-- ---- an option of one number

abbrev pub option_built : Text → ℕ → Text → Rule
option_built name most standard = with_index 1 (filled (number_rule name most standard))

-- the command has the option
pub record HasOption (s : Shape) (name : Text) (most : ℕ) (standard : Text) : Type 0 where
  pub by_long : arg_by_long s.rules name ≡ Some (option_built name most standard)
  pub by_id : arg_by_id s.rules name ≡ Some (option_built name most standard)
  pub own : bytes_eq name name ≡ true
  pub apart_plain : bytes_eq (codes "--" ++ name) dashes ≡ false
  pub apart_long : long_of (codes "--" ++ name) ≡ Some (name, None)
  pub joined_plain : (text : Text) → bytes_eq (codes "--" ++ name ++ codes "=" ++ text) dashes ≡ false
  pub joined_long : (text : Text) → long_of (codes "--" ++ name ++ codes "=" ++ text) ≡ Some (name, Some text)

module _ (s : Shape) (name : Text) (most : ℕ) (standard : Text) (o : HasOption s name most standard) where
  abbrev pub rule : Rule
  rule = option_built name most standard

  module _ (text : Text) (passes : is_unsigned_in 1 most text ≡ true) (rows : List Row) (free : has_row name rows ≡ false) where
    use_fine : use_fault s.args_override_self rule (text ∷ []) rows ≡ []
    use_fine = rw (free, passes) refl

  -- the option waits for its value
  abbrev pub awaiting : Held → Held
  awaiting h = record (settled s.rules h) { pending = Some (name, []) }

  -- the option has its value
  abbrev given : Text → Held → Held
  given text h = record (settled s.rules h) { pending = Some (name, text ∷ []) }

  module _ (h : Held) (place : ℕ) where
    name_turns : settle_fault s.rules s.args_override_self h ≡ [] → turn_fault s [] (at h idle place false) (codes "--" ++ name) ≡ []
    name_turns fine = rw (o.apart_plain, o.apart_long, o.by_long, fine) refl

    name_walks : walked s.rules [] (at h idle place false) (codes "--" ++ name) ≡ at (awaiting h) (option name) place false
    unfolding walked
    name_walks = rw (o.apart_plain, o.apart_long, o.by_long) refl

    value_turns : (text : Text) → BeginsPlain text → turn_fault s [] (at (awaiting h) (option name) place false) text ≡ []
    value_turns text plain = rw (plain.no_dashes, plain.no_long, plain.no_short) refl

    value_walks : (text : Text) → BeginsPlain text → walked s.rules [] (at (awaiting h) (option name) place false) text ≡ at (given text h) idle place false
    unfolding walked
    value_walks text plain = rw (plain.no_dashes, plain.no_long, plain.no_short, o.by_id, o.own) refl

  module _ (text : Text) (passes : is_unsigned_in 1 most text ≡ true) (rows : List Row) (free : has_row name rows ≡ false) (h : Held) (it : Settles s rows h) (place : ℕ) where
    given_settles : Settles s (used rule (text ∷ []) rows) (given text h)
    given_settles = record { no_fault = rw (o.by_id, it.leaves) (use_fine text passes rows free); leaves = rw (o.by_id, it.leaves) refl }

    joined_turns : turn_fault s [] (at h idle place false) (codes "--" ++ name ++ codes "=" ++ text) ≡ []
    joined_turns = rw (o.joined_plain text, o.joined_long text, o.by_long) (rw (it.no_fault, it.leaves, use_fine text passes rows free) refl)

    joined_walks : walked s.rules [] (at h idle place false) (codes "--" ++ name ++ codes "=" ++ text) ≡ at (reacted s.rules rule (text ∷ []) h) idle place false
    unfolding walked
    joined_walks = rw (o.joined_plain text, o.joined_long text, o.by_long) refl

    joined_settles : Settles s (used rule (text ∷ []) rows) (reacted s.rules rule (text ∷ []) h)
    joined_settles = record { no_fault = refl; leaves = rw it.leaves refl }

    -- the option, and what follows it
    pub after_option : (words back : List Text) → Spells name text words → BeginsPlain text → (out : List Row)
        → ((g : Held) → Settles s (used rule (text ∷ []) rows) g → Ends s out (at g idle place false) back) → Ends s out (at h idle place false) (words ++ back)
    after_option words back apart plain out after =
        one_more s out _ _ _ _ (name_turns h place it.no_fault) (name_walks h place)
        (one_more s out _ _ _ _ (value_turns h place text plain) (value_walks h place text plain) (after (given text h) given_settles))
    after_option words back joined plain out after =
        one_more s out _ _ _ _ joined_turns joined_walks (after (reacted s.rules rule (text ∷ []) h) joined_settles)

-- ---- a flag

abbrev pub flag_built : Text → Rule
flag_built name = with_index 1 (filled (flag_rule name))

-- the command has the flag
pub record HasFlag (s : Shape) (name : Text) : Type 0 where
  pub by_long : arg_by_long s.rules name ≡ Some (flag_built name)
  pub plain : bytes_eq (codes "--" ++ name) dashes ≡ false
  pub long : long_of (codes "--" ++ name) ≡ Some (name, None)

-- the rows with the flag's, where it is given
abbrev pub flag_rows : Text → Bool → List Row → List Row
flag_rows name false rows = rows
flag_rows name true rows = used (flag_built name) [] rows

module _ (s : Shape) (name : Text) (o : HasFlag s name) (rows : List Row) (free : has_row name rows ≡ false) (h : Held) (it : Settles s rows h) (place : ℕ) where
  flag_turns : turn_fault s [] (at h idle place false) (codes "--" ++ name) ≡ []
  flag_turns = rw (o.plain, o.long, o.by_long) (rw (it.no_fault, it.leaves, free) refl)

  flag_walks : walked s.rules [] (at h idle place false) (codes "--" ++ name) ≡ at (reacted s.rules (flag_built name) [] h) idle place false
  unfolding walked
  flag_walks = rw (o.plain, o.long, o.by_long) refl

  flag_settles : Settles s (used (flag_built name) [] rows) (reacted s.rules (flag_built name) [] h)
  flag_settles = record { no_fault = refl; leaves = rw it.leaves refl }

  -- the flag where it is given, and what follows it
  pub after_flag : (back : List Text) (is_given : Bool) (out : List Row)
      → ((g : Held) → Settles s (flag_rows name is_given rows) g → Ends s out (at g idle place false) back) → Ends s out (at h idle place false) (flag_words name is_given ++ back)
  after_flag back false out after = after h it
  after_flag back true out after = one_more s out _ _ _ _ flag_turns flag_walks (after (reacted s.rules (flag_built name) [] h) flag_settles)

-- ---- a word of its own

-- the argument of a place takes one text
pub record HasWord (s : Shape) (rule : Rule) (place : ℕ) : Type 0 where
  pub by_place : arg_by_index s.rules place ≡ Some rule
  pub by_id : arg_by_id s.rules rule.id ≡ Some rule
  pub single : takes_several rule ≡ false
  pub once : is_multiple rule ≡ false
  pub no_tail : rule.trailing_var_arg ≡ false

-- the text isn't read as a flag: it doesn't begin as one, or it stands behind `--`
pub data IsRead (text : Text) : Bool → Type 0 where
  plainly : BeginsPlain text → IsRead text false
  behind : IsRead text true

module _ (s : Shape) (rule : Rule) (place : ℕ) (w : HasWord s rule place) (text : Text) (rows : List Row) (fine : use_fault s.args_override_self rule (text ∷ []) rows ≡ [])
    (h : Held) (it : Settles s rows h) where
  -- the word is held
  abbrev holds : Held
  holds = record (settled s.rules h) { pending = Some (rule.id, text ∷ []) }

  word_fine : step_fault s place h value ≡ []
  word_fine = rw w.by_place (go (is_pending rule h.pending))
    where
      go : (b : Bool) → cond (b && takes_several rule) [] (settle_fault s.rules s.args_override_self h) ≡ []
      go true = rw w.single it.no_fault
      go false = it.no_fault

  word_turns : (is_trailing : Bool) → IsRead text is_trailing → turn_fault s [] (at h idle place is_trailing) text ≡ []
  word_turns is_trailing (plainly p) = rw (p.no_dashes, p.no_long, p.no_short) word_fine
  word_turns is_trailing behind = word_fine

  word_held : positional_held s.rules rule text h ≡ holds
  word_held = go (is_pending rule h.pending)
    where
      go : (b : Bool) → pushed rule.id text (cond (b && takes_several rule) h (settled s.rules h)) ≡ holds
      go true = rw w.single refl
      go false = refl

  word_walks : (is_trailing : Bool) → IsRead text is_trailing → walked s.rules [] (at h idle place is_trailing) text ≡ at holds idle (next_position rule place) is_trailing
  unfolding walked
  word_walks is_trailing (plainly p) = rw (p.no_dashes, p.no_long, p.no_short, w.by_place) (rw (word_held, w.once, w.no_tail) refl)
  word_walks is_trailing behind = rw w.by_place (rw (word_held, w.once) refl)

  word_settles : Settles s (used rule (text ∷ []) rows) holds
  word_settles = record { no_fault = rw (w.by_id, it.leaves) fine; leaves = rw (w.by_id, it.leaves) refl }

  -- the word, and what follows it
  pub after_word : (is_trailing : Bool) → IsRead text is_trailing → (out : List Row) (back : List Text)
      → ((g : Held) → Settles s (used rule (text ∷ []) rows) g → Ends s out (at g idle (next_position rule place) is_trailing) back)
      → Ends s out (at h idle place is_trailing) (text ∷ back)
  after_word is_trailing r out back after = one_more s out _ _ _ _ (word_turns is_trailing r) (word_walks is_trailing r) (after holds word_settles)
