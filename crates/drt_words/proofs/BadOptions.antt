-- Where an option of one number has a value out of its range, the words are refused, whatever follows. This holds of any command whose
-- options have no short names, and each of whose places takes one text.
use Rattle.std.proofs.Common.{◌≡◌, ◌⊎◌, ◌++◌, ◌&&◌, ℕ, Bool, cond, true, false, List, [], ◌∷◌, Option, Some, None, codes, refl, sym, inl, inr, length, bytes_eq, true≢false}
use Rattle.std.specs.Prelude.{is_some}
use Rattle.std.specs.List.{list_any}
use Rattle.std.proofs.lemmas.Bool.{or_parts}
use Rattle.clap.specs.Lexer.{long_of, short_of}
use Rattle.clap.specs.ValueTests.{is_unsigned_in}
use Rattle.clap.specs.Simple.{Shape}
use Rattle.clap.specs.Walk.{Held, Outcome, Row, Rule, Step, Text, Waiting, Walk, idle, option, positional, next, value, after_flag, arg_by_index, arg_by_long, arg_by_short}
use Rattle.clap.specs.Walk.{bundle, is_pending, plain_word, pushed, settled, short_or_plain, takes_several, takes_values, walked, word_met}
use Rattle.clap.specs.Faults.{long_fault, option_fault, react_fault, repeat_fault, settle_fault, step_fault, stray_fault, use_fault}
use Rattle.clap.specs.declared.error.kind.ErrorKind.TheVariants as kind
use Rattle.drt_words.specs.Plain.{HaveNoDashes, Spells, apart, joined}
use Rattle.drt_words.proofs.BadWalks.{Fails, IsNoFlag, Placed, nowhere, somewhere, bundle_none, flag_first, goes, later, now, stays}
use Rattle.drt_words.proofs.PlainWalks.{HasOption, awaiting, option_built}
use Rattle.drt_words.proofs.WordWalks.{Faulty, or_first, or_second, at, dashes}

-- no option has a short name, and each place takes one text
pub record IsStrict (s : Shape) : Type 0 where
  pub no_short : (x : ℕ) → arg_by_short s.rules x ≡ None
  pub places : (place : ℕ) → Placed (arg_by_index s.rules place)

module _ (s : Shape) (strict : IsStrict s) where
  -- ---- a walk that holds what is refused once it is used

  abbrev pub IsRefused : Held → Type 0
  IsRefused h = Faulty (settle_fault s.rules s.args_override_self h)

  -- a word that no place takes is refused
  stray : Faulty (stray_fault s)
  stray = go s.is_leaf
    where
      go : (b : Bool) → Faulty (cond b (kind.UnknownArgument ∷ []) (kind.UnknownArgument ∷ kind.InvalidSubcommand ∷ []))
      go true = tt
      go false = tt

  -- a word that a place takes uses what was held before it
  step_refused : (place : ℕ) (h : Held) (t : Step) → t ≡ value → IsRefused h → Faulty (step_fault s place h t)
  step_refused place h t e bad = rw e (go (strict.places place))
    where
      settles : (a : Rule) (b : Bool) → takes_several a ≡ false → Faulty (cond (b && takes_several a) [] (settle_fault s.rules s.args_override_self h))
      settles a true single = rw single bad
      settles a false single = bad

      go : Placed (arg_by_index s.rules place) → Faulty (step_fault s place h value)
      go (nowhere f) = rw f stray
      go (somewhere a f single tail) = rw f (settles a (is_pending a h.pending) single)

  -- a flag uses what was held before it, or is refused
  long_first : (o : Option Rule) (v : Option Text) (h : Held) → IsRefused h → Faulty (long_fault s.rules s.args_override_self o v h)
  long_first None v h bad = tt
  long_first (Some a) v h bad = go (takes_values a) v
    where
      again : Bool
      again = s.args_override_self

      go : (b : Bool) (v : Option Text)
          → Faulty (cond b (option_fault s.rules again a v h) (cond (is_some v) (kind.TooManyValues ∷ []) (react_fault s.rules again a [] h)))
      go true (Some text) = or_first _ _ bad
      go true None = bad
      go false (Some text) = tt
      go false None = or_first _ _ bad

  -- a word that is no flag is a value where no option waits
  record IsQuiet (o : Held × Step) : Type 0 where
    is_value : o.1 ≡ value
    refuses : IsRefused o.0

  quiet : (word : Text) (h : Held) (flags : Option Text) → IsRefused h → IsQuiet (short_or_plain s.rules idle word flags h)
  quiet word h None bad = record { is_value = refl; refuses = bad }
  quiet word h (Some flags) bad = go (bundle s.rules flags h) (bundle_none s.rules strict.no_short (length flags) flags h.skip (record h { skip = 0 }))
    where
      go : (o : Held × Outcome) → IsNoFlag (record h { skip = 0 }) o → IsQuiet (after_flag s.rules idle word o.0 o.1)
      go o none = elim none.outcome [
        | inl e ↦ rw (e, none.held) (record { is_value = refl; refuses = bad })
        | inr e ↦ rw (e, none.held) (record { is_value = refl; refuses = bad })
      ]

  idle_refused : (h : Held) (place : ℕ) (word : Text) (words : List Text) → bytes_eq word dashes ≡ false → long_of word ≡ None → IsRefused h
      → Fails s (at h idle place false) (word ∷ words)
  idle_refused h place word words dash long bad =
      let met : IsQuiet (word_met s.rules [] false idle place word h) = rw (dash, long) (quiet word h (short_of word) bad) in
      now s (at h idle place false) word words (or_second _ _ (step_refused place (word_met s.rules [] false idle place word h).0 _ met.is_value met.refuses))

  -- whatever follows, what is held is refused
  pub stuck : (words : List Text) (h : Held) (waiting : Waiting) (place : ℕ) (is_trailing : Bool) → (is_trailing ≡ true) ⊎ (waiting ≡ idle) → IsRefused h
      → Fails s (at h waiting place is_trailing) words
  unfolding walked
  stuck [] h waiting place is_trailing free bad = inr bad
  stuck (word ∷ words) h waiting place true free bad = now s (at h waiting place true) word words (or_second [] _ (step_refused place h value refl bad))
  stuck (word ∷ words) h waiting place false (inl e) bad = absurd (true≢false (sym e))
  stuck (word ∷ words) h waiting place false (inr e) bad = rw e (go (stuck words h idle place true (inl refl) bad) (bytes_eq word dashes) refl (long_of word) refl)
    where
      go : Fails s (at h idle place true) words → (b : Bool) → bytes_eq word dashes ≡ b → (o : Option (Text × Option Text)) → long_of word ≡ o
          → Fails s (at h idle place false) (word ∷ words)
      go after true dash o long = later s (at h idle place false) (at h idle place true) word words (rw dash refl) after
      go after false dash (Some p) long = flag_first s h idle place word words dash (rw long (long_first (arg_by_long s.rules p.0) p.1 h bad))
      go after false dash None long = idle_refused h place word words dash long bad

  -- ---- an option with a value out of its range

  module _ (name : Text) (most : ℕ) (standard : Text) (o : HasOption s name most standard) (text : Text) (bad : is_unsigned_in 1 most text ≡ false) where
    use_refused : (rows : List Row) → Faulty (use_fault s.args_override_self (option_built name most standard) (text ∷ []) rows)
    use_refused rows = or_second (repeat_fault s.args_override_self name rows) _ (rw bad tt)

    -- the option waits for its value
    abbrev waits_for : Held → Held
    waits_for h = awaiting s name most standard o h

    waits_refused : (h : Held) → IsRefused (waits_for h)
    waits_refused h = rw o.by_id tt

    -- the option has its value
    record Taken (p : Held × Step) : Type 0 where
      to_held : Held
      is : p ≡ (to_held, next idle)
      pending : to_held.pending ≡ Some (name, text ∷ [])

    plain_taken : (h : Held) → Taken (plain_word s.rules (option name) text (record (waits_for h) { skip = 0 }))
    plain_taken h = record { to_held = pushed name text (record (waits_for h) { skip = 0 }); is = rw (o.by_id, o.own) refl; pending = refl }

    value_taken : (h : Held) (flags : Option Text) → Taken (short_or_plain s.rules (option name) text flags (waits_for h))
    value_taken h None = record { to_held = pushed name text (waits_for h); is = rw (o.by_id, o.own) refl; pending = refl }
    value_taken h (Some flags) =
        go (bundle s.rules flags (waits_for h)) (bundle_none s.rules strict.no_short (length flags) flags (waits_for h).skip (record (waits_for h) { skip = 0 }))
      where
        go : (p : Held × Outcome) → IsNoFlag (record (waits_for h) { skip = 0 }) p → Taken (after_flag s.rules (option name) text p.0 p.1)
        go p none = elim none.outcome [
          | inl e ↦ rw (e, none.held) (plain_taken h)
          | inr e ↦ rw (e, none.held) (plain_taken h)
        ]

    taken_refused : (h : Held) → h.pending ≡ Some (name, text ∷ []) → IsRefused h
    taken_refused h e = rw (e, o.by_id) (use_refused h.rows)

    -- the value follows the option
    second : (back : List Text) (h : Held) (place : ℕ) → Fails s (at (waits_for h) (option name) place false) (text ∷ back)
    unfolding walked
    second back h place = go (bytes_eq text dashes) refl (long_of text) refl
      where
        start : Walk
        start = at (waits_for h) (option name) place false

        go : (b : Bool) → bytes_eq text dashes ≡ b → (p : Option (Text × Option Text)) → long_of text ≡ p → Fails s start (text ∷ back)
        go true dash p long =
            later s start (at (waits_for h) (option name) place true) text back (rw dash refl)
            (stuck back (waits_for h) (option name) place true (inl refl) (waits_refused h))
        go false dash (Some p) long =
            flag_first s (waits_for h) (option name) place text back dash (rw long (long_first (arg_by_long s.rules p.0) p.1 (waits_for h) (waits_refused h)))
        go false dash None long =
            let t = value_taken h (short_of text) in
            later s start (at t.to_held idle place false) text back (rw (dash, long, t.is) refl)
            (stuck back t.to_held idle place false (inr refl) (taken_refused t.to_held t.pending))

    -- the option's own word
    awaits : (h : Held) (waiting : Waiting) (place : ℕ) → walked s.rules [] (at h waiting place false) (codes "--" ++ name) ≡ at (waits_for h) (option name) place false
    unfolding walked
    awaits h idle place = rw (o.apart_plain, o.apart_long, o.by_long) refl
    awaits h (option id) place = rw (o.apart_plain, o.apart_long, o.by_long) refl
    awaits h positional place = rw (o.apart_plain, o.apart_long, o.by_long) refl

    joined_refused : (back : List Text) (h : Held) (waiting : Waiting) (place : ℕ) → Fails s (at h waiting place false) ((codes "--" ++ name ++ codes "=" ++ text) ∷ back)
    joined_refused back h waiting place =
        flag_first s h waiting place _ back (o.joined_plain text)
        (rw (o.joined_long text, o.by_long) (or_second (settle_fault s.rules s.args_override_self h) _ (use_refused (settled s.rules h).rows)))

    given : (words back : List Text) → Spells name text words → (h : Held) (waiting : Waiting) (place : ℕ) → Fails s (at h waiting place false) (words ++ back)
    given words back apart h waiting place = later s _ _ _ _ (awaits h waiting place) (second back h place)
    given words back joined h waiting place = joined_refused back h waiting place

    -- ---- wherever it stands

    -- behind words none of which is `--`
    pub before : (words back : List Text) → Spells name text words → (front : List Text) → HaveNoDashes front → (h : Held) (waiting : Waiting) (place : ℕ)
        → Fails s (at h waiting place false) (front ++ words ++ back)
    before words back spelled [] none h waiting place = given words back spelled h waiting place
    before words back spelled (word ∷ front) none h waiting place =
        let parts = or_parts (bytes_eq word dashes) (list_any (λ w. bytes_eq w dashes) front) none in
        let g = stays s.rules strict.places h waiting place word parts.0 in
        later s _ _ word _ g.is (before words back spelled front parts.1 g.to_held g.to_waiting g.to_place)

    -- behind any words, where what begins with a dash is refused behind `--`
    pub anywhere : ((rest : Text) (words : List Text) (h : Held) (waiting : Waiting) (place : ℕ) → Fails s (at h waiting place true) ((45 ∷ rest) ∷ words))
        → (words back : List Text) → Spells name text words → (front : List Text) (h : Held) (waiting : Waiting) (place : ℕ) (is_trailing : Bool)
        → Fails s (at h waiting place is_trailing) (front ++ words ++ back)
    anywhere behind words back apart [] h waiting place true = behind _ _ h waiting place
    anywhere behind words back joined [] h waiting place true = behind _ _ h waiting place
    anywhere behind words back spelled [] h waiting place false = given words back spelled h waiting place
    anywhere behind words back spelled (word ∷ front) h waiting place is_trailing =
        let g = goes s.rules h waiting place is_trailing word in
        later s _ _ word _ g.is (anywhere behind words back spelled front g.to_held g.to_waiting g.to_place g.to_trailing)
