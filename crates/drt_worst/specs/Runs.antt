-- What one pass does: it takes combinations depth first, and knows a value that was reached.
use Rattle.std.specs.Prelude.{◌≡◌, ℕ, ◌<◌, ◌≤◌, ◌⊎◌, Option, None, Some, List, [], ◌∷◌}
use Rattle.drt_tree.specs.Tree.{Plain}
use Rattle.drt_refine.specs.Below.{AreBelow, IsConcrete}
use Rattle.drt_worst.specs.Splitting.{Search, IsSplit, AreParts, IsBelowOne, PassesFor, IsLeastFor}

-- What is done with a combination: it is skipped; or it is concrete, and its least time is put into the word; or it is split
-- into two parts.
pub data Choice : Type 0 where
  skips : Choice
  reaches : ℕ → Choice
  splits : List ℕ → List ℕ → Choice

-- A combination that was taken, the value that the pass had read from the word, and what it did.
pub record PassEntry : Type 0 where
  pub combination : List ℕ
  pub seen : ℕ
  pub choice : Choice

-- What the pass then knows to be reached.
abbrev pub known : ℕ → Choice → ℕ
known seen skips = seen
known seen (reaches t) = t
known seen (splits l r) = seen

-- The combinations that are then left to be taken, the next one first.
abbrev pub left_after : Choice → List (List ℕ) → List (List ℕ)
left_after skips stack = stack
left_after (reaches t) stack = stack
left_after (splits l r) stack = l ∷ r ∷ stack

-- How the combination was split, if it was.
abbrev pub halves_of : Choice → Option (List ℕ × List ℕ)
halves_of skips = None
halves_of (reaches t) = None
halves_of (splits l r) = Some (l, r)

-- The combination that was taken.
abbrev pub combination_of : PassEntry → List ℕ
combination_of e = e.combination

-- How it was split, if it was.
abbrev pub half_of : PassEntry → Option (List ℕ × List ℕ)
half_of e = halves_of e.choice

-- The combinations that are left after some entries, the next one first.
abbrev pub stack_after : List (List ℕ) → List PassEntry → List (List ℕ)
stack_after stack [] = stack
stack_after [] (e ∷ es) = []
stack_after (c ∷ stack) (e ∷ es) = stack_after (left_after e.choice stack) es

-- What the pass knows to be reached after some entries.
abbrev pub known_after : ℕ → List PassEntry → ℕ
known_after low [] = low
known_after low (e ∷ es) = known_after (known e.seen e.choice) es

module _ (s : Search) where
  -- A combination is skipped where its least time isn't above the value; a concrete one else raises the word to its least time;
  -- and any other is split, also where no time passes.
  abbrev pub IsFit : List ℕ → ℕ → Choice → Type 0
  IsFit c seen skips = (t : ℕ) × PassesFor s c t × (t ≤ seen)
  IsFit c seen (reaches t) = IsConcrete s.forest c × IsLeastFor s c t × (seen < t)
  IsFit c seen (splits l r) = IsSplit s.forest c l r × ((t : ℕ) → PassesFor s c t → seen < t)

  -- The entries are those of a pass that has this stack, and knows that the value `low` was reached. What it reads is any value
  -- that is not lower than what it knows: other passes may have raised the word.
  abbrev pub IsRunFrom : ℕ → List (List ℕ) → List PassEntry → Type 0
  IsRunFrom low stack [] = Unit {0}
  IsRunFrom low [] (e ∷ es) = ⊥
  IsRunFrom low (c ∷ stack) (e ∷ es) =
      (e.combination ≡ c) × (low ≤ e.seen) × IsFit c e.seen e.choice × IsRunFrom (known e.seen e.choice) (left_after e.choice stack) es

  -- A pass that has taken all that was dealt to it, where what it knows to be reached is at most the word.
  pub record IsEnded (word : ℕ) (start : List (List ℕ)) (entries : List PassEntry) : Type 0 where
    pub run : IsRunFrom 0 start entries
    pub empty : stack_after start entries ≡ []
    pub within : known_after 0 entries ≤ word

-- What a pass was dealt, and its entries.
pub record Run : Type 0 where
  pub start : List (List ℕ)
  pub entries : List PassEntry

-- All passes have ended.
abbrev pub AreEnded : Search → ℕ → List Run → Type 0
AreEnded s word [] = Unit {0}
AreEnded s word (p ∷ ps) = IsEnded s word p.start p.entries × AreEnded s word ps

-- The tuple is below a combination that was dealt to one of the passes.
abbrev pub IsDealtTo : Plain → List ℕ → List Run → Type 0
IsDealtTo f tuple [] = ⊥
IsDealtTo f tuple (p ∷ ps) = IsBelowOne f tuple p.start ⊎ IsDealtTo f tuple ps

-- What was dealt are combinations of the splitting tree, and each tuple below the roots is below one of them.
pub record AreDealt (f : Plain) (roots : List ℕ) (dealt : List (List ℕ)) : Type 0 where
  pub parts : AreParts f roots dealt
  pub all : (tuple : List ℕ) → AreBelow f tuple roots → IsBelowOne f tuple dealt
