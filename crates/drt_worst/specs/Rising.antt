-- The rule of a word that only rises. HoldsOfEach view has the numbers that its seat put into the word, the values that it found there,
-- and its parts.
use Rattle.std.specs.Prelude.{◌≡◌, ℕ, ◌+◌, ◌-◌, ◌≤◌, ◌⊎◌, List, [], ◌∷◌, ◌++◌, length, slice_index}
use Rattle.drt_lock.specs.Rule.{all_parts}
use mathlib.Core.Option.{some}
use lib.ListN.{get_elem?}
use Rattle.atomic_table.specs.Table.{State, Me, Step}
use Rattle.drt_worst.specs.declared.view.View.{View}

-- P holds of each number.
abbrev pub HoldsOfEach : (ℕ → Type 0) → List ℕ → Type 0
HoldsOfEach P [] = Unit {0}
HoldsOfEach P (n ∷ ns) = P n × HoldsOfEach P ns

-- The number is one of the list.
abbrev pub IsInList : ℕ → List ℕ → Type 0
IsInList x [] = ⊥
IsInList x (n ∷ ns) = (x ≡ n) ⊎ IsInList x ns

-- The parts of all views together.
abbrev pub total_parts : List View → ℕ
total_parts [] = 0
total_parts (v ∷ vs) = v.parts + total_parts vs

-- A seat with so many parts that has done nothing yet.
abbrev pub fresh_view : ℕ → View
fresh_view parts = record { raised = []; noted = []; parts = parts }

-- A seat that was joined to another one.
abbrev pub spent : View
spent = record { raised = []; noted = []; parts = 0 }

-- A seat that gave one part away.
abbrev pub split_left : View → View
split_left v = record { raised = v.raised; noted = v.noted; parts = v.parts - 1 }

-- The seat that got the part.
abbrev pub split_right : View → View
split_right v = record { raised = []; noted = []; parts = 1 }

-- A seat that took in the numbers and the parts of another one.
abbrev pub joined_views : View → View → View
joined_views v w = record { raised = v.raised ++ w.raised; noted = v.noted ++ w.noted; parts = v.parts + w.parts }

-- A seat that raised a number.
abbrev pub with_raised : View → ℕ → View
with_raised v n = record { raised = n ∷ v.raised; noted = v.noted; parts = v.parts }

-- A seat that noted a value.
abbrev pub with_noted : View → ℕ → View
with_noted v n = record { raised = v.raised; noted = n ∷ v.noted; parts = v.parts }

-- What is true of a view while the word has a value: a view with no part has no numbers; each raised number was reached and is at
-- most the word; and each noted one is at most the word.
pub record Knows (P : ℕ → Type 0) (word : ℕ) (v : View) : Type 0 where
  pub idle : v.parts ≡ 0 → (v.raised ≡ []) × (v.noted ≡ [])
  pub raised : HoldsOfEach (λ n. (n ≤ word) × P n) v.raised
  pub noted : HoldsOfEach (λ n. n ≤ word) v.noted

-- The word is a number that some view raised.
abbrev pub IsRaisedIn : ℕ → List View → Type 0
IsRaisedIn word views = (i : ℕ) × (v : View) × (get_elem? views i ≡ some v) × IsInList word v.raised

-- The word is 0 or the greatest number that any view raised, and the parts of all views add up to 1024.
pub record IsRisen {S : Type 0} (P : ℕ → Type 0) (s : State S View) : Type 0 where
  pub wide : length s.words ≡ 1
  pub parts : total_parts s.views ≡ all_parts
  pub each : (i : ℕ) (v : View) → get_elem? s.views i ≡ some v → Knows P (slice_index s.words 0) v
  pub top : (slice_index s.words 0 ≡ 0) ⊎ IsRaisedIn (slice_index s.words 0) s.views

-- The number is added to the seat's raised ones.
abbrev pub Raised : {S : Type 0} → Step S → Me S View → ℕ → Me S View → Type 0
Raised st m r n = n ≡ (with_raised m.0 st.first, m.1)

-- The value that was found is noted, and nothing that the seat knew is above it.
abbrev pub Glanced : {S : Type 0} → Step S → Me S View → ℕ → Me S View → Type 0
Glanced st m r n = (n ≡ (with_noted m.0 r, m.1)) × HoldsOfEach (λ x. x ≤ r) m.0.raised × HoldsOfEach (λ x. x ≤ r) m.0.noted
