-- Of the places at which a test passes, that of least value.
use Rattle.std.specs.Prelude.{ℕ, Bool, ◌&&◌, ◌==◌, min, Option, None, Some, List, [], ◌∷◌, if◌then◌else◌}
use Rattle.drt_worklist.specs.Places.{first}

-- The smaller of two numbers, where there are two.
abbrev pub smaller : Option ℕ → Option ℕ → Option ℕ
smaller None o = o
smaller (Some m) None = Some m
smaller (Some m) (Some n) = Some (min m n)

-- The least f of the elements that pass p.
abbrev pub least_of : {A : Type 0} → (A → Bool) → (A → ℕ) → List A → Option ℕ
least_of p f [] = None
least_of p f (x ∷ xs) = if p x then smaller (Some (f x)) (least_of p f xs) else least_of p f xs

-- The first place at which p passes and f is the number, if there is one.
abbrev pub first_with : {A : Type 0} → (A → Bool) → (A → ℕ) → List A → Option ℕ → Option ℕ
first_with p f xs None = None
first_with p f xs (Some m) = first (λ x. p x && (f x == m)) xs

-- Of the places at which p passes, that of least f, and the first of these in a tie.
abbrev pub earliest : {A : Type 0} → (A → Bool) → (A → ℕ) → List A → Option ℕ
earliest p f xs = first_with p f xs (least_of p f xs)
