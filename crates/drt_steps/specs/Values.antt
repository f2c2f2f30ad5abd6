-- Request functions as the lists of their values at 1, 2 and so on to their bound D.
use Rattle.std.specs.Prelude.{ℕ, suc, zero, ◌+◌, ◌-◌, Bool, true, false, ◌&&◌, nat_le, max, List, [], ◌∷◌, slice_index}

-- The values with work added to each but the first k, that is at each time later than k.
abbrev pub raise : ℕ → ℕ → List ℕ → List ℕ
raise k w [] = []
raise zero w (x ∷ xs) = (x + w) ∷ raise zero w xs
raise (suc k) w (x ∷ xs) = x ∷ raise k w xs

-- As many values as the other's, each at least the other's at the same time.
abbrev pub covers : List ℕ → List ℕ → Bool
covers [] [] = true
covers [] (y ∷ ys) = false
covers (x ∷ xs) [] = false
covers (x ∷ xs) (y ∷ ys) = nat_le y x && covers xs ys

-- At each time the greater of two values.
abbrev pub max_of : List ℕ → List ℕ → List ℕ
max_of [] ys = []
max_of (x ∷ xs) [] = []
max_of (x ∷ xs) (y ∷ ys) = max x y ∷ max_of xs ys

-- The value at the time t, of 1 to D.
unfoldable pub value_at : List ℕ → ℕ → ℕ
value_at xs t = slice_index xs (t - 1)
