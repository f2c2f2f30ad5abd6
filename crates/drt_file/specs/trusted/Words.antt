-- What single fields say.
use Rattle.std.specs.Prelude.{ℕ, ◌+◌, ◌*◌, ◌-◌, Bool, ◌&&◌, ◌||◌, ◌==◌, nat_le, List, [], ◌∷◌, length, codes}
use Rattle.std.specs.List.{list_all}
use Rattle.drt_model.specs.declared.jobs.Policy.{Policy}
use Rattle.drt_model.specs.declared.jobs.Policy.TheVariants.{Edf, Fixed}

-- A number lies between two others, or is one of them.
abbrev pub is_between : ℕ → ℕ → ℕ → Bool
is_between low high b = nat_le low b && nat_le b high

-- A decimal digit is a byte `0` to `9`.
unfoldable pub is_digit : ℕ → Bool
is_digit b = is_between 48 57 b

-- A byte of a name is one of `A-Z a-z 0-9 _ -`.
unfoldable pub is_name_byte : ℕ → Bool
is_name_byte b = is_between 65 90 b || is_between 97 122 b || is_between 48 57 b || b == 95 || b == 45

-- A field is a name where it has 1 to 32 bytes, each of which a name may have.
unfoldable pub is_name : List ℕ → Bool
is_name word = is_between 1 32 (length word) && list_all is_name_byte word

-- A field is a number where it is one or more decimal digits.
unfoldable pub is_number : List ℕ → Bool
is_number word = nat_le 1 (length word) && list_all is_digit word

-- The number that digits mean, after others that mean n.
unfoldable pub value_after : ℕ → List ℕ → ℕ
value_after n [] = n
value_after n (b ∷ bs) = value_after (n * 10 + (b - 48)) bs

-- The number that digits mean.
abbrev pub value : List ℕ → ℕ
value word = value_after 0 word

-- The keyword `drt`.
abbrev pub drt_word : List ℕ
drt_word = codes "drt"

-- The keyword `task`.
abbrev pub task_word : List ℕ
task_word = codes "task"

-- The keyword `vertex`.
abbrev pub vertex_word : List ℕ
vertex_word = codes "vertex"

-- The keyword `edge`.
abbrev pub edge_word : List ℕ
edge_word = codes "edge"

-- The keyword `priority`.
abbrev pub priority_word : List ℕ
priority_word = codes "priority"

-- The keyword `end`.
abbrev pub end_word : List ℕ
end_word = codes "end"

-- The keyword of each policy.
abbrev pub policy_word : Policy → List ℕ
policy_word Edf = codes "edf"
policy_word Fixed = codes "fixed"
