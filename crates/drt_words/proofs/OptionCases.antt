-- The options of a search by which of them are given, as the walk over them and the reading of their numbers go through them.
use Rattle.std.proofs.Common.{◌≡◌, ◌≤◌, ◌<◌, ◌^◌, ◌++◌, ℕ, List, [], codes, decimal, arith, append-nil, lit<}
use Rattle.std.specs.Str.Parse.{IsNumeral, digits_value}
use Rattle.std.proofs.lemmas.Fmt.{decimal_is_IsNumeral}
use Rattle.drt_effort.specs.Efforts.{most_budget, most_workers}
use Rattle.drt_words.specs.Plain.{Spells, left_out, given, PlainOptions, workers_first, budget_first}

-- A text writes a number from 1 to `most`.
pub record IsWritten (most : ℕ) (text : List ℕ) (n : ℕ) : Type 0 where
  pub digits : IsNumeral 10 text
  pub value : digits_value 10 text ≡ n
  pub some : 1 ≤ n
  pub within : n ≤ most

pub written : (most n : ℕ) → most < 2 ^ 64 → 1 ≤ n → n ≤ most → IsWritten most (decimal n) n
written most n fits low high =
    let is = decimal_is_IsNumeral n (omega (arith, fits, high)) in
    record { digits = is.0; value = is.1; some = low; within = high }

pub data OptionCases : List (List ℕ) → ℕ → ℕ → Type 0 where
  neither : OptionCases [] 4 100000
  workers : (words : List (List ℕ)) (a : List ℕ) (m : ℕ) → IsWritten most_workers a m → Spells (codes "workers") a words → OptionCases words m 100000
  budget : (words : List (List ℕ)) (b : List ℕ) (n : ℕ) → IsWritten most_budget b n → Spells (codes "budget") b words → OptionCases words 4 n
  both_workers : (front back : List (List ℕ)) (a b : List ℕ) (m n : ℕ) → IsWritten most_workers a m → IsWritten most_budget b n
      → Spells (codes "workers") a front → Spells (codes "budget") b back → OptionCases (front ++ back) m n
  both_budget : (front back : List (List ℕ)) (a b : List ℕ) (m n : ℕ) → IsWritten most_workers a m → IsWritten most_budget b n
      → Spells (codes "budget") b front → Spells (codes "workers") a back → OptionCases (front ++ back) m n

pub cases_of : (words : List (List ℕ)) (m n : ℕ) → PlainOptions words m n → OptionCases words m n
cases_of words m n (workers_first front back i j left_out left_out) = neither
cases_of words m n (workers_first front back i j left_out (given ws k low high s)) = budget ws (decimal k) k (written most_budget k (lit< tt) low high) s
cases_of words m n (workers_first front back i j (given vs l low high s) left_out) = rw (append-nil vs) (workers vs (decimal l) l (written most_workers l (lit< tt) low high) s)
cases_of words m n (workers_first front back i j (given vs l a b s) (given ws k c d t)) =
    both_workers vs ws (decimal l) (decimal k) l k (written most_workers l (lit< tt) a b) (written most_budget k (lit< tt) c d) s t
cases_of words m n (budget_first front back i j left_out left_out) = neither
cases_of words m n (budget_first front back i j left_out (given vs l low high s)) = workers vs (decimal l) l (written most_workers l (lit< tt) low high) s
cases_of words m n (budget_first front back i j (given ws k low high s) left_out) = rw (append-nil ws) (budget ws (decimal k) k (written most_budget k (lit< tt) low high) s)
cases_of words m n (budget_first front back i j (given ws k c d t) (given vs l a b s)) =
    both_budget ws vs (decimal l) (decimal k) l k (written most_workers l (lit< tt) a b) (written most_budget k (lit< tt) c d) t s
