-- How many workers search, and how many steps each search may take.
use Rattle.std.specs.Prelude.{◌≤◌, ℕ}

-- The most workers of a search.
abbrev pub most_workers : ℕ
most_workers = 16

-- The most steps of a search.
abbrev pub most_budget : ℕ
most_budget = 1000000

-- So many workers: at least one, and not above the limit.
pub record IsWorkers (count : ℕ) : Type 0 where
  pub some : 1 ≤ count
  pub few : count ≤ most_workers

-- How many workers search, and how many steps each search may take.
pub record Numbers : Type 0 where
  pub workers : ℕ
  pub budget : ℕ

-- Both are at least 1, and neither is above its limit.
pub record AreNumbersInRange (numbers : Numbers) : Type 0 where
  pub some_workers : 1 ≤ numbers.workers
  pub few_workers : numbers.workers ≤ most_workers
  pub some_steps : 1 ≤ numbers.budget
  pub few_steps : numbers.budget ≤ most_budget
