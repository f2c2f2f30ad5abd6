-- Releases taken in one after another, and what places have of them.
use Rattle.std.specs.Prelude.{◌≡◌, ℕ, ◌+◌, ◌<◌, ◌≤◌, ◌==◌, if◌then◌else◌, List, length, map, take, drop, All, sum_by, slice_index_or}
use Rattle.std.specs.List.{range_with_len}
use Rattle.std.specs.List.Sorted.{IsPermutation, IsNonDecreasingBy}
use Rattle.drt_model.specs.Numbers.{most_work}
use Rattle.drt_check_values.specs.declared.query.Query.{Query}
use Rattle.drt_check_values.specs.declared.rises.Rise.{Rise}
use Rattle.drt_check_values.specs.Greatest.{greatest}
use Rattle.drt_check_values.specs.Rises.{risen_at_place}

-- What stands for a release past the last one.
abbrev pub no_rise : Rise
no_rise = record { offset = 0; place = 0; work = 0 }

-- What stands for a query past the last one.
abbrev pub no_query : Query
no_query = record { node = 0; time = 0 }

-- The time of query k.
abbrev pub query_time : List Query → ℕ → ℕ
query_time queries k = (slice_index_or queries k no_query).time

-- The numbers are those of the queries, in order of their times.
pub record IsInOrder (queries : List Query) (order : List ℕ) : Type 0 where
  pub all : IsPermutation (range_with_len 0 (length queries)) order
  pub times : IsNonDecreasingBy (λ k. query_time queries k) order

-- What a release adds to a place.
abbrev pub whole_rise : ℕ → Rise → ℕ
whole_rise place r = if r.place == place then r.work else 0

-- What releases add to a place.
abbrev pub total_at_place : List Rise → ℕ → ℕ
total_at_place rises place = sum_by (λ r. whole_rise place r) rises

-- What they add to each of some places.
abbrev pub totals : List Rise → ℕ → List ℕ
totals rises count = map (λ p. total_at_place rises p) (range_with_len 0 count)

-- What they add to each before t.
abbrev pub heights : List Rise → ℕ → ℕ → List ℕ
heights rises count t = map (λ p. risen_at_place rises t p) (range_with_len 0 count)

-- The releases are in order of their offsets, at some of the places, and add up to at most 10^12 at each.
pub record AreReady (count : ℕ) (rises : List Rise) : Type 0 where
  pub order : IsNonDecreasingBy (λ r. r.offset) rises
  pub places : All (λ r. r.place < count) rises
  pub most : (place : ℕ) → place < count → total_at_place rises place ≤ most_work

-- As many releases are taken in, all of them before t, and the values of the places are what they add.
pub record IsTaken (rises : List Rise) (taken t : ℕ) (values : List ℕ) : Type 0 where
  pub within : taken ≤ length rises
  pub early : All (λ r. r.offset < t) (take taken rises)
  pub sums : values ≡ totals (take taken rises) (length values)

-- The places of the query's node are some of the places.
pub record HasRunOfPlaces (firsts sizes : List ℕ) (count : ℕ) (q : Query) : Type 0 where
  pub first : q.node < length firsts
  pub size : q.node < length sizes
  pub within : slice_index_or firsts q.node 0 + slice_index_or sizes q.node 0 ≤ count

-- The greatest of what the releases add before the query's time to the places of its node.
abbrev pub answer : List ℕ → List ℕ → ℕ → List Rise → Query → ℕ
answer firsts sizes count rises q = greatest (take (slice_index_or sizes q.node 0) (drop (slice_index_or firsts q.node 0) (heights rises count q.time)))
