-- The greatest numbers that are reckoned with.
use Rattle.std.specs.Prelude.{ℕ, ◌^◌}

-- The greatest number of 32 bits.
abbrev pub most_number : ℕ
most_number = 4294967295

-- The greatest time of a file, in ticks.
abbrev pub most_time : ℕ
most_time = 1000000

-- The greatest priority of a file.
abbrev pub most_priority : ℕ
most_priority = 1000000

-- The greatest scale that is reckoned with: 2^60.
abbrev pub most_scale : ℕ
most_scale = 2 ^ 60

-- The greatest numerator and the greatest denominator of a ratio.
abbrev pub most_term : ℕ
most_term = 1000000000

-- The furthest horizon that an analysis looks to, in ticks: 2^40.
abbrev pub most_horizon : ℕ
most_horizon = 1099511627776

-- The greatest execution time and the greatest length, in ticks, of a cycle of different vertices: 10^8.
abbrev pub most_cycle : ℕ
most_cycle = 100000000

-- The greatest sum of execution times that is reckoned with: 10^12.
abbrev pub most_work : ℕ
most_work = 1000000000000

-- The greatest length of a text that is read, in bytes: 2^30.
abbrev pub most_text : ℕ
most_text = 1073741824

-- How far from 0 a potential is at most.
abbrev pub most_height : ℕ
most_height = 10000000000000000

-- The greatest time of a dossier, in ticks: 10^18.
abbrev pub most_ticks : ℕ
most_ticks = 1000000000000000000
