-- Where a time stands in a picture. The unit is a tenth of a pixel.
use Rattle.std.specs.Prelude.{ℕ, ◌+◌, ◌-◌, ◌*◌, ◌/◌, ◌^◌, ◌≤◌, List, length, nat_le, min, max}
use Rattle.std.specs.List.{sum_by, count_by}
use Rattle.drt_picture.specs.declared.scale.Part.{Part}
use Rattle.drt_picture.specs.declared.scale.Scale.{Scale}

-- How many ticks of a part are before a time.
abbrev pub ticks_before : ℕ → Part → ℕ
ticks_before time p = min time p.end - p.start

-- How many ticks before a time are shown.
abbrev pub shown_before : List Part → ℕ → ℕ
shown_before parts time = sum_by (ticks_before time) parts

-- How many parts begin at or before a time.
abbrev pub begun_by : List Part → ℕ → ℕ
begun_by parts time = count_by (λ p. nat_le p.start time) parts

-- The width that the cuts between so many parts leave to ticks: a cut takes 24 pixels.
abbrev pub cut_room : ℕ → List Part → ℕ
cut_room width parts = width - 240 * (length parts - 1)

-- The place of a time: the ticks shown before it, at one scale for all of them, and the cuts before it.
abbrev pub x_of : Scale → ℕ → ℕ
x_of s time =
    s.left + shown_before s.parts time * cut_room s.width s.parts / max (shown_before s.parts s.until) 1 + 240 * (begun_by s.parts time - 1)

-- A place in the drawing area.
abbrev pub IsInArea : Scale → ℕ → Type 0
IsInArea s x = (s.left ≤ x) × (x ≤ s.left + s.width)

-- A scale has at most 16 cuts, and a width for them and more, on a page of 1,600 pixels.
pub record IsPageScale (s : Scale) : Type 0 where
  pub few : length s.parts ≤ 17
  pub wide : 4000 ≤ s.width
  pub on_page : s.left + s.width ≤ 16000
  pub in_time : s.until ≤ 2 ^ 62
