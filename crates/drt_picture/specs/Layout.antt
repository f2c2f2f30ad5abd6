-- Where the parts of a picture stand. The unit is a tenth of a pixel.
use Rattle.std.specs.Prelude.{◌≡◌, ℕ, ◌+◌, ◌-◌, ◌*◌, ◌<◌, ◌≤◌, ◌==◌, if◌then◌else◌, List, [], ◌∷◌, length, All, map, take, drop, slice_index_or}
use Rattle.drt_model.specs.declared.jobs.Release.{Release}
use Rattle.drt_model.specs.declared.tasks.Task.{Task}
use Rattle.drt_model.specs.Legal.{AllNeighbours}
use Rattle.drt_timeline.specs.declared.span.Span.{Span}
use Rattle.drt_timeline.specs.declared.event.Event.{Event}
use Rattle.drt_picture.specs.declared.axis.Tick.{Tick}
use Rattle.drt_picture.specs.declared.axis.Cut.{Cut}
use Rattle.drt_picture.specs.declared.bars.Bar.{Bar}
use Rattle.drt_picture.specs.declared.bars.Arrow.{Arrow}
use Rattle.drt_picture.specs.declared.layout.Layout.{Layout}
use Rattle.drt_picture.specs.declared.scale.Scale.{Scale}
use Rattle.drt_picture.specs.Moments.{IsGap, IsPart, moments_of}
use Rattle.drt_picture.specs.Reach.{Reach}
use Rattle.drt_picture.specs.Scale.{IsInArea, IsPageScale, x_of}

-- The span has ticks, all of them before `until`, and its job is one of so many.
pub record IsSpanOf (count until : ℕ) (s : Span) : Type 0 where
  pub some : s.start < s.end
  pub in_time : s.end ≤ until
  pub here : s.job < count

-- The event isn't after `until`, and its job is one of so many.
pub record IsEventOf (count until : ℕ) (e : Event) : Type 0 where
  pub in_time : e.time ≤ until
  pub here : e.job < count

-- The task of a job, by number.
abbrev pub task_of_job : List Release → ℕ → ℕ
task_of_job releases j = (slice_index_or releases j (record { task = 0; vertex = 0; time = 0; need = 0 })).task

-- The bar of a span: from the place of its start to that of its end, in the row of its task.
abbrev pub bar_of : Scale → List Release → Span → Bar
bar_of s releases span = record { span = span; row = task_of_job releases span.job; left = x_of s span.start; right = x_of s span.end }

-- The arrow of an event: at the place of its time, in the row of its task.
abbrev pub arrow_of : Scale → List Release → Event → Arrow
arrow_of s releases event = record { event = event; row = task_of_job releases event.job; x = x_of s event.time }

-- Where a row begins: a row is 48 pixels high, and above the first one there are 72 pixels.
abbrev pub row_top : ℕ → ℕ
row_top row = 720 + 480 * row

-- The start of the first span, and 0 where there is none.
abbrev pub start_of : List Span → ℕ
start_of [] = 0
start_of (s ∷ others) = s.start

-- Where the picture begins: at tick 0 where no span is hidden, else where the first span that is shown does.
abbrev pub from_of : ℕ → List Span → ℕ
from_of hidden shown = if hidden == 0 then 0 else start_of shown

-- There is such a row, and all of it is on the page.
pub record IsPageRow (tasks : List Task) (height row : ℕ) : Type 0 where
  pub here : row < length tasks
  pub on_page : row_top row + 480 ≤ height

-- The bar lies in the drawing area, in a row.
pub record IsBar (tasks : List Task) (l : Layout) (b : Bar) : Type 0 where
  pub in_row : IsPageRow tasks l.height b.row
  pub ordered : b.left ≤ b.right
  pub left : IsInArea l.scale b.left
  pub right : IsInArea l.scale b.right

-- The arrow lies in the drawing area, in a row.
pub record IsArrow (tasks : List Task) (l : Layout) (a : Arrow) : Type 0 where
  pub in_row : IsPageRow tasks l.height a.row
  pub place : IsInArea l.scale a.x

-- The tick of the axis stands at the place of its time, in the drawing area.
pub record IsAxisTick (s : Scale) (t : Tick) : Type 0 where
  pub in_time : t.time ≤ s.until
  pub is : t.x ≡ x_of s t.time
  pub place : IsInArea s t.x

-- The mark of a cut reaches from the place of its start to that of its end, in the drawing area.
pub record IsCutMark (s : Scale) (c : Cut) : Type 0 where
  pub in_time : c.end ≤ s.until
  pub ordered : c.start ≤ c.end
  pub left_is : c.left ≡ x_of s c.start
  pub right_is : c.right ≡ x_of s c.end
  pub left : IsInArea s c.left
  pub right : IsInArea s c.right

-- The layout of a schedule: it shows the last 10,000 spans, and what happens from the start of the first of them on.
pub record IsLayout (tasks : List Task) (releases : List Release) (spans : List Span) (events : List Event) (until : ℕ) (l : Layout) : Type 0 where
  pub hidden : l.hidden ≡ length spans - 10000
  pub from_is : l.from ≡ from_of l.hidden (drop l.hidden spans)
  pub early : All (λ e. e.time < l.from) (take l.early events)
  pub shown : All (λ e. l.from ≤ e.time) (drop l.early events)
  pub scale : IsPageScale l.scale
  pub until_is : l.scale.until ≡ until
  pub reach : Reach l.from until l.scale.parts
  pub each_part : All (IsPart until) l.scale.parts
  pub parts : AllNeighbours (IsGap (moments_of (drop l.hidden spans) (drop l.early events) until)) l.scale.parts
  pub bars : l.bars ≡ map (bar_of l.scale releases) (drop l.hidden spans)
  pub each_bar : All (IsBar tasks l) l.bars
  pub bars_in_order : AllNeighbours (λ a b. a.right ≤ b.left) l.bars
  pub arrows : l.arrows ≡ map (arrow_of l.scale releases) (drop l.early events)
  pub each_arrow : All (IsArrow tasks l) l.arrows
  pub arrows_in_order : AllNeighbours (λ a b. a.x ≤ b.x) l.arrows
  pub axis : All (IsAxisTick l.scale) l.ticks
  pub cuts : All (IsCutMark l.scale) l.cuts
