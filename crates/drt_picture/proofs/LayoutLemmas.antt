-- Why what is laid out stands on the page and in order.
use Rattle.std.proofs.Common.{ℕ, ◌+◌, ◌*◌, ◌<◌, ◌≤◌, Bool, true, false, List, [], ◌∷◌, ◌++◌, length, get_or, map, arith}
use Rattle.std.specs.Prelude.{All, ◌==◌, if◌then◌else◌}
use Rattle.std.proofs.lemmas.List.Elements.{All-nil, All-cons, All-append, All-map, All-get_or}
use Rattle.drt_model.specs.declared.jobs.Release.{Release}
use Rattle.drt_model.specs.declared.tasks.Task.{Task}
use Rattle.drt_model.specs.Legal.{AllNeighbours}
use Rattle.drt_timeline.specs.declared.span.Span.{Span}
use Rattle.drt_timeline.specs.declared.event.Event.{Event}
use Rattle.drt_timeline.specs.Spans.{IsNextSpan}
use Rattle.drt_picture.specs.declared.bars.Bar.{Bar}
use Rattle.drt_picture.specs.declared.bars.Arrow.{Arrow}
use Rattle.drt_picture.specs.declared.layout.Layout.{Layout}
use Rattle.drt_picture.specs.declared.scale.Scale.{Scale}
use Rattle.drt_picture.specs.Layout.{IsArrow, IsBar, IsEventOf, IsPageRow, IsSpanOf, arrow_of, bar_of, from_of, task_of_job}
use Rattle.drt_picture.specs.Moments.{IsMomentWithin, moment_of_event, moment_of_span, moments_of}
use Rattle.drt_picture.specs.Scale.{IsPageScale, x_of}
use Rattle.drt_picture.proofs.Orders.{ascends, neighbours_map, neighbours_weaker}
use Rattle.drt_picture.proofs.ScaleLemmas.{x_left, x_right, x_rise}

-- The starts of spans ascend.
starts_ascend : (count until : ℕ) (spans : List Span) → AllNeighbours IsNextSpan spans → All (IsSpanOf count until) spans → AllNeighbours (λ s t. s.start ≤ t.start) spans
starts_ascend count until spans next each i d l =
    let some = (each i d (omega arith)).some in
    let after = (next i d l).0 in
    omega (arith, some, after)

-- No span starts before the first one.
pub from_least : (hidden count until : ℕ) (spans : List Span) → AllNeighbours IsNextSpan spans → All (IsSpanOf count until) spans
    → All (λ s. from_of hidden spans ≤ s.start) spans
from_least hidden count until [] next each k d l = absurd (omega arith)
from_least hidden count until (s ∷ others) next each k d l = go (hidden == 0)
  where
    rise : s.start ≤ (get_or (s ∷ others) k d).start
    rise = ascends (λ (t : Span). t.start) (s ∷ others) (starts_ascend count until (s ∷ others) next each) 0 k d (omega arith) l

    go : (b : Bool) → (if b then 0 else s.start) ≤ (get_or (s ∷ others) k d).start
    go true = omega arith
    go false = rise

-- The picture doesn't begin after its end.
pub from_in_time : (hidden count until : ℕ) (spans : List Span) → All (IsSpanOf count until) spans → from_of hidden spans ≤ until
from_in_time hidden count until [] each = go (hidden == 0)
  where
    go : (b : Bool) → (if b then 0 else 0) ≤ until
    go true = omega arith
    go false = omega arith
from_in_time hidden count until (s ∷ others) each = go (hidden == 0)
  where
    first : IsSpanOf count until s
    first = each 0 s (omega arith)

    go : (b : Bool) → (if b then 0 else s.start) ≤ until
    go true = omega arith
    go false = omega (arith, first.some, first.in_time)

-- What happens in the picture lies between its ends.
pub all_within : (from count until : ℕ) (spans : List Span) (events : List Event) → from ≤ until → All (IsSpanOf count until) spans → All (λ s. from ≤ s.start) spans
    → All (IsEventOf count until) events → All (λ e. from ≤ e.time) events → All (IsMomentWithin from until) (moments_of spans events until)
all_within from count until spans events ahead spans_in spans_from events_in events_from =
    All-append (IsMomentWithin from until) (map moment_of_span spans ++ map moment_of_event events) (record { start = until; end = until } ∷ [])
    (All-append (IsMomentWithin from until) (map moment_of_span spans) (map moment_of_event events)
    (All-map (IsMomentWithin from until) moment_of_span spans (λ k d l. record { not_before = spans_from k d l; some = omega (arith, (spans_in k d l).some); in_time = (spans_in k d l).in_time }))
    (All-map (IsMomentWithin from until) moment_of_event events (λ k d l. record { not_before = events_from k d l; some = omega arith; in_time = (events_in k d l).in_time })))
    (All-cons (IsMomentWithin from until) (record { start = until; end = until }) [] (record { not_before = ahead; some = omega arith; in_time = omega arith }) (All-nil (IsMomentWithin from until)))

-- Bars stand in the order of their spans.
pub bars_in_order : (s : Scale) (releases : List Release) (spans : List Span) → AllNeighbours IsNextSpan spans → AllNeighbours (λ a b. a.right ≤ b.left) (map (bar_of s releases) spans)
bars_in_order s releases spans next =
    neighbours_map (λ (a b : Bar). a.right ≤ b.left) (bar_of s releases) spans
    (neighbours_weaker IsNextSpan (λ x y. x_of s x.end ≤ x_of s y.start) spans (λ x y h. x_rise s x.end y.start h.0) next)

-- Arrows stand in the order of their events.
pub arrows_in_order : (s : Scale) (releases : List Release) (events : List Event) → AllNeighbours (λ e f. e.time ≤ f.time) events
    → AllNeighbours (λ a b. a.x ≤ b.x) (map (arrow_of s releases) events)
arrows_in_order s releases events order =
    neighbours_map (λ (a b : Arrow). a.x ≤ b.x) (arrow_of s releases) events
    (neighbours_weaker (λ (e f : Event). e.time ≤ f.time) (λ x y. x_of s x.time ≤ x_of s y.time) events (λ x y h. x_rise s x.time y.time h) order)

-- The task of a job has a row.
has_row : (tasks : List Task) (releases : List Release) (height j : ℕ) → All (λ r. r.task < length tasks) releases → 720 + 480 * length tasks ≤ height → j < length releases
    → IsPageRow tasks height (task_of_job releases j)
has_row tasks releases height j legal high here =
    let row : task_of_job releases j < length tasks
    = All-get_or (λ (r : Release). r.task < length tasks) releases j (record { task = 0; vertex = 0; time = 0; need = 0 }) here legal in
    record { here = row; on_page = omega (arith, row, high) }

-- Each bar stands on the page.
pub each_bar : (tasks : List Task) (releases : List Release) (l : Layout) (spans : List Span) → IsPageScale l.scale → All (λ r. r.task < length tasks) releases
    → 720 + 480 * length tasks ≤ l.height → All (IsSpanOf (length releases) l.scale.until) spans → All (IsBar tasks l) (map (bar_of l.scale releases) spans)
each_bar tasks releases l spans scale legal high each = All-map (IsBar tasks l) (bar_of l.scale releases) spans (λ k d h. one (get_or spans k d) (each k d h))
  where
    one : (s : Span) → IsSpanOf (length releases) l.scale.until s → IsBar tasks l (bar_of l.scale releases s)
    one s is = record {
      in_row = has_row tasks releases l.height s.job legal high is.here;
      ordered = x_rise l.scale s.start s.end (omega (arith, is.some));
      left = (x_left l.scale s.start, x_right l.scale s.start scale (omega (arith, is.some, is.in_time)));
      right = (x_left l.scale s.end, x_right l.scale s.end scale is.in_time);
    }

-- Each arrow stands on the page.
pub each_arrow : (tasks : List Task) (releases : List Release) (l : Layout) (events : List Event) → IsPageScale l.scale → All (λ r. r.task < length tasks) releases
    → 720 + 480 * length tasks ≤ l.height → All (IsEventOf (length releases) l.scale.until) events → All (IsArrow tasks l) (map (arrow_of l.scale releases) events)
each_arrow tasks releases l events scale legal high each = All-map (IsArrow tasks l) (arrow_of l.scale releases) events (λ k d h. one (get_or events k d) (each k d h))
  where
    one : (e : Event) → IsEventOf (length releases) l.scale.until e → IsArrow tasks l (arrow_of l.scale releases e)
    one e is = record {
      in_row = has_row tasks releases l.height e.job legal high is.here;
      place = (x_left l.scale e.time, x_right l.scale e.time scale is.in_time);
    }
