-- A page whose parts are laid out is a layout.
use Rattle.std.proofs.Common.{◌≡◌, ℕ, ◌+◌, ◌-◌, ◌*◌, ◌≤◌, ◌<◌, List, length, map, take, drop, sym, subst}
use Rattle.std.specs.Prelude.{All}
use Rattle.std.proofs.lemmas.List.Elements.{All-drop}
use Rattle.drt_model.specs.declared.jobs.Release.{Release}
use Rattle.drt_model.specs.declared.tasks.Task.{Task}
use Rattle.drt_model.specs.Legal.{AllNeighbours}
use Rattle.drt_timeline.specs.declared.span.Span.{Span}
use Rattle.drt_timeline.specs.declared.event.Event.{Event}
use Rattle.drt_timeline.specs.Spans.{IsNextSpan}
use Rattle.drt_picture.specs.declared.bars.Bar.{Bar}
use Rattle.drt_picture.specs.declared.bars.Arrow.{Arrow}
use Rattle.drt_picture.specs.declared.layout.Layout.{Layout}
use Rattle.drt_picture.specs.Layout.{IsArrow, IsBar, IsCutMark, IsEventOf, IsLayout, IsSpanOf, IsAxisTick, arrow_of, bar_of, from_of}
use Rattle.drt_picture.specs.Moments.{IsGap, IsPart, IsMomentWithin, moments_of}
use Rattle.drt_picture.specs.Reach.{Reach}
use Rattle.drt_picture.specs.Scale.{IsPageScale}
use Rattle.drt_picture.proofs.Orders.{neighbours_drop}
use Rattle.drt_picture.proofs.LayoutLemmas.{all_within, arrows_in_order, bars_in_order, each_arrow, each_bar, from_in_time, from_least}

-- What a caller of `lay_out` shows of spans and events.
pub record AreGiven (count until : ℕ) (spans : List Span) (events : List Event) : Type 0 where
  pub each_span : All (IsSpanOf count until) spans
  pub spans_in_order : AllNeighbours IsNextSpan spans
  pub each_event : All (IsEventOf count until) events
  pub events_in_order : AllNeighbours (λ e f. e.time ≤ f.time) events

-- The same holds of the last ones of them.
pub given_drop : (count until n m : ℕ) (spans : List Span) (events : List Event) → AreGiven count until spans events → AreGiven count until (drop n spans) (drop m events)
given_drop count until n m spans events h = record {
  each_span = All-drop (IsSpanOf count until) n spans h.each_span;
  spans_in_order = neighbours_drop IsNextSpan n spans h.spans_in_order;
  each_event = All-drop (IsEventOf count until) m events h.each_event;
  events_in_order = neighbours_drop (λ (e f : Event). e.time ≤ f.time) m events h.events_in_order;
}

-- What happens in a picture lies between where it begins and its end.
pub shown_within : (hidden count until : ℕ) (spans : List Span) (events : List Event) → AreGiven count until spans events
    → All (λ e. from_of hidden spans ≤ e.time) events → All (IsMomentWithin (from_of hidden spans) until) (moments_of spans events until)
shown_within hidden count until spans events h later =
    all_within (from_of hidden spans) count until spans events (from_in_time hidden count until spans h.each_span) h.each_span
    (from_least hidden count until spans h.spans_in_order h.each_span) h.each_event later

-- What was made for the page, step by step.
pub record IsMade (tasks : List Task) (releases : List Release) (spans : List Span) (events : List Event) (until : ℕ) (l : Layout) : Type 0 where
  pub hidden : l.hidden ≡ length spans - 10000
  pub from_is : l.from ≡ from_of l.hidden (drop l.hidden spans)
  pub early : All (λ e. e.time < l.from) (take l.early events)
  pub shown : All (λ e. l.from ≤ e.time) (drop l.early events)
  pub scale : IsPageScale l.scale
  pub until_is : l.scale.until ≡ until
  pub reach : Reach l.from until l.scale.parts
  pub each_part : All (IsPart until) l.scale.parts
  pub parts : AllNeighbours (IsGap (moments_of (drop l.hidden spans) (drop l.early events) until)) l.scale.parts
  pub bars : l.bars ≡ map (bar_of l.scale releases) (drop l.hidden spans)
  pub arrows : l.arrows ≡ map (arrow_of l.scale releases) (drop l.early events)
  pub axis : All (IsAxisTick l.scale) l.ticks
  pub cuts : All (IsCutMark l.scale) l.cuts
  pub high : 720 + 480 * length tasks ≤ l.height

pub laid_out : (tasks : List Task) (releases : List Release) (spans : List Span) (events : List Event) (until : ℕ) (l : Layout)
    → All (λ r. r.task < length tasks) releases → AreGiven (length releases) until spans events → IsMade tasks releases spans events until l
    → IsLayout tasks releases spans events until l
laid_out tasks releases spans events until l legal given made =
    let shown = given_drop (length releases) until l.hidden l.early spans events given in
    let each_span = subst (λ (n : ℕ). All (IsSpanOf (length releases) n) (drop l.hidden spans)) (sym made.until_is) shown.each_span in
    let each_event = subst (λ (n : ℕ). All (IsEventOf (length releases) n) (drop l.early events)) (sym made.until_is) shown.each_event in
    record {
      hidden = made.hidden;
      from_is = made.from_is;
      early = made.early;
      shown = made.shown;
      scale = made.scale;
      until_is = made.until_is;
      reach = made.reach;
      each_part = made.each_part;
      parts = made.parts;
      bars = made.bars;
      each_bar = subst (λ (bs : List Bar). All (IsBar tasks l) bs) (sym made.bars) (each_bar tasks releases l (drop l.hidden spans) made.scale legal made.high each_span);
      bars_in_order = subst (λ (bs : List Bar). AllNeighbours (λ a b. a.right ≤ b.left) bs) (sym made.bars) (bars_in_order l.scale releases (drop l.hidden spans) shown.spans_in_order);
      arrows = made.arrows;
      each_arrow = subst (λ (as' : List Arrow). All (IsArrow tasks l) as') (sym made.arrows) (each_arrow tasks releases l (drop l.early events) made.scale legal made.high each_event);
      arrows_in_order = subst (λ (as' : List Arrow). AllNeighbours (λ a b. a.x ≤ b.x) as') (sym made.arrows) (arrows_in_order l.scale releases (drop l.early events) shown.events_in_order);
      axis = made.axis;
      cuts = made.cuts;
    }
