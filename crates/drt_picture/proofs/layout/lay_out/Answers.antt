use Rattle.std.proofs.Common.{◌≡◌, ◌∙◌, ℕ, ◌+◌, ◌-◌, ◌*◌, ◌≤◌, List, length, map, take, drop, sym, ap, subst}
use Rattle.std.specs.Prelude.{All}
use Rattle.std.proofs.lemmas.List.{take_rest}
use Rattle.std.proofs.lemmas.List.Elements.{All-drop}
use Rattle.drt_model.specs.declared.tasks.Task.{Task}
use Rattle.drt_model.specs.Legal.{AllNeighbours}
use Rattle.drt_timeline.specs.declared.span.Span.{Span}
use Rattle.drt_timeline.specs.declared.event.Event.{Event}
use Rattle.drt_picture.specs.declared.axis.Cut.{Cut}
use Rattle.drt_picture.specs.declared.axis.Tick.{Tick}
use Rattle.drt_picture.specs.declared.layout.Layout.{Layout}
use Rattle.drt_picture.specs.Layout.{IsCutMark, IsSpanOf, IsAxisTick, arrow_of, bar_of, from_of}
use Rattle.drt_picture.specs.Moments.{IsGap, IsMomentWithin, moments_of}
use Rattle.drt_picture.proofs.LayoutLemmas.{from_in_time}
use Rattle.drt_picture.proofs.PageLemmas.{AreGiven, given_drop, laid_out, shown_within}
use Rattle.drt_picture.proofs.layout.lay_out.Goals as goal

pub scale_of-requires-clause-each : goal.scale_of-requires-clause-each
scale_of-requires-clause-each c =
    let spans = c.args.spans.now in
    let events = c.args.events.now in
    let hidden = c.saturating_sub-hidden.result in
    let early = c.count_before-early.result in
    let until = c.args.until in
    let count = length c.args.releases.now in
    let spans_are : take (length spans - hidden) (drop hidden spans) ≡ drop hidden spans = take_rest spans hidden in
    let events_are : take (length events - early) (drop early events) ≡ drop early events = take_rest events early in
    let from_is : c.from_of-from.result ≡ from_of hidden (drop hidden spans) = c.from_of-from.ensures ∙ ap (from_of hidden) spans_are in
    let given : AreGiven count until spans events = record {
      each_span = c.requires.each_span;
      spans_in_order = c.requires.spans_in_order;
      each_event = c.requires.each_event;
      events_in_order = c.requires.events_in_order;
    } in
    let later = subst (λ (f : ℕ). All (λ e. f ≤ e.time) (drop early events)) from_is c.count_before-early.ensures.later in
    let within = shown_within hidden count until (drop hidden spans) (drop early events) (given_drop count until hidden early spans events given) later in
    subst (λ (f : ℕ). All (IsMomentWithin f until) (moments_of (take (length spans - hidden) (drop hidden spans)) (take (length events - early) (drop early events)) until)) (sym from_is)
    (subst (λ (ss : List Span). All (IsMomentWithin (from_of hidden (drop hidden spans)) until) (moments_of ss (take (length events - early) (drop early events)) until)) (sym spans_are)
    (subst (λ (es : List Event). All (IsMomentWithin (from_of hidden (drop hidden spans)) until) (moments_of (drop hidden spans) es until)) (sym events_are) within))

pub scale_of-requires-clause-ahead : goal.scale_of-requires-clause-ahead
scale_of-requires-clause-ahead c =
    let spans = c.args.spans.now in
    let hidden = c.saturating_sub-hidden.result in
    let count = length c.args.releases.now in
    let spans_are : take (length spans - hidden) (drop hidden spans) ≡ drop hidden spans = take_rest spans hidden in
    let from_is : c.from_of-from.result ≡ from_of hidden (drop hidden spans) = c.from_of-from.ensures ∙ ap (from_of hidden) spans_are in
    let each = All-drop (IsSpanOf count c.args.until) hidden spans c.requires.each_span in
    subst (λ (f : ℕ). f ≤ c.args.until) (sym from_is) (from_in_time hidden count c.args.until (drop hidden spans) each)

pub returns : goal.returns
returns c =
    let tasks = c.args.set.now.tasks in
    let releases = c.args.releases.now in
    let spans = c.args.spans.now in
    let events = c.args.events.now in
    let hidden = c.saturating_sub-hidden.result in
    let early = c.count_before-early.result in
    let until = c.args.until in
    let scale = c.in_ok-scale.scale in
    let spans_are : take (length spans - hidden) (drop hidden spans) ≡ drop hidden spans = take_rest spans hidden in
    let events_are : take (length events - early) (drop early events) ≡ drop early events = take_rest events early in
    let given : AreGiven (length releases) until spans events = record {
      each_span = c.requires.each_span;
      spans_in_order = c.requires.spans_in_order;
      each_event = c.requires.each_event;
      events_in_order = c.requires.events_in_order;
    } in
    let parts = subst (λ (es : List Event). AllNeighbours (IsGap (moments_of (drop hidden spans) es until)) scale.parts) events_are
    (subst (λ (ss : List Span). AllNeighbours (IsGap (moments_of ss (take (length events - early) (drop early events)) until)) scale.parts) spans_are c.in_ok-scale.ensures.cuts) in
    let page : Layout = record {
      from = c.from_of-from.result;
      hidden = hidden;
      early = early;
      height = c.height_of-height.result;
      scale = scale;
      bars = c.from_vec.result;
      arrows = c.from_vec-2.result;
      ticks = c.from_vec-3.result;
      cuts = c.from_vec-4.result;
    } in
    laid_out tasks releases spans events until page c.requires.legal.of_tasks given
    (record {
      hidden = c.saturating_sub-hidden.ensures;
      from_is = c.from_of-from.ensures ∙ ap (from_of hidden) spans_are;
      early = c.count_before-early.ensures.early;
      shown = c.count_before-early.ensures.later;
      scale = c.in_ok-scale.ensures.scale;
      until_is = c.in_ok-scale.ensures.until_is;
      reach = c.in_ok-scale.ensures.reach;
      each_part = c.in_ok-scale.ensures.each;
      parts = parts;
      bars = c.from_vec.ensures ∙ c.in_ok-bars.ensures ∙ ap (λ (ss : List Span). map (bar_of scale releases) ss) spans_are;
      arrows = c.from_vec-2.ensures ∙ c.in_ok-arrows.ensures ∙ ap (λ (es : List Event). map (arrow_of scale releases) es) events_are;
      axis = subst (λ (ts : List Tick). All (IsAxisTick scale) ts) (sym c.from_vec-3.ensures) c.in_ok-ticks.ensures;
      cuts = subst (λ (cs : List Cut). All (IsCutMark scale) cs) (sym c.from_vec-4.ensures) c.in_ok-cuts.ensures;
      high = subst (λ (ts : List Task). 720 + 480 * length ts ≤ c.height_of-height.result) c.tasks.ensures.tasks c.height_of-height.ensures;
    })
