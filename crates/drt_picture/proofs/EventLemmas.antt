-- The events before a time, and the others.
use Rattle.std.proofs.Common.{ℕ, ◌+◌, ◌<◌, ◌≤◌, List, length, get_or, take, drop, subst, arith, length-drop}
use Rattle.std.specs.Prelude.{All}
use Rattle.std.proofs.lemmas.List.{get_or-take, get_or-drop, get_or_default, length-take}
use Rattle.drt_model.specs.Legal.{AllNeighbours}
use Rattle.drt_timeline.specs.declared.event.Event.{Event}
use Rattle.drt_picture.proofs.Orders.{ascends}

pub all_early : (events : List Event) (time i : ℕ) → ((k : ℕ) (d : Event) → k < i → (get_or events k d).time < time) → All (λ e. e.time < time) (take i events)
all_early events time i h k d l =
    let here : k < i = omega (arith, length-take i events) in
    rw (get_or-take i events k d here) (h k d here)

pub all_later : (events : List Event) (time i : ℕ) (e : Event) → AllNeighbours (λ e f. e.time ≤ f.time) events → i < length events
    → time ≤ (get_or events i e).time → All (λ e. time ≤ e.time) (drop i events)
all_later events time i e order here late k d l =
    let rise = ascends (λ (f : Event). f.time) events order i (i + k) d (omega arith) (omega (arith, length-drop i events)) in
    let late' = subst (λ (f : Event). time ≤ f.time) (get_or_default events i e d here) late in
    rw (get_or-drop i events k d) (omega (arith, rise, late'))

pub none_later : (events : List Event) (time i : ℕ) → length events ≤ i → All (λ e. time ≤ e.time) (drop i events)
none_later events time i h k d l = absurd (omega (arith, length-drop i events))
