-- What is printed so far, and what is left to print, are together the whole.
use Rattle.std.proofs.Common.{inl, inr, ◌≡◌, ℕ, ◌+◌, ◌<◌, ◌≤◌, List, [], ◌∷◌, ◌++◌, length, get_or, drop, refl, sym, ap, ◌∙◌, subst, append_assoc, append-nil}
use Rattle.std.proofs.lemmas.Bool.{cases_lt, le-leb, lt-leb}
use Rattle.std.proofs.lemmas.List.{drop_more}
use Rattle.std.proofs.Math.ListN.{drop_of_length-le}
use Rattle.std.proofs.lemmas.Grind.{flat_map-append}
use Rattle.drt_file.specs.trusted.Canonical.{written, written_line}
use Rattle.drt_model.specs.declared.jobs.Release.{Release}
use Rattle.drt_model.specs.declared.tasks.Task.{Task}
use Rattle.drt_timeline.specs.declared.event.Event.{Event}
use Rattle.drt_timeline.specs.declared.event.Mark.TheVariants.{Finish}
use Rattle.drt_timeline.specs.declared.span.Span.{Span}
use Rattle.drt_timeline.specs.Text.{event_line, event_lines, events_after, events_until, span_line, timeline_lines}

until_more : (time : ℕ) (e : Event) (events : List Event) → e.time ≤ time → events_until time (e ∷ events) ≡ e ∷ events_until time events
unfolding events_until
until_more time e events h = rw (le-leb e.time time h) refl

until_none : (time : ℕ) (e : Event) (events : List Event) → time < e.time → events_until time (e ∷ events) ≡ []
unfolding events_until
until_none time e events h = rw (lt-leb e.time time h) refl

until_nil : (time : ℕ) → events_until time [] ≡ []
unfolding events_until
until_nil time = refl

after_more : (time : ℕ) (e : Event) (events : List Event) → e.time ≤ time → events_after time (e ∷ events) ≡ events_after time events
unfolding events_after
after_more time e events h = rw (le-leb e.time time h) refl

after_none : (time : ℕ) (e : Event) (events : List Event) → time < e.time → events_after time (e ∷ events) ≡ e ∷ events
unfolding events_after
after_none time e events h = rw (lt-leb e.time time h) refl

after_nil : (time : ℕ) → events_after time [] ≡ []
unfolding events_after
after_nil time = refl

no_more : {X : Type 0} (xs : List X) (i : ℕ) → length xs ≤ i → drop i xs ≡ []
no_more xs i h = drop_of_length-le xs h

module _ (tasks : List Task) (releases : List Release) where
  -- a line more is printed, and one less is left
  line_more : (text text' total rest line : List ℕ) → text' ≡ text ++ line → text ++ (line ++ rest) ≡ total → text' ++ rest ≡ total
  line_more text text' total rest line p q = ap (λ t. t ++ rest) p ∙ append_assoc text line rest ∙ q

  module _ (events : List Event) (next : ℕ) (here : next < length events) (d : Event) (text text' total : List ℕ)
      (pushed : text' ≡ text ++ written_line (event_line tasks releases (get_or events next d))) where
    split : drop next events ≡ get_or events next d ∷ drop (next + 1) events
    split = drop_more events next d here

    -- an event more, of all
    pub from_more : text ++ written (event_lines tasks releases (drop next events)) ≡ total → text' ++ written (event_lines tasks releases (drop (next + 1) events)) ≡ total
    from_more q = line_more text text' total (written (event_lines tasks releases (drop (next + 1) events))) (written_line (event_line tasks releases (get_or events next d))) pushed
        (subst (λ xs. text ++ written (event_lines tasks releases xs) ≡ total) split q)

    -- an event more, of those up to a time
    module _ (time : ℕ) (by : (get_or events next d).time ≤ time) where
      pub until_step : text ++ written (event_lines tasks releases (events_until time (drop next events))) ≡ total
          → text' ++ written (event_lines tasks releases (events_until time (drop (next + 1) events))) ≡ total
      until_step q = line_more text text' total (written (event_lines tasks releases (events_until time (drop (next + 1) events))))
          (written_line (event_line tasks releases (get_or events next d))) pushed
          (subst (λ xs. text ++ written (event_lines tasks releases xs) ≡ total) (ap (events_until time) split ∙ until_more time (get_or events next d) (drop (next + 1) events) by) q)

      pub after_step : (rest : List Event) → events_after time (drop next events) ≡ rest → events_after time (drop (next + 1) events) ≡ rest
      after_step rest q = sym (ap (events_after time) split ∙ after_more time (get_or events next d) (drop (next + 1) events) by) ∙ q

  -- no event is left
  pub from_end : (events : List Event) (next : ℕ) → length events ≤ next → (text total : List ℕ) → text ++ written (event_lines tasks releases (drop next events)) ≡ total → text ≡ total
  from_end events next end text total q =
      sym (append-nil text) ∙ subst (λ xs. text ++ written (event_lines tasks releases xs) ≡ total) (no_more events next end) q

  -- none is left up to the time
  module _ (events : List Event) (next time : ℕ) (later : next < length events → time < (get_or events next (record { time = 0; mark = Finish; job = 0 })).time) where
    until_is : events_until time (drop next events) ≡ []
    until_is = elim (cases_lt next (length events)) [
      | inl h ↦ ap (events_until time) (drop_more events next _ h) ∙ until_none time _ _ (later h)
      | inr h ↦ ap (events_until time) (no_more events next h) ∙ until_nil time
    ]

    after_is : events_after time (drop next events) ≡ drop next events
    after_is = elim (cases_lt next (length events)) [
      | inl h ↦ ap (events_after time) (drop_more events next _ h) ∙ after_none time _ _ (later h) ∙ sym (drop_more events next _ h)
      | inr h ↦ ap (events_after time) (no_more events next h) ∙ after_nil time ∙ sym (no_more events next h)
    ]

    pub until_end : (text total : List ℕ) → text ++ written (event_lines tasks releases (events_until time (drop next events))) ≡ total → text ≡ total
    until_end text total q = sym (append-nil text) ∙ subst (λ xs. text ++ written (event_lines tasks releases xs) ≡ total) until_is q

    pub after_end : (rest : List Event) → events_after time (drop next events) ≡ rest → drop next events ≡ rest
    after_end rest q = sym after_is ∙ q

  -- a span more, behind the events up to its start
  lines_cons : (s : Span) (spans : List Span) (events : List Event) → timeline_lines tasks releases (s ∷ spans) events
      ≡ event_lines tasks releases (events_until s.start events) ++ span_line tasks releases s ∷ timeline_lines tasks releases spans (events_after s.start events)
  unfolding timeline_lines
  lines_cons s spans events = refl

  pub span_step : (spans : List Span) (i : ℕ) (s : Span) → drop i spans ≡ s ∷ drop (i + 1) spans → (events rest : List Event) → rest ≡ events_after s.start events
      → (text text' text'' total : List ℕ) → text' ≡ text ++ written (event_lines tasks releases (events_until s.start events)) → text'' ≡ text' ++ written_line (span_line tasks releases s)
      → text ++ written (timeline_lines tasks releases (drop i spans) events) ≡ total → text'' ++ written (timeline_lines tasks releases (drop (i + 1) spans) rest) ≡ total
  span_step spans i s split events rest after text text' text'' total p q whole =
      let lines : timeline_lines tasks releases (drop i spans) events
      ≡ event_lines tasks releases (events_until s.start events) ++ span_line tasks releases s ∷ timeline_lines tasks releases (drop (i + 1) spans) rest
      = ap (λ xs. timeline_lines tasks releases xs events) split ∙ lines_cons s (drop (i + 1) spans) events
      ∙ ap (λ xs. event_lines tasks releases (events_until s.start events) ++ span_line tasks releases s ∷ timeline_lines tasks releases (drop (i + 1) spans) xs) (sym after) in
      let before = written (event_lines tasks releases (events_until s.start events)) in
      let line = written_line (span_line tasks releases s) in
      let behind = written (timeline_lines tasks releases (drop (i + 1) spans) rest) in
      let bytes : written (timeline_lines tasks releases (drop i spans) events) ≡ before ++ (line ++ behind)
      = ap written lines ∙ flat_map-append written_line (event_lines tasks releases (events_until s.start events))
      (span_line tasks releases s ∷ timeline_lines tasks releases (drop (i + 1) spans) rest) in
      line_more text' text'' total behind line q (line_more text text' total (line ++ behind) before p (subst (λ xs. text ++ xs ≡ total) bytes whole))

  -- no span is left
  pub spans_end : (spans : List Span) (i : ℕ) → length spans ≤ i → (events : List Event) (text text' total : List ℕ)
      → text' ≡ text ++ written (event_lines tasks releases events) → text ++ written (timeline_lines tasks releases (drop i spans) events) ≡ total → text' ≡ total
  unfolding timeline_lines
  spans_end spans i h events text text' total p q = p ∙ subst (λ xs. text ++ written (timeline_lines tasks releases xs events) ≡ total) (no_more spans i h) q

-- The lines above, the lines between, and the last line are the whole text.
pub framed : (start a b c : List ℕ) (head between : List (List (List ℕ))) (last : List (List ℕ)) → start ≡ [] → a ≡ start ++ written head
    → b ≡ a ++ written between → c ≡ b ++ written_line last → c ≡ written (head ++ (between ++ last ∷ []))
framed start a b c head between last none p q r =
    let first : a ≡ written head = p ∙ ap (λ t. t ++ written head) none in
    let flat : (written head ++ written between) ++ written_line last ≡ written head ++ (written between ++ (written_line last ++ []))
    = simp (append_assoc, append-nil) in
    let inner : written (between ++ last ∷ []) ≡ written between ++ (written_line last ++ []) = flat_map-append written_line between (last ∷ []) in
    let outer : written (head ++ (between ++ last ∷ [])) ≡ written head ++ written (between ++ last ∷ []) = flat_map-append written_line head (between ++ last ∷ []) in
    r ∙ ap (λ t. t ++ written_line last) (q ∙ ap (λ t. t ++ written between) first) ∙ flat ∙ ap (λ t. written head ++ t) (sym inner) ∙ sym outer
