-- The spans stay those of the ticks so far when a stretch of ticks comes behind them.
use Rattle.std.proofs.Common.{inl, inr, ◌≡◌, ℕ, ◌+◌, ◌<◌, ◌≤◌, List, [], ◌∷◌, ◌++◌, length, get_or, set, All, Any, Some, None, refl, sym, ap, ◌∙◌, subst, arith}
use Rattle.std.proofs.lemmas.Bool.{cases_eq, cases_lt}
use Rattle.std.proofs.lemmas.List.{get_or-set_same, get_or-set_other, length-set, length_push, get_or_default, get_or_append_left}
use Rattle.std.proofs.Math.Seq.{get_or-append_seam}
use Rattle.std.proofs.lemmas.List.Elements.{All-nil, All-push, All-set, All-weaker}
use Rattle.drt_model.specs.declared.jobs.Job.{Job}
use Rattle.drt_model.specs.declared.jobs.Policy.{Policy}
use Rattle.drt_model.specs.Legal.{AllNeighbours}
use Rattle.drt_model.specs.Trace.{pick}
use Rattle.drt_timeline.specs.declared.span.Span.{Span}
use Rattle.drt_timeline.specs.Spans.{IsSpan, IsInSpan, IsNextSpan, AreSpans}
use Rattle.drt_timeline.specs.Joining.{Adjoins, IsSpanGrown, span_at}

-- neighbours, read with one default
neighbours_at : {X : Type 0} (R : X → X → Type 0) (xs : List X) (e : X) → ((i : ℕ) → i + 1 < length xs → R (get_or xs i e) (get_or xs (i + 1) e)) → AllNeighbours R xs
neighbours_at R xs e f i d h =
    subst (λ x. R x (get_or xs (i + 1) d)) (get_or_default xs i e d (omega arith))
    (subst (λ y. R (get_or xs i e) y) (get_or_default xs (i + 1) e d h) (f i h))

module _ (policy : Policy) (jobs : List Job) where
  pub spans_start : AreSpans policy jobs 0 []
  spans_start = record {
    each = All-nil (IsSpan jobs 0);
    in_order = λ i d h. absurd (omega arith);
    runs = All-nil (λ s. (i : ℕ) → IsInSpan i s → pick policy jobs i ≡ Some s.job);
    idle = λ i h. absurd (omega arith);
  }

  longer_spans : (n m : ℕ) → n ≤ m → (spans : List Span) → All (IsSpan jobs n) spans → All (IsSpan jobs m) spans
  longer_spans n m le spans each = All-weaker (IsSpan jobs n) (IsSpan jobs m) (λ s is. record { some = is.some; in_time = omega (arith, is.in_time); here = is.here }) spans each

  -- idle ticks
  pub spans_idle : (n m : ℕ) → n ≤ m → ((i : ℕ) → n ≤ i → i < m → pick policy jobs i ≡ None) → (spans : List Span) → AreSpans policy jobs n spans → AreSpans policy jobs m spans
  spans_idle n m le none spans are = record {
    each = longer_spans n m le spans are.each;
    in_order = are.in_order;
    runs = are.runs;
    idle = λ i h out. elim (cases_lt i n) [
      | inl before ↦ are.idle i before out
      | inr after ↦ none i after h
    ];
  }

  -- ticks of one job
  module _ (n m j : ℕ) (some : n < m) (here : j < length jobs) (runs : (i : ℕ) → n ≤ i → i < m → pick policy jobs i ≡ Some j) (spans : List Span) (are : AreSpans policy jobs n spans) where
    -- in one with the last span
    module _ (k : ℕ) (is_last : k + 1 ≡ length spans) (adjoins : ((span_at spans k).end ≡ n) × ((span_at spans k).job ≡ j))
        (g : Span) (starts : g.start ≡ (span_at spans k).start) (ends : g.end ≡ m) (of_job : g.job ≡ (span_at spans k).job) where
      was : IsSpan jobs n (span_at spans k)
      was = are.each k _ (omega arith)

      joined_is : IsSpan jobs m g
      joined_is = record { some = omega (arith, was.some, starts, ends, adjoins.0); in_time = omega (arith, ends); here = omega (arith, was.here, of_job) }

      at_last : (d : Span) → get_or (set spans k g) k d ≡ g
      at_last d = get_or-set_same spans k g d (omega arith)

      joined_next : (i : ℕ) → i + 1 < length spans → i + 1 ≡ k → IsNextSpan (span_at spans i) g
      joined_next i h e =
          let old : IsNextSpan (span_at spans i) (span_at spans k) = subst (λ x. IsNextSpan (span_at spans i) (span_at spans x)) e (are.in_order i _ h) in
          (omega (arith, old.0, starts), λ q f. old.1 (q ∙ starts) (f ∙ of_job))

      joined_order : (i : ℕ) → i + 1 < length (set spans k g) → IsNextSpan (span_at (set spans k g) i) (span_at (set spans k g) (i + 1))
      joined_order i h =
          let below : i + 1 < length spans = omega (arith, length-set spans k g) in
          let left : span_at (set spans k g) i ≡ span_at spans i = get_or-set_other spans k i g _ (λ e. omega (arith, e)) in
          subst (λ x. IsNextSpan x (span_at (set spans k g) (i + 1))) (sym left)
          (elim (cases_eq (i + 1) k) [
            | inl e ↦ subst (λ y. IsNextSpan (span_at spans i) y) (sym (at_last _) ∙ ap (λ x. span_at (set spans k g) x) (sym e)) (joined_next i below e)
            | inr ne ↦ subst (λ y. IsNextSpan (span_at spans i) y) (sym (get_or-set_other spans k (i + 1) g _ ne)) (are.in_order i _ below)
          ])

      joined_runs : (i : ℕ) → IsInSpan i g → pick policy jobs i ≡ Some g.job
      joined_runs i h = elim (cases_lt i n) [
        | inl before ↦ are.runs k _ (omega arith) i (omega (arith, h.0, starts), omega (arith, adjoins.0)) ∙ ap Some (sym of_job)
        | inr after ↦ runs i after (omega (arith, h.1, ends)) ∙ ap Some (sym adjoins.1 ∙ sym of_job)
      ]

      joined_in : (i : ℕ) → IsInSpan i g → Any (IsInSpan i) (set spans k g)
      joined_in i h = (k, g, omega (arith, length-set spans k g), at_last g, h)

      joined_any : (i : ℕ) → Any (IsInSpan i) spans → Any (IsInSpan i) (set spans k g)
      joined_any i (x, s, l, e, h) = elim (cases_eq x k) [
        | inl at ↦
            (let same : s ≡ span_at spans k = sym e ∙ ap (λ y. get_or spans y s) at ∙ get_or_default spans k s _ (omega arith) in
            let in' : IsInSpan i (span_at spans k) = subst (IsInSpan i) same h in
            joined_in i (omega (arith, in'.0, starts), omega (arith, in'.1, adjoins.0, ends)))
        | inr ne ↦ (x, s, omega (arith, length-set spans k g), get_or-set_other spans k x g s ne ∙ e, h)
      ]

      pub spans_joined : AreSpans policy jobs m (set spans k g)
      spans_joined = record {
        each = All-set (IsSpan jobs m) spans k g joined_is (longer_spans n m (omega arith) spans are.each);
        in_order = neighbours_at IsNextSpan (set spans k g) (record { start = 0; end = 0; job = 0 }) joined_order;
        runs = All-set (λ s. (i : ℕ) → IsInSpan i s → pick policy jobs i ≡ Some s.job) spans k g joined_runs are.runs;
        idle = λ i h out. elim (cases_lt i n) [
          | inl before ↦ are.idle i before (λ any. out (joined_any i any))
          | inr after ↦ absurd (out (joined_in i (omega (arith, was.some, starts, adjoins.0), omega (arith, ends))))
        ];
      }

    -- as a span behind the others
    module _ (g : Span) (starts : g.start ≡ n) (ends : g.end ≡ m) (of_job : g.job ≡ j) (apart : (last : ℕ) → last + 1 ≡ length spans → Adjoins (span_at spans last) g → ⊥) where
      added_is : IsSpan jobs m g
      added_is = record { some = omega (arith, starts, ends); in_time = omega (arith, ends); here = omega (arith, of_job) }

      added_last : (d : Span) → get_or (spans ++ g ∷ []) (length spans) d ≡ g
      added_last d = get_or-append_seam spans g [] d

      added_order : (i : ℕ) → i + 1 < length (spans ++ g ∷ []) → IsNextSpan (span_at (spans ++ g ∷ []) i) (span_at (spans ++ g ∷ []) (i + 1))
      added_order i h =
          let below : i < length spans = omega (arith, length_push spans g) in
          let left : span_at (spans ++ g ∷ []) i ≡ span_at spans i = get_or_append_left spans (g ∷ []) _ i below in
          let is : IsSpan jobs n (span_at spans i) = are.each i _ below in
          subst (λ x. IsNextSpan x (span_at (spans ++ g ∷ []) (i + 1))) (sym left)
          (elim (cases_eq (i + 1) (length spans)) [
            | inl e ↦ subst (λ y. IsNextSpan (span_at spans i) y) (sym (added_last _) ∙ ap (λ x. span_at (spans ++ g ∷ []) x) (sym e))
                (omega (arith, is.in_time, starts), λ q f. apart i e (q, f))
            | inr ne ↦ subst (λ y. IsNextSpan (span_at spans i) y) (sym (get_or_append_left spans (g ∷ []) _ (i + 1) (omega (arith, ne)))) (are.in_order i _ (omega (arith, ne)))
          ])

      added_in : (i : ℕ) → IsInSpan i g → Any (IsInSpan i) (spans ++ g ∷ [])
      added_in i h = (length spans, g, omega (arith, length_push spans g), added_last g, h)

      added_any : (i : ℕ) → Any (IsInSpan i) spans → Any (IsInSpan i) (spans ++ g ∷ [])
      added_any i (x, s, l, e, h) = (x, s, omega (arith, length_push spans g), get_or_append_left spans (g ∷ []) s x l ∙ e, h)

      pub spans_added : AreSpans policy jobs m (spans ++ g ∷ [])
      spans_added = record {
        each = All-push (IsSpan jobs m) spans g (longer_spans n m (omega arith) spans are.each) added_is;
        in_order = neighbours_at IsNextSpan (spans ++ g ∷ []) (record { start = 0; end = 0; job = 0 }) added_order;
        runs = All-push (λ s. (i : ℕ) → IsInSpan i s → pick policy jobs i ≡ Some s.job) spans g are.runs
            (λ i h. runs i (omega (arith, h.0, starts)) (omega (arith, h.1, ends)) ∙ ap Some (sym of_job));
        idle = λ i h out. elim (cases_lt i n) [
          | inl before ↦ are.idle i before (λ any. out (added_any i any))
          | inr after ↦ absurd (out (added_in i (omega (arith, starts), omega (arith, ends))))
        ];
      }

    pub spans_grown : (new : List Span) → IsSpanGrown spans (record { start = n; end = m; job = j }) new → AreSpans policy jobs m new
    spans_grown new (inl h) = subst (AreSpans policy jobs m) (sym h.is)
        (spans_joined h.last h.is_last h.adjoins (record (span_at spans h.last) { end = m }) refl refl refl)
    spans_grown new (inr h) = subst (AreSpans policy jobs m) (sym h.is) (spans_added (record { start = n; end = m; job = j }) refl refl refl h.apart)
