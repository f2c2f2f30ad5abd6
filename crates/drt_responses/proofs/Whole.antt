-- A whole text of responses, and where bytes stop being one.
use Rattle.std.proofs.Common.{◌≡◌, ℕ, suc, ◌+◌, ◌-◌, ◌≤◌, ◌<◌, inl, inr, Bool, true, false, ◌==◌, cond, List, [], ◌∷◌, ◌++◌, length, take, refl, sym, ap, subst, ◌∙◌, append_assoc, arith, length-append}
use Rattle.std.specs.List.{AllByRecursion}
use Rattle.std.proofs.lemmas.List.{append-nil, append_cancel_left}
use Rattle.std.proofs.Math.Seq.{take-append_seam}
use Rattle.drt_file.specs.trusted.CanonicalPrefix.{first_lines, line_count}
use Rattle.drt_file.specs.trusted.Cutting.{fed, HasNoFeed}
use Rattle.drt_file.proofs.Feeds.{count_fed, first_before, first_fed, first_line_of, no_lines}
use Rattle.drt_evidence.specs.Blocks.{ReadsBlock, RefusesLine, Stops}
use Rattle.drt_evidence.proofs.Sets.{line_more}
use Rattle.drt_responses.specs.Ranges.{AreResponsesInRange}
use Rattle.drt_responses.specs.Reading.{AreResponsesFaultyBy, HasTextFault, HoldsText, IsResponsesText}
use Rattle.drt_responses.specs.Rows.{IsResponsesStop}
use Rattle.drt_responses.specs.Text.{response_text}
use Rattle.drt_responses.specs.declared.reading.text.Stop.{Stop}
use Rattle.drt_responses.specs.declared.reading.text.Stop.TheVariants as stops
use Rattle.drt_responses.specs.declared.response.Response.{Response}

-- The lines above the last so many bytes.
at_front : (bytes front tail : List ℕ) (left : ℕ) → bytes ≡ front ++ tail → length tail ≡ left → take (length bytes - left) bytes ≡ front
at_front bytes front tail left are size =
    let total = ap length are ∙ length-append front tail in
    let count : length bytes - left ≡ length front = omega (arith, total, size) in
    ap (λ n. take n bytes) count ∙ ap (take (length front)) are ∙ take-append_seam front tail

only_lines : (ls : List (List ℕ)) → AllByRecursion HasNoFeed ls → line_count (fed ls) ≡ length ls
only_lines ls none =
    let count = count_fed ls [] none in
    let zero_lines = no_lines [] tt in
    ap line_count (sym (append-nil (fed ls))) ∙ (omega (arith, count, zero_lines))

-- The number of the line behind these.
line_behind : (bytes front tail : List ℕ) (ls : List (List ℕ)) (left : ℕ) → bytes ≡ front ++ tail → length tail ≡ left → front ≡ fed ls → AllByRecursion HasNoFeed ls
    → 1 + line_count (take (length bytes - left) bytes) ≡ 1 + length ls
line_behind bytes front tail ls left are size lines none = ap (λ n. 1 + n) (ap line_count (at_front bytes front tail left are size ∙ lines) ∙ only_lines ls none)

-- Fewer lines than begin a text don't break.
keep : (bytes : List ℕ) (ls : List (List ℕ)) (rest : List ℕ) → AllByRecursion HasNoFeed ls → bytes ≡ fed ls ++ rest
    → (((s : List Response) (after : List ℕ) → AreResponsesInRange s → response_text s ≡ fed ls ++ after → ⊥) → ⊥) → (n : ℕ) → n ≤ length ls → AreResponsesFaultyBy bytes n → ⊥
keep bytes ls rest none are begun n le (inl (few, hold)) =
    let count = ap line_count are ∙ count_fed ls rest none in
    omega (arith, count, few, le)
keep bytes ls rest none are begun n le (inr broken) =
    let r = first_before n (length ls) bytes le in
    let front : first_lines n bytes ++ r.0 ≡ fed ls = r.1 ∙ ap (first_lines (length ls)) are ∙ first_fed ls rest none in
    begun (λ s after is e. broken (s, r.0 ++ after, record { in_range = is; is = sym (append_assoc (first_lines n bytes) r.0 after) ∙ ap (λ t. t ++ after) front ∙ sym e }))

-- Bytes that begin with no text are no text, and hold none.
no_text : (bytes : List ℕ) → ((s : List Response) (t : List ℕ) → AreResponsesInRange s → bytes ≡ response_text s ++ t → ⊥) → (s : List Response) → IsResponsesText s bytes → ⊥
no_text bytes none s is = none s [] is.in_range (is.is ∙ sym (append-nil (response_text s)))

none_held : (bytes : List ℕ) → ((s : List Response) (t : List ℕ) → AreResponsesInRange s → bytes ≡ response_text s ++ t → ⊥) → HoldsText bytes → ⊥
none_held bytes none (s, front, rest, is, e) = none s rest is.in_range (e ∙ ap (λ t. t ++ rest) is.is)

pub stopped_none : {bytes : List ℕ} {left : ℕ} {missing : Bool} → Stops response_text AreResponsesInRange bytes left missing → (s : List Response) → IsResponsesText s bytes → ⊥
stopped_none {bytes} h = no_text bytes h.none

-- The next line is missing.
missing_at : (bytes : List ℕ) (left : ℕ) (line : ℕ) (h : Stops response_text AreResponsesInRange bytes left true) → line ≡ 1 + length h.lines.ls → HasTextFault bytes line
missing_at bytes left line h at =
    let stands : bytes ≡ fed h.lines.ls ++ h.tail = h.stands ∙ ap (λ t. t ++ h.tail) h.lines.are in
    let count = ap line_count stands ∙ count_fed h.lines.ls h.tail h.lines.no_feeds in
    let zero_lines = no_lines h.tail (h.is_missing refl) in
    let few : line_count bytes < line = omega (arith, count, zero_lines, at) in
    record {
      none = stopped_none h;
      here = inl (few, none_held bytes h.none);
      least = λ n lt. keep bytes h.lines.ls h.tail h.lines.no_feeds stands (λ never. h.begins (λ s after is e. never s after is (e ∙ ap (λ t. t ++ after) h.lines.are))) n (omega (arith, lt, at));
    }

-- The next line can't stand there.
unfit_at : (bytes : List ℕ) (left : ℕ) (line : ℕ) (h : Stops response_text AreResponsesInRange bytes left false) → line ≡ 1 + length h.lines.ls → HasTextFault bytes line
unfit_at bytes left line h at =
    let ls = h.lines.ls in
    let r : RefusesLine response_text AreResponsesInRange h.front h.tail = h.is_there refl in
    let stands : bytes ≡ fed ls ++ h.tail = h.stands ∙ ap (λ t. t ++ h.tail) h.lines.are in
    let whole : bytes ≡ fed ls ++ (r.line ++ 10 ∷ r.others) = stands ∙ ap (λ t. fed ls ++ t) r.cut in
    let number : line ≡ length ls + 1 = omega (arith, at) in
    let first : first_lines line bytes ≡ h.front ++ (r.line ++ 10 ∷ [])
    = ap (λ n. first_lines n bytes) number ∙ line_more bytes ls r.line r.others h.lines.no_feeds r.no_feed whole ∙ ap (λ t. t ++ (r.line ++ 10 ∷ [])) (sym h.lines.are) in
    record {
      none = stopped_none h;
      here = inr (λ p. r.refused p.0 p.1 [] p.2.in_range (ap (λ t. t ++ p.1) (sym first) ∙ p.2.is ∙ sym (append-nil (response_text p.0))));
      least = λ n lt. keep bytes ls h.tail h.lines.no_feeds stands (λ never. h.begins (λ s after is e. never s after is (e ∙ ap (λ t. t ++ after) h.lines.are))) n (omega (arith, lt, at));
    }

-- Lines, and the first line behind them.
first_more : (ls : List (List ℕ)) (rest : List ℕ) (k : ℕ) → AllByRecursion HasNoFeed ls → first_lines (length ls + k) (fed ls ++ rest) ≡ fed ls ++ first_lines k rest
first_more [] rest k none = ap (λ n. first_lines n rest) (let e : 0 + k ≡ k = omega arith in e)
first_more (line ∷ ls) rest k none =
    let number : length (line ∷ ls) + k ≡ suc (length ls + k) = omega arith in
    ap (λ n. first_lines n (fed (line ∷ ls) ++ rest)) number
    ∙ ap (first_lines (suc (length ls + k))) (append_assoc (line ++ 10 ∷ []) (fed ls) rest ∙ append_assoc line (10 ∷ []) (fed ls ++ rest))
    ∙ first_line_of (length ls + k) line (fed ls ++ rest) none.0
    ∙ ap (λ t. line ++ 10 ∷ t) (first_more ls rest k none.1)
    ∙ sym (append_assoc line (10 ∷ []) (fed ls ++ first_lines k rest)) ∙ sym (append_assoc (line ++ 10 ∷ []) (fed ls) (first_lines k rest))

some_first : (b : ℕ) (bs : List ℕ) → (w : List ℕ) × (first_lines 1 (b ∷ bs) ≡ b ∷ w)
unfolding first_lines
some_first b bs = (first_lines (cond (b == 10) 0 1) bs, refl)

-- Bytes follow a whole text.
followed_at : (bytes : List ℕ) (s : List Response) (b : ℕ) (rest : List ℕ) (line : ℕ) (r : ReadsBlock response_text AreResponsesInRange bytes s (b ∷ rest)) → line ≡ 1 + length r.lines.ls
    → HasTextFault bytes line
followed_at bytes s b rest line r at =
    let ls = r.lines.ls in
    let stands : bytes ≡ fed ls ++ (b ∷ rest) = r.stands ∙ ap (λ t. t ++ (b ∷ rest)) r.lines.are in
    let number : line ≡ length ls + 1 = omega (arith, at) in
    let w = some_first b rest in
    let first : first_lines line bytes ≡ response_text s ++ (b ∷ w.0)
    = ap (λ n. first_lines n bytes) number ∙ ap (first_lines (length ls + 1)) stands ∙ first_more ls (b ∷ rest) 1 r.lines.no_feeds ∙ ap (λ t. fed ls ++ t) w.1
    ∙ ap (λ t. t ++ (b ∷ w.0)) (sym r.lines.are) in
    record {
      none = λ t is. longer t b rest is.in_range (sym r.stands ∙ is.is);
      here = inr (λ p. longer p.0 b (w.0 ++ p.1) p.2.in_range (sym (append_assoc (response_text s) (b ∷ w.0) p.1) ∙ ap (λ t. t ++ p.1) (sym first) ∙ p.2.is));
      least = λ n lt. keep bytes ls (b ∷ rest) r.lines.no_feeds stands (λ never. never s [] r.is (r.lines.are ∙ sym (append-nil (fed ls)))) n (omega (arith, lt, at));
    }
  where
    -- No text is this one and a byte more.
    longer : (t : List Response) (c : ℕ) (more : List ℕ) → AreResponsesInRange t → response_text s ++ (c ∷ more) ≡ response_text t → ⊥
    longer t c more is e =
        let same : t ≡ s = r.only t (c ∷ more) [] is (e ∙ sym (append-nil (response_text t))) in
        let nothing : c ∷ more ≡ [] = append_cancel_left (response_text s) (c ∷ more) [] (e ∙ ap response_text same ∙ sym (append-nil (response_text s))) in
        cc

-- A whole text is that of the responses read.
pub whole_is : (bytes : List ℕ) (s : List Response) (rest : List ℕ) → ReadsBlock response_text AreResponsesInRange bytes s rest → length rest ≤ 0 → IsResponsesText s bytes
whole_is bytes s [] r none = record { in_range = r.is; is = r.stands ∙ append-nil (response_text s) }
whole_is bytes s (b ∷ rest) r none = absurd (omega (arith, none))

pub whole_one : (bytes : List ℕ) (s : List Response) (rest : List ℕ) → ReadsBlock response_text AreResponsesInRange bytes s rest → (t : List Response) → IsResponsesText t bytes → t ≡ s
whole_one bytes s rest r t is = r.only t rest [] is.in_range (sym r.stands ∙ is.is ∙ sym (append-nil (response_text t)))

-- How many bytes are left.
pub left_within : {bytes : List ℕ} {left : ℕ} {missing : Bool} → Stops response_text AreResponsesInRange bytes left missing → left ≤ length bytes
left_within h =
    let total = ap length h.stands ∙ length-append h.front h.tail in
    let size = h.left_is in
    omega (arith, total, size)

-- Bytes that stop being a text have their fault there.
pub stop_cause : (bytes : List ℕ) (left : ℕ) (missing : Bool) → Stops response_text AreResponsesInRange bytes left missing → HasTextFault bytes (1 + line_count (take (length bytes - left) bytes))
stop_cause bytes left true h =
    missing_at bytes left (1 + line_count (take (length bytes - left) bytes)) h (line_behind bytes h.front h.tail h.lines.ls left h.stands h.left_is h.lines.are h.lines.no_feeds)
stop_cause bytes left false h =
    unfit_at bytes left (1 + line_count (take (length bytes - left) bytes)) h (line_behind bytes h.front h.tail h.lines.ls left h.stands h.left_is h.lines.are h.lines.no_feeds)

-- So have bytes that go on behind a whole text.
pub followed_cause : (bytes : List ℕ) (s : List Response) (rest : List ℕ) → ReadsBlock response_text AreResponsesInRange bytes s rest → 0 < length rest
    → HasTextFault bytes (1 + line_count (take (length bytes - length rest) bytes))
followed_cause bytes s [] r some = absurd (omega (arith, some))
followed_cause bytes s (b ∷ rest) r some =
    followed_at bytes s b rest (1 + line_count (take (length bytes - length (b ∷ rest)) bytes)) r
    (line_behind bytes (response_text s) (b ∷ rest) r.lines.ls (length (b ∷ rest)) r.stands refl r.lines.are r.lines.no_feeds)

-- The stop that a call answers with.
pub stop_here : {bytes : List ℕ} {e : Stop} {left : ℕ} {missing : Bool} → IsResponsesStop response_text AreResponsesInRange bytes e → e ≡ stops.Fault left missing
    → Stops response_text AreResponsesInRange bytes left missing
stop_here {left = left} {missing = missing} i is = i.at left missing is
