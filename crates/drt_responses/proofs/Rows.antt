-- Responses one after another, down to the last line.
use Rattle.std.proofs.Common.{◌≡◌, ℕ, ◌<◌, List, [], ◌∷◌, ◌++◌, All, length, map, drop, refl, sym, ap, subst, ◌∙◌, append_assoc, arith, length-append}
use Rattle.std.specs.Prelude.{codes}
use Rattle.std.specs.List.{flat_map, join_with_byte}
use Rattle.std.proofs.Math.Seq.{drop-append_seam}
use Rattle.std.proofs.lemmas.List.{append-nil}
use Rattle.std.proofs.lemmas.List.Elements.{All-append, All-drop, All-head, All-nil, All-push, All-tail}
use Rattle.drt_model.specs.declared.jobs.Release.{Release}
use Rattle.drt_file.specs.trusted.Canonical.{written, written_line}
use Rattle.drt_evidence.specs.Blocks.{ReadsBlock}
use Rattle.drt_evidence.specs.LineForms.{AreItemsCounted, IsAny}
use Rattle.drt_claims.specs.Ranges.{IsInRangeRelease}
use Rattle.drt_evidence.specs.Text.{count_line, release_line, word_line}
use Rattle.drt_evidence.proofs.Blocks.{At, done, next, start, within}
use Rattle.drt_evidence.proofs.Parts.{Two, written_both, written_flat, written_map}
use Rattle.drt_responses.specs.Ranges.{AreResponsesInRange, IsInRangeResponse}
use Rattle.drt_responses.specs.Rows.{IsInRangeHeading, IsInRangeOpening, IsResponsesStop, first_responses_block, first_words, heading_line, releases_block, rows_block}
use Rattle.drt_responses.specs.Text.{response_line, response_lines, response_text}
use Rattle.drt_responses.specs.declared.reading.lines.Heading.{Heading}
use Rattle.drt_responses.specs.declared.reading.lines.Heading.TheVariants.{Opens, Closes}
use Rattle.drt_responses.specs.declared.reading.lines.Opening.{Opening}
use Rattle.drt_responses.specs.declared.reading.text.Stop.{Stop}
use Rattle.drt_responses.specs.declared.response.Response.{Response}
use Rattle.drt_responses.proofs.Stopping.{stop}

-- What the first line of a response says of it.
abbrev pub opening_of : Response → Opening
opening_of r = record { task = r.task; vertex = r.vertex; ticks = r.ticks }

-- The response that a first line and releases say.
abbrev pub response_of : Opening → List Release → Response
response_of o releases = record { task = o.task; vertex = o.vertex; ticks = o.ticks; releases = releases }

-- The next line before responses, what stands behind it, the releases there, and the responses behind these.
abbrev heading_at : List Response → Heading
heading_at [] = Closes
heading_at (r ∷ rs) = Opens (opening_of r)

abbrev releases_at : List Response → List Release
releases_at [] = []
releases_at (r ∷ rs) = r.releases

abbrev others_at : List Response → List Response
others_at [] = []
others_at (r ∷ rs) = rs

abbrev behind_heading : List Response → List ℕ
behind_heading [] = []
behind_heading (r ∷ rs) = releases_block r.releases ++ rows_block rs

-- The responses are in range, and begin with these.
pub record Begins (xs ys : List Response) : Type 0 where
  pub in_range : AreResponsesInRange ys
  pub are : ys ≡ xs ++ drop (length xs) ys

begins : (xs ys zs : List Response) → AreResponsesInRange ys → ys ≡ xs ++ zs → Begins xs ys
begins xs ys zs range e =
    let rest : drop (length xs) ys ≡ zs = ap (drop (length xs)) e ∙ drop-append_seam xs zs in
    record { in_range = range; are = e ∙ ap (λ l. xs ++ l) (sym rest) }

-- Where a text of rows has been read down to a rest: these responses were.
pub record RowsAt (xs : List Response) (bytes rest : List ℕ) : Type 0 where
  pub in_range : AreResponsesInRange xs
  pub here : At rows_block AreResponsesInRange (Begins xs) (λ ys. rows_block (drop (length xs) ys)) bytes rest

-- The same place, where the blocks that begin so are known otherwise.
same_at : {X : Type 0} {T : X → List ℕ} {D E F : X → Type 0} {U V : X → List ℕ} {bytes rest : List ℕ}
    → ((x : X) → E x → F x) → ((x : X) → F x → E x × (U x ≡ V x)) → At T D E U bytes rest → At T D F V bytes rest
same_at {T = T} to from a = record {
  front = a.front;
  stands = a.stands;
  lines = a.lines;
  every = λ x f. let e = from x f in ((a.every x e.0).0, (a.every x e.0).1 ∙ ap (λ t. a.front ++ t) e.1);
  only = λ x s t is e. to x (a.only x s t is e);
}

pub rows_start : (bytes : List ℕ) → RowsAt [] bytes bytes
rows_start bytes = record {
  in_range = All-nil IsInRangeResponse;
  here = same_at (λ ys is. record { in_range = is; are = refl }) (λ ys b. (b.in_range, refl)) (start rows_block AreResponsesInRange bytes);
}

-- A response's own line, and its releases.
response_is : (r : Response) → written (response_lines r) ≡ written_line (response_line r) ++ releases_block r.releases
response_is r = ap (λ t. written_line (response_line r) ++ (written_line (count_line (codes "releases") (length r.releases)) ++ t)) (written_map release_line r.releases)

heading_parts : (zs : List Response) → AreResponsesInRange zs → IsInRangeHeading (heading_at zs) × (rows_block zs ≡ written_line (heading_line (heading_at zs)) ++ behind_heading zs)
heading_parts [] range = (tt, sym (append-nil (written_line (word_line (codes "close")))))
heading_parts (r ∷ rs) range =
    let is = All-head IsInRangeResponse r rs range in
    let between = flat_map (λ s. written (response_lines s)) rs in
    let close = written_line (word_line (codes "close")) in (
      record { task = is.task; vertex = is.vertex; ticks = is.ticks },
      ap (λ t. (t ++ between) ++ close) (response_is r)
          ∙ append_assoc (written_line (response_line r) ++ releases_block r.releases) between close
          ∙ append_assoc (written_line (response_line r)) (releases_block r.releases) (between ++ close),
    )

-- Where the next line was read.
pub record HeadingAt (xs : List Response) (h : Heading) (bytes rest : List ℕ) : Type 0 where
  pub in_range : AreResponsesInRange xs
  pub said : IsInRangeHeading h
  pub here : At rows_block AreResponsesInRange (λ ys. Begins xs ys × (heading_at (drop (length xs) ys) ≡ h)) (λ ys. behind_heading (drop (length xs) ys)) bytes rest

left_in_range : (xs ys : List Response) → Begins xs ys → AreResponsesInRange (drop (length xs) ys)
left_in_range xs ys b = All-drop IsInRangeResponse (length xs) ys b.in_range

pub heading_read : {xs : List Response} {h : Heading} {bytes mid rest : List ℕ} → RowsAt xs bytes mid → ReadsBlock (λ y. written_line (heading_line y)) IsInRangeHeading mid h rest
    → HeadingAt xs h bytes rest
heading_read {xs} a r = record {
  in_range = a.in_range;
  said = r.is;
  here = next (λ ys. heading_at (drop (length xs) ys)) (λ ys. behind_heading (drop (length xs) ys)) (λ ys b. heading_parts (drop (length xs) ys) (left_in_range xs ys b)) a.here r;
}

-- Responses in range that begin with these and go on so.
some_begun : (xs zs : List Response) → AreResponsesInRange xs → AreResponsesInRange zs → Begins xs (xs ++ zs) × (drop (length xs) (xs ++ zs) ≡ zs)
some_begun xs zs a b = (begins xs (xs ++ zs) zs (All-append IsInRangeResponse xs zs a b) refl, drop-append_seam xs zs)

one_response : (o : Opening) (releases : List Release) → IsInRangeOpening o → AreItemsCounted IsInRangeRelease releases → AreResponsesInRange (response_of o releases ∷ [])
one_response o releases is are =
    All-push IsInRangeResponse [] (response_of o releases) (All-nil IsInRangeResponse)
    (record { task = is.task; vertex = is.vertex; ticks = is.ticks; releases = are.0; counted = are.1 })

some_heading : (xs : List Response) → AreResponsesInRange xs → (h : Heading) → IsInRangeHeading h → (ys : List Response) × Begins xs ys × (heading_at (drop (length xs) ys) ≡ h)
some_heading xs range Closes is = let s = some_begun xs [] range (All-nil IsInRangeResponse) in (xs ++ [], s.0, ap heading_at s.1)
some_heading xs range (Opens o) is =
    let r = response_of o [] in
    let s = some_begun xs (r ∷ []) range (one_response o [] is (All-nil IsInRangeRelease, omega arith)) in
    (xs ++ r ∷ [], s.0, ap heading_at s.1)

pub heading_stop : {xs : List Response} {bytes mid : List ℕ} {e : Stop} → RowsAt xs bytes mid
    → IsResponsesStop (λ y. written_line (heading_line y)) IsInRangeHeading mid e → IsResponsesStop rows_block AreResponsesInRange bytes e
heading_stop {xs} a i =
    stop (λ ys. heading_at (drop (length xs) ys)) (λ ys. behind_heading (drop (length xs) ys)) (λ ys b. heading_parts (drop (length xs) ys) (left_in_range xs ys b))
    (some_heading xs a.in_range) a.here i

-- The end is read.
closed : (xs ys : List Response) → Begins xs ys → heading_at (drop (length xs) ys) ≡ Closes → ys ≡ xs
closed xs ys b e = go (drop (length xs) ys) b.are e
  where
    go : (zs : List Response) → ys ≡ xs ++ zs → heading_at zs ≡ Closes → ys ≡ xs
    go [] are is = are ∙ append-nil xs
    go (r ∷ rs) are is = absurd (cc)

pub rows_read : {xs : List Response} {bytes rest : List ℕ} → HeadingAt xs Closes bytes rest → ReadsBlock rows_block AreResponsesInRange bytes xs rest
rows_read {xs} a =
    let s = some_begun xs [] a.in_range (All-nil IsInRangeResponse) in
    let same : xs ++ [] ≡ xs = append-nil xs in
    let left : drop (length xs) xs ≡ [] = ap (drop (length xs)) (sym same) ∙ s.1 in
    done a.here xs (subst (Begins xs) same s.0, ap heading_at left) (ap behind_heading left) (λ ys is. closed xs ys is.0 is.1)

-- The releases of a response are read, or not.
releases_parts : (zs : List Response) (o : Opening) → AreResponsesInRange zs → heading_at zs ≡ Opens o
    → AreItemsCounted IsInRangeRelease (releases_at zs) × (behind_heading zs ≡ releases_block (releases_at zs) ++ rows_block (others_at zs))
releases_parts [] o range e = absurd (cc)
releases_parts (r ∷ rs) o range e = let is = All-head IsInRangeResponse r rs range in ((is.releases, is.counted), refl)

some_releases : (xs : List Response) (o : Opening) → AreResponsesInRange xs → IsInRangeOpening o → (releases : List Release) → AreItemsCounted IsInRangeRelease releases
    → (ys : List Response) × (Begins xs ys × (heading_at (drop (length xs) ys) ≡ Opens o)) × (releases_at (drop (length xs) ys) ≡ releases)
some_releases xs o range is releases are =
    let r = response_of o releases in
    let s = some_begun xs (r ∷ []) range (one_response o releases is are) in
    (xs ++ r ∷ [], (s.0, ap heading_at s.1), ap releases_at s.1)

pub releases_stop : {xs : List Response} {o : Opening} {bytes mid : List ℕ} {e : Stop} → HeadingAt xs (Opens o) bytes mid → IsResponsesStop releases_block (AreItemsCounted IsInRangeRelease) mid e
    → IsResponsesStop rows_block AreResponsesInRange bytes e
releases_stop {xs} {o} a i =
    stop (λ ys. releases_at (drop (length xs) ys)) (λ ys. rows_block (others_at (drop (length xs) ys)))
    (λ ys b. releases_parts (drop (length xs) ys) o (left_in_range xs ys b.0) b.1) (some_releases xs o a.in_range a.said) a.here i

-- One more response.
one_more : (xs zs : List Response) (o : Opening) (releases : List Release) → heading_at zs ≡ Opens o → releases_at zs ≡ releases → zs ≡ response_of o releases ∷ others_at zs
one_more xs [] o releases e f = absurd (cc)
one_more xs (r ∷ rs) o releases e f =
    let same : opening_of r ≡ o = cc in
    ap (λ p. response_of p r.releases ∷ rs) same ∙ ap (λ l. response_of o l ∷ rs) f

pub response_read : {xs : List Response} {o : Opening} {releases : List Release} {bytes mid rest : List ℕ} → HeadingAt xs (Opens o) bytes mid
    → ReadsBlock releases_block (AreItemsCounted IsInRangeRelease) mid releases rest → RowsAt (xs ++ response_of o releases ∷ []) bytes rest
response_read {xs} {o} {releases} a r = record {
  in_range = All-append IsInRangeResponse xs (x ∷ []) a.in_range (one_response o releases a.said r.is);
  here = same_at to from
      (next (λ ys. releases_at (drop (length xs) ys)) (λ ys. rows_block (others_at (drop (length xs) ys)))
      (λ ys b. releases_parts (drop (length xs) ys) o (left_in_range xs ys b.0) b.1) a.here r);
}
  where
    x : Response
    x = response_of o releases

    to : (ys : List Response) → (Begins xs ys × (heading_at (drop (length xs) ys) ≡ Opens o)) × (releases_at (drop (length xs) ys) ≡ releases) → Begins (xs ++ x ∷ []) ys
    to ys is =
        let zs = drop (length xs) ys in
        begins (xs ++ x ∷ []) ys (others_at zs) is.0.0.in_range
        (is.0.0.are ∙ ap (λ l. xs ++ l) (one_more xs zs o releases is.0.1 is.1) ∙ sym (append_assoc xs (x ∷ []) (others_at zs)))

    from : (ys : List Response) → Begins (xs ++ x ∷ []) ys
        → ((Begins xs ys × (heading_at (drop (length xs) ys) ≡ Opens o)) × (releases_at (drop (length xs) ys) ≡ releases))
        × (rows_block (others_at (drop (length xs) ys)) ≡ rows_block (drop (length (xs ++ x ∷ [])) ys))
    from ys b =
        let left = drop (length (xs ++ x ∷ [])) ys in
        let are : ys ≡ xs ++ (x ∷ left) = b.are ∙ append_assoc xs (x ∷ []) left in
        let zs : drop (length xs) ys ≡ x ∷ left = ap (drop (length xs)) are ∙ drop-append_seam xs (x ∷ left) in (
          ((begins xs ys (x ∷ left) b.in_range are, ap heading_at zs), ap releases_at zs),
          ap (λ l. rows_block (others_at l)) zs,
        )

-- A line has a byte.
pub line_within : {X : Type 0} (f : X → List (List ℕ)) {In : X → Type 0} {bytes rest : List ℕ} {x : X} → ReadsBlock (λ y. written_line (f y)) In bytes x rest → length rest < length bytes
unfolding written_line
line_within f {rest = rest} {x = x} r =
    let line = join_with_byte 32 (f x) in
    let total = ap length r.stands in
    let whole = length-append (line ++ 10 ∷ []) rest in
    let own = length-append line (10 ∷ []) in
    omega (arith, total, whole, own)

-- The first line, and the rows below it.
abbrev pub text_parts : Two response_text AreResponsesInRange first_responses_block IsAny rows_block AreResponsesInRange
text_parts = record {
  first = λ rs. tt;
  second = λ rs. rs;
  make = λ u rs. rs;
  first_is = λ rs is. tt;
  second_is = λ rs is. is;
  block_is = λ rs is.
      ap (λ t. written_line first_words ++ t)
      (written_both (flat_map response_lines rs) (word_line (codes "close") ∷ [])
      ∙ ap (λ t. t ++ (written_line (word_line (codes "close")) ++ [])) (written_flat response_lines rs)
      ∙ ap (λ t. flat_map (λ r. written (response_lines r)) rs ++ t) (append-nil (written_line (word_line (codes "close")))));
  made = λ rs is. refl;
  make_is = λ u rs i j. j;
  make_first = λ u rs i j. refl;
  make_second = λ u rs i j. refl;
  other = [];
  other_is = All-nil IsInRangeResponse;
}

-- The heading, as it is called.
pub heading_opens : {xs : List Response} {h k : Heading} {bytes rest : List ℕ} → h ≡ k → HeadingAt xs h bytes rest → HeadingAt xs k bytes rest
heading_opens {xs} {bytes = bytes} {rest = rest} same a = subst (λ g. HeadingAt xs g bytes rest) same a

-- A heading that opens no response closes the text.
pub heading_closes : (h : Heading) → ((o : Opening) → h ≡ Opens o → ⊥) → h ≡ Closes
heading_closes (Opens o) not = absurd (not o refl)
heading_closes Closes not = refl
