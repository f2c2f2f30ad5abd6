-- A whole dossier, and where bytes stop being the text of one.
use Rattle.std.proofs.Common.{◌≡◌, ℕ, suc, ◌+◌, ◌-◌, ◌≤◌, ◌<◌, inl, inr, Bool, true, false, ◌==◌, cond, List, [], ◌∷◌, ◌++◌, length, take, refl, sym, ap, subst, ◌∙◌, append_assoc, arith, length-append}
use Rattle.std.specs.Prelude.{count_by}
use Rattle.std.specs.List.{AllByRecursion}
use Rattle.std.proofs.lemmas.List.Sums.{count_by-le-length, sum_by-cons}
use Rattle.std.proofs.lemmas.List.{append-nil, append_cancel_left}
use Rattle.std.proofs.Math.Seq.{take-append_seam}
use Rattle.drt_model.specs.Contents.{Contents}
use Rattle.drt_file.specs.trusted.Canonical.{canonical, written}
use Rattle.drt_file.specs.trusted.CanonicalPrefix.{first_lines, line_count}
use Rattle.drt_file.specs.trusted.Cutting.{fed, HasNoFeed}
use Rattle.drt_file.proofs.Feeds.{count_fed, first_before, first_fed, first_line_of, no_lines}
use Rattle.drt_evidence.specs.Blocks.{IsSet, IsStop, ReadsBlock, RefusesLine, Stops}
use Rattle.drt_evidence.specs.LineForms.{IsAny}
use Rattle.drt_claims.specs.Ranges.{IsEvidenceInRange}
use Rattle.drt_evidence.specs.Reading.{IsDossierFaultyBy, HasDossierFault, HoldsDossier, IsDossierCause, IsDossierText}
use Rattle.drt_claims.specs.Statement.{IsStated, Statement}
use Rattle.drt_evidence.specs.Text.{evidence_lines, head_lines, text}
use Rattle.drt_claims.specs.declared.evidence.Evidence.{Evidence}
use Rattle.drt_claims.specs.declared.evidence.Evidence.TheVariants.{Undecided}
use Rattle.drt_evidence.specs.declared.fault.DossierError.TheVariants as errors
use Rattle.drt_evidence.specs.declared.reading.text.Stop.{Stop}
use Rattle.drt_evidence.specs.declared.reading.text.Stop.TheVariants as stops
use Rattle.drt_evidence.proofs.Parts.{Two}
use Rattle.drt_evidence.proofs.Sets.{line_more, some_set, some_set_is}

-- A set, and the evidence below it.
abbrev pub Below : Type 0
Below = Contents × Evidence

abbrev pub below_block : Below → List ℕ
below_block b = canonical b.0 ++ written (evidence_lines b.1)

abbrev pub IsBelow : Below → Type 0
IsBelow b = IsSet b.0 × IsEvidenceInRange b.1

abbrev pub below_parts : Two below_block IsBelow canonical IsSet (λ e. written (evidence_lines e)) IsEvidenceInRange
below_parts = record {
  first = λ b. b.0;
  second = λ b. b.1;
  make = λ v w. (v, w);
  first_is = λ b is. is.0;
  second_is = λ b is. is.1;
  block_is = λ b is. refl;
  made = λ b is. refl;
  make_is = λ v w i j. (i, j);
  make_first = λ v w i j. refl;
  make_second = λ v w i j. refl;
  other = Undecided;
  other_is = tt;
}

pub text_is : (s : Statement) → text s ≡ written (head_lines s.policy) ++ below_block (s.set, s.evidence)
unfolding text
text_is s = refl

abbrev pub dossier_parts : Two text IsStated (λ p. written (head_lines p)) IsAny below_block IsBelow
dossier_parts = record {
  first = λ s. s.policy;
  second = λ s. (s.set, s.evidence);
  make = λ p b. record { policy = p; set = b.0; evidence = b.1 };
  first_is = λ s is. tt;
  second_is = λ s is. is;
  block_is = λ s is. text_is s;
  made = λ s is. refl;
  make_is = λ p b i j. j;
  make_first = λ p b i j. refl;
  make_second = λ p b i j. refl;
  other = (some_set, Undecided);
  other_is = (some_set_is, tt);
}

-- The lines above the last so many bytes.
at_front : (bytes front tail : List ℕ) (left : ℕ) → bytes ≡ front ++ tail → length tail ≡ left → take (length bytes - left) bytes ≡ front
at_front bytes front tail left are size =
    let total = ap length are ∙ length-append front tail in
    let count : length bytes - left ≡ length front = omega (arith, total, size) in
    ap (λ n. take n bytes) count ∙ ap (take (length front)) are ∙ take-append_seam front tail

only_lines : (ls : List (List ℕ)) → AllByRecursion HasNoFeed ls → line_count (fed ls) ≡ length ls
only_lines ls none =
    let count = count_fed ls [] none in
    let zero_lines = no_lines [] tt in
    ap line_count (sym (append-nil (fed ls))) ∙ (omega (arith, count, zero_lines))

-- The number of the line behind these.
line_behind : (bytes front tail : List ℕ) (ls : List (List ℕ)) (left : ℕ) → bytes ≡ front ++ tail → length tail ≡ left → front ≡ fed ls → AllByRecursion HasNoFeed ls
    → 1 + line_count (take (length bytes - left) bytes) ≡ 1 + length ls
line_behind bytes front tail ls left are size lines none = ap (λ n. 1 + n) (ap line_count (at_front bytes front tail left are size ∙ lines) ∙ only_lines ls none)

-- Fewer lines than begin a text don't break.
keep : (bytes : List ℕ) (ls : List (List ℕ)) (rest : List ℕ) → AllByRecursion HasNoFeed ls → bytes ≡ fed ls ++ rest
    → (((s : Statement) (after : List ℕ) → IsStated s → text s ≡ fed ls ++ after → ⊥) → ⊥) → (n : ℕ) → n ≤ length ls → IsDossierFaultyBy bytes n → ⊥
keep bytes ls rest none are begun n le (inl (few, hold)) =
    let count = ap line_count are ∙ count_fed ls rest none in
    omega (arith, count, few, le)
keep bytes ls rest none are begun n le (inr broken) =
    let r = first_before n (length ls) bytes le in
    let front : first_lines n bytes ++ r.0 ≡ fed ls = r.1 ∙ ap (first_lines (length ls)) are ∙ first_fed ls rest none in
    begun (λ s after is e. broken (s, r.0 ++ after, record { stated = is; is = sym (append_assoc (first_lines n bytes) r.0 after) ∙ ap (λ t. t ++ after) front ∙ sym e }))

-- Bytes that begin with no text are no text, and hold none.
no_text : (bytes : List ℕ) → ((s : Statement) (t : List ℕ) → IsStated s → bytes ≡ text s ++ t → ⊥) → (s : Statement) → IsDossierText s bytes → ⊥
no_text bytes none s is = none s [] is.stated (is.is ∙ sym (append-nil (text s)))

none_held : (bytes : List ℕ) → ((s : Statement) (t : List ℕ) → IsStated s → bytes ≡ text s ++ t → ⊥) → HoldsDossier bytes → ⊥
none_held bytes none (s, front, rest, is, e) = none s rest is.stated (e ∙ ap (λ t. t ++ rest) is.is)

pub stopped_none : {bytes : List ℕ} {left : ℕ} {missing : Bool} → Stops text IsStated bytes left missing → (s : Statement) → IsDossierText s bytes → ⊥
stopped_none {bytes} h = no_text bytes h.none

-- The next line is missing.
missing_at : (bytes : List ℕ) (left : ℕ) (line : ℕ) (h : Stops text IsStated bytes left true) → line ≡ 1 + length h.lines.ls → HasDossierFault bytes line 2
missing_at bytes left line h at =
    let stands : bytes ≡ fed h.lines.ls ++ h.tail = h.stands ∙ ap (λ t. t ++ h.tail) h.lines.are in
    let count = ap line_count stands ∙ count_fed h.lines.ls h.tail h.lines.no_feeds in
    let zero_lines = no_lines h.tail (h.is_missing refl) in
    let few : line_count bytes < line = omega (arith, count, zero_lines, at) in
    record {
      here = inl (few, none_held bytes h.none);
      least = λ n lt. keep bytes h.lines.ls h.tail h.lines.no_feeds stands (λ never. h.begins (λ s after is e. never s after is (e ∙ ap (λ t. t ++ after) h.lines.are))) n (omega (arith, lt, at));
      is_code = inr (inl (refl, few, none_held bytes h.none));
    }

-- The next line can't stand there.
unfit_at : (bytes : List ℕ) (left : ℕ) (line : ℕ) (h : Stops text IsStated bytes left false) → line ≡ 1 + length h.lines.ls → HasDossierFault bytes line 1
unfit_at bytes left line h at =
    let ls = h.lines.ls in
    let r : RefusesLine text IsStated h.front h.tail = h.is_there refl in
    let stands : bytes ≡ fed ls ++ h.tail = h.stands ∙ ap (λ t. t ++ h.tail) h.lines.are in
    let whole : bytes ≡ fed ls ++ (r.line ++ 10 ∷ r.others) = stands ∙ ap (λ t. fed ls ++ t) r.cut in
    let number : line ≡ length ls + 1 = omega (arith, at) in
    let first : first_lines line bytes ≡ h.front ++ (r.line ++ 10 ∷ [])
    = ap (λ n. first_lines n bytes) number ∙ line_more bytes ls r.line r.others h.lines.no_feeds r.no_feed whole ∙ ap (λ t. t ++ (r.line ++ 10 ∷ [])) (sym h.lines.are) in
    let count = ap line_count stands ∙ count_fed ls h.tail h.lines.no_feeds in
    let one_more = ap line_count r.cut ∙ ap line_count (sym (append_assoc r.line (10 ∷ []) r.others))
    ∙ ap line_count (ap (λ t. t ++ r.others) (sym (append-nil (r.line ++ 10 ∷ [])))) ∙ count_fed (r.line ∷ []) r.others (r.no_feed, tt) in
    record {
      here = inr (λ p. r.refused p.0 p.1 [] p.2.stated (ap (λ t. t ++ p.1) (sym first) ∙ p.2.is ∙ sym (append-nil (text p.0))));
      least = λ n lt. keep bytes ls h.tail h.lines.no_feeds stands (λ never. h.begins (λ s after is e. never s after is (e ∙ ap (λ t. t ++ after) h.lines.are))) n (omega (arith, lt, at));
      is_code = inr (inr (refl, omega (arith, count, one_more, at), none_held bytes h.none));
    }

-- Lines, and the first line behind them.
first_more : (ls : List (List ℕ)) (rest : List ℕ) (k : ℕ) → AllByRecursion HasNoFeed ls → first_lines (length ls + k) (fed ls ++ rest) ≡ fed ls ++ first_lines k rest
first_more [] rest k none = ap (λ n. first_lines n rest) (let e : 0 + k ≡ k = omega arith in e)
first_more (line ∷ ls) rest k none =
    let number : length (line ∷ ls) + k ≡ suc (length ls + k) = omega arith in
    ap (λ n. first_lines n (fed (line ∷ ls) ++ rest)) number
    ∙ ap (first_lines (suc (length ls + k))) (append_assoc (line ++ 10 ∷ []) (fed ls) rest ∙ append_assoc line (10 ∷ []) (fed ls ++ rest))
    ∙ first_line_of (length ls + k) line (fed ls ++ rest) none.0
    ∙ ap (λ t. line ++ 10 ∷ t) (first_more ls rest k none.1)
    ∙ sym (append_assoc line (10 ∷ []) (fed ls ++ first_lines k rest)) ∙ sym (append_assoc (line ++ 10 ∷ []) (fed ls) (first_lines k rest))

some_first : (b : ℕ) (bs : List ℕ) → (w : List ℕ) × (first_lines 1 (b ∷ bs) ≡ b ∷ w)
unfolding first_lines
some_first b bs = (first_lines (cond (b == 10) 0 1) bs, refl)

-- Bytes follow a whole dossier.
followed_at : (bytes : List ℕ) (s : Statement) (b : ℕ) (rest : List ℕ) (line : ℕ) (r : ReadsBlock text IsStated bytes s (b ∷ rest)) → line ≡ 1 + length r.lines.ls
    → ((t : Statement) → IsDossierText t bytes → ⊥) × HasDossierFault bytes line 3
followed_at bytes s b rest line r at =
    let ls = r.lines.ls in
    let stands : bytes ≡ fed ls ++ (b ∷ rest) = r.stands ∙ ap (λ t. t ++ (b ∷ rest)) r.lines.are in
    let number : line ≡ length ls + 1 = omega (arith, at) in
    let w = some_first b rest in
    let first : first_lines line bytes ≡ text s ++ (b ∷ w.0)
    = ap (λ n. first_lines n bytes) number ∙ ap (first_lines (length ls + 1)) stands ∙ first_more ls (b ∷ rest) 1 r.lines.no_feeds ∙ ap (λ t. fed ls ++ t) w.1
    ∙ ap (λ t. t ++ (b ∷ w.0)) (sym r.lines.are) in (
      λ t is. longer t b rest is.stated (sym r.stands ∙ is.is),
      record {
        here = inr (λ p. longer p.0 b (w.0 ++ p.1) p.2.stated (sym (append_assoc (text s) (b ∷ w.0) p.1) ∙ ap (λ t. t ++ p.1) (sym first) ∙ p.2.is));
        least = λ n lt. keep bytes ls (b ∷ rest) r.lines.no_feeds stands (λ never. never s [] r.is (r.lines.are ∙ sym (append-nil (fed ls)))) n (omega (arith, lt, at));
        is_code = inl (refl, (s, text s, b ∷ rest, record { stated = r.is; is = refl }, r.stands));
      },
    )
  where
    -- No text is this one and a byte more.
    longer : (t : Statement) (c : ℕ) (more : List ℕ) → IsStated t → text s ++ (c ∷ more) ≡ text t → ⊥
    longer t c more is e =
        let same : t ≡ s = r.only t (c ∷ more) [] is (e ∙ sym (append-nil (text t))) in
        let nothing : c ∷ more ≡ [] = append_cancel_left (text s) (c ∷ more) [] (e ∙ ap text same ∙ sym (append-nil (text s))) in
        cc

pub missing_cause : (bytes : List ℕ) (left : ℕ) → Stops text IsStated bytes left true
    → IsDossierCause bytes (errors.Fault (record { line = 1 + line_count (take (length bytes - left) bytes); code = 2 }))
missing_cause bytes left h = (
  stopped_none h,
  missing_at bytes left (1 + line_count (take (length bytes - left) bytes)) h (line_behind bytes h.front h.tail h.lines.ls left h.stands h.left_is h.lines.are h.lines.no_feeds),
)

pub unfit_cause : (bytes : List ℕ) (left : ℕ) → Stops text IsStated bytes left false
    → IsDossierCause bytes (errors.Fault (record { line = 1 + line_count (take (length bytes - left) bytes); code = 1 }))
unfit_cause bytes left h = (
  stopped_none h,
  unfit_at bytes left (1 + line_count (take (length bytes - left) bytes)) h (line_behind bytes h.front h.tail h.lines.ls left h.stands h.left_is h.lines.are h.lines.no_feeds),
)

pub followed_cause : (bytes : List ℕ) (s : Statement) (rest : List ℕ) → ReadsBlock text IsStated bytes s rest → 0 < length rest
    → IsDossierCause bytes (errors.Fault (record { line = 1 + line_count (take (length bytes - length rest) bytes); code = 3 }))
followed_cause bytes s [] r some = absurd (omega (arith, some))
followed_cause bytes s (b ∷ rest) r some =
    followed_at bytes s b rest (1 + line_count (take (length bytes - length (b ∷ rest)) bytes)) r
    (line_behind bytes (text s) (b ∷ rest) r.lines.ls (length (b ∷ rest)) r.stands refl r.lines.are r.lines.no_feeds)

-- A whole text is that of one statement.
pub whole_text : (bytes : List ℕ) (s : Statement) (rest : List ℕ) → ReadsBlock text IsStated bytes s rest → length rest ≤ 0 → bytes ≡ text s
whole_text bytes s [] r none = r.stands ∙ append-nil (text s)
whole_text bytes s (b ∷ rest) r none = absurd (omega (arith, none))

pub whole_one : (bytes : List ℕ) (s : Statement) (rest : List ℕ) → ReadsBlock text IsStated bytes s rest → (t : Statement) → IsDossierText t bytes → t ≡ s
whole_one bytes s rest r t is = r.only t rest [] is.stated (sym r.stands ∙ is.is ∙ sym (append-nil (text t)))

-- How many bytes are left.
pub left_within : {bytes : List ℕ} {left : ℕ} {missing : Bool} → Stops text IsStated bytes left missing → left ≤ length bytes
left_within h =
    let total = ap length h.stands ∙ length-append h.front h.tail in
    let size = h.left_is in
    omega (arith, total, size)

-- How many LFs there are.
feeds_are : (xs : List ℕ) → count_by (λ b. b == 10) xs ≡ line_count xs
unfolding line_count
feeds_are [] = refl
feeds_are (b ∷ xs) = sum_by-cons (λ x. cond (x == 10) 1 0) b xs ∙ ap (λ n. cond (b == 10) 1 0 + n) (feeds_are xs)

pub feeds_above : (bytes : List ℕ) (n : ℕ) → n ≡ count_by (λ b. b == 10) bytes → (n ≡ line_count bytes) × (n ≤ length bytes)
feeds_above bytes n is = (is ∙ feeds_are bytes, let le = count_by-le-length (λ b. b == 10) bytes in omega (arith, is, le))

-- The stop that a call answers with.
pub stop_here : {bytes : List ℕ} {e : Stop} {left : ℕ} {missing told : Bool} → IsStop text IsStated bytes e → e ≡ stops.Fault left missing → missing ≡ told → Stops text IsStated bytes left told
stop_here {bytes} {e} {left} {missing} {told} i is same = subst (Stops text IsStated bytes left) same (i.at left missing is)

-- The statement that a text gives.
pub gives_none : {bytes : List ℕ} {left : ℕ} {missing : Bool} → Stops text IsStated bytes left missing → (P : Type 0) → (s : Statement) → IsDossierText s bytes → P
gives_none h P s is = absurd (stopped_none h s is)
