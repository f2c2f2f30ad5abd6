-- A text that is read as tasks reads as that set, and a text that reads as a set is read as its tasks.
use Rattle.std.proofs.Common.{inl, inr, ◌≡◌, ◌↔◌, ◌≢◌, ℕ, ◌+◌, ◌≤◌, Bool, true, false, not, List, [], ◌∷◌, ◌++◌}
use Rattle.std.proofs.Common.{length, map, filter, Option, Some, None, Result, Ok, Err, refl, sym, ap, ◌∙◌, subst, arith, cond, ◌&&◌}
use Rattle.std.specs.Prelude.{bytes_eq, ◌==◌}
use Rattle.std.specs.List.{AllByRecursion, AllZip, flat_map}
use Rattle.std.proofs.lemmas.Bool.{cases_Bool}
use Rattle.std.proofs.lemmas.List.{length-map}
use Rattle.std.proofs.lemmas.List.Elements.{All-from_recursion, recursion_from_All}
use Rattle.std.proofs.lemmas.Slice.Eq.{bytes_eq-Decides}
use Rattle.drt_file.specs.trusted.Cutting.{lines, fields}
use Rattle.drt_file.specs.trusted.Line.{is_skipped, said}
use Rattle.drt_file.proofs.Meanings.{both}
use Rattle.drt_file.proofs.Snoc.{every_unmap, pairs_all}
use Rattle.drt_classic.specs.declared.classic.Classic.{Classic}
use Rattle.drt_classic.specs.declared.state.Draft.{Draft}
use Rattle.drt_classic.specs.declared.state.State.{State}
use Rattle.drt_classic.specs.declared.state.Line.{Line}
use Rattle.drt_classic.specs.declared.fault.ClassicFault.{ClassicFault}
use Rattle.drt_classic.specs.declared.fault.ClassicError.{ClassicError}
use Rattle.drt_classic.specs.declared.fault.ClassicError.TheVariants as errors
use Rattle.drt_classic.specs.Classics.{name_of, frames_of}
use Rattle.drt_classic.specs.ClassicLimits.{IsFrame, IsClassic, IsClassicSet}
use Rattle.drt_classic.specs.ClassicWords.{classic_word, head_line}
use Rattle.drt_classic.specs.ClassicReading.{SaysClassic, lines_of_classic, lines_of, ReadsClassic, IsClassicCauseOf}
use Rattle.drt_classic.specs.ClassicLaws.{FaultlessClassicTextsRead, ClassicTextsReadAsOneSet}
use Rattle.drt_file.specs.internal.Steps.{◌>>=◌}
use Rattle.drt_classic.specs.ClassicFaults.{with_last_classic, task_of_draft, classic_opening, is_head, unless, classic_line_step, classic_step, classic_steps, has_no_frame, first_without_frame, classic_closing, classic_finish, read_classic_text, classic_fault_of}
use Rattle.drt_classic.specs.Gives.{FailsClassic}
use Rattle.drt_classic.proofs.Runs.{kept, tasks_in, Ran, ran, Leads, Led, led}
use Rattle.drt_classic.proofs.Sound.{IsDraft, Kept, ending, opening_kept, runs_kept}
use Rattle.drt_classic.proofs.Complete.{set_leads}

-- The first line.

head_is : (words : List (List ℕ)) → is_head words ≡ true → words ≡ head_line
unfolding is_head
head_is [] e = absurd (cc)
head_is (a ∷ []) e = absurd (cc)
head_is (a ∷ b ∷ c ∷ words) e = absurd (cc)
head_is (word ∷ version ∷ []) e =
    let t = both (bytes_eq word classic_word) (bytes_eq version (49 ∷ [])) e in
    let first : word ≡ classic_word = (bytes_eq-Decides word classic_word).0 t.0 in
    let second : version ≡ 49 ∷ [] = (bytes_eq-Decides version (49 ∷ [])).0 t.1 in
    rw (first, second) refl

is_head_line : is_head head_line ≡ true
unfolding is_head
is_head_line = refl

-- Below the first line, which is `drt-classic 1`, steps without a fault go on from nothing.
record Headed (ls : List (List ℕ)) (m : ℕ) (end : State) : Type 0 where
  k : ℕ
  rest : List (List ℕ)
  spelled : kept ls ≡ head_line ∷ kept rest
  goes : classic_steps k (Some classic_opening) rest ≡ Ok (m, Some end)

ok_same : (x y : ℕ × Option State) → ◌≡◌ {A = Result (ℕ × Option State) ClassicFault} (Ok x) (Ok y) → x ≡ y
ok_same x y e = cc

headed : (ls : List (List ℕ)) (n m : ℕ) (end : State) → classic_steps n None ls ≡ Ok (m, Some end) → Headed ls m end
unfolding classic_steps classic_step classic_line_step unless
headed [] n m end e = let no : None ≡ Some end = ap (λ (x : ℕ × Option State). x.1) (ok_same (n, None) (m, Some end) e) in absurd (cc)
headed (line ∷ ls) n m end e = elim (cases_Bool (is_skipped (fields line))) [
  | inl skipped ↦
      let go : classic_steps (n + 1) None ls ≡ Ok (m, Some end) = rw skipped at e in
      let h = headed ls (n + 1) m end go in
      record { k = h.k; rest = h.rest; spelled = rw skipped h.spelled; goes = h.goes }
  | inr not_skipped ↦ elim (cases_Bool (is_head (fields line))) [
    | inl head ↦
        let go : classic_steps (n + 1) (Some classic_opening) ls ≡ Ok (m, Some end) = rw (not_skipped, head) at e in
        record { k = n + 1; rest = ls; spelled = rw not_skipped (ap (λ w. w ∷ kept ls) (head_is (fields line) head)); goes = go }
    | inr other ↦ (let no : ◌≡◌ {A = Result (ℕ × Option State) ClassicFault} (Err (record { line = n; code = 31 })) (Ok (m, Some end)) = rw (not_skipped, other) at e in absurd (cc))
  ]
]

record HeadedAgain (n : ℕ) (ls : List (List ℕ)) (below : List (List (List ℕ))) : Type 0 where
  k : ℕ
  rest : List (List ℕ)
  are : kept rest ≡ below
  goes : classic_steps n None ls ≡ classic_steps k (Some classic_opening) rest

headed_again : (ls : List (List ℕ)) (n : ℕ) (below : List (List (List ℕ))) → kept ls ≡ head_line ∷ below → HeadedAgain n ls below
unfolding classic_steps classic_step classic_line_step unless
headed_again [] n below e = absurd (cc)
headed_again (line ∷ ls) n below e = elim (cases_Bool (is_skipped (fields line))) [
  | inl skipped ↦
      let go : kept ls ≡ head_line ∷ below = rw skipped at e in
      let h = headed_again ls (n + 1) below go in
      record { k = h.k; rest = h.rest; are = h.are; goes = rw skipped h.goes }
  | inr not_skipped ↦
      let go : fields line ∷ kept ls ≡ head_line ∷ below = rw not_skipped at e in
      let first : fields line ≡ head_line = cc in
      let others : kept ls ≡ below = cc in
      let head : is_head (fields line) ≡ true = ap is_head first ∙ is_head_line in
      record { k = n + 1; rest = ls; are = others; goes = rw (not_skipped, head) refl }
]

-- The end of a text.

record Closed (ds : List Draft) (ended : Bool) (tasks : List Classic) : Type 0 where
  are : map task_of_draft ds ≡ tasks
  at_end : ended ≡ true
  has_task : 1 ≤ length ds
  has_frames : AllByRecursion (λ d. 1 ≤ length (frames_of d.task)) ds

has_one : (n : ℕ) → (n == 0) ≡ false → 1 ≤ n
has_one n e = grind (arith, e)

not_none : (n : ℕ) → 1 ≤ n → (n == 0) ≡ false
not_none n le = grind (arith, le)

framed : (ds : List Draft) → first_without_frame ds ≡ None → AllByRecursion (λ d. 1 ≤ length (frames_of d.task)) ds
unfolding first_without_frame has_no_frame
framed [] e = tt
framed (d ∷ ds) e = go (framed ds) (length (frames_of d.task) == 0) refl e
  where
    go : (first_without_frame ds ≡ None → AllByRecursion (λ d. 1 ≤ length (frames_of d.task)) ds) → (b : Bool) → (length (frames_of d.task) == 0) ≡ b
        → cond b (Some d.line) (first_without_frame ds) ≡ None
        → AllByRecursion (λ d. 1 ≤ length (frames_of d.task)) (d ∷ ds)
    go later false at h = (has_one (length (frames_of d.task)) at, later h)
    go later true at h = absurd (cc)

framed_again : (ds : List Draft) → AllByRecursion (λ d. 1 ≤ length (frames_of d.task)) ds → first_without_frame ds ≡ None
unfolding first_without_frame has_no_frame
framed_again [] are = refl
framed_again (d ∷ ds) are = rw (not_none (length (frames_of d.task)) are.0) (framed_again ds are.1)

closed : (n : ℕ) (ds : List Draft) (ended : Bool) (tasks : List Classic) → classic_closing n ds ended ≡ Ok tasks → Closed ds ended tasks
unfolding classic_closing
closed n ds ended tasks e = go (length ds == 0) refl (first_without_frame ds) refl ended refl e
  where
    go : (z : Bool) → (length ds == 0) ≡ z → (v : Option ℕ) → first_without_frame ds ≡ v → (b : Bool) → ended ≡ b
        → ◌≡◌ {A = Result (List Classic) ClassicFault} (cond z (Err (record { line = n; code = 43 }))
        (elim v [ Some line ↦ Err (record { line = line; code = 44 }) | None ↦ cond b (Ok (map task_of_draft ds)) (Err (record { line = n; code = 45 })) ])) (Ok tasks)
        → Closed ds ended tasks
    go true isz v isv b isb h = absurd (cc)
    go false isz (Some l) isv b isb h = absurd (cc)
    go false isz None isv false isb h = absurd (cc)
    go false isz None isv true isb h = record { are = cc; at_end = isb; has_task = has_one (length ds) isz; has_frames = framed ds isv }

closed_again : (n : ℕ) (ds : List Draft) (ended : Bool) → ended ≡ true → 1 ≤ length ds → AllByRecursion (λ d. 1 ≤ length (frames_of d.task)) ds → classic_closing n ds ended ≡ Ok (map task_of_draft ds)
unfolding classic_closing
closed_again n ds ended at_end has frames =
    let some = not_none (length ds) has in
    let none = framed_again ds frames in
    rw (some, none, at_end) refl

-- What a text that is read says.

classic_is : (ds : List Draft) → AllByRecursion IsDraft (map task_of_draft ds) → AllByRecursion (λ d. 1 ≤ length (frames_of d.task)) ds → AllByRecursion IsClassic (map task_of_draft ds)
classic_is [] are has = tt
classic_is (d ∷ ds) are has = (
  record { name = are.0.name; has_frame = has.0; few_frames = are.0.few; frames = All-from_recursion IsFrame (frames_of d.task) are.0.frames },
  classic_is ds are.1 has.1,
)

state_says : (bytes : List ℕ) (m : ℕ) (end : State) (tasks : List Classic) → classic_steps 1 None (lines bytes) ≡ Ok (m, Some end)
    → classic_closing m (with_last_classic end.closed end.last) end.ended ≡ Ok tasks → ReadsClassic bytes tasks
state_says bytes m end tasks go close =
    let h = headed (lines bytes) 1 m end go in
    let r = ran h.rest h.k m classic_opening (Some end) h.goes in
    let same : r.end ≡ end = (let is = r.is in cc) in
    let ds = with_last_classic end.closed end.last in
    let c = closed m ds end.ended tasks close in
    let kept_end : Kept r.end r.said = runs_kept classic_opening [] r.said r.end opening_kept r.runs in
    let k : Kept end r.said = subst (λ t. Kept t r.said) same kept_end in
    let said_are : lines_of (tasks_in end) ≡ r.said = ap (λ b. flat_map lines_of_classic (tasks_in end) ++ ending b) (sym c.at_end) ∙ k.lines in
    subst (ReadsClassic bytes) c.are (record {
      limits = record {
        has_task = (let count = length-map ds task_of_draft in let has = c.has_task in omega (arith, count, has));
        few_tasks = k.few;
        each = All-from_recursion IsClassic (map task_of_draft ds) (classic_is ds k.each c.has_frames);
        distinct_names = pairs_all (λ s t. name_of s ≢ name_of t) (map task_of_draft ds) k.names;
      };
      below = kept h.rest;
      spelled = h.spelled;
      lines = subst (AllZip SaysClassic (kept h.rest)) (sym said_are) r.says;
    })

pub read_says : (bytes : List ℕ) (tasks : List Classic) → read_classic_text bytes ≡ Ok tasks → ReadsClassic bytes tasks
unfolding read_classic_text classic_finish
read_says bytes tasks e = go (classic_steps 1 None (lines bytes)) refl e
  where
    go : (r : Result (ℕ × Option State) ClassicFault) → classic_steps 1 None (lines bytes) ≡ r → (r >>= λ x. classic_finish x.0 x.1) ≡ Ok tasks → ReadsClassic bytes tasks
    go (Err f) at h = absurd (cc)
    go (Ok (m, None)) at h = absurd (cc)
    go (Ok (m, Some end)) at h = state_says bytes m end tasks at h

-- A text that reads as a set is read so.

draft_frames : (ds : List Draft) → AllByRecursion IsClassic (map task_of_draft ds) → AllByRecursion (λ d. 1 ≤ length (frames_of d.task)) ds
draft_frames [] are = tt
draft_frames (d ∷ ds) are = (are.0.has_frame, draft_frames ds are.1)

pub reads_again : (bytes : List ℕ) (tasks : List Classic) → ReadsClassic bytes tasks → read_classic_text bytes ≡ Ok tasks
unfolding read_classic_text classic_finish
reads_again bytes tasks reads =
    let h = headed_again (lines bytes) 1 reads.below reads.spelled in
    let says : AllZip SaysClassic (kept h.rest) (lines_of tasks) = subst (λ l. AllZip SaysClassic l (lines_of tasks)) (sym h.are) reads.lines in
    let l = led tasks h.rest (lines_of tasks) h.k classic_opening says (set_leads tasks reads.limits) in
    let go : classic_steps 1 None (lines bytes) ≡ Ok (l.n, Some l.end) = h.goes ∙ l.is in
    let ds = with_last_classic l.end.closed l.end.last in
    let count : length (map task_of_draft ds) ≡ length ds = length-map ds task_of_draft in
    let many : length (map task_of_draft ds) ≡ length tasks = ap length l.tasks_are in
    let has = reads.limits.has_task in
    let each : AllByRecursion IsClassic (map task_of_draft ds) = subst (AllByRecursion IsClassic) (sym l.tasks_are) (recursion_from_All IsClassic tasks reads.limits.each) in
    let close : classic_closing l.n ds l.end.ended ≡ Ok (map task_of_draft ds) = closed_again l.n ds l.end.ended l.at_end (omega (arith, count, many, has)) (draft_frames ds each) in
    rw go (close ∙ ap (λ (ts : List Classic). Ok ts) l.tasks_are)

-- What a reading says of a text.

pub not_read : (bytes : List ℕ) (f : ClassicFault) → read_classic_text bytes ≡ Err f → (tasks : List Classic) → ReadsClassic bytes tasks → ⊥
not_read bytes f e tasks reads = let ok = reads_again bytes tasks reads in absurd (cc)

abbrev told : Result (List Classic) ClassicFault → Option (ℕ × ℕ)
told (Ok tasks) = None
told (Err f) = Some (f.line, f.code)

fault_told : (bytes : List ℕ) → classic_fault_of bytes ≡ told (read_classic_text bytes)
unfolding classic_fault_of
fault_told bytes = go (read_classic_text bytes)
  where
    go : (r : Result (List Classic) ClassicFault) → ◌≡◌ {A = Option (ℕ × ℕ)} (elim r [ Ok tasks ↦ None | Err f ↦ Some (f.line, f.code) ]) (told r)
    go (Ok tasks) = refl
    go (Err f) = refl

fault_is : (bytes : List ℕ) (f : ClassicFault) → read_classic_text bytes ≡ Err f → classic_fault_of bytes ≡ Some (f.line, f.code)
fault_is bytes f e = fault_told bytes ∙ ap told e

no_fault : (bytes : List ℕ) (tasks : List Classic) → read_classic_text bytes ≡ Ok tasks → classic_fault_of bytes ≡ None
no_fault bytes tasks e = fault_told bytes ∙ ap told e

pub cause_of : (bytes : List ℕ) (e : ClassicError) → FailsClassic e (read_classic_text bytes) → IsClassicCauseOf bytes e
cause_of bytes errors.Memory fails = tt
cause_of bytes (errors.Fault f) fails = record { first = fault_is bytes f fails; reads_as_none = not_read bytes f fails }

-- A text reads as one set at most.
pub one_set : ClassicTextsReadAsOneSet
one_set bytes s t rs rt =
    let a = reads_again bytes s rs in
    let b = reads_again bytes t rt in
    cc

-- A text has no fault exactly where it reads as some set.
pub faultless : FaultlessClassicTextsRead
faultless bytes = (λ e. read (read_classic_text bytes) refl e, λ h. no_fault bytes h.0 (reads_again bytes h.0 h.1))
  where
    read : (r : Result (List Classic) ClassicFault) → read_classic_text bytes ≡ r → classic_fault_of bytes ≡ None → (tasks : List Classic) × ReadsClassic bytes tasks
    read (Ok tasks) at e = (tasks, read_says bytes tasks at)
    read (Err f) at e = (let has = fault_is bytes f at in absurd (cc))
