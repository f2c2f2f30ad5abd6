-- What lines that fit leave: the tasks keep the limits, and the lines are theirs.
use Rattle.std.proofs.Common.{◌≡◌, ◌≢◌, ℕ, ◌+◌, ◌<◌, ◌≤◌, Bool, true, false, if◌then◌else◌, List, [], ◌∷◌, ◌++◌}
use Rattle.std.proofs.Common.{length, map, Option, Some, None, refl, sym, ap, ◌∙◌, subst, arith, append_assoc, length-append, cond}
use Rattle.std.specs.Prelude.{nat_le, option_map}
use Rattle.std.specs.List.{AllByRecursion, flat_map}
use Rattle.std.proofs.lemmas.List.{map_push, append-nil}
use Rattle.drt_model.specs.Limits.{IsName}
use Rattle.drt_file.proofs.Snoc.{every_push, every_pop, Pairwise, pairs_push, pairs_pop}
use Rattle.drt_classic.specs.declared.classic.Frame.{Frame}
use Rattle.drt_classic.specs.declared.classic.Classic.{Classic}
use Rattle.drt_classic.specs.declared.classic.Classic.TheVariants.{Sporadic, Multiframe, Cyclic, Free}
use Rattle.drt_classic.specs.declared.state.Draft.{Draft}
use Rattle.drt_classic.specs.declared.state.State.{State}
use Rattle.drt_classic.specs.declared.state.Line.{Line}
use Rattle.drt_classic.specs.declared.state.Line.TheVariants as saying
use Rattle.drt_classic.specs.Classics.{name_of, frames_of}
use Rattle.drt_classic.specs.ClassicLimits.{IsFrame, most_frames}
use Rattle.drt_classic.specs.ClassicReading.{lines_of_classic}
use Rattle.drt_classic.specs.ClassicFaults.{with_last_classic, task_of_draft, with_frame, add_frame, after_classic_line, classic_opening, in_last, is_open, is_full}
use Rattle.drt_classic.proofs.Fits.{Fits, FitsTask, FitsFrame, SaysNone}
use Rattle.drt_classic.proofs.Runs.{tasks_in, Runs}
use Rattle.drt_classic.proofs.States.{with_open, counted, new_name}

-- A task keeps the limits as far as its lines go.
pub record IsDraft (t : Classic) : Type 0 where
  pub name : IsName (name_of t)
  pub few : length (frames_of t) ≤ most_frames t
  pub frames : AllByRecursion IsFrame (frames_of t)

-- The line `end`, where it came.
abbrev pub ending : Bool → List Line
ending ended = if ended then saying.End ∷ [] else []

-- The tasks keep the limits, and these lines are theirs.
pub record Kept (s : State) (ls : List Line) : Type 0 where
  pub lines : flat_map lines_of_classic (tasks_in s) ++ ending s.ended ≡ ls
  pub each : AllByRecursion IsDraft (tasks_in s)
  pub names : Pairwise (λ s t. name_of s ≢ name_of t) (tasks_in s)
  pub few : length (tasks_in s) ≤ 16

pub opening_kept : Kept classic_opening []
unfolding with_last_classic
opening_kept = record { lines = refl; each = tt; names = tt; few = omega arith }

pub flat_push : (ts : List Classic) (t : Classic) → flat_map lines_of_classic (ts ++ t ∷ []) ≡ flat_map lines_of_classic ts ++ lines_of_classic t
flat_push [] t = append-nil (lines_of_classic t)
flat_push (u ∷ ts) t = ap (λ l. lines_of_classic u ++ l) (flat_push ts t) ∙ sym (append_assoc (lines_of_classic u) (flat_map lines_of_classic ts) (lines_of_classic t))

own_line : (t : Classic) → SaysNone (saying.Task t) → lines_of_classic t ≡ saying.Task t ∷ []
own_line (Sporadic name frame) none = refl
own_line (Multiframe name deadline period wcets) none = refl
own_line (Cyclic name frames) none = rw none refl
own_line (Free name frames) none = rw none refl

own_few : (t : Classic) → SaysNone (saying.Task t) → length (frames_of t) ≤ 48 → length (frames_of t) ≤ most_frames t
own_few (Sporadic name frame) none le = le
own_few (Multiframe name deadline period wcets) none le = le
own_few (Cyclic name frames) none le = le
own_few (Free name frames) none le = rw none (omega arith)

-- Lines that stand above `end` are those of the tasks.
still_lines : (s : State) (ls : List Line) → Kept s ls → s.ended ≡ false → flat_map lines_of_classic (tasks_in s) ≡ ls
still_lines s ls k still = sym (append-nil (flat_map lines_of_classic (tasks_in s))) ∙ ap (λ b. flat_map lines_of_classic (tasks_in s) ++ ending b) (sym still) ∙ k.lines

-- What holds of a state by its tasks and its end.
kept_by : (s : State) (ts : List Classic) (ls : List Line) → tasks_in s ≡ ts → flat_map lines_of_classic ts ++ ending s.ended ≡ ls → AllByRecursion IsDraft ts
    → Pairwise (λ s t. name_of s ≢ name_of t) ts → length ts ≤ 16 → Kept s ls
kept_by s ts ls are lines each names few = record {
  lines = ap (λ l. flat_map lines_of_classic l ++ ending s.ended) are ∙ lines;
  each = subst (AllByRecursion IsDraft) (sym are) each;
  names = subst (Pairwise (λ s t. name_of s ≢ name_of t)) (sym are) names;
  few = subst (λ l. length l ≤ 16) (sym are) few;
}

task_kept : (n : ℕ) (s : State) (t : Classic) (ls : List Line) → Kept s ls → s.ended ≡ false → SaysNone (saying.Task t) → FitsTask s t
    → Kept (after_classic_line n s (saying.Task t)) (ls ++ saying.Task t ∷ [])
unfolding after_classic_line with_last_classic
task_kept n s t ls k still none fits =
    let d : Draft = record { line = n; task = t } in
    let more : length (tasks_in s ++ t ∷ []) ≡ length (tasks_in s) + 1 = length-append (tasks_in s) (t ∷ []) in
    let count = counted s in
    let room = fits.room in
    let lines : flat_map lines_of_classic (tasks_in s ++ t ∷ []) ++ ending s.ended ≡ ls ++ saying.Task t ∷ []
    = ap (λ b. flat_map lines_of_classic (tasks_in s ++ t ∷ []) ++ ending b) still ∙ append-nil (flat_map lines_of_classic (tasks_in s ++ t ∷ [])) ∙ flat_push (tasks_in s) t
    ∙ ap (λ l. flat_map lines_of_classic (tasks_in s) ++ l) (own_line t none) ∙ ap (λ l. l ++ saying.Task t ∷ []) (still_lines s ls k still) in
    kept_by (after_classic_line n s (saying.Task t)) (tasks_in s ++ t ∷ []) (ls ++ saying.Task t ∷ []) (map_push task_of_draft (with_last_classic s.closed s.last) d) lines
    (every_push IsDraft (tasks_in s) t k.each (record { name = fits.name; few = own_few t none fits.few; frames = fits.frames }))
    (pairs_push (λ s t. name_of s ≢ name_of t) (tasks_in s) t k.names (new_name (name_of t) s fits.new))
    (omega (arith, more, count, room))

-- The last task, where it passes a test.
pub record Last (test : Draft → Bool) (s : State) : Type 0 where
  pub d : Draft
  pub at : s.last ≡ Some d
  pub passes : test d ≡ true

pub last_of : (test : Draft → Bool) (s : State) → in_last test s ≡ true → Last test s
unfolding in_last
last_of test s e = go s.last refl e
  where
    go : (o : Option Draft) → s.last ≡ o → (elim o [ None ↦ false | Some d ↦ test d ]) ≡ true → Last test s
    go None at h = absurd (cc)
    go (Some d) at h = record { d = d; at = at; passes = h }

pub last_is : (test : Draft → Bool) (s : State) (d : Draft) → s.last ≡ Some d → in_last test s ≡ test d
unfolding in_last
last_is test s d at = rw at refl

-- A frame behind the others of an open task.
record Grown (f : Frame) (t : Classic) : Type 0 where
  lines : lines_of_classic (with_frame f t) ≡ lines_of_classic t ++ saying.Frame f ∷ []
  name : name_of (with_frame f t) ≡ name_of t
  frames : frames_of (with_frame f t) ≡ frames_of t ++ f ∷ []
  most : most_frames (with_frame f t) ≡ most_frames t

grown : (f : Frame) (line : ℕ) (t : Classic) → is_open (record { line = line; task = t }) ≡ true → Grown f t
unfolding is_open with_frame
grown f line (Sporadic name frame) e = absurd (cc)
grown f line (Multiframe name deadline period wcets) e = absurd (cc)
grown f line (Cyclic name frames) e = record { lines = ap (λ l. saying.Task (Cyclic name []) ∷ l) (map_push saying.Frame frames f); name = refl; frames = refl; most = refl }
grown f line (Free name frames) e = record { lines = ap (λ l. saying.Task (Free name []) ∷ l) (map_push saying.Frame frames f); name = refl; frames = refl; most = refl }

not_full : (d : Draft) → is_full d ≡ false → length (frames_of d.task) < most_frames d.task
unfolding is_full
not_full d e = go (most_frames d.task) (length (frames_of d.task)) e
  where
    go : (m n : ℕ) → nat_le m n ≡ false → n < m
    go m n h = grind (arith, h)

frame_kept : (n : ℕ) (s : State) (f : Frame) (ls : List Line) → Kept s ls → s.ended ≡ false → FitsFrame s f → Kept (after_classic_line n s (saying.Frame f)) (ls ++ saying.Frame f ∷ [])
unfolding after_classic_line add_frame
frame_kept n s f ls k still fits =
    let last = last_of is_open s fits.unfinished in
    let d = last.d in
    let t = d.task in
    let closed = map task_of_draft s.closed in
    let g : Grown f t = grown f d.line t last.passes in
    let before : tasks_in s ≡ closed ++ t ∷ [] = with_open s d last.at in
    let now : tasks_in (after_classic_line n s (saying.Frame f)) ≡ closed ++ with_frame f t ∷ []
    = with_open (after_classic_line n s (saying.Frame f)) (add_frame f d) (ap (option_map (add_frame f)) last.at) in
    let room : length (frames_of t) < most_frames t = not_full d (sym (last_is is_full s d last.at) ∙ fits.room) in
    let each = every_pop IsDraft closed t (subst (AllByRecursion IsDraft) before k.each) in
    let names = pairs_pop (λ s t. name_of s ≢ name_of t) closed t (subst (Pairwise (λ s t. name_of s ≢ name_of t)) before k.names) in
    let more : length (frames_of t ++ f ∷ []) ≡ length (frames_of t) + 1 = length-append (frames_of t) (f ∷ []) in
    let long : length (frames_of (with_frame f t)) ≡ length (frames_of t ++ f ∷ []) = ap length g.frames in
    let most = g.most in
    let count : length (closed ++ with_frame f t ∷ []) ≡ length (tasks_in s)
    = length-append closed (with_frame f t ∷ []) ∙ sym (length-append closed (t ∷ [])) ∙ sym (ap length before) in
    let lines : flat_map lines_of_classic (closed ++ with_frame f t ∷ []) ++ ending s.ended ≡ ls ++ saying.Frame f ∷ []
    = ap (λ b. flat_map lines_of_classic (closed ++ with_frame f t ∷ []) ++ ending b) still ∙ append-nil (flat_map lines_of_classic (closed ++ with_frame f t ∷ [])) ∙ flat_push closed (with_frame f t)
    ∙ ap (λ l. flat_map lines_of_classic closed ++ l) g.lines ∙ sym (append_assoc (flat_map lines_of_classic closed) (lines_of_classic t) (saying.Frame f ∷ []))
    ∙ ap (λ l. l ++ saying.Frame f ∷ []) (sym (flat_push closed t) ∙ ap (flat_map lines_of_classic) (sym before) ∙ still_lines s ls k still) in
    kept_by (after_classic_line n s (saying.Frame f)) (closed ++ with_frame f t ∷ []) (ls ++ saying.Frame f ∷ []) now lines
    (every_push IsDraft closed (with_frame f t) each.0 (record {
      name = subst IsName (sym g.name) each.1.name;
      few = omega (arith, long, more, most, room);
      frames = subst (AllByRecursion IsFrame) (sym g.frames) (every_push IsFrame (frames_of t) f each.1.frames fits.frame);
    }))
    (pairs_push (λ s t. name_of s ≢ name_of t) closed (with_frame f t) names.0 (subst (λ m. AllByRecursion (λ u. name_of u ≢ m) closed) (sym g.name) names.1))
    (let few = k.few in omega (arith, count, few))

end_kept : (n : ℕ) (s : State) (ls : List Line) → Kept s ls → s.ended ≡ false → Kept (after_classic_line n s saying.End) (ls ++ saying.End ∷ [])
unfolding after_classic_line
end_kept n s ls k still = record {
  lines = ap (λ l. l ++ saying.End ∷ []) (still_lines s ls k still);
  each = k.each;
  names = k.names;
  few = k.few;
}

line_kept : (n : ℕ) (s : State) (l : Line) (ls : List Line) → Kept s ls → s.ended ≡ false → SaysNone l → Fits s l → Kept (after_classic_line n s l) (ls ++ l ∷ [])
line_kept n s (saying.Task t) ls k still none fits = task_kept n s t ls k still none fits
line_kept n s (saying.Frame f) ls k still none fits = frame_kept n s f ls k still fits
line_kept n s saying.End ls k still none fits = end_kept n s ls k still

pub runs_kept : (s : State) (above ls : List Line) (t : State) → Kept s above → Runs s ls t → Kept t (above ++ ls)
runs_kept s above [] t k runs = subst (λ l. Kept t l) (sym (append-nil above)) (subst (λ u. Kept u above) runs k)
runs_kept s above (l ∷ ls) t k runs =
    let n = runs.3.0 in
    let one = line_kept n s l above k runs.0 runs.1 runs.2 in
    subst (Kept t) (append_assoc above (l ∷ []) ls) (runs_kept (after_classic_line n s l) (above ++ l ∷ []) ls t one runs.3.1)
