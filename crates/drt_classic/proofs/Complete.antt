-- The lines of a set within its limits lead to that set.
use Rattle.std.proofs.Common.{◌≡◌, ◌≢◌, ℕ, suc, ◌+◌, ◌<◌, ◌≤◌, Bool, true, false, List, [], ◌∷◌, ◌++◌, length, map, Option, Some, None, refl, sym, ap, ◌∙◌, subst, arith, append_assoc, length-append}
use Rattle.std.specs.Prelude.{nat_le, option_map}
use Rattle.std.specs.List.{AllByRecursion, flat_map}
use Rattle.std.proofs.lemmas.List.{map_push, append-nil}
use Rattle.std.proofs.lemmas.List.Elements.{recursion_from_All}
use Rattle.drt_file.proofs.Snoc.{Pairwise, pairs_of_all}
use Rattle.drt_classic.specs.declared.classic.Frame.{Frame}
use Rattle.drt_classic.specs.declared.classic.Classic.{Classic}
use Rattle.drt_classic.specs.declared.classic.Classic.TheVariants.{Sporadic, Multiframe, Cyclic, Free}
use Rattle.drt_classic.specs.declared.state.Draft.{Draft}
use Rattle.drt_classic.specs.declared.state.State.{State}
use Rattle.drt_classic.specs.declared.state.Line.{Line}
use Rattle.drt_classic.specs.declared.state.Line.TheVariants as saying
use Rattle.drt_classic.specs.Classics.{name_of, frames_of, frames_of_period}
use Rattle.drt_classic.specs.ClassicLimits.{IsFrame, IsClassic, IsClassicSet, most_frames}
use Rattle.drt_classic.specs.ClassicReading.{lines_of_classic, lines_of}
use Rattle.drt_classic.specs.ClassicFaults.{with_last_classic, task_of_draft, with_frame, add_frame, after_classic_line, classic_opening, in_last, is_open, is_full, classic_task_count}
use Rattle.drt_classic.proofs.Fits.{Fits, FitsTask, FitsFrame, period_count}
use Rattle.drt_classic.proofs.Runs.{tasks_in, Leads}
use Rattle.drt_classic.proofs.States.{with_open, counted, name_new}
use Rattle.drt_classic.proofs.Sound.{last_is}

abbrev Distinct : List Classic → Type 0
Distinct ts = Pairwise (λ s t. name_of s ≢ name_of t) ts

-- The names above differ from that of the next task.
above_differ : (ts us : List Classic) (t : Classic) → Distinct (ts ++ t ∷ us) → AllByRecursion (λ s. name_of s ≢ name_of t) ts
above_differ [] us t are = tt
above_differ (s ∷ ts) us t are = (first ts are.0, above_differ ts us t are.1)
  where
    first : (ts : List Classic) → AllByRecursion (λ u. name_of s ≢ name_of u) (ts ++ t ∷ us) → name_of s ≢ name_of t
    first [] all = all.0
    first (u ∷ ts) all = first ts all.1

-- A task that is built by frames.
record IsBuilt (make : List Frame → Classic) (most : ℕ) : Type 0 where
  grows : (f : Frame) (done : List Frame) → with_frame f (make done) ≡ make (done ++ f ∷ [])
  unfinished : (line : ℕ) (done : List Frame) → is_open (record { line = line; task = make done }) ≡ true
  room : (line : ℕ) (done : List Frame) → length done < most → is_full (record { line = line; task = make done }) ≡ false

not_yet : (m n : ℕ) → n < m → nat_le m n ≡ false
not_yet m n lt = grind (arith, lt)

cyclic_built : (name : List ℕ) → IsBuilt (Cyclic name) 48
unfolding with_frame is_open is_full
cyclic_built name = record { grows = λ f done. refl; unfinished = λ line done. refl; room = λ line done lt. not_yet 48 (length done) lt }

free_built : (name : List ℕ) → IsBuilt (Free name) 16
unfolding with_frame is_open is_full
free_built name = record { grows = λ f done. refl; unfinished = λ line done. refl; room = λ line done lt. not_yet 16 (length done) lt }

-- Lines `frame` lead to where the task has these frames.
frames_lead : (tasks : List Classic) (rest : List Line) (make : List Frame → Classic) (most : ℕ) → IsBuilt make most → (fs done : List Frame) (s : State) (line : ℕ)
    → s.ended ≡ false → s.last ≡ Some (record { line = line; task = make done }) → AllByRecursion IsFrame fs → length done + length fs ≤ most
    → ((t : State) → t.closed ≡ s.closed → t.ended ≡ false → t.last ≡ Some (record { line = line; task = make (done ++ fs) }) → Leads tasks t rest)
    → Leads tasks s (map saying.Frame fs ++ rest)
unfolding after_classic_line add_frame
frames_lead tasks rest make most built [] done s line still at are few next =
    next s refl still (at ∙ ap (λ d. Some (record { line = line; task = make d })) (sym (append-nil done)))
frames_lead tasks rest make most built (f ∷ fs) done s line still at are few next =
    let d : Draft = record { line = line; task = make done } in
    let unfinished : in_last is_open s ≡ true = last_is is_open s d at ∙ built.unfinished line done in
    let room : in_last is_full s ≡ false = last_is is_full s d at ∙ built.room line done (omega (arith, few)) in
    let more : length (done ++ f ∷ []) ≡ length done + 1 = length-append done (f ∷ []) in (
      still,
      tt,
      record { unfinished = unfinished; room = room; frame = are.0 },
      λ n.
          frames_lead tasks rest make most built fs (done ++ f ∷ []) (after_classic_line n s (saying.Frame f)) line still
          (ap (option_map (add_frame f)) at ∙ ap (λ t. Some (record { line = line; task = t })) (built.grows f done)) are.1 (omega (arith, more, few))
          (λ t closed ended last. next t closed ended (last ∙ ap (λ d. Some (record { line = line; task = make d })) (append_assoc done (f ∷ []) fs))),
    )

-- What is below a state that has these tasks: the others, so that all are a set within its limits.
record Below (tasks : List Classic) (s : State) (ts : List Classic) : Type 0 where
  still : s.ended ≡ false
  each : AllByRecursion IsClassic ts
  names : Distinct (tasks_in s ++ ts)
  few : length (tasks_in s ++ ts) ≤ 16
  are : tasks_in s ++ ts ≡ tasks

-- The next task is done.
one_done : (tasks : List Classic) (s t : State) (u : Classic) (ts : List Classic) → Below tasks s (u ∷ ts) → t.ended ≡ false → tasks_in t ≡ tasks_in s ++ u ∷ [] → Below tasks t ts
one_done tasks s t u ts b still is =
    let same : tasks_in t ++ ts ≡ tasks_in s ++ u ∷ ts = ap (λ l. l ++ ts) is ∙ append_assoc (tasks_in s) (u ∷ []) ts in
    record {
      still = still;
      each = b.each.1;
      names = subst Distinct (sym same) b.names;
      few = subst (λ l. length l ≤ 16) (sym same) b.few;
      are = same ∙ b.are;
    }

fits_task : (tasks : List Classic) (s : State) (t u : Classic) (ts : List Classic) → Below tasks s (t ∷ ts) → name_of u ≡ name_of t → length (frames_of u) ≤ 48
    → AllByRecursion IsFrame (frames_of u) → FitsTask s u
fits_task tasks s t u ts b same few frames =
    let count = counted s in
    let all : length (tasks_in s ++ t ∷ ts) ≡ length (tasks_in s) + suc (length ts) = length-append (tasks_in s) (t ∷ ts) in
    let most = b.few in
    record {
      name = rw same b.each.0.name;
      new = name_new (name_of u) s (rw same (above_differ (tasks_in s) ts t b.names));
      room = omega (arith, count, all, most);
      few = few;
      frames = frames;
    }

-- A task whose own line says its frames.
after_own : (n : ℕ) (s : State) (t : Classic) → tasks_in (after_classic_line n s (saying.Task t)) ≡ tasks_in s ++ t ∷ []
unfolding after_classic_line with_last_classic
after_own n s t = map_push task_of_draft (with_last_classic s.closed s.last) (record { line = n; task = t })

after_still : (n : ℕ) (s : State) (t : Classic) → s.ended ≡ false → (after_classic_line n s (saying.Task t)).ended ≡ false
unfolding after_classic_line
after_still n s t e = e

after_closed : (n : ℕ) (s : State) (t : Classic) → map task_of_draft (after_classic_line n s (saying.Task t)).closed ≡ tasks_in s
unfolding after_classic_line
after_closed n s t = refl

after_last : (n : ℕ) (s : State) (t : Classic) → (after_classic_line n s (saying.Task t)).last ≡ Some (record { line = n; task = t })
unfolding after_classic_line
after_last n s t = refl

end_leads : (tasks : List Classic) (n : ℕ) (s : State) → tasks_in s ≡ tasks → Leads tasks (after_classic_line n s saying.End) []
unfolding after_classic_line
end_leads tasks n s are = (refl, are)

-- A `gmf` or `noncyclic` and its frames.
built_leads : (tasks : List Classic) (ts : List Classic) (s : State) (make : List Frame → Classic) (most : ℕ) → IsBuilt make most → (frames : List Frame) → Below tasks s (make frames ∷ ts)
    → AllByRecursion IsFrame frames → length frames ≤ most → ((u : State) → Below tasks u ts → Leads tasks u (flat_map lines_of_classic ts ++ saying.End ∷ [])) → (n : ℕ)
    → Leads tasks (after_classic_line n s (saying.Task (make []))) ((map saying.Frame frames ++ flat_map lines_of_classic ts) ++ saying.End ∷ [])
built_leads tasks ts s make most built frames b are few next n =
    let rest = flat_map lines_of_classic ts ++ saying.End ∷ [] in
    let t = after_classic_line n s (saying.Task (make [])) in
    subst (Leads tasks t) (sym (append_assoc (map saying.Frame frames) (flat_map lines_of_classic ts) (saying.End ∷ [])))
    (frames_lead tasks rest make most built frames [] t n (after_still n s (make []) b.still) (after_last n s (make [])) are (omega (arith, few))
    (λ u closed still last.
    next u (one_done tasks s u (make frames) ts b still
    (with_open u (record { line = n; task = make frames }) last ∙ ap (λ c. map task_of_draft c ++ make frames ∷ []) closed ∙ ap (λ l. l ++ make frames ∷ []) (after_closed n s (make []))))))

tasks_lead : (tasks : List Classic) (ts : List Classic) (s : State) → Below tasks s ts → Leads tasks s (flat_map lines_of_classic ts ++ saying.End ∷ [])
tasks_lead tasks [] s b = (b.still, tt, tt, λ n. end_leads tasks n s (sym (append-nil (tasks_in s)) ∙ b.are))
tasks_lead tasks (Sporadic name frame ∷ ts) s b =
    let t = Sporadic name frame in
    let is = b.each.0 in (
      b.still,
      tt,
      fits_task tasks s t t ts b refl is.few_frames (recursion_from_All IsFrame (frames_of t) is.frames),
      λ n. tasks_lead tasks ts (after_classic_line n s (saying.Task t)) (one_done tasks s (after_classic_line n s (saying.Task t)) t ts b (after_still n s t b.still) (after_own n s t)),
    )
tasks_lead tasks (Multiframe name deadline period wcets ∷ ts) s b =
    let t = Multiframe name deadline period wcets in
    let is = b.each.0 in
    let count = period_count deadline period wcets in
    let has = is.has_frame in (
      b.still,
      omega (arith, count, has),
      fits_task tasks s t t ts b refl is.few_frames (recursion_from_All IsFrame (frames_of t) is.frames),
      λ n. tasks_lead tasks ts (after_classic_line n s (saying.Task t)) (one_done tasks s (after_classic_line n s (saying.Task t)) t ts b (after_still n s t b.still) (after_own n s t)),
    )
tasks_lead tasks (Cyclic name frames ∷ ts) s b =
    let is = b.each.0 in (
      b.still,
      tt,
      fits_task tasks s (Cyclic name frames) (Cyclic name []) ts b refl (omega arith) tt,
      built_leads tasks ts s (Cyclic name) 48 (cyclic_built name) frames b (recursion_from_All IsFrame frames is.frames) is.few_frames (λ u below. tasks_lead tasks ts u below),
    )
tasks_lead tasks (Free name frames ∷ ts) s b =
    let is = b.each.0 in (
      b.still,
      tt,
      fits_task tasks s (Free name frames) (Free name []) ts b refl (omega arith) tt,
      built_leads tasks ts s (Free name) 16 (free_built name) frames b (recursion_from_All IsFrame frames is.frames) is.few_frames (λ u below. tasks_lead tasks ts u below),
    )

pub set_leads : (tasks : List Classic) → IsClassicSet tasks → Leads tasks classic_opening (lines_of tasks)
unfolding with_last_classic
set_leads tasks is = tasks_lead tasks tasks classic_opening (record {
  still = refl;
  each = recursion_from_All IsClassic tasks is.each;
  names = pairs_of_all (λ s t. name_of s ≢ name_of t) tasks is.distinct_names;
  few = is.few_tasks;
  are = refl;
})
