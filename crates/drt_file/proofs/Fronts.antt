-- The canonical text at the front of a text, and where the text stops being one.
use Rattle.std.proofs.Common.{◌≡◌, ℕ, ◌+◌, ◌-◌, ◌≤◌, ◌<◌, ◌⊎◌, inl, inr, true, false, List, [], ◌∷◌, ◌++◌, length, map, take, drop, Option, Some, None, Ok, refl, sym, ap, subst, ◌∙◌, append_assoc, arith, length-append}
use Rattle.std.specs.List.{AllByRecursion, flat_map}
use Rattle.std.proofs.lemmas.List.{append-nil, take-append-drop, length-take-le}
use Rattle.std.proofs.Math.Seq.{take-append_seam}
use Rattle.drt_model.specs.declared.tasks.Task.{Task}
use Rattle.drt_model.specs.Contents.{Contents}
use Rattle.drt_model.specs.Limits.{IsTaskSet}
use Rattle.drt_file.specs.declared.state.Draft.{Draft}
use Rattle.drt_file.specs.declared.state.State.{State}
use Rattle.drt_file.specs.declared.front.CanonicalError.TheVariants as errors
use Rattle.drt_file.specs.trusted.Canonical.{canonical, written, version_line, end_line, priority_lines, lines_of_body, task_lines, set_lines}
use Rattle.drt_file.specs.internal.Steps.{◌>>=◌, with_last, task_of, closing, finish, steps, read_text}
use Rattle.drt_file.specs.trusted.Cutting.{fed, HasNoFeed}
use Rattle.drt_file.specs.internal.Strict.{strict_step, strict_steps, has_ended, Above}
use Rattle.drt_file.specs.trusted.CanonicalPrefix.{IsCanonicalPrefix, line_count, first_lines, Breaks, BeginsWith, IsCanonicalCause}
use Rattle.drt_file.proofs.Snoc.{every_push, every_weaker}
use Rattle.drt_file.proofs.Again.{all_of_both}
use Rattle.drt_file.proofs.Spelled.{closing_again}
use Rattle.drt_file.proofs.Whole.{read_says}
use Rattle.drt_file.proofs.Printed.{told}
use Rattle.drt_file.proofs.Feeds.{fed_push, fed_both, fed_lines, no_lines, count_fed, first_fed, first_before, line_same, no_line_here, either_front}
use Rattle.drt_file.proofs.Ordered.{plain_steps, first_taken, taken_both, split_taken, none_taken, open_above}
use Rattle.drt_file.proofs.Grown.{draft_lines, lines_of, IsWhole, Good, steps_went}
use Rattle.drt_file.proofs.Agreed.{Print, print_of}
use Rattle.drt_file.proofs.Completed.{completes}

-- The set that is read.
abbrev pub set_of : State → Contents
set_of s = record { version = s.version; tasks = map task_of (with_last s.closed s.current) }

-- Lines down to `end` are the canonical text of the set that they say.
pub record Finished (ls : List (List ℕ)) (n : ℕ) (s : State) : Type 0 where
  pub limits : IsTaskSet s.version (map task_of (with_last s.closed s.current))
  pub fed_is : fed ls ≡ canonical (set_of s)
  pub finish_is : finish n (Some s) ≡ Ok (set_of s)

draft_prints : (version : ℕ) (d : Draft) → IsWhole d → draft_lines version d ≡ task_lines version (task_of d)
unfolding task_lines lines_of_body priority_lines task_of
draft_prints version d whole = go d.priority whole.priority.0 whole.priority.1
  where
    go : (o : Option ℕ) (k : ℕ) → o ≡ Some k
        → draft_lines version (record { name = d.name; line = d.line; priority = o; vertices = d.vertices; edges = d.edges })
        ≡ task_lines version (task_of (record { name = d.name; line = d.line; priority = o; vertices = d.vertices; edges = d.edges }))
    go None k at = absurd (cc)
    go (Some j) k at = refl

drafts_print : (version : ℕ) (ds : List Draft) → AllByRecursion IsWhole ds → flat_map (draft_lines version) ds ≡ flat_map (task_lines version) (map task_of ds)
drafts_print version [] are = refl
drafts_print version (d ∷ ds) are = ap (λ l. l ++ flat_map (draft_lines version) ds) (draft_prints version d are.0) ∙ ap (λ l. task_lines version (task_of d) ++ l) (drafts_print version ds are.1)

pub finished : (ls : List (List ℕ)) (n : ℕ) (s : State) → AllByRecursion HasNoFeed ls → strict_steps 1 None ls ≡ Some (n, Some s) → s.ended ≡ true → Finished ls n s
unfolding canonical set_lines finish read_text with_last
finished ls n s none taken ended =
    let went = steps_went ls 1 n None (Some s) tt taken in
    let good : Good s = went.1 in
    let last = good.ended ended in
    let d = last.0 in
    let all = s.closed ++ d ∷ [] in
    let are : AllByRecursion IsWhole all = every_push IsWhole s.closed d good.closed last.2 in
    let drafts : with_last s.closed s.current ≡ all = ap (with_last s.closed) last.1 in
    let every : AllByRecursion IsWhole (with_last s.closed s.current) = subst (AllByRecursion IsWhole) (sym drafts) are in
    let ds = with_last s.closed s.current in
    let grown : length all ≡ length s.closed + 1 = length-append s.closed (d ∷ []) in
    let count : length ds ≡ length all = ap length drafts in
    let closed : closing n ds s.ended ≡ Ok ds = closing_again n ds s.ended ended (omega (arith, grown, count))
    (every_weaker IsWhole (λ x. 1 ≤ length x.vertices) (λ x h. h.vertices) ds every) (every_weaker IsWhole (λ x. (k : ℕ) × (x.priority ≡ Some k)) (λ x h. h.priority) ds every) in
    let finish_is : finish n (Some s) ≡ Ok (set_of s) = ap (λ r. r >>= λ es. Ok (record { version = s.version; tasks = map task_of es })) closed in
    let reads : read_text (fed ls) ≡ Ok (set_of s)
    = ap (λ l. steps 1 None l >>= λ (x : ℕ × Option State). finish x.0 x.1) (fed_lines ls none) ∙ ap (λ r. r >>= λ (x : ℕ × Option State). finish x.0 x.1)
    (plain_steps ls 1 n None (Some s) taken) ∙ finish_is in
    record {
      limits = (read_says (fed ls) (set_of s) reads).limits;
      fed_is = sym went.0 ∙ ap (λ b. written (lines_of s.version ds b)) ended ∙ ap (λ l. written (version_line s.version ∷ (l ++ end_line ∷ []))) (drafts_print s.version ds every);
      finish_is = finish_is;
    }

-- Lines above `end` begin a canonical text.
pub prefix_open : (ls : List (List ℕ)) (n : ℕ) (above : Option State) → AllByRecursion HasNoFeed ls → strict_steps 1 None ls ≡ Some (n, above) → has_ended above ≡ false → IsCanonicalPrefix (fed ls)
prefix_open ls n above none taken still = go (completes ls n above taken still)
  where
    go : ((more : List (List ℕ)) × AllByRecursion HasNoFeed more × ((m : ℕ) × (t : State) × (strict_steps n above more ≡ Some (m, Some t)) × (t.ended ≡ true))) → IsCanonicalPrefix (fed ls)
    go (more, none_more, (m, t, rest, ended)) =
        let f = finished (ls ++ more) m t (all_of_both HasNoFeed ls more none none_more) (taken_both ls more 1 n None above taken ∙ rest) ended in
        (set_of t, fed more, f.limits, sym (fed_both ls more) ∙ f.fed_is)

-- A line that isn't taken begins none.
pub no_prefix : (ls : List (List ℕ)) (n : ℕ) (above : Option State) (line : List ℕ) → AllByRecursion HasNoFeed (ls ++ line ∷ [])
    → strict_steps 1 None ls ≡ Some (n, above) → strict_step n above line ≡ None
    → IsCanonicalPrefix (fed (ls ++ line ∷ [])) → ⊥
no_prefix ls n above line none taken refused (set, rest, is, e) =
    let p = print_of set is in
    go p (either_front p.ls (ls ++ line ∷ []) [] rest p.no_feeds none (append-nil (fed p.ls) ∙ p.fed_is ∙ sym e))
  where
    go : (p : Print set) → ((more : List (List ℕ)) × (p.ls ≡ (ls ++ line ∷ []) ++ more))
        ⊎ ((other : List ℕ) × (more : List (List ℕ)) × (ls ++ line ∷ [] ≡ p.ls ++ other ∷ more) × HasNoFeed other × ([] ≡ other ++ 10 ∷ (fed more ++ rest))) → ⊥
    go p (inr (other, more, eq, free, at)) = no_line_here [] other (fed more ++ rest) tt at
    go p (inl (more, eq)) =
        let cut = split_taken (ls ++ line ∷ []) more 1 None (p.m, Some p.s) (ap (strict_steps 1 None) (sym eq) ∙ p.taken) in
        let first = first_taken n above line [] (cut.0, cut.1) (sym (taken_both ls (line ∷ []) 1 n None above taken) ∙ cut.2) in
        let some = first.1 in
        cc

-- Nothing follows `end`.
pub none_more : (m n : ℕ) (s : State) (above : Option State) (more : List (List ℕ)) → s.ended ≡ true → strict_steps m (Some s) more ≡ Some (n, above) → (more ≡ []) × (above ≡ Some s)
unfolding has_ended
none_more m n s above [] ended e =
    let pair : Some (m, Some s) ≡ Some (n, above) = sym (none_taken m (Some s)) ∙ e in
    let same : (m, Some s) ≡ (n, above) = cc in
    (refl, sym (ap (λ (x : ℕ × Option State). x.1) same))
none_more m n s above (line ∷ more) ended e =
    let f = first_taken m (Some s) line more (n, above) e in
    let still : has_ended (Some s) ≡ false = open_above m (Some s) line f.0 f.1 in
    absurd (cc)

-- The lines of a canonical text at the front, beside lines that are taken.
pub record Beside (bytes : List ℕ) (set : Contents) (count : ℕ) (ls : List (List ℕ)) (rest : List ℕ) : Type 0 where
  pub p : Print set
  pub either : ((more : List (List ℕ)) × (ls ≡ p.ls ++ more))
      ⊎ ((line : List ℕ) × (more : List (List ℕ)) × (p.ls ≡ ls ++ line ∷ more) × HasNoFeed line × (rest ≡ line ++ 10 ∷ (fed more ++ drop count bytes)))

pub beside : (bytes : List ℕ) (set : Contents) (count : ℕ) (ls : List (List ℕ)) (rest : List ℕ) → AllByRecursion HasNoFeed ls → bytes ≡ fed ls ++ rest
    → BeginsWith bytes set count → Beside bytes set count ls rest
beside bytes set count ls rest none are b =
    let p = print_of set b.limits in
    let e : fed ls ++ rest ≡ fed p.ls ++ drop count bytes = sym are ∙ sym (take-append-drop count bytes) ∙ ap (λ t. t ++ drop count bytes) (b.front ∙ sym p.fed_is) in
    record { p = p; either = either_front ls p.ls rest (drop count bytes) none p.no_feeds e }

-- Where the lines stop above `end`, no canonical text stands at the front.
pub begins_none : (bytes : List ℕ) (ls : List (List ℕ)) (n : ℕ) (above : Option State) (rest : List ℕ) → AllByRecursion HasNoFeed ls → bytes ≡ fed ls ++ rest → strict_steps 1 None ls ≡ Some (n, above)
    → has_ended above ≡ false → ((line others : List ℕ) → HasNoFeed line → rest ≡ line ++ 10 ∷ others → strict_step n above line ≡ None) → (set : Contents) (count : ℕ) → BeginsWith bytes set count → ⊥
unfolding has_ended
begins_none bytes ls n above rest none are taken still stuck set count b = go (beside bytes set count ls rest none are b)
  where
    go : Beside bytes set count ls rest → ⊥
    go x = cases x.p x.either
      where
        cases : (p : Print set) → ((more : List (List ℕ)) × (ls ≡ p.ls ++ more))
            ⊎ ((line : List ℕ) × (more : List (List ℕ)) × (p.ls ≡ ls ++ line ∷ more) × HasNoFeed line × (rest ≡ line ++ 10 ∷ (fed more ++ drop count bytes))) → ⊥
        cases p (inl (more, eq)) =
            let e = none_more p.m n p.s above more p.ended (sym (taken_both p.ls more 1 p.m None (Some p.s) p.taken) ∙ ap (strict_steps 1 None) (sym eq) ∙ taken) in
            let end : has_ended above ≡ true = ap has_ended e.1 ∙ p.ended in
            cc
        cases p (inr (line, more, eq, free, at)) =
            let f = first_taken n above line more (p.m, Some p.s) (sym (taken_both ls (line ∷ more) 1 n None above taken) ∙ ap (strict_steps 1 None) (sym eq) ∙ p.taken) in
            let none_left = stuck line (fed more ++ drop count bytes) free at in
            let some = f.1 in
            cc

-- Where lines end with `end`, each canonical text at the front is theirs.
pub begins_one : (bytes : List ℕ) (ls : List (List ℕ)) (n : ℕ) (s : State) (rest : List ℕ) → AllByRecursion HasNoFeed ls → bytes ≡ fed ls ++ rest
    → strict_steps 1 None ls ≡ Some (n, Some s) → s.ended ≡ true
    → (set : Contents) (count : ℕ) → BeginsWith bytes set count → (set_of s ≡ set) × (length (fed ls) ≡ count)
begins_one bytes ls n s rest none are taken ended set count b = go (beside bytes set count ls rest none are b)
  where
    same : (p : Print set) → ls ≡ p.ls → (set_of s ≡ set) × (length (fed ls) ≡ count)
    same p eq =
        let f = finished ls n s none taken ended in
        let text : fed ls ≡ canonical set = ap fed eq ∙ p.fed_is in
        (told (set_of s) set f.limits b.limits (sym f.fed_is ∙ text), ap length (text ∙ sym b.front) ∙ length-take-le count bytes b.within)

    cases : (p : Print set) → ((more : List (List ℕ)) × (ls ≡ p.ls ++ more))
        ⊎ ((line : List ℕ) × (more : List (List ℕ)) × (p.ls ≡ ls ++ line ∷ more) × HasNoFeed line × (rest ≡ line ++ 10 ∷ (fed more ++ drop count bytes))) → (set_of s ≡ set) × (length (fed ls) ≡ count)
    cases p (inl (more, eq)) =
        let e = none_more p.m n p.s (Some s) more p.ended (sym (taken_both p.ls more 1 p.m None (Some p.s) p.taken) ∙ ap (strict_steps 1 None) (sym eq) ∙ taken) in
        same p (eq ∙ ap (λ l. p.ls ++ l) e.0 ∙ append-nil p.ls)
    cases p (inr (line, more, eq, free, at)) =
        let e = none_more n p.m s (Some p.s) (line ∷ more) ended (sym (taken_both ls (line ∷ more) 1 n None (Some s) taken) ∙ ap (strict_steps 1 None) (sym eq) ∙ p.taken) in
        let nothing = e.0 in
        absurd (cc)

    go : Beside bytes set count ls rest → (set_of s ≡ set) × (length (fed ls) ≡ count)
    go x = cases x.p x.either

-- Fewer lines than stand above don't break.
above_keep : (bytes : List ℕ) (ls : List (List ℕ)) (rest : List ℕ) → AllByRecursion HasNoFeed ls → bytes ≡ fed ls ++ rest → IsCanonicalPrefix (fed ls) → (k : ℕ) → k ≤ length ls → Breaks bytes k → ⊥
above_keep bytes ls rest none are (set, behind, is, e) k le (inl few) =
    let count = ap line_count are ∙ count_fed ls rest none in
    omega (arith, count, few, le)
above_keep bytes ls rest none are (set, behind, is, e) k le (inr begins) =
    let r = first_before k (length ls) bytes le in
    let front : first_lines k bytes ++ r.0 ≡ fed ls = r.1 ∙ ap (first_lines (length ls)) are ∙ first_fed ls rest none in
    begins (set, r.0 ++ behind, is, sym (append_assoc (first_lines k bytes) r.0 behind) ∙ ap (λ t. t ++ behind) front ∙ e)

-- The next line is missing.
pub missing_cause : (bytes : List ℕ) (n : ℕ) (above : Option State) (rest : List ℕ) → Above bytes n above rest → has_ended above ≡ false → HasNoFeed rest → IsCanonicalCause bytes (errors.Fault n true)
missing_cause bytes n above rest a still free =
    let count = ap line_count a.bytes_are ∙ count_fed a.ls rest a.no_feeds in
    let zero_lines = no_lines rest free in
    let n_is = a.count in
    let few : line_count bytes < n = omega (arith, count, zero_lines, n_is) in
    let open_prefix = prefix_open a.ls n above a.no_feeds a.steps_are still in (
      begins_none bytes a.ls n above rest a.no_feeds a.bytes_are a.steps_are still (λ line others none e. absurd (no_line_here rest line others free e)),
      record {
        here = inl few;
        least = λ k lt. above_keep bytes a.ls rest a.no_feeds a.bytes_are open_prefix k (omega (arith, lt, n_is));
        is_missing = ((λ e. few), λ e. refl);
      },
    )

-- The next line goes on no canonical text.
pub refused_cause : (bytes : List ℕ) (n : ℕ) (above : Option State) (rest line others : List ℕ) → Above bytes n above rest → has_ended above ≡ false → rest ≡ line ++ 10 ∷ others → HasNoFeed line
    → strict_step n above line ≡ None → IsCanonicalCause bytes (errors.Fault n false)
refused_cause bytes n above rest line others a still cut free refused =
    let ls = a.ls ++ line ∷ [] in
    let none : AllByRecursion HasNoFeed ls = every_push HasNoFeed a.ls line a.no_feeds free in
    let are : bytes ≡ fed ls ++ others = a.bytes_are ∙ ap (λ t. fed a.ls ++ t) cut ∙ sym (fed_push a.ls line others) in
    let grown : length ls ≡ length a.ls + 1 = length-append a.ls (line ∷ []) in
    let n_is = a.count in
    let number : n ≡ length ls = omega (arith, n_is, grown) in
    let count = ap line_count are ∙ count_fed ls others none in
    let front : first_lines n bytes ≡ fed ls = ap (λ k. first_lines k bytes) number ∙ ap (first_lines (length ls)) are ∙ first_fed ls others none in
    let open_prefix = prefix_open a.ls n above a.no_feeds a.steps_are still in (
      begins_none bytes a.ls n above rest a.no_feeds a.bytes_are a.steps_are still
          (λ other more none_other e. let same = line_same line other others more free none_other (sym cut ∙ e) in ap (strict_step n above) (sym same.0) ∙ refused),
      record {
        here = inr (λ is. no_prefix a.ls n above line none a.steps_are refused (subst IsCanonicalPrefix front is));
        least = λ k lt. above_keep bytes a.ls rest a.no_feeds a.bytes_are open_prefix k (omega (arith, lt, n_is));
        is_missing = ((λ e. absurd (cc)), λ few. absurd (omega (arith, few, count, number)));
      },
    )

-- One line more stands above.
pub above_next : (bytes : List ℕ) (n : ℕ) (above : Option State) (rest line others : List ℕ) (s : State) → Above bytes n above rest → rest ≡ line ++ 10 ∷ others → HasNoFeed line
    → strict_step n above line ≡ Some s → Above bytes (n + 1) (Some s) others
unfolding strict_steps
above_next bytes n above rest line others s a cut free taken = record {
  ls = a.ls ++ line ∷ [];
  no_feeds = every_push HasNoFeed a.ls line a.no_feeds free;
  bytes_are = a.bytes_are ∙ ap (λ t. fed a.ls ++ t) cut ∙ sym (fed_push a.ls line others);
  steps_are = taken_both a.ls (line ∷ []) 1 n None above a.steps_are ∙ ap (λ o. elim o as (λ x. Option (ℕ × Option State)) [ None ↦ None | Some t ↦ Some (n + 1, Some t) ]) taken;
  count = let e = a.count in let grown : length (a.ls ++ line ∷ []) ≡ length a.ls + 1 = length-append a.ls (line ∷ []) in omega (arith, e, grown);
}

pub above_start : (bytes : List ℕ) → Above bytes 1 None bytes
unfolding strict_steps
above_start bytes = record { ls = []; no_feeds = tt; bytes_are = refl; steps_are = refl; count = refl }

-- What the lines down to `end` give.
pub record Read (bytes : List ℕ) (above : Option State) (n : ℕ) (rest : List ℕ) (version : ℕ) (tasks : List Task) : Type 0 where
  pub limits : IsTaskSet version tasks
  pub begins : BeginsWith bytes (record { version = version; tasks = tasks }) (length bytes - length rest)
  pub one : (set : Contents) (count : ℕ) → BeginsWith bytes set count → ((record { version = version; tasks = tasks }) ≡ set) × (length bytes - length rest ≡ count)

pub read_is : (bytes : List ℕ) (n : ℕ) (above : Option State) (rest : List ℕ) (version : ℕ) (tasks : List Task) → Above bytes n above rest → has_ended above ≡ true
    → finish n above ≡ Ok (record { version = version; tasks = tasks }) → Read bytes above n rest version tasks
unfolding has_ended
read_is bytes n None rest version tasks a ended e = absurd (cc)
read_is bytes n (Some s) rest version tasks a ended e =
    let f = finished a.ls n s a.no_feeds a.steps_are ended in
    let both : Ok (set_of s) ≡ Ok (record { version = version; tasks = tasks }) = sym f.finish_is ∙ e in
    let same : set_of s ≡ record { version = version; tasks = tasks } = cc in
    let set : Contents = record { version = version; tasks = tasks } in
    let total : length bytes ≡ length (fed a.ls) + length rest = ap length a.bytes_are ∙ length-append (fed a.ls) rest in
    let size : length bytes - length rest ≡ length (fed a.ls) = omega (arith, total) in
    let limits : IsTaskSet version tasks = subst (λ (c : Contents). IsTaskSet c.version c.tasks) same f.limits in
    record {
      limits = limits;
      begins = record {
        limits = limits;
        within = omega arith;
        front = ap (λ k. take k bytes) size ∙ ap (take (length (fed a.ls))) a.bytes_are ∙ take-append_seam (fed a.ls) rest ∙ f.fed_is ∙ ap canonical same;
      };
      one = λ other count b.
          let r = begins_one bytes a.ls n s rest a.no_feeds a.bytes_are a.steps_are ended other count b in
          (sym same ∙ r.0, size ∙ r.1);
    }

-- No text begins with the canonical texts of two sets.
pub one_front : (first second : Contents) (s t : List ℕ) → IsTaskSet first.version first.tasks → IsTaskSet second.version second.tasks → canonical first ++ s ≡ canonical second ++ t → second ≡ first
one_front first second s t is also e =
    let p = print_of first is in
    let bytes = canonical first ++ s in
    let are : bytes ≡ fed p.ls ++ s = ap (λ w. w ++ s) (sym p.fed_is) in
    let begins : (set : Contents) (w : List ℕ) → IsTaskSet set.version set.tasks → bytes ≡ canonical set ++ w → set_of p.s ≡ set
    = λ set w limits at.
    let size = ap length at ∙ length-append (canonical set) w in
    (begins_one bytes p.ls p.m p.s s p.no_feeds are p.taken p.ended set (length (canonical set))
    (record { limits = limits; within = omega (arith, size); front = ap (take (length (canonical set))) at ∙ take-append_seam (canonical set) w })).0 in
    sym (begins second t also e) ∙ begins first s is refl
