-- What a line without a fault says fits what the lines above leave.
use Rattle.std.proofs.Common.{◌≡◌, ℕ, ◌+◌, ◌<◌, ◌≤◌, Bool, true, false, not, ◌&&◌, List, [], ◌∷◌, length, map, Option, Some, None, refl, sym, ap, ◌∙◌, subst, arith, cond}
use Rattle.std.specs.Prelude.{nat_le, nat_lt, bytes_eq}
use Rattle.std.specs.List.{AllByRecursion, AllZip, list_all, list_any}
use Rattle.std.proofs.lemmas.List.{length-map}
use Rattle.drt_model.specs.Limits.{IsName, IsTime}
use Rattle.drt_file.specs.trusted.Words.{is_name, is_number, value, end_word}
use Rattle.drt_file.specs.trusted.Line.{is_text, is_in_range}
use Rattle.std.specs.Net.Grammar.{IsNumber}
use Rattle.drt_file.proofs.Written.{means_number, number_means}
use Rattle.drt_file.proofs.Meanings.{both, not_false, between, between_again, every_of_all, all_of_every}
use Rattle.drt_file.proofs.Names.{name_is, is_a_name}
use Rattle.drt_classic.specs.declared.classic.Frame.{Frame}
use Rattle.drt_classic.specs.declared.classic.Classic.{Classic}
use Rattle.drt_classic.specs.declared.classic.Classic.TheVariants.{Sporadic, Multiframe, Cyclic, Free}
use Rattle.drt_classic.specs.declared.state.State.{State}
use Rattle.drt_classic.specs.declared.state.Line.{Line}
use Rattle.drt_classic.specs.declared.state.Line.TheVariants as saying
use Rattle.drt_classic.specs.declared.state.Kind.{Kind}
use Rattle.drt_classic.specs.declared.state.Kind.TheVariants as kinds
use Rattle.drt_classic.specs.Classics.{name_of, frames_of, frames_of_period}
use Rattle.drt_classic.specs.ClassicLimits.{IsFrame}
use Rattle.drt_classic.specs.ClassicWords.{sporadic_word, multiframe_word, gmf_word, noncyclic_word, frame_word}
use Rattle.drt_classic.specs.ClassicReading.{MeanFrame, SaysSporadic, SaysMultiframe, SaysFrame, SaysClassic}
use Rattle.drt_classic.specs.ClassicFaults.{first_that_holds, in_last, is_open, is_full, has_classic_task, classic_task_count, sporadic_fault, multiframe_fault, open_fault, frame_fault, classic_end_fault, classic_said_by, is_past}
use Rattle.drt_model.specs.Numbers.{most_time}

-- A table of tests.

pub passed : (t : ℕ × Bool) (ts : List (ℕ × Bool)) → first_that_holds (t ∷ ts) ≡ None → (t.1 ≡ false) × (first_that_holds ts ≡ None)
unfolding first_that_holds
passed t ts e = go t.1 refl e
  where
    go : (b : Bool) → t.1 ≡ b → cond b (Some t.0) (first_that_holds ts) ≡ None → (t.1 ≡ false) × (first_that_holds ts ≡ None)
    go false at h = (at, h)
    go true at h = absurd (cc)

pub passes : (t : ℕ × Bool) (ts : List (ℕ × Bool)) → t.1 ≡ false → first_that_holds ts ≡ None → first_that_holds (t ∷ ts) ≡ None
unfolding first_that_holds
passes t ts here others = rw here others

pub none_left : first_that_holds [] ≡ None
unfolding first_that_holds
none_left = refl

-- What fits below what the lines above leave: a task with a new name where there is room.
pub record FitsTask (s : State) (t : Classic) : Type 0 where
  pub name : IsName (name_of t)
  pub new : has_classic_task (name_of t) s ≡ false
  pub room : classic_task_count s < 16
  pub few : length (frames_of t) ≤ 48
  pub frames : AllByRecursion IsFrame (frames_of t)

-- A frame, where the last task is open and has room.
pub record FitsFrame (s : State) (f : Frame) : Type 0 where
  pub unfinished : in_last is_open s ≡ true
  pub room : in_last is_full s ≡ false
  pub frame : IsFrame f

abbrev pub Fits : State → Line → Type 0
Fits s (saying.Task t) = FitsTask s t
Fits s (saying.Frame f) = FitsFrame s f
Fits s saying.End = Unit {0}

-- The line of a task that says its frames says at least one.
abbrev pub SaysOwn : Line → Type 0
SaysOwn (saying.Task (Multiframe name deadline period wcets)) = 1 ≤ length wcets
SaysOwn line = Unit {0}

-- The own line of a `gmf` or `noncyclic` says no frame.
abbrev pub SaysNone : Line → Type 0
SaysNone (saying.Task (Cyclic name frames)) = frames ≡ []
SaysNone (saying.Task (Free name frames)) = frames ≡ []
SaysNone line = Unit {0}

pub says_none : (words : List (List ℕ)) (l : Line) → SaysClassic words l → SaysNone l
says_none words (saying.Task (Sporadic name frame)) says = tt
says_none words (saying.Task (Multiframe name deadline period wcets)) says = tt
says_none words (saying.Task (Cyclic name frames)) says = says.1
says_none words (saying.Task (Free name frames)) says = says.1
says_none words (saying.Frame f) says = tt
says_none words saying.End says = tt

-- Numbers and times.

not_true : (b : Bool) → b ≡ true → not b ≡ false
not_true b e = rw e refl

time_of : (word : List ℕ) → is_in_range word ≡ true → IsTime (value word)
time_of word e = between 1 most_time (value word) e

range_of : (word : List ℕ) (n : ℕ) → value word ≡ n → IsTime n → is_in_range word ≡ true
range_of word n e is = between_again 1 most_time (value word) (omega (arith, e, is.0)) (omega (arith, e, is.1))

not_past : (deadline sep : List ℕ) → is_past deadline sep ≡ false → value deadline ≤ value sep
not_past deadline sep e = grind (arith, e)

past_not : (deadline sep : List ℕ) (d s : ℕ) → value deadline ≡ d → value sep ≡ s → d ≤ s → is_past deadline sep ≡ false
past_not deadline sep d s de se le = let h : value deadline ≤ value sep = omega (arith, de, se, le) in grind (arith, h)

room_of : (n : ℕ) → nat_le 16 n ≡ false → n < 16
room_of n e = grind (arith, e)

room_again : (n : ℕ) → n < 16 → nat_le 16 n ≡ false
room_again n lt = grind (arith, lt)

-- Three fields that pass.
record Times (a b c : List ℕ) : Type 0 where
  first : is_number a ≡ true
  second : is_number b ≡ true
  third : is_number c ≡ true
  first_in : is_in_range a ≡ true
  second_in : is_in_range b ≡ true
  third_in : is_in_range c ≡ true

times_of : (a b c : List ℕ) → not (list_all is_number (a ∷ b ∷ c ∷ [])) ≡ false → not (list_all is_in_range (a ∷ b ∷ c ∷ [])) ≡ false → Times a b c
times_of a b c e f =
    let n = every_of_all is_number (a ∷ b ∷ c ∷ []) (not_false _ e) in
    let r = every_of_all is_in_range (a ∷ b ∷ c ∷ []) (not_false _ f) in
    record { first = n.0; second = n.1.0; third = n.1.1.0; first_in = r.0; second_in = r.1.0; third_in = r.1.1.0 }

frame_is : (a b c : List ℕ) → Times a b c → is_past b c ≡ false → IsFrame (record { wcet = value a; deadline = value b; sep = value c })
frame_is a b c t e = record { wcet = time_of a t.first_in; deadline = time_of b t.second_in; sep = time_of c t.third_in; constrained = not_past b c e }

frame_meant : (a b c : List ℕ) → Times a b c → MeanFrame a b c (record { wcet = value a; deadline = value b; sep = value c })
frame_meant a b c t = (number_means a (value a) (t.first, refl), number_means b (value b) (t.second, refl), number_means c (value c) (t.third, refl))

-- What three fields keep that mean a frame.
record Meant (a b c : List ℕ) (f : Frame) : Type 0 where
  numbers : not (list_all is_number (a ∷ b ∷ c ∷ [])) ≡ false
  in_range : not (list_all is_in_range (a ∷ b ∷ c ∷ [])) ≡ false
  not_past : is_past b c ≡ false
  is : record { wcet = value a; deadline = value b; sep = value c } ≡ f

meant : (a b c : List ℕ) (f : Frame) → MeanFrame a b c f → IsFrame f → Meant a b c f
meant a b c f m is =
    let x = means_number a f.wcet m.0 in
    let y = means_number b f.deadline m.1 in
    let z = means_number c f.sep m.2 in
    record {
      numbers = not_true (list_all is_number (a ∷ b ∷ c ∷ [])) (all_of_every is_number (a ∷ b ∷ c ∷ []) (x.0, (y.0, (z.0, tt))));
      in_range = not_true (list_all is_in_range (a ∷ b ∷ c ∷ [])) (all_of_every is_in_range (a ∷ b ∷ c ∷ [])
          (range_of a f.wcet x.1 is.wcet, (range_of b f.deadline y.1 is.deadline, (range_of c f.sep z.1 is.sep, tt))));
      not_past = past_not b c f.deadline f.sep y.1 z.1 is.constrained;
      is = rw (x.1, y.1, z.1) refl;
    }

-- A `sporadic` line.

pub record Passed (s : State) (words : List (List ℕ)) (l : Line) : Type 0 where
  pub says : SaysClassic words l
  pub fits : Fits s l

pub sporadic_passed : (s : State) (words rest : List (List ℕ)) → words ≡ sporadic_word ∷ rest → sporadic_fault s words ≡ None → Passed s words (classic_said_by kinds.Sporadic words)
unfolding sporadic_fault classic_said_by
sporadic_passed s [] rest is e = absurd (cc)
sporadic_passed s (a ∷ []) rest is e = absurd (cc)
sporadic_passed s (a ∷ b ∷ []) rest is e = absurd (cc)
sporadic_passed s (a ∷ b ∷ c ∷ []) rest is e = absurd (cc)
sporadic_passed s (a ∷ b ∷ c ∷ d ∷ []) rest is e = absurd (cc)
sporadic_passed s (a ∷ b ∷ c ∷ d ∷ p ∷ q ∷ words) rest is e = absurd (cc)
sporadic_passed s (word ∷ name ∷ wcet ∷ deadline ∷ period ∷ []) rest is e =
    let five = passed _ _ e in
    let six = passed _ _ five.1 in
    let seven = passed _ _ six.1 in
    let eight = passed _ _ seven.1 in
    let nine = passed _ _ eight.1 in
    let full = passed _ _ nine.1 in
    let t = times_of wcet deadline period five.0 six.0 in
    let first : word ≡ sporadic_word = cc in
    record {
      says = record { wcet = wcet; deadline = deadline; period = period; spelled = ap (λ w. w ∷ name ∷ wcet ∷ deadline ∷ period ∷ []) first; times = frame_meant wcet deadline period t };
      fits = record {
        name = is_a_name name (not_false _ seven.0);
        new = eight.0;
        room = room_of (classic_task_count s) full.0;
        few = omega arith;
        frames = (frame_is wcet deadline period t nine.0, tt);
      };
    }

-- What a line that says something fitting has: no code, and it says that.
pub record Again (fault : Option ℕ) (said l : Line) : Type 0 where
  pub none : fault ≡ None
  pub is : said ≡ l

pub sporadic_again : (s : State) (words : List (List ℕ)) (name : List ℕ) (f : Frame) → SaysSporadic words name f → FitsTask s (Sporadic name f)
    → Again (sporadic_fault s words) (classic_said_by kinds.Sporadic words) (saying.Task (Sporadic name f))
unfolding sporadic_fault classic_said_by
sporadic_again s words name f says fits =
    let m = meant says.wcet says.deadline says.period f says.times fits.frames.0 in
    rw says.spelled (record {
      none = passes _ _ m.numbers (passes _ _ m.in_range (passes _ _ (not_true (is_name name) (name_is name fits.name))
          (passes _ _ fits.new (passes _ _ m.not_past (passes _ _ (room_again (classic_task_count s) fits.room) none_left)))));
      is = ap (λ g. saying.Task (Sporadic name g)) m.is;
    })

-- A `multiframe` line.

period_frames : (deadline period : List ℕ) (ws : List (List ℕ)) → is_in_range deadline ≡ true → is_in_range period ≡ true → is_past deadline period ≡ false
    → AllByRecursion (λ w. is_in_range w ≡ true) ws
    → AllByRecursion IsFrame (frames_of_period (value deadline) (value period) (map value ws))
period_frames deadline period [] d p e are = tt
period_frames deadline period (w ∷ ws) d p e are = (
  record { wcet = time_of w are.0; deadline = time_of deadline d; sep = time_of period p; constrained = not_past deadline period e },
  period_frames deadline period ws d p e are.1,
)

meant_all : (ws : List (List ℕ)) → AllByRecursion (λ w. is_number w ≡ true) ws → AllZip (IsNumber 10) ws (map value ws)
meant_all [] are = tt
meant_all (w ∷ ws) are = (number_means w (value w) (are.0, refl), meant_all ws are.1)

few_of : (n : ℕ) → nat_lt 48 n ≡ false → n ≤ 48
few_of n e = grind (arith, e)

few_again : (n : ℕ) → n ≤ 48 → nat_lt 48 n ≡ false
few_again n le = grind (arith, le)

pub period_count : (deadline period : ℕ) (wcets : List ℕ) → length (frames_of_period deadline period wcets) ≡ length wcets
period_count deadline period wcets = length-map wcets (λ wcet. record { wcet = wcet; deadline = deadline; sep = period })

pub multiframe_passed : (s : State) (words rest : List (List ℕ)) → words ≡ multiframe_word ∷ rest → multiframe_fault s words ≡ None → Passed s words (classic_said_by kinds.Multiframe words)
unfolding multiframe_fault classic_said_by
multiframe_passed s [] rest is e = absurd (cc)
multiframe_passed s (a ∷ []) rest is e = absurd (cc)
multiframe_passed s (a ∷ b ∷ []) rest is e = absurd (cc)
multiframe_passed s (a ∷ b ∷ c ∷ []) rest is e = absurd (cc)
multiframe_passed s (a ∷ b ∷ c ∷ d ∷ []) rest is e = absurd (cc)
multiframe_passed s (word ∷ name ∷ deadline ∷ period ∷ wcet ∷ wcets) rest is e =
    let five = passed _ _ e in
    let six = passed _ _ five.1 in
    let seven = passed _ _ six.1 in
    let eight = passed _ _ seven.1 in
    let nine = passed _ _ eight.1 in
    let full = passed _ _ nine.1 in
    let most = passed _ _ full.1 in
    let n = every_of_all is_number (deadline ∷ period ∷ wcet ∷ wcets) (not_false _ five.0) in
    let r = every_of_all is_in_range (deadline ∷ period ∷ wcet ∷ wcets) (not_false _ six.0) in
    let first : word ≡ multiframe_word = cc in
    let count : length (frames_of_period (value deadline) (value period) (map value (wcet ∷ wcets))) ≡ length (wcet ∷ wcets)
    = period_count (value deadline) (value period) (map value (wcet ∷ wcets)) ∙ length-map (wcet ∷ wcets) value in
    record {
      says = record {
        first = deadline;
        second = period;
        others = wcet ∷ wcets;
        spelled = ap (λ w. w ∷ name ∷ deadline ∷ period ∷ wcet ∷ wcets) first;
        deadline_is = number_means deadline (value deadline) (n.0, refl);
        period_is = number_means period (value period) (n.1.0, refl);
        wcets_are = meant_all (wcet ∷ wcets) n.1.1;
      };
      fits = record {
        name = is_a_name name (not_false _ seven.0);
        new = eight.0;
        room = room_of (classic_task_count s) full.0;
        few = (let most_48 = few_of (length (wcet ∷ wcets)) most.0 in omega (arith, count, most_48));
        frames = period_frames deadline period (wcet ∷ wcets) r.0 r.1.0 nine.0 r.1.1;
      };
    }

-- What fields keep that mean these execution times.
record MeantAll (ws : List (List ℕ)) (ns : List ℕ) : Type 0 where
  numbers : AllByRecursion (λ w. is_number w ≡ true) ws
  in_range : AllByRecursion (λ w. is_in_range w ≡ true) ws
  are : map value ws ≡ ns

meant_again : (deadline period : ℕ) (ws : List (List ℕ)) (ns : List ℕ) → AllZip (IsNumber 10) ws ns → AllByRecursion IsFrame (frames_of_period deadline period ns) → MeantAll ws ns
meant_again deadline period [] [] m are = record { numbers = tt; in_range = tt; are = refl }
meant_again deadline period [] (n ∷ ns) m are = absurd m
meant_again deadline period (w ∷ ws) [] m are = absurd m
meant_again deadline period (w ∷ ws) (n ∷ ns) m are =
    let r = meant_again deadline period ws ns m.1 are.1 in
    let x = means_number w n m.0 in
    record {
      numbers = (x.0, r.numbers);
      in_range = (range_of w n x.1 are.0.wcet, r.in_range);
      are = rw (x.1, r.are) refl;
    }

same_multiframe : (name : List ℕ) (a b c d : ℕ) (xs ys : List ℕ) → a ≡ b → c ≡ d → xs ≡ ys → saying.Task (Multiframe name a c xs) ≡ saying.Task (Multiframe name b d ys)
same_multiframe name a b c d xs ys e f g = rw (e, f, g) refl

pub multiframe_again : (s : State) (words : List (List ℕ)) (name : List ℕ) (deadline period : ℕ) (wcets : List ℕ) → SaysMultiframe words name deadline period wcets
    → FitsTask s (Multiframe name deadline period wcets) → 1 ≤ length wcets
    → Again (multiframe_fault s words) (classic_said_by kinds.Multiframe words) (saying.Task (Multiframe name deadline period wcets))
unfolding multiframe_fault classic_said_by
multiframe_again s words name deadline period wcets says fits has =
    let count = period_count deadline period wcets in
    let few = fits.few in
    go says.others wcets says.spelled says.wcets_are (omega (arith, count, few)) has fits.frames
  where
    go : (others : List (List ℕ)) (ns : List ℕ) → words ≡ multiframe_word ∷ name ∷ says.first ∷ says.second ∷ others → AllZip (IsNumber 10) others ns → length ns ≤ 48 → 1 ≤ length ns
        → AllByRecursion IsFrame (frames_of_period deadline period ns) → Again (multiframe_fault s words) (classic_said_by kinds.Multiframe words) (saying.Task (Multiframe name deadline period ns))
    go others [] spelled mean few one are = absurd (omega (arith, one))
    go [] (n ∷ ns) spelled mean few one are = absurd mean
    go (w ∷ ws) (n ∷ ns) spelled mean few one are =
        let m = meant_again deadline period (w ∷ ws) (n ∷ ns) mean are in
        let long : length (w ∷ ws) ≡ length (n ∷ ns) = sym (length-map (w ∷ ws) value) ∙ ap length m.are in
        let frame = are.0 in
        let deadline_is = means_number says.first deadline says.deadline_is in
        let period_is = means_number says.second period says.period_is in
        let numbers = all_of_every is_number (says.first ∷ says.second ∷ w ∷ ws) (deadline_is.0, (period_is.0, m.numbers)) in
        let in_range = all_of_every is_in_range (says.first ∷ says.second ∷ w ∷ ws)
        (range_of says.first deadline deadline_is.1 frame.deadline, (range_of says.second period period_is.1 frame.sep, m.in_range)) in
        let past = past_not says.first says.second deadline period deadline_is.1 period_is.1 frame.constrained in
        rw spelled (record {
          none = passes _ _ (not_true _ numbers) (passes _ _ (not_true _ in_range) (passes _ _ (not_true (is_name name) (name_is name fits.name)) (passes _ _ fits.new (passes _ _ past
              (passes _ _ (room_again (classic_task_count s) fits.room) (passes _ _ (few_again (length (w ∷ ws)) (omega (arith, long, few))) none_left))))));
          is = same_multiframe name (value says.first) deadline (value says.second) period (map value (w ∷ ws)) (n ∷ ns) deadline_is.1 period_is.1 m.are;
        })

-- A `gmf` or `noncyclic` line.

record OpenPassed (s : State) (words : List (List ℕ)) : Type 0 where
  word : List ℕ
  name : List ℕ
  spelled : words ≡ word ∷ name ∷ []
  named : IsName name
  new : has_classic_task name s ≡ false
  room : classic_task_count s < 16

open_passed : (s : State) (words : List (List ℕ)) → open_fault s words ≡ None → OpenPassed s words
unfolding open_fault
open_passed s [] e = absurd (cc)
open_passed s (a ∷ []) e = absurd (cc)
open_passed s (a ∷ b ∷ c ∷ words) e = absurd (cc)
open_passed s (word ∷ name ∷ []) e =
    let seven = passed _ _ e in
    let eight = passed _ _ seven.1 in
    let full = passed _ _ eight.1 in
    record { word = word; name = name; spelled = refl; named = is_a_name name (not_false _ seven.0); new = eight.0; room = room_of (classic_task_count s) full.0 }

pub gmf_passed : (s : State) (words rest : List (List ℕ)) → words ≡ gmf_word ∷ rest → open_fault s words ≡ None → Passed s words (classic_said_by kinds.Gmf words)
unfolding classic_said_by
gmf_passed s words rest is e =
    let p = open_passed s words e in
    let same : p.word ∷ p.name ∷ [] ≡ gmf_word ∷ rest = sym p.spelled ∙ is in
    let first : p.word ≡ gmf_word = cc in
    rw p.spelled (record {
      says = (ap (λ w. w ∷ p.name ∷ []) first, refl);
      fits = record { name = p.named; new = p.new; room = p.room; few = omega arith; frames = tt };
    })

pub noncyclic_passed : (s : State) (words rest : List (List ℕ)) → words ≡ noncyclic_word ∷ rest → open_fault s words ≡ None → Passed s words (classic_said_by kinds.Noncyclic words)
unfolding classic_said_by
noncyclic_passed s words rest is e =
    let p = open_passed s words e in
    let same : p.word ∷ p.name ∷ [] ≡ noncyclic_word ∷ rest = sym p.spelled ∙ is in
    let first : p.word ≡ noncyclic_word = cc in
    rw p.spelled (record {
      says = (ap (λ w. w ∷ p.name ∷ []) first, refl);
      fits = record { name = p.named; new = p.new; room = p.room; few = omega arith; frames = tt };
    })

open_again : (s : State) (word name : List ℕ) → IsName name → has_classic_task name s ≡ false → classic_task_count s < 16 → open_fault s (word ∷ name ∷ []) ≡ None
unfolding open_fault
open_again s word name named new room =
    passes _ _ (not_true (is_name name) (name_is name named)) (passes _ _ new (passes _ _ (room_again (classic_task_count s) room) none_left))

pub gmf_again : (s : State) (words : List (List ℕ)) (name : List ℕ) (frames : List Frame) → words ≡ gmf_word ∷ name ∷ [] → frames ≡ [] → FitsTask s (Cyclic name frames)
    → Again (open_fault s words) (classic_said_by kinds.Gmf words) (saying.Task (Cyclic name frames))
unfolding classic_said_by
gmf_again s words name frames spelled none fits =
    let at = open_again s gmf_word name fits.name fits.new fits.room in
    rw (spelled, none) (record { none = at; is = refl })

pub noncyclic_again : (s : State) (words : List (List ℕ)) (name : List ℕ) (frames : List Frame) → words ≡ noncyclic_word ∷ name ∷ [] → frames ≡ [] → FitsTask s (Free name frames)
    → Again (open_fault s words) (classic_said_by kinds.Noncyclic words) (saying.Task (Free name frames))
unfolding classic_said_by
noncyclic_again s words name frames spelled none fits =
    let at = open_again s noncyclic_word name fits.name fits.new fits.room in
    rw (spelled, none) (record { none = at; is = refl })

-- A `frame` line.

pub frame_passed : (s : State) (words rest : List (List ℕ)) → words ≡ frame_word ∷ rest → frame_fault s words ≡ None → Passed s words (classic_said_by kinds.Frame words)
unfolding frame_fault classic_said_by
frame_passed s [] rest is e = absurd (cc)
frame_passed s (a ∷ []) rest is e = absurd (cc)
frame_passed s (a ∷ b ∷ []) rest is e = absurd (cc)
frame_passed s (a ∷ b ∷ c ∷ []) rest is e = absurd (cc)
frame_passed s (a ∷ b ∷ c ∷ d ∷ p ∷ words) rest is e = absurd (cc)
frame_passed s (word ∷ wcet ∷ deadline ∷ sep ∷ []) rest is e =
    let five = passed _ _ e in
    let six = passed _ _ five.1 in
    let nine = passed _ _ six.1 in
    let forty = passed _ _ nine.1 in
    let room = passed _ _ forty.1 in
    let t = times_of wcet deadline sep five.0 six.0 in
    let first : word ≡ frame_word = cc in
    record {
      says = record { wcet = wcet; deadline = deadline; sep = sep; spelled = ap (λ w. w ∷ wcet ∷ deadline ∷ sep ∷ []) first; times = frame_meant wcet deadline sep t };
      fits = record { unfinished = not_false _ forty.0; room = room.0; frame = frame_is wcet deadline sep t nine.0 };
    }

pub frame_again : (s : State) (words : List (List ℕ)) (f : Frame) → SaysFrame words f → FitsFrame s f → Again (frame_fault s words) (classic_said_by kinds.Frame words) (saying.Frame f)
unfolding frame_fault classic_said_by
frame_again s words f says fits =
    let m = meant says.wcet says.deadline says.sep f says.times fits.frame in
    rw says.spelled (record {
      none = passes _ _ m.numbers (passes _ _ m.in_range (passes _ _ m.not_past (passes _ _ (not_true (in_last is_open s) fits.unfinished) (passes _ _ fits.room none_left))));
      is = ap saying.Frame m.is;
    })

-- An `end` line.

pub end_passed : (s : State) (words rest : List (List ℕ)) → words ≡ end_word ∷ rest → classic_end_fault words ≡ None → Passed s words (classic_said_by kinds.End words)
unfolding classic_end_fault classic_said_by
end_passed s [] rest is e = absurd (cc)
end_passed s (a ∷ b ∷ words) rest is e = absurd (cc)
end_passed s (word ∷ []) rest is e =
    let first : word ≡ end_word = cc in
    record { says = ap (λ w. w ∷ []) first; fits = tt }

pub end_again : (words : List (List ℕ)) → words ≡ end_word ∷ [] → Again (classic_end_fault words) (classic_said_by kinds.End words) saying.End
unfolding classic_end_fault classic_said_by
end_again words spelled = rw spelled (record { none = refl; is = refl })
