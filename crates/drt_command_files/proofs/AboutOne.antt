-- A text is about one set under one policy: what stands behind `end` doesn't matter.
use Rattle.std.proofs.Common.{◌≡◌, ℕ, ◌<◌, ◌⊎◌, inl, inr, Bool, true, false, not, ◌||◌, ◌==◌, cond, List, [], ◌∷◌, ◌++◌, length, length-append}
use Rattle.std.proofs.Common.{get_or, map, codes, refl, sym, ap, subst, ◌∙◌, append_assoc, arith}
use Rattle.std.specs.Prelude.{◌&&◌, filter, Option, None}
use Rattle.std.specs.List.{list_any}
use Rattle.std.proofs.lemmas.List.{append-nil, append_cancel_left, map-append}
use Rattle.std.proofs.lemmas.List.Elements.{filter-append}
use Rattle.drt_model.specs.Contents.{Contents}
use Rattle.drt_model.specs.declared.jobs.Policy.{Policy}
use Rattle.drt_model.specs.declared.jobs.Policy.TheVariants.{Edf, Fixed}
use Rattle.drt_model.specs.declared.tasks.Edge.{Edge}
use Rattle.drt_model.specs.declared.tasks.Task.{Task}
use Rattle.drt_model.specs.declared.tasks.Vertex.{Vertex}
use Rattle.drt_file.specs.trusted.Canonical.{end_line, version_line}
use Rattle.drt_file.specs.trusted.Cutting.{fields, fields_after, is_blank, lines, lines_after, with_run}
use Rattle.drt_file.specs.trusted.Line.{is_skipped, said}
use Rattle.drt_file.specs.trusted.Reading.{Reads, Says, SaysTasks, edge, next_task, no_task, nothing, priority, vertex}
use Rattle.drt_file.specs.trusted.Words.{policy_word}
use Rattle.drt_file.proofs.Cuts.{with_run_of}
use Rattle.drt_file.proofs.Exact.{one_set}
use Rattle.drt_command_files.specs.Verdicts.{IsAbout}

-- The lines of a text and of what is longer: the same ones, and then what is begun.
abbrev LinesOfBoth : List ℕ → List ℕ → List ℕ → Type 0
LinesOfBoth begun text more = (front : List (List ℕ)) × (last : List ℕ) × (lines_after begun text ≡ front ++ with_run last [])
    × (lines_after begun (text ++ more) ≡ front ++ lines_after last more)

lines_of_both : (begun text more : List ℕ) → LinesOfBoth begun text more
unfolding lines_after
lines_of_both begun [] more = ([], begun, refl, refl)
lines_of_both begun (b ∷ bs) more = go (b == 10) (lines_of_both [] bs more) (lines_of_both (begun ++ b ∷ []) bs more)
  where
    go : (t : Bool) → LinesOfBoth [] bs more → LinesOfBoth (begun ++ b ∷ []) bs more → (front : List (List ℕ)) × (last : List ℕ)
        × (cond t (begun ∷ lines_after [] bs) (lines_after (begun ++ b ∷ []) bs) ≡ front ++ with_run last [])
        × (cond t (begun ∷ lines_after [] (bs ++ more)) (lines_after (begun ++ b ∷ []) (bs ++ more)) ≡ front ++ lines_after last more)
    go true c d = (begun ∷ c.0, c.1, ap (λ ls. begun ∷ ls) c.2, ap (λ ls. begun ∷ ls) c.3)
    go false c d = d

-- So of the fields of a line.
abbrev FieldsOfBoth : List ℕ → List ℕ → List ℕ → Type 0
FieldsOfBoth begun line more = (front : List (List ℕ)) × (last : List ℕ) × (fields_after begun line ≡ front ++ with_run last [])
    × (fields_after begun (line ++ more) ≡ front ++ fields_after last more)

run_apart : (run : List ℕ) (others : List (List ℕ)) → with_run run others ≡ with_run run [] ++ others
unfolding with_run
run_apart [] others = refl
run_apart (b ∷ bs) others = refl

fields_of_both : (begun line more : List ℕ) → FieldsOfBoth begun line more
unfolding fields_after
fields_of_both begun [] more = ([], begun, refl, refl)
fields_of_both begun (b ∷ bs) more = go (is_blank b) (fields_of_both [] bs more) (fields_of_both (begun ++ b ∷ []) bs more)
  where
    go : (t : Bool) → FieldsOfBoth [] bs more → FieldsOfBoth (begun ++ b ∷ []) bs more → (front : List (List ℕ)) × (last : List ℕ)
        × (cond t (with_run begun (fields_after [] bs)) (fields_after (begun ++ b ∷ []) bs) ≡ front ++ with_run last [])
        × (cond t (with_run begun (fields_after [] (bs ++ more))) (fields_after (begun ++ b ∷ []) (bs ++ more)) ≡ front ++ fields_after last more)
    go true c d = (
      with_run begun [] ++ c.0,
      c.1,
      run_apart begun (fields_after [] bs) ∙ ap (λ fs. with_run begun [] ++ fs) c.2 ∙ sym (append_assoc (with_run begun []) c.0 (with_run c.1 [])),
      run_apart begun (fields_after [] (bs ++ more)) ∙ ap (λ fs. with_run begun [] ++ fs) c.3
          ∙ sym (append_assoc (with_run begun []) c.0 (fields_after c.1 more)),
    )
    go false c d = d

-- What is begun goes on as the first line, or as the first field.
line_grows : (begun more : List ℕ) → 0 < length begun → (y : List ℕ) × (rest : List (List ℕ)) × (lines_after begun more ≡ (begun ++ y) ∷ rest)
unfolding lines_after
line_grows begun [] some = ([], [], with_run_of begun [] some ∙ ap (λ l. l ∷ []) (sym (append-nil begun)))
line_grows begun (b ∷ bs) some =
    go (b == 10) (line_grows (begun ++ b ∷ []) bs (let grown = length-append begun (b ∷ []) in omega (arith, grown)))
  where
    go : (t : Bool) → (y : List ℕ) × (rest : List (List ℕ)) × (lines_after (begun ++ b ∷ []) bs ≡ ((begun ++ b ∷ []) ++ y) ∷ rest)
        → (y : List ℕ) × (rest : List (List ℕ)) × (cond t (begun ∷ lines_after [] bs) (lines_after (begun ++ b ∷ []) bs) ≡ (begun ++ y) ∷ rest)
    go true c = ([], lines_after [] bs, ap (λ l. l ∷ lines_after [] bs) (sym (append-nil begun)))
    go false c = (b ∷ c.0, c.1, c.2 ∙ ap (λ l. l ∷ c.1) (append_assoc begun (b ∷ []) c.0))

field_grows : (begun more : List ℕ) → 0 < length begun → (z : List ℕ) × (others : List (List ℕ)) × (fields_after begun more ≡ (begun ++ z) ∷ others)
unfolding fields_after
field_grows begun [] some = ([], [], with_run_of begun [] some ∙ ap (λ f. f ∷ []) (sym (append-nil begun)))
field_grows begun (b ∷ bs) some =
    go (is_blank b) (field_grows (begun ++ b ∷ []) bs (let grown = length-append begun (b ∷ []) in omega (arith, grown)))
  where
    go : (t : Bool) → (z : List ℕ) × (others : List (List ℕ)) × (fields_after (begun ++ b ∷ []) bs ≡ ((begun ++ b ∷ []) ++ z) ∷ others)
        → (z : List ℕ) × (others : List (List ℕ))
        × (cond t (with_run begun (fields_after [] bs)) (fields_after (begun ++ b ∷ []) bs) ≡ (begun ++ z) ∷ others)
    go true c = ([], fields_after [] bs, with_run_of begun (fields_after [] bs) some ∙ ap (λ f. f ∷ fields_after [] bs) (sym (append-nil begun)))
    go false c = (b ∷ c.0, c.1, c.2 ∙ ap (λ f. f ∷ c.1) (append_assoc begun (b ∷ []) c.0))

-- A line of one field that goes on still begins with this field's bytes.
only_field_grows : (line more word : List ℕ) → fields line ≡ word ∷ []
    → (z : List ℕ) × (others : List (List ℕ)) × (fields (line ++ more) ≡ (word ++ z) ∷ others)
unfolding with_run
only_field_grows line more word is = go c.0 c.1 (sym c.2 ∙ is) c.3
  where
    c : FieldsOfBoth [] line more
    c = fields_of_both [] line more

    go : (front : List (List ℕ)) (last : List ℕ) → front ++ with_run last [] ≡ word ∷ [] → fields (line ++ more) ≡ front ++ fields_after last more
        → (z : List ℕ) × (others : List (List ℕ)) × (fields (line ++ more) ≡ (word ++ z) ∷ others)
    go [] [] e f = absurd (cc)
    go [] (b ∷ bs) e f =
        let same : b ∷ bs ≡ word = cc in
        let g = field_grows (b ∷ bs) more (omega arith) in
        (g.0, g.1, f ∙ g.2 ∙ ap (λ w. (w ++ g.0) ∷ g.1) same)
    go (w ∷ front) last e f =
        let same : w ≡ word = cc in
        ([], front ++ fields_after last more, f ∙ ap (λ v. v ∷ (front ++ fields_after last more)) (same ∙ sym (append-nil word)))

-- The last of some lines.
no_last : {X : Type 0} (xs : List X) (x : X) (rest : List X) → xs ++ x ∷ rest ≡ [] → ⊥
no_last [] x rest e = cc
no_last (y ∷ xs) x rest e = cc

last_same : {X : Type 0} (xs ys : List X) (x y : X) → xs ++ x ∷ [] ≡ ys ++ y ∷ [] → (xs ≡ ys) × (x ≡ y)
last_same [] [] x y e = (refl, cc)
last_same [] (z ∷ ys) x y e = absurd (no_last ys y [] (let rest : ys ++ y ∷ [] ≡ [] = cc in rest))
last_same (z ∷ xs) [] x y e = absurd (no_last xs x [] (let rest : xs ++ x ∷ [] ≡ [] = cc in rest))
last_same (z ∷ xs) (w ∷ ys) x y e =
    let r = last_same xs ys x y (let rest : xs ++ x ∷ [] ≡ ys ++ y ∷ [] = cc in rest) in
    let first : z ≡ w = cc in
    (ap (λ v. v ∷ xs) first ∙ ap (λ vs. w ∷ vs) r.0, r.1)

abbrev kept : List (List ℕ) → Bool
kept words = not (is_skipped words)

-- What some lines say.
abbrev says_of : List (List ℕ) → List (List (List ℕ))
says_of ls = filter kept (map fields ls)

says_both : (xs ys : List (List ℕ)) → says_of (xs ++ ys) ≡ says_of xs ++ says_of ys
says_both xs ys = ap (filter kept) (map-append fields xs ys) ∙ filter-append kept (map fields xs) (map fields ys)

-- What a longer text says: the same up to the last line, then a line that begins as that one, then more.
abbrev GoesOn : List ℕ → List (List (List ℕ)) → Type 0
GoesOn text ls = (z : List ℕ) × (others : List (List ℕ)) × (rest : List (List (List ℕ))) × (said text ≡ ls ++ ((codes "end" ++ z) ∷ others) ∷ rest)

goes_on : (body more : List ℕ) (ls : List (List (List ℕ))) → said body ≡ ls ++ end_line ∷ [] → GoesOn (body ++ more) ls
unfolding with_run is_skipped
goes_on body more ls is = go c.0 c.1 c.2 c.3
  where
    c : LinesOfBoth [] body more
    c = lines_of_both [] body more

    -- No line is begun, or one that is skipped.
    closed : (front : List (List ℕ)) (last : List ℕ) → said body ≡ says_of front ++ [] → lines (body ++ more) ≡ front ++ lines_after last more
        → GoesOn (body ++ more) ls
    closed front last e f =
        let whole : says_of front ≡ ls ++ end_line ∷ [] = sym (append-nil (says_of front)) ∙ sym e ∙ is in
        let rest = says_of (lines_after last more) in
        ([], [], rest, ap says_of f ∙ says_both front (lines_after last more) ∙ ap (λ l. l ++ rest) whole ∙ append_assoc ls (end_line ∷ []) rest)

    -- The line that is begun is the last one.
    begun_last : (front : List (List ℕ)) (last : List ℕ) → 0 < length last → said body ≡ says_of front ++ fields last ∷ []
        → lines (body ++ more) ≡ front ++ lines_after last more
        → GoesOn (body ++ more) ls
    begun_last front last some e f =
        let both = last_same (says_of front) ls (fields last) end_line (sym e ∙ is) in
        let line = line_grows last more some in
        let field = only_field_grows last line.0 (codes "end") both.1 in
        let behind : says_of (lines_after last more) ≡ ((codes "end" ++ field.0) ∷ field.1) ∷ says_of line.1
        = ap says_of line.2 ∙ ap (λ words. filter kept (words ∷ map fields line.1)) field.2 in (
          field.0,
          field.1,
          says_of line.1,
          ap says_of f ∙ says_both front (lines_after last more) ∙ ap (λ l. l ++ says_of (lines_after last more)) both.0 ∙ ap (λ l. ls ++ l) behind,
        )

    go : (front : List (List ℕ)) (last : List ℕ) → lines body ≡ front ++ with_run last []
        → lines (body ++ more) ≡ front ++ lines_after last more → GoesOn (body ++ more) ls
    go front [] e f = closed front [] (ap says_of e ∙ says_both front []) f
    go front (b ∷ bs) e f = by (is_skipped (fields (b ∷ bs))) refl
      where
        whole : said body ≡ says_of front ++ says_of ((b ∷ bs) ∷ [])
        whole = ap says_of e ∙ says_both front ((b ∷ bs) ∷ [])

        by : (t : Bool) → is_skipped (fields (b ∷ bs)) ≡ t → GoesOn (body ++ more) ls
        by true skips = closed front (b ∷ bs) (whole ∙ ap (λ s. says_of front ++ cond (not s) (fields (b ∷ bs) ∷ []) []) skips) f
        by false stays = begun_last front (b ∷ bs) (omega arith) (whole ∙ ap (λ s. says_of front ++ cond (not s) (fields (b ∷ bs) ∷ []) []) stays) f

-- A line begins with the bytes `en`, as `end` does, and no line of a task.
abbrev begins_end : List (List ℕ) → Bool
begins_end [] = false
begins_end ([] ∷ words) = false
begins_end ((b ∷ []) ∷ words) = false
begins_end ((b ∷ c ∷ bs) ∷ words) = b == 101 && c == 110

none_of_both : (xs ys : List (List (List ℕ))) → list_any begins_end xs ≡ false → list_any begins_end ys ≡ false
    → list_any begins_end (xs ++ ys) ≡ false
none_of_both [] ys none more = more
none_of_both (x ∷ xs) ys none more = go (begins_end x) (list_any begins_end xs) none (none_of_both xs ys) more
  where
    go : (a b : Bool) → (a || b) ≡ false → (b ≡ false → list_any begins_end ys ≡ false → list_any begins_end (xs ++ ys) ≡ false)
        → list_any begins_end ys ≡ false
        → (a || list_any begins_end (xs ++ ys)) ≡ false
    go true b none rest more = absurd (cc)
    go false b none rest more = rest none more

body_none : (body : List (List (List ℕ))) (vs : List Vertex) (es : List Edge) (p : Option ℕ) → Says body vs es p → list_any begins_end body ≡ false
body_none body vs es p nothing = refl
body_none body vs es p (vertex above vs2 es2 p2 v wcet deadline says a b) =
    none_of_both above ((codes "vertex" ∷ v.name ∷ wcet ∷ deadline ∷ []) ∷ []) (body_none above vs2 es2 p2 says) refl
body_none body vs es p (edge above vs2 es2 p2 e from to sep says a b m) =
    none_of_both above ((codes "edge" ∷ from.name ∷ to.name ∷ sep ∷ []) ∷ []) (body_none above vs2 es2 p2 says) refl
body_none body vs es p (priority above vs2 es2 number n says m) =
    none_of_both above ((codes "priority" ∷ number ∷ []) ∷ []) (body_none above vs2 es2 None says) refl

tasks_none : (version : ℕ) (ls : List (List (List ℕ))) (ts : List Task) → SaysTasks version ls ts → list_any begins_end ls ≡ false
tasks_none version ls ts no_task = refl
tasks_none version ls ts (next_task above ts2 own t rest (body, own_is, says)) =
    none_of_both above own (tasks_none version above ts2 rest) (ap (list_any begins_end) own_is ∙ body_none body _ _ _ says)

-- Lines down to the first that begins with `en` are the same.
same_above : (xs ys : List (List (List ℕ))) (w e : List (List ℕ)) (rest : List (List (List ℕ))) → xs ++ w ∷ rest ≡ ys ++ e ∷ [] → begins_end w ≡ true
    → list_any begins_end ys ≡ false → xs ≡ ys
same_above [] [] w e rest is begins none = refl
same_above [] (y ∷ ys) w e rest is begins none =
    let same : w ≡ y = cc in
    absurd (clash (begins_end y) (list_any begins_end ys) (sym (ap begins_end same) ∙ begins) none)
  where
    clash : (a b : Bool) → a ≡ true → (a || b) ≡ false → ⊥
    clash true b is none = cc
    clash false b is none = cc
same_above (x ∷ xs) [] w e rest is begins none = absurd (no_last xs w rest (let tail : xs ++ w ∷ rest ≡ [] = cc in tail))
same_above (x ∷ xs) (y ∷ ys) w e rest is begins none =
    let first : x ≡ y = cc in
    let tail : xs ++ w ∷ rest ≡ ys ++ e ∷ [] = cc in
    ap (λ v. v ∷ xs) first ∙ ap (λ vs. y ∷ vs) (same_above xs ys w e rest tail begins (other (begins_end y) (list_any begins_end ys) none))
  where
    other : (a b : Bool) → (a || b) ≡ false → b ≡ false
    other true b none = absurd (cc)
    other false b none = none

-- A text that reads as a set, and a longer one that does.
longer_one : (body more : List ℕ) (s t : Contents) → Reads body s → Reads (body ++ more) t → s ≡ t
longer_one body more s t r q =
    let on = goes_on body more (version_line s.version ∷ r.task_lines) r.spelled in
    let word = (codes "end" ++ on.0) ∷ on.1 in
    let whole : version_line s.version ∷ (r.task_lines ++ word ∷ on.2) ≡ version_line t.version ∷ (q.task_lines ++ end_line ∷ [])
    = sym on.3 ∙ q.spelled in
    let version : version_line s.version ≡ version_line t.version = cc in
    let tail : r.task_lines ++ word ∷ on.2 ≡ q.task_lines ++ end_line ∷ [] = cc in
    let same = same_above r.task_lines q.task_lines word end_line on.2 tail refl (tasks_none t.version q.task_lines t.tasks q.tasks) in
    one_set body s t r (record {
      limits = q.limits;
      task_lines = q.task_lines;
      spelled = r.spelled ∙ ap (λ l. l ∷ (r.task_lines ++ end_line ∷ [])) version ∙ ap (λ ls. version_line t.version ∷ (ls ++ end_line ∷ [])) same;
      tasks = q.tasks;
    })

-- Of two texts at the front of one, one is at the front of the other.
either_longer : (xs ys us ws : List ℕ) → xs ++ us ≡ ys ++ ws → ((more : List ℕ) × (ys ≡ xs ++ more)) ⊎ ((more : List ℕ) × (xs ≡ ys ++ more))
either_longer [] ys us ws e = inl (ys, refl)
either_longer (x ∷ xs) [] us ws e = inr (x ∷ xs, refl)
either_longer (x ∷ xs) (y ∷ ys) us ws e = go (either_longer xs ys us ws (let tail : xs ++ us ≡ ys ++ ws = cc in tail))
  where
    first : x ≡ y
    first = cc

    go : ((more : List ℕ) × (ys ≡ xs ++ more)) ⊎ ((more : List ℕ) × (xs ≡ ys ++ more))
        → ((more : List ℕ) × (y ∷ ys ≡ x ∷ (xs ++ more))) ⊎ ((more : List ℕ) × (x ∷ xs ≡ y ∷ (ys ++ more)))
    go (inl m) = inl (m.0, ap (λ v. v ∷ ys) (sym first) ∙ ap (λ vs. x ∷ vs) m.1)
    go (inr m) = inr (m.0, ap (λ v. v ∷ xs) first ∙ ap (λ vs. y ∷ vs) m.1)

-- So one set stands at the front.
front_one : (first second us ws : List ℕ) (s t : Contents) → first ++ us ≡ second ++ ws → Reads first s → Reads second t → s ≡ t
front_one first second us ws s t e r q = go (either_longer first second us ws e)
  where
    go : ((more : List ℕ) × (second ≡ first ++ more)) ⊎ ((more : List ℕ) × (first ≡ second ++ more)) → s ≡ t
    go (inl m) = longer_one first m.0 s t r (subst (λ b. Reads b t) m.1 q)
    go (inr m) = sym (longer_one second m.0 t s q (subst (λ b. Reads b s) m.1 r))

-- Behind the same bytes stands one policy's word.
word_one : (p q : Policy) (a b : List ℕ) → policy_word p ++ 10 ∷ a ≡ policy_word q ++ 10 ∷ b → (p ≡ q) × (a ≡ b)
word_one Edf Edf a b e = (refl, append_cancel_left (101 ∷ 100 ∷ 102 ∷ 10 ∷ []) a b e)
word_one Edf Fixed a b e = let first : 101 ≡ 102 = ap (λ l. get_or l 0 0) e in absurd (omega (arith, first))
word_one Fixed Edf a b e = let first : 102 ≡ 101 = ap (λ l. get_or l 0 0) e in absurd (omega (arith, first))
word_one Fixed Fixed a b e = (refl, append_cancel_left (102 ∷ 105 ∷ 120 ∷ 101 ∷ 100 ∷ 10 ∷ []) a b e)

policy_one : (head : List ℕ) (p q : Policy) (a b : List ℕ) → head ++ (policy_word p ++ 10 ∷ a) ≡ head ++ (policy_word q ++ 10 ∷ b) → (p ≡ q) × (a ≡ b)
policy_one head p q a b e = word_one p q a b (append_cancel_left head (policy_word p ++ 10 ∷ a) (policy_word q ++ 10 ∷ b) e)

-- A text is about one set under one policy.
pub about_one : (p q : Policy) (s t : Contents) (bytes : List ℕ) → IsAbout p s bytes → IsAbout q t bytes → (p ≡ q) × (s ≡ t)
about_one p q s t bytes a b =
    let r = policy_one (codes "drt-dossier 1\npolicy ") p q (a.body ++ a.rest) (b.body ++ b.rest) (sym a.is ∙ b.is) in
    (r.0, front_one a.body b.body a.rest b.rest s t r.1 a.reads b.reads)
