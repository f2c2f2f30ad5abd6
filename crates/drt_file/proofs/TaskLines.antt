-- The first task that lacks a line of some kind is the same by the lines of a text and by the tasks that the reader keeps.
use Rattle.std.proofs.Common.{◌≡◌, ℕ, suc, ◌+◌, Bool, true, false, not, ◌&&◌, ◌||◌, List, [], ◌∷◌, ◌++◌, length, map, Option, Some, None, Result, Ok, Err, refl, sym, ap, subst, ◌∙◌, append_assoc, arith, cond, length-append}
use Rattle.std.specs.Prelude.{bytes_eq, ◌==◌, option_map}
use Rattle.std.specs.List.{list_any}
use Rattle.std.proofs.lemmas.List.{append-nil}
use Rattle.std.proofs.lemmas.Slice.Eq.{bytes_eq-Decides}
use Rattle.drt_model.specs.declared.tasks.Vertex.{Vertex}
use Rattle.drt_file.specs.declared.state.Draft.{Draft}
use Rattle.drt_file.specs.declared.state.State.{State}
use Rattle.drt_file.specs.declared.state.Kind.{Kind}
use Rattle.drt_file.specs.declared.state.Kind.TheVariants as kinds
use Rattle.drt_file.specs.declared.fault.FileFault.{FileFault}
use Rattle.drt_file.specs.trusted.Cutting.{fields}
use Rattle.drt_file.specs.trusted.Words.{drt_word, task_word, vertex_word, edge_word, priority_word, end_word}
use Rattle.drt_file.specs.trusted.Line.{is_skipped}
use Rattle.drt_file.specs.trusted.Faults.{Fields, field, is_task, has_task, lines_of_task, first_without}
use Rattle.drt_file.specs.internal.Kinds.{kind, first_word}
use Rattle.drt_file.specs.internal.StateFaults.{kind_fault, line_fault}
use Rattle.drt_file.specs.internal.Steps.{◌>>=◌, capped, with_last, with_vertex, with_edge, with_priority, opening_priority, after_kind, after_task, after_end, on_current, opening, head, headed, judged, line_step, step, steps, first_line}
use Rattle.drt_file.proofs.Follows.{task_kind, vertex_kind, edge_kind, priority_kind, end_kind, line_passed}
use Rattle.drt_file.proofs.LinesAbove.{any_push}
use Rattle.drt_file.proofs.Table.{task_passed, vertex_passed, edge_passed, priority_passed, end_passed}

-- What stands where nothing stands before it.
abbrev or_else : Option ℕ → Option ℕ → Option ℕ
or_else None next = next
or_else (Some n) next = Some n

lines_cut : (xs : List Fields) (t : Fields) (body : List Fields) → is_task t ≡ true → lines_of_task (xs ++ t ∷ body) ≡ lines_of_task xs
unfolding lines_of_task
lines_cut [] t body is = rw is refl
lines_cut (x ∷ xs) t body is = ap (λ l. cond (is_task x) [] (x ∷ l)) (lines_cut xs t body is)

lines_all : (body : List Fields) → has_task body ≡ false → lines_of_task body ≡ body
unfolding lines_of_task has_task
lines_all [] none = refl
lines_all (x ∷ body) none = go (is_task x) none (lines_all body)
  where
    go : (b : Bool) → (b || list_any is_task body) ≡ false → (list_any is_task body ≡ false → lines_of_task body ≡ body) → cond b [] (x ∷ lines_of_task body) ≡ x ∷ body
    go true h rest = absurd (cc)
    go false h rest = ap (λ l. x ∷ l) (rest h)

without_none : (such : Fields → Bool) (n : ℕ) (body : List Fields) → has_task body ≡ false → first_without such n body ≡ None
unfolding first_without has_task
without_none such n [] none = refl
without_none such n (x ∷ body) none = go (is_task x) none (without_none such (n + 1) body)
  where
    go : (b : Bool) → (b || list_any is_task body) ≡ false → (list_any is_task body ≡ false → first_without such (n + 1) body ≡ None)
        → cond (b && not (list_any such (lines_of_task body))) (Some n) (first_without such (n + 1) body) ≡ None
    go true h rest = absurd (cc)
    go false h rest = rest h

abbrev lacking : Bool → ℕ → Option ℕ
lacking true n = None
lacking false n = Some n

-- The last task comes behind those before it.
without_last : (such : Fields → Bool) (n : ℕ) (xs : List Fields) (t : Fields) (body : List Fields) → is_task t ≡ true → has_task body ≡ false
    → first_without such n (xs ++ t ∷ body) ≡ or_else (first_without such n xs) (lacking (list_any such body) (n + length xs))
unfolding first_without
without_last such n [] t body is none =
    rw (is, lines_all body none, without_none such (n + 1) body none) (go (list_any such body))
  where
    go : (b : Bool) → cond (not b) (Some n) None ≡ lacking b (n + 0)
    go true = refl
    go false = ap (λ k. Some k) (omega arith)
without_last such n (x ∷ xs) t body is none =
    ap (λ l. cond (is_task x && not (list_any such l)) (Some n) (first_without such (n + 1) (xs ++ t ∷ body))) (lines_cut xs t body is)
    ∙ go (is_task x && not (list_any such (lines_of_task xs))) (without_last such (n + 1) xs t body is none)
  where
    go : (b : Bool) → first_without such (n + 1) (xs ++ t ∷ body) ≡ or_else (first_without such (n + 1) xs) (lacking (list_any such body) (n + 1 + length xs))
        → cond b (Some n) (first_without such (n + 1) (xs ++ t ∷ body)) ≡ or_else (cond b (Some n) (first_without such (n + 1) xs)) (lacking (list_any such body) (n + suc (length xs)))
    go true rest = refl
    go false rest = rest ∙ ap (λ k. or_else (first_without such (n + 1) xs) (lacking (list_any such body) k)) (omega arith)

line_last : (test : Draft → Bool) (ds : List Draft) (d : Draft) → first_line test (ds ++ d ∷ []) ≡ or_else (first_line test ds) (lacking (not (test d)) d.line)
unfolding first_line
line_last test [] d = go (test d)
  where
    go : (b : Bool) → cond b (Some d.line) None ≡ lacking (not b) d.line
    go true = refl
    go false = refl
line_last test (c ∷ ds) d = go (test c) (line_last test ds d)
  where
    go : (b : Bool) → first_line test (ds ++ d ∷ []) ≡ or_else (first_line test ds) (lacking (not (test d)) d.line)
        → cond b (Some c.line) (first_line test (ds ++ d ∷ [])) ≡ or_else (cond b (Some c.line) (first_line test ds)) (lacking (not (test d)) d.line)
    go true rest = refl
    go false rest = rest

-- The lines so far, `every`, against the tasks that they leave.
pub record Placed (such : Fields → Bool) (test : Draft → Bool) (every : List Fields) (closed : List Draft) (d : Draft) : Type 0 where
  pub before : List Fields
  pub first : Fields
  pub body : List Fields
  pub every_is : every ≡ before ++ first ∷ body
  pub opens : is_task first ≡ true
  pub none_below : has_task body ≡ false
  pub at : d.line ≡ 1 + length before
  pub earlier : first_without such 1 before ≡ first_line test closed
  pub own : list_any such body ≡ not (test d)

abbrev pub PlacedOf : (Fields → Bool) → (Draft → Bool) → List Fields → List Draft → Option Draft → Type 0
PlacedOf such test every closed None = (closed ≡ []) × (has_task every ≡ false)
PlacedOf such test every closed (Some d) = Placed such test every closed d

-- Among all tasks the first that lacks such a line.
pub placed_same : (such : Fields → Bool) (test : Draft → Bool) (every : List Fields) (closed : List Draft) (o : Option Draft) → PlacedOf such test every closed o
    → first_without such 1 every ≡ first_line test (with_last closed o)
unfolding with_last first_line
placed_same such test every closed None p = without_none such 1 every p.1 ∙ sym (ap (first_line test) p.0)
placed_same such test every closed (Some d) p =
    ap (first_without such 1) p.every_is ∙ without_last such 1 p.before p.first p.body p.opens p.none_below
    ∙ ap (λ o. or_else o (lacking (list_any such p.body) (1 + length p.before))) p.earlier
    ∙ ap (λ b. or_else (first_line test closed) (lacking b (1 + length p.before))) p.own
    ∙ ap (λ n. or_else (first_line test closed) (lacking (not (test d)) n)) (sym p.at)
    ∙ sym (line_last test closed d)

or_none : (a b : Bool) → a ≡ false → b ≡ false → (a || b) ≡ false
or_none a b p q = rw p q

no_task_more : (ls : List Fields) (w : Fields) → has_task ls ≡ false → is_task w ≡ false → has_task (ls ++ w ∷ []) ≡ false
unfolding has_task
no_task_more ls w none is = any_push is_task ls w ∙ or_none (list_any is_task ls) (is_task w) none is

placed_more : (such : Fields → Bool) (test : Draft → Bool) (every : List Fields) (closed : List Draft) (d e : Draft) (w : Fields) → Placed such test every closed d
    → is_task w ≡ false → e.line ≡ d.line → (not (test d) || such w) ≡ not (test e) → Placed such test (every ++ w ∷ []) closed e
placed_more such test every closed d e w p is line own = record {
  before = p.before;
  first = p.first;
  body = p.body ++ w ∷ [];
  every_is = ap (λ l. l ++ w ∷ []) p.every_is ∙ append_assoc p.before (p.first ∷ p.body) (w ∷ []);
  opens = p.opens;
  none_below = no_task_more p.body w p.none_below is;
  at = line ∙ p.at;
  earlier = p.earlier;
  own = any_push such p.body w ∙ ap (λ b. b || such w) p.own ∙ own;
}

placed_task : (such : Fields → Bool) (test : Draft → Bool) (every : List Fields) (closed : List Draft) (o : Option Draft) (e : Draft) (w : Fields) → PlacedOf such test every closed o
    → is_task w ≡ true → e.line ≡ 1 + length every → test e ≡ true → Placed such test (every ++ w ∷ []) (with_last closed o) e
unfolding has_task
placed_task such test every closed o e w p is line new = record {
  before = every;
  first = w;
  body = [];
  every_is = refl;
  opens = is;
  none_below = refl;
  at = line;
  earlier = placed_same such test every closed o p;
  own = ap not (sym new);
}

-- What lines of each kind do to a test of tasks, in versions with V.
pub record Tells (V : ℕ → Type 0) (such : Fields → Bool) (test : Draft → Bool) : Type 0 where
  pub opened : (s : State) (n : ℕ) (name : List ℕ) → V s.version → test (record { name = name; line = n; priority = opening_priority s; vertices = []; edges = [] }) ≡ true
  pub vertex : (d : Draft) (v : Vertex) (name wcet deadline : List ℕ) → (not (test d) || such (vertex_word ∷ name ∷ wcet ∷ deadline ∷ [])) ≡ not (test (with_vertex v d))
  pub edge : (d : Draft) (n : ℕ) (from to sep : List ℕ) → (not (test d) || such (edge_word ∷ from ∷ to ∷ sep ∷ [])) ≡ not (test (with_edge from to n d))
  pub priority : (d : Draft) (n : ℕ) (number : List ℕ) → (not (test d) || such (priority_word ∷ number ∷ [])) ≡ not (test (with_priority n d))
  pub end : such (end_word ∷ []) ≡ false
  pub head : (version : List ℕ) → such (drt_word ∷ version ∷ []) ≡ false
  pub skipped : (w : Fields) → is_skipped w ≡ true → such w ≡ false

-- A skipped line has none of the words.
pub skipped_word : (w : Fields) (b : ℕ) (bs : List ℕ) → (35 == b) ≡ false → is_skipped w ≡ true → bytes_eq (field 0 w) (b ∷ bs) ≡ false
unfolding is_skipped
skipped_word [] b bs other e = refl
skipped_word ([] ∷ words) b bs other e = absurd (cc)
skipped_word ((c ∷ cs) ∷ words) b bs other e = let is : c ≡ 35 = grind (arith, e) in rw is (ap (λ t. t && bytes_eq cs bs) other)

is_no_task_skipped : (w : Fields) → is_skipped w ≡ true → is_task w ≡ false
unfolding is_task
is_no_task_skipped w e = skipped_word w 116 (97 ∷ 115 ∷ 107 ∷ []) refl e

-- A line that is no `task` and not of that kind.
or_same : (a b : Bool) → b ≡ false → (a || b) ≡ a
or_same true b e = refl
or_same false b e = e

placed_other : (such : Fields → Bool) (test : Draft → Bool) (every : List Fields) (closed : List Draft) (o : Option Draft) (w : Fields) → PlacedOf such test every closed o
    → is_task w ≡ false → such w ≡ false → PlacedOf such test (every ++ w ∷ []) closed o
placed_other such test every closed None w p is none = (p.0, no_task_more every w p.1 is)
placed_other such test every closed (Some d) w p is none = placed_more such test every closed d d w p is refl (or_same (not (test d)) (such w) none)

-- The open task changes.
changed : (such : Fields → Bool) (test : Draft → Bool) (every : List Fields) (closed : List Draft) (change : Draft → Draft) (o : Option Draft) (d : Draft) (w : Fields) → o ≡ Some d
    → PlacedOf such test every closed o → is_task w ≡ false → (change d).line ≡ d.line → (not (test d) || such w) ≡ not (test (change d))
    → PlacedOf such test (every ++ w ∷ []) closed (option_map change o)
changed such test every closed change o d w at p is line own =
    subst (λ (c : Option Draft). PlacedOf such test (every ++ w ∷ []) closed (option_map change c)) (sym at)
    (placed_more such test every closed d (change d) w (subst (λ (c : Option Draft). PlacedOf such test every closed c) at p) is line own)

abbrev PlacedIn : (Fields → Bool) → (Draft → Bool) → List Fields → State → Type 0
PlacedIn such test every s = PlacedOf such test every s.closed s.current

kind_placed : (V : ℕ → Type 0) (such : Fields → Bool) (test : Draft → Bool) → Tells V such test → (every : List Fields) (n : ℕ) (s : State) (words : Fields) (k : Kind)
    → kind s.version (first_word words) ≡ k → kind_fault k s words ≡ None → n ≡ 1 + length every → V s.version → PlacedIn such test every s
    → PlacedIn such test (every ++ words ∷ []) (after_kind k n s words)
unfolding kind_fault after_kind after_task after_end on_current with_vertex with_edge with_priority is_task
kind_placed V such test tells every n s words kinds.Task k e count v p =
    let q = task_passed s words e in
    let is = task_kind s.version q.word (ap (λ l. kind s.version (first_word l)) (sym q.words_are) ∙ k) in
    let line : words ≡ task_word ∷ q.name ∷ [] = q.words_are ∙ ap (λ w. w ∷ q.name ∷ []) is in
    let d : Draft = record { name = q.name; line = n; priority = opening_priority s; vertices = []; edges = [] } in
    subst (λ l. PlacedIn such test (every ++ l ∷ []) (after_kind kinds.Task n s l)) (sym line)
    (placed_task such test every s.closed s.current d (task_word ∷ q.name ∷ []) p refl count (tells.opened s n q.name v))
kind_placed V such test tells every n s words kinds.Vertex k e count v p =
    let q = vertex_passed s words e in
    let is = vertex_kind s.version q.word (ap (λ l. kind s.version (first_word l)) (sym q.words_are) ∙ k) in
    let line : words ≡ vertex_word ∷ q.name ∷ q.wcet ∷ q.deadline ∷ [] = q.words_are ∙ ap (λ w. w ∷ q.name ∷ q.wcet ∷ q.deadline ∷ []) is in
    let x : Vertex = record { name = q.name; wcet = capped q.wcet; deadline = capped q.deadline } in
    subst (λ l. PlacedIn such test (every ++ l ∷ []) (after_kind kinds.Vertex n s l)) (sym line)
    (changed such test every s.closed (with_vertex x) s.current q.draft (vertex_word ∷ q.name ∷ q.wcet ∷ q.deadline ∷ []) q.in_a_task p refl refl (tells.vertex q.draft x q.name q.wcet q.deadline))
kind_placed V such test tells every n s words kinds.Edge k e count v p =
    let q = edge_passed s words e in
    let is = edge_kind s.version q.word (ap (λ l. kind s.version (first_word l)) (sym q.words_are) ∙ k) in
    let line : words ≡ edge_word ∷ q.from ∷ q.to ∷ q.sep ∷ [] = q.words_are ∙ ap (λ w. w ∷ q.from ∷ q.to ∷ q.sep ∷ []) is in
    subst (λ l. PlacedIn such test (every ++ l ∷ []) (after_kind kinds.Edge n s l)) (sym line)
    (changed such test every s.closed (with_edge q.from q.to (capped q.sep)) s.current q.draft (edge_word ∷ q.from ∷ q.to ∷ q.sep ∷ []) q.in_a_task p refl refl
    (tells.edge q.draft (capped q.sep) q.from q.to q.sep))
kind_placed V such test tells every n s words kinds.Priority k e count v p =
    let q = priority_passed s words e in
    let is = priority_kind s.version q.word (ap (λ l. kind s.version (first_word l)) (sym q.words_are) ∙ k) in
    let line : words ≡ priority_word ∷ q.number ∷ [] = q.words_are ∙ ap (λ w. w ∷ q.number ∷ []) is.0 in
    subst (λ l. PlacedIn such test (every ++ l ∷ []) (after_kind kinds.Priority n s l)) (sym line)
    (changed such test every s.closed (with_priority (capped q.number)) s.current q.draft (priority_word ∷ q.number ∷ []) q.in_a_task p refl refl
    (tells.priority q.draft (capped q.number) q.number))
kind_placed V such test tells every n s words kinds.End k e count v p =
    let q = end_passed words e in
    let is = end_kind s.version q.0 (ap (λ l. kind s.version (first_word l)) (sym q.1) ∙ k) in
    let line : words ≡ end_word ∷ [] = q.1 ∙ ap (λ w. w ∷ []) is in
    subst (λ l. PlacedIn such test (every ++ l ∷ []) (after_kind kinds.End n s l)) (sym line)
    (placed_other such test every s.closed s.current (end_word ∷ []) p refl tells.end)
kind_placed V such test tells every n s words kinds.Other k e count v p = absurd (cc)

version_kept : (k : Kind) (n : ℕ) (s : State) (words : Fields) → (after_kind k n s words).version ≡ s.version
unfolding after_kind after_task after_end on_current
version_kept kinds.Task n s [] = refl
version_kept kinds.Task n s (a ∷ []) = refl
version_kept kinds.Task n s (a ∷ b ∷ rest) = refl
version_kept kinds.Vertex n s [] = refl
version_kept kinds.Vertex n s (a ∷ []) = refl
version_kept kinds.Vertex n s (a ∷ b ∷ []) = refl
version_kept kinds.Vertex n s (a ∷ b ∷ c ∷ []) = refl
version_kept kinds.Vertex n s (a ∷ b ∷ c ∷ d ∷ rest) = refl
version_kept kinds.Edge n s [] = refl
version_kept kinds.Edge n s (a ∷ []) = refl
version_kept kinds.Edge n s (a ∷ b ∷ []) = refl
version_kept kinds.Edge n s (a ∷ b ∷ c ∷ []) = refl
version_kept kinds.Edge n s (a ∷ b ∷ c ∷ d ∷ rest) = refl
version_kept kinds.Priority n s [] = refl
version_kept kinds.Priority n s (a ∷ []) = refl
version_kept kinds.Priority n s (a ∷ b ∷ rest) = refl
version_kept kinds.End n s words = refl
version_kept kinds.Other n s words = refl

-- What is known after each line.
abbrev pub PlacedAt : (ℕ → Type 0) → (Fields → Bool) → (Draft → Bool) → List Fields → Option State → Type 0
PlacedAt V such test every None = has_task every ≡ false
PlacedAt V such test every (Some s) = V s.version → PlacedIn such test every s

head_placed : (V : ℕ → Type 0) (such : Fields → Bool) (test : Draft → Bool) (every : List Fields) (n : ℕ) (words : Fields) (below : Option State)
    → headed n (head words) ≡ Ok below → has_task every ≡ false → PlacedAt V such test (every ++ words ∷ []) below
unfolding headed head opening is_task
head_placed V such test every n [] below e none = absurd (cc)
head_placed V such test every n (a ∷ []) below e none = absurd (cc)
head_placed V such test every n (a ∷ b ∷ c ∷ more) below e none = absurd (cc)
head_placed V such test every n (word ∷ version ∷ []) below e none = go (bytes_eq word drt_word) refl (bytes_eq version (49 ∷ [])) (bytes_eq version (50 ∷ [])) e
  where
    known : bytes_eq word drt_word ≡ true → is_task (word ∷ version ∷ []) ≡ false
    known isd = ap (λ w. bytes_eq w task_word) ((bytes_eq-Decides word drt_word).0 isd)

    go : (d : Bool) → bytes_eq word drt_word ≡ d → (o t : Bool)
        → headed n (cond d (cond o (Some (opening 1)) (cond t (Some (opening 2)) None)) None) ≡ Ok below → PlacedAt V such test (every ++ (word ∷ version ∷ []) ∷ []) below
    go true isd true t h =
        let same : Some (opening 1) ≡ below = cc in
        subst (PlacedAt V such test (every ++ (word ∷ version ∷ []) ∷ [])) same (λ v. (refl, no_task_more every (word ∷ version ∷ []) none (known isd)))
    go true isd false true h =
        let same : Some (opening 2) ≡ below = cc in
        subst (PlacedAt V such test (every ++ (word ∷ version ∷ []) ∷ [])) same (λ v. (refl, no_task_more every (word ∷ version ∷ []) none (known isd)))
    go true isd false false h = absurd (cc)
    go false isd o t h = absurd (cc)

line_placed : (V : ℕ → Type 0) (such : Fields → Bool) (test : Draft → Bool) → Tells V such test
    → (every : List Fields) (n : ℕ) (above : Option State) (line : List ℕ) (words : Fields) (below : Option State)
    → line_step n above line words ≡ Ok below → n ≡ 1 + length every → PlacedAt V such test every above → PlacedAt V such test (every ++ words ∷ []) below
unfolding line_step judged
line_placed V such test tells every n None line words below e count p = head_placed V such test every n words below e p
line_placed V such test tells every n (Some s) line words below e count p = go (line_fault s line words) refl e
  where
    go : (o : Option ℕ) → line_fault s line words ≡ o → judged n o (after_kind (kind s.version (first_word words)) n s words) ≡ Ok below → PlacedAt V such test (every ++ words ∷ []) below
    go (Some code) at h = absurd (cc)
    go None at h =
        let q = line_passed s line words at in
        let k = kind s.version (first_word words) in
        let same : Some (after_kind k n s words) ≡ below = cc in
        subst (PlacedAt V such test (every ++ words ∷ [])) same
        (λ v. let w : V s.version = subst V (version_kept k n s words) v in kind_placed V such test tells every n s words k refl q.passes count w (p w))

skip_placed : (V : ℕ → Type 0) (such : Fields → Bool) (test : Draft → Bool) → Tells V such test → (every : List Fields) (above : Option State) (words : Fields) → is_skipped words ≡ true
    → PlacedAt V such test every above → PlacedAt V such test (every ++ words ∷ []) above
skip_placed V such test tells every None words e p = no_task_more every words p (is_no_task_skipped words e)
skip_placed V such test tells every (Some s) words e p = λ v. placed_other such test every s.closed s.current words (p v) (is_no_task_skipped words e) (tells.skipped words e)

pub steps_placed : (V : ℕ → Type 0) (such : Fields → Bool) (test : Draft → Bool) → Tells V such test → (ls : List (List ℕ)) (every : List Fields) (n m : ℕ) (above below : Option State)
    → steps n above ls ≡ Ok (m, below) → n ≡ 1 + length every → PlacedAt V such test every above
    → PlacedAt V such test (every ++ map fields ls) below × (m ≡ 1 + length (every ++ map fields ls))
unfolding steps step
steps_placed V such test tells [] every n m above below e count p =
    let both : (n, above) ≡ (m, below) = cc in
    let same : above ≡ below = ap (λ (x : ℕ × Option State). x.1) both in
    let last : n ≡ m = ap (λ (x : ℕ × Option State). x.0) both in
    rw (append-nil every) (subst (PlacedAt V such test every) same p, sym last ∙ count)
steps_placed V such test tells (line ∷ ls) every n m above below e count p =
    go (λ mid h q. steps_placed V such test tells ls (every ++ fields line ∷ []) (n + 1) m mid below h grown q) (is_skipped (fields line)) refl (line_step n above line (fields line)) refl e
  where
    grown : n + 1 ≡ 1 + length (every ++ fields line ∷ [])
    grown = let g : length (every ++ fields line ∷ []) ≡ length every + 1 = length-append every (fields line ∷ []) in omega (arith, g, count)

    all : (every ++ fields line ∷ []) ++ map fields ls ≡ every ++ map fields (line ∷ ls)
    all = append_assoc every (fields line ∷ []) (map fields ls)

    go : ((mid : Option State) → steps (n + 1) mid ls ≡ Ok (m, below) → PlacedAt V such test (every ++ fields line ∷ []) mid
        → PlacedAt V such test ((every ++ fields line ∷ []) ++ map fields ls) below × (m ≡ 1 + length ((every ++ fields line ∷ []) ++ map fields ls)))
        → (b : Bool) → is_skipped (fields line) ≡ b → (r : Result (Option State) FileFault) → line_step n above line (fields line) ≡ r
        → (cond b (Ok above) r >>= λ mid. steps (n + 1) mid ls) ≡ Ok (m, below)
        → PlacedAt V such test (every ++ map fields (line ∷ ls)) below × (m ≡ 1 + length (every ++ map fields (line ∷ ls)))
    go on true at r is h = subst (λ l. PlacedAt V such test l below × (m ≡ 1 + length l)) all (on above h (skip_placed V such test tells every above (fields line) at p))
    go on false at (Ok mid) is h = subst (λ l. PlacedAt V such test l below × (m ≡ 1 + length l)) all (on mid h (line_placed V such test tells every n above line (fields line) mid is count p))
    go on false at (Err f) is h = absurd (cc)
