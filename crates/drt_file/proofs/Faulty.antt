-- The first faulty line by the table of faults is the one at which the reader stops, with the same code.
use Rattle.std.proofs.Common.{◌≡◌, ◌⊎◌, ℕ, suc, ◌+◌, Bool, true, false, not, ◌&&◌, ◌||◌, List, [], ◌∷◌, ◌++◌, length, Option, Some, None, Result, Ok, Err, refl, sym, ap, subst, ◌∙◌, arith, cond, inl, inr}
use Rattle.std.specs.Prelude.{bytes_eq, ◌==◌}
use Rattle.std.specs.List.{list_any, list_all}
use Rattle.drt_file.specs.declared.state.Draft.{Draft}
use Rattle.drt_file.specs.declared.state.State.{State}
use Rattle.drt_file.specs.declared.state.Kind.{Kind}
use Rattle.drt_file.specs.declared.state.Kind.TheVariants as kinds
use Rattle.drt_file.specs.declared.fault.FileFault.{FileFault}
use Rattle.drt_file.specs.trusted.Cutting.{fields}
use Rattle.drt_file.specs.trusted.Words.{drt_word, task_word, vertex_word, edge_word, priority_word, end_word}
use Rattle.drt_file.specs.trusted.Canonical.{end_line}
use Rattle.drt_file.specs.trusted.Line.{is_text, is_skipped}
use Rattle.drt_file.specs.trusted.Faults.{Fields, is_end, is_first, has_end, is_no_head, is_no_text, table, is_of_tasks, is_tried, first_code, code_of, first_faulty}
use Rattle.drt_file.specs.internal.Kinds.{kind, first_word}
use Rattle.drt_file.specs.internal.StateFaults.{kind_fault, line_fault}
use Rattle.drt_file.specs.internal.Steps.{◌>>=◌, after_kind, head, headed, judged, line_step, step, steps, opening}
use Rattle.drt_file.proofs.Follows.{Follows, StandsAt, task_kind, vertex_kind, edge_kind, priority_kind, end_kind, line_follows}
use Rattle.drt_file.proofs.Kept.{Stands}
use Rattle.drt_file.proofs.LineCodes.{Open, Agrees, ShownOf, inside_of, open_at, task_agrees, vertex_agrees, edge_agrees, priority_agrees, end_agrees, other_agrees}
use Rattle.drt_file.proofs.LinesAbove.{any_push}
use Rattle.drt_file.proofs.Shown.{Shown, shown, shown_in}

shown_of : (ws : List Fields) (s : State) (c : Option Draft) → s.current ≡ c → Stands ws s.version s.closed s.current → ShownOf ws s c
shown_of ws s None at stands = tt
shown_of ws s (Some d) at stands = shown_in ws s.version s.closed d (subst (Stands ws s.version s.closed) at stands)

open_of : (ws : List Fields) (s : State) (line : List ℕ) (c : Option Draft) → s.current ≡ c → Shown ws s.version s.closed s.current → is_no_text line ≡ false → Open ws line (inside_of c)
open_of ws s line None at w text = open_at ws s line None (subst (Shown ws s.version s.closed) at w) text
open_of ws s line (Some d) at w text = open_at ws s line (Some d) (subst (Shown ws s.version s.closed) at w) text

-- A line of each kind above `end`.
kind_agrees : (ws : List Fields) (s : State) (line : List ℕ) (words : Fields) (k : Kind) → kind s.version (first_word words) ≡ k → Stands ws s.version s.closed s.current → is_no_text line ≡ false
    → Agrees ws s line words k
kind_agrees ws s line [] kinds.Task e stands text = let same : ◌≡◌ {A = List ℕ} [] task_word = task_kind s.version [] e in absurd (cc)
kind_agrees ws s line (word ∷ rest) kinds.Task e stands text =
    let w = shown ws s.version s.closed s.current stands in
    subst (λ x. Agrees ws s line (x ∷ rest) kinds.Task) (sym (task_kind s.version word e)) (task_agrees ws s line rest (inside_of s.current) (open_of ws s line s.current refl w text) w)
kind_agrees ws s line [] kinds.Vertex e stands text = let same : ◌≡◌ {A = List ℕ} [] vertex_word = vertex_kind s.version [] e in absurd (cc)
kind_agrees ws s line (word ∷ rest) kinds.Vertex e stands text =
    let w = shown ws s.version s.closed s.current stands in
    subst (λ x. Agrees ws s line (x ∷ rest) kinds.Vertex) (sym (vertex_kind s.version word e))
    (vertex_agrees ws s line rest s.current refl (open_of ws s line s.current refl w text) w.version_is (shown_of ws s s.current refl stands))
kind_agrees ws s line [] kinds.Edge e stands text = let same : ◌≡◌ {A = List ℕ} [] edge_word = edge_kind s.version [] e in absurd (cc)
kind_agrees ws s line (word ∷ rest) kinds.Edge e stands text =
    let w = shown ws s.version s.closed s.current stands in
    subst (λ x. Agrees ws s line (x ∷ rest) kinds.Edge) (sym (edge_kind s.version word e))
    (edge_agrees ws s line rest s.current refl (open_of ws s line s.current refl w text) (shown_of ws s s.current refl stands))
kind_agrees ws s line [] kinds.Priority e stands text = let same : ◌≡◌ {A = List ℕ} [] priority_word = (priority_kind s.version [] e).0 in absurd (cc)
kind_agrees ws s line (word ∷ rest) kinds.Priority e stands text =
    let w = shown ws s.version s.closed s.current stands in
    let p = priority_kind s.version word e in
    subst (λ x. Agrees ws s line (x ∷ rest) kinds.Priority) (sym p.0)
    (priority_agrees ws s line rest s.current refl (open_of ws s line s.current refl w text) w.version_is p.1 (shown_of ws s s.current refl stands))
kind_agrees ws s line [] kinds.End e stands text = let same : ◌≡◌ {A = List ℕ} [] end_word = end_kind s.version [] e in absurd (cc)
kind_agrees ws s line (word ∷ rest) kinds.End e stands text =
    let w = shown ws s.version s.closed s.current stands in
    subst (λ x. Agrees ws s line (x ∷ rest) kinds.End) (sym (end_kind s.version word e)) (end_agrees ws s line rest (inside_of s.current) (open_of ws s line s.current refl w text))
kind_agrees ws s line words kinds.Other e stands text =
    let w = shown ws s.version s.closed s.current stands in
    other_agrees ws s line words (inside_of s.current) e w.version_is (open_of ws s line s.current refl w text)

-- Codes 2 and 19.
odd : (ws : List Fields) (line : List ℕ) (words : Fields) → is_first ws ≡ false → is_no_text line ≡ true → first_code (is_tried ws) (table ws line words) ≡ Some 2
unfolding first_code is_tried table is_of_tasks is_no_head
odd ws line words later e = go (has_end ws) refl
  where
    go : (b : Bool) → has_end ws ≡ b → first_code (is_tried ws) (table ws line words) ≡ Some 2
    go true at = rw (later, at, e) refl
    go false at = rw (later, at, e) refl

late : (ws : List Fields) (line : List ℕ) (words : Fields) → is_first ws ≡ false → has_end ws ≡ true → is_no_text line ≡ false → first_code (is_tried ws) (table ws line words) ≡ Some 19
unfolding first_code is_tried table is_of_tasks
late ws line words later ended e = rw (later, ended, e) refl

pub longer_still : (above : List Fields) (x : Fields) → is_first (above ++ x ∷ []) ≡ false
unfolding is_first
longer_still [] x = refl
longer_still (y ∷ above) x = go (length (above ++ x ∷ []))
  where
    go : (n : ℕ) → (suc n == 0) ≡ false
    go n = grind arith

pub ended_at : (above : List Fields) → has_end (above ++ end_line ∷ []) ≡ true
unfolding has_end is_end
ended_at above = any_push is_end above end_line ∙ or_true (list_any is_end above)
  where
    or_true : (b : Bool) → (b || true) ≡ true
    or_true true = refl
    or_true false = refl

-- A line below the head.
code_same : (ws : List Fields) (s : State) (line : List ℕ) (words : Fields) → Follows ws (Some s) → first_code (is_tried ws) (table ws line words) ≡ line_fault s line words
unfolding line_fault is_no_text
code_same ws s line words follows = go (list_all is_text line) refl s.ended refl
  where
    below_end : (above : List Fields) → ws ≡ above ++ end_line ∷ [] → (is_first ws ≡ false) × (has_end ws ≡ true)
    below_end above e = (ap is_first e ∙ longer_still above end_line, ap has_end e ∙ ended_at above)

    later : (b : Bool) → StandsAt b ws s.version s.closed s.current → is_first ws ≡ false
    later false stands = (shown ws s.version s.closed s.current stands).later
    later true (above, are, stands) = (below_end above are).0

    ends : StandsAt true ws s.version s.closed s.current → has_end ws ≡ true
    ends (above, are, stands) = (below_end above are).1

    go : (t : Bool) → list_all is_text line ≡ t → (b : Bool) → s.ended ≡ b
        → first_code (is_tried ws) (table ws line words) ≡ cond (not t) (Some 2) (cond b (Some 19) (kind_fault (kind s.version (first_word words)) s words))
    go false at b still = odd ws line words (later s.ended follows) (ap not at)
    go true at true still = late ws line words (later s.ended follows) (ends (subst (λ c. StandsAt c ws s.version s.closed s.current) still follows)) (ap not at)
    go true at false still =
        kind_agrees ws s line words (kind s.version (first_word words)) refl (subst (λ c. StandsAt c ws s.version s.closed s.current) still follows) (ap not at)

-- The first line.
head_code : (line : List ℕ) (words : Fields) → first_code (is_tried []) (table [] line words) ≡ cond (is_no_head [] words) (Some 1) None
unfolding first_code is_tried table is_first
head_code line words = refl

abbrev told_head : Option State → Option ℕ
told_head None = Some 1
told_head (Some s) = None

head_same : (words : Fields) → cond (is_no_head [] words) (Some 1) None ≡ told_head (head words)
unfolding is_no_head is_first head
head_same [] = refl
head_same (word ∷ []) = refl
head_same (word ∷ version ∷ more ∷ rest) = rw (go (length rest)) refl
  where
    go : (n : ℕ) → (suc (suc (suc n)) == 2) ≡ false
    go n = grind arith
head_same (word ∷ version ∷ []) = go (bytes_eq word drt_word) (bytes_eq version (49 ∷ [])) (bytes_eq version (50 ∷ []))
  where
    go : (d o t : Bool) → cond (not (d && (o || t))) (Some 1) None ≡ told_head (cond d (cond o (Some (opening 1)) (cond t (Some (opening 2)) None)) None)
    go true true t = refl
    go true false true = refl
    go true false false = refl
    go false o t = refl

-- What a reading tells: its fault, if any.
abbrev pub told : {A : Type 0} → Result A FileFault → Option (ℕ × ℕ)
told (Ok x) = None
told (Err f) = Some (f.line, f.code)

-- A line that isn't skipped has a code where the reader stops at it, and the same.
abbrev Same : ℕ → Option ℕ → Result (Option State) FileFault → Type 0
Same n code r = ((c : ℕ) × (code ≡ Some c) × (r ≡ Err (record { line = n; code = c }))) ⊎ ((below : Option State) × (code ≡ None) × (r ≡ Ok below))

headed_same : (n : ℕ) (o : Option State) → Same n (told_head o) (headed n o)
unfolding headed
headed_same n None = inl (1, refl, refl)
headed_same n (Some s) = inr (Some s, refl, refl)

judged_same : (n : ℕ) (o : Option ℕ) (s : State) → Same n o (judged n o s)
unfolding judged
judged_same n None s = inr (Some s, refl, refl)
judged_same n (Some c) s = inl (c, refl, refl)

line_same : (n : ℕ) (ws : List Fields) (above : Option State) (line : List ℕ) → Follows ws above → Same n (code_of ws line) (line_step n above line (fields line))
unfolding code_of line_step
line_same n ws None line follows =
    let e : first_code (is_tried ws) (table ws line (fields line)) ≡ told_head (head (fields line))
    = ap (λ l. first_code (is_tried l) (table l line (fields line))) follows ∙ head_code line (fields line) ∙ head_same (fields line) in
    subst (λ c. Same n c (headed n (head (fields line)))) (sym e) (headed_same n (head (fields line)))
line_same n ws (Some s) line follows =
    subst (λ c. Same n c (line_step n (Some s) line (fields line))) (sym (code_same ws s line (fields line) follows))
    (judged_same n (line_fault s line (fields line)) (after_kind (kind s.version (first_word (fields line))) n s (fields line)))

pub lines_same : (ls : List (List ℕ)) (n : ℕ) (ws : List Fields) (above : Option State) → Follows ws above → first_faulty n ws ls ≡ told (steps n above ls)
unfolding first_faulty steps step
lines_same [] n ws above follows = refl
lines_same (line ∷ ls) n ws above follows =
    go (is_skipped (fields line)) (lines_same ls (n + 1) ws above follows) (λ mid f. lines_same ls (n + 1) (ws ++ fields line ∷ []) mid f) (code_of ws line) (line_step n above line (fields line)) refl
    (line_same n ws above line follows)
  where
    go : (b : Bool) → first_faulty (n + 1) ws ls ≡ told (steps (n + 1) above ls)
        → ((mid : Option State) → Follows (ws ++ fields line ∷ []) mid → first_faulty (n + 1) (ws ++ fields line ∷ []) ls ≡ told (steps (n + 1) mid ls))
        → (c : Option ℕ) (r : Result (Option State) FileFault) → line_step n above line (fields line) ≡ r → Same n c r
        → cond b (first_faulty (n + 1) ws ls) (elim c [ Some code ↦ Some (n, code) | None ↦ first_faulty (n + 1) (ws ++ fields line ∷ []) ls ])
        ≡ told (cond b (Ok above) r >>= λ below. steps (n + 1) below ls)
    go true skip on c r at same = skip
    go false skip on c r at (inl (code, isc, isr)) = rw (isc, isr) refl
    go false skip on c r at (inr (mid, isc, isr)) = rw (isc, isr) (on mid (line_follows ws n above line (fields line) mid (at ∙ isr) follows))
