-- What is known after lines without a fault, line by line.
use Rattle.std.proofs.Common.{◌≡◌, ℕ, ◌+◌, Bool, true, false, not, List, [], ◌∷◌, ◌++◌, map, Option, Some, None, Result, Ok, Err, refl, sym, ap, subst, ◌∙◌, append_assoc, arith, inl, inr, cond}
use Rattle.std.specs.Prelude.{bytes_eq, ◌==◌, filter, option_map, decimal}
use Rattle.std.specs.List.{list_all}
use Rattle.std.proofs.lemmas.Fmt.{decimal_digit}
use Rattle.std.proofs.lemmas.List.{append-nil}
use Rattle.std.proofs.lemmas.Slice.Eq.{bytes_eq-Decides}
use Rattle.drt_file.specs.declared.state.Draft.{Draft}
use Rattle.drt_file.specs.declared.state.State.{State}
use Rattle.drt_file.specs.declared.state.Kind.{Kind}
use Rattle.drt_file.specs.declared.state.Kind.TheVariants as kinds
use Rattle.drt_file.specs.declared.fault.FileFault.{FileFault}
use Rattle.drt_file.specs.trusted.Cutting.{fields}
use Rattle.drt_file.specs.trusted.Words.{drt_word, task_word, vertex_word, edge_word, priority_word, end_word}
use Rattle.drt_file.specs.trusted.Canonical.{end_line}
use Rattle.drt_file.specs.internal.Kinds.{kind, first_word}
use Rattle.drt_file.specs.trusted.Line.{is_text, is_skipped}
use Rattle.drt_file.specs.internal.StateFaults.{line_fault, kind_fault}
use Rattle.drt_file.specs.internal.Steps.{with_last, opening_priority, after_task, after_end, after_kind, with_vertex, with_edge, with_priority, on_current, opening, head, headed, judged, line_step, step, steps, ◌>>=◌, capped}
use Rattle.drt_file.proofs.Table.{task_passed, vertex_passed, edge_passed, priority_passed, end_passed}
use Rattle.drt_file.proofs.Kept.{Inside, Stands, vertex_of, vertex_goes, edge_goes, priority_goes}
use Rattle.drt_file.proofs.Opened.{task_goes}

-- What the lines above say, before and after `end`.
abbrev pub StandsAt : Bool → List (List (List ℕ)) → ℕ → List Draft → Option Draft → Type 0
StandsAt false ws version closed current = Stands ws version closed current
StandsAt true ws version closed current = (above : List (List (List ℕ))) × (ws ≡ above ++ end_line ∷ []) × Stands above version closed current

-- What the lines above say, which is nothing above the head.
abbrev pub Follows : List (List (List ℕ)) → Option State → Type 0
Follows ws None = ws ≡ []
Follows ws (Some s) = StandsAt s.ended ws s.version s.closed s.current

-- A line of each kind begins with its word.
pub task_kind : (version : ℕ) (word : List ℕ) → kind version word ≡ kinds.Task → word ≡ task_word
unfolding kind
task_kind version word e =
    let same : bytes_eq word task_word ≡ true = grind (arith, e) in
    (bytes_eq-Decides word task_word).0 same

pub vertex_kind : (version : ℕ) (word : List ℕ) → kind version word ≡ kinds.Vertex → word ≡ vertex_word
unfolding kind
vertex_kind version word e =
    let same : bytes_eq word vertex_word ≡ true = grind (arith, e) in
    (bytes_eq-Decides word vertex_word).0 same

pub edge_kind : (version : ℕ) (word : List ℕ) → kind version word ≡ kinds.Edge → word ≡ edge_word
unfolding kind
edge_kind version word e =
    let same : bytes_eq word edge_word ≡ true = grind (arith, e) in
    (bytes_eq-Decides word edge_word).0 same

pub priority_kind : (version : ℕ) (word : List ℕ) → kind version word ≡ kinds.Priority → (word ≡ priority_word) × (version ≡ 2)
unfolding kind
priority_kind version word e =
    let same : bytes_eq word priority_word ≡ true = grind (arith, e) in
    let two : (version == 2) ≡ true = grind (arith, e) in
    ((bytes_eq-Decides word priority_word).0 same, grind (arith, two))

pub end_kind : (version : ℕ) (word : List ℕ) → kind version word ≡ kinds.End → word ≡ end_word
unfolding kind
end_kind version word e =
    let same : bytes_eq word end_word ≡ true = grind (arith, e) in
    (bytes_eq-Decides word end_word).0 same

in_task : (ws : List (List (List ℕ))) (version : ℕ) (closed : List Draft) (o : Option Draft) (d : Draft) → o ≡ Some d → Stands ws version closed o → Inside ws version closed d
in_task ws version closed o d at stands = subst (λ (c : Option Draft). Stands ws version closed c) at stands

out_task : (ws : List (List (List ℕ))) (version : ℕ) (closed : List Draft) (change : Draft → Draft) (o : Option Draft) (d : Draft) → o ≡ Some d → Inside ws version closed (change d)
    → Stands ws version closed (option_map change o)
out_task ws version closed change o d at stands = subst (λ (c : Option Draft). Stands ws version closed (option_map change c)) (sym at) stands

-- A line without a fault below what isn't ended.
kind_after : (ws : List (List (List ℕ))) (n : ℕ) (s : State) (words : List (List ℕ)) (k : Kind) → kind s.version (first_word words) ≡ k → kind_fault k s words ≡ None → s.ended ≡ false
    → Stands ws s.version s.closed s.current → Follows (ws ++ words ∷ []) (Some (after_kind k n s words))
unfolding kind_fault after_kind after_task on_current after_end
kind_after ws n s words kinds.Task k e still stands =
    let p = task_passed s words e in
    let is = task_kind s.version p.word (ap (λ l. kind s.version (first_word l)) (sym p.words_are) ∙ k) in
    let goes : Stands (ws ++ words ∷ []) s.version (with_last s.closed s.current) (Some (record { name = p.name; line = n; priority = opening_priority s; vertices = []; edges = [] }))
    = task_goes ws n s words p is s.current refl stands in
    subst (λ l. Follows (ws ++ words ∷ []) (Some (after_kind kinds.Task n s l))) (sym p.words_are)
    (subst (λ b. StandsAt b (ws ++ words ∷ []) s.version (with_last s.closed s.current)
    (Some (record { name = p.name; line = n; priority = opening_priority s; vertices = []; edges = [] }))) (sym still) goes)
kind_after ws n s words kinds.Vertex k e still stands =
    let p = vertex_passed s words e in
    let is = vertex_kind s.version p.word (ap (λ l. kind s.version (first_word l)) (sym p.words_are) ∙ k) in
    let change = with_vertex (vertex_of p) in
    let goes = out_task (ws ++ words ∷ []) s.version s.closed change s.current p.draft p.in_a_task (vertex_goes ws s words p is (in_task ws s.version s.closed s.current p.draft p.in_a_task stands)) in
    subst (λ l. Follows (ws ++ words ∷ []) (Some (after_kind kinds.Vertex n s l))) (sym p.words_are)
    (subst (λ b. StandsAt b (ws ++ words ∷ []) s.version s.closed (option_map change s.current)) (sym still) goes)
kind_after ws n s words kinds.Edge k e still stands =
    let p = edge_passed s words e in
    let is = edge_kind s.version p.word (ap (λ l. kind s.version (first_word l)) (sym p.words_are) ∙ k) in
    let change = with_edge p.from p.to (capped p.sep) in
    let goes = out_task (ws ++ words ∷ []) s.version s.closed change s.current p.draft p.in_a_task (edge_goes ws s words p is (in_task ws s.version s.closed s.current p.draft p.in_a_task stands)) in
    subst (λ l. Follows (ws ++ words ∷ []) (Some (after_kind kinds.Edge n s l))) (sym p.words_are)
    (subst (λ b. StandsAt b (ws ++ words ∷ []) s.version s.closed (option_map change s.current)) (sym still) goes)
kind_after ws n s words kinds.Priority k e still stands =
    let p = priority_passed s words e in
    let is = priority_kind s.version p.word (ap (λ l. kind s.version (first_word l)) (sym p.words_are) ∙ k) in
    let change = with_priority (capped p.number) in
    let goes = out_task (ws ++ words ∷ []) s.version s.closed change s.current p.draft p.in_a_task
    (priority_goes ws s words p is.0 is.1 (in_task ws s.version s.closed s.current p.draft p.in_a_task stands)) in
    subst (λ l. Follows (ws ++ words ∷ []) (Some (after_kind kinds.Priority n s l))) (sym p.words_are)
    (subst (λ b. StandsAt b (ws ++ words ∷ []) s.version s.closed (option_map change s.current)) (sym still) goes)
kind_after ws n s words kinds.End k e still stands =
    let p = end_passed words e in
    let is = end_kind s.version p.0 (ap (λ l. kind s.version (first_word l)) (sym p.1) ∙ k) in
    (ws, ap (λ l. ws ++ l ∷ []) (p.1 ∙ ap (λ w. w ∷ []) is), stands)
kind_after ws n s words kinds.Other k e still stands = absurd (cc)

-- A line without a fault is text, and none stands below `end`.
pub record LinePassed (s : State) (line : List ℕ) (words : List (List ℕ)) : Type 0 where
  pub is_all_text : list_all is_text line ≡ true
  pub is_open : s.ended ≡ false
  pub passes : kind_fault (kind s.version (first_word words)) s words ≡ None

pub line_passed : (s : State) (line : List ℕ) (words : List (List ℕ)) → line_fault s line words ≡ None → LinePassed s line words
unfolding line_fault
line_passed s line words e = go (list_all is_text line) refl s.ended refl e
  where
    go : (t : Bool) → list_all is_text line ≡ t → (b : Bool) → s.ended ≡ b
        → cond (not t) (Some 2) (cond b (Some 19) (kind_fault (kind s.version (first_word words)) s words)) ≡ None → LinePassed s line words
    go true at false still h = record { is_all_text = at; is_open = still; passes = h }
    go true at true still h = absurd (cc)
    go false at b still h = absurd (cc)

one_is : 49 ∷ [] ≡ decimal 1
one_is = sym (decimal_digit 1 (omega arith))

two_is : 50 ∷ [] ≡ decimal 2
two_is = sym (decimal_digit 2 (omega arith))

head_follows : (n : ℕ) (words : List (List ℕ)) (below : Option State) → headed n (head words) ≡ Ok below → Follows (words ∷ []) below
unfolding headed head opening
head_follows n [] below e = absurd (cc)
head_follows n (a ∷ []) below e = absurd (cc)
head_follows n (a ∷ b ∷ c ∷ more) below e = absurd (cc)
head_follows n (word ∷ version ∷ []) below e = go (bytes_eq word drt_word) refl (bytes_eq version (49 ∷ [])) refl (bytes_eq version (50 ∷ [])) refl e
  where
    go : (d : Bool) → bytes_eq word drt_word ≡ d → (o : Bool) → bytes_eq version (49 ∷ []) ≡ o → (t : Bool) → bytes_eq version (50 ∷ []) ≡ t
        → headed n (cond d (cond o (Some (opening 1)) (cond t (Some (opening 2)) None)) None) ≡ Ok below → Follows ((word ∷ version ∷ []) ∷ []) below
    go true isd true iso t ist h =
        let w = (bytes_eq-Decides word drt_word).0 isd in
        let v = (bytes_eq-Decides version (49 ∷ [])).0 iso ∙ one_is in
        let same : Some (opening 1) ≡ below = cc in
        subst (Follows ((word ∷ version ∷ []) ∷ [])) same (refl, ap (λ x. (x ∷ version ∷ []) ∷ []) w ∙ ap (λ x. (drt_word ∷ x ∷ []) ∷ []) v, inl refl)
    go true isd false iso true ist h =
        let w = (bytes_eq-Decides word drt_word).0 isd in
        let v = (bytes_eq-Decides version (50 ∷ [])).0 ist ∙ two_is in
        let same : Some (opening 2) ≡ below = cc in
        subst (Follows ((word ∷ version ∷ []) ∷ [])) same (refl, ap (λ x. (x ∷ version ∷ []) ∷ []) w ∙ ap (λ x. (drt_word ∷ x ∷ []) ∷ []) v, inr refl)
    go true isd false iso false ist h = absurd (cc)
    go false isd o iso t ist h = absurd (cc)

pub line_follows : (ws : List (List (List ℕ))) (n : ℕ) (above : Option State) (line : List ℕ) (words : List (List ℕ)) (below : Option State)
    → line_step n above line words ≡ Ok below → Follows ws above
    → Follows (ws ++ words ∷ []) below
unfolding line_step judged
line_follows ws n None line words below e follows = rw follows (head_follows n words below e)
line_follows ws n (Some s) line words below e follows = go (line_fault s line words) refl e
  where
    go : (o : Option ℕ) → line_fault s line words ≡ o → judged n o (after_kind (kind s.version (first_word words)) n s words) ≡ Ok below → Follows (ws ++ words ∷ []) below
    go (Some code) at h = absurd (cc)
    go None at h =
        let p = line_passed s line words at in
        let same : Some (after_kind (kind s.version (first_word words)) n s words) ≡ below = cc in
        let stands : Stands ws s.version s.closed s.current = subst (λ b. StandsAt b ws s.version s.closed s.current) p.is_open follows in
        subst (Follows (ws ++ words ∷ [])) same (kind_after ws n s words (kind s.version (first_word words)) refl p.passes p.is_open stands)

-- Lines without a fault say what is known after them.
pub steps_follow : (ls : List (List ℕ)) (ws : List (List (List ℕ))) (n m : ℕ) (above below : Option State) → steps n above ls ≡ Ok (m, below) → Follows ws above
    → Follows (ws ++ filter (λ words. not (is_skipped words)) (map fields ls)) below
unfolding steps step
steps_follow [] ws n m above below e follows =
    let both : (n, above) ≡ (m, below) = cc in
    let same : above ≡ below = ap (λ (x : ℕ × Option State). x.1) both in
    rw (append-nil ws) (subst (Follows ws) same follows)
steps_follow (line ∷ ls) ws n m above below e follows =
    go (λ ws2 above2 on f. steps_follow ls ws2 (n + 1) m above2 below on f) (is_skipped (fields line)) refl (line_step n above line (fields line)) refl e
  where
    go : ((ws2 : List (List (List ℕ))) (above2 : Option State) → steps (n + 1) above2 ls ≡ Ok (m, below) → Follows ws2 above2
        → Follows (ws2 ++ filter (λ words. not (is_skipped words)) (map fields ls)) below)
        → (b : Bool) → is_skipped (fields line) ≡ b → (r : Result (Option State) FileFault) → line_step n above line (fields line) ≡ r
        → (cond b (Ok above) r >>= λ mid. steps (n + 1) mid ls) ≡ Ok (m, below)
        → Follows (ws ++ filter (λ words. not (is_skipped words)) (map fields (line ∷ ls))) below
    go on true at r is h = rw at (on ws above h follows)
    go on false at (Ok mid) is h =
        let e : ws ++ fields line ∷ filter (λ words. not (is_skipped words)) (map fields ls) ≡ (ws ++ fields line ∷ []) ++ filter (λ words. not (is_skipped words)) (map fields ls)
        = sym (append_assoc ws (fields line ∷ []) (filter (λ words. not (is_skipped words)) (map fields ls))) in
        rw at (rw e (on (ws ++ fields line ∷ []) mid h (line_follows ws n above line (fields line) mid is follows)))
    go on false at (Err f) is h = absurd (cc)
