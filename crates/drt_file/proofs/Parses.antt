-- A line that says something leaves what its kind leaves, and its names are new.
use Rattle.std.proofs.Common.{◌≡◌, ℕ, Bool, false, ◌||◌, List, Option, Some, None, Result, Ok, Err, refl, sym, ap, subst, ◌∙◌}
use Rattle.std.specs.Prelude.{bytes_eq}
use Rattle.std.specs.List.{list_any}
use Rattle.drt_file.specs.declared.state.Draft.{Draft}
use Rattle.drt_file.specs.declared.state.State.{State}
use Rattle.drt_file.specs.declared.state.Kind.{Kind}
use Rattle.drt_file.specs.declared.state.Kind.TheVariants as kinds
use Rattle.drt_file.specs.declared.state.Line.{Line}
use Rattle.drt_file.specs.declared.fault.FileFault.{FileFault}
use Rattle.drt_file.specs.declared.fault.FileError.{FileError}
use Rattle.drt_file.specs.declared.fault.FileError.TheVariants as errors
use Rattle.drt_file.specs.internal.Kinds.{kind, first_word}
use Rattle.drt_file.specs.internal.Parsed.{read_as, said_by, parsed, after_line, IsNew}
use Rattle.drt_file.specs.internal.StateFaults.{has_vertex, in_task, in_some_task, is_outside, kind_fault, line_fault}
use Rattle.drt_file.specs.internal.Steps.{Fails, capped, after_kind, judged}
use Rattle.drt_file.proofs.Follows.{line_passed}
use Rattle.drt_file.proofs.NamesAbove.{ends_by_place, own_of}
use Rattle.drt_file.proofs.Table.{task_passed, vertex_passed, edge_passed, priority_passed, end_passed}

same_after : (k : Kind) (n : ℕ) (s : State) (words : List (List ℕ)) → kind_fault k s words ≡ None → after_line n s (said_by k s words) ≡ after_kind k n s words
unfolding kind_fault after_kind after_line said_by
same_after kinds.Task n s words e =
    let p = task_passed s words e in
    subst (λ l. after_line n s (said_by kinds.Task s l) ≡ after_kind kinds.Task n s l) (sym p.words_are) refl
same_after kinds.Vertex n s words e =
    let p = vertex_passed s words e in
    subst (λ l. after_line n s (said_by kinds.Vertex s l) ≡ after_kind kinds.Vertex n s l) (sym p.words_are) refl
same_after kinds.Edge n s words e =
    let p = edge_passed s words e in
    subst (λ l. after_line n s (said_by kinds.Edge s l) ≡ after_kind kinds.Edge n s l) (sym p.words_are) (ends_by_place p.from p.to (capped p.sep) s)
same_after kinds.Priority n s words e =
    let p = priority_passed s words e in
    subst (λ l. after_line n s (said_by kinds.Priority s l) ≡ after_kind kinds.Priority n s l) (sym p.words_are) refl
same_after kinds.End n s words e =
    let p = end_passed words e in
    subst (λ l. after_line n s (said_by kinds.End s l) ≡ after_kind kinds.End n s l) (sym p.1) refl
same_after kinds.Other n s words e = absurd (cc)

either : (a b : Bool) → a ≡ false → b ≡ false → (a || b) ≡ false
either a b p q = rw p q

outside_not : (s : State) (d : Draft) → s.current ≡ Some d → is_outside s ≡ false
unfolding is_outside
outside_not s d at = rw at refl

new_said : (k : Kind) (s : State) (words : List (List ℕ)) → kind_fault k s words ≡ None → IsNew s (said_by k s words)
unfolding kind_fault said_by IsNew in_some_task
new_said kinds.Task s words e =
    let p = task_passed s words e in
    subst (λ l. IsNew s (said_by kinds.Task s l)) (sym p.words_are)
    (either (list_any (λ d. bytes_eq d.name p.name) s.closed) (in_task (λ d. bytes_eq d.name p.name) s) p.new_above p.new_here)
new_said kinds.Vertex s words e =
    let p = vertex_passed s words e in
    subst (λ l. IsNew s (said_by kinds.Vertex s l)) (sym p.words_are)
    (outside_not s p.draft p.in_a_task, ap (has_vertex p.name) (own_of s p.draft p.in_a_task) ∙ p.new_name)
new_said kinds.Edge s words e = let p = edge_passed s words e in subst (λ l. IsNew s (said_by kinds.Edge s l)) (sym p.words_are) tt
new_said kinds.Priority s words e = let p = priority_passed s words e in subst (λ l. IsNew s (said_by kinds.Priority s l)) (sym p.words_are) tt
new_said kinds.End s words e = let p = end_passed words e in subst (λ l. IsNew s (said_by kinds.End s l)) (sym p.1) tt
new_said kinds.Other s words e = absurd (cc)

-- A fault is the fault of the line.
pub stops : (n : ℕ) (s : State) (line : List ℕ) (words : List (List ℕ)) (after : State) (e : FileError) → Fails e (parsed n s line words) → Fails e (judged n (line_fault s line words) after)
unfolding parsed read_as judged
stops n s line words after errors.Memory h = tt
stops n s line words after (errors.Fault f) h = go (line_fault s line words) h
  where
    go : (o : Option ℕ) → ◌≡◌ {A = Result Line FileFault} (read_as n o (said_by (kind s.version (first_word words)) s words)) (Err f)
        → ◌≡◌ {A = Result (Option State) FileFault} (judged n o after) (Err f)
    go None e = absurd (cc)
    go (Some code) e = let same : record { line = n; code = code } ≡ f = cc in ap (λ (x : FileFault). Err x) same

-- What a line says without a fault.
pub record Said (n : ℕ) (s : State) (line : List ℕ) (words : List (List ℕ)) (said : Line) : Type 0 where
  pub leaves : judged n (line_fault s line words) (after_kind (kind s.version (first_word words)) n s words) ≡ Ok (Some (after_line n s said))
  pub new : IsNew s said

pub goes : (n : ℕ) (s : State) (line : List ℕ) (words : List (List ℕ)) (said : Line) → parsed n s line words ≡ Ok said → Said n s line words said
unfolding parsed read_as judged
goes n s line words said e = go (line_fault s line words) refl e
  where
    go : (o : Option ℕ) → line_fault s line words ≡ o → ◌≡◌ {A = Result Line FileFault} (read_as n o (said_by (kind s.version (first_word words)) s words)) (Ok said) → Said n s line words said
    go (Some code) at h = absurd (cc)
    go None at h =
        let k = kind s.version (first_word words) in
        let p = line_passed s line words at in
        let same : said_by k s words ≡ said = cc in
        record {
          leaves = ap (λ o. judged n o (after_kind k n s words)) at ∙ ap (λ (t : State). Ok (Some t)) (sym (same_after k n s words p.passes) ∙ ap (after_line n s) same);
          new = subst (IsNew s) same (new_said k s words p.passes);
        }
