-- Bytes that are the text of a dossier, and bytes that stop being one, each with its line and its code.
use Rattle.std.proofs.Common.{◌≡◌, ℕ, zero, suc, ◌<◌, inl, inr, List, [], ◌∷◌, ◌++◌, get_or, codes, refl, ap, ◌∙◌, lit<, lit≤, arith}
use Rattle.std.specs.Fmt.{digits}
use Rattle.drt_model.specs.declared.jobs.Policy.TheVariants.{Edf}
use Rattle.drt_file.specs.trusted.Canonical.{written_line, name_at, priority_lines, lines_of_body, task_lines, set_lines, canonical}
use Rattle.drt_file.specs.trusted.CanonicalPrefix.{line_count, first_lines}
use Rattle.drt_evidence.specs.Reading.{IsDossierText, IsDossierPrefix, HoldsDossier, IsDossierFaultyBy, HasDossierFault}
use Rattle.drt_claims.specs.Statement.{Statement}
use Rattle.drt_evidence.specs.Text.{text}
use Rattle.drt_claims.specs.declared.evidence.Evidence.TheVariants.{Undecided}
use Rattle.drt_rows.proofs.Sets.{short}
use Rattle.drt_rows.proofs.SetRows.{short_is_set}

-- One vertex (2, 5) with a loop of 5, of which nothing is decided.
abbrev pub undecided : Statement
undecided = record { policy = Edf; set = record { version = 1; tasks = short ∷ [] }; evidence = Undecided }

abbrev pub undecided_bytes : List ℕ
undecided_bytes = codes "drt-dossier 1\npolicy edf\ndrt 1\ntask T\nvertex a 2 5\nedge a a 5\nend\nevidence undecided\nclose\n"

pub undecided_is_text : IsDossierText undecided undecided_bytes
unfolding text digits written_line name_at priority_lines lines_of_body task_lines set_lines canonical
undecided_is_text = record { stated = (short_is_set, tt); is = refl }

-- Each dossier begins with a `d`.
begins : (s : Statement) (rest : List ℕ) → get_or (text s ++ rest) 0 0 ≡ 100
unfolding text written_line
begins s rest = refl

held_begins : (bytes : List ℕ) → HoldsDossier bytes → get_or bytes 0 0 ≡ 100
held_begins bytes h = ap (λ l. get_or l 0 0) (h.4 ∙ ap (λ front. front ++ h.2) h.3.is) ∙ begins h.0 h.2

-- No byte is a prefix of a text.
none_is_prefix : IsDossierPrefix []
none_is_prefix = (undecided, undecided_bytes, undecided_is_text)

-- No text begins with `x`.
x_is_no_prefix : ¬ IsDossierPrefix (120 ∷ 10 ∷ [])
unfolding text written_line
x_is_no_prefix p = let e : 120 ≡ 100 = ap (λ l. get_or l 0 0) p.2.is in absurd (omega (arith, e))

x_holds_none : ¬ HoldsDossier (120 ∷ 10 ∷ [])
x_holds_none h = let e : 120 ≡ 100 = held_begins (120 ∷ 10 ∷ []) h in absurd (omega (arith, e))

-- A first line `x` can't stand there: line 1, code 1.
pub x_has_fault : HasDossierFault (codes "x\n") 1 1
unfolding line_count first_lines
x_has_fault = record { here = inr x_is_no_prefix; least = least; is_code = inr (inr (refl, lit≤ tt, x_holds_none)) }
  where
    least : (n : ℕ) → n < 1 → ¬ IsDossierFaultyBy (120 ∷ 10 ∷ []) n
    least zero l (inl few) = absurd (omega (arith, few.0))
    least zero l (inr broken) = broken none_is_prefix
    least (suc n) l b = absurd (omega arith)

empty_holds_none : ¬ HoldsDossier []
empty_holds_none h = let e : 0 ≡ 100 = held_begins [] h in absurd (omega (arith, e))

-- Of no bytes the first line is missing: line 1, code 2.
pub empty_has_fault : HasDossierFault [] 1 2
unfolding line_count first_lines
empty_has_fault = record { here = inl (lit< tt, empty_holds_none); least = least; is_code = inr (inl (refl, lit< tt, empty_holds_none)) }
  where
    least : (n : ℕ) → n < 1 → ¬ IsDossierFaultyBy [] n
    least zero l (inl few) = absurd (omega (arith, few.0))
    least zero l (inr broken) = broken none_is_prefix
    least (suc n) l b = absurd (omega arith)
