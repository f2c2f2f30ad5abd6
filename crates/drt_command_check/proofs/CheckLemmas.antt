-- A dossier has one judgement or one fault.
use Rattle.std.proofs.Common.{◌≡◌, ℕ, ◌<◌, ◌≤◌, ◌⊎◌, List, length, inl, inr, refl, sym, ap, ◌∙◌, subst, arith}
use Rattle.std.proofs.lemmas.Bool.{cases_lt}
use Rattle.drt_model.specs.Numbers.{most_text}
use Rattle.drt_evidence.specs.Reading.{HasDossierFault, IsCode, IsDossierText}
use Rattle.drt_claims.specs.Statement.{Statement}
use Rattle.drt_check.specs.Judging.{IsStatementJudged, IsSoundJudgement}
use Rattle.drt_check.specs.Laws.{JudgedOnce}
use Rattle.drt_check.proofs.Judged.{judged_once}
use Rattle.drt_check.specs.declared.judgement.Judgement.{Judgement}
use Rattle.drt_check.specs.declared.judgement.Judgement.TheVariants as judgements
use Rattle.drt_command_check.specs.Check.{CheckEnds, Checks, IsDossierFault, judged_status}
use Rattle.drt_command.specs.declared.report.Report.{Report}
use Rattle.drt_outcome.specs.Stops.{fault_status}
use Rattle.drt_outcome.specs.declared.fault.Fault.{Fault}
use Rattle.drt_outcome.specs.declared.fault.Fault.TheVariants.{Nothing, File, Edge, Limit, Probe, Rule, Dossier}

-- A fault has one line.
line_one : (bytes : List ℕ) (l m c d : ℕ) → HasDossierFault bytes l c → HasDossierFault bytes m d → l ≡ m
line_one bytes l m c d h k = go (cases_lt l m) (cases_lt m l)
  where
    go : (l < m) ⊎ (m ≤ l) → (m < l) ⊎ (l ≤ m) → l ≡ m
    go (inl lt) other = absurd (k.least l lt h.here)
    go (inr le) (inl lt) = absurd (h.least m lt k.here)
    go (inr le) (inr ge) = omega (arith, le, ge)

-- And one code.
code_one : (bytes : List ℕ) (l c d : ℕ) → IsCode bytes l c → IsCode bytes l d → c ≡ d
code_one bytes l c d (inl h) (inl k) = h.0 ∙ sym k.0
code_one bytes l c d (inl h) (inr (inl k)) = absurd (k.2 h.1)
code_one bytes l c d (inl h) (inr (inr k)) = absurd (k.2 h.1)
code_one bytes l c d (inr (inl h)) (inl k) = absurd (h.2 k.1)
code_one bytes l c d (inr (inl h)) (inr (inl k)) = h.0 ∙ sym k.0
code_one bytes l c d (inr (inl h)) (inr (inr k)) = absurd (omega (arith, h.1, k.1))
code_one bytes l c d (inr (inr h)) (inl k) = absurd (h.2 k.1)
code_one bytes l c d (inr (inr h)) (inr (inl k)) = absurd (omega (arith, h.1, k.1))
code_one bytes l c d (inr (inr h)) (inr (inr k)) = h.0 ∙ sym k.0

text_fault_one : (bytes : List ℕ) (l m c d : ℕ) → HasDossierFault bytes l c → HasDossierFault bytes m d → Dossier l c ≡ Dossier m d
text_fault_one bytes l m c d h k =
    let e = line_one bytes l m c d h k in
    let code = code_one bytes m c d (subst (λ n. IsCode bytes n c) e h.is_code) k.is_code in
    ap (λ n. Dossier n c) e ∙ ap (Dossier m) code

-- A dossier has one fault.
pub dossier_fault_one : (bytes : List ℕ) (f g : Fault) → IsDossierFault bytes f → IsDossierFault bytes g → f ≡ g
dossier_fault_one bytes Nothing g h k = absurd h
dossier_fault_one bytes (File l c) g h k = absurd h
dossier_fault_one bytes (Edge t e p) g h k = absurd h
dossier_fault_one bytes (Limit c) g h k = absurd h
dossier_fault_one bytes (Probe n c) g h k = absurd h
dossier_fault_one bytes (Rule m) Nothing h k = absurd k
dossier_fault_one bytes (Rule m) (File l c) h k = absurd k
dossier_fault_one bytes (Rule m) (Edge t e p) h k = absurd k
dossier_fault_one bytes (Rule m) (Limit c) h k = absurd k
dossier_fault_one bytes (Rule m) (Probe n c) h k = absurd k
dossier_fault_one bytes (Rule m) (Rule n) h k =
    let e = k.dossier.only h.statement h.dossier.is in
    let same = judged_once k.statement (judgements.Rejected m) (judgements.Rejected n) (subst (λ s. IsStatementJudged s (judgements.Rejected m)) e h.judged) k.judged in
    ap Rule (let number : m ≡ n = cc in number)
dossier_fault_one bytes (Rule m) (Dossier l c) h (inl big) = absurd (omega (arith, big.0, h.dossier.small))
dossier_fault_one bytes (Rule m) (Dossier l c) h (inr lacks) = absurd (lacks.none h.statement h.dossier.is)
dossier_fault_one bytes (Dossier l c) Nothing h k = absurd k
dossier_fault_one bytes (Dossier l c) (File m d) h k = absurd k
dossier_fault_one bytes (Dossier l c) (Edge t e p) h k = absurd k
dossier_fault_one bytes (Dossier l c) (Limit d) h k = absurd k
dossier_fault_one bytes (Dossier l c) (Probe n d) h k = absurd k
dossier_fault_one bytes (Dossier l c) (Rule n) (inl big) k = absurd (omega (arith, big.0, k.dossier.small))
dossier_fault_one bytes (Dossier l c) (Rule n) (inr lacks) k = absurd (lacks.none k.statement k.dossier.is)
dossier_fault_one bytes (Dossier l c) (Dossier m d) (inl big) (inl more) = ap (λ n. Dossier n c) (big.1 ∙ sym more.1) ∙ ap (Dossier m) (big.2 ∙ sym more.2)
dossier_fault_one bytes (Dossier l c) (Dossier m d) (inl big) (inr lacks) = absurd (omega (arith, big.0, lacks.small))
dossier_fault_one bytes (Dossier l c) (Dossier m d) (inr lacks) (inl big) = absurd (omega (arith, big.0, lacks.small))
dossier_fault_one bytes (Dossier l c) (Dossier m d) (inr h) (inr k) = text_fault_one bytes l m c d h.fault k.fault

-- Judged evidence that isn't rejected is rejected with no number.
not_rejected : JudgedOnce → (s : Statement) (j : Judgement) (n : ℕ) → IsStatementJudged s j → judged_status j < 4 → IsStatementJudged s (judgements.Rejected n) → ⊥
not_rejected law s j n is low rejects =
    let same : j ≡ judgements.Rejected n = law s j (judgements.Rejected n) is rejects in
    let l : 9 < 4 = subst (λ k. judged_status k < 4) same low in
    omega (arith, l)

-- A dossier that is judged has no fault.
pub judged_well : JudgedOnce → (bytes : List ℕ) (made : Report) (f : Fault) → Checks bytes made → IsDossierFault bytes f → ⊥
judged_well law bytes made Nothing m h = h
judged_well law bytes made (File l c) m h = h
judged_well law bytes made (Edge t e p) m h = h
judged_well law bytes made (Limit c) m h = h
judged_well law bytes made (Probe n c) m h = h
judged_well law bytes made (Rule n) m h =
    let e = m.of.dossier.only h.statement h.dossier.is in
    not_rejected law m.of.statement m.judgement n m.of.judged (omega (arith, m.status_is, m.not_rejected)) (subst (λ s. IsStatementJudged s (judgements.Rejected n)) e h.judged)
judged_well law bytes made (Dossier l c) m (inl big) = omega (arith, big.0, m.of.dossier.small)
judged_well law bytes made (Dossier l c) m (inr lacks) = lacks.none m.of.statement m.of.dossier.is

-- It has the status of its judgement.
pub judged_ends : (bytes : List ℕ) (made : Report) → Checks bytes made → (s : Statement) → IsDossierText s bytes → CheckEnds s made.status
judged_ends bytes made m s is =
    let e = sym (m.of.dossier.only s is) in
    (m.judgement, subst (λ t. IsStatementJudged t m.judgement) e m.of.judged, subst (λ t. IsSoundJudgement t m.judgement) e m.of.sound, m.status_is)

-- So has one that is rejected.
pub rejected_ends : (bytes : List ℕ) (f : Fault) → IsDossierFault bytes f → (s : Statement) → IsDossierText s bytes → length bytes ≤ most_text → CheckEnds s (fault_status f)
rejected_ends bytes Nothing h s is small = absurd h
rejected_ends bytes (File l c) h s is small = absurd h
rejected_ends bytes (Edge t e p) h s is small = absurd h
rejected_ends bytes (Limit c) h s is small = absurd h
rejected_ends bytes (Probe n c) h s is small = absurd h
rejected_ends bytes (Rule n) h s is small =
    let e = sym (h.dossier.only s is) in
    (judgements.Rejected n, subst (λ t. IsStatementJudged t (judgements.Rejected n)) e h.judged, tt, refl)
rejected_ends bytes (Dossier l c) (inl big) s is small = absurd (omega (arith, big.0, small))
rejected_ends bytes (Dossier l c) (inr lacks) s is small = absurd (lacks.none s is)
