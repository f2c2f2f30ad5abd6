-- A statement has one judgement, and what each kind of judgement says.
use Rattle.std.proofs.Common.{◌≡◌, ℕ, ◌<◌, ◌≤◌, ◌⊎◌, inl, inr, sym, ap, ◌∙◌, subst, refl, arith}
use Rattle.std.specs.Prelude.{◌↔◌, Some}
use Rattle.std.proofs.lemmas.Bool.{cases_lt}
use Rattle.drt_claims.specs.Rules.{Accepts, Rejects, number_of}
use Rattle.drt_claims.specs.Statement.{Statement}
use Rattle.drt_claims.specs.declared.evidence.Evidence.TheVariants.{Undecided}
use Rattle.drt_claims.specs.declared.rule.Rule.{Rule}
use Rattle.drt_check.specs.Judging.{claimed, IsAcceptance, IsStatementJudged}
use Rattle.drt_check.specs.Deciding.{IsRuleDecided}
use Rattle.drt_check.specs.Laws.{JudgedOnce}
use Rattle.drt_check.specs.declared.judgement.Judgement.{Judgement}
use Rattle.drt_check.specs.declared.judgement.Judgement.TheVariants.{NothingToCheck, Rejected, Schedulable, Unschedulable, UtilisationOne}

-- Accepted evidence isn't rejected.
not_both : (s : Statement) (n : ℕ) → Accepts s → Rejects s n → ⊥
not_both s n accepts rejects = rejects.broken (accepts.keeps rejects.rule rejects.applies)

-- It isn't rejected with two numbers.
no_less : (s : Statement) (m n : ℕ) → Rejects s m → Rejects s n → m < n → ⊥
no_less s m n p q l = p.broken (q.least p.rule p.applies (subst (λ k. k < n) p.number_is l))

pub number_one : (s : Statement) (m n : ℕ) → Rejects s m → Rejects s n → m ≡ n
number_one s m n p q = go (cases_lt m n) (cases_lt n m)
  where
    go : (m < n) ⊎ (n ≤ m) → (n < m) ⊎ (m ≤ n) → m ≡ n
    go (inl l) other = absurd (no_less s m n p q l)
    go (inr l) (inl k) = absurd (no_less s n m q p k)
    go (inr l) (inr k) = omega arith

-- The first rule that isn't kept rejects the statement.
pub rejected_by : (s : Statement) → ¬ (s.evidence ≡ Undecided) → (rule : Rule) → IsRuleDecided s (Some rule) → Rejects s (number_of rule)
rejected_by s claims rule is = record { claims = claims; rule = rule; number_is = refl; applies = is.0.applies; broken = is.1; least = is.0.before }

-- The kinds of judgement.
pub data Standing (s : Statement) (j : Judgement) : Type 0 where
  nothing : s.evidence ≡ Undecided → j ≡ NothingToCheck → Standing s j
  accepted : Accepts s → j ≡ claimed s.evidence → IsAcceptance j → Standing s j
  rejected : (n : ℕ) → Rejects s n → j ≡ Rejected n → Standing s j

standing : (s : Statement) (j : Judgement) → IsStatementJudged s j → Standing s j
standing s Schedulable is = accepted is.0 (sym is.1) tt
standing s Unschedulable is = accepted is.0 (sym is.1) tt
standing s UtilisationOne is = accepted is.0 (sym is.1) tt
standing s NothingToCheck is = nothing is refl
standing s (Rejected n) is = rejected n is refl

pub judged_once : JudgedOnce
judged_once s j k p q = go (standing s j p) (standing s k q)
  where
    go : Standing s j → Standing s k → j ≡ k
    go (nothing u e) (nothing v f) = e ∙ sym f
    go (nothing u e) (accepted a f i) = absurd (a.claims u)
    go (nothing u e) (rejected n r f) = absurd (r.claims u)
    go (accepted a e i) (nothing v f) = absurd (a.claims v)
    go (accepted a e i) (accepted b f h) = e ∙ sym f
    go (accepted a e i) (rejected n r f) = absurd (not_both s n a r)
    go (rejected n r e) (nothing v f) = absurd (r.claims v)
    go (rejected n r e) (accepted a f i) = absurd (not_both s n a r)
    go (rejected m p e) (rejected n q f) = e ∙ ap Rejected (number_one s m n p q) ∙ sym f

-- The judgement is that of accepted evidence exactly where the statement is accepted.
pub acceptance : (s : Statement) (j : Judgement) → IsStatementJudged s j → IsAcceptance j ↔ Accepts s
acceptance s j p = go (standing s j p)
  where
    none : (j : Judgement) → j ≡ NothingToCheck → IsAcceptance j → ⊥
    none j e a = rw e at a

    not : (j : Judgement) (n : ℕ) → j ≡ Rejected n → IsAcceptance j → ⊥
    not j n e a = rw e at a

    go : Standing s j → IsAcceptance j ↔ Accepts s
    go (nothing u e) = (λ a. absurd (none j e a), λ a. absurd (a.claims u))
    go (accepted a e i) = (λ b. a, λ b. i)
    go (rejected n r e) = (λ a. absurd (not j n e a), λ a. absurd (not_both s n a r))

-- It rejects with a number exactly where the statement is rejected with that number.
pub rejection : (s : Statement) (j : Judgement) → IsStatementJudged s j → (n : ℕ) → (j ≡ Rejected n) ↔ Rejects s n
rejection s j p n = (λ e. subst (λ k. IsStatementJudged s k) e p, λ r. judged_once s j (Rejected n) p r)
